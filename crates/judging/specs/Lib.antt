-- What the contracts of judging cite.
pub mod LentSizes
pub mod Judging
