-- What the contracts of this crate cite.
pub mod Sections
pub mod Picking
pub mod Fitting
