-- What the contracts of this crate cite.
pub mod Contracting
pub mod Permuting
