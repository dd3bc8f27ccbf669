-- The laws that the proofs of filtering share.
pub mod Held
pub mod Keeping
pub mod Listing
