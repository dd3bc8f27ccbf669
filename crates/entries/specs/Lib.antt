-- The definitions that the contracts of entries cite.
pub mod Listing
pub mod Merging
pub mod Standing
