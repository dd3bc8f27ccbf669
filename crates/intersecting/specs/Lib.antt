-- The definitions that the contracts of intersecting cite.
pub mod Intersecting
