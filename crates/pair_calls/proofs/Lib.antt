-- Laws that the proofs of this crate's functions cite.
pub mod InWindow
pub mod Intersections
pub mod Filters
