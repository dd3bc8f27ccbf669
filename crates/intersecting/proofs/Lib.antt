-- The laws that the proofs of intersecting share.
pub mod FilteredDeps
pub mod Meeting
pub mod MergedLists
pub mod Intersects
pub mod CommonRows
pub mod Others
pub mod Intersected
