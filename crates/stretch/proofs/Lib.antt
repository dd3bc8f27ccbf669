-- The laws that the proofs of stretch share.
pub mod InTurn
pub mod Fitting
pub mod StretchedAxes
pub mod Values
pub mod Yields
pub mod Clearing
pub mod Depending
pub mod Plus
pub mod Turning
pub mod Staying
pub mod Combinations
pub mod Within
pub mod Together
pub mod Moves
pub mod ListedRows
pub mod Filling
pub mod Assembled
