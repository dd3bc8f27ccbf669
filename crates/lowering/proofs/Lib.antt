-- The laws that the proofs of lowering share.
pub mod LastAxes
pub mod RowTails
pub mod AllTails
pub mod Diagonals
pub mod Listing
pub mod LoweredDeps
