pub mod Packed
pub mod Matching
pub mod Pieces
pub mod Making
pub mod Unpacking
pub mod Fitting
