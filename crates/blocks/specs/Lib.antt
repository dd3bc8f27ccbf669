pub mod Blocks
pub mod Asked
pub mod Measured
pub mod Lines
pub mod Joins
