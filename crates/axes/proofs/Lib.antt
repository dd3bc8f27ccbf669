-- Laws on extents in a slice: their products, rows below them, indices over them and their numbers.
pub mod Pairs
pub mod Products
pub mod Below
pub mod Indices
pub mod Marking
pub mod Numbering
