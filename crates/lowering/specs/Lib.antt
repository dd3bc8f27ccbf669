-- The definitions that the contracts of lowering cite.
pub mod Lowering
