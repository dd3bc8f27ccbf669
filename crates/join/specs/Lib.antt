-- The definitions that the contracts of join cite.
pub mod Assembling
