-- Laws that the proofs of this crate's functions cite.
pub mod ListCalls
pub mod Broadcasts
pub mod Concatenations
