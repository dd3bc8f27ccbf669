-- Laws about parts: taken from a record, written as one, lent, and the end of a call.
pub mod Copied
pub mod Holds
pub mod Saying
pub mod Lent
pub mod Windows
pub mod Loading
pub mod Packing
pub mod Encoding
pub mod Ending
