pub mod Compared
pub mod View
pub mod Signed
pub mod Buffers
pub mod Written
