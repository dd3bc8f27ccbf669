pub mod Places
pub mod Asked
pub mod Starts
pub mod Records
