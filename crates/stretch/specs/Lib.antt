-- The definitions that the contracts of stretch cite.
pub mod Spread
pub mod Tables
pub mod Layouts
