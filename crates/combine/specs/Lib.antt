-- The definitions that the contracts of combine cite.
pub mod Window
pub mod Uniting
