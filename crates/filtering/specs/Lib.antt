-- The definitions that the contracts of filtering cite.
pub mod Filtering
