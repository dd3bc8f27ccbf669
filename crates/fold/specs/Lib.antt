-- The definitions that the contracts of fold cite.
pub mod Stretched
pub mod Folded
pub mod Ended
