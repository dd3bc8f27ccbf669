-- What the contracts of this crate cite; the exchanges themselves are defined in the rules.
pub mod Slots
pub mod Exchanging
