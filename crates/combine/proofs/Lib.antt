-- The laws that the proofs of combine share.
pub mod Tests
pub mod Ways
pub mod Rooms
pub mod Heads
pub mod Merged
pub mod Completing
pub mod Combining
pub mod Both
pub mod Joining
pub mod United
