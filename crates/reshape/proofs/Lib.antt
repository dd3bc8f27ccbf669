-- Laws by subject: rows and dependencies without the last component (Shortening), what is written in front of them (Fronts), contraction; where
-- entries send the axes (Moves), permutation.
pub mod Shortening
pub mod Fronts
pub mod Contracting
pub mod Moves
pub mod Permuting
