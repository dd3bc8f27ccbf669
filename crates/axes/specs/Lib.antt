-- What the contracts of axes cite.
pub mod Extents
pub mod Numbers
