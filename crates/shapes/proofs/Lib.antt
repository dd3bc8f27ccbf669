pub mod Reading
pub mod Passing
pub mod Judging
pub mod Stretching
pub mod Fitting
pub mod Locating
