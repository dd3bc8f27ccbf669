-- Laws by subject: sections of a part (Sections, Heads), rows as they stand (Kept), rows whose numbers are picked (Picking), rows cut short so (Shortening), tables of
-- them (Filling, Deps), rows and dependencies fitted to another length (Fitting).
pub mod Sections
pub mod Heads
pub mod Kept
pub mod Picking
pub mod Shortening
pub mod Filling
pub mod Deps
pub mod Fitting
