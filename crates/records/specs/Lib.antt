pub mod Sections
pub mod Heads
pub mod Judging
pub mod Sound
pub mod EndToEnd
