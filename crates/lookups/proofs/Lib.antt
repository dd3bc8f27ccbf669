pub mod SoundRecords
pub mod Trailing
pub mod Counting
pub mod Reading
pub mod Placing
pub mod Finding
pub mod FindingAll
