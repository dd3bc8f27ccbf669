-- Laws of this crate, by subject:
--     Sizes     when what is made is within the sizes
--     Frames    a layout made in the target
--     Ways      the layout of each way
--     Handing   the blocks of a call, one by one
--     Joins     blocks joined in the way that is theirs
pub mod Sizes
pub mod Frames
pub mod Ways
pub mod Handing
pub mod Joins
