-- Laws of this crate, by subject:
--     Shifting    a row moved by a start
--     Listing     the entries of a list of a block, one by one
--     Sizes       how many numbers an entry has, and how large they are
--     Putting     a list of a block that becomes a table
--     Placing     entries that stand in a record as they are listed
--     Spare       a table that takes the one in the spare part
--     Blocks      what one block gives
--     AllBlocks   the entries of all blocks
pub mod Shifting
pub mod Listing
pub mod Sizes
pub mod Putting
pub mod Placing
pub mod Spare
pub mod Blocks
pub mod AllBlocks
