-- The text form of numbers: read from bytes, and written as lines.
--     Read, Written      what the numbers of a text are, and the text of numbers
--     Words              the same as the loop goes
--     Placed             where numbers and bytes are put
pub mod Read
pub mod Written
pub mod Words
pub mod Placed
