-- Laws about the text form, and the table of texts worked by hand.
--     Words, Steps, Reading       a word byte by byte, and the loop that reads
--     Bytes, Items, Spelling      bytes that were written, and the loops that write
--     Answers                     what a caller has by the answer
--     Back                        what was written reads back as it was
--     WorkedByHand                the table
pub mod Words
pub mod Steps
pub mod Reading
pub mod Bytes
pub mod Items
pub mod Spelling
pub mod Answers
pub mod Back
pub mod WorkedByHand
