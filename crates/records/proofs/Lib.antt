-- Laws about records in a slice.
--     Sections, Walks                        where a section lies, and a record
--     InTurn                                 tests put one after the other
--     Numbers, Counts                        tests of numbers
--     RowTests, KindTests                    tests of rows, and of kinds
--     Naturals                               numbers that are natural and small
--     Layouts, Conjuncts, Soundness          a readable record, its layout, and its soundness
--     SoundRecords, Shown                    a record that was judged, and what it shows of its layout
--     Answers                                what is answered about any record
--     EndToEnd                               things end to end, walked from one to the next
--     Determined                             two parts that the contract of `row` allows are one
pub mod Sections
pub mod Walks
pub mod InTurn
pub mod Naturals
pub mod Numbers
pub mod Counts
pub mod Fits
pub mod RowTests
pub mod KindTests
pub mod Layouts
pub mod Conjuncts
pub mod Soundness
pub mod SoundRecords
pub mod Shown
pub mod Answers
pub mod EndToEnd
pub mod Determined
