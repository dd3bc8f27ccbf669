-- Laws about the text that is written.
--     Fronts         a text that grows at the front of a slice
--     Sections       the lines of a record by the places of its sections
--     Refusals       the line of a refusal
--     Texts          a text that is read
pub mod Fronts
pub mod Sections
pub mod Refusals
pub mod Texts
