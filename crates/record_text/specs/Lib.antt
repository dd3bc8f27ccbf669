-- Records and refusals as text, and a text as a list of numbers.
--     Lines      the text of a layout, and of a refusal
--     Fronts     a text at the front of a slice
--     Sections   the lines of a record by the places of its sections
--     Texts      a text as a list of numbers
pub mod Lines
pub mod Fronts
pub mod Sections
pub mod Texts
