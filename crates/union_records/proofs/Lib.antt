-- Laws about the text that is written.
--     Verdicts       what a text, a list and a union are answered with
--     WorkedByHand   texts and their answers
pub mod Verdicts
pub mod WorkedByHand
