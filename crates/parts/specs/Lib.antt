-- What a part of the working buffer holds, and what is answered about it.
pub mod Parts
pub mod Answers
