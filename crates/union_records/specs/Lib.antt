-- What union_records writes for a text.
pub mod Unions
