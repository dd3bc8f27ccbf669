-- What exchange_records writes for a text.
--     Piles       the pile that a list of records is, and the text of a pile
--     Exchanges   the text that a text is answered with
--     Growing     what is written behind a text, and what was loaded
pub mod Piles
pub mod Exchanges
pub mod Growing
