-- Laws that the proofs of this crate's functions cite, and what its contracts determine.
--     Places       two places of a pile, and where their slots begin
--     Storing      layouts of the working buffer stored into slots
--     Uniting      two layouts in the window, and their union set aside
--     Late         no refusal of the two calls leaves the working buffer as it was
--     Making       both layouts made of two records
--     Exchanging   how an exchange of two slots ends
--     Calling      that it is what `exchange_call` asks
--     Going        exchanges one after the other
--     Determined   two outcomes that a contract allows are equal
--     PileKept     what exchanges keep of a pile, by the contracts
pub mod Places
pub mod Storing
pub mod Uniting
pub mod Late
pub mod Making
pub mod Exchanging
pub mod Calling
pub mod Going
pub mod Determined
pub mod PileKept
