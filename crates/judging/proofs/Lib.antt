-- Laws that the proofs of the public functions cite.
pub mod Judged
pub mod Required
pub mod SoundRecords
pub mod Results
pub mod Shapes
pub mod RangeEnds
pub mod Modes
pub mod LentSizes
pub mod Endings
pub mod RecordCalls
pub mod PairCalls
