-- `read_numbers`: at each turn the numbers of the bytes before that one are read.
use Rattle.text.proofs.Reading.{Progress}
use Rattle.text.proofs.read_numbers.Given as goal

abbrev pub invariant-loop-byte : goal.invariant-loop-byte
invariant-loop-byte l = Progress l.text l.initial.out l.word l.n l.byte-index l.out
