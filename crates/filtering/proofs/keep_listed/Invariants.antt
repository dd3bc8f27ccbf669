-- `keep_listed`: at each turn k entries are in the table, and those of what is left whose index is a row that is left follow.
use Prim.Native.Nat.{◌+◌}
use Rattle.filtering.proofs.Listing.{Listing}
use Rattle.filtering.proofs.keep_listed.Given as goal

abbrev pub invariant-loop-n : goal.invariant-loop-n
invariant-loop-n l = Listing l.from (l.at + 7) l.to l.rank l.w l.p l.n l.q l.m l.k l.initial.s l.s

abbrev pub decreases-loop-n : goal.decreases-loop-n
decreases-loop-n l = l.n + l.m
