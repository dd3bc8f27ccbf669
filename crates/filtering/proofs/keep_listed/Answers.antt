-- `keep_listed`: at each turn k entries are in the table, and those of what is left whose index is a row that is left follow.
use mathlib.Core.Path.{refl}
use mathlib.Core.Logic.{inl, inr}
use Prim.Native.Nat.{◌+◌}
use Rattle.tables.proofs.Walking.{Movable}
use Rattle.filtering.proofs.Listing.{start, index_row, listed_row, passed, behind, entry_moves, moved, ended, kept}
use Rattle.filtering.proofs.keep_listed.Goals as goal
use Rattle.filtering.proofs.keep_listed.Goals.{In-Equal, else-loop-n-test, then-loop-n-test+else-m-gt0}

-- the entry can be moved
entry_moved : (c : In-Equal) → Movable c.args.to (c.get-rank.result + 1) c.loop-n.p c.loop-n.k c.loop-n.s
entry_moved c = entry_moves c.loop-n.invariant c.loop-n-test.true c.if-m-gt0.true c.cmp_rows.ensures c.in-Equal.is

pub loop-n-init : goal.loop-n-init
loop-n-init c = start c.requires.keep_asked c.requires.s_value c.get-rank.ensures.0 refl c.get-n.ensures.0 c.get-m.ensures.0

pub cmp_rows-requires : goal.cmp_rows-requires
cmp_rows-requires c = let g = c.loop-n.invariant in record {
  has_row = index_row g c.loop-n-test.true c.if-m-gt0.true;
  has_row_2 = listed_row g c.loop-n-test.true c.if-m-gt0.true;
}

pub loop-n-preserved-in-Less : goal.loop-n-preserved-in-Less
loop-n-preserved-in-Less c = passed c.loop-n.invariant c.loop-n-test.true c.if-m-gt0.true c.cmp_rows.ensures c.in-Less.is

pub move_row-requires : goal.move_row-requires
move_row-requires c = let v = entry_moved (goal.at.move_row-requires c).In-Equal in record {
  n_in_bounds = (v.ends, v.room);
  fact = v.apart;
  n_bound = v.narrow;
}

pub loop-n-preserved-in-Equal : goal.loop-n-preserved-in-Equal
loop-n-preserved-in-Equal c = moved c.loop-n.invariant c.loop-n-test.true c.if-m-gt0.true c.cmp_rows.ensures c.in-Equal.is c.move_row.ensures

pub loop-n-preserved : goal.loop-n-preserved
loop-n-preserved c = behind c.loop-n.invariant c.loop-n-test.true c.if-m-gt0.true c.cmp_rows.ensures c.in-Greater.is

pub returns : goal.returns
returns c = kept c.requires.keep_asked c.requires.s_value c.get-rank.ensures.0 refl
    (ended c.loop-n.invariant c.store.ensures (elim c.loop-n-test.branch [
      | else-loop-n-test w ↦ inl w.loop-n-test.false
      | then-loop-n-test+else-m-gt0 w ↦ inr w.if-m-gt0.false
    ]))
