-- `few_entries` and `over_record`: counts against their limits. Assumes nothing.
use Rattle.std.specs.Prelude.{None, Option, Some}
use mathlib.Core.Path.{◌≡◌, sym, ap, ◌∙◌}
use mathlib.Core.Bool.{false}
use mathlib.Core.List.{List}
use Prim.Native.Nat.{ℕ, ◌<◌, ◌≤◌}
use borrow.Author.Tests.{le-leb, lt-leb}
use lib.Dec.{leb, ltb}
use lib.IntN.{ℤ, pos}
use lib.ListN.{length, get_or, get_or-eq_default}
use Rattle.rules.specs.declared.Head.{Head}
use Rattle.rules.specs.Record.{natural}
use Rattle.rules.specs.Arguments.{over_rank, over_record}
use Rattle.cells.specs.View.{sign_of}
use Rattle.records.specs.Judging.{few_entries}
use Rattle.records.proofs.Sections.{sign_natural, sign_negative}

-- ---- over the rank

module _ (s : List ℤ) where
  -- no rank stands in the slice
  pub no_rank : length s ≤ 2 → false ≡ over_record s
  unfolding natural
  no_rank h = rw (get_or-eq_default s (pos 0) h)

  -- a natural rank
  pub rank_read : {g : (Option ℕ)} {r : ℕ} → g ≡ sign_of (get_or s 2 (pos 0)) → g ≡ Some r → ltb 4 r ≡ over_record s
  unfolding natural
  rank_read e f = sym (ap over_rank (sign_natural (get_or s 2 (pos 0)) (sym e ∙ f)))

  -- a negative rank
  pub rank_negative : {g : (Option ℕ)} → g ≡ sign_of (get_or s 2 (pos 0)) → g ≡ None → false ≡ over_record s
  unfolding natural
  rank_negative e f = sym (ap over_rank (sign_negative (get_or s 2 (pos 0)) (sym e ∙ f)))

pub ruleset ranks = (no_rank, rank_read, rank_negative)

-- ---- few entries

module _ (h : Head) where
  -- too many axes
  pub over_rank_lem : 4 < h.rank → false ≡ few_entries h
  unfolding few_entries
  over_rank_lem l = rw (lt-leb h.rank 4)

  module _ (r : h.rank ≤ 4) where
    -- too many rows
    pub over_rows : 128 < h.rows.count → false ≡ few_entries h
    unfolding few_entries
    over_rows l = rw (le-leb h.rank 4, lt-leb h.rows.count 128)

    module _ (a : h.rows.count ≤ 128) where
      -- too many dependencies on states
      pub over_states : 128 < h.states.count → false ≡ few_entries h
      unfolding few_entries
      over_states l = rw (le-leb h.rank 4, le-leb h.rows.count 128, lt-leb h.states.count 128)

      -- those on inputs decide
      pub counts_within : h.states.count ≤ 128 → leb h.inputs.count 128 ≡ few_entries h
      unfolding few_entries
      counts_within l = rw (le-leb h.rank 4, le-leb h.rows.count 128, le-leb h.states.count 128)

pub ruleset counts = (over_rank_lem, over_rows, over_states, counts_within)
