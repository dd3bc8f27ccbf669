-- A window of parts: two records loaded into it, and what a step says in it. Assumes nothing.
use Rattle.std.specs.Prelude.{Result, ⊤}
use Rattle.rules.specs.declared.Refusal.{Refusal}
use mathlib.Core.Path.{◌≡◌, refl, ◌∙◌}
use mathlib.Core.Logic.{inl}
use mathlib.Core.List.{List}
use Prim.Native.Nat.{◌≤◌}
use native.Mathlib.Omega.{arith}
use lib.IntN.{ℤ}
use lib.ListN.{length}
use Rattle.rules.specs.Refusals.{Verdict}
use Rattle.rules.specs.Layout.{Layout}
use Rattle.tables.specs.Tables.{Only}
use Rattle.rules.specs.Limits.{work_size}
use Rattle.parts.specs.Parts.{part_size, window_size, left, right, target, Holds}
use Rattle.parts.specs.Answers.{Loaded, PairLoaded, Says}
use Rattle.parts.proofs.Holds.{layout_outside, holds_outside}
use Rattle.parts.proofs.Lent.{lent_of, back_in, lent_again, back_only, back_layout, back_holds, back_says}

-- ---- one record loaded behind the other

module _ {s t : List ℤ} (window : List ℤ) (room : window_size ≤ length window) {x y : List ℤ} (p : Loaded s x) (x-size : length x ≡ length (lent_of left right window))
    (q : Loaded t y) (y-size : length y ≡ length (lent_of right target (back_in left right window x))) where
  abbrev next : List ℤ
  next = back_in left right window x

  next_room : window_size ≤ length next
  next_room = rw (back_only left right window (omega arith) (omega arith) x x-size).size room

  first_holds : Holds left next
  first_holds = back_holds left right window (omega arith) (omega arith) x x-size 0 left refl (omega arith) p.holds

  second_only : Only right target next (back_in right target next y)
  second_only = back_only right target next (omega arith) (omega (arith, next_room)) y y-size

  pub pair_loaded : PairLoaded s t (back_in right target (back_in left right window x) y)
  pair_loaded = record {
    first = layout_outside second_only (inl (omega arith)) first_holds
        ∙ back_layout left right window (omega arith) (omega arith) x x-size 0 left refl (omega arith) p.holds ∙ p.layout;
    second = back_layout right target next (omega arith) (omega (arith, next_room)) y y-size 0 right refl (omega arith) q.holds ∙ q.layout;
    holds = record {
      first = holds_outside second_only (inl (omega arith)) first_holds;
      second = back_holds right target next (omega arith) (omega (arith, next_room)) y y-size 0 right refl (omega arith) q.holds;
      room = rw second_only.size next_room;
    };
  }

-- ---- the window at the front of the working buffer

module _ (work : List ℤ) (long : work_size ≤ length work) (w : List ℤ) (same : length w ≡ length (lent_of 0 window_size work)) where
  -- lent to the next step it is as the last one left it
  pub window_again : lent_of 0 window_size (back_in 0 window_size work w) ≡ w
  window_again = lent_again 0 window_size work (omega arith) (omega arith) w same

  pub window_only : Only 0 window_size work (back_in 0 window_size work w)
  window_only = back_only 0 window_size work (omega arith) (omega arith) w same

  pub window_says : {v : Verdict Layout} {step : (Result ⊤ Refusal)} → Says v target w step → Says v target (back_in 0 window_size work w) step
  window_says d = back_says 0 window_size work (omega arith) (omega arith) w same target target refl (omega arith) d

-- ---- one part at the front of the working buffer

module _ (work : List ℤ) (long : work_size ≤ length work) (p : List ℤ) (same : length p ≡ length (lent_of 0 part_size work)) where
  pub part_only : Only 0 part_size work (back_in 0 part_size work p)
  part_only = back_only 0 part_size work (omega arith) (omega arith) p same

  pub part_says : {v : Verdict Layout} {step : (Result ⊤ Refusal)} → Says v 0 p step → Says v 0 (back_in 0 part_size work p) step
  part_says d = back_says 0 part_size work (omega arith) (omega arith) p same 0 0 refl (omega arith) d
