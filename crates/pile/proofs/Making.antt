-- Both layouts of an exchange made of two records: the ways out of `make_both`. Assumes nothing.
use Rattle.std.specs.Prelude.{Err, Ok, Result, ⊤}
use mathlib.Core.Path.{◌≡◌, refl, sym, ◌∙◌}
use mathlib.Core.Bool.{Bool, true, false, ◌&&◌}
use mathlib.Core.List.{List}
use mathlib.Core.Logic.{inr}
use Prim.Native.Nat.{ℕ, ◌≤◌}
use native.Mathlib.Omega.{arith}
use lib.IntN.{ℤ}
use lib.ListN.{length}
use Rattle.rules.specs.declared.Head.{Head}
use Rattle.rules.specs.declared.Refusal.{Refusal}
use Rattle.rules.specs.declared.Refusal.TheVariants.{Unsound, Unordered}
use Rattle.rules.specs.Limits.{work_size}
use Rattle.rules.specs.RowsInOrder.{increasing}
use Rattle.rules.specs.Refusals.{given, refused, number_of, lowest}
use Rattle.rules.specs.Layout.{Layout}
use Rattle.rules.specs.Record.{layout_in, sound, ordered}
use Rattle.rules.specs.Endings.{step_says}
use Rattle.rules.specs.Union.{union}
use Rattle.rules.specs.Intersect.{intersect}
use Rattle.intersecting.specs.Intersecting.{OrderedWindow}
use Rattle.tables.specs.Tables.{Only}
use Rattle.tables.proofs.Only.{only_same, only_then, only_wider}
use Rattle.records.specs.Sound.{SoundRecord}
use Rattle.parts.specs.Parts.{window_size, left, right, target, layout_at, Holds}
use Rattle.parts.specs.Answers.{PairLoaded, Says}
use Rattle.parts.proofs.Holds.{layout_outside, holds_outside}
use Rattle.parts.proofs.Lent.{lent_of, back_in, back_layout, back_holds}
use Rattle.parts.proofs.Windows.{window_only}
use Rattle.parts.proofs.Saying.{never_done}
use Rattle.combine.specs.Window.{Combined}
use Rattle.pile.specs.Exchanging.{sixth, United, both_of, both_said, BothMade}
use Rattle.pile.proofs.Uniting.{window_lent, left_lent, right_lent, came_says, came_only}

-- ---- what is given for two records, step by step

module _ (s t : List ℤ) where
  -- 3
  unsound_both : (sound s && sound t) ≡ false → both_of s t ≡ refused (number_of Unsound)
  unfolding both_of lowest number_of
  unsound_both e = rw e

  module _ (p : (sound s && sound t) ≡ true) where
    -- the union is refused
    union_refused : {n : ℕ} → union (layout_in s) (layout_in t) ≡ refused n → both_of s t ≡ refused n
    unfolding both_of lowest
    union_refused e = rw (p, e)

    module _ {l : Layout} (e : union (layout_in s) (layout_in t) ≡ given l) where
      -- 4
      unordered_both : (ordered s && ordered t) ≡ false → both_of s t ≡ refused (number_of Unordered)
      unfolding both_of lowest number_of
      unordered_both q = rw (p, e, q)

      -- what a step says of the intersection
      both_said_lem : (ordered s && ordered t) ≡ true → (step : Result ⊤ Refusal) (work : List ℤ) → layout_at sixth work ≡ l →
          step_says step (layout_at target work) ≡ intersect (layout_in s) (layout_in t) → both_said step work ≡ both_of s t
      unfolding both_of lowest
      both_said_lem q (Ok tt) work d f = rw (p, e, q, ← f, d)
      both_said_lem q (Err why) work d f = rw (p, e, q, ← f)

-- a refusal leaves nothing to show but that it is the right one
refused_made : {s t work now : List ℤ} {why : Refusal} → both_of s t ≡ refused (number_of why) → Only 0 work_size work now → BothMade s t work now (Err why)
refused_made e o = record {
  says = sym e;
  united_holds = λ f. absurd (never_done f);
  common_holds = λ f. absurd (never_done f);
  only = o;
}

-- ---- 3

pub made_unsound : {s t : List ℤ} (work : List ℤ) → (sound s && sound t) ≡ false → BothMade s t work work (Err Unsound)
made_unsound {s} {t} work e = refused_made (unsound_both s t e) (only_same 0 work_size work)

-- ---- both records are loaded

module _ {s t : List ℤ} (work : List ℤ) (long : work_size ≤ length work) {w : List ℤ} (p : PairLoaded s t w) (size : length w ≡ length (lent_of 0 window_size work)) where
  abbrev loaded : List ℤ
  loaded = back_in 0 window_size work w

  pub loaded_only : Only 0 work_size work loaded
  loaded_only = only_wider (window_only work long w size) 0 work_size (omega arith) (omega arith)

  pub pair_back : PairLoaded s t loaded
  pair_back = record {
    first = back_layout 0 window_size work (omega arith) (omega arith) w size left left refl (omega arith) p.holds.first ∙ p.first;
    second = back_layout 0 window_size work (omega arith) (omega arith) w size right right refl (omega arith) p.holds.second ∙ p.second;
    holds = record {
      first = back_holds 0 window_size work (omega arith) (omega arith) w size left left refl (omega arith) p.holds.first;
      second = back_holds 0 window_size work (omega arith) (omega arith) w size right right refl (omega arith) p.holds.second;
      room = omega (arith, loaded_only.size);
    };
  }

-- ---- the union is made

-- where a step stands that made the union: both records are sound and in the window, and the union is in the sixth part
pub record Halfway (s t work now : List ℤ) : Type 0 where
  pub both_sound : (sound s && sound t) ≡ true
  pub long : work_size ≤ length work
  pub pair : PairLoaded s t now
  pub union_is : union (layout_in s) (layout_in t) ≡ given (layout_at sixth now)
  pub union_holds : Holds sixth now
  pub only : Only 0 work_size work now

module _ {x y : Head} {s t : List ℤ} (a : SoundRecord x s) (b : SoundRecord y t) {work now next : List ℤ} (long : work_size ≤ length work) (p : PairLoaded s t now) (o : Only 0 work_size work now) {step : (Result ⊤ Refusal)} (m : United now next step) where
  both_are : (sound s && sound t) ≡ true
  both_are = rw (a.judged, b.judged)

  said : Says (union (layout_in s) (layout_in t)) sixth next step
  said = rw (p.first, p.second) at m.says

  pub union_out : {why : Refusal} → step ≡ Err why → BothMade s t work next (Err why)
  union_out {why} e = refused_made (union_refused s t both_are (sym (rw e at said.is))) (only_then o m.only)

  pub halfway : step ≡ Ok tt → Halfway s t work next
  halfway e = record {
    both_sound = both_are;
    long = long;
    pair = record { first = m.left_stays ∙ p.first; second = m.right_stays ∙ p.second; holds = m.window };
    union_is = sym (rw e at said.is);
    union_holds = said.holds e;
    only = only_then o m.only;
  }

-- ---- 4, and the intersection

module _ {s t work now : List ℤ} (h : Halfway s t work now) where
  pub first_unordered : {o : Bool} → o ≡ ordered s → o ≡ false → BothMade s t work now (Err Unordered)
  first_unordered {o} e f = refused_made (unordered_both s t h.both_sound h.union_is (rw (sym e ∙ f))) h.only

  module _ {o : Bool} (e : o ≡ ordered s) (f : o ≡ true) where
    first_ordered : ordered s ≡ true
    first_ordered = sym e ∙ f

    pub second_unordered : {q : Bool} → q ≡ ordered t → q ≡ false → BothMade s t work now (Err Unordered)
    second_unordered {q} d g = refused_made (unordered_both s t h.both_sound h.union_is (rw (first_ordered, sym d ∙ g))) h.only

    module _ {q : Bool} (d : q ≡ ordered t) (g : q ≡ true) where
      second_ordered : ordered t ≡ true
      second_ordered = sym d ∙ g

      now_long : work_size ≤ length now
      now_long = omega (arith, h.only.size, h.long)

      -- the rows of an ordered record increase
      rows_increase_lem : (r : List ℤ) → ordered r ≡ true → increasing (layout_in r).rows ≡ true
      unfolding ordered
      rows_increase_lem r k = go (sound r) k where
        go : (c : Bool) → (c && increasing (layout_in r).rows) ≡ true → increasing (layout_in r).rows ≡ true
        go true k = k
        go false k = cc

      pub ordered_window : OrderedWindow (lent_of 0 window_size now)
      ordered_window = record {
        window = window_lent now now_long h.pair.holds;
        left_ordered = rw (left_lent now now_long h.pair.holds, h.pair.first) (rows_increase_lem s first_ordered);
        right_ordered = rw (right_lent now now_long h.pair.holds, h.pair.second) (rows_increase_lem t second_ordered);
      }

      pub both_made : {u : List ℤ} {step : (Result ⊤ Refusal)} → Combined intersect (lent_of 0 window_size now) u step → BothMade s t work (back_in 0 window_size now u) step
      both_made {u} {step} m =
          let o : Only 0 window_size now (back_in 0 window_size now u) = came_only now now_long h.pair.holds m in
          let said : Says (intersect (layout_in s) (layout_in t)) target (back_in 0 window_size now u) step = rw (h.pair.first, h.pair.second) at (came_says now now_long h.pair.holds m) in record {
            says = both_said_lem s t h.both_sound h.union_is (rw (first_ordered, second_ordered)) step (back_in 0 window_size now u) (layout_outside o (inr (omega arith)) h.union_holds) said.is;
            united_holds = λ _. holds_outside o (inr (omega arith)) h.union_holds;
            common_holds = said.holds;
            only = only_then h.only (only_wider o 0 work_size (omega arith) (omega arith));
          }
