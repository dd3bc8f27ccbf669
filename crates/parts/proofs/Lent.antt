-- Numbers of a slice that are lent from its middle, with parts among them, and come back. Assumes nothing.
use Rattle.std.specs.Prelude.{Err, Ok, Result, ⊤}
use Rattle.rules.specs.declared.Refusal.{Refusal}
use mathlib.Core.Path.{◌≡◌, refl, sym, ap, ◌∙◌}
use mathlib.Core.List.{List, ◌++◌}
use Prim.Native.Nat.{ℕ, ◌+◌, ◌-◌, ◌≤◌}
use native.Mathlib.Omega.{arith}
use lib.IntN.{ℤ}
use lib.ListN.{length, take, drop}
use Rattle.rules.specs.Buffers.{part, put}
use Rattle.rules.specs.Refusals.{Verdict, given}
use Rattle.rules.specs.Layout.{Layout}
use Rattle.rules.specs.Endings.{step_says}
use Rattle.rules.proofs.Buffers.{length_part, lent, part_part, part_put_all}
use Rattle.tables.specs.Tables.{Only}
use Rattle.tables.proofs.Only.{only_put}
use Rattle.parts.specs.Parts.{part_size, layout_at, Holds}
use Rattle.parts.specs.Answers.{Says}
use Rattle.parts.proofs.Holds.{Moved, layout_moved, holds_moved}

-- a step that is refused says nothing of a layout
says_same : (step : Result ⊤ Refusal) {l m : Layout} → (step ≡ Ok tt → l ≡ m) → step_says step l ≡ step_says step m
says_same (Ok tt) e = ap given (e refl)
says_same (Err x) e = refl

-- the numbers of s from a up to e, as they are lent
abbrev pub lent_of : ℕ → ℕ → List ℤ → List ℤ
lent_of a e s = take (e - a) (drop a s)

-- and s when `new` came back for them
abbrev pub back_in : ℕ → ℕ → List ℤ → List ℤ → List ℤ
back_in a e s new = take a s ++ (new ++ drop (e - a) (drop a s))

module _ (a e : ℕ) (s : List ℤ) (h : a ≤ e) (l : e ≤ length s) where
  pub lent_length : length (lent_of a e s) ≡ e - a
  unfolding part
  lent_length = length_part a (e - a) s (omega arith)

  -- the part at c of s is at b of what is lent
  module _ (b c : ℕ) (k : a + b ≡ c) (m : b + part_size ≤ e - a) where
    lent_same : Moved c b s (lent_of a e s)
    lent_same = rw (← k) (record { numbers = unfold part in part_part a (e - a) b part_size s m })

    pub lent_layout : Holds c s → layout_at b (lent_of a e s) ≡ layout_at c s
    lent_layout g = layout_moved lent_same g

    pub lent_holds : Holds c s → Holds b (lent_of a e s)
    lent_holds g = holds_moved lent_same g (rw lent_length m)

  -- `new` came back, as many as were lent
  module _ (new : List ℤ) (same : length new ≡ length (lent_of a e s)) where
    size : length new ≡ e - a
    size = same ∙ lent_length

    is_put : back_in a e s new ≡ put a new s
    is_put = lent a (e - a) new s size

    back_there : part a (e - a) (back_in a e s new) ≡ new
    back_there = let n = size in rw is_put (rw size at (part_put_all a new s (omega arith)))

    -- lent again, it is what came back
    pub lent_again : lent_of a e (back_in a e s new) ≡ new
    unfolding part
    lent_again = back_there

    pub back_only : Only a e s (back_in a e s new)
    back_only =
        let n = size in
        let k : a + length new ≡ e = omega arith in
        rw is_put (rw k at (only_put a new s (omega arith)))

    module _ (b c : ℕ) (k : a + b ≡ c) (m : b + part_size ≤ e - a) where
      back_same : Moved b c new (back_in a e s new)
      back_same =
          let t : List ℤ = back_in a e s new in
          rw (← k) (record { numbers = sym (part_part a (e - a) b part_size t m) ∙ ap (part b part_size) back_there })

      pub back_layout : Holds b new → layout_at c (back_in a e s new) ≡ layout_at b new
      back_layout g = layout_moved back_same g

      pub back_holds : Holds b new → Holds c (back_in a e s new)
      back_holds g = holds_moved back_same g (omega (arith, back_only.size))

      -- what a step says of a part among them
      pub back_says : {v : Verdict Layout} {step : (Result ⊤ Refusal)} → Says v b new step → Says v c (back_in a e s new) step
      back_says {step = step} d = record {
        is = says_same step (λ x. back_layout (d.holds x)) ∙ d.is;
        holds = λ x. back_holds (d.holds x);
      }

-- one part, lent from its begin
module _ {at : ℕ} {s : List ℤ} (h : Holds at s) where
  pub lent_part_layout : layout_at 0 (lent_of at (at + part_size) s) ≡ layout_at at s
  lent_part_layout = lent_layout at (at + part_size) s (omega arith) h.inside 0 at (omega arith) (omega arith) h

  pub lent_part_holds : Holds 0 (lent_of at (at + part_size) s)
  lent_part_holds = lent_holds at (at + part_size) s (omega arith) h.inside 0 at (omega arith) (omega arith) h
