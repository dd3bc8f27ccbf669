-- When an exchange is made: at two different places, where both calls are answered. Assumes nothing.
use mathlib.Core.Path.{◌≡◌, refl, sym, ◌∙◌}
use mathlib.Core.Bool.{Bool, true, false, not, ◌&&◌}
use mathlib.Core.Logic.{◌⊎◌, inl, inr}
use mathlib.Core.List.{List, [], ◌∷◌}
use Prim.Native.Nat.{ℕ, ◌<◌}
use borrow.Author.Tests.{ltb-true, eqb-false, not-true}
use lib.Dec.{eqb}
use lib.IntN.{ℤ, pos, negsuc}
use lib.ListN.{length, set}
use Rattle.rules.specs.Refusals.{Verdict, given, refused, ◌then◌, ◌when◌, lowest}
use Rattle.rules.specs.Layout.{Layout}
use Rattle.rules.specs.Record.{natural}
use Rattle.rules.specs.Pile.{is_place, are_two_places, layout_of, union_of, intersection_of, exchange}
use Rattle.rules.proofs.Same.{both_true, true_not_false}
use Rattle.rules.proofs.Unions.{never}

-- ---- places

-- two different places below n
pub record Places (first second : ℤ) (n : ℕ) : Type 0 where
  pub first_in : natural first < n
  pub second_in : natural second < n
  pub apart : natural first ≡ natural second → ⊥

-- a number that tests as a place is below n
place_true : (z : ℤ) (n : ℕ) → is_place z n ≡ true → natural z < n
unfolding natural
place_true (pos i) n e = ltb-true i n e
place_true (negsuc i) n e = absurd (true_not_false e refl)

-- what test as two places are such
pub places_true : (first second : ℤ) (n : ℕ) → are_two_places first second n ≡ true → Places first second n
places_true first second n e =
    let h = both_true (is_place first n && is_place second n) (not (eqb (natural first) (natural second))) e in
    let k = both_true (is_place first n) (is_place second n) h.0 in
    record {
      first_in = place_true first n k.0;
      second_in = place_true second n k.1;
      apart = eqb-false (natural first) (natural second) (not-true (eqb (natural first) (natural second)) h.1);
    }

-- ---- when an exchange is made

-- the layout at the place that a number says
abbrev pub at_place : List Layout → ℤ → Layout
at_place pile place = layout_of pile (natural place)

-- it was made: of two different places of the pile, by two calls that both were answered
pub record MadeOf (first second : ℤ) (old new : List Layout) : Type 0 where
  pub are_places : are_two_places first second (length old) ≡ true
  pub either : Layout
  pub both : Layout
  pub union_is : union_of (at_place old first) (at_place old second) ≡ given either
  pub intersection_is : intersection_of (at_place old first) (at_place old second) ≡ given both
  pub is : new ≡ set (set old (natural first) either) (natural second) both

module _ (first second : ℤ) (old : List Layout) where
  -- where it is given, it was made so
  pub exchange_given : {new : List Layout} → exchange first second old ≡ given new → MadeOf first second old new
  unfolding exchange lowest
  exchange_given {new} e = go (are_two_places first second (length old)) refl (union_of (at_place old first) (at_place old second)) (intersection_of (at_place old first) (at_place old second)) refl refl e
    where
      go : (t : Bool) → are_two_places first second (length old) ≡ t → (u v : Verdict Layout) → union_of (at_place old first) (at_place old second) ≡ u → intersection_of (at_place old first) (at_place old second) ≡ v →
          (lowest (5 when not t ∷ []) then λ _. u then λ either. v then λ both. given (set (set old (natural first) either) (natural second) both)) ≡ given new →
          MadeOf first second old new
      go false t u v c d r = absurd (never r)
      go true t (refused n) v c d r = absurd (never r)
      go true t (given u) (refused n) c d r = absurd (never r)
      go true t (given u) (given v) c d r = record { are_places = t; either = u; both = v; union_is = c; intersection_is = d; is = cc }

  -- without two places it is refused with 5
  pub exchange_nowhere : are_two_places first second (length old) ≡ false → exchange first second old ≡ refused 5
  unfolding exchange lowest
  exchange_nowhere t = rw t

  module _ (t : are_two_places first second (length old) ≡ true) where
    -- where both calls are answered it is made
    pub exchange_made : {u v : Layout} → union_of (at_place old first) (at_place old second) ≡ given u → intersection_of (at_place old first) (at_place old second) ≡ given v →
        exchange first second old ≡ given (set (set old (natural first) u) (natural second) v)
    unfolding exchange lowest
    exchange_made c d = rw (t, c, d)

    -- where the union is refused, so is it
    pub exchange_first_refused : {n : ℕ} → union_of (at_place old first) (at_place old second) ≡ refused n → exchange first second old ≡ refused n
    unfolding exchange lowest
    exchange_first_refused c = rw (t, c)

    -- and where the intersection is
    pub exchange_second_refused : {n : ℕ} {u : Layout} → union_of (at_place old first) (at_place old second) ≡ given u →
        intersection_of (at_place old first) (at_place old second) ≡ refused n → exchange first second old ≡ refused n
    unfolding exchange lowest
    exchange_second_refused c d = rw (t, c, d)

    -- at two places it is refused only as one of the calls is
    pub exchange_refused : {n : ℕ} → exchange first second old ≡ refused n → (union_of (at_place old first) (at_place old second) ≡ refused n) ⊎ (intersection_of (at_place old first) (at_place old second) ≡ refused n)
    unfolding exchange lowest
    exchange_refused {n} e = by (union_of (at_place old first) (at_place old second)) (intersection_of (at_place old first) (at_place old second)) refl refl (rw t at e)
      where
        by : (u v : Verdict Layout) → union_of (at_place old first) (at_place old second) ≡ u → intersection_of (at_place old first) (at_place old second) ≡ v →
            (u then λ either. v then λ both. given (set (set old (natural first) either) (natural second) both)) ≡ refused n → (union_of (at_place old first) (at_place old second) ≡ refused n) ⊎ (intersection_of (at_place old first) (at_place old second) ≡ refused n)
        by (refused m) v c d r = inl (c ∙ cc)
        by (given u) (refused m) c d r = inr (d ∙ cc)
        by (given u) (given v) c d r = absurd (never (sym r))
