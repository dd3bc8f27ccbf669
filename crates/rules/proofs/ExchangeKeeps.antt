-- What an exchange of two layouts of a pile does, what stays, and when it is refused. Assumes nothing.
use mathlib.Core.Path.{◌≡◌, refl, sym, ap, ◌∙◌}
use mathlib.Core.Bool.{Bool, true, false, ◌&&◌, ◌||◌}
use mathlib.Core.List.{List}
use Prim.Native.Nat.{ℕ, ◌<◌}
use native.Mathlib.Omega.{arith}
use lib.IntN.{ℤ}
use lib.ListN.{length, set, length-set}
use lib.Seq.{get_or-set_same, get_or-set_other}
use Rattle.rules.specs.Limits.{work_size}
use Rattle.rules.specs.Lists.{all, keep}
use Rattle.rules.specs.Refusals.{Verdict, given, refused, lowest}
use Rattle.rules.specs.Layout.{Layout, encode}
use Rattle.rules.specs.Record.{natural, nowhere, ordered}
use Rattle.rules.specs.Lookup.{read_index}
use Rattle.rules.specs.CountsAndForms.{nnz}
use Rattle.rules.specs.Removal.{positions}
use Rattle.rules.specs.Holding.{holds}
use Rattle.rules.specs.Union.{union}
use Rattle.rules.specs.Intersect.{intersect}
use Rattle.rules.specs.Pile.{are_two_places, belongs, layout_of, union_of, intersection_of, exchange, finds, how_many, nonzeros}
use Rattle.rules.proofs.Tests.{all_at}
use Rattle.rules.proofs.Encoded.{layout_alone, sound_alone}
use Rattle.rules.proofs.Unions.{never}
use Rattle.rules.proofs.UnionHolds.{union_holds}
use Rattle.rules.proofs.IntersectHolds.{intersect_holds}
use Rattle.rules.proofs.Calls.{union_call_lem, intersect_call_lem}
use Rattle.rules.proofs.Piled.{Piled, piled_true, true_piled, piled_sound, piled_shape, piled_ordered, piled_nnz, piled_finds}
use Rattle.rules.proofs.PiledPairs.{overfull, union_given, union_over, union_piled, intersection_given, intersection_piled}
use Rattle.rules.proofs.Summing.{sum_two, bit, count_sum, bits, keep_either_both, all_set}
use Rattle.rules.proofs.ExchangeMade.{Places, places_true, at_place, MadeOf, exchange_given, exchange_made, exchange_first_refused}

-- ---- the calls on the records of two layouts of a pile

module _ {shape : List ℕ} {a b : Layout} (p : Piled shape a) (q : Piled shape b) where
  -- the record of a layout of a pile is ordered
  piled_record : {l : Layout} → Piled shape l → ordered (encode l) ≡ true
  unfolding ordered
  piled_record k = rw (sound_alone (piled_sound k), layout_alone (piled_sound k)) (piled_ordered k)

  -- they give the union
  pub union_of_lem : union_of a b ≡ union a b
  union_of_lem =
      let s = piled_sound p in
      let t = piled_sound q in
      union_call_lem (encode a) (encode b) work_size (sound_alone s) (sound_alone t) refl ∙ (rw (layout_alone s, layout_alone t))

  -- and the intersection
  pub intersection_of_lem : intersection_of a b ≡ intersect a b
  unfolding lowest
  intersection_of_lem =
      let s = piled_sound p in
      let t = piled_sound q in
      intersect_call_lem (encode a) (encode b) work_size (sound_alone s) (sound_alone t) refl ∙ (rw (piled_record p, piled_record q, layout_alone s, layout_alone t))

-- ---- what an exchange does

-- the layout at the first place holds what either did, that at the second what both did, and the others stay
pub record ExchangedAt (first second : ℤ) (old new : List Layout) : Type 0 where
  pub either : (q : List ℕ) → holds (at_place new first) q ≡ holds (at_place old first) q || holds (at_place old second) q
  pub both : (q : List ℕ) → holds (at_place new second) q ≡ holds (at_place old first) q && holds (at_place old second) q
  pub others : (k : ℕ) → (k ≡ natural first → ⊥) → (k ≡ natural second → ⊥) → layout_of new k ≡ layout_of old k

-- what stays of a pile: its shape and kind, its number, for each index the number of layouts that find it, and the sum of `nnz`
pub record Keeps (shape : List ℕ) (old new : List Layout) : Type 0 where
  pub belong : all (belongs shape) new ≡ true
  pub as_many : length new ≡ length old
  pub how_many_hold : (q : List ℕ) → length q ≡ length shape → how_many q new ≡ how_many q old
  pub total : nonzeros new ≡ nonzeros old

-- each layout of a pile belongs to it
pub piled_at : {shape : List ℕ} (pile : List Layout) → all (belongs shape) pile ≡ true → (k : ℕ) → k < length pile → Piled shape (layout_of pile k)
piled_at {shape} pile p k h = piled_true (all_at (belongs shape) pile nowhere p k h)

module _ (shape : List ℕ) (first second : ℤ) (old : List Layout) {new : List Layout} (p : all (belongs shape) old ≡ true) (e : exchange first second old ≡ given new) where
  abbrev i : ℕ
  i = natural first

  abbrev j : ℕ
  j = natural second

  -- how it was made
  m : MadeOf first second old new
  m = exchange_given first second old e

  at : Places first second (length old)
  at = places_true first second (length old) m.are_places

  one : Piled shape (at_place old first)
  one = piled_at old p i at.first_in

  other : Piled shape (at_place old second)
  other = piled_at old p j at.second_in

  -- the new layouts are the union and the intersection
  united : union (at_place old first) (at_place old second) ≡ given m.either
  united = sym (union_of_lem one other) ∙ m.union_is

  met : intersect (at_place old first) (at_place old second) ≡ given m.both
  met = sym (intersection_of_lem one other) ∙ m.intersection_is

  -- both belong to the pile
  either_piled : Piled shape m.either
  either_piled = union_piled one other united

  both_piled : Piled shape m.both
  both_piled = intersection_piled one other met

  -- what they hold
  either_holds : (q : List ℕ) → holds m.either q ≡ holds (at_place old first) q || holds (at_place old second) q
  either_holds = union_holds (piled_sound one).form (piled_sound other).form united

  both_hold : (q : List ℕ) → holds m.both q ≡ holds (at_place old first) q && holds (at_place old second) q
  both_hold = intersect_holds (piled_sound one).form (piled_sound other).form met

  -- what an exchange does
  pub exchange_holds : ExchangedAt first second old new
  exchange_holds =
      let size : length (set old i m.either) ≡ length old = length-set old i m.either in
      let at_i : at_place new first ≡ m.either = ap (λ t. layout_of t i) m.is ∙ get_or-set_other (set old i m.either) j i m.both nowhere at.apart ∙ get_or-set_same old i m.either nowhere at.first_in in
      let at_j : at_place new second ≡ m.both = ap (λ t. layout_of t j) m.is ∙ get_or-set_same (set old i m.either) j m.both nowhere (omega (arith, at.second_in)) in
      record {
        either = λ q. rw at_i (either_holds q);
        both = λ q. rw at_j (both_hold q);
        others = λ k n o. ap (λ t. layout_of t k) m.is ∙ get_or-set_other (set old i m.either) j k m.both nowhere o ∙ get_or-set_other old i k m.either nowhere n;
      }

  -- as many are counted of a layout of the pile as positions of the shape are held
  counted : {l : Layout} → Piled shape l → nnz l ≡ length (keep (holds l) (positions shape))
  counted {l} k = piled_nnz k ∙ ap (λ s. length (keep (holds l) (positions s))) (piled_shape k)

  -- what it keeps
  pub exchange_keeps : Keeps shape old new
  unfolding how_many nonzeros
  exchange_keeps = record {
    belong = rw m.is (all_set (belongs shape) (set old i m.either) j m.both (all_set (belongs shape) old i m.either p (true_piled either_piled)) (true_piled both_piled));
    as_many = rw (m.is, length-set, length-set);
    how_many_hold = λ q n.
        count_sum (finds q) new
        ∙ rw m.is (sum_two (λ l. bit (finds q l)) old i j m.either m.both at.first_in at.second_in at.apart
        (rw (piled_finds either_piled q n, piled_finds both_piled q n, piled_finds one q n, piled_finds other q n, either_holds (read_index q shape), both_hold (read_index q shape))
        (bits (holds (at_place old first) (read_index q shape)) (holds (at_place old second) (read_index q shape)))))
        ∙ sym (count_sum (finds q) old);
    total = rw m.is (sum_two nnz old i j m.either m.both at.first_in at.second_in at.apart
        (rw (counted either_piled, counted both_piled, counted one, counted other)
        (keep_either_both (holds (at_place old first)) (holds (at_place old second)) (holds m.either) (holds m.both) (positions shape) either_holds both_hold)));
  }

-- ---- when a pile refuses an exchange

module _ (shape : List ℕ) (first second : ℤ) (old : List Layout) (p : all (belongs shape) old ≡ true) (t : are_two_places first second (length old) ≡ true) where
  places : Places first second (length old)
  places = places_true first second (length old) t

  left : Piled shape (at_place old first)
  left = piled_at old p (natural first) places.first_in

  right : Piled shape (at_place old second)
  right = piled_at old p (natural second) places.second_in

  -- at two places of a pile it is made, unless both are sparse and their rows together are more than 128
  pub exchange_fits : overfull (at_place old first) (at_place old second) ≡ false → (new : List Layout) × (exchange first second old ≡ given new)
  exchange_fits f =
      let u = union_given left right f in
      let v = intersection_given left right in
      (_, exchange_made first second old t (union_of_lem left right ∙ u.1) (intersection_of_lem left right ∙ v.1))

  -- and then it is refused with 13
  pub exchange_over : overfull (at_place old first) (at_place old second) ≡ true → exchange first second old ≡ refused 13
  exchange_over f = exchange_first_refused first second old t (union_of_lem left right ∙ union_over left right f)

  -- so it is refused with 13 alone, and only then
  pub exchange_only_13 : {n : ℕ} → exchange first second old ≡ refused n → (n ≡ 13) × (overfull (at_place old first) (at_place old second) ≡ true)
  exchange_only_13 {n} e = go (overfull (at_place old first) (at_place old second)) refl
    where
      go : (b : Bool) → overfull (at_place old first) (at_place old second) ≡ b → (n ≡ 13) × (b ≡ true)
      go true f = let both : ◌≡◌ {A = Verdict (List Layout)} (refused 13) (refused n) = sym (exchange_over f) ∙ e in (cc, refl)
      go false f = absurd (never (sym e ∙ (exchange_fits f).1))
