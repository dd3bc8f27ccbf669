-- `find_all`: the first i answers stand at the front of the result. Assumes nothing.
use Rattle.std.specs.Prelude.{None, Option, Some}
use mathlib.Core.Path.{◌≡◌, refl, sym, ap, ◌∙◌, subst}
use mathlib.Core.Bool.{true}
use mathlib.Core.List.{List}
use Prim.Native.Nat.{ℕ, ◌+◌, ◌-◌, ◌*◌, ◌^◌, ◌<◌, ◌≤◌}
use native.Mathlib.Numerals.{add-one}
use native.Mathlib.Omega.{arith}
use lib.IntN.{ℤ, pos, negsuc}
use lib.ListN.{length, get_or, set, take, drop, length-set, length-take}
use lib.Seq.{take-suc, take_all}
use Rattle.rules.specs.declared.Head.{Head}
use Rattle.rules.specs.Buffers.{part, over}
use Rattle.rules.specs.Layout.{Layout, rank}
use Rattle.rules.specs.Record.{natural, naturals, layout_in}
use Rattle.rules.specs.Arguments.{good_index}
use Rattle.rules.specs.Endings.{Lookup, found, nothing, lookup_of}
use Rattle.rules.specs.Lookup.{lookup, place_number, places_of}
use Rattle.rules.proofs.Buffers.{length_part, over_nil, over_more}
use Rattle.rules.proofs.FoundAll.{places_counted, found_limited, index_there, index_good, place_there}
use Rattle.cells.proofs.Signed.{held, back}
use Rattle.tables.proofs.Rows.{lent_row}
use Rattle.records.specs.Sound.{SoundRecord}
use Rattle.records.proofs.SoundRecords.{layout_sound}
use Rattle.records.proofs.Shown.{rank_shown}
use Rattle.shapes.proofs.Reading.{length_naturals}
use Rattle.lookups.specs.Indices.{PlaceLow, number_in, Indices}

-- ---- what stands for an answer

module _ {place : Option ℕ} where
  pub place_low : {p : ℕ} → PlaceLow place → place ≡ Some p → p < 2 ^ 31
  place_low h e = subst PlaceLow e h

  pub number_found : {p : ℕ} {z : ℤ} → place ≡ Some p → PlaceLow place → z ≡ pos p → held z ≡ number_in place
  number_found {p} e h z = rw (z, back (pos p) (place_low h e), e)

  pub number_nothing : place ≡ None → negsuc 0 ≡ number_in place
  number_nothing e = rw e

pub ruleset numbers = (place_low, number_found, number_nothing)

-- a place is not nothing
unlike : {p : ℕ} → found p ≡ nothing → ⊥
unlike e = let same : ◌≡◌ {A = ℕ} 0 1 = ap placed e in omega arith
  where
    placed : Lookup → ℕ
    placed (found p) = 0
    placed nothing = 1

-- it is that of the rules
numbered : (place : Option ℕ) (v : Lookup) → lookup_of place ≡ v → number_in place ≡ place_number v
unfolding place_number
numbered (Some p) (found n) e = let same : p ≡ n = cc in rw same
numbered (Some p) nothing e = absurd (unlike e)
numbered None (found n) e = absurd (unlike (sym e))
numbered None nothing e = refl

-- ---- the loop

-- the first i answers stand at the front of the result
pub record Looked (l : Layout) (r n : ℕ) (indices old : List ℤ) (i : ℕ) (now : List ℤ) : Type 0 where
  pub upto : i ≤ n
  pub room : n ≤ length old
  pub size : length now ≡ length old
  pub is : now ≡ over (take i (places_of l r n indices)) old

module _ (l : Layout) (r n : ℕ) (indices : List ℤ) where
  pub looked_start : {old : List ℤ} → n ≤ length old → Looked l r n indices old 0 old
  looked_start {old} h = record { upto = omega arith; room = h; size = refl; is = sym (over_nil old) }

  module _ {old now : List ℤ} {i : ℕ} (p : Looked l r n indices old i now) where
    pub looked_turn : Indices n r indices → i < n → {v : ℤ} → v ≡ place_number (lookup l (naturals (part (i * r) r indices))) → Looked l r n indices old (i + 1) (set now i v)
    looked_turn a h {v} e = record {
      upto = omega arith;
      room = p.room;
      size = rw length-set p.size;
      is = rw (p.is, add-one, take-suc (places_of l r n indices) i (pos 0) (rw places_counted h), place_there n r indices a.wide i h l, ← e)
          (over_more (take i (places_of l r n indices)) old v i (simp (length-take, places_counted) (omega arith)) (omega (arith, p.room)));
    }

    pub looked_done : n ≤ i → now ≡ over (places_of l r n indices) old
    looked_done h = p.is ∙ ap (λ places. over places old) (take_all i (places_of l r n indices) (rw places_counted h))

-- ---- one turn

module _ {h : Head} {s indices : List ℤ} {n i : ℕ} (r : SoundRecord h s) (a : Indices n h.rank indices) (k : i < n) where
  -- the index as it is lent
  abbrev lent : List ℤ
  lent = take (i * h.rank + h.rank - i * h.rank) (drop (i * h.rank) indices)

  lent_is : lent ≡ part (i * h.rank) h.rank indices
  unfolding part
  lent_is = lent_row (i * h.rank) h.rank indices

  pub index_ends : i * h.rank + h.rank ≤ length indices
  index_ends = index_there n h.rank indices a.wide i k

  pub index_fits : good_index lent (natural (get_or s 2 (pos 0))) ≡ true
  unfolding natural
  index_fits = rw (lent_is, r.readable.head.rank) (index_good n h.rank indices a.wide i k a.good)

  -- a place that is found is one that a slice can hold
  low : (place : Option ℕ) → lookup_of place ≡ lookup (layout_in s) (naturals lent) → PlaceLow place
  low (Some p) e =
      let long : length (naturals lent) ≡ rank (layout_in s) =
      length_naturals lent ∙ ap length lent_is ∙ length_part (i * h.rank) h.rank indices index_ends ∙ sym (rank_shown r) in
      let there : lookup (layout_in s) (naturals lent) ≡ found p = cc in
      omega (arith, found_limited (layout_sound r) (naturals lent) long there)
  low None e = tt

  -- so it is stored as it is
  stored : (place : Option ℕ) → PlaceLow place → held (number_in place) ≡ number_in place
  stored (Some p) m = back (pos p) m
  stored None m = refl

  module _ (place : Option ℕ) (e : lookup_of place ≡ lookup (layout_in s) (naturals lent)) where
    pub place_small : PlaceLow place
    place_small = low place e

    pub number_turn : {old now : List ℤ} {z : ℤ} → Looked (layout_in s) h.rank n indices old i now → z ≡ number_in place →
        Looked (layout_in s) h.rank n indices old (i + 1) (set now i (held z))
    number_turn p z =
        looked_turn (layout_in s) h.rank n indices p a k
        (ap held z ∙ stored place place_small ∙ numbered place (lookup (layout_in s) (naturals lent)) e ∙ ap (λ index. place_number (lookup (layout_in s) (naturals index))) lent_is)

pub ruleset looks = (looked_start, looked_done, index_ends, index_fits, place_small, number_turn)
