-- What a shape that was judged says of its slice. Assumes nothing.
use Rattle.std.specs.Prelude.{None, Option, Some}
use mathlib.Core.Path.{◌≡◌, refl, sym, ap, ◌∙◌}
use mathlib.Core.Bool.{Bool, true, false, not}
use mathlib.Core.List.{List, [], ◌∷◌}
use Prim.Native.Nat.{ℕ, suc, ◌+◌, ◌*◌, ◌<◌, ◌≤◌}
use native.Mathlib.Nat.{mul-one, add_comm, le_trans}
use native.Mathlib.Omega.{arith}
use borrow.Author.Tests.{ltb-false, leb-true, not-false}
use lib.Dec.{leb}
use lib.IntN.{ℤ, pos, negsuc}
use lib.ListN.{length, get_or, take, drop, length-take, length-drop, get_or-eq_default, get_or-map}
use lib.Seq.{get_or-take, get_or-drop}
use lib.Signed.{non_neg}
use Rattle.rules.specs.declared.Entries.{Entries}
use Rattle.rules.specs.Limits.{product_limit}
use Rattle.rules.specs.Lists.{if, all}
use Rattle.rules.specs.Buffers.{part}
use Rattle.rules.specs.Layout.{within_product, nonzero_product}
use Rattle.rules.specs.Record.{natural, naturals, entries_from, section_at, good_extents, good_shape, shape_in}
use Rattle.rules.proofs.Extents.{extent_nonzero}
use Rattle.rules.proofs.Same.{both_true, true_not_false}
use Rattle.cells.specs.View.{view, Low}
use Rattle.cells.proofs.View.{view_part}
use Rattle.tables.specs.Rows.{row_at}
use Rattle.axes.specs.Extents.{Extents}
use Rattle.records.specs.Sections.{Laid, SectionIn}
use Rattle.records.proofs.InTurn.{first_fails, first_holds}
use Rattle.records.proofs.Naturals.{naturals_part}
use Rattle.records.proofs.Sections.{other_default}
use Rattle.shapes.specs.Judged.{Judged}
use Rattle.shapes.proofs.Reading.{view_natural, length_naturals}

-- the count of extents as it stands there
abbrev counted : List ℤ → ℕ
counted s = natural (get_or s 0 (pos 0))

-- ---- one shape

-- a good shape's extents lie in the slice, and their product is within the limit
record Good (s : List ℤ) : Type 0 where
  room : 1 + counted s ≤ length s
  natural : all non_neg (part 1 (counted s) s) ≡ true
  within : within_product (shape_in s) ≡ true

good : (s : List ℤ) → good_shape s ≡ true → Good s
unfolding good_shape section_at entries_from natural
good [] e = absurd (true_not_false e refl)
good (negsuc n ∷ l) e = absurd (true_not_false e refl)
good (pos n ∷ l) e = by (leb (1 + n * 1) (suc (length l))) refl e
  where
    by : (t : Bool) → leb (1 + n * 1) (suc (length l)) ≡ t → good_extents (if t (Some (record { count = n; first = 1; next = 1 + n * 1 })) None) (pos n ∷ l) ≡ true → Good (pos n ∷ l)
    by true h f =
        let room : 1 + n * 1 ≤ suc (length l) = leb-true (1 + n * 1) (suc (length l)) h in
        let both = both_true (all non_neg (part 1 n (pos n ∷ l))) (within_product (shape_in (pos n ∷ l))) f in
        record { room = rw mul-one at room; natural = both.0; within = both.1 }
    by false h f = absurd (true_not_false f refl)

-- the product of its extents is within the limit
pub shape_within : (s : List ℤ) → good_shape s ≡ true → within_product (shape_in s) ≡ true
shape_within s e = (good s e).within

-- each of them is
pub extent_small : (s : List ℤ) → good_shape s ≡ true → (a : ℕ) → get_or (shape_in s) a 1 ≤ 65536
unfolding within_product
extent_small s e a = le_trans (extent_nonzero (shape_in s) a 1 (omega arith)) (leb-true (nonzero_product (shape_in s)) product_limit (shape_within s e))

module _ (s : List ℤ) (j : Judged s) where
  pub rank_counted : length (shape_in s) ≡ counted s
  unfolding shape_in part
  rank_counted =
      let g = good s j.good in
      length_naturals (take (counted s) (drop 1 s)) ∙ simp (length-take, length-drop) (omega arith)

  pub rank_is : {r : ℕ} → r ≡ natural (get_or s 0 (pos 0)) → r ≡ length (shape_in s)
  rank_is e = e ∙ sym rank_counted

  pub rank_small : {r : ℕ} → r ≡ natural (get_or s 0 (pos 0)) → r ≤ 4
  rank_small e = rw e (ltb-false 4 (counted s) j.small)

  -- the extents as they stand in the slice are the shape
  pub shape_row : {r : ℕ} → r ≡ length (shape_in s) → row_at 1 r s ≡ shape_in s
  unfolding shape_in
  shape_row e =
      let l : List ℤ = part 1 (counted s) s in
      rw (e, rank_counted, ← view_part 1 (counted s) s) (view_natural l (good s j.good).natural)

  pub shape_extents : {r : ℕ} → r ≡ length (shape_in s) → Extents 1 r s
  shape_extents e = let g = good s j.good in record { room = omega (arith, rank_counted); within = rw (shape_row e) g.within }

  -- an axis that is there has its extent
  pub extent_there : {a n r : ℕ} → r ≡ length (shape_in s) → a < r → n ≡ natural (get_or s (a + 1) (pos 0)) → n ≡ get_or (shape_in s) a 1
  unfolding shape_in part natural
  extent_there {a} {n} {r} e h f =
      let g = good s j.good in
      let part : List ℤ = take (counted s) (drop 1 s) in
      let below : a < counted s = omega (arith, rank_counted) in
      let inside : a < length part = simp (length-take, length-drop) (omega arith) in
      let there : get_or part a (pos 1) ≡ get_or s (a + 1) (pos 0) =
      other_default part a (pos 1) (pos 0) inside
      ∙ get_or-take (counted s) (drop 1 s) a (pos 0) below
      ∙ get_or-drop 1 s a (pos 0)
      ∙ ap (λ (i : ℕ). get_or s i (pos 0)) (add_comm 1 a) in
      f ∙ sym (get_or-map natural part a (pos 1) ∙ ap natural there)

  pub extent_there_low : {a n r : ℕ} → r ≡ length (shape_in s) → a < r → n ≡ natural (get_or s (a + 1) (pos 0)) → n ≤ 65536
  extent_there_low {a} e h f = rw (extent_there e h f) (extent_small s j.good a)

  -- one that is missing counts 1
  pub extent_missing : {a r : ℕ} → r ≡ length (shape_in s) → r ≤ a → 1 ≡ get_or (shape_in s) a 1
  extent_missing e h = sym (get_or-eq_default (shape_in s) 1 (omega arith))

pub ruleset extent_laws = (rank_is, rank_small, extent_there, extent_there_low, extent_missing)

-- ---- the shape at the front

-- a whole shape has its count in front, which is natural, and its extents behind it
front_natural : (s : List ℤ) (e : Entries) → Laid 0 1 s e → all non_neg (take e.next s) ≡ all non_neg (part 1 e.count s)
unfolding all part
front_natural [] e l = absurd (omega (arith, l.at))
front_natural (z ∷ s) e l = let n : e.next ≡ suc e.count = omega (arith, mul-one e.count, l.next, l.first) in rw (n, l.count)

module _ (s : List ℤ) {g : (Option Entries)} (is : g ≡ section_at 0 1 s) where
  -- one that is cut off is not good
  pub good_cut : g ≡ None → false ≡ good_shape s
  unfolding good_shape
  good_cut f = rw (← is, f)

  module _ {e : Entries} (lies : SectionIn 0 1 s g) (f : g ≡ Some e) where
    laid : Laid 0 1 s e
    laid = (rw f at lies).0

    -- its extents lie in the slice
    pub extents_end : e.next ≤ length s
    extents_end = laid.room

    pub extents_room : 1 + e.count ≤ length s
    extents_room = omega (arith, mul-one e.count, laid.next, laid.first, laid.room)

    module _ {t : Bool} (d : t ≡ all non_neg (take e.next s)) where
      -- one of them is negative
      pub good_negative : not t ≡ true → false ≡ good_shape s
      unfolding good_shape
      good_negative k = rw (← is, f) (first_fails (within_product (shape_in s)) (d ∙ front_natural s e laid) k)

      -- none is: their product decides
      pub good_product : {u : Bool} → not t ≡ false → (t ≡ true → Low (take e.next (view s))) → u ≡ within_product (part 1 e.count (view s)) → u ≡ good_shape s
      unfolding good_shape shape_in natural
      good_product k low h =
          let inside : 1 + e.count ≤ e.next = omega (arith, mul-one e.count, laid.next, laid.first) in
          let seen : naturals (part 1 e.count s) ≡ part 1 e.count (view s) = naturals_part 1 e.count e.next s inside (low (not-false t k)) in
          rw (← is, f, first_holds (d ∙ front_natural s e laid) k, laid.count, seen) h

pub ruleset good_laws = (good_cut, extents_end, extents_room, good_negative, good_product)
