-- What the record of a block says, number by number. Assumes nothing.
use mathlib.Core.Path.{◌≡◌, refl, sym, ap, ◌∙◌}
use mathlib.Core.Bool.{true, false}
use mathlib.Core.List.{List, [], ◌∷◌, ◌++◌, map}
use Prim.Native.Nat.{ℕ, zero, suc, ◌+◌, ◌<◌, ◌≤◌}
use native.Mathlib.Nat.{le_trans}
use native.Mathlib.Omega.{arith}
use borrow.Author.Tests.{eq-eqb, ne_eqb}
use lib.Dec.{eqb}
use lib.IntN.{ℤ, pos}
use lib.ListN.{length, get_or, get_or-eq_default}
use Rattle.rules.specs.Limits.{rank_limit, product_limit}
use Rattle.rules.specs.Lists.{all}
use Rattle.rules.specs.declared.Kind.{Kind}
use Rattle.rules.specs.Layout.{rank, section, encode, kind_of}
use Rattle.rules.specs.Record.{natural, layout_in, sound, behind_record}
use Rattle.rules.proofs.Extents.{extent_nonzero}
use Rattle.rules.proofs.ReadBack.{layout_sound, record_and_rest}
use Rattle.cells.specs.View.{view}
use Rattle.tables.proofs.Passing.{Passed, none_passed, one_more, one_fails, all_passed}

-- a number of a list that is in front
in_front : (l a b c : List ℕ) (rest : List ℤ) (k d : ℕ) → k < length l → natural (get_or (map pos (l ++ a ++ b ++ c) ++ rest) k (pos 0)) ≡ get_or l k d
unfolding natural
in_front [] a b c rest k d h = absurd (omega arith)
in_front (x ∷ l) a b c rest zero d h = refl
in_front (x ∷ l) a b c rest (suc k) d h = in_front l a b c rest k d (omega arith)

module _ (s : List ℤ) (e : sound s ≡ true) where
  -- what is read of a slice is read of the record of its layout
  front : (k : ℕ) → natural (get_or s k (pos 0)) ≡ natural (get_or (encode (layout_in s) ++ behind_record s) k (pos 0))
  front k = ap (λ (t : List ℤ). natural (get_or t k (pos 0))) (sym (record_and_rest s e))

  -- its kind stands at the front
  pub kind_inside : 0 < length s
  unfolding encode
  kind_inside = rw (← record_and_rest s e) (omega arith)

  kind_first : get_or (view s) 0 0 ≡ (layout_in s).kind
  unfolding encode view
  kind_first = ap (λ (t : List ℤ). get_or (view t) 0 0) (sym (record_and_rest s e))

  pub kind_read : {k : Kind} → k ≡ kind_of (get_or (view s) 0 0) → k ≡ kind_of (layout_in s).kind
  kind_read f = f ∙ ap kind_of kind_first

  pub dense_read : {n : ℕ} → n ≡ natural (get_or s 1 (pos 0)) → n ≡ (layout_in s).dense
  unfolding encode natural
  dense_read f = f ∙ front 1

  pub dense_few : {n : ℕ} → n ≡ natural (get_or s 1 (pos 0)) → n ≤ rank_limit
  dense_few f = let l = (layout_sound s e).form in omega (arith, dense_read f, l.dense_most, l.rank_most)

  pub rank_read : {n : ℕ} → n ≡ natural (get_or s 2 (pos 0)) → n ≡ rank (layout_in s)
  unfolding encode natural
  rank_read f = f ∙ front 2

  pub rank_few : {n : ℕ} → n ≡ natural (get_or s 2 (pos 0)) → n ≤ rank_limit
  rank_few f = let l = (layout_sound s e).form in omega (arith, rank_read f, l.rank_most)

  -- no extent is over the limit, nor is what a missing one counts
  extent_low : (axis missing : ℕ) → missing ≤ 1 → get_or (layout_in s).shape axis missing ≤ product_limit
  extent_low axis missing h = le_trans (extent_nonzero (layout_in s).shape axis missing h) (layout_sound s e).sizes.product_most

  module _ (axis missing : ℕ) {n : ℕ} (f : n ≡ rank (layout_in s)) where
    module _ (l : axis < n) {v : ℕ} (g : v ≡ natural (get_or s (axis + 3) (pos 0))) where
      pub extent_read : v ≡ get_or (layout_in s).shape axis missing
      unfolding encode
      extent_read =
          let at : axis + 3 ≡ suc (suc (suc axis)) = omega arith in
          rw at at g
          ∙ front (suc (suc (suc axis)))
          ∙ in_front (layout_in s).shape (section (layout_in s).rows) (section (layout_in s).states) (section (layout_in s).inputs) (behind_record s) axis missing (omega arith)

      pub extent_few : missing ≤ 1 → v ≤ product_limit
      extent_few h = rw extent_read (extent_low axis missing h)

    pub extent_none : n ≤ axis → missing ≡ get_or (layout_in s).shape axis missing
    extent_none l = sym (get_or-eq_default (layout_in s).shape missing (omega arith))

pub ruleset reading_laws = (kind_inside, kind_read, dense_read, dense_few, rank_read, rank_few, extent_read, extent_few, extent_none)

-- ---- every extent is 1

module _ {n : ℕ} {l : List ℕ} where
  pub ones_start : n ≡ length l → Passed (eqb 1) n 0 l
  ones_start e = none_passed (sym e)

  module _ {k x : ℕ} (p : Passed (eqb 1) n k l) (h : k < n) (e : x ≡ get_or l k 1) where
    pub ones_turn : x ≡ 1 → Passed (eqb 1) n (k + 1) l
    ones_turn f = one_more p 1 h (ap (eqb 1) e) (eq-eqb 1 x (sym f))

    pub ones_stop : (x ≡ 1 → ⊥) → false ≡ all (eqb 1) l
    ones_stop f = one_fails p 1 h (ap (eqb 1) e) (ne_eqb 1 x (λ g. f (sym g)))

pub ruleset ones_laws = (ones_start, ones_turn, ones_stop, all_passed)
