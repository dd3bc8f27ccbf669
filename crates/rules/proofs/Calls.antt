-- What calls answer of sound records, where nothing is wrong with their arguments. Assumes nothing.
use mathlib.Core.Path.{◌≡◌, refl, sym, ◌∙◌}
use mathlib.Core.Bool.{true, false, not, ◌&&◌}
use mathlib.Core.List.{List, [], ◌∷◌, ◌++◌, map}
use Prim.Native.Nat.{ℕ, suc, ◌≤◌, ◌<◌}
use native.Mathlib.Omega.{arith}
use borrow.Author.Tests.{le-leb, le-ltb, eq-eqb}
use lib.IntN.{ℤ, pos}
use lib.ListN.{length, get_or, length-map}
use Rattle.rules.specs.Limits.{rank_limit, component_limit, result_size, work_size}
use Rattle.rules.specs.Lists.{all}
use Rattle.rules.specs.RowsInOrder.{increasing}
use Rattle.rules.specs.Refusals.{given, ◌then◌, ◌when◌, lowest}
use Rattle.rules.specs.Layout.{Layout, rank, encode}
use Rattle.rules.specs.Soundness.{Sound}
use Rattle.rules.specs.Record.{natural, naturals, layout_in, sound, ordered, behind_record}
use Rattle.rules.specs.Arguments.{up_to, good_components, good_index, over_record, short_work}
use Rattle.rules.specs.Lookup.{lookup, find_nnz_index_call}
use Rattle.rules.specs.CountsAndForms.{nnz, nnz_call}
use Rattle.rules.specs.Union.{union, union_call}
use Rattle.rules.specs.Intersect.{intersect, intersect_call}
use Rattle.rules.specs.ContractLastAxis.{contract_last_axis, contract_last_axis_call}
use Rattle.rules.specs.Pile.{union_of, intersection_of}
use Rattle.rules.proofs.Same.{both_true}
use Rattle.rules.proofs.Sets.{increasing_true, true_increasing}
use Rattle.rules.proofs.Tests.{true_both}
use Rattle.rules.proofs.Extents.{extent_limited}
use Rattle.rules.proofs.Sections.{naturals_pos}
use Rattle.rules.proofs.Encoded.{layout_alone, sound_alone}
use Rattle.rules.proofs.ReadBack.{layout_sound, record_and_rest}
use Rattle.rules.proofs.Holding.{Position}
use Rattle.rules.proofs.Unions.{union_sound}
use Rattle.rules.proofs.Low.{below_at}
use Rattle.rules.proofs.Given.{step_given, contract_sound, contract_in_order}
use Rattle.rules.proofs.IntersectHolds.{intersect_sound}

-- the count of extents stands third in a record
rank_stands : (l : Layout) (rest : List ℤ) → natural (get_or (encode l ++ rest) 2 (pos 0)) ≡ rank l
unfolding encode natural
rank_stands l rest = refl

-- ---- any slices

module _ (s t : List ℤ) (result work : ℕ) {l : Layout} where
  -- a union that is given is sound
  pub union_call_sound : union_call s t result work ≡ given l → Sound l
  unfolding union_call
  union_call_sound e = union_sound (layout_in s) (layout_in t) (step_given _ _ e)

  -- and so is an intersection
  pub intersect_call_sound : intersect_call s t result work ≡ given l → Sound l
  unfolding intersect_call
  intersect_call_sound e = intersect_sound (layout_in s) (layout_in t) (step_given _ _ e)

-- ---- any slice

module _ (s : List ℤ) (result work : ℕ) {l : Layout} (g : contract_last_axis_call s result work ≡ given l) where
  -- what is contracted
  contract_call_given : contract_last_axis (layout_in s) ≡ given l
  unfolding contract_last_axis_call
  contract_call_given = step_given _ _ g

  -- a contraction that is given is sound
  pub contract_call_sound : Sound l
  contract_call_sound = contract_sound (layout_in s) contract_call_given

  -- and of an ordered record an ordered one
  pub contract_call_ordered : ordered s ≡ true → ordered (encode l) ≡ true
  unfolding ordered
  contract_call_ordered o =
      let rows = increasing_true (layout_in s).rows (both_true (sound s) (increasing (layout_in s).rows) o).1 in
      rw (sound_alone contract_call_sound, layout_alone contract_call_sound) (true_increasing (contract_in_order (layout_in s) contract_call_given rows))

-- ---- one sound record

module _ (s : List ℤ) (e : sound s ≡ true) where
  -- its count of extents is the rank of its layout
  pub rank_third : natural (get_or s 2 (pos 0)) ≡ rank (layout_in s)
  rank_third = rw (record_and_rest s e) at (rank_stands (layout_in s) (behind_record s))

  -- it is at most 4
  within_rank : over_record s ≡ false
  within_rank = rw rank_third (le-ltb rank_limit (rank (layout_in s)) (layout_sound s e).form.rank_most)

  -- `nnz`
  pub nnz_call_lem : nnz_call s ≡ given (nnz (layout_in s))
  unfolding nnz_call lowest
  nnz_call_lem = rw (within_rank, e)

  -- lookup of an index of R components, each at most 65,535
  pub lookup_call : ordered s ≡ true → (index : List ℤ) → good_index index (rank (layout_in s)) ≡ true → find_nnz_index_call s index ≡ given (lookup (layout_in s) (naturals index))
  unfolding find_nnz_index_call lowest
  lookup_call o index g = rw (within_rank, e, o, rank_third, g)

-- numbers up to a limit
all_up_to : (limit : ℕ) (q : List ℕ) → ((k : ℕ) → k < length q → get_or q k 0 ≤ limit) → all (up_to limit) (map pos q) ≡ true
unfolding all up_to
all_up_to limit [] f = refl
all_up_to limit (c ∷ q) f = true_both (le-leb c limit (f 0 (omega arith))) (all_up_to limit q (λ k h. f (suc k) (omega arith)))

-- a position of the shape is an index that lookup takes
position_good : (l : Layout) → Sound l → (q : List ℕ) → Position l.shape q → good_index (map pos q) (rank l) ≡ true
unfolding good_components
position_good l s q p =
    true_both (eq-eqb (length (map pos q)) (rank l) (length-map q pos ∙ p.size))
    (all_up_to component_limit q (λ k h. omega (arith, below_at q l.shape p.inside k h (omega (arith, p.size)), extent_limited s.sizes k)))

-- lookup of a position of the shape, in a sound record whose rows increase
pub lookup_position : (s : List ℤ) → sound s ≡ true → increasing (layout_in s).rows ≡ true → (q : List ℕ) → Position (layout_in s).shape q →
    find_nnz_index_call s (map pos q) ≡ given (lookup (layout_in s) q)
unfolding ordered
lookup_position s e i q p =
    lookup_call s e (true_both e i) (map pos q) (position_good (layout_in s) (layout_sound s e) q p) ∙ (rw naturals_pos)

-- ---- two sound records, with a result of full size

module _ (s t : List ℤ) (work : ℕ) (e : sound s ≡ true) (f : sound t ≡ true) (w : short_work work ≡ false) where
  -- `union`
  pub union_call_lem : union_call s t result_size work ≡ union (layout_in s) (layout_in t)
  unfolding union_call lowest
  union_call_lem = rw (within_rank s e, within_rank t f, w, e, f)

  -- `intersect`, unless a record is not ordered
  pub intersect_call_lem : intersect_call s t result_size work ≡ (lowest (4 when not (ordered s && ordered t) ∷ []) then λ _. intersect (layout_in s) (layout_in t))
  unfolding intersect_call lowest
  intersect_call_lem = rw (within_rank s e, within_rank t f, w, e, f)

-- ---- the record of a layout instead of another that is read so

-- it is as ordered
encode_ordered : (s : List ℤ) → sound s ≡ true → ordered (encode (layout_in s)) ≡ ordered s
unfolding ordered
encode_ordered s e = let l = layout_sound s e in rw (sound_alone l, layout_alone l, e)

module _ (s t : List ℤ) (work : ℕ) (e : sound s ≡ true) (f : sound t ≡ true) (w : short_work work ≡ false) where
  -- the same union
  pub union_read : union_call s t result_size work ≡ union_of (layout_in s) (layout_in t)
  union_read =
      let a = layout_sound s e in
      let b = layout_sound t f in
      union_call_lem s t work e f w ∙ sym (union_call_lem (encode (layout_in s)) (encode (layout_in t)) work_size (sound_alone a) (sound_alone b) refl ∙ (rw (layout_alone a, layout_alone b)))

  -- the same intersection
  pub intersect_read : intersect_call s t result_size work ≡ intersection_of (layout_in s) (layout_in t)
  intersect_read =
      let a = layout_sound s e in
      let b = layout_sound t f in
      intersect_call_lem s t work e f w
      ∙ sym (intersect_call_lem (encode (layout_in s)) (encode (layout_in t)) work_size (sound_alone a) (sound_alone b) refl ∙ (rw (layout_alone a, layout_alone b, encode_ordered s e, encode_ordered t f)))
