-- What a broadcast gives is sound, and holds what one of the stretched layouts holds, or what all of them do, as the operator asks. Assumes nothing.
use mathlib.Core.Path.{◌≡◌, refl, sym, ap, ◌∙◌}
use mathlib.Core.Bool.{Bool, true, false, not, ◌&&◌, and_comm, or_comm, and-true, or-false}
use mathlib.Core.List.Memᴰ
use mathlib.Core.List.{List, [], ◌∷◌, map}
use Prim.Native.Nat.{ℕ, ◌<◌}
use native.Mathlib.Omega.{arith}
use borrow.Author.Tests.{eqb-true, eqb-false, not-false}
use lib.Dec.{eqb}
use lib.ListN.{length, get_or, take, replicate, length-take, length-map}
use lib.Seq.{get_or-take}
use Rattle.rules.specs.declared.Mode.{Mode}
use Rattle.rules.specs.declared.Rule.{Rule}
use Rattle.rules.specs.declared.Rule.TheVariants.{Unite, Multiply, Divide}
use Rattle.rules.specs.Lists.{if, all, any, below, product}
use Rattle.rules.specs.RowsInOrder.{In}
use Rattle.rules.specs.Refusals.{given, ◌then◌, ◌when◌, lowest}
use Rattle.rules.specs.Layout.{Layout, rank, width, is_sparse, alike, made}
use Rattle.rules.specs.Soundness.{Sound}
use Rattle.rules.specs.Holding.{is_position, holds}
use Rattle.rules.specs.Intersect.{intersect}
use Rattle.rules.specs.Broadcast.{combine, is_diagonal_in_rows, as_diagonal, end_of_broadcast, broadcast}
use Rattle.rules.proofs.Same.{both_true, decided}
use Rattle.rules.proofs.Sorting.{sorted_increasing, sorted_each, sorted_only}
use Rattle.rules.proofs.Tests.{true_both, all_each}
use Rattle.rules.proofs.Ranges.{from_length, from_has}
use Rattle.rules.proofs.Alike.{alike_replicate}
use Rattle.rules.proofs.Low.{below_at}
use Rattle.rules.proofs.Holding.{Position, position_true, true_position, holds_diagonal, sparse_true, true_sparse}
use Rattle.rules.proofs.Unions.{union_sound}
use Rattle.rules.proofs.UnionHolds.{union_holds}
use Rattle.rules.proofs.Full.{full_has, full_holds}
use Rattle.rules.proofs.IntersectHolds.{intersect_sound, intersect_holds}
use Rattle.rules.proofs.Giving.{Giving, given_such, giving_if, giving_made}
use Rattle.rules.proofs.Given.{stretch_sound}
use Rattle.rules.proofs.BroadcastSteps.{shared_shape, stretched_to, Steps, broadcast_steps, steps_such}
use Rattle.rules.proofs.Forming.{to_dense_sound}
use Rattle.rules.proofs.BroadcastEnds.{end_such, rows_wide}

-- an index is held by one of the layouts, or by all of them
abbrev pub held_by : Rule → List Layout → List ℕ → Bool
held_by Unite layouts index = any (λ l. holds l index) layouts
held_by Multiply layouts index = all (λ l. holds l index) layouts
held_by Divide layouts index = all (λ l. holds l index) layouts

-- ---- folds

-- a sound layout that holds what these layouts hold
abbrev HoldsOf : Rule → List Layout → Layout → Type 0
HoldsOf rule layouts x = Sound x × ((index : List ℕ) → holds x index ≡ held_by rule layouts index)

-- one layout
alone_holds : (rule : Rule) (l : Layout) (index : List ℕ) → holds l index ≡ held_by rule (l ∷ []) index
unfolding all any
alone_holds Unite l index = sym (or-false (holds l index))
alone_holds Multiply l index = sym (and-true (holds l index))
alone_holds Divide l index = sym (and-true (holds l index))

-- two layouts combined, of which the first holds what others do, hold what the second and those do
combine_holds : (rule : Rule) (done : List Layout) (a b x : Layout) → HoldsOf rule done a → Sound b → combine rule a b ≡ given x → HoldsOf rule (b ∷ done) x
unfolding combine any all
combine_holds rule done a b x p q e = by rule p.1 e
  where
    met : ((index : List ℕ) → holds a index ≡ all (λ l. holds l index) done) → intersect a b ≡ given x → HoldsOf Multiply (b ∷ done) x
    met h e = (intersect_sound a b e, λ index. intersect_holds p.0.form q.form e index ∙ and_comm (holds a index) (holds b index) ∙ rw (h index))

    by : (rule : Rule) → ((index : List ℕ) → holds a index ≡ held_by rule done index) → combine rule a b ≡ given x → HoldsOf rule (b ∷ done) x
    by Unite h e = (union_sound a b e, λ index. union_holds p.0.form q.form e index ∙ or_comm (holds a index) (holds b index) ∙ rw (h index))
    by Multiply h e = met h e
    by Divide h e = met h e

-- ---- the end

module _ {l : Layout} (s : Sound l) (k : l.kind ≡ 2) (not_full : eqb (length l.rows) (product l.shape) ≡ false) (some : 0 < rank l) (e : is_diagonal_in_rows l ≡ true) (index : List ℕ) where
  -- as many rows as the first extent, each of equal components
  rows_told : (eqb (length l.rows) (get_or l.shape 0 0) ≡ true) × (all alike l.rows ≡ true)
  rows_told =
      let h = both_true (not (eqb (rank l) 1) && alike l.shape && eqb (length l.rows) (get_or l.shape 0 0)) (all alike l.rows) e in
      ((both_true (not (eqb (rank l) 1) && alike l.shape) (eqb (length l.rows) (get_or l.shape 0 0)) h.0).1, h.1)

  wide : 0 < width l
  wide = rows_wide s not_full some e

  abbrev extent : ℕ
  extent = get_or l.shape 0 0

  abbrev diagonal : List (List ℕ)
  diagonal = map (λ i. replicate (width l) i) (below extent)

  -- numbers that are alike and below the first extent are one of the diagonal
  lies_on_diagonal : (r : List ℕ) → length r ≡ width l → alike r ≡ true → get_or r 0 0 < extent → In r diagonal
  lies_on_diagonal r n a h =
      let is : r ≡ replicate (width l) (get_or r 0 0) = alike_replicate r a ∙ ap (λ (m : ℕ). replicate m (get_or r 0 0)) n in
      rw is (Memᴰ.map (λ i. replicate (width l) i) (from_has 0 extent (omega arith) (omega arith)))

  -- every index of the diagonal is a row
  diagonal_row : (r : List ℕ) → In r diagonal → In r l.rows
  diagonal_row r m =
      sorted_only l.rows
      (full_has (sorted_increasing l.rows)
      (sorted_each (λ q i. lies_on_diagonal q (s.form.row_lengths q i) (all_each alike rows_told.1 q i) (below_at q l.shape (s.form.rows_lie_below q i) 0 (omega (arith, s.form.row_lengths q i, wide)) some)))
      (omega (arith, length-map (below extent) (λ i. replicate (width l) i), from_length 0 extent, s.form.rows_distinct, eqb-true (length l.rows) extent rows_told.0))
      m)

  diagonal_holds : holds (as_diagonal l) index ≡ holds l index
  diagonal_holds = decided (holds (as_diagonal l) index) (holds l index) there back
    where
      there : holds (as_diagonal l) index ≡ true → holds l index ≡ true
      there h =
          let b = both_true (is_position l.shape index) (alike (take (width l) index)) (sym (holds_diagonal (as_diagonal l) index refl) ∙ h) in
          let p : Position l.shape index = position_true l.shape index b.0 in
          let w = wide in
          let first : get_or (take (width l) index) 0 0 ≡ get_or index 0 0 = get_or-take (width l) index 0 0 w in
          let size : length (take (width l) index) ≡ width l = simp length-take (omega (arith, p.size)) in
          true_sparse l index k p
          (diagonal_row (take (width l) index) (lies_on_diagonal (take (width l) index) size b.1 (omega (arith, first, below_at index l.shape p.inside 0 (omega (arith, p.size)) some))))

      back : holds l index ≡ true → holds (as_diagonal l) index ≡ true
      back h =
          let r = sparse_true l index k h in
          holds_diagonal (as_diagonal l) index refl ∙ true_both (true_position r.0) (all_each alike rows_told.1 (take (width l) index) r.1)

-- the end changes nothing in what is held
pub end_holds : {l : Layout} → Sound l → Giving (λ x. (index : List ℕ) → holds x index ≡ holds l index) (end_of_broadcast l)
unfolding end_of_broadcast lowest
end_holds {l} s =
    giving_if P (not (is_sparse l)) _ _ (λ _ index. refl)
    (λ f. giving_if P (eqb (length l.rows) (product l.shape)) _ _
    (λ e index. full_holds l (sparse f) s.form.rows_distinct s.form.row_lengths s.form.rows_lie_below (eqb-true (length l.rows) (product l.shape) e) index)
    (λ g. by (sparse f) g (eqb (rank l) 0) refl))
  where
    P : Layout → Type 0
    P x = (index : List ℕ) → holds x index ≡ holds l index

    sparse : not (is_sparse l) ≡ false → l.kind ≡ 2
    sparse f = eqb-true l.kind 2 (not-false (is_sparse l) f)

    by : l.kind ≡ 2 → eqb (length l.rows) (product l.shape) ≡ false → (t : Bool) → eqb (rank l) 0 ≡ t →
        Giving P (lowest (12 when t ∷ []) then λ _. if (is_diagonal_in_rows l) (made (as_diagonal l)) (given l))
    by k g true e = tt
    by k g false e =
        giving_if P (is_diagonal_in_rows l) (made (as_diagonal l)) (given l)
        (λ d. giving_made P (as_diagonal l) (λ _ index. diagonal_holds s k g (omega (arith, eqb-false (rank l) 0 e)) d index))
        (λ _ index. refl)

-- and leaves a sound layout sound
end_sound : {l : Layout} → Sound l → Giving Sound (end_of_broadcast l)
end_sound {l} s = end_such Sound l s (to_dense_sound s) (λ t. t)

-- ---- the broadcast

module _ (mode : Mode) (layouts : List Layout) (rule : Rule) {l : Layout} (e : broadcast mode layouts rule ≡ given l) where
  -- the fold of the stretched layouts is a sound layout that holds what they hold
  whole_holds : (s : Steps mode layouts rule (shared_shape layouts) l) → HoldsOf rule (stretched_to mode (shared_shape layouts) layouts) s.whole
  whole_holds s =
      steps_such s Sound (HoldsOf rule) (combine_holds rule) (λ x h. (h, alone_holds rule x))
      (λ a i. stretch_sound mode a (shared_shape layouts) (s.stretches a i))

  -- it is sound
  pub broadcast_sound : Sound l
  broadcast_sound =
      let s = broadcast_steps mode layouts rule e in
      given_such Sound (end_of_broadcast s.whole) (end_sound (whole_holds s).0) s.ends

  -- it holds an index exactly if one of the stretched layouts does, or, by '*' and '/', all of them
  pub broadcast_holds : (index : List ℕ) → holds l index ≡ held_by rule (stretched_to mode (shared_shape layouts) layouts) index
  broadcast_holds index =
      let s = broadcast_steps mode layouts rule e in
      let h = whole_holds s in
      given_such (λ x. (index : List ℕ) → holds x index ≡ holds s.whole index) (end_of_broadcast s.whole) (end_holds h.0) s.ends index ∙ h.1 index
