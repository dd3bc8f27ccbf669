-- What a contracted layout holds. Assumes nothing.
use mathlib.Core.Path.{◌≡◌, refl, sym, ap, ◌∙◌}
use mathlib.Core.Bool.{Bool, true, false, ◌&&◌}
use mathlib.Core.List.Memᴰ
use mathlib.Core.List.{List, [], ◌∷◌, ◌++◌, map}
use Prim.Native.Nat.{ℕ, suc, ◌-◌, ◌≤◌, ◌<◌}
use native.Mathlib.Omega.{arith}
use lib.ListN.{length, get_or, take, length-append, get_or-append}
use lib.Seq.{take-append_seam, take-append-le, take_at, take_all, take-suc, get_or-append_seam, get_or-take}
use Rattle.rules.specs.Lists.{if}
use Rattle.rules.specs.RowsInOrder.{sorted, among, In, Each}
use Rattle.rules.specs.Layout.{Layout, rank, width, is_dense, is_diagonal, alike}
use Rattle.rules.specs.Soundness.{WellFormed}
use Rattle.rules.specs.CountsAndForms.{to_dense}
use Rattle.rules.specs.ContractLastAxis.{shortened, over_shorter, contracted}
use Rattle.rules.specs.Holding.{is_position, holds}
use Rattle.rules.proofs.Order.{ComparedNumbers, under, even, above, compare_numbers}
use Rattle.rules.proofs.Same.{both_true}
use Rattle.rules.proofs.Sets.{in_same}
use Rattle.rules.proofs.Sorting.{sorted_has, sorted_only, sorted_sorted, sorted_each}
use Rattle.rules.proofs.Tests.{true_both}
use Rattle.rules.proofs.Soundness.{OneKind, dense_case, diagonal_case, sparse_case, one_kind}
use Rattle.rules.proofs.Alike.{alike_at, alike_take, alike_more, short_alike}
use Rattle.rules.proofs.Low.{below_at, at_below}
use Rattle.rules.proofs.Holding.{Position, position_true, true_position, holds_position, holds_dense, sparse_true, true_sparse, whole_front, held_alike, diagonal_extents}
use Rattle.rules.proofs.Changed.{each_map}
use Rattle.rules.proofs.Contracting.{shortened_length, take_below, same_width, contracted_dense_axis, contracted_diagonal, contracted_to_dense, contracted_rows}
use Rattle.rules.proofs.Full.{dense_if_full_holds}

-- ---- one more component

-- numbers with one more behind them, without that one
shortened_more : (index : List ℕ) (v : ℕ) → shortened (index ++ (v ∷ [])) ≡ index
shortened_more index v = take_at index (v ∷ []) (length (index ++ (v ∷ [])) - 1) (omega (arith, length-append index (v ∷ [])))

-- numbers without the last one, and that one behind them
more_shortened : (r : List ℕ) → 0 < length r → shortened r ++ (get_or r (length r - 1) 0 ∷ []) ≡ r
more_shortened r h = sym (take-suc r (length r - 1) 0 (omega arith)) ∙ take_all (suc (length r - 1)) r (omega arith)

-- without the last component a position is one of the shorter shape
shortened_position : {shape r : List ℕ} → Position shape r → Position (shortened shape) (shortened r)
shortened_position {shape} {r} p = record {
  size = omega (arith, shortened_length shape, shortened_length r, p.size);
  inside = take_below (length r - 1) (length shape - 1) r shape p.inside;
}

module _ (shape index : List ℕ) (v : ℕ) where
  shorter_position : Position shape (index ++ (v ∷ [])) → Position (shortened shape) index
  shorter_position p = rw (shortened_more index v) at (shortened_position p)

  -- with a component below the last extent it is one of the shape
  longer_position : 0 < length shape → Position (shortened shape) index → v < get_or shape (length shape - 1) 0 → Position shape (index ++ (v ∷ []))
  longer_position h p g = record {
    size = length-append index (v ∷ []) ∙ omega (arith, size);
    inside = at_below (index ++ (v ∷ [])) shape (λ k i. at k (omega (arith, length-append index (v ∷ []))) (compare_numbers k (length index)));
  }
    where
      size : length index ≡ length shape - 1
      size = p.size ∙ shortened_length shape

      at : (k : ℕ) → k ≤ length index → ComparedNumbers k (length index) → get_or (index ++ (v ∷ [])) k 0 < get_or shape k 0
      at k i (under o) =
          rw (get_or-append index (v ∷ []) 0 k o)
          (rw (get_or-take (length shape - 1) shape k 0 (omega (arith, size))) at (below_at index (shortened shape) p.inside k o (omega (arith, p.size))))
      at k i (even e) = rw (e, get_or-append_seam index v [] 0, size) g
      at k i (above o) = absurd (omega arith)

-- ---- by kind

-- some value on the last axis makes it held
abbrev pub HeldBehind : Layout → List ℕ → Type 0
HeldBehind l index = (v : ℕ) × (holds l (index ++ (v ∷ [])) ≡ true)

-- what is asked of the first R - D components of a position, by the kind
abbrev asked : Layout → List ℕ → Bool
asked l front = if (is_dense l) true (if (is_diagonal l) (alike front) (among front l.rows))

module _ {l : Layout} (w : WellFormed l) (g : 0 < l.dense) where
  -- with a dense axis the same is asked of a position of the shorter shape, whatever the last extent is
  fewer_holds : (index : List ℕ) → holds (contracted l) index ≡ is_position (shortened l.shape) index && asked l (take (width l) index)
  unfolding holds
  fewer_holds index = rw (contracted_dense_axis l g, same_width w g) refl

  -- the component on the last axis is none of the first R - D
  front_same : (index : List ℕ) (v : ℕ) → length index ≡ rank l - 1 → take (width l) (index ++ (v ∷ [])) ≡ take (width l) index
  front_same index v e = take-append-le (width l) index (v ∷ []) (omega arith)

  fewer_there : (index : List ℕ) (v : ℕ) → holds l (index ++ (v ∷ [])) ≡ true → holds (contracted l) index ≡ true
  unfolding holds
  fewer_there index v e =
      let p = shorter_position l.shape index v (holds_position l (index ++ (v ∷ [])) e) in
      let front = (both_true (is_position l.shape (index ++ (v ∷ []))) (asked l (take (width l) (index ++ (v ∷ [])))) e).1 in
      fewer_holds index ∙ true_both (true_position p) (rw (front_same index v (p.size ∙ shortened_length l.shape)) at front)

  fewer_back : 0 < get_or l.shape (rank l - 1) 0 → (index : List ℕ) → holds (contracted l) index ≡ true → HeldBehind l index
  unfolding holds
  fewer_back o index e =
      let on = both_true (is_position (shortened l.shape) index) (asked l (take (width l) index)) (sym (fewer_holds index) ∙ e) in
      let p = position_true (shortened l.shape) index on.0 in
      let front = front_same index 0 (p.size ∙ shortened_length l.shape) in
      (0, true_both (true_position (longer_position l.shape index 0 (omega (arith, w.dense_most)) p o)) (rw front on.1))

module _ {l : Layout} (w : WellFormed l) (k : l.kind ≡ 1) (z : l.dense ≡ 0) where
  -- a diagonal: of the shorter shape, and alike
  diagonal_there : (index : List ℕ) (v : ℕ) → holds l (index ++ (v ∷ [])) ≡ true → holds (contracted l) index ≡ true
  unfolding to_dense
  diagonal_there index v e = by (compare_numbers 2 (rank l))
    where
      p : Position l.shape (index ++ (v ∷ []))
      p = holds_position l (index ++ (v ∷ [])) e

      q : Position (shortened l.shape) index
      q = shorter_position l.shape index v p

      same : alike index ≡ true
      same = rw (take-append_seam index (v ∷ [])) at (alike_take (length index) (index ++ (v ∷ [])) (sym (held_alike l k z p) ∙ e))

      dense : rank l ≤ 2 → holds (contracted l) index ≡ true
      dense h = rw (contracted_to_dense l k z h) (holds_dense (to_dense (over_shorter l 0 [])) index refl ∙ true_position q)

      by : ComparedNumbers 2 (rank l) → holds (contracted l) index ≡ true
      by (under h) = rw (contracted_diagonal l k z h) (held_alike (over_shorter l 0 []) k refl q ∙ same)
      by (even h) = dense (omega arith)
      by (above h) = dense (omega arith)

  -- what it holds is a position of the shorter shape, and alike
  diagonal_contracted : (index : List ℕ) → holds (contracted l) index ≡ true → Position (shortened l.shape) index × (alike index ≡ true)
  unfolding to_dense
  diagonal_contracted index e = by (compare_numbers 2 (rank l))
    where
      dense : rank l ≤ 2 → Position (shortened l.shape) index × (alike index ≡ true)
      dense h =
          let p = holds_position (to_dense (over_shorter l 0 [])) index (rw (contracted_to_dense l k z h) at e) in
          (p, short_alike index (omega (arith, p.size, shortened_length l.shape)))

      by : ComparedNumbers 2 (rank l) → Position (shortened l.shape) index × (alike index ≡ true)
      by (under h) =
          let f : holds (over_shorter l 0 []) index ≡ true = rw (contracted_diagonal l k z h) at e in
          let p = holds_position (over_shorter l 0 []) index f in
          (p, sym (held_alike (over_shorter l 0 []) k refl p) ∙ f)
      by (even h) = dense (omega arith)
      by (above h) = dense (omega arith)

  -- the first component is below the last extent
  first_fits : 0 < get_or l.shape (rank l - 1) 0 → (index : List ℕ) → Position (shortened l.shape) index → get_or index 0 0 < get_or l.shape (rank l - 1) 0
  first_fits g [] p = g
  first_fits g (i ∷ index) p =
      let long = shortened_length l.shape in
      let first = below_at (i ∷ index) (shortened l.shape) p.inside 0 (omega arith) (omega (arith, p.size)) in
      let kept = get_or-take (rank l - 1) l.shape 0 0 (omega (arith, p.size)) in
      omega (arith, first, kept, alike_at l.shape (diagonal_extents w k z) (rank l - 1) (omega (arith, p.size)))

  diagonal_back : 0 < rank l → 0 < get_or l.shape (rank l - 1) 0 → (index : List ℕ) → holds (contracted l) index ≡ true → HeldBehind l index
  diagonal_back h g index e =
      let on = diagonal_contracted index e in
      (get_or index 0 0, held_alike l k z (longer_position l.shape index (get_or index 0 0) h on.0 (first_fits g index on.0)) ∙ alike_more index on.1)

module _ {l : Layout} (w : WellFormed l) (k : l.kind ≡ 2) (z : l.dense ≡ 0) where
  -- rows without the last number, over the shorter shape
  abbrev shorter : Layout
  shorter = over_shorter l 0 (sorted (map shortened l.rows))

  -- a row is a position
  row_position : Each (Position l.shape) l.rows
  row_position r m = record { size = omega (arith, w.row_lengths r m); inside = w.rows_lie_below r m }

  -- turned dense or not, the same is held
  rows_same : (index : List ℕ) → holds (contracted l) index ≡ holds shorter index
  rows_same index =
      rw (contracted_rows l k z)
      (dense_if_full_holds shorter k (ap length (sorted_sorted (map shortened l.rows)))
      (λ r m. omega (arith, (shorter_row r m).size)) (λ r m. (shorter_row r m).inside) index)
    where
      shorter_row : Each (Position (shortened l.shape)) (sorted (map shortened l.rows))
      shorter_row = sorted_each (each_map (Position (shortened l.shape)) shortened (λ r p. shortened_position p) row_position)

  rows_there_lem : (index : List ℕ) (v : ℕ) → holds l (index ++ (v ∷ [])) ≡ true → holds (contracted l) index ≡ true
  rows_there_lem index v e =
      let on = sparse_true l (index ++ (v ∷ [])) k e in
      let p = shorter_position l.shape index v on.0 in
      let m = Memᴰ.map shortened (in_same (sym (whole_front l z on.0)) on.1) in
      rows_same index ∙ true_sparse shorter index k p (in_same (whole_front shorter refl p) (sorted_has (rw (shortened_more index v) at m)))

  rows_back : 0 < rank l → (index : List ℕ) → holds (contracted l) index ≡ true → HeldBehind l index
  rows_back h index e =
      let on = sparse_true shorter index k (sym (rows_same index) ∙ e) in
      let i = Memᴰ.of_map shortened l.rows (sorted_only (map shortened l.rows) (in_same (sym (whole_front shorter refl on.0)) on.1)) in
      (get_or i.0 (length i.0 - 1) 0, row i.0 i.1 i.2)
    where
      row : (r : List ℕ) → In r l.rows → shortened r ≡ index → holds l (index ++ (get_or r (length r - 1) 0 ∷ [])) ≡ true
      row r m d =
          let p = row_position r m in
          rw (← d, more_shortened r (omega (arith, p.size))) (true_sparse l r k p (in_same (whole_front l z p) m))

-- ---- what is held

module _ {l : Layout} (w : WellFormed l) where
  -- contracted, a layout holds a position if some value on the last axis made it held
  pub contracted_holds : (index : List ℕ) → HeldBehind l index → holds (contracted l) index ≡ true
  contracted_holds index (v, e) = by (compare_numbers 0 l.dense) (one_kind w)
    where
      by : ComparedNumbers 0 l.dense → OneKind l → holds (contracted l) index ≡ true
      by (under g) kind = fewer_there w g index v e
      by (above g) kind = absurd (omega arith)
      by (even z) (dense_case k) = absurd (omega (arith, w.dense_all k, (holds_position l (index ++ (v ∷ [])) e).size, length-append index (v ∷ [])))
      by (even z) (diagonal_case k) = diagonal_there w k (sym z) index v e
      by (even z) (sparse_case k) = rows_there_lem w k (sym z) index v e

  -- and only then, if it is sparse without dense axes or the last extent is not 0
  pub holds_contracted : 0 < rank l → (((l.kind ≡ 2) × (l.dense ≡ 0) → ⊥) → 0 < get_or l.shape (rank l - 1) 0) → (index : List ℕ) → holds (contracted l) index ≡ true → HeldBehind l index
  holds_contracted h o index e = by (compare_numbers 0 l.dense) (one_kind w)
    where
      by : ComparedNumbers 0 l.dense → OneKind l → HeldBehind l index
      by (under g) kind = fewer_back w g (o (λ both. omega (arith, both.1))) index e
      by (above g) kind = absurd (omega arith)
      by (even z) (dense_case k) = absurd (omega (arith, w.dense_all k))
      by (even z) (diagonal_case k) = diagonal_back w k (sym z) h (o (λ both. omega (arith, both.0))) index e
      by (even z) (sparse_case k) = rows_back w k (sym z) h index e

  -- over any last extent, 0 too, a sparse layout with dense axes then holds the positions of the shorter shape whose first R - D components are a row
  pub contracted_sparse_holds : l.kind ≡ 2 → 0 < l.dense → (index : List ℕ) → holds (contracted l) index ≡ is_position (shortened l.shape) index && among (take (width l) index) l.rows
  contracted_sparse_holds k g index = fewer_holds w g index ∙ rw k refl

-- where the last extent is 0 nothing was held before
pub empty_axis_holds_nothing : (l : Layout) → 0 < rank l → get_or l.shape (rank l - 1) 0 ≡ 0 → (index : List ℕ) → holds l index ≡ false
empty_axis_holds_nothing l h z index = by (holds l index) refl
  where
    by : (t : Bool) → holds l index ≡ t → holds l index ≡ false
    by true e =
        let p = holds_position l index e in
        absurd (omega (arith, below_at index l.shape p.inside (rank l - 1) (omega (arith, p.size)) (omega arith)))
    by false e = e
