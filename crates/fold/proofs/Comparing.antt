-- Whether two layouts of a window are the same, and whether one divides by a sparse one. Assumes nothing.
use mathlib.Core.Path.{◌≡◌, refl, sym, ap, ◌∙◌}
use mathlib.Core.Bool.{Bool, true, false, not, ◌&&◌, ◌||◌}
use mathlib.Core.List.{List, ◌∷◌}
use Prim.Native.Nat.{ℕ, suc, ◌+◌, ◌-◌, ◌*◌, ◌≤◌}
use native.Mathlib.Nat.{mul-le-mul}
use native.Mathlib.Omega.{arith}
use borrow.Author.Tests.{eqb-true, eqb-false, eq-eqb, ne_eqb}
use lib.Dec.{eqb}
use lib.IntN.{ℤ}
use lib.ListN.{length, get_or, take, drop}
use mir.Syntax.{w64}
use mir.Val.{Fits}
use Rattle.rules.specs.Lists.{same, same_rows, gather}
use Rattle.rules.specs.Buffers.{part}
use Rattle.rules.specs.Record.{rows_of}
use Rattle.rules.specs.CountsAndForms.{eq_nonzeros}
use Rattle.rules.specs.declared.Kind.{Kind}
use Rattle.rules.specs.declared.Kind.TheVariants.{Dense, Sparse}
use Rattle.rules.specs.declared.Rule.TheVariants.{Divide}
use Rattle.rules.specs.Layout.{kind_of}
use Rattle.rules.specs.Broadcast.{divides_by_sparse}
use Rattle.rules.proofs.KindRead.{dense_number, sparse_number, not_dense, not_sparse}
use Rattle.rules.proofs.Same.{both_true, decided, same_true, same_refl, same_rows_true, same_rows_refl, lengths_differ}
use Rattle.rules.proofs.RowsRead.{rows_length, rows_cut, gather_rows}
use Rattle.cells.specs.View.{view}
use Rattle.cells.proofs.View.{view_length}
use Rattle.tables.specs.Rows.{rows_at}
use Rattle.tables.specs.Tables.{table_at}
use Rattle.parts.specs.Parts.{left, right, kind_at, dense_at, rank_at, width_at, layout_at, Window}
use Rattle.parts.proofs.Packing.{part_cons}
use Rattle.parts.proofs.Holds.{kind_most, rank_most, shape_length, dense_most, rows_few}
use Rattle.fold.specs.Folded.{same_heads}

-- ---- numbers and rows

-- kind, D, rank and as many extents decide whether kind, D and extents are the same
head_test : (k k' d d' r r' : ℕ) (p p' q : List ℕ) → length p ≡ r → length q ≡ r' → (r ≡ r' → p' ≡ q) →
    same (k ∷ d ∷ r ∷ p) (k' ∷ d' ∷ r' ∷ p') ≡ eqb k k' && eqb d d' && same p q
unfolding same
head_test k k' d d' r r' p p' q e f g = by (eqb r r') refl
  where
    group : (a b c : Bool) → a && (b && c) ≡ a && b && c
    group true b c = refl
    group false b c = refl

    by : (t : Bool) → eqb r r' ≡ t → eqb k k' && (eqb d d' && (eqb r r' && same p p')) ≡ eqb k k' && eqb d d' && same p q
    by true h = rw (h, g (eqb-true r r' h)) (group (eqb k k') (eqb d d') (same p q))
    by false h = rw (h, lengths_differ p q (λ z. eqb-false r r' h (sym e ∙ z ∙ f))) (group (eqb k k') (eqb d d') false)

-- a count and the numbers of so many rows decide whether the rows are the same
rows_test : (w n n' : ℕ) (x y : List ℕ) → same (n ∷ take (n * w) x) (n' ∷ take (n * w) y) ≡ same_rows (rows_of w n x) (rows_of w n' y)
unfolding same
rows_test w n n' x y = by (eqb n n') refl
  where
    equal : same (take (n * w) x) (take (n * w) y) ≡ same_rows (rows_of w n x) (rows_of w n y)
    equal =
        decided (same (take (n * w) x) (take (n * w) y)) (same_rows (rows_of w n x) (rows_of w n y))
        (λ e. let is : rows_of w n x ≡ rows_of w n y = sym (rows_cut w n x) ∙ ap (rows_of w n) (same_true e) ∙ rows_cut w n y in rw is (same_rows_refl (rows_of w n y)))
        (λ e. let is : take (n * w) x ≡ take (n * w) y = sym (gather_rows w n x) ∙ ap (gather (λ r. r)) (same_rows_true e) ∙ gather_rows w n y in rw is (same_refl (take (n * w) y)))

    differ : (n ≡ n' → ⊥) → (t : Bool) → same_rows (rows_of w n x) (rows_of w n' y) ≡ t → false ≡ t
    differ h true e = absurd (h (sym (rows_length w n x) ∙ ap length (same_rows_true e) ∙ rows_length w n' y))
    differ h false e = refl

    by : (t : Bool) → eqb n n' ≡ t → eqb n n' && same (take (n * w) x) (take (n * w) y) ≡ same_rows (rows_of w n x) (rows_of w n' y)
    by true h = let is : n' ≡ n = sym (eqb-true n n' h) in rw (h, is) equal
    by false h = rw h (differ (eqb-false n n' h) (same_rows (rows_of w n x) (rows_of w n' y)) refl)

-- ---- two layouts in a window

module _ {s : List ℤ} (o : Window s) where
  size : 9010 ≤ length (view s)
  size = rw view_length o.room

  -- the numbers of the heads are there
  pub heads_in : {r : ℕ} → r ≡ rank_at left s → (0 + (3 + r) ≤ length s) × (1802 + (3 + r) ≤ length s)
  heads_in e = let h = rank_most o.first in (omega (arith, o.room), omega (arith, o.room))

  -- the first numbers of a part
  head_numbers_lem : (a r : ℕ) → a + 3 + r ≤ length (view s) → part a (3 + r) (view s) ≡ kind_at a s ∷ dense_at a s ∷ rank_at a s ∷ part (a + 3) r (view s)
  head_numbers_lem a r h =
      let all : 3 + r ≡ suc (suc (suc r)) = omega arith in
      let two : a + 1 + 1 ≡ a + 2 = omega arith in
      let three : a + 2 + 1 ≡ a + 3 = omega arith in
      let last : part (a + 1 + 1) (suc r) (view s) ≡ rank_at a s ∷ part (a + 3) r (view s) =
      ap (λ (p : ℕ). part p (suc r) (view s)) two ∙ part_cons (a + 2) r (view s) (omega arith) ∙ ap (λ (p : ℕ). rank_at a s ∷ part p r (view s)) three in
      ap (λ (n : ℕ). part a n (view s)) all
      ∙ part_cons a (suc (suc r)) (view s) (omega arith)
      ∙ ap (λ (l : List ℕ). kind_at a s ∷ l) (part_cons (a + 1) (suc r) (view s) (omega arith) ∙ ap (λ (l : List ℕ). dense_at a s ∷ l) last)

  module _ {r : ℕ} (e : r ≡ rank_at left s) where
    pub heads_compared : {t : Bool} → t ≡ same (part left (3 + r) (view s)) (part right (3 + r) (view s)) → t ≡ same_heads (layout_at left s) (layout_at right s)
    unfolding layout_at
    heads_compared f =
        let few = rank_most o.first in
        let big = size in
        f ∙ rw (head_numbers_lem left r (omega (arith, e)), head_numbers_lem right r (omega (arith, e)), e)
        (head_test (kind_at left s) (kind_at right s) (dense_at left s) (dense_at right s) (rank_at left s) (rank_at right s)
        (part 3 (rank_at left s) (view s)) (part 1805 (rank_at left s) (view s)) (part 1805 (rank_at right s) (view s))
        (shape_length o.first) (shape_length o.second) (λ g. rw g))

  -- the heads differ
  pub heads_differ : {t : Bool} → t ≡ same_heads (layout_at left s) (layout_at right s) → t ≡ false → false ≡ eq_nonzeros (layout_at left s) (layout_at right s)
  unfolding eq_nonzeros
  heads_differ {t} e f = rw (sym e ∙ f)

  module _ {t : Bool} (e : t ≡ same_heads (layout_at left s) (layout_at right s)) (f : t ≡ true) {r d n : ℕ} (r-is : r ≡ rank_at left s) (d-is : d ≡ dense_at left s) (n-is : n ≡ get_or (view s) 7 0) where
    pub dense_below : d ≤ r
    dense_below = omega (arith, dense_most o.first)

    numbers_most : n * (r - d) ≤ 128 * 4
    numbers_most =
        let h = rank_most o.first in
        let x : n ≤ 128 = omega (arith, rows_few o.first) in
        let y : r - d ≤ 4 = omega arith in
        mul-le-mul x y

    pub numbers_fit : Fits w64 (n * (r - d))
    numbers_fit = record { fits = let h = numbers_most in omega arith }

    pub size_fits : Fits w64 (1 + n * (r - d))
    size_fits = record { fits = let h = numbers_most in omega arith }

    pub rows_in : (7 + (1 + n * (r - d)) ≤ length s) × (1809 + (1 + n * (r - d)) ≤ length s)
    rows_in = let h = numbers_most in (omega (arith, o.room), omega (arith, o.room))

    heads : same_heads (layout_at left s) (layout_at right s) ≡ true
    heads = sym e ∙ f

    widths : width_at right s ≡ width_at left s
    unfolding layout_at
    widths =
        let h = both_true (eqb (kind_at left s) (kind_at right s) && eqb (dense_at left s) (dense_at right s)) (same (part 3 (rank_at left s) (view s)) (part 1805 (rank_at right s) (view s))) heads in
        let k = both_true (eqb (kind_at left s) (kind_at right s)) (eqb (dense_at left s) (dense_at right s)) h.0 in
        let ranks : rank_at left s ≡ rank_at right s = sym (shape_length o.first) ∙ ap length (same_true h.1) ∙ shape_length o.second in
        omega (arith, eqb-true (dense_at left s) (dense_at right s) k.1, ranks)

    table_numbers : (a : ℕ) → a + 1 + n * (r - d) ≤ length (view s) → part a (1 + n * (r - d)) (view s) ≡ get_or (view s) a 0 ∷ take (n * (r - d)) (drop (a + 1) (view s))
    unfolding part
    table_numbers a h =
        let one : 1 + n * (r - d) ≡ suc (n * (r - d)) = omega arith in
        ap (λ (m : ℕ). part a m (view s)) one ∙ part_cons a (n * (r - d)) (view s) (omega arith)

    tables_compared : same (get_or (view s) 7 0 ∷ take (n * (r - d)) (drop 8 (view s))) (get_or (view s) 1809 0 ∷ take (n * (r - d)) (drop 1810 (view s))) ≡ same_rows (layout_at left s).rows (layout_at right s).rows
    unfolding layout_at table_at rows_at
    tables_compared =
        rw (widths, r-is, d-is, n-is) (rows_test (width_at left s) (get_or (view s) 7 0) (get_or (view s) 1809 0) (drop 8 (view s)) (drop 1810 (view s)))

    pub rows_compared : {u : Bool} → u ≡ same (part 7 (1 + n * (r - d)) (view s)) (part 1809 (1 + n * (r - d)) (view s)) → u ≡ eq_nonzeros (layout_at left s) (layout_at right s)
    unfolding eq_nonzeros
    rows_compared g =
        let most = numbers_most in
        let big = size in
        g ∙ rw (heads, table_numbers 7 (omega arith), table_numbers 1809 (omega arith)) tables_compared

-- ---- the kinds

module _ (s : List ℤ) {k : Kind} (e : k ≡ kind_of (kind_at left s)) where
  left_other : (k ≡ Sparse → ⊥) → eqb (layout_at left s).kind 2 ≡ false
  unfolding layout_at
  left_other n = ne_eqb _ 2 (not_sparse e n)

  -- the left layout is not sparse
  pub divides_other : (k ≡ Sparse → ⊥) → false ≡ divides_by_sparse Divide (layout_at left s) (layout_at right s)
  divides_other n = rw (left_other n)

  module _ (h : Window s) (z : k ≡ Sparse) {m : Kind} (f : m ≡ kind_of (kind_at right s)) where
    left_sparse : eqb (layout_at left s).kind 2 ≡ true
    unfolding layout_at
    left_sparse = eq-eqb _ 2 (sparse_number e z (kind_most h.first))

    right_dense : m ≡ Dense → eqb (layout_at right s).kind 0 ≡ true
    unfolding layout_at
    right_dense g = eq-eqb _ 0 (dense_number f g)

    right_other : (m ≡ Dense → ⊥) → eqb (layout_at right s).kind 0 ≡ false
    unfolding layout_at
    right_other g = ne_eqb _ 0 (not_dense f g)

    -- it is, and the right one is dense
    pub divides_dense : m ≡ Dense → true ≡ divides_by_sparse Divide (layout_at left s) (layout_at right s)
    divides_dense g = rw (left_sparse, right_dense g)

    -- or is not
    pub divides_told : (m ≡ Dense → ⊥) → {r : Bool} → r ≡ eq_nonzeros (layout_at left s) (layout_at right s) → not r ≡ divides_by_sparse Divide (layout_at left s) (layout_at right s)
    divides_told g t = rw (left_sparse, right_other g, t)

pub ruleset kind_laws = (divides_other, divides_dense, divides_told)
