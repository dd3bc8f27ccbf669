-- `distinct`: rows that are all different are as many when they are sorted, and others are fewer. Assumes nothing.
use mathlib.Core.Path.{◌≡◌, refl, sym, ap, ◌∙◌}
use mathlib.Core.Bool.{Bool, true, false, not}
use mathlib.Core.List.{List, [], ◌∷◌}
use Prim.Native.Nat.{ℕ, zero, suc, ◌+◌, ◌*◌, ◌<◌, ◌≤◌}
use native.Mathlib.Omega.{arith}
use borrow.Author.Count.{below_none, below_more}
use borrow.Author.Tests.{eq-eqb, ne_eqb}
use lib.Dec.{eqb}
use lib.IntN.{ℤ}
use lib.ListN.{length, get_or}
use Rattle.rules.specs.Lists.{same}
use Rattle.rules.specs.RowsInOrder.{increasing, sorted, In}
use Rattle.rules.proofs.Same.{same_true, same_refl, true_not_false}
use Rattle.rules.proofs.Sets.{in_same, increasing_true}
use Rattle.rules.proofs.Sorting.{insert_length_most, insert_length_new, insert_in, sorted_increasing, sorted_has, sorted_only, sorted_length}
use Rattle.rules.proofs.Places.{in_at, nowhere}
use Rattle.rules.proofs.Soundness.{increasing_distinct}
use Rattle.tables.specs.Rows.{row_at, rows_at}
use Rattle.tables.proofs.Rows.{length_rows, row_of, row_ends}

-- ---- rows that are all different

-- row i is none of the first j rows
abbrev pub Unlike : List (List ℕ) → ℕ → ℕ → Type 0
Unlike t i j = (k : ℕ) → k < j → get_or t i [] ≡ get_or t k [] → ⊥

-- no two of the first n rows are the same
abbrev pub Different : List (List ℕ) → ℕ → Type 0
Different t n = (i : ℕ) → i < n → Unlike t i i

-- rows that are all different are as many when they are sorted
pub different_length : (t : List (List ℕ)) → Different t (length t) → length (sorted t) ≡ length t
unfolding sorted
different_length [] d = refl
different_length (x ∷ t) d =
    let new : In x t → ⊥ = nowhere (λ k h e. d (suc k) (omega arith) 0 (omega arith) e) in
    insert_length_new x (sorted t) (λ m. new (sorted_only t m))
    ∙ ap suc (different_length t (λ i h k l e. d (suc i) (omega arith) (suc k) (omega arith) e))

-- where two rows are the same, they are fewer when they are sorted
pub twice_length : (t : List (List ℕ)) (i k : ℕ) → k < i → i < length t → get_or t i [] ≡ get_or t k [] → length (sorted t) < length t
unfolding sorted
twice_length [] i k h l e = absurd (omega arith)
twice_length (x ∷ t) zero k h l e = absurd (omega arith)
twice_length (x ∷ t) (suc i) zero h l e =
    let m : In x (sorted t) = sorted_has (in_same (sym e) (in_at t i (omega arith))) in
    omega (arith, ap length (insert_in (sorted_increasing t) m), sorted_length t)
twice_length (x ∷ t) (suc i) (suc k) h l e =
    omega (arith, insert_length_most x (sorted t), twice_length t i k (omega arith) (omega arith) e)

-- ---- the rows of a slice, one after the other

-- no two of the first i rows are the same, and `twice` says so
pub record Apart (a w n i : ℕ) (s : List ℤ) (twice : Bool) : Type 0 where
  pub room : a + n * w ≤ length s
  pub upto : i ≤ n
  pub so_far : twice ≡ false
  pub different : Different (rows_at a w n s) i

-- and row i is none of the first j
pub record Alone (a w n i j : ℕ) (s : List ℤ) (twice : Bool) : Type 0 where
  pub apart : Apart a w n i s twice
  pub inside : i < n
  pub upto : j ≤ i
  pub unlike : Unlike (rows_at a w n s) i j

-- before the first row
pub start : {a w n : ℕ} {s : List ℤ} → a + n * w ≤ length s → Apart a w n 0 s false
start h = record { room = h; upto = omega arith; so_far = refl; different = below_none _ }

module _ {a w n i : ℕ} {s : List ℤ} {twice : Bool} (g : Apart a w n i s twice) where
  -- row i is to be held against those before it
  pub next : i < n → Alone a w n i 0 s twice
  next h = record { apart = g; inside = h; upto = omega arith; unlike = below_none _ }

  -- all rows are different
  pub done : {r : Bool} → r ≡ twice → n ≤ i → not r ≡ eqb (length (sorted (rows_at a w n s))) (length (rows_at a w n s))
  done e h =
      let many = length_rows a w n s in
      rw (e, g.so_far) (sym (eq-eqb _ _ (different_length (rows_at a w n s) (λ k l. g.different k (omega (arith, g.upto))))))

module _ {a w n i j : ℕ} {s : List ℤ} {twice : Bool} (g : Alone a w n i j s twice) where
  -- row i ends among the rows
  pub row_ended : i * w + w ≤ n * w
  row_ended = row_ends w g.inside

  -- row i is none of those before it
  pub row_apart : i ≤ j → Apart a w n (i + 1) s twice
  row_apart h = record {
    room = g.apart.room;
    upto = omega (arith, g.inside);
    so_far = g.apart.so_far;
    different = below_more _ _ g.apart.different (λ k l. g.unlike k (omega arith));
  }

  module _ (h : j < i) where
    -- row j ends before row i
    pub earlier_ends : j * w + w ≤ i * w
    earlier_ends = row_ends w h

    -- where rows i and j stand
    rows_are : (get_or (rows_at a w n s) i [] ≡ row_at (a + i * w) w s) × (get_or (rows_at a w n s) j [] ≡ row_at (a + j * w) w s)
    rows_are = (row_of a w n s i g.inside, row_of a w n s j (omega (arith, g.inside)))

    -- rows i and j differ
    pub turn : {r : Bool} → r ≡ same (row_at (a + i * w) w s) (row_at (a + j * w) w s) → r ≡ false → Alone a w n i (j + 1) s twice
    turn {r} e f = record {
      apart = g.apart;
      inside = g.inside;
      upto = omega arith;
      unlike = below_more _ _ g.unlike (λ q.
          let p : row_at (a + i * w) w s ≡ row_at (a + j * w) w s = sym rows_are.0 ∙ q ∙ rows_are.1 in
          true_not_false (e ∙ rw p (same_refl (row_at (a + j * w) w s))) f);
    }

    -- rows i and j are the same
    pub found : {r u : Bool} → r ≡ same (row_at (a + i * w) w s) (row_at (a + j * w) w s) → r ≡ true → u ≡ true → not u ≡ eqb (length (sorted (rows_at a w n s))) (length (rows_at a w n s))
    found e f v =
        let twin : get_or (rows_at a w n s) i [] ≡ get_or (rows_at a w n s) j [] = rows_are.0 ∙ same_true (sym e ∙ f) ∙ sym rows_are.1 in
        let fewer = twice_length (rows_at a w n s) i j h (rw length_rows g.inside) twin in
        rw v (sym (ne_eqb (length (sorted (rows_at a w n s))) (length (rows_at a w n s)) (λ q. omega arith)))

pub ruleset laws = (start, next, row_ended, row_apart, earlier_ends, turn)

-- rows that test as increasing are as many after sorting
pub increasing_differ : (t : List (List ℕ)) {b : Bool} → b ≡ increasing t → b ≡ true → true ≡ eqb (length (sorted t)) (length t)
increasing_differ t e h = sym (eq-eqb (length (sorted t)) (length t) (increasing_distinct (increasing_true t (sym e ∙ h))))
