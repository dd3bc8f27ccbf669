-- Numbers that are copied to the front of a row of equal ones are fitted to its length; a dependency is fitted so to another rank. Assumes nothing.
use mathlib.Core.Path.{◌≡◌, refl, ap}
use mathlib.Core.List.{List, [], ◌∷◌, ◌++◌}
use mathlib.Core.Logic.{inl, inr, ⊎_elim}
use Prim.Native.Nat.{ℕ, zero, suc, ◌+◌, ◌-◌, ◌≤◌}
use native.Mathlib.Numerals.{add-one}
use native.Mathlib.Omega.{arith}
use lib.IntN.{ℤ, pos}
use lib.ListN.{length, get_or, take, drop, set, replicate, length-append, length-drop, drop_of_length-le}
use lib.Seq.{take-suc-set, drop-cons}
use Rattle.rules.specs.Lists.{fit_to}
use Rattle.rules.specs.Buffers.{part, over, zeros}
use Rattle.rules.specs.Dependencies.{on_index}
use Rattle.rules.proofs.Buffers.{length_part}
use Rattle.cells.specs.View.{view}
use Rattle.cells.proofs.View.{view_set, view_over, view_part, view_get_or, view_zeros}
use Rattle.tables.specs.Rows.{row_at}
use Rattle.tables.proofs.Rows.{row_length, row_number, front_row, lent_row}
use Rattle.moving.specs.Fitting.{Smaller, FitAsked}

-- ---- a row

-- the first of enough equal numbers
same_front : (v r m j : ℕ) → r ≤ m → r ≤ j → take r (replicate m v) ≡ take r (replicate j v)
same_front v zero m j h l = refl
same_front v (suc r) zero j h l = absurd (omega arith)
same_front v (suc r) (suc m) zero h l = absurd (omega arith)
same_front v (suc r) (suc m) (suc j) h l = ap (λ (t : List ℕ). v ∷ t) (same_front v r m j (omega arith) (omega arith))

-- as many of the numbers as there is room for, and equal ones behind them
front_fits : (v : ℕ) (l : List ℕ) (r n m j : ℕ) → Smaller (length l) r n → r ≤ m → r ≤ j →
    take r (take n l ++ drop n (replicate m v)) ≡ take r (l ++ replicate j v)
front_fits v [] r zero m j p h i = same_front v r m j h i
front_fits v [] r (suc n) m j p h i = absurd (omega (arith, p.first))
front_fits v (x ∷ l) zero n m j p h i = refl
front_fits v (x ∷ l) (suc r) zero m j p h i = absurd (⊎_elim (λ e. omega arith) (λ e. omega arith) p.one)
front_fits v (x ∷ l) (suc r) (suc n) zero j p h i = absurd (omega arith)
front_fits v (x ∷ l) (suc r) (suc n) (suc m) j p h i =
    let smaller : Smaller (length l) r n =
    record {
      first = omega (arith, p.first);
      second = omega (arith, p.second);
      one = ⊎_elim (λ e. inl (omega arith)) (λ e. inr (omega arith)) p.one;
    } in
    ap (λ (t : List ℕ). x ∷ t) (front_fits v l r n m j smaller (omega arith) (omega arith))

-- which is to fit them
pub fitted_front : (v : ℕ) (l : List ℕ) (r n m : ℕ) → Smaller (length l) r n → r ≤ m → take r (take n l ++ drop n (replicate m v)) ≡ fit_to r v l
unfolding fit_to
fitted_front v l r n m p h = front_fits v l r n m r p h (omega arith)

-- ---- one dependency: `fitted`

module _ {at old rank : ℕ} {s : List ℤ} (a : FitAsked at old rank s) where
  -- its number
  abbrev number : ℕ
  number = get_or (view s) (at + old) 0

  -- a dependency with its index changed
  changed : (f : List ℕ → List ℕ) → on_index f (row_at at (old + 1) s) ≡ f (row_at at old s) ++ (number ∷ [])
  unfolding on_index
  changed f =
      let d = row_at at (old + 1) s in
      let long : length d ≡ old + 1 = row_length at (old + 1) s (omega (arith, a.room)) in
      let last : length d - 1 ≡ old = omega arith in
      let none : drop (suc old) d ≡ [] = drop_of_length-le d {i = suc old} (omega arith) in
      rw (last, ← front_row at old (old + 1) s (omega arith), drop-cons d old 0 (omega arith), none, row_number at (old + 1) old s (omega arith))

  module _ {n : ℕ} (m : Smaller old rank n) {copied : List ℤ} (lent : copied ≡ over (take (at + n - at) (drop at s)) (zeros 5)) where
    p : copied ≡ over (part at n s) (zeros 5)
    p = rw (← lent_row at n s) lent

    copied_is : view copied ≡ take n (row_at at old s) ++ drop n (replicate 5 0)
    copied_is =
        rw (p, view_over, view_part, view_zeros, length_part at n s (omega (arith, a.room, m.first)), front_row at n old s m.first)

    copied_long : length (view copied) ≡ 5
    copied_long =
        rw (p, view_over, view_part, view_zeros, length_part at n s (omega (arith, a.room, m.first)))
        (rw (length-append, row_length at n s (omega (arith, a.room, m.first)), length-drop) (omega (arith, m.first, a.old_few)))

    -- the index is fitted, and the number stands behind it
    pub is_fitted : {entry : List ℤ} → entry ≡ set copied rank (get_or s (at + old) (pos 0)) → row_at 0 (rank + 1) entry ≡ on_index (fit_to rank 0) (row_at at (old + 1) s)
    unfolding part
    is_fitted q =
        let front : take rank (view copied) ≡ fit_to rank 0 (row_at at old s) =
        rw copied_is (fitted_front 0 (row_at at old s) rank n 5 (rw (row_length at old s (omega (arith, a.room))) m) (omega (arith, a.rank_few))) in
        rw (changed (fit_to rank 0), q, view_set, ← view_get_or s (at + old), add-one, take-suc-set (view copied) rank number (omega (arith, copied_long, a.rank_few)), front)
