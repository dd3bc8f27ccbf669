-- Four numbers by value: a list that is filled up with zeros. Assumes nothing.
use mathlib.Core.Path.{◌≡◌, refl, sym, ap, ◌∙◌}
use mathlib.Core.Bool.{Bool, not}
use mathlib.Core.List.{List, [], ◌∷◌, ◌++◌}
use Prim.Native.Nat.{ℕ, zero, suc, ◌+◌, ◌<◌, ◌≤◌}
use native.Mathlib.Omega.{arith}
use lib.Dec.{eqb}
use lib.IntN.{ℤ, pos}
use lib.ListN.{length, get_or, take, drop, replicate}
use lib.Seq.{ext_get_or}
use Rattle.rules.specs.Lists.{put_if, keep, fit_to}
use Rattle.rules.specs.Buffers.{part}
use Rattle.rules.specs.Layout.{within_product}
use Rattle.cells.specs.View.{view}
use Rattle.tables.specs.Rows.{row_at}

-- four numbers, one by one
pub four_numbers : (l : List ℕ) → length l ≡ 4 → get_or l 0 0 ∷ get_or l 1 0 ∷ get_or l 2 0 ∷ get_or l 3 0 ∷ [] ≡ l
four_numbers l e = ext_get_or 0 (get_or l 0 0 ∷ get_or l 1 0 ∷ get_or l 2 0 ∷ get_or l 3 0 ∷ []) l (sym e) by
  where
    by : (k : ℕ) → k < 4 → get_or (get_or l 0 0 ∷ get_or l 1 0 ∷ get_or l 2 0 ∷ get_or l 3 0 ∷ []) k 0 ≡ get_or l k 0
    by zero h = refl
    by (suc zero) h = refl
    by (suc (suc zero)) h = refl
    by (suc (suc (suc zero))) h = refl
    by (suc (suc (suc (suc k)))) h = absurd (omega arith)

-- the product of those that are not zero, of four as a slice holds them
pub four_within : (l : List ℕ) {a b c d : ℤ} {t : Bool} → length l ≡ 4 → a ≡ pos (get_or l 0 0) → b ≡ pos (get_or l 1 0) → c ≡ pos (get_or l 2 0) → d ≡ pos (get_or l 3 0) →
    t ≡ within_product (row_at 0 4 (a ∷ b ∷ c ∷ d ∷ [])) → t ≡ within_product l
unfolding part view
four_within l e p q r u f = f ∙ rw (p, q, r, u) (ap within_product (four_numbers l e))

-- zeros behind it fill a list up
fit_behind : (n m : ℕ) (l : List ℕ) → length l ≤ n → n ≤ length l + m → l ++ drop (length l) (replicate n 0) ≡ take n (l ++ replicate m 0)
fit_behind zero m [] h k = refl
fit_behind (suc n) zero [] h k = absurd (omega arith)
fit_behind (suc n) (suc m) [] h k = ap (λ (t : List ℕ). 0 ∷ t) (fit_behind n m [] (omega arith) (omega arith))
fit_behind zero m (x ∷ l) h k = absurd (omega arith)
fit_behind (suc n) m (x ∷ l) h k = ap (λ (t : List ℕ). x ∷ t) (fit_behind n m l (omega arith) (omega arith))

pub fit_over : (n : ℕ) (l : List ℕ) → length l ≤ n → l ++ drop (length l) (replicate n 0) ≡ fit_to n 0 l
unfolding fit_to
fit_over n l h = fit_behind n n l h (omega arith)

-- zeros are not kept, so they do not count in the product
fit_keep : (n m : ℕ) (l : List ℕ) → length l ≤ n → keep (λ e. not (eqb e 0)) (take n (l ++ replicate m 0)) ≡ keep (λ e. not (eqb e 0)) l
unfolding keep
fit_keep zero m [] h = refl
fit_keep (suc n) zero [] h = refl
fit_keep (suc n) (suc m) [] h = fit_keep n m [] (omega arith)
fit_keep zero m (x ∷ l) h = absurd (omega arith)
fit_keep (suc n) m (x ∷ l) h = ap (put_if (not (eqb x 0)) x) (fit_keep n m l (omega arith))

pub within_fit : (n : ℕ) (l : List ℕ) → length l ≤ n → within_product (fit_to n 0 l) ≡ within_product l
unfolding within_product fit_to
within_fit n l h = rw (fit_keep n n l h)
