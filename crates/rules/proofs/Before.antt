-- Rows kept by one test or by two, and the rows before one. Assumes nothing.
use mathlib.Core.Path.{◌≡◌, refl, ap, ◌∙◌}
use mathlib.Core.Bool.{Bool, true, false, ◌&&◌}
use mathlib.Core.List.{List, [], ◌∷◌}
use Prim.Native.Nat.{ℕ, zero, suc, ◌<◌}
use native.Mathlib.Omega.{arith}
use lib.ListN.{length, get_or, take}
use lib.Seq.{length-take-le}
use Rattle.rules.specs.Lists.{put_if, keep}
use Rattle.rules.specs.RowsInOrder.{cmp_rows, is_less, Each, Increasing, increasing_nil, increasing_cons}
use Rattle.rules.proofs.Order.{cmp_same, cmp_less_flip}
use Rattle.rules.proofs.Sets.{each_head, each_tail}
use Rattle.rules.proofs.Places.{in_at}

-- where every row passes, all are kept
pub keep_all : (test : List ℕ → Bool) (t : List (List ℕ)) → Each (λ r. test r ≡ true) t → keep test t ≡ t
unfolding keep
keep_all test [] f = refl
keep_all test (x ∷ t) f = rw (each_head f) (ap (λ (u : List (List ℕ)). x ∷ u) (keep_all test t (each_tail f)))

-- where no row passes, none is kept
pub keep_none : (test : List ℕ → Bool) (t : List (List ℕ)) → Each (λ r. test r ≡ false) t → keep test t ≡ []
unfolding keep
keep_none test [] f = refl
keep_none test (x ∷ t) f = rw (each_head f) (keep_none test t (each_tail f))

-- the rows that pass both tests are kept by one, then by the other
pub keep_both : (f g : List ℕ → Bool) (t : List (List ℕ)) → keep (λ r. f r && g r) t ≡ keep g (keep f t)
unfolding keep
keep_both f g [] = refl
keep_both f g (x ∷ t) = go (f x) (keep_both f g t)
  where
    go : (b : Bool) → keep (λ r. f r && g r) t ≡ keep g (keep f t) → put_if (b && g x) x (keep (λ r. f r && g r) t) ≡ keep g (put_if b x (keep f t))
    go true rest = ap (put_if (g x) x) rest
    go false rest = rest

-- of rows that increase, those less than row p are the first p
pub keep_before : {t : List (List ℕ)} → Increasing t → (p : ℕ) → p < length t → keep (λ r. is_less (cmp_rows r (get_or t p []))) t ≡ take p t
unfolding keep
keep_before increasing_nil p h = absurd (omega arith)
keep_before (increasing_cons {x} {t} l i) zero h =
    rw (cmp_same x) (keep_none (λ r. is_less (cmp_rows r x)) t (λ r m. ap is_less (cmp_less_flip x r (l r m))))
keep_before (increasing_cons {x} {t} l i) (suc p) h =
    rw (l (get_or t p []) (in_at t p (omega arith))) (ap (λ (u : List (List ℕ)). x ∷ u) (keep_before i p (omega arith)))

-- of rows that increase, p are less than row p
pub count_before : {t : List (List ℕ)} → Increasing t → (p : ℕ) → p < length t → length (keep (λ r. is_less (cmp_rows r (get_or t p []))) t) ≡ p
count_before {t} i p h = ap length (keep_before i p h) ∙ length-take-le p t (omega arith)
