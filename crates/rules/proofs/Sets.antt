-- Rows that increase, as sets: which rows they hold decides what they are. Assumes nothing.
use mathlib.Core.Path.{◌≡◌, refl, sym, ◌∙◌, subst}
use mathlib.Core.Bool.{Bool, true, false, ◌||◌}
use mathlib.Core.Logic.{◌⊎◌, inl, inr, ⊎_elim}
use mathlib.Core.List.Memᴰ
use mathlib.Core.List.{List, [], ◌∷◌, ◌++◌}
use Prim.Native.Nat.{ℕ}
use Rattle.std.specs.declared.cmp.Ordering.{Ordering}
use Rattle.std.specs.declared.cmp.Ordering.TheVariants.{Less, Equal, Greater}
use Rattle.rules.specs.Lists.{any, same}
use Rattle.rules.specs.RowsInOrder.{cmp_rows, is_less, increasing, among, In, Each, Least, Increasing, increasing_nil, increasing_cons}
use Rattle.rules.proofs.Order.{cmp_less_trans, less_not_same, cmp_less_flip, less_not_greater}
use Rattle.rules.proofs.Same.{both_true, true_not_false, same_true, same_refl}

-- ---- which rows

-- the same row is one of t
pub in_same : {r x : List ℕ} {t : List (List ℕ)} → x ≡ r → In r t → In x t
in_same e m = Memᴰ.cast e m

-- a row that tests as one of t is one
pub among_in : (r : List ℕ) (t : List (List ℕ)) → among r t ≡ true → In r t
unfolding any
among_in r [] e = absurd (true_not_false e refl)
among_in r (x ∷ t) e = go (same r x) refl (among_in r t) e
  where
    go : (b : Bool) → same r x ≡ b → (among r t ≡ true → In r t) → b || among r t ≡ true → In r (x ∷ t)
    go true s rest h = Memᴰ.head (same_true s)
    go false s rest h = Memᴰ.tail (rest h)

-- a row of t tests as one
pub in_among : {r : List ℕ} {t : List (List ℕ)} → In r t → among r t ≡ true
unfolding any
in_among {r} (Memᴰ.head e) = rw (← e, same_refl r)
in_among {r} (Memᴰ.tail {x} {xs = t} m) = go (same r x) (in_among m)
  where
    go : (b : Bool) → among r t ≡ true → b || among r t ≡ true
    go true h = refl
    go false h = h

-- a row that tests as none of t is none
pub not_among : {r : List ℕ} {t : List (List ℕ)} → among r t ≡ false → In r t → ⊥
not_among e m = true_not_false (in_among m) e

-- a row that is none of t tests so
pub not_in_among : (r : List ℕ) (t : List (List ℕ)) → (In r t → ⊥) → among r t ≡ false
not_in_among r t n = go (among r t) refl
  where
    go : (b : Bool) → among r t ≡ b → b ≡ false
    go true e = absurd (n (among_in r t e))
    go false e = refl

-- a row is one of t, or it is not
pub in_or_not : (r : List ℕ) (t : List (List ℕ)) → In r t ⊎ (In r t → ⊥)
in_or_not r t = go (among r t) refl
  where
    go : (b : Bool) → among r t ≡ b → In r t ⊎ (In r t → ⊥)
    go true e = inl (among_in r t e)
    go false e = inr (not_among e)

-- ---- what holds of every row

-- P holds of every row of none
pub each_nil : (P : List ℕ → Type 0) → Each P []
each_nil P r m = absurd (Memᴰ.not-nil m)

module _ {P : List ℕ → Type 0} where
  -- P holds of every row where it does of the first and of the others
  pub each_cons : {x : List ℕ} {t : List (List ℕ)} → P x → Each P t → Each P (x ∷ t)
  each_cons h f r m = ⊎_elim (λ e. subst P (sym e) h) (f r) (Memᴰ.cases_cons m)

  -- P holds of the first row where it does of every row
  pub each_head : {x : List ℕ} {t : List (List ℕ)} → Each P (x ∷ t) → P x
  each_head {x} f = f x (Memᴰ.head refl)

  -- P holds of the others where it does of every row
  pub each_tail : {x : List ℕ} {t : List (List ℕ)} → Each P (x ∷ t) → Each P t
  each_tail f r m = f r (Memᴰ.tail m)

  -- P holds of the rows of both where it does of those of each
  pub each_append : {a b : List (List ℕ)} → Each P a → Each P b → Each P (a ++ b)
  each_append {a} f g r m = ⊎_elim (f r) (g r) (Memᴰ.append_cases a m)

  -- P holds of the rows of the first where it does of those of both
  pub each_left : (a b : List (List ℕ)) → Each P (a ++ b) → Each P a
  each_left a b f r m = f r (Memᴰ.append_left b m)

  -- P holds of the rows of the second where it does of those of both
  pub each_right : (a b : List (List ℕ)) → Each P (a ++ b) → Each P b
  each_right a b f r m = f r (Memᴰ.append_right a m)

-- P holds of every row of one row alone where it does of that
pub each_one : (P : List ℕ → Type 0) {x : List ℕ} → P x → Each P (x ∷ [])
each_one P h = each_cons h (each_nil P)

-- every row of a is one of b
abbrev pub Subset : List (List ℕ) → List (List ℕ) → Type 0
Subset a b = Each (λ r. In r b) a

-- ---- rows that increase

-- one row increases
pub one_increasing : (x : List ℕ) → Increasing (x ∷ [])
one_increasing x = increasing_cons (each_nil _) increasing_nil

-- the first row is less than the others
pub head_least : {x y : List ℕ} {t : List (List ℕ)} → Increasing (x ∷ t) → In y t → cmp_rows x y ≡ Less
head_least {y} (increasing_cons l i) m = l y m

-- the rows behind the first one increase
pub tail_increasing : {x : List ℕ} {t : List (List ℕ)} → Increasing (x ∷ t) → Increasing t
tail_increasing (increasing_cons l i) = i

-- rows that increase do so behind a row that is less than the first of them
pub next_increasing : {x y : List ℕ} {t : List (List ℕ)} → cmp_rows x y ≡ Less → Increasing (y ∷ t) → Increasing (x ∷ y ∷ t)
next_increasing {x} {y} e (increasing_cons l i) = increasing_cons (each_cons e (λ z m. cmp_less_trans x y z e (l z m))) (increasing_cons l i)

-- rows that increase, behind rows that increase and are all less
pub append_increasing : {a b : List (List ℕ)} → Increasing a → Increasing b → Each (λ x. Least x b) a → Increasing (a ++ b)
append_increasing increasing_nil j f = j
append_increasing (increasing_cons l i) j f = increasing_cons (each_append l (each_head f)) (append_increasing i j (each_tail f))

-- the front of rows that increase does so
pub left_increasing : (a b : List (List ℕ)) → Increasing (a ++ b) → Increasing a
left_increasing [] b i = increasing_nil
left_increasing (x ∷ a) b i = increasing_cons (λ y m. head_least i (Memᴰ.append_left b m)) (left_increasing a b (tail_increasing i))

-- the end of rows that increase does so
pub right_increasing : (a b : List (List ℕ)) → Increasing (a ++ b) → Increasing b
right_increasing [] b i = i
right_increasing (x ∷ a) b i = right_increasing a b (tail_increasing i)

-- an order that tests as less is less
less_is : (o : Ordering) → is_less o ≡ true → o ≡ Less
less_is Less e = refl
less_is Equal e = cc
less_is Greater e = cc

-- rows that test as increasing increase
pub increasing_true : (t : List (List ℕ)) → increasing t ≡ true → Increasing t
unfolding increasing
increasing_true [] e = increasing_nil
increasing_true (x ∷ []) e = one_increasing x
increasing_true (x ∷ y ∷ t) e =
    let h = both_true (is_less (cmp_rows x y)) (increasing (y ∷ t)) e in
    next_increasing (less_is (cmp_rows x y) h.0) (increasing_true (y ∷ t) h.1)

-- rows that increase test so
pub true_increasing : {t : List (List ℕ)} → Increasing t → increasing t ≡ true
unfolding increasing
true_increasing increasing_nil = refl
true_increasing (increasing_cons {t = []} l i) = refl
true_increasing (increasing_cons {t = y ∷ t} l i) = rw (each_head l) (true_increasing i)

-- ---- the rows decide

-- rows that increase and hold each other's first row have the same first row
heads : {x y : List ℕ} {s t : List (List ℕ)} → Increasing (x ∷ s) → Increasing (y ∷ t) → In x (y ∷ t) → In y (x ∷ s) → x ≡ y
heads {x} {y} i j m n =
    ⊎_elim (λ e. e)
    (λ p. ⊎_elim (λ e. sym e)
    (λ q. absurd (less_not_greater (head_least i q) (cmp_less_flip y x (head_least j p))))
    (Memᴰ.cases_cons n))
    (Memᴰ.cases_cons m)

-- behind the same first row stand the same rows
others : {x y : List ℕ} {s t : List (List ℕ)} → x ≡ y → Increasing (x ∷ s) → Subset (x ∷ s) (y ∷ t) → Subset s t
others {x} {y} e i f r m =
    ⊎_elim (λ d. absurd (less_not_same x (head_least i (in_same (e ∙ sym d) m)))) (λ k. k) (Memᴰ.cases_cons (f r (Memᴰ.tail m)))

-- rows that increase are determined by which rows they are
pub same_rows : {a b : List (List ℕ)} → Increasing a → Increasing b → Subset a b → Subset b a → a ≡ b
same_rows increasing_nil increasing_nil f g = refl
same_rows increasing_nil (increasing_cons {x} l j) f g = absurd (Memᴰ.not-nil (g x (Memᴰ.head refl)))
same_rows (increasing_cons {x} l i) increasing_nil f g = absurd (Memᴰ.not-nil (f x (Memᴰ.head refl)))
same_rows (increasing_cons {x} {t = s} l i) (increasing_cons {x = y} {t} k j) f g =
    let e : x ≡ y = heads (increasing_cons l i) (increasing_cons k j) (f x (Memᴰ.head refl)) (g y (Memᴰ.head refl)) in
    let rest : s ≡ t = same_rows i j (others e (increasing_cons l i) f) (others (sym e) (increasing_cons k j) g) in
    cc
