-- Rows gathered: which they are, how many, and that none comes again. Assumes nothing.
use mathlib.Core.Path.{◌≡◌, refl}
use mathlib.Core.Logic.{⊎_elim}
use mathlib.Core.List.Memᴰ
use mathlib.Core.List.{List, [], ◌∷◌, ◌++◌, append_assoc, Memᴰ}
use Prim.Native.Nat.{ℕ, ◌*◌}
use native.Mathlib.Nat.{zero-mul, suc-mul}
use native.Mathlib.Omega.{arith}
use lib.ListN.{length, length-append}
use Rattle.rules.specs.Lists.{gather}
use Rattle.rules.specs.RowsInOrder.{In, Each}
use Rattle.rules.proofs.Sets.{in_same, each_head, each_tail}
use Rattle.rules.proofs.Once.{Once, once_nil, once_cons, append_once}

-- what is gathered of some, and of others
pub gather_append : {A B : Type 0} (f : A → List B) (xs ys : List A) → gather f (xs ++ ys) ≡ gather f xs ++ gather f ys
unfolding gather
gather_append f [] ys = refl
gather_append f (x ∷ xs) ys = rw (gather_append f xs ys, append_assoc)

module _ {A : Type 0} (f : A → List (List ℕ)) where
  -- each of them comes from an element
  pub gather_only : {x : List ℕ} (t : List A) → In x (gather f t) → (a : A) × Memᴰ a t × In x (f a)
  unfolding gather
  gather_only [] m = absurd (Memᴰ.not-nil m)
  gather_only (a ∷ t) m =
      let rest = gather_only t in
      ⊎_elim (λ k. (a, Memᴰ.head refl, k)) (λ k. let i = rest k in (i.0, Memᴰ.tail i.1, i.2)) (Memᴰ.append_cases (f a) m)

  -- what comes from an element is there
  pub gather_has : {x : List ℕ} {a : A} {t : List A} → Memᴰ a t → In x (f a) → In x (gather f t)
  unfolding gather
  gather_has (Memᴰ.head {x} {xs = t} e) n = Memᴰ.append_left (gather f t) (rw e at n)
  gather_has (Memᴰ.tail {x} m) n = Memᴰ.append_right (f x) (gather_has m n)

  -- what holds of all that comes from each element holds of all that is gathered
  pub gather_each : {P : List ℕ → Type 0} {t : List A} → ((a : A) → Memᴰ a t → Each P (f a)) → Each P (gather f t)
  gather_each {t} h x m = let k = gather_only t m in h k.0 k.1 x k.2

module _ (f : List ℕ → List (List ℕ)) where
  -- if as many come from each row, they are so many times the rows
  pub gather_length : {n : ℕ} {t : List (List ℕ)} → Each (λ r. length (f r) ≡ n) t → length (gather f t) ≡ length t * n
  unfolding gather
  gather_length {n} {t = []} h = rw zero-mul
  gather_length {n} {t = r ∷ t} h = rw (length-append, gather_length (each_tail h), each_head h, suc-mul) (omega arith)

  -- none comes again, if no row does, none comes again from one row and none from two
  pub gather_once : {t : List (List ℕ)} → Once t → Each (λ r. Once (f r)) t → ((x r s : List ℕ) → In r t → In s t → In x (f r) → In x (f s) → r ≡ s) → Once (gather f t)
  unfolding gather
  gather_once once_nil h g = once_nil
  gather_once (once_cons {x = r} {t} n o) h g =
      append_once (each_head h) (gather_once o (each_tail h) (λ x p q m k. g x p q (Memᴰ.tail m) (Memᴰ.tail k)))
      (λ x m k. let i = gather_only f t k in n (in_same (g x r i.0 (Memᴰ.head refl) (Memᴰ.tail i.1) m i.2) i.1))
