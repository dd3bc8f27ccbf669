-- Rows that take all values on some axes: which rows they are, how many, and that none comes again. Assumes nothing.
use mathlib.Core.Path.{◌≡◌, refl, sym, ap, ◌∙◌, subst}
use mathlib.Core.Bool.{false}
use mathlib.Core.Logic.{◌⊎◌, inl, inr, ⊎_elim}
use mathlib.Core.List.Memᴰ
use mathlib.Core.List.{List, [], ◌∷◌, ◌++◌, map, Memᴰ}
use Prim.Native.Nat.{ℕ, suc, ◌*◌, ◌<◌}
use native.Mathlib.Nat.{mul-one, mul_assoc}
use native.Mathlib.Omega.{arith}
use borrow.Author.Tests.{eqb-false}
use lib.Dec.{eqb}
use lib.ListN.{length, get_or, take, drop, length-map}
use lib.Seq.{ext_get_or}
use Rattle.rules.specs.Lists.{any, gather, below, product, with}
use Rattle.rules.specs.RowsInOrder.{cmp_rows, In, Each}
use Rattle.rules.specs.Permute.{repeats}
use Rattle.rules.specs.Stretching.{every_value, take_all}
use Rattle.rules.proofs.Order.{ComparedNumbers, under, even, above, compare_numbers, cons_less, cons_same}
use Rattle.rules.proofs.Same.{neither}
use Rattle.rules.proofs.Sets.{in_same}
use Rattle.rules.proofs.Ranges.{from_length, from_only, from_has, map_increasing}
use Rattle.rules.proofs.Once.{Once, increasing_once}
use Rattle.rules.proofs.Gathering.{gather_only, gather_has, gather_each, gather_length, gather_once}
use Rattle.rules.proofs.Replaced.{with_length, with_same, with_other}

-- ---- axes

-- an axis is one of them, or it is not
pub axis_or_not : (k : ℕ) (axes : List ℕ) → Memᴰ k axes ⊎ (Memᴰ k axes → ⊥)
axis_or_not k [] = inr (λ m. Memᴰ.not-nil m)
axis_or_not k (a ∷ axes) = go (compare_numbers k a) (axis_or_not k axes)
  where
    behind : (k ≡ a → ⊥) → Memᴰ k axes ⊎ (Memᴰ k axes → ⊥) → Memᴰ k (a ∷ axes) ⊎ (Memᴰ k (a ∷ axes) → ⊥)
    behind n rest = ⊎_elim (λ m. inl (Memᴰ.tail m)) (λ o. inr (λ m. ⊎_elim n o (Memᴰ.cases_cons m))) rest

    go : ComparedNumbers k a → Memᴰ k axes ⊎ (Memᴰ k axes → ⊥) → Memᴰ k (a ∷ axes) ⊎ (Memᴰ k (a ∷ axes) → ⊥)
    go (under h) rest = behind (λ e. omega arith) rest
    go (even h) rest = inl (Memᴰ.head h)
    go (above h) rest = behind (λ e. omega arith) rest

-- an axis that does not come again is none of those behind it
pub not_again : {a k : ℕ} {axes : List ℕ} → any (eqb a) axes ≡ false → Memᴰ k axes → k ≡ a → ⊥
unfolding any
not_again {a} e (Memᴰ.head {x} {xs = axes} d) f = eqb-false a x (neither (eqb a x) (any (eqb a) axes) e).0 (sym f ∙ d)
not_again {a} e (Memᴰ.tail {x} {xs = axes} m) f = not_again (neither (eqb a x) (any (eqb a) axes) e).1 m f

-- ---- every value on one axis

-- rows with the same front compare by what stands behind it
front_same : (p q r : List ℕ) → cmp_rows (p ++ q) (p ++ r) ≡ cmp_rows q r
front_same [] q r = refl
front_same (x ∷ p) q r = cons_same {x = x} (p ++ q) (p ++ r) refl ∙ front_same p q r

module _ (shape : List ℕ) (r : List ℕ) (axis : ℕ) where
  -- such a row has some value there
  pub every_only : {x : List ℕ} → In x (every_value shape r axis) → (v : ℕ) × (v < get_or shape axis 0) × (x ≡ with axis v r)
  unfolding every_value
  every_only m =
      let k = Memᴰ.of_map (λ v. with axis v r) (below (get_or shape axis 0)) m in
      (k.0, omega (arith, from_only 0 (get_or shape axis 0) k.1), sym k.2)

  -- with each value it is there
  pub every_has : (v : ℕ) → v < get_or shape axis 0 → In (with axis v r) (every_value shape r axis)
  unfolding every_value
  every_has v h = Memᴰ.map (λ v. with axis v r) (from_has 0 (get_or shape axis 0) (omega arith) (omega arith))

  -- there are as many as values
  pub every_length : length (every_value shape r axis) ≡ get_or shape axis 0
  unfolding every_value
  every_length = rw (length-map, from_length)

  -- none comes again
  pub every_once : Once (every_value shape r axis)
  unfolding every_value with
  every_once =
      increasing_once
      (map_increasing (λ v. with axis v r)
      (λ i j h. front_same (take axis r) (i ∷ drop (suc axis) r) (j ∷ drop (suc axis) r) ∙ cons_less {x = i} {y = j} (drop (suc axis) r) (drop (suc axis) r) h)
      0 (get_or shape axis 0))

-- ---- every value on some axes

-- x is r, but on the axes it has any value of the shape
pub record Taken (shape axes r x : List ℕ) : Type 0 where
  pub size : length x ≡ length r
  pub kept : (k : ℕ) → (Memᴰ k axes → ⊥) → get_or x k 0 ≡ get_or r k 0
  pub free : (k : ℕ) → Memᴰ k axes → get_or x k 0 < get_or shape k 0

-- rows of n numbers, and axes below n
module _ (shape : List ℕ) (n : ℕ) where
  -- the rows with every value on one axis
  abbrev step : ℕ → List (List ℕ) → List (List ℕ)
  step a rows = gather (λ r. every_value shape r a) rows

  -- they have as many numbers
  step_sizes : {a : ℕ} {rows : List (List ℕ)} → a < n → Each (λ r. length r ≡ n) rows → Each (λ r. length r ≡ n) (step a rows)
  step_sizes {a} {rows} h f =
      gather_each (λ r. every_value shape r a) (λ r m x k. let i = every_only shape r a k in rw i.2 (with_length i.0 r (omega (arith, f r m)) ∙ f r m))

  -- each of the rows that take all values is a row but for the axes
  pub take_only : (axes : List ℕ) → ((k : ℕ) → Memᴰ k axes → k < n) → {rows : List (List ℕ)} → Each (λ r. length r ≡ n) rows →
      {x : List ℕ} → In x (take_all shape axes rows) → (r : List ℕ) × In r rows × Taken shape axes r x
  unfolding take_all
  take_only [] below-n f {x} m = (x, m, record { size = refl; kept = λ k o. refl; free = λ k i. absurd (Memᴰ.not-nil i) })
  take_only (a ∷ axes) below-n {rows} f {x} m =
      let i = take_only axes (λ k j. below-n k (Memᴰ.tail j)) (step_sizes (below-n a (Memᴰ.head refl)) f) m in
      let j = gather_only (λ r. every_value shape r a) rows i.1 in
      (j.0, j.1, of i.0 j.0 (f j.0 j.1) (every_only shape j.0 a j.2) i.2)
    where
      of : (y r : List ℕ) → length r ≡ n → (v : ℕ) × (v < get_or shape a 0) × (y ≡ with a v r) → Taken shape axes y x → Taken shape (a ∷ axes) r x
      of y r e i t = record {
        size = t.size ∙ ap length i.2 ∙ with_length i.0 r inside;
        kept = λ k o. t.kept k (λ m. o (Memᴰ.tail m)) ∙ ap (λ (z : List ℕ). get_or z k 0) i.2 ∙ with_other i.0 r inside k (λ d. o (Memᴰ.head d));
        free = λ k m. ⊎_elim (t.free k) (λ o. here k (Memᴰ.cases_cons m) o) (axis_or_not k axes);
      }
        where
          inside : a < length r
          inside = omega (arith, below-n a (Memᴰ.head refl))

          here : (k : ℕ) → (k ≡ a) ⊎ Memᴰ k axes → (Memᴰ k axes → ⊥) → get_or x k 0 < get_or shape k 0
          here k (inl d) o = rw (t.kept k o, i.2, d, with_same i.0 r inside) i.1
          here k (inr m) o = absurd (o m)

  -- what holds of all rows, and stays with any value on such an axis, holds of the rows that take all values
  pub take_each : (axes : List ℕ) (P : List ℕ → Type 0) → ((r : List ℕ) (axis v : ℕ) → Memᴰ axis axes → v < get_or shape axis 0 → P r → P (with axis v r)) →
      {rows : List (List ℕ)} → Each P rows → Each P (take_all shape axes rows)
  unfolding take_all
  take_each [] P stays f = f
  take_each (a ∷ axes) P stays f =
      take_each axes P (λ r axis v m. stays r axis v (Memᴰ.tail m))
      (gather_each (λ r. every_value shape r a)
      (λ r m x i. let v = every_only shape r a i in subst P (sym v.2) (stays r a v.0 (Memᴰ.head refl) v.1 (f r m))))

  -- each row but for the axes is one of the rows that take all values
  pub take_has : (axes : List ℕ) → ((k : ℕ) → Memᴰ k axes → k < n) → {rows : List (List ℕ)} → Each (λ r. length r ≡ n) rows →
      {r x : List ℕ} → In r rows → Taken shape axes r x → In x (take_all shape axes rows)
  unfolding take_all
  take_has [] below-n f {r} {x} m t = in_same (ext_get_or 0 x r t.size (λ k h. t.kept k (λ i. Memᴰ.not-nil i))) m
  take_has (a ∷ axes) below-n {rows} f {r} {x} m t =
      take_has axes (λ k j. below-n k (Memᴰ.tail j)) (step_sizes (below-n a (Memᴰ.head refl)) f)
      (gather_has (λ r. every_value shape r a) m (every_has shape r a (get_or x a 0) (t.free a (Memᴰ.head refl)))) rest
    where
      inside : a < length r
      inside = omega (arith, f r m, below-n a (Memᴰ.head refl))

      same_at : (k : ℕ) → (Memᴰ k axes → ⊥) → ComparedNumbers k a → get_or x k 0 ≡ get_or (with a (get_or x a 0) r) k 0
      same_at k o (even d) = rw (d, with_same (get_or x a 0) r inside)
      same_at k o (under h) = t.kept k (λ i. ⊎_elim (λ d. omega arith) o (Memᴰ.cases_cons i)) ∙ sym (with_other (get_or x a 0) r inside k (λ d. omega arith))
      same_at k o (above h) = t.kept k (λ i. ⊎_elim (λ d. omega arith) o (Memᴰ.cases_cons i)) ∙ sym (with_other (get_or x a 0) r inside k (λ d. omega arith))

      rest : Taken shape axes (with a (get_or x a 0) r) x
      rest = record {
        size = t.size ∙ sym (with_length (get_or x a 0) r inside);
        kept = λ k o. same_at k o (compare_numbers k a);
        free = λ k i. t.free k (Memᴰ.tail i);
      }

  -- they number the rows times the product of the extents on the axes
  pub take_length : (axes : List ℕ) (rows : List (List ℕ)) → length (take_all shape axes rows) ≡ length rows * product (map (λ a. get_or shape a 0) axes)
  unfolding take_all product
  take_length [] rows = sym (mul-one (length rows))
  take_length (a ∷ axes) rows =
      rw (take_length axes (step a rows), gather_length (λ r. every_value shape r a) {t = rows} (λ r m. every_length shape r a))
      (mul_assoc (length rows) (get_or shape a 0) (product (map (λ b. get_or shape b 0) axes)))

  -- none comes again, if no row does, the rows are 0 on the axes and no axis is there twice
  pub take_once : (axes : List ℕ) → ((k : ℕ) → Memᴰ k axes → k < n) → repeats axes ≡ false → {rows : List (List ℕ)} → Each (λ r. length r ≡ n) rows →
      Each (λ r. (k : ℕ) → Memᴰ k axes → get_or r k 0 ≡ 0) rows → Once rows → Once (take_all shape axes rows)
  unfolding take_all repeats
  take_once [] below-n e f z o = o
  take_once (a ∷ axes) below-n e {rows} f z o =
      take_once axes (λ k j. below-n k (Memᴰ.tail j)) new.1 (step_sizes (below-n a (Memᴰ.head refl)) f)
      (gather_each (λ r. every_value shape r a) zeros)
      (gather_once (λ r. every_value shape r a) o (λ r m. every_once shape r a) apart)
    where
      new : (any (eqb a) axes ≡ false) × (repeats axes ≡ false)
      new = neither (any (eqb a) axes) (repeats axes) e

      inside : (r : List ℕ) → In r rows → a < length r
      inside r m = omega (arith, f r m, below-n a (Memᴰ.head refl))

      zeros : Each (λ r. Each (λ x. (k : ℕ) → Memᴰ k axes → get_or x k 0 ≡ 0) (every_value shape r a)) rows
      zeros r m x i k j =
          let v = every_only shape r a i in
          rw (v.2, with_other v.0 r (inside r m) k (not_again new.0 j)) (z r m k (Memᴰ.tail j))

      apart : (x r s : List ℕ) → In r rows → In s rows → In x (every_value shape r a) → In x (every_value shape s a) → r ≡ s
      apart x r s m k i j = ext_get_or 0 r s (f r m ∙ sym (f s k)) (λ p h. at p (compare_numbers p a))
        where
          v : (v : ℕ) × (v < get_or shape a 0) × (x ≡ with a v r)
          v = every_only shape r a i

          w : (v : ℕ) × (v < get_or shape a 0) × (x ≡ with a v s)
          w = every_only shape s a j

          other : (p : ℕ) → (p ≡ a → ⊥) → get_or r p 0 ≡ get_or s p 0
          other p d =
              sym (with_other v.0 r (inside r m) p d) ∙ ap (λ (y : List ℕ). get_or y p 0) (sym v.2 ∙ w.2) ∙ with_other w.0 s (inside s k) p d

          at : (p : ℕ) → ComparedNumbers p a → get_or r p 0 ≡ get_or s p 0
          at p (under h) = other p (λ d. omega arith)
          at p (above h) = other p (λ d. omega arith)
          at p (even d) = rw d (z r m a (Memᴰ.head refl) ∙ sym (z s k a (Memᴰ.head refl)))
