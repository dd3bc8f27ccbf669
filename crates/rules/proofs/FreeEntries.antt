-- Entries that are free on some axes: on one set of axes after the other, on none, and inside a shape. Assumes nothing.
use mathlib.Core.Path.{◌≡◌, refl, sym, ap, ◌∙◌}
use mathlib.Core.Bool.{Bool, true, false, not, ◌&&◌, ◌||◌}
use mathlib.Core.List.{List, [], ◌∷◌, ◌++◌, map}
use Prim.Native.Nat.{ℕ, suc, ◌+◌, ◌-◌, ◌<◌}
use native.Mathlib.Omega.{arith}
use borrow.Author.Tests.{leb-false}
use lib.Dec.{eqb, leb}
use lib.ListN.{length, get_or, length-append, length-take, length-map, get_or-append}
use lib.Seq.{take-suc, take_all, get_or-take, ext_get_or}
use Rattle.rules.specs.Lists.{if, below, fit_to}
use Rattle.rules.specs.Dependencies.{index_of}
use Rattle.rules.specs.Holding.{is_position}
use Rattle.rules.specs.Stretching.{shared_axes_fit, is_stretched}
use Rattle.rules.specs.ComputedFrom.{Freely}
use Rattle.rules.proofs.Order.{ComparedNumbers, under, even, above, compare_numbers}
use Rattle.rules.proofs.Same.{neither, true_not_false}
use Rattle.rules.proofs.Replaced.{fit_at}
use Rattle.rules.proofs.Ranges.{from_length, from_at, map_at}
use Rattle.rules.proofs.Low.{below_at, at_below}
use Rattle.rules.proofs.Axes.{unstretched_same}
use Rattle.rules.proofs.Holding.{Position, position_true, true_position}
use Rattle.rules.proofs.EntriesKept.{entry_number}

-- ---- an entry and its index

module _ {n : ℕ} (e : List ℕ) (s : length e ≡ suc n) where
  -- all but the number
  pub index_length : length (index_of e) ≡ n
  index_length = rw length-take (omega arith)

  -- component by component
  pub index_at : (k : ℕ) → k < n → get_or (index_of e) k 0 ≡ get_or e k 0
  index_at k h = get_or-take (length e - 1) e k 0 (omega arith)

  -- fitted to its own rank
  pub fitted_at : (k : ℕ) → k < n → get_or (fit_to n 0 (index_of e)) k 0 ≡ get_or e k 0
  fitted_at k h = fit_at n 0 (index_of e) k h (omega (arith, index_length)) ∙ index_at k h

  -- the index, and the number behind it
  pub entry_split : e ≡ index_of e ++ (get_or e n 0 ∷ [])
  entry_split =
      let last : length e - 1 ≡ n = omega arith in
      sym (take_all (suc n) e (omega arith)) ∙ take-suc e n 0 (omega arith) ∙ rw last

-- ---- entries of one shape

module _ (free : ℕ → Bool) (shape : List ℕ) where
  -- where no axis is free, an entry comes from itself alone
  pub nothing_free : {d e : List ℕ} → length d ≡ suc (length shape) → ((k : ℕ) → k < length shape → free k ≡ false) → Freely free shape shape d e → e ≡ d
  nothing_free {d} {e} s none f = ext_get_or 0 e d (omega (arith, f.size)) (λ k h. at k (compare_numbers k (length shape)) (omega (arith, f.size)))
    where
      at : (k : ℕ) → ComparedNumbers k (length shape) → k < suc (length shape) → get_or e k 0 ≡ get_or d k 0
      at k (under h) g = f.agrees k h (none k h) ∙ fitted_at d s k h
      at k (even h) g = rw h f.number
      at k (above h) g = absurd (omega arith)

  -- an entry comes from itself, if it lies below the extents on the free axes
  pub from_itself : {e : List ℕ} → length e ≡ suc (length shape) → ((k : ℕ) → k < length shape → free k ≡ true → get_or e k 0 < get_or shape k 0) → Freely free shape shape e e
  from_itself {e} s low = record { size = omega arith; number = refl; agrees = λ k h _. sym (fitted_at e s k h); inside = low }

module _ (f g : ℕ → Bool) {old shape : List ℕ} {d e : List ℕ} where
  -- free on some axes, and then on others, an entry is free on both
  pub free_both : {m : List ℕ} → Freely f old shape d m → Freely g shape shape m e → Freely (λ k. f k || g k) old shape d e
  free_both {m} p q = record {
    size = q.size;
    number = q.number ∙ p.number;
    agrees = λ k h n. let no = neither (f k) (g k) n in kept k h no.1 ∙ p.agrees k h no.0;
    inside = λ k h t. inside k h (g k) refl t;
  }
    where
      kept : (k : ℕ) → k < length shape → g k ≡ false → get_or e k 0 ≡ get_or m k 0
      kept k h n = q.agrees k h n ∙ fitted_at m (omega (arith, p.size)) k h

      inside : (k : ℕ) → k < length shape → (t : Bool) → g k ≡ t → f k || g k ≡ true → get_or e k 0 < get_or shape k 0
      inside k h true n t = q.inside k h n
      inside k h false n t = rw (kept k h n) (p.inside k h (first (f k) (g k) t n))
        where
          first : (s t : Bool) → s || t ≡ true → t ≡ false → s ≡ true
          first true t o n = refl
          first false t o n = absurd (true_not_false o n)

  -- and what is free on both is so one after the other
  pub freed_in_turn : Freely (λ k. f k || g k) old shape d e → (m : List ℕ) × Freely f old shape d m × Freely g shape shape m e
  freed_in_turn p = (
    between,
    record {
      size = long;
      number = behind ∙ p.number;
      agrees = λ k h n. at k h ∙ (rw n (old_value k h n (g k) refl));
      inside = λ k h t. rw (at k h, t) (p.inside k h (rw t));
    },
    record {
      size = p.size;
      number = sym behind;
      agrees = λ k h n. sym (fitted_at between (omega (arith, long)) k h ∙ at k h ∙ new_value k h n (f k));
      inside = λ k h t. p.inside k h (either (f k) (g k) t);
    },
  )
    where
      fitted : ℕ → ℕ
      fitted k = get_or (fit_to (length shape) 0 (index_of d)) k 0

      value : ℕ → ℕ
      value k = if (f k || not (g k)) (get_or e k 0) (fitted k)

      front : List ℕ
      front = map value (below (length shape))

      front_long : length front ≡ length shape
      front_long = rw (length-map, from_length)

      between : List ℕ
      between = front ++ (get_or e (length shape) 0 ∷ [])

      long : length between ≡ length shape + 1
      long = rw (length-append, front_long)

      behind : get_or between (length shape) 0 ≡ get_or e (length shape) 0
      behind = entry_number front (get_or e (length shape) 0) front_long

      at : (k : ℕ) → k < length shape → get_or between k 0 ≡ value k
      at k h =
          get_or-append front (get_or e (length shape) 0 ∷ []) 0 k (omega (arith, front_long))
          ∙ map_at value (below (length shape)) k 0 0 (rw from_length h)
          ∙ ap value (omega (arith, from_at 0 (length shape) k 0 h))

      old_value : (k : ℕ) → k < length shape → f k ≡ false → (t : Bool) → g k ≡ t → if (not (g k)) (get_or e k 0) (fitted k) ≡ fitted k
      old_value k h n true o = rw o
      old_value k h n false o = rw o (p.agrees k h (rw (n, o)))

      new_value : (k : ℕ) → k < length shape → g k ≡ false → (t : Bool) → if (t || not (g k)) (get_or e k 0) (fitted k) ≡ get_or e k 0
      new_value k h n true = refl
      new_value k h n false = rw n

      either : (s t : Bool) → t ≡ true → s || t ≡ true
      either true t o = refl
      either false t o = o

-- ---- entries inside a shape

-- what comes from a dependency inside the old shape lies inside the new one, if every stretched axis is free
pub free_inside : (free : ℕ → Bool) (old shape : List ℕ) → ((k : ℕ) → free k ≡ false → is_stretched old shape k ≡ false) → shared_axes_fit old shape ≡ true → {d e : List ℕ} →
    is_position old (index_of d) ≡ true → Freely free old shape d e → is_position shape (index_of e) ≡ true
free_inside free old shape stretches fits {d} {e} i f = true_position (record { size = index_length e size; inside = at_below (index_of e) shape (λ k h. by k (omega (arith, index_length e size)) (free k) refl) })
  where
    size : length e ≡ suc (length shape)
    size = omega (arith, f.size)

    pos : Position old (index_of d)
    pos = position_true old (index_of d) i

    by : (k : ℕ) → k < length shape → (t : Bool) → free k ≡ t → get_or (index_of e) k 0 < get_or shape k 0
    by k h true t = rw (index_at e size k h) (f.inside k h t)
    by k h false t =
        let here : k < length old = leb-false (length old) k (neither (leb (length old) k) (eqb (get_or old k 0) 1 && not (eqb (get_or shape k 0) 1)) (stretches k t)).0 in
        let is : get_or (index_of e) k 0 ≡ get_or (index_of d) k 0 = index_at e size k h ∙ f.agrees k h t ∙ fit_at (length shape) 0 (index_of d) k h (omega (arith, pos.size)) in
        let extent : get_or old k 0 ≡ get_or shape k 0 = unstretched_same old shape fits k here h (stretches k t) in
        let low : get_or (index_of d) k 0 < get_or old k 0 = below_at (index_of d) old pos.inside k (omega (arith, pos.size)) here in
        omega arith
