-- What a lookup finds, by the kind of the layout. Assumes nothing.
use mathlib.Core.Path.{◌≡◌, refl, sym, ap, ap₂}
use mathlib.Core.Bool.{Bool, true, false}
use mathlib.Core.List.Memᴰ
use mathlib.Core.List.{List, [], ◌∷◌}
use Prim.Native.Nat.{ℕ, suc, ◌+◌, ◌<◌, ◌≤◌}
use native.Mathlib.Omega.{arith}
use borrow.Author.Tests.{ltb-true, eqb-true}
use lib.Dec.{eqb, ltb}
use lib.ListN.{length, get_or, take}
use Rattle.rules.specs.Lists.{if, all, all_below, same}
use Rattle.rules.specs.RowsInOrder.{In}
use Rattle.rules.specs.Layout.{Layout, width}
use Rattle.rules.specs.Endings.{found, nothing}
use Rattle.rules.specs.Positions.{ravel_index}
use Rattle.rules.specs.Lookup.{read_index, place_from, place_of, lookup}
use Rattle.rules.proofs.Same.{both_true, same_true, same_refl}

-- ---- the index as it is read

-- a component below its extent is read as it is
read_component : (c e : ℕ) → c < e → if (eqb e 1) 0 c ≡ c
read_component c e h = go (eqb e 1) refl
  where
    go : (b : Bool) → eqb e 1 ≡ b → if b 0 c ≡ c
    go true q = omega (arith, eqb-true e 1 q)
    go false q = refl

-- an index below the shape is read as it is: an extent 1 leaves only 0
pub read_inside : (index shape : List ℕ) → all_below index shape ≡ true → read_index index shape ≡ index
unfolding read_index all_below
read_inside [] shape b = refl
read_inside (c ∷ index) [] b = refl
read_inside (c ∷ index) (e ∷ shape) b =
    let h = both_true (ltb c e) (all_below index shape) b in
    ap₂ ◌∷◌ (read_component c e (ltb-true c e h.0)) (read_inside index shape h.1)

-- an index is read with as many components
pub read_length : (index shape : List ℕ) → length (read_index index shape) ≡ length index
unfolding read_index
read_length [] shape = refl
read_length (c ∷ index) [] = refl
read_length (c ∷ index) (e ∷ shape) = ap suc (read_length index shape)

-- v, over and over, is read as it is on extents e above v
pub read_alike : (v e : ℕ) (index shape : List ℕ) → all (eqb v) index ≡ true → all (eqb e) shape ≡ true → v < e → read_index index shape ≡ index
unfolding read_index all
read_alike v e [] shape i s h = refl
read_alike v e (c ∷ index) [] i s h = refl
read_alike v e (c ∷ index) (x ∷ shape) i s h =
    let p = both_true (eqb v c) (all (eqb v) index) i in
    let q = both_true (eqb e x) (all (eqb e) shape) s in
    ap₂ ◌∷◌ (read_component c x (omega (arith, eqb-true v c p.0, eqb-true e x q.0))) (read_alike v e index shape p.1 q.1 h)

-- an index below the shape has its first component below the first extent
pub first_below : (index shape : List ℕ) → 1 ≤ length index → 1 ≤ length shape → all_below index shape ≡ true → get_or index 0 0 < get_or shape 0 0
unfolding all_below
first_below [] shape i s b = absurd (omega arith)
first_below (c ∷ index) [] i s b = absurd (omega arith)
first_below (c ∷ index) (e ∷ shape) i s b = ltb-true c e (both_true (ltb c e) (all_below index shape) b).0

-- ---- the place of a row

-- the row r of t has number p, if the first has number n
pub record Placed (n : ℕ) (r : List ℕ) (t : List (List ℕ)) (p : ℕ) : Type 0 where
  pub index : ℕ
  pub within : index < length t
  pub number : p ≡ n + index
  pub is : get_or t index [] ≡ r

-- nothing is not found
not_found : {p : ℕ} → nothing ≡ found p → ⊥
not_found e = let z : ◌≡◌ {A = ℕ} 0 1 = cc in omega arith

-- a row has the number that is found
place_found : (n : ℕ) (r : List ℕ) (t : List (List ℕ)) {p : ℕ} → place_from n r t ≡ found p → Placed n r t p
unfolding place_from
place_found n r [] e = absurd (not_found e)
place_found n r (x ∷ t) {p} e = go (same r x) refl (place_found (suc n) r t) e
  where
    go : (b : Bool) → same r x ≡ b → (place_from (suc n) r t ≡ found p → Placed (suc n) r t p) → if b (found n) (place_from (suc n) r t) ≡ found p → Placed n r (x ∷ t) p
    go true s rest q = let h : n ≡ p = cc in record { index = 0; within = omega arith; number = omega arith; is = sym (same_true s) }
    go false s rest q = let k = rest q in record { index = suc k.index; within = omega arith; number = omega arith; is = k.is }

-- what is found is the number of the row
pub place_at : (r : List ℕ) (t : List (List ℕ)) {p : ℕ} → place_from 0 r t ≡ found p → (p < length t) × (get_or t p [] ≡ r)
place_at r t {p} e =
    let k = place_found 0 r t e in
    let h : p ≡ k.index = omega arith in
    rw h (k.within, k.is)

-- one of the rows is found
pub place_has : {r : List ℕ} {t : List (List ℕ)} → In r t → (n : ℕ) → (p : ℕ) × (place_from n r t ≡ found p)
unfolding place_from
place_has {r} (Memᴰ.head {x} {xs = t} e) n = (n, rw (← e, same_refl r))
place_has {r} (Memᴰ.tail {x} {xs = t} m) n = go (same r x) (place_has m (suc n))
  where
    go : (b : Bool) → (p : ℕ) × (place_from (suc n) r t ≡ found p) → (p : ℕ) × (if b (found n) (place_from (suc n) r t) ≡ found p)
    go true rest = (n, refl)
    go false rest = rest

-- ---- a lookup

-- what is found on a test passed it
pub if_found : (test : Bool) {v p : ℕ} → if test (found v) nothing ≡ found p → (test ≡ true) × (v ≡ p)
if_found true e = (refl, cc)
if_found false e = absurd (not_found e)

module _ (l : Layout) (index : List ℕ) where
  -- an index that is read below the shape has its place looked up
  pub lookup_inside : all_below (read_index index l.shape) l.shape ≡ true → lookup l index ≡ place_of l index (read_index index l.shape)
  unfolding lookup
  lookup_inside b = rw b

  -- an index below the shape has its own place looked up
  pub lookup_below : all_below index l.shape ≡ true → lookup l index ≡ place_of l index index
  unfolding lookup
  lookup_below b = rw (read_inside index l.shape b, b)

  -- what is found was read below the shape, and is its place
  pub found_inside : {p : ℕ} → lookup l index ≡ found p →
      (all_below (read_index index l.shape) l.shape ≡ true) × (place_of l index (read_index index l.shape) ≡ found p)
  unfolding lookup
  found_inside {p} e = go (all_below (read_index index l.shape) l.shape) refl e
    where
      go : (b : Bool) → all_below (read_index index l.shape) l.shape ≡ b → if b (place_of l index (read_index index l.shape)) nothing ≡ found p →
          (all_below (read_index index l.shape) l.shape ≡ true) × (place_of l index (read_index index l.shape) ≡ found p)
      go true b q = (b, q)
      go false b q = (cc, cc)

  -- dense: the place is the number of the index
  pub place_dense : (read : List ℕ) → l.kind ≡ 0 → place_of l index read ≡ found (ravel_index read l.shape)
  unfolding place_of
  place_dense read k = rw k

  -- diagonal: the place is the first component as it is read, if all components are that
  pub place_diagonal : (read : List ℕ) → l.kind ≡ 1 → place_of l index read ≡ if (all (eqb (get_or read 0 0)) index) (found (get_or read 0 0)) nothing
  unfolding place_of
  place_diagonal read k = rw k

  -- sparse: the place is that of the first R - D components among the rows
  pub place_sparse : (read : List ℕ) → l.kind ≡ 2 → place_of l index read ≡ place_from 0 (take (width l) read) l.rows
  unfolding place_of
  place_sparse read k = rw k
