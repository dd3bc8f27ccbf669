-- `positions shape` is every index of the shape, in order. Assumes nothing.
use mathlib.Core.Path.{◌≡◌, refl, sym, ap, ◌∙◌}
use mathlib.Core.Bool.{true}
use mathlib.Core.Logic.{⊎_elim}
use mathlib.Core.List.Memᴰ
use mathlib.Core.List.{List, [], ◌∷◌, map}
use Prim.Native.Nat.{ℕ, zero, suc, ◌+◌, ◌*◌, ◌<◌, ◌≤◌}
use native.Mathlib.Nat.{zero-mul, suc-mul, zero-add, add-zero, add-suc, suc-add, mul-le-mul_right}
use native.Mathlib.Omega.{arith}
use borrow.Author.Tests.{ltb-true, lt-ltb}
use lib.Dec.{ltb}
use lib.ListN.{length, get_or, length-append, length-map, get_or-append}
use lib.Seq.{get_or-append-add}
use Rattle.rules.specs.Lists.{gather, from, product, all_below}
use Rattle.rules.specs.RowsInOrder.{In, Each, Least, Increasing, increasing_nil, increasing_cons}
use Rattle.rules.specs.Positions.{ravel_index}
use Rattle.rules.specs.Removal.{positions}
use Rattle.rules.proofs.Order.{ComparedNumbers, under, even, above, compare_numbers, cons_less, cons_same}
use Rattle.rules.proofs.Same.{both_true}
use Rattle.rules.proofs.Sets.{in_same, one_increasing, append_increasing}
use Rattle.rules.proofs.Tests.{true_both}
use Rattle.rules.proofs.Ranges.{map_at}

-- ---- one more axis in front

-- the rows t behind each of the numbers from a on, n of them
abbrev pub spread : ℕ → ℕ → List (List ℕ) → List (List ℕ)
spread a n t = gather (λ v. map (λ index. v ∷ index) t) (from a n)

-- rows with one more number in front increase if they did
cons_increasing : (a : ℕ) {t : List (List ℕ)} → Increasing t → Increasing (map (λ index. a ∷ index) t)
cons_increasing a increasing_nil = increasing_nil
cons_increasing a (increasing_cons {x} {t} l i) = increasing_cons least (cons_increasing a i)
  where
    least : Least (a ∷ x) (map (λ index. a ∷ index) t)
    least r m = let k = Memᴰ.of_map (λ index. a ∷ index) t m in rw (← k.2) (cons_same {x = a} x k.0 refl ∙ l k.0 k.1)

-- an index of the rows that were spread: its first number, and one of the rows behind it
pub record SpreadRow (index : List ℕ) (a n : ℕ) (t : List (List ℕ)) : Type 0 where
  pub first : ℕ
  pub others : List ℕ
  pub is : index ≡ first ∷ others
  pub least : a ≤ first
  pub under : first < a + n
  pub row : In others t

-- each of the rows that were spread is such a row
spread_only : {index : List ℕ} (a n : ℕ) (t : List (List ℕ)) → In index (spread a n t) → SpreadRow index a n t
unfolding gather from
spread_only a zero t m = absurd (Memᴰ.not-nil m)
spread_only {index} a (suc n) t m = ⊎_elim here (there (spread_only (suc a) n t)) (Memᴰ.append_cases (map (λ i. a ∷ i) t) m)
  where
    here : In index (map (λ i. a ∷ i) t) → SpreadRow index a (suc n) t
    here m =
        let k = Memᴰ.of_map (λ i. a ∷ i) t m in
        record { first = a; others = k.0; is = sym k.2; least = omega arith; under = omega arith; row = k.1 }

    there : (In index (spread (suc a) n t) → SpreadRow index (suc a) n t) → In index (spread (suc a) n t) → SpreadRow index a (suc n) t
    there rest m =
        let k = rest m in
        record { first = k.first; others = k.others; is = k.is; least = omega arith; under = omega arith; row = k.row }

-- each such row is there
spread_has : {others : List ℕ} {first : ℕ} (a n : ℕ) {t : List (List ℕ)} → a ≤ first → first < a + n → In others t → In (first ∷ others) (spread a n t)
unfolding gather from
spread_has a zero l h m = absurd (omega arith)
spread_has {others} {first} a (suc n) {t} l h m = go (compare_numbers a first) (spread_has (suc a) n)
  where
    go : ComparedNumbers a first → (suc a ≤ first → first < suc a + n → In others t → In (first ∷ others) (spread (suc a) n t)) → In (first ∷ others) (spread a (suc n) t)
    go (under s) rest = Memᴰ.append_right (map (λ i. a ∷ i) t) (rest s (omega arith) m)
    go (even e) rest = Memᴰ.append_left (spread (suc a) n t) (in_same (ap (λ (v : ℕ). v ∷ others) (sym e)) (Memᴰ.map (λ i. a ∷ i) m))
    go (above s) rest = absurd (omega arith)

-- rows spread in order increase
spread_increasing : (a n : ℕ) {t : List (List ℕ)} → Increasing t → Increasing (spread a n t)
unfolding gather from
spread_increasing a zero i = increasing_nil
spread_increasing a (suc n) {t} i = append_increasing (cons_increasing a i) (spread_increasing (suc a) n i) before
  where
    before : Each (λ x. Least x (spread (suc a) n t)) (map (λ index. a ∷ index) t)
    before x m y k =
        let p = Memᴰ.of_map (λ index. a ∷ index) t m in
        let q = spread_only (suc a) n t k in
        rw (← p.2, q.is) (cons_less p.0 q.others q.least)

-- spread over n numbers there are n times as many
spread_length : (a n : ℕ) (t : List (List ℕ)) → length (spread a n t) ≡ n * length t
unfolding gather from
spread_length a zero t = rw zero-mul
spread_length a (suc n) t =
    rw (length-append, length-map, spread_length (suc a) n t, suc-mul) (omega arith)

-- behind number a + c stands row r at c times as many and r
spread_at : (a n c r : ℕ) (t : List (List ℕ)) → c < n → r < length t → get_or (spread a n t) (c * length t + r) [] ≡ (a + c) ∷ get_or t r []
unfolding gather from
spread_at a zero c r t h l = absurd (omega arith)
spread_at a (suc n) zero r t h l =
    let inside : r < length (map (λ index. a ∷ index) t) = rw length-map l in
    rw (zero-mul, zero-add, add-zero, get_or-append (map (λ index. a ∷ index) t) (spread (suc a) n t) [] r inside) (map_at (λ index. a ∷ index) t r [] [] l)
spread_at a (suc n) (suc c) r t h l =
    let behind : suc c * length t + r ≡ length (map (λ index. a ∷ index) t) + (c * length t + r) = rw (suc-mul, length-map) (omega arith) in
    rw (behind, get_or-append-add, add-suc, ← suc-add) (spread_at (suc a) n c r t (omega arith) l)

-- ---- every index of a shape

-- the indices of a shape increase
pub positions_increasing : (shape : List ℕ) → Increasing (positions shape)
unfolding positions
positions_increasing [] = one_increasing []
positions_increasing (e ∷ shape) = spread_increasing 0 e (positions_increasing shape)

-- each has as many components as the shape has extents, below them
pub positions_only : {index : List ℕ} (shape : List ℕ) → In index (positions shape) → (length index ≡ length shape) × (all_below index shape ≡ true)
unfolding positions all_below
positions_only [] m = let e = Memᴰ.eq_of_singleton m in (ap length e, rw e)
positions_only {index} (e ∷ shape) m =
    let k = spread_only 0 e (positions shape) m in
    let rest = positions_only {index = k.others} shape k.row in
    rw k.is (ap suc rest.0, true_both (lt-ltb k.first e (omega arith)) rest.1)

-- each index with as many components, below the extents, is there
pub positions_has : (index shape : List ℕ) → length index ≡ length shape → all_below index shape ≡ true → In index (positions shape)
unfolding positions all_below
positions_has [] [] n b = Memᴰ.head refl
positions_has [] (e ∷ shape) n b = absurd (omega arith)
positions_has (c ∷ index) [] n b = absurd (omega arith)
positions_has (c ∷ index) (e ∷ shape) n b =
    let h = both_true (ltb c e) (all_below index shape) b in
    spread_has 0 e (omega arith) (omega (arith, ltb-true c e h.0)) (positions_has index shape (omega arith) h.1)

-- there are as many as the product of the extents
pub positions_length : (shape : List ℕ) → length (positions shape) ≡ product shape
unfolding positions product
positions_length [] = refl
positions_length (e ∷ shape) = spread_length 0 e (positions shape) ∙ ap (λ (n : ℕ). e * n) (positions_length shape)

-- ---- numbers of indices

-- the number of an index of the shape is below the product of the extents
pub ravel_below : (index shape : List ℕ) → length index ≡ length shape → all_below index shape ≡ true → ravel_index index shape < product shape
unfolding ravel_index product all_below
ravel_below [] [] n b = omega arith
ravel_below [] (e ∷ shape) n b = absurd (omega arith)
ravel_below (c ∷ index) [] n b = absurd (omega arith)
ravel_below (c ∷ index) (e ∷ shape) n b =
    let h = both_true (ltb c e) (all_below index shape) b in
    let rest = ravel_below index shape (omega arith) h.1 in
    let least : suc c * product shape ≤ e * product shape = mul-le-mul_right (product shape) (ltb-true c e h.0) in
    omega (arith, suc-mul c (product shape))

-- the index that stands at the number of an index is that index
pub positions_ravel : (index shape : List ℕ) → length index ≡ length shape → all_below index shape ≡ true → get_or (positions shape) (ravel_index index shape) [] ≡ index
unfolding positions ravel_index all_below
positions_ravel [] [] n b = refl
positions_ravel [] (e ∷ shape) n b = absurd (omega arith)
positions_ravel (c ∷ index) [] n b = absurd (omega arith)
positions_ravel (c ∷ index) (e ∷ shape) n b =
    let h = both_true (ltb c e) (all_below index shape) b in
    let rest = positions_ravel index shape (omega arith) h.1 in
    let inside : ravel_index index shape < length (positions shape) = rw positions_length (ravel_below index shape (omega arith) h.1) in
    rw (positions_length, zero-add, rest) at (spread_at 0 e c (ravel_index index shape) (positions shape) (ltb-true c e h.0) inside)

-- indices of the shape that have one number are the same
pub ravel_same : {p q : List ℕ} (shape : List ℕ) → length p ≡ length shape → length q ≡ length shape →
    all_below p shape ≡ true → all_below q shape ≡ true → ravel_index p shape ≡ ravel_index q shape → p ≡ q
ravel_same {p} {q} shape m n a b e =
    sym (positions_ravel p shape m a) ∙ ap (λ (k : ℕ). get_or (positions shape) k []) e ∙ positions_ravel q shape n b
