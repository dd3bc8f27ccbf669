-- The common shape of shapes at places of a slice. Assumes nothing.
use mathlib.Core.Path.{◌≡◌, refl, sym, ap, ◌∙◌}
use mathlib.Core.Bool.{Bool, true, false, ◌&&◌, ◌||◌}
use mathlib.Core.List.{List, [], ◌∷◌, map}
use Prim.Native.Nat.{ℕ, zero, suc, ◌+◌, ◌-◌, ◌<◌, ◌≤◌}
use native.Mathlib.Nat.{zero-add}
use native.Mathlib.Numerals.{add-one}
use native.Mathlib.Omega.{arith}
use borrow.Author.Tests.{lt-ltb, not-true, not-false}
use lib.Dec.{eqb}
use lib.IntN.{ℤ}
use lib.ListN.{length, get_or, take, drop, length-map, drop_of_length-le}
use lib.Seq.{drop-cons}
use Rattle.rules.specs.Limits.{rank_limit}
use Rattle.rules.specs.Lists.{all, larger, largest, below, fit_to}
use Rattle.rules.specs.Record.{shape_in}
use Rattle.rules.specs.Arguments.{over_shape}
use Rattle.rules.specs.Shapes.{extents, common_extent, axis_agrees, shapes_agree, common_shape}
use Rattle.rules.proofs.Ranges.{from_length, from_at}
use Rattle.rules.proofs.Largest.{larger_is}
use Rattle.rules.proofs.Tests.{all_at}
use Rattle.rules.proofs.Replaced.{fit_low}
use Rattle.rules.proofs.Moved.{map_low}
use Rattle.cells.specs.View.{Low}
use Rattle.tables.proofs.Passing.{Passed, none_passed, one_more, one_fails, all_passed}
use Rattle.shapes.specs.Judged.{Judged}
use Rattle.shapes.proofs.Judging.{extent_small, rank_counted, rank_small}
use Rattle.shapes.proofs.Stretching.{larger_zero}
use Rattle.lists.specs.declared.agreeing.Measure.{Measure}
use Rattle.lists.specs.declared.agreeing.Measure.TheVariants.{Rank, Extent}
use Rattle.lists.specs.declared.asks.Ask.TheVariants.{FewAxes, GoodShape, Agrees}
use Rattle.lists.specs.Places.{standing, Inside, EachAt}
use Rattle.lists.specs.Asked.{asked, measure, shapes_at}
use Rattle.lists.proofs.Beginning.{length_standing, lent_at, place_inside, place_fits, known_at}

-- ---- two numbers

pub zero_larger : (x : ℕ) → larger 0 x ≡ x
zero_larger zero = refl
zero_larger (suc x) = rw (lt-ltb 0 (suc x) (omega arith))

pub larger_assoc : (x y z : ℕ) → larger (larger x y) z ≡ larger x (larger y z)
larger_assoc x y z =
    let a = larger_is x y in
    let b = larger_is y z in
    let p = larger_is (larger x y) z in
    let q = larger_is x (larger y z) in
    let up : larger (larger x y) z ≤ larger x (larger y z) = p.least (larger x (larger y z)) (a.least (larger x (larger y z)) q.first (omega arith)) (omega arith) in
    let down : larger x (larger y z) ≤ larger (larger x y) z = q.least (larger (larger x y) z) (omega arith) (b.least (larger (larger x y) z) (omega arith) p.second) in
    omega arith

-- ---- the largest measure

module _ {what : Measure} (s : List ℤ) {r : ℕ} where
  pub measured_rank : what ≡ Rank → r ≡ length (shape_in s) → r ≡ measure what (shape_in s)
  measured_rank e f = f ∙ rw e

  pub measured_extent : {axis : ℕ} → what ≡ Extent axis → r ≡ get_or (shape_in s) axis 1 → r ≡ measure what (shape_in s)
  measured_extent e f = f ∙ rw e

pub ruleset measured_laws = (measured_rank, measured_extent)

-- the largest number that g gives of a shape: the most so far, or a larger one of those from k on
pub record MostTo (g : List ℕ → ℕ) (n k : ℕ) (l : List (List ℤ)) (most : ℕ) : Type 0 where
  pub upto : k ≤ n
  pub size : length l ≡ n
  pub eq : largest (map g (map shape_in l)) ≡ larger most (largest (map g (map shape_in (drop k l))))

module _ {g : List ℕ → ℕ} {n : ℕ} {places : List ℕ} {s : List ℤ} where
  pub most_start : Inside n places s → MostTo g n 0 (standing n places s) 0
  most_start p = record { upto = omega arith; size = length_standing p; eq = sym (zero_larger (largest (map g (shapes_at n places s)))) }

  module _ {k most : ℕ} (q : MostTo g n k (standing n places s) most) where
    pub most_turn : {x most' : ℕ} → Inside n places s → k < n → x ≡ g (shape_in (take (length s - get_or places k 0) (drop (get_or places k 0) s))) →
        most' ≡ larger most x → MostTo g n (k + 1) (standing n places s) most'
    unfolding largest
    most_turn {x} {most'} p h e f =
        let l : List (List ℤ) = standing n places s in
        let there : x ≡ g (shape_in (get_or l k [])) = e ∙ ap (λ (t : List ℤ). g (shape_in t)) (lent_at p h) in
        let inside : k < length l = omega (arith, q.size) in
        record {
          upto = omega arith;
          size = q.size;
          eq = q.eq ∙ rw (drop-cons l k [] inside, ← there, f, add-one) (sym (larger_assoc most x (largest (map g (map shape_in (drop (suc k) l))))));
        }

    pub most_done : Inside n places s → n ≤ k → most ≡ largest (map g (shapes_at n places s))
    unfolding largest
    most_done p h = sym (q.eq ∙ rw (drop_of_length-le (standing n places s) {i = k} (omega (arith, q.size))) (larger_zero most))

-- what is known of shapes that passed
pub judged_each : {n : ℕ} {places : List ℕ} {s : List ℤ} → Inside n places s → all (asked FewAxes) (standing n places s) ≡ true →
    all (asked GoodShape) (standing n places s) ≡ true → EachAt Judged n places s
judged_each {n} {places} {s} p e f = record { inside = p; known = one }
  where
    one : (i : ℕ) → i < n → Judged (get_or (standing n places s) i [])
    one i h =
        let inside : i < length (standing n places s) = rw (length_standing p) h in
        record {
          small = not-true (over_shape (get_or (standing n places s) i [])) (all_at (asked FewAxes) (standing n places s) [] e i inside);
          good = all_at (asked GoodShape) (standing n places s) [] f i inside;
        }

pub judged_at : {n : ℕ} {places : List ℕ} {s : List ℤ} → EachAt Judged n places s → {i : ℕ} → i < n →
    Judged (take (length s - get_or places i 0) (drop (get_or places i 0) s))
judged_at p h = known_at Judged p h

pub ruleset most_laws = (most_start, most_turn, most_done, place_inside, place_fits, judged_at)

-- what g gives is small if it is of each shape
largest_low : (g : List ℕ → ℕ) (m : ℕ) (l : List (List ℤ)) → ((i : ℕ) → i < length l → g (shape_in (get_or l i [])) ≤ m) → largest (map g (map shape_in l)) ≤ m
unfolding largest
largest_low g m [] f = omega arith
largest_low g m (x ∷ l) f =
    (larger_is (g (shape_in x)) (largest (map g (map shape_in l)))).least m (f 0 (omega arith)) (largest_low g m l (λ i h. f (suc i) (omega arith)))

module _ {n : ℕ} {places : List ℕ} {s : List ℤ} (p : EachAt Judged n places s) where
  one : (i : ℕ) → i < length (standing n places s) → Judged (get_or (standing n places s) i [])
  one i h = p.known i (rw (length_standing p.inside) at h)

  -- no shape has more than 4 axes
  pub longest_low : {r : ℕ} → r ≡ largest (map length (shapes_at n places s)) → r ≤ 4
  longest_low e =
      rw e (largest_low length 4 (standing n places s) (λ i h. rw (rank_counted (get_or (standing n places s) i []) (one i h)) (rank_small (get_or (standing n places s) i []) (one i h) refl)))

  -- and no extent is over the limit
  extent_low : (axis : ℕ) → common_extent axis (shapes_at n places s) ≤ 65536
  unfolding extents
  extent_low axis = largest_low (λ shape. get_or shape axis 1) 65536 (standing n places s) (λ i h. extent_small (get_or (standing n places s) i []) (one i h).good axis)

-- ---- the numbers below n

module _ {test : ℕ → Bool} {n : ℕ} where
  -- none has been put to the test
  pub below_start : Passed test n 0 (below n)
  below_start = none_passed (from_length 0 n)

  module _ {k : ℕ} {b : Bool} (p : Passed test n k (below n)) (h : k < n) (e : b ≡ test k) where
    -- number k is k
    tested : b ≡ test (get_or (below n) k 0)
    tested = e ∙ ap test (sym (from_at 0 n k 0 h ∙ zero-add k))

    -- it passes
    pub below_turn : b ≡ true → Passed test n (k + 1) (below n)
    below_turn f = one_more p 0 h tested f

    -- it does not pass
    pub below_stop : b ≡ false → false ≡ all test (below n)
    below_stop f = one_fails p 0 h tested f

pub ruleset below_laws = (below_start, below_turn, below_stop, all_passed, not-true, not-false)

-- ---- whether the shapes agree

agrees_all : (axis common : ℕ) (l : List (List ℤ)) → all (asked (Agrees axis common)) l ≡ all (λ e. eqb e 1 || eqb e common) (extents axis (map shape_in l))
unfolding all extents
agrees_all axis common [] = refl
agrees_all axis common (x ∷ l) = ap (λ (t : Bool). (eqb (get_or (shape_in x) axis 1) 1 || eqb (get_or (shape_in x) axis 1) common) && t) (agrees_all axis common l)

module _ (n : ℕ) (places : List ℕ) (s : List ℤ) where
  -- an axis agrees if each shape does with its largest extent
  pub agrees_is : (axis common : ℕ) {b : Bool} → common ≡ largest (map (measure (Extent axis)) (shapes_at n places s)) →
      b ≡ all (asked (Agrees axis common)) (standing n places s) → b ≡ axis_agrees axis (shapes_at n places s)
  unfolding extents
  agrees_is axis common e f = f ∙ agrees_all axis common (standing n places s) ∙ rw e

  pub agree_is : (axes : ℕ) {b : Bool} → axes ≡ largest (map length (shapes_at n places s)) →
      b ≡ all (λ axis. axis_agrees axis (shapes_at n places s)) (below axes) → b ≡ shapes_agree (shapes_at n places s)
  unfolding shapes_agree
  agree_is axes e f = f ∙ rw e

  -- ---- the common shape

  pub extent_is : (axis : ℕ) {r : ℕ} → r ≡ largest (map (measure (Extent axis)) (shapes_at n places s)) → r ≡ common_extent axis (shapes_at n places s)
  unfolding extents
  extent_is axis e = e

  pub common_is : (axes : ℕ) {out : List ℕ} → axes ≡ largest (map length (shapes_at n places s)) →
      out ≡ fit_to 4 0 (map (λ axis. common_extent axis (shapes_at n places s)) (below axes)) → out ≡ fit_to rank_limit 0 (common_shape (shapes_at n places s))
  unfolding common_shape
  common_is axes e f = f ∙ rw e

-- it has as many axes as the longest shape
pub length_common : (shapes : List (List ℕ)) → length (common_shape shapes) ≡ largest (map length shapes)
unfolding common_shape
length_common shapes = length-map (below (largest (map length shapes))) (λ axis. common_extent axis shapes) ∙ from_length 0 (largest (map length shapes))

-- its extents are as small as those of the shapes
pub common_low : (n : ℕ) (places : List ℕ) (s : List ℤ) {four : List ℕ} → EachAt Judged n places s → four ≡ fit_to rank_limit 0 (common_shape (shapes_at n places s)) → Low four
unfolding common_shape
common_low n places s p f =
    let shapes : List (List ℕ) = shapes_at n places s in
    rw f
    (fit_low rank_limit (common_shape shapes)
    (map_low (λ axis. common_extent axis shapes) (λ axis. omega (arith, extent_low p axis)) (below (largest (map length shapes)))))
