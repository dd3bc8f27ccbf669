-- What is asked of things at places of a slice, and of the start and the flag of a block. Assumes nothing.
use mathlib.Core.Path.{◌≡◌, refl, sym, ap, ◌∙◌}
use mathlib.Core.Bool.{Bool, true, false, not, ◌&&◌, ◌||◌}
use mathlib.Core.List.{List, [], ◌∷◌, map}
use Prim.Native.Nat.{ℕ, zero, suc, ◌+◌, ◌-◌, ◌<◌, ◌≤◌}
use native.Mathlib.Numerals.{add-one}
use native.Mathlib.Omega.{arith}
use borrow.Author.Tests.{leb-true, not-true, not-false, eq-eqb, ne_eqb}
use lib.Dec.{eqb, leb}
use lib.IntN.{ℤ, pos, negsuc}
use lib.ListN.{length, get_or, take, drop, length-take, drop_of_length-le}
use lib.Seq.{get_or-take, get_or-drop}
use Rattle.rules.specs.Limits.{list_limit}
use Rattle.rules.specs.Lists.{if, all, any}
use Rattle.rules.specs.Record.{shape_in, good_shape, sound, end_to_end, list_count, block_at, behind_block, blocks_in}
use Rattle.rules.specs.Arguments.{up_to, good_end, over_shape, over_record}
use Rattle.rules.specs.Concatenate.{good_block}
use Rattle.tables.proofs.Passing.{Passed, none_passed, one_more, one_fails, all_passed}
use Rattle.shapes.specs.Judged.{Judged}
use Rattle.lists.specs.declared.asks.Ask.{Ask}
use Rattle.lists.specs.declared.asks.Ask.TheVariants.{FewAxes, GoodShape, GoodBlock, Agrees}
use Rattle.lists.specs.Places.{standing, Inside, EachAt, PlacesOf}
use Rattle.lists.specs.Asked.{asked, Askable}
use Rattle.lists.proofs.Beginning.{length_standing, lent_at, place_inside, place_fits, known_at}

-- ---- one thing

pub agrees_one : (e common : ℕ) → e ≡ 1 → true ≡ eqb e 1 || eqb e common
agrees_one e common h = rw (eq-eqb e 1 h)

pub agrees_other : (e common : ℕ) → (e ≡ 1 → ⊥) → eqb e common ≡ eqb e 1 || eqb e common
agrees_other e common h = rw (ne_eqb e 1 h)

pub ruleset agree_laws = (agrees_one, agrees_other)

-- it is asked as the test says
module _ {ask : Ask} (s : List ℤ) {b : Bool} where
  pub few_asked : ask ≡ FewAxes → b ≡ over_shape s → not b ≡ asked ask s
  few_asked e f = rw (e, f)

  pub good_asked : ask ≡ GoodShape → b ≡ good_shape s → b ≡ asked ask s
  good_asked e f = f ∙ rw e

  pub block_asked : {rank : ℕ} → ask ≡ GoodBlock rank → b ≡ good_block (block_at rank s) → b ≡ asked ask s
  block_asked e f = f ∙ rw e

  pub axis_asked : {axis common x : ℕ} → ask ≡ Agrees axis common → x ≡ get_or (shape_in s) axis 1 → b ≡ eqb x 1 || eqb x common → b ≡ asked ask s
  axis_asked e f g = g ∙ rw (e, f)

-- an axis is asked of a shape that was judged
pub axis_judged : {ask : Ask} {axis common : ℕ} {s : List ℤ} → ask ≡ Agrees axis common → Askable ask s → Judged s
axis_judged e j = rw e at j

pub ruleset asked_laws = (few_asked, good_asked, block_asked, axis_asked, axis_judged)

-- ---- the things at n places

module _ {test : List ℤ → Bool} {n : ℕ} {places : List ℕ} {s : List ℤ} (p : Inside n places s) where
  pub pass_start : Passed test n 0 (standing n places s)
  pass_start = none_passed (length_standing p)

  module _ {i : ℕ} {b : Bool} (q : Passed test n i (standing n places s)) (h : i < n)
      (e : b ≡ test (take (length s - get_or places i 0) (drop (get_or places i 0) s))) where
    pub pass_turn : b ≡ true → Passed test n (i + 1) (standing n places s)
    pass_turn f = one_more q [] h (e ∙ ap test (lent_at p h)) f

    pub pass_stop : b ≡ false → false ≡ all test (standing n places s)
    pass_stop f = one_fails q [] h (e ∙ ap test (lent_at p h)) f

pub askable_at : (ask : Ask) {n : ℕ} {places : List ℕ} {s : List ℤ} → EachAt (Askable ask) n places s → {i : ℕ} → i < n →
    Askable ask (take (length s - get_or places i 0) (drop (get_or places i 0) s))
askable_at ask p h = known_at (Askable ask) p h

pub ruleset pass_laws = (pass_start, pass_turn, pass_stop, all_passed, not-true, not-false, place_inside, place_fits, askable_at)

-- ---- what a call asks of its list

-- some pass a test if not all fail it
pub any_all : {A : Type 0} (test : A → Bool) (l : List A) → any test l ≡ not (all (λ x. not (test x)) l)
unfolding any all
any_all test [] = refl
any_all test (x ∷ l) = by (test x) (any_all test l)
  where
    by : (t : Bool) → any test l ≡ not (all (λ y. not (test y)) l) → t || any test l ≡ not (not t && all (λ y. not (test y)) l)
    by true e = refl
    by false e = e

-- a test of what f gives
any_of : {A B : Type 0} (test : B → Bool) (f : A → B) (l : List A) → any test (map f l) ≡ any (λ x. test (f x)) l
unfolding any
any_of test f [] = refl
any_of test f (x ∷ l) = ap (λ (t : Bool). test (f x) || t) (any_of test f l)

pub all_of : {A B : Type 0} (test : B → Bool) (f : A → B) (l : List A) → all test (map f l) ≡ all (λ x. test (f x)) l
unfolding all
all_of test f [] = refl
all_of test f (x ∷ l) = ap (λ (t : Bool). test (f x) && t) (all_of test f l)

-- the count of a record's extents is its third number
pub over_records : (l : List (List ℤ)) → any over_shape (map (drop 2) l) ≡ any over_record l
unfolding any
over_records [] = refl
over_records (s ∷ l) = rw (get_or-drop 2 s 0 (pos 0), over_records l)

-- one is over if not all have few axes, where their shapes stand
pub over_moved : (n : ℕ) (places : List ℕ) (s : List ℤ) {m : ℕ} {shapes : List ℕ} → PlacesOf (map (drop 2) (standing n places s)) m s shapes → {b : Bool} →
    b ≡ all (asked FewAxes) (standing m shapes s) → not b ≡ any over_record (standing n places s)
over_moved n places s {m} {shapes} p e =
    ap not e ∙ sym (any_all over_shape (standing m shapes s)) ∙ ap (any over_shape) p.begin ∙ over_records (standing n places s)

-- the records of blocks stand behind their starts and flags
module _ (rank : ℕ) (l : List (List ℤ)) where
  pub over_blocks : any over_record (map (drop (suc rank)) l) ≡ any (λ b. over_record b.layout) (map (block_at rank) l)
  unfolding block_at
  over_blocks = any_of over_record (drop (suc rank)) l ∙ sym (any_of (λ b. over_record b.layout) (block_at rank) l)

  pub sound_blocks : all sound (map (drop (suc rank)) l) ≡ all (λ b. sound b.layout) (map (block_at rank) l)
  unfolding block_at
  sound_blocks = all_of sound (drop (suc rank)) l ∙ sym (all_of (λ b. sound b.layout) (block_at rank) l)

  pub good_blocks : all (asked (GoodBlock rank)) l ≡ all good_block (map (block_at rank) l)
  good_blocks = sym (all_of good_block (block_at rank) l)

-- ---- the block at the front

-- the first k numbers of a start are good
pub record GoodTo (rank : ℕ) (s : List ℤ) (k : ℕ) : Type 0 where
  pub upto : k ≤ rank
  pub eq : all good_end (take rank s) ≡ all good_end (drop k (take rank s))

-- the next element decides, and those behind it; past the end the test passes
next : {A : Type 0} (test : A → Bool) (d : A) → test d ≡ true → (l : List A) (k : ℕ) →
    all test (drop k l) ≡ test (get_or l k d) && all test (drop (suc k) l)
unfolding all
next test d e [] zero = rw e
next test d e [] (suc k) = rw e
next test d e (x ∷ l) zero = refl
next test d e (x ∷ l) (suc k) = next test d e l k

pub good_start : {rank : ℕ} {s : List ℤ} → GoodTo rank s 0
good_start = record { upto = omega arith; eq = refl }

module _ {rank : ℕ} {s : List ℤ} {k : ℕ} (p : GoodTo rank s k) {b : Bool} where
  module _ (h : k < rank) (e : b ≡ up_to 65536 (get_or s k (pos 0))) where
    decided : all good_end (take rank s) ≡ b && all good_end (drop (k + 1) (take rank s))
    unfolding up_to
    decided = p.eq ∙ rw (add-one, e, ← get_or-take rank s k (pos 0) h) (next good_end (pos 0) refl (take rank s) k)

    pub good_turn : b ≡ true → GoodTo rank s (k + 1)
    good_turn f = record { upto = omega arith; eq = decided ∙ rw f }

    -- a number of the start is not good
    pub good_stop : b ≡ false → false ≡ good_block (block_at rank s)
    unfolding block_at
    good_stop f = rw (decided, f)

  -- all are, and the flag decides
  pub good_done : rank ≤ k → b ≡ up_to 1 (get_or s rank (pos 0)) → b ≡ good_block (block_at rank s)
  unfolding block_at all
  good_done h e =
      let short : length (take rank s) ≤ k = rw length-take (omega arith) in
      rw (p.eq, drop_of_length-le (take rank s) short) e

pub ruleset good_laws = (good_start, good_turn, good_stop, good_done, not-true, not-false)

-- ---- the blocks of a call

-- a list has no more than sixteen
pub count_few : (n : ℤ) → list_count n ≤ list_limit
unfolding list_count
count_few (pos n) = by (leb n list_limit) refl
  where
    by : (t : Bool) → leb n list_limit ≡ t → if t n 0 ≤ list_limit
    by true e = leb-true n list_limit e
    by false e = omega arith
count_few (negsuc n) = omega arith

pub few_listed : (n : ℤ) {m : ℕ} → m ≡ list_count n → m ≤ list_limit
few_listed n e = rw e (count_few n)

-- a rank that is not negative walks the blocks of a list
pub blocks_listed : (n : ℤ) (rank : ℕ) (s : List ℤ) → blocks_in n (pos rank) s ≡ map (block_at rank) (end_to_end (behind_block rank) (list_count n) s)
unfolding blocks_in
blocks_listed n rank s = refl
