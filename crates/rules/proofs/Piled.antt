-- What a layout of a pile is: the dense one of the shape, or rows of it in order; and what it counts. Assumes nothing.
use mathlib.Core.Path.{◌≡◌, refl, sym, ap, ◌∙◌}
use mathlib.Core.Bool.{Bool, true, false, ◌&&◌, ◌||◌}
use mathlib.Core.List.{List, [], ◌∷◌}
use Prim.Native.Nat.{ℕ, ◌≤◌}
use native.Mathlib.Nat.{sub-zero}
use native.Mathlib.Omega.{arith}
use borrow.Author.Tests.{eqb-true}
use lib.Dec.{eqb}
use lib.ListN.{length, get_or}
use Rattle.rules.specs.Limits.{rank_limit, entry_limit, product_limit}
use Rattle.rules.specs.Lists.{none, all_below, same}
use Rattle.rules.specs.RowsInOrder.{increasing, Each, Increasing, increasing_nil}
use Rattle.rules.specs.Layout.{Layout, rank, is_dense, is_sparse, nonzero_product, sound_layout}
use Rattle.rules.specs.Soundness.{Sound}
use Rattle.rules.specs.Endings.{Lookup, found, nothing}
use Rattle.rules.specs.Lookup.{read_index, place_of, lookup}
use Rattle.rules.specs.CountsAndForms.{nnz, dense}
use Rattle.rules.specs.Holding.{holds, held_positions, held_before}
use Rattle.rules.specs.Pile.{dense_or_listed, belongs, is_found, finds}
use Rattle.rules.proofs.Same.{both_true, decided, same_true, same_refl, true_not_false}
use Rattle.rules.proofs.Sets.{each_nil, increasing_true, true_increasing}
use Rattle.rules.proofs.Tests.{conjunct, none_true}
use Rattle.rules.proofs.Soundness.{sound_true, true_sound, increasing_distinct, dense_rows, whole_width}
use Rattle.rules.proofs.Made.{Formed}
use Rattle.rules.proofs.Forming.{DepsOfRank, dense_framed, sparse_framed, formed_sound}
use Rattle.rules.proofs.Finding.{lookup_inside, lookup_below, place_dense, place_sparse}
use Rattle.rules.proofs.Holding.{Whole, whole_dense, whole_diagonal, whole_sparse, holds_position}
use Rattle.rules.proofs.Found.{found_holds_read, holds_found}
use Rattle.rules.proofs.Counting.{nnz_counts, found_before_read}

-- ---- the two forms

-- a shape that a sound layout may have
pub record Good (shape : List ℕ) : Type 0 where
  pub rank_most : length shape ≤ rank_limit
  pub product_most : nonzero_product shape ≤ product_limit

-- rows in order, each a position of the shape
pub record Ordered (shape : List ℕ) (rows : List (List ℕ)) : Type 0 where
  pub increase : Increasing rows
  pub lengths : Each (λ r. length r ≡ length shape) rows
  pub below : Each (λ r. all_below r shape ≡ true) rows

-- the layout of the shape that lists them
abbrev pub listing : List ℕ → List (List ℕ) → Layout
listing shape rows = record { kind = 2; dense = 0; shape = shape; rows = rows; states = []; inputs = [] }

-- dense, or listing at most 128 rows
pub data Form (shape : List ℕ) (l : Layout) : Type 0 where
  whole : l ≡ dense shape → Form shape l
  listed : (rows : List (List ℕ)) → Ordered shape rows → length rows ≤ entry_limit → l ≡ listing shape rows → Form shape l

-- a layout of a pile
pub record Piled (shape : List ℕ) (l : Layout) : Type 0 where
  pub good : Good shape
  pub form : Form shape l

-- ---- they are sound

module _ {shape : List ℕ} (g : Good shape) where
  -- no dependencies are of any rank
  no_deps_lem : DepsOfRank (length shape) []
  no_deps_lem = record { each = each_nil _; increase = increasing_nil }

  -- the dense layout of the shape is sound
  pub whole_sound : Sound (dense shape)
  unfolding dense
  whole_sound =
      formed_sound
      (dense_framed (record { rank_most = g.rank_most; product_most = g.product_most; states_are = no_deps_lem; inputs_are = no_deps_lem }) refl refl refl)
      (omega arith) (omega arith) (omega arith)

  module _ {rows : List (List ℕ)} (o : Ordered shape rows) where
    -- but for their count, rows in order make a sound layout
    pub listed_formed : Formed (listing shape rows)
    listed_formed =
        sparse_framed (record { rank_most = g.rank_most; product_most = g.product_most; states_are = no_deps_lem; inputs_are = no_deps_lem })
        refl (omega arith) (increasing_distinct o.increase) (λ r m. rw sub-zero (o.lengths r m)) o.below

    -- at most 128 of them do
    pub listed_sound : length rows ≤ entry_limit → Sound (listing shape rows)
    listed_sound h = formed_sound listed_formed h (omega arith) (omega arith)

-- ---- the test

-- layouts with equal parts are equal
same_parts : {k d : ℕ} {s : List ℕ} {r t u : List (List ℕ)} (l : Layout) → l.kind ≡ k → l.dense ≡ d → l.shape ≡ s → l.rows ≡ r →
    l.states ≡ t → l.inputs ≡ u → l ≡ record { kind = k; dense = d; shape = s; rows = r; states = t; inputs = u }
same_parts l e f g h i j = rw (← e, ← f, ← g, ← h, ← i, ← j)

-- the tests of a layout of a pile behind the first one
abbrev tests : List ℕ → Layout → List Bool
tests shape l = same l.shape shape ∷ none l.states ∷ none l.inputs ∷ dense_or_listed l ∷ []

-- a layout that tests so is one of a pile
pub piled_true : {shape : List ℕ} {l : Layout} → belongs shape l ≡ true → Piled shape l
unfolding belongs dense
piled_true {shape} {l} e = record { good = rw shape_is at good_shape_lem; form = by (is_dense l) refl (test 4) }
  where
    test : (k : ℕ) → get_or (sound_layout l ∷ tests shape l) k true ≡ true
    test = conjunct (sound_layout l) (tests shape l) e

    s : Sound l
    s = sound_true (test 0)

    shape_is : l.shape ≡ shape
    shape_is = same_true (test 1)

    no_states : l.states ≡ []
    no_states = none_true (test 2)

    no_inputs : l.inputs ≡ []
    no_inputs = none_true (test 3)

    good_shape_lem : Good l.shape
    good_shape_lem = record { rank_most = s.form.rank_most; product_most = s.sizes.product_most }

    by : (b : Bool) → is_dense l ≡ b → b || (is_sparse l && eqb l.dense 0 && increasing l.rows) ≡ true → Form shape l
    by true k h =
        let kind : l.kind ≡ 0 = eqb-true l.kind 0 k in
        whole (same_parts l kind (s.form.dense_all kind ∙ ap length shape_is) shape_is (dense_rows s.form kind) no_states no_inputs)
    by false k h =
        let first = both_true (is_sparse l && eqb l.dense 0) (increasing l.rows) h in
        let second = both_true (is_sparse l) (eqb l.dense 0) first.0 in
        let none_dense : l.dense ≡ 0 = eqb-true l.dense 0 second.1 in
        let rows : Ordered l.shape l.rows = record {
          increase = increasing_true l.rows first.1;
          lengths = λ r m. s.form.row_lengths r m ∙ whole_width s.form none_dense;
          below = s.form.rows_lie_below;
        } in
        listed l.rows (rw shape_is at rows) s.sizes.rows_few (same_parts l (eqb-true l.kind 2 second.0) none_dense shape_is refl no_states no_inputs)

-- a layout of a pile is sound
pub piled_sound : {shape : List ℕ} {l : Layout} → Piled shape l → Sound l
piled_sound {shape} {l} p = by p.form
  where
    by : Form shape l → Sound l
    by (whole e) = rw e (whole_sound p.good)
    by (listed rows o n e) = rw e (listed_sound p.good o n)

-- a layout of a pile tests so
pub true_piled : {shape : List ℕ} {l : Layout} → Piled shape l → belongs shape l ≡ true
unfolding belongs dense none
true_piled {shape} {l} p = by p.form
  where
    by : Form shape l → belongs shape l ≡ true
    by (whole e) = rw (true_sound (piled_sound p), e, same_refl shape)
    by (listed rows o n e) = rw (true_sound (piled_sound p), e, same_refl shape, true_increasing o.increase)

-- ---- what it counts

module _ {shape : List ℕ} {l : Layout} (p : Piled shape l) where
  -- it has the shape
  pub piled_shape : l.shape ≡ shape
  unfolding dense
  piled_shape = by p.form
    where
      by : Form shape l → l.shape ≡ shape
      by (whole e) = rw e
      by (listed rows o n e) = rw e

  -- its positions are listed whole
  pub piled_whole : Whole l
  unfolding dense
  piled_whole = by p.form
    where
      by : Form shape l → Whole l
      by (whole e) = whole_dense (rw e)
      by (listed rows o n e) = whole_sparse (rw e) (rw e)

  -- it is not a diagonal
  piled_kind : l.kind ≡ 1 → ⊥
  unfolding dense
  piled_kind k = by p.form
    where
      by : Form shape l → ⊥
      by (whole e) = let z : ◌≡◌ {A = ℕ} 0 1 = sym (ap (λ x. x.kind) e) ∙ k in omega arith
      by (listed rows o n e) = let z : ◌≡◌ {A = ℕ} 2 1 = sym (ap (λ x. x.kind) e) ∙ k in omega arith

  -- its rows increase
  pub piled_ordered : increasing l.rows ≡ true
  unfolding dense
  piled_ordered = by p.form
    where
      by : Form shape l → increasing l.rows ≡ true
      by (whole e) = rw e (true_increasing increasing_nil)
      by (listed rows o n e) = rw e (true_increasing o.increase)

  -- `nnz` is the number of positions that it holds
  pub piled_nnz : nnz l ≡ length (held_positions l)
  piled_nnz = nnz_counts (piled_sound p).form piled_whole

  module _ (index : List ℕ) (n : length index ≡ length shape) where
    size : length index ≡ rank l
    size = rw piled_shape n

    -- the index as it is read
    abbrev read : List ℕ
    read = read_index index l.shape

    -- it is looked up as it is read
    read_place : Whole l → place_of l index read ≡ place_of l read read
    read_place (whole_dense k) = place_dense l index read k ∙ sym (place_dense l read read k)
    read_place (whole_diagonal k d) = absurd (piled_kind k)
    read_place (whole_sparse k d) = place_sparse l index read k ∙ sym (place_sparse l read read k)

    -- an index is found exactly if it is held as it is read
    pub piled_finds : finds index l ≡ holds l (read_index index shape)
    piled_finds = rw (← piled_shape) (decided (finds index l) (holds l read) (λ f. there (lookup l index) refl f) back)
      where
        there : (k : Lookup) → lookup l index ≡ k → is_found k ≡ true → holds l read ≡ true
        there (found place) e f = found_holds_read (piled_sound p).form (λ k. absurd (piled_kind k)) index size e
        there nothing e f = absurd (true_not_false f refl)

        back : holds l read ≡ true → finds index l ≡ true
        back h =
            let below = (holds_position l read h).inside in
            rw (lookup_inside l index below ∙ read_place piled_whole ∙ sym (lookup_below l read below) ∙ (holds_found (piled_sound p).form (λ k. absurd (piled_kind k)) read h).1)

    -- the place that is found is the number of positions held before
    pub piled_before : {place : ℕ} → lookup l index ≡ found place → place ≡ held_before l (read_index index shape)
    piled_before e = rw (← piled_shape) (found_before_read (piled_sound p).form piled_whole piled_ordered index size e)
