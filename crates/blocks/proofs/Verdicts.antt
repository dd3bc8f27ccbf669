-- The verdict on joined blocks, by the way in which they are joined. Assumes nothing.
use mathlib.Core.Path.{◌≡◌, refl, sym, ap, ◌∙◌, subst}
use mathlib.Core.Bool.{Bool, true, false, not, ◌&&◌}
use mathlib.Core.List.Memᴰ
use mathlib.Core.List.{List, [], map}
use Prim.Native.Nat.{ℕ, suc, ◌+◌, ◌-◌, ◌<◌, ◌≤◌}
use native.Mathlib.Numerals.{add-one}
use native.Mathlib.Omega.{arith}
use lib.Dec.{ltb}
use lib.IntN.{ℤ}
use lib.ListN.{length, drop, length-map, length-take, length-drop}
use Rattle.rules.specs.Limits.{rank_limit}
use Rattle.rules.specs.Lists.{if, all, any}
use Rattle.rules.specs.RowsInOrder.{sorted}
use Rattle.rules.specs.Refusals.{Verdict, given, refused, in_form, ◌then◌}
use Rattle.rules.specs.Layout.{Layout, rank, is_dense, is_sparse, within_sizes}
use Rattle.rules.specs.Soundness.{WellFormed}
use Rattle.rules.specs.CountsAndForms.{dense, to_dense, dense_if_full}
use Rattle.rules.specs.Record.{sound, block_at}
use Rattle.rules.specs.Concatenate.{Block, layouts_of, shapes_of, run_on_first, run_on_diagonal, later_agree, joined_shape, blocks_d, agree, all_diagonal, join_diagonal, joined_rows, join_blocks, block_of}
use Rattle.rules.proofs.Same.{both_true}
use Rattle.rules.proofs.Sets.{each_nil}
use Rattle.rules.proofs.Tests.{all_each}
use Rattle.rules.proofs.ReadBack.{layout_sound}
use Rattle.rules.proofs.Made.{sized_or, form_made}
use Rattle.rules.proofs.Blocks.{FormedBlock, FormedBlocks, length_reach}
use Rattle.rules.proofs.ConcatenateMade.{joined_full, no_deps_lem, form_joined, dense_made, diagonal_none, diagonal_made, rows_form, rows_made}
use Rattle.rules.proofs.Forming.{if_full}
use Rattle.lists.specs.Places.{standing}
use Rattle.lists.specs.Starts.{blocks_at}
use Rattle.lists.proofs.Asking.{all_of}
use Rattle.blocks.specs.declared.deciding.Way.{Way}
use Rattle.blocks.specs.declared.deciding.Way.TheVariants.{Unjoinable, Dense, Diagonal, Rows}
use Rattle.blocks.specs.Joins.{way_other, way_of}
use Rattle.blocks.proofs.Joined.{with_joined, joined_by, joined_by_lem}
use Rattle.blocks.proofs.Given.{Handed, sound_long}

-- ---- what a way tells

-- the way, by its tests
abbrev by_tests : (above first later agreed diagonal barred : Bool) → Way
by_tests above first later agreed diagonal barred =
    if above Unjoinable (if first (if later Dense Unjoinable) (if agreed (if diagonal Diagonal (if barred Unjoinable Rows)) Unjoinable))

-- along the diagonal: blocks agree, and are diagonal
tests_diagonal : (a b c d e f : Bool) → by_tests a b c d e f ≡ Diagonal → (d ≡ true) × (e ≡ true)
tests_diagonal true b c d e f g = absurd (let z : ◌≡◌ {A = ℕ} 0 1 = cc in omega arith)
tests_diagonal false true true d e f g = absurd (let z : ◌≡◌ {A = ℕ} 0 1 = cc in omega arith)
tests_diagonal false true false d e f g = absurd (let z : ◌≡◌ {A = ℕ} 0 1 = cc in omega arith)
tests_diagonal false false c false e f g = absurd (let z : ◌≡◌ {A = ℕ} 0 1 = cc in omega arith)
tests_diagonal false false c true true f g = (refl, refl)
tests_diagonal false false c true false true g = absurd (let z : ◌≡◌ {A = ℕ} 0 1 = cc in omega arith)
tests_diagonal false false c true false false g = absurd (let z : ◌≡◌ {A = ℕ} 0 1 = cc in omega arith)

-- by rows: blocks agree, and nothing bars it
tests_rows : (a b c d e f : Bool) → by_tests a b c d e f ≡ Rows → (d ≡ true) × (f ≡ false)
tests_rows true b c d e f g = absurd (let z : ◌≡◌ {A = ℕ} 0 1 = cc in omega arith)
tests_rows false true true d e f g = absurd (let z : ◌≡◌ {A = ℕ} 0 1 = cc in omega arith)
tests_rows false true false d e f g = absurd (let z : ◌≡◌ {A = ℕ} 0 1 = cc in omega arith)
tests_rows false false c false e f g = absurd (let z : ◌≡◌ {A = ℕ} 0 1 = cc in omega arith)
tests_rows false false c true true f g = absurd (let z : ◌≡◌ {A = ℕ} 0 1 = cc in omega arith)
tests_rows false false c true false true g = absurd (let z : ◌≡◌ {A = ℕ} 0 1 = cc in omega arith)
tests_rows false false c true false false g = (refl, refl)

module _ (r : ℕ) (blocks : List Block) where
  -- what bars rows
  abbrev barred : Bool
  barred = ltb 0 (blocks_d blocks) && not (all is_sparse (layouts_of blocks))

  way_tests : way_of r blocks ≡ by_tests (any (λ l. ltb r (rank l)) (layouts_of blocks)) (all is_dense (layouts_of blocks) && run_on_first r blocks) (later_agree r (shapes_of blocks)) (agree r blocks) (all_diagonal blocks && run_on_diagonal r blocks) barred
  unfolding way_of way_other
  way_tests = refl

  pub way_diagonal : way_of r blocks ≡ Diagonal → (agree r blocks ≡ true) × (all_diagonal blocks ≡ true)
  way_diagonal e =
      let t = tests_diagonal (any (λ l. ltb r (rank l)) (layouts_of blocks)) (all is_dense (layouts_of blocks) && run_on_first r blocks) (later_agree r (shapes_of blocks)) (agree r blocks) (all_diagonal blocks && run_on_diagonal r blocks) barred (sym way_tests ∙ e) in
      (t.0, (both_true (all_diagonal blocks) (run_on_diagonal r blocks) t.1).0)

  pub way_rows : way_of r blocks ≡ Rows → (agree r blocks ≡ true) × (barred ≡ false)
  way_rows e = tests_rows (any (λ l. ltb r (rank l)) (layouts_of blocks)) (all is_dense (layouts_of blocks) && run_on_first r blocks) (later_agree r (shapes_of blocks)) (agree r blocks) (all_diagonal blocks && run_on_diagonal r blocks) barred (sym way_tests ∙ e)

-- ---- rows that turn dense

-- a well-formed layout without dependencies is so as a dense one
dense_of : (l : Layout) → WellFormed l → l.states ≡ [] → l.inputs ≡ [] → WellFormed (to_dense l)
unfolding to_dense sorted
dense_of l f s i = record {
  kind_most = omega arith;
  dense_most = omega arith;
  rank_most = f.rank_most;
  sparse_rows = λ _. refl;
  rows_distinct = refl;
  row_lengths = each_nil _;
  rows_lie_below = each_nil _;
  dense_all = λ _. refl;
  diagonal_wide = λ k. absurd (omega arith);
  diagonal_alike = λ k. absurd (omega arith);
  states_fit = rw s (no_deps_lem _);
  inputs_fit = rw i (no_deps_lem _);
}

-- ---- the verdict

module _ (r : ℕ) (blocks : List Block) (p : FormedBlocks r blocks) (few : r ≤ rank_limit) where
  -- blocks are joined in the way that is theirs
  joined : {way : Way} → way_of r blocks ≡ way → join_blocks r blocks ≡ joined_by way r blocks
  joined e = joined_by_lem r blocks ∙ ap (λ (w : Way). joined_by w r blocks) e

  -- 10
  pub joined_none : way_of r blocks ≡ Unjoinable → join_blocks r blocks ≡ refused 10
  joined_none e = joined e

  -- dense: 13 or given
  pub joined_dense : way_of r blocks ≡ Dense → join_blocks r blocks ≡ sized_or (joined_full r blocks (dense (joined_shape r blocks)))
  joined_dense e = joined e ∙ dense_made r blocks few p

  -- along the diagonal with R - D = 0: 12
  pub joined_bare : way_of r blocks ≡ Diagonal → r ≤ blocks_d blocks → join_blocks r blocks ≡ refused 12
  joined_bare e h = joined e ∙ diagonal_none r blocks h

  -- else: 13 or given
  pub joined_diagonal : way_of r blocks ≡ Diagonal → blocks_d blocks < r → join_blocks r blocks ≡ sized_or (joined_full r blocks (join_diagonal r blocks))
  joined_diagonal e h = let w = way_diagonal r blocks e in joined e ∙ diagonal_made r blocks w.0 p w.1 few h

  -- by rows: 13 if they pass a limit of size, and then if all does with the dependencies
  pub joined_rows_lem : way_of r blocks ≡ Rows → join_blocks r blocks ≡ if (within_sizes (joined_rows r blocks)) (sized_or (joined_full r blocks (dense_if_full (joined_rows r blocks)))) (refused 13)
  unfolding to_dense
  joined_rows_lem e = joined e ∙ ap (λ (v : Verdict Layout). in_form dense_if_full v then λ l. with_joined r blocks l) (rows_made r blocks w.0 p w.1 few) ∙ by (within_sizes (joined_rows r blocks))
    where
      w : (agree r blocks ≡ true) × (barred r blocks ≡ false)
      w = way_rows r blocks e

      l : Layout
      l = joined_rows r blocks

      size : rank l ≡ r
      size = length_reach r blocks

      full : with_joined r blocks (dense_if_full l) ≡ sized_or (joined_full r blocks (dense_if_full l))
      full =
          let form = rows_form r blocks w.0 p w.1 few in
          form_made (form_joined p (dense_if_full l) (if_full (λ x. rank x ≡ r) l size size) (if_full WellFormed l form (dense_of l form refl refl)))

      by : (t : Bool) → (in_form dense_if_full (if t (given l) (refused 13)) then λ x. with_joined r blocks x) ≡ if t (sized_or (joined_full r blocks (dense_if_full l))) (refused 13)
      by true = full
      by false = refl

-- ---- the blocks of a call

-- they are well formed
pub blocks_formed : {r n : ℕ} {places records : List ℕ} {starts : List (List ℕ)} {s : List ℤ} → Handed r n places records starts s → FormedBlocks r (map block_of (blocks_at r n places s))
unfolding block_of block_at
blocks_formed {r} {n} {places} {records} {starts} {s} p b m =
    let raw = Memᴰ.of_map block_of (blocks_at r n places s) m in
    let thing = Memᴰ.of_map (block_at r) (standing n places s) raw.1 in
    let t : List ℤ = thing.0 in
    let is : block_of (block_at r t) ≡ b = ap block_of thing.2 ∙ raw.2 in
    let judged : all sound (map (drop (r + 1)) (standing n places s)) ≡ true = rw p.moved.begin at p.judged in
    let sound-one : sound (drop (r + 1) t) ≡ true = all_each (λ (u : List ℤ). sound (drop (r + 1) u)) (sym (all_of sound (drop (r + 1)) (standing n places s)) ∙ judged) t thing.1 in
    let long : 0 < length t - (r + 1) = rw length-drop at (sound_long (drop (r + 1) t) sound-one) in
    subst (FormedBlock r) is (record { form = (layout_sound (drop (suc r) t) (rw add-one at sound-one)).form; size = rw (length-map, length-take) (omega arith) })
