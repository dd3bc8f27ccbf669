-- What `concatenate` makes of blocks, by the way in which they are joined. Assumes nothing.
use mathlib.Core.Path.{◌≡◌, refl, sym, ap, ◌∙◌}
use mathlib.Core.Bool.{Bool, true, false, not, ◌&&◌}
use mathlib.Core.List.{List, [], ◌∷◌, ◌++◌}
use Prim.Native.Nat.{ℕ, zero, suc, ◌≤◌}
use native.Mathlib.Omega.{arith}
use lib.Dec.{ltb}
use lib.ListN.{length, take, replicate, length-map}
use Rattle.rules.specs.Limits.{rank_limit}
use Rattle.rules.specs.Lists.{if, all, any, fit_to}
use Rattle.rules.specs.Refusals.{Verdict, given, refused, in_form, ◌then◌, ◌when◌, lowest}
use Rattle.rules.specs.Layout.{Layout, rank, is_dense, is_sparse, made}
use Rattle.rules.specs.CountsAndForms.{dense, dense_if_full}
use Rattle.rules.specs.Concatenate.{Block, layouts_of, shapes_of, run_on_first, run_on_diagonal, later_agree, joined_shape, join_dense, blocks_d, agree, all_diagonal, join_diagonal, joined_rows, join_sparse, join_other, join_blocks}
use Rattle.rules.proofs.Ranges.{from_length}
use Rattle.rules.proofs.ConcatenateMade.{joined_full, length_dense}
use Rattle.blocks.specs.declared.deciding.Way.{Way}
use Rattle.blocks.specs.declared.deciding.Way.TheVariants.{Unjoinable, Dense, Diagonal, Rows}
use Rattle.blocks.specs.declared.deciding.Join.{Join}
use Rattle.blocks.specs.Joins.{way_other, way_of, dense_by, shape_by, join_of}

-- a layout with the dependencies of all blocks
abbrev pub with_joined : ℕ → List Block → Layout → Verdict Layout
with_joined r blocks l = made (joined_full r blocks l)

-- what is made in this way
abbrev pub joined_by : Way → ℕ → List Block → Verdict Layout
joined_by Unjoinable r blocks = refused 10
joined_by Dense r blocks = with_joined r blocks (dense (joined_shape r blocks))
joined_by Diagonal r blocks = with_joined r blocks (join_diagonal r blocks)
joined_by Rows r blocks = in_form dense_if_full (made (joined_rows r blocks)) then λ l. with_joined r blocks l

-- blocks are joined in the way that is theirs
pub joined_by_lem : (r : ℕ) (blocks : List Block) → join_blocks r blocks ≡ joined_by (way_of r blocks) r blocks
unfolding join_blocks join_dense join_other join_sparse way_of way_other lowest
joined_by_lem r blocks =
    go (any (λ l. ltb r (rank l)) (layouts_of blocks)) (all is_dense (layouts_of blocks) && run_on_first r blocks) (later_agree r (shapes_of blocks)) (agree r blocks)
    (all_diagonal blocks && run_on_diagonal r blocks) (ltb 0 (blocks_d blocks) && not (all is_sparse (layouts_of blocks)))
  where
    go : (above first later agreed diagonal barred : Bool) →
        (lowest (10 when above ∷ []) then λ _.
        if first (lowest (10 when not later ∷ []) then λ _. given (dense (joined_shape r blocks)))
        (lowest (10 when not agreed ∷ []) then λ _.
        if diagonal (given (join_diagonal r blocks)) (lowest (10 when barred ∷ []) then λ _. in_form dense_if_full (made (joined_rows r blocks))))
        then λ l. with_joined r blocks l)
        ≡ joined_by (if above Unjoinable (if first (if later Dense Unjoinable) (if agreed (if diagonal Diagonal (if barred Unjoinable Rows)) Unjoinable))) r blocks
    go true first later agreed diagonal barred = refl
    go false true true agreed diagonal barred = refl
    go false true false agreed diagonal barred = refl
    go false false later false diagonal barred = refl
    go false false later true true barred = refl
    go false false later true false true = refl
    go false false later true false false = refl

-- ---- the shapes

-- every join has the asked rank
length_shape : (way : Way) → (way ≡ Unjoinable → ⊥) → (r : ℕ) (blocks : List Block) → length (shape_by way r blocks) ≡ r
length_shape Unjoinable n r blocks = absurd (n refl)
length_shape Dense n r blocks = length_dense r blocks
length_shape Diagonal n r blocks = rw (length-map, from_length)
length_shape Rows n r blocks = rw (length-map, from_length)

-- in front of the zeros stands the shape
in_front : (l z : List ℕ) (n : ℕ) → length l ≤ n → take (length l) (take n (l ++ z)) ≡ l
in_front [] z n h = refl
in_front (x ∷ l) z zero h = absurd (omega arith)
in_front (x ∷ l) z (suc n) h = ap (λ (m : List ℕ). x ∷ m) (in_front l z n (omega arith))

-- ---- by what `join_of` answers

module _ (r : ℕ) (blocks : List Block) {j : Join} (e : j ≡ join_of r blocks) {way : Way} (f : j.way ≡ way) where
  -- the way that it names
  pub way_named : way_of r blocks ≡ way
  way_named = ap (λ (k : Join). k.way) (sym e) ∙ f

  -- is the one in which they are joined
  pub join_by : join_blocks r blocks ≡ joined_by way r blocks
  join_by = joined_by_lem r blocks ∙ ap (λ (w : Way). joined_by w r blocks) way_named

  -- to these extents
  pub join_extents : j.extents ≡ fit_to rank_limit 0 (shape_by way r blocks)
  join_extents = ap (λ (k : Join). k.extents) e ∙ ap (λ (w : Way). fit_to rank_limit 0 (shape_by w r blocks)) way_named

  -- of which the first r are the shape
  pub join_shape : (way ≡ Unjoinable → ⊥) → r ≤ rank_limit → take r j.extents ≡ shape_by way r blocks
  unfolding fit_to
  join_shape n h =
      let size : length (shape_by way r blocks) ≡ r = length_shape way n r blocks in
      rw join_extents (rw size at (in_front (shape_by way r blocks) (replicate rank_limit 0) rank_limit (omega (arith, size))))

  -- and this dense-axis count
  pub join_axes : j.dense ≡ dense_by way r (layouts_of blocks)
  join_axes = ap (λ (k : Join). k.dense) e ∙ ap (λ (w : Way). dense_by w r (layouts_of blocks)) way_named
