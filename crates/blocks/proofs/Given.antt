-- The blocks of a call are the blocks at hand. Assumes nothing.
use mathlib.Core.Path.{◌≡◌, refl, sym, ap, ◌∙◌}
use mathlib.Core.Bool.{Bool, true, ◌&&◌, ◌||◌}
use mathlib.Core.List.{List, [], ◌∷◌, map}
use Prim.Native.Nat.{ℕ, suc, ◌+◌, ◌-◌, ◌<◌, ◌≤◌}
use native.Mathlib.Numerals.{add-one}
use native.Mathlib.Omega.{arith}
use lib.Dec.{eqb, ltb}
use lib.IntN.{ℤ}
use lib.ListN.{length, get_or, take, drop, replicate, length-map, length-take, length-drop, get_or-map}
use lib.Seq.{get_or-take, ext_get_or}
use Rattle.rules.specs.Limits.{rank_limit}
use Rattle.rules.specs.Lists.{if, all, any, keep, sum, largest, below, fit_to}
use Rattle.rules.specs.Layout.{Layout, rank, is_dense, is_diagonal}
use Rattle.rules.specs.Record.{naturals, layout_in, entries_from, section_at, walk, sound, RawBlock, block_at}
use Rattle.rules.specs.Concatenate.{Block, layouts_of, shapes_of, first_extent, start_at, run_on_first, run_on_diagonal, later_extent, later_axes, later_agree, first_d, last_agree, agree, reach, block_of}
use Rattle.rules.proofs.Same.{true_not_false}
use Rattle.rules.proofs.Tests.{all_at}
use Rattle.rules.proofs.Ranges.{map_at, map_agree}
use Rattle.lists.specs.Places.{standing, Inside, PlacesOf}
use Rattle.lists.specs.Starts.{blocks_at, starts_in, StartsOf}
use Rattle.lists.specs.Records.{layouts_at}
use Rattle.lists.proofs.Beginning.{length_standing}
use Rattle.blocks.specs.declared.deciding.Way.{Way}
use Rattle.blocks.specs.declared.deciding.Way.TheVariants.{Unjoinable, Dense, Diagonal, Rows}
use Rattle.blocks.specs.declared.deciding.Join.{Join}
use Rattle.blocks.specs.Blocks.{block_with, blocks_by, BlocksAt}
use Rattle.blocks.specs.Asked.{otherwise}
use Rattle.blocks.specs.Joins.{rows_way, way_other, way_of, dense_by, shape_by, join_of}
use Rattle.blocks.proofs.Placed.{no_block, length_blocks, placed_at}

-- ---- flags do not matter

-- a block without its flag
abbrev pub unflagged : Block → Block
unflagged b = block_with b.start b.layout

layouts_unflagged : (blocks : List Block) → layouts_of (map unflagged blocks) ≡ layouts_of blocks
layouts_unflagged [] = refl
layouts_unflagged (b ∷ blocks) = ap (λ (l : List Layout). b.layout ∷ l) (layouts_unflagged blocks)

shapes_unflagged : (blocks : List Block) → shapes_of (map unflagged blocks) ≡ shapes_of blocks
shapes_unflagged [] = refl
shapes_unflagged (b ∷ blocks) = ap (λ (l : List (List ℕ)). b.layout.shape ∷ l) (shapes_unflagged blocks)

starts_unflagged : (place : ℕ → List ℕ) (run : ℕ) (blocks : List Block) → start_at place run (map unflagged blocks) ≡ start_at place run blocks
unfolding start_at
starts_unflagged place run [] = refl
starts_unflagged place run (b ∷ blocks) = rw (starts_unflagged place (run + first_extent b.layout) blocks)

reach_unflagged : (blocks : List Block) (axis : ℕ) → reach (map unflagged blocks) axis ≡ reach blocks axis
unfolding largest
reach_unflagged [] axis = refl
reach_unflagged (b ∷ blocks) axis = rw (reach_unflagged blocks axis)

-- the way, by layouts, shapes, and whether the starts run along each line
abbrev way_on : ℕ → List Layout → List (List ℕ) → Bool → Bool → Way
way_on r l shapes first diagonal =
    let d : ℕ = first_d (keep otherwise l) in
    if (any (λ x. ltb r (rank x)) l) Unjoinable
    (if (all is_dense l && first) (if (later_agree r shapes) Dense Unjoinable)
    (if (all (λ x. eqb x.dense d) (keep otherwise l) && all (λ x. eqb (rank x) r) l && last_agree (r - d) shapes)
    (if (all (λ x. is_diagonal x || all (eqb 1) x.shape) l && diagonal) Diagonal (rows_way d l)) Unjoinable))

way_on_lem : (r : ℕ) (blocks : List Block) → way_of r blocks ≡ way_on r (layouts_of blocks) (shapes_of blocks) (run_on_first r blocks) (run_on_diagonal r blocks)
unfolding way_of way_other agree
way_on_lem r blocks = refl

module _ (r : ℕ) (blocks : List Block) where
  way_unflagged : way_of r (map unflagged blocks) ≡ way_of r blocks
  way_unflagged =
      let bare : List Block = map unflagged blocks in
      way_on_lem r bare
      ∙ ap (λ (l : List Layout). way_on r l (shapes_of bare) (run_on_first r bare) (run_on_diagonal r bare)) (layouts_unflagged blocks)
      ∙ ap (λ (shapes : List (List ℕ)). way_on r (layouts_of blocks) shapes (run_on_first r bare) (run_on_diagonal r bare)) (shapes_unflagged blocks)
      ∙ ap (λ (t : Bool). way_on r (layouts_of blocks) (shapes_of blocks) t (run_on_diagonal r bare)) (starts_unflagged (λ run. fit_to r 0 (run ∷ [])) 0 blocks)
      ∙ ap (λ (t : Bool). way_on r (layouts_of blocks) (shapes_of blocks) (run_on_first r blocks) t) (starts_unflagged (λ run. replicate r run) 0 blocks)
      ∙ sym (way_on_lem r blocks)

  shape_unflagged : (way : Way) → shape_by way r (map unflagged blocks) ≡ shape_by way r blocks
  shape_unflagged Unjoinable = refl
  shape_unflagged Dense =
      ap (λ (l : List Layout). if (eqb r 0) [] (sum (map first_extent l) ∷ map (later_extent (shapes_of (map unflagged blocks))) (later_axes r))) (layouts_unflagged blocks)
      ∙ ap (λ (shapes : List (List ℕ)). if (eqb r 0) [] (sum (map first_extent (layouts_of blocks)) ∷ map (later_extent shapes) (later_axes r))) (shapes_unflagged blocks)
  shape_unflagged Diagonal = ap (λ (shapes : List (List ℕ)). map (λ axis. sum (map (λ shape. get_or shape axis 0) shapes)) (below r)) (shapes_unflagged blocks)
  shape_unflagged Rows = map_agree (reach (map unflagged blocks)) (reach blocks) 0 r (λ axis u v. reach_unflagged blocks axis)

  -- how blocks are joined does not depend on their flags
  pub join_unflagged : join_of r (map unflagged blocks) ≡ join_of r blocks
  join_unflagged =
      let bare : List Block = map unflagged blocks in
      let way : Way = way_of r blocks in
      ap (λ (w : Way). made w (layouts_of bare) (shape_by w r bare)) way_unflagged
      ∙ ap (λ (l : List Layout). made way l (shape_by way r bare)) (layouts_unflagged blocks)
      ∙ ap (made way (layouts_of blocks)) (shape_unflagged way)
    where
      made : Way → List Layout → List ℕ → Join
      made w l shape = record { way = w; dense = dense_by w r l; extents = fit_to rank_limit 0 shape }

-- ---- the blocks of a call

-- what a call has of n blocks: where they begin, where their records do, all sound, and their starts by value
pub record Handed (rank n : ℕ) (places records : List ℕ) (starts : List (List ℕ)) (s : List ℤ) : Type 0 where
  pub some : 0 < n
  pub low : rank ≤ rank_limit
  pub inside : Inside n places s
  pub moved : PlacesOf (map (drop (rank + 1)) (standing n places s)) n s records
  pub judged : all sound (standing n records s) ≡ true
  pub begun : StartsOf (starts_in (blocks_at rank n places s)) starts

-- a sound record is not empty
pub sound_long : (t : List ℤ) → sound t ≡ true → 0 < length t
unfolding sound walk section_at entries_from
sound_long [] e = absurd (true_not_false e refl)
sound_long (x ∷ t) e = omega arith

module _ {rank n : ℕ} {places records : List ℕ} {starts : List (List ℕ)} {s : List ℤ} (p : Handed rank n places records starts s) where
  -- so they are at hand
  pub at_hand : BlocksAt n records starts s
  at_hand = record {
    some = p.some;
    sound = record { inside = p.moved.inside; known = λ i h. all_at sound (standing n records s) [] p.judged i (rw (length_standing p.moved.inside) h) };
    size = p.begun.size;
    fours = λ i h. (p.begun.each i h).size;
    low = p.begun.low;
  }

  module _ (i : ℕ) (h : i < n) where
    -- the slice at which block i begins
    abbrev here : List ℤ
    here = get_or (standing n places s) i []

    listed : i < length (standing n places s)
    listed = rw (length_standing p.inside) h

    -- behind its start and its flag stands its record
    record_here : get_or (standing n records s) i [] ≡ drop (rank + 1) here
    record_here = ap (λ (l : List (List ℤ)). get_or l i []) p.moved.begin ∙ map_at (drop (rank + 1)) (standing n places s) i [] [] listed

    -- its start is all there
    long : length (naturals (take rank here)) ≡ rank
    long =
        let judged = all_at sound (standing n records s) [] p.judged i (rw (length_standing p.moved.inside) h) in
        let rest : 0 < length here - (rank + 1) = rw length-drop at (sound_long (drop (rank + 1) here) (rw record_here at judged)) in
        rw (length-map, length-take) (omega arith)

    -- and it is the one by value
    start_here : take rank (get_or starts i []) ≡ naturals (take rank here)
    unfolding block_at
    start_here =
        let four = p.begun.each i (omega (arith, p.inside.few)) in
        let start : get_or (starts_in (blocks_at rank n places s)) i [] ≡ naturals (take rank here) =
        map_at (λ b. naturals b.start) (blocks_at rank n places s) i (block_at rank []) [] (rw length-map listed)
        ∙ ap (λ (b : RawBlock). naturals b.start) (map_at (block_at rank) (standing n places s) i [] (block_at rank []) listed) in
        let size : length (take rank (get_or starts i [])) ≡ rank = rw (length-take, four.size) (omega (arith, p.low)) in
        ext_get_or 0 (take rank (get_or starts i [])) (naturals (take rank here)) (size ∙ sym long)
        (λ k l. get_or-take rank (get_or starts i []) k 0 (rw size at l) ∙ four.numbers k ∙ ap (λ (t : List ℕ). get_or t k 0) start)

    block_here : get_or (blocks_by rank n records starts s) i no_block ≡ get_or (map unflagged (map block_of (blocks_at rank n places s))) i no_block
    unfolding block_of block_at
    block_here =
        let left = placed_at rank starts (layouts_at n records s) i no_block (layout_in []) (rw (length-map, length_standing p.moved.inside) h) in
        let layout : get_or (layouts_at n records s) i (layout_in []) ≡ layout_in (drop (suc rank) here) =
        get_or-map layout_in (standing n records s) i [] ∙ ap layout_in (rw add-one at record_here) in
        let right =
        map_at unflagged (map block_of (blocks_at rank n places s)) i (block_of (block_at rank [])) no_block (rw (length-map, length-map) listed)
        ∙ ap unflagged (map_at block_of (blocks_at rank n places s) i (block_at rank []) (block_of (block_at rank [])) (rw length-map listed))
        ∙ ap (λ (b : RawBlock). unflagged (block_of b)) (map_at (block_at rank) (standing n places s) i [] (block_at rank []) listed) in
        left
        ∙ ap (λ (t : List ℕ). block_with t (get_or (layouts_at n records s) i (layout_in []))) start_here
        ∙ ap (block_with (naturals (take rank here))) layout
        ∙ sym right

  -- they are the blocks of the call, without their flags
  pub blocks_given : blocks_by rank n records starts s ≡ map unflagged (map block_of (blocks_at rank n places s))
  blocks_given =
      ext_get_or no_block (blocks_by rank n records starts s) (map unflagged (map block_of (blocks_at rank n places s)))
      (length_blocks at_hand rank ∙ sym (simp length-map (length_standing p.inside)))
      (λ i l. block_here i (rw (length_blocks at_hand rank) at l))

  -- and they are joined as those are
  pub join_given : join_of rank (blocks_by rank n records starts s) ≡ join_of rank (map block_of (blocks_at rank n places s))
  join_given = ap (join_of rank) blocks_given ∙ join_unflagged rank (map block_of (blocks_at rank n places s))
