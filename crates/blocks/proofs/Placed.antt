-- The blocks at hand, one after the other. Assumes nothing.
use mathlib.Core.Path.{◌≡◌, refl, sym, ap, ◌∙◌}
use mathlib.Core.List.{List, [], ◌∷◌, map}
use Prim.Native.Nat.{ℕ, zero, suc, ◌+◌, ◌-◌, ◌<◌, ◌≤◌}
use native.Mathlib.Omega.{arith}
use lib.IntN.{ℤ}
use lib.ListN.{length, get_or, take, drop}
use lib.Seq.{get_or-drop, take_all}
use Rattle.rules.specs.Limits.{rank_limit, product_limit}
use Rattle.rules.specs.Layout.{Layout}
use Rattle.rules.specs.Record.{layout_in}
use Rattle.rules.specs.Concatenate.{Block, layouts_of, shapes_of}
use Rattle.lists.specs.Records.{layouts_at}
use Rattle.blocks.specs.Blocks.{block_with, placed, blocks_by, BlocksAt}
use Rattle.blocks.proofs.Asks.{length_layouts, layout_at_lem}

module _ (r : ℕ) where
  -- as many blocks as layouts
  length_placed : (starts : List (List ℕ)) (l : List Layout) → length (placed r starts l) ≡ length l
  unfolding placed
  length_placed starts [] = refl
  length_placed starts (x ∷ l) = ap suc (length_placed (drop 1 starts) l)

  -- block i has start i and layout i
  pub placed_at : (starts : List (List ℕ)) (l : List Layout) (i : ℕ) (d : Block) (e : Layout) → i < length l →
      get_or (placed r starts l) i d ≡ block_with (take r (get_or starts i [])) (get_or l i e)
  unfolding placed
  placed_at starts [] i d e h = absurd (omega arith)
  placed_at starts (x ∷ l) zero d e h = refl
  placed_at starts (x ∷ l) (suc i) d e h =
      let at : 1 + i ≡ suc i = omega arith in
      placed_at (drop 1 starts) l i d e (omega arith)
      ∙ ap (λ (t : List ℕ). block_with (take r t) (get_or l i e)) (get_or-drop 1 starts i [] ∙ ap (λ (k : ℕ). get_or starts k []) at)

  -- their layouts and their shapes
  pub layouts_placed : (starts : List (List ℕ)) (l : List Layout) → layouts_of (placed r starts l) ≡ l
  unfolding placed
  layouts_placed starts [] = refl
  layouts_placed starts (x ∷ l) = ap (λ (m : List Layout). x ∷ m) (layouts_placed (drop 1 starts) l)

  pub shapes_placed : (starts : List (List ℕ)) (l : List Layout) → shapes_of (placed r starts l) ≡ map (λ x. x.shape) l
  unfolding placed
  shapes_placed starts [] = refl
  shapes_placed starts (x ∷ l) = ap (λ (m : List (List ℕ)). x.shape ∷ m) (shapes_placed (drop 1 starts) l)

-- where nothing is read
abbrev pub no_block : Block
no_block = block_with [] (layout_in [])

module _ {n : ℕ} {records : List ℕ} {starts : List (List ℕ)} {s : List ℤ} (p : BlocksAt n records starts s) where
  pub length_blocks : (r : ℕ) → length (blocks_by r n records starts s) ≡ n
  length_blocks r = length_placed r starts (layouts_at n records s) ∙ length_layouts p.sound.inside

  module _ {i : ℕ} (h : i < n) where
    -- block i: its start, and the layout of the record that is lent there
    pub block_at_lem : (r : ℕ) → block_with (take r (get_or starts i [])) (layout_in (take (length s - get_or records i 0) (drop (get_or records i 0) s))) ≡ get_or (blocks_by r n records starts s) i no_block
    block_at_lem r =
        let inside : i < length (layouts_at n records s) = rw (length_layouts p.sound.inside) h in
        ap (λ (l : Layout). block_with (take r (get_or starts i [])) l) (layout_at_lem p.sound.inside h)
        ∙ sym (placed_at r starts (layouts_at n records s) i no_block (layout_in []) inside)

    pub start_four : length (get_or starts i []) ≡ rank_limit
    start_four = p.fours i (omega (arith, p.sound.inside.few))

    pub start_low : (k : ℕ) → get_or (get_or starts i []) k 0 ≤ product_limit
    start_low k = p.low i k

    -- a start of four numbers is whole
    pub whole_at : block_with (get_or starts i []) (layout_in (take (length s - get_or records i 0) (drop (get_or records i 0) s))) ≡ get_or (blocks_by rank_limit n records starts s) i no_block
    whole_at =
        ap (λ (t : List ℕ). block_with t (layout_in (take (length s - get_or records i 0) (drop (get_or records i 0) s)))) (sym (take_all 4 (get_or starts i []) (omega (arith, start_four))))
        ∙ block_at_lem rank_limit
