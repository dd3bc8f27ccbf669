-- The blocks of a call, one by one: their records, starts and layouts. Assumes nothing.
use mathlib.Core.Path.{◌≡◌, refl, sym, ap, ◌∙◌, subst}
use mathlib.Core.List.{List, [], ◌∷◌, Memᴰ}
use Prim.Native.Nat.{ℕ, zero, suc, ◌+◌, ◌<◌}
use native.Mathlib.Numerals.{add-one}
use native.Mathlib.Omega.{arith}
use lib.IntN.{ℤ}
use lib.ListN.{length, get_or, take, drop, length-map}
use Rattle.rules.specs.Record.{layout_in, naturals, RawBlock, block_at}
use Rattle.rules.specs.Concatenate.{Block, block_of}
use Rattle.rules.proofs.Ranges.{map_at}
use Rattle.lists.specs.Places.{standing}
use Rattle.lists.specs.Starts.{blocks_at, starts_in, StartOf}
use Rattle.lists.specs.Records.{JudgedRecord}
use Rattle.lists.proofs.Beginning.{length_standing}
use Rattle.blocks.proofs.Given.{Handed}
use Rattle.entries.specs.declared.entries.Listed.{Listed}
use Rattle.entries.specs.Listing.{OfWidth}
use Rattle.entries.specs.Merging.{BlockAsked, AllAsked, blocks_of}
use Rattle.join.specs.Assembling.{JoinAsked}

-- ---- elements of a list

-- the one at an index is one of them
get_or_in : {A : Type 0} (l : List A) (i : ℕ) (d : A) → i < length l → Memᴰ (get_or l i d) l
get_or_in [] i d h = absurd (omega arith)
get_or_in (x ∷ l) zero d h = Memᴰ.head refl
get_or_in (x ∷ l) (suc i) d h = Memᴰ.tail (get_or_in l i d (omega arith))

-- ---- the blocks

module _ {r n : ℕ} {places records : List ℕ} {starts : List (List ℕ)} {s t : List ℤ} (a : JoinAsked r n places records starts s t) where
  pub handed : 0 < n → Handed r n places records starts s
  handed h = record { some = h; low = a.rank_most; inside = a.inside; moved = a.moved; judged = a.judged; begun = a.begun }

  module _ {i : ℕ} (h : i < n) where
    -- the slice at which block i begins
    abbrev here : List ℤ
    here = get_or (standing n places s) i []

    inside : i < length (standing n places s)
    inside = rw (length_standing a.inside) h

    judged_here : JudgedRecord (drop (r + 1) here)
    judged_here =
        subst JudgedRecord (ap (λ (l : List (List ℤ)). get_or l i []) a.moved.begin ∙ map_at (drop (r + 1)) (standing n places s) i [] [] inside) (a.known.known i h)

    start_here : StartOf (naturals (take r here)) (get_or starts i [])
    unfolding block_at
    start_here =
        let is : get_or (starts_in (blocks_at r n places s)) i [] ≡ naturals (take r here) =
        map_at (λ b. naturals b.start) (blocks_at r n places s) i (block_at r []) [] (rw length-map inside)
        ∙ ap (λ (b : RawBlock). naturals b.start) (map_at (block_at r) (standing n places s) i [] (block_at r []) inside) in
        subst (λ z. StartOf z (get_or starts i [])) is (a.begun.each i (omega (arith, a.inside.few)))

    block_asked : (x : Listed) {w : ℕ} → OfWidth x r w (layout_in (drop (r + 1) here)) → BlockAsked x r w (get_or starts i []) here
    block_asked x f = record { judged = judged_here; few = a.rank_most; start_is = start_here; start_low = a.begun.low i; fits = f }

    -- the block
    abbrev block : Block
    block = block_of (block_at r here)

    layout_here : block.layout ≡ layout_in (drop (r + 1) here)
    unfolding block_of block_at
    layout_here = ap (λ (k : ℕ). layout_in (drop k here)) (sym (add-one r))

    block_is : get_or (blocks_of r n places s) i (block_of (block_at r [])) ≡ block
    block_is =
        map_at block_of (blocks_at r n places s) i (block_at r []) (block_of (block_at r [])) (rw length-map inside)
        ∙ ap block_of (map_at (block_at r) (standing n places s) i [] (block_at r []) inside)

    block_in : Memᴰ block (blocks_of r n places s)
    block_in =
        subst (λ b. Memᴰ b (blocks_of r n places s)) block_is
        (get_or_in (blocks_of r n places s) i (block_of (block_at r [])) (rw (length-map, length-map) inside))

  -- each list of them can be merged
  pub all_asked : (x : Listed) {w : ℕ} → ((b : Block) → Memᴰ b (blocks_of r n places s) → OfWidth x r w b.layout) → AllAsked x r w n places starts s
  all_asked x {w} f = record {
    inside = a.inside;
    each = λ i h. block_asked h x (subst (OfWidth x r w) (layout_here h) (f (block_of (block_at r (get_or (standing n places s) i []))) (block_in h)));
  }
