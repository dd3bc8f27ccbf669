-- What is measured of all blocks. Assumes nothing.
use mathlib.Core.Path.{◌≡◌, refl, sym, ap, ◌∙◌}
use mathlib.Core.List.{List, [], ◌∷◌, map}
use Prim.Native.Nat.{ℕ, suc, ◌+◌, ◌*◌, ◌-◌, ◌^◌, ◌<◌, ◌≤◌}
use native.Mathlib.Nat.{add_assoc, add-zero, zero-add}
use native.Mathlib.Numerals.{add-one}
use native.Mathlib.Omega.{arith}
use lib.IntN.{ℤ}
use lib.ListN.{length, get_or, take, drop, drop_of_length-le}
use lib.Seq.{drop-cons}
use mir.Syntax.{w64}
use mir.Val.{Fits}
use Rattle.rules.specs.Limits.{rank_limit, product_limit}
use Rattle.rules.specs.Lists.{sum, larger, largest}
use Rattle.rules.specs.Layout.{Layout}
use Rattle.rules.specs.Record.{layout_in}
use Rattle.rules.specs.Concatenate.{Block}
use Rattle.rules.proofs.Largest.{larger_is}
use Rattle.shapes.proofs.Stretching.{larger_zero}
use Rattle.lists.proofs.Beginning.{place_inside, place_fits}
use Rattle.lists.proofs.Common.{zero_larger, larger_assoc}
use Rattle.blocks.specs.declared.measuring.Measure.{Measure}
use Rattle.blocks.specs.declared.measuring.Measure.TheVariants.{First, Extent, Reach}
use Rattle.blocks.specs.declared.measuring.Fold.{Fold}
use Rattle.blocks.specs.declared.measuring.Fold.TheVariants.{Sum, Largest}
use Rattle.blocks.specs.Blocks.{block_with, blocks_by, BlocksAt}
use Rattle.blocks.specs.Measured.{measure, Measurable, added, folded, measure_limit, fold_limit}
use Rattle.blocks.proofs.Asks.{sound_at}
use Rattle.blocks.proofs.Placed.{no_block, length_blocks, start_four, start_low, whole_at}

-- ---- one block

module _ {what : Measure} (start : List ℕ) (l : Layout) {v : ℕ} where
  pub first_measured : what ≡ First → v ≡ get_or l.shape 0 1 → v ≡ measure what (block_with start l)
  first_measured e f = f ∙ rw e

  module _ {axis : ℕ} (f : v ≡ get_or l.shape axis 0) where
    pub extent_measured : what ≡ Extent axis → v ≡ measure what (block_with start l)
    extent_measured e = f ∙ rw e

    pub reach_measured : what ≡ Reach axis → get_or start axis 0 + v ≡ measure what (block_with start l)
    reach_measured e = rw (e, f)

-- where a start is read, there is such an axis
pub reach_axis : {what : Measure} {axis : ℕ} → what ≡ Reach axis → Measurable what → axis < 4
reach_axis e m = rw e at m

pub reach_fits : {what : Measure} {axis : ℕ} → what ≡ Reach axis → Measurable what → Fits w64 (axis * 8)
reach_fits e m = record { fits = let h = reach_axis e m in omega arith }

-- a start and an extent are small
pub reach_low : (start : List ℕ) (axis : ℕ) {v : ℕ} → ((k : ℕ) → get_or start k 0 ≤ product_limit) → v ≤ product_limit → get_or start axis 0 + v ≤ measure_limit
reach_low start axis h l = omega (arith, h axis)

pub sum_fits : (start : List ℕ) (axis : ℕ) {v : ℕ} → ((k : ℕ) → get_or start k 0 ≤ product_limit) → v ≤ product_limit → Fits w64 (get_or start axis 0 + v)
sum_fits start axis h l = record { fits = omega (arith, h axis) }

pub ruleset measured_laws = (first_measured, extent_measured, reach_measured, reach_axis, reach_fits, reach_low, sum_fits)

-- ---- two measures

module _ {how : Fold} (total x : ℕ) where
  pub sum_added : how ≡ Sum → total + x ≡ added how total x
  sum_added e = rw e

  pub largest_added : {r : ℕ} → how ≡ Largest → r ≡ larger total x → r ≡ added how total x
  largest_added e f = f ∙ rw e

pub ruleset added_laws = (sum_added, largest_added)

added_assoc : (how : Fold) (x y z : ℕ) → added how (added how x y) z ≡ added how x (added how y z)
added_assoc Sum x y z = add_assoc x y z
added_assoc Largest x y z = larger_assoc x y z

zero_added : (how : Fold) (x : ℕ) → added how 0 x ≡ x
zero_added Sum x = zero-add x
zero_added Largest x = zero_larger x

added_none : (how : Fold) (x : ℕ) → added how x (folded how []) ≡ x
unfolding sum largest
added_none Sum x = add-zero x
added_none Largest x = larger_zero x

folded_cons : (how : Fold) (x : ℕ) (l : List ℕ) → folded how (x ∷ l) ≡ added how x (folded how l)
unfolding sum largest
folded_cons Sum x l = refl
folded_cons Largest x l = refl

added_low : (how : Fold) (x y : ℕ) → added how x y ≤ x + y
added_low Sum x y = omega arith
added_low Largest x y = (larger_is x y).least (x + y) (omega arith) (omega arith)

-- ---- all of them

-- the measures of the first k of n blocks are taken together
pub record FoldTo (how : Fold) (f : Block → ℕ) (n k : ℕ) (l : List Block) (total : ℕ) : Type 0 where
  pub upto : k ≤ n
  pub size : length l ≡ n
  pub few : n ≤ 16
  pub low : total ≤ k * 131072
  pub eq : folded how (map f l) ≡ added how total (folded how (map f (drop k l)))

module _ {how : Fold} {f : Block → ℕ} {n : ℕ} {records : List ℕ} {starts : List (List ℕ)} {s : List ℤ} (p : BlocksAt n records starts s) where
  pub fold_start : FoldTo how f n 0 (blocks_by rank_limit n records starts s) 0
  fold_start = record {
    upto = omega arith;
    size = length_blocks p rank_limit;
    few = p.sound.inside.few;
    low = omega arith;
    eq = sym (zero_added how (folded how (map f (blocks_by rank_limit n records starts s))));
  }

  module _ {i total : ℕ} (q : FoldTo how f n i (blocks_by rank_limit n records starts s) total) where
    pub fold_turn : {x total' : ℕ} → i < n →
        x ≡ f (block_with (get_or starts i []) (layout_in (take (length s - get_or records i 0) (drop (get_or records i 0) s)))) → x ≤ measure_limit →
        total' ≡ added how total x → FoldTo how f n (i + 1) (blocks_by rank_limit n records starts s) total'
    fold_turn {x} {total'} h e m g =
        let l : List Block = blocks_by rank_limit n records starts s in
        let there : f (get_or l i no_block) ≡ x = sym (e ∙ ap f (whole_at p h)) in
        let rest : List ℕ = map f (drop (suc i) l) in
        let more = added_low how total x in
        record {
          upto = omega arith;
          size = q.size;
          few = q.few;
          low = rw g (omega (arith, q.low));
          eq = q.eq
              ∙ rw (drop-cons l i no_block (omega (arith, q.size)), add-one, g, there, folded_cons how x rest) (sym (added_assoc how total x (folded how rest)));
        }

    pub fold_done : n ≤ i → total ≡ folded how (map f (blocks_by rank_limit n records starts s))
    fold_done h = sym (q.eq ∙ rw (drop_of_length-le (blocks_by rank_limit n records starts s) {i = i} (omega (arith, q.size))) (added_none how total))

pub fold_low : {how : Fold} {f : Block → ℕ} {n k : ℕ} {l : List Block} {total : ℕ} → FoldTo how f n k l total → total ≤ fold_limit
fold_low q = omega (arith, q.low, q.upto, q.few)

-- so far they come to less than a sum could pass
pub fold_small : {how : Fold} {f : Block → ℕ} {n k : ℕ} {l : List Block} {total : ℕ} → FoldTo how f n k l total → total < 2 ^ 31
fold_small q = omega (arith, q.low, q.upto, q.few)

pub ruleset fold_laws = (fold_start, fold_turn, fold_done, fold_low, fold_small, start_four, start_low, place_inside, place_fits, sound_at)
