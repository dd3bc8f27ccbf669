-- Which numbers `concatenate` is refused with, and that what it gives is sound. Assumes nothing.
use mathlib.Core.Path.{◌≡◌, refl, subst}
use mathlib.Core.Bool.{not, ◌&&◌}
use mathlib.Core.List.Memᴰ
use mathlib.Core.List.{List, [], ◌∷◌, ◌++◌, map, Memᴰ}
use Prim.Native.Nat.{ℕ, suc, ◌+◌, ◌-◌, ◌^◌, ◌<◌, ◌≤◌}
use native.Mathlib.Omega.{arith}
use lib.Dec.{ltb}
use lib.ListN.{length, get_or, drop, length-append, length-drop, get_or-eq_default}
use lib.Seq.{get_or-drop}
use Rattle.rules.specs.Limits.{component_limit}
use Rattle.rules.specs.Lists.{if, all, any, none, keep, product, fit_to}
use Rattle.rules.specs.RowsInOrder.{sorted, increasing, Each}
use Rattle.rules.specs.Refusals.{given, ◌when◌}
use Rattle.rules.specs.Layout.{Layout, rank, is_dense, is_sparse, made, sound_layout, well_formed, within_sizes, within_product}
use Rattle.rules.specs.Soundness.{Sound, DepsLow}
use Rattle.rules.specs.Dependencies.{index_of, on_index}
use Rattle.rules.specs.CountsAndForms.{dense, new_scalar, dense_if_full}
use Rattle.rules.specs.Concatenate.{Block, layouts_of, shapes_of, run_on_first, run_on_diagonal, later_agree, join_dense, blocks_d, agree, all_diagonal, moved_by, joined_rows, join_sparse, join_other, joined_deps, join_blocks, concatenate}
use Rattle.rules.proofs.Order.{ComparedNumbers, under, even, above, compare_numbers}
use Rattle.rules.proofs.Sets.{each_nil}
use Rattle.rules.proofs.Refusing.{Refusing, refusing_if, refusing_then, refusing_form, refusing_made}
use Rattle.rules.proofs.RefusedWith.{refusing_step}
use Rattle.rules.proofs.Gathering.{gather_each}
use Rattle.rules.proofs.Sorting.{sorted_each}
use Rattle.rules.proofs.Soundness.{sound_true}
use Rattle.rules.proofs.Changed.{at_seam, each_map}
use Rattle.rules.proofs.Made.{made_sound}
use Rattle.rules.proofs.Given.{then_given, step_given}
use Rattle.rules.proofs.ConcatenateMade.{joined_full}

-- ---- refusals

-- 10, 12 and 13
module _ (P : ℕ → Type 0) (p10 : P 10) (p12 : P 12) (p13 : P 13) where
  -- of the join without dependencies
  refusing_join : (r : ℕ) (blocks : List Block) → Refusing P (if (all is_dense (layouts_of blocks) && run_on_first r blocks) (join_dense r blocks) (join_other r blocks))
  unfolding join_dense join_other join_sparse
  refusing_join r blocks =
      refusing_if P (all is_dense (layouts_of blocks) && run_on_first r blocks) _ _
      (λ _. refusing_step P (10 when not (later_agree r (shapes_of blocks)) ∷ []) (p10, tt) _ tt)
      (λ _. refusing_step P (10 when not (agree r blocks) ∷ []) (p10, tt) _
      (refusing_if P (all_diagonal blocks && run_on_diagonal r blocks) _ _ (λ _. tt)
      (λ _. refusing_step P (10 when (ltb 0 (blocks_d blocks) && not (all is_sparse (layouts_of blocks))) ∷ []) (p10, tt) _
      (refusing_form P dense_if_full (made (joined_rows r blocks)) (refusing_made P p12 p13 (joined_rows r blocks))))))

  -- of the whole
  pub concatenate_refusing : (blocks : List Block) (r : ℕ) → Refusing P (concatenate blocks r)
  unfolding concatenate join_blocks
  concatenate_refusing blocks r =
      refusing_if P (none blocks) _ _ (λ _. tt)
      (λ _. refusing_step P (10 when any (λ l. ltb r (rank l)) (layouts_of blocks) ∷ []) (p10, tt) _
      (refusing_then P (if (all is_dense (layouts_of blocks) && run_on_first r blocks) (join_dense r blocks) (join_other r blocks))
      (λ l. made (joined_full r blocks l)) (refusing_join r blocks)
      (λ l. refusing_made P p12 p13 (joined_full r blocks l))))

-- ---- what is given

-- the layout that was made with the dependencies of all blocks
pub record WasJoined (r : ℕ) (blocks : List Block) (x : Layout) : Type 0 where
  pub whole : Layout
  pub was_made : made (joined_full r blocks whole) ≡ given x

-- what blocks are joined to was so made
join_given : (r : ℕ) (blocks : List Block) {x : Layout} → join_blocks r blocks ≡ given x → WasJoined r blocks x
unfolding join_blocks
join_given r blocks e =
    let a = step_given (10 when any (λ l. ltb r (rank l)) (layouts_of blocks) ∷ []) _ e in
    let b = then_given (if (all is_dense (layouts_of blocks) && run_on_first r blocks) (join_dense r blocks) (join_other r blocks)) _ a in
    record { whole = b.0; was_made = b.2 }

-- what holds of the scalar, and of a layout that was so made, holds of an answer
by_blocks : (P : Layout → Type 0) (blocks : List Block) (r : ℕ) {x : Layout} → P new_scalar → (WasJoined r blocks x → P x) → concatenate blocks r ≡ given x → P x
unfolding concatenate none
by_blocks P [] r {x} p f e = let same : new_scalar ≡ x = cc in subst P same p
by_blocks P (b ∷ blocks) r p f e = f (join_given r (b ∷ blocks) e)

-- with a block there is such a layout
pub concatenate_joined : {blocks : List Block} (r : ℕ) {x : Layout} {b : Block} → Memᴰ b blocks → concatenate blocks r ≡ given x → WasJoined r blocks x
unfolding concatenate none
concatenate_joined {blocks = []} r i e = absurd (Memᴰ.not-nil i)
concatenate_joined {blocks = b ∷ blocks} r i e = join_given r (b ∷ blocks) e

-- an answer is sound
pub concatenate_sound : (blocks : List Block) (r : ℕ) {x : Layout} → concatenate blocks r ≡ given x → Sound x
unfolding dense sound_layout well_formed within_sizes within_product none sorted all increasing product keep
concatenate_sound blocks r = by_blocks Sound blocks r (sound_true refl) (λ j. let s = made_sound j.was_made in subst Sound s.0 s.1)

-- ---- the numbers of its dependencies

-- the last number of a row is below b
abbrev LastBelow : ℕ → List ℕ → Type 0
LastBelow b d = get_or d (length d - 1) 0 < b

-- the number of a dependency stays as it is, whatever becomes of its index
last_kept : (b : ℕ) (f : List ℕ → List ℕ) (d : List ℕ) → 0 < length d → LastBelow b d → LastBelow b (on_index f d)
unfolding on_index
last_kept b f d h l =
    let rest : length (drop (length d - 1) d) ≡ 1 = rw length-drop (omega arith) in
    let at : length (f (index_of d) ++ drop (length d - 1) d) - 1 ≡ length (f (index_of d)) = rw length-append (omega arith) in
    let last : length d - 1 + 0 ≡ length d - 1 = omega arith in
    rw (at, at_seam (f (index_of d)) (drop (length d - 1) d) refl, get_or-drop (length d - 1) d 0 0, last) l

module _ (r : ℕ) (deps : Layout → List (List ℕ)) where
  -- the numbers of joined dependencies are those of the blocks'
  last_joined : (b : ℕ) (blocks : List Block) → ((x : Block) → Memᴰ x blocks → Each (λ d. (0 < length d) × LastBelow b d) (deps x.layout)) →
      Each (LastBelow b) (joined_deps r deps blocks)
  unfolding joined_deps
  last_joined b blocks h =
      sorted_each (gather_each (λ x. map (on_index (λ index. moved_by x.start (fit_to r 0 index))) (deps x.layout))
      (λ x m. each_map (LastBelow b) (on_index (λ index. moved_by x.start (fit_to r 0 index))) (λ d p. last_kept b (λ index. moved_by x.start (fit_to r 0 index)) d p.0 p.1) (h x m)))

-- where the components are small and the number is low, every number is
row_low : (n : ℕ) (d : List ℕ) → length d ≡ suc n → ((k : ℕ) → k < n → get_or d k 0 ≤ component_limit) → LastBelow (2 ^ 31) d → (k : ℕ) → get_or d k 0 < 2 ^ 31
row_low n d e f l k = go (compare_numbers k n)
  where
    go : ComparedNumbers k n → get_or d k 0 < 2 ^ 31
    go (under h) = omega (arith, f k h)
    go (even h) = let at : length d - 1 ≡ k = omega arith in rw at at l
    go (above h) = omega (arith, get_or-eq_default d 0 {n = k} (omega arith))

-- its dependencies' numbers are below 2 ^ 31 if those of the blocks are
pub concatenate_low : (blocks : List Block) (r : ℕ) {x : Layout} → ((b : Block) → Memᴰ b blocks → Sound b.layout) → ((b : Block) → Memᴰ b blocks → DepsLow b.layout) →
    concatenate blocks r ≡ given x → DepsLow x
unfolding dense
concatenate_low blocks r s low = by_blocks DepsLow blocks r (record { states_low = each_nil _; inputs_low = each_nil _ }) joined
  where
    joined : {x : Layout} → WasJoined r blocks x → DepsLow x
    joined j =
        let m = made_sound j.was_made in
        subst DepsLow m.0 (record {
          states_low = λ d i. row_low (rank j.whole) d (m.1.form.states_fit.lengths d i) (m.1.sizes.states_small d i)
              (last_joined r (λ l. l.states) (2 ^ 31) blocks (λ b n e k. (omega (arith, (s b n).form.states_fit.lengths e k), (low b n).states_low e k (length e - 1))) d i);
          inputs_low = λ d i. row_low (rank j.whole) d (m.1.form.inputs_fit.lengths d i) (m.1.sizes.inputs_small d i)
              (last_joined r (λ l. l.inputs) (2 ^ 31) blocks (λ b n e k. (omega (arith, (s b n).form.inputs_fit.lengths e k), (low b n).inputs_low e k (length e - 1))) d i);
        })
