-- `put_together`: the cleared entry plus every index of the values is the entry with every combination of values. Assumes nothing.
use mathlib.Core.Path.{◌≡◌, refl, sym, ap, ◌∙◌}
use mathlib.Core.Bool.{Bool}
use mathlib.Core.List.Memᴰ
use mathlib.Core.List.{List, [], ◌∷◌, ◌++◌, Memᴰ, append-nil}
use mathlib.Core.Logic.{⊎_elim}
use Prim.Native.Nat.{ℕ, ◌+◌, ◌^◌, ◌<◌, ◌≤◌}
use native.Mathlib.Omega.{arith}
use lib.IntN.{ℤ}
use lib.ListN.{length, get_or}
use Rattle.rules.specs.declared.Mode.{Mode}
use Rattle.rules.specs.declared.Mode.TheVariants.{Alone, Together}
use Rattle.rules.specs.Lists.{gather, product}
use Rattle.rules.specs.RowsInOrder.{sorted, Each}
use Rattle.rules.specs.Layout.{few}
use Rattle.rules.specs.Stretching.{stretched_axes, alone, together, yields}
use Rattle.rules.proofs.Sets.{Subset, each_one}
use Rattle.rules.proofs.Sorting.{sorted_same}
use Rattle.rules.proofs.Merging.{sorted_right}
use Rattle.rules.proofs.Taking.{axis_or_not, take_only, take_has}
use Rattle.tables.specs.Rows.{row_at}
use Rattle.tables.specs.Tables.{table_at, Taken}
use Rattle.tables.proofs.Rows.{row_length}
use Rattle.axes.specs.Extents.{Extents}
use Rattle.stretch.specs.Spread.{extents_in, SpreadIs}
use Rattle.stretch.specs.Tables.{in_turn, EntryAsked, Cleared, MovesAsked}
use Rattle.stretch.proofs.StretchedAxes.{extent_small}
use Rattle.stretch.proofs.Plus.{moved_by}
use Rattle.stretch.proofs.Combinations.{Spreads, spreads_behind, moved_only, moved_has}
use Rattle.stretch.proofs.Within.{values_within}

-- ---- the same rows, put into a table

module _ {xs ys : List (List ℕ)} (f : Subset xs ys) (g : Subset ys xs) where
  -- behind other rows they are the same in order
  same_behind : (t : List (List ℕ)) → sorted (t ++ xs) ≡ sorted (t ++ ys)
  same_behind t = sym (sorted_right t xs) ∙ ap (λ (u : List (List ℕ)). sorted (t ++ u)) (sorted_same f g) ∙ sorted_right t ys

  -- what takes the ones takes the others
  taken_same : {to w : ℕ} {s t : List ℤ} {r : Bool} → Taken to w xs s t r → Taken to w ys s t r
  taken_same {to} {w} {s} p = record {
    verdict = p.verdict ∙ ap few (same_behind (table_at to w s));
    table = λ e. p.table e ∙ same_behind (table_at to w s);
    ready = p.ready;
    only = p.only;
  }

-- ---- entries that differ on the axes alone

module _ (new axes : List ℕ) {n : ℕ} (inside : (k : ℕ) → Memᴰ k axes → k < n) where
  -- with every combination of values there they are the same
  together_same : (p q : List ℕ) → length p ≡ n → length q ≡ n → ((k : ℕ) → (Memᴰ k axes → ⊥) → get_or p k 0 ≡ get_or q k 0) → Subset (together new axes p) (together new axes q)
  together_same p q e f same x m =
      let i = take_only new n axes inside (each_one (λ r. length r ≡ n) e) m in
      let is : i.0 ≡ p = Memᴰ.eq_of_singleton i.1 in
      let t = rw is at i.2 in
      take_has new n axes inside (each_one (λ r. length r ≡ n) f) (Memᴰ.head refl) (record { size = t.size ∙ e ∙ sym f; kept = λ k o. t.kept k o ∙ same k o; free = t.free })

-- ---- `put_together`

module _ {entry : List ℤ} {old : ℕ} {src : List ℤ} {at rank : ℕ} {shape : List ℤ} {to : ℕ} {s : List ℤ} (a : EntryAsked entry old src at rank shape to s)
    (extents : List ℤ) (five : length extents ≡ 5) (is : SpreadIs (extents_in old src) (row_at at rank shape) rank extents) where
  abbrev old_shape : List ℕ
  old_shape = extents_in old src

  abbrev new_shape : List ℕ
  new_shape = row_at at rank shape

  abbrev stretching : List ℕ
  stretching = stretched_axes old_shape new_shape

  abbrev values : List ℕ
  values = row_at 0 (rank + 1) extents

  abbrev entry_row : List ℕ
  entry_row = row_at 0 (rank + 1) entry

  new_length : length new_shape ≡ rank
  new_length = row_length at rank shape a.shapes.new_in

  -- the new extent on the stretched axes, 1 on the others and behind them
  spreads : Spreads new_shape stretching values (rank + 1)
  spreads = rw new_length at (spreads_behind old_shape new_shape extents (rw new_length a.shapes.new_few) five (rw new_length is))

  -- their product can be taken
  pub ask_product : Extents 0 (rank + 1) extents
  ask_product = record { room = omega (arith, a.shapes.new_few); within = values_within spreads a.shapes.within }

  module _ (row : List ℤ) (row_long : length row ≡ 5) (clean : Cleared old_shape new_shape entry_row (row_at 0 (rank + 1) row)) {size : ℕ} (size_is : size ≡ product values) where
    abbrev clean_row : List ℕ
    clean_row = row_at 0 (rank + 1) row

    -- on a stretched axis the row is 0, on another one there is one value
    sums_most : (k : ℕ) → k < rank + 1 → get_or clean_row k 0 + get_or values k 0 ≤ 2 ^ 31
    sums_most k h =
        ⊎_elim (λ m. omega (arith, clean.zero k m, spreads.on k m, extent_small a.shapes k)) (λ o. omega (arith, clean.kept k o, spreads.off k h o, a.row.low k))
        (axis_or_not k stretching)

    -- the cleared row can be moved by each index
    pub ask_moves : MovesAsked 0 (rank + 1) row extents size to s
    ask_moves = record {
      room = omega (arith, a.shapes.new_few);
      narrow = omega (arith, a.shapes.new_few);
      sums_most = sums_most;
      extents_are = ask_product;
      size_is = size_is;
      target = a.target;
    }

    clean_long : length clean_row ≡ rank + 1
    clean_long = row_length 0 (rank + 1) row (omega (arith, a.shapes.new_few))

    entry_long : length entry_row ≡ rank + 1
    entry_long = row_length 0 (rank + 1) entry a.row.room

    clean_alone : Each (λ r. length r ≡ rank + 1) (clean_row ∷ [])
    clean_alone = each_one (λ r. length r ≡ rank + 1) clean_long

    clean_zero : Each (λ r. (k : ℕ) → Memᴰ k stretching → get_or r k 0 ≡ 0) (clean_row ∷ [])
    clean_zero = each_one (λ r. (k : ℕ) → Memᴰ k stretching → get_or r k 0 ≡ 0) clean.zero

    -- the cleared row plus each index takes values on the stretched axes
    sums_only : Subset (in_turn (moved_by clean_row values) (product values)) (together new_shape stretching clean_row)
    unfolding gather
    sums_only = rw append-nil at (moved_only spreads clean_alone clean_zero)

    -- and each row that takes values there is one of these
    sums_has : Subset (together new_shape stretching clean_row) (in_turn (moved_by clean_row values) (product values))
    unfolding gather
    sums_has = rw append-nil at (moved_has spreads clean_alone clean_zero)

    -- what was put is the entry with every combination of values
    pub all_together : {t : List ℤ} {r : Bool} → Taken to (rank + 1) (in_turn (moved_by clean_row values) size) s t r →
        Taken to (rank + 1) (together new_shape stretching entry_row) s t r
    all_together p =
        let same = together_same new_shape stretching spreads.inside in
        taken_same (λ x m. same clean_row entry_row clean_long entry_long clean.kept x (sums_only x m))
        (λ x m. sums_has x (same entry_row clean_row entry_long clean_long (λ k o. sym (clean.kept k o)) x m))
        (rw size_is at p)

-- ---- either mode: `put_yield`

module _ (mode : Mode) (new axes d : List ℕ) {to w : ℕ} {s t : List ℤ} {r : Bool} where
  -- the entry, and every value on each axis alone
  pub yields_alone : mode ≡ Alone → Taken to w (alone new axes d) s t r → Taken to w (yields mode new axes d) s t r
  unfolding yields
  yields_alone e p = rw e p

  -- every combination of values
  pub yields_together : mode ≡ Together → Taken to w (together new axes d) s t r → Taken to w (yields mode new axes d) s t r
  unfolding yields
  yields_together e p = rw e p
