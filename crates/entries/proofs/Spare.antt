-- A table that takes the one in the spare part, and the entries of one block: `merge_spare` and `merge_block`. Assumes nothing.
use mathlib.Core.Path.{◌≡◌, refl, sym, ◌∙◌, subst}
use mathlib.Core.Bool.{Bool, true, false, ◌&&◌}
use mathlib.Core.List.{List, [], ◌++◌}
use mathlib.Core.Logic.{◌⊎◌, inl, inr}
use Prim.Native.Nat.{ℕ, ◌+◌, ◌*◌, ◌≤◌}
use native.Mathlib.Nat.{mul-le-mul_right}
use native.Mathlib.Omega.{arith}
use borrow.Author.Tests.{leb-false, le-leb, lt-leb}
use lib.IntN.{ℤ}
use lib.ListN.{length, get_or}
use Rattle.rules.specs.Lists.{all}
use Rattle.rules.specs.RowsInOrder.{sorted}
use Rattle.rules.specs.Buffers.{part, put}
use Rattle.rules.specs.Layout.{few}
use Rattle.rules.proofs.Same.{true_not_false, both_true}
use Rattle.rules.proofs.Merging.{sorted_right, merge_length_right, merge_nil_right}
use Rattle.rules.proofs.Buffers.{length_part, part_put_all}
use Rattle.cells.specs.View.{view}
use Rattle.tables.specs.Tables.{table_at, room_end, Only, Ready, PairAsked, Merged}
use Rattle.tables.proofs.Only.{only_same, only_then, only_wider, only_put, table_outside, ready_outside}
use Rattle.tables.proofs.Tables.{table_rows, table_length}
use Rattle.tables.proofs.Made.{made_ready, merged_ready}
use Rattle.parts.specs.Parts.{window_size, spare, other_spare}
use Rattle.parts.proofs.Copied.{table_copied}
use Rattle.entries.specs.Merging.{small_to, Tabled, TargetReady, MergedMore}

-- a list that is too long is refused
none_made : {A : Type 0} → false ≡ true → A
none_made z = absurd (true_not_false z refl)

-- ---- the spare part: `merge_spare`

module _ {at w : ℕ} {s : List ℤ} (a : TargetReady at w s) (b : Ready spare w s) where
  pub ask_merge : PairAsked at spare other_spare w s
  ask_merge = record {
    narrow = omega (arith, a.narrow);
    first = a.ready;
    second = b;
    target = omega (arith, a.room, a.narrow);
    apart_first = inl (omega (arith, a.before));
    apart_second = inl (omega (arith, a.narrow));
  }

  module _ {u : List ℤ} {r : Bool} (m : Merged at spare other_spare w s u r) where
    merged_only : Only at window_size s u
    merged_only = only_wider m.only at window_size (omega (arith, a.before)) (omega (arith, a.narrow))

    pub spare_over : r ≡ false → MergedMore at w true (table_at spare w s) s u false
    spare_over e = record { verdict = sym e ∙ m.verdict; table = none_made; ready = none_made; only = merged_only }

    module _ (e : r ≡ true) {n : ℕ} (count : n ≡ get_or (view u) other_spare 0) where
      there : Ready other_spare w u
      there = merged_ready ask_merge m e

      pub size_most : n * w ≤ 640
      size_most =
          let k : n * w ≤ 128 * w = mul-le-mul_right w (rw count there.fits.few) in
          omega (arith, a.narrow)

      pub ask_back : ((other_spare + (1 + n * w) ≤ length u) × (at + (1 + n * w) ≤ length u)) × ((other_spare + (1 + n * w) ≤ at) ⊎ (at + (1 + n * w) ≤ other_spare))
      ask_back =
          let z = m.only.size in
          ((omega (arith, size_most, a.room), omega (arith, size_most, a.room, a.before)), inr (omega (arith, size_most, a.before)))

      module _ {t : List ℤ} (is : t ≡ put at (part other_spare (1 + n * w) u) u) where
        long : length (part other_spare (1 + n * w) u) ≡ 1 + n * w
        long = length_part other_spare (1 + n * w) u ask_back.0.0

        copied : part at (1 + n * w) t ≡ part other_spare (1 + n * w) u
        copied = rw is (rw long at (part_put_all at (part other_spare (1 + n * w) u) u (omega (arith, ask_back.0.1))))

        table_there : table_at at w t ≡ table_at other_spare w u
        table_there = table_copied at other_spare (1 + n * w) u t copied w n (sym count) (omega arith) ∙ sym (table_rows other_spare w n u count)

        moved_only : Only at window_size u t
        moved_only =
            let new : List ℤ = part other_spare (1 + n * w) u in
            let k : Only at (at + (1 + n * w)) u t = rw is (subst (λ z. Only at (at + z) u (put at new u)) long (only_put at new u (rw long ask_back.0.1))) in
            only_wider k at window_size (omega arith) (omega (arith, size_most, a.before))

        pub spare_merged : MergedMore at w true (table_at spare w s) s t true
        spare_merged = record {
          verdict = sym e ∙ m.verdict;
          table = λ _. table_there ∙ m.table e;
          ready = λ _.
              made_ready (rw (moved_only.size, merged_only.size) (omega (arith, a.room, a.before))) table_there (rw table_length there.fits.few) there.fits.low there.increasing;
          only = only_then merged_only moved_only;
        }

-- ---- rows that are listed in the spare part, and merged

-- longer lists are too long too
few_less : (a b : List (List ℕ)) → few (sorted b) ≡ false → few (sorted (a ++ b)) ≡ false
few_less a b e = lt-leb (length (sorted (a ++ b))) 128 (omega (arith, leb-false (length (sorted b)) 128 e, merge_length_right a b))

module _ {at w : ℕ} {s : List ℤ} (a : TargetReady at w s) where
  -- no rows
  pub none_merged : (n : ℕ) {rows : List (List ℕ)} → rows ≡ [] → MergedMore at w (all (small_to n) rows) rows s s true
  unfolding all
  none_merged n e =
      rw e
      (record {
        verdict = rw (merge_nil_right a.ready.increasing) (sym (le-leb (length (table_at at w s)) 128 (rw table_length a.ready.fits.few)));
        table = λ _. sym (merge_nil_right a.ready.increasing);
        ready = λ _. a.ready;
        only = only_same at window_size s;
      })

  pub list_room : room_end other_spare w ≤ length s
  list_room = omega (arith, a.room, a.narrow)

  module _ {n : ℕ} {rows : List (List ℕ)} {u : List ℤ} {r : Bool} (p : Tabled spare w n window_size rows s u r) where
    list_only : Only at window_size s u
    list_only = only_wider p.only at window_size (omega (arith, a.before)) (omega arith)

    -- they are not small, or too many
    pub list_over : r ≡ false → MergedMore at w (all (small_to n) rows) rows s u false
    list_over e = record { verdict = by (all (small_to n) rows) (sym p.verdict ∙ e); table = none_made; ready = none_made; only = list_only }
      where
        by : (small : Bool) → small && few (sorted rows) ≡ false → false ≡ small && few (sorted (table_at at w s ++ rows))
        by true f = sym (few_less (table_at at w s) rows f)
        by false f = refl

    module _ (e : r ≡ true) where
      same_table : table_at at w u ≡ table_at at w s
      same_table = table_outside p.only at w a.ready.fits.few (inl a.before)

      pub ask_target : TargetReady at w u
      ask_target = record {
        ready = ready_outside p.only a.ready (inl a.before);
        before = a.before;
        narrow = a.narrow;
        room = rw p.only.size a.room;
      }

      pub ask_spare : Ready spare w u
      ask_spare = p.ready e

      pub list_merged : {t : List ℤ} {v : Bool} → MergedMore at w true (table_at spare w u) u t v → MergedMore at w (all (small_to n) rows) rows s t v
      list_merged m =
          let both : sorted (table_at at w u ++ table_at spare w u) ≡ sorted (table_at at w s ++ rows) =
          rw (same_table, p.table e) (sorted_right (table_at at w s) rows) in
          let small = (both_true (all (small_to n) rows) (few (sorted rows)) (sym p.verdict ∙ e)).0 in
          record {
            verdict = m.verdict ∙ rw (both, small);
            table = λ f. m.table f ∙ both;
            ready = m.ready;
            only = only_then list_only m.only;
          }
