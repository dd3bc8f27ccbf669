-- `wide_axes` and `axis_to_cut`: the extents over 1 are counted from the last axis on, and the axis is the first of them. Assumes nothing.
use mathlib.Core.Path.{◌≡◌, refl, sym, ap, ◌∙◌}
use mathlib.Core.Bool.{Bool, true, false, not, ◌||◌}
use mathlib.Core.List.{List}
use Prim.Native.Nat.{ℕ, suc, ◌+◌, ◌-◌, ◌<◌, ◌≤◌}
use native.Mathlib.Omega.{arith}
use borrow.Author.Tests.{lt-ltb, le-ltb, eq-eqb, ne_eqb}
use lib.Dec.{eqb, ltb}
use lib.IntN.{ℤ}
use lib.ListN.{length, get_or}
use Rattle.rules.specs.declared.Head.{Head}
use Rattle.rules.specs.Lists.{put_if, keep, from}
use Rattle.rules.specs.Layout.{Layout, rank, is_dense}
use Rattle.rules.specs.Record.{layout_in}
use Rattle.rules.specs.FilterDepsFrom.{wide_axes}
use Rattle.cells.specs.View.{view}
use Rattle.tables.specs.Rows.{row_at}
use Rattle.tables.proofs.Rows.{row_length}
use Rattle.axes.proofs.Products.{extent_read}
use Rattle.records.specs.Sound.{SoundRecord}
use Rattle.records.proofs.SoundRecords.{layout_shown}
use Rattle.records.proofs.Shown.{rank_shown, kind_shown}
use Rattle.range.specs.Cutting.{wide_of, WideIs, uncuttable, CutAlong}

-- ---- the axes over 1

-- those of n axes from axis k on
abbrev wide_from : ℕ → ℕ → List ℕ → List ℕ
wide_from n k shape = keep (λ axis. ltb 1 (get_or shape axis 0)) (from k (n - k))

-- the one before comes first, if it is one
one_before : (n k : ℕ) (shape : List ℕ) → 0 < k → k ≤ n → wide_from n (k - 1) shape ≡ put_if (ltb 1 (get_or shape (k - 1) 0)) (k - 1) (wide_from n k shape)
unfolding keep from
one_before n k shape some upto =
    let more : n - (k - 1) ≡ suc (n - k) = omega arith in
    let next : suc (k - 1) ≡ k = omega arith in
    rw (more, next)

-- those from axis k on were counted
pub record Counted (at rank : ℕ) (s : List ℤ) (count first k : ℕ) : Type 0 where
  pub room : at + rank ≤ length s
  pub upto : k ≤ rank
  pub few : count + k ≤ rank
  pub within : first ≤ rank - 1
  pub count_is : count ≡ length (wide_from rank k (row_at at rank s))
  pub first_is : first ≡ get_or (wide_from rank k (row_at at rank s)) 0 0

pub none_counted : {at rank : ℕ} {s : List ℤ} → at + rank ≤ length s → Counted at rank s 0 0 rank
unfolding keep from
none_counted {rank = rank} h =
    let none : rank - rank ≡ 0 = omega arith in
    record { room = h; upto = omega arith; few = omega arith; within = omega arith; count_is = rw none; first_is = rw none }

module _ {at rank : ℕ} {s : List ℤ} {count first k : ℕ} (g : Counted at rank s count first k) where
  module _ (some : 0 < k) {x : ℕ} (read : x ≡ get_or (view s) (at + (k - 1)) 0) where
    abbrev shape : List ℕ
    shape = row_at at rank s

    extent : x ≡ get_or shape (k - 1) 0
    extent = extent_read at rank (k - 1) s (omega (arith, g.upto)) read

    abbrev before : wide_from rank (k - 1) shape ≡ put_if (ltb 1 (get_or shape (k - 1) 0)) (k - 1) (wide_from rank k shape)
    before = one_before rank k shape some g.upto

    -- an extent up to 1
    pub one_passed : x ≤ 1 → Counted at rank s count first (k - 1)
    one_passed h =
        let no : ltb 1 (get_or shape (k - 1) 0) ≡ false = le-ltb 1 (get_or shape (k - 1) 0) (omega (arith, extent)) in
        record {
          room = g.room;
          upto = omega (arith, g.upto);
          few = omega (arith, g.few);
          within = g.within;
          count_is = rw (before, no) g.count_is;
          first_is = rw (before, no) g.first_is;
        }

    -- one over 1
    pub one_counted : 1 < x → Counted at rank s (count + 1) (k - 1) (k - 1)
    one_counted h =
        let yes : ltb 1 (get_or shape (k - 1) 0) ≡ true = lt-ltb 1 (get_or shape (k - 1) 0) (omega (arith, extent)) in
        record {
          room = g.room;
          upto = omega (arith, g.upto);
          few = omega (arith, g.few);
          within = omega (arith, g.upto);
          count_is = rw (before, yes) (omega (arith, g.count_is));
          first_is = rw (before, yes) refl;
        }

  -- all of them
  pub all_counted : k ≤ 0 → WideIs (row_at at rank s) count first
  all_counted h =
      let none : k ≡ 0 = omega arith in
      let size = row_length at rank s g.room in
      let plain : rank - 0 ≡ rank = omega arith in
      let all : wide_from rank k (row_at at rank s) ≡ wide_of (row_at at rank s) = rw (none, plain, size) in
      record { count_is = g.count_is ∙ ap length all; first_is = g.first_is ∙ ap (λ (l : List ℕ). get_or l 0 0) all; within = rw size g.within }

pub ruleset counting = (none_counted, one_passed, one_counted, all_counted)

-- ---- the axis that is cut

-- one of four reasons is enough
module _ (few : ℕ) (l : Layout) where
  by_kind : is_dense l ≡ false → uncuttable few l ≡ true
  by_kind e = rw e

  by_rank : eqb (rank l) 0 ≡ true → uncuttable few l ≡ true
  by_rank e = go (not (is_dense l))
    where
      go : (t : Bool) → t || eqb (rank l) 0 || ltb 1 (length (wide_axes l)) || ltb (rank l) few ≡ true
      go true = refl
      go false = rw e

  by_extents : ltb 1 (length (wide_axes l)) ≡ true → uncuttable few l ≡ true
  by_extents e = go (not (is_dense l) || eqb (rank l) 0)
    where
      go : (t : Bool) → t || ltb 1 (length (wide_axes l)) || ltb (rank l) few ≡ true
      go true = refl
      go false = rw e

  by_target : ltb (rank l) few ≡ true → uncuttable few l ≡ true
  by_target e = go (not (is_dense l) || eqb (rank l) 0 || ltb 1 (length (wide_axes l)))
    where
      go : (t : Bool) → t || ltb (rank l) few ≡ true
      go true = refl
      go false = e

module _ {h : Head} {s : List ℤ} (r : SoundRecord h s) (few : ℕ) where
  abbrev l : Layout
  l = layout_in s

  shape_shown : row_at 3 h.rank s ≡ l.shape
  shape_shown = rw (layout_shown r) refl

  -- the source is not dense
  pub is_not_dense : {kind : ℕ} → kind ≡ get_or (view s) 0 0 → (kind ≡ 0 → ⊥) → uncuttable few l ≡ true
  is_not_dense e some = by_kind few l (ne_eqb l.kind 0 (λ z. some (omega (arith, kind_shown r))))

  -- it has no axis
  pub no_axis : h.rank ≡ 0 → uncuttable few l ≡ true
  no_axis e = by_rank few l (eq-eqb (rank l) 0 (rank_shown r ∙ e))

  -- it has fewer than the target
  pub fewer_axes : h.rank < few → uncuttable few l ≡ true
  fewer_axes e = by_target few l (lt-ltb (rank l) few (omega (arith, rank_shown r)))

  module _ {count first : ℕ} (w : WideIs (row_at 3 h.rank s) count first) where
    wide : WideIs l.shape count first
    wide = rw shape_shown at w

    -- it has two extents over 1
    pub two_wide : 1 < count → uncuttable few l ≡ true
    two_wide e = by_extents few l (lt-ltb 1 (length (wide_axes l)) (omega (arith, wide.count_is)))

    -- it can be cut
    pub cut_along : {kind : ℕ} → kind ≡ get_or (view s) 0 0 → kind ≡ 0 → (h.rank ≡ 0 → ⊥) → few ≤ h.rank → count ≤ 1 → CutAlong few l first
    cut_along e k some least one = record {
      can_cut =
          rw (
            eq-eqb l.kind 0 (omega (arith, kind_shown r)),
            ne_eqb (rank l) 0 (λ z. some (sym (rank_shown r) ∙ z)),
            le-ltb 1 (length (wide_axes l)) (omega (arith, wide.count_is)),
            le-ltb (rank l) few (omega (arith, rank_shown r)),
          );
      is = wide.first_is;
      within = omega (arith, wide.within, rank_shown r);
    }
