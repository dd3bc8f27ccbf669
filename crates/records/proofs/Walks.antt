-- A record walked section by section: where it breaks, and what it is when it was walked to its end. Assumes nothing.
use Rattle.std.specs.Prelude.{None, Option, Some}
use mathlib.Core.Path.{◌≡◌, sym, ap, ◌∙◌}
use mathlib.Core.List.{List}
use Prim.Native.Nat.{ℕ, ◌+◌, ◌^◌, ◌<◌}
use native.Mathlib.Omega.{arith}
use lib.IntN.{ℤ, pos, ◌-ℤ◌}
use lib.ListN.{length, get_or}
use lib.Signed.{mag}
use mir.Syntax.{w64}
use mir.Val.{Fits}
use Rattle.rules.specs.declared.Entries.{Entries}
use Rattle.rules.specs.declared.Head.{Head}
use Rattle.rules.specs.Record.{section_at, walk}
use Rattle.rules.proofs.Walked.{walked as record_walked}
use Rattle.cells.specs.View.{sign_of}
use Rattle.cells.proofs.Signed.{held, back}
use Rattle.records.specs.Sections.{Laid, SectionIn}
use Rattle.records.specs.Heads.{HeadOf}
use Rattle.records.proofs.Sections.{sign_natural, sign_negative, size_natural, laid}

-- ---- a section that was read

-- if it is whole, it lies in the slice
pub whole_lies : (i w : ℕ) (s : List ℤ) {g : (Option Entries)} {e : Entries} → SectionIn i w s g → g ≡ Some e → Laid i w s e × (e.count < 2 ^ 31)
whole_lies i w s h e = rw e at h

module _ (i w : ℕ) (s : List ℤ) {g : (Option Entries)} {e : Entries} (h : SectionIn i w s g) (f : g ≡ Some e) where
  -- its count is small
  pub count_small : e.count < 2 ^ 31
  count_small = (whole_lies i w s h f).1

  -- so is one more
  pub one_more_small : e.count + 1 < 2 ^ 32
  one_more_small = let k = count_small in omega arith

  -- and it fits
  pub one_more_fits : Fits w64 (e.count + 1)
  one_more_fits = let k = count_small in omega arith

  -- its count stands in the slice
  pub count_inside : i < length s
  count_inside = (whole_lies i w s h f).0.at

-- ---- where a record breaks

module _ (s : List ℤ) {g : (Option Entries)} (a : g ≡ section_at 2 1 s) where
  -- at its extents
  pub broken_extents : g ≡ None → None ≡ walk s
  unfolding walk
  broken_extents e = rw (sym a ∙ e)

  module _ {x : Entries} {v : (Option ℕ)} (e : g ≡ Some x) (m : mag (get_or s 1 (pos 0)) < 2 ^ 31)
      (b : v ≡ sign_of (pos x.count -ℤ held (get_or s 1 (pos 0)))) where
    -- the difference that was computed is the one of the numbers
    signed : sign_of (pos x.count -ℤ get_or s 1 (pos 0)) ≡ v
    signed = sym (b ∙ ap (λ (d : ℤ). sign_of (pos x.count -ℤ d)) (back (get_or s 1 (pos 0)) m))

    -- where D is above the rank
    pub broken_width : v ≡ None → None ≡ walk s
    unfolding walk
    broken_width f = rw (sym a ∙ e, sign_negative _ (signed ∙ f))

    module _ {w : ℕ} {g₁ : (Option Entries)} (f : v ≡ Some w) (d : g₁ ≡ section_at x.next w s) where
      -- else the difference is the width
      wide : pos x.count -ℤ get_or s 1 (pos 0) ≡ pos w
      wide = sign_natural (pos x.count -ℤ get_or s 1 (pos 0)) (signed ∙ f)

      -- at its rows
      pub broken_rows : g₁ ≡ None → None ≡ walk s
      unfolding walk
      broken_rows p = rw (sym a ∙ e, wide, sym d ∙ p)

      module _ {y : Entries} {g₂ : (Option Entries)} (p : g₁ ≡ Some y) (k : g₂ ≡ section_at y.next (x.count + 1) s) where
        -- at its dependencies on states
        pub broken_states : g₂ ≡ None → None ≡ walk s
        unfolding walk
        broken_states q = rw (sym a ∙ e, wide, sym d ∙ p, sym k ∙ q)

        module _ {z : Entries} {g₃ : (Option Entries)} (q : g₂ ≡ Some z) (l : g₃ ≡ section_at z.next (x.count + 1) s) where
          -- at its dependencies on inputs
          pub broken_inputs : g₃ ≡ None → None ≡ walk s
          unfolding walk
          broken_inputs r = rw (sym a ∙ e, wide, sym d ∙ p, sym k ∙ q, sym l ∙ r)

          -- nowhere
          pub walked : {u : Entries} → g₃ ≡ Some u → mag (get_or s 0 (pos 0)) < 2 ^ 31 →
              Some (record { kind = held (get_or s 0 (pos 0)); dense = held (get_or s 1 (pos 0)); rank = x.count; width = w; rows = y; states = z; inputs = u }) ≡ walk s
          unfolding walk
          walked r n = rw (back (get_or s 0 (pos 0)) n, back (get_or s 1 (pos 0)) m, sym a ∙ e, wide, sym d ∙ p, sym k ∙ q, sym l ∙ r)

-- ---- what a walked record says

-- its head is the head of the slice
pub walked_head : (s : List ℤ) {h : Head} → walk s ≡ Some h → HeadOf h s
walked_head s {h} p =
    let r = record_walked s h p in
    let count = laid r.shape_lies in
    let at : r.extents.next ≡ h.rank + 3 = omega (arith, r.rank) in
    record {
      kind = r.kind;
      dense = r.dense;
      rank = count.count ∙ ap pos (sym r.rank);
      width = r.width;
      rows = rw at at (laid r.rows_lie);
      states = laid r.states_lie;
      inputs = laid r.inputs_lie;
    }

pub ruleset laws = (size_natural, count_small, one_more_small, one_more_fits, broken_extents, broken_width, broken_rows, broken_states, broken_inputs, walked)
