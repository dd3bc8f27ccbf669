-- `stretch_into` and `stretch_to_rank`: each answer is the rule's. Assumes nothing.
use Rattle.std.specs.Prelude.{Err, Ok, Result, ⊤}
use Rattle.rules.specs.declared.Refusal.{Refusal}
use mathlib.Core.Path.{◌≡◌, refl, sym, ap, ◌∙◌}
use mathlib.Core.Bool.{Bool, true, false, not, ◌&&◌}
use mathlib.Core.List.{List}
use mathlib.Core.Logic.{inl}
use Prim.Native.Nat.{ℕ, ◌+◌, ◌-◌, ◌<◌, ◌≤◌}
use native.Mathlib.Nat.{le_trans}
use native.Mathlib.Omega.{arith}
use borrow.Author.Tests.{eqb-true, leb-true, le-leb, not-true}
use lib.Dec.{eqb}
use lib.IntN.{ℤ}
use lib.ListN.{length, get_or, take, drop, length-take}
use Rattle.rules.specs.declared.Head.{Head}
use Rattle.rules.specs.declared.Mode.{Mode}
use Rattle.rules.specs.declared.Refusal.TheVariants.{ShapesDisagree, DenseAxes, MadeUnsound, MadeTooLarge}
use Rattle.rules.specs.Limits.{product_limit}
use Rattle.rules.specs.Lists.{implies, all, fit_to}
use Rattle.rules.specs.Refusals.{Verdict, given, number_of}
use Rattle.rules.specs.Layout.{Layout, rank, width, few, is_diagonal, within_product, nonzero_product, alike}
use Rattle.rules.specs.Record.{layout_in}
use Rattle.rules.specs.Stretching.{shared_axes_fit, stretched, broadcast_to_shape, broadcast_to_rank}
use Rattle.rules.proofs.Same.{both_true}
use Rattle.rules.proofs.Made.{few_or}
use Rattle.rules.proofs.Stretching.{Stretches}
use Rattle.rules.proofs.StretchedAnswers.{stretch_disagrees, stretch_bars, stretch_breaks, stretch_given}
use Rattle.rules.proofs.ToRank.{fit_product, rank_disagrees, rank_stretches}
use Rattle.rules.proofs.Given.{stretch_sound, stretch_low}
use Rattle.cells.specs.View.{view}
use Rattle.cells.proofs.View.{view_part}
use Rattle.tables.specs.Rows.{row_at}
use Rattle.tables.proofs.Rows.{row_length, front_row, lent_row}
use Rattle.tables.proofs.Only.{view_outside, row_outside}
use Rattle.axes.specs.Extents.{Extents}
use Rattle.records.specs.Sound.{SoundRecord}
use Rattle.records.proofs.SoundRecords.{lies, layout_sound, layout_shown}
use Rattle.records.proofs.Shown.{rank_shown, dense_shown, kind_shown, deps_low}
use Rattle.parts.specs.Parts.{part_size, kind_at, dense_at, rank_at, layout_at}
use Rattle.parts.specs.Answers.{Says}
use Rattle.parts.proofs.Saying.{says_refused}
use Rattle.moving.specs.Sections.{HeadAsked, HeadMade}
use Rattle.stretch.specs.Spread.{extents_in}
use Rattle.stretch.specs.Layouts.{StretchAsked, TablesMade}

-- what does not both hold and fail is implied
not_both : (p q : Bool) → p && not q ≡ false → implies p q ≡ true
not_both true true e = refl
not_both true false e = sym e
not_both false q e = refl

-- ---- a sound record

module _ {h : Head} {src : List ℤ} (r : SoundRecord h src) where
  shape_is : (layout_in src).shape ≡ extents_in h.rank src
  shape_is = ap (λ (x : Layout). x.shape) (layout_shown r)

  extents_in_lem : 3 + h.rank ≤ length src
  extents_in_lem = let b = lies r in omega (arith, b.shape_lies_in, b.end_in)

  sum_is : (layout_in src).dense + h.width ≡ rank (layout_in src)
  sum_is = dense_shown r ∙ sym (rank_shown r)

  width_is : width (layout_in src) ≡ h.width
  width_is = omega (arith, sum_is)

  -- it is not empty
  pub some : 0 < length src
  some = omega (arith, extents_in_lem)

-- ---- `stretch_into`

module _ {h : Head} {src : List ℤ} {at n : ℕ} {shape : List ℤ} (a : StretchAsked h src at n shape) where
  abbrev new : List ℕ
  new = row_at at n shape

  abbrev answer : Mode → Verdict Layout
  answer mode = broadcast_to_shape mode (layout_in src) new

  new_length : length new ≡ n
  new_length = row_length at n shape a.shapes.new_in

  small : nonzero_product new ≤ product_limit
  unfolding within_product
  small = leb-true (nonzero_product new) product_limit a.shapes.within

  module _ {r : Bool} (e : r ≡ shared_axes_fit (extents_in h.rank src) new) where
    told : shared_axes_fit (layout_in src).shape new ≡ r
    told = rw (shape_is a.source) (sym e)

    -- shared axes do not fit: 6
    pub disagrees : (mode : Mode) → r ≡ false → (s : List ℤ) → Says (answer mode) 0 s (Err ShapesDisagree)
    unfolding number_of
    disagrees mode f s = says_refused ShapesDisagree 0 _ (stretch_disagrees mode (layout_in src) new (told ∙ f))

    module _ (f : r ≡ true) where
      fits : shared_axes_fit (layout_in src).shape new ≡ true
      fits = told ∙ f

      -- D would fall below 0: 11
      pub bars : (mode : Mode) → n < h.width → (s : List ℤ) → Says (answer mode) 0 s (Err DenseAxes)
      unfolding number_of
      bars mode g s = says_refused DenseAxes 0 _ (stretch_bars mode (layout_in src) new fits (omega (arith, new_length, sum_is a.source)))

      module _ (wide : h.width ≤ n) where
        stretches : Stretches (layout_in src) new
        stretches = record { fits = fits; room = omega (arith, new_length, sum_is a.source) }

        front : take (width (layout_in src)) new ≡ row_at at h.width shape
        front = rw (width_is a.source) (sym (front_row at h.width n shape wide))

        module _ {b : Bool} (is : b ≡ eqb (get_or (view src) 0 0) 1 && not (alike (row_at at h.width shape))) where
          -- a diagonal whose axes would not be alike: 12
          pub breaks : (mode : Mode) → b ≡ true → (s : List ℤ) → Says (answer mode) 0 s (Err MadeUnsound)
          unfolding number_of
          breaks mode g s =
              let k = both_true (eqb (get_or (view src) 0 0) 1) (not (alike (row_at at h.width shape))) (sym is ∙ g) in
              says_refused MadeUnsound 0 _
              (stretch_breaks mode stretches (layout_sound a.source).form (kind_shown a.source ∙ eqb-true (get_or (view src) 0 0) 1 k.0) (rw front (not-true (alike (row_at at h.width shape)) k.1)))

          -- the kind as it was read
          module _ {kind : ℕ} (kind_is : kind ≡ get_or (view src) 0 0) where
            kind_most : kind ≤ 2
            kind_most = rw (kind_is, ← kind_shown a.source) (layout_sound a.source).form.kind_most

            pub ask_head : {s : List ℤ} → part_size ≤ length s → HeadAsked kind (n - h.width) (take (at + n - at) (drop at shape)) s
            ask_head room = record {
              kind_most = kind_most;
              dense_most = omega (arith, a.shapes.new_few);
              rank_most = simp length-take (omega (arith, a.shapes.new_few));
              room = room;
            }

          module _ (g : b ≡ false) {kind : ℕ} (kind_is : kind ≡ get_or (view src) 0 0) {s₀ s : List ℤ} (room : part_size ≤ length s₀)
              (written : HeadMade kind (n - h.width) (view (take (at + n - at) (drop at shape))) s₀ s) where
            m : HeadMade (get_or (view src) 0 0) (n - h.width) new s₀ s
            m = rw (kind_is, lent_row at n shape, view_part at n shape) at written

            straight : implies (is_diagonal (layout_in src)) (alike (take (width (layout_in src)) new)) ≡ true
            straight = rw (front, kind_shown a.source) (not_both (eqb (get_or (view src) 0 0) 1) (alike (row_at at h.width shape)) (sym is ∙ g))

            answer_is : (mode : Mode) → answer mode ≡ few_or (stretched mode (layout_in src) new)
            answer_is mode = stretch_given mode stretches (layout_sound a.source) (rw new_length a.shapes.new_few) small straight

            module _ (mode : Mode) {t : List ℤ} {z : Bool} (p : TablesMade mode (layout_in src) new s t z) where
              -- the head in the end
              front_stays : (k : ℕ) → k < 7 → get_or (view t) k 0 ≡ get_or (view s) k 0
              front_stays k i = view_outside p.only k (inl i)

              kind_there : kind_at 0 t ≡ (layout_in src).kind
              kind_there = front_stays 0 (omega arith) ∙ m.head.kind_is ∙ sym (kind_shown a.source)

              dense_there : dense_at 0 t ≡ (layout_in src).dense + length new - rank (layout_in src)
              dense_there = front_stays 1 (omega arith) ∙ m.head.dense_is ∙ omega (arith, new_length, sum_is a.source)

              rank_there : rank_at 0 t ≡ length new
              rank_there = front_stays 2 (omega arith) ∙ m.head.rank_is

              shape_there : row_at 3 (length new) t ≡ new
              shape_there = row_outside p.only 3 (length new) (inl (omega (arith, new_length, a.shapes.new_few))) ∙ m.head.shape_is

              layout_there : z ≡ true → layout_at 0 t ≡ stretched mode (layout_in src) new
              unfolding layout_at stretched
              layout_there d =
                  let narrow : length new - ((layout_in src).dense + length new - rank (layout_in src)) ≡ width (layout_in src) =
                  omega (arith, new_length, sum_is a.source) in
                  rw (kind_there, dense_there, rank_there, narrow, shape_there, p.rows d, p.states d, p.inputs d)

              -- it is made
              pub is_made : z ≡ true → Says (answer mode) 0 t (Ok tt)
              unfolding stretched
              is_made d =
                  let is : answer mode ≡ given (layout_at 0 t) = answer_is mode ∙ rw (← p.verdict, d) (ap given (sym (layout_there d))) in
                  record {
                    is = sym is;
                    holds = λ _. record {
                      inside = rw (p.only.size, m.only.size) room;
                      sound = stretch_sound mode (layout_in src) new is;
                      low = stretch_low mode (layout_in src) new is (deps_low a.source);
                    };
                  }

              -- or too large: 13
              pub too_large : z ≡ false → Says (answer mode) 0 t (Err MadeTooLarge)
              unfolding number_of stretched
              too_large d = says_refused MadeTooLarge 0 _ (answer_is mode ∙ rw (← p.verdict, d))

-- ---- `stretch_to_rank`

module _ {h : Head} {src : List ℤ} {n : ℕ} (q : SoundRecord h src × (n ≤ 4)) where
  pub ask_extents : (3 + h.rank ≤ length src) × (h.rank ≤ 4) × (n ≤ 4)
  ask_extents = (extents_in_lem q.0, (lies q.0).rank_few, q.1)

  module _ {b : Bool} (e : b ≡ all (eqb 1) (drop n (extents_in h.rank src))) where
    cut_told : all (eqb 1) (drop n (layout_in src).shape) ≡ b
    cut_told = rw (shape_is q.0) (sym e)

    -- a cut axis is not 1: 6
    pub cut_disagrees : (mode : Mode) → b ≡ false → (s : List ℤ) → Says (broadcast_to_rank mode (layout_in src) n) 0 s (Err ShapesDisagree)
    unfolding number_of
    cut_disagrees mode f s = says_refused ShapesDisagree 0 _ (rank_disagrees mode (layout_in src) n (cut_told ∙ f))

    module _ (f : b ≡ true) (extents : List ℤ) (long : length extents ≡ 4) (is : row_at 0 n extents ≡ fit_to n 1 (extents_in h.rank src)) where
      pub ask_stretch : StretchAsked h src 0 n extents
      unfolding within_product
      ask_stretch = record {
        source = q.0;
        shapes = record {
          old_in = extents_in_lem q.0;
          old_few = (lies q.0).rank_few;
          new_in = omega (arith, q.1);
          new_few = q.1;
          within =
              rw (is, ← shape_is q.0)
              (le-leb (nonzero_product (fit_to n 1 (layout_in src).shape)) product_limit (le_trans (fit_product n (layout_in src).shape) (layout_sound q.0).sizes.product_most));
        };
      }

      -- what the step says is said of the rank
      pub rank_said : (mode : Mode) {t : List ℤ} {step : (Result ⊤ Refusal)} → Says (broadcast_to_shape mode (layout_in src) (row_at 0 n extents)) 0 t step → Says (broadcast_to_rank mode (layout_in src) n) 0 t step
      rank_said mode p =
          let new : row_at 0 n extents ≡ fit_to n 1 (layout_in src).shape = is ∙ ap (fit_to n 1) (sym (shape_is q.0)) in
          rw (rank_stretches mode (layout_in src) n (cut_told ∙ f), ← new) p

-- ---- what is asked

-- a sound record, and extents that lie in a slice and are within the limit
pub ask_shape : {h : Head} {src : List ℤ} {at n : ℕ} {shape : List ℤ} → SoundRecord h src → Extents at n shape → n ≤ 4 → StretchAsked h src at n shape
ask_shape r x few = record {
  source = r;
  shapes = record { old_in = extents_in_lem r; old_few = (lies r).rank_few; new_in = x.room; new_few = few; within = x.within };
}
