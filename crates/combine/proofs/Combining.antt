-- How a step in the window ends, by whatever rule: refused, or with a layout in the target. Assumes nothing.
use Rattle.std.specs.Prelude.{Err}
use mathlib.Core.Path.{◌≡◌, refl, sym, ap, ◌∙◌}
use mathlib.Core.Bool.{Bool, true, false}
use mathlib.Core.List.{List, []}
use Prim.Native.Nat.{ℕ, ◌≤◌}
use native.Mathlib.Omega.{arith}
use lib.IntN.{ℤ}
use lib.ListN.{length}
use Rattle.rules.specs.declared.Refusal.{Refusal}
use Rattle.rules.specs.declared.Refusal.TheVariants.{MadeTooLarge}
use Rattle.rules.specs.Lists.{if, same}
use Rattle.rules.specs.Refusals.{Verdict, given, refused, number_of}
use Rattle.rules.specs.Layout.{Layout}
use Rattle.rules.proofs.Same.{same_true}
use Rattle.rules.specs.Soundness.{Sound, DepsLow}
use Rattle.rules.specs.Pairs.{with_merged}
use Rattle.rules.proofs.Made.{few_or}
use Rattle.rules.proofs.Soundness.{diagonal_rows_lem}
use Rattle.tables.specs.Tables.{Only}
use Rattle.tables.proofs.Only.{only_same}
use Rattle.parts.specs.Parts.{window_size, left, right, target, dense_at, rank_at, layout_at, Window}
use Rattle.parts.proofs.Holds.{rank_is, dense_most}
use Rattle.parts.proofs.Saying.{says_refused}
use Rattle.combine.specs.declared.window.Way.TheVariants.{Diagonals}
use Rattle.combine.specs.Window.{BareAsked, made_step, Made, Combined, merged_states, merged_inputs, shaped}
use Rattle.combine.proofs.Ways.{Told, diagonal_first}

-- a rule that makes a sound layout of two sound ones, with low dependencies of low ones
pub record Makes (rule : Layout → Layout → Verdict Layout) : Type 0 where
  pub sound : (a b : Layout) {l : Layout} → rule a b ≡ given l → Sound l
  pub low : {a b l : Layout} → DepsLow a → DepsLow b → rule a b ≡ given l → DepsLow l

module _ {rule : Layout → Layout → Verdict Layout} {s : List ℤ} (q : Window s) where
  -- nothing is written
  pub combine_refused : (r : Refusal) → rule (layout_at left s) (layout_at right s) ≡ refused (number_of r) → Combined rule s s (Err r)
  combine_refused r e = record { says = says_refused r target s e; only = only_same target window_size s }

  -- a layout was made, or a list of it or on the way to it is too long
  pub combine_told : Makes rule → {l : Layout} {t : List ℤ} {few : Bool} → rule (layout_at left s) (layout_at right s) ≡ if few (given l) (refused 13) →
      (few ≡ true → layout_at target t ≡ l) → Only target window_size s t → Combined rule s t (made_step few)
  combine_told makes {l} {t} {few = true} e f o =
      let is : rule (layout_at left s) (layout_at right s) ≡ given (layout_at target t) = e ∙ rw (f refl) in
      record {
        says = record {
          is = sym is;
          holds = λ _. record { inside = omega (arith, q.room, o.size); sound = makes.sound (layout_at left s) (layout_at right s) is; low = makes.low q.first.low q.second.low is };
        };
        only = o;
      }
  combine_told makes {t} {few = false} e f o = record { says = unfold number_of in says_refused MadeTooLarge target t e; only = o }

  -- a layout was made, or is too large
  pub combine_made : Makes rule → {l : Layout} {t : List ℤ} → rule (layout_at left s) (layout_at right s) ≡ few_or l → {few : Bool} → Made l s t few → Combined rule s t (made_step few)
  combine_made makes e m = combine_told makes (e ∙ rw (← m.verdict)) m.layout m.only

  -- two diagonals were merged, or their dependencies are too many
  pub diagonals_combined : Makes rule → Told (layout_at left s) (layout_at right s) Diagonals →
      rule (layout_at left s) (layout_at right s) ≡ few_or (with_merged (layout_at left s) (layout_at right s) (layout_at left s)) →
      {d : ℕ} {t : List ℤ} {few : Bool} → d ≡ dense_at left s →
      Made (shaped 1 d [] (merged_states s) (merged_inputs s) (layout_at left s)) s t few → Combined rule s t (made_step few)
  diagonals_combined makes told e {d} k m =
      let x : Layout = layout_at left s in
      let kind = diagonal_first told in
      let dense : d ≡ x.dense = unfold layout_at in k in
      let is : shaped 1 d [] (merged_states s) (merged_inputs s) x ≡ with_merged x (layout_at right s) x = rw (kind, dense, diagonal_rows_lem q.first.sound.form kind) in
      combine_made makes e (rw is at m)

-- ---- layouts of one shape

module _ {s : List ℤ} (q : Window s) {r : Bool} (r-is : r ≡ same (layout_at left s).shape (layout_at right s).shape) (agree : r ≡ true) where
  pub shapes_same : same (layout_at left s).shape (layout_at right s).shape ≡ true
  shapes_same = sym r-is ∙ agree

  ranks : rank_at left s ≡ rank_at right s
  ranks = sym (rank_is q.first) ∙ ap length (same_true shapes_same) ∙ rank_is q.second

  ask_bare : {kind dense : ℕ} → kind ≤ 2 → dense ≤ rank_at left s → BareAsked kind dense s
  ask_bare h k = record { deps = record { window = q; ranks = ranks }; head = record { window = q; kind_most = h; dense_most = k } }

  pub ask_dense_lem : {n : ℕ} → n ≡ rank_at left s → BareAsked 0 n s
  ask_dense_lem e = ask_bare (omega arith) (omega arith)

  pub ask_diagonal_lem : {d : ℕ} → d ≡ dense_at left s → BareAsked 1 d s
  ask_diagonal_lem e = let l = dense_most q.first in ask_bare (omega arith) (omega arith)
