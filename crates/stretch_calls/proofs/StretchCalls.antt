-- The shape or the rank that a record is stretched to, the mode, and that a refusal is above 2. Assumes nothing.
use Rattle.std.specs.Prelude.{Result, ⊤}
use Rattle.rules.specs.declared.Refusal.{Refusal}
use mathlib.Core.Path.{◌≡◌, sym, ◌∙◌}
use mathlib.Core.Bool.{Bool, true, false, not, ◌&&◌, ◌||◌}
use mathlib.Core.List.{List, [], ◌∷◌}
use Prim.Native.Nat.{ℕ, ◌≤◌}
use native.Mathlib.Omega.{arith}
use borrow.Author.Tests.{not-false}
use lib.IntN.{ℤ}
use lib.ListN.{length}
use Rattle.rules.specs.declared.Head.{Head}
use Rattle.rules.specs.declared.Mode.{Mode}
use Rattle.rules.specs.declared.Refusal.TheVariants.{WrongArgument}
use Rattle.rules.specs.Refusals.{given, refused, number_of, Reason, ◌when◌, lowest}
use Rattle.rules.specs.Layout.{Layout}
use Rattle.rules.specs.Record.{layout_in, shape_in, good_shape}
use Rattle.rules.specs.Arguments.{over_shape, good_mode}
use Rattle.rules.specs.Stretching.{broadcast_to_shape, broadcast_to_rank, mode_of}
use Rattle.rules.proofs.Same.{neither}
use Rattle.rules.proofs.RefusedWith.{stretch_refusing, rank_refusing}
use Rattle.tables.specs.Rows.{row_at}
use Rattle.records.specs.Sound.{SoundRecord}
use Rattle.shapes.specs.Judged.{Judged}
use Rattle.shapes.proofs.Judging.{shape_row, shape_extents}
use Rattle.parts.specs.Answers.{Says}
use Rattle.parts.proofs.Ending.{AboveTwo, Late}
use Rattle.judging.specs.LentSizes.{SizesKept}
use Rattle.judging.specs.Judging.{ModeGood}
use Rattle.judging.proofs.Judged.{argument_wrong, argument_right, not_holds, not_fails, both_hold, both_first, both_second}
use Rattle.stretch.specs.Layouts.{StretchAsked}
use Rattle.stretch.proofs.Assembled.{ask_shape}

-- ---- refusals are above 2

pub late_shape : (mode : Mode) (l : Layout) (shape : List ℕ) → Late (broadcast_to_shape mode l shape)
late_shape = stretch_refusing AboveTwo (omega arith) (omega arith) (omega arith) (omega arith)

pub late_rank : (mode : Mode) (l : Layout) (r : ℕ) → Late (broadcast_to_rank mode l r)
late_rank = rank_refusing AboveTwo (omega arith) (omega arith) (omega arith) (omega arith)

-- ---- 5: what a record is stretched to, or the mode, is wrong

module _ (fits : Bool) (mode : ℤ) where
  abbrev pub wrong : List Reason
  wrong = 5 when not (fits && good_mode mode) ∷ []

  pub target_wrong : fits ≡ false → lowest wrong ≡ refused (number_of WrongArgument)
  target_wrong e = argument_wrong (not (fits && good_mode mode)) (not_fails (fits && good_mode mode) (both_first fits (good_mode mode) e))

  module _ (e : fits ≡ true) where
    pub no_mode : good_mode mode ≡ false → lowest wrong ≡ refused (number_of WrongArgument)
    no_mode f = argument_wrong (not (fits && good_mode mode)) (not_fails (fits && good_mode mode) (both_second fits (good_mode mode) e f))

    pub none_wrong : {way : Mode} → ModeGood mode way → lowest wrong ≡ given tt
    none_wrong m = argument_right (not (fits && good_mode mode)) (not_holds (fits && good_mode mode) (both_hold fits (good_mode mode) e m.good))

-- ---- a shape among the arguments

-- one that was not refused
pub judged_shape : (other : Bool) (shape : List ℤ) {m n : ℕ} → SizesKept (other || over_shape shape) m n → {g : Bool} → g ≡ good_shape shape → not g ≡ false → Judged shape
judged_shape other shape k {g} e f = record { small = (neither other (over_shape shape) k.not_over).1; good = sym e ∙ not-false g f }

module _ {x : Head} {s shape : List ℤ} (p : SoundRecord x s) (j : Judged shape) {n : ℕ} (e : (n ≡ length (shape_in shape)) × (n ≤ 4)) where
  pub shape_asked : StretchAsked x s 1 n shape
  shape_asked = ask_shape p (shape_extents shape j e.0) e.1

  -- the step was asked for the shape at its place, in the mode that was named
  pub shape_said : {mode : ℤ} {way : Mode} → ModeGood mode way → {t : List ℤ} {step : (Result ⊤ Refusal)} → Says (broadcast_to_shape way (layout_in s) (row_at 1 n shape)) 0 t step →
      Says (broadcast_to_shape (mode_of mode) (layout_in s) (shape_in shape)) 0 t step
  shape_said m d = rw (shape_row shape j e.0, m.is) at d

-- ---- a rank among the arguments

-- the step was asked for the rank as a natural number, in the mode that was named
pub rank_said : (l : Layout) {n m : ℕ} → n ≡ m → {mode : ℤ} {way : Mode} → ModeGood mode way → {t : List ℤ} {step : (Result ⊤ Refusal)} → Says (broadcast_to_rank way l n) 0 t step →
    Says (broadcast_to_rank (mode_of mode) l m) 0 t step
rank_said l e g d = rw (e, g.is) at d
