-- Two records loaded into the window and combined there by a step, by any rule. Assumes nothing.
use Rattle.std.specs.Prelude.{Result, ⊤}
use Rattle.rules.specs.declared.Refusal.{Refusal}
use mathlib.Core.Path.{◌≡◌}
use mathlib.Core.List.{List}
use Prim.Native.Nat.{◌≤◌}
use native.Mathlib.Omega.{arith}
use lib.IntN.{ℤ}
use lib.ListN.{length}
use Rattle.rules.specs.Limits.{work_size}
use Rattle.rules.specs.Refusals.{Verdict}
use Rattle.rules.specs.Layout.{Layout}
use Rattle.rules.specs.Record.{layout_in}
use Rattle.tables.specs.Tables.{Only}
use Rattle.tables.proofs.Only.{only_then, only_wider}
use Rattle.parts.specs.Parts.{window_size, target, Window}
use Rattle.parts.specs.Answers.{PairLoaded, Says}
use Rattle.parts.proofs.Lent.{lent_of, back_in}
use Rattle.parts.proofs.Windows.{window_again, window_only, window_says}
use Rattle.combine.specs.Window.{Combined}

-- the window came back with both records, and is lent again to the step
module _ {s t : List ℤ} (work : List ℤ) (long : work_size ≤ length work) {w : List ℤ} (p : PairLoaded s t w) (w-size : length w ≡ length (lent_of 0 window_size work)) where
  loaded_long : work_size ≤ length (back_in 0 window_size work w)
  loaded_long = rw (window_only work long w w-size).size long

  pub asked_in_window : Window (lent_of 0 window_size (back_in 0 window_size work w))
  asked_in_window = rw (window_again work long w w-size) p.holds

  -- the step came back with what it made
  module _ {rule : Layout → Layout → Verdict Layout} {u : List ℤ} {step : (Result ⊤ Refusal)} (m : Combined rule (lent_of 0 window_size (back_in 0 window_size work w)) u step) where
    pub says_in_window : Says (rule (layout_in s) (layout_in t)) target (back_in 0 window_size (back_in 0 window_size work w) u) step
    says_in_window =
        window_says (back_in 0 window_size work w) loaded_long u m.only.size
        (rw (window_again work long w w-size, p.first, p.second) at m.says)

    pub only_in_window : Only 0 work_size work (back_in 0 window_size (back_in 0 window_size work w) u)
    only_in_window =
        only_wider (only_then (window_only work long w w-size) (window_only (back_in 0 window_size work w) loaded_long u m.only.size)) 0 work_size (omega arith) (omega arith)
