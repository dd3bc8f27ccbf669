-- 1 and 2 of a call that is lent a result and a working buffer.
use Rattle.std.specs.Prelude.{Err, Ok, Result, ⊤}
use Rattle.std.specs.Prelude.{◌≡◌, Bool, false, ◌||◌, List, [], ◌∷◌, ℕ, ◌≤◌}
use Rattle.rules.specs.declared.Refusal.{Refusal}
use Rattle.rules.specs.Limits.{result_size, work_size}
use Rattle.rules.specs.Refusals.{refused, number_of, Reason, ◌when◌, lowest}
use Rattle.rules.specs.Arguments.{short_result, short_work}

-- 1 and 2, with whatever else a call can be refused for behind them
abbrev pub size_reasons : Bool → ℕ → ℕ → List Reason → List Reason
size_reasons over result work rest = 1 when over ∷ 2 when (short_result result || short_work work) ∷ rest

-- neither holds
pub record SizesKept (over : Bool) (result work : ℕ) : Type 0 where
  pub not_over : over ≡ false
  pub result_long : result_size ≤ result
  pub work_long : work_size ≤ work

-- 1 or 2 is given, and leaves both buffers as they are
pub record SizesRefused (over : Bool) (result work : ℕ) (why : Refusal) : Type 0 where
  pub is : lowest (size_reasons over result work []) ≡ refused (number_of why)

abbrev pub SizesAre : Bool → ℕ → ℕ → Result ⊤ Refusal → Type 0
SizesAre over result work (Ok tt) = SizesKept over result work
SizesAre over result work (Err why) = SizesRefused over result work why
