-- The lines along which starts run.
use Rattle.std.specs.Prelude.{List, [], ◌∷◌, ℕ, eqb, replicate}
use Rattle.rules.specs.Lists.{if, fit_to}
use Rattle.blocks.specs.declared.running.Line.{Line}
use Rattle.blocks.specs.declared.running.Line.TheVariants.{First, Diagonal}

-- the start of r numbers that has come so far: on the first axis and 0 elsewhere, or the same on every axis
abbrev pub place_on : Line → ℕ → ℕ → List ℕ
place_on First r = λ run. fit_to r 0 (run ∷ [])
place_on Diagonal r = λ run. replicate r run

-- its number of an axis
abbrev pub number_on : Line → ℕ → ℕ → ℕ
number_on First run = λ axis. if (eqb axis 0) run 0
number_on Diagonal run = λ axis. run
