-- The ways out of a function that is lent a result. Assumes nothing.
use Rattle.std.specs.Prelude.{Err, None, Ok, Option, Result, Some}
use mathlib.Core.Path.{◌≡◌, refl, ap}
use mathlib.Core.Bool.{true, false}
use mathlib.Core.List.{List}
use Prim.Native.Nat.{ℕ, ◌*◌, ◌<◌, ◌≤◌, ◌^◌}
use native.Mathlib.Nat.{mul-le-mul, le_of_lt, lt_of_le_of_lt}
use borrow.Author.Tests.{lt-ltb, le-ltb, ltb-false, eq-eqb, ne_eqb}
use lib.Dec.{eqb, ltb, lit<}
use lib.IntN.{ℤ}
use lib.ListN.{length}
use mir.Syntax.{w64}
use mir.Val.{Fits}
use Rattle.rules.specs.Limits.{result_size}
use Rattle.rules.specs.declared.Refusal.{Refusal}
use Rattle.rules.specs.Refusals.{Verdict, given, refused, in_form, number_of}
use Rattle.rules.specs.Buffers.{over}
use Rattle.rules.specs.Record.{natural, shape_in}
use Rattle.rules.specs.Arguments.{over_rank, short_result}
use Rattle.rules.specs.Endings.{EndsIn, result_after}
use Rattle.cells.specs.View.{sign_of, size_of}
use Rattle.records.proofs.Sections.{size_natural}
use Rattle.shapes.proofs.Reading.{as_natural, as_nothing}

module _ (v : Verdict (List ℤ)) where
  -- a refusal leaves the result as it was
  pub refused_in : (why : Refusal) {old : List ℤ} → refused (number_of why) ≡ v → EndsIn v old (Err why) old
  unfolding result_after
  refused_in why e = rw (← e) (record { answer = refl; result_is = refl })

  -- what is given stands at the front of it
  pub written_in : {numbers old new : List ℤ} {n : ℕ} → given numbers ≡ v → length numbers ≡ n → new ≡ over numbers old → EndsIn v old (Ok n) new
  unfolding result_after
  written_in e size is = rw (← e) (record { answer = rw size; result_is = is })

module _ {A : Type 0} (form : A → List ℤ) (v : Verdict A) where
  -- so does one of an answer in another form
  pub ends_refused : (why : Refusal) {old : List ℤ} → refused (number_of why) ≡ v → EndsIn (in_form form v) old (Err why) old
  ends_refused why e = refused_in (in_form form v) why (ap (in_form form) e)

  -- a step that the call comes to ends it
  pub ends_stepped : (w : Verdict A) {r : (Result ℕ Refusal)} {old new : List ℤ} → EndsIn (in_form form w) old r new → w ≡ v → EndsIn (in_form form v) old r new
  ends_stepped w t e = rw e at t

-- ---- what is judged

module _ (n : ℕ) where
  -- the result is too short
  pub result_short : n < result_size → short_result n ≡ true
  result_short h = lt-ltb n result_size h

  -- it is long enough
  pub result_long : result_size ≤ n → short_result n ≡ false
  result_long h = le-ltb n result_size h

module _ {g : (Option ℕ)} (z : ℤ) (e : g ≡ sign_of z) where
  -- an asked rank by its sign
  pub rank_natural : {n : ℕ} → g ≡ Some n → ltb 4 n ≡ over_rank z
  rank_natural f = ap (ltb 4) (as_natural z e f)

  pub rank_negative : g ≡ None → false ≡ over_rank z
  rank_negative f = ap (ltb 4) (as_nothing z e f)

  -- one that is not over 4
  pub rank_few : {n : ℕ} → g ≡ Some n → over_rank z ≡ false → n ≤ 4
  rank_few f h = rw (as_natural z e f) (ltb-false 4 (natural z) h)

-- numbers of so many rows
module _ (s : List ℤ) (size : ℕ) (z : ℤ) {n w : ℕ} (e : n ≡ natural z) (f : w ≡ length (shape_in s)) where
  pub rows_numbered : size ≡ n * w → eqb size (natural z * length (shape_in s)) ≡ true
  rows_numbered h = rw (← e, ← f) (eq-eqb size (n * w) h)

  pub rows_misnumbered : (size ≡ n * w → ⊥) → eqb size (natural z * length (shape_in s)) ≡ false
  rows_misnumbered h = rw (← e, ← f) (ne_eqb size (n * w) h)

-- their count does not wrap
pub rows_fit : {g : (Option ℕ)} {n w : ℕ} → size_of g < 2 ^ 31 → g ≡ Some n → w ≤ 4 → Fits w64 (n * w)
rows_fit h e k = record { fits = lt_of_le_of_lt (mul-le-mul (le_of_lt (size_natural h e)) k) (lit< tt) }

pub ruleset results = (result_short, result_long)
