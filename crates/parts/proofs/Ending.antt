-- How a call ends that hands its step to `finish` or `refuse`. Assumes nothing.
use Rattle.std.specs.Prelude.{Err, Ok, Result, ⊤}
use mathlib.Core.Path.{◌≡◌, refl, sym, ap, ◌∙◌}
use mathlib.Core.List.{List}
use Prim.Native.Nat.{ℕ, ◌≤◌}
use native.Mathlib.Omega.{arith}
use borrow.Author.Tests.{ne_eqb}
use lib.IntN.{ℤ}
use Rattle.rules.specs.declared.Refusal.{Refusal}
use Rattle.rules.specs.Buffers.{over, zeros}
use Rattle.rules.specs.Refusals.{Verdict, given, refused, in_form, number_of}
use Rattle.rules.specs.Layout.{Layout, encode}
use Rattle.rules.specs.Endings.{result_after, work_after, Ends}
use Rattle.rules.proofs.Refusing.{Refusing}
use Rattle.rules.proofs.Buffers.{length_zeros}
use Rattle.tables.specs.Tables.{Only}
use Rattle.rules.specs.Limits.{work_size}
use Rattle.parts.specs.Parts.{layout_at}
use Rattle.parts.specs.Answers.{Stored, Says, Finished}

-- ---- `finish`

module _ {step : (Result ⊤ Refusal)} {at : ℕ} {work result work' : List ℤ} (w : work' ≡ over (zeros work_size) work) where
  -- a layout was made, and stored
  pub finished_done : {part : List ℤ} {n : ℕ} {result' : List ℤ} → step ≡ Ok tt → layout_at 0 part ≡ layout_at at work → Stored part result result' n →
      Finished step at work result (Ok n) work' result'
  unfolding result_after
  finished_done e l s = record { answer = rw (e, ← l) (ap given s.count); result_is = rw (e, ← l) s.is; work_is = w }

  -- the step was refused
  pub finished_refused : {x : Refusal} {r : (Result ℕ Refusal)} → step ≡ Err x → r ≡ Err x → Finished step at work result r work' result
  unfolding result_after
  finished_refused e f = record { answer = rw (e, f); result_is = rw e; work_is = w }

-- ---- refusals of steps: neither 1 nor 2, after which the working buffer would have to be as it was

abbrev pub AboveTwo : ℕ → Type 0
AboveTwo n = 3 ≤ n

abbrev pub Late : {A : Type 0} → Verdict A → Type 0
Late v = Refusing AboveTwo v

-- ---- the end of a call

-- clearing forgets what was written
cleared : (n : ℕ) {s t : List ℤ} → Only 0 n s t → over (zeros n) t ≡ over (zeros n) s
unfolding over
cleared n o = rw (length_zeros n, o.behind)

-- a late verdict clears the working buffer
late_work : (v : Verdict Layout) → Late v → (work : List ℤ) → work_after (in_form encode v) work ≡ over (zeros work_size) work
unfolding work_after
late_work (given l) p work = refl
late_work (refused n) p work = rw (ne_eqb n 1 (λ e. omega arith), ne_eqb n 2 (λ e. omega arith))

-- a call that ends with `finish`, whose step said v
pub call_finished : {v : Verdict Layout} {step : (Result ⊤ Refusal)} {at : ℕ} {work now work' result result' : List ℤ} {r : (Result ℕ Refusal)} →
    Says v at now step → Late v → Only 0 work_size work now → Finished step at now result r work' result' →
    Ends (in_form encode v) result work r result' work'
call_finished {v} {step} {at} {work} {now} e late o f = record {
  answer = rw e.is at f.answer;
  result_is = rw e.is at f.result_is;
  work_is = f.work_is ∙ cleared work_size o ∙ sym (late_work v late work);
}

-- a call that ends with `refuse`
pub call_refused : {v : Verdict Layout} {x : Refusal} {work now work' result : List ℤ} {r : (Result ℕ Refusal)} →
    v ≡ refused (number_of x) → 3 ≤ number_of x → Only 0 work_size work now → (r ≡ Err x) × (work' ≡ over (zeros work_size) now) →
    Ends (in_form encode v) result work r result work'
unfolding result_after
call_refused {v} {x} {work} {now} e late o f = rw e (record {
  answer = rw f.0;
  result_is = refl;
  work_is = f.1 ∙ cleared work_size o ∙ sym (late_work (refused (number_of x)) late work);
})
