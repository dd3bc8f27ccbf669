-- `same_front`, `eq_nonzeros` and `eq_nonzeros_and_deps`: two records are the same where their numbers are. Assumes nothing.
use mathlib.Core.Path.{◌≡◌, refl, sym, ap, ◌∙◌}
use mathlib.Core.Bool.{Bool, true, false, ◌&&◌}
use mathlib.Core.List.{List, [], ◌∷◌, ◌++◌}
use Prim.Native.Nat.{ℕ, suc, ◌≤◌}
use borrow.Author.Tests.{eqb-true, eq-eqb}
use lib.Dec.{eqb}
use lib.IntN.{ℤ}
use lib.ListN.{length, take}
use lib.Seq.{length-take-le}
use Rattle.rules.specs.declared.Head.{Head}
use Rattle.rules.specs.Lists.{same, same_rows}
use Rattle.rules.specs.Buffers.{part}
use Rattle.rules.specs.Layout.{Layout, rank, section}
use Rattle.rules.specs.Soundness.{WellFormed}
use Rattle.rules.specs.Record.{layout_in}
use Rattle.rules.specs.CountsAndForms.{eq_nonzeros, eq_nonzeros_and_deps}
use Rattle.rules.proofs.Same.{decided, same_true, same_refl, same_rows_true, same_rows_refl}
use Rattle.rules.proofs.Tests.{conjunct, true_both}
use Rattle.cells.specs.View.{view}
use Rattle.cells.proofs.View.{view_length}
use Rattle.records.specs.Sound.{SoundRecord}
use Rattle.records.proofs.SoundRecords.{layout_sound}
use Rattle.forms.proofs.Packed.{numbers, rows_packed, all_packed, section_same, SameFront, front_numbers, numbers_front}

-- ---- two fronts

module _ (a b : List ℤ) (m n : ℕ) where
  -- of two lengths
  pub lengths_differ : m ≤ length a → n ≤ length b → (m ≡ n → ⊥) → false ≡ same (take m (view a)) (take n (view b))
  lengths_differ i j f = by (same (take m (view a)) (take n (view b))) refl
    where
      by : (t : Bool) → same (take m (view a)) (take n (view b)) ≡ t → false ≡ t
      by true e =
          let left : length (take m (view a)) ≡ m = length-take-le m (view a) (rw view_length i) in
          let right : length (take n (view b)) ≡ n = length-take-le n (view b) (rw view_length j) in
          absurd (f (sym left ∙ ap length (same_true e) ∙ right))
      by false e = refl

  -- of one length
  pub numbers_told : {t : Bool} → m ≡ n → t ≡ same (part 0 n (view a)) (part 0 n (view b)) → t ≡ same (take m (view a)) (take n (view b))
  unfolding part
  numbers_told f e = e ∙ rw f

pub ruleset fronts = (lengths_differ, numbers_told)

-- ---- two layouts

-- the layouts of one front
front_told : {a b : Layout} → eq_nonzeros a b ≡ true → SameFront a b
unfolding eq_nonzeros
front_told {a} {b} e =
    let test = conjunct (eqb a.kind b.kind) (eqb a.dense b.dense ∷ same a.shape b.shape ∷ same_rows a.rows b.rows ∷ []) e in
    record {
      kind = eqb-true a.kind b.kind (test 0);
      dense = eqb-true a.dense b.dense (test 1);
      shape = same_true (test 2);
      rows = same_rows_true (test 3);
    }

told_front : {a b : Layout} → SameFront a b → eq_nonzeros a b ≡ true
unfolding eq_nonzeros
told_front {a} {b} f =
    rw (eq-eqb a.kind b.kind f.kind, eq-eqb a.dense b.dense f.dense, f.shape, f.rows, same_refl b.shape, same_rows_refl b.rows)

module _ {a b : Layout} (f : WellFormed a) (g : WellFormed b) where
  -- the numbers up to the rows tell whether they are equal there
  eq_numbers : same (numbers a []) (numbers b []) ≡ eq_nonzeros a b
  eq_numbers =
      decided (same (numbers a []) (numbers b [])) (eq_nonzeros a b)
      (λ e. told_front (numbers_front [] [] f g (same_true e)).0)
      (λ e. rw (front_numbers [] [] (front_told e) refl) (same_refl (numbers b [])))

  -- the dependencies behind them
  abbrev deps : Layout → List ℕ
  deps l = section l.states ++ section l.inputs

  -- all numbers tell whether they are equal with their dependencies
  all_numbers : same (numbers a (deps a)) (numbers b (deps b)) ≡ eq_nonzeros_and_deps a b
  unfolding eq_nonzeros_and_deps
  all_numbers =
      decided (same (numbers a (deps a)) (numbers b (deps b))) (eq_nonzeros a b && same_rows a.states b.states && same_rows a.inputs b.inputs) to back
    where
      to : same (numbers a (deps a)) (numbers b (deps b)) ≡ true → eq_nonzeros a b && same_rows a.states b.states && same_rows a.inputs b.inputs ≡ true
      to e =
          let h = numbers_front (deps a) (deps b) f g (same_true e) in
          let wide : suc (rank b) ≡ suc (rank a) = ap (λ (l : List ℕ). suc (length l)) (sym h.0.shape) in
          let k = section_same (suc (rank a)) a.states b.states (section a.inputs) (section b.inputs) f.states_fit.lengths (λ p m. g.states_fit.lengths p m ∙ wide) h.1 in
          let ends : section a.inputs ++ [] ≡ section b.inputs ++ [] = ap (λ (l : List ℕ). l ++ []) k.1 in
          let l = section_same (suc (rank a)) a.inputs b.inputs [] [] f.inputs_fit.lengths (λ p m. g.inputs_fit.lengths p m ∙ wide) ends in
          true_both (true_both (told_front h.0) (rw k.0 (same_rows_refl b.states))) (rw l.0 (same_rows_refl b.inputs))

      back : eq_nonzeros a b && same_rows a.states b.states && same_rows a.inputs b.inputs ≡ true → same (numbers a (deps a)) (numbers b (deps b)) ≡ true
      back e =
          let test = conjunct (eq_nonzeros a b) (same_rows a.states b.states ∷ same_rows a.inputs b.inputs ∷ []) e in
          let states : a.states ≡ b.states = same_rows_true (test 1) in
          let inputs : a.inputs ≡ b.inputs = same_rows_true (test 2) in
          rw (front_numbers (deps a) (deps b) (front_told (test 0)) (rw (states, inputs))) (same_refl (numbers b (deps b)))

-- ---- two records

module _ {x y : Head} {a b : List ℤ} (r : SoundRecord x a) (q : SoundRecord y b) where
  -- up to the rows
  pub rows_told : {t : Bool} → t ≡ same (take x.rows.next (view a)) (take y.rows.next (view b)) → t ≡ eq_nonzeros (layout_in a) (layout_in b)
  rows_told e = e ∙ rw (rows_packed r, rows_packed q) (eq_numbers (layout_sound r).form (layout_sound q).form)

  -- up to the inputs
  pub all_told : {t : Bool} → t ≡ same (take x.inputs.next (view a)) (take y.inputs.next (view b)) → t ≡ eq_nonzeros_and_deps (layout_in a) (layout_in b)
  all_told e = e ∙ rw (all_packed r, all_packed q) (all_numbers (layout_sound r).form (layout_sound q).form)

pub ruleset told = (rows_told, all_told)
