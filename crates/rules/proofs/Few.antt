-- Lists that could be long, gathered until there are too many: the limit is judged the same, and a list within it is sorted.
-- Assumes nothing.
use mathlib.Core.Path.{◌≡◌, refl, sym, ap, ◌∙◌}
use mathlib.Core.Bool.{Bool, true, false}
use mathlib.Core.List.{List, [], ◌∷◌, ◌++◌, append_assoc}
use Prim.Native.Nat.{ℕ, ◌≤◌, ◌<◌}
use native.Mathlib.Omega.{arith}
use borrow.Author.Tests.{leb-false, lt-leb}
use lib.ListN.{length}
use Rattle.rules.specs.Lists.{if}
use Rattle.rules.specs.RowsInOrder.{insert, sorted, sorted_onto, sorted_few, Each, Increasing, increasing_nil}
use Rattle.rules.specs.Layout.{few}
use Rattle.rules.proofs.Same.{true_not_false}
use Rattle.rules.proofs.Sets.{each_nil, each_head, each_tail}
use Rattle.rules.proofs.Sorting.{insert_each, insert_increasing, sorted_id}
use Rattle.rules.proofs.Merging.{sorted_snoc, sorted_left, merge_length_left, merge_nil_right}

-- a row put in first and the rest then, or all at once
onto_cons : {t : List (List ℕ)} → Increasing t → (r : List ℕ) (long : List (List ℕ)) → sorted (t ++ (r ∷ long)) ≡ sorted (insert r t ++ long)
onto_cons {t} i r long =
    let one : sorted (t ++ (r ∷ [])) ≡ insert r t = sorted_snoc t r ∙ ap (insert r) (sorted_id i) in
    sym (ap sorted (append_assoc t (r ∷ []) long)) ∙ sym (sorted_left (t ++ (r ∷ [])) long) ∙ ap (λ (x : List (List ℕ)). sorted (x ++ long)) one

-- what is gathered is within the limit where the whole sorted list is, and then it is that list
pub record Gathered (whole long : List (List ℕ)) : Type 0 where
  pub limit : few long ≡ few whole
  pub within : few whole ≡ true → long ≡ whole

-- rows that pass the limit do so whatever is sorted in with them
too_many : {t : List (List ℕ)} → Increasing t → (long : List (List ℕ)) → few t ≡ false → few (sorted (t ++ long)) ≡ false
too_many {t} i long e =
    let more : 128 < length t = leb-false (length t) 128 e in
    let kept : length t ≤ length (sorted (t ++ long)) = rw (sorted_id i) at (merge_length_left t long) in
    lt-leb (length (sorted (t ++ long))) 128 (omega arith)

gathered : {t : List (List ℕ)} → Increasing t → (long : List (List ℕ)) → Gathered (sorted (t ++ long)) (sorted_onto t long)
unfolding sorted_onto
gathered {t} i [] = record { limit = rw (merge_nil_right i); within = λ _. rw (merge_nil_right i) }
gathered {t} i (r ∷ long) = go (few t) refl (gathered {t = insert r t} (insert_increasing r i) long)
  where
    go : (b : Bool) → few t ≡ b → Gathered (sorted (insert r t ++ long)) (sorted_onto (insert r t) long) → Gathered (sorted (t ++ (r ∷ long))) (sorted_onto t (r ∷ long))
    go true e rest = rw (e, onto_cons i r long) rest
    go false e rest =
        let over : few (sorted (t ++ (r ∷ long))) ≡ false = too_many i (r ∷ long) e in
        rw e (record { limit = e ∙ sym over; within = λ w. absurd (true_not_false w over) })

-- gathered or sorted, a list is within the limit or not
pub few_sorted : (long : List (List ℕ)) → few (sorted_few long) ≡ few (sorted long)
few_sorted long = (gathered increasing_nil long).limit

-- within the limit it is the sorted list
pub sorted_few_lem : (long : List (List ℕ)) → few (sorted long) ≡ true → sorted_few long ≡ sorted long
sorted_few_lem long e = (gathered increasing_nil long).within e

-- ---- what is gathered

-- rows sorted onto others increase if those do
onto_increasing : {t : List (List ℕ)} → Increasing t → (long : List (List ℕ)) → Increasing (sorted_onto t long)
unfolding sorted_onto
onto_increasing i [] = i
onto_increasing {t} i (r ∷ long) = go (few t) (onto_increasing {t = insert r t} (insert_increasing r i) long)
  where
    go : (b : Bool) → Increasing (sorted_onto (insert r t) long) → Increasing (if b (sorted_onto (insert r t) long) t)
    go true rest = rest
    go false rest = i

-- what holds of all rows holds of those that are sorted onto others
onto_each : {P : List ℕ → Type 0} {t : List (List ℕ)} → Each P t → {long : List (List ℕ)} → Each P long → Each P (sorted_onto t long)
unfolding sorted_onto
onto_each f {long = []} g = f
onto_each {P} {t} f {long = r ∷ long} g = go (few t) (onto_each {t = insert r t} (insert_each r (each_head g) f) {long = long} (each_tail g))
  where
    go : (b : Bool) → Each P (sorted_onto (insert r t) long) → Each P (if b (sorted_onto (insert r t) long) t)
    go true rest = rest
    go false rest = f

-- gathered rows increase
pub few_increasing : (long : List (List ℕ)) → Increasing (sorted_few long)
few_increasing long = onto_increasing increasing_nil long

-- what holds of all rows holds of those that are gathered
pub few_each : {P : List ℕ → Type 0} {long : List (List ℕ)} → Each P long → Each P (sorted_few long)
few_each {P} g = onto_each (each_nil P) g
