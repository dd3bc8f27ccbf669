-- Module 12, `broadcast`: layouts stretched to their common shape and folded by an operator.
use Rattle.std.specs.Prelude.{Bool, false, not, ◌&&◌, ◌||◌, List, [], ◌∷◌, map, reverse, ℕ, length, get_or, eqb, ℤ}
use Rattle.rules.specs.declared.Mode.{Mode}
use Rattle.rules.specs.declared.Mode.TheVariants.{Alone}
use Rattle.rules.specs.declared.Rule.{Rule}
use Rattle.rules.specs.declared.Rule.TheVariants.{Unite, Multiply, Divide}
use Rattle.rules.specs.Lists.{if, all, any, product}
use Rattle.rules.specs.Refusals.{Verdict, given, refused, ◌then◌, ◌when◌, lowest}
use Rattle.rules.specs.Layout.{Layout, rank, is_dense, is_sparse, alike, made}
use Rattle.rules.specs.Record.{records_in, layout_in, sound}
use Rattle.rules.specs.Arguments.{over_count, over_record, short_result, short_work, good_mode}
use Rattle.rules.specs.Shapes.{broadcast_shapes}
use Rattle.rules.specs.CountsAndForms.{to_dense, eq_nonzeros}
use Rattle.rules.specs.Stretching.{broadcast_to_shape, mode_of}
use Rattle.rules.specs.Union.{union}
use Rattle.rules.specs.Intersect.{intersect}

-- the operator byte: 47 is '/', 42 is '*', all others are unions
unfoldable pub rule_of : ℕ → Rule
rule_of byte = if (eqb byte 47) Divide (if (eqb byte 42) Multiply Unite)

-- '*' and '/' intersect, others union
unfoldable pub combine : Rule → Layout → Layout → Verdict Layout
combine Unite a b = union a b
combine Multiply a b = intersect a b
combine Divide a b = intersect a b

-- each stretching in list order
unfoldable pub stretch_all : Mode → List ℕ → List Layout → Verdict (List Layout)
stretch_all mode shape [] = given []
stretch_all mode shape (l ∷ layouts) =
    broadcast_to_shape mode l shape then λ first. stretch_all mode shape layouts then λ others. given (first ∷ others)

-- 9: a '/' whose last is sparse and whose next-to-last is dense or differs
abbrev pub divides_by_sparse : Rule → Layout → Layout → Bool
divides_by_sparse Divide last next = is_sparse last && (is_dense next || not (eq_nonzeros last next))
divides_by_sparse Multiply last next = false
divides_by_sparse Unite last next = false

-- each fold is a step
unfoldable pub fold_onto : Rule → Layout → List Layout → Verdict Layout
fold_onto rule l [] = given l
fold_onto rule l (next ∷ layouts) = combine rule l next then λ both. fold_onto rule both layouts

-- folded from the last, which comes first here; 9 belongs to the first fold. Nothing to broadcast was refused before
unfoldable pub fold_back : Rule → List Layout → Verdict Layout
fold_back rule [] = refused 6
fold_back rule (last ∷ []) = given last
fold_back rule (last ∷ next ∷ layouts) =
    lowest (9 when divides_by_sparse rule last next ∷ []) then λ _. fold_onto rule last (next ∷ layouts)

-- R other than 1, all extents equal, as many rows as the first extent and each row of equal components
abbrev pub is_diagonal_in_rows : Layout → Bool
is_diagonal_in_rows l =
    not (eqb (rank l) 1) && alike l.shape && eqb (length l.rows) (get_or l.shape 0 0) && all alike l.rows

abbrev pub as_diagonal : Layout → Layout
as_diagonal l = record {
  kind = 1;
  dense = l.dense;
  shape = l.shape;
  rows = [];
  states = l.states;
  inputs = l.inputs;
}

-- the end: a sparse result with as many rows as the product becomes dense, one of rank 0 without rows gives 12, and one
-- whose rows are a diagonal becomes diagonal
unfoldable pub end_of_broadcast : Layout → Verdict Layout
end_of_broadcast l =
    if (not (is_sparse l)) (given l)
    (if (eqb (length l.rows) (product l.shape)) (given (to_dense l))
    (lowest (12 when eqb (rank l) 0 ∷ []) then λ _. if (is_diagonal_in_rows l) (made (as_diagonal l)) (given l)))

-- all stretched to the common shape, folded from the last
unfoldable pub broadcast : Mode → List Layout → Rule → Verdict Layout
broadcast mode layouts rule =
    broadcast_shapes (map (λ l. l.shape) layouts) then λ shape.
    stretch_all mode shape layouts then λ stretched.
    fold_back rule (reverse stretched) then λ l.
    end_of_broadcast l

-- ---- the calls

unfoldable pub broadcast_call : List ℤ → ℤ → ℕ → ℕ → ℕ → Verdict Layout
broadcast_call s n operator result work =
    lowest
    (1 when (over_count n || any over_record (records_in n s)) ∷ 2 when (short_result result || short_work work)
    ∷ 3 when not (all sound (records_in n s)) ∷ [])
    then λ _. broadcast Alone (map layout_in (records_in n s)) (rule_of operator)

-- 5: a mode other than 0 or 1
unfoldable pub broadcast_with_mode_call : List ℤ → ℤ → ℕ → ℤ → ℕ → ℕ → Verdict Layout
broadcast_with_mode_call s n operator mode result work =
    lowest
    (1 when (over_count n || any over_record (records_in n s)) ∷ 2 when (short_result result || short_work work)
    ∷ 3 when not (all sound (records_in n s)) ∷ 5 when not (good_mode mode) ∷ [])
    then λ _. broadcast (mode_of mode) (map layout_in (records_in n s)) (rule_of operator)
