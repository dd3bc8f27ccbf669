-- A shape beside a result: the ways out of `judge_shape`, and of the calls that ask it. Assumes nothing.
use Rattle.std.specs.Prelude.{Err, Ok, Result, ⊤}
use mathlib.Core.Path.{◌≡◌, sym, ◌∙◌, subst}
use mathlib.Core.Bool.{Bool, true, false, not, ◌&&◌}
use mathlib.Core.List.{List, [], ◌∷◌}
use Prim.Native.Nat.{ℕ, ◌*◌, ◌<◌, ◌≤◌}
use borrow.Author.Tests.{lt-ltb, le-ltb, not-true, not-false}
use lib.Dec.{eqb}
use lib.IntN.{ℤ}
use lib.ListN.{length}
use lib.Signed.{non_neg}
use Rattle.rules.specs.Limits.{result_size}
use Rattle.rules.specs.declared.Refusal.{Refusal}
use Rattle.rules.specs.declared.Refusal.TheVariants.{OverCount, ShortBuffer, WrongArgument}
use Rattle.rules.specs.Layout.{Layout, encode}
use Rattle.rules.specs.Refusals.{Verdict, refused, in_form, number_of, ◌when◌, ◌then◌, lowest}
use Rattle.rules.specs.Record.{natural, good_shape, shape_in}
use Rattle.rules.specs.Arguments.{over_shape, short_result}
use Rattle.rules.specs.Endings.{EndsIn}
use Rattle.rules.specs.CountsAndForms.{from_shape, sparse_call}
use Rattle.judging.specs.Judging.{shape_reasons, ShapeGood, ShapeIs}
use Rattle.judging.proofs.Required.{shape_judged}
use Rattle.judging.proofs.Results.{ends_refused, ends_stepped}

-- ---- one test after the other

module _ (s : List ℤ) (size : ℕ) {o : Bool} (e : o ≡ over_shape s) where
  -- 1
  pub shape_over : o ≡ true → lowest (shape_reasons s size) ≡ refused (number_of OverCount)
  unfolding lowest number_of
  shape_over f = rw (sym e ∙ f)

  module _ (f : o ≡ false) where
    -- 2
    pub room_short : size < result_size → lowest (shape_reasons s size) ≡ refused (number_of ShortBuffer)
    unfolding lowest number_of
    room_short h = rw (sym e ∙ f, lt-ltb size result_size h)

    module _ (h : result_size ≤ size) {g : Bool} (d : g ≡ good_shape s) where
      -- 5
      pub shape_wrong : not g ≡ true → lowest (shape_reasons s size) ≡ refused (number_of WrongArgument)
      unfolding lowest number_of
      shape_wrong k = rw (sym e ∙ f, le-ltb size result_size h, sym d ∙ not-true g k)

      -- none of them
      pub shape_good : not g ≡ false → ShapeGood s size
      unfolding lowest
      shape_good k = record {
        none_holds = rw (sym e ∙ f, le-ltb size result_size h, sym d ∙ not-false g k);
        shape = shape_judged s e f d k;
        result_long = h;
      }

pub ruleset ways = (shape_over, room_short, shape_wrong, shape_good)

-- ---- what was judged, by the case that was met

module _ (s : List ℤ) (size : ℕ) {r : (Result ⊤ Refusal)} (p : ShapeIs s size r) where
  pub good_shape_lem : r ≡ Ok tt → ShapeGood s size
  good_shape_lem e = subst (ShapeIs s size) e p

  pub shape_refused : {why : Refusal} → r ≡ Err why → lowest (shape_reasons s size) ≡ refused (number_of why)
  shape_refused e = subst (ShapeIs s size) e p

-- a call that judges a shape alone
module _ (f : List ℕ → Verdict Layout) (s : List ℤ) (size : ℕ) where
  -- is refused
  pub from_refused : {r : (Result ⊤ Refusal)} {why : Refusal} {old : List ℤ} → ShapeIs s size r → r ≡ Err why →
      EndsIn (in_form encode (from_shape f s size)) old (Err why) old
  from_refused {why = why} p e = ends_refused encode (from_shape f s size) why (rw (shape_refused s size p e))

  -- or comes to its step
  pub from_good : {w : (Result ℕ Refusal)} {old new : List ℤ} → ShapeGood s size → EndsIn (in_form encode (f (shape_in s))) old w new →
      EndsIn (in_form encode (from_shape f s size)) old w new
  from_good g t = ends_stepped encode (from_shape f s size) (f (shape_in s)) t (rw g.none_holds)

-- a call that judges more under 5 is refused too
more_under_5 : (a b c x y : Bool) {n : ℕ} (next : Unit → Verdict Layout) → lowest (1 when a ∷ 2 when b ∷ 5 when not c ∷ []) ≡ refused n →
    refused n ≡ lowest (1 when a ∷ 2 when b ∷ 5 when not (c && x && y) ∷ []) then next
unfolding lowest
more_under_5 true b c x y next e = cc
more_under_5 false true c x y next e = cc
more_under_5 false false false x y next e = cc
more_under_5 false false true x y next e = cc

pub sparse_refused : (s : List ℤ) (count : ℤ) (numbers : List ℤ) (size : ℕ) {n : ℕ} → lowest (shape_reasons s size) ≡ refused n →
    refused n ≡ sparse_call s count numbers size
unfolding sparse_call
sparse_refused s count numbers size e =
    more_under_5 (over_shape s) (short_result size) (good_shape s) (non_neg count) (eqb (length numbers) (natural count * length (shape_in s))) _ e
