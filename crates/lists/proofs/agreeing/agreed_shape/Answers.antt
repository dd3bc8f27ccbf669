-- `agreed_shape`: by the first reason that holds.
use mathlib.Core.Bool.{true, false}
use mathlib.Core.List.{List}
use mathlib.Core.Path.{◌≡◌, sym, ◌∙◌}
use Prim.Native.Nat.{ℕ}
use native.Mathlib.Omega.{arith}
use borrow.Author.Tests.{eq-eqb, ne_eqb, not-true, not-false}
use Rattle.rules.specs.Layout.{within_product}
use Rattle.rules.specs.Lists.{none}
use Rattle.rules.specs.Refusals.{number_of}
use Rattle.rules.specs.Shapes.{common_shape, shapes_agree}
use Rattle.rules.proofs.Agreeing.{none_agree, some_differ, common_large, common_fits}
use Rattle.lists.specs.Asked.{shapes_at}
use Rattle.lists.proofs.Common.{common_low}
use Rattle.rules.specs.declared.Refusal.TheVariants.{ShapesDisagree, MadeTooLarge}
use Rattle.lists.proofs.ByValue.{tuple_refused, tuple_given, none_listed, common_within, common_length, refused_few, given_few}
use Rattle.lists.proofs.agreeing.agreed_shape.Goals as goal

pub returns-then-places-eq0 : goal.returns-then-places-eq0
unfolding number_of
returns-then-places-eq0 c =
    let shapes : List (List ℕ) = shapes_at c.args.places.now.count c.args.places.now.at c.args.s.now in
    let nothing = none_listed c.requires.inside ∙ eq-eqb _ 0 c.if-places-eq0.true in
    record {
      is = tuple_refused ShapesDisagree (sym (none_agree shapes nothing));
      few = refused_few;
    }

pub returns-then-not-shapes_agree : goal.returns-then-not-shapes_agree
unfolding number_of
returns-then-not-shapes_agree c =
    let shapes : List (List ℕ) = shapes_at c.args.places.now.count c.args.places.now.at c.args.s.now in
    let some : none shapes ≡ false = none_listed c.requires.inside ∙ ne_eqb _ 0 c.if-places-eq0.false in
    let differ = sym c.shapes_agree.ensures ∙ not-true _ c.if-not-shapes_agree.true-raw in
    record {
      is = tuple_refused ShapesDisagree (sym (some_differ shapes some differ));
      few = refused_few;
    }

pub within_product-requires : goal.within_product-requires
within_product-requires c = common_low _ _ _ c.requires c.common_extents-numbers.ensures

pub returns-then-not-within_product : goal.returns-then-not-within_product
unfolding number_of
returns-then-not-within_product c =
    let shapes : List (List ℕ) = shapes_at c.args.places.now.count c.args.places.now.at c.args.s.now in
    let some : none shapes ≡ false = none_listed c.requires.inside ∙ ne_eqb _ 0 c.if-places-eq0.false in
    let agreed : shapes_agree shapes ≡ true = sym c.shapes_agree.ensures ∙ not-false _ c.if-not-shapes_agree.false-raw in
    let within : c.within_product.result ≡ within_product (common_shape shapes) = let axes = c.longest-axes.ensures in
    common_within shapes axes.0 axes.1 c.common_extents-numbers.ensures c.within_product.ensures in
    let large = sym within ∙ not-true _ c.if-not-within_product.true-raw in
    record {
      is = tuple_refused MadeTooLarge (sym (common_large shapes some agreed large));
      few = refused_few;
    }

pub returns : goal.returns
returns c =
    let shapes : List (List ℕ) = shapes_at c.args.places.now.count c.args.places.now.at c.args.s.now in
    let some : none shapes ≡ false = none_listed c.requires.inside ∙ ne_eqb _ 0 c.if-places-eq0.false in
    let agreed : shapes_agree shapes ≡ true = sym c.shapes_agree.ensures ∙ not-false _ c.if-not-shapes_agree.false-raw in
    let within : c.within_product.result ≡ within_product (common_shape shapes) = let axes = c.longest-axes.ensures in
    common_within shapes axes.0 axes.1 c.common_extents-numbers.ensures c.within_product.ensures in
    let axes = c.longest-axes.ensures in
    let fits = sym within ∙ not-false _ c.if-not-within_product.false-raw in record {
      is = tuple_given _ (common_length shapes axes.0) c.common_extents-numbers.ensures (sym (common_fits shapes some agreed fits));
      few = given_few c.common_extents-numbers.result axes.1 (omega (arith, c.if-places-eq0.false));
    }
