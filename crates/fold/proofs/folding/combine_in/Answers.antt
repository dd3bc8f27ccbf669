-- `combine_in`: by the rule.
use Rattle.std.proofs.Common.{inl, inr}
use Rattle.intersecting.proofs.Intersected.{rising}
use Rattle.fold.proofs.Steps.{combined_as, unites, multiplies, divides}
use Rattle.fold.proofs.folding.combine_in.Goals as goal

pub union_in-requires : goal.union_in-requires
union_in-requires c = let o = c.requires in record {
  window = o.window;
  rising = λ _. rising o;
}

pub returns-in-Unite : goal.returns-in-Unite
returns-in-Unite c = combined_as _ (unites _ _ c.in-Unite.is) c.union_in.ensures

pub returns-in-Multiply : goal.returns-in-Multiply
returns-in-Multiply c =
    elim c.in-Multiply.is [
      | inl e ↦ combined_as _ (multiplies _ _ e) c.intersect_in.ensures
      | inr e ↦ combined_as _ (divides _ _ e) c.intersect_in.ensures
    ]
