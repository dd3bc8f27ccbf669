-- `contract_into`: the front, then the dependencies, make the contracted layout.
use native.Mathlib.Omega.{arith}
use Rattle.reshape.proofs.Contracting.{few_axes, has_axis, scalar_says, contracted_says}
use Rattle.reshape.proofs.contract.contract_into.Goals as goal

pub returns-then-head-eq0 : goal.returns-then-head-eq0
returns-then-head-eq0 c = scalar_says c.requires.sound_record c.if-head-eq0.true

pub shorter_places-places-requires : goal.shorter_places-places-requires
shorter_places-places-requires c = let few = few_axes c.requires.sound_record c.if-head-eq0.false in
    omega arith

pub pick_deps-requires : goal.pick_deps-requires
pick_deps-requires c = let few = few_axes c.requires.sound_record c.if-head-eq0.false in record {
  sound_record = c.requires.sound_record;
  w_bound = (omega arith, omega (arith, c.requires.part_size_in_bounds, c.sum_front.ensures.only.size));
}

pub returns : goal.returns
returns c = contracted_says (has_axis c.requires.sound_record c.if-head-eq0.false c.requires.part_size_in_bounds) c.sum_front.ensures c.shorter_places-places.ensures c.pick_deps.ensures
