-- `common_shape`: what is answered for the shapes is answered for the records.
use Rattle.lists.proofs.ByValue.{tuple_same}
use Rattle.fold.proofs.Agreed.{shapes_judged, shapes_are}
use Rattle.fold.proofs.agreeing.common_shape.Goals as goal

pub agreed_shape-requires : goal.agreed_shape-requires
agreed_shape-requires c = shapes_judged c.requires c.moved-shapes.ensures.is c.moved-shapes.ensures.count

pub returns : goal.returns
returns c = let told = c.agreed_shape.ensures in record {
  is = tuple_same _ told.is (shapes_are c.requires c.moved-shapes.ensures.is c.moved-shapes.ensures.count);
  few = rw c.moved-shapes.ensures.count at told.few;
}
