-- The common shape of shapes, by plain cases. Assumes nothing.
use mathlib.Core.Path.{◌≡◌}
use mathlib.Core.Bool.{true, false}
use mathlib.Core.List.{List}
use Prim.Native.Nat.{ℕ}
use Rattle.rules.specs.Lists.{none}
use Rattle.rules.specs.Layout.{within_product}
use Rattle.rules.specs.Refusals.{given, refused, lowest}
use Rattle.rules.specs.Shapes.{shapes_agree, common_shape, broadcast_shapes}

module _ (shapes : List (List ℕ)) where
  -- 6 of no shapes
  pub none_agree : none shapes ≡ true → broadcast_shapes shapes ≡ refused 6
  unfolding broadcast_shapes lowest
  none_agree e = rw e

  module _ (some : none shapes ≡ false) where
    -- 6 where they do not agree
    pub some_differ : shapes_agree shapes ≡ false → broadcast_shapes shapes ≡ refused 6
    unfolding broadcast_shapes lowest
    some_differ e = rw (some, e)

    module _ (agree : shapes_agree shapes ≡ true) where
      -- 13 where the common shape passes the limit
      pub common_large : within_product (common_shape shapes) ≡ false → broadcast_shapes shapes ≡ refused 13
      unfolding broadcast_shapes lowest
      common_large e = rw (some, agree, e)

      -- the common shape otherwise
      pub common_fits : within_product (common_shape shapes) ≡ true → broadcast_shapes shapes ≡ given (common_shape shapes)
      unfolding broadcast_shapes lowest
      common_fits e = rw (some, agree, e)
