-- Laws about how blocks are joined.
--     Told         what the record of a block says
--     Asks         what is asked of every block
--     Placed       the blocks at hand, one after the other
--     Measures     what is measured of all blocks
--     Runs         starts that run along a line
--     Shapes       the extents to which blocks are joined
--     Ways         the way in which blocks are joined
--     Joined       what `concatenate` makes of blocks, by that way
--     Given        the blocks of a call are the blocks at hand
--     Verdicts     the verdict on joined blocks, by the way in which they are joined
pub mod Told
pub mod Asks
pub mod Placed
pub mod Measures
pub mod Runs
pub mod Shapes
pub mod Ways
pub mod Joined
pub mod Given
pub mod Verdicts
