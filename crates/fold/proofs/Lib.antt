-- The laws that the proofs of fold share.
--     Bringing     judged records: whether each may be stretched, and that it is brought as the rule says
--     Agreed       their common shape
--     Comparing    whether two layouts of a window are the same
--     Folds        the folds of a list, from the last
--     Carrying     what is folded becomes the left layout of a window
--     Steps        one fold after the other in a window
--     Ended        what a folded layout becomes in its part
--     Whole        a whole broadcast
pub mod Bringing
pub mod Agreed
pub mod Comparing
pub mod Folds
pub mod Carrying
pub mod Steps
pub mod Ended
pub mod Whole
