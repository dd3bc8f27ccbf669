-- `number_of`: the table of numbers, reason by reason.
use Rattle.rules.specs.Refusals.{number_of}
use Rattle.layout.proofs.refusals.number_of.Goals as goal

pub returns-in-OverCount : goal.returns-in-OverCount
unfolding number_of
returns-in-OverCount c = rw c.in-OverCount.is

pub returns-in-ShortBuffer : goal.returns-in-ShortBuffer
unfolding number_of
returns-in-ShortBuffer c = rw c.in-ShortBuffer.is

pub returns-in-Unsound : goal.returns-in-Unsound
unfolding number_of
returns-in-Unsound c = rw c.in-Unsound.is

pub returns-in-Unordered : goal.returns-in-Unordered
unfolding number_of
returns-in-Unordered c = rw c.in-Unordered.is

pub returns-in-WrongArgument : goal.returns-in-WrongArgument
unfolding number_of
returns-in-WrongArgument c = rw c.in-WrongArgument.is

pub returns-in-ShapesDisagree : goal.returns-in-ShapesDisagree
unfolding number_of
returns-in-ShapesDisagree c = rw c.in-ShapesDisagree.is

pub returns-in-ScalarContracted : goal.returns-in-ScalarContracted
unfolding number_of
returns-in-ScalarContracted c = rw c.in-ScalarContracted.is

pub returns-in-NoPermutation : goal.returns-in-NoPermutation
unfolding number_of
returns-in-NoPermutation c = rw c.in-NoPermutation.is

pub returns-in-SparseDivisor : goal.returns-in-SparseDivisor
unfolding number_of
returns-in-SparseDivisor c = rw c.in-SparseDivisor.is

pub returns-in-Unjoinable : goal.returns-in-Unjoinable
unfolding number_of
returns-in-Unjoinable c = rw c.in-Unjoinable.is

pub returns-in-DenseAxes : goal.returns-in-DenseAxes
unfolding number_of
returns-in-DenseAxes c = rw c.in-DenseAxes.is

pub returns-in-MadeUnsound : goal.returns-in-MadeUnsound
unfolding number_of
returns-in-MadeUnsound c = rw c.in-MadeUnsound.is

pub returns-in-MadeTooLarge : goal.returns-in-MadeTooLarge
unfolding number_of
returns-in-MadeTooLarge c = rw c.in-MadeTooLarge.is
