-- `next`: by the kinds of words.
use borrow.Author.Tests.{eq-eqb, ne_eqb}
use Rattle.text.specs.declared.Word.TheVariants.{Natural, Negative}
use Rattle.text.specs.Words.{grown_of, next_of}
use Rattle.text.proofs.Steps.{kept}
use Rattle.text.proofs.next.Goals as goal

pub returns-in-Nothing : goal.returns-in-Nothing
unfolding next_of
returns-in-Nothing c = rw (c.in-Nothing.is, eq-eqb c.args.byte 45 c.if-byte-eq45.true)

pub returns-in-Nothing-2 : goal.returns-in-Nothing-2
unfolding next_of
returns-in-Nothing-2 c =
    rw (c.in-Nothing.is, ne_eqb c.args.byte 45 c.if-byte-eq45.false) (kept Natural 2147483647 (grown_of 0 c.args.byte) c.grown.ensures c.map_or.ensures)

pub returns-in-Minus : goal.returns-in-Minus
unfolding next_of
returns-in-Minus c = rw c.in-Minus.is (kept Negative 2147483648 (grown_of 0 c.args.byte) c.grown-in-Minus.ensures c.map_or-in-Minus.ensures)

pub returns-in-Natural : goal.returns-in-Natural
unfolding next_of
returns-in-Natural c =
    rw c.in-Natural.is (kept Natural 2147483647 (grown_of c.in-Natural.value c.args.byte) c.grown-in-Natural.ensures c.map_or-in-Natural.ensures)

pub returns-in-Negative : goal.returns-in-Negative
unfolding next_of
returns-in-Negative c =
    rw c.in-Negative.is (kept Negative 2147483648 (grown_of c.in-Negative.value c.args.byte) c.grown-in-Negative.ensures c.map_or-in-Negative.ensures)

pub returns-in-Broken : goal.returns-in-Broken
unfolding next_of
returns-in-Broken c = rw c.in-Broken.is
