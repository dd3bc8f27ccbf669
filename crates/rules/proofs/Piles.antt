-- A pile under any exchanges, of which refused ones are not made: what stays, and what each of its layouts counts. Assumes nothing.
use mathlib.Core.Path.{◌≡◌, refl, ◌∙◌}
use mathlib.Core.Bool.{true, false}
use mathlib.Core.List.{List, [], ◌∷◌, ◌++◌}
use Prim.Native.Nat.{ℕ, ◌<◌}
use native.Mathlib.Omega.{arith}
use lib.IntN.{ℤ}
use lib.ListN.{length}
use Rattle.rules.specs.Lists.{all}
use Rattle.rules.specs.Refusals.{Verdict, given, refused}
use Rattle.rules.specs.Layout.{Layout}
use Rattle.rules.specs.Endings.{found}
use Rattle.rules.specs.Lookup.{read_index, lookup}
use Rattle.rules.specs.CountsAndForms.{nnz}
use Rattle.rules.specs.Holding.{holds, held_positions, held_before}
use Rattle.rules.specs.Pile.{are_two_places, belongs, layout_of, exchange, given_or, Exchange, exchanged, finds}
use Rattle.rules.proofs.Finding.{read_inside}
use Rattle.rules.proofs.Holding.{Position}
use Rattle.rules.proofs.Piled.{Piled, piled_nnz, piled_finds, piled_before}
use Rattle.rules.proofs.PiledPairs.{overfull}
use Rattle.rules.proofs.ExchangeMade.{at_place}
use Rattle.rules.proofs.ExchangeKeeps.{ExchangedAt, Keeps, piled_at, exchange_holds, exchange_keeps, exchange_fits, exchange_over}

-- ---- any exchanges

-- a pile to which nothing was done keeps all
keeps_same : {shape : List ℕ} (pile : List Layout) → all (belongs shape) pile ≡ true → Keeps shape pile pile
keeps_same pile p = record { belong = p; as_many = refl; how_many_hold = λ _ _. refl; total = refl }

-- what stays twice stays
keeps_both : {shape : List ℕ} {a b c : List Layout} → Keeps shape a b → Keeps shape b c → Keeps shape a c
keeps_both p q = record {
  belong = q.belong;
  as_many = q.as_many ∙ p.as_many;
  how_many_hold = λ r n. q.how_many_hold r n ∙ p.how_many_hold r n;
  total = q.total ∙ p.total;
}

-- a pile keeps its counts under any exchanges
pub pile_keeps : {shape : List ℕ} (moves : List Exchange) (pile : List Layout) → all (belongs shape) pile ≡ true → Keeps shape pile (exchanged moves pile)
unfolding exchanged
pile_keeps [] pile p = keeps_same pile p
pile_keeps {shape} (x ∷ rest) pile p =
    let step = one (exchange x.first x.second pile) refl in
    keeps_both step (pile_keeps rest (given_or pile (exchange x.first x.second pile)) step.belong)
  where
    one : (v : Verdict (List Layout)) → exchange x.first x.second pile ≡ v → Keeps shape pile (given_or pile v)
    one (given new) e = exchange_keeps shape x.first x.second pile p e
    one (refused n) e = keeps_same pile p

-- exchanges and others after them are all tried
pub exchanged_append : (a b : List Exchange) (pile : List Layout) → exchanged (a ++ b) pile ≡ exchanged b (exchanged a pile)
unfolding exchanged
exchanged_append [] b pile = refl
exchanged_append (x ∷ a) b pile = exchanged_append a b (given_or pile (exchange x.first x.second pile))

-- ---- each layout of a pile

-- a position is found exactly if it is held, and any index as it is read; `nnz` is how many are held; a place is how many before
pub record Counted (shape : List ℕ) (l : Layout) : Type 0 where
  pub found_is : (q : List ℕ) → Position shape q → finds q l ≡ holds l q
  pub found_read : (q : List ℕ) → length q ≡ length shape → finds q l ≡ holds l (read_index q shape)
  pub nnz_is : nnz l ≡ length (held_positions l)
  pub place_is : (q : List ℕ) → Position shape q → {place : ℕ} → lookup l q ≡ found place → place ≡ held_before l q
  pub place_read : (q : List ℕ) → length q ≡ length shape → {place : ℕ} → lookup l q ≡ found place → place ≡ held_before l (read_index q shape)

-- each layout of a pile counts so
pub piled_counted : {shape : List ℕ} {l : Layout} → Piled shape l → Counted shape l
piled_counted {shape} {l} p = record {
  found_is = λ q n. piled_finds p q n.size ∙ (rw (read_inside q shape n.inside));
  found_read = λ q n. piled_finds p q n;
  nnz_is = piled_nnz p;
  place_is = λ q n e. piled_before p q n.size e ∙ (rw (read_inside q shape n.inside));
  place_read = λ q n e. piled_before p q n e;
}

-- ---- the whole

-- after any exchanges the counts of a pile are as at the start, and each layout counts what it holds; one more exchange at two
-- places does what it should, and is made, unless both are sparse and their rows together are more than 128: then it is 13
pub record Stays (shape : List ℕ) (pile : List Layout) : Type 0 where
  pub keeps : (moves : List Exchange) → Keeps shape pile (exchanged moves pile)
  pub counted : (moves : List Exchange) (k : ℕ) → k < length pile → Counted shape (layout_of (exchanged moves pile) k)
  pub next : (moves : List Exchange) (first second : ℤ) {new : List Layout} → exchange first second (exchanged moves pile) ≡ given new →
      ExchangedAt first second (exchanged moves pile) new
  pub fits : (moves : List Exchange) (first second : ℤ) → are_two_places first second (length pile) ≡ true →
      overfull (at_place (exchanged moves pile) first) (at_place (exchanged moves pile) second) ≡ false →
      (new : List Layout) × (exchange first second (exchanged moves pile) ≡ given new)
  pub over : (moves : List Exchange) (first second : ℤ) → are_two_places first second (length pile) ≡ true →
      overfull (at_place (exchanged moves pile) first) (at_place (exchanged moves pile) second) ≡ true →
      exchange first second (exchanged moves pile) ≡ refused 13

-- a pile stays so
pub pile_stays : (shape : List ℕ) (pile : List Layout) → all (belongs shape) pile ≡ true → Stays shape pile
pile_stays shape pile p = record {
  keeps = after;
  counted = λ moves k h. piled_counted (piled_at (exchanged moves pile) (after moves).belong k (omega (arith, (after moves).as_many)));
  next = λ moves first second e. exchange_holds shape first second (exchanged moves pile) (after moves).belong e;
  fits = λ moves first second t f. exchange_fits shape first second (exchanged moves pile) (after moves).belong (rw (after moves).as_many t) f;
  over = λ moves first second t f. exchange_over shape first second (exchanged moves pile) (after moves).belong (rw (after moves).as_many t) f;
}
  where
    after : (moves : List Exchange) → Keeps shape pile (exchanged moves pile)
    after moves = pile_keeps moves pile p
