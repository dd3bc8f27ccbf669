-- The common shape by value, and any shape or index by value. Assumes nothing.
use Rattle.std.specs.Prelude.{Err, Ok, Result}
use mathlib.Core.Path.{◌≡◌, sym, ap, ◌∙◌}
use mathlib.Core.Bool.{Bool}
use mathlib.Core.List.{List, map}
use Prim.Native.Nat.{ℕ, ◌<◌, ◌≤◌}
use native.Mathlib.Omega.{arith}
use lib.Dec.{eqb}
use lib.IntN.{ℤ}
use lib.ListN.{length, length-map}
use Rattle.rules.specs.declared.Refusal.{Refusal}
use Rattle.rules.specs.declared.Tuple.{Tuple}
use Rattle.rules.specs.Limits.{rank_limit}
use Rattle.rules.specs.Lists.{none, largest, fit_to}
use Rattle.rules.specs.Layout.{within_product}
use Rattle.rules.specs.Record.{shape_in}
use Rattle.rules.specs.Refusals.{Verdict, given, refused, in_form, number_of}
use Rattle.rules.specs.Shapes.{common_shape}
use Rattle.rules.specs.Endings.{tuple_of, TupleIs}
use Rattle.rules.proofs.Tests.{none_counted}
use Rattle.shapes.proofs.Fitting.{within_fit}
use Rattle.lists.specs.Places.{standing, Inside}
use Rattle.lists.specs.Asked.{shapes_at, RankFew}
use Rattle.lists.proofs.Beginning.{length_standing}
use Rattle.lists.proofs.Common.{length_common}

-- ---- a shape or an index

-- none: the call is refused
pub tuple_refused : {v : Verdict (List ℕ)} (why : Refusal) → refused (number_of why) ≡ v → TupleIs v (Err why)
tuple_refused why e = ap (in_form tuple_of) e

-- what was answered for a step is the answer where the call comes to that step
pub tuple_same : {v w : Verdict (List ℕ)} (r : Result Tuple Refusal) → TupleIs w r → w ≡ v → TupleIs v r
tuple_same r t e = rw e at t

-- the numbers, and how many there are
pub tuple_given : {v : Verdict (List ℕ)} {n : ℕ} {four : List ℕ} (l : List ℕ) → n ≡ length l → four ≡ fit_to rank_limit 0 l → given l ≡ v →
    TupleIs v (Ok (record { count = n; numbers = four }))
tuple_given l e f g = rw (← g) (ap given (λ i. record { count = e i; numbers = f i }))

-- ---- the common shape

module _ {n : ℕ} {places : List ℕ} {s : List ℤ} (p : Inside n places s) where
  -- there is nothing to broadcast if none is counted
  pub none_listed : none (shapes_at n places s) ≡ eqb n 0
  none_listed = none_counted (shapes_at n places s) ∙ rw (length-map (standing n places s) shape_in, length_standing p)

-- the limit holds of the common shape as it does of the four numbers
pub common_within : (shapes : List (List ℕ)) {n : ℕ} {four : List ℕ} {b : Bool} → n ≡ largest (map length shapes) → n ≤ 4 → four ≡ fit_to rank_limit 0 (common_shape shapes) →
    b ≡ within_product four → b ≡ within_product (common_shape shapes)
common_within shapes e h f g =
    g ∙ ap within_product f ∙ within_fit 4 (common_shape shapes) (rw (length_common shapes, ← e) h)

-- as many axes as the longest shape has
pub common_length : (shapes : List (List ℕ)) {n : ℕ} → n ≡ largest (map length shapes) → n ≡ length (common_shape shapes)
common_length shapes e = e ∙ sym (length_common shapes)

-- ---- its rank

-- none where it is refused
pub refused_few : {n : ℕ} {why : Refusal} → RankFew n (Err why)
refused_few t e = absurd (let z : ◌≡◌ {A = ℕ} 0 1 = cc e in omega arith)

-- at most 4 where it is given, of some shapes
pub given_few : {n m : ℕ} (four : List ℕ) → m ≤ 4 → 0 < n → RankFew n (Ok (record { count = m; numbers = four }))
given_few {m} four h some t e = let same : m ≡ t.count = cc e in (omega arith, some)
