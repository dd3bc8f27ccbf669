-- Rows that are put into a table one list after the other, until one is too many. Assumes nothing.
use mathlib.Core.Path.{◌≡◌, sym, ap, ◌∙◌}
use mathlib.Core.Bool.{Bool, true, false}
use mathlib.Core.List.{List, [], ◌∷◌, ◌++◌, append_assoc, append-nil}
use Prim.Native.Nat.{ℕ, zero, suc, ◌+◌, ◌-◌, ◌<◌, ◌≤◌}
use native.Mathlib.Nat.{add-zero, add-suc, suc-add, zero-add}
use native.Mathlib.Omega.{arith}
use lib.IntN.{ℤ}
use Rattle.rules.specs.Lists.{gather, from}
use Rattle.rules.proofs.Gathering.{gather_append}
use Rattle.tables.specs.Tables.{Taken}
use Rattle.tables.proofs.Taking.{taken_then, taken_stop}
use Rattle.stretch.specs.Tables.{in_turn}

-- ---- numbers one after the other

-- the numbers from a on, m and then n of them
from_append : (a m n : ℕ) → from a (m + n) ≡ from a m ++ from (a + m) n
unfolding from
from_append a zero n = rw (add-zero, zero-add)
from_append a (suc m) n = rw (suc-add, add-suc, ← suc-add) (ap (λ (l : List ℕ). a ∷ l) (from_append (suc a) m n))

-- one number more
pub from_more : (a k : ℕ) → from a (k + 1) ≡ from a k ++ ((a + k) ∷ [])
unfolding from
from_more a k = from_append a k 1

module _ (f : ℕ → List (List ℕ)) where
  -- what is given for one number more
  pub turn_more : (k : ℕ) → in_turn f (k + 1) ≡ in_turn f k ++ f k
  unfolding gather from
  turn_more k = rw (from_append 0 k 1, gather_append, zero-add, append-nil)

  -- and for all others
  pub turn_rest : (k n : ℕ) → k ≤ n → in_turn f n ≡ in_turn f k ++ gather f (from k (n - k))
  turn_rest k n h =
      let e : k + (n - k) ≡ n = omega arith in
      sym (ap (in_turn f) e) ∙ rw (from_append 0 k (n - k), gather_append f (from 0 k) (from (0 + k) (n - k)), zero-add)

-- ---- rows that are put

module _ {to w : ℕ} (xs : List (List ℕ)) (f : ℕ → List (List ℕ)) {k : ℕ} {s t : List ℤ} (p : Taken to w (xs ++ in_turn f k) s t true) {u : List ℤ} {r : Bool} (q : Taken to w (f k) t u r) where
  taken_more : Taken to w (xs ++ in_turn f (k + 1)) s u r
  taken_more = rw (turn_more f k, ← append_assoc) (taken_then p q)

  -- the next ones
  pub taken_turn : r ≡ true → Taken to w (xs ++ in_turn f (k + 1)) s u true
  taken_turn e = rw e at taken_more

  -- the next ones are too many
  pub taken_halt : (n : ℕ) → k < n → r ≡ false → Taken to w (xs ++ in_turn f n) s u false
  taken_halt n h e = rw (turn_rest f (k + 1) n (omega arith), ← append_assoc) (taken_stop (gather f (from (k + 1) (n - (k + 1)))) (rw e at taken_more))
