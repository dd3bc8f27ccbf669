-- An array by value that is filled entry by entry. Assumes nothing.
use mathlib.Core.Path.{◌≡◌, refl, sym, ap, ◌∙◌}
use mathlib.Core.Bool.{Bool, true, false}
use mathlib.Core.List.{List, [], ◌∷◌, ◌++◌, map}
use Prim.Native.Nat.{ℕ, zero, suc, ◌+◌, ◌<◌, ◌≤◌}
use native.Mathlib.Nat.{zero-add}
use native.Mathlib.Omega.{arith}
use borrow.Author.Tests.{ltb-true, ltb-false}
use borrow.Author.Count.{below_none, below_more}
use lib.Dec.{ltb}
use lib.ListN.{length, get_or, set, replicate, length-map, length-replicate, length-set, get_or-eq_default}
use lib.Seq.{get_or-set_same, get_or-set_other, get_or-take, ext_get_or}
use Rattle.rules.specs.Lists.{below, fit_to}
use Rattle.rules.proofs.Ranges.{from_length, from_at, map_at}
use Rattle.rules.proofs.Replaced.{fit_length}

-- the first i of n entries are right, the others are still empty
pub record Entered {A : Type 0} (right : ℕ → A → Type 0) (n : ℕ) (empty : A) (i : ℕ) (out : List A) : Type 0 where
  pub size : length out ≡ n
  pub done : (j : ℕ) → j < i → right j (get_or out j empty)
  pub rest : (j : ℕ) → i ≤ j → get_or out j empty ≡ empty

-- an entry of n that are all the same, and of none
pub same_entry : {A : Type 0} (n j : ℕ) (a : A) → get_or (replicate n a) j a ≡ a
same_entry zero j a = refl
same_entry (suc n) zero a = refl
same_entry (suc n) (suc j) a = same_entry n j a

module _ {A : Type 0} {right : ℕ → A → Type 0} {n : ℕ} {empty : A} where
  pub entered_none : Entered right n empty 0 (replicate n empty)
  entered_none = record {
    size = length-replicate n empty;
    done = below_none (λ j. right j (get_or (replicate n empty) j empty));
    rest = λ j h. same_entry n j empty;
  }

  pub entered_more : {i : ℕ} {out : List A} {v : A} → Entered right n empty i out → i < n → right i v →
      Entered right n empty (i + 1) (set out i v)
  entered_more {i} {out} {v} p h r =
      let inside : i < length out = omega arith in
      record {
        size = length-set out i v ∙ p.size;
        done = below_more (λ j. right j (get_or (set out i v) j empty)) i
            (λ j l. rw (get_or-set_other out i j v empty (λ e. omega arith)) (p.done j l))
            (rw (get_or-set_same out i v empty inside) r);
        rest = λ j l. get_or-set_other out i j v empty (λ e. omega arith) ∙ p.rest j (omega arith);
      }

-- ---- four numbers

-- zeros behind a list are what is read past its end
fit_at : (n : ℕ) (l : List ℕ) (k : ℕ) → k < n → get_or (fit_to n 0 l) k 0 ≡ get_or l k 0
unfolding fit_to
fit_at n l k h = get_or-take n (l ++ replicate n 0) k 0 h ∙ behind l k
  where
    behind : (m : List ℕ) (j : ℕ) → get_or (m ++ replicate n 0) j 0 ≡ get_or m j 0
    behind [] j = same_entry n j 0
    behind (x ∷ m) zero = refl
    behind (x ∷ m) (suc j) = behind m j

-- the first k of n numbers, each as f gives it, stand in an array of four
pub record Filled (f : ℕ → ℕ) (n k : ℕ) (out : List ℕ) : Type 0 where
  pub upto : k ≤ n
  pub room : n ≤ 4
  pub entered : Entered (λ j v. v ≡ f j) 4 0 k out

module _ {f : ℕ → ℕ} {n : ℕ} where
  pub filled_start : n ≤ 4 → Filled f n 0 (replicate 4 0)
  filled_start h = record { upto = omega arith; room = h; entered = entered_none }

  module _ {k : ℕ} {out : List ℕ} (p : Filled f n k out) where
    pub filled_turn : {v : ℕ} → k < n → v ≡ f k → Filled f n (k + 1) (set out k v)
    filled_turn h e = record { upto = omega arith; room = p.room; entered = entered_more p.entered (omega (arith, p.room)) e }

    -- behind them stand zeros
    pub filled_done : n ≤ k → out ≡ fit_to 4 0 (map f (below n))
    filled_done h = ext_get_or 0 out (fit_to 4 0 (map f (below n))) (p.entered.size ∙ sym (fit_length 4 0 (map f (below n)))) (λ j i. by j (omega (arith, p.entered.size)) (ltb j n) refl)
      where
        by : (j : ℕ) → j < 4 → (t : Bool) → ltb j n ≡ t → get_or out j 0 ≡ get_or (fit_to 4 0 (map f (below n))) j 0
        by j i true e =
            let inside : j < n = ltb-true j n e in
            let there : get_or (map f (below n)) j 0 ≡ f j =
            map_at f (below n) j 0 0 (rw from_length inside) ∙ ap f (from_at 0 n j 0 inside ∙ zero-add j) in
            p.entered.done j (omega arith) ∙ sym (fit_at 4 (map f (below n)) j i ∙ there)
        by j i false e =
            let past : n ≤ j = ltb-false j n e in
            let short : length (map f (below n)) ≤ j = rw (length-map, from_length) past in
            p.entered.rest j (omega (arith, p.upto)) ∙ sym (fit_at 4 (map f (below n)) j i ∙ get_or-eq_default (map f (below n)) 0 short)

pub ruleset filled_laws = (filled_start, filled_turn, filled_done)
