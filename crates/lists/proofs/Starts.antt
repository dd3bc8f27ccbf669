-- The flag of a block, and where blocks start, gathered one after the other. Assumes nothing.
use mathlib.Core.Path.{◌≡◌, refl, sym, ◌∙◌}
use mathlib.Core.Bool.{Bool, true, false}
use mathlib.Core.List.{List, [], ◌∷◌, map}
use Prim.Native.Nat.{ℕ, zero, suc, ◌+◌, ◌-◌, ◌<◌, ◌≤◌}
use native.Mathlib.Omega.{arith}
use borrow.Author.Tests.{leb-true, ltb-true, ltb-false}
use lib.Dec.{eqb, leb, ltb}
use lib.IntN.{ℤ, pos, negsuc}
use lib.ListN.{length, get_or, take, drop, set, replicate, length-map, length-take, get_or-eq_default}
use lib.Seq.{take-nil, get_or-take, ext_get_or}
use Rattle.rules.specs.Lists.{all}
use Rattle.rules.specs.Record.{natural, naturals, RawBlock, block_at}
use Rattle.rules.specs.Arguments.{up_to, good_end, good_flag}
use Rattle.rules.specs.Concatenate.{good_block, block_of}
use Rattle.rules.proofs.Same.{both_true}
use Rattle.records.proofs.Sections.{other_default}
use Rattle.shapes.proofs.Reading.{natural_get_or}
use Rattle.lists.specs.Places.{standing, Inside}
use Rattle.lists.specs.Starts.{blocks_at, starts_in, StartOf, StartsOf}
use Rattle.lists.proofs.Entering.{Entered, same_entry, entered_none, entered_more, Filled, filled_start, filled_turn}
use Rattle.lists.proofs.Beginning.{length_standing, lent_at, place_inside, place_fits}

-- ---- the flag

-- the flag of a block stands behind its start
pub flag_read : (rank : ℕ) (s : List ℤ) {n : ℕ} → n ≡ natural (get_or s rank (pos 0)) → eqb n 1 ≡ (block_of (block_at rank s)).zero
unfolding block_of block_at
flag_read rank s e = rw e

-- ---- one start

-- the numbers of a start stand in its array
pub start_done : (rank : ℕ) (s : List ℤ) {k : ℕ} {out : List ℕ} → Filled (λ j. natural (get_or s j (pos 0))) rank k out → rank ≤ k →
    StartOf (naturals (block_at rank s).start) out
unfolding block_at
start_done rank s {out = out} p h = record { size = p.entered.size; numbers = λ j. by j (ltb j rank) refl }
  where
    by : (j : ℕ) (t : Bool) → ltb j rank ≡ t → get_or out j 0 ≡ get_or (naturals (take rank s)) j 0
    by j true e =
        let l : j < rank = ltb-true j rank e in
        p.entered.done j (omega arith) ∙ rw (natural_get_or (take rank s) j, get_or-take rank s j (pos 0) l)
    by j false e =
        let l : rank ≤ j = ltb-false j rank e in
        let short : length (naturals (take rank s)) ≤ j = rw (length-map, length-take) (omega arith) in
        p.entered.rest j (omega arith) ∙ sym (get_or-eq_default (naturals (take rank s)) 0 short)

pub ruleset start_laws = (filled_start, filled_turn, start_done)

-- ---- all of them

-- the start of a block is read at the slice at which the block begins
starts_at : (rank b : ℕ) (l : List (List ℤ)) →
    get_or (starts_in (map (block_at rank) l)) b [] ≡ naturals (block_at rank (get_or l b [])).start
unfolding block_at
starts_at rank b [] = rw take-nil
starts_at rank zero (x ∷ l) = refl
starts_at rank (suc b) (x ∷ l) = starts_at rank b l

-- four zeros are a start of no numbers
no_start : StartOf [] (replicate 4 0)
no_start = record { size = refl; numbers = λ k. same_entry 4 k 0 }

-- the numbers of good starts are small
ends_low : (l : List ℤ) → all good_end l ≡ true → (k : ℕ) → get_or (naturals l) k 0 ≤ 65536
unfolding all up_to natural
ends_low [] e k = omega arith
ends_low (pos n ∷ l) e zero = leb-true n 65536 (both_true (leb n 65536) (all good_end l) e).0
ends_low (negsuc n ∷ l) e zero = omega arith
ends_low (z ∷ l) e (suc k) = ends_low l (both_true (good_end z) (all good_end l) e).1 k

starts_low : (blocks : List RawBlock) → all good_block blocks ≡ true → (b k : ℕ) → get_or (get_or (starts_in blocks) b []) k 0 ≤ 65536
unfolding all
starts_low [] e b k = omega arith
starts_low (x ∷ l) e zero k =
    ends_low x.start (both_true (all good_end x.start) (good_flag x.flag) (both_true (good_block x) (all good_block l) e).0).0 k
starts_low (x ∷ l) e (suc b) k = starts_low l (both_true (good_block x) (all good_block l) e).1 b k

-- the starts of the first b of n blocks are known
pub record StartsTo (rank n : ℕ) (places : List ℕ) (s : List ℤ) (b : ℕ) (out : List (List ℕ)) : Type 0 where
  pub inside : Inside n places s
  pub upto : b ≤ n
  pub narrow : rank ≤ 4
  pub entered : Entered (λ j v. StartOf (get_or (starts_in (blocks_at rank n places s)) j []) v) 16 (replicate 4 0) b out

module _ {rank n : ℕ} {places : List ℕ} {s : List ℤ} where
  pub starts_none : Inside n places s → rank ≤ 4 → StartsTo rank n places s 0 (replicate 16 (replicate 4 0))
  starts_none h k = record { inside = h; upto = omega arith; narrow = k; entered = entered_none }

  module _ {b : ℕ} {out : List (List ℕ)} (p : StartsTo rank n places s b out) where
    pub starts_more : {v : List ℕ} → b < n → StartOf (naturals (block_at rank (take (length s - get_or places b 0) (drop (get_or places b 0) s))).start) v →
        StartsTo rank n places s (b + 1) (set out b v)
    starts_more {v} h f = record {
      inside = p.inside;
      upto = omega arith;
      narrow = p.narrow;
      entered = entered_more p.entered (omega (arith, p.inside.few))
          (rw (starts_at rank b (standing n places s), ← lent_at p.inside h) f);
    }

    -- behind the last block there is none
    behind_last : (j : ℕ) → n ≤ j → get_or (starts_in (blocks_at rank n places s)) j [] ≡ []
    behind_last j h =
        get_or-eq_default (starts_in (blocks_at rank n places s)) [] (simp length-map (rw (length_standing p.inside) h))

    -- entry j is the start of block j, or zeros where there is no such block
    each : n ≤ b → (j : ℕ) → j < 16 → StartOf (get_or (starts_in (blocks_at rank n places s)) j []) (get_or out j [])
    each h j l = rw (other_default out j [] (replicate 4 0) (omega arith)) (by (ltb j n) refl)
      where
        by : (t : Bool) → ltb j n ≡ t → StartOf (get_or (starts_in (blocks_at rank n places s)) j []) (get_or out j (replicate 4 0))
        by true f = p.entered.done j (omega (arith, ltb-true j n f))
        by false f =
            let past = ltb-false j n f in
            rw (behind_last j past, p.entered.rest j (omega arith)) no_start

    pub starts_done : n ≤ b → all good_block (blocks_at rank n places s) ≡ true → StartsOf (starts_in (blocks_at rank n places s)) out
    starts_done h e = record { size = p.entered.size; each = each h; low = λ j k. by j k (ltb j 16) refl }
      where
        by : (j k : ℕ) (t : Bool) → ltb j 16 ≡ t → get_or (get_or out j []) k 0 ≤ 65536
        by j k true f = rw ((each h j (ltb-true j 16 f)).numbers k) (starts_low (blocks_at rank n places s) e j k)
        by j k false f = let past = ltb-false j 16 f in rw (get_or-eq_default out [] {n = j} (omega arith)) (omega arith)

pub ruleset starts_laws = (starts_none, starts_more, starts_done, place_inside, place_fits)

-- ---- the starts are determined

start_determined : {start p q : List ℕ} → StartOf start p → StartOf start q → p ≡ q
start_determined {p = p} {q = q} x y = ext_get_or 0 p q (x.size ∙ sym y.size) (λ k h. x.numbers k ∙ sym (y.numbers k))

pub starts_determined : {starts p q : List (List ℕ)} → StartsOf starts p → StartsOf starts q → p ≡ q
starts_determined {p = p} {q = q} x y =
    ext_get_or [] p q (x.size ∙ sym y.size) (λ b h. start_determined (x.each b (omega arith)) (y.each b (omega arith)))
