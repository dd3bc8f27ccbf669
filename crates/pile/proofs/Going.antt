-- `exchange_all`: the exchanges that are made so far, and the working buffer meanwhile. Assumes nothing.
use Rattle.std.specs.Prelude.{Err, Ok, Result, ⊤}
use mathlib.Core.Path.{◌≡◌, refl, sym, ap, ◌∙◌}
use mathlib.Core.Bool.{Bool, true, false, ◌||◌}
use mathlib.Core.List.{List, [], ◌∷◌}
use Prim.Native.Nat.{ℕ, zero, suc, ◌+◌, ◌*◌, ◌/◌, ◌%◌, ◌^◌, ◌<◌, ◌≤◌}
use native.Mathlib.Nat.{zero-add}
use native.Mathlib.Numerals.{add-one}
use native.Mathlib.Omega.{arith}
use borrow.Author.Tests.{lt-ltb, le-ltb, eq-eqb, ne_eqb}
use lib.Dec.{eqb}
use lib.IntN.{ℤ, pos}
use lib.ListN.{length, get_or, drop, drop_of_length-le}
use lib.Signed.{mag}
use lib.Seq.{drop-cons}
use Rattle.std.specs.Simd.{first_chunks}
use Rattle.rules.specs.declared.Refusal.{Refusal}
use Rattle.rules.specs.declared.Refusal.TheVariants.{ShortBuffer, WrongArgument}
use Rattle.rules.specs.Limits.{work_size}
use Rattle.rules.specs.Lists.{if}
use Rattle.rules.specs.Buffers.{over, zeros}
use Rattle.rules.specs.Refusals.{Verdict, given, refused, in_form, number_of, lowest}
use Rattle.rules.specs.Endings.{work_after}
use Rattle.rules.proofs.RecordPiles.{exchange_enough}
use Rattle.rules.proofs.Buffers.{length_zeros, put_front}
use Rattle.cells.proofs.Signed.{held, back}
use Rattle.tables.specs.Tables.{Only}
use Rattle.tables.proofs.Only.{only_same, only_then, only_put}
use Rattle.rules.specs.Pile.{Exchanges, given_or, one_more, exchange_call, exchanges_from, exchange_all_call, Exchanged, AllExchanged}
use Rattle.pile.proofs.Exchanging.{given_clear}

-- one of two
one_of : (b : Bool) {s : List ℤ} (t u : List ℤ) → Only 0 work_size s t → Only 0 work_size s u → Only 0 work_size s (if b t u)
one_of true t u p q = p
one_of false t u p q = q

-- ---- one exchange

-- a working buffer is cleared at its front alone
cleared_front : (n : ℕ) (work : List ℤ) → n ≤ length work → Only 0 n work (over (zeros n) work)
cleared_front n work h =
    let z = length_zeros n in
    rw (← put_front (zeros n) work) (rw (z, zero-add) at (only_put 0 (zeros n) work (omega arith)))

work_only : (v : Verdict (List ℤ)) (work : List ℤ) → work_size ≤ length work → Only 0 work_size work (work_after v work)
unfolding work_after
work_only (given numbers) work h = cleared_front work_size work h
work_only (refused n) work h = one_of (eqb n 1 || eqb n 2) work (over (zeros work_size) work) (only_same 0 work_size work) (cleared_front work_size work h)

-- an exchange that was made gives the pile
made_given : (v : Verdict (List ℤ)) (pile : List ℤ) {pile' : List ℤ} → ◌≡◌ {A = Verdict Unit} (given tt) (in_form (λ _. tt) v) → pile' ≡ given_or pile v → v ≡ given pile'
made_given (given new) pile e f = ap given (sym f)
made_given (refused n) pile e f = cc

-- one that was refused leaves it, and is not counted
refused_stays : (v : Verdict (List ℤ)) (pile : List ℤ) {n made : ℕ} {pile' : List ℤ} → ◌≡◌ {A = Verdict Unit} (refused n) (in_form (λ _. tt) v) → pile' ≡ given_or pile v →
    record { made = made; pile = pile' } ≡ one_more (record { made = made; pile = pile }) v
refused_stays (given new) pile e f = cc
refused_stays (refused n) pile e f = rw f

-- ---- all of them

-- two numbers of a list, and those behind them
pub two_there : (pairs : List ℤ) (at : ℕ) → at + 1 < length pairs → drop at pairs ≡ get_or pairs at (pos 0) ∷ get_or pairs (at + 1) (pos 0) ∷ drop (at + 2) pairs
two_there pairs at h =
    let e : suc (at + 1) ≡ at + 2 = omega arith in
    drop-cons pairs at (pos 0) (omega arith) ∙ ap (λ (n : ℕ). get_or pairs at (pos 0) ∷ drop n pairs) (sym (add-one at))
    ∙ ap (λ (l : List ℤ). get_or pairs at (pos 0) ∷ l) (drop-cons pairs (at + 1) (pos 0) h ∙ ap (λ (n : ℕ). get_or pairs (at + 1) (pos 0) ∷ drop n pairs) e)

-- the pairs that a list is cut into
cut_at : (n k : ℕ) (s : List ℤ) → k < n → n * 2 ≤ length s → get_or (first_chunks 2 n s) k [] ≡ get_or s (k * 2) (pos 0) ∷ get_or s (k * 2 + 1) (pos 0) ∷ []
cut_at zero k s h l = absurd (omega arith)
cut_at (suc n) k [] h l = absurd (omega arith)
cut_at (suc n) k (a ∷ []) h l = absurd (omega arith)
cut_at (suc n) zero (a ∷ b ∷ s) h l = refl
cut_at (suc n) (suc k) (a ∷ b ∷ s) h l =
    let second : suc k * 2 + 1 ≡ suc (suc (k * 2 + 1)) = omega arith in
    let first : suc k * 2 ≡ suc (suc (k * 2)) = omega arith in
    rw (second, first) (cut_at n k s (omega arith) (omega arith))

-- so many are made, up to a pair of the list
pub record Going (pile pairs work : List ℤ) (places : List (List ℤ)) (made k : ℕ) (pile' work' : List ℤ) : Type 0 where
  pub long : work_size ≤ length work
  pub even : length pairs % 2 ≡ 0
  pub half : length places ≡ length pairs / 2
  pub cut : places ≡ first_chunks 2 (length pairs / 2) pairs
  pub upto : k ≤ length places
  pub few : made ≤ k
  pub rest : exchanges_from (record { made = made; pile = pile' }) (drop (k * 2) pairs) ≡ exchanges_from (record { made = 0; pile = pile }) pairs
  pub size : length pile' ≡ length pile
  pub only : Only 0 work_size work work'

module _ {pile pairs work : List ℤ} {places : List (List ℤ)} {made k : ℕ} {pile' work' : List ℤ} (g : Going pile pairs work places made k pile' work') (h : k < length places) where
  abbrev first : ℤ
  first = get_or (get_or places k []) 0 (pos 0)

  abbrev second : ℤ
  second = get_or (get_or places k []) 1 (pos 0)

  -- the pair and those behind it
  pair_there : drop (k * 2) pairs ≡ first ∷ second ∷ drop (k * 2 + 2) pairs
  pair_there =
      let is : get_or places k [] ≡ get_or pairs (k * 2) (pos 0) ∷ get_or pairs (k * 2 + 1) (pos 0) ∷ [] = rw g.cut (cut_at (length pairs / 2) k pairs (omega (arith, g.half)) (omega arith)) in
      rw is (two_there pairs (k * 2) (omega (arith, g.half, g.even)))

  module _ (first_low : mag first < 2 ^ 31) (second_low : mag second < 2 ^ 31) {r : (Result ⊤ Refusal)} {pile'' work'' : List ℤ}
      (same : length pile'' ≡ length pile') (x : Exchanged (exchange_call pile' (held first) (held second) (length work')) pile' work' r pile'' work'') where
    -- as it is asked of a working buffer of full size
    abbrev v : Verdict (List ℤ)
    v = exchange_call pile' first second work_size

    work_long : work_size ≤ length work'
    work_long = omega (arith, g.only.size, g.long)

    asked : Exchanged v pile' work' r pile'' work''
    asked = rw (back first first_low, back second second_low, exchange_enough pile' first second (length work') (le-ltb (length work') work_size work_long)) at x

    next_only : Only 0 work_size work work''
    next_only = only_then g.only (rw asked.work_is (work_only v work' work_long))

    -- the rest of the list, behind this pair
    next_rest : {e : Exchanges} → e ≡ one_more (record { made = made; pile = pile' }) v →
        exchanges_from e (drop ((k + 1) * 2) pairs) ≡ exchanges_from (record { made = 0; pile = pile }) pairs
    unfolding exchanges_from
    next_rest f =
        let behind : (k + 1) * 2 ≡ k * 2 + 2 = omega arith in
        rw behind (ap (λ (e : Exchanges). exchanges_from e (drop (k * 2 + 2) pairs)) f ∙ (rw pair_there at g.rest))

    -- one more was made
    pub turn_made : r ≡ Ok tt → Going pile pairs work places (made + 1) (k + 1) pile'' work''
    turn_made e = record {
      long = g.long;
      even = g.even;
      half = g.half;
      cut = g.cut;
      upto = omega arith;
      few = omega (arith, g.few);
      rest = next_rest (rw (made_given v pile' (rw e at asked.answer) asked.pile_is, add-one));
      size = same ∙ g.size;
      only = next_only;
    }

    -- it was refused
    pub turn_refused : {why : Refusal} → r ≡ Err why → Going pile pairs work places made (k + 1) pile'' work''
    turn_refused e = record {
      long = g.long;
      even = g.even;
      half = g.half;
      cut = g.cut;
      upto = omega arith;
      few = omega (arith, g.few);
      rest = next_rest (refused_stays v pile' (rw e at asked.answer) asked.pile_is);
      size = same ∙ g.size;
      only = next_only;
    }

-- ---- how the call ends

module _ (pile pairs work : List ℤ) where
  -- 2: nothing is touched
  pub all_short : length work < work_size → AllExchanged (exchange_all_call pile pairs (length work)) pile work (Err ShortBuffer) pile work
  unfolding exchange_all_call lowest number_of work_after
  all_short h = rw (lt-ltb (length work) work_size h) (record { answer = refl; pile_is = refl; work_is = refl })

  -- 5: an odd count of numbers
  pub all_odd : {work' : List ℤ} → work_size ≤ length work → length pairs % 2 ≡ 1 → work' ≡ over (zeros work_size) work →
      AllExchanged (exchange_all_call pile pairs (length work)) pile work (Err WrongArgument) pile work'
  unfolding exchange_all_call lowest number_of work_after
  all_odd h e w = rw (le-ltb (length work) work_size h, eq-eqb (length pairs % 2) 1 e) (record { answer = refl; pile_is = refl; work_is = w })

  -- all pairs are passed
  pub all_passed : {places : List (List ℤ)} {made k : ℕ} {pile' now work' : List ℤ} → Going pile pairs work places made k pile' now → length places ≤ k → work' ≡ over (zeros work_size) now →
      AllExchanged (exchange_all_call pile pairs (length work)) pile work (Ok made) pile' work'
  unfolding exchange_all_call lowest work_after exchanges_from
  all_passed {made = made} {k = k} {pile' = pile'} g h w =
      let is : record { made = made; pile = pile' } ≡ exchanges_from (record { made = 0; pile = pile }) pairs = rw (drop_of_length-le pairs {i = k * 2} (omega (arith, g.half, g.even))) at g.rest in
      rw (le-ltb (length work) work_size g.long, ne_eqb (length pairs % 2) 1 (λ e. omega (arith, g.even)), ← is) (record { answer = refl; pile_is = refl; work_is = given_clear g.only w })
