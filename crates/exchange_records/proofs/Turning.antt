-- Exchanges one after the other, each with its line. Assumes nothing.
use Rattle.std.specs.Prelude.{Err, Ok, Result, ⊤}
use mathlib.Core.Path.{◌≡◌, refl, sym, ◌∙◌}
use mathlib.Core.List.{List, [], ◌++◌, append_assoc}
use Prim.Native.Nat.{ℕ, ◌+◌, ◌*◌, ◌-◌, ◌%◌, ◌^◌, ◌<◌, ◌≤◌}
use native.Mathlib.Omega.{arith}
use lib.IntN.{ℤ, pos}
use lib.ListN.{length, get_or, take, drop, length-append, length-take, length-drop, drop_of_length-le}
use lib.Seq.{length-take-le}
use lib.Signed.{mag}
use Rattle.rules.specs.declared.Refusal.{Refusal}
use Rattle.rules.specs.Limits.{work_size}
use Rattle.rules.specs.Endings.{says}
use Rattle.rules.specs.Refusals.{Verdict, given, refused, in_form, number_of}
use Rattle.cells.proofs.Signed.{held, back}
use Rattle.rules.specs.Pile.{given_or, exchange_call, Exchanged}
use Rattle.pile.proofs.Going.{two_there}
use Rattle.record_text.specs.Lines.{refused_text}
use Rattle.record_text.specs.Fronts.{Front}
use Rattle.exchange_records.specs.Piles.{pile_text}
use Rattle.exchange_records.specs.Exchanges.{exchange_text, exchanges_text}
use Rattle.exchange_records.specs.Growing.{step_text, PairsWritten, Grown}
use Rattle.exchange_records.proofs.Growing.{back_at, grown_none, grown_more, grown_front, front_grown}

-- the line of an answer is that of the verdict
line_is : (v : Verdict (List ℤ)) (r : Result ⊤ Refusal) → says r ≡ in_form (λ _. tt) v → step_text r ≡ exchange_text v
line_is (given new) (Ok _) e = refl
line_is (given new) (Err why) e = cc
line_is (refused n) (Ok _) e = cc
line_is (refused n) (Err why) e = let is : number_of why ≡ n = cc in rw is

-- the line of a refusal
pub step_refused : {step : Result ⊤ Refusal} {why : Refusal} {out : List ℕ} {r : ℕ} → step ≡ Err why → Front (refused_text (number_of why)) out r → Front (step_text step) out r
step_refused e f = rw e f

-- the lines of all exchanges, and the pile behind them
pub pairs_answered : {pile pairs pile' : List ℤ} {old now : List ℕ} {n r : ℕ} → PairsWritten pile pairs pile' old n → Grown n (pile_text pile') old now r → Front (exchanges_text pile pairs) now r
pairs_answered p g = rw p.rest (front_grown p.front g)

-- the lines of the pairs before a place are written
pub record Turning (pile pairs : List ℤ) (old : List ℕ) (k at : ℕ) (pile' work : List ℤ) (now : List ℕ) : Type 0 where
  pub even : length pairs % 2 ≡ 0
  pub half : k % 2 ≡ 0
  pub upto : k ≤ length pairs
  pub pile_size : length pile' ≡ length pile
  pub work_has_size : length work ≡ work_size
  pub out_size : length now ≡ length old
  pub room : 16 * length pairs ≤ length old
  pub short : at ≤ 16 * k
  pub lines : List ℕ
  pub grown : Grown 0 lines old now at
  pub rest : exchanges_text pile pairs ≡ lines ++ exchanges_text pile' (drop k pairs)

pub turning_start : {pile pairs work : List ℤ} {old : List ℕ} → length pairs % 2 ≡ 0 → length work ≡ work_size → 16 * length pairs ≤ length old → Turning pile pairs old 0 0 pile work old
turning_start {old = old} e w h = record {
  even = e;
  half = refl;
  upto = omega arith;
  pile_size = refl;
  work_has_size = w;
  out_size = refl;
  room = h;
  short = omega arith;
  lines = [];
  grown = grown_none 0 old (omega arith);
  rest = refl;
}

module _ {pile pairs : List ℤ} {old : List ℕ} {k at : ℕ} {pile' work : List ℤ} {now : List ℕ} (g : Turning pile pairs old k at pile' work now) where
  module _ (h : k < length pairs) where
    pub second_there : k + 1 < length pairs
    second_there = omega (arith, g.even, g.half)

    -- a line is lent
    pub line_room : at + 32 ≤ length now
    line_room = omega (arith, g.short, g.room, g.out_size, second_there)

    module _ (first_low : mag (get_or pairs k (pos 0)) < 2 ^ 31) (second_low : mag (get_or pairs (k + 1) (pos 0)) < 2 ^ 31) {r : Result ⊤ Refusal} {pile'' work'' : List ℤ}
        (pile-same : length pile'' ≡ length pile') (work-same : length work'' ≡ length work)
        (x : Exchanged (exchange_call pile' (held (get_or pairs k (pos 0))) (held (get_or pairs (k + 1) (pos 0))) (length work)) pile' work r pile'' work'')
        {line : List ℕ} {m : ℕ} (line_same : length line ≡ length (take (at + 32 - at) (drop at now))) (f : Front (step_text r) line m) where
      abbrev v : Verdict (List ℤ)
      v = exchange_call pile' (get_or pairs k (pos 0)) (get_or pairs (k + 1) (pos 0)) work_size

      asked : Exchanged v pile' work r pile'' work''
      asked = rw (back (get_or pairs k (pos 0)) first_low, back (get_or pairs (k + 1) (pos 0)) second_low, g.work_has_size) at x

      line_size : length line ≡ 32
      line_size = line_same ∙ (length-take-le (at + 32 - at) (drop at now) (rw length-drop (omega (arith, line_room))) ∙ omega arith)

      next_rest : exchanges_text pile pairs ≡ (g.lines ++ step_text r) ++ exchanges_text pile'' (drop (k + 2) pairs)
      unfolding exchanges_text
      next_rest =
          (rw (two_there pairs k second_there) at g.rest)
          ∙ rw (line_is v r asked.answer, asked.pile_is) (sym (append_assoc g.lines (exchange_text v) (exchanges_text (given_or pile' v) (drop (k + 2) pairs))))

      turning_turn : Turning pile pairs old (k + 2) (at + m) pile'' work'' (back_at at (at + 32) now line)
      turning_turn =
          let few = f.counts.0 in
          record {
            even = g.even;
            half = omega (arith, g.half);
            upto = omega (arith, second_there);
            pile_size = pile-same ∙ g.pile_size;
            work_has_size = work-same ∙ g.work_has_size;
            out_size = simp (length-append, length-take, length-drop) (omega (arith, g.out_size, line_room, line_size));
            room = g.room;
            short = omega (arith, g.short, line_size);
            lines = g.lines ++ step_text r;
            grown = grown_more g.grown (omega arith) line_room line_same f;
            rest = next_rest;
          }

      -- the places of a pair are twice its own and the next one
      pub turning_next : {j : ℕ} → k + 2 ≡ j → Turning pile pairs old j (at + m) pile'' work'' (back_at at (at + 32) now line)
      turning_next e = rw e at turning_turn

  pub turning_done : length pairs ≤ k → PairsWritten pile pairs pile' now at
  unfolding exchanges_text
  turning_done h = record {
    lines = g.lines;
    front = grown_front g.grown;
    rest = rw (drop_of_length-le pairs {i = k} h) at g.rest;
    short = omega (arith, g.short, g.upto);
  }
