-- What the contracts of the pile promise of a pile: all that exchanges keep. Assumes nothing.
use Rattle.std.specs.Prelude.{Err, Ok, Result, ⊤}
use Rattle.rules.specs.declared.Refusal.{Refusal}
use mathlib.Core.Path.{◌≡◌, refl}
use mathlib.Core.Bool.{true, false}
use mathlib.Core.List.{List, [], ◌∷◌}
use Prim.Native.Nat.{ℕ, ◌%◌}
use lib.IntN.{ℤ}
use lib.ListN.{length}
use Rattle.rules.specs.Refusals.{Verdict, given, refused, in_form}
use Rattle.rules.specs.Arguments.{short_work}
use Rattle.rules.specs.Endings.{says}
use Rattle.rules.specs.Endings.{says}
use Rattle.rules.specs.Pile.{one_if_given, exchange_call, exchanges_from, exchange_all_call, Exchanged, AllExchanged}
use Rattle.rules.specs.PileKept.{is_pile, PileKept}
use Rattle.rules.proofs.PileFacts.{all_given, records_keep, one_exchange_keeps}

-- how many exchanges the answer of one tells of
abbrev pub made_by : Result ⊤ Refusal → ℕ
made_by (Ok tt) = 1
made_by (Err why) = 0

-- as many as its verdict
made_by_lem : (r : Result ⊤ Refusal) (v : Verdict (List ℤ)) → says r ≡ in_form (λ _. tt) v → made_by r ≡ one_if_given v
made_by_lem (Ok tt) (given new) e = refl
made_by_lem (Ok tt) (refused n) e = cc
made_by_lem (Err why) (given new) e = cc
made_by_lem (Err why) (refused n) e = refl

-- `exchange` keeps all of a pile, whatever two places it is asked for
pub exchange_kept : (shape : List ℕ) {pile work pile' work' : List ℤ} (first second : ℤ) {r : (Result ⊤ Refusal)} → is_pile shape pile ≡ true → short_work (length work) ≡ false →
    Exchanged (exchange_call pile first second (length work)) pile work r pile' work' → PileKept shape (first ∷ second ∷ []) (made_by r) pile pile'
exchange_kept shape {pile} {work} first second {r} p w x =
    rw (made_by_lem r (exchange_call pile first second (length work)) x.answer, x.pile_is) (one_exchange_keeps shape pile first second (length work) p w)

-- `exchange_all` answers how many were made, and keeps all of a pile, whatever pairs it is asked for
pub pile_kept : (shape : List ℕ) {pile pairs work pile' work' : List ℤ} {r : (Result ℕ Refusal)} → is_pile shape pile ≡ true → short_work (length work) ≡ false → length pairs % 2 ≡ 0 →
    AllExchanged (exchange_all_call pile pairs (length work)) pile work r pile' work' → (made : ℕ) × (says r ≡ given made) × PileKept shape pairs made pile pile'
pile_kept shape {pile} {pairs} {work} {r = r} p w even x =
    let is = all_given pile pairs (length work) w even in
    ((exchanges_from (record { made = 0; pile = pile }) pairs).made, rw is at x.answer, rw (rw is at x.pile_is) (records_keep shape pile pairs p even))
