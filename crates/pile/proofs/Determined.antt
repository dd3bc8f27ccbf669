-- What the contracts of the pile determine: two outcomes that one allows are equal. Assumes nothing.
use Rattle.std.specs.Prelude.{Result, ⊤, ℕ}
use Rattle.rules.specs.declared.Refusal.{Refusal}
use mathlib.Core.Path.{◌≡◌, sym, ◌∙◌}
use mathlib.Core.List.{List}
use lib.IntN.{ℤ}
use Rattle.rules.specs.Refusals.{Verdict}
use Rattle.rules.specs.Pile.{Exchanges, Exchanged, AllExchanged}
use Rattle.rules.proofs.Determined.{says_determined}

pub exchanged_determined : {v : Verdict (List ℤ)} {pile work : List ℤ} {r r' : (Result ⊤ Refusal)} {pile' pile'' work' work'' : List ℤ} →
    Exchanged v pile work r pile' work' → Exchanged v pile work r' pile'' work'' → (r ≡ r') × (pile' ≡ pile'') × (work' ≡ work'')
exchanged_determined {r = r} {r' = r'} p q =
    (says_determined r r' (p.answer ∙ sym q.answer), p.pile_is ∙ sym q.pile_is, p.work_is ∙ sym q.work_is)

pub all_determined : {v : Verdict Exchanges} {pile work : List ℤ} {r r' : (Result ℕ Refusal)} {pile' pile'' work' work'' : List ℤ} →
    AllExchanged v pile work r pile' work' → AllExchanged v pile work r' pile'' work'' → (r ≡ r') × (pile' ≡ pile'') × (work' ≡ work'')
all_determined {r = r} {r' = r'} p q =
    (says_determined r r' (p.answer ∙ sym q.answer), p.pile_is ∙ sym q.pile_is, p.work_is ∙ sym q.work_is)
