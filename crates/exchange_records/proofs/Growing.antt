-- A text that grows by what is written to the front of a part that is lent behind it. Assumes nothing.
use mathlib.Core.Path.{◌≡◌, sym, ap, ◌∙◌}
use mathlib.Core.List.{List, [], ◌++◌, append_assoc, append-nil}
use Prim.Native.Nat.{ℕ, ◌+◌, ◌-◌, ◌≤◌}
use native.Mathlib.Omega.{arith}
use lib.ListN.{length, take, drop, length-append, length-take, length-drop}
use lib.Seq.{take-append-add, take-append-le, length-take-le}
use Rattle.record_text.specs.Fronts.{Front}
use Rattle.record_text.proofs.Fronts.{counted}
use Rattle.exchange_records.specs.Growing.{Grown}

-- a slice when `new` came back for what was lent from a up to e
abbrev pub back_at : {A : Type 0} → ℕ → ℕ → List A → List A → List A
back_at a e old new = take a old ++ (new ++ drop (e - a) (drop a old))

-- so many elements of it, past those that were not lent
pub take_back : {A : Type 0} (a e : ℕ) (old new : List A) (m : ℕ) → a ≤ length old → m ≤ length new → take (a + m) (back_at a e old new) ≡ take a old ++ take m new
take_back {A} a e old new m h k =
    let n : length (take a old) ≡ a = length-take-le a old h in
    (rw n at (take-append-add (take a old) (new ++ drop (e - a) (drop a old)) m))
    ∙ ap (λ (l : List A). take a old ++ l) (take-append-le m new (drop (e - a) (drop a old)) k)

-- nothing is written yet
pub grown_none : (at : ℕ) (old : List ℕ) → at ≤ length old → Grown at [] old old at
grown_none at old h = record { counts = counted at old h; is = sym (append-nil (take at old)) }

-- a part behind the text is lent, and something is written to its front
pub grown_more : {at n m e : ℕ} {text new old now part : List ℕ} → Grown at text old now n → n ≤ e → e ≤ length now → length part ≡ length (take (e - n) (drop n now)) →
    Front new part m → Grown at (text ++ new) old (back_at n e now part) (n + m)
grown_more {at} {n} {m} {e} {text} {new} {old} {now} {part} g h k same f =
    let few = f.counts.0 in
    record {
      counts = counted (n + m) (back_at n e now part) (simp (length-append, length-take, length-drop) (omega arith));
      is = take_back n e now part m (omega arith) few ∙ rw (g.is, f.is) (append_assoc (take at old) text new);
    }

-- what was written from the front on
pub grown_front : {n : ℕ} {text old now : List ℕ} → Grown 0 text old now n → Front text now n
grown_front g = record { counts = g.counts; is = g.is }

-- what was written behind a text
pub front_grown : {n r : ℕ} {text new old now : List ℕ} → Front text old n → Grown n new old now r → Front (text ++ new) now r
front_grown {new = new} f g = record { counts = g.counts; is = g.is ∙ ap (λ (l : List ℕ). l ++ new) f.is }
