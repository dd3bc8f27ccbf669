-- The records of a list judged one after the other. Assumes nothing.
use Rattle.std.specs.Prelude.{None, Option, Some}
use mathlib.Core.Path.{◌≡◌, refl, sym}
use mathlib.Core.Bool.{Bool, true, false}
use mathlib.Core.List.{List, []}
use Prim.Native.Nat.{ℕ, ◌+◌, ◌-◌, ◌<◌, ◌≤◌}
use native.Mathlib.Omega.{arith}
use borrow.Author.Tests.{ltb-true, ltb-false}
use lib.Dec.{ltb}
use lib.IntN.{ℤ}
use lib.ListN.{length, get_or, take, drop}
use Rattle.rules.specs.declared.Head.{Head}
use Rattle.rules.specs.Lists.{all}
use Rattle.rules.specs.Record.{sound}
use Rattle.rules.proofs.Same.{true_not_false}
use Rattle.tables.proofs.Passing.{Passed, all_passed}
use Rattle.records.specs.Sound.{SoundRecord, sound_head, ReadableHead}
use Rattle.records.proofs.SoundRecords.{sound_record, no_head, readable_record}
use Rattle.lists.specs.Places.{standing, Inside, EachAt}
use Rattle.lists.specs.Records.{JudgedRecord}
use Rattle.lists.proofs.Asking.{pass_start, pass_turn, pass_stop}
use Rattle.lists.proofs.Beginning.{lent_at, place_inside, place_fits}

-- the first i of n records have passed
pub record SoundTo (n : ℕ) (places : List ℕ) (s : List ℤ) (i : ℕ) : Type 0 where
  pub inside : Inside n places s
  pub passed : Passed sound n i (standing n places s)
  pub known : (j : ℕ) → j < i → JudgedRecord (get_or (standing n places s) j [])

-- none has been judged
pub sound_start : {n : ℕ} {places : List ℕ} {s : List ℤ} → Inside n places s → SoundTo n places s 0
sound_start p = record { inside = p; passed = pass_start p; known = λ j h. absurd (omega arith) }

module _ {n : ℕ} {places : List ℕ} {s : List ℤ} {i : ℕ} (p : SoundTo n places s i) where
  -- the record at the next place
  abbrev next_record : List ℤ
  next_record = take (length s - get_or places i 0) (drop (get_or places i 0) s)

  module _ {w : (Option Head)} (h : i < n) (e : w ≡ sound_head next_record) where
    -- one is not sound
    pub sound_stop : w ≡ None → false ≡ all sound (standing n places s)
    sound_stop f = pass_stop p.inside p.passed h (sym (no_head next_record e f)) refl

    -- one is sound
    pub sound_turn : ReadableHead w next_record → {k : Head} → w ≡ Some k → SoundTo n places s (i + 1)
    sound_turn r {k} f = record {
      inside = p.inside;
      passed = pass_turn p.inside p.passed h (sym found.judged) refl;
      known = λ j k. by j k (ltb j i) refl;
    }
      where
        found : SoundRecord k next_record
        found = sound_record next_record e r f

        here : JudgedRecord (get_or (standing n places s) i [])
        here = rw (← lent_at p.inside h) (record { judged = found.judged; readable = readable_record found })

        by : (j : ℕ) → j < i + 1 → (t : Bool) → ltb j i ≡ t → JudgedRecord (get_or (standing n places s) j [])
        by j k true q = p.known j (ltb-true j i q)
        by j k false q = let last : j ≡ i = omega (arith, ltb-false j i q) in rw last here

  -- all are sound
  pub sound_done : n ≤ i → true ≡ all sound (standing n places s)
  sound_done h = all_passed p.passed h

  pub sound_known : n ≤ i → true ≡ true → EachAt JudgedRecord n places s
  sound_known h e = record { inside = p.inside; known = λ j k. p.known j (omega arith) }

-- nothing is known where one is not
pub nothing_known : {n : ℕ} {places : List ℕ} {s : List ℤ} → false ≡ true → EachAt JudgedRecord n places s
nothing_known e = absurd (true_not_false {a = true} refl (sym e))

pub ruleset sound_laws = (sound_start, sound_stop, sound_turn, sound_done, sound_known, nothing_known, place_inside, place_fits)
