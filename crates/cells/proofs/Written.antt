-- A buffer into which numbers are written, one at a time: what each loop knows at each turn.
use mathlib.Core.Path.{◌≡◌, refl, sym, ap, ◌∙◌, subst}
use mathlib.Core.List.{List, [], ◌∷◌, ◌++◌}
use mathlib.Core.Logic.{◌⊎◌, inl, inr, ⊎_elim}
use Prim.Native.Nat.{ℕ, suc, ◌+◌, ◌-◌, ◌<◌, ◌≤◌, ◌^◌}
use native.Mathlib.Nat.{add-zero, suc-add}
use native.Mathlib.Omega.{arith}
use lib.IntN.{ℤ, pos}
use lib.ListN.{length, get_or, set, take, drop, length-append, length-set}
use lib.Signed.{mag}
use mir.Syntax.{w32}
use mir.Val.{SFits}
use Rattle.rules.specs.Buffers.{part, put}
use Rattle.cells.proofs.Signed.{held, back}
use Rattle.rules.proofs.Buffers.{length_part, put_nil, put_more}
use Rattle.cells.proofs.Buffers.{put_less, get_or_put_apart, part_more, part_less}

-- now is old with new written into it from a on
pub record Written (a : ℕ) (new old now : List ℤ) : Type 0 where
  pub fits : a + length new ≤ length old
  pub size : length now ≡ length old
  pub is : now ≡ put a new old

-- nothing is written yet
pub nothing : (a : ℕ) (old : List ℤ) → a ≤ length old → Written a [] old old
nothing a old h = record { fits = omega arith; size = refl; is = sym (put_nil a old) }

-- one number more, behind those that are written
behind : {a : ℕ} {new old now : List ℤ} → Written a new old now → (n : ℕ) (z : ℤ) → length new ≡ n → a + n < length old →
    Written a (new ++ (z ∷ [])) old (set now (a + n) z)
behind {a} {new} {old} w n z e h = record {
  fits = simp length-append (omega arith);
  size = simp length-set w.size;
  is = rw w.is (put_more a new old z n e h);
}

-- one number more, before them
pub before : {a : ℕ} {new old now : List ℤ} → Written (suc a) new old now → (z : ℤ) → Written a (z ∷ new) old (set now a z)
before {a} {new} {old} w z = record {
  fits = omega arith;
  size = simp length-set w.size;
  is = rw w.is (put_less a new old z (omega arith));
}

-- `move_part`: the first i numbers of the part are written
pub record Moving (from to n : ℕ) (old : List ℤ) (i : ℕ) (now : List ℤ) : Type 0 where
  pub upto : i ≤ n
  pub source : from + n ≤ length old
  pub room : to + n ≤ length old
  pub apart : (from + n ≤ to) ⊎ (to + n ≤ from)
  pub written : Written to (part from i old) old now

pub move_start : {from to n : ℕ} {old : List ℤ} → from + n ≤ length old → to + n ≤ length old → (from + n ≤ to) ⊎ (to + n ≤ from) → Moving from to n old 0 old
unfolding part
move_start {from} {to} {n} {old} p q a = record { upto = omega arith; source = p; room = q; apart = a; written = nothing to old (omega arith) }

module _ {from to n : ℕ} {old now : List ℤ} {i : ℕ} (c : Moving from to n old i now) where
  pub move_turn : i < n → mag (get_or now (from + i) (pos 0)) < 2 ^ 31 → Moving from to n old (i + 1) (set now (to + i) (held (get_or now (from + i) (pos 0))))
  move_turn h m =
      let z : ℤ = get_or old (from + i) (pos 0) in
      let l : length (part from i old) ≡ i = length_part from i old (omega arith) in
      let other : (from + i < to) ⊎ (to + length (part from i old) ≤ from + i) = ⊎_elim (λ r. inl (omega arith)) (λ r. inr (omega arith)) c.apart in
      let read : get_or now (from + i) (pos 0) ≡ z =
      ap (λ (t : List ℤ). get_or t (from + i) (pos 0)) c.written.is ∙ get_or_put_apart to (part from i old) old (omega arith) (from + i) (pos 0) other in
      record {
        upto = omega arith;
        source = c.source;
        room = c.room;
        apart = c.apart;
        written =
            rw (back (get_or now (from + i) (pos 0)) m, read, ← part_more from i old (pos 0) (omega arith))
            (behind c.written i z l (omega arith));
      }

  -- the first number, whose places are written without a sum
  pub move_first : i ≡ 0 → 0 < n → mag (get_or now from (pos 0)) < 2 ^ 31 → Moving from to n old 1 (set now to (held (get_or now from (pos 0))))
  move_first e h m = rw (e, add-zero from, add-zero to) at (move_turn (omega arith) (rw (e, add-zero from) m))

  pub move_done : n ≤ i → now ≡ put to (part from n old) old
  move_done h = let e : i ≡ n = omega arith in c.written.is ∙ rw e

-- `move_row`: after each store one number more
abbrev pub moved : ℕ → ℕ → ℕ → List ℤ → List ℤ
moved from to i s = set s (to + i) (held (get_or s (from + i) (pos 0)))

module _ {from to n : ℕ} {old : List ℤ} (begun : Moving from to n old 0 old) (first : SFits w32 (get_or old from (pos 0))) where
  abbrev pub one_moved : List ℤ
  one_moved = set old to (held (get_or old from (pos 0)))

  pub move_one : 0 < n → Moving from to n old 1 one_moved
  move_one h = move_first begun refl h first.sfits

  module _ (second : SFits w32 (get_or one_moved (from + 1) (pos 0))) where
    pub move_two : 1 < n → Moving from to n old 2 (moved from to 1 one_moved)
    move_two h = move_turn (move_one (omega arith)) h second.sfits

    module _ (third : SFits w32 (get_or (moved from to 1 one_moved) (from + 2) (pos 0))) where
      pub move_three : 2 < n → Moving from to n old 3 (moved from to 2 (moved from to 1 one_moved))
      move_three h = move_turn (move_two (omega arith)) h third.sfits

      module _ (fourth : SFits w32 (get_or (moved from to 2 (moved from to 1 one_moved)) (from + 3) (pos 0))) where
        pub move_four : 3 < n → Moving from to n old 4 (moved from to 3 (moved from to 2 (moved from to 1 one_moved)))
        move_four h = move_turn (move_three (omega arith)) h fourth.sfits

        pub move_five : SFits w32 (get_or (moved from to 3 (moved from to 2 (moved from to 1 one_moved))) (from + 4) (pos 0)) → 4 < n →
            Moving from to n old 5 (moved from to 4 (moved from to 3 (moved from to 2 (moved from to 1 one_moved))))
        move_five fifth h = move_turn (move_four (omega arith)) h fifth.sfits

-- `copy_row`: the first i numbers of a part of another slice are written
pub record Bringing (from to n : ℕ) (src old : List ℤ) (i : ℕ) (now : List ℤ) : Type 0 where
  pub upto : i ≤ n
  pub source : from + n ≤ length src
  pub room : to + n ≤ length old
  pub written : Written to (part from i src) old now

pub bring_start : {from to n : ℕ} {src old : List ℤ} → from + n ≤ length src → to + n ≤ length old → Bringing from to n src old 0 old
unfolding part
bring_start {to} {old} p q = record { upto = omega arith; source = p; room = q; written = nothing to old (omega arith) }

module _ {from to n : ℕ} {src old now : List ℤ} {i : ℕ} (c : Bringing from to n src old i now) where
  pub bring_turn : i < n → mag (get_or src (from + i) (pos 0)) < 2 ^ 31 → Bringing from to n src old (i + 1) (set now (to + i) (held (get_or src (from + i) (pos 0))))
  bring_turn h m = record {
    upto = omega arith;
    source = c.source;
    room = c.room;
    written =
        rw (back (get_or src (from + i) (pos 0)) m, ← part_more from i src (pos 0) (omega (arith, c.source)))
        (behind c.written i (get_or src (from + i) (pos 0)) (length_part from i src (omega (arith, c.source))) (omega (arith, c.room)));
  }

  -- the first number, whose places are written without a sum
  pub bring_first : i ≡ 0 → 0 < n → mag (get_or src from (pos 0)) < 2 ^ 31 → Bringing from to n src old 1 (set now to (held (get_or src from (pos 0))))
  bring_first e h m = rw (e, add-zero from, add-zero to) at (bring_turn (omega arith) (rw (e, add-zero from) m))

  pub bring_done : n ≤ i → now ≡ put to (part from n src) old
  bring_done h = let e : i ≡ n = omega arith in c.written.is ∙ rw e

-- after each store one number more
module _ {from to n : ℕ} {src old : List ℤ} (begun : Bringing from to n src old 0 old) (first : SFits w32 (get_or src from (pos 0))) where
  abbrev pub one_brought : List ℤ
  one_brought = set old to (held (get_or src from (pos 0)))

  pub bring_one : 0 < n → Bringing from to n src old 1 one_brought
  bring_one h = bring_first begun refl h first.sfits

  module _ (second : SFits w32 (get_or src (from + 1) (pos 0))) where
    abbrev pub two_brought : List ℤ
    two_brought = set one_brought (to + 1) (held (get_or src (from + 1) (pos 0)))

    pub bring_two : 1 < n → Bringing from to n src old 2 two_brought
    bring_two h = bring_turn (bring_one (omega arith)) h second.sfits

    pub bring_three : SFits w32 (get_or src (from + 2) (pos 0)) → 2 < n → Bringing from to n src old 3 (set two_brought (to + 2) (held (get_or src (from + 2) (pos 0))))
    bring_three third h = bring_turn (bring_two (omega arith)) h third.sfits

-- a part that is lent was written
pub bring_lent : (from to n : ℕ) (src old : List ℤ) {now : List ℤ} → now ≡ put to (take (from + n - from) (drop from src)) old → now ≡ put to (part from n src) old
unfolding part
bring_lent from to n src old e = let size : from + n - from ≡ n = omega arith in rw size at e

-- `shift_up`: the numbers from k up to e are written
pub record Shifting (a e w : ℕ) (old : List ℤ) (k : ℕ) (now : List ℤ) : Type 0 where
  pub from : a ≤ k
  pub upto : k ≤ e
  pub room : e + w ≤ length old
  pub written : Written (k + w) (part k (e - k) old) old now

pub shift_start : {a e w : ℕ} {old : List ℤ} → a ≤ e → e + w ≤ length old → Shifting a e w old e old
unfolding part
shift_start {a} {e} {w} {old} h l =
    let none : e - e ≡ 0 = omega arith in record { from = h; upto = omega arith; room = l; written = rw none (nothing (e + w) old l) }

-- a turn, at k = j + 1
shift_step : (e w j : ℕ) (old now : List ℤ) → j < e → e + w ≤ length old → Written (suc j + w) (part (suc j) (e - suc j) old) old now →
    Written (j + w) (part j (e - j) old) old (set now (j + w) (get_or now j (pos 0)))
shift_step e w j old now h l t =
    let read : get_or now j (pos 0) ≡ get_or old j (pos 0) =
    ap (λ (s : List ℤ). get_or s j (pos 0)) t.is ∙ get_or_put_apart (suc j + w) (part (suc j) (e - suc j) old) old (omega arith) j (pos 0) (inl (omega arith)) in
    let left : e - j ≡ suc (e - suc j) = omega arith in
    rw (read, left, ← part_less j (e - suc j) old (pos 0) (omega arith)) (before (rw suc-add at t) (get_or old j (pos 0)))

module _ {a e w : ℕ} {old now : List ℤ} {k : ℕ} (c : Shifting a e w old k now) where
  pub shift_turn : a < k → mag (get_or now (k - 1) (pos 0)) < 2 ^ 31 →
      Shifting a e w old (k - 1) (set now (k - 1 + w) (held (get_or now (k - 1) (pos 0))))
  shift_turn h m =
      let up : k ≡ suc (k - 1) = omega arith in
      record {
        from = omega arith;
        upto = omega arith;
        room = c.room;
        written =
            rw (back (get_or now (k - 1) (pos 0)) m)
            (shift_step e w (k - 1) old now (omega arith) c.room (subst (λ (j : ℕ). Written (j + w) (part j (e - j) old) old now) up c.written));
      }

  pub shift_done : k ≤ a → now ≡ put (a + w) (part a (e - a) old) old
  shift_done h = let here : k ≡ a = omega arith in c.written.is ∙ rw here

pub ruleset laws = (move_start, move_turn, shift_start, shift_turn)
