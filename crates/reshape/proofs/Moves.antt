-- `moves_of`: the entries from k on are walked. Assumes nothing.
use Rattle.std.specs.Prelude.{None, Option, Some}
use mathlib.Core.Path.{◌≡◌, refl, sym, ap, ◌∙◌}
use mathlib.Core.Bool.{Bool, true, false, not, ◌&&◌, ◌||◌, and-false}
use mathlib.Core.List.{List, [], ◌∷◌}
use Prim.Native.Nat.{ℕ, zero, suc, max, ◌-◌, ◌<◌, ◌≤◌}
use native.Mathlib.Omega.{arith}
use borrow.Author.Tests.{lt-ltb, le-ltb, lt-leb, le-leb, eq-eqb, ne_eqb}
use lib.Dec.{eqb, ltb}
use Rattle.std.proofs.lemmas.Bool.Decides.{nat_tests}
use lib.IntN.{ℤ, pos, negsuc}
use lib.ListN.{length, get_or, set, drop, replicate, length-set, drop_of_length-le, get_or-eq_default}
use lib.Seq.{drop-cons, drop-length, get_or-set_same, get_or-set_other}
use Rattle.rules.specs.Lists.{if, all, any, larger, largest}
use Rattle.rules.specs.Record.{natural, naturals}
use Rattle.rules.specs.Arguments.{up_to}
use Rattle.rules.specs.Permute.{repeats, moved_to}
use Rattle.rules.proofs.Order.{ComparedNumbers, under, even, above, compare_numbers}
use Rattle.cells.specs.View.{sign_of}
use Rattle.records.proofs.Sections.{sign_natural}
use Rattle.reshape.specs.Permuting.{names_axes, MovesAre}

-- ---- entries that name axes

-- one more in front
named_more : (z : ℤ) (l : List ℤ) → names_axes (z ∷ l) ≡ ((up_to 3 z && all (up_to 3) l) && not (any (eqb (natural z)) (naturals l) || repeats (naturals l)))
unfolding names_axes all repeats
named_more z l = refl

-- if the last ones don't, all don't
tail_unnamed : (z : ℤ) (l : List ℤ) → names_axes l ≡ false → names_axes (z ∷ l) ≡ false
unfolding names_axes
tail_unnamed z l e = rw (named_more z l) (go (up_to 3 z) (all (up_to 3) l) (any (eqb (natural z)) (naturals l)) (repeats (naturals l)) e)
  where
    go : (a b c d : Bool) → b && not d ≡ false → (a && b) && not (c || d) ≡ false
    go true true true d e = refl
    go true true false d e = e
    go true false c d e = refl
    go false b c d e = refl

drop_unnamed : (k : ℕ) (l : List ℤ) → names_axes (drop k l) ≡ false → names_axes l ≡ false
drop_unnamed zero l e = e
drop_unnamed (suc k) [] e = e
drop_unnamed (suc k) (z ∷ l) e = tail_unnamed z l (drop_unnamed k l e)

-- ---- the walk

pub record Walked (entries : List ℤ) (places : List ℕ) (most k : ℕ) : Type 0 where
  pub upto : k ≤ length entries
  pub few : length entries ≤ 4
  pub size : length places ≡ 5
  pub named : names_axes (drop k entries) ≡ true
  pub most_is : most ≡ largest (naturals (drop k entries))
  pub seen : (a : ℕ) → a ≤ 3 → ltb (get_or places a 0) 5 ≡ any (eqb a) (naturals (drop k entries))
  pub moves : (a : ℕ) → a ≤ 3 → (missing : ℕ) (numbers : List ℕ) → length numbers ≤ 5 →
      moved_to a missing (naturals (drop k entries)) (drop k numbers) ≡ get_or numbers (get_or places a 0) missing

fives_at : (a : ℕ) → a ≤ 3 → ◌≡◌ {A = ℕ} (get_or (replicate 5 5) a 0) 5
fives_at zero h = refl
fives_at (suc zero) h = refl
fives_at (suc (suc zero)) h = refl
fives_at (suc (suc (suc zero))) h = refl
fives_at (suc (suc (suc (suc a)))) h = absurd (omega arith)

-- no entry
pub walk_start : {entries : List ℤ} → length entries ≤ 4 → Walked entries (replicate 5 5) 0 (length entries)
unfolding names_axes all repeats largest any moved_to
walk_start {entries} h =
    let none : drop (length entries) entries ≡ [] = drop-length entries in
    record {
      upto = omega arith;
      few = h;
      size = refl;
      named = rw none refl;
      most_is = rw none refl;
      seen = λ a l. rw (none, fives_at a l) refl;
      moves = λ a l missing numbers m. rw (none, fives_at a l) (sym (get_or-eq_default numbers missing (omega arith)));
    }

-- a negative number names no axis
sign_negative : (z : ℤ) → sign_of z ≡ None → up_to 3 z ≡ false
unfolding sign_of up_to
sign_negative (pos m) e = absurd (let y : ◌≡◌ {A = ℕ} 0 1 = cc in omega arith)
sign_negative (negsuc m) e = refl

-- nothing goes to an axis where there are no numbers
moved_none : (a missing : ℕ) (entries : List ℕ) → moved_to a missing entries [] ≡ missing
unfolding moved_to
moved_none a missing [] = refl
moved_none a missing (q ∷ entries) = refl

either_way : (b : Bool) (n : ℕ) → if b n n ≡ n
either_way true n = refl
either_way false n = refl

module _ {entries : List ℤ} {places : List ℕ} {most k : ℕ} (p : Walked entries places most k) where
  -- all entries
  pub walk_done : k ≤ 0 → MovesAre entries most places
  walk_done h =
      let none : k ≡ 0 = omega arith in
      record {
        named = rw none at p.named;
        largest_is = rw none at p.most_is;
        size = p.size;
        moves = λ a l missing numbers m. rw none at (p.moves a l missing numbers m);
      }

  module _ (h : 0 < k) {g : (Option ℕ)} (e : g ≡ sign_of (get_or entries (k - 1) (pos 0))) where
    next : drop (k - 1) entries ≡ get_or entries (k - 1) (pos 0) ∷ drop k entries
    next =
        let one : suc (k - 1) ≡ k = omega arith in
        rw one at (drop-cons entries (k - 1) (pos 0) (omega (arith, p.upto)))

    unnamed : names_axes (drop (k - 1) entries) ≡ false → names_axes entries ≡ false
    unnamed f = drop_unnamed (k - 1) entries f

    -- a negative one
    pub walk_negative : g ≡ None → names_axes entries ≡ false
    walk_negative f =
        let bad : up_to 3 (get_or entries (k - 1) (pos 0)) ≡ false = sign_negative (get_or entries (k - 1) (pos 0)) (sym e ∙ f) in
        unnamed (rw (next, named_more (get_or entries (k - 1) (pos 0)) (drop k entries), bad) refl)

    module _ {axis : ℕ} (f : g ≡ Some axis) where
      is : drop (k - 1) entries ≡ pos axis ∷ drop k entries
      is = let number : get_or entries (k - 1) (pos 0) ≡ pos axis = sign_natural (get_or entries (k - 1) (pos 0)) (sym e ∙ f) in rw (next, number) refl

      -- one over 3
      pub walk_over : 3 < axis → names_axes entries ≡ false
      walk_over o =
          let bad : up_to 3 (pos axis) ≡ false = unfold up_to in lt-leb axis 3 o in
          unnamed (rw (is, named_more (pos axis) (drop k entries), bad) refl)

      module _ (small : axis ≤ 3) where
        -- one that stands there again
        pub walk_twice : get_or places axis 0 < 5 → names_axes entries ≡ false
        unfolding natural
        walk_twice o =
            let again : any (eqb axis) (naturals (drop k entries)) ≡ true = sym (p.seen axis small) ∙ lt-ltb (get_or places axis 0) 5 o in
            unnamed (rw (is, named_more (pos axis) (drop k entries), again) (and-false (up_to 3 (pos axis) && all (up_to 3) (drop k entries))))

        -- one more axis
        pub walk_turn : 5 ≤ get_or places axis 0 → Walked entries (set places axis (k - 1)) (larger axis most) (k - 1)
        unfolding natural largest any moved_to names_axes up_to
        walk_turn o =
            record {
              upto = omega (arith, p.upto);
              few = p.few;
              size = rw length-set p.size;
              named = rw (is, named_more (pos axis) (drop k entries)) good;
              most_is = rw is (ap (larger axis) p.most_is);
              seen = λ a l. by_seen a l (compare_numbers a axis);
              moves = λ a l missing numbers m. by_moves a l missing numbers m (compare_numbers a axis);
            }
          where
            new : any (eqb axis) (naturals (drop k entries)) ≡ false
            new = sym (p.seen axis small) ∙ le-ltb (get_or places axis 0) 5 o

            good : (up_to 3 (pos axis) && all (up_to 3) (drop k entries)) && not (any (eqb axis) (naturals (drop k entries)) || repeats (naturals (drop k entries))) ≡ true
            good = rw (new, le-leb axis 3 small) p.named

            there : get_or (set places axis (k - 1)) axis 0 ≡ k - 1
            there = get_or-set_same places axis (k - 1) 0 (omega (arith, p.size))

            other : (a : ℕ) → (a ≡ axis → ⊥) → get_or (set places axis (k - 1)) a 0 ≡ get_or places a 0
            other a d = get_or-set_other places axis a (k - 1) 0 d

            seen_other : (a : ℕ) → a ≤ 3 → (a ≡ axis → ⊥) → ltb (get_or (set places axis (k - 1)) a 0) 5 ≡ any (eqb a) (naturals (drop (k - 1) entries))
            seen_other a l d = rw (is, other a d, ne_eqb a axis d) (p.seen a l)

            by_seen : (a : ℕ) → a ≤ 3 → ComparedNumbers a axis → ltb (get_or (set places axis (k - 1)) a 0) 5 ≡ any (eqb a) (naturals (drop (k - 1) entries))
            by_seen a l (under d) = seen_other a l (λ z. omega arith)
            by_seen a l (even d) = rw (is, d, there, eq-eqb axis axis refl) (lt-ltb (k - 1) 5 (omega (arith, p.upto, p.few)))
            by_seen a l (above d) = seen_other a l (λ z. omega arith)

            -- what goes to an axis, of numbers that end before
            past : (a missing : ℕ) (numbers : List ℕ) → length numbers ≤ k - 1 →
                moved_to a missing (naturals (drop (k - 1) entries)) (drop (k - 1) numbers) ≡ if (eqb axis a) (get_or numbers (k - 1) missing) (moved_to a missing (naturals (drop k entries)) (drop k numbers))
            past a missing numbers d =
                let none : drop (k - 1) numbers ≡ [] = drop_of_length-le numbers {i = k - 1} d in
                let none_then : drop k numbers ≡ [] = drop_of_length-le numbers {i = k} (omega arith) in
                rw (none, none_then, get_or-eq_default numbers missing d, moved_none a missing (naturals (drop (k - 1) entries)), moved_none a missing (naturals (drop k entries)))
                (sym (either_way (eqb axis a) missing))

            -- and of numbers that don't
            first : (a missing : ℕ) (numbers : List ℕ) → ComparedNumbers (k - 1) (length numbers) →
                moved_to a missing (naturals (drop (k - 1) entries)) (drop (k - 1) numbers) ≡ if (eqb axis a) (get_or numbers (k - 1) missing) (moved_to a missing (naturals (drop k entries)) (drop k numbers))
            first a missing numbers (under d) =
                let one : suc (k - 1) ≡ k = omega arith in
                let cut : drop (k - 1) numbers ≡ get_or numbers (k - 1) missing ∷ drop k numbers = rw one at (drop-cons numbers (k - 1) missing d) in
                rw (is, cut) refl
            first a missing numbers (even d) = past a missing numbers (omega arith)
            first a missing numbers (above d) = past a missing numbers (omega arith)

            moves_other : (a : ℕ) → a ≤ 3 → (missing : ℕ) (numbers : List ℕ) → length numbers ≤ 5 → (a ≡ axis → ⊥) →
                moved_to a missing (naturals (drop (k - 1) entries)) (drop (k - 1) numbers) ≡ get_or numbers (get_or (set places axis (k - 1)) a 0) missing
            moves_other a l missing numbers m d =
                first a missing numbers (compare_numbers (k - 1) (length numbers))
                ∙ rw (ne_eqb axis a (λ z. d (sym z)), other a d) (p.moves a l missing numbers m)

            by_moves : (a : ℕ) → a ≤ 3 → (missing : ℕ) (numbers : List ℕ) → length numbers ≤ 5 → ComparedNumbers a axis →
                moved_to a missing (naturals (drop (k - 1) entries)) (drop (k - 1) numbers) ≡ get_or numbers (get_or (set places axis (k - 1)) a 0) missing
            by_moves a l missing numbers m (under d) = moves_other a l missing numbers m (λ z. omega arith)
            by_moves a l missing numbers m (even d) =
                first a missing numbers (compare_numbers (k - 1) (length numbers)) ∙ rw (d, eq-eqb axis axis refl, there) refl
            by_moves a l missing numbers m (above d) = moves_other a l missing numbers m (λ z. omega arith)

        -- with the larger of two as it was told
        pub walk_turned : {n : ℕ} → n ≡ max axis most → 5 ≤ get_or places axis 0 → Walked entries (set places axis (k - 1)) n (k - 1)
        walk_turned {n = n} told o = let same : n ≡ larger axis most = grind (arith, nat_tests) in rw same (walk_turn o)

pub ruleset walks = (walk_start, walk_done)
