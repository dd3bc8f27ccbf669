-- Where things begin, gathered one after the other. Assumes nothing.
use mathlib.Core.Path.{◌≡◌, refl, sym, ap, ◌∙◌}
use mathlib.Core.Bool.{Bool, true, false}
use mathlib.Core.List.{List, [], map}
use Prim.Native.Nat.{ℕ, ◌+◌, ◌-◌, ◌*◌, ◌^◌, ◌<◌, ◌≤◌}
use native.Mathlib.Omega.{arith}
use borrow.Author.Tests.{ltb-true, ltb-false}
use lib.Dec.{ltb}
use lib.IntN.{ℤ}
use lib.ListN.{length, get_or, take, drop, set, replicate, length-map, length-take, length-drop, get_or-map}
use lib.Seq.{drop-nil, get_or-take, ext_get_or}
use mir.Syntax.{w64}
use mir.Val.{Fits}
use Rattle.rules.specs.Record.{end_to_end}
use Rattle.records.specs.EndToEnd.{Behind}
use Rattle.records.proofs.Sections.{other_default}
use Rattle.records.proofs.EndToEnd.{to_end, length_end_to_end, Reached, reached_start, reached_turn, reached_here}
use Rattle.lists.specs.Places.{standing, Inside, EachAt, PlacesOf}
use Rattle.lists.proofs.Entering.{Entered, entered_none, entered_more}

-- ---- what stands at n places

module _ {n : ℕ} {places : List ℕ} {s : List ℤ} (p : Inside n places s) where
  pub length_standing : length (standing n places s) ≡ n
  unfolding standing
  length_standing = simp (length-map, length-take) (omega (arith, p.few, p.size))

  module _ {i : ℕ} (h : i < n) where
    pub standing_at : get_or (standing n places s) i [] ≡ drop (get_or places i 0) s
    unfolding standing
    standing_at =
        let inside : i < length (map (λ q. drop q s) (take n places)) = rw length_standing h in
        other_default (map (λ q. drop q s) (take n places)) i [] (drop 0 s) inside
        ∙ get_or-map (λ q. drop q s) (take n places) i 0
        ∙ ap (λ (q : ℕ). drop q s) (get_or-take n places i 0 h)

    -- the part that is lent there
    pub lent_at : take (length s - get_or places i 0) (drop (get_or places i 0) s) ≡ get_or (standing n places s) i []
    lent_at = to_end (get_or places i 0) s ∙ sym standing_at

    pub place_inside : get_or places i 0 ≤ length s
    place_inside = p.each i h

    pub place_fits : length s * 4 < 2 ^ 63 → Fits w64 (get_or places i 0 * 4)
    place_fits l = record { fits = let inside = place_inside in omega arith }

-- what is known there
pub known_at : (Known : List ℤ → Type 0) {n : ℕ} {places : List ℕ} {s : List ℤ} → EachAt Known n places s → {i : ℕ} → i < n →
    Known (take (length s - get_or places i 0) (drop (get_or places i 0) s))
known_at Known p {i} h = rw (lent_at p.inside h) (p.known i h)

-- ---- gathered

-- thing i begins at a place
pub record Begins (things : List (List ℤ)) (s : List ℤ) (i place : ℕ) : Type 0 where
  pub inside : place ≤ length s
  pub here : drop place s ≡ get_or things i []

-- all of n places are known
gathered : {things : List (List ℤ)} {n i : ℕ} {s : List ℤ} {places : List ℕ} → length things ≡ n → n ≤ 16 → i ≤ n → n ≤ i →
    Entered (Begins things s) 16 0 i places → PlacesOf things n s places
gathered {things} {n} {i} {s} {places} e f u h p =
    let all : Inside n places s = record { few = f; size = p.size; each = λ j l. (p.done j (omega arith)).inside } in
    record {
      inside = all;
      begin = ext_get_or [] (standing n places s) things (length_standing all ∙ sym e)
          (λ j l. let k : j < n = rw (length_standing all) at l in standing_at all k ∙ (p.done j (omega arith)).here);
      zeros = λ j l. p.rest j (omega arith);
    }

-- the places of the first i things are known, and the next one begins at a place
pub record PlacesTo (behind : List ℤ → List ℤ) (n : ℕ) (s : List ℤ) (i at : ℕ) (places : List ℕ) : Type 0 where
  pub few : n ≤ 16
  pub reached : Reached behind n s i at
  pub entered : Entered (Begins (end_to_end behind n s) s) 16 0 i places

module _ {behind : List ℤ → List ℤ} {n : ℕ} {s : List ℤ} where
  pub places_start : n ≤ 16 → PlacesTo behind n s 0 0 (replicate 16 0)
  places_start h = record { few = h; reached = reached_start; entered = entered_none }

  module _ {i at : ℕ} {places : List ℕ} (p : PlacesTo behind n s i at places) where
    pub places_turn : {at' : ℕ} → i < n → Behind behind at s at' → PlacesTo behind n s (i + 1) at' (set places i at)
    places_turn h b = record {
      few = p.few;
      reached = reached_turn p.reached h b;
      entered = entered_more p.entered (omega arith) (record { inside = p.reached.inside; here = reached_here p.reached h });
    }

    pub places_done : n ≤ i → PlacesOf (end_to_end behind n s) n s places
    places_done h = gathered (length_end_to_end behind n s) p.few p.reached.upto h p.entered

pub ruleset places_laws = (places_start, places_turn, places_done)

-- the first i of n places have been moved
pub record MovedTo (by n : ℕ) (places : List ℕ) (s : List ℤ) (i : ℕ) (out : List ℕ) : Type 0 where
  pub from : Inside n places s
  pub upto : i ≤ n
  pub entered : Entered (Begins (map (drop by) (standing n places s)) s) 16 0 i out

module _ {by n : ℕ} {places : List ℕ} {s : List ℤ} where
  pub moved_start : Inside n places s → MovedTo by n places s 0 (replicate 16 0)
  moved_start p = record { from = p; upto = omega arith; entered = entered_none }

  module _ {i : ℕ} {out : List ℕ} (p : MovedTo by n places s i out) where
    pub moved_turn : {r : ℕ} → i < n → Behind (drop by) (get_or places i 0) s r → MovedTo by n places s (i + 1) (set out i r)
    moved_turn {r} h b =
        let l : List (List ℤ) = standing n places s in
        let there : get_or (map (drop by) l) i [] ≡ drop by (get_or l i []) = rw drop-nil at (get_or-map (drop by) l i []) in
        record {
          from = p.from;
          upto = omega arith;
          entered = entered_more p.entered (omega (arith, p.from.few))
              (record { inside = b.inside; here = b.rest ∙ sym (there ∙ ap (drop by) (standing_at p.from h)) });
        }

    pub moved_done : n ≤ i → PlacesOf (map (drop by) (standing n places s)) n s out
    moved_done h = gathered (length-map (standing n places s) (drop by) ∙ length_standing p.from) p.from.few p.upto h p.entered

pub ruleset moved_laws = (moved_start, moved_turn, moved_done, place_inside)

-- ---- the places are determined

-- from two places of a slice the same stands only if they are one
same_place : (s : List ℤ) {a b : ℕ} → a ≤ length s → b ≤ length s → drop a s ≡ drop b s → a ≡ b
same_place s {a} {b} h k e = let size : length s - a ≡ length s - b = simp length-drop at (ap length e) in omega arith

pub places_determined : {things : List (List ℤ)} {n : ℕ} {s : List ℤ} {p q : List ℕ} → PlacesOf things n s p → PlacesOf things n s q → p ≡ q
places_determined {things} {n} {s} {p} {q} x y = ext_get_or 0 p q (x.inside.size ∙ sym y.inside.size) (λ i h. by i (ltb i n) refl)
  where
    at : {r : List ℕ} → PlacesOf things n s r → {i : ℕ} → i < n → drop (get_or r i 0) s ≡ get_or things i []
    at {r} z {i} l = sym (standing_at z.inside l) ∙ ap (λ (k : List (List ℤ)). get_or k i []) z.begin

    by : (i : ℕ) (t : Bool) → ltb i n ≡ t → get_or p i 0 ≡ get_or q i 0
    by i true e =
        let l : i < n = ltb-true i n e in
        same_place s (x.inside.each i l) (y.inside.each i l) (at x l ∙ sym (at y l))
    by i false e = let l : n ≤ i = ltb-false i n e in x.zeros i l ∙ sym (y.zeros i l)
