-- What a record that was walked to its end says. Assumes nothing.
use Rattle.std.specs.Prelude.{None, Option, Some}
use mathlib.Core.Path.{◌≡◌, refl}
use mathlib.Core.Bool.{Bool, true, false}
use mathlib.Core.List.{List}
use Prim.Native.Nat.{ℕ, ◌+◌, ◌*◌, ◌≤◌}
use native.Mathlib.Omega.{arith}
use borrow.Author.Tests.{leb-true}
use lib.Dec.{leb}
use lib.IntN.{ℤ, pos, negsuc, ◌-ℤ◌}
use lib.ListN.{length, get_or}
use Rattle.rules.specs.declared.Entries.{Entries}
use Rattle.rules.specs.declared.Head.{Head}
use Rattle.rules.specs.Lists.{if}
use Rattle.rules.specs.Record.{entries_from, section_at, after, width_by, walk}

-- ---- a section

-- a section that was walked: its count stands at i, and its entries of w numbers each end in the slice
pub record Lies (i w : ℕ) (s : List ℤ) (e : Entries) : Type 0 where
  pub count : get_or s i (negsuc 0) ≡ pos e.count
  pub first : e.first ≡ i + 1
  pub next : e.next ≡ i + 1 + e.count * w
  pub room : e.next ≤ length s

-- entries that are whole by a test passed it
pub passed : (t : Bool) {e f : Entries} → if t (Some e) None ≡ Some f → (t ≡ true) × (e ≡ f)
passed true p = (refl, cc)
passed false p = (cc, cc)

-- a whole section lies in the slice
pub lies : (i w : ℕ) (s : List ℤ) (e : Entries) → section_at i w s ≡ Some e → Lies i w s e
unfolding section_at entries_from
lies i w s e p = by (get_or s i (negsuc 0)) refl p
  where
    by : (z : ℤ) → get_or s i (negsuc 0) ≡ z → entries_from (length s) w (i + 1) z ≡ Some e → Lies i w s e
    by (pos n) f q =
        let t = passed (leb (i + 1 + n * w) (length s)) q in
        rw (← t.1) (record { count = f; first = refl; next = refl; room = leb-true (i + 1 + n * w) (length s) t.0 })
    by (negsuc n) f q = absurd (let z : ◌≡◌ {A = ℕ} 0 1 = cc q in omega arith)

-- ---- a record

-- what a walked record says: kind and D stand in front, and the sections follow one another
pub record Walked (s : List ℤ) (h : Head) : Type 0 where
  pub kind : h.kind ≡ get_or s 0 (pos 0)
  pub dense : h.dense ≡ get_or s 1 (pos 0)
  pub extents : Entries
  pub rank : h.rank ≡ extents.count
  pub width : pos h.rank -ℤ h.dense ≡ pos h.width
  pub shape_lies : Lies 2 1 s extents
  pub rows_lie : Lies extents.next h.width s h.rows
  pub states_lie : Lies h.rows.next (h.rank + 1) s h.states
  pub inputs_lie : Lies h.states.next (h.rank + 1) s h.inputs

-- a walk to its end goes on behind each section
past : {C : Type 0} (g : Option Entries) (next : Entries → (Option Head)) (h : Head) → after g next ≡ Some h → ((e : Entries) → g ≡ Some e → next e ≡ Some h → C) → C
past (Some e) next h p f = f e refl p
past None next h p f = absurd (let z : ◌≡◌ {A = ℕ} 0 1 = cc p in omega arith)

-- and with a width
past_width : {C : Type 0} (z : ℤ) (next : ℕ → (Option Head)) (h : Head) → width_by z next ≡ Some h → ((w : ℕ) → z ≡ pos w → next w ≡ Some h → C) → C
past_width (pos w) next h p f = f w refl p
past_width (negsuc n) next h p f = absurd (let z : ◌≡◌ {A = ℕ} 0 1 = cc p in omega arith)

-- it has one head
pub one_head : {h k : Head} → Some h ≡ Some k → h ≡ k
one_head e = cc

-- a walked record is what its head says
pub walked : (s : List ℤ) (h : Head) → walk s ≡ Some h → Walked s h
unfolding walk
walked s h p =
    past (section_at 2 1 s) _ h p λ extents a p.
    past_width (pos extents.count -ℤ get_or s 1 (pos 0)) _ h p λ w v p.
    past (section_at extents.next w s) _ h p λ rows b p.
    past (section_at rows.next (extents.count + 1) s) _ h p λ states c p.
    past (section_at states.next (extents.count + 1) s) _ h p λ inputs d p.
    rw (← one_head p)
    (record {
      kind = refl;
      dense = refl;
      extents = extents;
      rank = refl;
      width = v;
      shape_lies = lies 2 1 s extents a;
      rows_lie = lies extents.next w s rows b;
      states_lie = lies rows.next (extents.count + 1) s states c;
      inputs_lie = lies states.next (extents.count + 1) s inputs d;
    })
