-- A record that was judged: its head, its layout and its order. Assumes nothing.
use Rattle.std.specs.Prelude.{None, Option, Some, is_some}
use mathlib.Core.Path.{◌≡◌, refl, sym, ap, ◌∙◌}
use mathlib.Core.Bool.{Bool, true, false}
use mathlib.Core.List.{List}
use Prim.Native.Nat.{ℕ}
use native.Mathlib.Omega.{arith}
use lib.IntN.{ℤ}
use lib.ListN.{take}
use lib.Signed.{non_neg}
use Rattle.rules.specs.declared.Head.{Head}
use Rattle.rules.specs.Lists.{all}
use Rattle.rules.specs.RowsInOrder.{increasing}
use Rattle.rules.specs.Layout.{sound_layout}
use Rattle.rules.specs.Soundness.{Sound}
use Rattle.rules.specs.Record.{walk, layout_by, layout_in, sound_from, sound, ordered}
use Rattle.rules.proofs.ReadBack.{layout_sound as read_sound}
use Rattle.rules.proofs.Same.{both_true}
use Rattle.rules.proofs.Walked.{one_head}
use Rattle.tables.specs.Rows.{rows_at, HasRows}
use Rattle.records.specs.Heads.{HeadOf}
use Rattle.records.specs.Judging.{Readable, ReadableRecord, fit_of, rows_increase, ReadableFit}
use Rattle.records.specs.Sound.{SoundRecord, sound_head, ReadableHead, head_found, order_found, Found}
use Rattle.records.proofs.Fits.{unfit_told, fit_told}
use Rattle.records.proofs.Walks.{walked_head}
use Rattle.records.proofs.Layouts.{Bounds, bounds, seen, layout_seen, has_rows_there}

-- ---- any record: `judged`

-- a record that cannot be walked is not sound
pub broken_unsound : (s : List ℤ) {r : (Option Head)} → r ≡ walk s → r ≡ None → sound s ≡ false
unfolding sound
broken_unsound s e f = rw (sym e ∙ f)

-- a record that is not sound is not ordered
pub unsound_order : (s : List ℤ) → sound s ≡ false → false ≡ ordered s
unfolding ordered
unsound_order s e = rw e

-- nothing is found where the record is not sound
found_nothing : (s : List ℤ) → sound s ≡ false → Found None s
unfolding sound_head
found_nothing s e = record { head = rw e; readable = tt; order = unsound_order s e }

module _ (s : List ℤ) {r : (Option Head)} (e : r ≡ walk s) where
  -- it cannot be walked
  pub found_broken : r ≡ None → Found None s
  found_broken f = found_nothing s (broken_unsound s e f)

  module _ {h : Head} (f : r ≡ Some h) where
    -- the head that was read is its head
    pub head_read : HeadOf h s
    head_read = walked_head s (sym e ∙ f)

    module _ {u : (Option Bool)} (d : u ≡ fit_of (sound_from (Some h) s) (rows_increase h s)) where
      -- it is sound by that head
      sound_walked : sound s ≡ sound_from (Some h) s
      unfolding sound
      sound_walked = rw (sym e ∙ f)

      -- it is not sound
      pub found_unfit : u ≡ None → Found None s
      found_unfit k = found_nothing s (sound_walked ∙ unfit_told _ _ (sym k ∙ d))

      -- it is sound, and its order is that of its rows
      found_fit : {o : Bool} → sound_from (Some h) s ≡ true → rows_increase h s ≡ o → Readable h s → Found (Some (h, o)) s
      unfolding sound_head ordered layout_in
      found_fit q o p =
          let judged = sound_walked ∙ q in
          record { head = rw judged (sym (sym e ∙ f)); readable = p; order = sym (rw (judged, sym e ∙ f, layout_seen p) o) }

      -- its rows are told
      pub found_told : {o : Bool} → ReadableFit u h s → u ≡ Some o → Found (Some (h, o)) s
      found_told p k = let told = fit_told _ _ (sym k ∙ d) in found_fit told.0 told.1 (rw k at p)

pub ruleset findings = (found_broken, head_read, found_unfit, found_told)

-- ---- what a head says

-- one: the record is readable
pub readable_head : {s : List ℤ} {r : (Option Head)} {h : Head} → ReadableHead r s → r ≡ Some h → Readable h s
readable_head p f = rw f at p

module _ (s : List ℤ) {r : (Option Head)} (e : r ≡ sound_head s) where
  -- none: the record is not sound
  pub no_head : r ≡ None → sound s ≡ false
  unfolding sound_head
  no_head f = by (sound s) refl
    where
      by : (t : Bool) → sound s ≡ t → sound s ≡ false
      by true q = broken_unsound s refl (rw q at (sym e ∙ f))
      by false q = q

  -- one: it is sound
  pub sound_record : {h : Head} → ReadableHead r s → r ≡ Some h → SoundRecord h s
  unfolding sound_head
  sound_record {h} p f = by (sound s) refl
    where
      by : (t : Bool) → sound s ≡ t → SoundRecord h s
      by true q = record { walked = rw q at (sym e ∙ f); judged = q; readable = readable_head p f }
      by false q = absurd (let z : ◌≡◌ {A = ℕ} 0 1 = cc (rw q at (sym e ∙ f)) in omega arith)

-- what a finding says: `sound_head`, `sound` and `ordered`
module _ {s : List ℤ} {r : (Option (Head × Bool))} (p : Found r s) where
  module _ (f : r ≡ None) where
    -- there is no head
    pub none_found : None ≡ sound_head s
    none_found = sym (ap head_found f) ∙ p.head

    -- the record is not sound
    pub found_unsound : sound s ≡ false
    found_unsound = no_head s none_found refl

  module _ {h : Head} {o : Bool} (f : r ≡ Some (h, o)) where
    -- its head
    pub head_found_lem : Some h ≡ sound_head s
    head_found_lem = sym (ap head_found f) ∙ p.head

    -- it is sound
    pub found_sound : SoundRecord h s
    found_sound = sound_record s p.head p.readable (ap head_found f)

    -- and its order
    pub order_found_lem : o ≡ ordered s
    order_found_lem = sym (ap order_found f) ∙ p.order

-- a sound record is readable by any head that is read
pub readable_record : {h : Head} {s : List ℤ} → SoundRecord h s → ReadableRecord s
readable_record r k q = rw (one_head (sym q ∙ r.walked)) r.readable

-- ---- a sound record

module _ {h : Head} {s : List ℤ} (r : SoundRecord h s) where
  -- where its sections lie
  pub lies : Bounds h s
  lies = bounds r.readable

  -- none of its numbers is negative
  pub numbers_natural : all non_neg (take h.inputs.next s) ≡ true
  unfolding sound
  numbers_natural = (both_true _ (sound_layout (layout_by h s)) (rw r.walked at r.judged)).0

  -- its layout is sound
  pub layout_sound : Sound (layout_in s)
  layout_sound = read_sound s r.judged

  -- and the one that its slice shows
  pub layout_shown : layout_in s ≡ seen h s
  unfolding layout_in
  layout_shown = rw r.walked (layout_seen r.readable)

-- ---- its order: `rows_ordered`

module _ {h : Head} {s : List ℤ} (r : SoundRecord h s) where
  -- the rows are rows of the slice
  pub sound_rows : HasRows h.rows.first h.width h.rows.count s
  sound_rows = has_rows_there r.readable

  -- their order is that of the record
  pub rows_order : {u : Bool} → u ≡ increasing (rows_at h.rows.first h.width h.rows.count s) → u ≡ ordered s
  unfolding ordered
  rows_order d = d ∙ rw (r.judged, layout_shown r)

pub ruleset orders = (sound_rows, rows_order)

-- a finding is there exactly if the record is sound
pub is_found : {s : List ℤ} (r : Option (Head × Bool)) → Found r s → is_some r ≡ sound s
is_found (Some (h, increase)) p = sym (found_sound p refl).judged
is_found None p = sym (found_unsound p refl)
