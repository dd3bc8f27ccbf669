-- A slice of which only a part was written: what lies outside that part is as it was. Assumes nothing.
use mathlib.Core.Path.{◌≡◌, refl, sym, ap, ◌∙◌}
use mathlib.Core.List.{List}
use mathlib.Core.Logic.{◌⊎◌, inl, inr, ⊎_elim}
use Prim.Native.Nat.{ℕ, ◌+◌, ◌*◌, ◌-◌, ◌<◌, ◌≤◌}
use native.Mathlib.Nat.{mul-le-mul_right}
use native.Mathlib.Omega.{arith}
use lib.IntN.{ℤ, pos}
use lib.ListN.{length, get_or, set, take, drop, length-set}
use lib.Seq.{take-take, drop-drop, take-set-le, drop-set-lt, get_or-take, get_or-drop}
use Rattle.rules.specs.Buffers.{part, put}
use Rattle.rules.specs.Record.{rows_of}
use Rattle.rules.proofs.Buffers.{length_put, take_put, drop_put, part_take}
use Rattle.cells.specs.View.{code, view}
use Rattle.cells.proofs.View.{view_get_or, view_part}
use Rattle.tables.specs.Rows.{row_at, rows_at, HasRow, HasRows}
use Rattle.tables.specs.Tables.{table_at, room_end, Only, Fits, Ready}
use Rattle.tables.proofs.Rows.{rows_part}

-- ---- what was written

-- nothing
pub only_same : (a e : ℕ) (s : List ℤ) → Only a e s s
only_same a e s = record { size = refl; before = refl; behind = refl }

-- one time and then another
pub only_then : {a e : ℕ} {s t u : List ℤ} → Only a e s t → Only a e t u → Only a e s u
only_then p q = record { size = q.size ∙ p.size; before = q.before ∙ p.before; behind = q.behind ∙ p.behind }

-- numbers from a on
pub only_put : (a : ℕ) (new old : List ℤ) → a + length new ≤ length old → Only a (a + length new) old (put a new old)
only_put a new old h = record {
  size = length_put a new old h;
  before = take_put a new old (omega arith) a (omega arith);
  behind = drop_put a new old (omega arith) (a + length new) (omega arith);
}

-- one number
pub only_set : (a : ℕ) (z : ℤ) (s : List ℤ) → Only a (a + 1) s (set s a z)
only_set a z s = record {
  size = length-set s a z;
  before = take-set-le a s a z (omega arith);
  behind = drop-set-lt (a + 1) s a z (omega arith);
}

-- what is the same up to q is the same up to p
sooner : {A : Type 0} (p q : ℕ) (s t : List A) → p ≤ q → take q t ≡ take q s → take p t ≡ take p s
sooner p q s t h e = sym (take-take p q t h) ∙ ap (take p) e ∙ take-take p q s h

-- two slices that agree behind p agree behind every later place
later : {A : Type 0} (p q : ℕ) (s t : List A) → p ≤ q → drop p t ≡ drop p s → drop q t ≡ drop q s
later {A} p q s t h e =
    let k : p + (q - p) ≡ q = omega arith in
    rw k at (sym (drop-drop (q - p) p t) ∙ ap (drop (q - p)) e ∙ drop-drop (q - p) p s)

-- a part of a larger one
pub only_wider : {a e : ℕ} {s t : List ℤ} → Only a e s t → (b f : ℕ) → b ≤ a → e ≤ f → Only b f s t
only_wider {a} {e} {s} {t} o b f h k = record { size = o.size; before = sooner b a s t h o.before; behind = later e f s t k o.behind }

-- ---- what lies outside

module _ {a e : ℕ} {s t : List ℤ} (o : Only a e s t) where
  -- a number
  pub number_outside : (i : ℕ) (z : ℤ) → (i < a) ⊎ (e ≤ i) → get_or t i z ≡ get_or s i z
  number_outside i z d =
      ⊎_elim (λ h. sym (get_or-take a t i z h) ∙ ap (λ (l : List ℤ). get_or l i z) o.before ∙ get_or-take a s i z h)
      (λ h.
      let k : e + (i - e) ≡ i = omega arith in
      rw k at (sym (get_or-drop e t (i - e) z) ∙ ap (λ (l : List ℤ). get_or l (i - e) z) o.behind ∙ get_or-drop e s (i - e) z))
      d

  -- a number of the view
  pub view_outside : (i : ℕ) → (i < a) ⊎ (e ≤ i) → get_or (view t) i 0 ≡ get_or (view s) i 0
  view_outside i d = view_get_or t i ∙ ap code (number_outside i (pos 0) d) ∙ sym (view_get_or s i)

  -- some numbers
  pub part_outside : (p n : ℕ) → (p + n ≤ a) ⊎ (e ≤ p) → part p n t ≡ part p n s
  unfolding part
  part_outside p n d =
      ⊎_elim (λ h. part_take p n t ∙ ap (drop p) (sooner (p + n) a s t h o.before) ∙ sym (part_take p n s))
      (λ h. ap (take n) (later e p s t h o.behind))
      d

  -- a row
  pub row_outside : (p w : ℕ) → (p + w ≤ a) ⊎ (e ≤ p) → row_at p w t ≡ row_at p w s
  row_outside p w d = sym (view_part p w t) ∙ ap view (part_outside p w d) ∙ view_part p w s

  -- some rows
  pub rows_outside : (p w n : ℕ) → (p + n * w ≤ a) ⊎ (e ≤ p) → rows_at p w n t ≡ rows_at p w n s
  rows_outside p w n d =
      rows_part p w n t ∙ ap (λ (l : List ℤ). rows_of w n (view l)) (part_outside p (n * w) d) ∙ sym (rows_part p w n s)

  -- a row that can be compared
  pub has_row_outside : {p w : ℕ} → HasRow p w s → (p + w ≤ a) ⊎ (e ≤ p) → HasRow p w t
  has_row_outside {p} {w} r d = record { room = rw o.size r.room; low = rw (row_outside p w d) r.low }

  -- rows that can be compared
  pub has_rows_outside : {p w n : ℕ} → HasRows p w n s → (p + n * w ≤ a) ⊎ (e ≤ p) → HasRows p w n t
  has_rows_outside {p} {w} {n} r d = record { room = rw o.size r.room; low = rw (rows_outside p w n d) r.low }

  module _ (p w : ℕ) (few : get_or (view s) p 0 ≤ 128) (d : (room_end p w ≤ a) ⊎ (e ≤ p)) where
    -- the count of a table
    pub count_outside : get_or (view t) p 0 ≡ get_or (view s) p 0
    count_outside = view_outside p (⊎_elim (λ h. inl (omega arith)) inr d)

    -- a table
    pub table_outside : table_at p w t ≡ table_at p w s
    unfolding table_at
    table_outside =
        let n : ℕ = get_or (view s) p 0 in
        let small : n * w ≤ 128 * w = mul-le-mul_right w few in
        rw count_outside (rows_outside (p + 1) w n (⊎_elim (λ h. inl (omega arith)) (λ h. inr (omega arith)) d))

  -- a table that fits its room
  pub fits_outside : {p w : ℕ} → Fits p w s → (room_end p w ≤ a) ⊎ (e ≤ p) → Fits p w t
  fits_outside {p} {w} f d = record {
    room = rw o.size f.room;
    few = rw (count_outside p w f.few d) f.few;
    low = rw (table_outside p w f.few d) f.low;
  }

  -- a table that increases
  pub ready_outside : {p w : ℕ} → Ready p w s → (room_end p w ≤ a) ⊎ (e ≤ p) → Ready p w t
  ready_outside {p} {w} r d = record {
    fits = fits_outside r.fits d;
    increasing = rw (table_outside p w r.fits.few d) r.increasing;
  }
