-- A counted section that stands at a place of a slice is walked, read and left behind as what it is. Assumes nothing.
use Rattle.std.specs.Prelude.{Some}
use mathlib.Core.Path.{◌≡◌, refl, sym, ap, ◌∙◌}
use mathlib.Core.Bool.{true}
use mathlib.Core.List.{List, [], ◌∷◌, ◌++◌, map, append_assoc, map-append}
use Prim.Native.Nat.{ℕ, zero, suc, min, ◌+◌, ◌-◌, ◌*◌, ◌≤◌}
use native.Mathlib.Nat.{zero-mul, suc-mul, add-zero}
use native.Mathlib.Omega.{arith}
use borrow.Author.Tests.{le-leb}
use lib.IntN.{ℤ, pos, negsuc}
use lib.ListN.{length, get_or, drop, replicate, length-append, length-drop, length-map}
use lib.Seq.{take_at, drop_at, drop-drop, get_or-drop}
use lib.Signed.{non_neg}
use Rattle.rules.specs.Limits.{entry_limit}
use Rattle.rules.specs.Lists.{all, gather}
use Rattle.rules.specs.Buffers.{part}
use Rattle.rules.specs.RowsInOrder.{Each}
use Rattle.rules.specs.Record.{entries_from, section_at, natural, naturals, rows_of, entries_of}
use Rattle.rules.proofs.Sets.{each_head, each_tail}

-- ---- natural numbers in a slice

-- natural numbers are read back
pub naturals_pos : (l : List ℕ) → naturals (map pos l) ≡ l
unfolding natural
naturals_pos [] = refl
naturals_pos (n ∷ l) = ap (λ (t : List ℕ). n ∷ t) (naturals_pos l)

-- none of them is negative
pub all_pos : (l : List ℕ) → all non_neg (map pos l) ≡ true
unfolding all
all_pos [] = refl
all_pos (n ∷ l) = all_pos l

-- ---- rows end to end

-- rows of w numbers each are so many numbers
pub length_gather : (w : ℕ) (t : List (List ℕ)) → Each (λ r. length r ≡ w) t → length (gather (λ e. e) t) ≡ length t * w
unfolding gather
length_gather w [] f = rw zero-mul
length_gather w (r ∷ t) f = rw (length-append, each_head f, length_gather w t (each_tail f), suc-mul) (omega arith)

-- rows of w numbers each are read back
rows_gather : (w : ℕ) (t : List (List ℕ)) (q : List ℕ) → Each (λ r. length r ≡ w) t → rows_of w (length t) (gather (λ e. e) t ++ q) ≡ t
unfolding gather rows_of
rows_gather w [] q f = refl
rows_gather w (r ∷ t) q f =
    let n = each_head f in
    rw (append_assoc, take_at r _ w n, drop_at r _ w n, rows_gather w t q (each_tail f))

-- rows of no numbers are all alike
empty_rows : (t : List (List ℕ)) → Each (λ r. length r ≡ 0) t → replicate (length t) [] ≡ t
empty_rows [] f = refl
empty_rows ([] ∷ t) f = rw (empty_rows t (each_tail f))
empty_rows ((x ∷ r) ∷ t) f = let n = each_head f in absurd (omega arith)

-- at most 128 rows of w numbers each are read back, also where w is 0
pub entries_gather : (w : ℕ) (t : List (List ℕ)) (q : List ℕ) → Each (λ r. length r ≡ w) t → length t ≤ entry_limit → entries_of w (length t) (gather (λ e. e) t ++ q) ≡ t
unfolding entries_of
entries_gather zero t q f h = let all : min (length t) 129 ≡ length t = omega arith in rw all (empty_rows t f)
entries_gather (suc w) t q f h = rows_gather (suc w) t q f

-- ---- a section at a place

-- a part is what stands there
pub part_at : {A : Type 0} (a n : ℕ) (s p q : List A) → drop a s ≡ p ++ q → length p ≡ n → part a n s ≡ p
unfolding part
part_at a n s p q e h = rw e (take_at p q n h)

-- the count n and the numbers of n entries of w numbers each stand at i, and q behind them
pub record Stands (i w n : ℕ) (body : List ℕ) (s q : List ℤ) : Type 0 where
  pub is : drop i s ≡ map pos (n ∷ body) ++ q
  pub size : length body ≡ n * w

module _ {i w n : ℕ} {body : List ℕ} {s q : List ℤ} (h : Stands i w n body s q) where
  -- they end in the slice
  pub section_room : i + 1 + n * w ≤ length s
  section_room =
      let sizes : length s - i ≡ suc (length body + length q) = sym (length-drop i s) ∙ ap length h.is ∙ simp (length-append, length-map) (omega arith) in
      omega arith

  -- they are walked
  pub section_at_lem : section_at i w s ≡ Some (record { count = n; first = i + 1; next = i + 1 + n * w })
  unfolding section_at entries_from
  section_at_lem =
      let count : get_or s i (negsuc 0) ≡ pos n = rw add-zero at (sym (get_or-drop i s 0 (negsuc 0))) ∙ rw h.is in
      rw (count, le-leb (i + 1 + n * w) (length s) section_room)

  -- the part from i to their end is the section
  pub section_part : (m : ℕ) → i + m ≡ i + 1 + n * w → part i m s ≡ map pos (n ∷ body)
  section_part m e = part_at i m s (map pos (n ∷ body)) q h.is (simp length-map (omega (arith, h.size)))

  -- its numbers stand behind the count
  pub section_body : drop (i + 1) s ≡ map pos body ++ q
  section_body = rw (← drop-drop 1 i s, h.is)

  -- the section is left behind
  pub section_behind : drop (i + 1 + n * w) s ≡ q
  section_behind = rw (← drop-drop (n * w) (i + 1) s, section_body) (drop_at (map pos body) q (n * w) (rw length-map h.size))

-- the section of the rows t, of w numbers each, stands at i, and q behind it
abbrev pub RowsStand : ℕ → ℕ → List (List ℕ) → List ℤ → List ℤ → Type 0
RowsStand i w t s q = Stands i w (length t) (gather (λ e. e) t) s q

-- rows that stand there are read back
pub rows_read : {i w v : ℕ} {t : List (List ℕ)} {s q : List ℤ} → RowsStand i w t s q → Each (λ r. length r ≡ v) t → length t ≤ entry_limit → entries_of v (length t) (naturals (drop (i + 1) s)) ≡ t
rows_read {v} {t} {q} h f n = rw (section_body h, map-append, naturals_pos) (entries_gather v t (naturals q) f n)
