-- Numbers that are read as natural ones, and rows of them. Assumes nothing.
use mathlib.Core.Path.{◌≡◌, refl, ap, sym, ◌∙◌}
use mathlib.Core.Bool.{Bool, true}
use mathlib.Core.List.{List, [], ◌∷◌, map}
use Prim.Native.Nat.{ℕ, zero, suc, ◌+◌, ◌*◌, ◌≤◌, ◌<◌}
use native.Mathlib.Nat.{zero-mul, suc-mul, add_comm}
use native.Mathlib.Omega.{arith}
use lib.IntN.{ℤ, pos, negsuc}
use lib.ListN.{length, get_or, take, drop, length-drop}
use lib.Seq.{length-take-le, take-add, take-take, drop-drop}
use lib.Signed.{non_neg}
use Rattle.rules.specs.Lists.{all, gather}
use Rattle.rules.specs.Buffers.{part}
use Rattle.rules.specs.RowsInOrder.{Each}
use Rattle.rules.specs.Record.{natural, naturals, rows_of}
use Rattle.rules.proofs.Same.{both_true}
use Rattle.rules.proofs.Sets.{each_nil, each_cons}
use Rattle.rules.proofs.Buffers.{part_take}

-- ---- numbers that are not negative

-- where all elements pass, those of the front do
all_front : {A : Type 0} (test : A → Bool) (n : ℕ) (l : List A) → all test l ≡ true → all test (take n l) ≡ true
unfolding all
all_front test zero l e = refl
all_front test (suc n) [] e = refl
all_front test (suc n) (x ∷ l) e = let h = both_true (test x) (all test l) e in rw h.0 (all_front test n l h.1)

-- and those of the end
all_end : {A : Type 0} (test : A → Bool) (n : ℕ) (l : List A) → all test l ≡ true → all test (drop n l) ≡ true
unfolding all
all_end test zero l e = e
all_end test (suc n) [] e = refl
all_end test (suc n) (x ∷ l) e = all_end test n l (both_true (test x) (all test l) e).1

-- and those of a part of the front
pub all_part : {A : Type 0} (test : A → Bool) (a n m : ℕ) (l : List A) → a + n ≤ m → all test (take m l) ≡ true → all test (part a n l) ≡ true
all_part test a n m l h e =
    rw (part_take, ← take-take (a + n) m l h) (all_end test a (take (a + n) (take m l)) (all_front test (a + n) (take m l) e))

-- a number that is not negative is the natural one that is read
pos_natural : (z : ℤ) → non_neg z ≡ true → pos (natural z) ≡ z
unfolding natural
pos_natural (pos n) e = refl
pos_natural (negsuc n) e = cc

-- and so are several
pub pos_naturals : (l : List ℤ) → all non_neg l ≡ true → map pos (naturals l) ≡ l
unfolding all
pos_naturals [] e = refl
pos_naturals (z ∷ l) e = let h = both_true (non_neg z) (all non_neg l) e in rw (pos_natural z h.0, pos_naturals l h.1)

-- the front of what is read is what is read of the front
pub naturals_take : (n : ℕ) (l : List ℤ) → take n (naturals l) ≡ naturals (take n l)
naturals_take zero l = refl
naturals_take (suc n) [] = refl
naturals_take (suc n) (z ∷ l) = rw (naturals_take n l)

-- and so is its end
pub naturals_drop : (n : ℕ) (l : List ℤ) → drop n (naturals l) ≡ naturals (drop n l)
naturals_drop zero l = refl
naturals_drop (suc n) [] = refl
naturals_drop (suc n) (z ∷ l) = naturals_drop n l

-- ---- rows that are read

-- there are as many as asked for
pub rows_length : (w n : ℕ) (l : List ℕ) → length (rows_of w n l) ≡ n
unfolding rows_of
rows_length w zero l = refl
rows_length w (suc n) l = ap suc (rows_length w n (drop w l))

-- where the list is long enough, each has w numbers
pub rows_of_width : (w n : ℕ) (l : List ℕ) → n * w ≤ length l → Each (λ r. length r ≡ w) (rows_of w n l)
unfolding rows_of
rows_of_width w zero l h = each_nil _
rows_of_width w (suc n) l h =
    let size : suc n * w ≡ w + n * w = omega (arith, suc-mul n w) in
    let rest : n * w ≤ length (drop w l) = rw length-drop (omega arith) in
    each_cons (length-take-le w l (omega arith)) (rows_of_width w n (drop w l) rest)

-- row i is the part that starts i rows on
pub rows_row : (w n i : ℕ) (l : List ℕ) → i < n → get_or (rows_of w n l) i [] ≡ part (i * w) w l
unfolding rows_of part
rows_row w zero i l h = absurd (omega arith)
rows_row w (suc n) zero l h = rw zero-mul
rows_row w (suc n) (suc i) l h =
    let e : w + i * w ≡ suc i * w = omega (arith, suc-mul i w) in
    rows_row w n i (drop w l) (omega arith) ∙ rw (drop-drop (i * w) w l, e)

-- what stands behind them does not matter
pub rows_cut : (w n : ℕ) (l : List ℕ) → rows_of w n (take (n * w) l) ≡ rows_of w n l
unfolding rows_of
rows_cut w zero l = refl
rows_cut w (suc n) l =
    let e : suc n * w ≡ w + n * w = omega (arith, suc-mul n w) in
    let rest : drop w (take (w + n * w) l) ≡ take (n * w) (drop w l) = unfold part in sym (part_take w (n * w) l) in
    rw (e, take-take w (w + n * w) l (omega arith), rest, rows_cut w n (drop w l))

-- their numbers are the front
pub gather_rows : (w n : ℕ) (l : List ℕ) → gather (λ e. e) (rows_of w n l) ≡ take (n * w) l
unfolding rows_of gather
gather_rows w zero l = rw zero-mul
gather_rows w (suc n) l = rw (suc-mul, add_comm (n * w) w, take-add, gather_rows w n (drop w l))
