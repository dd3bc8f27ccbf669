-- What was written reads back as it was. Assumes nothing.
use mathlib.Core.Path.{◌≡◌, refl, ap, ◌∙◌}
use mathlib.Core.Bool.{Bool, true, false}
use mathlib.Core.List.{List, [], ◌∷◌, ◌++◌, append_assoc, append-nil}
use Prim.Native.Nat.{ℕ, zero, suc, ◌+◌, ◌*◌, ◌-◌, ◌/◌, ◌%◌, ◌^◌, ◌<◌, ◌≤◌}
use native.Mathlib.Nat.{pow-suc, mod-lt, div-add-mod', div-lt_iff_lt-mul}
use native.Mathlib.Omega.{arith}
use lib.Dec.{eqb, leb, ltb}
use lib.IntN.{ℤ, pos, negsuc}
use lib.ListN.{length, get_or, length-append}
use lib.Signed.{mag}
use borrow.Author.Tests.{leb-true, ltb-true, lt-ltb, le-leb, ne_eqb}
use Rattle.rules.specs.Lists.{if, all, none}
use Rattle.rules.proofs.Same.{both_true}
use Rattle.rules.proofs.Tests.{true_both, all_append}
use Rattle.text.specs.Read.{numbers, is_gap, is_digit, is_number, value_from, word_of, word_end, both, read_from, read_text}
use Rattle.text.specs.Written.{digits_in, digits, number_text, rest_text, line_text}

-- ---- digits

module _ (b : ℕ) (h : is_digit b ≡ true) where
  from_zero : 48 ≤ b
  from_zero = leb-true 48 b (both_true (leb 48 b) (leb b 57) h).0

  digit_no_gap : is_gap b ≡ false
  digit_no_gap = let l = from_zero in rw (ne_eqb b 32 (λ e. omega arith), ne_eqb b 10 (λ e. omega arith))

  digit_no_minus : eqb b 45 ≡ false
  digit_no_minus = let l = from_zero in ne_eqb b 45 (λ e. omega arith)

is_digit_lem : (d : ℕ) → d < 10 → is_digit (48 + d) ≡ true
is_digit_lem d h = rw (le-leb 48 (48 + d) (omega arith), le-leb (48 + d) 57 (omega arith))

value_append : (v : ℕ) (s t : List ℕ) → value_from v (s ++ t) ≡ value_from (value_from v s) t
unfolding value_from
value_append v [] t = refl
value_append v (b ∷ s) t = value_append (v * 10 + (b - 48)) s t

-- the digits of a number: all are, there is one, and their value is the number
record Spells (n : ℕ) (text : List ℕ) : Type 0 where
  some : 1 ≤ length text
  only : all is_digit text ≡ true
  value : value_from 0 text ≡ n

spells_one : (n : ℕ) → n < 10 → Spells n ((48 + n) ∷ [])
unfolding all value_from
spells_one n h = record { some = omega arith; only = rw (is_digit_lem n h); value = omega arith }

spells_more : (n : ℕ) (text : List ℕ) → Spells (n / 10) text → Spells n (text ++ ((48 + n % 10) ∷ []))
unfolding all value_from
spells_more n text s =
    let low : n % 10 < 10 = mod-lt n (omega arith) in
    let last : all is_digit ((48 + n % 10) ∷ []) ≡ true = rw (is_digit_lem (n % 10) low) in
    let size = s.some in
    record {
      some = simp length-append (omega arith);
      only = all_append is_digit text ((48 + n % 10) ∷ []) ∙ true_both s.only last;
      value = value_append 0 text ((48 + n % 10) ∷ []) ∙ rw s.value (omega (arith, div-add-mod' n 10));
    }

spells : (more n : ℕ) → n < 10 ^ suc more → Spells n (digits_in (suc more) n)
unfolding digits_in
spells zero n h = rw (lt-ltb n 10 (omega arith)) (spells_one n (omega arith))
spells (suc more) n h = go (ltb n 10) refl (spells more (n / 10) low)
  where
    ten : 0 < 10
    ten = omega arith

    low : n / 10 < 10 ^ suc more
    low = (div-lt_iff_lt-mul {k = 10} {x = n} {y = 10 ^ suc more} ten).1 (rw (pow-suc 10 (suc more)) at h)

    go : (t : Bool) → ltb n 10 ≡ t → Spells (n / 10) (digits_in (suc more) (n / 10)) →
        Spells n (if t ((48 + n) ∷ []) (digits_in (suc more) (n / 10) ++ ((48 + n % 10) ∷ [])))
    go true e s = spells_one n (ltb-true n 10 e)
    go false e s = spells_more n (digits_in (suc more) (n / 10)) s

digits_spell : (n : ℕ) → n ≤ 2 ^ 31 → Spells n (digits n)
digits_spell n h = spells 9 n (omega arith)

-- ---- words

-- digits pass into the word that was begun
passed : (word text rest : List ℕ) → all is_digit text ≡ true → read_from word (text ++ rest) ≡ read_from (word ++ text) rest
unfolding read_from all
passed word [] rest h = rw append-nil
passed word (b ∷ text) rest h =
    let here = both_true (is_digit b) (all is_digit text) h in
    rw (digit_no_gap b here.0, passed (word ++ (b ∷ [])) text rest here.1) (rw (append_assoc word (b ∷ []) text))

number_passed : (z : ℤ) (rest : List ℕ) → mag z < 2 ^ 31 → read_from [] (number_text z ++ rest) ≡ read_from (number_text z) rest
unfolding number_text
number_passed (pos n) rest h = passed [] (digits n) rest (digits_spell n (omega arith)).only
number_passed (negsuc n) rest h = unfold read_from in passed (45 ∷ []) (digits (suc n)) rest (digits_spell (suc n) (omega arith)).only

-- the digits of a number within a limit are a number
is_number_lem : {limit n : ℕ} (text : List ℕ) → Spells n text → n ≤ limit → is_number limit text ≡ true
is_number_lem {limit} {n} text s h = rw (le-leb 1 (length text) s.some, s.only, s.value, le-leb n limit h)

natural_word_lem : (n : ℕ) (text : List ℕ) → Spells n text → n ≤ 2 ^ 31 - 1 → word_end text ≡ numbers (pos n ∷ [])
unfolding word_of none all
natural_word_lem n [] s h = absurd (let l = s.some in omega arith)
natural_word_lem n (b ∷ text) s h =
    let here = both_true (is_digit b) (all is_digit text) s.only in
    rw (digit_no_minus b here.0, is_number_lem (b ∷ text) s h, s.value)

number_word : (z : ℤ) → mag z < 2 ^ 31 → word_end (number_text z) ≡ numbers (z ∷ [])
unfolding number_text word_of none
number_word (pos n) h = natural_word_lem n (digits n) (digits_spell n (omega arith)) (omega arith)
number_word (negsuc n) h =
    let s = digits_spell (suc n) (omega arith) in rw (is_number_lem {limit = 2 ^ 31} (digits (suc n)) s (omega arith), s.value)

-- ---- lines

-- every number is one of 32 bits
abbrev pub Bits32 : List ℤ → Type 0
Bits32 line = (k : ℕ) → mag (get_or line k (pos 0)) < 2 ^ 31

-- one number more in front, given what the others say
number_back_lem : (z : ℤ) (line : List ℤ) → mag z < 2 ^ 31 → read_from (number_text z) (rest_text line) ≡ both (word_end (number_text z)) (numbers line) →
    read_from [] (number_text z ++ rest_text line) ≡ numbers (z ∷ line)
number_back_lem z line h others = number_passed z (rest_text line) h ∙ others ∙ rw (number_word z h)

-- the numbers behind a word
rest_back : (word : List ℕ) (line : List ℤ) → Bits32 line → read_from word (rest_text line) ≡ both (word_end word) (numbers line)
unfolding read_from rest_text none
rest_back word [] h = refl
rest_back word (z ∷ line) h = ap (both (word_end word)) (number_back_lem z line (h 0) (rest_back (number_text z) line (λ k. h (suc k))))

-- the text of a line has its numbers
pub line_back : (line : List ℤ) → Bits32 line → read_text (line_text line) ≡ numbers line
unfolding read_from line_text none
line_back [] h = refl
line_back (z ∷ line) h = number_back_lem z line (h 0) (rest_back (number_text z) line (λ k. h (suc k)))
