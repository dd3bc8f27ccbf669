-- Numbers and lines are written: what the library prints of a number, and what the loop knows at each turn. Assumes nothing.
use mathlib.Core.Path.{◌≡◌, refl, sym, ap, ◌∙◌}
use mathlib.Core.List.{List, [], ◌∷◌, ◌++◌}
use Prim.Native.Nat.{ℕ, zero, suc, ◌+◌, ◌*◌, ◌-◌, ◌^◌, ◌<◌, ◌≤◌}
use native.Mathlib.Numerals.{add-one}
use native.Mathlib.Omega.{arith}
use lib.IntN.{ℤ, pos, negsuc}
use lib.ListN.{length, get_or, set, drop, length-append, drop_of_length-le}
use lib.Seq.{drop-cons, drop-drop}
use lib.Signed.{mag}
use borrow.Author.Tests.{lt-ltb, le-ltb}
use borrow.Rule.Slice.PartMut.{put_mid}
use Rattle.std.specs.Fmt.{decimal, signed_decimal}
use Rattle.std.proofs.lemmas.Fmt.{AppendsLastDigit, decimal_from_appends, length-decimal-le}
use Rattle.cells.proofs.Signed.{held, back}
use Rattle.text.specs.Written.{digits_in, digits, number_text, rest_text, line_text, item_text}
use Rattle.text.specs.Placed.{put_bytes, Wrote}
use Rattle.text.proofs.Bytes.{put_one, put_behind}

-- ---- `write_number`

digits_append : AppendsLastDigit digits_in
unfolding digits_in
digits_append = record { one = λ k n h. rw (lt-ltb n 10 h); more = λ k n h. rw (le-ltb n 10 h) }

-- a number has the digits that the library prints
printed : (n : ℕ) → n ≤ 2 ^ 31 → digits n ≡ decimal n
printed n h = decimal_from_appends digits_in digits_append 10 n (omega arith) (length-decimal-le 10 n (omega arith) (omega arith) (omega arith))

pub number_printed : (z : ℤ) → mag z < 2 ^ 31 → signed_decimal z ≡ number_text z
unfolding number_text
number_printed (pos n) h = sym (printed n (omega arith))
number_printed (negsuc n) h = ap (λ (l : List ℕ). 45 ∷ l) (sym (printed (suc n) (omega arith)))

-- its text is copied to a place
pub number_wrote : (z : ℤ) (a : ℕ) (old : List ℕ) {text new : List ℕ} → mag z < 2 ^ 31 → text ≡ signed_decimal (held z) → length text ≤ 11 → new ≡ text →
    Wrote 11 a (number_text z) old (put_mid a (a + length text - a) old new) (a + length text)
unfolding put_bytes
number_wrote z a old {text} {new} m e l n =
    let is : text ≡ number_text z = e ∙ rw (back z m) (number_printed z m) in
    let size : a + length text - a ≡ length text = omega arith in
    rw (size, n, is, drop-drop) (record { short = rw is at l; end = refl; is = refl })

-- ---- `write_line`

-- the text of a line from number i on
abbrev tail_text : ℕ → List ℤ → List ℕ
tail_text zero line = line_text line
tail_text (suc i) line = rest_text line

tail_none : (i : ℕ) → tail_text i [] ≡ 10 ∷ []
unfolding line_text rest_text
tail_none zero = refl
tail_none (suc i) = refl

tail_more : (i : ℕ) (z : ℤ) (line : List ℤ) → tail_text i (z ∷ line) ≡ item_text i z ++ tail_text (suc i) line
unfolding line_text rest_text item_text
tail_more zero z line = refl
tail_more (suc i) z line = refl

-- the first i numbers are written, and writing the others behind them makes the line
pub record Lining (line : List ℤ) (a : ℕ) (old : List ℕ) (i next : ℕ) (now : List ℕ) : Type 0 where
  pub upto : i ≤ length line
  pub room : a + 12 * length line + 1 ≤ length old
  pub size : length now ≡ length old
  pub far : next ≤ a + 12 * i
  pub end : next + length (tail_text i (drop i line)) ≡ a + length (line_text line)
  pub is : put_bytes next (tail_text i (drop i line)) now ≡ put_bytes a (line_text line) old

pub line_start : {line : List ℤ} {a : ℕ} {old : List ℕ} → a + 12 * length line + 1 ≤ length old → Lining line a old 0 a old
line_start h = record { upto = omega arith; room = h; size = refl; far = omega arith; end = refl; is = refl }

module _ {line : List ℤ} {a : ℕ} {old : List ℕ} {i next : ℕ} {now : List ℕ} (l : Lining line a old i next now) where
  pub line_turn : {r : ℕ} {after : List ℕ} → i < length line → mag (get_or line i (pos 0)) < 2 ^ 31 → length after ≡ length now →
      Wrote 12 next (item_text i (held (get_or line i (pos 0)))) now after r →
      Lining line a old (i + 1) r after
  line_turn {r} {after} h m s v =
      let z : ℤ = get_or line i (pos 0) in
      let w : Wrote 12 next (item_text i z) now after r = rw (back z m) at v in
      let rest : List ℕ = tail_text (suc i) (drop (suc i) line) in
      let split : tail_text i (drop i line) ≡ item_text i z ++ rest = rw (drop-cons line i (pos 0) h) (tail_more i z (drop (suc i) line)) in
      let sum : length (tail_text i (drop i line)) ≡ length (item_text i z) + length rest = ap length split ∙ length-append (item_text i z) rest in
      let short = w.short in
      let f = l.far in
      let room = l.room in
      let size = l.size in
      let we = w.end in
      let e = l.end in
      let fits : next + length (item_text i z) ≤ length now = omega arith in
      record {
        upto = omega arith;
        room = l.room;
        size = s ∙ l.size;
        far = omega arith;
        end = rw add-one (omega arith);
        is =
            rw (add-one, w.is, w.end, put_behind next (length (item_text i z)) (item_text i z) rest now refl fits, ← split) l.is;
      }

  pub line_done : length line ≤ i → Wrote (12 * length line + 1) a (line_text line) old (set now next 10) (next + 1)
  line_done h =
      let none : tail_text i (drop i line) ≡ 10 ∷ [] = rw (drop_of_length-le line h) (tail_none i) in
      let sum : length (tail_text i (drop i line)) ≡ 1 = ap length none in
      let f = l.far in
      let room = l.room in
      let size = l.size in
      let e = l.end in
      let u = l.upto in
      record {
        short = omega arith;
        end = omega arith;
        is = put_one next 10 now (omega arith) ∙ (rw none at l.is);
      }

pub ruleset laws = (line_start, line_turn, line_done)
