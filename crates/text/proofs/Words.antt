-- A word read byte by byte says what the whole word says. Assumes nothing.
use mathlib.Core.Path.{◌≡◌, refl, sym, ◌∙◌}
use mathlib.Core.Bool.{Bool, true, false, ◌&&◌}
use mathlib.Core.List.{List, [], ◌∷◌, ◌++◌}
use Prim.Native.Nat.{ℕ, suc, ◌+◌, ◌*◌, ◌-◌, ◌^◌, ◌<◌, ◌≤◌}
use native.Mathlib.Omega.{arith}
use lib.Dec.{eqb, leb}
use lib.IntN.{ℤ, pos, neg_ℤ}
use lib.ListN.{length}
use borrow.Author.Tests.{leb-false, le-leb, lt-leb}
use Rattle.rules.specs.Lists.{if, all, none}
use Rattle.text.specs.declared.Word.{Word}
use Rattle.text.specs.declared.Word.TheVariants.{Nothing, Minus, Natural, Negative, Broken}
use Rattle.text.specs.Read.{Reading, numbers, other, is_digit, is_number, value_from, word_of, word_end, read_from, read_text}
use Rattle.text.specs.Words.{grown_of, within, natural_word, next_of, ending, read_on}

-- a word after more bytes
unfoldable runs : Word → List ℕ → Word
runs word [] = word
runs word (b ∷ more) = runs (next_of word b) more

runs_none : runs Nothing [] ≡ Nothing
unfolding runs
runs_none = refl

-- one byte more at the end
runs_more : (word : Word) (more : List ℕ) (b : ℕ) → runs word (more ++ (b ∷ [])) ≡ next_of (runs word more) b
unfolding runs
runs_more word [] b = refl
runs_more word (x ∷ more) b = runs_more (next_of word x) more b

-- a broken word stays so
runs_broken : (more : List ℕ) → runs Broken more ≡ Broken
unfolding runs next_of
runs_broken [] = refl
runs_broken (b ∷ more) = runs_broken more

-- more digits make no value less
value_grows : (v : ℕ) (more : List ℕ) → v ≤ value_from v more
unfolding value_from
value_grows v [] = omega arith
value_grows v (b ∷ more) = let h = value_grows (v * 10 + (b - 48)) more in omega arith

-- the number that a value makes, if all were digits and the value is within the limit
abbrev said : (ℕ → ℤ) → ℕ → Bool → ℕ → Reading
said make limit digits v = if (digits && leb v limit) (numbers (make v ∷ [])) other

said_above : (make : ℕ → ℤ) (limit : ℕ) (digits : Bool) (v : ℕ) → limit < v → said make limit digits v ≡ other
said_above make limit true v h = rw (lt-leb v limit h)
said_above make limit false v h = refl

-- words of one kind: of digits, or of a minus and digits
module _ (kind : ℕ → Word) (make : ℕ → ℤ) (limit : ℕ) (low : limit ≤ 2 ^ 31)
    (ends : (v : ℕ) → ending (kind v) ≡ numbers (make v ∷ []))
    (goes_on : (v b : ℕ) → next_of (kind v) b ≡ within kind limit (grown_of v b)) where
  -- a word that ends at once
  at_once : (v : ℕ) (t : Bool) → ending (if t (kind v) Broken) ≡ if t (numbers (make v ∷ [])) other
  unfolding ending
  at_once v true = ends v
  at_once v false = refl

  -- one byte first, given what the others say
  first : (v b : ℕ) (more : List ℕ) → ((u : ℕ) → ending (runs (within kind limit u) more) ≡ said make limit (all is_digit more) (value_from u more)) →
      (t : Bool) →
      ending (runs (within kind limit (if t (v * 10 + (b - 48)) (2 ^ 31 + 1))) more)
      ≡ said make limit (t && all is_digit more) (value_from (v * 10 + (b - 48)) more)
  first v b more others true = others (v * 10 + (b - 48))
  first v b more others false =
      let h = value_grows (2 ^ 31 + 1) more in
      others (2 ^ 31 + 1) ∙ said_above make limit (all is_digit more) (value_from (2 ^ 31 + 1) more) (omega arith)

  -- one byte first, within the limit or above it
  then : (v b : ℕ) (more : List ℕ) → ending (runs (within kind limit (grown_of v b)) more) ≡ said make limit (is_digit b && all is_digit more) (value_from (v * 10 + (b - 48)) more) →
      (t : Bool) → leb v limit ≡ t →
      ending (runs (if t (kind v) Broken) (b ∷ more)) ≡ said make limit (is_digit b && all is_digit more) (value_from (v * 10 + (b - 48)) more)
  unfolding runs ending
  then v b more h true e = rw goes_on h
  then v b more h false e =
      let l = leb-false v limit e in
      let g = value_grows (v * 10 + (b - 48)) more in
      rw (runs_broken (b ∷ more)) (sym (said_above make limit (is_digit b && all is_digit more) (value_from (v * 10 + (b - 48)) more) (omega arith)))

  -- all bytes, after those that made a value
  run_within : (v : ℕ) (more : List ℕ) → ending (runs (within kind limit v) more) ≡ said make limit (all is_digit more) (value_from v more)
  unfolding runs all value_from
  run_within v [] = at_once v (leb v limit)
  run_within v (b ∷ more) = then v b more (first v b more (λ u. run_within u more) (is_digit b)) (leb v limit) refl

  -- all bytes of such a word
  run : (b : ℕ) (more : List ℕ) → ending (runs (within kind limit (grown_of 0 b)) more) ≡ said make limit (all is_digit (b ∷ more)) (value_from 0 (b ∷ more))
  unfolding all value_from
  run b more = first 0 b more (λ u. run_within u more) (is_digit b)

-- there is a digit
some_digits : (more : List ℕ) → leb 1 (suc (length more)) ≡ true
some_digits more = le-leb 1 (suc (length more)) (omega arith)

natural_run : (b : ℕ) (more : List ℕ) → ending (runs (natural_word (grown_of 0 b)) more) ≡ if (is_number (2 ^ 31 - 1) (b ∷ more)) (numbers (pos (value_from 0 (b ∷ more)) ∷ [])) other
unfolding ending next_of
natural_run b more = rw (some_digits more) (run Natural pos (2 ^ 31 - 1) (omega arith) (λ v. refl) (λ v b. refl) b more)

minus_run : (word : List ℕ) → ending (runs Minus word) ≡ if (is_number (2 ^ 31) word) (numbers (neg_ℤ (pos (value_from 0 word)) ∷ [])) other
unfolding ending next_of runs
minus_run [] = refl
minus_run (b ∷ more) = rw (some_digits more) (run Negative (λ v. neg_ℤ (pos v)) (2 ^ 31) (omega arith) (λ v. refl) (λ v b. refl) b more)

-- a word that ends says what the whole word says
word_ending : (word : List ℕ) → ending (runs Nothing word) ≡ word_end word
unfolding ending next_of runs word_of none
word_ending [] = refl
word_ending (b ∷ more) = go (eqb b 45)
  where
    go : (t : Bool) → ending (runs (if t Minus (natural_word (grown_of 0 b))) more) ≡
        if t (if (is_number (2 ^ 31) more) (numbers (neg_ℤ (pos (value_from 0 more)) ∷ [])) other)
        (if (is_number (2 ^ 31 - 1) (b ∷ more)) (numbers (pos (value_from 0 (b ∷ more)) ∷ [])) other)
    go true = minus_run more
    go false = natural_run b more

-- the loop's reading of a text is the text's
loop_reads : (word text : List ℕ) → read_from word text ≡ read_on (runs Nothing word) text
unfolding read_from read_on
loop_reads word [] = sym (word_ending word)
loop_reads word (b ∷ text) =
    cc (word_ending word, loop_reads [] text, loop_reads (word ++ (b ∷ [])) text, runs_more Nothing word b, runs_none)

pub text_read : (text : List ℕ) → read_text text ≡ read_on Nothing text
unfolding runs
text_read text = loop_reads [] text
