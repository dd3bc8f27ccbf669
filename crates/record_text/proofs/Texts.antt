-- A text read as a list of numbers, if it is not too long. Assumes nothing.
use mathlib.Core.Path.{◌≡◌, ◌∙◌, subst}
use mathlib.Core.List.{List}
use Prim.Native.Nat.{ℕ, ◌<◌, ◌≤◌}
use native.Mathlib.Omega.{arith}
use borrow.Author.Tests.{lt-ltb, le-ltb}
use lib.IntN.{ℤ}
use lib.ListN.{length}
use Rattle.std.specs.Prelude.{Option, Some, None}
use Rattle.text.specs.Read.{other, read_text}
use Rattle.text.specs.Placed.{ReadInto}
use Rattle.text.proofs.Answers.{front_reads}
use Rattle.record_text.specs.Texts.{text_reading, ListFront, ListRead}

module _ (text : List ℕ) where
  -- too much text
  pub too_long : 65536 < length text → text_reading text ≡ other
  unfolding text_reading
  too_long h = rw (lt-ltb 65536 (length text) h)

  -- other text is read
  pub is_read : length text ≤ 65536 → text_reading text ≡ read_text text
  unfolding text_reading
  is_read h = rw (le-ltb 65536 (length text) h)

  pub list_read : (old now : List ℤ) (r : Option ℕ) → length text ≤ 65536 → length now ≡ length old → ReadInto text old now r → ListRead text now r
  list_read old now (Some n) h e f = record { reads = is_read h ∙ front_reads f; fits = omega (arith, f.fits) }
  list_read old now None h e f = is_read h ∙ f

  -- what a caller has by the answer
  module _ (slice : List ℤ) {r : Option ℕ} (p : ListRead text slice r) where
    pub list_front : {n : ℕ} → r ≡ Some n → ListFront text slice n
    list_front e = subst (λ (x : Option ℕ). ListRead text slice x) e p

    pub list_other : r ≡ None → text_reading text ≡ other
    list_other e = subst (λ (x : Option ℕ). ListRead text slice x) e p
