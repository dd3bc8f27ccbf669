-- A text at the front of a slice grows with what is written right behind it. Assumes nothing.
use mathlib.Core.Path.{◌≡◌, refl, sym, ap, ◌∙◌}
use mathlib.Core.List.{List, [], ◌++◌, append_assoc}
use Prim.Native.Nat.{ℕ, ◌+◌, ◌≤◌}
use native.Mathlib.Omega.{arith}
use lib.ListN.{length, take, drop, length-append}
use lib.Seq.{take_at, length-take-le}
use Rattle.io.specs.Counts.{IsPrefixLen}
use Rattle.text.specs.Placed.{put_bytes, Wrote}
use Rattle.record_text.specs.Fronts.{Front}

-- bytes that are there are counted
pub counted : (n : ℕ) (slice : List ℕ) → n ≤ length slice → IsPrefixLen n slice
counted n slice h = (h, sym (length-take-le n slice h))

-- at first there is no text
pub front_none : (slice : List ℕ) → Front [] slice 0
front_none slice = record { counts = counted 0 slice (omega arith); is = refl }

-- the same text, said in another way
pub front_is : {text other slice : List ℕ} {n : ℕ} → text ≡ other → Front text slice n → Front other slice n
front_is e f = rw (sym e) f

-- what is written right behind a text is the end of a longer one
pub front_wrote : {text new old now : List ℕ} {most n r : ℕ} → Front text old n → Wrote most n new old now r → n + most ≤ length old → Front (text ++ new) now r
unfolding put_bytes
front_wrote {text} {new} {old} {now} {most} {n} {r} f w h =
    let short = w.short in
    let end = w.end in
    let before : length (take n old) ≡ n = length-take-le n old (omega arith) in
    let size : length (take n old ++ new) ≡ r = simp length-append (omega arith) in
    let behind : List ℕ = drop (n + length new) old in
    let whole : now ≡ (take n old ++ new) ++ behind = w.is ∙ sym (append_assoc (take n old) new behind) in
    rw whole (record {
      counts = counted r ((take n old ++ new) ++ behind) (simp length-append (omega arith));
      is = take_at (take n old ++ new) behind r size ∙ ap (λ (l : List ℕ). l ++ new) f.is;
    })
