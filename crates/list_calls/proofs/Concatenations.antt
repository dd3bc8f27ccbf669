-- How a call that joins blocks ends. Assumes nothing.
use Rattle.std.specs.Prelude.{Err, Ok, Result, ⊤}
use mathlib.Core.Path.{◌≡◌, refl, sym, ap, ◌∙◌}
use mathlib.Core.Bool.{Bool, true, false, not, ◌&&◌, ◌||◌}
use mathlib.Core.List.{List, [], ◌∷◌, map}
use Prim.Native.Nat.{ℕ, zero, suc, ◌+◌, ◌-◌, ◌≤◌}
use native.Mathlib.Numerals.{add-one}
use native.Mathlib.Omega.{arith}
use borrow.Author.Tests.{not-false, ltb-false}
use lib.IntN.{ℤ, pos, negsuc}
use lib.ListN.{length, take, drop, replicate}
use lib.Seq.{take_all}
use lib.Signed.{non_neg}
use Rattle.rules.specs.declared.Refusal.{Refusal}
use Rattle.rules.specs.declared.Refusal.TheVariants.{Unsound, WrongArgument}
use Rattle.rules.specs.Limits.{rank_limit, work_size}
use Rattle.rules.specs.Lists.{if, all, any}
use Rattle.rules.specs.Buffers.{over, zeros}
use Rattle.rules.specs.Refusals.{Verdict, in_form, Reason, ◌when◌, ◌then◌, lowest}
use Rattle.rules.specs.Layout.{Layout, encode}
use Rattle.rules.specs.Record.{natural, end_to_end, behind_block, behind_record, walk, section_at, entries_from, list_count, RawBlock, block_at, blocks_in, sound}
use Rattle.rules.specs.Arguments.{over_count, over_rank, over_record}
use Rattle.rules.specs.Endings.{Ends}
use Rattle.rules.specs.Concatenate.{good_block, block_of, concatenate}
use Rattle.rules.proofs.Same.{neither, both_true}
use Rattle.rules.proofs.Refusing.{Reasons}
use Rattle.rules.proofs.ConcatenateRefused.{concatenate_refusing}
use Rattle.parts.specs.Parts.{window_size, target}
use Rattle.parts.specs.Answers.{Says, Finished}
use Rattle.parts.proofs.Ending.{AboveTwo}
use Rattle.parts.proofs.Lent.{lent_of, back_in}
use Rattle.lists.specs.declared.asks.Ask.TheVariants.{GoodBlock}
use Rattle.lists.specs.declared.walking.Thing.TheVariants.{Block}
use Rattle.lists.specs.Places.{behind_thing, standing, EachAt, PlacesOf}
use Rattle.lists.specs.Starts.{blocks_at, starts_in, StartsOf}
use Rattle.lists.specs.Asked.{asked}
use Rattle.lists.specs.Records.{JudgedRecord}
use Rattle.lists.proofs.Asking.{over_blocks, sound_blocks, good_blocks}
use Rattle.judging.specs.LentSizes.{size_reasons, SizesKept, SizesAre}
use Rattle.judging.proofs.Judged.{argument_wrong, argument_right, told_not_true, told_not_false}
use Rattle.judging.proofs.LentSizes.{kept_told}
use Rattle.entries.specs.Merging.{blocks_of}
use Rattle.join.specs.Assembling.{JoinAsked}
use Rattle.list_calls.proofs.ListCalls.{list_early, list_says, list_unsound, list_later, list_done}

-- ---- the records of a list

-- a count, a rank, and then the records
pub either_three : {a b c d e : Bool} (x y z : Bool) → a ≡ x → b ≡ y → c ≡ a || b → d ≡ z → e ≡ c || d → e ≡ x || y || z
either_three x y z p q r s t = t ∙ rw (r, p, q, s)

-- as they were handed over
pub told_by : {o : Bool} {c c' r r' : ℤ} {x y : Bool} → o ≡ over_count c || over_rank r || x → c ≡ c' → r ≡ r' → x ≡ y → o ≡ over_count c' || over_rank r' || y
told_by e p q z = e ∙ rw (p, q, z)

-- ---- the asked rank

pub end_most : (z : ℤ) (m : ℕ) {e : ℕ} → e ≡ if (non_neg z) m 0 → e ≤ m
end_most z m {e} f = by (non_neg z) f
  where
    by : (t : Bool) → e ≡ if t m 0 → e ≤ m
    by true g = omega arith
    by false g = omega arith

pub rank_wrong : (z : ℤ) (b : Bool) → non_neg z ≡ false → true ≡ not (non_neg z && b)
rank_wrong z b e = rw e

pub blocks_wrong : (z : ℤ) (m n : ℕ) (places : List ℕ) (s : List ℤ) {b : Bool} → non_neg z ≡ true → m ≡ natural z → b ≡ all (asked (GoodBlock m)) (standing n places s) →
    not b ≡ not (non_neg z && all good_block (blocks_at (natural z) n places s))
blocks_wrong z m n places s e f g = rw (e, ← f) (ap not (g ∙ good_blocks m (standing n places s)))

pub walk_all : (z : ℤ) (m : ℕ) → non_neg z ≡ true → m ≡ if (non_neg z) m 0
walk_all z m e = rw e

pub walk_none : (z : ℤ) (m : ℕ) → non_neg z ≡ false → 0 ≡ if (non_neg z) m 0
walk_none z m e = rw e

-- ---- the blocks of a call

-- nothing stands behind a block of nothing
nothing_behind : (n : ℕ) → end_to_end (behind_block 0) n [] ≡ replicate n []
unfolding end_to_end behind_block behind_record walk section_at entries_from
nothing_behind zero = refl
nothing_behind (suc n) = ap (λ (l : List (List ℤ)). [] ∷ l) (nothing_behind n)

-- those that are walked; by a negative rank they are empty
blocks_walked : (count rank : ℤ) (s : List ℤ) →
    map (block_at (natural rank)) (end_to_end (behind_block (natural rank)) (list_count count) (take (if (non_neg rank) (length s) 0) s)) ≡ blocks_in count rank s
unfolding blocks_in natural
blocks_walked count (pos r) s = rw (take_all (length s) s (omega arith))
blocks_walked count (negsuc r) s = ap (map (block_at 0)) (nothing_behind (list_count count))

-- what is walked of a slice
abbrev pub walked_to : ℕ → List ℤ → List ℤ
walked_to end s = take (end - 0) (drop 0 s)

module _ (count rank : ℤ) (s : List ℤ) {n axes end : ℕ} (n-is : n ≡ list_count count) (axes-is : axes ≡ natural rank) (end_is : end ≡ if (non_neg rank) (length s) 0)
    {places : List ℕ} (p : PlacesOf (end_to_end (behind_thing (Block axes)) n (walked_to end s)) n (walked_to end s) places) where
  blocks_are : blocks_at axes n places (walked_to end s) ≡ blocks_in count rank s
  blocks_are =
      let z : end - 0 ≡ end = omega arith in
      ap (map (block_at axes)) p.begin ∙ rw (z, n-is, axes-is, end_is) (blocks_walked count rank s)

  pub ask_starts : all good_block (blocks_in count rank s) ≡ true → all good_block (blocks_at axes n places (walked_to end s)) ≡ true
  ask_starts e = ap (all good_block) blocks_are ∙ e

  pub wrong_are : not (non_neg rank && all good_block (blocks_at (natural rank) n places (walked_to end s))) ≡ not (non_neg rank && all good_block (blocks_in count rank s))
  wrong_are = rw (← axes-is, blocks_are)

  -- the blocks of the step are those of the call
  pub joined_said : {u : List ℤ} {step : (Result ⊤ Refusal)} → Says (concatenate (blocks_of axes n places (walked_to end s)) axes) target u step →
      Says (concatenate (map block_of (blocks_in count rank s)) (natural rank)) target u step
  joined_said d = rw (← blocks_are, ← axes-is) d

  module _ {q : ℕ} {records : List ℕ} (m : PlacesOf (map (drop (axes + 1)) (standing n places (walked_to end s))) q (walked_to end s) records) where
    behind : standing q records (walked_to end s) ≡ map (drop (suc axes)) (standing n places (walked_to end s))
    behind = m.begin ∙ ap (λ (k : ℕ). map (drop k) (standing n places (walked_to end s))) (add-one axes)

    pub over_are : any over_record (standing q records (walked_to end s)) ≡ any (λ b. over_record b.layout) (blocks_in count rank s)
    over_are = ap (any over_record) behind ∙ over_blocks axes (standing n places (walked_to end s)) ∙ ap (any (λ b. over_record b.layout)) blocks_are

    pub sound_are : all sound (standing q records (walked_to end s)) ≡ all (λ b. sound b.layout) (blocks_in count rank s)
    sound_are = ap (all sound) behind ∙ sound_blocks axes (standing n places (walked_to end s)) ∙ ap (all (λ b. sound b.layout)) blocks_are

    -- what the step requires
    pub ask_joined : q ≡ n → natural rank ≤ rank_limit → {t : Bool} → t ≡ all sound (standing q records (walked_to end s)) → (t ≡ true → EachAt JudgedRecord q records (walked_to end s)) → not t ≡ false →
        {starts : List (List ℕ)} → StartsOf (starts_in (blocks_at axes n places (walked_to end s))) starts → {u : List ℤ} → window_size ≤ length u → JoinAsked axes n places records starts (walked_to end s) u
    ask_joined same h {t} e f g b room = record {
      rank_most = rw axes-is h;
      inside = p.inside;
      moved = rw same at m;
      judged = rw same at (sym e ∙ not-false t g);
      known = rw same at (f (not-false t g));
      begun = b;
      room = room;
    }

-- ---- the call

module _ (s : List ℤ) (count rank : ℤ) (result work : List ℤ) where
  abbrev blocks : List RawBlock
  blocks = blocks_in count rank s

  abbrev told : Bool
  told = over_count count || over_rank rank || any (λ b. over_record b.layout) blocks

  abbrev good : Bool
  good = all (λ b. sound b.layout) blocks

  abbrev bad : Bool
  bad = not (non_neg rank && all good_block blocks)

  abbrev later : List Reason
  later = 5 when bad ∷ []

  abbrev gives : Verdict Layout
  gives = concatenate (map block_of blocks) (natural rank)

  abbrev call : Verdict Layout
  call = lowest (size_reasons told (length result) (length work) (3 when not good ∷ later)) then λ _. gives

  -- 5 is above 2
  late_later : Reasons AboveTwo later
  late_later = (omega arith, tt)

  -- 1 or 2
  module _ {o : Bool} (o_is : o ≡ told) {r : (Result ⊤ Refusal)} (sizes : SizesAre o (length result) (length work) r) where
    pub join_early : {why : Refusal} → r ≡ Err why → Ends (in_form encode call) result work (Err why) result work
    join_early e = list_early told good later gives result work o_is sizes e

    pub join_kept : r ≡ Ok tt → SizesKept told (length result) (length work)
    join_kept e = kept_told o_is sizes e

  module _ (k : SizesKept told (length result) (length work)) where
    -- the asked rank is at most 4
    pub rank_few : natural rank ≤ rank_limit
    rank_few =
        let first = (neither (over_count count || over_rank rank) (any (λ b. over_record b.layout) blocks) k.not_over).0 in
        ltb-false rank_limit (natural rank) (neither (over_count count) (over_rank rank) first).1

    module _ {t : Bool} (t-is : t ≡ good) where
      -- 3
      pub join_unsound : not t ≡ true → {r : (Result ℕ Refusal)} {work' : List ℤ} → (r ≡ Err Unsound) × (work' ≡ over (zeros work_size) work) → Ends (in_form encode call) result work r result work'
      join_unsound e f = list_unsound told good later gives result work k late_later (told_not_true good t-is e) f

      module _ (e : not t ≡ false) {w : Bool} (w-is : w ≡ bad) where
        -- 5
        pub join_wrong : w ≡ true → {r : (Result ℕ Refusal)} {work' : List ℤ} → (r ≡ Err WrongArgument) × (work' ≡ over (zeros work_size) work) → Ends (in_form encode call) result work r result work'
        join_wrong f g = list_later told good later gives result work k late_later (told_not_false good t-is e) (argument_wrong bad (sym w-is ∙ f)) g

        module _ (f : w ≡ false) where
          -- starts and flags are good
          pub all_good : all good_block blocks ≡ true
          all_good = (both_true (non_neg rank) (all good_block blocks) (not-false (non_neg rank && all good_block blocks) (sym w-is ∙ f))).1

          -- no reason holds: the window came back from the step
          module _ {step : (Result ⊤ Refusal)} {u : List ℤ} (same : length u ≡ length (lent_of 0 window_size work)) (says : Says gives target u step) where
            pub join_says : Says gives target (back_in 0 window_size work u) step
            join_says = list_says told good later gives result work k target (omega arith) same says

            pub join_done : {result' work' : List ℤ} {r : (Result ℕ Refusal)} → Finished step target (back_in 0 window_size work u) result r work' result' → Ends (in_form encode call) result work r result' work'
            join_done g =
                list_done told good later gives result work k late_later (told_not_false good t-is e) (argument_right bad (sym w-is ∙ f))
                (concatenate_refusing AboveTwo (omega arith) (omega arith) (omega arith) _ _) target (omega arith) same says g
