-- What the entries are for: where an expression does not list a state, its value there does not change with that state. Assumes nothing.
use mathlib.Core.Path.{◌≡◌, refl, sym, ap, ◌∙◌, subst}
use mathlib.Core.Bool.{Bool, true, false, ◌&&◌}
use mathlib.Core.List.{List, [], ◌∷◌, ◌++◌, map, Memᴰ}
use Prim.Native.Nat.{ℕ, ◌+◌, ◌-◌, ◌≤◌, ◌<◌}
use native.Mathlib.Omega.{arith}
use lib.IntN.{ℤ}
use lib.ListN.{length, get_or, take, length-append, length-map, get_or-append}
use lib.Seq.{length-take-le, get_or-take, ext_get_or}
use Rattle.rules.specs.declared.Mode.TheVariants.{Together}
use Rattle.rules.specs.declared.Rule.{Rule}
use Rattle.rules.specs.declared.Rule.TheVariants.{Unite, Multiply, Divide}
use Rattle.rules.specs.Lists.{if, none, fit_to}
use Rattle.rules.specs.Refusals.{Verdict, given}
use Rattle.rules.specs.Layout.{Layout, rank}
use Rattle.rules.specs.Soundness.{Sound}
use Rattle.rules.specs.Record.{naturals}
use Rattle.rules.specs.Holding.{is_position, holds}
use Rattle.rules.specs.Stretching.{broadcast_to_shape}
use Rattle.rules.specs.ContractLastAxis.{shortened, contract_last_axis}
use Rattle.rules.specs.CountsAndForms.{to_dense}
use Rattle.rules.specs.Permute.{moved, permute}
use Rattle.rules.specs.Permute as Move
use Rattle.rules.specs.Concatenate.{Block, moved_by, concatenate}
use Rattle.rules.specs.Broadcast.{broadcast}
use Rattle.rules.specs.ComputedFrom.{Source, DependsOn, read_at, Kept, Computes}
use Rattle.rules.specs.Expressions.{Expression, Expressions, Parts, leaf, combined, stretched_by, contracted, permuted, joined, no_more, and_then, no_part, part_then, value, values, blocks_of}
use Rattle.rules.specs.Evaluation.{Arithmetic, shape_of, computes_at, back_by, back_from, in_block, at, at_each, at_parts, NoDenseDiagonal, Suited, SuitedAll, SuitedParts, AgreeOff}
use Rattle.rules.proofs.Same.{both_true, same_true}
use Rattle.rules.proofs.Order.{ComparedNumbers, under, even, above, compare_numbers}
use Rattle.rules.proofs.Low.{below_at, at_below}
use Rattle.rules.proofs.Ranges.{map_at, map_agree}
use Rattle.rules.proofs.Largest.{largest_at}
use Rattle.rules.proofs.Replaced.{fit_length, fit_at, fit_past}
use Rattle.rules.proofs.Moved.{moved_at, moved_to_entry, past_min_rank}
use Rattle.rules.proofs.Permuting.{Usable, usable_true}
use Rattle.rules.proofs.PermutedHolds.{holds_permuted}
use Rattle.rules.proofs.Forming.{to_dense_sound}
use Rattle.rules.proofs.Holding.{Position, position_true, true_position, holds_position, holds_dense, held_alike, whole_dense}
use Rattle.rules.proofs.Made.{made_sound}
use Rattle.rules.proofs.Given.{then_given, contract_shape, permute_usable, permute_shape, stretch_shape}
use Rattle.rules.proofs.EntriesKept.{entry_index, entry_number, stretch_reads, read_computed, stretch_keeps, contract_keeps, permute_keeps, concatenate_keeps}
use Rattle.rules.proofs.EntriesBroadcast.{broadcast_keeps, broadcast_reads}
use Rattle.rules.proofs.NoEntryLost.{value_sound, values_first, values_only, blocks_first}

-- ---- positions that are read

-- a position with a component behind it
behind_position : (shape q : List ℕ) (i : ℕ) → 0 < length shape → is_position (shortened shape) q ≡ true → i < get_or shape (length shape - 1) 0 → is_position shape (q ++ (i ∷ [])) ≡ true
behind_position shape q i h e k = true_position (record { size = rw length-append (omega (arith, long)); inside = at_below (q ++ (i ∷ [])) shape (λ c l. by c (compare_numbers c (length q)) (omega (arith, length-append q (i ∷ []), l))) })
  where
    p : Position (shortened shape) q
    p = position_true (shortened shape) q e

    long : length q ≡ length shape - 1
    long = p.size ∙ length-take-le (length shape - 1) shape (omega arith)

    by : (c : ℕ) → ComparedNumbers c (length q) → c < length q + 1 → get_or (q ++ (i ∷ [])) c 0 < get_or shape c 0
    by c (under o) l = rw (get_or-append q (i ∷ []) 0 c o, ← get_or-take (length shape - 1) shape c 0 (omega (arith, long, o))) (below_at q (shortened shape) p.inside c o (omega (arith, p.size)))
    by c (even o) l = rw (entry_number q i (sym o), o, long) k
    by c (above o) l = absurd (omega arith)

module _ {l : Layout} (s : Sound l) where
  -- a position of the moved extents reads a position, which moved is that again
  moved_back_lem : (entries : List ℕ) → Usable l entries → (q : List ℕ) → is_position (moved 1 entries l.shape) q ≡ true →
      (is_position l.shape (back_by (rank l) entries q) ≡ true) × (moved 0 entries (back_by (rank l) entries q) ≡ q)
  unfolding to_dense Move.permuted
  moved_back_lem entries u q i = (rw (← is) (true_position from), rw (← is) came.2)
    where
      dense_usable : Usable (to_dense l) entries
      dense_usable = record { most = u.most; least = u.least; small = u.small; once = u.once }

      came : (index : List ℕ) × (holds (to_dense l) index ≡ true) × (moved 0 entries index ≡ q)
      came = holds_permuted (to_dense_sound s).form dense_usable (whole_dense refl) q (holds_dense (Move.permuted (to_dense l) entries) q refl ∙ i)

      from : Position l.shape came.0
      from = holds_position (to_dense l) came.0 came.1

      is : came.0 ≡ back_by (rank l) entries q
      is = ext_get_or 0 came.0 (back_by (rank l) entries q) (from.size ∙ sym (fit_length (rank l) 0 (map (λ p. get_or q p 0) entries))) (λ k h. at_k k (omega (arith, from.size)) (compare_numbers k (length entries)))
        where
          past : (k : ℕ) → k < rank l → length entries ≤ k → get_or came.0 k 0 ≡ get_or (back_by (rank l) entries q) k 0
          past k h g =
              omega (
                arith,
                below_at came.0 l.shape from.inside k (omega (arith, from.size)) h,
                past_min_rank l.shape k (omega (arith, u.least)) h,
                fit_past (rank l) 0 (map (λ p. get_or q p 0) entries) k (rw length-map g),
              )

          at_k : (k : ℕ) → k < rank l → ComparedNumbers k (length entries) → get_or came.0 k 0 ≡ get_or (back_by (rank l) entries q) k 0
          at_k k h (under g) =
              sym (moved_to_entry 0 entries came.0 u.once k g (omega (arith, from.size)))
              ∙ sym (moved_at 0 entries came.0 (get_or entries k 0) 0 (largest_at entries k))
              ∙ ap (λ (r : List ℕ). get_or r (get_or entries k 0) 0) came.2
              ∙ sym (fit_at (rank l) 0 (map (λ p. get_or q p 0) entries) k h (rw length-map g) ∙ map_at (λ p. get_or q p 0) entries k 0 0 g)
          at_k k h (even g) = past k h (omega arith)
          at_k k h (above g) = past k h (omega arith)

  -- so every position of a permuted layout reads a position, and is computed from that
  pub permuted_reads : (entries : List ℤ) {x : Layout} → permute l entries ≡ given x → none entries ≡ false → (q : List ℕ) → is_position x.shape q ≡ true →
      (is_position l.shape (back_by (rank l) (naturals entries) q) ≡ true) × (moved 0 (naturals entries) (back_by (rank l) (naturals entries) q) ≡ q)
  permuted_reads entries e n q i = moved_back_lem (naturals entries) (usable_true l entries (permute_usable l entries e)) q (rw (permute_shape l entries e, n) at i)

-- ---- values

module _ {A : Type 0} (arithmetic : Arithmetic A) (f g : ℕ → List ℕ → A) (on : Source) (j : ℕ) where
  -- the leaves agree
  abbrev LeafAgrees : ℕ → Layout → Type 0
  LeafAgrees n l = AgreeOff on j l (f n) (g n)

  -- an expression agrees
  abbrev SameOff : Expression → Layout → Type 0
  SameOff e l = AgreeOff on j l (at arithmetic f e) (at arithmetic g e)

  -- a layout does not list it where a position reads it
  abbrev ReadsOff : List ℕ → Layout → Type 0
  ReadsOff q a = (is_position a.shape (read_at a.shape q) ≡ true) × (DependsOn on a (read_at a.shape q) j → ⊥)

  -- so do two values where they are read
  read_same : (e : Expression) {l : Layout} → value e ≡ given l → (q : List ℕ) → at arithmetic f e (read_at l.shape q) ≡ at arithmetic g e (read_at l.shape q) →
      at arithmetic f e (read_at (shape_of (value e)) q) ≡ at arithmetic g e (read_at (shape_of (value e)) q)
  read_same e v q h = subst (λ (w : Verdict Layout). at arithmetic f e (read_at (shape_of w) q) ≡ at arithmetic g e (read_at (shape_of w) q)) (sym v) h

  -- a combined expression has the same values there, if those that it combines have, where they are read
  combined_same : (rule : Rule) (es : Expressions) {x : Layout} → value (combined rule es) ≡ given x → NoDenseDiagonal rule (value (combined rule es)) → (q : List ℕ) →
      is_position x.shape q ≡ true → (DependsOn on x q j → ⊥) →
      ((layouts : List Layout) → values es ≡ given layouts → ((a : Layout) → Memᴰ a layouts → ReadsOff q a) → at_each arithmetic f es q ≡ at_each arithmetic g es q) →
      at arithmetic f (combined rule es) q ≡ at arithmetic g (combined rule es) q
  unfolding at value
  combined_same rule es {x} e s q i u rest = go (computes_at rule (value (combined rule es)) q) refl
    where
      layouts : (l : List Layout) × (values es ≡ given l) × (broadcast Together l rule ≡ given x)
      layouts = then_given (values es) (λ l. broadcast Together l rule) e

      kept : holds x q ≡ true → (x.kind ≡ 1 → x.dense ≡ 0) → Kept x q
      kept h d = record { is_held = h; lies_on_diagonal = λ k. sym (held_alike x k (d k) (holds_position x q h)) ∙ h }

      computes : (rule : Rule) (v : Verdict Layout) → v ≡ given x → NoDenseDiagonal rule v → computes_at rule v q ≡ true → Computes rule x q
      computes Unite v k d c = tt
      computes Multiply v k d c = kept (subst (λ (w : Verdict Layout). computes_at Multiply w q ≡ true) k c) (subst (NoDenseDiagonal Multiply) k d)
      computes Divide v k d c = kept (subst (λ (w : Verdict Layout). computes_at Divide w q ≡ true) k c) (subst (NoDenseDiagonal Divide) k d)

      go : (t : Bool) → computes_at rule (value (combined rule es)) q ≡ t →
          if t (arithmetic.operate rule (at_each arithmetic f es q)) arithmetic.nil ≡ if t (arithmetic.operate rule (at_each arithmetic g es q)) arithmetic.nil
      go false c = refl
      go true c =
          ap (arithmetic.operate rule)
          (rest layouts.0 layouts.1 (λ a m.
          let d = values_only es layouts.1 a m in (
            broadcast_reads layouts.0 rule layouts.2 a m q i,
            λ k. u (broadcast_keeps layouts.0 rule layouts.2 on a m (value_sound d.0 d.2).form (read_at a.shape q) q j (read_computed a.shape x.shape q i)
                (computes rule (value (combined rule es)) e s c) k),
          )))

  -- so has one that is stretched
  stretched_same : (shape : List ℕ) (e : Expression) {l x : Layout} → Sound l → value e ≡ given l → broadcast_to_shape Together l shape ≡ given x → length (shape_of (value e)) ≤ length shape → (q : List ℕ) →
      is_position x.shape q ≡ true → (DependsOn on x q j → ⊥) → SameOff e l → at arithmetic f (stretched_by shape e) q ≡ at arithmetic g (stretched_by shape e) q
  unfolding at
  stretched_same shape e {l} {x} s v c h q i u same-below =
      let inside : is_position shape q ≡ true = rw (stretch_shape Together l shape c) at i in
      read_same e v q
      (same-below (read_at l.shape q) (stretch_reads Together l shape c (subst (λ (w : Verdict Layout). length (shape_of w) ≤ length shape) v h) q inside)
      (λ m. u (stretch_keeps s.form on shape c (read_at l.shape q) q j (read_computed l.shape shape q inside) m)))

  -- contracted
  contracted_same : (e : Expression) {l x : Layout} → value e ≡ given l → contract_last_axis l ≡ given x → (q : List ℕ) → is_position x.shape q ≡ true → (DependsOn on x q j → ⊥) → SameOff e l →
      at arithmetic f (contracted e) q ≡ at arithmetic g (contracted e) q
  unfolding at
  contracted_same e {l} {x} v c q i u same-below =
      ap arithmetic.total
      (map_agree (λ k. at arithmetic f e (q ++ (k ∷ []))) (λ k. at arithmetic g e (q ++ (k ∷ []))) 0 (get_or (shape_of (value e)) (length (shape_of (value e)) - 1) 0)
      (λ k _ h. same-below (q ++ (k ∷ [])) (behind_position l.shape q k (contract_shape l c).0 (rw (← (contract_shape l c).1) i) (omega (arith, extent, h)))
      (λ m. u (contract_keeps (q ++ (k ∷ [])) j on l c q (sym (entry_index q k)) m))))
    where
      extent : get_or (shape_of (value e)) (length (shape_of (value e)) - 1) 0 ≡ get_or l.shape (rank l - 1) 0
      extent = ap (λ (w : Verdict Layout). get_or (shape_of w) (length (shape_of w) - 1) 0) v

  -- permuted
  permuted_same : (entries : List ℤ) (e : Expression) {l x : Layout} → Sound l → value e ≡ given l → permute l entries ≡ given x → (q : List ℕ) → is_position x.shape q ≡ true →
      (DependsOn on x q j → ⊥) → SameOff e l → at arithmetic f (permuted entries e) q ≡ at arithmetic g (permuted entries e) q
  unfolding at
  permuted_same entries e {l} {x} s v c q i u same-below = go (none entries) refl
    where
      back : List ℕ
      back = back_by (rank l) (naturals entries) q

      rank_is : back_by (length (shape_of (value e))) (naturals entries) q ≡ back
      rank_is = ap (λ (w : Verdict Layout). back_by (length (shape_of w)) (naturals entries) q) v

      go : (t : Bool) → none entries ≡ t →
          at arithmetic f e (if t q (back_by (length (shape_of (value e))) (naturals entries) q)) ≡ at arithmetic g e (if t q (back_by (length (shape_of (value e))) (naturals entries) q))
      go true n = same-below q (rw (permute_shape l entries c, n) at i) (λ m. u (permute_keeps q j on l entries c q (rw n) m))
      go false n =
          let reads = permuted_reads s entries c n q i in
          rw rank_is (same-below back reads.0 (λ m. u (permute_keeps back j on l entries c q (rw n (sym reads.1)) m)))

  -- and parts that are joined, if one has them and the others have
  part_same : (start : List ℕ) (zero : Bool) (e : Expression) (ps : Parts) {l : Layout} → value e ≡ given l → (r : ℕ) (q : List ℕ) →
      ((p : List ℕ) → is_position l.shape p ≡ true → q ≡ moved_by start (fit_to r 0 p) → at arithmetic f e p ≡ at arithmetic g e p) → at_parts arithmetic f ps r q ≡ at_parts arithmetic g ps r q →
      at_parts arithmetic f (part_then start zero e ps) r q ≡ at_parts arithmetic g (part_then start zero e ps) r q
  unfolding at
  part_same start zero e ps {l} v r q same-below rest = go (is_position shape p && in_block r start p q) refl
    where
      shape : List ℕ
      shape = shape_of (value e)

      p : List ℕ
      p = take (length shape) (back_from start q)

      shape_is : shape ≡ l.shape
      shape_is = ap shape_of v

      go : (t : Bool) → is_position shape p && in_block r start p q ≡ t → if t (at arithmetic f e p) (at_parts arithmetic f ps r q) ≡ if t (at arithmetic g e p) (at_parts arithmetic g ps r q)
      go false k = rest
      go true k = let h = both_true (is_position shape p) (in_block r start p q) k in same-below p (rw (← shape_is) h.0) (same_true h.1)

  -- two lists whose first and whose others are the same
  cons_alike : {b c : A} {s t : List A} → b ≡ c → s ≡ t → b ∷ s ≡ c ∷ t
  cons_alike h k = cc

  mutual
    unfolding at value Suited

    -- an expression has the same values before and after, at the positions where its value does not list number j, if its leaves have
    pub same_off : (e : Expression) → Suited (λ n l. AgreeOff on j l (f n) (g n)) e → {x : Layout} → value e ≡ given x →
        AgreeOff on j x (at arithmetic f e) (at arithmetic g e)
    same_off (leaf n l) s {x} v q i u =
        let is : l ≡ x = (made_sound v).0 in
        s q (rw is i) (λ m. u (subst (λ (y : Layout). DependsOn on y q j) is m))
    same_off (combined rule es) s v q i u = combined_same rule es v s.0 q i u (λ layouts h reads. same_each es s.1 layouts h q reads)
    same_off (stretched_by shape e) s v q i u =
        let w = then_given (value e) (λ l. broadcast_to_shape Together l shape) v in
        stretched_same shape e (value_sound e w.1) w.1 w.2 s.0 q i u (same_off e s.1 w.1)
    same_off (contracted e) s v q i u = let w = then_given (value e) contract_last_axis v in contracted_same e w.1 w.2 q i u (same_off e s w.1)
    same_off (permuted entries e) s v q i u = let w = then_given (value e) (λ l. permute l entries) v in permuted_same entries e (value_sound e w.1) w.1 w.2 q i u (same_off e s w.1)
    same_off (joined r ps) s v q i u =
        let w = then_given (blocks_of ps) (λ blocks. concatenate blocks r) v in
        same_parts ps s w.0 w.1 r q (λ b m p h k. u (concatenate_keeps p j on r w.0 w.2 b m q h k))

    same_each : (es : Expressions) → SuitedAll LeafAgrees es → (layouts : List Layout) → values es ≡ given layouts → (q : List ℕ) →
        ((a : Layout) → Memᴰ a layouts → ReadsOff q a) → at_each arithmetic f es q ≡ at_each arithmetic g es q
    same_each no_more s layouts h q reads = refl
    same_each (and_then e es) s layouts h q reads =
        let u = values_first e es h in
        let first = reads u.first (subst (Memᴰ u.first) u.is (Memᴰ.head refl)) in
        cons_alike (read_same e u.first_given q (same_off e s.0 u.first_given (read_at u.first.shape q) first.0 first.1))
        (same_each es s.1 u.second u.second_given q (λ a m. reads a (subst (Memᴰ a) u.is (Memᴰ.tail m))))

    same_parts : (ps : Parts) → SuitedParts LeafAgrees ps → (blocks : List Block) → blocks_of ps ≡ given blocks → (r : ℕ) (q : List ℕ) →
        ((b : Block) → Memᴰ b blocks → (p : List ℕ) → q ≡ moved_by b.start (fit_to r 0 p) → DependsOn on b.layout p j → ⊥) → at_parts arithmetic f ps r q ≡ at_parts arithmetic g ps r q
    same_parts no_part s blocks h r q off = refl
    same_parts (part_then start zero e ps) s blocks h r q off =
        let u = blocks_first start zero e ps h in
        let block : Block = record { start = start; zero = zero; layout = u.first } in
        part_same start zero e ps u.first_given r q
        (λ p i k. same_off e s.0 u.first_given p i (off block (subst (Memᴰ block) u.is (Memᴰ.head refl)) p k))
        (same_parts ps s.1 u.second u.second_given r q (λ b m. off b (subst (Memᴰ b) u.is (Memᴰ.tail m))))
