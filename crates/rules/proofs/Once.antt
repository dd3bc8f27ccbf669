-- Rows no two of which are equal, and such rows with such ends behind them. Assumes nothing.
use mathlib.Core.Path.{◌≡◌, refl, sym, ap, ◌∙◌}
use mathlib.Core.Logic.{⊎_elim}
use mathlib.Core.List.Memᴰ
use mathlib.Core.List.{List, [], ◌∷◌, ◌++◌, map, append_cancel_left}
use Prim.Native.Nat.{ℕ, suc, ◌*◌}
use native.Mathlib.Nat.{zero-mul, suc-mul}
use native.Mathlib.Omega.{arith}
use lib.ListN.{length, length-append, length-map}
use lib.Seq.{take_at}
use Rattle.rules.specs.Lists.{gather}
use Rattle.rules.specs.RowsInOrder.{sorted, In, Each, Increasing}
use Rattle.rules.specs.Removal.{crossed}
use Rattle.rules.proofs.Sets.{in_same, each_head, each_tail}
use Rattle.rules.proofs.Sorting.{insert_in, insert_length_most, insert_length_new, sorted_increasing, sorted_has, sorted_only, sorted_length, sorted_id}

-- ---- no row comes again

-- no row is one of those that follow
pub data Once : List (List ℕ) → Type 0 where
  once_nil : Once []
  once_cons : {x : List ℕ} {t : List (List ℕ)} → (In x t → ⊥) → Once t → Once (x ∷ t)

-- sorted, such rows are as many
pub once_distinct : {t : List (List ℕ)} → Once t → length (sorted t) ≡ length t
unfolding sorted
once_distinct once_nil = refl
once_distinct (once_cons {x} {t} n o) = insert_length_new x (sorted t) (λ m. n (sorted_only t m)) ∙ ap suc (once_distinct o)

-- rows that are as many, sorted, are such
pub distinct_once : (t : List (List ℕ)) → length (sorted t) ≡ length t → Once t
unfolding sorted
distinct_once [] e = once_nil
distinct_once (r ∷ t) e =
    let new = insert_length_most r (sorted t) in
    let most = sorted_length t in
    once_cons {x = r} {t = t} (λ m. omega (arith, ap length (insert_in (sorted_increasing t) (sorted_has m)))) (distinct_once t (omega arith))

-- rows that increase are such
pub increasing_once : {t : List (List ℕ)} → Increasing t → Once t
increasing_once {t} i = distinct_once t (ap length (sorted_id i))

-- such rows of two lists are such together, if no row is in both
pub append_once : {a b : List (List ℕ)} → Once a → Once b → Each (λ r. In r b → ⊥) a → Once (a ++ b)
append_once once_nil p f = p
append_once (once_cons {t} n o) p f = once_cons (λ m. ⊎_elim n (each_head f) (Memᴰ.append_cases t m)) (append_once o p (each_tail f))

-- such rows changed are such, if no two become equal
pub map_once : (f : List ℕ → List ℕ) {t : List (List ℕ)} → ((x y : List ℕ) → In x t → In y t → f x ≡ f y → x ≡ y) → Once t → Once (map f t)
map_once f g once_nil = once_nil
map_once f g (once_cons {x} {t} n o) = once_cons again (map_once f (λ p q m k. g p q (Memᴰ.tail m) (Memᴰ.tail k)) o)
  where
    again : In (f x) (map f t) → ⊥
    again m =
        let k = Memᴰ.of_map f t m in
        n (in_same (sym (g k.0 x (Memᴰ.tail k.1) (Memᴰ.head refl) k.2)) k.1)

-- ---- each row with each end behind it

-- such a row: a row and an end
pub record Crossed (x : List ℕ) (rows ends : List (List ℕ)) : Type 0 where
  pub row : List ℕ
  pub end : List ℕ
  pub row_in : In row rows
  pub end_in : In end ends
  pub is : x ≡ row ++ end

-- each of them is a row and an end
pub crossed_only : {x : List ℕ} (rows ends : List (List ℕ)) → In x (crossed rows ends) → Crossed x rows ends
unfolding gather
crossed_only [] ends m = absurd (Memᴰ.not-nil m)
crossed_only {x} (r ∷ rows) ends m = ⊎_elim here (there (crossed_only rows ends)) (Memᴰ.append_cases (map (λ t. r ++ t) ends) m)
  where
    here : In x (map (λ t. r ++ t) ends) → Crossed x (r ∷ rows) ends
    here m =
        let k = Memᴰ.of_map (λ t. r ++ t) ends m in
        record { row = r; end = k.0; row_in = Memᴰ.head refl; end_in = k.1; is = sym k.2 }

    there : (In x (crossed rows ends) → Crossed x rows ends) → In x (crossed rows ends) → Crossed x (r ∷ rows) ends
    there rest m =
        let k = rest m in
        record { row = k.row; end = k.end; row_in = Memᴰ.tail k.row_in; end_in = k.end_in; is = k.is }

-- each row and end is there
pub crossed_has : {row end : List ℕ} {rows ends : List (List ℕ)} → In row rows → In end ends → In (row ++ end) (crossed rows ends)
unfolding gather
crossed_has {ends} (Memᴰ.head {x} {xs = rows} e) n = rw e (Memᴰ.append_left (crossed rows ends) (Memᴰ.map (λ t. x ++ t) n))
crossed_has {ends} (Memᴰ.tail {x} m) n = Memᴰ.append_right (map (λ t. x ++ t) ends) (crossed_has m n)

-- they are as many as rows times ends
pub crossed_length : (rows ends : List (List ℕ)) → length (crossed rows ends) ≡ length rows * length ends
unfolding gather
crossed_length [] ends = rw zero-mul
crossed_length (r ∷ rows) ends = rw (length-append, length-map, crossed_length rows ends, suc-mul) (omega arith)

-- ends behind one row do not come again, if they did not before
behind_once : (r : List ℕ) {t : List (List ℕ)} → Once t → Once (map (λ e. r ++ e) t)
behind_once r o = map_once (λ e. r ++ e) (λ x y m n e. append_cancel_left r x y e) o

-- rows of one length that do not come again, with ends that do not, do not come again
pub crossed_once : (n : ℕ) {rows ends : List (List ℕ)} → Each (λ r. length r ≡ n) rows → Once rows → Once ends → Once (crossed rows ends)
unfolding gather
crossed_once n f once_nil p = once_nil
crossed_once n {ends} f (once_cons {x = r} {t = rows} new o) p = append_once (behind_once r p) (crossed_once n (each_tail f) o p) apart
  where
    apart : Each (λ x. In x (crossed rows ends) → ⊥) (map (λ t. r ++ t) ends)
    apart x m k =
        let i = Memᴰ.of_map (λ t. r ++ t) ends m in
        let j = crossed_only rows ends k in
        let left = take_at r i.0 n (each_head f) in
        let right = take_at j.row j.end n (f j.row (Memᴰ.tail j.row_in)) in
        let both : r ++ i.0 ≡ j.row ++ j.end = i.2 ∙ j.is in
        let row : r ≡ j.row = cc in
        new (in_same row j.row_in)
