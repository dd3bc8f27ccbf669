-- Rows cut before the last component, and dependencies without it, picked by their places. Assumes nothing.
use mathlib.Core.Path.{◌≡◌, ap, ◌∙◌}
use mathlib.Core.List.{List, map}
use Prim.Native.Nat.{ℕ, suc, ◌-◌, ◌<◌, ◌≤◌}
use native.Mathlib.Omega.{arith}
use lib.ListN.{length, take}
use lib.Seq.{length-take-le}
use Rattle.rules.specs.RowsInOrder.{sorted, Each}
use Rattle.rules.specs.Dependencies.{index_of, on_index}
use Rattle.rules.specs.ContractLastAxis.{shortened, shortened_deps}
use Rattle.moving.specs.Picking.{picked, shorter_places}
use Rattle.moving.proofs.Shortening.{map_alike, dep_shortened}

module _ {r : ℕ} (some : 0 < r) (few : r ≤ 4) where
  -- all but the last of r
  all_but_last : (row : List ℕ) → length row ≡ r → take (r - 1) row ≡ shortened row
  all_but_last row e = rw e

  pub rows_shortened : {rows : List (List ℕ)} → Each (λ row. length row ≡ r) rows → map (take (r - 1)) rows ≡ map shortened rows
  rows_shortened {rows} e = map_alike (take (r - 1)) shortened rows (λ row m. all_but_last row (e row m))

  last_dropped : (d : List ℕ) → length d ≡ suc r → on_index (take (r - 1)) d ≡ on_index shortened d
  unfolding on_index
  last_dropped d e = rw (all_but_last (index_of d) (length-take-le (length d - 1) d (omega arith) ∙ omega arith))

  pub deps_shortened : {deps : List (List ℕ)} → Each (λ d. length d ≡ suc r) deps → sorted (map (picked 0 (take r (shorter_places (r - 1) r))) deps) ≡ shortened_deps deps
  unfolding shortened_deps
  deps_shortened {deps} e =
      ap sorted
      (map_alike (picked 0 (take r (shorter_places (r - 1) r))) (on_index shortened) deps
      (λ d m. dep_shortened {kept = r - 1} r (omega arith) {n = r} (omega arith) (omega arith) d (e d m) ∙ last_dropped d (e d m)))
