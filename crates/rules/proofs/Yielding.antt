-- What a dependency yields on the stretched axes, in either mode. Assumes nothing.
use mathlib.Core.Path.{◌≡◌, refl, sym, subst}
use mathlib.Core.List.{List, [], ◌∷◌, Memᴰ}
use Prim.Native.Nat.{ℕ, ◌<◌}
use lib.ListN.{length, get_or}
use Rattle.rules.specs.declared.Mode.{Mode}
use Rattle.rules.specs.declared.Mode.TheVariants.{Alone, Together}
use Rattle.rules.specs.Lists.{with}
use Rattle.rules.specs.RowsInOrder.{In, Each}
use Rattle.rules.specs.Stretching.{every_value, yields}
use Rattle.rules.proofs.Sets.{each_one, each_cons}
use Rattle.rules.proofs.Gathering.{gather_each}
use Rattle.rules.proofs.Taking.{every_only, take_each, take_has}

module _ (shape axes : List ℕ) where
  -- what holds of a dependency, and stays with any value on a stretched axis, holds of all that it yields
  pub yields_each : (mode : Mode) (P : List ℕ → Type 0) → ((d : List ℕ) (axis v : ℕ) → Memᴰ axis axes → v < get_or shape axis 0 → P d → P (with axis v d)) →
      (d : List ℕ) → P d → Each P (yields mode shape axes d)
  unfolding yields
  yields_each Alone P stays d p =
      each_cons p
      (gather_each (λ axis. every_value shape d axis)
      (λ axis m x i. let v = every_only shape d axis i in subst P (sym v.2) (stays d axis v.0 m v.1 p)))
  yields_each Together P stays d p = take_each shape (length d) axes P stays (each_one P p)

  -- one that lies below the new extents on the stretched axes yields itself
  pub yields_itself : (mode : Mode) (d : List ℕ) → ((k : ℕ) → Memᴰ k axes → (k < length d) × (get_or d k 0 < get_or shape k 0)) → In d (yields mode shape axes d)
  unfolding yields
  yields_itself Alone d h = Memᴰ.head refl
  yields_itself Together d h =
      take_has shape (length d) axes (λ k m. (h k m).0) {rows = d ∷ []} (each_one (λ r. length r ≡ length d) refl)
      (Memᴰ.head refl) (record { size = refl; kept = λ k o. refl; free = λ k m. (h k m).1 })
