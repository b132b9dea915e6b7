-- What one more item does to a report without its aborted attempts.
use Rattle.std.specs.Prelude.{◌≡◌, ◌≢◌, ℕ, List, [], ◌∷◌, ◌++◌, Option, Some, None}
use Rattle.oc_tree.specs.Said.{Told}
use Rattle.oc_tree.specs.declared.said.Said.{Said}
use Rattle.oc_tree.specs.declared.said.Said.TheVariants.{Entered, Committed, Aborted}
use Rattle.oc_items.specs.Erase.{erase}

abbrev pub item : ℕ → Said → Told
item t s = record { tick = t; said = s }

abbrev pub newer : Said → Option Said → Option Said
newer (Entered r) m = Some (Entered r)
newer (Committed r) m = Some (Committed r)
newer (Aborted r) m = Some (Aborted r)
newer s m = m

-- the last `enter`, `commit` or `abort`, or what was before
abbrev pub last_mark : Option Said → List Told → Option Said
last_mark m [] = m
last_mark m (i ∷ is) = last_mark (newer i.said m) is

-- no `enter`, `commit` or `abort`
abbrev pub IsUnmarked : Said → Type 0
IsUnmarked (Entered r) = ⊥
IsUnmarked (Committed r) = ⊥
IsUnmarked (Aborted r) = ⊥
IsUnmarked s = Unit {0}

abbrev pub AreUnmarked : List Told → Type 0
AreUnmarked [] = Unit {0}
AreUnmarked (i ∷ is) = IsUnmarked i.said × AreUnmarked is

-- an `abort` that ends no attempt stays
abbrev pub LeftOver : Type 0
LeftOver =
    (q : List Told) (t r : ℕ) → last_mark None q ≢ Some (Entered r)
    → erase (q ++ item t (Aborted r) ∷ []) ≡ erase q ++ item t (Aborted r) ∷ []

-- an attempt that was aborted leaves nothing, whatever it says besides marks
abbrev pub LeavesNothing : Type 0
LeavesNothing =
    (q body : List Told) (u t r : ℕ) → AreUnmarked body
    → erase (q ++ item u (Entered r) ∷ (body ++ item t (Aborted r) ∷ [])) ≡ erase q

abbrev pub IsNoAbort : Said → Type 0
IsNoAbort (Aborted r) = ⊥
IsNoAbort s = Unit {0}

-- anything else is added
abbrev pub IsAdded : Type 0
IsAdded =
    (q : List Told) (t : ℕ) (s : Said)
    → IsNoAbort s → erase (q ++ item t s ∷ []) ≡ erase q ++ item t s ∷ []

pub record Erases : Type 0 where
  pub left_over : LeftOver
  pub leaves_nothing : LeavesNothing
  pub is_added : IsAdded
