-- A report without its aborted attempts, as a relation.
use Rattle.std.specs.Prelude.{◌≡◌, ℕ, List, [], ◌∷◌, ◌++◌}
use Rattle.oc_tree.specs.Said.{Told}
use Rattle.oc_tree.specs.declared.said.Said.{Said}
use Rattle.oc_tree.specs.declared.said.Said.TheVariants.{Entered, Committed, Aborted}
use Rattle.oc_items.specs.Erase.{erase}

-- what was said is no `enter`, `commit` or `abort`
abbrev pub IsNoMark : Said → Type 0
IsNoMark (Entered r) = ⊥
IsNoMark (Committed r) = ⊥
IsNoMark (Aborted r) = ⊥
IsNoMark s = Unit {0}

-- none of these items is an `enter`, a `commit` or an `abort`
abbrev pub HasNoMark : List Told → Type 0
HasNoMark [] = Unit {0}
HasNoMark (i ∷ is) = IsNoMark i.said × HasNoMark is

-- an aborted attempt: from the `enter` of a region to its `abort`, with no mark between
pub data IsAttempt : List Told → Type 0 where
  attempt : (r : ℕ) (first last : Told) (between : List Told)
      → first.said ≡ Entered r → HasNoMark between → last.said ≡ Aborted r
      → IsAttempt (first ∷ between ++ last ∷ [])

-- at the first of these items an aborted attempt begins
pub record BeginsRun (items : List Told) : Type 0 where
  pub taken : List Told
  pub behind : List Told
  pub is : items ≡ taken ++ behind
  pub attempts : IsAttempt taken

-- without its aborted attempts, the one report is the other
pub data Erases : List Told → List Told → Type 0 where
  nothing : Erases [] []
  leaving : {taken behind left : List Told}
      → IsAttempt taken → Erases behind left → Erases (taken ++ behind) left
  keeping : {i : Told} {behind left : List Told}
      → (BeginsRun (i ∷ behind) → ⊥) → Erases behind left → Erases (i ∷ behind) (i ∷ left)

-- a report is one other without its aborted attempts
abbrev pub ErasesIt : Type 0
ErasesIt = (items : List Told) → Erases items (erase items)

-- and no other one
abbrev pub ErasesAlone : Type 0
ErasesAlone = (items left : List Told) → Erases items left → left ≡ erase items
