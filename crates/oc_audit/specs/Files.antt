-- Report files, and the first bad line of what isn't one.
use Rattle.std.specs.Prelude.{◌≡◌, ◌==◌, ℕ, suc, ℤ, List, [], ◌∷◌, ◌++◌, length, sum, codes, FitsSigned, Option, Some, None, if◌then◌else◌}
use Rattle.std.specs.Int.{w32}
use Rattle.std.specs.List.{All, flat_map}
use Rattle.oc_tree.specs.Names.{NameLists}
use Rattle.oc_items.specs.declared.item.Item.{Item}
use Rattle.oc_items.specs.Text.{full_text, is_over}
use Rattle.oc_items.specs.OneText.{IsItem}

-- these bytes spell these items and, where they are over, these words of variables of these sizes
pub record IsFile (names : NameLists)
    (sizes : List ℕ) (bytes : List ℕ) (items : List Item) (words : List ℤ) : Type 0 where
  pub text : full_text names sizes items words ≡ bytes
  pub each : All (IsItem names) items
  pub count : length words ≡ sum sizes
  pub fit : All (FitsSigned w32) words

-- these bytes spell a report, which has nonvolatile words exactly where its items are over
pub record IsReportFile (names : NameLists)
    (sizes : List ℕ) (bytes : List ℕ) (items : List Item) (nv : Option (List ℤ)) : Type 0 where
  pub words : List ℤ
  pub file : IsFile names sizes bytes items words
  pub nv_is : nv ≡ (if is_over items then Some words else None)

-- ---- lines

-- one byte more in front of the first line
abbrev pub onto_line : ℕ → List (List ℕ) → List (List ℕ)
onto_line b [] = (b ∷ []) ∷ []
onto_line b (l ∷ ls) = (b ∷ l) ∷ ls

-- the pieces up to line feeds, without these; an unfinished last piece is a line too
abbrev pub lines : List ℕ → List (List ℕ)
lines [] = []
lines (b ∷ bs) = if b == 10 then [] ∷ lines bs else onto_line b (lines bs)

-- a line with its line feed
abbrev pub ended : List ℕ → List ℕ
ended l = l ++ codes "\n"

-- a report file begins with these lines
pub record BeginsReport (names : NameLists) (sizes : List ℕ) (ls : List (List ℕ)) : Type 0 where
  pub items : List Item
  pub words : List ℤ
  pub rest : List ℕ
  pub file : IsFile names sizes (flat_map ended ls ++ rest) items words

-- behind these lines, either the next line begins no report file with them, or there is none and
-- the file ends too early
pub data EndsBadly
    (names : NameLists) (sizes : List ℕ) (bytes : List ℕ) (before : List (List ℕ)) : Type 0 where
  bad : (line : List ℕ) (rest : List (List ℕ)) → lines bytes ≡ before ++ line ∷ rest
      → (BeginsReport names sizes (before ++ line ∷ []) → ⊥) → EndsBadly names sizes bytes before
  early : lines bytes ≡ before
      → ((items : List Item) (words : List ℤ) → IsFile names sizes bytes items words → ⊥)
      → EndsBadly names sizes bytes before

-- line n, from 1, is the first bad one
pub record IsBadLine (names : NameLists) (sizes : List ℕ) (bytes : List ℕ) (n : ℕ) : Type 0 where
  pub before : List (List ℕ)
  pub number : n ≡ suc (length before)
  pub begun : BeginsReport names sizes before
  pub ends : EndsBadly names sizes bytes before
