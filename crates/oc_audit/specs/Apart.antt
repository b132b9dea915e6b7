-- The names of accepted programs are apart, and so their reports have one text each.
use Rattle.std.specs.Prelude.{ℕ, ℤ, ◌≡◌, true, List, All, length, map, sum, FitsSigned}
use Rattle.std.specs.Int.{w32}
use Rattle.oc_tree.specs.Names.{NameLists}
use Rattle.oc_tree.specs.Tree.{TProgram}
use Rattle.oc_tree.specs.Checked.{Group, IsWritten, IsChecked}
use Rattle.oc_items.specs.declared.item.Item.{Item}
use Rattle.oc_items.specs.Text.{report_text, full_text, is_over}
use Rattle.oc_items.specs.OneText.{AreApart, IsItem, is_field}

-- the names of sensors are apart, so are those of ports, and those of nonvolatile variables are fields
pub record HasNamesApart (names : NameLists) : Type 0 where
  pub sensors : AreApart names.sensors
  pub ports : AreApart names.ports
  pub nvs : All (λ n. is_field n ≡ true) names.nvs

-- of each written program that breaks no rule
abbrev pub NamesAreApart : Type 0
NamesAreApart = (p : TProgram) → IsWritten p → HasNamesApart p.names

-- and of each checked program
abbrev pub CheckedNamesAreApart : Type 0
CheckedNamesAreApart =
    (p : TProgram) (groups : List Group) → IsChecked p groups → HasNamesApart p.names

-- two lists of items of one such program with the same text are equal
abbrev pub ProgramsHaveOneText : Type 0
ProgramsHaveOneText =
    (p : TProgram) → IsWritten p
    → (a b : List Item) → All (IsItem p.names) a → All (IsItem p.names) b
    → report_text p.names a ≡ report_text p.names b → a ≡ b

-- how many words each nonvolatile variable has
abbrev pub sizes_of : TProgram → List ℕ
sizes_of p = map (λ d. d.words) p.nv

-- words of all nonvolatile variables
pub record AreWords (p : TProgram) (words : List ℤ) : Type 0 where
  pub all : length words ≡ sum (sizes_of p)
  pub fit : All (FitsSigned w32) words

-- two whole reports of one such program with the same text are equal
abbrev pub ProgramsHaveOneReport : Type 0
ProgramsHaveOneReport =
    (p : TProgram) → IsWritten p → (a b : List Item) (u v : List ℤ)
    → All (IsItem p.names) a → All (IsItem p.names) b → AreWords p u → AreWords p v
    → full_text p.names (sizes_of p) a u ≡ full_text p.names (sizes_of p) b v
    → (a ≡ b) × (is_over a ≡ true → u ≡ v)
