-- A report, read line by line.
use Rattle.std.specs.Prelude.{◌≡◌, ◌⊎◌, ◌<◌, ◌≤◌, ◌^◌, ◌+◌, ◌==◌, not, ℕ, suc, ℤ, Bool, true, false, List, [], ◌∷◌, ◌++◌, length, get_or, take, sum, FitsSigned}
use Rattle.std.specs.Int.{w32}
use Rattle.std.specs.List.{All, list_all, flat_map}
use Rattle.oc_tree.specs.Names.{NameLists, name_at}
use Rattle.oc_items.specs.declared.item.Item.{Item}
use Rattle.oc_items.specs.Text.{is_over, report_text, words_lines}
use Rattle.oc_items.specs.OneText.{is_field, IsItem}
use Rattle.oc_items.specs.Reading.{HasLine, LineTellsNone}
use Rattle.oc_audit.specs.Files.{lines, ended}
use Rattle.oc_audit.specs.Words.{IsWordsLine}

-- what was read: items, the lines of so many nonvolatile variables, and their words
pub record Taken : Type 0 where
  pub items : List Item
  pub next : ℕ
  pub words : List ℤ

-- the line of one more item is taken
pub record TakesItem (names : NameLists) (s : Taken) (line : List ℕ) (t : Taken) : Type 0 where
  pub item : Item
  pub has : HasLine names line item
  pub none : s.next ≡ 0
  pub is : t ≡ record s { items = s.items ++ item ∷ [] }

-- the line of the next nonvolatile variable is taken
pub record TakesWords
    (names : NameLists) (sizes : List ℕ) (s : Taken) (line : List ℕ) (t : Taken) : Type 0 where
  pub words : List ℤ
  pub over : is_over s.items ≡ true
  pub there : s.next < length names.nvs
  pub has : IsWordsLine (name_at names.nvs s.next) (get_or sizes s.next 0) line words
  pub is : t ≡ record { items = s.items; next = suc s.next; words = s.words ++ words }

-- a line is none that may stand behind what was read
pub record TakesNone (names : NameLists) (sizes : List ℕ) (s : Taken) (line : List ℕ) : Type 0 where
  pub no_item : s.next ≡ 0 → LineTellsNone names line
  pub no_words : is_over s.items ≡ true → s.next < length names.nvs → (words : List ℤ)
      → IsWordsLine (name_at names.nvs s.next) (get_or sizes s.next 0) line words → ⊥

-- what a line does to what was read: it is taken, or may not stand here
abbrev pub Takes : NameLists → List ℕ → Taken → List ℕ → Bool → Taken → Type 0
Takes names sizes s line true t = TakesItem names s line t ⊎ TakesWords names sizes s line t
Takes names sizes s line false t = TakesNone names sizes s line

-- no line feed is among these bytes
abbrev pub has_no_feed : List ℕ → Bool
has_no_feed bytes = list_all (λ b. not (b == 10)) bytes

-- these lines spell what was read of a report
pub record IsRead
    (names : NameLists) (sizes : List ℕ) (done : List (List ℕ)) (s : Taken) : Type 0 where
  pub text : report_text names s.items
      ++ words_lines (take s.next names.nvs) sizes s.words ≡ flat_map ended done
  pub each : All (IsItem names) s.items
  pub fit : All (FitsSigned w32) s.words
  pub many : length s.words ≡ sum (take s.next sizes)
  pub below : s.next ≤ length names.nvs
  pub over : (s.next ≡ 0) ⊎ (is_over s.items ≡ true)

-- n lines of these bytes were read, and the rest is left
pub record Stands (names : NameLists)
    (sizes : List ℕ) (bytes : List ℕ) (n : ℕ) (rest : List ℕ) (s : Taken) : Type 0 where
  pub done : List (List ℕ)
  pub number : n ≡ length done
  pub short : n + length rest ≤ length bytes
  pub split : lines bytes ≡ done ++ lines rest
  pub text : flat_map ended done ++ rest ≡ bytes
  pub read : IsRead names sizes done s

-- names have neither spaces nor line feeds, there are few of them, and each nonvolatile one has its size
pub record AreNames (names : NameLists) (sizes : List ℕ) : Type 0 where
  pub sensors : All (λ n. is_field n ≡ true) names.sensors
  pub ports : All (λ n. is_field n ≡ true) names.ports
  pub nvs : All (λ n. is_field n ≡ true) names.nvs
  pub few_sensors : length names.sensors ≤ 2 ^ 8
  pub few_ports : length names.ports ≤ 2 ^ 8
  pub each : length sizes ≡ length names.nvs

-- an item's line is taken; or it is none that may stand here, and nothing is
abbrev pub GivesItem : NameLists → Taken → List ℕ → Bool → Taken → Type 0
GivesItem names s line true t = TakesItem names s line t
GivesItem names s line false t = (s.next ≡ 0 → LineTellsNone names line) × (t ≡ s)

-- the line of the next variable is taken, or it isn't that
abbrev pub GivesLine : NameLists → List ℕ → Taken → List ℕ → Bool → Taken → Type 0
GivesLine names sizes s line true t = TakesWords names sizes s line t
GivesLine names sizes s line false t =
    is_over s.items ≡ true → s.next < length names.nvs → (words : List ℤ)
    → IsWordsLine (name_at names.nvs s.next) (get_or sizes s.next 0) line words → ⊥
