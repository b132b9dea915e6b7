-- Laws of report files.
use Rattle.std.specs.Prelude.{◌≡◌, ◌<◌, ℕ, ℤ, true, List, [], ◌∷◌, ◌++◌, length, map, sum, FitsSigned, Option, Some, None, if◌then◌else◌}
use Rattle.std.specs.Int.{w32}
use Rattle.std.specs.List.{All, flat_map}
use Rattle.oc_tree.specs.Names.{NameLists}
use Rattle.oc_tree.specs.Tree.{TProgram}
use Rattle.oc_tree.specs.Checked.{Group, IsChecked}
use Rattle.oc_items.specs.declared.item.Item.{Item}
use Rattle.oc_items.specs.OneText.{AreApart, IsItem, is_field}
use Rattle.oc_items.specs.Text.{full_text, is_over}
use Rattle.oc_audit.specs.Files.{IsFile, IsReportFile, IsBadLine, ended, BeginsReport}
use Rattle.oc_audit.specs.Taking.{Taken, TakesItem, TakesWords, TakesNone, has_no_feed, IsRead, AreNames}

-- What was read begins a report file, and a line that isn't taken begins none behind it; a line that is taken is read;
-- and no report file ends where lines are missing, or in a line
pub record ReadsLines (names : NameLists) (sizes : List ℕ) : Type 0 where
  pub begun : (done : List (List ℕ)) (s : Taken)
      → IsRead names sizes done s → BeginsReport names sizes done
  pub item : (done : List (List ℕ)) (s t : Taken) (line : List ℕ) → IsRead names sizes done s
      → TakesItem names s line t → IsRead names sizes (done ++ line ∷ []) t
  pub words : (done : List (List ℕ)) (s t : Taken) (line : List ℕ) → IsRead names sizes done s
      → TakesWords names sizes s line t → IsRead names sizes (done ++ line ∷ []) t
  pub none : (done : List (List ℕ)) (s : Taken) (line : List ℕ)
      → IsRead names sizes done s → has_no_feed line ≡ true
      → TakesNone names sizes s line → BeginsReport names sizes (done ++ line ∷ []) → ⊥
  pub unread : (done : List (List ℕ)) (s : Taken)
      → IsRead names sizes done s → is_over s.items ≡ true → s.next < length names.nvs
      → (items : List Item) (words : List ℤ)
      → IsFile names sizes (flat_map ended done) items words → ⊥
  pub unfinished : (front : List ℕ) (b : ℕ) (line : List ℕ)
      → has_no_feed (b ∷ line) ≡ true → (items : List Item) (words : List ℤ)
      → IsFile names sizes (front ++ b ∷ line) items words → ⊥

-- under names that may stand in a line, with a size for each nonvolatile variable, report files are
-- read line by line
abbrev pub LinesRead : Type 0
LinesRead = (names : NameLists) (sizes : List ℕ) → AreNames names sizes → ReadsLines names sizes

-- bytes have one bad line at most, and those of a report file have none
pub record ReadsOneWay (names : NameLists) (sizes : List ℕ) (bytes : List ℕ) : Type 0 where
  pub one_line : (n m : ℕ) → IsBadLine names sizes bytes n → IsBadLine names sizes bytes m → n ≡ m
  pub no_line : (n : ℕ) (items : List Item) (nv : Option (List ℤ))
      → IsReportFile names sizes bytes items nv → IsBadLine names sizes bytes n → ⊥

-- under any names, bytes have one bad line at most, and those of a report file have none
abbrev pub FilesReadOneWay : Type 0
FilesReadOneWay =
    (names : NameLists) (sizes : List ℕ) (bytes : List ℕ) → ReadsOneWay names sizes bytes

-- the text of a report spells it and no other, and has no bad line
pub record ReadsBack
    (names : NameLists) (sizes : List ℕ) (items : List Item) (words : List ℤ) : Type 0 where
  pub spells : IsReportFile names sizes
      (full_text names sizes items words) items (if is_over items then Some words else None)
  pub alone : (others : List Item) (nv : Option (List ℤ))
      → IsReportFile names sizes (full_text names sizes items words) others nv
      → (others ≡ items) × (nv ≡ (if is_over items then Some words else None))
  pub good : (n : ℕ) → IsBadLine names sizes (full_text names sizes items words) n → ⊥

-- under names of which no two of one kind are the same, the text of each report spells it alone
abbrev pub TextsReadBack : Type 0
TextsReadBack = (names : NameLists) (sizes : List ℕ)
    → AreApart names.sensors → AreApart names.ports
    → All (λ n. is_field n ≡ true) names.nvs → length sizes ≡ length names.nvs
    → (items : List Item) (words : List ℤ)
    → All (IsItem names) items → length words ≡ sum sizes → All (FitsSigned w32) words
    → ReadsBack names sizes items words

-- under the names of a program that breaks no rule, the text of each report spells it alone
abbrev pub ProgramsReadBack : Type 0
ProgramsReadBack = (p : TProgram) (groups : List Group) → IsChecked p groups
    → (items : List Item) (words : List ℤ) → All (IsItem p.names) items
    → length words ≡ sum (map (λ d. d.words) p.nv) → All (FitsSigned w32) words
    → ReadsBack p.names (map (λ d. d.words) p.nv) items words

-- bytes spell one report at most of a program that breaks no rule
abbrev pub OneReportEach : Type 0
OneReportEach =
    (p : TProgram) (groups : List Group)
    → IsChecked p groups → (bytes : List ℕ) (a b : List Item) (u v : Option (List ℤ))
    → IsReportFile p.names (map (λ d. d.words) p.nv) bytes a u
    → IsReportFile p.names (map (λ d. d.words) p.nv) bytes b v → (a ≡ b) × (u ≡ v)
