-- A text tells its report.
use Rattle.std.specs.Prelude.{ℕ, ℤ, ◌^◌, ◌<◌, ◌≡◌, ◌≢◌, ◌==◌, ◌||◌, ◌&&◌, not, Bool, true, List, [], ◌∷◌, length, sum, FitsSigned, ⊤}
use Rattle.std.specs.Int.{w32}
use Rattle.std.specs.List.{All, AllPairs}
use Rattle.oc_lex.specs.declared.piece.Piece.TheVariants as piece
use Rattle.oc_lex.specs.Pieces.{IsPiece}
use Rattle.oc_tree.specs.Names.{NameLists, Text}
use Rattle.oc_items.specs.declared.item.Item.{Item}
use Rattle.oc_items.specs.declared.item.Item.TheVariants as item
use Rattle.oc_items.specs.Text.{IsNamed, tick_of, report_text, full_text, is_over}

-- a space or a line feed, which stands after a field
abbrev pub ends_field : ℕ → Bool
ends_field b = (b == 32) || (b == 10)

-- none of these bytes ends a field
abbrev pub is_field : List ℕ → Bool
is_field [] = true
is_field (b ∷ rest) = not (ends_field b) && is_field rest

-- the names of sensors, or of ports, are fields, and no two of them are the same
pub record AreApart (names : List Text) : Type 0 where
  pub fields : All (λ n. is_field n ≡ true) names
  pub differ : AllPairs (λ m n. m ≢ n) names

-- the numbers of an item after its tick fit their types
abbrev pub Fits : Item → Type 0
Fits (item.Sense tick sensor value) = FitsSigned w32 value
Fits (item.Emit tick port value) = FitsSigned w32 value
Fits (item.Use tick stmt) = stmt < 2 ^ 32
Fits (item.Done tick stmt) = stmt < 2 ^ 32
Fits (item.Tag tick stmt) = stmt < 2 ^ 32
Fits (item.Enter tick region) = region < 2 ^ 32
Fits (item.Commit tick region) = region < 2 ^ 32
Fits (item.Abort tick region) = region < 2 ^ 32
Fits (item.Off tick ticks) = ticks < 2 ^ 64
Fits (item.Trap tick kind stmt) = stmt < 2 ^ 32
Fits i = ⊤

-- an item under these names: its sensor or port is there, and its numbers fit
pub record IsItem (names : NameLists) (i : Item) : Type 0 where
  pub tick : tick_of i < 2 ^ 64
  pub named : IsNamed names i
  pub fits : Fits i

-- two lists of items with the same text are equal
abbrev pub OneTextEach : Type 0
OneTextEach = (names : NameLists) (a b : List Item)
    → AreApart names.sensors → AreApart names.ports
    → All (IsItem names) a → All (IsItem names) b
    → report_text names a ≡ report_text names b → a ≡ b

-- two whole reports of variables of these sizes with the same text are equal
abbrev pub OneReportEach : Type 0
OneReportEach = (names : NameLists) (sizes : List ℕ) (a b : List Item) (u v : List ℤ)
    → AreApart names.sensors → AreApart names.ports → All (λ n. is_field n ≡ true) names.nvs
    → length sizes ≡ length names.nvs
    → All (IsItem names) a → All (IsItem names) b
    → length u ≡ sum sizes → length v ≡ sum sizes
    → All (FitsSigned w32) u → All (FitsSigned w32) v
    → full_text names sizes a u ≡ full_text names sizes b v
    → (a ≡ b) × (is_over a ≡ true → u ≡ v)

-- names of the language are fields
abbrev pub NamesAreFields : Type 0
NamesAreFields = (name : Text) → IsPiece piece.Name name → is_field name ≡ true
