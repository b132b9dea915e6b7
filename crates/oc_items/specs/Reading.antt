-- What a line tells.
use Rattle.std.specs.Prelude.{ℕ, ℤ, ◌^◌, ◌<◌, ◌≤◌, ◌≡◌, ◌+◌, ◌-◌, ◌*◌, ◌++◌, ◌==◌, not, Bool, false, List, [], ◌∷◌, length, codes, decimal, FitsSigned}
use Rattle.std.specs.Int.{w32}
use Rattle.std.specs.Fmt.{signed_decimal}
use Rattle.std.specs.List.{list_all}
use Rattle.oc_tree.specs.Names.{NameLists, Text, name_at}
use Rattle.oc_items.specs.declared.item.Item.{Item}
use Rattle.oc_items.specs.declared.item.Item.TheVariants as item
use Rattle.oc_items.specs.Text.{trap_word, tick_of, item_line}
use Rattle.oc_items.specs.OneText.{IsItem}

-- the number of an item's sensor or port
abbrev pub place_of : Item → ℕ
place_of (item.Sense tick sensor value) = sensor
place_of (item.Emit tick port value) = port
place_of other = 0

-- an item has this line, without its line feed
pub record HasLine (names : NameLists) (line : List ℕ) (i : Item) : Type 0 where
  pub is : IsItem names i
  pub line_is : item_line names i ≡ line ++ codes "\n"

-- an item is that of this line, its sensor or port the first of its name
pub record LineTells (names : NameLists) (line : List ℕ) (i : Item) : Type 0 where
  pub has : HasLine names line i
  pub first : (j : Item) → HasLine names line j → place_of i ≤ place_of j

-- no item has this line, whose sensor's or port's number fits its type
abbrev pub LineTellsNone : NameLists → List ℕ → Type 0
LineTellsNone names line = (i : Item) → place_of i < 2 ^ 8 → HasLine names line i → ⊥

-- ---- parts of a line

-- what stands in an item's line behind its tick and a space
abbrev pub body_of : NameLists → Item → List ℕ
body_of names (item.Sense tick sensor value) =
    codes "sense " ++ (name_at names.sensors sensor ++ (codes " " ++ signed_decimal value))
body_of names (item.Emit tick port value) =
    codes "emit " ++ (name_at names.ports port ++ (codes " " ++ signed_decimal value))
body_of names (item.Use tick stmt) = codes "use " ++ decimal stmt
body_of names (item.Done tick stmt) = codes "done " ++ decimal stmt
body_of names (item.Tag tick stmt) = codes "tag " ++ decimal stmt
body_of names (item.Enter tick region) = codes "enter " ++ decimal region
body_of names (item.Commit tick region) = codes "commit " ++ decimal region
body_of names (item.Abort tick region) = codes "abort " ++ decimal region
body_of names (item.Off tick ticks) = codes "off " ++ decimal ticks
body_of names (item.Trap tick kind stmt) =
    codes "trap " ++ (trap_word kind ++ (codes " " ++ decimal stmt))
body_of names (item.End tick) = codes "end"
body_of names (item.Dark tick) = codes "dark"

-- none of these bytes is a space
abbrev pub has_no_space : List ℕ → Bool
has_no_space bytes = list_all (λ b. not (b == 32)) bytes

-- the number that digits spell behind one
abbrev pub spelled_from : ℕ → List ℕ → ℕ
spelled_from n [] = n
spelled_from n (c ∷ cs) = spelled_from (10 * n + (c - 48)) cs

-- a 0 stands before other bytes
abbrev pub zero_leads : List ℕ → Bool
zero_leads (b ∷ c ∷ cs) = b == 48
zero_leads _ = false

-- both have a first byte, and these differ
abbrev pub differ_first : List ℕ → List ℕ → Bool
differ_first (a ∷ xs) (b ∷ bs) = not (a == b)
differ_first _ _ = false

-- these bytes stand behind the key
abbrev pub StandsBehind : List ℕ → List ℕ → List ℕ → Type 0
StandsBehind key bytes rest = key ++ rest ≡ bytes

-- this number below the limit is spelled behind the key
pub record Spelled (key bytes : List ℕ) (limit n : ℕ) : Type 0 where
  pub below : n < limit
  pub spelled : key ++ decimal n ≡ bytes

-- no number below the limit is spelled behind the key
abbrev pub SpelledNone : List ℕ → List ℕ → ℕ → Type 0
SpelledNone key bytes limit = (n : ℕ) → Spelled key bytes limit n → ⊥

-- a value stands behind a name and a space
pub record IsValue (name bytes : List ℕ) (value : ℤ) : Type 0 where
  pub fits : FitsSigned w32 value
  pub spelled : name ++ (codes " " ++ signed_decimal value) ≡ bytes

-- none of the first so many names stands in front of a value
pub record NoneBefore (names : List Text) (bytes : List ℕ) (place : ℕ) : Type 0 where
  pub none : (k : ℕ) (value : ℤ) → k < place → IsValue (name_at names k) bytes value → ⊥

-- the name with this number is the first in front of a value, which is this one
pub record NamedIn (names : List Text) (bytes : List ℕ) (place : ℕ) (value : ℤ) : Type 0 where
  pub there : place < length names
  pub is_value : IsValue (name_at names place) bytes value
  pub first : NoneBefore names bytes place

-- the item has this tick and this body
pub record HasBody (names : NameLists) (tick : ℕ) (bytes : List ℕ) (i : Item) : Type 0 where
  pub is : IsItem names i
  pub tick_is : tick_of i ≡ tick
  pub body : body_of names i ≡ bytes

-- an item is that of this tick and this body, its sensor or port the first of its name
pub record TellsBody (names : NameLists) (tick : ℕ) (bytes : List ℕ) (i : Item) : Type 0 where
  pub has : HasBody names tick bytes i
  pub first : (j : Item) → HasBody names tick bytes j → place_of i ≤ place_of j

-- no item of an input has this body
pub record NoSense (names : NameLists) (bytes : List ℕ) : Type 0 where
  pub none : (place : ℕ) (value : ℤ)
      → place < 2 ^ 8 → place < length names.sensors → FitsSigned w32 value
      → body_of names (item.Sense 0 place value) ≡ bytes
      → ⊥

-- no item of an output has this body
pub record NoEmit (names : NameLists) (bytes : List ℕ) : Type 0 where
  pub none : (place : ℕ) (value : ℤ)
      → place < 2 ^ 8 → place < length names.ports → FitsSigned w32 value
      → body_of names (item.Emit 0 place value) ≡ bytes
      → ⊥

-- no item of a statement has this body
pub record NoStatement (bytes : List ℕ) : Type 0 where
  pub uses : SpelledNone (codes "use ") bytes (2 ^ 32)
  pub dones : SpelledNone (codes "done ") bytes (2 ^ 32)
  pub tags : SpelledNone (codes "tag ") bytes (2 ^ 32)
  pub zeros : SpelledNone (codes "trap zero ") bytes (2 ^ 32)
  pub indexes : SpelledNone (codes "trap index ") bytes (2 ^ 32)

-- no item of a region or an attempt has this body
pub record NoMark (bytes : List ℕ) : Type 0 where
  pub enters : SpelledNone (codes "enter ") bytes (2 ^ 32)
  pub commits : SpelledNone (codes "commit ") bytes (2 ^ 32)
  pub aborts : SpelledNone (codes "abort ") bytes (2 ^ 32)

-- no item of an outage or of an end has this body
pub record NoStop (bytes : List ℕ) : Type 0 where
  pub offs : SpelledNone (codes "off ") bytes (2 ^ 64)
  pub ends : codes "end" ≡ bytes → ⊥
  pub darks : codes "dark" ≡ bytes → ⊥
