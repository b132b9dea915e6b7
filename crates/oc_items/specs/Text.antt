-- The lines of a report.
use Rattle.std.specs.Prelude.{ℕ, ℤ, ◌<◌, ◌++◌, ⊤, Bool, true, false, List, [], ◌∷◌, length, map, take, drop, codes, decimal, if◌then◌else◌}
use Rattle.std.specs.List.{flat_map}
use Rattle.std.specs.Fmt.{signed_decimal}
use Rattle.oc_io.specs.Lines.{line_of}
use Rattle.oc_tree.specs.Names.{NameLists, Text, name_at}
use Rattle.oc_tree.specs.declared.said.TrapKind.{TrapKind}
use Rattle.oc_tree.specs.declared.said.TrapKind.TheVariants as trap
use Rattle.oc_items.specs.declared.item.Item.{Item}
use Rattle.oc_items.specs.declared.item.Item.TheVariants as item

-- the word for why a run was trapped
abbrev pub trap_word : TrapKind → List ℕ
trap_word trap.Zero = codes "zero"
trap_word trap.Index = codes "index"

-- the tick of an item
abbrev pub tick_of : Item → ℕ
tick_of (item.Sense tick sensor value) = tick
tick_of (item.Emit tick port value) = tick
tick_of (item.Use tick stmt) = tick
tick_of (item.Done tick stmt) = tick
tick_of (item.Tag tick stmt) = tick
tick_of (item.Enter tick region) = tick
tick_of (item.Commit tick region) = tick
tick_of (item.Abort tick region) = tick
tick_of (item.Off tick ticks) = tick
tick_of (item.Trap tick kind stmt) = tick
tick_of (item.End tick) = tick
tick_of (item.Dark tick) = tick

-- the fields of an item's line after its tick
abbrev pub fields_of : NameLists → Item → List (List ℕ)
fields_of names (item.Sense tick sensor value) =
    codes "sense" ∷ name_at names.sensors sensor ∷ signed_decimal value ∷ []
fields_of names (item.Emit tick port value) =
    codes "emit" ∷ name_at names.ports port ∷ signed_decimal value ∷ []
fields_of names (item.Use tick stmt) = codes "use" ∷ decimal stmt ∷ []
fields_of names (item.Done tick stmt) = codes "done" ∷ decimal stmt ∷ []
fields_of names (item.Tag tick stmt) = codes "tag" ∷ decimal stmt ∷ []
fields_of names (item.Enter tick region) = codes "enter" ∷ decimal region ∷ []
fields_of names (item.Commit tick region) = codes "commit" ∷ decimal region ∷ []
fields_of names (item.Abort tick region) = codes "abort" ∷ decimal region ∷ []
fields_of names (item.Off tick ticks) = codes "off" ∷ decimal ticks ∷ []
fields_of names (item.Trap tick kind stmt) = codes "trap" ∷ trap_word kind ∷ decimal stmt ∷ []
fields_of names (item.End tick) = codes "end" ∷ []
fields_of names (item.Dark tick) = codes "dark" ∷ []

-- the line of an item, with its line feed
abbrev pub item_line : NameLists → Item → List ℕ
item_line names i = line_of (decimal (tick_of i) ∷ fields_of names i)

-- the lines of these items, one after the other
abbrev pub report_text : NameLists → List Item → List ℕ
report_text names items = flat_map (item_line names) items

-- the names that an item speaks of are there
abbrev pub IsNamed : NameLists → Item → Type 0
IsNamed names (item.Sense tick sensor value) = sensor < length names.sensors
IsNamed names (item.Emit tick port value) = port < length names.ports
IsNamed names i = ⊤

-- a further word of a nonvolatile variable, with the space before it
abbrev pub word_field : ℤ → List ℕ
word_field word = codes " " ++ signed_decimal word

-- a nonvolatile variable with all its words
abbrev pub words_line : Text → List ℤ → List ℕ
words_line name words = line_of (codes "nv" ∷ name ∷ map signed_decimal words)

-- the line of the nonvolatile variable with this number
abbrev pub nv_line : NameLists → ℕ → List ℤ → List ℕ
nv_line names name words = words_line (name_at names.nvs name) words

-- one line for each of these names, in order: so many words for each, of all words in order
abbrev pub words_lines : List Text → List ℕ → List ℤ → List ℕ
words_lines [] sizes words = []
words_lines (name ∷ names) [] words = []
words_lines (name ∷ names) (size ∷ sizes) words =
    words_line name (take size words) ++ words_lines names sizes (drop size words)

-- the lines of all nonvolatile variables of these sizes
abbrev pub nv_lines : NameLists → List ℕ → List ℤ → List ℕ
nv_lines names sizes words = words_lines names.nvs sizes words

-- a run is over with this item
abbrev pub ends : Item → Bool
ends (item.End tick) = true
ends (item.Trap tick kind stmt) = true
ends other = false

-- the last of these items is one with which a run is over
abbrev pub is_over : List Item → Bool
is_over [] = false
is_over (i ∷ []) = ends i
is_over (i ∷ j ∷ rest) = is_over (j ∷ rest)

-- a report: its items, and where they are over, the nonvolatile words
abbrev pub full_text : NameLists → List ℕ → List Item → List ℤ → List ℕ
full_text names sizes items words =
    report_text names items ++ (if is_over items then nv_lines names sizes words else [])
