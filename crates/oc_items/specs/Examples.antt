-- Reports without their aborted attempts, and the lines of items, by examples.
use Rattle.std.specs.Prelude.{◌≡◌, refl, ◌++◌, ℕ, pos, false, List, [], ◌∷◌, codes, decimal}
use Rattle.std.specs.Fmt.{signed_decimal}
use Rattle.oc_tree.specs.Names.{NameLists}
use Rattle.oc_tree.specs.Said.{Told}
use Rattle.oc_tree.specs.declared.said.Said.{Said}
use Rattle.oc_tree.specs.declared.said.Said.TheVariants.{Sensed, Entered, Committed, Aborted, Off, Ended}
use Rattle.oc_tree.specs.declared.said.TrapKind.TheVariants as traps
use Rattle.oc_tree.specs.declared.said.Ending.TheVariants.{Halted}
use Rattle.oc_items.specs.declared.item.Item.TheVariants as item
use Rattle.oc_items.specs.Erase.{erase, marked, kept, kept_samples, HasNoOffInside}
use Rattle.oc_items.specs.Reports.{IsPrefixOf, EndsWith}
use Rattle.oc_items.specs.Told.{item_of}
use Rattle.oc_items.specs.Text.{item_line, report_text, words_line, full_text}

-- an item: at this tick this was said
abbrev pub at : (tick : ℕ) → Said → Told
at tick s = record { tick = tick; said = s }

-- region 1 is begun, aborted by an outage of 100 ticks, begun anew, and committed
abbrev pub aborted_once : List Told
aborted_once =
    at 5 (Entered 1) ∷ at 6 (Sensed 0 (pos 21)) ∷ at 9 (Aborted 1) ∷ at 9 (Off 100)
    ∷ at 114 (Entered 1) ∷ at 115 (Sensed 0 (pos 30)) ∷ at 121 (Committed 1)
    ∷ at 122 (Ended Halted) ∷ []

-- a sensor `temperature`, a port `alarm` and a nonvolatile variable `count`
abbrev pub some_names : NameLists
some_names =
    record {
      sensors = codes "temperature" ∷ [];
      ports = codes "alarm" ∷ [];
      nvs = codes "count" ∷ [];
    }

pub erase_example : erase aborted_once
    ≡ at 9 (Off 100) ∷ at 114 (Entered 1) ∷ at 115 (Sensed 0 (pos 30)) ∷ at 121 (Committed 1)
    ∷ at 122 (Ended Halted) ∷ []
erase_example = refl

-- an attempt that is under way stays
pub erase_example_open :
    erase (at 5 (Entered 1) ∷ at 6 (Sensed 0 (pos 21)) ∷ [])
    ≡ at 5 (Entered 1) ∷ at 6 (Sensed 0 (pos 21)) ∷ []
erase_example_open = refl

pub marked_example :
    marked aborted_once ≡ Entered 1 ∷ Sensed 0 (pos 30) ∷ Committed 1 ∷ Ended Halted ∷ []
marked_example = refl

pub kept_example : kept aborted_once ≡ Sensed 0 (pos 30) ∷ Ended Halted ∷ []
kept_example = refl

pub kept_samples_example : kept_samples aborted_once ≡ pos 30 ∷ []
kept_samples_example = refl

-- an outage stands outside of the region: nothing is asked that doesn't hold
pub HasNoOffInside_example :
    HasNoOffInside false (at 5 (Entered 1) ∷ at 6 (Committed 1) ∷ at 7 (Off 5) ∷ [])
    ≡ (Unit {0} × (Unit {0} × (Unit {0} × Unit {0})))
HasNoOffInside_example = refl

-- an outage stands in the region: that doesn't hold
pub HasNoOffInside_example_inside :
    HasNoOffInside false (at 5 (Entered 1) ∷ at 6 (Off 5) ∷ []) ≡ (Unit {0} × (⊥ × Unit {0}))
HasNoOffInside_example_inside = refl

pub IsPrefixOf_example :
    IsPrefixOf (Sensed 0 (pos 1) ∷ []) (Sensed 0 (pos 1) ∷ Ended Halted ∷ [])
IsPrefixOf_example = (Ended Halted ∷ [], refl)

pub EndsWith_example :
    EndsWith (at 1 (Sensed 0 (pos 1)) ∷ at 2 (Ended Halted) ∷ []) (Ended Halted)
EndsWith_example = (at 1 (Sensed 0 (pos 1)) ∷ [], 2, refl)

pub item_of_example : item_of (at 9 (Off 100)) ≡ item.Off 9 100
item_of_example = refl

pub item_line_example : item_line some_names (item.Sense 1 0 (pos 21))
    ≡ decimal 1 ++ (codes " sense temperature " ++ (signed_decimal (pos 21) ++ codes "\n"))
item_line_example = refl

pub item_line_example_trap :
    item_line some_names (item.Trap 9 traps.Index 7)
    ≡ decimal 9 ++ (codes " trap index " ++ (decimal 7 ++ codes "\n"))
item_line_example_trap = refl

-- behind `end` stand the words of the nonvolatile variables
pub full_text_example :
    full_text some_names (1 ∷ []) (item.End 8 ∷ []) (pos 4 ∷ [])
    ≡ report_text some_names (item.End 8 ∷ []) ++ (words_line (codes "count") (pos 4 ∷ []) ++ [])
full_text_example = refl

-- and behind `dark` none
pub full_text_example_dark :
    full_text some_names (1 ∷ []) (item.Dark 8 ∷ []) (pos 4 ∷ [])
    ≡ report_text some_names (item.Dark 8 ∷ []) ++ []
full_text_example_dark = refl
