-- The items of what a run tells.
use Rattle.std.specs.Prelude.{◌≡◌, ℕ}
use Rattle.oc_tree.specs.Said.{Told}
use Rattle.oc_tree.specs.declared.said.Said.{Said}
use Rattle.oc_tree.specs.declared.said.Said.TheVariants as said
use Rattle.oc_tree.specs.declared.said.Shown.TheVariants as shown
use Rattle.oc_tree.specs.declared.said.Ending.TheVariants as ending
use Rattle.oc_items.specs.declared.item.Item.{Item}
use Rattle.oc_items.specs.declared.item.Item.TheVariants as item

-- what was said, as an item of this tick
abbrev pub said_at : ℕ → Said → Item
said_at tick (said.Sensed sensor value) = item.Sense tick sensor value
said_at tick (said.Showed (shown.Emitted port value)) = item.Emit tick port value
said_at tick (said.Showed (shown.Used stmt)) = item.Use tick stmt
said_at tick (said.Showed (shown.Finished stmt)) = item.Done tick stmt
said_at tick (said.Showed (shown.Tagged stmt)) = item.Tag tick stmt
said_at tick (said.Entered region) = item.Enter tick region
said_at tick (said.Committed region) = item.Commit tick region
said_at tick (said.Aborted region) = item.Abort tick region
said_at tick (said.Off ticks) = item.Off tick ticks
said_at tick said.Dark = item.Dark tick
said_at tick (said.Ended ending.Halted) = item.End tick
said_at tick (said.Ended (ending.Trapped kind stmt)) = item.Trap tick kind stmt

-- the item that tells this
abbrev pub item_of : Told → Item
item_of t = said_at t.tick t.said

-- what an item tells
abbrev pub told_of : Item → Told
told_of (item.Sense tick sensor value) = record { tick = tick; said = said.Sensed sensor value }
told_of (item.Emit tick port value) =
    record { tick = tick; said = said.Showed (shown.Emitted port value) }
told_of (item.Use tick stmt) = record { tick = tick; said = said.Showed (shown.Used stmt) }
told_of (item.Done tick stmt) = record { tick = tick; said = said.Showed (shown.Finished stmt) }
told_of (item.Tag tick stmt) = record { tick = tick; said = said.Showed (shown.Tagged stmt) }
told_of (item.Enter tick region) = record { tick = tick; said = said.Entered region }
told_of (item.Commit tick region) = record { tick = tick; said = said.Committed region }
told_of (item.Abort tick region) = record { tick = tick; said = said.Aborted region }
told_of (item.Off tick ticks) = record { tick = tick; said = said.Off ticks }
told_of (item.Trap tick kind stmt) =
    record { tick = tick; said = said.Ended (ending.Trapped kind stmt) }
told_of (item.End tick) = record { tick = tick; said = said.Ended ending.Halted }
told_of (item.Dark tick) = record { tick = tick; said = said.Dark }

-- an item is what it tells
abbrev pub ItemsTell : Type 0
ItemsTell = (i : Item) → item_of (told_of i) ≡ i
