-- The item of what an item tells is that item.
use Rattle.std.proofs.Common.{refl}
use Rattle.oc_items.specs.declared.item.Item.TheVariants as item
use Rattle.oc_items.specs.Told.{ItemsTell}

pub items_tell : ItemsTell
items_tell (item.Sense tick sensor value) = refl
items_tell (item.Emit tick port value) = refl
items_tell (item.Use tick stmt) = refl
items_tell (item.Done tick stmt) = refl
items_tell (item.Tag tick stmt) = refl
items_tell (item.Enter tick region) = refl
items_tell (item.Commit tick region) = refl
items_tell (item.Abort tick region) = refl
items_tell (item.Off tick ticks) = refl
items_tell (item.Trap tick kind stmt) = refl
items_tell (item.End tick) = refl
items_tell (item.Dark tick) = refl
