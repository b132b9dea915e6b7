-- What meters tell behind the line of an answer.
use Rattle.std.specs.Prelude.{ℕ, ◌≡◌, List, [], Option, Some, None, option_map}
use Rattle.std.specs.Global.{Vec}
use Rattle.oc_items.specs.declared.item.Item.{Item}
use Rattle.oc_meters.specs.Lines.{meter_lines}
use Rattle.oc_meters.specs.ReadBack.{tell_items}
use Rattle.oc_meters.specs.Tally.{Reading, readings}

-- these are the lines of meters that began so and were told these items, one after the other; or no lines are wanted
abbrev pub HasTold : List Item → Option (List Reading) → List ℕ → Type 0
HasTold items None told = told ≡ []
HasTold items (Some meters) told = told ≡ meter_lines (tell_items items meters)

-- the lines that stand behind that of the answer, if any
abbrev pub told_by : Option (List Reading) → List ℕ
told_by None = []
told_by (Some meters) = meter_lines meters

-- what meters read, if there are any
abbrev pub told_of : {M : Type 0} → (M → ℕ) → (M → List ℕ) → Option (Vec M) → Option (List Reading)
told_of kind numbers meters = option_map (λ v. readings kind numbers v.items) meters
