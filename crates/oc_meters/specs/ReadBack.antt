-- What is read of a whole report.
use Rattle.std.specs.Prelude.{ℕ, ℤ, ◌^◌, ◌<◌, ◌≡◌, true, List, [], ◌∷◌}
use Rattle.std.specs.List.{All}
use Rattle.oc_tree.specs.Names.{NameLists}
use Rattle.oc_items.specs.declared.item.Item.{Item}
use Rattle.oc_items.specs.OneText.{AreApart, IsItem, is_field}
use Rattle.oc_items.specs.Reading.{place_of}
use Rattle.oc_items.specs.Text.{full_text}
use Rattle.oc_meters.specs.Tally.{Reading, tell_readings}
use Rattle.oc_meters.specs.Reads.{Page, TakesBytes}

-- what meters read after they were told these items
abbrev pub tell_items : List Item → List Reading → List Reading
tell_items [] readings = readings
tell_items (i ∷ items) readings = tell_items items (tell_readings i readings)

-- a page on which no line is begun
abbrev pub begun : List Reading → Page
begun readings = record { line = []; readings = readings }

-- of a whole report, whose names are those of a program, meters are told just the items, in their
-- order
abbrev pub ReportIsRead : Type 0
ReportIsRead =
    (names : NameLists) (sizes : List ℕ) (items : List Item) (words : List ℤ)
    (old : List Reading) (new : Page)
    → AreApart names.sensors → AreApart names.ports → All (λ n. is_field n ≡ true) names.nvs
    → All (IsItem names) items → All (λ i. place_of i < 2 ^ 8) items
    → TakesBytes names (begun old) (full_text names sizes items words) new
    → new ≡ begun (tell_items items old)
