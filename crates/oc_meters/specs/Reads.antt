-- What meters are told of the bytes of a report.
use Rattle.std.specs.Prelude.{ℕ, ◌+◌, ◌==◌, ◌≡◌, true, false, List, [], ◌∷◌, ◌++◌, length, take, max, codes}
use Rattle.oc_tree.specs.Names.{NameLists, Text}
use Rattle.oc_items.specs.declared.item.Item.{Item}
use Rattle.oc_items.specs.Reading.{LineTells, LineTellsNone}
use Rattle.oc_meters.specs.Tally.{Reading, readings, tell_readings}

-- the length of the longest of these names
abbrev pub longest : List Text → ℕ
longest [] = 0
longest (name ∷ names) = max (length name) (longest names)

-- the most digits of a tick, and of how many ticks an outage lasts
abbrev pub tick_digits : ℕ
tick_digits = 20

-- the most bytes of a value: a sign and ten digits
abbrev pub value_bytes : ℕ
value_bytes = 11

-- the length of the longest line of an item, without its line feed: that of an outage, of an input
-- or of an output
abbrev pub longest_line : NameLists → ℕ
longest_line names =
    max (tick_digits + (length (codes " off ") + tick_digits))
    (max (tick_digits + (length (codes " sense ") + (longest names.sensors + (1 + value_bytes))))
    (tick_digits + (length (codes " emit ") + (longest names.ports + (1 + value_bytes)))))

-- the first bytes of a line that isn't finished, and what the meters were told
pub record Page : Type 0 where
  pub line : List ℕ
  pub readings : List Reading

-- a line that isn't finished, with the kinds and the numbers of these meters
abbrev pub page : {M : Type 0} → (M → ℕ) → (M → List ℕ) → List ℕ → List M → Page
page kind numbers line meters = record { line = line; readings = readings kind numbers meters }

-- the meters were told the item of this line, or it is the line of none and they were told nothing
pub data IsLineTold (names : NameLists) (line : List ℕ) (old new : List Reading) : Type 0 where
  told : (i : Item) → LineTells names line i → new ≡ tell_readings i old → IsLineTold names line old new
  untold : LineTellsNone names line → new ≡ old → IsLineTold names line old new

-- a line feed ends the line; of other bytes so many are kept, one more than an item's line has
pub data TakesByte (names : NameLists) (old : Page) (byte : ℕ) (new : Page) : Type 0 where
  ends : (byte == 10) ≡ true
      → IsLineTold names old.line old.readings new.readings → new.line ≡ []
      → TakesByte names old byte new
  goes_on : (byte == 10) ≡ false
      → new ≡ record {
        line = take (longest_line names + 1) (old.line ++ byte ∷ []);
        readings = old.readings;
      }
      → TakesByte names old byte new

-- how a page goes on by one byte after the other
abbrev pub TakesBytes : NameLists → Page → List ℕ → Page → Type 0
TakesBytes names old [] new = new ≡ old
TakesBytes names old (byte ∷ bytes) new =
    (between : Page) × TakesByte names old byte between × TakesBytes names between bytes new
