-- A report without its aborted attempts.
use Rattle.std.specs.Prelude.{◌≡◌, ℤ, List, [], ◌∷◌, ◌++◌, Option, Some, None, Bool, true, false, ◌==◌, if◌then◌else◌}
use Rattle.oc_tree.specs.Said.{Told}
use Rattle.oc_tree.specs.declared.said.Said.{Said}
use Rattle.oc_tree.specs.declared.said.Said.TheVariants.{Sensed, Entered, Committed, Aborted, Off, Dark}

-- Erasing. A stretch is what stands from an `enter` to the `abort` of the same region, where no
-- `enter`, `commit` or `abort` stands between. All stretches are taken out, once and at the same
-- time

-- what was said, where it is an `enter`, a `commit` or an `abort`, and else `later`
abbrev pub mark_or : Said → Option Said → Option Said
mark_or (Entered r) later = Some (Entered r)
mark_or (Committed r) later = Some (Committed r)
mark_or (Aborted r) later = Some (Aborted r)
mark_or s later = later

-- the first `enter`, `commit` or `abort` of these items
abbrev pub next_mark : List Told → Option Said
next_mark [] = None
next_mark (i ∷ is) = mark_or i.said (next_mark is)

-- an item is the `enter` of an aborted attempt, by the next `enter`, `commit` or `abort`
abbrev pub begins_stretch : Said → Option Said → Bool
begins_stretch (Entered r) (Some (Aborted k)) = r == k
begins_stretch s mark = false

-- an aborted attempt goes on behind this item of it
abbrev pub goes_on : Said → Bool
goes_on (Aborted r) = false
goes_on s = true

-- a report without its aborted attempts, from a place on that lies inside one or doesn't
abbrev pub erase_from : Bool → List Told → List Told
erase_from inside [] = []
erase_from true (i ∷ is) = erase_from (goes_on i.said) is
erase_from false (i ∷ is) =
    if begins_stretch i.said (next_mark is) then erase_from true is else i ∷ erase_from false is

-- a report without its aborted attempts
abbrev pub erase : List Told → List Told
erase items = erase_from false items

-- What a continuous run says too

-- what was said, before what was said later, unless it is an `off` or `dark`
abbrev pub without_off : Said → List Said → List Said
without_off (Off ticks) later = later
without_off Dark later = later
without_off s later = s ∷ later

-- what was said but for `off` and `dark`
abbrev pub without_offs : List Told → List Said
without_offs [] = []
without_offs (i ∷ is) = without_off i.said (without_offs is)

-- what is left of a report without aborted attempts, outages and ticks
abbrev pub marked : List Told → List Said
marked items = without_offs (erase items)

-- what was said, before what was said later, unless it is an `enter` or a `commit`
abbrev pub without_mark : Said → List Said → List Said
without_mark (Entered r) later = later
without_mark (Committed r) later = later
without_mark s later = s ∷ later

-- what was said but for `enter` and `commit`
abbrev pub without_marks : List Said → List Said
without_marks [] = []
without_marks (s ∷ ss) = without_mark s (without_marks ss)

-- what is left of a report without aborted attempts, outages, ticks, `enter` and `commit`
abbrev pub kept : List Told → List Said
kept items = without_marks (marked items)

-- the value of an input, before those of later ones
abbrev pub sampled : Said → List ℤ → List ℤ
sampled (Sensed sensor value) later = value ∷ later
sampled s later = later

-- the values of the inputs that were said
abbrev pub samples_of : List Said → List ℤ
samples_of [] = []
samples_of (s ∷ ss) = sampled s (samples_of ss)

-- the samples of a report, without those of aborted attempts
abbrev pub kept_samples : List Told → List ℤ
kept_samples items = samples_of (kept items)

-- Outages

-- a region is under way behind an item, by whether one was before it
abbrev pub inside_after : Bool → Said → Bool
inside_after inside (Entered r) = true
inside_after inside (Committed r) = false
inside_after inside s = inside

-- no region is under way
abbrev pub IsOutside : Bool → Type 0
IsOutside true = ⊥
IsOutside false = Unit {0}

-- an `off` may stand here only where no region is under way, and anything else anywhere
abbrev pub MayStand : Bool → Said → Type 0
MayStand inside (Off ticks) = IsOutside inside
MayStand inside s = Unit {0}

-- no `off` stands behind an `enter` without a `commit` between; `inside` tells whether a region is
-- under way before the first item
abbrev pub HasNoOffInside : Bool → List Told → Type 0
HasNoOffInside inside [] = Unit {0}
HasNoOffInside inside (i ∷ is) =
    MayStand inside i.said × HasNoOffInside (inside_after inside i.said) is

-- items tell a front part of what a run says, but for outages, of which none stands in a region
pub record Tells (said : List Said) (items : List Told) : Type 0 where
  pub rest : List Said
  pub is : without_offs items ++ rest ≡ said
  pub outside : HasNoOffInside false items
