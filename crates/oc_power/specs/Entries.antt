-- Entries of a trace.
use Rattle.std.specs.Prelude.{ℕ, ◌+◌, ◌*◌, ◌^◌, ◌<◌, ⊤, true, false, List, get_or}
use Rattle.oc_io.specs.declared.period.Period.{Period}
use Rattle.oc_power.specs.declared.trace.Entry.{Entry}
use Rattle.oc_power.specs.declared.trace.Entry.TheVariants.{Whole, Cut, Long}

-- a period without steps and without an outage
abbrev pub no_period : Period
no_period = record { on = 0; off = 0; cut = false }

-- the period of an entry, beside the long ones
abbrev pub period_of : List Period → Entry → Period
period_of long (Whole on off) = record { on = on; off = off; cut = false }
period_of long (Cut on off) = record { on = on; off = off; cut = true }
period_of long (Long high low) = get_or long (high * 2 ^ 32 + low) no_period

-- an entry's place is one of so many long ones
abbrev pub IsPlaced : ℕ → Entry → Type 0
IsPlaced count (Whole on off) = ⊤
IsPlaced count (Cut on off) = ⊤
IsPlaced count (Long high low) = high * 2 ^ 32 + low < count
