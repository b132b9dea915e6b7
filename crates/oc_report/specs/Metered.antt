-- What meters tell of a run.
use Rattle.std.specs.Prelude.{ℕ, ◌≡◌, List, [], Option}
use Rattle.oc_io.specs.declared.period.Period.{Period}
use Rattle.oc_sensors.specs.declared.sensors.Row.{Row}
use Rattle.oc_tree.specs.Names.{NameLists}
use Rattle.oc_isa.specs.Image.{Parts}
use Rattle.oc_meters.specs.Reads.{Page, TakesBytes}
use Rattle.oc_meters.specs.Tally.{Reading}
use Rattle.oc_report.specs.Runs.{RunFits, runs}
use Rattle.oc_command.specs.Meters.{HasTold}
use Rattle.oc_command.specs.Sinks.{TookNothing, Writes}
use Rattle.oc_report.specs.Written.{IsWritten}
use Rattle.oc_command.specs.declared.answer.Answer.{Answer}
use Rattle.oc_command.specs.declared.answer.Answer.TheVariants as answer

-- where the answer is that of a text which was written whole, it was read from one page to another
pub record IsRead
    (end : Answer) (names : NameLists) (old : Page) (text : List ℕ) (new : Page) : Type 0 where
  pub takes : (end ≡ answer.WriteFault → ⊥) → TakesBytes names old text new

-- there was no memory to read with, or a run was written that fits its types where it was written whole, and this is
-- what meters tell that began so
pub data IsReported (parts : Parts) (rows : List Row) (periods : List Period)
    (meters : Option (List Reading)) (sink : Writes) (told : List ℕ) (end : Answer) : Type 0 where
  unread : end ≡ answer.Memory
      → TookNothing sink → told ≡ [] → IsReported parts rows periods meters sink told end
  read : IsWritten sink (runs parts rows periods) end
      → ((end ≡ answer.WriteFault → ⊥) → RunFits parts rows periods)
      → ((end ≡ answer.WriteFault → ⊥) → HasTold (runs parts rows periods).items meters told)
      → (end ≡ answer.WriteFault → told ≡ [])
      → IsReported parts rows periods meters sink told end
