-- A drill: a run of files that are made in memory.
use Rattle.std.specs.Prelude.{ℕ, ◌≡◌, Option, Some, None, length}
use Rattle.oc_io.specs.Counts.{capped, line_feeds}
use Rattle.oc_command.specs.Sinks.{TookNothing, Writes}
use Rattle.oc_command.specs.Statuses.{status_of}
use Rattle.oc_report.specs.Written.{IsWritten}
use Rattle.oc_top.specs.Answers.{IsDrill}
use Rattle.oc_command.specs.Commands.{Plan}
use Rattle.oc_command.specs.Files.{Files}
use Rattle.oc_top.specs.Sources.{Reading, ReadsAs}
use Rattle.oc_report.specs.Runs.{Verdict, refuses}
use Rattle.oc_top.specs.Verdict.{verdict}
use Rattle.oc_command.specs.declared.answer.Answer.{Answer}
use Rattle.oc_command.specs.declared.answer.Answer.TheVariants as answer

-- how the answer to files that needn't be fetched comes: there was no memory, they are refused, or they were run
pub data IsAnswered (files : Files) (plan : Plan) (sink : Writes) (end : Answer) : Type 0 where
  without_memory : end ≡ answer.Memory → TookNothing sink → IsAnswered files plan sink end
  turned_down : (reading : Reading) → ReadsAs files.source reading
      → verdict reading files plan ≡ refuses end → TookNothing sink → IsAnswered files plan sink end
  was_run : (reading : Reading) → ReadsAs files.source reading
      → IsWritten sink (verdict reading files plan) end → IsAnswered files plan sink end

-- these are the status of the verdict on files, and the numbers of lines and bytes of its text
pub record IsMeasured (files : Files) (plan : Plan) (status lines bytes : ℕ) : Type 0 where
  pub reading : Reading
  pub reads : ReadsAs files.source reading
  pub is_status : status ≡ status_of (verdict reading files plan).answer
  pub are_lines : lines ≡ capped (line_feeds (verdict reading files plan).text)
  pub are_bytes : bytes ≡ capped (length (verdict reading files plan).text)

-- how the answer to a drill comes: there was no memory, or its line was written
pub data IsDrilled (turns : ℕ) (plan : Plan) (sink : Writes) (end : Answer) : Type 0 where
  no_room : end ≡ answer.Memory → TookNothing sink → IsDrilled turns plan sink end
  told : (run : Verdict)
      → IsDrill turns plan run → IsWritten sink run end → IsDrilled turns plan sink end

-- the same with the supply that was chosen, where there is one
abbrev pub IsDrilledWith : ℕ → Option Plan → Writes → Answer → Type 0
IsDrilledWith turns None sink end = (end ≡ answer.Usage) × TookNothing sink
IsDrilledWith turns (Some plan) sink end = IsDrilled turns plan sink end
