-- How a text comes to be written.
use Rattle.std.specs.Prelude.{◌≡◌}
use Rattle.oc_command.specs.Sinks.{Writes, TookAll, TookFront}
use Rattle.oc_command.specs.declared.answer.Answer.{Answer}
use Rattle.oc_command.specs.declared.answer.Answer.TheVariants as answer
use Rattle.oc_report.specs.Runs.{Verdict}

-- all of a run's text was written, and this is its answer; or a part was
pub data IsWritten (sink : Writes) (run : Verdict) (end : Answer) : Type 0 where
  whole : end ≡ run.answer → TookAll sink run.text → IsWritten sink run end
  in_part : end ≡ answer.WriteFault → TookFront sink run.text → IsWritten sink run end
