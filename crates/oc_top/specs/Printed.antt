-- How a text of a source's program comes to be written.
use Rattle.std.specs.Prelude.{ℕ, ◌≡◌, List}
use Rattle.oc_tree.specs.Tree.{TProgram}
use Rattle.oc_budget.specs.Budgets.{limited_budgets}
use Rattle.oc_budget.specs.View.{budgets_view}
use Rattle.oc_top.specs.Sources.{ReadsAs, program}
use Rattle.oc_report.specs.Runs.{prints}
use Rattle.oc_top.specs.Steps.{IsMarkedOf, IsNotBuilt}
use Rattle.oc_report.specs.RegionDetails.{HasDetails}
use Rattle.oc_command.specs.Sinks.{Writes, TookNothing}
use Rattle.oc_report.specs.Written.{IsWritten}
use Rattle.oc_top.specs.declared.print.Told.{Told}
use Rattle.oc_command.specs.declared.answer.Answer.{Answer}

-- the regions of the program that a source spells, with all that is written of them
pub record TellsRegions (source : List ℕ) (t : Told) : Type 0 where
  pub marked : IsMarkedOf source t.marked
  pub budgets : budgets_view t.budgets ≡ limited_budgets t.marked
  pub details : HasDetails t.marked t.details

-- the source is refused with this answer, or there was no memory,
-- and the sink takes nothing; or this text of its program is written
pub data IsPrinted
    (source : List ℕ) (text : TProgram → List ℕ) (sink : Writes) (end : Answer) : Type 0 where
  not_built : IsNotBuilt source end → TookNothing sink → IsPrinted source text sink end
  put : (p : TProgram) → ReadsAs source (program p)
      → IsWritten sink (prints (text p)) end → IsPrinted source text sink end
