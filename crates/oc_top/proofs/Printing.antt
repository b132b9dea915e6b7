-- Texts of the program that a source spells.
use Rattle.std.proofs.Common.{ℕ, List, subst}
use Rattle.oc_tree.specs.Marked.{TMarked}
use Rattle.oc_isa.specs.Image.{Parts}
use Rattle.oc_budget.specs.Budgets.{limited_budgets}
use Rattle.oc_top.specs.Meant.{program_code}
use Rattle.oc_report.specs.RegionLines.{regions_text}
use Rattle.oc_report.specs.Runs.{prints}
use Rattle.oc_top.specs.Verdict.{regions_of}
use Rattle.oc_top.specs.Steps.{IsBuilt}
use Rattle.oc_command.specs.Sinks.{Writes}
use Rattle.oc_report.specs.Written.{IsWritten}
use Rattle.oc_top.specs.Printed.{TellsRegions, IsPrinted, put}
use Rattle.oc_top.specs.declared.print.Told.{Told}
use Rattle.oc_command.specs.declared.answer.Answer.{Answer}

module _ (sink : Writes) (end : Answer) (source : List ℕ) where
  pub regions_printed : (t : Told) → TellsRegions source t → IsWritten sink (prints (regions_text t.marked (limited_budgets t.marked))) end → IsPrinted source regions_of sink end
  regions_printed t told w =
      put told.marked.written told.marked.reads
      (subst (λ (m : TMarked). IsWritten sink (prints (regions_text m (limited_budgets m))) end) told.marked.is_marked w)

  pub code_printed : (text : Parts → List ℕ) (parts : Parts) → IsBuilt source parts → IsWritten sink (prints (text parts)) end
      → IsPrinted source (λ p. text (program_code p)) sink end
  code_printed text parts b w = put b.written b.reads (subst (λ (i : Parts). IsWritten sink (prints (text i)) end) b.is_code w)
