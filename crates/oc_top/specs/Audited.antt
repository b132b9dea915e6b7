-- What is said of a report.
use Rattle.std.specs.Prelude.{ℕ, ◌≡◌, List, codes}
use Rattle.oc_tree.specs.Tree.{TProgram}
use Rattle.oc_tree.specs.declared.broken.Broken.{Broken}
use Rattle.oc_audit.specs.Findings.{IsFinding}
use Rattle.oc_audit.specs.declared.audit.Finding.{Finding}
use Rattle.oc_audit.specs.declared.audit.Finding.TheVariants as finding
use Rattle.oc_top.specs.Meant.{program_marked}
use Rattle.oc_top.specs.Sources.{ReadsAs, faulty, breaks, program}
use Rattle.oc_report.specs.Runs.{Verdict, prints, refuses}
use Rattle.oc_command.specs.declared.answer.Answer.TheVariants as answer

-- An audit of a report finds this for the program that the source spells, with its regions: the
-- first line with which it stops being a report of this program, or the item at which it stops
-- being honest, or that it is honest
pub record IsFound (source report : List ℕ) (f : Finding) : Type 0 where
  pub written : TProgram
  pub spelled : ReadsAs source (program written)
  pub found : IsFinding (program_marked written).program (program_marked written).regions report f

-- what is answered and written where an audit found this
abbrev pub said_of : Finding → Verdict
said_of (finding.BadLine n) = refuses (answer.BadReport n)
said_of (finding.Breaks n) = refuses (answer.Dishonest n)
said_of finding.Honest = prints (codes "honest\n")

-- This is the verdict on a source and a report. The source spells
-- no program, or one that breaks a rule; or the report is audited
pub data IsAudit (source report : List ℕ) (run : Verdict) : Type 0 where
  no_program : (line : ℕ) → ReadsAs source (faulty line)
      → run ≡ refuses (answer.Syntax line) → IsAudit source report run
  broken_rule : (b : Broken) → ReadsAs source (breaks b)
      → run ≡ refuses (answer.Rule b.line b.rule) → IsAudit source report run
  audited : (f : Finding) → IsFound source report f → run ≡ said_of f → IsAudit source report run

-- the report is honest for the program that the source spells, and the verdict says so
pub record IsVouched (source report : List ℕ) (run : Verdict) : Type 0 where
  pub honest : IsFound source report finding.Honest
  pub is_run : run ≡ prints (codes "honest\n")
