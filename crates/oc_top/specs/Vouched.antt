-- What an audit says of the texts of runs.
use Rattle.std.specs.Prelude.{ℕ, ◌≡◌, List}
use Rattle.oc_audit.specs.declared.audit.Finding.{Finding}
use Rattle.oc_audit.specs.declared.audit.Finding.TheVariants as finding
use Rattle.oc_top.specs.Audited.{IsFound}
use Rattle.oc_command.specs.Commands.{Plan}
use Rattle.oc_command.specs.Files.{Files}
use Rattle.oc_top.specs.Headline.{IsReportedRun}
use Rattle.oc_report.specs.Runs.{Verdict}

-- an audit of this report finds that it is honest for the program that the source spells, and finds nothing else
pub record IsFoundHonest (source report : List ℕ) : Type 0 where
  pub honest : IsFound source report finding.Honest
  pub only : (f : Finding) → IsFound source report f → f ≡ finding.Honest

-- of the text of a run whose report was written whole, an audit for its source finds that it is
-- honest, and nothing else
abbrev pub RunsAreFoundHonest : Type 0
RunsAreFoundHonest =
    (files : Files) (plan : Plan) (run : Verdict)
    → IsReportedRun files plan run → IsFoundHonest files.source run.text
