-- What commands answer and write, by what a source spells.
use Rattle.std.specs.Prelude.{ℕ, List}
use Rattle.oc_isa.specs.Listing.{listing_text}
use Rattle.oc_isa.specs.Bytes.{image_bytes}
use Rattle.oc_tree.specs.Tree.{TProgram}
use Rattle.oc_budget.specs.Budgets.{limited_budgets}
use Rattle.oc_command.specs.Commands.{Plan}
use Rattle.oc_command.specs.Files.{Files}
use Rattle.oc_command.specs.declared.answer.Answer.TheVariants as answer
use Rattle.oc_report.specs.RegionLines.{regions_text}
use Rattle.oc_report.specs.Runs.{Verdict, prints, refuses, with_parts}
use Rattle.oc_top.specs.Meant.{program_marked, program_code}
use Rattle.oc_top.specs.Sources.{Reading, faulty, program}
use Rattle.oc_top.specs.Sources as source

-- the verdict on files whose source reads so, where the chosen supply has this plan: the first of the source, the
-- sensors and the power that can't be read, or the run
abbrev pub verdict : Reading → Files → Plan → Verdict
verdict (faulty line) files plan = refuses (answer.Syntax line)
verdict (source.breaks b) files plan = refuses (answer.Rule b.line b.rule)
verdict (program p) files plan = with_parts (program_code p) files plan

-- ---- texts of programs

-- the regions of a program, with their budgets in 64 bits
abbrev pub regions_of : TProgram → List ℕ
regions_of p = regions_text (program_marked p) (limited_budgets (program_marked p))

-- the listing of a program's image
abbrev pub listing_of : TProgram → List ℕ
listing_of p = listing_text (program_code p)

-- the bytes of a program's image
abbrev pub image_of : TProgram → List ℕ
image_of p = image_bytes (program_code p)

-- the verdict on a source that reads so, where this text of its program is wanted
abbrev pub printed : Reading → (TProgram → List ℕ) → Verdict
printed (faulty line) text = refuses (answer.Syntax line)
printed (source.breaks b) text = refuses (answer.Rule b.line b.rule)
printed (program p) text = prints (text p)
