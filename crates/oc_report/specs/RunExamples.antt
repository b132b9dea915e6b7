-- Answers of runs, by examples.
use Rattle.std.specs.Prelude.{◌≡◌, refl}
use Rattle.oc_tree.specs.declared.said.Ending.TheVariants.{Halted}
use Rattle.oc_isa.specs.declared.phase.Phase.TheVariants.{Waking, Over, Lost}
use Rattle.oc_command.specs.declared.answer.Answer.TheVariants as answer
use Rattle.oc_report.specs.Reports.{answer_of}

pub answer_of_example : answer_of (Over Halted) ≡ answer.End
answer_of_example = refl

-- the machine was booting when the periods were used up
pub answer_of_example_dark : answer_of Waking ≡ answer.Dark
answer_of_example_dark = refl

pub answer_of_example_cut : answer_of Lost ≡ answer.Cut
answer_of_example_cut = refl
