-- How a run ends, and the text of its report.
use Rattle.std.specs.Prelude.{ℕ, List, map}
use Rattle.oc_tree.specs.declared.said.Ending.TheVariants.{Halted, Trapped}
use Rattle.oc_isa.specs.declared.phase.Phase.{Phase}
use Rattle.oc_isa.specs.declared.phase.Phase.TheVariants.{Over, Lost}
use Rattle.oc_isa.specs.Image.{Parts}
use Rattle.oc_isa.specs.Power.{World}
use Rattle.oc_items.specs.Text.{full_text}
use Rattle.oc_items.specs.Told.{item_of}
use Rattle.oc_command.specs.declared.answer.Answer.{Answer}
use Rattle.oc_command.specs.declared.answer.Answer.TheVariants as answer

-- the answer to a run, by the phase in which the machine is left: the program is over, a checkpoint
-- was lost, or the periods were used up
abbrev pub answer_of : Phase → Answer
answer_of (Over Halted) = answer.End
answer_of (Over (Trapped kind stmt)) = answer.Trapped
answer_of Lost = answer.Cut
answer_of phase = answer.Dark

-- the text of a run: a line for each item and, where the run is over, one for each nonvolatile
-- variable
abbrev pub text_of : Parts → World → List ℕ
text_of parts w =
    full_text parts.names (map (λ v. v.words) parts.nv) (map item_of w.report) w.state.nv
