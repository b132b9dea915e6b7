use Rattle.std.proofs.Common.{◌∙◌, ap, sym}
use Rattle.oc_regcheck.specs.Inputs.{front}
use Rattle.oc_needs.specs.View.{requirement_view}
use Rattle.oc_regcheck.proofs.InputLaws.{function_small, input_there}
use Rattle.oc_regcheck.proofs.inputs.lowest_input.Goals as goal

pub inputs_of-requires-clause-function : goal.inputs_of-requires-clause-function
inputs_of-requires-clause-function c = function_small c.args.summaries.now.program (requirement_view c.args.requirement.now) c.requires

pub lowest-requires : goal.lowest-requires
lowest-requires c = λ e. input_there c.args.summaries.now.program (requirement_view c.args.requirement.now) c.requires (ap front (sym c.in_ok-inputs.ensures) ∙ e)
