use Rattle.oc_needs.specs.View.{requirement_view}
use Rattle.oc_tree.specs.Members.{is_number_of}
use Rattle.oc_regcheck.proofs.Exact.{first_there}
use Rattle.oc_regcheck.proofs.check.open_verdict.Goals as goal

pub lowest_input-requires : goal.lowest_input-requires
lowest_input-requires c = (first_there c.args.summaries.now.program (is_number_of c.args.blocks.now) (requirement_view c.args.requirement.now) c.requires).0
