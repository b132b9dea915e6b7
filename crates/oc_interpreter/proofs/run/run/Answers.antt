use Rattle.std.proofs.Common.{map}
use Rattle.oc_tree.specs.View.{program_view}
use Rattle.oc_tree.specs.Regions.{region_view}
use Rattle.oc_interpreter.specs.Runs.{main_from}
use Rattle.oc_meaning.proofs.Beginning.{trace_begins}
use Rattle.oc_interpreter.proofs.run.run.Goals as goal

pub returns-in_err-completion-clause-begins : goal.returns-in_err-completion-clause-begins
returns-in_err-completion-clause-begins c =
    trace_begins c.execute.new.store.events (main_from (program_view c.args.program.now) (map region_view c.args.regions.now) c.args.store.now) c.in_err-completion.ensures.cut
