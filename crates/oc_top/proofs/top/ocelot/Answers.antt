use Rattle.std.proofs.Common.{map}
use Rattle.std.specs.String.{string_bytes}
use Rattle.oc_command.proofs.Commanding.{few_turns}
use Rattle.oc_top.proofs.Working.{works}
use Rattle.oc_top.proofs.top.ocelot.Goals as goal

pub obey-outcome-requires : goal.obey-outcome-requires
obey-outcome-requires g c = few_turns _ (map string_bytes c.args.words.now) c.read_command-command.ensures

pub returns-clause-works : goal.returns-clause-works
returns-clause-works g c =
    rw (← c.read_command-command.ensures) (works _ _ _ _ _ c.status-status.ensures c.obey-outcome.ensures.comes c.put_lines.ensures.line)
