use Rattle.std.proofs.Common.{rules}
use Rattle.oc_regcheck.proofs.Open.{main_small}
use Rattle.oc_regcheck.proofs.guard.place_of_main.Goals as goal

pub returns-clause-below : goal.returns-clause-below
returns-clause-below c = main_small c.args.effects.now.program _ (search rules)
