use Rattle.std.proofs.Common.{◌∙◌, ap, length, map}
use Rattle.oc_needs.specs.View.{requirement_view}
use Rattle.oc_tree.specs.Checked.{TChecked}
use Rattle.oc_regcheck.proofs.Verdicts.{functions_small}
use Rattle.oc_regcheck.proofs.check.verdict_by.Goals as goal

pub first_open-requires-clause-functions : goal.first_open-requires-clause-functions
first_open-requires-clause-functions c =
    functions_small c.args.summaries.now.program c.in_ok-unguarded.unguarded.1 (c.in_ok-unguarded.ensures.bound ∙ ap (λ (t : TChecked). length t.program.functions) c.effects-effects.ensures)
    (map requirement_view c.args.required.now) c.requires
