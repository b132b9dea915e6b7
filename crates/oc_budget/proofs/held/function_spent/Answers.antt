use Rattle.std.proofs.Common.{sym}
use Rattle.std.proofs.lemmas.Option.{slice_get_within}
use Rattle.oc_tree.specs.Regions.{region_view}
use Rattle.oc_tree.specs.View.{function_view}
use Rattle.oc_budget.proofs.ApartLaws.{none_spent}
use Rattle.oc_budget.proofs.held.function_spent.Goals as goal

pub is_apart-requires : goal.is_apart-requires
is_apart-requires c = slice_get_within c.args.known.now.program.functions c.args.place (function_view c.args.function.now) c.requires.place

pub returns-then-is_apart : goal.returns-then-is_apart
returns-then-is_apart c =
    sym (none_spent c.args.known.now (region_view c.args.region.now) c.args.place (function_view c.args.function.now) c.requires.place (c.is_apart.ensures c.if-is_apart.true))
