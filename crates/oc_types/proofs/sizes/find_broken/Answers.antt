use Rattle.std.proofs.Common.{sym, ◌∙◌}
use Rattle.oc_tree.specs.View.{program_view}
use Rattle.oc_desugar.proofs.FewStatements.{few_statements}
use Rattle.oc_types.proofs.sizes.find_broken.Goals as goal

pub broken_size-requires : goal.broken_size-requires
broken_size-requires c = few_statements (program_view c.args.program.now) c.requires.form.declared (sym c.in_ok-broken.ensures ∙ c.in-None.is)
