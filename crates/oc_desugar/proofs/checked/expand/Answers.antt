use Rattle.std.proofs.Common.{ap, sym, subst, ◌∙◌, ◌+◌, ◌<◌, ◌^◌}
use Rattle.oc_tree.specs.Pulls.{program_pulls}
use Rattle.oc_tree.specs.Expansion.{expansion, program_groups, program_size}
use Rattle.oc_desugar.proofs.CheckedLaws.{fit, is_checked}
use Rattle.oc_desugar.proofs.checked.expand.Goals as goal

pub expand_program-requires-clause-pulls : goal.expand_program-requires-clause-pulls
expand_program-requires-clause-pulls c = subst (λ p. program_pulls p + 1 < 2 ^ 32) (sym c.program.ensures.same) (fit _ c.program.ensures.written).0

pub expand_program-requires-clause-stmts : goal.expand_program-requires-clause-stmts
expand_program-requires-clause-stmts c = subst (λ p. program_size p + 1 < 2 ^ 32) (sym c.program.ensures.same) (fit _ c.program.ensures.written).1

pub new-requires : goal.new-requires
new-requires c =
    let same = c.program.ensures.same in
    is_checked _ c.program.ensures.written _ _ (c.in-Ok.ensures.expanded ∙ ap expansion same) (c.in-Ok.ensures.groups ∙ ap program_groups same)
