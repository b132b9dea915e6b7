use Rattle.std.proofs.Common.{◌≡◌, List, length, map, sym, ap, ◌∙◌, arith}
use Rattle.std.proofs.lemmas.Result.{IfOk-weaker}
use Rattle.oc_tree.specs.Broken.{lowest, size_rules}
use Rattle.oc_tree.specs.Tree.{TProgram}
use Rattle.oc_tree.specs.View.{function_view, program_view}
use Rattle.oc_tree.specs.declared.tree.Function.{Function}
use Rattle.oc_tree.specs.declared.tree.Program.{Program}
use Rattle.oc_tree.specs.Expansion.{expansion}
use Rattle.std.proofs.lemmas.List.{length-map}
use Rattle.oc_desugar.proofs.FewPulls.{few_pulls}
use Rattle.oc_types.proofs.SizeLaws.{lowest_size}
use Rattle.oc_types.proofs.sizes.size_rule.Goals as goal

pub expand_program-requires-clause-pulls : goal.expand_program-requires-clause-pulls
expand_program-requires-clause-pulls c = omega (arith, few_pulls (program_view c.args.program.now), c.requires)

-- the functions of the expansion, as the code reads them
functions_read : (p : TProgram) (d : Program) (xs : List Function) → xs ≡ d.functions.items → program_view d ≡ expansion p → map function_view xs ≡ (expansion p).functions
functions_read p d xs e f = ap (λ (ys : List Function). map function_view ys) e ∙ ap (λ (q : TProgram). q.functions) f

counted : (xs : List Function) → length xs ≡ length (map function_view xs)
counted xs = sym (length-map xs function_view)

pub returns : goal.returns
returns c =
    let p = program_view c.args.program.now in
    let xs = c.as_slice.result.now in
    let h = functions_read p c.in_ok-expanded.expanded xs c.as_slice.ensures.value c.in_ok-expanded.ensures.expanded in
    let same = lowest_size p (map function_view xs) (length xs) h (counted xs) in
    IfOk-weaker c.expansion_rule.result _ (λ r. r ≡ lowest (size_rules p)) (λ r e. e ∙ same) c.expansion_rule.ensures
