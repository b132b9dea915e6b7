use Rattle.std.proofs.Common.{◌≤◌, length, ap, sym, arith}
use Rattle.std.proofs.lemmas.List.{length-map}
use Rattle.oc_tree.specs.Tree.{TProgram}
use Rattle.oc_tree.specs.View.{function_view}
use Rattle.oc_writes.proofs.Beyond.{no_first}
use Rattle.oc_writes.proofs.through.Through.first.Goals as goal

pub returns-else-function-len-clause-first : goal.returns-else-function-len-clause-first
returns-else-function-len-clause-first c =
    let fs = c.args.self.now.functions in
    let n = ap (λ (q : TProgram). length q.functions) c.self.view_is in
    let m = length-map c.self.inside.program.now.functions.items function_view in
    let past : length fs ≤ c.args.function = omega (arith, n, m, c.len.ensures) in
    sym (no_first fs c.args.function past)
