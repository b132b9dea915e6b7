use Rattle.std.proofs.Common.{◌≡◌, ◌≤◌, map, ap, sym, ◌∙◌, nat_lt, false, arith}
use Rattle.std.proofs.lemmas.Bool.{le-ltb}
use Rattle.oc_tree.specs.View.{function_view}
use Rattle.oc_tree.specs.Tree.{TProgram}
use Rattle.oc_tree.specs.Assigned.{param_count}
use Rattle.oc_writes.proofs.Beyond.{no_param}
use Rattle.oc_writes.proofs.through.Through.has.Goals as goal

pub returns-else-number-count : goal.returns-else-number-count
returns-else-number-count c =
    let fs = c.args.self.now.functions in
    let e : c.count.result ≡ param_count fs =
    c.count.ensures.count ∙ ap (λ l. param_count (map function_view l)) c.self.invariant.0 ∙ ap (λ (q : TProgram). param_count q.functions) c.self.view_is in
    let past : param_count fs ≤ c.args.number = omega (arith, e) in
    let no : nat_lt c.args.number c.count.result ≡ false = le-ltb c.args.number c.count.result c.if-number-count.false in
    no ∙ sym (no_param fs c.args.number past)
