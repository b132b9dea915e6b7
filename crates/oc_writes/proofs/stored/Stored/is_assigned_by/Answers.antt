use Rattle.std.proofs.Common.{◌≤◌, length, ap, sym, ◌∙◌, arith}
use Rattle.std.specs.Prelude.{option_map}
use Rattle.std.proofs.lemmas.List.{length-map}
use Rattle.oc_tree.specs.View.{function_view}
use Rattle.oc_effects.specs.View.{called_view}
use Rattle.oc_writes.specs.Targets.{reaches}
use Rattle.oc_writes.specs.Seen.{TStored}
use Rattle.oc_writes.proofs.Beyond.{no_function}
use Rattle.oc_writes.proofs.stored.Stored.is_assigned_by.Goals as goal

pub returns-else-function-len : goal.returns-else-function-len
returns-else-function-len c =
    let s = c.args.self.now in
    let f = c.in-Some.called.function in
    let n = ap (λ (q : TStored). length q.program.functions) c.self.view_is in
    let m = length-map c.self.inside.program.now.functions.items function_view in
    let past : length s.program.functions ≤ f = omega (arith, n, m, c.len.ensures) in
    sym (no_function s.program.functions s.name f past) ∙ sym (ap (λ o. reaches s.program (option_map called_view o) s.name) c.in-Some.is)
