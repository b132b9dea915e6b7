use Rattle.std.proofs.Common.{◌≡◌, None}
use Rattle.oc_tree.specs.Scope.{variable_in}
use Rattle.oc_names.proofs.Entries.{insert-seen, seen}
use Rattle.oc_types.proofs.scope.Scope.declare.Goals as goal

pub returns : goal.returns
returns c =
    let b = c.self.view_is in
    let d = c.bytes.ensures in
    let r = c.requires in
    let h : variable_in (seen c.self.inside.variables.entries) c.bytes.result.now ≡ None = cc in
    let e = insert-seen c.self.inside.variables.entries c.bytes.result c.args.variable h in
    let f = c.in_ok-insert.ensures.entries in
    cc
