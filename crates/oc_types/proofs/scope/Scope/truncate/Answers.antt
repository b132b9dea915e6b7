use Rattle.oc_names.proofs.Entries.{take-seen}
use Rattle.oc_types.proofs.scope.Scope.truncate.Goals as goal

pub returns : goal.returns
returns c =
    let e = take-seen c.args.len c.self.inside.variables.entries in
    let b = c.self.view_is in
    let d = c.truncate.ensures.entries in
    cc
