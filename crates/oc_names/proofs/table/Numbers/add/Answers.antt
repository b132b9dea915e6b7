use Rattle.std.proofs.Common.{◌≡◌, None}
use Rattle.oc_names.specs.Entries.{number_in}
use Rattle.oc_names.proofs.Entries.{insert-seen, seen}
use Rattle.oc_names.proofs.table.Numbers.add.Goals as goal

pub returns : goal.returns
returns c =
    let b = c.self.view_is in
    let d = c.bytes.ensures in
    let r = c.requires in
    let h : number_in (seen c.self.inside.entries.entries) c.bytes.result.now ≡ None = cc in
    let e = insert-seen c.self.inside.entries.entries c.bytes.result c.args.number h in
    let f = c.in_ok-insert.ensures.entries in
    cc
