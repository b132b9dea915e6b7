use Rattle.oc_names.proofs.Entries.{lookup-seen}
use Rattle.oc_types.proofs.times.Singles.get.Goals as goal

pub returns-in-Some : goal.returns-in-Some
returns-in-Some c =
    let e = lookup-seen c.bytes.result.now c.self.inside.entries.entries in
    let v = c.in-Some.ensures.value in
    let d = c.bytes.ensures in
    let b = c.self.view_is in
    cc

pub returns-in-None : goal.returns-in-None
returns-in-None c =
    let e = lookup-seen c.bytes.result.now c.self.inside.entries.entries in
    let v = c.in-None.ensures.value in
    let d = c.bytes.ensures in
    let b = c.self.view_is in
    cc
