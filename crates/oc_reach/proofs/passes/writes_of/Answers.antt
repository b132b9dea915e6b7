use Rattle.std.proofs.Common.{◌≡◌, map, length, ap, arith}
use Rattle.std.proofs.Math.ListN.{get_or}
use Rattle.oc_tree.specs.View.{function_view}
use Rattle.oc_reach.proofs.PassLaws.{params_at, params_read}
use Rattle.oc_reach.proofs.passes.writes_of.Goals as goal

pub add_writes-requires : goal.add_writes-requires
add_writes-requires c =
    let xs = c.args.functions.now in
    let i = c.loop-i.i in
    let f = c.index-functions-i.result in
    let is : f ≡ get_or xs i f = c.index-functions-i.is in
    let p = ap length (params_read xs i f c.loop-i-test.true is) in
    let w = ap (λ g. length g.params.items) is in
    let q = ap (λ l. length (params_at (map function_view l) i)) c.requires.functions in
    record { small = omega (arith, p, q, w, c.first-first.ensures.room) }
