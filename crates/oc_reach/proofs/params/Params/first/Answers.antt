use Rattle.std.proofs.Common.{◌≡◌, ◌<◌, map, length, ap, ◌∙◌, arith}
use Rattle.std.proofs.Math.ListN.{get_or}
use Rattle.std.proofs.lemmas.List.{length-map, get_or_read}
use Rattle.oc_tree.specs.View.{function_view}
use Rattle.oc_tree.specs.Assigned.{first_params, param_count}
use Rattle.oc_reach.proofs.PassLaws.{first_room, firsts_length}
use Rattle.oc_reach.proofs.params.Params.first.Goals as goal

pub index-requires : goal.index-requires
index-requires c =
    let fs = map function_view c.args.self.now in
    let firsts : c.self.inside.firsts.items ≡ first_params 0 fs = c.self.invariant.0 ∙ ap (λ l. first_params 0 (map function_view l)) c.self.view_is in
    let n : length c.self.inside.firsts.items ≡ length c.args.self.now = ap length firsts ∙ firsts_length 0 fs ∙ length-map c.args.self.now function_view in
    omega (arith, n, c.requires, c.self.inside.firsts.ok)

pub returns-clause-first : goal.returns-clause-first
returns-clause-first c =
    let fs = map function_view c.args.self.now in
    let firsts : c.self.inside.firsts.items ≡ first_params 0 fs = c.self.invariant.0 ∙ ap (λ l. first_params 0 (map function_view l)) c.self.view_is in
    let n : length c.self.inside.firsts.items ≡ length c.args.self.now = ap length firsts ∙ firsts_length 0 fs ∙ length-map c.args.self.now function_view in
    let h : c.args.function < length c.self.inside.firsts.items = omega (arith, n, c.requires) in
    get_or_read c.self.inside.firsts.items c.args.function c.index.result.now h c.index.ensures 0 ∙ ap (λ l. get_or l c.args.function 0) firsts

pub returns-clause-room : goal.returns-clause-room
returns-clause-room c =
    let fs = map function_view c.args.self.now in
    let firsts : c.self.inside.firsts.items ≡ first_params 0 fs = c.self.invariant.0 ∙ ap (λ l. first_params 0 (map function_view l)) c.self.view_is in
    let count : c.self.inside.count ≡ param_count fs = c.self.invariant.1 ∙ ap (λ l. param_count (map function_view l)) c.self.view_is in
    let n : length c.self.inside.firsts.items ≡ length c.args.self.now = ap length firsts ∙ firsts_length 0 fs ∙ length-map c.args.self.now function_view in
    let m : length fs ≡ length c.args.self.now = length-map c.args.self.now function_view in
    let h : c.args.function < length c.self.inside.firsts.items = omega (arith, n, c.requires) in
    let v : c.index.result.now ≡ get_or (first_params 0 fs) c.args.function 0 = get_or_read c.self.inside.firsts.items c.args.function c.index.result.now h c.index.ensures 0
    ∙ ap (λ l. get_or l c.args.function 0) firsts in
    let r = first_room 0 fs c.args.function (omega (arith, c.requires, m)) in
    omega (arith, r, count, v, c.self.invariant.2)
