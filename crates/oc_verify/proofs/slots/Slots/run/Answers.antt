use Rattle.std.proofs.Common.{rules, ◌≡◌, ◌<◌, ◌≤◌, ◌-◌, length, get_or, arith, ap, ◌∙◌}
use Rattle.std.proofs.lemmas.List.{get_or_read}
use Rattle.oc_verify.specs.Own.{Own, own_list}
use Rattle.oc_verify.specs.Rules.{run}
use Rattle.oc_verify.specs.Typing.{level}
use Rattle.oc_verify.proofs.SlotLaws.{main_low, own_run_main, own_run_param, own_run_above, above_low, runs_long}
use Rattle.oc_verify.proofs.slots.Slots.run.Goals as goal

pub overflow_sub-result : goal.overflow_sub-result
overflow_sub-result c =
    let o : Own = record { main = c.self.inside.main; function = c.self.inside.function.now; codes = c.self.inside.codes.now } in
    let l = main_low o c.args.slot c.if-self.true (ap (λ w. level (own_list w) c.args.slot) c.self.view_is ∙ c.requires) in
    omega (arith, l)

pub returns-then-self : goal.returns-then-self
returns-then-self c =
    let o : Own = record { main = c.self.inside.main; function = c.self.inside.function.now; codes = c.self.inside.codes.now } in
    own_run_main o c.args.slot c.if-self.true (ap (λ w. level (own_list w) c.args.slot) c.self.view_is ∙ c.requires) ∙ ap (λ w. run (own_list w) c.args.slot 0) c.self.view_is

pub index-requires : goal.index-requires
index-requires c =
    let n : length c.self.inside.runs.items ≡ length c.self.inside.codes.now = ap length c.self.invariant.0 ∙ runs_long 0 c.self.inside.codes.now in
    let l : c.args.slot < length c.self.inside.codes.now = c.if-place-params.true in
    let goal : length c.self.inside.codes.now - 1 - c.args.slot < length c.self.inside.runs.items = omega (arith, l, n) in
    search (rules, goal)

pub returns-then-place-params : goal.returns-then-place-params
returns-then-place-params c =
    let o : Own = record { main = c.self.inside.main; function = c.self.inside.function.now; codes = c.self.inside.codes.now } in
    let l : c.args.slot < length c.self.inside.codes.now = c.if-place-params.true in
    let n : length c.self.inside.runs.items ≡ length c.self.inside.codes.now = ap length c.self.invariant.0 ∙ runs_long 0 c.self.inside.codes.now in
    let r = get_or_read c.self.inside.runs.items (length c.self.inside.codes.now - 1 - c.args.slot) c.index.result.now (omega (arith, l, n)) c.index.ensures 0 in
    r ∙ ap (λ rs. get_or rs (length c.self.inside.codes.now - 1 - c.args.slot) 0) c.self.invariant.0
    ∙ own_run_param o c.args.slot c.if-self.false (c.self.invariant.1 c.if-self.false) l ∙ ap (λ w. run (own_list w) c.args.slot 0) c.self.view_is

pub overflow_sub-result-2 : goal.overflow_sub-result-2
overflow_sub-result-2 c =
    let o : Own = record { main = c.self.inside.main; function = c.self.inside.function.now; codes = c.self.inside.codes.now } in
    let u : length c.self.inside.codes.now ≤ c.args.slot = c.if-place-params.false in
    let r = above_low o c.args.slot c.if-self.false (c.self.invariant.1 c.if-self.false) u (ap (λ w. level (own_list w) c.args.slot) c.self.view_is ∙ c.requires) in
    let l = r.1 in
    omega (arith, l)

pub returns : goal.returns
returns c =
    let o : Own = record { main = c.self.inside.main; function = c.self.inside.function.now; codes = c.self.inside.codes.now } in
    let u : length c.self.inside.codes.now ≤ c.args.slot = c.if-place-params.false in
    own_run_above o c.args.slot c.if-self.false (c.self.invariant.1 c.if-self.false) u (ap (λ w. level (own_list w) c.args.slot) c.self.view_is ∙ c.requires)
    ∙ ap (λ w. run (own_list w) c.args.slot 0) c.self.view_is
