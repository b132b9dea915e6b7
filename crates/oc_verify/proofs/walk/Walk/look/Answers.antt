use Rattle.std.proofs.Common.{rules, ◌≡◌, ◌≤◌, ◌<◌, ◌+◌, ◌*◌, ◌++◌, Ok, None, Some, true, length, map, reverse, refl, ap, sym, ◌∙◌, subst, arith}
use Rattle.std.specs.Prelude.{slice_set}
use Rattle.std.proofs.lemmas.Option.{slice_get_within}
use Rattle.oc_isa.specs.declared.instr.Placed.{Placed}
use Rattle.oc_isa.specs.Image.{parts_of}
use Rattle.oc_verify.specs.Blames.{BlamesIn}
use Rattle.oc_verify.specs.Facts.{IsLaid, IsNamed, Scene, crowds, scene_kinds}
use Rattle.oc_verify.specs.Own.{own_list}
use Rattle.oc_verify.specs.Rules.{names_exist, own_slots, judge, successors}
use Rattle.oc_verify.specs.Stacks.{stack}
use Rattle.oc_verify.specs.Tables.{IsWalk, blanks}
use Rattle.oc_verify.specs.Told.{kinds, pair_of}
use Rattle.oc_verify.proofs.Owners.{stands}
use Rattle.oc_verify.proofs.TableLaws.{blame_crowd, seen_first}
use Rattle.oc_verify.proofs.WalkLaws.{address_small, blame_fault, judged_here, looked_less, looked_others, next_in, read_there}
use Rattle.oc_verify.proofs.walk.Walk.look.Goals as goal

pub index-requires : goal.index-requires
index-requires c =
    let s = c.args.self.now in
    let x = c.requires.inside.0 in
    let v = ap (λ (s : Scene). s.image) c.self.view_is in
    let l = slice_get_within s.image.code c.args.at x (stands s.image s.function c.args.at x c.requires.inside.1).found in
    let n = ap (λ k. length k.code) (c.image.ensures.image ∙ v) in
    omega (arith, l, n)

pub judge-requires-clause-pair : goal.judge-requires-clause-pair
judge-requires-clause-pair c =
    let s = c.args.self.now in
    let old = c.args.table.now in
    next_in s.image s.function (scene_kinds s) old.tops old.regions old.cells.items c.args.todo.now.items c.args.at c.args.pair c.requires.walk

pub judge-requires-clause-names : goal.judge-requires-clause-names
judge-requires-clause-names c =
    let s = c.args.self.now in
    let x = c.requires.inside.0 in
    let v = ap (λ (s : Scene). s.image) c.self.view_is in
    let p = read_there (parts_of c.image.result.now) s.image (c.image.ensures.image ∙ v) s.function c.args.at x c.index.result.now c.requires.inside.1 c.index.ensures in
    let named = subst (λ (s : Scene). IsNamed s.image s.function) c.self.view_is c.self.invariant.2 in
    subst (λ (s : Scene). names_exist s.image s.function c.index.result.now.instr ≡ true) (sym c.self.view_is)
    (ap (λ (y : Placed). names_exist s.image s.function y.instr) p ∙ (named c.args.at x c.requires.inside.1).0)

pub is_crowded-requires : goal.is_crowded-requires
is_crowded-requires c =
    let s = c.args.self.now in
    let x = c.requires.inside.0 in
    let v = ap (λ (s : Scene). s.image) c.self.view_is in
    let p = read_there (parts_of c.image.result.now) s.image (c.image.ensures.image ∙ v) s.function c.args.at x c.index.result.now c.requires.inside.1 c.index.ensures in
    let named = subst (λ (s : Scene). IsNamed s.image s.function) c.self.view_is c.self.invariant.2 in
    ap (λ (y : Placed). names_exist s.image s.function y.instr) p ∙ (named c.args.at x c.requires.inside.1).0

pub returns-then-is_crowded-clause-blames : goal.returns-then-is_crowded-clause-blames
returns-then-is_crowded-clause-blames c =
    let s = c.args.self.now in
    let old = c.args.table.now in
    let x = c.requires.inside.0 in
    let v = ap (λ (s : Scene). s.image) c.self.view_is in
    let p = read_there (parts_of c.image.result.now) s.image (c.image.ensures.image ∙ v) s.function c.args.at x c.index.result.now c.requires.inside.1 c.index.ensures in
    let o = c.self.invariant.1 ∙ ap (λ (s : Scene). own_slots s.image s.function (scene_kinds s)) c.self.view_is in
    let q = pair_of c.judge.new.tops c.judge.new.regions c.in-Ok.after in
    let r = judged_here c.self.inside.facts.now s.image (own_list c.self.inside.slots.now) (own_slots s.image s.function (scene_kinds s)) c.index.result.now x (kinds old.tops c.args.pair.0)
    (stack old.regions c.args.pair.1) (Ok q) v o p c.in-Ok.ensures.exact in
    let more : crowds s.image x.instr ≡ true = ap (λ (y : Placed). crowds s.image y.instr) (sym p) ∙ sym c.is_crowded.ensures ∙ c.if-is_crowded.true in
    blame_crowd s.image s.function (scene_kinds s) old.tops old.regions old.cells.items c.args.todo.now.items c.args.at c.args.pair c.requires.walk x q more r

pub index_mut-requires : goal.index_mut-requires
index_mut-requires c =
    let l : c.args.at < length c.args.table.now.cells.items = slice_get_within c.args.table.now.cells.items c.args.at None c.requires.blank in
    search (rules, arith)

pub go_on-requires : goal.go_on-requires
go_on-requires c =
    let v = ap (λ (s : Scene). s.image) c.self.view_is in
    address_small c.args.self.now.image (subst IsLaid v c.image.ensures.laid) c.args.self.now.function c.args.at c.requires.inside.0 c.requires.inside.1

pub returns-in_ok-go_on-in-Ok-clause-walk : goal.returns-in_ok-go_on-in-Ok-clause-walk
returns-in_ok-go_on-in-Ok-clause-walk c =
    let s = c.args.self.now in
    let old = c.args.table.now in
    let x = c.requires.inside.0 in
    let v = ap (λ (s : Scene). s.image) c.self.view_is in
    let p = read_there (parts_of c.image.result.now) s.image (c.image.ensures.image ∙ v) s.function c.args.at x c.index.result.now c.requires.inside.1 c.index.ensures in
    let o = c.self.invariant.1 ∙ ap (λ (s : Scene). own_slots s.image s.function (scene_kinds s)) c.self.view_is in
    let r = judged_here c.self.inside.facts.now s.image (own_list c.self.inside.slots.now) (own_slots s.image s.function (scene_kinds s)) c.index.result.now x (kinds old.tops c.args.pair.0)
    (stack old.regions c.args.pair.1) (Ok (pair_of c.judge.new.tops c.judge.new.regions c.in-Ok.after)) v o p c.in-Ok.ensures.exact in
    let w = seen_first s.image s.function (scene_kinds s) old.tops old.regions old.cells.items c.args.todo.now.items c.args.at c.args.pair c.requires.walk c.judge.new.tops c.judge.new.regions x
    c.in-Ok.after c.requires.blank c.requires.inside.1 c.in-Ok.ensures.tops c.in-Ok.ensures.regions c.in-Ok.ensures.within r in
    let t = c.in_ok-go_on-in-Ok.ensures ∙ ap (λ (y : Placed). c.args.todo.now.items ++ reverse (map (λ b. (b, c.in-Ok.after)) (successors y.instr c.args.at))) p in
    subst (λ es. IsWalk s.image s.function (scene_kinds s) c.judge.new.tops c.judge.new.regions (slice_set old.cells.items c.args.at (Some c.args.pair)) es) (sym t) w

pub returns-in_ok-go_on-in-Ok-clause-others : goal.returns-in_ok-go_on-in-Ok-clause-others
returns-in_ok-go_on-in-Ok-clause-others c =
    let s = c.args.self.now in
    let old = c.args.table.now in
    looked_others s.image s.function old.tops c.judge.new.tops old.regions c.judge.new.regions old.cells.items c.args.at c.args.pair c.requires.inside.0 c.requires.inside.1 c.in-Ok.ensures.tops
    c.in-Ok.ensures.regions c.requires.walk.cells

pub returns-in_ok-go_on-in-Ok-clause-less : goal.returns-in_ok-go_on-in-Ok-clause-less
returns-in_ok-go_on-in-Ok-clause-less c =
    let old = c.args.table.now in
    let l = looked_less old.cells.items c.args.at c.args.pair c.in-Ok.after c.index.result.now.instr c.args.todo.now.items c.requires.blank in
    subst (λ es. 2 * blanks (slice_set old.cells.items c.args.at (Some c.args.pair)) + length es ≤ 2 * blanks old.cells.items + length c.args.todo.now.items) (sym c.in_ok-go_on-in-Ok.ensures) l

pub returns-in-Err-clause-blames : goal.returns-in-Err-clause-blames
returns-in-Err-clause-blames c =
    let s = c.args.self.now in
    let old = c.args.table.now in
    let x = c.requires.inside.0 in
    let v = ap (λ (s : Scene). s.image) c.self.view_is in
    let p = read_there (parts_of c.image.result.now) s.image (c.image.ensures.image ∙ v) s.function c.args.at x c.index.result.now c.requires.inside.1 c.index.ensures in
    let o = c.self.invariant.1 ∙ ap (λ (s : Scene). own_slots s.image s.function (scene_kinds s)) c.self.view_is in
    let j = judge c.self.inside.facts.now (own_list c.self.inside.slots.now) c.index.result.now.instr (kinds old.tops c.args.pair.0) (stack old.regions c.args.pair.1) in
    let r = judged_here c.self.inside.facts.now s.image (own_list c.self.inside.slots.now) (own_slots s.image s.function (scene_kinds s)) c.index.result.now x (kinds old.tops c.args.pair.0)
    (stack old.regions c.args.pair.1) j v o p refl in
    subst (BlamesIn s.image s.function (scene_kinds s)) (sym c.fault_at.ensures)
    (blame_fault s.image s.function (scene_kinds s) old.tops old.regions old.cells.items c.args.todo.now.items c.args.at c.args.pair c.requires.walk x c.requires.inside.1
    (pair_of c.judge.new.tops c.judge.new.regions) c.in-Err.fault j c.in-Err.ensures.exact r)
