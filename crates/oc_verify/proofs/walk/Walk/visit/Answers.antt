use Rattle.std.proofs.Common.{◌≤◌, ◌<◌, Some, ap, ◌∙◌, subst, inl, inr}
use Rattle.std.specs.Prelude.{◌⊎◌}
use Rattle.oc_verify.specs.Facts.{IsStretch, Scene, scene_kinds}
use Rattle.oc_verify.proofs.FactLaws.{outside_code}
use Rattle.oc_verify.proofs.TableLaws.{blame_pair, blame_place, seen_again}
use Rattle.oc_verify.proofs.WalkLaws.{cell_read, next_in, stands_at}
use Rattle.oc_verify.proofs.walk.Walk.visit.Goals.{then-at-entry-via-then-at-entry, then-at-entry-via-else-at-entry+then-end-at}
use Rattle.oc_verify.proofs.walk.Walk.visit.Goals as goal

pub returns-then-at-entry-clause-blames : goal.returns-then-at-entry-clause-blames
returns-then-at-entry-clause-blames c =
    let s = c.args.self.now in
    let old = c.args.table.now in
    let S = subst (λ (s : Scene). IsStretch s.image s.function c.stretch-entry.result) c.self.view_is c.stretch-entry.ensures in
    let out : (c.args.at < c.stretch-entry.result.0) ⊎ (c.stretch-entry.result.1 ≤ c.args.at) =
    elim c.then-at-entry.branch [ then-at-entry-via-then-at-entry w ↦ inl w.if-at-entry.true | then-at-entry-via-else-at-entry+then-end-at w ↦ inr w.if-end-at.true ] in
    blame_place s.image s.function (scene_kinds s) old.tops old.regions old.cells.items c.args.todo.now.items c.args.at c.args.pair c.requires
    (outside_code s.image s.function c.args.at c.stretch-entry.result S out)

pub is_same-requires-clause-left : goal.is_same-requires-clause-left
is_same-requires-clause-left c =
    let s = c.args.self.now in
    let S = subst (λ (s : Scene). IsStretch s.image s.function c.stretch-entry.result) c.self.view_is c.stretch-entry.ensures in
    let o = cell_read c.args.table.now.cells.items s.image s.function c.args.at c.stretch-entry.result c.requires.sized S c.if-end-at.false c.index.result.now c.index.ensures in
    c.requires.cells c.args.at c.in-Some.old (o ∙ ap Some c.in-Some.is)

pub is_same-requires-clause-right : goal.is_same-requires-clause-right
is_same-requires-clause-right c =
    let s = c.args.self.now in
    let old = c.args.table.now in
    next_in s.image s.function (scene_kinds s) old.tops old.regions old.cells.items c.args.todo.now.items c.args.at c.args.pair c.requires

pub look-requires-clause-blank : goal.look-requires-clause-blank
look-requires-clause-blank c =
    let s = c.args.self.now in
    let S = subst (λ (s : Scene). IsStretch s.image s.function c.stretch-entry.result) c.self.view_is c.stretch-entry.ensures in
    let o = cell_read c.args.table.now.cells.items s.image s.function c.args.at c.stretch-entry.result c.requires.sized S c.if-end-at.false c.index.result.now c.index.ensures in
    o ∙ ap Some c.in-None.is

pub look-requires-clause-inside : goal.look-requires-clause-inside
look-requires-clause-inside c =
    let s = c.args.self.now in
    let S = subst (λ (s : Scene). IsStretch s.image s.function c.stretch-entry.result) c.self.view_is c.stretch-entry.ensures in
    stands_at s.image s.function c.args.at c.stretch-entry.result S c.if-at-entry.false c.if-end-at.false

pub returns-then-is_same-clause-walk : goal.returns-then-is_same-clause-walk
returns-then-is_same-clause-walk c =
    let s = c.args.self.now in
    let old = c.args.table.now in
    let S = subst (λ (s : Scene). IsStretch s.image s.function c.stretch-entry.result) c.self.view_is c.stretch-entry.ensures in
    let o = cell_read old.cells.items s.image s.function c.args.at c.stretch-entry.result c.requires.sized S c.if-end-at.false c.index.result.now c.index.ensures in
    let x = stands_at s.image s.function c.args.at c.stretch-entry.result S c.if-at-entry.false c.if-end-at.false in
    let e = c.is_same.ensures.same c.if-is_same.true in
    seen_again s.image s.function (scene_kinds s) old.tops old.regions old.cells.items c.args.todo.now.items c.args.at c.args.pair c.requires x.0 x.1
    (o ∙ ap Some c.in-Some.is ∙ ap (λ n. Some (Some n)) e)

pub returns-else-is_same-clause-blames : goal.returns-else-is_same-clause-blames
returns-else-is_same-clause-blames c =
    let s = c.args.self.now in
    let old = c.args.table.now in
    let S = subst (λ (s : Scene). IsStretch s.image s.function c.stretch-entry.result) c.self.view_is c.stretch-entry.ensures in
    let o = cell_read old.cells.items s.image s.function c.args.at c.stretch-entry.result c.requires.sized S c.if-end-at.false c.index.result.now c.index.ensures in
    let x = stands_at s.image s.function c.args.at c.stretch-entry.result S c.if-at-entry.false c.if-end-at.false in
    blame_pair s.image s.function (scene_kinds s) old.tops old.regions old.cells.items c.args.todo.now.items c.args.at c.args.pair c.requires x.0 c.in-Some.old x.1 (o ∙ ap Some c.in-Some.is)
    (c.is_same.ensures.differ c.if-is_same.false)
