use Rattle.std.proofs.Common.{◌<◌, ◌∷◌, ◌++◌, [], ℕ, List, length, get_or, refl, ap, sym, ◌∙◌, subst}
use Rattle.std.proofs.lemmas.Option.{slice_get_read}
use Rattle.oc_verify.specs.Facts.{Scene, scene_kinds}
use Rattle.oc_verify.specs.Tables.{IsWalk}
use Rattle.oc_verify.proofs.WalkLaws.{walk_begins}
use Rattle.oc_verify.proofs.walk.Walk.run.Goals as goal

pub loop-at-init : goal.loop-at-init
loop-at-init c =
    let s = c.args.self.now in
    let old = c.args.table.now in
    let g = c.index.result.now in
    let v = ap (λ (s : Scene). s.image) c.self.view_is in
    let l = subst (λ (s : Scene). s.function < length s.image.functions) c.self.view_is c.self.invariant.0 in
    let f = ap (λ (s : Scene). s.function) c.self.view_is in
    let e = slice_get_read s.image.functions (length s.image.functions) s.function g refl l
    (c.index.ensures ∙ ap (λ k. get_or k.functions c.self.inside.function g) (c.image.ensures.image ∙ v) ∙ ap (λ k. get_or s.image.functions k g) f) in
    let t = c.in_ok-push.ensures ∙ ap (λ (l : List (ℕ × (ℕ × ℕ))). l ++ (g.entry, (0, 0)) ∷ []) c.new-todo.ensures.items in
    record {
      walk = subst (λ es. IsWalk s.image s.function (scene_kinds s) old.tops old.regions old.cells.items es) (sym t)
          (walk_begins s.image s.function (scene_kinds s) old.tops old.regions old.cells.items g g.entry e refl c.requires.sized c.requires.cells c.requires.blank);
      others = λ a z. refl;
    }
