use Rattle.std.proofs.Common.{rules, ◌≡◌, ◌-◌, ◌<◌, ap, sym, ◌∙◌, arith, drop, length, true, false}
use Rattle.std.specs.Str.{bytes_eq}
use Rattle.oc_code.specs.Scope.{named}
use Rattle.oc_codegen.proofs.Bindings.{found, length_visible, passed, visible_take}
use Rattle.oc_codegen.proofs.scope.Scope.find.Goals as goal

pub returns-then-eq-clause-slot : goal.returns-then-eq-clause-slot
returns-then-eq-clause-slot c =
    let t : bytes_eq c.args.name.now c.index.result.now.name.now ≡ true = search rules in
    let p : 0 < c.loop-i.i = search rules in
    ap (λ g. g.slot) (found c.args.name.now c.loop-i.i c.self.inside.bindings.items c.index.result.now c.args.self.now p c.loop-i.invariant.0 c.index.ensures c.loop-i.invariant.1 t)

pub returns-then-eq-clause-words : goal.returns-then-eq-clause-words
returns-then-eq-clause-words c =
    let t : bytes_eq c.args.name.now c.index.result.now.name.now ≡ true = search rules in
    let p : 0 < c.loop-i.i = search rules in
    ap (λ g. g.words) (found c.args.name.now c.loop-i.i c.self.inside.bindings.items c.index.result.now c.args.self.now p c.loop-i.invariant.0 c.index.ensures c.loop-i.invariant.1 t)

pub returns-then-eq-clause-fresh : goal.returns-then-eq-clause-fresh
returns-then-eq-clause-fresh c =
    let t : bytes_eq c.args.name.now c.index.result.now.name.now ≡ true = search rules in
    let p : 0 < c.loop-i.i = search rules in
    ap (λ g. g.fresh) (found c.args.name.now c.loop-i.i c.self.inside.bindings.items c.index.result.now c.args.self.now p c.loop-i.invariant.0 c.index.ensures c.loop-i.invariant.1 t)

pub loop-i-init : goal.loop-i-init
loop-i-init c =
    let bs = c.self.inside.bindings.items in
    let x = c.args.name.now in
    let n = c.reach-i.result in
    let many : length c.args.self.now ≡ length bs = ap length (sym c.self.view_is) ∙ length_visible bs in (
      omega (arith, c.reach-i.ensures.within, many),
      ap (λ γ. named γ x) (visible_take n bs) ∙ ap (λ γ. named (drop (length γ - n) γ) x) c.self.view_is ∙ c.reach-i.ensures.same,
    )

pub loop-i-preserved : goal.loop-i-preserved
loop-i-preserved c =
    let t : bytes_eq c.args.name.now c.index.result.now.name.now ≡ false = search rules in
    let p : 0 < c.loop-i.i = search rules in (
      omega (arith, c.loop-i.invariant.0),
      passed c.args.name.now c.loop-i.i c.self.inside.bindings.items c.index.result.now c.args.self.now p c.loop-i.invariant.0 c.index.ensures
          c.loop-i.invariant.1 t,
    )
