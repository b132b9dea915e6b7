use Rattle.std.proofs.Common.{rules, ◌≡◌, ◌<◌, ◌≤◌, true, false, Some, arith, ap, sym, ◌∙◌, ⊎_elim}
use Rattle.std.specs.Prelude.{slice_get}
use Rattle.std.proofs.lemmas.Bool.Decides.{eqb_tells}
use Rattle.std.proofs.Math.Arith.{lt_of_le-ne}
use Rattle.oc_isa.specs.declared.instr.Placed.{Placed}
use Rattle.oc_isa.specs.Image.{parts_of}
use Rattle.oc_verify.specs.Rules.{names, names_exist, returns as wrong_return, returns_right}
use Rattle.oc_verify.proofs.Owners.{stands}
use Rattle.oc_verify.proofs.FactLaws.{here}
use Rattle.oc_verify.proofs.facts.Facts.check_names.Goals as goal

pub returns-then-not-names_exist-clause-blames : goal.returns-then-not-names_exist-clause-blames
returns-then-not-names_exist-clause-blames c =
    let e = here (parts_of c.self.inside.image.now) c.args.self.now c.self.view_is c.args.function c.stretch-entry.result c.stretch-entry.ensures c.loop-at.at c.loop-at.auto.at
    c.loop-at-test.true c.index.result.now c.index.ensures in
    let h : names_exist c.args.self.now c.args.function c.index.result.now.instr ≡ false = search rules in
    names c.args.function c.loop-at.at c.index.result.now e.1 h

pub returns-then-not-returns_right-clause-blames : goal.returns-then-not-returns_right-clause-blames
returns-then-not-returns_right-clause-blames c =
    let e = here (parts_of c.self.inside.image.now) c.args.self.now c.self.view_is c.args.function c.stretch-entry.result c.stretch-entry.ensures c.loop-at.at c.loop-at.auto.at
    c.loop-at-test.true c.index.result.now c.index.ensures in
    let h : returns_right c.args.self.now c.args.function c.index.result.now.instr ≡ false = search rules in
    wrong_return c.args.function c.loop-at.at c.index.result.now e.1 h

pub loop-at-preserved : goal.loop-at-preserved
loop-at-preserved c = λ a p l u e.
    let s = here (parts_of c.self.inside.image.now) c.args.self.now c.self.view_is c.args.function c.stretch-entry.result c.stretch-entry.ensures c.loop-at.at c.loop-at.auto.at
    c.loop-at-test.true c.index.result.now c.index.ensures in
    let h : names_exist c.args.self.now c.args.function c.index.result.now.instr ≡ true = search rules in
    let k : returns_right c.args.self.now c.args.function c.index.result.now.instr ≡ true = search rules in
    ⊎_elim
    (λ q. let z : Some c.index.result.now ≡ Some p = sym s.0 ∙ ap (slice_get c.args.self.now.code) (sym q.1) ∙ e in
    let same : c.index.result.now ≡ p = (cc) in
    (ap (λ (x : Placed). names_exist c.args.self.now c.args.function x.instr) (sym same) ∙ h, ap (λ (x : Placed). returns_right c.args.self.now c.args.function x.instr) (sym same) ∙ k))
    (λ q. c.loop-at.invariant a p l (lt_of_le-ne (omega (arith, u)) q.1) e)
    (eqb_tells a c.loop-at.at)

pub returns-clause-named : goal.returns-clause-named
returns-clause-named c = λ a p e.
    let t = stands c.args.self.now c.args.function a p e in
    let S = c.stretch-entry.ensures in
    let z : Some t.home ≡ Some S.0 = sym t.is ∙ S.1 in
    let q : t.home ≡ S.0 = (cc) in
    let low : c.stretch-entry.result.0 ≤ a = (let x = S.2 in let y = t.low in let w = ap (λ g. g.entry) q in omega (arith, x, y, w)) in
    let high : a < c.loop-at.at = (let x = S.3 in let y = t.high in let v = c.loop-at-test.false in omega (arith, x, y, v)) in
    c.loop-at.invariant a p low high t.found
