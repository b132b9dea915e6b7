use Rattle.std.proofs.Common.{length, arith, ap, sym, subst, ⊎_elim}
use Rattle.std.proofs.lemmas.Bool.Decides.{eqb_tells}
use Rattle.std.proofs.lemmas.Option.{slice_get_within}
use Rattle.std.proofs.Math.Arith.{lt_of_le-ne}
use Rattle.oc_verify.specs.Facts.{IsNamed}
use Rattle.oc_verify.proofs.Owners.{stands}
use Rattle.oc_verify.proofs.facts.Facts.check_all_names.Goals as goal

pub loop-function-preserved : goal.loop-function-preserved
loop-function-preserved c = λ f l. ⊎_elim
    (λ q. subst (IsNamed c.args.self.now) (sym q.1) c.in_ok-check_names.ensures.named)
    (λ q. c.loop-function.invariant f (lt_of_le-ne (omega (arith, l)) q.1))
    (eqb_tells f c.loop-function.function)

pub returns-clause-named : goal.returns-clause-named
returns-clause-named c = λ f a p e.
    let t = stands c.args.self.now f a p e in
    let n = slice_get_within c.args.self.now.functions f t.home t.is in
    let m = c.len-function-end.ensures in
    let k = ap (λ i. length i.functions) c.self.view_is in
    let v = c.loop-function-test.false in
    c.loop-function.invariant f (omega (arith, n, m, k, v)) a p e
