use Rattle.std.proofs.Common.{rules, ◌≡◌, false, true, arith, subst, sym, ◌∙◌}
use Rattle.std.specs.Prelude.{◌==◌}
use Rattle.oc_verify.specs.Stacks.{AreNodes}
use Rattle.oc_verify.proofs.StackLaws.{same_number}
use Rattle.oc_verify.proofs.stacks.Stacks.is_same.Goals as goal

pub returns-clause-differ : goal.returns-clause-differ
returns-clause-differ c = λ e d.
    let a : AreNodes c.args.self.now = subst AreNodes (search rules) c.self.invariant.0 in
    let s : c.args.left ≡ c.args.right = same_number c.args.self.now a c.args.left c.args.right c.requires.left c.requires.right d in
    let t : (c.args.left == c.args.right) ≡ true = grind (arith, s) in
    let z : true ≡ false = sym t ∙ e in
    absurd (cc)
