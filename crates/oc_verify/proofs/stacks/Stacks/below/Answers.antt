use Rattle.std.proofs.Common.{rules, ◌≡◌, ◌+◌, suc, drop, map, ap, sym, ◌∙◌, arith}
use Rattle.oc_verify.specs.Rules.{dropping}
use Rattle.oc_verify.specs.Told.{kind_of, kinds}
use Rattle.oc_verify.proofs.DropLaws.{beside, drop_next, drop_on, dropped_out}
use Rattle.oc_verify.proofs.stacks.Stacks.below.Goals as goal

pub returns-in-None-clause-exact : goal.returns-in-None-clause-exact
returns-in-None-clause-exact c =
    dropped_out (kinds c.args.self.now c.args.ops) c.loop-done._done c.args.count (sym c.loop-done.invariant.below ∙ ap (map kind_of) c.in-None.ensures.top) c.loop-done-test.true

pub loop-done-preserved : goal.loop-done-preserved
loop-done-preserved c =
    let ks = kinds c.args.self.now c.args.ops in
    let n : suc c.loop-done._done ≡ c.loop-done._done + 1 = omega arith in
    let r = drop_next ks c.loop-done._done (kind_of c.in-Some.field-0-0) (kinds c.args.self.now c.in-Some.below) (sym c.loop-done.invariant.below ∙ ap (map kind_of) c.in-Some.ensures.top) in
    record {
      rest = c.in-Some.ensures.within;
      below = sym (ap (λ m. drop m ks) (sym n) ∙ r.0);
      deep = (let l = r.1 in omega (arith, l));
      other = c.under-beside.ensures.within;
      along = c.under-beside.ensures.under ∙ drop_on c.loop-done._done (kinds c.args.self.now c.args.last.1) (kinds c.args.self.now c.loop-done.beside) c.loop-done.invariant.along;
    }

pub returns-then-count-last-clause-exact : goal.returns-then-count-last-clause-exact
returns-then-count-last-clause-exact c =
    let ks = c.args.self.now in
    let i = c.loop-done._done in
    let e : c.loop-done.rest ≡ c.loop-done.beside = search rules in
    let n : c.args.count ≡ c.args.last.0 = search rules in
    let d : drop i (kinds ks c.args.ops) ≡ drop i (kinds ks c.args.last.1) = sym c.loop-done.invariant.below ∙ ap (kinds ks) e ∙ c.loop-done.invariant.along in
    beside (kinds ks c.args.ops) (kinds ks c.args.last.1) (kinds ks c.args.last.2) i c.args.count d c.loop-done.invariant.deep c.loop-done-test.true
    (ap (λ m. dropping m (kinds ks c.args.last.1)) n ∙ c.requires.last.leaves)
