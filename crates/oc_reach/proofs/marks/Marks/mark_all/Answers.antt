use Rattle.std.proofs.Common.{◌≡◌, arith, ◌<◌, ◌+◌, ◌∷◌, ap, sym, subst, ◌∙◌, drop, true}
use Rattle.std.proofs.Math.ListN.{get_or}
use Rattle.std.proofs.lemmas.Grind.{common_steps}
use Rattle.std.proofs.lemmas.Bool.{or_right}
use Rattle.oc_reach.specs.Marked.{is_in, add, add_all}
use Rattle.oc_reach.proofs.Lists.{in_drop}
use Rattle.oc_reach.proofs.marks.Marks.mark_all.Goals as goal

pub mark-requires : goal.mark-requires
mark-requires c = c.loop-number.invariant.inside _ (in_drop c.loop-number.number-index c.args.numbers.now c.loop-number-test.true)

pub loop-number-preserved : goal.loop-number-preserved
loop-number-preserved c =
    let i = c.loop-number.number-index in
    let row = c.args.numbers.now in
    let e : drop i row ≡ get_or row i 0 ∷ drop (i + 1) row = grind (arith, common_steps) in
    let m = c.in_ok-mark.ensures in
    let a : c.mark.new.self.0 ≡ add c.loop-number.self.0 (get_or row i 0) = ap (λ p. p.0) m in
    let b : c.mark.new.self.1 ≡ c.loop-number.self.1 = ap (λ p. p.1) m in
    record {
      bound = b ∙ c.loop-number.invariant.bound;
      added = ap (λ x. add_all x (drop (i + 1) row)) a ∙ sym (ap (λ l. add_all c.loop-number.self.0 l) e) ∙ c.loop-number.invariant.added;
      inside = λ v h. subst (λ n. v < n) (sym b) (c.loop-number.invariant.inside v (subst (λ l. is_in l v ≡ true) (sym e) (or_right _ _ h)));
    }
