use Rattle.std.proofs.Common.{true, false, ap, ◌∙◌}
use Rattle.oc_reach.specs.Marked.{is_in}
use Rattle.oc_reach.proofs.Tests.{test_on, test_off}
use Rattle.oc_reach.proofs.marks.Marks.of.Goals as goal
use Rattle.oc_reach.proofs.marks.Marks.of.Goals.{then-test+in_ok-mark, else-test}

pub loop-i-preserved : goal.loop-i-preserved
loop-i-preserved c =
    let xs = c.loop-i.marks.0 in
    let tests = c.args.tests.now in
    let i = c.loop-i.i in
    elim c.if-test.branch [
      | then-test+in_ok-mark w ↦ record {
        bound = ap (λ m. m.1) w.marks-is ∙ ap (λ m. m.1) w.in_ok-mark.ensures ∙ c.loop-i.invariant.bound;
        marked = λ v. ap (λ m. is_in m.0 v) w.marks-is ∙ ap (λ m. is_in m.0 v) w.in_ok-mark.ensures ∙ test_on xs tests i c.loop-i.invariant.marked w.if-test.true v;
      }
      | else-test w ↦ record {
        bound = ap (λ m. m.1) w.marks-is ∙ c.loop-i.invariant.bound;
        marked = λ v. ap (λ m. is_in m.0 v) w.marks-is ∙ test_off xs tests i c.loop-i.invariant.marked w.if-test.false v;
      }
    ]
