use Rattle.std.proofs.Common.{arith, ◌≡◌, drop, ◌+◌, ◌∷◌, ◌≤◌, length}
use Rattle.std.proofs.lemmas.Grind.{common_steps}
use Rattle.oc_desugar.proofs.Joins.{left_args_step, left_args_end}
use Rattle.oc_desugar.proofs.parts.+left.Goals as goal

pub left_args-loop-arg-preserved : goal.left_args-loop-arg-preserved
left_args-loop-arg-preserved t c =
    let i = c.loop-arg.arg-index in
    let l = c.args.args.now in
    let item = c.arg-item.is in
    let e : drop i l ≡ c.arg-item.result ∷ drop (i + 1) l = grind (arith, common_steps) in
    record {
      left = left_args_step c.loop-arg.out.items _ c.in_ok-left.left c.arg-item.result c.loop-arg.k _ i l _ c.in_ok-push.ensures.items c.in_ok-left.ensures.left
          c.in_ok-left.ensures.next e c.loop-arg.invariant.left;
      pulled = grind (arith, common_steps);
      next = grind (arith, common_steps);
    }

pub left_args-returns-clause-left : goal.left_args-returns-clause-left
left_args-returns-clause-left t c =
    let h : length c.args.args.now ≤ c.loop-arg.arg-index = omega arith in
    left_args_end c.loop-arg.out.items c.loop-arg.k c.loop-arg.arg-index c.args.args.now _ h c.loop-arg.invariant.left
