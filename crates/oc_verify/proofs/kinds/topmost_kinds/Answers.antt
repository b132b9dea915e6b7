use Rattle.std.proofs.Common.{rules, ◌≡◌, ◌∷◌, ◌++◌, [], ◌+◌, take, drop, sym, ◌∙◌}
use Rattle.oc_verify.specs.Stacks.{stack}
use Rattle.oc_verify.proofs.TopLaws.{drop_next, take_next}
use Rattle.oc_verify.proofs.kinds.topmost_kinds.Goals as goal

pub loop-done-preserved : goal.loop-done-preserved
loop-done-preserved c =
    let xs = stack c.args.tops.now c.args.ops in
    let ys = stack c.args.tops.now c.in-Some.below in
    let d : drop c.loop-done._done xs ≡ c.in-Some.code ∷ ys = sym c.loop-done.invariant.below ∙ c.in-Some.ensures.top in
    let t : take (c.loop-done._done + 1) xs ≡ take c.loop-done._done xs ++ c.in-Some.code ∷ [] = take_next xs ys c.loop-done._done c.in-Some.code d in
    let r : drop (c.loop-done._done + 1) xs ≡ ys = drop_next xs ys c.loop-done._done c.in-Some.code d in
    let back : ys ≡ drop (c.loop-done._done + 1) xs = sym r in
    record {
      rest = c.in-Some.ensures.within;
      codes = search rules;
      below = back;
    }
