use Rattle.std.proofs.Common.{◌≡◌, ◌≤◌, ◌<◌, length, map, drop}
use Rattle.std.specs.List.{All}
use Rattle.oc_verify.specs.Merging.{leasts}
use Rattle.oc_verify.specs.Stacks.{stack}
use Rattle.oc_verify.specs.Told.{kind_of, kinds}
use Rattle.oc_verify.proofs.TopLaws.{onto}
use Rattle.oc_verify.proofs.kinds.merge_top.Given as goal

abbrev pub invariant-loop-code : goal.invariant-loop-code
invariant-loop-code l = record {
  rest : l.rest ≤ length l.tops;
  below : stack l.tops l.rest ≡ drop l.code-index (stack l.tops l.ops);
  sized : length l.both.items ≡ l.code-index;
  small : All (λ c. c < 8589934592) l.both.items;
  whole : leasts (map kind_of l.codes) (kinds l.tops l.ops) ≡ onto (map kind_of l.both.items) (leasts (map kind_of (drop l.code-index l.codes)) (kinds l.tops l.rest));
}
