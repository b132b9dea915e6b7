use Rattle.std.proofs.Common.{◌≡◌, ◌≤◌, ◌++◌, ◌+◌, drop}
use Rattle.oc_isa.specs.Image.{parts_of}
use Rattle.oc_verify.specs.Rules.{calls_of, links_on}
use Rattle.oc_verify.proofs.order.links.Given as goal

abbrev pub invariant-loop-at : goal.invariant-loop-at
invariant-loop-at l = record {
  low : l.function ≤ l.at;
  whole : l.links.items ++ links_on l.function l.at (drop (l.function + 1) (parts_of l.image).functions) (drop l.at (parts_of l.image).code) ≡ calls_of (parts_of l.image);
}
