use Rattle.std.proofs.Common.{◌≡◌, ◌<◌, ◌^◌, drop, max}
use Rattle.oc_meters.specs.Reads.{longest}
use Rattle.oc_meters.proofs.book.longest.Given as goal

abbrev pub invariant-loop-name : goal.invariant-loop-name
invariant-loop-name l = record {
  fits : l.most < 2 ^ 63;
  most : max l.most (longest (drop l.name-index l.names)) ≡ longest l.names;
}
