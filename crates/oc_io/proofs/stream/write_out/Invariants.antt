use Rattle.std.proofs.Common.{length, ◌-◌, ◌≤◌, take, drop}
use Rattle.std.specs.Io.KnownBytes.{Appends}
use Rattle.oc_io.proofs.stream.write_out.Given as goal

abbrev pub invariant-loop-written : goal.invariant-loop-written
invariant-loop-written g l = record {
  few : l.written ≤ length l.bytes;
  more : l.from ≤ l.written;
  bytes : Appends (g.W.Write.contents l.fn.to) (g.W.Write.contents l.to) (drop l.from (take l.written l.bytes));
}

abbrev pub decreases-loop-written : goal.decreases-loop-written
decreases-loop-written g l = length l.bytes - l.written
