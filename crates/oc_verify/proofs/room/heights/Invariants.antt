use Rattle.std.proofs.Common.{◌≡◌, ◌<◌, ℕ, length, get_or}
use Rattle.oc_verify.specs.Stacks.{stack}
use Rattle.oc_verify.proofs.room.heights.Given as goal

abbrev pub invariant-loop-number : goal.invariant-loop-number
invariant-loop-number l = record {
  sized : length l.heights.items ≡ l.number;
  heights : (n : ℕ) → n < l.number → get_or l.heights.items n 0 ≡ length (stack l.tops n);
}
