use Rattle.std.proofs.Common.{◌≡◌, ◌<◌, ℕ, length, get_or}
use Rattle.oc_tree.specs.Reach.{count_below, reaches}
use Rattle.oc_verify.proofs.order.ranks.Given as goal

abbrev pub invariant-loop-function : goal.invariant-loop-function
invariant-loop-function l = record {
  sized : length l.ranks.items ≡ l.reach.1;
  counted : (u : ℕ) → u < l.reach.1 → get_or l.ranks.items u 0 ≡ count_below (reaches l.reach.0 l.reach.1 u) l.function;
}
