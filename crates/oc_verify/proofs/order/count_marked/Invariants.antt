use Rattle.std.proofs.Common.{◌≡◌, ◌<◌, ◌≤◌, ◌+◌, ℕ, length, get_or}
use Rattle.oc_reach.specs.Marked.{is_in}
use Rattle.oc_tree.specs.Reach.{one}
use Rattle.oc_verify.proofs.order.count_marked.Given as goal

abbrev pub invariant-loop-caller : goal.invariant-loop-caller
invariant-loop-caller l = record {
  sized : length l.ranks ≡ length l.initial.ranks;
  counted : (u : ℕ) → u < l.caller → get_or l.ranks u 0 ≡ one (is_in l.marks.0 u) + get_or l.initial.ranks u 0;
  rest : (u : ℕ) → l.caller ≤ u → get_or l.ranks u 0 ≡ get_or l.initial.ranks u 0;
}
