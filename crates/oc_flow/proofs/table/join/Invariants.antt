use Rattle.std.proofs.Common.{◌≡◌, ◌<◌, ◌≤◌, ℕ, length, false}
use Rattle.std.specs.Prelude.{◌||◌}
use Rattle.std.proofs.Math.ListN.{get_or}
use Rattle.oc_flow.proofs.table.join.Given as goal

abbrev pub invariant-loop-i : goal.invariant-loop-i
invariant-loop-i l = record {
  same : length l.cells ≡ length l.fn.cells;
  done : (k : ℕ) → k < l.i → get_or l.cells k false ≡ get_or l.fn.cells k false || get_or l.others k false;
  rest : (k : ℕ) → l.i ≤ k → get_or l.cells k false ≡ get_or l.fn.cells k false;
}
