use Rattle.std.proofs.Common.{◌≡◌, ◌+◌, ◌≤◌, ◌++◌, All, drop, vec_len, sum_by, FitsSigned}
use Rattle.std.specs.Int.{w32}
use Rattle.oc_isa.specs.Image.{initial_words}
use Rattle.oc_machine.proofs.machine.initial_words.Given as goal

abbrev pub invariant-loop-variable : goal.invariant-loop-variable
invariant-loop-variable l = record {
  rest : l.words.items ++ initial_words (drop l.variable-index l.nv) ≡ initial_words l.nv;
  few : vec_len l.words + sum_by (λ v. v.words) (drop l.variable-index l.nv) ≤ 65536;
  fit : All (FitsSigned w32) l.words.items;
}
