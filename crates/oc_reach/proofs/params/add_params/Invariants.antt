use Rattle.std.proofs.Common.{◌≡◌, ◌+◌, vec_len}
use Rattle.oc_reach.proofs.params.add_params.Given as goal

abbrev pub invariant-loop-param : goal.invariant-loop-param
invariant-loop-param l = vec_len l.all ≡ vec_len l.initial.all + l.param-index
