use Rattle.std.proofs.Common.{◌≡◌, ◌++◌, drop}
use Rattle.std.specs.Prelude.{flat_map}
use Rattle.oc_parse.specs.Collected.{token_begins}
use Rattle.oc_parse.proofs.atomics.token_begins.Given as goal

abbrev pub invariant-loop-token : goal.invariant-loop-token
invariant-loop-token l = l.begins.items ++ flat_map token_begins (drop l.token-index l.tokens) ≡ flat_map token_begins l.tokens
