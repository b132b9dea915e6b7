-- Counts that have passed no limit.
use Rattle.std.specs.Prelude.{◌≤◌}
use Rattle.oc_tree.specs.Limits.{Tally}
use Rattle.oc_tree.specs.Sizes.{word_limit, variable_limit, statement_limit, call_limit}

-- counts that have passed no limit
pub record IsSmall (n : Tally) : Type 0 where
  pub words : n.words ≤ word_limit
  pub variables : n.variables ≤ variable_limit
  pub statements : n.statements ≤ statement_limit
  pub calls : n.calls ≤ call_limit
