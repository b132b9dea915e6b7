-- How long periods last.
use Rattle.std.specs.Prelude.{ℕ, ◌+◌, List, sum_by}
use Rattle.oc_io.specs.declared.period.Period.{Period}

-- the steps and ticks of these periods
abbrev pub total : List Period → ℕ
total periods = sum_by (λ p. p.on + p.off) periods
