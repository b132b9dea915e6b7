-- Links between numbers below a bound.
use Rattle.std.specs.Prelude.{◌≡◌, ◌<◌, ℕ, true}
use Rattle.oc_tree.specs.Reach.{Links, linked}

-- links lead from and to numbers below `n` alone
abbrev pub IsWithin : Links → ℕ → Type 0
IsWithin links n = (u v : ℕ) → linked links u v ≡ true → (u < n) × (v < n)
