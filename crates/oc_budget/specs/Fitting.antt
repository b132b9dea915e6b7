-- Costs as the code has them: the number where it fits 64 bits, and none where it doesn't.
use Rattle.std.specs.Prelude.{◌≡◌, ◌≤◌, ℕ, Option, MatchOption}

abbrev pub IsFitted : Option ℕ → ℕ → Type 0
IsFitted result cost = MatchOption result (18446744073709551616 ≤ cost) (λ n. n ≡ cost)
