-- The table of executed blocks.
use Rattle.std.specs.Prelude.{◌≡◌, ℕ, ◌==◌, List, count_by, slice_index_or}

-- each block's entry says how often it stands among the executed ones
abbrev pub IsCounted : List ℕ → List ℕ → Type 0
IsCounted counts blocks = (b : ℕ) → slice_index_or counts b 0 ≡ count_by (λ id. b == id) blocks
