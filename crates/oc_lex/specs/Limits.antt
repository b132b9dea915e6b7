-- How long a source may be.
use Rattle.std.specs.Prelude.{ℕ}

-- how many bytes a source may have: 1 MiB; a program has no more nodes than its source has bytes
abbrev pub source_limit : ℕ
source_limit = 1048576
