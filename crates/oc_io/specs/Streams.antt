-- What a stream has once all that is held back is written.
use Rattle.std.specs.Prelude.{ℕ, List, Option, take, drop}
use Rattle.std.specs.Io.KnownBytes.{append_known}

-- of the used part of a buffer, what isn't written yet
abbrev pub unwritten : (written used : ℕ) → (buffer : List ℕ) → List ℕ
unwritten written used buffer = drop written (take used buffer)

-- the known bytes, and then those of the used part of a buffer that aren't written yet
abbrev pub with_held : Option (List ℕ) → (written used : ℕ) → (buffer : List ℕ) → Option (List ℕ)
with_held known written used buffer = append_known known (unwritten written used buffer)
