use Rattle.std.proofs.Common.{ℕ, ◌≡◌, ◌+◌, List, [], ◌++◌, Option, None, Some, IfSome, take}
use Rattle.std.specs.Prelude.{option_map}
use Rattle.oc_io.specs.Counts.{capped}
use Rattle.oc_io.proofs.disk.read_past.Goals as goal

known_front : (known : Option (List ℕ)) (n : ℕ) (bytes : List ℕ) → IfSome (option_map (take n) known) (λ xs. bytes ≡ [] ++ xs) → IfSome known (λ xs. bytes ≡ take n xs)
known_front None n bytes p = p
known_front (Some xs) n bytes p = p

pub returns : goal.returns
returns g c =
    let known = g.R.Read.remaining c.args.reader in
    let n = capped (c.args.limit + 1) in
    let read : IfSome (option_map (take c.take.result.limit) (g.R.Read.remaining c.take.result.inner)) (λ xs. c.read_to_end.new.buf.items ≡ c.new-bytes.result.items ++ xs) =
    c.in_ok-read_to_end.ensures.bytes in
    known_front known n _ (rw (c.take.ensures.inner, c.take.ensures.limit, c.saturating_add.ensures, c.new-bytes.ensures.items) at read)
