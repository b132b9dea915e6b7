use Rattle.std.proofs.Common.{ap, rules}
use Rattle.oc_meters.specs.Kept.{Line}
use Rattle.oc_meters.specs.Reads.{ends}
use Rattle.oc_meters.proofs.book.Book.take_byte.Goals as goal

pub returns-then-byte-eq10-clause-taken : goal.returns-then-byte-eq10-clause-taken
returns-then-byte-eq10-clause-taken g c = ends (search rules) c.tell_line.ensures.told (ap (λ (l : Line). l.bytes) c.clear.ensures)
