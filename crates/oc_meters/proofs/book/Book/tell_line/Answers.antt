use Rattle.oc_meters.specs.Reads.{told}
use Rattle.oc_meters.proofs.book.Book.tell_line.Goals as goal

pub returns-in-Some-clause-told : goal.returns-in-Some-clause-told
returns-in-Some-clause-told g c = told c.in-Some.item (rw c.bytes.ensures at c.in-Some.ensures.some) c.tell_all.ensures
