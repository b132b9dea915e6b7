use Rattle.std.proofs.Common.{length}
use Rattle.oc_writes.proofs.stored.+add_stored.Given as goal

abbrev pub decreases-add_stored : goal.decreases-add_stored
decreases-add_stored l = length l.names.now
