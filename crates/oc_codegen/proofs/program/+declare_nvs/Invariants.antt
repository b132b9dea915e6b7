use Rattle.std.proofs.Common.{length}
use Rattle.oc_codegen.proofs.program.+declare_nvs.Given as goal

abbrev pub decreases-declare_nvs : goal.decreases-declare_nvs
decreases-declare_nvs l = length l.names.now
