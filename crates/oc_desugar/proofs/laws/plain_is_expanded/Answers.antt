use Rattle.oc_desugar.proofs.NumberLists.{is_numbered}
use Rattle.oc_desugar.proofs.OwnExpansion.{own_expansion}
use Rattle.oc_desugar.proofs.laws.plain_is_expanded.Goals as goal

pub returns : goal.returns
returns c p plain n = own_expansion p plain (is_numbered p n.statements)
