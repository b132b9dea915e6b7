use Rattle.std.proofs.Common.{◌∙◌}
use Rattle.std.specs.List.Sorted.{IsNonDecreasing}
use Rattle.std.proofs.lemmas.List.Sorted.{searched}
use Rattle.oc_regcheck.proofs.Sorted.{found_is}
use Rattle.oc_regcheck.proofs.blocks.Blocks.has.Goals as goal

pub returns : goal.returns
returns c =
    let sorted : IsNonDecreasing c.deref.result.now = rw c.deref.ensures.value c.self.invariant in
    let found = found_is c.deref.result.now c.args.s c.binary_search.result (searched c.deref.result.now c.args.s c.binary_search.result c.binary_search.ensures.position (λ i j. sorted i j 0)) in
    rw (← c.self.view_is, ← c.deref.ensures.value) (c.is_ok.ensures.value ∙ found)
