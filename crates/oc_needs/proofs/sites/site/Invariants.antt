use Rattle.std.proofs.Common.{◌≡◌, drop}
use Rattle.std.specs.List.{find}
use Rattle.oc_needs.specs.Code.{lifts_by}
use Rattle.oc_needs.proofs.sites.site.Given as goal

abbrev pub invariant-loop-outer : goal.invariant-loop-outer
invariant-loop-outer l =
    find (lifts_by l.body.summaries.now.program l.body.function l.u l.x) (drop l.outer-index l.source.loops.items)
    ≡ find (lifts_by l.body.summaries.now.program l.body.function l.u l.x) l.source.loops.items
