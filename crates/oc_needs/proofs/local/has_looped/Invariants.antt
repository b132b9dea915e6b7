use Rattle.std.proofs.Common.{◌≡◌, drop, map}
use Rattle.std.specs.List.{list_any}
use Rattle.oc_needs.specs.Code.{is_looped}
use Rattle.oc_needs.specs.CodeView.{source_view}
use Rattle.oc_needs.proofs.local.has_looped.Given as goal

abbrev pub invariant-loop-source : goal.invariant-loop-source
invariant-loop-source l = list_any is_looped (map source_view (drop l.source-index l.sources)) ≡ list_any is_looped (map source_view l.sources)
