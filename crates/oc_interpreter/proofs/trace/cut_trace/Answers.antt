use Rattle.std.proofs.Common.{◌≡◌, ap, sym, ◌∙◌, subst, map, take}
use Rattle.std.proofs.lemmas.List.{take-map}
use Rattle.oc_meaning.specs.Run.{in_order}
use Rattle.oc_interpreter.specs.Stores.{event_view}
use Rattle.oc_meaning.specs.Parts.{AreParts}
use Rattle.oc_interpreter.proofs.FirstParts.{parts_first}
use Rattle.oc_interpreter.proofs.trace.cut_trace.Goals as goal

pub make_trace-requires : goal.make_trace-requires
make_trace-requires c =
    let n = c.args.limit in
    let noted = c.into_parts-noted.result.0.items in
    let first : map event_view c.truncate.new.self.items ≡ take n (in_order c.args.store.events) =
    ap (map event_view) c.truncate.ensures.items ∙ sym (take-map event_view n noted) ∙ ap (take n) c.into_parts-noted.ensures.events in
    subst AreParts (sym first) (parts_first n (in_order c.args.store.events) c.requires.parts)

pub returns-clause-parts : goal.returns-clause-parts
returns-clause-parts c =
    let n = c.args.limit in
    let noted = c.into_parts-noted.result.0.items in
    c.in_ok-trace.ensures.events.parts
    ∙ ap (map event_view) c.truncate.ensures.items ∙ sym (take-map event_view n noted) ∙ ap (take n) c.into_parts-noted.ensures.events
