use Rattle.std.proofs.Common.{◌==◌, ap, sym, ◌∙◌}
use Rattle.std.specs.Prelude.{count_by, slice_index_or}
use Rattle.oc_meaning.proofs.Counts.{count_by-reverse}
use Rattle.oc_interpreter.proofs.executed.Executed.count.Goals as goal

pub returns : goal.returns
returns c =
    let b = c.args.block in
    c.entry.ensures
    ∙ ap (λ l. slice_index_or l b 0) c.deref.ensures.value
    ∙ c.self.invariant b
    ∙ sym (count_by-reverse (λ id. b == id) c.self.inside.blocks.items)
    ∙ ap (count_by (λ id. b == id)) c.self.view_is
