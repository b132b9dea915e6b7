use Rattle.std.proofs.Common.{◌∙◌}
use Rattle.oc_interpreter.proofs.TraceLaws.{adds_event, adds_mark}
use Rattle.oc_interpreter.proofs.trace.add.Goals as goal

pub returns-in_ok-push-in-Source : goal.returns-in_ok-push-in-Source
returns-in_ok-push-in-Source c =
    adds_event c.args.events.now.items c.args.marks.now.items c.in-Source.event _ _ c.in_ok-push-in-Source.ensures.items c.in-Source.ensures

pub returns-in_ok-push-in-Marked : goal.returns-in_ok-push-in-Marked
returns-in_ok-push-in-Marked c =
    adds_mark c.args.events.now.items c.args.marks.now.items c.in-Marked.mark _ _ c.in_ok-push-in-Marked.ensures.items
    (c.in-Marked.ensures.0 ∙ c.len.ensures ∙ c.args.events.now.ok.0) c.in-Marked.ensures.1 c.in-Marked.ensures.2
