use Rattle.std.proofs.Common.{◌∙◌, map, subst}
use Rattle.oc_isa.specs.Image.{Parts}
use Rattle.oc_items.specs.Text.{nv_lines}
use Rattle.oc_report.proofs.Writing.{flushed_written}
use Rattle.oc_report.proofs.report.finish_with.Goals as goal

pub returns-in-Ok-clause-written : goal.returns-in-Ok-clause-written
returns-in-Ok-clause-written g c =
    let lines = subst (λ (i : Parts). g.O.Sink.took c.args.out.now (nv_lines i.names (map (λ v. v.words) i.nv) c.nv_words.result.now) c.put_nvs.new.out)
    (c.raw.ensures.parts ∙ c.image.ensures) c.in-Ok.ensures.ok in
    flushed_written g.O.Sink.took g.O.Sink.held g.O.Sink.faults g.met.O.Sink.took_both _ _ _ _ _ _ c.in-Ok.ensures.calm (rw c.nv_words.ensures.words at lines)
    c.flush_with.ensures.nothing c.flush_with.ensures.stays
