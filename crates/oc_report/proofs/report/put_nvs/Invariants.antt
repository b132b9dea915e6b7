use Rattle.std.proofs.Common.{◌≡◌, map}
use Rattle.oc_io.proofs.Going.{Going}
use Rattle.oc_items.specs.Text.{words_lines}
use Rattle.oc_report.proofs.Variables.{lines_from}
use Rattle.oc_report.proofs.report.put_nvs.Given as goal

abbrev pub invariant-loop-place : goal.invariant-loop-place
invariant-loop-place g l = record {
  calm : g.O.Sink.faults l.out ≡ g.O.Sink.faults l.initial.out;
  going : Going g.O.Sink.took l.initial.out l.out (lines_from l.image.names.nvs.items l.image.nv.items l.place l.rest)
      (words_lines l.image.names.nvs.items (map (λ v. v.words) l.image.nv.items) l.initial.words);
}
