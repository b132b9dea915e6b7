use Rattle.std.proofs.Common.{◌≡◌, drop, map}
use Rattle.std.specs.Fmt.{signed_decimal}
use Rattle.oc_io.specs.Lines.{further}
use Rattle.oc_io.proofs.Going.{Going}
use Rattle.oc_items.specs.Text.{words_line}
use Rattle.oc_items.proofs.text.put_words.Given as goal

abbrev pub invariant-loop-word : goal.invariant-loop-word
invariant-loop-word g l = record {
  calm : g.O.Sink.faults l.sink ≡ g.O.Sink.faults l.fn.sink;
  going : Going g.O.Sink.took l.fn.sink l.sink (further (map signed_decimal (drop l.word-index l.words))) (words_line l.name l.words);
}
