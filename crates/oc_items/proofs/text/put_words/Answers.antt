use Rattle.std.proofs.Common.{◌∙◌, codes, refl}
use Rattle.oc_io.proofs.Each.{each_on, each_stop, each_done}
use Rattle.oc_io.proofs.Putting.{ended_by, stopped, stopped_in}
use Rattle.oc_items.specs.Text.{word_field}
use Rattle.oc_items.proofs.Nv.{at_head, head_of, words_fields, words_fields-cons}
use Rattle.oc_items.proofs.text.put_words.Goals as goal

pub returns-in-Err : goal.returns-in-Err
returns-in-Err g c = stopped_in g.O.Sink.took g.O.Sink.faults g.met.O.Sink.took_both _ _ _ (head_of _) _ _ _ refl
    (at_head g.O.Sink.took g.met.O.Sink.took_nothing _ _ c.args.words.now) c.in-Err.ensures

pub returns-in-Err-put_word : goal.returns-in-Err-put_word
returns-in-Err-put_word g c = stopped g.O.Sink.took g.O.Sink.faults _ _ _ _ _ _ c.loop-word.invariant.calm
    (each_stop g.O.Sink.took g.met.O.Sink.took_both _ _ _ words_fields word_field words_fields-cons c.args.words.now _ _ _ c.loop-word-test.true c.loop-word.invariant.going
    c.in-Err-put_word.ensures.part)
    c.in-Err-put_word.ensures

pub loop-word-preserved : goal.loop-word-preserved
loop-word-preserved g c = record {
  calm = c.in_default-put_word.ensures.calm ∙ c.loop-word.invariant.calm;
  going = each_on g.O.Sink.took g.met.O.Sink.took_both _ _ _ words_fields word_field words_fields-cons c.args.words.now _ _ _ c.loop-word-test.true c.loop-word.invariant.going
      c.in_default-put_word.ensures.ok;
}

pub returns : goal.returns
returns g c = ended_by g.O.Sink.took g.O.Sink.faults g.met.O.Sink.took_both _ _ _ (codes "\n") _ _ c.loop-word.invariant.calm
    (each_done g.O.Sink.took _ _ words_fields c.args.words.now _ _ c.loop-word-test.false c.loop-word.invariant.going)
    c.put.ensures.puts
