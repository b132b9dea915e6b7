use Rattle.std.proofs.Common.{◌∙◌, ap, arith, inr, [], Option, List, ℕ}
use Rattle.std.specs.Prelude.{unwrap_or}
use Rattle.csv.specs.Reading.{builder_is_flexible, default_config, reader_state}
use Rattle.oc_rows.specs.Reading.{unread}
use Rattle.oc_rows.proofs.Turns.{few_rows}
use Rattle.oc_rows.proofs.rows.Rows.new.Goals as goal

pub invariant_of-result : goal.invariant_of-result
invariant_of-result c =
    let reader = c.from_reader-reader.ensures in
    let header = c.has_headers.ensures in
    let flexible = c.flexible.ensures in
    let source = ap (λ (o : Option (List ℕ)). unwrap_or o []) reader.source in
    record {
      goes = λ _. reader.fresh;
      config = λ _. rw (flexible, header) at reader.config ∙ c.new.ensures.config;
      trim = λ _. rw (flexible, header) at reader.trim ∙ c.new.ensures.trim;
      flexible = λ _. reader.flexible ∙ ap builder_is_flexible flexible;
      ready = λ _. inr (inr (rw (flexible, header) at reader.has_headers, reader.headers));
      few = omega (arith, few_rows c.args.bytes.now (unread c.from_reader-reader.result) default_config (reader_state c.from_reader-reader.result) source);
    }
