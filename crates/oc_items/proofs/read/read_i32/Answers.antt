use Rattle.std.proofs.Common.{rules, ◌≡◌, false}
use Rattle.std.specs.Str.{bytes_eq}
use Rattle.std.specs.Fmt.{signed_decimal}
use Rattle.oc_items.proofs.Numerals.{no_signed_text, no_signed_parsed, other_signed_parsed}
use Rattle.oc_items.proofs.read.read_i32.Goals as goal

pub returns-in_default-clause-none : goal.returns-in_default-clause-none
returns-in_default-clause-none c = no_signed_text c.args.field.now c.in_default.ensures.cases.0

pub returns-in_default-parse-clause-none : goal.returns-in_default-parse-clause-none
returns-in_default-parse-clause-none c = no_signed_parsed c.args.field.now c.in-Ok.text.now c.in_default-parse.field-0 c.in_default-parse.ensures.value.0 c.in-Ok.ensures.cases.0

pub returns-else-eq-clause-none : goal.returns-else-eq-clause-none
returns-else-eq-clause-none c =
    let e : bytes_eq c.as_bytes.result.now c.args.field.now ≡ false = search rules in
    let t : c.as_bytes.result.now ≡ signed_decimal c.in-Ok-parse.number = search rules in
    other_signed_parsed c.args.field.now c.in-Ok.text.now c.as_bytes.result.now c.in-Ok-parse.number c.in-Ok-parse.ensures.value.0 c.in-Ok.ensures.cases.0 t e
