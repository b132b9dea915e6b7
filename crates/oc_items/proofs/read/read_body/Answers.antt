use Rattle.oc_tree.specs.Names.{names_view}
use Rattle.oc_items.proofs.Bodies.{no_body}
use Rattle.oc_items.proofs.Numerals.{if_none_too}
use Rattle.oc_items.proofs.read.read_body.Goals as goal

pub returns-in-Some-read_statement-clause-some : goal.returns-in-Some-read_statement-clause-some
returns-in-Some-read_statement-clause-some c = c.in-Some-read_statement.ensures.some (names_view c.args.names.now)

pub returns-in-Some-read_mark-clause-some : goal.returns-in-Some-read_mark-clause-some
returns-in-Some-read_mark-clause-some c = c.in-Some-read_mark.ensures.some (names_view c.args.names.now)

pub returns-clause-none : goal.returns-clause-none
returns-clause-none c =
    if_none_too c.read_stop.result _ _ (no_body (names_view c.args.names.now) c.args.tick c.args.body.now c.in_default.ensures.none c.in_default-read_emit.ensures.none
    c.in_default-read_statement.ensures.none c.in_default-read_mark.ensures.none) c.read_stop.ensures.none
