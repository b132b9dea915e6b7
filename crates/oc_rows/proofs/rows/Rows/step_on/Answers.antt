use Rattle.std.proofs.Common.{◌+◌, ◌∙◌, arith, ap, refl, sym}
use Rattle.csv.specs.Records.{fields_of}
use Rattle.oc_rows.specs.Place.{Cursor}
use Rattle.oc_rows.proofs.Steps.{no_row, row_taken, stopped}
use Rattle.oc_rows.proofs.rows.Rows.step_on.Goals as goal

pub overflow_add-self : goal.overflow_add-self
overflow_add-self c =
    let taken = row_taken c.self.inside.reader c.read_byte_record.new.self (fields_of c.read_byte_record.new.row) c.self.inside.number _ _ c.if-self.false c.if-not-found.false
    c.self.invariant c.in-Ok.ensures.goes c.in-Ok.ensures.flexible (c.in-Ok.ensures.ready (c.self.invariant.trim c.if-self.false)) c.in-Ok.ensures.reads in
    omega (arith, taken.1.few)

pub invariant_of-self-2 : goal.invariant_of-self-2
invariant_of-self-2 c =
    let taken = row_taken c.self.inside.reader c.read_byte_record.new.self (fields_of c.read_byte_record.new.row) c.self.inside.number _ _ c.if-self.false c.if-not-found.false
    c.self.invariant c.in-Ok.ensures.goes c.in-Ok.ensures.flexible (c.in-Ok.ensures.ready (c.self.invariant.trim c.if-self.false)) c.in-Ok.ensures.reads in
    taken.1

pub returns-clause-ok : goal.returns-clause-ok
returns-clause-ok c =
    let taken = row_taken c.self.inside.reader c.read_byte_record.new.self (fields_of c.read_byte_record.new.row) c.self.inside.number _ _ c.if-self.false c.if-not-found.false
    c.self.invariant c.in-Ok.ensures.goes c.in-Ok.ensures.flexible (c.in-Ok.ensures.ready (c.self.invariant.trim c.if-self.false)) c.in-Ok.ensures.reads in
    (ap (λ (p : Cursor). p.left) (sym c.self.view_is) ∙ taken.0, ap (λ (p : Cursor). p.number + 1) c.self.view_is)

pub returns-then-not-found-clause-ok : goal.returns-then-not-found-clause-ok
returns-then-not-found-clause-ok c =
    let gone = no_row c.self.inside.reader c.read_byte_record.new.self (fields_of c.read_byte_record.new.row) c.self.inside.number _ _ c.if-self.false c.if-not-found.true
    c.self.invariant c.in-Ok.ensures.goes c.in-Ok.ensures.reads in
    (ap (λ (p : Cursor). p.left) (sym c.self.view_is) ∙ gone, refl, ap (λ (p : Cursor). p.number) c.self.view_is)

pub want_of_memory-requires : goal.want_of_memory-requires
want_of_memory-requires c = stopped c.self.inside.reader c.read_byte_record.new.self _ (c.self.invariant.flexible c.if-self.false) (c.in-Err.ensures.why (c.self.invariant.ready c.if-self.false))
