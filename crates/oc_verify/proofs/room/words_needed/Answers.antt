use Rattle.std.proofs.Common.{◌+◌, Some, ap, arith, subst, sym, ◌∙◌}
use Rattle.oc_isa.specs.Image.{Parts, parts_of}
use Rattle.oc_verify.specs.Told.{pair_of}
use Rattle.oc_verify.specs.Walks.{table_marks}
use Rattle.oc_verify.proofs.MostLaws.{IsMostBefore, blank_more, cell_read, looked, looked_call, looked_deep, looked_more, most_all}
use Rattle.oc_verify.proofs.SeenLaws.{cell_blank}
use Rattle.oc_verify.proofs.room.words_needed.Goals as goal
use Rattle.oc_verify.proofs.room.words_needed.Goals.{in-Some+else-here-image, in_default}

pub bounds-heights-ops : goal.bounds-heights-ops
bounds-heights-ops c =
    let e = cell_read (parts_of c.image-image.result.now) c.args.facts.now c.image-image.ensures.image c.args.table.now c.requires.table
    c.args.function c.stretch-entry.result c.stretch-entry.ensures c.loop-at.at c.loop-at.auto.at c.loop-at-test.true c.index.result.now c.index.ensures in
    let low = (c.requires.table.cells c.loop-at.at (c.in-Some.ops, c.in-Some.field-0-1) (e ∙ ap Some c.in-Some.is)).0 in
    let many = c.requires.many in
    omega (arith, low, many)

pub words_needed_at-here-requires-clause-callee : goal.words_needed_at-here-requires-clause-callee
words_needed_at-here-requires-clause-callee c = λ g is.
    let L = looked (parts_of c.image-image.result.now) c.args.facts.now c.image-image.ensures.image c.args.table.now c.requires.table
    c.args.function c.stretch-entry.result c.stretch-entry.ensures c.loop-at.at c.loop-at.auto.at c.loop-at-test.true c.index.result.now c.index.ensures
    c.args.heights.now c.requires.heights (c.in-Some.ops, c.in-Some.field-0-1) c.in-Some.is c.index-in-Some.result.now c.index-in-Some.ensures in
    looked_call c.args.facts.now c.args.table.now c.args.function c.loop-at.at (c.in-Some.ops, c.in-Some.field-0-1) c.index-in-Some.result.now c.args.heights.now L
    c.requires.named g is (c.requires.deep g c.loop-at.at (pair_of c.args.table.now.tops c.args.table.now.regions (c.in-Some.ops, c.in-Some.field-0-1)))

pub returns-then-here-image-clause-fault : goal.returns-then-here-image-clause-fault
returns-then-here-image-clause-fault c =
    let L = looked (parts_of c.image-image.result.now) c.args.facts.now c.image-image.ensures.image c.args.table.now c.requires.table
    c.args.function c.stretch-entry.result c.stretch-entry.ensures c.loop-at.at c.loop-at.auto.at c.loop-at-test.true c.index.result.now c.index.ensures
    c.args.heights.now c.requires.heights (c.in-Some.ops, c.in-Some.field-0-1) c.in-Some.is c.index-in-Some.result.now c.index-in-Some.ensures in
    looked_deep c.args.facts.now c.args.table.now c.args.function c.loop-at.at (c.in-Some.ops, c.in-Some.field-0-1) c.index-in-Some.result.now c.args.heights.now L
    c.args.bounds.now c.words_needed_at-here.result c.words_needed_at-here.ensures (c.image-image.result.now.stack) (ap (λ (k : Parts). k.stack) c.image-image.ensures.image) c.if-here-image.true

pub loop-at-preserved : goal.loop-at-preserved
loop-at-preserved c = elim c.match-index.branch [
  | in-Some+else-here-image w ↦
      let L = looked (parts_of c.image-image.result.now) c.args.facts.now c.image-image.ensures.image c.args.table.now c.requires.table
      c.args.function c.stretch-entry.result c.stretch-entry.ensures c.loop-at.at c.loop-at.auto.at c.loop-at-test.true c.index.result.now c.index.ensures
      c.args.heights.now c.requires.heights (w.in-Some.ops, w.in-Some.field-0-1) w.in-Some.is w.index-in-Some.result.now w.index-in-Some.ensures in
      subst (IsMostBefore c.args.facts.now (table_marks c.args.table.now) c.args.bounds.now c.args.function (c.loop-at.at + 1)) (sym (w.most-is ∙ w.max-most.ensures))
      (looked_more c.args.facts.now c.args.table.now c.args.function c.loop-at.at (w.in-Some.ops, w.in-Some.field-0-1) w.index-in-Some.result.now c.args.heights.now L
      c.args.bounds.now w.words_needed_at-here.result w.words_needed_at-here.ensures (c.image-image.result.now.stack) (ap (λ (k : Parts). k.stack) c.image-image.ensures.image)
      w.if-here-image.false c.loop-at.most c.loop-at.invariant)
  | in_default w ↦
      let e = cell_read (parts_of c.image-image.result.now) c.args.facts.now c.image-image.ensures.image c.args.table.now c.requires.table
      c.args.function c.stretch-entry.result c.stretch-entry.ensures c.loop-at.at c.loop-at.auto.at c.loop-at-test.true c.index.result.now c.index.ensures in
      subst (IsMostBefore c.args.facts.now (table_marks c.args.table.now) c.args.bounds.now c.args.function (c.loop-at.at + 1)) (sym w.most-is)
      (blank_more c.args.facts.now (table_marks c.args.table.now) c.args.bounds.now c.args.function c.loop-at.at c.loop-at.most
      (cell_blank c.args.table.now c.loop-at.at (e ∙ ap Some w.in_default.is)) c.loop-at.invariant)
]

pub returns-clause-most : goal.returns-clause-most
returns-clause-most c = most_all c.args.facts.now (table_marks c.args.table.now) c.args.bounds.now c.args.function c.stretch-entry.result c.loop-at.at c.loop-at.most
    c.stretch-entry.ensures c.loop-at-test.false c.loop-at.invariant
