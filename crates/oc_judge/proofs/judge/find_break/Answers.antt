use Rattle.std.proofs.Common.{rules, ◌≡◌, ◌+◌, ◌≤◌, ap, map, true, false, Bor, List, length, arith}
use Rattle.std.specs.Prelude.{option_map, ℤ}
use Rattle.oc_items.specs.Told.{told_of}
use Rattle.oc_steps.specs.Auditing.{Finds}
use Rattle.oc_judge.specs.Going.{program_of, regions_of}
use Rattle.oc_judge.specs.Watches.{watch_view}
use Rattle.oc_judge.proofs.Hearing.{ends, passes, stops}
use Rattle.oc_judge.proofs.judge.find_break.Goals as goal

pub returns-then-not-branch : goal.returns-then-not-branch
returns-then-not-branch c =
    let p = program_of c.args.run.now in
    let rs = regions_of c.args.run.now in
    let nv = option_map {T = Bor (List ℤ)} {U = List ℤ} (λ w. w.now) c.args.nv in
    let items = c.args.items.now in
    let breaks : c.in_ok-hear_next.field-0 ≡ false = search rules in
    stops p rs nv items (λ v. Finds p rs nv (watch_view c.args.watch.now) (map told_of items) 1 v) (watch_view c.loop-item.watch) c.loop-item.item-index _ c.loop-item-test.true
    c.loop-item.invariant.finds c.loop-item.number c.loop-item.invariant.number c.in_ok-hear_next.field-0 c.hear_next.new.watch breaks c.in_ok-hear_next.ensures.heard

pub loop-item-preserved : goal.loop-item-preserved
loop-item-preserved c =
    let p = program_of c.args.run.now in
    let rs = regions_of c.args.run.now in
    let nv = option_map {T = Bor (List ℤ)} {U = List ℤ} (λ w. w.now) c.args.nv in
    let items = c.args.items.now in
    let goes : c.in_ok-hear_next.field-0 ≡ true = search rules in
    record {
      sought = c.in_ok-hear_next.ensures.sought;
      number = ap (λ m. m + 1) c.loop-item.invariant.number;
      finds = passes p rs nv items (λ v. Finds p rs nv (watch_view c.args.watch.now) (map told_of items) 1 v) (watch_view c.loop-item.watch) c.loop-item.item-index _ c.loop-item-test.true
          c.loop-item.invariant.finds c.in_ok-hear_next.field-0 c.hear_next.new.watch goes c.in_ok-hear_next.ensures.heard;
    }

pub returns : goal.returns
returns c =
    let p = program_of c.args.run.now in
    let rs = regions_of c.args.run.now in
    let nv = option_map {T = Bor (List ℤ)} {U = List ℤ} (λ w. w.now) c.args.nv in
    let items = c.args.items.now in
    let over : length items ≤ c.loop-item.item-index = omega arith in
    ends p rs nv items (λ v. Finds p rs nv (watch_view c.args.watch.now) (map told_of items) 1 v) (watch_view c.loop-item.watch) c.loop-item.item-index over c.loop-item.invariant.finds
