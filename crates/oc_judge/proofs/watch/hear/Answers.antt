use Rattle.std.proofs.Common.{◌≡◌, rules, subst, Bor, List, w32, to_z, of_z}
use Rattle.std.specs.Prelude.{option_map, ℤ, IfOk}
use Rattle.oc_tree.specs.declared.said.Said.TheVariants.{Sensed}
use Rattle.oc_judge.specs.Going.{program_of, regions_of}
use Rattle.oc_judge.specs.Watches.{IsTold, answered, watch_view}
use Rattle.oc_judge.proofs.Hearing.{at_words, off_so, other_so, told_so}
use Rattle.oc_judge.proofs.watch.hear.Goals as goal

pub returns-in-Sensed : goal.returns-in-Sensed
returns-in-Sensed c =
    let p = program_of c.args.run.now in
    let rs = regions_of c.args.run.now in
    let nv = option_map {T = Bor (List ℤ)} {U = List ℤ} (λ w. w.now) c.args.nv in
    let w = watch_view c.args.watch.now in
    let r = c.hear_input.result in
    let now = c.hear_input.new.watch in
    let same : to_z w32 (of_z w32 c.in-Sensed.value) ≡ c.in-Sensed.value = search rules in
    told_so p rs nv w c.args.said _ r now c.in-Sensed.is tt
    (subst (λ z. IfOk r (λ good. IsTold p rs nv w (Sensed c.in-Sensed.sensor z) (answered good now))) same (at_words p rs nv w _ r now c.hear_input.ensures))

pub returns-in-Showed : goal.returns-in-Showed
returns-in-Showed c =
    let p = program_of c.args.run.now in
    let rs = regions_of c.args.run.now in
    let nv = option_map {T = Bor (List ℤ)} {U = List ℤ} (λ w. w.now) c.args.nv in
    let w = watch_view c.args.watch.now in
    told_so p rs nv w c.args.said _ c.hear_shown.result c.hear_shown.new.watch c.in-Showed.is tt (at_words p rs nv w _ c.hear_shown.result c.hear_shown.new.watch c.hear_shown.ensures)

pub returns-in-Entered : goal.returns-in-Entered
returns-in-Entered c =
    let p = program_of c.args.run.now in
    let rs = regions_of c.args.run.now in
    let nv = option_map {T = Bor (List ℤ)} {U = List ℤ} (λ w. w.now) c.args.nv in
    let w = watch_view c.args.watch.now in
    told_so p rs nv w c.args.said _ c.hear_enter.result c.hear_enter.new.watch c.in-Entered.is tt (at_words p rs nv w _ c.hear_enter.result c.hear_enter.new.watch c.hear_enter.ensures)

pub returns-in-Committed : goal.returns-in-Committed
returns-in-Committed c =
    let p = program_of c.args.run.now in
    let rs = regions_of c.args.run.now in
    let nv = option_map {T = Bor (List ℤ)} {U = List ℤ} (λ w. w.now) c.args.nv in
    let w = watch_view c.args.watch.now in
    told_so p rs nv w c.args.said _ c.hear_commit.result c.hear_commit.new.watch c.in-Committed.is tt (at_words p rs nv w _ c.hear_commit.result c.hear_commit.new.watch c.hear_commit.ensures)

pub returns-in-Ended : goal.returns-in-Ended
returns-in-Ended c =
    let p = program_of c.args.run.now in
    let rs = regions_of c.args.run.now in
    let nv = option_map {T = Bor (List ℤ)} {U = List ℤ} (λ w. w.now) c.args.nv in
    let w = watch_view c.args.watch.now in
    told_so p rs nv w c.args.said _ c.hear_end.result c.hear_end.new.watch c.in-Ended.is tt c.hear_end.ensures

pub returns-in-Off : goal.returns-in-Off
returns-in-Off c =
    let p = program_of c.args.run.now in
    let rs = regions_of c.args.run.now in
    let nv = option_map {T = Bor (List ℤ)} {U = List ℤ} (λ w. w.now) c.args.nv in
    let w = watch_view c.args.watch.now in
    off_so p rs nv w c.args.said _ c.hear_off.result c.hear_off.new.watch c.in-Off.is c.hear_off.ensures

pub returns-in-Aborted : goal.returns-in-Aborted
returns-in-Aborted c =
    let p = program_of c.args.run.now in
    let rs = regions_of c.args.run.now in
    let nv = option_map {T = Bor (List ℤ)} {U = List ℤ} (λ w. w.now) c.args.nv in
    let w = watch_view c.args.watch.now in
    other_so p rs nv w c.args.said _ _ c.in-Aborted.is (c.hear_abort.ensures p nv)
