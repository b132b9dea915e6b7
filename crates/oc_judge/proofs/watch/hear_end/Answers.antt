use Rattle.std.proofs.Common.{refl, sym, subst, ◌∙◌, true, None, Bor, List}
use Rattle.std.specs.Prelude.{option_map, ℤ}
use Rattle.oc_tree.specs.declared.said.Said.TheVariants.{Ended}
use Rattle.oc_judge.specs.Going.{program_of, regions_of}
use Rattle.oc_judge.specs.Stores.{event_view}
use Rattle.oc_judge.specs.Watches.{IsTold, answered, watch_view}
use Rattle.oc_judge.specs.Ways.{Comes, next_view, way_view}
use Rattle.oc_judge.specs.declared.way.Next.TheVariants as nexts
use Rattle.oc_judge.proofs.Hearing.{ended_no, ended_other, ended_yes, halted_no, halted_not, halted_yes}
use Rattle.oc_judge.proofs.watch.hear_end.Goals.{else-says_ended-via-then-says_ended+in_ok-has_words-in-Says+else-branch, else-says_ended-via-else-says_ended}
use Rattle.oc_judge.proofs.watch.hear_end.Goals.{else-halts-via-then-halts+in_ok-has_words-in-Halted+else-branch-2, else-halts-via-else-halts}
use Rattle.oc_judge.proofs.watch.hear_end.Goals as goal

pub returns-then-branch : goal.returns-then-branch
returns-then-branch c =
    let p = program_of c.args.run.now in
    let rs = regions_of c.args.run.now in
    let nv = option_map {T = Bor (List ℤ)} {U = List ℤ} (λ w. w.now) c.args.nv in
    let w = watch_view c.args.watch.now in
    let v = c.go.new.way in
    let comes : Comes p rs w.now (next_view (nexts.Says c.in-Says.event) v) = subst (λ n. Comes p rs w.now (next_view n v)) c.in-Says.is c.in_ok-event.ensures.next in
    ended_yes p rs nv w c.args.how (event_view c.in-Says.event) (way_view v) v.completion v.store refl comes
    (sym c.says_ended.ensures ∙ c.if-says_ended.true) (sym c.if-branch.true ∙ c.in_ok-has_words-in-Says.ensures p nv)

pub returns-else-says_ended : goal.returns-else-says_ended
returns-else-says_ended c =
    let p = program_of c.args.run.now in
    let rs = regions_of c.args.run.now in
    let nv = option_map {T = Bor (List ℤ)} {U = List ℤ} (λ w. w.now) c.args.nv in
    let w = watch_view c.args.watch.now in
    let v = c.go.new.way in
    let e = event_view c.in-Says.event in
    let comes : Comes p rs w.now (next_view (nexts.Says c.in-Says.event) v) = subst (λ n. Comes p rs w.now (next_view n v)) c.in-Says.is c.in_ok-event.ensures.next in
    elim c.else-says_ended.branch [
      | else-says_ended-via-then-says_ended+in_ok-has_words-in-Says+else-branch b ↦
          ended_no p rs nv w c.args.how e (way_view v) v.completion v.store refl comes (sym b.if-branch.false ∙ b.in_ok-has_words-in-Says.ensures p nv)
      | else-says_ended-via-else-says_ended b ↦ ended_other p rs nv w c.args.how e (way_view v) comes (sym c.says_ended.ensures ∙ b.if-says_ended.false)
    ]

pub returns-then-branch-2 : goal.returns-then-branch-2
returns-then-branch-2 c =
    let p = program_of c.args.run.now in
    let rs = regions_of c.args.run.now in
    let nv = option_map {T = Bor (List ℤ)} {U = List ℤ} (λ w. w.now) c.args.nv in
    let w = watch_view c.args.watch.now in
    let v = c.go.new.way in
    let comes : Comes p rs w.now (next_view nexts.Stands v) = subst (λ n. Comes p rs w.now (next_view n v)) c.in-Stands.is c.in_ok-event.ensures.next in
    subst (λ h. IsTold p rs nv w (Ended h) (answered true (record c.args.watch.now { now = record v { over = true } }))) (sym c.in-Halted.is)
    (halted_yes p rs nv w (way_view v) v.completion v.store refl comes (sym c.if-halts.true ∙ c.halts.ensures) (sym c.if-branch-2.true ∙ c.in_ok-has_words-in-Halted.ensures p nv))

pub returns-else-halts : goal.returns-else-halts
returns-else-halts c =
    let p = program_of c.args.run.now in
    let rs = regions_of c.args.run.now in
    let nv = option_map {T = Bor (List ℤ)} {U = List ℤ} (λ w. w.now) c.args.nv in
    let w = watch_view c.args.watch.now in
    let v = c.go.new.way in
    let comes : Comes p rs w.now (next_view nexts.Stands v) = subst (λ n. Comes p rs w.now (next_view n v)) c.in-Stands.is c.in_ok-event.ensures.next in
    subst (λ h. IsTold p rs nv w (Ended h) None) (sym c.in-Halted.is)
    (elim c.else-halts.branch [
      | else-halts-via-then-halts+in_ok-has_words-in-Halted+else-branch-2 b ↦
          halted_no p rs nv w (way_view v) v.completion v.store refl comes (sym b.if-branch-2.false ∙ b.in_ok-has_words-in-Halted.ensures p nv)
      | else-halts-via-else-halts b ↦ halted_not p rs nv w (way_view v) v.completion v.store refl comes (sym b.if-halts.false ∙ c.halts.ensures)
    ])
