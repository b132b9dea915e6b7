use Rattle.std.proofs.Common.{rules, ◌≡◌, sym, subst, true}
use Rattle.oc_judge.specs.Going.{program_of, regions_of}
use Rattle.oc_judge.specs.Ways.{Comes, ahead_view, way_view}
use Rattle.oc_judge.proofs.Skips.{comes_then, goes_then, keeps_then, reaches_then}
use Rattle.oc_judge.proofs.way.go.Goals as goal

pub returns-then-not-is_on-clause-next : goal.returns-then-not-is_on-clause-next
returns-then-not-is_on-clause-next c =
    let p = program_of c.args.run.now in
    let rs = regions_of c.args.run.now in
    let before = way_view c.args.way.now in
    let passed = way_view c.pass_turns.new.way in
    let reached =
    reaches_then p rs before (way_view c.loop-step.way) passed c.loop-step.invariant.reached c.in_ok-pass_turns.ensures.reached in
    subst (Comes p rs before) (sym c.in_ok-next.ensures.next) (comes_then p rs before passed (ahead_view c.in_ok-ahead.ahead c.advance.new.way) reached c.in_ok-ahead.ensures.next)

pub returns-then-not-is_on-clause-kept : goal.returns-then-not-is_on-clause-kept
returns-then-not-is_on-clause-kept c =
    let before = way_view c.args.way.now in
    let passed = way_view c.pass_turns.new.way in
    let came = way_view c.advance.new.way in
    keeps_then before came (way_view c.take_next.new.way)
    (keeps_then before passed came
    (keeps_then before (way_view c.loop-step.way) passed c.loop-step.invariant.kept c.in_ok-pass_turns.ensures.kept)
    c.in_ok-ahead.ensures.kept)
    c.in_ok-next.ensures.kept

pub loop-step-preserved : goal.loop-step-preserved
loop-step-preserved c =
    let p = program_of c.args.run.now in
    let rs = regions_of c.args.run.now in
    let before = way_view c.args.way.now in
    let begun = way_view c.loop-step.way in
    let passed = way_view c.pass_turns.new.way in
    let v = c.advance.new.way in
    let on : c.is_on.result ≡ true = search rules in
    record {
      reached = goes_then p rs before passed (way_view v)
          (reaches_then p rs before begun passed c.loop-step.invariant.reached c.in_ok-pass_turns.ensures.reached)
          (subst (λ a. Comes p rs passed (ahead_view a v)) (c.is_on.ensures on) c.in_ok-ahead.ensures.next);
      kept = keeps_then before passed (way_view v)
          (keeps_then before begun passed c.loop-step.invariant.kept c.in_ok-pass_turns.ensures.kept)
          c.in_ok-ahead.ensures.kept;
    }
