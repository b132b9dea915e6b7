use Rattle.std.proofs.Common.{◌≡◌, ◌<◌, ◌≤◌, ◌||◌, ℕ, length, ap, sym, subst, ◌∙◌, arith}
use Rattle.std.proofs.Math.ListN.{get_or}
use Rattle.std.proofs.lemmas.Bool.{or_left}
use Rattle.oc_tree.specs.Reach.{linked}
use Rattle.oc_reach.specs.Marked.{is_in}
use Rattle.oc_reach.proofs.Lists.{in_at}
use Rattle.oc_reach.proofs.Walk.{complete, done_all, done_more, sound_more, from_below}
use Rattle.oc_reach.proofs.reach.Reach.mark_back.Goals as goal

pub returns-then-i-len-clause-marked : goal.returns-then-i-len-clause-marked
returns-then-i-len-clause-marked c =
    let links = c.args.self.now.0 in
    let xs = c.loop-i.marks.0 in
    let h : length xs ≤ c.loop-i.i = omega arith in
    complete links c.args.self.now.1 c.args.marks.0 xs c.requires.inside c.loop-i.invariant.started c.loop-i.invariant.sound (done_all links xs c.loop-i.i h c.loop-i.invariant.done)

pub returns-clause-marked : goal.returns-clause-marked
returns-clause-marked c =
    let links = c.args.self.now.0 in
    let xs = c.loop-i.marks.0 in
    let h : length xs ≤ c.loop-i.i = omega arith in
    complete links c.args.self.now.1 c.args.marks.0 xs c.requires.inside c.loop-i.invariant.started c.loop-i.invariant.sound (done_all links xs c.loop-i.i h c.loop-i.invariant.done)

pub mark_leaders-requires-clause-number : goal.mark_leaders-requires-clause-number
mark_leaders-requires-clause-number c =
    let xs = c.loop-i.marks.0 in
    let h : c.loop-i.i < length xs = omega arith in
    let f = c.loop-i.invariant.sound _ (in_at xs c.loop-i.i h) in
    let b = from_below c.args.self.now.0 c.args.self.now.1 c.args.marks.0 (get_or xs c.loop-i.i 0) c.bound-bound.ensures.within c.requires.inside f in
    subst (λ x. x < c.args.self.now.1) (sym c.at-number.ensures) b

pub loop-i-preserved : goal.loop-i-preserved
loop-i-preserved c =
    let links = c.args.self.now.0 in
    let n = c.args.self.now.1 in
    let start = c.args.marks.0 in
    let xs = c.loop-i.marks.0 in
    let new = c.mark_leaders.new.marks.0 in
    let i = c.loop-i.i in
    let h : i < length xs = omega arith in
    let number : c.at-number.result ≡ get_or xs i 0 = c.at-number.ensures in
    let marked : (u : ℕ) → is_in new u ≡ is_in xs u || linked links u (get_or xs i 0) = λ u. c.in_ok-mark_leaders.ensures.marked u ∙ ap (λ x. is_in xs u || linked links u x) number in
    record {
      bound = c.in_ok-mark_leaders.ensures.bound ∙ c.loop-i.invariant.bound;
      started = λ u k. marked u ∙ or_left (is_in xs u) (linked links u (get_or xs i 0)) (c.loop-i.invariant.started u k);
      sound = sound_more links n start xs new i c.bound-bound.ensures.within h marked c.loop-i.invariant.sound;
      done = done_more links xs new i h c.in_ok-mark_leaders.ensures.old marked c.loop-i.invariant.done;
    }
