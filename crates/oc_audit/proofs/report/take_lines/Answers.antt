use Rattle.std.proofs.Common.{◌≡◌, true, false, map, subst, rules}
use Rattle.oc_tree.specs.Names.{names_view}
use Rattle.oc_audit.specs.Taking.{Takes}
use Rattle.oc_audit.proofs.Standing.{bad_line, stands_more}
use Rattle.oc_audit.proofs.report.take_lines.Goals as goal

pub returns-then-not-branch-clause-line : goal.returns-then-not-branch-clause-line
returns-then-not-branch-clause-line c =
    let names = names_view c.args.names.now in
    let sizes = map (λ d. d.words) c.args.variables.now in
    let front = c.in-Some.front.now in
    let bad : c.in_ok-take_line.field-0 ≡ false = search rules in
    bad_line names sizes c.requires.named c.args.bytes.now c.loop-front.line c.loop-front.rest.now c.loop-front.read front c.in-Some.behind.now c.loop-front.invariant
    c.in-Some.ensures.some.0 c.in-Some.ensures.some.1
    (subst (λ b. Takes names sizes c.loop-front.read front b c.take_line.new.read) bad c.in_ok-take_line.ensures)

pub loop-front-preserved : goal.loop-front-preserved
loop-front-preserved c =
    let names = names_view c.args.names.now in
    let sizes = map (λ d. d.words) c.args.variables.now in
    let front = c.in-Some.front.now in
    let good : c.in_ok-take_line.field-0 ≡ true = search rules in
    stands_more names sizes c.requires.named c.args.bytes.now c.loop-front.line c.loop-front.rest.now c.loop-front.read c.take_line.new.read front c.in-Some.behind.now c.loop-front.invariant
    c.in-Some.ensures.some.0 c.in-Some.ensures.some.1
    (subst (λ b. Takes names sizes c.loop-front.read front b c.take_line.new.read) good c.in_ok-take_line.ensures)
