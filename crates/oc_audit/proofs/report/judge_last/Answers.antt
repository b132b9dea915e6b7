use Rattle.std.proofs.Common.{◌≡◌, length, map, ap, subst, arith}
use Rattle.oc_tree.specs.Names.{names_view}
use Rattle.oc_audit.specs.Taking.{Takes}
use Rattle.oc_audit.proofs.Standing.{bad_last, early_last}
use Rattle.oc_audit.proofs.report.judge_last.Goals as goal

pub returns-then-branch-clause-ok : goal.returns-then-branch-clause-ok
returns-then-branch-clause-ok c =
    let names = names_view c.args.names.now in
    let sizes = map (λ d. d.words) c.args.variables.now in
    let rest = c.args.rest.now in
    early_last names sizes c.requires.named c.args.bytes.now c.args.line rest c.args.read.now c.take_line.new.read c.requires.stands
    (λ e. let none : length rest ≡ 0 = ap length e in let there = c.requires.there in omega (arith, none, there)) c.requires.feed
    (subst (λ b. Takes names sizes c.args.read.now rest b c.take_line.new.read) c.if-branch.true c.in_ok-take_line.ensures)

pub returns-else-branch-clause-ok : goal.returns-else-branch-clause-ok
returns-else-branch-clause-ok c =
    let names = names_view c.args.names.now in
    let sizes = map (λ d. d.words) c.args.variables.now in
    let rest = c.args.rest.now in
    bad_last names sizes c.requires.named c.args.bytes.now c.args.line rest c.args.read.now c.requires.stands
    (λ e. let none : length rest ≡ 0 = ap length e in let there = c.requires.there in omega (arith, none, there)) c.requires.feed
    (subst (λ b. Takes names sizes c.args.read.now rest b c.take_line.new.read) c.if-branch.false c.in_ok-take_line.ensures)
