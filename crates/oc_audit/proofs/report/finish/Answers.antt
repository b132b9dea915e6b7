use Rattle.std.proofs.Common.{◌≡◌, ◌<◌, ◌∙◌, true, false, length, map, Some, None, sym, subst, rules, arith}
use Rattle.std.specs.Prelude.{if◌then◌else◌}
use Rattle.std.proofs.lemmas.List.{length-map}
use Rattle.oc_tree.specs.Names.{names_view}
use Rattle.oc_items.specs.Text.{is_over}
use Rattle.oc_audit.specs.Files.{IsReportFile}
use Rattle.oc_audit.proofs.Standing.{early_end, whole_report}
use Rattle.oc_audit.proofs.report.finish.Goals as goal

pub returns-then-not-are_over-clause-ok : goal.returns-then-not-are_over-clause-ok
returns-then-not-are_over-clause-ok c =
    let names = names_view c.args.names.now in
    let sizes = map (λ d. d.words) c.args.variables.now in
    let s = c.args.read in
    let off : is_over s.items ≡ false = search rules in
    let same : s.items ≡ c.read.inside.items.items = search rules in
    let whole = whole_report names sizes c.requires.named c.args.bytes.now c.args.line s c.requires.stands (λ o. absurd (let no : true ≡ false = sym o ∙ off in cc (no))) in
    subst (λ l. IsReportFile names sizes c.args.bytes.now l None) same
    (subst (λ b. IsReportFile names sizes c.args.bytes.now s.items (if b then Some s.words else None)) off whole)

pub returns-then-read-variables-clause-line : goal.returns-then-read-variables-clause-line
returns-then-read-variables-clause-line c =
    let names = names_view c.args.names.now in
    let sizes = map (λ d. d.words) c.args.variables.now in
    let s = c.args.read in
    let over : is_over s.items ≡ true = search rules in
    let below : s.next < length c.args.variables.now = search rules in
    let many : length sizes ≡ length c.args.variables.now = length-map c.args.variables.now (λ d. d.words) in
    let each = c.requires.named.each in
    early_end names sizes c.requires.named c.args.bytes.now c.args.line s c.requires.stands over (omega (arith, below, many, each))
