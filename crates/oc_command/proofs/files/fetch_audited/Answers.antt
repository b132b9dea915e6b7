use Rattle.std.proofs.Common.{arith, [], ◌∷◌}
use Rattle.std.proofs.lemmas.Result.{err_from_is_err_and}
use Rattle.oc_command.specs.Commands.{audit_limits}
use Rattle.oc_command.specs.Files.{fetches}
use Rattle.oc_command.proofs.Fetching.{two_asked, two_files, first_refused, second_refused}
use Rattle.oc_command.proofs.files.fetch_audited.Goals as goal

pub returns-in_err-source-clause-refused : goal.returns-in_err-source-clause-refused
returns-in_err-source-clause-refused g c =
    let p = err_from_is_err_and c.from_residual.result c.from_residual.ensures.1 in
    rw (p.1, p.2) (first_refused (fetches g.F.Shelf.holds g.F.Shelf.asked g.F.Shelf.faults _ _) (c.args.source.now ∷ c.args.report.now ∷ []) audit_limits _ (omega arith)
    c.fetch_word.ensures.once c.in_err-source.ensures.refused)

pub returns-in_err-report-clause-refused : goal.returns-in_err-report-clause-refused
returns-in_err-report-clause-refused g c =
    let p = err_from_is_err_and c.from_residual-in_err-report.result c.from_residual-in_err-report.ensures.1 in
    let refused = rw (c.fetch_word.ensures.stays.held _) at c.in_err-report.ensures.refused in
    let asked = two_asked g.F.Shelf.asked g.met.F.Shelf.asked_both (c.args.source.now ∷ c.args.report.now ∷ []) audit_limits _ _ _ c.fetch_word.ensures.once c.fetch_word-2.ensures.once in
    let count = c.fetch_word.ensures.stays.count in
    rw (p.1, p.2) (second_refused (fetches g.F.Shelf.holds g.F.Shelf.asked g.F.Shelf.faults _ _) (c.args.source.now ∷ c.args.report.now ∷ []) audit_limits _ _ _ (omega arith)
    (λ f. omega (arith, f, count)) c.in_ok-source.ensures.file asked refused)

pub returns-clause-asked : goal.returns-clause-asked
returns-clause-asked g c = two_asked g.F.Shelf.asked g.met.F.Shelf.asked_both (c.args.source.now ∷ c.args.report.now ∷ []) audit_limits _ _ _ c.fetch_word.ensures.once c.fetch_word-2.ensures.once

pub returns-clause-files : goal.returns-clause-files
returns-clause-files g c =
    let report = rw (c.fetch_word.ensures.stays.held _) at c.in_ok-report.ensures.file in
    two_files (g.F.Shelf.holds c.args.shelf.now) (c.args.source.now ∷ c.args.report.now ∷ []) _ _ c.in_ok-source.ensures.file report
