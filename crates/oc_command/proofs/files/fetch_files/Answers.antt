use Rattle.std.proofs.Common.{arith}
use Rattle.std.proofs.lemmas.Result.{err_from_is_err_and}
use Rattle.oc_command.specs.Commands.{run_limits, run_words}
use Rattle.oc_command.specs.Files.{fetches}
use Rattle.oc_command.proofs.Fetching.{two_asked, three_asked, three_files, first_refused, second_refused, third_refused}
use Rattle.oc_command.proofs.files.fetch_files.Goals as goal

pub returns-in_err-source-clause-refused : goal.returns-in_err-source-clause-refused
returns-in_err-source-clause-refused g c =
    let p = err_from_is_err_and c.from_residual.result c.from_residual.ensures.1 in
    rw (p.1, p.2) (first_refused (fetches g.F.Shelf.holds g.F.Shelf.asked g.F.Shelf.faults _ _) (run_words c.args.words) (run_limits c.args.limit) _ (omega arith)
    c.fetch_word.ensures.once c.in_err-source.ensures.refused)

pub returns-in_err-sensors-clause-refused : goal.returns-in_err-sensors-clause-refused
returns-in_err-sensors-clause-refused g c =
    let p = err_from_is_err_and c.from_residual-in_err-sensors.result c.from_residual-in_err-sensors.ensures.1 in
    let refused = rw (c.fetch_word.ensures.stays.held _) at c.in_err-sensors.ensures.refused in
    let asked = two_asked g.F.Shelf.asked g.met.F.Shelf.asked_both (run_words c.args.words) (run_limits c.args.limit) _ _ _ c.fetch_word.ensures.once
    c.fetch_word-2.ensures.once in
    let count = c.fetch_word.ensures.stays.count in
    rw (p.1, p.2) (second_refused (fetches g.F.Shelf.holds g.F.Shelf.asked g.F.Shelf.faults _ _) (run_words c.args.words) (run_limits c.args.limit) _ _ _ (omega arith)
    (λ f. omega (arith, f, count)) c.in_ok-source.ensures.file asked refused)

pub returns-in_err-power-clause-refused : goal.returns-in_err-power-clause-refused
returns-in_err-power-clause-refused g c =
    let p = err_from_is_err_and c.from_residual-in_err-power.result c.from_residual-in_err-power.ensures.1 in
    let sensors = rw (c.fetch_word.ensures.stays.held _) at c.in_ok-sensors.ensures.file in
    let refused = rw (c.fetch_word-2.ensures.stays.held _, c.fetch_word.ensures.stays.held _) at c.in_err-power.ensures.refused in
    let asked = three_asked g.F.Shelf.asked g.met.F.Shelf.asked_both (run_words c.args.words) (run_limits c.args.limit) _ _ _ _ c.fetch_word.ensures.once
    c.fetch_word-2.ensures.once
    c.fetch_word-3.ensures.once in
    let first_count = c.fetch_word.ensures.stays.count in
    let second_count = c.fetch_word-2.ensures.stays.count in
    rw (p.1, p.2) (third_refused (fetches g.F.Shelf.holds g.F.Shelf.asked g.F.Shelf.faults _ _) (run_words c.args.words) (run_limits c.args.limit) _ _ _ _ (omega arith)
    (λ f. omega (arith, f, first_count, second_count)) c.in_ok-source.ensures.file sensors asked refused)

pub returns-clause-asked : goal.returns-clause-asked
returns-clause-asked g c = three_asked g.F.Shelf.asked g.met.F.Shelf.asked_both (run_words c.args.words) (run_limits c.args.limit) _ _ _ _ c.fetch_word.ensures.once
    c.fetch_word-2.ensures.once c.fetch_word-3.ensures.once

pub returns-clause-files : goal.returns-clause-files
returns-clause-files g c =
    let sensors = rw (c.fetch_word.ensures.stays.held _) at c.in_ok-sensors.ensures.file in
    let power = rw (c.fetch_word-2.ensures.stays.held _, c.fetch_word.ensures.stays.held _) at c.in_ok-power.ensures.file in
    three_files (g.F.Shelf.holds c.args.shelf.now) (run_words c.args.words) c.args.limit _ _ _ c.in_ok-source.ensures.file sensors power
