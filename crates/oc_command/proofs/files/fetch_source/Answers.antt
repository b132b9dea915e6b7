use Rattle.std.proofs.Common.{arith, [], ◌∷◌}
use Rattle.std.proofs.lemmas.Result.{err_from_is_err_and}
use Rattle.oc_lex.specs.Limits.{source_limit}
use Rattle.oc_command.specs.Files.{fetches}
use Rattle.oc_command.proofs.Fetching.{first_refused, one_file}
use Rattle.oc_command.proofs.files.fetch_source.Goals as goal

pub returns-in_err-source-clause-refused : goal.returns-in_err-source-clause-refused
returns-in_err-source-clause-refused g c =
    let p = err_from_is_err_and c.from_residual.result c.from_residual.ensures.1 in
    rw (p.1, p.2) (first_refused (fetches g.F.Shelf.holds g.F.Shelf.asked g.F.Shelf.faults _ _) (c.args.word.now ∷ []) (source_limit ∷ []) _ (omega arith)
    c.fetch_word.ensures.once c.in_err-source.ensures.refused)

pub returns-clause-source : goal.returns-clause-source
returns-clause-source g c = one_file (g.F.Shelf.holds c.args.shelf.now) (c.args.word.now ∷ []) source_limit _ c.in_ok-source.ensures.file
