use Rattle.std.proofs.Common.{rules, refl, sym, ◌≡◌, ◌-◌, length, min}
use Rattle.std.proofs.lemmas.Bool.{ltb-true}
use Rattle.std.proofs.lemmas.Option.{slice_get_read}
use Rattle.oc_top.proofs.Parsing.{token_line_there}
use Rattle.oc_top.proofs.build.token_line.Goals as goal

pub returns-in-Some : goal.returns-in-Some
returns-in-Some c atomic source =
    let i : c.min.result ≡ min c.args.token (length c.args.tokens.now - 1) = search rules in
    let here = ltb-true c.min.result (length c.args.tokens.now) (sym c.in-Some.ensures.lookup.0) in
    let found = slice_get_read c.args.tokens.now (length c.args.tokens.now) c.min.result c.in-Some.token.now refl here c.in-Some.ensures.lookup.1 in
    token_line_there atomic source c.args.tokens.now c.args.token c.in-Some.token.now (rw i at found)
