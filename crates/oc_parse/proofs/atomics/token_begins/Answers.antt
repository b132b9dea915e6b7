use Rattle.std.proofs.Common.{◌++◌, append-nil, ap, sym, ◌∙◌, flat_map}
use Rattle.std.proofs.lemmas.List.{drop_all}
use Rattle.oc_parse.specs.Collected.{token_begins}
use Rattle.oc_parse.proofs.atomics.token_begins.Goals as goal

pub returns : goal.returns
returns c =
    let begins = c.loop-token.begins.items in
    sym (append-nil begins)
    ∙ ap (λ ts. begins ++ flat_map token_begins ts) (sym (drop_all c.loop-token.token-index c.args.tokens.now c.loop-token-test.false))
    ∙ c.loop-token.invariant
