use Rattle.std.proofs.Common.{rules, ◌≡◌, ◌<◌, ◌^◌, decimal, sym, ◌∙◌}
use Rattle.std.proofs.lemmas.Fmt.{decimal_injective}
use Rattle.oc_tree.specs.Names.{names_view}
use Rattle.oc_items.specs.Text.{tick_of}
use Rattle.oc_items.proofs.Bodies.{no_line_without_space, parts_of_line, tells_line}
use Rattle.oc_items.proofs.Numerals.{if_none, if_none_too, if_some_too}
use Rattle.oc_items.proofs.read.read_item.Goals as goal

pub returns-in_err-parts-clause-none : goal.returns-in_err-parts-clause-none
returns-in_err-parts-clause-none c = if_none c.from_residual.result _ (λ i l h. no_line_without_space (names_view c.args.names.now) c.args.line.now c.in_err-parts.ensures.none i h)

pub returns-in_err-tick-clause-none : goal.returns-in_err-tick-clause-none
returns-in_err-tick-clause-none c =
    if_none c.from_residual-in_err-tick.result _ (λ i l h.
    let p = parts_of_line (names_view c.args.names.now) c.args.line.now c.in_ok-parts.parts.0.now c.in_ok-parts.parts.1.now c.in_ok-parts.ensures.some.0 c.in_ok-parts.ensures.some.1 i h in
    c.in_err-tick.ensures.none (tick_of i) h.is.tick p.0)

pub returns-clause-some : goal.returns-clause-some
returns-clause-some c =
    let l : c.in_ok-tick.tick < 2 ^ 64 = search rules in
    let d : decimal c.in_ok-tick.tick ≡ c.in_ok-parts.parts.0.now = c.in_ok-tick.ensures.some in
    if_some_too c.read_body.result _ _ (λ i t. tells_line (names_view c.args.names.now) c.args.line.now c.in_ok-parts.parts.0.now c.in_ok-parts.parts.1.now c.in_ok-tick.tick i l
    c.in_ok-parts.ensures.some.0 c.in_ok-parts.ensures.some.1 d t (λ n k f. decimal_injective n c.in_ok-tick.tick k l (f ∙ sym d))) c.read_body.ensures.some

pub returns-clause-none : goal.returns-clause-none
returns-clause-none c =
    let l : c.in_ok-tick.tick < 2 ^ 64 = search rules in
    let d : decimal c.in_ok-tick.tick ≡ c.in_ok-parts.parts.0.now = c.in_ok-tick.ensures.some in
    if_none_too c.read_body.result _ _ (λ none i s h.
    let p = parts_of_line (names_view c.args.names.now) c.args.line.now c.in_ok-parts.parts.0.now c.in_ok-parts.parts.1.now c.in_ok-parts.ensures.some.0 c.in_ok-parts.ensures.some.1 i h in
    none i s (record { is = h.is; tick_is = decimal_injective (tick_of i) c.in_ok-tick.tick h.is.tick l (p.0 ∙ sym d); body = p.1 })) c.read_body.ensures.none
