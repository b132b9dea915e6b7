use Rattle.std.proofs.Common.{◌≡◌, ◌∙◌, ◌++◌, ap, length, arith}
use Rattle.std.specs.Prelude.{flat_map}
use Rattle.oc_effects.specs.Effects.{effects_at}
use Rattle.oc_flow.specs.Variables.{from}
use Rattle.oc_tree.specs.Members.{is_number_of}
use Rattle.oc_regcheck.specs.Code.{calls_in}
use Rattle.oc_regcheck.proofs.Open.{caller_more}
use Rattle.oc_regcheck.proofs.guard.open_calls.Goals as goal

pub loop-caller-preserved : goal.loop-caller-preserved
loop-caller-preserved c =
    let p = c.args.effects.now.program in
    let is_block = is_number_of c.args.blocks.now in
    caller_more p is_block c.loop-caller.caller c.loop-caller.links.items _ c.loop-caller.invariant
    (c.in_ok-add_calls.ensures ∙ ap (λ es. c.loop-caller.links.items ++ calls_in p is_block c.loop-caller.caller es) c.of_function-statements.ensures)

pub returns : goal.returns
returns c =
    let p = c.args.effects.now.program in
    let bound = c.functions-caller-end.ensures in
    let all : c.loop-caller.caller ≡ length p.functions = omega (arith, bound) in
    c.loop-caller.invariant ∙ ap (λ n. flat_map (λ f. calls_in p (is_number_of c.args.blocks.now) f (effects_at p f)) (from 0 n)) all
