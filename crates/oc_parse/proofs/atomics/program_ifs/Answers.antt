use Rattle.std.proofs.Common.{arith, ◌≡◌, ◌+◌, ◌∷◌, ◌++◌, append-nil, ap, sym, ◌∙◌, drop, map}
use Rattle.std.proofs.lemmas.List.{drop_all}
use Rattle.std.proofs.lemmas.Grind.{common_steps}
use Rattle.oc_tree.specs.View.{function_view}
use Rattle.oc_parse.specs.Collected.{functions_ifs_at}
use Rattle.oc_parse.proofs.Expanded.{functions_more, nodes_behind}
use Rattle.oc_parse.proofs.atomics.program_ifs.Goals as goal

pub block_ifs-requires : goal.block_ifs-requires
block_ifs-requires c =
    let i = c.loop-function.function-index in
    let l = c.args.functions.now in
    let x = c.function-item.result in
    let item = c.function-item.is in
    let e : drop i l ≡ x ∷ drop (i + 1) l = grind (arith, common_steps) in
    omega (arith, nodes_behind i l x e, c.loop-function.invariant.nodes)

pub loop-function-preserved : goal.loop-function-preserved
loop-function-preserved c =
    let i = c.loop-function.function-index in
    let l = c.args.functions.now in
    let x = c.function-item.result in
    let item = c.function-item.is in
    let e : drop i l ≡ x ∷ drop (i + 1) l = grind (arith, common_steps) in
    record {
      ifs = functions_more c.loop-function.ifs.items c.block_ifs.new.ifs.items c.loop-function.next c.in_ok-next.next i l x _ e c.in_ok-next.ensures.ifs c.in_ok-next.ensures.next
          c.loop-function.invariant.ifs;
      nodes = omega (arith, nodes_behind i l x e, c.loop-function.invariant.nodes);
    }

pub returns : goal.returns
returns c =
    let ifs = c.loop-function.ifs.items in
    sym (append-nil ifs)
    ∙ ap (λ fs. ifs ++ functions_ifs_at c.loop-function.next (map function_view fs)) (sym (drop_all c.loop-function.function-index c.args.functions.now c.loop-function-test.false))
    ∙ c.loop-function.invariant.ifs
