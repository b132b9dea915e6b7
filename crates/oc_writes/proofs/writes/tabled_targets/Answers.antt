use Rattle.std.proofs.Common.{◌<◌, ℕ, length, ap, sym, subst, ◌∙◌}
use Rattle.std.proofs.Math.ListN.{get_or}
use Rattle.std.proofs.lemmas.List.{length-map}
use Rattle.oc_tree.specs.Tree.{TProgram}
use Rattle.oc_tree.specs.View.{function_view}
use Rattle.oc_writes.proofs.writes.tabled_targets.Goals as goal

pub some_region_calls-requires : goal.some_region_calls-requires
some_region_calls-requires c = λ k d h.
    let long = ap (λ (p : TProgram). length p.functions) c.requires.same ∙ length-map c.args.program.now.functions.items function_view in
    subst (λ (n : ℕ). (get_or c.args.regions.now k d).function < n) (sym long) (c.requires.functions k d h)
