use Rattle.std.proofs.Common.{◌≡◌, List, length, map, ap, sym, ◌∙◌}
use Rattle.std.specs.Prelude.{codes}
use Rattle.std.proofs.lemmas.List.{length-map}
use Rattle.oc_tree.specs.Names.{names_view}
use Rattle.oc_tree.specs.Tree.{TProgram}
use Rattle.oc_tree.specs.View.{function_view, program_view}
use Rattle.oc_tree.specs.declared.tree.Function.{Function}
use Rattle.oc_tree.specs.declared.tree.NvDecl.{NvDecl}
use Rattle.oc_tree.specs.Calls.{function_place}
use Rattle.oc_tree.specs.Stack.{stacks_to, stack_words}
use Rattle.oc_tree.specs.Weight.{known_of}
use Rattle.oc_code.specs.Code.{image_nv}
use Rattle.oc_codegen.proofs.program.raw_image.Goals as goal

pub returns : goal.returns
returns c =
    let d = c.args.program.now in
    let p = program_view d in
    let xs = c.as_slice.result.now in
    let names : names_view c.in_ok-names.names ≡ p.names = c.in_ok-names.ensures in
    let words : c.in_ok-nv.nv.items ≡ map image_nv p.nv = c.in_ok-nv.ensures ∙ ap (λ (ds : List NvDecl). map image_nv ds) c.as_slice-2.ensures.value in
    let main = function_place p.functions (codes "main") in
    let stack : c.in_ok-stack.stack ≡ stack_words p =
    c.in_ok-stack.ensures
    ∙ ap (λ (ys : List Function). known_of (stacks_to (map function_view ys) (length ys)) (function_place (map function_view ys) (codes "main"))) c.as_slice.ensures.value
    ∙ ap (λ n. known_of (stacks_to p.functions n) main) (sym (length-map d.functions.items function_view))
    ∙ ap (λ (q : TProgram). known_of (stacks_to q.functions (length p.functions)) main) (sym c.requires.formed.expanded) in
    λ j. record {
      names = names j;
      functions = c.in_ok-functions.ensures.entries j;
      targets = map (λ v. v.items) c.args.targets.items;
      nv = words j;
      code = (c.into_code.ensures ∙ c.in_ok-functions.ensures.code) j;
      stack = stack j;
    }
