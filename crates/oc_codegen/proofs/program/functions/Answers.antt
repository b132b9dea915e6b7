use Rattle.std.proofs.Common.{◌≡◌, ◌+◌, ◌++◌, ◌∷◌, [], List, length, drop, map, ap, sym, ◌∙◌, arith, append-nil, length-append}
use Rattle.std.proofs.lemmas.Grind.{common_steps}
use Rattle.std.proofs.lemmas.List.{drop_all}
use Rattle.oc_tree.specs.Names.{NameLists}
use Rattle.oc_tree.specs.Tree.{TFunction}
use Rattle.oc_tree.specs.Marked.{TRegion}
use Rattle.oc_tree.specs.Regions.{region_view}
use Rattle.oc_tree.specs.View.{block_view, function_view, program_view}
use Rattle.oc_tree.specs.declared.tree.Function.{Function}
use Rattle.oc_tree.specs.Stack.{link_words}
use Rattle.oc_code.specs.Scope.{Named, params_scope}
use Rattle.oc_code.specs.Code.{block_code, close_code, function_code, functions_code, image_function, image_functions}
use Rattle.oc_codegen.proofs.Functions.{functions_step, images_step}
use Rattle.oc_codegen.proofs.program.functions.Goals as goal

pub loop-next-preserved : goal.loop-next-preserved
loop-next-preserved c =
    let d = c.args.program.now in
    let p = program_view d in
    let rs = map region_view c.args.regions.now in
    let i = c.loop-next.next-index in
    let fs = c.deref-next-items.result.now in
    let f = c.next-item.result in
    let inv = c.loop-next.invariant in
    let S = c.loop-next.setting in
    let γ = c.loop-next.scope in
    let code = c.loop-next.code in
    let ps = f.params.items in
    let s = length ps + link_words (function_view f) in
    let body = block_view f.body in
    let last = close_code (function_view f) in
    let item = c.next-item.is in
    let e : drop i fs ≡ f ∷ drop (i + 1) fs = grind (arith, common_steps) in
    let own : c.function.new.code ≡ code ++ function_code p rs (length code) (function_view f) =
    c.in_ok-function.ensures.code
    ∙ ap (λ (n : NameLists). code ++ (block_code n S.functions S.regions (length ps) (params_scope ps 0 γ) s (length code) body ++ last)) inv.names
    ∙ ap (λ (gs : List TFunction). code ++ (block_code p.names gs S.regions (length ps) (params_scope ps 0 γ) s (length code) body ++ last)) inv.callees
    ∙ ap (λ (r : List TRegion). code ++ (block_code p.names p.functions r (length ps) (params_scope ps 0 γ) s (length code) body ++ last)) inv.regions
    ∙ ap (λ (g : List Named). code ++ (block_code p.names p.functions rs (length ps) (params_scope ps 0 g) s (length code) body ++ last)) inv.scope in
    let entry : c.push.new.self.items ≡ c.loop-next.functions.items ++ image_function p rs (length code) (function_view f) ∷ [] =
    c.in_ok-push.ensures.items ∙ ap (λ x. c.loop-next.functions.items ++ x ∷ []) c.in_ok-function.ensures.image in
    record {
      names = c.in_ok-function.ensures.names ∙ inv.names;
      callees = c.in_ok-function.ensures.functions ∙ inv.callees;
      regions = c.in_ok-function.ensures.regions ∙ inv.regions;
      scope = c.in_ok-function.ensures.scope ∙ inv.scope;
      code = functions_step p rs code c.function.new.code (functions_code p rs 0 p.functions) f i fs e inv.code own;
      entries = images_step p rs code c.function.new.code c.loop-next.functions.items c.push.new.self.items (image_functions p rs 0 p.functions) f i fs e inv.entries own entry;
    }

pub function-requires-clause-room : goal.function-requires-clause-room
function-requires-clause-room c =
    let d = c.args.program.now in
    let p = program_view d in
    let rs = map region_view c.args.regions.now in
    let i = c.loop-next.next-index in
    let fs = c.deref-next-items.result.now in
    let f = c.next-item.result in
    let inv = c.loop-next.invariant in
    let S = c.loop-next.setting in
    let γ = c.loop-next.scope in
    let code = c.loop-next.code in
    let ps = f.params.items in
    let s = length ps + link_words (function_view f) in
    let body = block_view f.body in
    let last = close_code (function_view f) in
    let item = c.next-item.is in
    let e : drop i fs ≡ f ∷ drop (i + 1) fs = grind (arith, common_steps) in
    let one = function_code p rs (length code) (function_view f) in
    let own : block_code S.names S.functions S.regions (length ps) (params_scope ps 0 γ) s (length code) body ++ last ≡ one =
    ap (λ (n : NameLists). block_code n S.functions S.regions (length ps) (params_scope ps 0 γ) s (length code) body ++ last) inv.names
    ∙ ap (λ (gs : List TFunction). block_code p.names gs S.regions (length ps) (params_scope ps 0 γ) s (length code) body ++ last) inv.callees
    ∙ ap (λ (r : List TRegion). block_code p.names p.functions r (length ps) (params_scope ps 0 γ) s (length code) body ++ last) inv.regions
    ∙ ap (λ (g : List Named). block_code p.names p.functions rs (length ps) (params_scope ps 0 g) s (length code) body ++ last) inv.scope in
    let left = functions_code p rs (length code + length one) (map function_view (drop (i + 1) fs)) in
    let split : code ++ (one ++ left) ≡ functions_code p rs 0 p.functions =
    ap (λ (gs : List Function). code ++ functions_code p rs (length code) (map function_view gs)) (sym e) ∙ inv.code in
    omega (arith, ap length own, ap length split, length-append code (one ++ left), length-append one left, c.requires.room)

pub returns-clause-code : goal.returns-clause-code
returns-clause-code c =
    let p = program_view c.args.program.now in
    let rs = map region_view c.args.regions.now in
    let code = c.loop-next.code in
    let z = drop_all c.loop-next.next-index c.deref-next-items.result.now (omega arith) in
    sym (append-nil code) ∙ ap (λ (gs : List Function). code ++ functions_code p rs (length code) (map function_view gs)) (sym z) ∙ c.loop-next.invariant.code

pub returns-clause-entries : goal.returns-clause-entries
returns-clause-entries c =
    let p = program_view c.args.program.now in
    let rs = map region_view c.args.regions.now in
    let image = c.loop-next.functions.items in
    let z = drop_all c.loop-next.next-index c.deref-next-items.result.now (omega arith) in
    sym (append-nil image) ∙ ap (λ (gs : List Function). image ++ image_functions p rs (length c.loop-next.code) (map function_view gs)) (sym z) ∙ c.loop-next.invariant.entries
