-- Functions one after the other, and the variables of their parameters.
use Rattle.std.proofs.Common.{◌≡◌, ℕ, ◌+◌, ◌-◌, List, [], ◌∷◌, ◌++◌, false, length, drop, map, refl, sym, ap, ◌∙◌, arith, append_assoc, length-append}
use Rattle.oc_tree.specs.Tree.{TProgram}
use Rattle.oc_tree.specs.View.{function_view}
use Rattle.oc_tree.specs.Marked.{TRegion}
use Rattle.oc_tree.specs.declared.tree.Function.{Function}
use Rattle.oc_tree.specs.declared.tree.Param.{Param}
use Rattle.oc_isa.specs.declared.image.ImageFunction.{ImageFunction}
use Rattle.oc_isa.specs.declared.instr.Placed.{Placed}
use Rattle.oc_code.specs.Scope.{Named, params_scope, param_slot, kind_words, may_write}
use Rattle.oc_code.specs.Code.{function_code, functions_code, image_function, image_functions}
use Rattle.oc_codegen.proofs.Bindings.{behind}

abbrev param_named : Param → ℕ → Named
param_named q s = record { name = q.name; slot = param_slot q.passing s; words = kind_words q.kind; writable = may_write q.passing; fresh = false }

params_length : (ps : List Param) (s : ℕ) (γ : List Named) → length (params_scope ps s γ) ≡ length ps + length γ
params_length [] s γ = omega arith
params_length (q ∷ qs) s γ = omega (arith, params_length qs (s + 1) (param_named q s ∷ γ))

params_older : (ps : List Param) (s : ℕ) (γ : List Named) → drop (length ps) (params_scope ps s γ) ≡ γ
params_older [] s γ = refl
params_older (q ∷ qs) s γ = behind (length qs) (params_scope qs (s + 1) (param_named q s ∷ γ)) (param_named q s) γ (params_older qs (s + 1) (param_named q s ∷ γ))

-- without its parameters, a function's scope is what was visible before
pub params_gone : (ps : List Param) (s : ℕ) (γ : List Named) → drop (length (params_scope ps s γ) - length γ) (params_scope ps s γ) ≡ γ
params_gone ps s γ =
    let n : length (params_scope ps s γ) - length γ ≡ length ps = omega (arith, params_length ps s γ) in
    ap (λ m. drop m (params_scope ps s γ)) n ∙ params_older ps s γ

module _ (p : TProgram) (regions : List TRegion) where
  -- the code of one more function
  pub functions_step : (code code2 all : List Placed) (f : Function) (i : ℕ) (fs : List Function)
      → drop i fs ≡ f ∷ drop (i + 1) fs
      → code ++ functions_code p regions (length code) (map function_view (drop i fs)) ≡ all
      → code2 ≡ code ++ function_code p regions (length code) (function_view f)
      → code2 ++ functions_code p regions (length code2) (map function_view (drop (i + 1) fs)) ≡ all
  functions_step code code2 all f i fs e inv ec =
      let rest = map function_view (drop (i + 1) fs) in
      let w = function_code p regions (length code) (function_view f) in
      let l : length code2 ≡ length code + length w = ap length ec ∙ length-append code w in
      ap (λ m. code2 ++ functions_code p regions m rest) l
      ∙ ap (λ c. c ++ functions_code p regions (length code + length w) rest) ec
      ∙ append_assoc code w (functions_code p regions (length code + length w) rest)
      ∙ ap (λ (gs : List Function). code ++ functions_code p regions (length code) (map function_view gs)) (sym e)
      ∙ inv

  -- the entry of one more function
  pub images_step : (code code2 : List Placed) (image image2 all : List ImageFunction) (f : Function) (i : ℕ) (fs : List Function)
      → drop i fs ≡ f ∷ drop (i + 1) fs
      → image ++ image_functions p regions (length code) (map function_view (drop i fs)) ≡ all
      → code2 ≡ code ++ function_code p regions (length code) (function_view f)
      → image2 ≡ image ++ image_function p regions (length code) (function_view f) ∷ []
      → image2 ++ image_functions p regions (length code2) (map function_view (drop (i + 1) fs)) ≡ all
  images_step code code2 image image2 all f i fs e inv ec ei =
      let rest = map function_view (drop (i + 1) fs) in
      let w = function_code p regions (length code) (function_view f) in
      let x = image_function p regions (length code) (function_view f) in
      let l : length code2 ≡ length code + length w = ap length ec ∙ length-append code w in
      ap (λ m. image2 ++ image_functions p regions m rest) l
      ∙ ap (λ c. c ++ image_functions p regions (length code + length w) rest) ei
      ∙ append_assoc image (x ∷ []) (image_functions p regions (length code + length w) rest)
      ∙ ap (λ (gs : List Function). image ++ image_functions p regions (length code) (map function_view gs)) (sym e)
      ∙ inv
