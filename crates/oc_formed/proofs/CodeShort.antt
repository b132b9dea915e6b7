-- The code of a checked program is short.
use Rattle.std.proofs.Common.{◌≡◌, ◌≤◌, ◌<◌, ◌^◌, ℕ, suc, ◌+◌, ◌*◌, Bool, true, false, List, [], ◌∷◌, length, sum_by, Option, Some, None, refl, arith, length-append}
use Rattle.std.specs.Prelude.{slice_get, is_some, if◌then◌else◌, option_and_then, ◌==◌}
use Rattle.std.proofs.lemmas.Bool.{eqb-true, and_parts}
use Rattle.std.proofs.lemmas.List.Sums.{sum_by-cons}
use Rattle.oc_tree.specs.Tree.{TCall, TFunction, TProgram}
use Rattle.oc_tree.specs.Marked.{TRegion}
use Rattle.oc_tree.specs.Nodes.{block_nodes, program_nodes}
use Rattle.oc_tree.specs.Expansion.{block_size, program_size}
use Rattle.oc_tree.specs.Calls.{function_place, callee, args_of_call, block_kinds}
use Rattle.oc_tree.specs.Elements.{Here}
use Rattle.oc_tree.specs.Form.{DeclaredInOrder}
use Rattle.oc_tree.specs.Broken.{broken}
use Rattle.oc_tree.specs.Rules.{params_of, callee_params, call_args, args_meet}
use Rattle.oc_tree.specs.Stack.{link_words}
use Rattle.oc_isa.specs.declared.instr.Instr.TheVariants.{Ret, Halt}
use Rattle.oc_code.specs.Scope.{function_scope}
use Rattle.oc_code.specs.Forms.{one}
use Rattle.oc_tree.specs.Rules.{is_main}
use Rattle.oc_code.specs.Code.{close_code, body_code, function_code, functions_code}
use Rattle.oc_desugar.proofs.FineCalls.{CallFine}
use Rattle.oc_desugar.proofs.FewStatements.{few_statements}
use Rattle.oc_desugar.proofs.SizesKept.{unbroken_element}
use Rattle.oc_checked.proofs.BodiesPass.{function_fine}
use Rattle.oc_checked.proofs.CallLinks.{KindsCall, body_so}
use Rattle.oc_checked.proofs.Declared.{AllWithin}
use Rattle.oc_checked.proofs.Mains.{head_fine}
use Rattle.oc_checked.proofs.Amounts.{few_functions}
use Rattle.oc_formed.proofs.StmtLengths.{FewArgs, block_short}

module _ (p : TProgram) (within : AllWithin p) where
  -- what was found has at most eight parameters
  few_at : (o : Option TFunction) → ((f : TFunction) → o ≡ Some f → length f.params ≤ 8) → length (params_of o) ≤ 8
  few_at None h = omega arith
  few_at (Some f) h = h f refl

  -- the function at a place has at most eight parameters
  few_params : (o : Option ℕ) → length (params_of (option_and_then (λ i. slice_get p.functions i) o)) ≤ 8
  few_params None = omega arith
  few_params (Some i) = few_at (slice_get p.functions i) (λ f e. (head_fine p within i f e).few_params)

  -- as many arguments as parameters
  few_args : (h : Here) (c : TCall) → CallFine p h c → FewArgs c
  few_args h c fine =
      let same : length (callee_params p c) ≡ length (call_args c) =
      eqb-true (length (callee_params p c)) (length (call_args c))
      (and_parts (length (callee_params p c) == length (call_args c)) (args_meet p h.scope (callee_params p c) (args_of_call c)) fine.meets).0 in
      let few : length (callee_params p c) ≤ 8 = few_params (function_place p.functions (callee c)) in
      omega (arith, same, few)

  module _ (regions : List TRegion) where
    -- what closes a function's code
    close_short : (f : TFunction) → length (close_code f) ≤ 1
    close_short f = go (is_main f.name) (is_some f.result)
      where
        go : (a b : Bool) → length (if a then one 0 Halt else (if b then [] else one 0 (Ret (length f.params)))) ≤ 1
        go true b = omega arith
        go false true = omega arith
        go false false = omega arith

    -- the code of functions
    functions_short : (at : ℕ) (gs : List TFunction) → ((j : ℕ) (f : TFunction) → slice_get gs j ≡ Some f → KindsCall FewArgs (block_kinds None f.body))
        → length (functions_code p regions at gs) ≤ 4 * sum_by (λ f. block_nodes f.body) gs + 20 * sum_by (λ f. block_size f.body) gs + length gs
    functions_short at [] few = omega arith
    functions_short at (f ∷ gs) few =
        let body = body_code p regions at f in
        let fc = function_code p regions at f in
        let own = block_short p.names p.functions regions (length f.params) (function_scope p f) (length f.params + link_words f) at f.body (few 0 f refl) in
        let others = functions_short (at + length fc) gs (λ j g e. few (suc j) g e) in
        omega (
          arith,
          length-append fc (functions_code p regions (at + length fc) gs),
          length-append body (close_code f),
          close_short f,
          own,
          others,
          sum_by-cons
              (λ f. block_nodes f.body) f gs,
          sum_by-cons (λ f. block_size f.body) f gs,
        )

    -- the code of a program
    pub code_short : broken p ≡ None → DeclaredInOrder p → program_nodes p ≤ 2097152 → length (functions_code p regions 0 p.functions) < 2 ^ 31
    code_short unbroken declared nodes =
        let each : (j : ℕ) (f : TFunction) → slice_get p.functions j ≡ Some f → KindsCall FewArgs (block_kinds None f.body) =
        λ j f e. body_so p j FewArgs (λ h number c fine. few_args h c fine) f (function_fine p unbroken declared j f e).body in
        let whole = functions_short 0 p.functions each in
        let statements : program_size p ≤ 8192 = few_statements p declared (unbroken_element p unbroken) in
        let functions = few_functions p within in
        omega (arith, whole, nodes, statements, functions)
