-- No rule is broken in the expansion of a program that breaks none.
use Rattle.std.proofs.Common.{◌≡◌, ◌≤◌, ◌^◌, ℕ, ◌+◌, false, List, [], ◌∷◌, refl, ap, ◌∙◌, arith, Option, Some, None, cond, All}
use Rattle.std.specs.Prelude.{is_some}
use Rattle.std.proofs.lemmas.Bool.{or_from}
use Rattle.std.proofs.lemmas.List.Elements.{All-tail}
use Rattle.oc_lex.specs.Stands.{IsName}
use Rattle.oc_tree.specs.Names.{Text}
use Rattle.oc_tree.specs.Tree.{TFunction, TProgram, let_to}
use Rattle.oc_tree.specs.Form.{FunctionInForm, InForm}
use Rattle.oc_tree.specs.Pulls.{program_pulls}
use Rattle.oc_tree.specs.Calls.{place_from, function_names, function_place}
use Rattle.oc_tree.specs.Scope.{is_name_of}
use Rattle.oc_tree.specs.Elements.{nothing_before, program_elements}
use Rattle.oc_tree.specs.Limits.{nothing_counted}
use Rattle.oc_tree.specs.Broken.{first_broken}
use Rattle.oc_tree.specs.Expansion.{temporary, expansion}
use Rattle.oc_desugar.proofs.Seen.{NoTemporary}
use Rattle.oc_desugar.proofs.TemporaryNames.{none_is_name}
use Rattle.oc_desugar.proofs.PullsWithin.{pulls_within}
use Rattle.oc_desugar.proofs.KeptNumbers.{new_number, new_apart, placed}
use Rattle.oc_desugar.proofs.HeldParts.{held_kind}
use Rattle.oc_desugar.proofs.KeptExpressions.{same_right_type}
use Rattle.oc_desugar.proofs.KeptStatements.{statement_kept}
use Rattle.oc_desugar.proofs.KeptTemporaries.{temporary_kept, temporary_held}
use Rattle.oc_desugar.proofs.KeptReach.{same_top, same_reach}
use Rattle.oc_desugar.proofs.KeptClean.{Laws}
use Rattle.oc_desugar.proofs.KeptOrder.{order_clean}

-- ---- no temporary has a name of the top level

-- no name of the language in a list is a temporary's
no_place : (xs : List Text) (n k : ℕ) → All IsName xs → place_from n xs (temporary k) ≡ None
no_place [] n k h = refl
no_place (x ∷ xs) n k h = ap (λ b. cond b (Some n) (place_from (n + 1) xs (temporary k))) (none_is_name x (h 0 x (omega arith)) k) ∙ no_place xs (n + 1) k (All-tail IsName x xs h)

-- so it isn't found there
not_among : (xs : List Text) (k : ℕ) → All IsName xs → is_name_of xs (temporary k) ≡ false
not_among xs k h = ap (λ (o : Option ℕ). is_some o) (no_place xs 0 k h)

-- nor is it the name of a function
no_function : (fs : List TFunction) (n k : ℕ) → All (FunctionInForm IsName) fs → place_from n (function_names fs) (temporary k) ≡ None
no_function [] n k h = refl
no_function (f ∷ fs) n k h = ap (λ b. cond b (Some n) (place_from (n + 1) (function_names fs) (temporary k))) (none_is_name f.name (h 0 f (omega arith)).name k)
    ∙ no_function fs (n + 1) k (All-tail (FunctionInForm IsName) f fs h)

-- nor anything that is declared
pub no_temporary : (p : TProgram) → InForm IsName p → NoTemporary p
no_temporary p h k =
    let s = h.spellable in
    let top = is_some (function_place p.functions (temporary k)) in
    or_from (is_name_of p.names.sensors (temporary k)) _ (not_among p.names.sensors k s.sensors)
    (or_from (is_name_of p.names.ports (temporary k)) _ (not_among p.names.ports k s.ports)
    (or_from (is_name_of p.names.nvs (temporary k)) top (not_among p.names.nvs k s.nvs) (ap (λ (o : Option ℕ). is_some o) (no_function p.functions 0 k s.functions))))

-- ---- the law

-- statements and temporaries keep the rules one by one
laws : (p : TProgram) → InForm IsName p → Laws p (expansion p) (new_number p)
laws p form =
    let top = same_top p in
    let reach = same_reach p in
    record {
      statement = λ h g n m k i s here last held o e counts. statement_kept top reach here last n m k i s o held counts e;
      temporary_let = λ h g n m k s front back r here at held new o e counts. temporary_kept top reach here (no_temporary p form) n m k s o front back r at held new counts e;
      held = λ h g n k id s front back r here at held new o e. temporary_held top reach here n k s o front back r at held new e id;
      type_kept = λ h g k m x t r here held o. same_right_type (record { top = top; sees = here.scope }) k r o.2 (held_kind p g.scope k (let_to m x t r) held);
    }

-- no rule is broken in the expansion of a program that breaks none
pub expansion_keeps_rules : (p : TProgram) → InForm IsName p → first_broken p nothing_counted (program_elements p) ≡ None
    → first_broken (expansion p) nothing_counted (program_elements (expansion p)) ≡ None
expansion_keeps_rules p h b =
    let few : 1 + program_pulls p ≤ 2 ^ 64 = omega (arith, h.few_nodes, pulls_within p) in
    (order_clean p (new_number p) (laws p h) (new_apart p) h.spellable.functions few (placed p h.numbered) nothing_counted nothing_before p.order b).clean
