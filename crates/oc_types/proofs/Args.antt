-- The arguments of a call.
use Rattle.std.proofs.Common.{◌≡◌, ◌-◌, List, [], ◌∷◌, ◌++◌, length, take, map, refl, ap, sym, ◌∙◌, suc, arith, length-append}
use Rattle.std.proofs.lemmas.List.{length-map, take-map}
use Rattle.std.proofs.Math.Seq.{take-append_seam}
use Rattle.oc_tree.specs.Tree.{TArg}
use Rattle.oc_tree.specs.View.{args_of, arg_view, call_view, arg_step, expr_step, call_step}
use Rattle.oc_tree.specs.Tree.{TExpr, TCall}
use Rattle.oc_tree.specs.declared.tree.Arg.{Arg}
use Rattle.oc_tree.specs.declared.tree.Call.{Call, fold_out-Call}
use Rattle.oc_tree.specs.Rules.{args_list, call_args}

listed : (xs : List TArg) → args_list (args_of xs) ≡ xs
listed [] = refl
listed (a ∷ xs) = ap (λ r. a ∷ r) (listed xs)

counted : (xs : List Arg) → length (map arg_view xs) ≡ length xs
counted [] = refl
counted (a ∷ xs) = ap (λ n. suc n) (counted xs)

pub args_counted : (c : Call) → length (call_args (call_view c)) ≡ length c.args.items
args_counted c =
    ap (λ v. length (call_args v)) (fold_out-Call TArg TExpr TCall arg_step expr_step call_step c)
    ∙ ap length (listed (map arg_view c.args.items))
    ∙ counted c.args.items

-- of a list whose view has a last element, all but the last show the front of the view
pub all_but_last : {A B : Type 0} (v : A → B) (xs : List A) (front : List B) (last : B) → map v xs ≡ front ++ last ∷ [] → map v (take (length xs - 1) xs) ≡ front
all_but_last v xs front last e =
    let n : length (map v xs) ≡ length (front ++ last ∷ []) = ap length e in
    let m = length-map xs v in
    let a = length-append front (last ∷ []) in
    let k : length xs - 1 ≡ length front = omega (arith, n, m, a) in
    sym (take-map v (length xs - 1) xs)
    ∙ ap (take (length xs - 1)) e
    ∙ ap (λ j. take j (front ++ last ∷ [])) k
    ∙ take-append_seam front (last ∷ [])
