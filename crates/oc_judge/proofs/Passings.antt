-- An argument before those behind it.
use Rattle.std.proofs.Common.{◌≡◌, sym, ap, ◌∙◌, ℕ, ◌+◌, ◌<◌, List, ◌∷◌, length, drop, get_or}
use Rattle.std.proofs.lemmas.List.{drop_more}
use Rattle.oc_tree.specs.View.{arg_view, args_view}
use Rattle.oc_tree.specs.declared.tree.Arg.{Arg}
use Rattle.oc_meaning.specs.Store.{Binding, Store}
use Rattle.oc_steps.specs.Ages.{join_ages}
use Rattle.oc_steps.specs.Sets.{arg_by, args_by}

pub arg_more : (env : List Binding) (σ : Store) (args : List Arg) (i : ℕ) (x : Arg) → i < length args → x ≡ get_or args i x
    → args_by join_ages env σ (args_view (drop i args)) ≡ arg_by join_ages env σ (arg_view x) (args_by join_ages env σ (args_view (drop (i + 1) args)))
arg_more env σ args i x h e =
    ap (λ l. args_by join_ages env σ (args_view l)) (drop_more args i x h ∙ ap (λ y. y ∷ drop (i + 1) args) (sym e))
