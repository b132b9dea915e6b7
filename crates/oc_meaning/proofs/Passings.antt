-- What arguments pass behind others.
use Rattle.std.proofs.Common.{◌≡◌, refl, sym, ap, ◌∙◌, ℕ, ◌+◌, ◌<◌, List, [], ◌∷◌, ◌++◌, length, drop, get_or, append_assoc}
use Rattle.std.proofs.lemmas.List.{drop_more}
use Rattle.oc_tree.specs.View.{arg_view, args_view}
use Rattle.oc_tree.specs.declared.tree.Arg.{Arg}
use Rattle.oc_meaning.specs.Store.{Binding, Store}
use Rattle.oc_meaning.specs.Exec.{Passed, Passing, Passes, Breaks, arg_first, args_of, passed_first}

abbrev pub behind : List Passed → Passing → Passing
behind ps (Passes qs) = Passes (ps ++ qs)
behind ps (Breaks k) = Breaks k

pub behind_first : (ps : List Passed) (p : Passed) (rest : Passing) → behind (ps ++ p ∷ []) rest ≡ behind ps (passed_first p rest)
behind_first ps p (Passes qs) = ap Passes (append_assoc ps (p ∷ []) qs)
behind_first ps p (Breaks k) = refl

pub behind_none : (rest : Passing) → behind [] rest ≡ rest
behind_none (Passes qs) = refl
behind_none (Breaks k) = refl

-- An argument before those behind it.
pub arg_more : (env : List Binding) (σ : Store) (args : List Arg) (i : ℕ) (x : Arg) → i < length args → x ≡ get_or args i x
    → args_of env σ (args_view (drop i args)) ≡ arg_first env σ (arg_view x) (args_of env σ (args_view (drop (i + 1) args)))
arg_more env σ args i x h e =
    ap (λ l. args_of env σ (args_view l)) (drop_more args i x h ∙ ap (λ y. y ∷ drop (i + 1) args) (sym e))
