-- The samples of fresh variables from the last name to the first.
use Rattle.std.proofs.Common.{◌≡◌, ℕ, List, [], ◌∷◌, ◌++◌, Bor, length, arith, refl, ap, ◌∙◌}
use Rattle.std.proofs.lemmas.List.{map-append}
use Rattle.oc_tree.specs.Names.{Text, names_seen}
use Rattle.oc_meaning.specs.Store.{Store, Binding}
use Rattle.oc_meaning.specs.Uses.{samples_of_fresh}
use Rattle.oc_interpreter.specs.Fresh.{with_name, with_names}

pub with_names_last : (env : List Binding) (σ : Store) (xs : List Text) (x : Text) (samples : List ℕ) → with_names env σ (xs ++ x ∷ []) samples ≡ with_names env σ xs (with_name env σ x samples)
with_names_last env σ [] x samples = refl
with_names_last env σ (y ∷ ys) x samples = ap (with_name env σ y) (with_names_last env σ ys x samples)

pub with_names_is : (env : List Binding) (σ : Store) (xs : List Text) → with_names env σ xs [] ≡ samples_of_fresh env σ xs
with_names_is env σ [] = refl
with_names_is env σ (x ∷ xs) = ap (with_name env σ x) (with_names_is env σ xs)

-- one name taken from the end
pub with_names_taken : (env : List Binding) (σ : Store) (old new : List (Bor Text)) (n : Bor Text) (samples : List ℕ) → old ≡ new ++ n ∷ []
    → with_names env σ (names_seen old) samples ≡ with_names env σ (names_seen new) (with_name env σ n.now samples)
with_names_taken env σ old new n samples e =
    ap (λ ns. with_names env σ (names_seen ns) samples) e ∙ ap (λ xs. with_names env σ xs samples) (map-append (λ m. m.now) new (n ∷ [])) ∙ with_names_last env σ (names_seen new) n.now samples

pub with_names_none : (env : List Binding) (σ : Store) (ns : List (Bor Text)) (samples : List ℕ) → length ns ≡ 0 → with_names env σ (names_seen ns) samples ≡ samples
with_names_none env σ [] samples e = refl
with_names_none env σ (n ∷ ns) samples e = absurd (omega (arith, e))
