-- The age of fresh variables from the last name to the first.
use Rattle.std.proofs.Common.{◌≡◌, ℕ, Bool, true, false, ◌||◌, List, [], ◌∷◌, ◌++◌, Bor, length, arith, refl, sym, ap, ◌∙◌, if◌then◌else◌}
use Rattle.std.proofs.lemmas.List.{map-append}
use Rattle.oc_tree.specs.Names.{Text, names_seen}
use Rattle.std.specs.List.{list_any}
use Rattle.oc_tree.specs.Tree.{TKind, while_do, return}
use Rattle.oc_meaning.specs.Store.{Store, Binding, held_at, place_of}
use Rattle.oc_meaning.specs.Uses.{begins_use, ends_use, is_fresh, is_use}
use Rattle.oc_steps.specs.Ages.{join_ages}
use Rattle.oc_steps.specs.Sets.{fresh_by}
use Rattle.oc_tree.specs.Named.{own_names}
use Rattle.oc_judge.specs.Fresh.{with_name, with_names}
use Rattle.oc_judge.specs.Statements.{IsUse}
use Rattle.oc_judge.specs.declared.age.Age.TheVariants as ages

with_names_last : (env : List Binding) (σ : Store) (xs : List Text) (x : Text) (age : List ℕ) → with_names env σ (xs ++ x ∷ []) age ≡ with_names env σ xs (with_name env σ x age)
with_names_last env σ [] x age = refl
with_names_last env σ (y ∷ ys) x age = ap (with_name env σ y) (with_names_last env σ ys x age)

pub with_names_is : (env : List Binding) (σ : Store) (xs : List Text) → with_names env σ xs [] ≡ fresh_by join_ages env σ xs
with_names_is env σ [] = refl
with_names_is env σ (x ∷ xs) = ap (with_name env σ x) (with_names_is env σ xs)

-- one name taken from the end
pub with_names_taken : (env : List Binding) (σ : Store) (old new : List (Bor Text)) (n : Bor Text) (age : List ℕ) → old ≡ new ++ n ∷ []
    → with_names env σ (names_seen old) age ≡ with_names env σ (names_seen new) (with_name env σ n.now age)
with_names_taken env σ old new n age e =
    ap (λ ns. with_names env σ (names_seen ns) age) e ∙ ap (λ xs. with_names env σ xs age) (map-append (λ m. m.now) new (n ∷ [])) ∙ with_names_last env σ (names_seen new) n.now age

pub with_names_none : (env : List Binding) (σ : Store) (ns : List (Bor Text)) (age : List ℕ) → length ns ≡ 0 → with_names env σ (names_seen ns) age ≡ age
with_names_none env σ [] age e = refl
with_names_none env σ (n ∷ ns) age e = absurd (omega (arith, e))

-- ---- statements that name no fresh variable

none_fresh : (env : List Binding) (σ : Store) (xs : List Text) → list_any (is_fresh env) xs ≡ false → fresh_by join_ages env σ xs ≡ []
none_fresh env σ [] h = refl
none_fresh env σ (x ∷ xs) h = by (is_fresh env x) h (none_fresh env σ xs)
  where
    by : (b : Bool) → b || list_any (is_fresh env) xs ≡ false → (list_any (is_fresh env) xs ≡ false → fresh_by join_ages env σ xs ≡ [])
        → (if b then join_ages (held_at σ (place_of env x)).samples (fresh_by join_ages env σ xs) else fresh_by join_ages env σ xs) ≡ []
    by true e g = absurd (cc (e))
    by false e g = g e

begins_none : (is : Text → Bool) (k : TKind) → is_use is k ≡ false → begins_use is k ≡ false
begins_none is (while_do c n b) h = refl
begins_none is k h = h

ends_none : (is : Text → Bool) (k : TKind) → is_use is k ≡ false → ends_use is k ≡ false
ends_none is (while_do c n b) h = refl
ends_none is (return e) h = refl
ends_none is k h = h

pub is_none : (env : List Binding) (k : TKind) (σ : Store) → list_any (is_fresh env) (own_names k) ≡ false → IsUse env k σ (record { begins = false; ends = false; age = ages.Never })
is_none env k σ h = record {
  begun = sym (begins_none (is_fresh env) k h);
  ended = sym (ends_none (is_fresh env) k h);
  samples = sym (none_fresh env σ (own_names k) h);
}
