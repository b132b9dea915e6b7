-- What is no use names no fresh variable, and uses that are there or not.
use Rattle.std.proofs.Common.{◌≡◌, refl, sym, ℕ, Bool, true, false, ◌||◌, List, [], ◌∷◌, Some, None, unwrap_or}
use Rattle.std.specs.Prelude.{is_some, if◌then◌else◌}
use Rattle.std.specs.List.{list_any}
use Rattle.oc_tree.specs.Names.{Text}
use Rattle.oc_tree.specs.Tree.{TKind, while_do, return}
use Rattle.oc_tree.specs.Samples.{union}
use Rattle.oc_meaning.specs.Store.{Binding, Store, held_at, place_of}
use Rattle.oc_meaning.specs.Exec.{done, used}
use Rattle.oc_interpreter.specs.Runs.{begun, begun_at, ended, ended_at}
use Rattle.oc_tree.specs.Named.{own_names}
use Rattle.oc_meaning.specs.Uses.{begins_use, ends_use, is_fresh, is_use, samples_of_fresh, use_samples}

step : (is others : Bool) (here rest : List ℕ) → (is || others) ≡ false → (others ≡ false → rest ≡ []) → (if is then here else rest) ≡ []
step true others here rest h g = cc
step false others here rest h g = g h

none_fresh : (env : List Binding) (σ : Store) (xs : List Text) → list_any (is_fresh env) xs ≡ false → samples_of_fresh env σ xs ≡ []
none_fresh env σ [] h = refl
none_fresh env σ (x ∷ xs) h =
    step (is_fresh env x) (list_any (is_fresh env) xs) (union (held_at σ (place_of env x)).samples (samples_of_fresh env σ xs)) (samples_of_fresh env σ xs) h (none_fresh env σ xs)

samples_if : (is : Bool) (samples : List ℕ) → (is ≡ false → samples ≡ []) → unwrap_or (if is then Some samples else None) [] ≡ samples
samples_if true samples h = refl
samples_if false samples h = sym (h refl)

pub taken_samples : (env : List Binding) (σ : Store) (k : TKind) → unwrap_or (if is_use (is_fresh env) k then Some (use_samples env k σ) else None) [] ≡ use_samples env k σ
taken_samples env σ k = samples_if (is_use (is_fresh env) k) (use_samples env k σ) (none_fresh env σ (own_names k))

-- a use has samples
pub has_samples : (b : Bool) (samples : List ℕ) → is_some (if b then Some samples else None) ≡ b
has_samples true samples = refl
has_samples false samples = refl

pub used_if : (b : Bool) (n : ℕ) (samples : List ℕ) (σ : Store) → begun (if b then Some samples else None) n σ ≡ used b n samples σ
used_if true n samples σ = refl
used_if false n samples σ = refl

pub done_if : (b : Bool) (n : ℕ) (samples : List ℕ) (σ : Store) → ended (if b then Some samples else None) n σ ≡ done b n samples σ
done_if true n samples σ = refl
done_if false n samples σ = refl

pub begun_if : (is : Text → Bool) (k : TKind) (n : ℕ) (samples : List ℕ) (σ : Store) → begun_at k (if is_use is k then Some samples else None) n σ ≡ used (begins_use is k) n samples σ
begun_if is (while_do c t b) n samples σ = refl
begun_if is k n samples σ = used_if (is_use is k) n samples σ

pub ended_if : (is : Text → Bool) (k : TKind) (n : ℕ) (samples : List ℕ) (σ : Store) → ended_at k (if is_use is k then Some samples else None) n σ ≡ done (ends_use is k) n samples σ
ended_if is (while_do c t b) n samples σ = refl
ended_if is (return e) n samples σ = refl
ended_if is k n samples σ = done_if (is_use is k) n samples σ
