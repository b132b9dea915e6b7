-- What a function's own variables hold at its start.
use Rattle.std.proofs.Common.{◌≡◌, ◌<◌, ℕ, zero, suc, ◌+◌, true, false, ◌==◌, List, [], ◌∷◌, length, Some, refl, ap, ◌∙◌, arith}
use Rattle.std.specs.Prelude.{slice_get, if◌then◌else◌, unwrap_or}
use Rattle.std.proofs.lemmas.Option.{none-some, same_Some}
use Rattle.oc_tree.specs.declared.tree.Param.{Param}
use Rattle.oc_meaning.specs.Store.{Held, Local, Store, at, nothing, holding, held_at}
use Rattle.oc_meaning.specs.Exec.{Passed, Copied, Lent}
use Rattle.oc_meaning.specs.Run.{Frame, nv_env}
use Rattle.oc_copies.specs.Copies.{own_param, own_params, FramesHold}
use Rattle.oc_copies.proofs.Start.{held_in}

-- what an own variable begins with
abbrev begun : Store → Passed → Held
begun σ (Copied v) = holding v
begun σ (Lent q) = held_at σ q

param_is : (σ : Store) (q : Param) (s : Passed) (fr : Frame) → (own_param σ q.name s fr).locals ≡ begun σ s ∷ fr.locals
param_is σ q (Copied v) fr = refl
param_is σ q (Lent a) fr = refl

newest : (σ : Store) (xs : List Held) (h : Held) (n : ℕ) → n ≡ length xs → held_in σ (h ∷ xs) (Local n) ≡ h
newest σ xs h n e = let same : (n == length xs) ≡ true = grind (arith, e) in ap (λ b. unwrap_or (if b then Some h else at xs n) nothing) same

older : (σ : Store) (xs : List Held) (h : Held) (n : ℕ) → n < length xs → held_in σ (h ∷ xs) (Local n) ≡ held_in σ xs (Local n)
older σ xs h n b = let other : (n == length xs) ≡ false = grind (arith, b) in ap (λ c. unwrap_or (if c then Some h else at xs n) nothing) other

pub all_many : (σ : Store) (qs : List Param) (ps : List Passed) (fr : Frame) → length ps ≡ length qs → length (own_params σ qs ps fr).locals ≡ length fr.locals + length ps
all_many σ [] [] fr n = omega arith
all_many σ [] (s ∷ ps) fr n = absurd (omega (arith, n))
all_many σ (q ∷ qs) [] fr n = absurd (omega (arith, n))
all_many σ (q ∷ qs) (s ∷ ps) fr n =
    let r = all_many σ qs ps (own_param σ q.name s fr) (omega (arith, n)) in
    let m : length (own_param σ q.name s fr).locals ≡ suc (length fr.locals) = ap length (param_is σ q s fr) in
    omega (arith, r, m)

-- older variables stay as they are
all_below : (σ : Store) (qs : List Param) (ps : List Passed) (fr : Frame) (l : ℕ) → l < length fr.locals → held_in σ (own_params σ qs ps fr).locals (Local l) ≡ held_in σ fr.locals (Local l)
all_below σ [] ps fr l b = refl
all_below σ (q ∷ qs) [] fr l b = refl
all_below σ (q ∷ qs) (s ∷ ps) fr l b =
    let m : length (own_param σ q.name s fr).locals ≡ suc (length fr.locals) = ap length (param_is σ q s fr) in
    all_below σ qs ps (own_param σ q.name s fr) l (omega (arith, m, b)) ∙ ap (λ xs. held_in σ xs (Local l)) (param_is σ q s fr) ∙ older σ fr.locals (begun σ s) l b

all_begun : (σ : Store) (qs : List Param) (ps : List Passed) (fr : Frame) (i : ℕ) (s : Passed) → length ps ≡ length qs → slice_get ps i ≡ Some s →
    held_in σ (own_params σ qs ps fr).locals (Local (length fr.locals + i)) ≡ begun σ s
all_begun σ [] [] fr i s n e = absurd (none-some s e)
all_begun σ [] (t ∷ ps) fr i s n e = absurd (omega (arith, n))
all_begun σ (q ∷ qs) [] fr i s n e = absurd (omega (arith, n))
all_begun σ (q ∷ qs) (t ∷ ps) fr zero s n e =
    let m : length (own_param σ q.name t fr).locals ≡ suc (length fr.locals) = ap length (param_is σ q t fr) in
    all_below σ qs ps (own_param σ q.name t fr) (length fr.locals + 0) (omega (arith, m))
    ∙ ap (λ xs. held_in σ xs (Local (length fr.locals + 0))) (param_is σ q t fr) ∙ newest σ fr.locals (begun σ t) (length fr.locals + 0) (omega arith) ∙ ap (begun σ) (same_Some t s e)
all_begun σ (q ∷ qs) (t ∷ ps) fr (suc i) s n e =
    let m : length fr.locals + suc i ≡ length (own_param σ q.name t fr).locals + i =
    (let k : length (own_param σ q.name t fr).locals ≡ suc (length fr.locals) = ap length (param_is σ q t fr) in omega (arith, k)) in
    ap (λ l. held_in σ (own_params σ qs ps (own_param σ q.name t fr)).locals (Local l)) m ∙ all_begun σ qs ps (own_param σ q.name t fr) i s (omega (arith, n)) e

pub frames_hold : FramesHold
frames_hold p g ps σ many = record {
  locals = all_many σ g.params ps (record { env = nv_env 0 p.names.nvs; locals = σ.locals }) many;
  value = λ i v e. all_begun σ g.params ps (record { env = nv_env 0 p.names.nvs; locals = σ.locals }) i (Copied v) many e;
  place = λ i q e. all_begun σ g.params ps (record { env = nv_env 0 p.names.nvs; locals = σ.locals }) i (Lent q) many e;
  below = λ l b. all_below σ g.params ps (record { env = nv_env 0 p.names.nvs; locals = σ.locals }) l b;
}
