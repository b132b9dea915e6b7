-- What completions say of outcomes.
use Rattle.std.proofs.Common.{◌≡◌, refl, sym, ap, ◌∙◌, ℕ, suc, ◌+◌, ◌-◌, ◌<◌, ◌≤◌, List, ◌∷◌, length, drop, take, get_or, length-drop, arith}
use Rattle.std.proofs.lemmas.List.{drop_more, take_all}
use Rattle.std.specs.Prelude.{Result, Ok, Err, IfOk}
use Rattle.oc_tree.specs.Tree.{TKind, let_to, let_array, TStmts}
use Rattle.oc_meaning.specs.Store.{Binding, Store}
use Rattle.oc_meaning.specs.Exec.{Outcome, bound_to, finished, grown, then_do}
use Rattle.oc_interpreter.specs.declared.completion.Completion.{Completion}
use Rattle.oc_interpreter.specs.declared.completion.Completion.TheVariants as completions
use Rattle.oc_interpreter.specs.Seen.{completion_at}

-- a call's outcome, which is another's
pub along : {E : Type 0} (r : Result Completion E) (τ : Store) (x y : Outcome) → x ≡ y → IfOk r (λ o. completion_at o τ ≡ x) → IfOk r (λ o. completion_at o τ ≡ y)
along (Ok o) τ x y e h = h ∙ e
along (Err w) τ x y e h = tt

-- what doesn't go through stays as it is
pub stops : (o : Completion) (σ : Store) (go : Store → Outcome) → (o ≡ completions.Went → ⊥) → then_do (completion_at o σ) go ≡ completion_at o σ
stops completions.Went σ go h = absurd (h refl)
stops (completions.Returned v) σ go h = refl
stops (completions.Stopped s) σ go h = refl

pub stays : (o : Completion) (σ : Store) (f : Store → Store) → (o ≡ completions.Went → ⊥) → finished f (completion_at o σ) ≡ completion_at o σ
stays completions.Went σ f h = absurd (h refl)
stays (completions.Returned v) σ f h = refl
stays (completions.Stopped s) σ f h = refl

pub rest_at : {X : Type 0} (xs : List X) (i : ℕ) (x : X) → i < length xs → x ≡ get_or xs i x → drop i xs ≡ x ∷ drop (i + 1) xs
rest_at xs i x h e = drop_more xs i x h ∙ ap (λ y. y ∷ drop (i + 1) xs) (sym e)

pub rest_of : {X : Type 0} (xs : List X) (i : ℕ) → take (length xs - i) (drop i xs) ≡ drop i xs
rest_of xs i = take_all (length xs - i) (drop i xs) (omega (arith, length-drop i xs))

-- the oldest variables of a scope that has one more
pub oldest_behind : (b : Binding) (env old : List Binding) → length old ≤ length env → drop (length (b ∷ env) - length old) (b ∷ env) ≡ drop (length env - length old) env
oldest_behind b env old h =
    let e : length (b ∷ env) - length old ≡ suc (length env - length old) = omega arith in
    ap (λ j. drop j (b ∷ env)) e

pub oldest_of_one : (b : Binding) (env : List Binding) → drop (length (b ∷ env) - length env) (b ∷ env) ≡ env
oldest_of_one b env =
    let e : length env - length env ≡ 0 = omega arith in
    oldest_behind b env env (omega arith) ∙ ap (λ j. drop j env) e

pub record Keeps (env old : List Binding) : Type 0 where
  pub seen : length old ≤ length env
  pub same : drop (length env - length old) env ≡ old

keeps_more : (b : Binding) (env old : List Binding) → Keeps env old → Keeps (b ∷ env) old
keeps_more b env old h = record {
  seen = omega (arith, h.seen);
  same = oldest_behind b env old h.seen ∙ h.same;
}

pub keeps_grown : (k : TKind) (rest : TStmts) (env old : List Binding) (σ : Store) → Keeps env old → Keeps (grown k rest env σ) old
keeps_grown (let_to m x k r) rest env old σ h = keeps_more (bound_to x rest σ) env old h
keeps_grown (let_array m x k z n) rest env old σ h = keeps_more (bound_to x rest σ) env old h
keeps_grown k rest env old σ h = h
