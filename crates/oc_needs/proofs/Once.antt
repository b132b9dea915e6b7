-- Policies, each once.
use Rattle.std.proofs.Common.{◌≡◌, refl, sym, ap, ◌∙◌, subst, ℕ, ◌+◌, ◌<◌, arith, List, [], ◌∷◌, ◌++◌, length, drop, cond}
use Rattle.std.specs.List.{list_any}
use Rattle.std.proofs.lemmas.List.{drop_more, length-map}
use Rattle.oc_tree.specs.Tree.{TProgram}
use Rattle.oc_tree.specs.declared.marked.Policy.{Policy}
use Rattle.oc_effects.specs.Effects.{effects, effects_at, function_effects}
use Rattle.oc_needs.specs.Policies.{same_policy, asked_from, each_once}
use Rattle.oc_needs.specs.Code.{asked_by}

pub each_once-append : (seen xs ys : List Policy) → each_once seen (xs ++ ys) ≡ each_once (each_once seen xs) ys
each_once-append seen [] ys = refl
each_once-append seen (q ∷ qs) ys = each_once-append (cond (list_any (same_policy q) seen) seen (seen ++ q ∷ [])) qs ys

-- one function more
pub policies_more : (p : TProgram) (f : ℕ) (old new whole : List Policy) → f < length p.functions → new ≡ each_once old (asked_by f (effects_at p f))
    → each_once old (asked_from f (drop f (effects p))) ≡ whole → each_once new (asked_from (f + 1) (drop (f + 1) (effects p))) ≡ whole
policies_more p f old new whole h e i =
    let few : f < length (effects p) = omega (arith, length-map p.functions (function_effects p)) in
    let first : each_once old (asked_by f (effects_at p f) ++ asked_from (f + 1) (drop (f + 1) (effects p))) ≡ whole =
    subst (λ es. each_once old (asked_from f es) ≡ whole) (drop_more (effects p) f [] few) i in
    ap (λ s. each_once s (asked_from (f + 1) (drop (f + 1) (effects p)))) e ∙ (sym (each_once-append old (asked_by f (effects_at p f)) (asked_from (f + 1) (drop (f + 1) (effects p)))) ∙ first)
