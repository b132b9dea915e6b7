-- A variable that is annotated as fresh has its policy.
use Rattle.std.proofs.Common.{◌≡◌, inl, inr, ℕ, zero, suc, ◌+◌, Bool, true, false, List, [], ◌∷◌, ◌++◌, Some, refl, sym, ap, ◌∙◌, subst, arith}
use Rattle.std.proofs.lemmas.Bool.{and_parts}
use Rattle.std.specs.Prelude.{cond, flat_map, option_map, option_to_list, nat_eq, ◌||◌}
use Rattle.std.specs.List.{list_any}
use Rattle.std.proofs.Math.ListN.{get_or}
use Rattle.oc_tree.specs.Names.{Text}
use Rattle.oc_tree.specs.Tree.{fresh, TProgram}
use Rattle.oc_tree.specs.Places.{Placed}
use Rattle.oc_tree.specs.declared.tree.VarId.{VarId}
use Rattle.oc_tree.specs.declared.marked.Policy.{Policy}
use Rattle.oc_tree.specs.declared.marked.PolicyKind.{PolicyKind}
use Rattle.oc_tree.specs.declared.marked.PolicyKind.TheVariants as kinds
use Rattle.oc_effects.specs.declared.effect.Note.TheVariants as notes
use Rattle.oc_effects.specs.Effects.{TEffect, effect_of, effects, effects_at, variable_at, note_of}
use Rattle.oc_tree.specs.Members.{IsOf}
use Rattle.oc_needs.specs.Policies.{policies, same_policy, same_kind, kind_of_note, asked_from, each_once}
use Rattle.oc_laws.proofs.Members.{of_left, of_right}
use Rattle.oc_flow.proofs.Lists.{same_is}

abbrev asked : ℕ → VarId → Policy
asked f v = record { function = f; kind = kinds.Fresh v }

same_kinds : (v : VarId) (k : PolicyKind) → same_kind (kinds.Fresh v) k ≡ true → kinds.Fresh v ≡ k
same_kinds v (kinds.Fresh u) e = ap kinds.Fresh (same_is v u e)
same_kinds v (kinds.Consistent k) e = absurd (grind (arith, e))

same_policies : (f : ℕ) (v : VarId) (q : Policy) → same_policy (asked f v) q ≡ true → asked f v ≡ q
same_policies f v q e =
    let b = and_parts (nat_eq f q.function) (same_kind (kinds.Fresh v) q.kind) e in
    let n : f ≡ q.function = (let h = b.0 in grind (arith, h)) in
    ap (λ (g : ℕ). asked g v) n ∙ ap (λ (k : PolicyKind). record { function = q.function; kind = k }) (same_kinds v q.kind b.1)

is_seen : (f : ℕ) (v : VarId) (seen : List Policy) → list_any (same_policy (asked f v)) seen ≡ true → IsOf (asked f v) seen
is_seen f v [] e = absurd (grind (arith, e))
is_seen f v (q ∷ seen) e = by (same_policy (asked f v) q) refl e (is_seen f v seen)
  where
    by : (b : Bool) → same_policy (asked f v) q ≡ b → b || list_any (same_policy (asked f v)) seen ≡ true → (list_any (same_policy (asked f v)) seen ≡ true → IsOf (asked f v) seen) →
        IsOf (asked f v) (q ∷ seen)
    by true c h rest = inl (same_policies f v q c)
    by false c h rest = inr (rest h)

kept_once : (q : Policy) (seen qs : List Policy) → IsOf q seen → IsOf q (each_once seen qs)
kept_once q seen [] h = h
kept_once q seen (x ∷ qs) h = kept_once q (cond (list_any (same_policy x) seen) seen (seen ++ x ∷ [])) qs (by (list_any (same_policy x) seen))
  where
    by : (b : Bool) → IsOf q (cond b seen (seen ++ x ∷ []))
    by true = h
    by false = of_left q seen (x ∷ []) h

found_once : (f : ℕ) (v : VarId) (seen qs : List Policy) → IsOf (asked f v) qs → IsOf (asked f v) (each_once seen qs)
found_once f v seen [] h = absurd h
found_once f v seen (x ∷ qs) (inl e) = kept_once (asked f v) (cond (list_any (same_policy x) seen) seen (seen ++ x ∷ [])) qs (by (list_any (same_policy x) seen) refl)
  where
    by : (b : Bool) → list_any (same_policy x) seen ≡ b → IsOf (asked f v) (cond b seen (seen ++ x ∷ []))
    by true c = is_seen f v seen (ap (λ (y : Policy). list_any (same_policy y) seen) e ∙ c)
    by false c = of_right (asked f v) seen (x ∷ []) (inl e)
found_once f v seen (x ∷ qs) (inr h) = found_once f v (cond (list_any (same_policy x) seen) seen (seen ++ x ∷ [])) qs h

abbrev asks : ℕ → TEffect → List Policy
asks f a = option_to_list (option_map (λ note. record { function = f; kind = kind_of_note note }) a.note)

in_asks : (f : ℕ) (v : VarId) (a : TEffect) (es : List TEffect) → IsOf a es → a.note ≡ Some (notes.Fresh v) → IsOf (asked f v) (flat_map (asks f) es)
in_asks f v a [] h n = absurd h
in_asks f v a (x ∷ es) (inl e) n =
    of_left (asked f v) (asks f x) (flat_map (asks f) es)
    (subst (λ o. IsOf (asked f v) (option_to_list (option_map (λ note. record { function = f; kind = kind_of_note note }) o))) (sym (ap (λ (y : TEffect). y.note) (sym e) ∙ n)) (inl refl))
in_asks f v a (x ∷ es) (inr h) n = of_right (asked f v) (asks f x) (flat_map (asks f) es) (in_asks f v a es h n)

in_asked : (n f m : ℕ) (v : VarId) (a : TEffect) (ess : List (List TEffect)) → m ≡ n + f → IsOf a (get_or ess f []) → a.note ≡ Some (notes.Fresh v) → IsOf (asked m v) (asked_from n ess)
in_asked n f m v a [] s h e = absurd h
in_asked n zero m v a (es ∷ ess) s h e =
    let same : m ≡ n = omega (arith, s) in
    subst (λ k. IsOf (asked m v) (flat_map (asks k) es ++ asked_from (n + 1) ess)) same (of_left (asked m v) (flat_map (asks m) es) (asked_from (n + 1) ess) (in_asks m v a es h e))
in_asked n (suc f) m v a (es ∷ ess) s h e = of_right (asked m v) (flat_map (asks n) es) (asked_from (n + 1) ess) (in_asked (n + 1) f m v a ess (omega (arith, s)) h e)

-- a note asks for its policy
pub has_policy : (p : TProgram) (f : ℕ) (v : VarId) (a : TEffect) → IsOf a (effects_at p f) → a.note ≡ Some (notes.Fresh v) → IsOf (record { function = f; kind = kinds.Fresh v }) (policies p)
has_policy p f v a h e = found_once f v [] (asked_from 0 (effects p)) (in_asked 0 f f v a (effects p) (omega arith) h e)

pub has_noted : (p : TProgram) (f : ℕ) (b : Placed) (x : Text) (v : VarId) → IsOf (effect_of p b) (effects_at p f) → b.kind ≡ fresh x → variable_at p b x ≡ Some v →
    IsOf (record { function = f; kind = kinds.Fresh v }) (policies p)
has_noted p f b x v h k e = has_policy p f v (effect_of p b) h (ap (note_of p b) k ∙ ap (option_map notes.Fresh) e)
