-- A policy is one of the program's just where an annotation asks for it.
use Rattle.std.proofs.Common.{◌≡◌, ◌⊎◌, inl, inr, ℕ, zero, suc, ◌+◌, Bool, true, false, true≢false, List, [], ◌∷◌, ◌++◌, Option, Some, None, cond, refl, sym, ap, ◌∙◌, subst, arith}
use Rattle.std.specs.Prelude.{nat_eq, flat_map, option_map, option_to_list}
use Rattle.std.specs.List.{list_any}
use Rattle.std.proofs.Math.ListN.{get_or}
use Rattle.std.proofs.lemmas.Bool.{eqb-true, and_parts}
use Rattle.std.proofs.lemmas.Bool.Decides.{Decides-int_eq}
use Rattle.oc_tree.specs.Tree.{TProgram}
use Rattle.oc_tree.specs.declared.marked.Policy.{Policy}
use Rattle.oc_tree.specs.declared.marked.PolicyKind.{PolicyKind}
use Rattle.oc_tree.specs.declared.marked.PolicyKind.TheVariants as kinds
use Rattle.oc_effects.specs.declared.effect.Note.{Note}
use Rattle.oc_effects.specs.Effects.{TEffect, effects, effects_at}
use Rattle.oc_tree.specs.Members.{IsOf}
use Rattle.oc_flow.proofs.Lists.{in_any, same_is}
use Rattle.oc_needs.specs.Policies.{kind_of_note, same_kind, same_policy, asked_from, each_once, policies}
use Rattle.oc_laws.proofs.Members.{of_left, of_right, in_append}

pub same_kind_is : (a b : PolicyKind) → same_kind a b ≡ true → a ≡ b
same_kind_is (kinds.Fresh v) (kinds.Fresh w) h = ap kinds.Fresh (same_is v w h)
same_kind_is (kinds.Consistent k) (kinds.Consistent j) h = ap kinds.Consistent ((Decides-int_eq k j).0 h)
same_kind_is (kinds.Fresh v) (kinds.Consistent j) h = absurd (true≢false (sym h))
same_kind_is (kinds.Consistent k) (kinds.Fresh w) h = absurd (true≢false (sym h))

same_policy_is : (q r : Policy) → same_policy q r ≡ true → q ≡ r
same_policy_is q r h =
    let e = eqb-true q.function r.function (and_parts (nat_eq q.function r.function) (same_kind q.kind r.kind) h).0 in
    let k = same_kind_is q.kind r.kind (and_parts (nat_eq q.function r.function) (same_kind q.kind r.kind) h).1 in
    λ i. record { function = e i; kind = k i }

-- ---- each once

abbrev with_policy : List Policy → Policy → List Policy
with_policy seen r = cond (list_any (same_policy r) seen) seen (seen ++ r ∷ [])

keeps : (seen qs : List Policy) (q : Policy) → IsOf q seen → IsOf q (each_once seen qs)
keeps seen [] q o = o
keeps seen (r ∷ qs) q o = keeps (with_policy seen r) qs q (by (list_any (same_policy r) seen))
  where
    by : (b : Bool) → IsOf q (cond b seen (seen ++ r ∷ []))
    by true = o
    by false = of_left q seen (r ∷ []) o

in_once : (seen qs : List Policy) (q : Policy) → IsOf q qs → IsOf q (each_once seen qs)
in_once seen [] q o = absurd o
in_once seen (r ∷ qs) q (inr o) = in_once (with_policy seen r) qs q o
in_once seen (r ∷ qs) q (inl e) = keeps (with_policy seen r) qs q (by (list_any (same_policy r) seen) refl)
  where
    by : (b : Bool) → list_any (same_policy r) seen ≡ b → IsOf q (cond b seen (seen ++ r ∷ []))
    by true is = let z = in_any (same_policy r) seen is in subst (λ x. IsOf x seen) (sym (e ∙ same_policy_is r z.0 z.2)) z.1
    by false is = of_right q seen (r ∷ []) (inl e)

of_once : (seen qs : List Policy) (q : Policy) → IsOf q (each_once seen qs) → IsOf q seen ⊎ IsOf q qs
of_once seen [] q o = inl o
of_once seen (r ∷ qs) q o = by (list_any (same_policy r) seen) (of_once (with_policy seen r) qs q o)
  where
    last : IsOf q seen ⊎ IsOf q (r ∷ []) → IsOf q seen ⊎ IsOf q (r ∷ qs)
    last (inl o) = inl o
    last (inr (inl e)) = inr (inl e)
    last (inr (inr o)) = absurd o

    by : (b : Bool) → IsOf q (cond b seen (seen ++ r ∷ [])) ⊎ IsOf q qs → IsOf q seen ⊎ IsOf q (r ∷ qs)
    by true (inl o) = inl o
    by false (inl o) = last (in_append q seen (r ∷ []) o)
    by b (inr o) = inr (inr o)

-- ---- annotations

pub record Asks (q : Policy) (es : List TEffect) : Type 0 where
  pub effect : TEffect
  pub one : IsOf effect es
  pub note : Note
  pub is : effect.note ≡ Some note
  pub kind : q.kind ≡ kind_of_note note

abbrev asking : ℕ → TEffect → List Policy
asking f a = option_to_list (option_map (λ note. record { function = f; kind = kind_of_note note }) a.note)

asks_here : (f : ℕ) (es : List TEffect) (q : Policy) → IsOf q (flat_map (asking f) es) → (q.function ≡ f) × Asks q es
asks_here f [] q o = absurd o
asks_here f (a ∷ es) q o = by (in_append q (asking f a) (flat_map (asking f) es) o) (asks_here f es q)
  where
    own : (n : Option Note) → a.note ≡ n → IsOf q (option_to_list (option_map (λ note. record { function = f; kind = kind_of_note note }) n)) → (q.function ≡ f) × Asks q (a ∷ es)
    own None e o = absurd o
    own (Some note) e (inl i) = (ap (λ (z : Policy). z.function) i, record { effect = a; one = inl refl; note = note; is = e; kind = ap (λ (z : Policy). z.kind) i })
    own (Some note) e (inr o) = absurd o

    by : IsOf q (asking f a) ⊎ IsOf q (flat_map (asking f) es) → (IsOf q (flat_map (asking f) es) → (q.function ≡ f) × Asks q es) → (q.function ≡ f) × Asks q (a ∷ es)
    by (inl o) rest = own a.note refl o
    by (inr o) rest = let r = rest o in (r.0, (let s = r.1 in record { effect = s.effect; one = inr s.one; note = s.note; is = s.is; kind = s.kind }))

asks_from : (f : ℕ) (ess : List (List TEffect)) (q : Policy) → IsOf q (asked_from f ess) → (i : ℕ) × (q.function ≡ f + i) × Asks q (get_or ess i [])
asks_from f [] q o = absurd o
asks_from f (es ∷ ess) q o = by (in_append q (flat_map (asking f) es) (asked_from (f + 1) ess) o) (asks_from (f + 1) ess q)
  where
    by : IsOf q (flat_map (asking f) es) ⊎ IsOf q (asked_from (f + 1) ess) → (IsOf q (asked_from (f + 1) ess) → (i : ℕ) × (q.function ≡ f + 1 + i) × Asks q (get_or ess i [])) →
        (i : ℕ) × (q.function ≡ f + i) × Asks q (get_or (es ∷ ess) i [])
    by (inl o) rest = let r = asks_here f es q o in (0, (let e = r.0 in omega (arith, e)), r.1)
    by (inr o) rest = let r = rest o in (suc r.0, (let e = r.1 in omega (arith, e)), r.2)

-- each policy of a program is asked for in its function
pub asked_for : (p : TProgram) (q : Policy) → IsOf q (policies p) → Asks q (effects_at p q.function)
asked_for p q o = by (of_once [] (asked_from 0 (effects p)) q o)
  where
    by : IsOf q [] ⊎ IsOf q (asked_from 0 (effects p)) → Asks q (effects_at p q.function)
    by (inl o) = absurd o
    by (inr o) = let r = asks_from 0 (effects p) q o in let e : r.0 ≡ q.function = (let s = r.1 in omega (arith, s)) in subst (λ i. Asks q (get_or (effects p) i [])) e r.2

abbrev pub asked : ℕ → Note → Policy
asked f note = record { function = f; kind = kind_of_note note }

ask_here : (f : ℕ) (es : List TEffect) (a : TEffect) (note : Note) → IsOf a es → a.note ≡ Some note → IsOf (asked f note) (flat_map (asking f) es)
ask_here f [] a note o e = absurd o
ask_here f (b ∷ es) a note (inl i) e =
    let is : b.note ≡ Some note = ap (λ (z : TEffect). z.note) (sym i) ∙ e in
    of_left (asked f note) (asking f b) (flat_map (asking f) es)
    (subst (λ n. IsOf (asked f note) (option_to_list (option_map (asked f) n))) (sym is) (inl refl))
ask_here f (b ∷ es) a note (inr o) e = of_right (asked f note) (asking f b) (flat_map (asking f) es) (ask_here f es a note o e)

ask_from : (f n : ℕ) (ess : List (List TEffect)) (i : ℕ) (a : TEffect) (note : Note) → n ≡ f + i → IsOf a (get_or ess i []) → a.note ≡ Some note → IsOf (asked n note) (asked_from f ess)
ask_from f n [] i a note s o e = absurd o
ask_from f n (es ∷ ess) zero a note s o e =
    let z : f ≡ n = omega (arith, s) in
    of_left (asked n note) (flat_map (asking f) es) (asked_from (f + 1) ess) (subst (λ m. IsOf (asked m note) (flat_map (asking f) es)) z (ask_here f es a note o e))
ask_from f n (es ∷ ess) (suc i) a note s o e =
    of_right (asked n note) (flat_map (asking f) es) (asked_from (f + 1) ess) (ask_from (f + 1) n ess i a note (omega (arith, s)) o e)

-- each annotation asks for a policy
pub is_policy : (p : TProgram) (f : ℕ) (a : TEffect) (note : Note) → IsOf a (effects_at p f) → a.note ≡ Some note → IsOf (asked f note) (policies p)
is_policy p f a note o e = in_once [] (asked_from 0 (effects p)) (asked f note) (ask_from 0 f (effects p) f a note (omega arith) o e)
