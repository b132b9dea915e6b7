-- What targets stand for is needed, and what is required meets each target.
use Rattle.std.proofs.Common.{◌≡◌, inl, ℕ, true, false, true≢false, List, [], ◌∷◌, Some, refl, sym, ap, ◌∙◌, subst}
use Rattle.std.specs.Prelude.{ℤ, filter, option_map, option_to_list}
use Rattle.std.proofs.lemmas.Bool.Decides.{Decides-int_eq}
use Rattle.oc_tree.specs.Tree.{TProgram}
use Rattle.oc_tree.specs.declared.tree.VarId.{VarId}
use Rattle.oc_tree.specs.declared.marked.Policy.{Policy}
use Rattle.oc_tree.specs.declared.marked.PolicyKind.{PolicyKind}
use Rattle.oc_tree.specs.declared.marked.PolicyKind.TheVariants as kinds
use Rattle.oc_effects.specs.declared.effect.Note.{Note}
use Rattle.oc_effects.specs.declared.effect.Note.TheVariants as notes
use Rattle.oc_effects.specs.Effects.{TEffect, effects_at}
use Rattle.oc_tree.specs.Members.{IsOf}
use Rattle.oc_flow.proofs.Lists.{same_itself}
use Rattle.oc_needs.specs.Policies.{kind_of_note, note_variable, same_kind, is_note_of, is_held, policies, annotated, held}
use Rattle.oc_needs.specs.Need.{by_annotation, by_call as need_by_call, is_empty}
use Rattle.oc_needs.proofs.Tests.{in_filter}
use Rattle.oc_timely.specs.Enough.{by_use, by_tag, by_call}
use Rattle.oc_laws.proofs.Members.{in_flat, in_image}
use Rattle.oc_timely.proofs.Asking.{asked_for, is_policy}
use Rattle.oc_timely.proofs.Bodies.{TargetsNeed}

-- ---- lists

pub some_there : {A : Type 0} (xs : List A) (x : A) → IsOf x xs → is_empty xs ≡ false
some_there [] x o = absurd o
some_there (y ∷ ys) x o = refl

pub none_there : {A : Type 0} (xs : List A) (x : A) → is_empty xs ≡ true → IsOf x xs → ⊥
none_there [] x e o = o
none_there (y ∷ ys) x e o = true≢false (sym e)

-- ---- what is annotated, and what is held

same_kind_self : (k : PolicyKind) → same_kind k k ≡ true
same_kind_self (kinds.Fresh v) = same_itself v
same_kind_self (kinds.Consistent k) = (Decides-int_eq k k).1 refl

pub is_annotated : (p : TProgram) (q : Policy) (a : TEffect) (note : Note) → IsOf a (effects_at p q.function) → a.note ≡ Some note → q.kind ≡ kind_of_note note →
    IsOf (note_variable note) (annotated p q)
is_annotated p q a note o e k =
    let test : is_note_of q.kind a.note ≡ true = ap (is_note_of q.kind) e ∙ ap (same_kind q.kind) (sym k) ∙ same_kind_self q.kind in
    in_flat (λ (b : TEffect). option_to_list (option_map note_variable b.note)) (filter (λ (b : TEffect). is_note_of q.kind b.note) (effects_at p q.function)) a (note_variable note)
    (in_filter (λ (b : TEffect). is_note_of q.kind b.note) a (effects_at p q.function) o test)
    (subst (λ n. IsOf (note_variable note) (option_to_list (option_map note_variable n))) (sym e) (inl refl))

pub held_there : (p : TProgram) (q : Policy) (a : TEffect) → IsOf a (effects_at p q.function) → is_held q.kind a ≡ true → IsOf a.stmt (held p q)
held_there p q a o h = in_image (λ (b : TEffect). b.stmt) (filter (is_held q.kind) (effects_at p q.function)) a (in_filter (is_held q.kind) a (effects_at p q.function) o h)

abbrev pub fresh_of : ℕ → VarId → Policy
fresh_of f x = record { function = f; kind = kinds.Fresh x }

abbrev pub set_by : ℕ → ℤ → Policy
set_by f k = record { function = f; kind = kinds.Consistent k }

fresh_is : (x v : VarId) → ◌≡◌ {A = PolicyKind} (kinds.Fresh x) (kinds.Fresh v) → x ≡ v
fresh_is x v e = cc e

not_both : (x : VarId) (k : ℤ) → ◌≡◌ {A = PolicyKind} (kinds.Fresh x) (kinds.Consistent k) → ⊥
not_both x k e = cc e

pub fresh_annotated : (p : TProgram) (f : ℕ) (x : VarId) → IsOf (fresh_of f x) (policies p) → IsOf x (annotated p (fresh_of f x))
fresh_annotated p f x o = let r = asked_for p (fresh_of f x) o in by r.effect r.note r.one r.is r.kind
  where
    by : (a : TEffect) (note : Note) → IsOf a (effects_at p f) → a.note ≡ Some note → kinds.Fresh x ≡ kind_of_note note → IsOf x (annotated p (fresh_of f x))
    by a (notes.Fresh v) i e k = subst (λ z. IsOf z (annotated p (fresh_of f x))) (sym (fresh_is x v k)) (is_annotated p (fresh_of f x) a (notes.Fresh v) i e k)
    by a (notes.Consistent v n) i e k = absurd (not_both x n k)

pub set_held : (k : ℤ) (x : VarId) (a : TEffect) → a.note ≡ Some (notes.Consistent x k) → is_held (kinds.Consistent k) a ≡ true
set_held k x a e = ap (is_note_of (kinds.Consistent k)) e ∙ (Decides-int_eq k k).1 refl

-- ---- needs

nonempty : (xs : List ℕ) (n : ℕ) → IsOf n xs → xs ≡ [] → ⊥
nonempty xs n o e = subst (IsOf n) e o

pub targets_need : (p : TProgram) (f : ℕ) → TargetsNeed p f
targets_need p f a x v i (by_use o t) given fl =
    (fresh_of f x, o, by_annotation (fresh_annotated p f x o) (nonempty (held p (fresh_of f x)) a.stmt (held_there p (fresh_of f x) a i t)) given fl)
targets_need p f a x v i (by_tag k e) given fl = (
  set_by f k,
  is_policy p f a (notes.Consistent x k) i e,
  by_annotation (is_annotated p (set_by f k) a (notes.Consistent x k) i e refl)
      (nonempty (held p (set_by f k)) a.stmt (held_there p (set_by f k) a i (set_held k x a e))) given fl,
)
targets_need p f a x v i (by_call q c o e need b) given fl = (q, o, need_by_call a c i e need b given fl)
