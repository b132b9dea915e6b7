-- Policies: what the annotations of a program ask for.
use Rattle.std.specs.Prelude.{ℕ, ◌+◌, Bool, false, ◌&&◌, List, [], ◌∷◌, ◌++◌, map, flat_map, filter, Option, Some, None, cond, nat_eq, option_map, option_to_list}
use Rattle.std.specs.List.{list_any}
use Rattle.std.specs.Ordering.{int_eq}
use Rattle.oc_tree.specs.Tree.{TProgram}
use Rattle.oc_tree.specs.declared.tree.VarId.{VarId}
use Rattle.oc_tree.specs.declared.marked.Policy.{Policy}
use Rattle.oc_tree.specs.declared.marked.PolicyKind.{PolicyKind}
use Rattle.oc_tree.specs.declared.marked.PolicyKind.TheVariants as kinds
use Rattle.oc_effects.specs.declared.effect.Note.{Note}
use Rattle.oc_effects.specs.declared.effect.Note.TheVariants as notes
use Rattle.oc_effects.specs.Effects.{TEffect, effects, effects_at}
use Rattle.oc_flow.specs.Variables.{same_variable, is_among}

-- the policy that an annotation asks for: that a variable be fresh, or that a set be consistent
abbrev pub kind_of_note : Note → PolicyKind
kind_of_note (notes.Fresh v) = kinds.Fresh v
kind_of_note (notes.Consistent v k) = kinds.Consistent k

-- two kinds of policy are the same: the same variable is fresh, or the sets have the same number
abbrev pub same_kind : PolicyKind → PolicyKind → Bool
same_kind (kinds.Fresh v) (kinds.Fresh w) = same_variable v w
same_kind (kinds.Consistent k) (kinds.Consistent j) = int_eq k j
same_kind _ _ = false

-- two policies are the same: in one function, of one kind
abbrev pub same_policy : Policy → Policy → Bool
same_policy q r = nat_eq q.function r.function && same_kind q.kind r.kind

-- what the annotations of functions ask for, the first of which has the place `f`
abbrev pub asked_from : ℕ → List (List TEffect) → List Policy
asked_from f [] = []
asked_from f (es ∷ ess) =
    flat_map (λ a. option_to_list
    (option_map (λ note. record { function = f; kind = kind_of_note note }) a.note)) es
    ++ asked_from (f + 1) ess

-- each policy once, behind those that were seen
abbrev pub each_once : List Policy → List Policy → List Policy
each_once seen [] = seen
each_once seen (q ∷ qs) = each_once (cond (list_any (same_policy q) seen) seen (seen ++ q ∷ [])) qs

-- the policies, in the order of their first annotations
abbrev pub policies : TProgram → List Policy
policies p = each_once [] (asked_from 0 (effects p))

-- the variable of an annotation
abbrev pub note_variable : Note → VarId
note_variable (notes.Fresh v) = v
note_variable (notes.Consistent v k) = v

-- a statement is an annotation of the policy
abbrev pub is_note_of : PolicyKind → Option Note → Bool
is_note_of kind None = false
is_note_of kind (Some note) = same_kind kind (kind_of_note note)

-- the variables that the annotations of a policy name
abbrev pub annotated : TProgram → Policy → List VarId
annotated p q =
    flat_map (λ a. option_to_list (option_map note_variable a.note))
    (filter (λ a. is_note_of q.kind a.note) (effects_at p q.function))

-- a statement must be held in one region with the inputs of a policy: it uses the fresh variable,
-- or annotates the set
abbrev pub is_held : PolicyKind → TEffect → Bool
is_held (kinds.Fresh v) a = is_among v a.named
is_held (kinds.Consistent k) a = is_note_of (kinds.Consistent k) a.note

-- the statements that must be held in one region with the inputs of a policy
abbrev pub held : TProgram → Policy → List ℕ
held p q = map (λ a. a.stmt) (filter (is_held q.kind) (effects_at p q.function))
