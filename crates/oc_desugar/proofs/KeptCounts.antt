-- What is counted: a written statement counts its pulls, so the counts behind its group are the same, and those within
-- the group are no more.
use Rattle.std.proofs.Common.{◌≡◌, ◌≤◌, ℕ, ◌+◌, ◌==◌, Bool, true, false, List, [], ◌∷◌, ◌++◌, map, length, refl, ap, sym, ◌∙◌, arith, Option, Some, None, cond}
use Rattle.std.specs.Prelude.{◌||◌, option_map, nat_lt}
use Rattle.std.specs.List.{list_any}
use Rattle.std.proofs.lemmas.List.{map-append, length-map, length-append}
use Rattle.std.proofs.lemmas.Bool.{or_parts, or_from, ltb-false, le-ltb}
use Rattle.std.proofs.lemmas.Bool.Decides.{eqb_tells}
use Rattle.std.proofs.lemmas.Bool.{eq-eqb, ne_eqb}
use mathlib.Core.Logic.{inl, inr}
use Rattle.oc_lex.specs.Stands.{IsName}
use Rattle.oc_tree.specs.Tree.{TRight, TKind, let_to, let_array, assign, assign_index, assign_deref, if_else, for_in, while_do, call_only, sense_only, emit, fresh, consistent, return}
use Rattle.oc_tree.specs.declared.scope.Origin.{Origin}
use Rattle.oc_tree.specs.declared.scope.Origin.TheVariants as origins
use Rattle.oc_tree.specs.declared.scope.Annotated.{Annotated}
use Rattle.oc_tree.specs.declared.scope.Annotated.TheVariants as policies
use Rattle.oc_tree.specs.declared.scope.Var.{Var}
use Rattle.oc_tree.specs.Pulls.{right_pulls, own_pulls}
use Rattle.oc_tree.specs.Calls.{callee, right_calls, own_calls}
use Rattle.oc_tree.specs.Scope.{variable_in}
use Rattle.oc_tree.specs.Elements.{Here}
use Rattle.oc_tree.specs.Form.{KindInForm}
use Rattle.oc_tree.specs.Limits.{Tally, own_declares, same_policy, with_policy, with_let, with_fresh, policies_after, with_statement, statement_passes}
use Rattle.oc_tree.specs.Expansion.{pulled, expand_kind}
use Rattle.oc_desugar.proofs.Seen.{new_origin, new_var, SameHere}
use Rattle.oc_desugar.proofs.Lengths.{length_pulled}
use Rattle.oc_desugar.proofs.NoPulls.{none_kind}
use Rattle.oc_desugar.proofs.KeptCallees.{rights_call, rights_join, with_own}

-- ---- policies

abbrev pub new_policy : (ℕ → ℕ) → Annotated → Annotated
new_policy f (policies.Fresh n) = policies.Fresh (f n)
new_policy f (policies.Consistent g n) = policies.Consistent g n

-- the counts of the expansion, where the program's are these
abbrev pub new_tally : (ℕ → ℕ) → Tally → Tally
new_tally f n = record { words = n.words; variables = n.variables; statements = n.statements; calls = n.calls; policies = map (new_policy f) n.policies }

-- two statements have two numbers
abbrev pub Apart : (ℕ → ℕ) → Type 0
Apart f = (m n : ℕ) → f m ≡ f n → m ≡ n

-- new numbers are compared as the written ones
same_eq : (f : ℕ → ℕ) → Apart f → (m n : ℕ) → (f m == f n) ≡ (m == n)
same_eq f h m n =
    elim (eqb_tells m n) [
      | inl e ↦ eq-eqb (f m) (f n) (ap f e.1) ∙ sym e.0
      | inr d ↦ ne_eqb (f m) (f n) (λ e. d.1 (h m n e)) ∙ sym d.0
    ]

-- policies are compared as the written ones
same_policies : (f : ℕ → ℕ) → Apart f → (a b : Annotated) → same_policy (new_policy f a) (new_policy f b) ≡ same_policy a b
same_policies f h (policies.Fresh m) (policies.Fresh n) = same_eq f h m n
same_policies f h (policies.Fresh m) (policies.Consistent g n) = refl
same_policies f h (policies.Consistent g m) (policies.Fresh n) = refl
same_policies f h (policies.Consistent g m) (policies.Consistent k n) = refl

-- a policy is there where the written one is
policy_there : (f : ℕ → ℕ) → Apart f → (ps : List Annotated) (q : Annotated) → list_any (same_policy (new_policy f q)) (map (new_policy f) ps) ≡ list_any (same_policy q) ps
policy_there f h [] q = refl
policy_there f h (r ∷ ps) q =
    ap (λ b. b || list_any (same_policy (new_policy f q)) (map (new_policy f) ps)) (same_policies f h q r)
    ∙ ap (λ b. same_policy q r || b) (policy_there f h ps q)

-- of one of two lists
map_cond : (f : ℕ → ℕ) (b : Bool) (ps qs : List Annotated) → cond b (map (new_policy f) ps) (map (new_policy f) qs) ≡ map (new_policy f) (cond b ps qs)
map_cond f true ps qs = refl
map_cond f false ps qs = refl

-- one policy more
with_new_policy : (f : ℕ → ℕ) → Apart f → (ps : List Annotated) (q : Annotated) → with_policy (map (new_policy f) ps) (new_policy f q) ≡ map (new_policy f) (with_policy ps q)
with_new_policy f h ps q =
    ap (λ b. cond b (map (new_policy f) ps) (map (new_policy f) ps ++ new_policy f q ∷ [])) (policy_there f h ps q)
    ∙ ap (λ l. cond (list_any (same_policy q) ps) (map (new_policy f) ps) l) (sym (map-append (new_policy f) ps (q ∷ [])))
    ∙ map_cond f (list_any (same_policy q) ps) ps (ps ++ q ∷ [])

-- that of a variable's `let`
with_new_let : (f : ℕ → ℕ) → Apart f → (ps : List Annotated) (o : Origin) → with_let (map (new_policy f) ps) (new_origin f o) ≡ map (new_policy f) (with_let ps o)
with_new_let f h ps (origins.Let m id b) = with_new_policy f h ps (policies.Fresh id)
with_new_let f h ps origins.For = refl
with_new_let f h ps (origins.Param q) = refl
with_new_let f h ps origins.Nv = refl

-- that of a variable, if any
with_new_fresh : (f : ℕ → ℕ) → Apart f → (ps : List Annotated) (v : Option Var) → with_fresh (map (new_policy f) ps) (option_map (new_var f) v) ≡ map (new_policy f) (with_fresh ps v)
with_new_fresh f h ps None = refl
with_new_fresh f h ps (Some v) = with_new_let f h ps v.origin

-- those of a statement
new_policies : (f : ℕ → ℕ) → Apart f → (ps : List Annotated) (h g : Here) (k i : ℕ) (s : TKind) → SameHere f h g → KindInForm IsName s
    → policies_after (map (new_policy f) ps) g (expand_kind k i s) ≡ map (new_policy f) (policies_after ps h s)
new_policies f a ps h g k i (let_to m x t r) e n = refl
new_policies f a ps h g k i (let_array m x t z c) e n = refl
new_policies f a ps h g k i (assign x r) e n = refl
new_policies f a ps h g k i (assign_index x c r) e n = refl
new_policies f a ps h g k i (assign_deref x r) e n = refl
new_policies f a ps h g k i (if_else c d b) e n = refl
new_policies f a ps h g k i (for_in x m c b) e n = refl
new_policies f a ps h g k i (while_do c m b) e n = refl
new_policies f a ps h g k i (call_only c) e n = refl
new_policies f a ps h g k i (sense_only s) e n = refl
new_policies f a ps h g k i (emit p c) e n = refl
new_policies f a ps h g k i (fresh x) e n = ap (with_fresh (map (new_policy f) ps)) (e.scope x n) ∙ with_new_fresh f a ps (variable_in h.scope x)
new_policies f a ps h g k i (consistent x m) e n = ap (λ u. with_policy (map (new_policy f) ps) (policies.Consistent u m)) e.number ∙ with_new_policy f a ps (policies.Consistent h.number m)
new_policies f a ps h g k i (return c) e n = refl

-- policies are never taken away
more_policy : (ps : List Annotated) (q : Annotated) → length ps ≤ length (with_policy ps q)
more_policy ps q = by (list_any (same_policy q) ps)
  where
    by : (b : Bool) → length ps ≤ length (cond b ps (ps ++ q ∷ []))
    by true = omega arith
    by false = omega (arith, length-append ps (q ∷ []))

more_let : (ps : List Annotated) (o : Origin) → length ps ≤ length (with_let ps o)
more_let ps (origins.Let m id b) = more_policy ps (policies.Fresh id)
more_let ps origins.For = omega arith
more_let ps (origins.Param q) = omega arith
more_let ps origins.Nv = omega arith

more_fresh : (ps : List Annotated) (v : Option Var) → length ps ≤ length (with_fresh ps v)
more_fresh ps None = omega arith
more_fresh ps (Some v) = more_let ps v.origin

more_policies : (ps : List Annotated) (h : Here) (s : TKind) → length ps ≤ length (policies_after ps h s)
more_policies ps h (let_to m x t r) = omega arith
more_policies ps h (let_array m x t z c) = omega arith
more_policies ps h (assign x r) = omega arith
more_policies ps h (assign_index x c r) = omega arith
more_policies ps h (assign_deref x r) = omega arith
more_policies ps h (if_else c d b) = omega arith
more_policies ps h (for_in x m c b) = omega arith
more_policies ps h (while_do c m b) = omega arith
more_policies ps h (call_only c) = omega arith
more_policies ps h (sense_only s) = omega arith
more_policies ps h (emit p c) = omega arith
more_policies ps h (fresh x) = more_fresh ps (variable_in h.scope x)
more_policies ps h (consistent x m) = more_policy ps (policies.Consistent h.number m)
more_policies ps h (return c) = omega arith

-- ---- counts

-- a statement declares as much
same_declares : (k i : ℕ) (s : TKind) → own_declares (expand_kind k i s) ≡ own_declares s
same_declares k i (let_to m x t r) = refl
same_declares k i (let_array m x t z c) = refl
same_declares k i (assign x r) = refl
same_declares k i (assign_index x c r) = refl
same_declares k i (assign_deref x r) = refl
same_declares k i (if_else c d b) = refl
same_declares k i (for_in x m c b) = refl
same_declares k i (while_do c m b) = refl
same_declares k i (call_only c) = refl
same_declares k i (sense_only s) = refl
same_declares k i (emit p c) = refl
same_declares k i (fresh x) = refl
same_declares k i (consistent x m) = refl
same_declares k i (return c) = refl

-- the calls of a group add up
sum_of_calls : (k i : ℕ) (s : TKind) → length (rights_call (pulled k s)) + length (own_calls (expand_kind k i s)) ≡ length (own_calls s)
sum_of_calls k i s =
    let e = ap length (with_own k i s) in
    omega (arith, e, length-append (rights_call (pulled k s)) (map callee (own_calls (expand_kind k i s))), length-map (own_calls (expand_kind k i s)) callee, length-map (own_calls s) callee)

-- the counts with the temporaries of these pulls
abbrev pub with_temporaries : Tally → List TRight → Tally
with_temporaries n rs = record { words = n.words; variables = n.variables + length rs; statements = n.statements + length rs; calls = n.calls + length (rights_call rs); policies = n.policies }

-- counts are the same where each part is
pub same_counts : (a b : Tally) → a.words ≡ b.words → a.variables ≡ b.variables → a.statements ≡ b.statements → a.calls ≡ b.calls → a.policies ≡ b.policies → a ≡ b
same_counts a b w v s c p = λ i. record { words = w i; variables = v i; statements = s i; calls = c i; policies = p i }

-- the `let` of one temporary more
pub one_temporary : (n : Tally) (h : Here) (x : List ℕ) (front : List TRight) (r : TRight) → right_pulls r ≡ 0 → with_statement (with_temporaries n front) h (let_to false x None r)
    ≡ with_temporaries n (front ++ r ∷ [])
one_temporary n h x front r e =
    let l = length-append front (r ∷ []) in
    let c = ap length (rights_join front (r ∷ [])) in
    let d = length-append (rights_call front) (rights_call (r ∷ [])) in
    let m = length-append (map callee (right_calls r)) [] in
    let k = length-map (right_calls r) callee in
    same_counts _ _ refl (omega (arith, e, l)) (omega (arith, e, l)) (omega (arith, c, d, m, k)) refl

-- behind the group the counts are the same
pub group_counts : (f : ℕ → ℕ) → Apart f → (n : Tally) (h g : Here) (k i : ℕ) (s : TKind) → SameHere f h g → KindInForm IsName s
    → with_statement (with_temporaries (new_tally f n) (pulled k s)) g (expand_kind k i s) ≡ new_tally f (with_statement n h s)
group_counts f a n h g k i s e w =
    let z : own_pulls (expand_kind k i s) ≡ 0 = omega (arith, none_kind k i s) in
    let l = length_pulled k s in
    same_counts _ _ refl (omega (arith, z, l, same_declares k i s)) (omega (arith, z, l)) (omega (arith, sum_of_calls k i s)) (new_policies f a n.policies h g k i s e w)

-- ---- limits

-- no count of `m` is more than that of `n`
pub record NoMore (m n : Tally) : Type 0 where
  pub variables : m.variables ≤ n.variables
  pub statements : m.statements ≤ n.statements
  pub calls : m.calls ≤ n.calls
  pub policies : length m.policies ≤ length n.policies

-- what is no more passes no limit that the other doesn't
not_less : (a b c : ℕ) → b ≤ c → nat_lt a c ≡ false → nat_lt a b ≡ false
not_less a b c l h = le-ltb a b (omega (arith, l, ltb-false a c h))

-- where no limit is passed, none is with counts that are no more
pub passes_none : (m n : Tally) → NoMore m n → statement_passes n ≡ false → statement_passes m ≡ false
passes_none m n l h =
    let a = or_parts (nat_lt 256 n.variables) _ h in
    let b = or_parts (nat_lt 8192 n.statements) _ a.1 in
    let c = or_parts (nat_lt 1024 n.calls) _ b.1 in
    or_from (nat_lt 256 m.variables) _ (not_less 256 _ _ l.variables a.0)
    (or_from (nat_lt 8192 m.statements) _ (not_less 8192 _ _ l.statements b.0)
    (or_from (nat_lt 1024 m.calls) _ (not_less 1024 _ _ l.calls c.0) (not_less 64 _ _ l.policies c.1)))

-- within a group no count is more than at its written statement
pub front_counts : (f : ℕ → ℕ) (n : Tally) (h : Here) (k : ℕ) (s : TKind) (front back : List TRight) → pulled k s ≡ front ++ back
    → NoMore (with_temporaries (new_tally f n) front) (with_statement n h s)
front_counts f n h k s front back e =
    let l : length front + length back ≡ own_pulls s = omega (arith, length-append front back, ap length e, length_pulled k s) in
    let c = sum_of_calls k 0 s in
    let d : length (rights_call front) ≤ length (rights_call (pulled k s)) = part_calls front back (pulled k s) e in
    record {
      variables = omega (arith, l);
      statements = omega (arith, l);
      calls = omega (arith, c, d);
      policies = omega (arith, length-map n.policies (new_policy f), more_policies n.policies h s);
    }
  where
    part_calls : (front back whole : List TRight) → whole ≡ front ++ back → length (rights_call front) ≤ length (rights_call whole)
    part_calls front back whole e = omega (arith, ap (λ l. length (rights_call l)) e, length_parts front back)
      where
        length_parts : (xs ys : List TRight) → length (rights_call xs) ≤ length (rights_call (xs ++ ys))
        length_parts [] ys = omega arith
        length_parts (x ∷ xs) ys = omega (arith, length_parts xs ys, length-append (map callee (right_calls x)) (rights_call xs), length-append (map callee (right_calls x)) (rights_call (xs ++ ys)))
