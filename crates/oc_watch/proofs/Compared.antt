-- What the code takes is at most what the tree costs, by the trees alone.
use Rattle.std.proofs.Common.{◌≡◌, ◌≤◌, ◌+◌, ◌-◌, ◌*◌, ℕ, zero, suc, Bool, true, false, List, [], ◌∷◌, length, map, cond, Option, Some, None, refl, sym, ap, ◌∙◌, subst, arith}
use Rattle.std.specs.Prelude.{ℤ, ◌==◌, ◌||◌, is_some, slice_get, nat_eq, if◌then◌else◌, ◌-ℤ◌}
use Rattle.std.specs.List.{list_any}
use Rattle.std.proofs.Math.Nat.{mul-le-mul_left}
use Rattle.std.proofs.lemmas.Option.{none-some}
use Rattle.oc_tree.specs.Names.{Text, NameLists}
use Rattle.oc_tree.specs.Tree.{TExpr, variable, TArg, value, shared, mutable, TArgs, no_args, more_args, TCall, call, TRight, right_value, right_sense, right_call, TKind, let_to}
use Rattle.oc_tree.specs.Tree.{assign, assign_index, assign_deref, if_else, for_in, while_do, call_only, emit, return, TElse, no_else, else_do, stmt, TBlock}
use Rattle.oc_tree.specs.Tree.{block, TStmts, no_stmts, more, TFunction, TProgram}
use Rattle.oc_tree.specs.Calls.{function_place}
use Rattle.oc_tree.specs.Weight as weight
use Rattle.oc_tree.specs.Weight.{known_of, expr_cost, arg_cost, args_cost, call_cost, right_cost, has_result}
use Rattle.oc_tree.specs.Marked.{TRegion}
use Rattle.oc_tree.specs.Stack.{kind_slots, block_slots, link_words}
use Rattle.oc_isa.specs.declared.instr.ProbeKind.{ProbeKind}
use Rattle.oc_isa.specs.declared.instr.ProbeKind.TheVariants.{Use, Done}
use Rattle.oc_isa.specs.declared.instr.Instr.TheVariants.{Drop}
use Rattle.oc_meaning.specs.Uses.{is_use, begins_use, ends_use}
use Rattle.oc_meaning.specs.Exec.{begun_by, ended_by}
use Rattle.oc_meaning.specs.Run.{function_named}
use Rattle.oc_code.specs.Scope.{Slot, InFrame, ByAddress, InNv, NoSlot, Named, address_slot, slot_of, passed_slot, is_fresh_in, in_scope, for_named, function_scope}
use Rattle.oc_code.specs.Forms.{enter_code, commit_code, probe_code, write_code}
use Rattle.oc_code.specs.Forms as forms
use Rattle.oc_code.specs.Formed.{marks, kind_formed, block_formed, stmts_formed, body_formed}
use Rattle.oc_code.proofs.Needs.{FoundAt, found_at_place}
use Rattle.oc_code.proofs.Spent.{expr_spent, value_spent, arg_spent, args_spent, call_spent, right_spent, kind_spent, return_spent, while_spent, open_spent, region_spent, row_spent}
use Rattle.oc_code.proofs.Spent.{block_spent, stmts_spent, cost_to, function_spent, IsPlain, spent_less}
use Rattle.oc_tree.specs.Costs.{one, marks_at, probes, inner_cost, block_cost, stmts_cost, function_cost, costs_to}
use Rattle.oc_laws.proofs.Members.{at_place}

-- ---- what is asked of a tree: values are plain, and what names a fresh variable is told as a use

abbrev pub arg_counted : List Named → TArg → Type 0
arg_counted γ (value e) = passed_slot γ e ≡ None → IsPlain γ e
arg_counted γ (shared x) = Unit {0}
arg_counted γ (mutable x) = Unit {0}

abbrev pub args_counted : List Named → TArgs → Type 0
args_counted γ no_args = Unit {0}
args_counted γ (more_args a rest) = arg_counted γ a × args_counted γ rest

abbrev pub call_counted : List Named → TCall → Type 0
call_counted γ (call f args) = args_counted γ args

abbrev pub right_counted : List Named → TRight → Type 0
right_counted γ (right_value e) = IsPlain γ e
right_counted γ (right_sense s) = Unit {0}
right_counted γ (right_call c) = call_counted γ c

module _ (uses : ℕ → Bool) where
  abbrev mutual
    pub kind_counted : List Named → ℕ → TKind → Type 0
    kind_counted γ s (let_to m x t r) = right_counted γ r
    kind_counted γ s (assign x r) = right_counted γ r
    kind_counted γ s (assign_index x e r) = right_counted γ r × IsPlain γ e
    kind_counted γ s (assign_deref x r) = right_counted γ r
    kind_counted γ s (if_else c a b) = IsPlain γ c × block_counted γ s a × else_counted γ (s + block_slots a) b
    kind_counted γ s (for_in x c d b) = block_counted (for_named x s ∷ γ) (s + 1) b
    kind_counted γ s (while_do c n b) = IsPlain γ c × block_counted γ (s + 1) b
    kind_counted γ s (call_only c) = call_counted γ c
    kind_counted γ s (emit q e) = IsPlain γ e
    kind_counted γ s (return e) = IsPlain γ e
    kind_counted γ s k = Unit {0}

    pub else_counted : List Named → ℕ → TElse → Type 0
    else_counted γ s no_else = Unit {0}
    else_counted γ s (else_do b) = block_counted γ s b

    pub block_counted : List Named → ℕ → TBlock → Type 0
    block_counted γ s (block id ss) = stmts_counted γ s ss

    pub stmts_counted : List Named → ℕ → TStmts → Type 0
    stmts_counted γ s no_stmts = Unit {0}
    stmts_counted γ s (more (stmt n line k) rest) =
        (is_use (is_fresh_in γ) k ≡ true → uses n ≡ true) × kind_counted γ s k × stmts_counted (in_scope k s rest γ) (s + kind_slots k) rest

-- ---- expressions and arguments

arg_less : (γ : List Named) (a : TArg) → arg_counted γ a → arg_spent γ a ≤ arg_cost a
arg_less γ (value (variable x)) c = go (address_slot (slot_of γ x)) refl
  where
    go : (o : Option ℕ) → address_slot (slot_of γ x) ≡ o → value_spent o (expr_spent γ (variable x)) ≤ 1
    go None e = spent_less γ (variable x) (c e)
    go (Some s) e = omega arith
arg_less γ (value e) c = spent_less γ e (c refl)
arg_less γ (shared x) c = omega arith
arg_less γ (mutable x) c = omega arith

args_less : (γ : List Named) (args : TArgs) → args_counted γ args → args_spent γ args ≤ args_cost args
args_less γ no_args c = omega arith
args_less γ (more_args a rest) c = omega (arith, arg_less γ a c.0, args_less γ rest c.1)

write_one : (n : ℕ) (s : Slot) → address_slot s ≡ None → length (write_code n s) ≤ 1
write_one n (InFrame k) e = omega arith
write_one n (ByAddress k) e = absurd (none-some k (sym e))
write_one n (InNv b) e = omega arith
write_one n NoSlot e = omega arith

write_two : (n : ℕ) (s : Slot) → length (write_code n s) ≤ 2
write_two n (InFrame k) = omega arith
write_two n (ByAddress k) = omega arith
write_two n (InNv b) = omega arith
write_two n NoSlot = omega arith

-- ---- marks and probes

same_number : (a b : ℕ) → (a == b) ≡ nat_eq b a
same_number a b = grind arith

enter_is : (n : ℕ) (rs : List TRegion) → length (enter_code n (begun_by rs n)) ≡ one (list_any (λ r. nat_eq r.first n) rs)
enter_is n [] = refl
enter_is n (r ∷ rs) = go (n == r.first) (nat_eq r.first n) (same_number n r.first) (enter_is n rs)
  where
    go : (a b : Bool) → a ≡ b → length (enter_code n (begun_by rs n)) ≡ one (list_any (λ r. nat_eq r.first n) rs)
        → length (enter_code n (if a then Some r.id else begun_by rs n)) ≡ one (b || list_any (λ r. nat_eq r.first n) rs)
    go true true e h = refl
    go false false e h = h
    go true false e h = absurd (grind (arith, e))
    go false true e h = absurd (grind (arith, e))

commit_is : (n : ℕ) (rs : List TRegion) → length (commit_code n (ended_by rs n)) ≡ one (list_any (λ r. nat_eq r.last n) rs)
commit_is n [] = refl
commit_is n (r ∷ rs) = go (n == r.last) (nat_eq r.last n) (same_number n r.last) (commit_is n rs)
  where
    go : (a b : Bool) → a ≡ b → length (commit_code n (ended_by rs n)) ≡ one (list_any (λ r. nat_eq r.last n) rs)
        → length (commit_code n (if a then Some r.id else ended_by rs n)) ≡ one (b || list_any (λ r. nat_eq r.last n) rs)
    go true true e h = refl
    go false false e h = h
    go true false e h = absurd (grind (arith, e))
    go false true e h = absurd (grind (arith, e))

probe_less : (n : ℕ) (b u : Bool) (k : ProbeKind) → (b ≡ true → u ≡ true) → length (probe_code n b k) ≤ one u
probe_less n false u k h = omega arith
probe_less n true u k h = let e : one u ≡ 1 = ap one (h refl) in omega (arith, e)

-- the probes around a statement
around : (F : Text → Bool) (u : Bool) (n : ℕ) (k : TKind) → (is_use F k ≡ true → u ≡ true) → length (probe_code n (begins_use F k) Use) + length (probe_code n (ends_use F k) Done) ≤ probes u k
around F u n (while_do c t b) h = omega arith
around F u n (return e) h = omega (arith, probe_less n (is_use F (return e)) u Use h)
around F u n k h = omega (arith, probe_less n (is_use F k) u Use h, probe_less n (is_use F k) u Done h)

-- ---- names and places

drop_is : (n : ℕ) (b : Bool) → length (if b then forms.one n Drop else []) ≡ cond b 1 0
drop_is n true = refl
drop_is n false = refl

-- ---- regions: from a statement on, to the one that the region ends with

abbrev pub last_or : Option ℕ → ℕ → ℕ
last_or None c = c
last_or (Some r) c = 0

abbrev pub alone_on : Option ℕ → Type 0 → Type 0
alone_on None A = A
alone_on (Some r) A = Unit {0}

module _ (regions : List TRegion) where
  -- no region begins among them
  abbrev pub alone : TStmts → Type 0
  alone no_stmts = Unit {0}
  alone (more (stmt n line k) rest) = (begun_by regions n ≡ None) × alone_on (ended_by regions n) (alone rest)

  -- behind the first of them
  abbrev pub region_alone : TStmts → Type 0
  region_alone no_stmts = Unit {0}
  region_alone (more (stmt n line k) rest) = alone_on (ended_by regions n) (alone rest)

  abbrev pub begins : ℕ → TStmts → Type 0
  begins r no_stmts = ⊥
  begins r (more (stmt n line k) rest) = begun_by regions n ≡ Some r

-- as oc_budget's `held_cost`, and its sum over a region's statements
module _ (fs : List TFunction) (regions : List TRegion) (uses : ℕ → Bool) (ws : List ℕ) where
  abbrev pub held_cost : ℕ → TKind → ℕ
  held_cost n (return e) = expr_cost e + probes (uses n) (return e)
  held_cost n k = inner_cost fs uses regions ws n k + probes (uses n) k

  abbrev pub listed_cost : TStmts → ℕ
  listed_cost no_stmts = 0
  listed_cost (more (stmt n line k) rest) = held_cost n k + last_or (ended_by regions n) (listed_cost rest)

-- ---- statements, where `cost` has at most what is known of functions

module _ (names : NameLists) (fs : List TFunction) (regions : List TRegion) (rank : Text → ℕ) (own : ℕ) (uses : ℕ → Bool) (ws : List ℕ) (cost : Text → ℕ)
    (less : (f : Text) → cost f ≤ known_of ws (function_place fs f)) where
  call_less : (γ : List Named) (c : TCall) → call_counted γ c → call_spent cost γ c ≤ call_cost fs ws c
  call_less γ (call f args) c = omega (arith, args_less γ args c, less f)

  right_less : (γ : List Named) (r : TRight) → right_counted γ r → right_spent cost γ r ≤ right_cost fs ws r
  right_less γ (right_value e) c = spent_less γ e c
  right_less γ (right_sense x) c = omega arith
  right_less γ (right_call k) c = call_less γ k c

  only_less : (γ : List Named) (n s : ℕ) (c : TCall) → call_counted γ c → kind_spent fs regions cost γ n s (call_only c) ≤ inner_cost fs uses regions ws n (call_only c)
  only_less γ n s (call f args) c = omega (arith, call_less γ (call f args) c, drop_is n (has_result fs (call f args)))

  while_less : (u : Bool) (n t bc bb cc cb : ℕ) → length (probe_code n u Use) + bc ≤ cc → bb ≤ cb → t * (10 + (length (probe_code n u Use) + bc) + bb) ≤ t * (10 + cc + cb)
  while_less u n t bc bb cc cb h1 h2 = mul-le-mul_left t (omega (arith, h1, h2))

  for_less : (i d : ℤ) (bb cb : ℕ) → bb ≤ cb → 6 + weight.count_of (d -ℤ i) * (9 + bb) ≤ 6 + weight.turns i d * (9 + cb)
  for_less i d bb cb r =
      let q : weight.count_of (d -ℤ i) * (9 + bb) ≤ weight.count_of (d -ℤ i) * (9 + cb) = mul-le-mul_left (weight.count_of (d -ℤ i)) (omega (arith, r)) in
      omega (arith, q)

  row_less : (gives : Bool) (n : ℕ) (kind : TKind) (b e : Option ℕ) (F : Text → Bool) (bk br ck cr : ℕ) → (is_use F kind ≡ true → uses n ≡ true) → b ≡ begun_by regions n
      → e ≡ ended_by regions n → bk ≤ ck → br + one gives ≤ cr → row_spent n b e (begins_use F kind) (ends_use F kind) bk br + one gives ≤ marks_at regions n + (ck + probes (uses n) kind) + cr
  row_less gives n kind b e F bk br ck cr u is_b is_e h1 h2 =
      let x : length (enter_code n b) ≡ one (list_any (λ r. nat_eq r.first n) regions) = ap (λ b. length (enter_code n b)) is_b ∙ enter_is n regions in
      let y : length (commit_code n e) ≡ one (list_any (λ r. nat_eq r.last n) regions) = ap (λ b. length (commit_code n b)) is_e ∙ commit_is n regions in
      omega (arith, x, y, around F (uses n) n kind u, h1, h2)

  mutual
    pub kind_less : (γ : List Named) (n s : ℕ) (k : TKind) → kind_formed names fs regions rank own γ s k → (is_use (is_fresh_in γ) k ≡ true → uses n ≡ true) → kind_counted uses γ s k
        → kind_spent fs regions cost γ n s k ≤ inner_cost fs uses regions ws n k
    kind_less γ n s (let_to m x t r) fm u c = omega (arith, right_less γ r c)
    kind_less γ n s (assign x r) fm u c = omega (arith, right_less γ r c, write_one n (slot_of γ x) fm.2)
    kind_less γ n s (assign_index x e r) fm u c = omega (arith, right_less γ r c.0, spent_less γ e c.1)
    kind_less γ n s (assign_deref x r) fm u c = omega (arith, right_less γ r c, write_two n (slot_of γ x))
    kind_less γ n s (if_else e a no_else) fm u c = omega (arith, spent_less γ e c.0, block_less γ s a fm.0 c.1)
    kind_less γ n s (if_else e a (else_do b)) fm u c = omega (arith, spent_less γ e c.0, block_less γ s a fm.0 c.1, block_less γ (s + block_slots a) b fm.1 c.2)
    kind_less γ n s (for_in x i d b) fm u c =
        let r = block_less (for_named x s ∷ γ) (s + 1) b fm.2 c in
        for_less i d (block_spent fs regions cost (for_named x s ∷ γ) (s + 1) b) (block_cost fs uses regions ws b) r
    kind_less γ n s (while_do e t b) fm u c =
        let is = is_use (is_fresh_in γ) (while_do e t b) in
        let r = block_less γ (s + 1) b fm.1 c.1 in
        let q = while_less is n t (expr_spent γ e) (block_spent fs regions cost γ (s + 1) b) (one (uses n) + expr_cost e) (block_cost fs uses regions ws b)
        (omega (arith, probe_less n is (uses n) Use u, spent_less γ e c.0)) r in
        let same : t * (10 + (one (uses n) + expr_cost e) + block_cost fs uses regions ws b) ≡ t * (10 + one (uses n) + expr_cost e + block_cost fs uses regions ws b) = ap (λ x. t * x)
        (omega arith) in
        omega (arith, q, same, probe_less n is (uses n) Done u)
    kind_less γ n s (call_only k) fm u c = only_less γ n s k c
    kind_less γ n s (emit q e) fm u c = omega (arith, spent_less γ e c)
    kind_less γ n s (return e) fm u c = absurd fm
    kind_less γ n s k fm u c = omega arith

    pub block_less : (γ : List Named) (s : ℕ) (b : TBlock) → block_formed names fs regions rank own γ s b → block_counted uses γ s b
        → block_spent fs regions cost γ s b ≤ block_cost fs uses regions ws b
    block_less γ s (block id ss) fm c = omega (arith, stmts_less false 0 γ s ss fm c)

    -- `gives` says that they end with a `return`, whose last instruction isn't in what they take
    pub stmts_less : (gives : Bool) (o : ℕ) (γ : List Named) (s : ℕ) (ss : TStmts) → stmts_formed names fs regions rank own gives o γ s ss → stmts_counted uses γ s ss
        → stmts_spent fs regions cost γ s ss + one gives ≤ stmts_cost fs uses regions ws ss
    stmts_less gives o γ s no_stmts fm c = let z : one gives ≡ 0 = ap one fm.0 in omega (arith, z)
    stmts_less gives o γ s (more (stmt n line (return e)) rest) fm c =
        let i : one gives ≡ 1 = ap one fm.0 in
        omega (
          arith,
          i,
          enter_is n regions,
          commit_is n regions,
          spent_less γ e c.1,
          probe_less n (is_use (is_fresh_in γ) (return e)) (uses n) Use c.0,
          probe_less n
              (is_use (is_fresh_in γ) (return e)) (uses n) Done c.0,
        )
    stmts_less gives o γ s (more (stmt n line kind) rest) fm c =
        row_less gives n kind (begun_by regions n) (ended_by regions n) (is_fresh_in γ) (kind_spent fs regions cost γ n s kind)
        (stmts_spent fs regions cost (in_scope kind s rest γ) (s + kind_slots kind) rest) (inner_cost fs uses regions ws n kind) (stmts_cost fs uses regions ws rest)
        c.0 refl refl (kind_less γ n s kind fm.0 c.0 c.1) (stmts_less gives fm.1 (in_scope kind s rest γ) (s + kind_slots kind) rest fm.3 c.2)

  step_less : (g : Bool) (n : ℕ) (kind : TKind) (F : Text → Bool) (bk ck : ℕ) (γ : List Named) (s : ℕ) (rest : TStmts) (left : ℕ) (e : Option ℕ) → (is_use F kind ≡ true → uses n ≡ true)
      → bk ≤ ck → 1 ≡ left + marks e → stmts_formed names fs regions rank own g left γ s rest → alone_on e (alone regions rest) →
      (stmts_formed names fs regions rank own g 1 γ s rest → alone regions rest → open_spent fs regions cost 1 γ s rest ≤ listed_cost fs regions uses ws rest + 1) → row_spent n None e
      (begins_use F kind) (ends_use F kind) bk (while_spent (1 - marks e) (open_spent fs regions cost (1 - marks e) γ s rest)) ≤ ck + probes (uses n) kind + last_or e
      (listed_cost fs regions uses ws rest) + 1
  step_less g n kind F bk ck γ s rest left None u h same fr single ih =
      let one_left : left ≡ 1 = omega (arith, same) in
      omega (arith, h, around F (uses n) n kind u, ih (subst (λ i. stmts_formed names fs regions rank own g i γ s rest) one_left fr) single)
  step_less g n kind F bk ck γ s rest left (Some r) u h same fr single ih = omega (arith, h, around F (uses n) n kind u)

  commit_one : (n : ℕ) (e : Option ℕ) → length (commit_code n e) ≤ 1
  commit_one n None = omega arith
  commit_one n (Some r) = omega arith

  back_less : (n : ℕ) (F : Text → Bool) (e : TExpr) (o : Option ℕ) (x : ℕ) (γ : List Named) → (is_use F (return e) ≡ true → uses n ≡ true) → IsPlain γ e
      → return_spent n None o (is_use F (return e)) (is_use F (return e)) (expr_spent γ e) ≤ held_cost fs regions uses ws n (return e) + x + 1
  back_less n F e o x γ u plain = omega (arith, spent_less γ e plain, commit_one n o, probe_less n (is_use F (return e)) (uses n) Use u, probe_less n (is_use F (return e)) (uses n) Done u)

  open_less : (ss : TStmts) (g : Bool) (γ : List Named) (s : ℕ) → stmts_formed names fs regions rank own g 1 γ s ss → stmts_counted uses γ s ss → alone regions ss
      → open_spent fs regions cost 1 γ s ss ≤ listed_cost fs regions uses ws ss + 1
  open_less no_stmts g γ s fm c single = omega arith
  open_less (more (stmt n line (return e)) rest) g γ s fm c single =
      subst (λ b. return_spent n b (ended_by regions n) (is_use (is_fresh_in γ) (return e)) (is_use (is_fresh_in γ) (return e)) (expr_spent γ e) ≤ listed_cost fs regions uses ws
      (more (stmt n line (return e)) rest) + 1) (sym single.0)
      (back_less n (is_fresh_in γ) e (ended_by regions n) (last_or (ended_by regions n) (listed_cost fs regions uses ws rest)) γ c.0 c.1)
  open_less (more (stmt n line kind) rest) g γ s fm c single =
      subst (λ b. row_spent n b (ended_by regions n) (begins_use (is_fresh_in γ) kind) (ends_use (is_fresh_in γ) kind) (kind_spent fs regions cost γ n s kind)
      (while_spent (1 + marks b - marks (ended_by regions n)) (open_spent fs regions cost (1 + marks b - marks (ended_by regions n)) (in_scope kind s rest γ) (s + kind_slots kind) rest))
      ≤ inner_cost fs uses regions ws n kind + probes (uses n) kind + last_or (ended_by regions n) (listed_cost fs regions uses ws rest) + 1) (sym single.0)
      (step_less g n kind (is_fresh_in γ) (kind_spent fs regions cost γ n s kind) (inner_cost fs uses regions ws n kind) (in_scope kind s rest γ) (s + kind_slots kind) rest fm.1
      (ended_by regions n) c.0 (kind_less γ n s kind fm.0 c.0 c.1) (subst (λ b. 1 + marks b ≡ fm.1 + marks (ended_by regions n)) single.0 fm.2) fm.3 single.1
      (λ f a. open_less rest g (in_scope kind s rest γ) (s + kind_slots kind) f c.2 a))

  -- what a region takes behind its `enter` is at most what its statements cost, and its `commit`
  pub region_less : (r : ℕ) (ss : TStmts) (g : Bool) (γ : List Named) (s : ℕ) → stmts_formed names fs regions rank own g 0 γ s ss → stmts_counted uses γ s ss → begins regions r ss
      → region_alone regions ss → region_spent fs regions cost γ s ss ≤ listed_cost fs regions uses ws ss + 1
  region_less r no_stmts g γ s fm c is single = omega arith
  region_less r (more (stmt n line (return e)) rest) g γ s fm c is single = back_less n (is_fresh_in γ) e (ended_by regions n)
      (last_or (ended_by regions n) (listed_cost fs regions uses ws rest)) γ c.0 c.1
  region_less r (more (stmt n line kind) rest) g γ s fm c is single =
      step_less g n kind (is_fresh_in γ) (kind_spent fs regions cost γ n s kind) (inner_cost fs uses regions ws n kind) (in_scope kind s rest γ) (s + kind_slots kind) rest fm.1
      (ended_by regions n) c.0 (kind_less γ n s kind fm.0 c.0 c.1) (subst (λ b. 0 + marks b ≡ fm.1 + marks (ended_by regions n)) is fm.2) fm.3 single
      (λ f a. open_less rest g (in_scope kind s rest γ) (s + kind_slots kind) f c.2 a)

-- ---- functions, where calls go at most so deep

module _ (p : TProgram) (regions : List TRegion) (rank : Text → ℕ) (uses : ℕ → Bool)
    (formed : (i : ℕ) (f : TFunction) → slice_get p.functions i ≡ Some f → body_formed p.names p.functions regions rank (rank f.name) (is_some f.result) (function_scope p f)
    (length f.params + link_words f) f.body)
    (counted : (i : ℕ) (f : TFunction) → slice_get p.functions i ≡ Some f → block_counted uses (function_scope p f) (length f.params + link_words f) f.body) where
  body_less : (ws : List ℕ) (cost : Text → ℕ) (less : (f : Text) → cost f ≤ known_of ws (function_place p.functions f)) (own : ℕ) (gives : Bool) (γ : List Named) (s : ℕ) (b : TBlock)
      → body_formed p.names p.functions regions rank own gives γ s b → block_counted uses γ s b → block_spent p.functions regions cost γ s b + one gives ≤ block_cost p.functions uses regions ws b
  body_less ws cost less own gives γ s (block id ss) fm c = stmts_less p.names p.functions regions rank own uses ws cost less gives 0 γ s ss fm c

  ends_less : (g : Bool) (a b : ℕ) → a + one g ≤ b → a + 1 ≤ b + cond g 0 1
  ends_less true a b h = omega (arith, h)
  ends_less false a b h = omega (arith, h)

  -- what functions take is at most what they cost
  pub cost_less : (d : ℕ) (x : Text) → cost_to p regions d x ≤ known_of (costs_to p.functions uses regions d) (function_place p.functions x)
  unfolding costs_to
  cost_less zero x = omega arith
  cost_less (suc d) x = go (cost_less d) (function_named p.functions x) (found_at_place 0 p.functions x)
    where
      ws : List ℕ
      ws = costs_to p.functions uses regions d

      go : ((f : Text) → cost_to p regions d f ≤ known_of ws (function_place p.functions f)) → (o : Option TFunction) → FoundAt 0 p.functions x o
          → function_spent p regions (cost_to p regions d) o ≤ known_of (map (function_cost p.functions uses regions ws) p.functions) (function_place p.functions x)
      go less None at = omega arith
      go less (Some f) at =
          let place : 0 + at.0 ≡ at.0 = omega arith in
          let e : known_of (map (function_cost p.functions uses regions ws) p.functions) (function_place p.functions x) ≡ function_cost p.functions uses regions ws f = ap
          (known_of (map (function_cost p.functions uses regions ws) p.functions)) (at.1 ∙ ap Some place) ∙ at_place (function_cost p.functions uses regions ws) p.functions at.0 f 0 at.2 in
          let r = ends_less (is_some f.result) (block_spent p.functions regions (cost_to p regions d) (function_scope p f) (length f.params + link_words f) f.body)
          (block_cost p.functions uses regions ws f.body) (body_less ws (cost_to p regions d) less (rank f.name) (is_some f.result) (function_scope p f) (length f.params + link_words f)
          f.body (formed at.0 f at.2) (counted at.0 f at.2)) in
          omega (arith, e, r)
