-- A `return` is the last statement of its function: no other statement returns.
use Rattle.std.proofs.Common.{◌≡◌, ℕ, zero, suc, Bool, true, false, true≢false, List, [], ◌∷◌, length, Option, Some, None, refl, sym, ap, ◌∙◌}
use Rattle.std.proofs.lemmas.Bool.{and_parts, not-false}
use Rattle.std.specs.Prelude.{ℤ, pos, ◌+ℤ◌, ◌-ℤ◌, ◌&&◌, not, slice_get, if◌then◌else◌}
use Rattle.oc_tree.specs.Names.{Text, NameLists}
use Rattle.oc_tree.specs.Tree.{TExpr, TKind, let_to, let_array, assign, assign_index, assign_deref, if_else, for_in, while_do, call_only, sense_only, emit, fresh, consistent}
use Rattle.oc_tree.specs.Tree.{return, TElse, no_else, else_do, stmt, TBlock, block, TStmts, no_stmts, more, TFunction, TProgram}
use Rattle.oc_tree.specs.Checked.{Group, IsChecked}
use Rattle.oc_tree.specs.Marked.{TRegion}
use Rattle.oc_tree.specs.Types.{type_of, is_same}
use Rattle.oc_tree.specs.Elements.{Here, inside, in_turn, is_end, before_stmts, after_stmt, stmt_elements, kind_elements, else_elements, block_elements, stmts_elements, in_function}
use Rattle.oc_tree.specs.Rules.{returns_elsewhere}
use Rattle.oc_tree.specs.Samples.{union}
use Rattle.oc_meaning.specs.Uses.{is_fresh, is_use, use_samples, begins_use, ends_use}
use Rattle.oc_meaning.specs.Store.{Value, Place, Store, Binding, plain, holding, replaced, held_at, put, made, noted, place_of}
use Rattle.oc_tree.specs.declared.said.Said.TheVariants.{Showed}
use Rattle.oc_tree.specs.declared.said.Shown.TheVariants.{Emitted}
use Rattle.oc_tree.specs.Weight.{count_of}
use Rattle.oc_meaning.specs.Eval.{Got, Val, Traps, is_zero, element_of, value_of}
use Rattle.oc_meaning.specs.Exec.{Outcome, Went, Returned, Stopped, Passed, begun_by, ended_by, opened, closed, used, done, finished, then_do, with_value, with_result, number_in}
use Rattle.oc_meaning.specs.Exec.{sense, element_written, leave, for_turns, while_turns, in_turn as turn_of, grown, entered, call_run, right_run, kind_run, else_run}
use Rattle.oc_meaning.specs.Exec.{block_run, stmts_run}
use Rattle.oc_desugar.proofs.Unbroken.{unbroken}
use Rattle.oc_checked.proofs.BodiesPass.{AllFine, fine_front, fine_back, function_fine}

-- ---- statements

-- statements in which no `return` stands
abbrev mutual
  pub KindStays : TKind → Type 0
  KindStays (if_else c a b) = BlockStays a × ElseStays b
  KindStays (for_in x c d b) = BlockStays b
  KindStays (while_do c t b) = BlockStays b
  KindStays (return e) = ⊥
  KindStays k = Unit {0}

  pub ElseStays : TElse → Type 0
  ElseStays no_else = Unit {0}
  ElseStays (else_do b) = BlockStays b

  pub BlockStays : TBlock → Type 0
  BlockStays (block id ss) = StmtsStay ss

  pub StmtsStay : TStmts → Type 0
  StmtsStay no_stmts = Unit {0}
  StmtsStay (more (stmt id line k) rest) = KindStays k × StmtsStay rest

-- a statement of a function's own list, and what follows it
abbrev pub EndsWith : TKind → TStmts → (later : Type 0) → Type 0
EndsWith (return e) rest later = rest ≡ no_stmts
EndsWith k rest later = KindStays k × later

-- where a `return` stands, it is the last of the list
abbrev pub EndsSo : TStmts → Type 0
EndsSo no_stmts = Unit {0}
EndsSo (more (stmt id line k) rest) = EndsWith k rest (EndsSo rest)

-- ---- from the rules

module _ (p : TProgram) where
  not_here : (h : Here) (e : TExpr) → h.last ≡ false → returns_elsewhere p h (return e) ≡ false → ⊥
  not_here h e last fine = true≢false (sym (ap (λ b. not (b && is_same h.function.result (type_of p h.scope e))) last) ∙ fine)

  not_inside : (h : Here) (rest : TStmts) → h.last ≡ false → (before_stmts h rest).last ≡ false
  not_inside h rest last = ap (λ b. b && is_end rest) last

  mutual
    kind_stays : (h : Here) (k : TKind) → h.last ≡ false → returns_elsewhere p h k ≡ false → AllFine p (kind_elements p h k) → KindStays k
    kind_stays h (if_else c a b) last fine all = (
      block_stays (inside h) a refl (fine_front p (block_elements p (inside h) a) (else_elements p (inside h) b) all),
      else_stays (inside h) b refl
          (fine_back p (block_elements p (inside h) a) (else_elements p (inside h) b) all),
    )
    kind_stays h (for_in x c d b) last fine all = block_stays (in_turn h x) b refl all
    kind_stays h (while_do c t b) last fine all = block_stays (inside h) b refl all
    kind_stays h (return e) last fine all = absurd (not_here h e last fine)
    kind_stays h k last fine all = tt

    else_stays : (h : Here) (b : TElse) → h.last ≡ false → AllFine p (else_elements p h b) → ElseStays b
    else_stays h no_else last all = tt
    else_stays h (else_do b) last all = block_stays h b last all

    block_stays : (h : Here) (b : TBlock) → h.last ≡ false → AllFine p (block_elements p h b) → BlockStays b
    block_stays h (block id ss) last all = stmts_stay (record h { block = id }) ss last all

    stmts_stay : (h : Here) (ss : TStmts) → h.last ≡ false → AllFine p (stmts_elements p h ss) → StmtsStay ss
    stmts_stay h no_stmts last all = tt
    stmts_stay h (more (stmt id line k) rest) last all =
        let here = before_stmts h rest in
        let own = fine_front p (stmt_elements p here (stmt id line k)) (stmts_elements p (after_stmt p h (stmt id line k)) rest) all in
        let others = fine_back p (stmt_elements p here (stmt id line k)) (stmts_elements p (after_stmt p h (stmt id line k)) rest) all in
        (kind_stays here k (not_inside h rest last) (unbroken p own.0.0 here k own.0.1).returns own.1, stmts_stay (after_stmt p h (stmt id line k)) rest last others)

  none_follows : (rest : TStmts) → is_end rest ≡ true → rest ≡ no_stmts
  none_follows no_stmts e = refl
  none_follows (more s rest) e = absurd (true≢false (sym e))

  ends_with : (h : Here) (k : TKind) (rest : TStmts) (later : Type 0) → returns_elsewhere p (before_stmts h rest) k ≡ false → AllFine p (kind_elements p (before_stmts h rest) k) → later →
      EndsWith k rest later
  ends_with h (return e) rest later fine all l =
      none_follows rest (and_parts h.last (is_end rest) (and_parts (h.last && is_end rest) (is_same h.function.result (type_of p h.scope e)) (not-false _ fine)).0).1
  ends_with h (if_else c a b) rest later fine all l = (
    (
      block_stays (inside h) a refl (fine_front p (block_elements p (inside h) a) (else_elements p (inside h) b) all),
      else_stays (inside h) b refl
          (fine_back p (block_elements p (inside h) a) (else_elements p (inside h) b) all),
    ),
    l,
  )
  ends_with h (for_in x c d b) rest later fine all l = (block_stays (in_turn h x) b refl all, l)
  ends_with h (while_do c t b) rest later fine all l = (block_stays (inside h) b refl all, l)
  ends_with h k rest later fine all l = (tt, l)

  ends_so : (h : Here) (ss : TStmts) → AllFine p (stmts_elements p h ss) → EndsSo ss
  ends_so h no_stmts all = tt
  ends_so h (more (stmt id line k) rest) all =
      let here = before_stmts h rest in
      let own = fine_front p (stmt_elements p here (stmt id line k)) (stmts_elements p (after_stmt p h (stmt id line k)) rest) all in
      let others = fine_back p (stmt_elements p here (stmt id line k)) (stmts_elements p (after_stmt p h (stmt id line k)) rest) all in
      ends_with h k rest (EndsSo rest) (unbroken p own.0.0 here k own.0.1).returns own.1 (ends_so (after_stmt p h (stmt id line k)) rest others)

abbrev pub EndsBlock : TBlock → Type 0
EndsBlock (block id ss) = EndsSo ss

-- so does each function's body
pub body_ends : (p : TProgram) (groups : List Group) → IsChecked p groups → (f : ℕ) (g : TFunction) → slice_get p.functions f ≡ Some g → EndsBlock g.body
body_ends p groups checked f g stands = by g.body (function_fine p checked.unbroken checked.form.declared f g stands).body
  where
    by : (b : TBlock) → AllFine p (block_elements p (in_function g f) b) → EndsBlock b
    by (block id ss) all = ends_so p (record (in_function g f) { block = id }) ss all

-- ---- runs

abbrev pub GivesNone : Outcome → Type 0
GivesNone (Went σ) = Unit {0}
GivesNone (Returned v σ) = ⊥
GivesNone (Stopped s σ) = Unit {0}

result_none : (o : Outcome) (go : Value → Store → Outcome) → ((v : Value) (σ : Store) → GivesNone (go v σ)) → GivesNone (with_result o go)
result_none (Went σ) go h = h (plain (pos 0)) σ
result_none (Returned v σ) go h = h v σ
result_none (Stopped s σ) go h = tt

value_none : (g : Got) (n : ℕ) (σ : Store) (go : Value → Outcome) → ((v : Value) → GivesNone (go v)) → GivesNone (with_value g n σ go)
value_none (Val v) n σ go h = h v
value_none (Traps t) n σ go h = tt

then_none : (o : Outcome) (go : Store → Outcome) → GivesNone o → ((σ : Store) → GivesNone (go σ)) → GivesNone (then_do o go)
then_none (Went σ) go n h = h σ
then_none (Returned v σ) go n h = n
then_none (Stopped s σ) go n h = tt

either_none : (c : Bool) (o q : Outcome) → GivesNone o → GivesNone q → GivesNone (if c then o else q)
either_none true o q h k = h
either_none false o q h k = k

leave_none : (n : ℕ) (o : Outcome) → GivesNone o → GivesNone (leave n o)
leave_none n (Went σ) h = tt
leave_none n (Returned v σ) h = h
leave_none n (Stopped s σ) h = tt

finished_none : (after : Store → Store) (o : Outcome) → GivesNone o → GivesNone (finished after o)
finished_none after (Went σ) h = tt
finished_none after (Returned v σ) h = h
finished_none after (Stopped s σ) h = tt

element_none : (q : Place) (o : Option ℕ) (i v : Value) (n : ℕ) (σ : Store) → GivesNone (element_written q o i v n σ)
element_none q None i v n σ = tt
element_none q (Some e) i v n σ = tt

for_none : (t : ℕ) (i : ℤ) (turn : ℤ → Store → Outcome) (σ : Store) → ((i : ℤ) (σ : Store) → GivesNone (turn i σ)) → GivesNone (for_turns t i turn σ)
for_none zero i turn σ h = tt
for_none (suc t) i turn σ h = then_none (turn i σ) (for_turns t (i +ℤ pos 1) turn) (h i σ) (λ τ. for_none t (i +ℤ pos 1) turn τ h)

while_none : (t n : ℕ) (is : Bool) (samples : Store → List ℕ) (test : Store → Got) (turn : Store → Outcome) (before : List ℕ) (σ : Store) → ((σ : Store) → GivesNone (turn σ)) →
    GivesNone (while_turns t n is samples test turn before σ)
while_none zero n is samples test turn before σ h = tt
while_none (suc t) n is samples test turn before σ h =
    value_none (test (used is n (samples σ) σ)) n (used is n (samples σ) σ)
    (λ v. if is_zero v.num then Went (done is n (union before (samples σ)) (used is n (samples σ) σ)) else then_do (turn (used is n (samples σ) σ))
    (while_turns t n is samples test turn (union before (samples σ)))) (λ v.
    either_none (is_zero v.num) (Went (done is n (union before (samples σ)) (used is n (samples σ) σ)))
    (then_do (turn (used is n (samples σ) σ)) (while_turns t n is samples test turn (union before (samples σ)))) tt
    (then_none (turn (used is n (samples σ) σ)) (while_turns t n is samples test turn (union before (samples σ))) (h (used is n (samples σ) σ))
    (λ τ. while_none t n is samples test turn (union before (samples σ)) τ h)))

module _ (names : NameLists) (regions : List TRegion) (call : Text → List Passed → Store → Outcome) (home : ℤ → ℕ) where
  mutual
    pub kind_none : (env : List Binding) (n : ℕ) (k : TKind) (σ : Store) → KindStays k → GivesNone (kind_run names regions call home env n k σ)
    kind_none env n (let_to m x t r) σ h = result_none (right_run names regions call home env n σ r) (λ v τ. Went (made (holding v) τ)) (λ v τ. tt)
    kind_none env n (let_array m x t z c) σ h = tt
    kind_none env n (assign x r) σ h = result_none (right_run names regions call home env n σ r) (λ v τ. Went (put τ (place_of env x) (replaced (held_at τ (place_of env x)) v))) (λ v τ. tt)
    kind_none env n (assign_index x e r) σ h =
        result_none (right_run names regions call home env n σ r) (λ v τ. with_value (value_of env τ e) n τ
        (λ i. element_written (place_of env x) (element_of (length (held_at τ (place_of env x)).words) i.num) i v n τ))
        (λ v τ. value_none (value_of env τ e) n τ (λ i. element_written (place_of env x) (element_of (length (held_at τ (place_of env x)).words) i.num) i v n τ)
        (λ i. element_none (place_of env x) (element_of (length (held_at τ (place_of env x)).words) i.num) i v n τ))
    kind_none env n (assign_deref x r) σ h = result_none (right_run names regions call home env n σ r) (λ v τ. Went (put τ (place_of env x) (replaced (held_at τ (place_of env x)) v))) (λ v τ. tt)
    kind_none env n (if_else c a b) σ h =
        value_none (value_of env σ c) n σ (λ v. if is_zero v.num then else_run names regions call home env b σ else block_run names regions call home env a σ)
        (λ v. either_none (is_zero v.num) (else_run names regions call home env b σ) (block_run names regions call home env a σ) (else_none env b σ h.1) (block_none env a σ h.0))
    kind_none env n (for_in x c d b) σ h = for_none (count_of (d -ℤ c)) c (λ i. block_run names regions call home (turn_of x i ∷ env) b) σ (λ i τ. block_none (turn_of x i ∷ env) b τ h)
    kind_none env n (while_do c t b) σ h =
        while_none t n (is_use (is_fresh env) (while_do c t b)) (use_samples env (while_do c t b)) (λ τ. value_of env τ c) (block_run names regions call home env b) [] σ (λ τ. block_none env b τ h)
    kind_none env n (call_only c) σ h = result_none (call_run names regions call home env n σ c) (λ v τ. Went τ) (λ v τ. tt)
    kind_none env n (sense_only s) σ h = result_none (sense (number_in names.sensors s) σ.left σ) (λ v τ. Went τ) (λ v τ. tt)
    kind_none env n (emit q e) σ h = value_none (value_of env σ e) n σ (λ v. Went (noted (Showed (Emitted (number_in names.ports q) v.num)) v.samples σ)) (λ v. tt)
    kind_none env n (fresh x) σ h = tt
    kind_none env n (consistent x k) σ h = tt
    kind_none env n (return e) σ h = absurd h

    else_none : (env : List Binding) (b : TElse) (σ : Store) → ElseStays b → GivesNone (else_run names regions call home env b σ)
    else_none env no_else σ h = tt
    else_none env (else_do b) σ h = block_none env b σ h

    block_none : (env : List Binding) (b : TBlock) (σ : Store) → BlockStays b → GivesNone (block_run names regions call home env b σ)
    block_none env (block id ss) σ h = leave_none (length σ.locals) (stmts_run names regions call home env ss (entered id σ)) (stmts_none env ss (entered id σ) h)

    stmts_none : (env : List Binding) (ss : TStmts) (σ : Store) → StmtsStay ss → GivesNone (stmts_run names regions call home env ss σ)
    stmts_none env no_stmts σ h = tt
    stmts_none env (more (stmt n line k) rest) σ h =
        let start = used (begins_use (is_fresh env) k) n (use_samples env k σ) (opened (begun_by regions n) σ) in
        let behind : Store → Store = λ τ. closed (ended_by regions n) (done (ends_use (is_fresh env) k) n (use_samples env k σ) τ) in
        then_none (finished behind (kind_run names regions call home env n k start)) (stmts_run names regions call home (grown k rest env σ) rest)
        (finished_none behind (kind_run names regions call home env n k start) (kind_none env n k start h.0)) (λ τ. stmts_none (grown k rest env σ) rest τ h.1)

  -- a `return` doesn't go through
  pub return_stops : (env : List Binding) (n : ℕ) (e : TExpr) (σ τ : Store) → kind_run names regions call home env n (return e) σ ≡ Went τ → ⊥
  return_stops env n e σ τ h = by (value_of env σ e) h
    where
      by : (g : Got) → with_value g n σ (λ v. Returned v (closed (ended_by regions n) (done (is_use (is_fresh env) (return e)) n (use_samples env (return e) σ) σ))) ≡ Went τ → ⊥
      by (Val v) q = cc
      by (Traps t) q = cc
