-- Where no element breaks a rule, the expansion has at most 8,192 statements.
use Rattle.std.proofs.Common.{◌≡◌, ◌≤◌, ℕ, zero, suc, ◌+◌, Bool, true, false, cond, ◌||◌, Option, Some, None, List, [], ◌∷◌, ◌++◌, length, drop, refl, ap, sym, ◌∙◌, arith, sum_by, count_by}
use Rattle.std.specs.Prelude.{nat_lt, slice_get}
use Rattle.std.proofs.lemmas.Bool.{ltb-false}
use Rattle.std.proofs.lemmas.List.Sums.{sum_by-cons, sum_by-append}
use Rattle.oc_tree.specs.Names.{Text}
use Rattle.oc_tree.specs.Tree.{TKind, let_to, let_array, assign, assign_index, assign_deref, if_else, for_in, while_do, call_only, sense_only, emit, fresh, consistent, return}
use Rattle.oc_tree.specs.Tree.{TElse, no_else, else_do, TStmt, stmt, TBlock, block, TStmts, no_stmts, more, TFunction, TProgram}
use Rattle.oc_tree.specs.declared.tree.Decl.{Decl}
use Rattle.oc_tree.specs.declared.tree.DeclKind.{DeclKind}
use Rattle.oc_tree.specs.declared.tree.DeclKind.TheVariants as decls
use Rattle.oc_tree.specs.declared.tree.NvDecl.{NvDecl}
use Rattle.oc_tree.specs.declared.before.Before.{Before}
use Rattle.oc_tree.specs.declared.broken.Broken.{Broken}
use Rattle.oc_tree.specs.Pulls.{own_pulls}
use Rattle.oc_tree.specs.Expansion.{block_size, else_size, inner_size, stmt_size, stmts_size, program_size}
use Rattle.oc_tree.specs.Form.{DeclaredInOrder, is_function}
use Rattle.oc_tree.specs.Elements.{Item, sensor_item, port_item, nv_item, function_item, Here, Element, declared, statement, ending, inside, in_turn, before_stmts, after_stmt}
use Rattle.oc_tree.specs.Elements.{kind_elements, else_elements, stmt_elements, block_elements, stmts_elements, in_function, named_element, nv_element, function_elements}
use Rattle.oc_tree.specs.Elements.{item_elements, after_item, order_elements, nothing_before, program_elements}
use Rattle.oc_tree.specs.Limits.{Tally, nothing_counted, with_item, with_statement, statement_passes}
use Rattle.oc_tree.specs.Broken.{Table, rules_of, statement_rules, lowest, or_later, first_broken, broken_element}

-- ---- how many statements of the expansion elements bring

abbrev brought : Element → ℕ
brought (declared b line i) = 0
brought (statement h id line k) = own_pulls k + 1
brought (ending line) = 0

abbrev bring : List Element → ℕ
bring es = sum_by brought es

-- ---- a table of which nothing is broken

cond_none : (b : Bool) (n : ℕ) (o : Option ℕ) → cond b (Some n) o ≡ None → (b ≡ false) × (o ≡ None)
cond_none true n o e = absurd (cc e)
cond_none false n o e = (refl, e)

later : (n : ℕ) (ts : Table) → lowest ts ≡ None → lowest (drop n ts) ≡ None
later zero ts e = e
later (suc n) [] e = e
later (suc n) (t ∷ ts) e = later n ts (cond_none t.1 t.0 (lowest ts) e).1

or_first : (a b : Bool) → a || b ≡ false → a ≡ false
or_first true b e = e
or_first false b e = refl

or_second : (a b : Bool) → a || b ≡ false → b ≡ false
or_second true b e = absurd (cc e)
or_second false b e = e

-- a statement that passes no limit is counted
allowed : (n : Tally) → statement_passes n ≡ false → n.statements ≤ 8192
allowed n e = ltb-false 8192 n.statements (or_first _ _ (or_second (nat_lt 256 n.variables) _ e))

unbroken_few : (p : TProgram) (n : Tally) (h : Here) (k : TKind) → lowest (statement_rules p n h k) ≡ None → n.statements ≤ 8192
unbroken_few p n h k e = allowed n (cond_none (statement_passes n) 22 _ (later 19 (statement_rules p n h k) e)).0

none_later : (line : ℕ) (r : Option ℕ) (later : Option Broken) → or_later line r later ≡ None → (r ≡ None) × (later ≡ None)
none_later line (Some r) o e = absurd (cc e)
none_later line None o e = (refl, e)

item_brings : (n : Tally) (i : Item) → (with_item n i).statements ≡ n.statements
item_brings n (sensor_item x) = refl
item_brings n (port_item x) = refl
item_brings n (nv_item x d) = refl
item_brings n (function_item f) = refl

-- what elements bring that break no rule
few_brought : (p : TProgram) (n : Tally) (es : List Element) → n.statements ≤ 8192 → first_broken p n es ≡ None → n.statements + bring es ≤ 8192
few_brought p n [] s h = omega (arith, s)
few_brought p n (declared b line i ∷ es) s h =
    let g = none_later line (lowest (rules_of p (with_item n i) (declared b line i))) (first_broken p (with_item n i) es) h in
    let e = item_brings n i in
    let r = few_brought p (with_item n i) es (omega (arith, s, e)) g.1 in
    let c = sum_by-cons brought (declared b line i) es in
    omega (arith, e, r, c)
few_brought p n (statement h id line k ∷ es) s e =
    let m = with_statement n h k in
    let g = none_later line (lowest (statement_rules p m h k)) (first_broken p m es) e in
    let r = few_brought p m es (unbroken_few p m h k g.0) g.1 in
    let c = sum_by-cons brought (statement h id line k) es in
    omega (arith, r, c)
few_brought p n (ending line ∷ es) s h =
    let g = none_later line (lowest (rules_of p n (ending line))) (first_broken p n es) h in
    let r = few_brought p n es s g.1 in
    let c = sum_by-cons brought (ending line) es in
    omega (arith, r, c)

-- ---- what the elements of a tree bring

both : (xs ys : List Element) (m n : ℕ) → bring xs ≡ m → bring ys ≡ n → bring (xs ++ ys) ≡ m + n
both xs ys m n h k = sum_by-append brought xs ys ∙ ap (λ a. a + bring ys) h ∙ ap (λ a. m + a) k

module _ (p : TProgram) where
  mutual
    kind_brings : (h : Here) (k : TKind) → bring (kind_elements p h k) ≡ inner_size k
    kind_brings h (let_to m x t r) = refl
    kind_brings h (let_array m x t z n) = refl
    kind_brings h (assign x r) = refl
    kind_brings h (assign_index x e r) = refl
    kind_brings h (assign_deref x r) = refl
    kind_brings h (if_else c a b) = both (block_elements p (inside h) a) (else_elements p (inside h) b) (block_size a) (else_size b) (block_brings (inside h) a) (else_brings (inside h) b)
    kind_brings h (for_in x m n b) = block_brings (in_turn h x) b
    kind_brings h (while_do c n b) = block_brings (inside h) b
    kind_brings h (call_only c) = refl
    kind_brings h (sense_only s) = refl
    kind_brings h (emit port e) = refl
    kind_brings h (fresh x) = refl
    kind_brings h (consistent x n) = refl
    kind_brings h (return e) = refl

    else_brings : (h : Here) (b : TElse) → bring (else_elements p h b) ≡ else_size b
    else_brings h no_else = refl
    else_brings h (else_do b) = block_brings h b

    stmt_brings : (h : Here) (s : TStmt) → bring (stmt_elements p h s) ≡ stmt_size s
    stmt_brings h (stmt id line k) = sum_by-cons brought (statement h id line k) (kind_elements p h k) ∙ ap (λ n. own_pulls k + 1 + n) (kind_brings h k)

    block_brings : (h : Here) (b : TBlock) → bring (block_elements p h b) ≡ block_size b
    block_brings h (block id ss) = stmts_brings (record h { block = id }) ss

    stmts_brings : (h : Here) (ss : TStmts) → bring (stmts_elements p h ss) ≡ stmts_size ss
    stmts_brings h no_stmts = refl
    stmts_brings h (more s ss) = both (stmt_elements p (before_stmts h ss) s) (stmts_elements p (after_stmt p h s) ss) (stmt_size s) (stmts_size ss)
        (stmt_brings (before_stmts h ss) s) (stmts_brings (after_stmt p h s) ss)

  named_brings : (item : Text → Item) (b : Before) (line : ℕ) (x : Option Text) → bring (named_element item b line x) ≡ 0
  named_brings item b line None = refl
  named_brings item b line (Some x) = refl

  nv_brings : (b : Before) (line : ℕ) (x : Option Text) (d : Option NvDecl) → bring (nv_element b line x d) ≡ 0
  nv_brings b line None d = refl
  nv_brings b line (Some x) None = refl
  nv_brings b line (Some x) (Some d) = refl

  function_brings : (b : Before) (line : ℕ) (f : TFunction) → bring (function_elements p b line (Some f)) ≡ block_size f.body
  function_brings b line f = sum_by-cons brought (declared b line (function_item f)) (block_elements p (in_function f b.functions) f.body)
      ∙ omega (arith, block_brings (in_function f b.functions) f.body)

  -- ---- all functions are among the elements

  abbrev sizes : List TFunction → ℕ
  sizes fs = sum_by (λ f. block_size f.body) fs

  next_function : (fs : List TFunction) (i : ℕ) (g : TFunction) (gs : List TFunction) → drop i fs ≡ g ∷ gs → (slice_get fs i ≡ Some g) × (drop (i + 1) fs ≡ gs)
  next_function [] zero g gs e = absurd (cc e)
  next_function [] (suc i) g gs e = absurd (cc e)
  next_function (f ∷ fs) zero g gs e = (cc e, cc e)
  next_function (f ∷ fs) (suc i) g gs e =
      let s : suc i + 1 ≡ suc (i + 1) = omega arith in
      let r = next_function fs i g gs e in
      (r.0, ap (λ n. drop n (f ∷ fs)) s ∙ r.1)

  abbrev declares : List Decl → ℕ
  declares ds = count_by (λ d. is_function d.kind) ds

  -- where as many functions are declared as are left, they bring all their statements
  abbrev AllBrought : List Decl → Type 0
  AllBrought ds = (b : Before) (gs : List TFunction) → drop b.functions p.functions ≡ gs → declares ds ≡ length gs → bring (order_elements p b ds) ≡ sizes gs

  past_other : (xs : List Element) (c : Before) (ds : List Decl) (gs : List TFunction) → bring xs ≡ 0 → drop c.functions p.functions ≡ gs → 0 + declares ds ≡ length gs
      → AllBrought ds → bring (xs ++ order_elements p c ds) ≡ sizes gs
  past_other xs c ds gs x e l rest = both xs (order_elements p c ds) 0 (sizes gs) x (rest c gs e (omega (arith, l))) ∙ omega arith

  past_function : (b : Before) (line : ℕ) (ds : List Decl) (gs : List TFunction) → drop b.functions p.functions ≡ gs → 1 + declares ds ≡ length gs → AllBrought ds
      → bring (function_elements p b line (slice_get p.functions b.functions) ++ order_elements p (after_item b decls.Function) ds) ≡ sizes gs
  past_function b line ds [] e l rest = absurd (omega (arith, l))
  past_function b line ds (g ∷ gs) e l rest =
      let r = next_function p.functions b.functions g gs e in
      let others = order_elements p (after_item b decls.Function) ds in
      ap (λ o. bring (function_elements p b line o ++ others)) r.0
      ∙ both (function_elements p b line (Some g)) others (block_size g.body) (sizes gs) (function_brings b line g) (rest (after_item b decls.Function) gs r.1 (omega (arith, l)))
      ∙ sym (sum_by-cons (λ f. block_size f.body) g gs)

  past : (b : Before) (line : ℕ) (kind : DeclKind) (ds : List Decl) (gs : List TFunction) → drop b.functions p.functions ≡ gs → cond (is_function kind) 1 0 + declares ds ≡ length gs → AllBrought ds
      → bring (item_elements p b line kind ++ order_elements p (after_item b kind) ds) ≡ sizes gs
  past b line decls.Sensor ds gs e l rest =
      past_other (item_elements p b line decls.Sensor) (after_item b decls.Sensor) ds gs (named_brings sensor_item b line (slice_get p.names.sensors b.sensors)) e l rest
  past b line decls.Port ds gs e l rest = past_other (item_elements p b line decls.Port) (after_item b decls.Port) ds gs (named_brings port_item b line (slice_get p.names.ports b.ports)) e l rest
  past b line decls.Nv ds gs e l rest = past_other (item_elements p b line decls.Nv) (after_item b decls.Nv) ds gs (nv_brings b line (slice_get p.names.nvs b.nvs) (slice_get p.nv b.nvs)) e l rest
  past b line decls.Function ds gs e l rest = past_function b line ds gs e l rest

  order_brings : (ds : List Decl) → AllBrought ds
  order_brings [] b [] e l = refl
  order_brings [] b (g ∷ gs) e l = absurd (omega (arith, l))
  order_brings (d ∷ ds) b gs e l = past b d.line d.kind ds gs e (sym (sum_by-cons (λ x. cond (is_function x.kind) 1 0) d ds) ∙ l) (order_brings ds)

pub few_statements : (p : TProgram) → DeclaredInOrder p → broken_element p ≡ None → program_size p ≤ 8192
few_statements p d h =
    let b = order_brings p p.order nothing_before p.functions refl d.functions in
    let f = few_brought p nothing_counted (program_elements p) (omega arith) h in
    omega (arith, b, f)
