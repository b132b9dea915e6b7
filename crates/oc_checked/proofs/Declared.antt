-- What the rules say of the declarations of a program that breaks none: they are few, their arrays are of a fit length,
-- and the names of functions are new.
use Rattle.std.proofs.Common.{◌≡◌, ◌<◌, ◌≤◌, ℕ, zero, suc, ◌+◌, Bool, true, false, ◌||◌, List, [], ◌∷◌, ◌++◌, length, drop, sum_by, count_by, Some, None, cond, refl}
use Rattle.std.proofs.Common.{ap, sym, subst, ◌∙◌, arith}
use Rattle.std.specs.Prelude.{slice_get, nat_le, nat_lt}
use Rattle.std.proofs.lemmas.Bool.{leb-false, ltb-false, ltb-true}
use Rattle.std.proofs.Math.Dec.{ltb}
use Rattle.std.proofs.lemmas.Option.{none-some, same_Some}
use Rattle.std.proofs.lemmas.List.Sums.{sum_by-cons}
use Rattle.oc_tree.specs.Names.{Text}
use Rattle.oc_tree.specs.Tree.{TKind, if_else, for_in, while_do}
use Rattle.oc_tree.specs.Tree.{TElse, no_else, else_do, TStmt, stmt, TBlock, block, TStmts, no_stmts, more, TFunction, TProgram}
use Rattle.oc_tree.specs.declared.before.Before.{Before}
use Rattle.oc_tree.specs.declared.tree.Decl.{Decl}
use Rattle.oc_tree.specs.declared.tree.DeclKind.{DeclKind}
use Rattle.oc_tree.specs.declared.tree.DeclKind.TheVariants as decls
use Rattle.oc_tree.specs.declared.tree.NvDecl.{NvDecl}
use Rattle.oc_tree.specs.Form.{is_sensor, is_port, is_nv, is_function, DeclaredInOrder}
use Rattle.oc_tree.specs.Calls.{place, function_place}
use Rattle.oc_tree.specs.Scope.{nv_kind}
use Rattle.oc_tree.specs.Elements.{sensor_item, port_item, nv_item, function_item, Here, Element, declared, statement, ending, inside, in_turn, before_stmts, after_stmt}
use Rattle.oc_tree.specs.Elements.{kind_elements, else_elements, stmt_elements, block_elements, stmts_elements, in_function, named_element, nv_element, function_elements}
use Rattle.oc_tree.specs.Elements.{item_elements, after_item, order_elements, nothing_before}
use Rattle.oc_tree.specs.Limits.{Tally, nothing_counted, counted, with_item}
use Rattle.oc_tree.specs.Rules.{stands_before, declared_before, main_head, main_missing, has_bad_length}
use Rattle.oc_tree.specs.Broken.{item_rules, end_rules, first_broken, broken}
use Rattle.oc_desugar.proofs.KeptClean.{tally, tally_join, first_clean, apart_of}
use Rattle.oc_desugar.proofs.SizesKept.{unbroken_element}
use Rattle.oc_desugar.proofs.Unbroken.{Passes, none_broken}
use Rattle.oc_laws.proofs.Members.{some_at}
use Rattle.oc_checked.proofs.BodiesPass.{first_fails, second_fails}

-- no function of that name stands before
new_name : (p : TProgram) (b : Before) (x : Text) → declared_before p b x ≡ false → stands_before (function_place p.functions x) b.functions ≡ false
new_name p b x h =
    let s = stands_before (place p.names.sensors x) b.sensors in
    let q = stands_before (place p.names.ports x) b.ports in
    let v = stands_before (place p.names.nvs x) b.nvs in
    let f = stands_before (function_place p.functions x) b.functions in
    second_fails v f (second_fails q (v || f) (second_fails s (q || (v || f)) h))

-- ---- lists

-- the rest of a list begins with what stands there
drop_at : {A : Type 0} (xs : List A) (i : ℕ) (x : A) → slice_get xs i ≡ Some x → drop i xs ≡ x ∷ drop (i + 1) xs
drop_at [] zero x e = absurd (none-some x e)
drop_at [] (suc i) x e = absurd (none-some x e)
drop_at (y ∷ ys) zero x e = ap (λ z. z ∷ ys) (same_Some y x e)
drop_at (y ∷ ys) (suc i) x e = let s : suc (i + 1) ≡ suc i + 1 = omega arith in drop_at ys i x e ∙ ap (λ n. x ∷ drop n (y ∷ ys)) s

-- ---- statements bring no nonvolatile words

module _ (p : TProgram) where
  -- elements bring no nonvolatile words
  abbrev NoWords : List Element → Type 0
  NoWords es = (n : Tally) → (tally n es).words ≡ n.words

  -- nor do two such lists
  no_words_join : (xs ys : List Element) → NoWords xs → NoWords ys → NoWords (xs ++ ys)
  no_words_join xs ys h g n = ap (λ m. m.words) (tally_join n xs ys) ∙ g (tally n xs) ∙ h n

  mutual
    -- the statements in a statement
    kind_no_words : (h : Here) (k : TKind) → NoWords (kind_elements p h k)
    kind_no_words h (if_else c a b) n = no_words_join (block_elements p (inside h) a) (else_elements p (inside h) b) (block_no_words (inside h) a) (else_no_words (inside h) b) n
    kind_no_words h (for_in x c d b) n = block_no_words (in_turn h x) b n
    kind_no_words h (while_do c t b) n = block_no_words (inside h) b n
    kind_no_words h k n = refl

    -- those behind `else`
    else_no_words : (h : Here) (b : TElse) → NoWords (else_elements p h b)
    else_no_words h no_else n = refl
    else_no_words h (else_do b) n = block_no_words h b n

    -- a statement
    stmt_no_words : (h : Here) (s : TStmt) → NoWords (stmt_elements p h s)
    stmt_no_words h (stmt id line k) n = kind_no_words h k (counted n (statement h id line k))

    -- a block
    block_no_words : (h : Here) (b : TBlock) → NoWords (block_elements p h b)
    block_no_words h (block id ss) n = stmts_no_words (record h { block = id }) ss n

    -- statements
    stmts_no_words : (h : Here) (ss : TStmts) → NoWords (stmts_elements p h ss)
    stmts_no_words h no_stmts n = refl
    stmts_no_words h (more s ss) n = no_words_join (stmt_elements p (before_stmts h ss) s) (stmts_elements p (after_stmt p h s) ss) (stmt_no_words (before_stmts h ss) s)
        (stmts_no_words (after_stmt p h s) ss) n

-- ---- the declarations one after the other

-- the words of nonvolatile variables
abbrev pub words_in : List NvDecl → ℕ
words_in ds = sum_by (λ d. d.words) ds

-- what is known of a function's head
pub record HeadFine (p : TProgram) (i : ℕ) (f : TFunction) : Type 0 where
  pub new : stands_before (function_place p.functions f.name) i ≡ false
  pub main : main_head f ≡ false
  pub few_params : length f.params ≤ 8

-- what is known where these are declared and counted
pub record Within (p : TProgram) (n : Tally) (b : Before) : Type 0 where
  pub sensors : b.sensors ≤ 64
  pub ports : b.ports ≤ 64
  pub nvs : b.nvs ≤ 64
  pub functions : b.functions ≤ 128
  pub counted_words : n.words + words_in (drop b.nvs p.nv) ≡ words_in p.nv
  pub few_words : n.words ≤ 65536
  pub lengths : (i : ℕ) (d : NvDecl) → i < b.nvs → slice_get p.nv i ≡ Some d → has_bad_length (nv_kind d) ≡ false
  pub heads : (i : ℕ) (f : TFunction) → i < b.functions → slice_get p.functions i ≡ Some f → HeadFine p i f

-- how many are still to be declared
abbrev still : (DeclKind → Bool) → List Decl → ℕ
still test ds = count_by (λ d. test d.kind) ds

record Left (p : TProgram) (b : Before) (ds : List Decl) : Type 0 where
  sensors : b.sensors + still is_sensor ds ≡ length p.names.sensors
  ports : b.ports + still is_port ds ≡ length p.names.ports
  nvs : b.nvs + still is_nv ds ≡ length p.names.nvs
  functions : b.functions + still is_function ds ≡ length p.functions

-- all is declared
pub record AllWithin (p : TProgram) : Type 0 where
  pub tally : Tally
  pub before : Before
  pub within : Within p tally before
  pub sensors : before.sensors ≡ length p.names.sensors
  pub ports : before.ports ≡ length p.names.ports
  pub nvs : before.nvs ≡ length p.names.nvs
  pub functions : before.functions ≡ length p.functions
  pub main_there : main_missing p ≡ false

module _ (p : TProgram) (each : length p.nv ≡ length p.names.nvs) where
  -- elements break no rule
  abbrev Clean : Tally → List Element → Type 0
  Clean n es = first_broken p n es ≡ None

  -- one more sensor
  sensor_within : (n : Tally) (b : Before) (line : ℕ) → Clean n (item_elements p b line decls.Sensor) → b.sensors < length p.names.sensors → Within p n b
      → Within p (tally n (item_elements p b line decls.Sensor)) (after_item b decls.Sensor)
  sensor_within n b line h l w =
      let x = some_at p.names.sensors b.sensors l in
      let c = subst (λ o. Clean n (named_element sensor_item b line o)) x.1 h in
      let t : Passes (item_rules p n b (sensor_item x.0)) = none_broken (item_rules p n b (sensor_item x.0)) (first_clean p n (declared b line (sensor_item x.0)) [] c).0 in
      let s : b.sensors < 64 = leb-false 64 b.sensors t.1.0 in
      subst (λ o. Within p (tally n (named_element sensor_item b line o)) (after_item b decls.Sensor)) (sym x.1)
      (record { sensors = omega (arith, s); ports = w.ports; nvs = w.nvs; functions = w.functions; counted_words = w.counted_words; few_words = w.few_words; lengths = w.lengths; heads = w.heads })

  -- one more port
  port_within : (n : Tally) (b : Before) (line : ℕ) → Clean n (item_elements p b line decls.Port) → b.ports < length p.names.ports → Within p n b
      → Within p (tally n (item_elements p b line decls.Port)) (after_item b decls.Port)
  port_within n b line h l w =
      let x = some_at p.names.ports b.ports l in
      let c = subst (λ o. Clean n (named_element port_item b line o)) x.1 h in
      let t : Passes (item_rules p n b (port_item x.0)) = none_broken (item_rules p n b (port_item x.0)) (first_clean p n (declared b line (port_item x.0)) [] c).0 in
      let s : b.ports < 64 = leb-false 64 b.ports t.1.0 in
      subst (λ o. Within p (tally n (named_element port_item b line o)) (after_item b decls.Port)) (sym x.1)
      (record { sensors = w.sensors; ports = omega (arith, s); nvs = w.nvs; functions = w.functions; counted_words = w.counted_words; few_words = w.few_words; lengths = w.lengths; heads = w.heads })

  -- one more nonvolatile variable
  nv_within : (n : Tally) (b : Before) (line : ℕ) → Clean n (item_elements p b line decls.Nv) → b.nvs < length p.names.nvs → Within p n b
      → Within p (tally n (item_elements p b line decls.Nv)) (after_item b decls.Nv)
  nv_within n b line h l w =
      let x = some_at p.names.nvs b.nvs l in
      let d = some_at p.nv b.nvs (omega (arith, l, each)) in
      let m = with_item n (nv_item x.0 d.0) in
      let c = subst (λ o. Clean n (nv_element b line (Some x.0) o)) d.1 (subst (λ o. Clean n (nv_element b line o (slice_get p.nv b.nvs))) x.1 h) in
      let t : Passes (item_rules p m b (nv_item x.0 d.0)) = none_broken (item_rules p m b (nv_item x.0 d.0)) (first_clean p n (declared b line (nv_item x.0 d.0)) [] c).0 in
      let limit : nat_le 64 b.nvs || nat_lt 65536 m.words ≡ false = t.1.1.0 in
      let s : b.nvs < 64 = leb-false 64 b.nvs (first_fails (nat_le 64 b.nvs) (nat_lt 65536 m.words) limit) in
      let few : m.words ≤ 65536 = ltb-false 65536 m.words (second_fails (nat_le 64 b.nvs) (nat_lt 65536 m.words) limit) in
      let rest = ap words_in (drop_at p.nv b.nvs d.0 d.1) ∙ sum_by-cons (λ d. d.words) d.0 (drop (b.nvs + 1) p.nv) in
      subst (λ o. Within p (tally n (nv_element b line o (slice_get p.nv b.nvs))) (after_item b decls.Nv)) (sym x.1)
      (subst (λ o. Within p (tally n (nv_element b line (Some x.0) o)) (after_item b decls.Nv)) (sym d.1)
      (record {
        sensors = w.sensors;
        ports = w.ports;
        nvs = omega (arith, s);
        functions = w.functions;
        counted_words = omega (arith, w.counted_words, rest);
        few_words = few;
        lengths = λ i g below e. go i g below e (ltb i b.nvs) refl t.1.0 d.1;
        heads = w.heads;
      }))
    where
      go : (i : ℕ) (g : NvDecl) → i < b.nvs + 1 → slice_get p.nv i ≡ Some g → (r : Bool) → ltb i b.nvs ≡ r → {d : NvDecl} → has_bad_length (nv_kind d) ≡ false
          → slice_get p.nv b.nvs ≡ Some d → has_bad_length (nv_kind g) ≡ false
      go i g below e true is good at = w.lengths i g (ltb-true i b.nvs is) e
      go i g below e false is {d = d} good at =
          let same : b.nvs ≡ i = omega (arith, below, ltb-false i b.nvs is) in
          subst (λ d. has_bad_length (nv_kind d) ≡ false) (same_Some d g (sym at ∙ ap (slice_get p.nv) same ∙ e)) good

  -- one more function
  function_within : (n : Tally) (b : Before) (line : ℕ) → Clean n (item_elements p b line decls.Function) → b.functions < length p.functions → Within p n b
      → Within p (tally n (item_elements p b line decls.Function)) (after_item b decls.Function)
  function_within n b line h l w =
      let x = some_at p.functions b.functions l in
      let f = x.0 in
      let m = with_item n (function_item f) in
      let body = block_elements p (in_function f b.functions) f.body in
      let c = subst (λ o. Clean n (function_elements p b line o)) x.1 h in
      let t : Passes (item_rules p m b (function_item f)) = none_broken (item_rules p m b (function_item f)) (first_clean p n (declared b line (function_item f)) body c).0 in
      let s : b.functions < 128 = leb-false 128 b.functions (first_fails (nat_le 128 b.functions) (nat_lt 8 (length f.params) || nat_lt 256 m.variables) t.1.1.1.1.1.1.0) in
      let params : length f.params ≤ 8 = ltb-false 8 (length f.params)
      (first_fails (nat_lt 8 (length f.params)) (nat_lt 256 m.variables) (second_fails (nat_le 128 b.functions) (nat_lt 8 (length f.params) || nat_lt 256 m.variables) t.1.1.1.1.1.1.0)) in
      let new : stands_before (function_place p.functions f.name) b.functions ≡ false = new_name p b f.name t.0 in
      let same : (tally m body).words ≡ n.words = block_no_words p (in_function f b.functions) f.body m in
      subst (λ o. Within p (tally n (function_elements p b line o)) (after_item b decls.Function)) (sym x.1)
      (record {
        sensors = w.sensors;
        ports = w.ports;
        nvs = w.nvs;
        functions = omega (arith, s);
        counted_words = omega (arith, w.counted_words, same);
        few_words = omega (arith, w.few_words, same);
        lengths = w.lengths;
        heads = λ i g below e. go i g below e (ltb i b.functions) refl (record { new = new; main = t.1.1.0; few_params = params }) x.1;
      })
    where
      go : (i : ℕ) (g : TFunction) → i < b.functions + 1 → slice_get p.functions i ≡ Some g → (r : Bool) → ltb i b.functions ≡ r → {f : TFunction} → HeadFine p b.functions f
          → slice_get p.functions b.functions ≡ Some f → HeadFine p i g
      go i g below e true is fine at = w.heads i g (ltb-true i b.functions is) e
      go i g below e false is {f = f} fine at =
          let same : b.functions ≡ i = omega (arith, below, ltb-false i b.functions is) in
          subst (λ j. HeadFine p j g) same (subst (λ f. HeadFine p b.functions f) (same_Some f g (sym at ∙ ap (slice_get p.functions) same ∙ e)) fine)

  -- what is declared first is one of those to be declared
  one_more : (test : DeclKind → Bool) (d : Decl) (ds : List Decl) → still test (d ∷ ds) ≡ cond {A = ℕ} (test d.kind) 1 0 + still test ds
  one_more test d ds = sum_by-cons (λ x. cond {A = ℕ} (test x.kind) 1 0) d ds

  -- the numbers with those of one declaration more
  abbrev LeftMore : Before → DeclKind → List Decl → Type 0
  LeftMore b k ds = (b.sensors + (cond {A = ℕ} (is_sensor k) 1 0 + still is_sensor ds) ≡ length p.names.sensors) ×
      (b.ports + (cond {A = ℕ} (is_port k) 1 0 + still is_port ds) ≡ length p.names.ports) × (b.nvs + (cond {A = ℕ} (is_nv k) 1 0 + still is_nv ds) ≡ length p.names.nvs) ×
      (b.functions + (cond {A = ℕ} (is_function k) 1 0 + still is_function ds) ≡ length p.functions)

  -- one more declaration
  item_within : (n : Tally) (b : Before) (line : ℕ) (k : DeclKind) (ds : List Decl) → LeftMore b k ds → Clean n (item_elements p b line k) → Within p n b
      → Within p (tally n (item_elements p b line k)) (after_item b k) × Left p (after_item b k) ds
  item_within n b line decls.Sensor ds l h w =
      (sensor_within n b line h (omega (arith, l.0)) w, record { sensors = omega (arith, l.0); ports = omega (arith, l.1); nvs = omega (arith, l.2); functions = omega (arith, l.3) })
  item_within n b line decls.Port ds l h w =
      (port_within n b line h (omega (arith, l.1)) w, record { sensors = omega (arith, l.0); ports = omega (arith, l.1); nvs = omega (arith, l.2); functions = omega (arith, l.3) })
  item_within n b line decls.Nv ds l h w = (
    nv_within n b line h (omega (arith, l.2)) w,
    record {
      sensors = omega (arith, l.0);
      ports = omega (arith, l.1);
      nvs =
          omega (arith, l.2);
      functions = omega (arith, l.3);
    },
  )
  item_within n b line decls.Function ds l h w =
      (function_within n b line h (omega (arith, l.3)) w, record { sensors = omega (arith, l.0); ports = omega (arith, l.1); nvs = omega (arith, l.2); functions = omega (arith, l.3) })

  -- the declarations that are left
  order_within : (n : Tally) (b : Before) (ds : List Decl) → Left p b ds → Clean n (order_elements p b ds) → Within p n b → AllWithin p
  order_within n b [] l h w =
      let t : Passes (end_rules p) = none_broken (end_rules p) (first_clean p n (ending p.last_line) [] h).0 in
      record {
        tally = n;
        before = b;
        within = w;
        sensors = omega (arith, l.sensors);
        ports = omega (arith, l.ports);
        nvs = omega (arith, l.nvs);
        functions =
            omega (arith, l.functions);
        main_there = t.0;
      }
  order_within n b (d ∷ ds) l h w =
      let xs = item_elements p b d.line d.kind in
      let ys = order_elements p (after_item b d.kind) ds in
      let parts = apart_of p n xs ys h in
      let left : LeftMore b d.kind ds = (
        ap (λ m. b.sensors + m) (sym (one_more is_sensor d ds)) ∙ l.sensors,
        ap (λ m. b.ports + m) (sym (one_more is_port d ds))
            ∙ l.ports,
        ap (λ m. b.nvs + m) (sym (one_more is_nv d ds)) ∙ l.nvs,
        ap (λ m. b.functions + m) (sym (one_more is_function d ds)) ∙ l.functions,
      ) in
      let next = item_within n b d.line d.kind ds left parts.0 w in
      order_within (tally n xs) (after_item b d.kind) ds next.1 parts.1 next.0

-- all declarations of a program that breaks no rule
pub all_within : (p : TProgram) → DeclaredInOrder p → broken p ≡ None → AllWithin p
all_within p o h =
    order_within p o.each_nv nothing_counted nothing_before p.order
    (record { sensors = omega (arith, o.sensors); ports = omega (arith, o.ports); nvs = omega (arith, o.nvs); functions = omega (arith, o.functions) })
    (unbroken_element p h)
    (record {
      sensors = omega arith;
      ports = omega arith;
      nvs = omega arith;
      functions = omega arith;
      counted_words = omega arith;
      few_words = omega arith;
      lengths =
          λ i d below e. absurd (omega (arith, below));
      heads = λ i f below e. absurd (omega (arith, below));
    })
