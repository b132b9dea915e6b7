-- The walk gives the first element of the list that breaks a rule.
use Rattle.std.proofs.Common.{◌≡◌, ℕ, List, [], ◌∷◌, ◌++◌, Some, None, refl, ap, sym, ◌∙◌}
use Rattle.std.specs.Prelude.{Option, slice_get}
use Rattle.oc_tree.specs.Names.{Text}
use Rattle.oc_tree.specs.Tree.{TKind, let_to, let_array, assign, assign_index, assign_deref, if_else, for_in, while_do, call_only, sense_only, emit, fresh, consistent, return}
use Rattle.oc_tree.specs.Tree.{TElse, no_else, else_do, TStmt, stmt, TBlock, block, TStmts, no_stmts, more, TFunction, TProgram}
use Rattle.oc_tree.specs.declared.tree.NvDecl.{NvDecl}
use Rattle.oc_tree.specs.declared.tree.Decl.{Decl}
use Rattle.oc_tree.specs.declared.tree.DeclKind.{DeclKind}
use Rattle.oc_tree.specs.declared.tree.DeclKind.TheVariants as decls
use Rattle.oc_tree.specs.declared.before.Before.{Before}
use Rattle.oc_tree.specs.declared.broken.Broken.{Broken}
use Rattle.oc_tree.specs.Elements.{Item, sensor_item, port_item, nv_item, function_item, Here, Element, line_of, after_stmt, in_turn, inside, before_stmts, in_function, after_item}
use Rattle.oc_tree.specs.Elements.{nothing_before, kind_elements, else_elements, stmt_elements, block_elements, stmts_elements, named_element, nv_element, function_elements}
use Rattle.oc_tree.specs.Elements.{item_elements, order_elements, program_elements}
use Rattle.oc_tree.specs.Limits.{Tally, nothing_counted, counted, with_statement}
use Rattle.oc_tree.specs.Broken.{statement_rules, end_rules, rules_of, lowest, or_later, first_broken, broken_element}
use Rattle.oc_types.specs.Walk.{Walk, stop, go, and_then, found, element, kind_walk, else_walk, stmt_walk, block_walk, stmts_walk, declaration_walk, named_walk, nv_walk}
use Rattle.oc_types.specs.Walk.{function_walk, item_walk, order_walk, program_walk, list_walk}

and_then_ext : (w : Walk) (f g : Tally → Walk) → ((n : Tally) → f n ≡ g n) → and_then w f ≡ and_then w g
and_then_ext (stop b) f g h = refl
and_then_ext (go n) f g h = h n

and_then_assoc : (w : Walk) (f g : Tally → Walk) → and_then (and_then w f) g ≡ and_then w (λ n. and_then (f n) g)
and_then_assoc (stop b) f g = refl
and_then_assoc (go n) f g = refl

and_then_go : (w : Walk) → and_then w (λ n. go n) ≡ w
and_then_go (stop b) = refl
and_then_go (go n) = refl

module _ (p : TProgram) where
  walk_append : (n : Tally) (xs ys : List Element) → list_walk p n (xs ++ ys) ≡ and_then (list_walk p n xs) (λ m. list_walk p m ys)
  walk_append n [] ys = refl
  walk_append n (e ∷ es) ys =
      let w = element (line_of e) (lowest (rules_of p (counted n e) e)) (counted n e) in
      and_then_ext w (λ m. list_walk p m (es ++ ys)) (λ m. and_then (list_walk p m es) (λ m. list_walk p m ys)) (λ m. walk_append m es ys)
      ∙ sym (and_then_assoc w (λ m. list_walk p m es) (λ m. list_walk p m ys))

  -- one part and then another
  in_succession : (n : Tally) (xs ys : List Element) (w : Walk) (f : Tally → Walk)
      → list_walk p n xs ≡ w → ((m : Tally) → list_walk p m ys ≡ f m) → list_walk p n (xs ++ ys) ≡ and_then w f
  in_succession n xs ys w f a b =
      walk_append n xs ys
      ∙ ap (λ w. and_then w (λ m. list_walk p m ys)) a
      ∙ and_then_ext w (λ m. list_walk p m ys) f b

  mutual
    kind_in_order : (h : Here) (n : Tally) (k : TKind) → list_walk p n (kind_elements p h k) ≡ kind_walk p h n k
    kind_in_order h n (if_else c a b) = in_succession n (block_elements p (inside h) a) (else_elements p (inside h) b) (block_walk p (inside h) n a)
        (λ m. else_walk p (inside h) m b) (block_in_order (inside h) n a) (λ m. else_in_order (inside h) m b)
    kind_in_order h n (for_in x from to b) = block_in_order (in_turn h x) n b
    kind_in_order h n (while_do c bound b) = block_in_order (inside h) n b
    kind_in_order h n (let_to m x k r) = refl
    kind_in_order h n (let_array m x k i w) = refl
    kind_in_order h n (assign x r) = refl
    kind_in_order h n (assign_index x i r) = refl
    kind_in_order h n (assign_deref x r) = refl
    kind_in_order h n (call_only c) = refl
    kind_in_order h n (sense_only s) = refl
    kind_in_order h n (emit port e) = refl
    kind_in_order h n (fresh x) = refl
    kind_in_order h n (consistent x i) = refl
    kind_in_order h n (return e) = refl

    else_in_order : (h : Here) (n : Tally) (b : TElse) → list_walk p n (else_elements p h b) ≡ else_walk p h n b
    else_in_order h n no_else = refl
    else_in_order h n (else_do b) = block_in_order h n b

    stmt_in_order : (h : Here) (n : Tally) (s : TStmt) → list_walk p n (stmt_elements p h s) ≡ stmt_walk p h n s
    stmt_in_order h n (stmt id line k) =
        and_then_ext (element line (lowest (statement_rules p (with_statement n h k) h k)) (with_statement n h k)) (λ m. list_walk p m (kind_elements p h k))
        (λ m. kind_walk p h m k) (λ m. kind_in_order h m k)

    block_in_order : (h : Here) (n : Tally) (b : TBlock) → list_walk p n (block_elements p h b) ≡ block_walk p h n b
    block_in_order h n (block id ss) = stmts_in_order (record h { block = id }) n ss

    stmts_in_order : (h : Here) (n : Tally) (ss : TStmts) → list_walk p n (stmts_elements p h ss) ≡ stmts_walk p h n ss
    stmts_in_order h n no_stmts = refl
    stmts_in_order h n (more s ss) =
        in_succession n (stmt_elements p (before_stmts h ss) s) (stmts_elements p (after_stmt p h s) ss)
        (stmt_walk p (before_stmts h ss) n s) (λ m. stmts_walk p (after_stmt p h s) m ss)
        (stmt_in_order (before_stmts h ss) n s) (λ m. stmts_in_order (after_stmt p h s) m ss)

  named_in_order : (item : Text → Item) (b : Before) (n : Tally) (line : ℕ) (x : Option Text)
      → ((y : Text) → list_walk p n (named_element item b line (Some y)) ≡ declaration_walk p b n line (item y))
      → list_walk p n (named_element item b line x) ≡ named_walk item p b n line x
  named_in_order item b n line None one = refl
  named_in_order item b n line (Some x) one = one x

  nv_in_order : (b : Before) (n : Tally) (line : ℕ) (x : Option Text) (d : Option NvDecl) → list_walk p n (nv_element b line x d) ≡ nv_walk p b n line x d
  nv_in_order b n line (Some x) (Some d) = and_then_go (declaration_walk p b n line (nv_item x d))
  nv_in_order b n line (Some x) None = refl
  nv_in_order b n line None d = refl

  function_in_order : (b : Before) (n : Tally) (line : ℕ) (f : Option TFunction) → list_walk p n (function_elements p b line f) ≡ function_walk p b n line f
  function_in_order b n line None = refl
  function_in_order b n line (Some f) =
      and_then_ext (declaration_walk p b n line (function_item f)) (λ m. list_walk p m (block_elements p (in_function f b.functions) f.body))
      (λ m. block_walk p (in_function f b.functions) m f.body) (λ m. block_in_order (in_function f b.functions) m f.body)

  item_in_order : (b : Before) (n : Tally) (line : ℕ) (k : DeclKind) → list_walk p n (item_elements p b line k) ≡ item_walk p b n line k
  item_in_order b n line decls.Sensor = named_in_order sensor_item b n line (slice_get p.names.sensors b.sensors) (λ x. and_then_go (declaration_walk p b n line (sensor_item x)))
  item_in_order b n line decls.Port = named_in_order port_item b n line (slice_get p.names.ports b.ports) (λ x. and_then_go (declaration_walk p b n line (port_item x)))
  item_in_order b n line decls.Nv = nv_in_order b n line (slice_get p.names.nvs b.nvs) (slice_get p.nv b.nvs)
  item_in_order b n line decls.Function = function_in_order b n line (slice_get p.functions b.functions)

  order_in_order : (b : Before) (n : Tally) (ds : List Decl) → list_walk p n (order_elements p b ds) ≡ order_walk p b n ds
  order_in_order b n [] = and_then_go (element p.last_line (lowest (end_rules p)) n)
  order_in_order b n (d ∷ ds) =
      in_succession n (item_elements p b d.line d.kind) (order_elements p (after_item b d.kind) ds) (item_walk p b n d.line d.kind) (λ m. order_walk p (after_item b d.kind) m ds)
      (item_in_order b n d.line d.kind) (λ m. order_in_order (after_item b d.kind) m ds)

  found_here : (line : ℕ) (rule : Option ℕ) (n : Tally) (next : Tally → Walk) (later : Option Broken) → found (next n) ≡ later → found (and_then (element line rule n) next) ≡ or_later line rule later
  found_here line None n next later e = e
  found_here line (Some r) n next later e = refl

  first_found : (n : Tally) (es : List Element) → found (list_walk p n es) ≡ first_broken p n es
  first_found n [] = refl
  first_found n (e ∷ es) = found_here (line_of e) (lowest (rules_of p (counted n e) e)) (counted n e) (λ m. list_walk p m es) (first_broken p (counted n e) es) (first_found (counted n e) es)

  -- what the walk finds is the first element that breaks a rule
  pub in_order : found (program_walk p) ≡ broken_element p
  in_order = ap found (sym (order_in_order nothing_before nothing_counted p.order)) ∙ first_found nothing_counted (program_elements p)

pub ends_broken : (p : TProgram) (r : Option Broken) → found (program_walk p) ≡ r → r ≡ broken_element p
ends_broken p r e = sym e ∙ in_order p
