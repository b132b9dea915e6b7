-- The elements of an expansion break no rule, where those of the program break none.
use Rattle.std.proofs.Common.{◌≡◌, ◌≤◌, ◌^◌, ℕ, zero, suc, ◌+◌, Bool, List, [], ◌∷◌, refl, ap, sym, subst, ◌∙◌, arith, Option, Some, None, All, sum_by}
use Rattle.std.specs.Prelude.{not, slice_get}
use Rattle.std.specs.List.{list_any}
use Rattle.std.proofs.lemmas.List.Sums.{sum_by-cons}
use Rattle.std.proofs.lemmas.List.Elements.{All-tail}
use Rattle.oc_lex.specs.Stands.{IsName}
use Rattle.oc_tree.specs.Names.{Text}
use Rattle.oc_tree.specs.Tree.{TFunction, TProgram}
use Rattle.oc_tree.specs.declared.before.Before.{Before}
use Rattle.oc_tree.specs.declared.tree.NvDecl.{NvDecl}
use Rattle.oc_tree.specs.declared.tree.Decl.{Decl}
use Rattle.oc_tree.specs.declared.tree.DeclKind.{DeclKind}
use Rattle.oc_tree.specs.declared.tree.DeclKind.TheVariants as decls
use Rattle.oc_tree.specs.Pulls.{block_pulls}
use Rattle.oc_tree.specs.Scope.{nv_kind}
use Rattle.oc_tree.specs.Form.{FunctionInForm}
use Rattle.oc_tree.specs.Elements.{sensor_item, port_item, nv_item, function_item, declared, ending, in_function, named_element, nv_element, function_elements, item_elements}
use Rattle.oc_tree.specs.Elements.{after_item, order_elements, block_elements}
use Rattle.oc_tree.specs.Limits.{Tally, with_item, item_passes}
use Rattle.oc_tree.specs.Rules.{main_head, has_bad_length, is_array_value}
use Rattle.oc_tree.specs.Broken.{Table, item_rules, lowest, first_broken}
use Rattle.oc_tree.specs.Expansion.{expand_function, expand_functions, expansion, block_size}
use Rattle.oc_desugar.proofs.Seen.{SameHere}
use Rattle.oc_desugar.proofs.KeptNumbers.{BlockPlaced, FunctionsPlaced}
use Rattle.oc_desugar.proofs.KeptCounts.{new_tally, Apart}
use Rattle.oc_desugar.proofs.KeptClean.{tally, tally_join, Clean, clean_none, clean_first, clean_join, first_clean, apart_of, Laws}
use Rattle.oc_desugar.proofs.KeptElements.{block_clean}
use Rattle.oc_desugar.proofs.KeptItems.{same_declared_before, same_takes_param, has_main, same_missing, sees_params, unused_params}

-- what the rules of a function's head look at
same_item : (p : TProgram) (f : ℕ → ℕ) (n : Tally) (b : Before) (k i : ℕ) (g : TFunction)
    → item_rules (expansion p) (with_item (new_tally f n) (function_item (expand_function k i g))) b (function_item (expand_function k i g))
    ≡ item_rules p (with_item n (function_item g)) b (function_item g)
same_item p f n b k i g =
    let before = same_declared_before p b g.name in
    let params = same_takes_param p [] g.params in
    let missing = same_missing k i g in
    λ z. table (before z) (params z) (missing z)
  where
    table : (x y z : Bool) → Table
    table x y z = (1, x) ∷ (2, y) ∷ (4, main_head g) ∷ (10, list_any (λ q. has_bad_length q.kind) g.params) ∷ (17, list_any is_array_value g.params) ∷ (19, z) ∷
        (22, item_passes (with_item n (function_item g)) b (function_item g)) ∷ []

module _ (p : TProgram) (f : ℕ → ℕ) (laws : Laws p (expansion p) f) (apart : Apart f) where
  -- the declaration of a sensor
  sensor_clean : (n : Tally) (b : Before) (line : ℕ) (o : Option Text) → first_broken p n (named_element sensor_item b line o) ≡ None
      → Clean (expansion p) (new_tally f n) (named_element sensor_item b line o) (new_tally f (tally n (named_element sensor_item b line o)))
  sensor_clean n b line None h = clean_none (expansion p) _ _ refl
  sensor_clean n b line (Some x) h =
      clean_first (expansion p) (new_tally f n) (declared b line (sensor_item x)) [] (new_tally f n)
      (ap (λ e. lowest ((1, e) ∷ (22, item_passes n b (sensor_item x)) ∷ [])) (same_declared_before p b x) ∙ (first_clean p n (declared b line (sensor_item x)) [] h).0)
      (clean_none (expansion p) _ _ refl)

  -- of a port
  port_clean : (n : Tally) (b : Before) (line : ℕ) (o : Option Text) → first_broken p n (named_element port_item b line o) ≡ None
      → Clean (expansion p) (new_tally f n) (named_element port_item b line o) (new_tally f (tally n (named_element port_item b line o)))
  port_clean n b line None h = clean_none (expansion p) _ _ refl
  port_clean n b line (Some x) h =
      clean_first (expansion p) (new_tally f n) (declared b line (port_item x)) [] (new_tally f n)
      (ap (λ e. lowest ((1, e) ∷ (22, item_passes n b (port_item x)) ∷ [])) (same_declared_before p b x) ∙ (first_clean p n (declared b line (port_item x)) [] h).0)
      (clean_none (expansion p) _ _ refl)

  -- of a nonvolatile variable
  nv_clean : (n : Tally) (b : Before) (line : ℕ) (o : Option Text) (v : Option NvDecl) → first_broken p n (nv_element b line o v) ≡ None
      → Clean (expansion p) (new_tally f n) (nv_element b line o v) (new_tally f (tally n (nv_element b line o v)))
  nv_clean n b line None v h = clean_none (expansion p) _ _ refl
  nv_clean n b line (Some x) None h = clean_none (expansion p) _ _ refl
  nv_clean n b line (Some x) (Some d) h =
      clean_first (expansion p) (new_tally f n) (declared b line (nv_item x d)) [] (new_tally f (with_item n (nv_item x d)))
      (ap (λ e. lowest ((1, e) ∷ (10, has_bad_length (nv_kind d)) ∷ (22, item_passes (with_item n (nv_item x d)) b (nv_item x d)) ∷ [])) (same_declared_before p b x)
      ∙ (first_clean p n (declared b line (nv_item x d)) [] h).0)
      (clean_none (expansion p) _ _ refl)

  -- a function's head and its body
  function_clean : (n : Tally) (b : Before) (line k i : ℕ) (g : TFunction) → FunctionInForm IsName g → k + block_pulls g.body ≤ 2 ^ 64 → BlockPlaced f i g.body
      → first_broken p n (function_elements p b line (Some g)) ≡ None → Clean (expansion p) (new_tally f n) (function_elements (expansion p) b line (Some (expand_function k i g)))
      (new_tally f (tally n (function_elements p b line (Some g))))
  function_clean n b line k i g w bound at h =
      let q = expansion p in
      let g' = expand_function k i g in
      let body = block_elements p (in_function g b.functions) g.body in
      let own = first_clean p n (declared b line (function_item g)) body h in
      let same : SameHere f (in_function g b.functions) (in_function g' b.functions) = record { head = refl; number = refl; scope = sees_params f [] g.params (λ x e. refl); block = refl } in
      clean_first q (new_tally f n) (declared b line (function_item g')) (block_elements q (in_function g' b.functions) g'.body) _
      (ap lowest (same_item p f n b k i g) ∙ own.0)
      (block_clean p q f laws apart (in_function g b.functions) (in_function g' b.functions) (with_item n (function_item g)) k i g.body same refl
      (unused_params k [] g.params w.params (λ j l m. refl)) bound w.body at own.1)

  -- the function at a place, if any
  functions_clean : (n : Tally) (b : Before) (line k i u : ℕ) (fs : List TFunction) → All (FunctionInForm IsName) fs → k + sum_by (λ g. block_pulls g.body) fs ≤ 2 ^ 64 → FunctionsPlaced f i fs
      → first_broken p n (function_elements p b line (slice_get fs u)) ≡ None
      → Clean (expansion p) (new_tally f n) (function_elements (expansion p) b line (slice_get (expand_functions k i fs) u)) (new_tally f (tally n (function_elements p b line (slice_get fs u))))
  functions_clean n b line k i u [] w bound at h = clean_none (expansion p) _ _ refl
  functions_clean n b line k i zero (g ∷ fs) w bound at h = function_clean n b line k i g (w 0 g (omega arith)) (omega (arith, bound, sum_by-cons (λ g. block_pulls g.body) g fs)) at.0 h
  functions_clean n b line k i (suc u) (g ∷ fs) w bound at h =
      functions_clean n b line (k + block_pulls g.body) (i + block_size g.body) u fs (All-tail (FunctionInForm IsName) g fs w)
      (omega (arith, bound, sum_by-cons (λ g. block_pulls g.body) g fs)) at.1 h

  module _ (w : All (FunctionInForm IsName) p.functions) (bound : 1 + sum_by (λ g. block_pulls g.body) p.functions ≤ 2 ^ 64) (at : FunctionsPlaced f 1 p.functions) where
    -- the next declaration of a kind
    item_clean : (n : Tally) (b : Before) (line : ℕ) (k : DeclKind) → first_broken p n (item_elements p b line k) ≡ None
        → Clean (expansion p) (new_tally f n) (item_elements (expansion p) b line k) (new_tally f (tally n (item_elements p b line k)))
    item_clean n b line decls.Sensor h = sensor_clean n b line (slice_get p.names.sensors b.sensors) h
    item_clean n b line decls.Port h = port_clean n b line (slice_get p.names.ports b.ports) h
    item_clean n b line decls.Nv h = nv_clean n b line (slice_get p.names.nvs b.nvs) (slice_get p.nv b.nvs) h
    item_clean n b line decls.Function h = functions_clean n b line 1 1 b.functions p.functions w bound at h

    -- all declarations that are left, and the end of the source
    pub order_clean : (n : Tally) (b : Before) (ds : List Decl) → first_broken p n (order_elements p b ds) ≡ None
        → Clean (expansion p) (new_tally f n) (order_elements (expansion p) b ds) (new_tally f (tally n (order_elements p b ds)))
    order_clean n b [] h =
        clean_first (expansion p) (new_tally f n) (ending p.last_line) [] (new_tally f n)
        (ap (λ e. lowest ((4, not e) ∷ [])) (has_main 1 1 p.functions) ∙ (first_clean p n (ending p.last_line) [] h).0)
        (clean_none (expansion p) _ _ refl)
    order_clean n b (d ∷ ds) h =
        let q = expansion p in
        let xs = item_elements p b d.line d.kind in
        let ys = order_elements p (after_item b d.kind) ds in
        let parts = apart_of p n xs ys h in
        let both = clean_join q (new_tally f n) (item_elements q b d.line d.kind) (order_elements q (after_item b d.kind) ds) (new_tally f (tally n xs))
        (new_tally f (tally (tally n xs) ys)) (item_clean n b d.line d.kind parts.0) (order_clean (tally n xs) (after_item b d.kind) ds parts.1) in
        subst (λ z. Clean q (new_tally f n) (order_elements q b (d ∷ ds)) (new_tally f z)) (sym (tally_join n xs ys)) both
