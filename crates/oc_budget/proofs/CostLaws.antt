-- What functions cost fits 64 bits: it is bounded by their weights, of which none is above 2^32.
use Rattle.std.proofs.Common.{◌≡◌, ◌≤◌, ◌<◌, ℕ, zero, suc, ◌+◌, ◌*◌, Bool, true, false, List, [], ◌∷◌, length, map, cond, Option, Some, None, sum_by, is_some, refl, sym, ap, ◌∙◌, arith}
use Rattle.std.specs.Prelude.{◌-◌, slice_get, nat_lt, nat_eq, unwrap_or}
use Rattle.std.specs.List.{list_any}
use Rattle.std.proofs.Math.ListN.{get_or}
use Rattle.std.proofs.Math.Nat.{mul-le-mul_left}
use Rattle.std.proofs.lemmas.Bool.{ltb-false}
use Rattle.std.proofs.lemmas.List.Sums.{sum_by-cons}
use Rattle.oc_tree.specs.Tree.{TCall, call, TRight, right_value, right_sense, right_call, TKind, let_to, let_array, assign, assign_index, assign_deref, if_else, for_in, while_do}
use Rattle.oc_tree.specs.Tree.{call_only, sense_only, emit, fresh, consistent, return, TElse, no_else, else_do, stmt, TBlock, block, TStmts, no_stmts, more, TFunction, TProgram}
use Rattle.oc_tree.specs.Broken.{size_rules, lowest, or_later, or_size}
use Rattle.oc_tree.specs.Calls.{function_place}
use Rattle.oc_tree.specs.Checked.{Group, IsChecked}
use Rattle.oc_tree.specs.Expansion.{inner_size, else_size, block_size, stmts_size, program_size}
use Rattle.oc_tree.specs.Marked.{TRegion}
use Rattle.oc_tree.specs.Weight.{known_of, expr_cost, call_cost, right_cost, turns, kind_cost, weights_to, weights}
use Rattle.oc_tree.specs.Weight as weight
use Rattle.oc_tree.specs.Costs.{one, marks_at, probes, inner_cost, costs_to}
use Rattle.oc_tree.specs.Costs as cost
use Rattle.oc_desugar.proofs.FewStatements.{few_statements}
use Rattle.oc_desugar.proofs.NumberLists.{is_numbered}
use Rattle.oc_desugar.proofs.OwnExpansion.{own_expansion}
use Rattle.oc_desugar.proofs.SizesKept.{unbroken_element}
use Rattle.oc_desugar.proofs.Unbroken.{Passes, none_broken}
use Rattle.oc_checked.proofs.BodiesPass.{first_fails, second_fails}

-- ---- what is known of callees

-- costs are bounded by weights
abbrev pub Bounded : (cs ws : List ℕ) → Type 0
Bounded cs ws = (v : ℕ) → get_or cs v 0 ≤ 65536 * get_or ws v 0 + 40960

-- weights are no more than others
abbrev pub NoMore : (ws us : List ℕ) → Type 0
NoMore ws us = (v : ℕ) → get_or ws v 0 ≤ get_or us v 0

known_bounded : (cs ws : List ℕ) → Bounded cs ws → (o : Option ℕ) → known_of cs o ≤ 65536 * known_of ws o + 40960
known_bounded cs ws h None = omega arith
known_bounded cs ws h (Some v) = h v

known_more : (ws us : List ℕ) → NoMore ws us → (o : Option ℕ) → known_of ws o ≤ known_of us o
known_more ws us h None = omega arith
known_more ws us h (Some v) = h v

-- so many turns
times_bounded : (n a b : ℕ) → a ≤ 65536 * b → n * a ≤ 65536 * (n * b)
times_bounded zero a b h = omega arith
times_bounded (suc n) a b h = omega (arith, h, times_bounded n a b h)

one_low : (b : Bool) → one b ≤ 1
one_low true = omega arith
one_low false = omega arith

marks_low : (regions : List TRegion) (n : ℕ) → marks_at regions n ≤ 2
marks_low regions n = omega (arith, one_low (list_any (λ r. nat_eq r.first n) regions), one_low (list_any (λ r. nat_eq r.last n) regions))

probes_low : (is : Bool) (k : TKind) → probes is k ≤ 2
probes_low is (let_to m x t r) = omega (arith, one_low is)
probes_low is (while_do c n b) = omega arith
probes_low is k = omega (arith, one_low is)

-- ---- weights with more of those of callees

module _ (fs : List TFunction) (ws us : List ℕ) (h : NoMore ws us) where
  call_more : (c : TCall) → call_cost fs ws c ≤ call_cost fs us c
  call_more (call f args) = omega (arith, known_more ws us h (function_place fs f))

  right_more : (r : TRight) → right_cost fs ws r ≤ right_cost fs us r
  right_more (right_value e) = omega arith
  right_more (right_sense s) = omega arith
  right_more (right_call c) = call_more c

  mutual
    kind_more : (k : TKind) → kind_cost fs ws k ≤ kind_cost fs us k
    kind_more (let_to m x t r) = omega (arith, right_more r)
    kind_more (let_array m x t z n) = omega arith
    kind_more (assign x r) = omega (arith, right_more r)
    kind_more (assign_index x e r) = omega (arith, right_more r)
    kind_more (assign_deref x r) = omega (arith, right_more r)
    kind_more (if_else c a b) = omega (arith, else_more (weight.block_cost fs ws a) (weight.block_cost fs us a) (block_more a) b)
    kind_more (for_in x from to b) =
        let turn : 9 + weight.block_cost fs ws b ≤ 9 + weight.block_cost fs us b = omega (arith, block_more b) in
        omega (arith, mul-le-mul_left (turns from to) turn)
    kind_more (while_do c n b) =
        let turn : 10 + expr_cost c + weight.block_cost fs ws b ≤ 10 + expr_cost c + weight.block_cost fs us b = omega (arith, block_more b) in
        omega (arith, mul-le-mul_left n turn)
    kind_more (call_only c) = omega (arith, call_more c)
    kind_more (sense_only s) = omega arith
    kind_more (emit p e) = omega arith
    kind_more (fresh x) = omega arith
    kind_more (consistent x n) = omega arith
    kind_more (return e) = omega arith

    else_more : (a a' : ℕ) → a ≤ a' → (b : TElse) → weight.else_cost fs ws a b ≤ weight.else_cost fs us a' b
    else_more a a' le no_else = le
    else_more a a' le (else_do b) = omega (arith, le, block_more b)

    block_more : (b : TBlock) → weight.block_cost fs ws b ≤ weight.block_cost fs us b
    block_more (block id ss) = stmts_more ss

    stmts_more : (ss : TStmts) → weight.stmts_cost fs ws ss ≤ weight.stmts_cost fs us ss
    stmts_more no_stmts = omega arith
    stmts_more (more (stmt id line k) ss) = omega (arith, kind_more k, stmts_more ss)

  function_more : (f : TFunction) → weight.function_cost fs ws f ≤ weight.function_cost fs us f
  function_more f = omega (arith, block_more f.body)

  functions_more : (gs : List TFunction) → NoMore (map (weight.function_cost fs ws) gs) (map (weight.function_cost fs us) gs)
  functions_more [] v = omega arith
  functions_more (g ∷ gs) zero = function_more g
  functions_more (g ∷ gs) (suc v) = functions_more gs v

-- ---- costs beside weights

module _ (fs : List TFunction) (uses : ℕ → Bool) (regions : List TRegion) (cs ws : List ℕ) (h : Bounded cs ws) where
  call_bounded : (c : TCall) → call_cost fs cs c ≤ 65536 * call_cost fs ws c
  call_bounded (call f args) = omega (arith, known_bounded cs ws h (function_place fs f))

  right_bounded : (r : TRight) → right_cost fs cs r ≤ 65536 * right_cost fs ws r
  right_bounded (right_value e) = omega arith
  right_bounded (right_sense s) = omega arith
  right_bounded (right_call c) = call_bounded c

  mutual
    -- Each statement has at most two probes and two marks around it, and one step that weighs nothing. `few` bounds the
    -- statements inside a loop, so that what they cost beside their weight is less than its turn weighs.
    kind_bounded : (n : ℕ) (k : TKind) → inner_size k ≤ 8192 → inner_cost fs uses regions cs n k ≤ 65536 * kind_cost fs ws k + 5 * inner_size k + 1
    kind_bounded n (let_to m x t r) few = omega (arith, right_bounded r)
    kind_bounded n (let_array m x t z w) few = omega arith
    kind_bounded n (assign x r) few = omega (arith, right_bounded r)
    kind_bounded n (assign_index x e r) few = omega (arith, right_bounded r)
    kind_bounded n (assign_deref x r) few = omega (arith, right_bounded r)
    kind_bounded n (if_else c a b) few =
        let first = block_bounded a (omega (arith, few)) in
        omega (arith, else_bounded (cost.block_cost fs uses regions cs a) (weight.block_cost fs ws a) (block_size a) first b (omega (arith, few)))
    kind_bounded n (for_in x from to b) few =
        let body = block_bounded b few in
        let turn : 9 + cost.block_cost fs uses regions cs b ≤ 65536 * (9 + weight.block_cost fs ws b) = omega (arith, body, few) in
        omega (arith, times_bounded (turns from to) (9 + cost.block_cost fs uses regions cs b) (9 + weight.block_cost fs ws b) turn)
    kind_bounded n (while_do c w b) few =
        let body = block_bounded b few in
        let own = 10 + one (uses n) + expr_cost c + cost.block_cost fs uses regions cs b in
        let all = 10 + expr_cost c + weight.block_cost fs ws b in
        let turn : own ≤ 65536 * all = omega (arith, body, few, one_low (uses n)) in
        omega (arith, times_bounded w own all turn, one_low (uses n))
    kind_bounded n (call_only c) few = omega (arith, call_bounded c)
    kind_bounded n (sense_only s) few = omega arith
    kind_bounded n (emit p e) few = omega arith
    kind_bounded n (fresh x) few = omega arith
    kind_bounded n (consistent x i) few = omega arith
    kind_bounded n (return e) few = omega arith

    else_bounded : (a w size : ℕ) → a ≤ 65536 * w + 5 * size → (b : TElse) → else_size b ≤ 8192
        → cost.else_cost fs uses regions cs a b ≤ 65536 * weight.else_cost fs ws w b + 5 * (size + else_size b)
    else_bounded a w size le no_else few = omega (arith, le)
    else_bounded a w size le (else_do b) few = omega (arith, le, block_bounded b few)

    block_bounded : (b : TBlock) → block_size b ≤ 8192 → cost.block_cost fs uses regions cs b ≤ 65536 * weight.block_cost fs ws b + 5 * block_size b
    block_bounded (block id ss) few = stmts_bounded ss few

    stmts_bounded : (ss : TStmts) → stmts_size ss ≤ 8192 → cost.stmts_cost fs uses regions cs ss ≤ 65536 * weight.stmts_cost fs ws ss + 5 * stmts_size ss
    stmts_bounded no_stmts few = omega arith
    stmts_bounded (more (stmt n line k) ss) few =
        omega (arith, marks_low regions n, probes_low (uses n) k, kind_bounded n k (omega (arith, few)), stmts_bounded ss (omega (arith, few)))

  function_bounded : (f : TFunction) → block_size f.body ≤ 8192 → cost.function_cost fs uses regions cs f ≤ 65536 * weight.function_cost fs ws f + 40960
  function_bounded f few = ending (is_some f.result) (block_bounded f.body few)
    where
      ending : (b : Bool) → cost.block_cost fs uses regions cs f.body ≤ 65536 * weight.block_cost fs ws f.body + 5 * block_size f.body
          → cost.block_cost fs uses regions cs f.body + cond {A = ℕ} b 0 1 ≤ 65536 * (weight.block_cost fs ws f.body + cond {A = ℕ} b 0 1) + 40960
      ending true le = omega (arith, le, few)
      ending false le = omega (arith, le, few)

  functions_bounded : (gs : List TFunction) → ((j : ℕ) (g : TFunction) → slice_get gs j ≡ Some g → block_size g.body ≤ 8192)
      → Bounded (map (cost.function_cost fs uses regions cs) gs) (map (weight.function_cost fs ws) gs)
  functions_bounded [] few v = omega arith
  functions_bounded (g ∷ gs) few zero = function_bounded g (few 0 g refl)
  functions_bounded (g ∷ gs) few (suc v) = functions_bounded gs (λ j f e. few (suc j) f e) v

-- ---- levels of calls

-- each function has few statements
abbrev pub FewEach : List TFunction → Type 0
FewEach gs = (j : ℕ) (g : TFunction) → slice_get gs j ≡ Some g → block_size g.body ≤ 8192

one_more : (fs : List TFunction) (d : ℕ) → NoMore (weights_to fs d) (weights_to fs (suc d))
unfolding weights_to
one_more fs zero v = omega arith
one_more fs (suc d) v = functions_more fs (weights_to fs d) (weights_to fs (suc d)) (one_more fs d) fs v

more_levels : (fs : List TFunction) (d k : ℕ) → NoMore (weights_to fs d) (weights_to fs (d + k))
more_levels fs d zero v = let e : d ≡ d + 0 = omega arith in omega (arith, ap (λ n. get_or (weights_to fs n) v 0) e)
more_levels fs d (suc k) v =
    let e : suc (d + k) ≡ d + suc k = omega arith in
    omega (arith, more_levels fs d k v, one_more fs (d + k) v, ap (λ n. get_or (weights_to fs n) v 0) e)

level_bounded : (fs : List TFunction) (uses : ℕ → Bool) (regions : List TRegion) → FewEach fs → (d : ℕ) → Bounded (costs_to fs uses regions d) (weights_to fs d)
unfolding weights_to costs_to
level_bounded fs uses regions few zero v = omega arith
level_bounded fs uses regions few (suc d) v =
    functions_bounded fs uses regions (costs_to fs uses regions d) (weights_to fs d) (level_bounded fs uses regions few d) fs few v

-- ---- checked programs

-- weights of which none is above the limit
light : (ws : List ℕ) → list_any (nat_lt 4294967296) ws ≡ false → (v : ℕ) → get_or ws v 0 ≤ 4294967296
light [] h v = omega arith
light (w ∷ ws) h zero = ltb-false 4294967296 w (first_fails (nat_lt 4294967296 w) (list_any (nat_lt 4294967296) ws) h)
light (w ∷ ws) h (suc v) = light ws (second_fails (nat_lt 4294967296 w) (list_any (nat_lt 4294967296) ws) h) v

few_each : (fs : List TFunction) → sum_by (λ f. block_size f.body) fs ≤ 8192 → FewEach fs
few_each [] few j g e = absurd (cc)
few_each (f ∷ fs) few zero g e =
    let size : block_size f.body ≡ block_size g.body = ap (λ (o : Option TFunction). block_size (unwrap_or o f).body) e in
    omega (arith, few, size, sum_by-cons (λ f. block_size f.body) f fs)
few_each (f ∷ fs) few (suc j) g e = few_each fs (omega (arith, few, sum_by-cons (λ f. block_size f.body) f fs)) j g e

module _ (p : TProgram) (groups : List Group) (checked : IsChecked p groups) where
  -- no rule on sizes is broken
  no_size : (line : ℕ) (o : Option ℕ) → or_later line o None ≡ None → o ≡ None
  no_size line None h = refl
  no_size line (Some rule) h = absurd (cc h)

  -- the rule on weights
  all_light : list_any (nat_lt 4294967296) (weights p) ≡ false
  all_light =
      let sizes : or_later p.last_line (lowest (size_rules p)) None ≡ None = sym (ap (or_size p) (unbroken_element p checked.unbroken)) ∙ checked.unbroken in
      let t : Passes (size_rules p) = none_broken (size_rules p) (no_size p.last_line (lowest (size_rules p)) sizes) in
      t.0

  own_weights : weights p ≡ weights_to p.functions (length p.functions)
  own_weights = ap (λ (q : TProgram). weights_to q.functions (length p.functions)) (own_expansion p checked.plain (is_numbered p checked.form.numbered.statements))

  -- what functions cost fits, however deep calls go
  pub costs_fit : (uses : ℕ → Bool) (regions : List TRegion) (d : ℕ) → d ≤ length p.functions → (v : ℕ) → get_or (costs_to p.functions uses regions d) v 0 < 18446744073709551616
  costs_fit uses regions d le v =
      let few : program_size p ≤ 8192 = few_statements p checked.form.declared (unbroken_element p checked.unbroken) in
      let left = length p.functions - d in
      let e : d + left ≡ length p.functions = omega (arith, le) in
      let low : get_or (weights p) v 0 ≤ 4294967296 = light (weights p) all_light v in
      omega (
        arith,
        low,
        ap (λ ws. get_or ws v 0) own_weights,
        ap (λ n. get_or (weights_to p.functions n) v 0) e,
        more_levels p.functions d left v,
        level_bounded p.functions uses regions (few_each p.functions few) d v,
      )
