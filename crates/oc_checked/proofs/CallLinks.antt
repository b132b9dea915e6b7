-- Which function calls which, where no statement breaks the rule on cycles of calls.
use Rattle.std.proofs.Common.{◌≡◌, ◌<◌, ℕ, suc, ◌+◌, ◌++◌, Bool, true, false, true≢false, List, [], ◌∷◌, length, map, Option, Some, None, refl, ap, sym, ◌∙◌, subst, arith}
use Rattle.std.specs.Str.{bytes_eq}
use Rattle.std.specs.Prelude.{nat_eq, ◌||◌, cond, option_to_list, slice_get}
use Rattle.std.specs.List.{list_any, flat_map}
use Rattle.std.proofs.lemmas.List.{map-append, length-map}
use Rattle.std.proofs.lemmas.Bool.{eqb-true, and_parts}
use Rattle.oc_tree.specs.Names.{Text}
use Rattle.oc_tree.specs.Tree.{TCall, call, TKind, let_to, let_array, assign, assign_index, assign_deref, if_else, for_in, while_do, call_only, sense_only, emit, fresh, consistent}
use Rattle.oc_tree.specs.Tree.{return, TElse, no_else, else_do, stmt, TBlock, block, TStmts, no_stmts, more, TFunction, TProgram}
use Rattle.oc_tree.specs.Calls.{place, place_from, callee, args_calls, call_calls, own_calls, kind_hides, kind_kinds, else_kinds, block_kinds, stmts_kinds, body_calls, called_places, links_from, function_names, call_links}
use Rattle.oc_tree.specs.Reach.{Links, linked, is_link}
use Rattle.oc_tree.specs.Elements.{Here, inside, in_turn, before_stmts, after_stmt, stmt_elements, kind_elements, else_elements, block_elements, stmts_elements, in_function}
use Rattle.oc_tree.specs.Rules.{at_place, callee_is, back_to}
use Rattle.oc_tree.proofs.ReachLaws.{or_elim}
use Rattle.oc_desugar.proofs.FineCalls.{CallFine, Each, each_front, each_back}
use Rattle.oc_desugar.proofs.Unbroken.{unbroken}
use Rattle.oc_checked.proofs.Ranks.{Onwards}
use Rattle.oc_checked.proofs.BodiesPass.{AllFine, fine_front, fine_back}

-- ---- the calls of statements

-- each call of these statements is so
abbrev pub KindsCall : (TCall → Type 0) → List TKind → Type 0
KindsCall P [] = Unit {0}
KindsCall P (k ∷ ks) = Each P (own_calls k) × KindsCall P ks

module _ (P : TCall → Type 0) where
  -- what holds of the calls of both lists holds of those of one behind the other
  kinds_join : (xs ys : List TKind) → KindsCall P xs → KindsCall P ys → KindsCall P (xs ++ ys)
  kinds_join [] ys h g = g
  kinds_join (k ∷ xs) ys h g = (h.0, kinds_join xs ys h.1 g)

  -- what holds of the calls of a list holds of those of its front
  pub kinds_front : (xs ys : List TKind) → KindsCall P (xs ++ ys) → KindsCall P xs
  kinds_front [] ys h = tt
  kinds_front (k ∷ xs) ys h = (h.0, kinds_front xs ys h.1)

  -- and of those of its end
  pub kinds_back : (xs ys : List TKind) → KindsCall P (xs ++ ys) → KindsCall P ys
  kinds_back [] ys h = h
  kinds_back (k ∷ xs) ys h = kinds_back xs ys h.1

  -- of two lists of calls one behind the other
  each_join : (xs ys : List TCall) → Each P xs → Each P ys → Each P (xs ++ ys)
  each_join [] ys h g = g
  each_join (c ∷ xs) ys h g = (h.0, each_join xs ys h.1 g)

  -- from statements to the calls in them
  all_calls : (ks : List TKind) → KindsCall P ks → Each P (flat_map own_calls ks)
  all_calls [] h = tt
  all_calls (k ∷ ks) h = each_join (own_calls k) (flat_map own_calls ks) h.0 (all_calls ks h.1)

  -- what holds of all calls of a list of statements, statement by statement
  pub each_kind : (ks : List TKind) → Each P (flat_map own_calls ks) → KindsCall P ks
  each_kind [] h = tt
  each_kind (k ∷ ks) h = (each_front P (own_calls k) (flat_map own_calls ks) h, each_kind ks (each_back P (own_calls k) (flat_map own_calls ks) h))

  -- of the calls in a call the last is the call itself
  pub last_call : (c : TCall) → Each P (call_calls c) → P c
  last_call (call f args) h = (each_back P (args_calls args) (call f args ∷ []) h).0

-- without a name nothing is hidden
pub none_hides : (k : TKind) → kind_hides None k ≡ false
none_hides (let_to m x t r) = refl
none_hides k = refl

-- ---- what holds of each call of a body

module _ (p : TProgram) (u : ℕ) (P : TCall → Type 0) (gives : (h : Here) → h.number ≡ u → (c : TCall) → CallFine p h c → P c) where
  -- of a statement's calls
  each_so : (h : Here) → h.number ≡ u → (cs : List TCall) → Each (CallFine p h) cs → Each P cs
  each_so h e [] f = tt
  each_so h e (c ∷ cs) f = (gives h e c f.0, each_so h e cs f.1)

  mutual
    -- of a statement and those in it
    kind_so : (h : Here) → h.number ≡ u → (k : TKind) → Each P (own_calls k) → AllFine p (kind_elements p h k) → KindsCall P (kind_kinds None k)
    kind_so h e (if_else t a b) c f =
        let first = block_so (inside h) e a (fine_front p (block_elements p (inside h) a) (else_elements p (inside h) b) f) in
        let second = else_so (inside h) e b (fine_back p (block_elements p (inside h) a) (else_elements p (inside h) b) f) in
        (c, kinds_join P (block_kinds None a) (else_kinds None b) first second)
    kind_so h e (for_in x m n b) c f = (c, block_so (in_turn h x) e b f)
    kind_so h e (while_do t n b) c f = (c, block_so (inside h) e b f)
    kind_so h e k c f = (c, tt)

    -- of what stands behind `else`
    else_so : (h : Here) → h.number ≡ u → (b : TElse) → AllFine p (else_elements p h b) → KindsCall P (else_kinds None b)
    else_so h e no_else f = tt
    else_so h e (else_do b) f = block_so h e b f

    -- of a block
    block_so : (h : Here) → h.number ≡ u → (b : TBlock) → AllFine p (block_elements p h b) → KindsCall P (block_kinds None b)
    block_so h e (block id ss) f = stmts_so (record h { block = id }) e ss f

    -- of statements
    stmts_so : (h : Here) → h.number ≡ u → (ss : TStmts) → AllFine p (stmts_elements p h ss) → KindsCall P (stmts_kinds None ss)
    stmts_so h e no_stmts f = tt
    stmts_so h e (more (stmt id line k) ss) f =
        let here = before_stmts h ss in
        let own = fine_front p (stmt_elements p here (stmt id line k)) (stmts_elements p (after_stmt p h (stmt id line k)) ss) f in
        let rest = fine_back p (stmt_elements p here (stmt id line k)) (stmts_elements p (after_stmt p h (stmt id line k)) ss) f in
        let calls = each_so here e (own_calls k) (unbroken p own.0.0 here k own.0.1).calls in
        subst (λ b. KindsCall P (kind_kinds None k ++ cond b [] (stmts_kinds None ss))) (sym (none_hides k))
        (kinds_join P (kind_kinds None k) (stmts_kinds None ss) (kind_so here e k calls own.1) (stmts_so (after_stmt p h (stmt id line k)) e ss rest))

  -- what holds of each call that breaks no rule holds of all calls of the body of function u
  pub body_so : (f : TFunction) → AllFine p (block_elements p (in_function f u) f.body) → KindsCall P (block_kinds None f.body)
  body_so f h = block_so (in_function f u) refl f.body h

-- the called function doesn't lead back to the function u
abbrev Away : TProgram → ℕ → TCall → Type 0
Away p u c = callee_is (back_to p u) p c ≡ false

-- no call of a function's body leads back to it
pub body_away : (p : TProgram) (u : ℕ) (f : TFunction) → AllFine p (block_elements p (in_function f u) f.body) → Each (Away p u) (body_calls f)
body_away p u f h = all_calls (Away p u) (block_kinds None f.body) (body_so p u (Away p u) (λ h e c fine. subst (λ n. callee_is (back_to p n) p c ≡ false) e fine.away) f h)

-- ---- links

-- a test holds of one in a joined list, where it does in one of both
pub any_append : {A : Type 0} (test : A → Bool) (xs ys : List A) → list_any test (xs ++ ys) ≡ list_any test xs || list_any test ys
any_append test [] ys = refl
any_append test (x ∷ xs) ys = or_join (test x) (list_any test xs) (list_any test (xs ++ ys)) (list_any test ys) (any_append test xs ys)
  where
    or_join : (a b c d : Bool) → c ≡ b || d → a || c ≡ (a || b) || d
    or_join true b c d e = refl
    or_join false b c d e = e

-- what is found at a place stands before the end
place_below : (n : ℕ) (xs : List Text) (x : Text) (i : ℕ) → place_from n xs x ≡ Some i → i < n + length xs
place_below n [] x i e = absurd (cc e)
place_below n (y ∷ ys) x i e = go (bytes_eq x y) e (place_below (n + 1) ys x i)
  where
    go : (b : Bool) → cond b (Some n) (place_from (n + 1) ys x) ≡ Some i → (place_from (n + 1) ys x ≡ Some i → i < n + 1 + length ys) → i < n + suc (length ys)
    go true h rest = let same : n ≡ i = cc h in omega (arith, same)
    go false h rest = omega (arith, rest h)

module _ (p : TProgram) where
  -- the names of the functions
  abbrev names : List Text
  names = function_names p.functions

  -- of the links of one call from the function w
  one_link : (w : ℕ) (r : Option ℕ) (x : Text) (u v : ℕ) → place names x ≡ r → at_place (back_to p w) r ≡ false → linked (map (λ a. (w, a)) (option_to_list r)) u v ≡ true
      → (w ≡ u) × (v < length names) × (back_to p w v ≡ false)
  one_link w None x u v is away h = absurd (true≢false (sym h))
  one_link w (Some i) x u v is away h = or_elim (is_link u v (w, i)) false h
      (λ k.
      let at : i ≡ v = eqb-true i v (and_parts (nat_eq w u) (nat_eq i v) k).1 in
      let below : i < 0 + length names = place_below 0 names x i is in
      (eqb-true w u (and_parts (nat_eq w u) (nat_eq i v) k).0, omega (arith, at, below), subst (λ n. back_to p w n ≡ false) at away))
      (λ k. absurd (true≢false (sym k)))

  -- of the links of the calls of the function w
  row_link : (w : ℕ) (cs : List TCall) (u v : ℕ) → Each (Away p w) cs → linked (map (λ a. (w, a)) (called_places names cs)) u v ≡ true → (w ≡ u) × (v < length names) × (back_to p w v ≡ false)
  row_link w [] u v away h = absurd (true≢false (sym h))
  row_link w (c ∷ cs) u v away h =
      let first = map (λ a. (w, a)) (option_to_list (place names (callee c))) in
      let rest = map (λ a. (w, a)) (called_places names cs) in
      let s = ap (λ l. linked l u v) (map-append (λ a. (w, a)) (option_to_list (place names (callee c))) (called_places names cs)) ∙ any_append (is_link u v) first rest in
      or_elim (linked first u v) (linked rest u v) (sym s ∙ h)
      (λ k. one_link w (place names (callee c)) (callee c) u v refl away.0 k)
      (λ k. row_link w cs u v away.1 k)

  -- of the links of functions of which the first is the function w
  from_link : (w : ℕ) (fs : List TFunction) (u v : ℕ) → ((j : ℕ) (f : TFunction) → slice_get fs j ≡ Some f → Each (Away p (w + j)) (body_calls f))
      → linked (links_from names w fs) u v ≡ true → (u < w + length fs) × (v < length names) × (back_to p u v ≡ false)
  from_link w [] u v away h = absurd (true≢false (sym h))
  from_link w (f ∷ fs) u v away h =
      let first : Links = map (λ a. (w, a)) (called_places names (body_calls f)) in
      let here : Each (Away p w) (body_calls f) = let n : w + 0 ≡ w = omega arith in subst (λ m. Each (Away p m) (body_calls f)) n (away 0 f refl) in
      let next : (j : ℕ) (g : TFunction) → slice_get fs j ≡ Some g → Each (Away p (w + 1 + j)) (body_calls g) = λ j g e. let n : w + suc j ≡ w + 1 + j = omega arith in
      subst (λ m. Each (Away p m) (body_calls g)) n (away (suc j) g e) in
      or_elim (linked first u v) (linked (links_from names (w + 1) fs) u v) (sym (any_append (is_link u v) first (links_from names (w + 1) fs)) ∙ h)
      (λ k. let q : (w ≡ u) × (v < length names) × (back_to p w v ≡ false) = row_link w (body_calls f) u v here k in (omega (arith, q.0), q.1, subst (λ n. back_to p n v ≡ false) q.0 q.2))
      (λ k. let q : (u < w + 1 + length fs) × (v < length names) × (back_to p u v ≡ false) = from_link (w + 1) fs u v next k in (omega (arith, q.0), q.1, q.2))

  -- no link leads back, where no call does
  pub links_onwards : ((u : ℕ) (f : TFunction) → slice_get p.functions u ≡ Some f → Each (Away p u) (body_calls f)) → Onwards (call_links p.functions) (length p.functions)
  links_onwards away u v h =
      let q = from_link 0 p.functions u v (λ j f e. let n : j ≡ 0 + j = omega arith in subst (λ m. Each (Away p m) (body_calls f)) n (away j f e)) h in
      let n : length names ≡ length p.functions = length-map p.functions (λ f. f.name) in
      (omega (arith, q.0), omega (arith, q.1, n), q.2)
