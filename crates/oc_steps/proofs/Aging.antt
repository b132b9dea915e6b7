-- A step over ages is the step over samples.
use Rattle.std.proofs.Common.{◌≡◌, ℕ, zero, suc, ◌-◌, ℤ, Bool, true, false, List, [], ◌∷◌, length, map, drop, Option, Some, None, cond, arith, refl, sym, ap, ◌∙◌, ◌≢◌, eq-eqb, eqb-true}
use Rattle.std.proofs.lemmas.List.{map-set, length-map, drop-map}
use Rattle.std.proofs.lemmas.List.Sums.{sum_by-cons}
use Rattle.std.proofs.Math.ListN.{get_or-map}
use Rattle.std.specs.Prelude.{pos, ◌+ℤ◌, ◌+◌, ◌==◌, count_by, slice_index_or, unwrap_or, if◌then◌else◌}
use Rattle.oc_tree.specs.Names.{Text}
use Rattle.oc_tree.specs.Marked.{TRegion}
use Rattle.oc_tree.specs.Tree.{TExpr, number, truth, variable, index, deref, unary, binary, sensed, called, TArg, value, shared, mutable, TCall, call, TArgs, no_args, more_args}
use Rattle.oc_tree.specs.Tree.{TRight, right_value, right_sense, right_call, TKind, let_to, let_array, assign, assign_index, assign_deref, if_else, for_in, while_do, call_only}
use Rattle.oc_tree.specs.Tree.{sense_only, emit, fresh, consistent, return, TElse, no_else, else_do, stmt, TBlock, block, TStmts, no_stmts, more, TFunction, TProgram}
use Rattle.oc_tree.specs.declared.tree.Param.{Param}
use Rattle.oc_tree.specs.declared.tree.UnaryOp.{UnaryOp}
use Rattle.oc_tree.specs.declared.tree.BinaryOp.{BinaryOp}
use Rattle.oc_tree.specs.declared.tree.BinaryOp.TheVariants.{Or, And}
use Rattle.oc_tree.specs.declared.said.Said.{Said}
use Rattle.oc_tree.specs.declared.said.Said.TheVariants.{Showed, Entered, Committed}
use Rattle.oc_tree.specs.declared.said.Shown.TheVariants.{Emitted, Tagged}
use Rattle.oc_tree.specs.Samples.{union}
use Rattle.oc_meaning.specs.Store.{Value, Held, Place, Local, Global, Turn, Nowhere, Event, Store, Binding, plain, holding, nothing, replaced, value_in, at, put_at, held_at, put}
use Rattle.oc_meaning.specs.Store.{left_at, happened, noted, place_of}
use Rattle.oc_meaning.specs.Eval.{Got, Val, Traps, is_zero, element_of, and_got, given, apply, unary_value}
use Rattle.oc_tree.specs.Named.{own_names}
use Rattle.oc_meaning.specs.Uses.{is_fresh, is_use, begins_use, ends_use}
use Rattle.oc_meaning.specs.Blocks.{set_home}
use Rattle.oc_meaning.specs.Exec.{begun_by, ended_by, Outcome, Went, Returned, Stopped, Passed, Copied, Lent, Passing, Passes, Breaks, passed_first, value_first, passed_on}
use Rattle.oc_meaning.specs.Exec.{number_in, told_if, opened, closed, used, done, in_turn, bound_to, grown}
use Rattle.oc_meaning.specs.Run.{Frame, with_param, with_params, nv_env, function_named}
use Rattle.oc_meaning.specs.Run as runs
use Rattle.oc_steps.specs.Sets.{depending_by, combined_by, and_then_by, or_else_by, operated_by, element_by, value_by, fresh_by, use_by, arg_by, args_by, with_element_by, element_written_by}
use Rattle.oc_steps.specs.Steps.{Inside, Rest, Use, Work, Done, Close, Take, Leave, Turns, Loop, Test, Back, Step, Goes, begin, begin_else, on_value, tagged_by, step_function, step_passed, of_samples}
use Rattle.oc_steps.specs.Steps.{step_args, step_call, step_right, taken, work, step_rest, step_turns, step_loop, step_test, step_went, step_returned, step}
use Rattle.oc_steps.specs.Steps as steps
use Rattle.oc_steps.specs.Ages.{join_ages, age_of, aged_value, aged_held, aged_event, aged_store, aged_got, aged_passed, aged_passing, aged_outcome, aged_frame, aged_step, StepsAge, SensesAge, of_ages, one_more, counts_of}
use Rattle.oc_steps.proofs.Joining.{union_age}

unlike : (n k : ℕ) → n ≢ k → (n == k) ≡ false
unlike n k h = grind (arith, h)

like_suc : (n k : ℕ) → (suc n == suc k) ≡ (n == k)
like_suc n k = by (n == k) refl
  where
    by : (b : Bool) → (n == k) ≡ b → (suc n == suc k) ≡ b
    by true h = eq-eqb (suc n) (suc k) (ap suc (eqb-true n k h))
    by false h = grind (arith, h)

-- one more of a block
one_more_at : (h id : ℕ) (counts : List ℕ) → slice_index_or (one_more id counts) h 0 ≡ cond (h == id) 1 0 + slice_index_or counts h 0
one_more_at zero zero [] = refl
one_more_at zero zero (c ∷ counts) = omega arith
one_more_at zero (suc id) [] = sym (ap (λ b. cond b 1 0 + 0) (unlike 0 (suc id) (omega arith)))
one_more_at zero (suc id) (c ∷ counts) = let e : c ≡ 0 + c = omega arith in e ∙ sym (ap (λ b. cond b 1 0 + c) (unlike 0 (suc id) (omega arith)))
one_more_at (suc h) zero [] = sym (ap (λ b. cond b 1 0 + 0) (unlike (suc h) 0 (omega arith)))
one_more_at (suc h) zero (c ∷ counts) =
    let e : slice_index_or counts h 0 ≡ 0 + slice_index_or counts h 0 = omega arith in
    e ∙ sym (ap (λ b. cond b 1 0 + slice_index_or counts h 0) (unlike (suc h) 0 (omega arith)))
one_more_at (suc h) (suc id) [] = one_more_at h id [] ∙ sym (ap (λ b. cond b 1 0 + 0) (like_suc h id))
one_more_at (suc h) (suc id) (c ∷ counts) = one_more_at h id counts ∙ sym (ap (λ b. cond b 1 0 + slice_index_or counts h 0) (like_suc h id))

-- how often a block was executed
counted : (h : ℕ) (bs : List ℕ) → slice_index_or (counts_of bs) h 0 ≡ count_by (λ id. h == id) bs
counted h [] = refl
counted h (id ∷ bs) =
    one_more_at h id (counts_of bs) ∙ ap (λ n. cond (h == id) 1 0 + n) (counted h bs) ∙ sym (sum_by-cons (λ b. cond (h == b) 1 0) id bs)

module _ (before : ℕ → ℕ) (c : ℕ) where
  abbrev S : List ℕ → List ℕ
  S = age_of before

  abbrev H : Held → Held
  H = aged_held before

  abbrev G : Got → Got
  G = aged_got before

  abbrev A : Store → Store
  A = aged_store before c

  abbrev F : steps.Frame → steps.Frame
  F = aged_frame before

  at_first : (x : Held) (xs : List Held) (l : ℕ) (b : Bool) → unwrap_or (at (map H xs) l) nothing ≡ H (unwrap_or (at xs l) nothing)
      → unwrap_or (if b then Some (H x) else at (map H xs) l) nothing ≡ H (unwrap_or (if b then Some x else at xs l) nothing)
  at_first x xs l true h = refl
  at_first x xs l false h = h

  at_aged : (xs : List Held) (l : ℕ) → unwrap_or (at (map H xs) l) nothing ≡ H (unwrap_or (at xs l) nothing)
  at_aged [] l = refl
  at_aged (x ∷ xs) l =
      ap (λ n. unwrap_or (if l == n then Some (H x) else at (map H xs) l) nothing) (length-map xs H)
      ∙ at_first x xs l (l == length xs) (at_aged xs l)

  held_aged : (σ : Store) (q : Place) → held_at (A σ) q ≡ H (held_at σ q)
  held_aged σ (Local l) = at_aged σ.locals l
  held_aged σ (Global g) = get_or-map H σ.nv g nothing
  held_aged σ (Turn z) = refl
  held_aged σ Nowhere = refl

  put_first : (x h : Held) (xs : List Held) (l : ℕ) (b : Bool) → put_at (map H xs) l (H h) ≡ map H (put_at xs l h) → (if b then H h ∷ map H xs else H x ∷ put_at (map H xs) l (H h))
      ≡ map H (if b then h ∷ xs else x ∷ put_at xs l h)
  put_first x h xs l true e = refl
  put_first x h xs l false e = ap (λ ys. H x ∷ ys) e

  put_at_aged : (xs : List Held) (l : ℕ) (h : Held) → put_at (map H xs) l (H h) ≡ map H (put_at xs l h)
  put_at_aged [] l h = refl
  put_at_aged (x ∷ xs) l h =
      ap (λ n. if l == n then H h ∷ map H xs else H x ∷ put_at (map H xs) l (H h)) (length-map xs H)
      ∙ put_first x h xs l (l == length xs) (put_at_aged xs l h)

  put_aged : (σ : Store) (q : Place) (h : Held) → put (A σ) q (H h) ≡ A (put σ q h)
  put_aged σ (Local l) h = ap (λ xs. record (A σ) { locals = xs }) (put_at_aged σ.locals l h)
  put_aged σ (Global g) h = ap (λ xs. record (A σ) { nv = xs }) (sym (map-set H σ.nv g h))
  put_aged σ (Turn z) h = refl
  put_aged σ Nowhere h = refl

  -- expressions
  depending_aged : (s : List ℕ) (g : Got) → depending_by join_ages (S s) (G g) ≡ G (depending_by union s g)
  depending_aged s (Val y) = ap (λ t. Val (record { num = y.num; samples = t })) (sym (union_age before s y.samples))
  depending_aged s (Traps k) = refl

  and_aged : (x : Value) (h : Got) (b : Bool) → (if b then Val (record { num = pos 0; samples = S x.samples }) else depending_by join_ages (S x.samples) (G h))
      ≡ G (if b then Val (record { num = pos 0; samples = x.samples }) else depending_by union x.samples h)
  and_aged x h true = refl
  and_aged x h false = depending_aged x.samples h

  or_aged : (x : Value) (h : Got) (b : Bool) → (if b then depending_by join_ages (S x.samples) (G h) else Val (record { num = pos 1; samples = S x.samples }))
      ≡ G (if b then depending_by union x.samples h else Val (record { num = pos 1; samples = x.samples }))
  or_aged x h true = depending_aged x.samples h
  or_aged x h false = refl

  given_aged : (o : Option ℤ) (a b : List ℕ) → given o (join_ages (S a) (S b)) ≡ G (given o (union a b))
  given_aged None a b = refl
  given_aged (Some z) a b = ap (λ t. Val (record { num = z; samples = t })) (sym (union_age before a b))

  operated_aged : (op : BinaryOp) (g h : Got) → and_got (G g) (λ x. and_got (G h) (λ y. operated_by join_ages op x y)) ≡ G (and_got g (λ x. and_got h (λ y. operated_by union op x y)))
  operated_aged op (Val x) (Val y) = given_aged (apply op x.num y.num) x.samples y.samples
  operated_aged op (Val x) (Traps k) = refl
  operated_aged op (Traps k) h = refl

  both_aged : (g h : Got) → and_got (G g) (λ x. and_then_by join_ages x (G h)) ≡ G (and_got g (λ x. and_then_by union x h))
  both_aged (Val x) h = and_aged x h (is_zero x.num)
  both_aged (Traps k) h = refl

  either_aged : (g h : Got) → and_got (G g) (λ x. or_else_by join_ages x (G h)) ≡ G (and_got g (λ x. or_else_by union x h))
  either_aged (Val x) h = or_aged x h (is_zero x.num)
  either_aged (Traps k) h = refl

  combined_aged : (op : BinaryOp) (g h : Got) → combined_by join_ages op (G g) (G h) ≡ G (combined_by union op g h)
  combined_aged And g h = both_aged g h
  combined_aged Or g h = either_aged g h
  combined_aged op g h = operated_aged op g h

  element_aged : (h : Held) (o : Option ℕ) (s : List ℕ) → element_by join_ages (H h) o (S s) ≡ G (element_by union h o s)
  element_aged h None s = refl
  element_aged h (Some i) s = ap (λ t. Val (record { num = Rattle.std.specs.Prelude.slice_index_or h.words i (pos 0); samples = t })) (sym (union_age before h.samples s))

  indexed_aged : (h : Held) (g : Got) → and_got (G g) (λ i. element_by join_ages (H h) (element_of (length h.words) i.num) i.samples)
      ≡ G (and_got g (λ i. element_by union h (element_of (length h.words) i.num) i.samples))
  indexed_aged h (Val v) = element_aged h (element_of (length h.words) v.num) v.samples
  indexed_aged h (Traps k) = refl

  unary_aged : (op : UnaryOp) (g : Got) → unary_value op (G g) ≡ G (unary_value op g)
  unary_aged op (Val v) = refl
  unary_aged op (Traps k) = refl

  value_aged : (env : List Binding) (σ : Store) (e : TExpr) → value_by join_ages env (A σ) e ≡ G (value_by union env σ e)
  value_aged env σ (number z) = refl
  value_aged env σ (truth b) = refl
  value_aged env σ (variable x) = ap (λ h. Val (value_in h)) (held_aged σ (place_of env x))
  value_aged env σ (deref x) = ap (λ h. Val (value_in h)) (held_aged σ (place_of env x))
  value_aged env σ (index x e) =
      ap (λ g. and_got g (λ i. element_by join_ages (held_at (A σ) (place_of env x)) (element_of (length (held_at (A σ) (place_of env x)).words) i.num) i.samples)) (value_aged env σ e)
      ∙ ap (λ h. and_got (G (value_by union env σ e)) (λ i. element_by join_ages h (element_of (length h.words) i.num) i.samples)) (held_aged σ (place_of env x))
      ∙ indexed_aged (held_at σ (place_of env x)) (value_by union env σ e)
  value_aged env σ (unary op e) = ap (unary_value op) (value_aged env σ e) ∙ unary_aged op (value_by union env σ e)
  value_aged env σ (binary op a b) =
      ap (λ g. combined_by join_ages op g (value_by join_ages env (A σ) b)) (value_aged env σ a)
      ∙ ap (combined_by join_ages op (G (value_by union env σ a))) (value_aged env σ b)
      ∙ combined_aged op (value_by union env σ a) (value_by union env σ b)
  value_aged env σ (sensed s) = refl
  value_aged env σ (called k) = refl

  fresh_first : (b : Bool) (s t : List ℕ) → (if b then join_ages (S s) (S t) else S t) ≡ S (if b then union s t else t)
  fresh_first true s t = sym (union_age before s t)
  fresh_first false s t = refl

  fresh_aged : (env : List Binding) (σ : Store) (xs : List Text) → fresh_by join_ages env (A σ) xs ≡ S (fresh_by union env σ xs)
  fresh_aged env σ [] = refl
  fresh_aged env σ (x ∷ xs) =
      ap (λ h. if is_fresh env x then join_ages h.samples (fresh_by join_ages env (A σ) xs) else fresh_by join_ages env (A σ) xs) (held_aged σ (place_of env x))
      ∙ ap (λ t. if is_fresh env x then join_ages (S (held_at σ (place_of env x)).samples) t else t) (fresh_aged env σ xs)
      ∙ fresh_first (is_fresh env x) (held_at σ (place_of env x)).samples (fresh_by union env σ xs)

  use_aged : (env : List Binding) (k : TKind) (σ : Store) → use_by join_ages env k (A σ) ≡ S (use_by union env k σ)
  use_aged env k σ = fresh_aged env σ (own_names k)

  -- arguments
  passed_aged : (q : Passed) (rest : Passing) → passed_first (aged_passed before q) (aged_passing before rest) ≡ aged_passing before (passed_first q rest)
  passed_aged q (Passes ps) = refl
  passed_aged q (Breaks k) = refl

  first_aged : (o : Option Place) (g : Got) (rest : Passing) → value_first o (G g) (aged_passing before rest) ≡ aged_passing before (value_first o g rest)
  first_aged (Some q) g rest = passed_aged (Lent q) rest
  first_aged None (Val v) rest = passed_aged (Copied v) rest
  first_aged None (Traps k) rest = refl

  arg_aged : (env : List Binding) (σ : Store) (a : TArg) (rest : Passing) → arg_by join_ages env (A σ) a (aged_passing before rest) ≡ aged_passing before (arg_by union env σ a rest)
  arg_aged env σ (value e) rest = ap (λ g. value_first (passed_on env e) g (aged_passing before rest)) (value_aged env σ e) ∙ first_aged (passed_on env e) (value_by union env σ e) rest
  arg_aged env σ (shared x) rest = passed_aged (Lent (place_of env x)) rest
  arg_aged env σ (mutable x) rest = passed_aged (Lent (place_of env x)) rest

  args_aged : (env : List Binding) (σ : Store) (gs : TArgs) → args_by join_ages env (A σ) gs ≡ aged_passing before (args_by union env σ gs)
  args_aged env σ no_args = refl
  args_aged env σ (more_args a rest) = ap (arg_by join_ages env (A σ) a) (args_aged env σ rest) ∙ arg_aged env σ a (args_by union env σ rest)

  abbrev aged_fr : runs.Frame → runs.Frame
  aged_fr fr = record { env = fr.env; locals = map H fr.locals }

  param_aged : (x : Text) (q : Passed) (fr : runs.Frame) → with_param x (aged_passed before q) (aged_fr fr) ≡ aged_fr (with_param x q fr)
  param_aged x (Copied v) fr = ap (λ n. record { env = record { name = x; place = Local n; reference = false; fresh = false } ∷ fr.env; locals = H (holding v) ∷ map H fr.locals })
      (length-map fr.locals H)
  param_aged x (Lent q) fr = refl

  params_aged : (qs : List Param) (ps : List Passed) (fr : runs.Frame) → with_params qs (map (aged_passed before) ps) (aged_fr fr) ≡ aged_fr (with_params qs ps fr)
  params_aged [] ps fr = refl
  params_aged (q ∷ qs) [] fr = refl
  params_aged (q ∷ qs) (a ∷ ps) fr = ap (with_params qs (map (aged_passed before) ps)) (param_aged q.name a fr) ∙ params_aged qs ps (with_param q.name a fr)

  -- the store
  told_aged : (b : Bool) (s : Said) (es : List Event) → told_if b s (map (aged_event before) es) ≡ map (aged_event before) (told_if b s es)
  told_aged true s es = refl
  told_aged false s es = refl

  opened_aged : (o : Option ℕ) (σ : Store) → opened o (A σ) ≡ A (opened o σ)
  opened_aged None σ = refl
  opened_aged (Some r) σ = ap (λ es. record (A σ) { depth = suc σ.depth; events = es }) (told_aged (σ.depth == 0) (Entered r) σ.events)

  closed_aged : (o : Option ℕ) (σ : Store) → closed o (A σ) ≡ A (closed o σ)
  closed_aged None σ = refl
  closed_aged (Some r) σ = ap (λ es. record (A σ) { depth = σ.depth - 1; events = es }) (told_aged (σ.depth == 1) (Committed r) σ.events)

  used_aged : (b : Bool) (n : ℕ) (u : List ℕ) (σ : Store) → used b n (S u) (A σ) ≡ A (used b n u σ)
  used_aged true n u σ = refl
  used_aged false n u σ = refl

  done_aged : (b : Bool) (n : ℕ) (u : List ℕ) (σ : Store) → done b n (S u) (A σ) ≡ A (done b n u σ)
  done_aged true n u σ = refl
  done_aged false n u σ = refl

  left_aged : (n : ℕ) (σ : Store) → left_at n (A σ) ≡ A (left_at n σ)
  left_aged n σ = ap (λ m. record (A σ) { locals = drop (m - n) (map H σ.locals) }) (length-map σ.locals H) ∙ ap (λ xs. record (A σ) { locals = xs }) (drop-map H (length σ.locals - n) σ.locals)

  grown_aged : (k : TKind) (rest : TStmts) (env : List Binding) (σ : Store) → grown k rest env (A σ) ≡ grown k rest env σ
  grown_aged (let_to m x t r) rest env σ = ap (λ n. record { name = x; place = Local n; reference = false; fresh = (bound_to x rest σ).fresh } ∷ env) (length-map σ.locals H)
  grown_aged (let_array m x t z n) rest env σ = ap (λ n. record { name = x; place = Local n; reference = false; fresh = (bound_to x rest σ).fresh } ∷ env) (length-map σ.locals H)
  grown_aged k rest env σ = refl

  put_taken_aged : (σ : Store) (q : Place) (v : Value) → put (A σ) q (replaced (held_at (A σ) q) (aged_value before v)) ≡ A (put σ q (replaced (held_at σ q) v))
  put_taken_aged σ q v = ap (λ h. put (A σ) q (replaced h (aged_value before v))) (held_aged σ q) ∙ put_aged σ q (replaced (held_at σ q) v)

  written_aged : (q : Place) (o : Option ℕ) (i v : Value) (n : ℕ) (σ : Store) → element_written_by join_ages q o (aged_value before i) (aged_value before v) n (A σ)
      ≡ aged_outcome before c (element_written_by union q o i v n σ)
  written_aged q None i v n σ = refl
  written_aged q (Some e) i v n σ =
      ap (λ h. Went (put (A σ) q (with_element_by join_ages h e v.num (join_ages (S i.samples) (S v.samples))))) (held_aged σ q)
      ∙ ap (λ s. Went (put (A σ) q (with_element_by join_ages (H (held_at σ q)) e v.num s))) (sym (union_age before i.samples v.samples))
      ∙ ap (λ s. Went (put (A σ) q (record { words = Rattle.std.specs.Prelude.slice_set (held_at σ q).words e v.num; samples = s })))
      (sym (union_age before (held_at σ q).samples (union i.samples v.samples)))
      ∙ ap Went (put_aged σ q (with_element_by union (held_at σ q) e v.num (union i.samples v.samples)))

  -- steps
  abbrev P : Step → Step
  P = aged_step before c

  begin_aged : (f : Inside) (env : List Binding) (b : TBlock) (fs : List steps.Frame) (σ : Store) → begin of_ages f env b (map F fs) (A σ) ≡ P (begin of_samples f env b fs σ)
  begin_aged f env (block id ss) fs σ = ap (λ n. Goes (Rest f env ss ∷ Leave n ∷ map F fs) (Went (record (A σ) { blocks = one_more id (counts_of σ.blocks) }))) (length-map σ.locals H)

  begin_else_aged : (f : Inside) (env : List Binding) (b : TElse) (fs : List steps.Frame) (σ : Store) → begin_else of_ages f env b (map F fs) (A σ) ≡ P (begin_else of_samples f env b fs σ)
  begin_else_aged f env no_else fs σ = refl
  begin_else_aged f env (else_do b) fs σ = begin_aged f env b fs σ

  on_value_aged : (g : Got) (n : ℕ) (σ : Store) (fs : List steps.Frame) (go go' : Value → Step) → ((v : Value) → go' (aged_value before v) ≡ P (go v))
      → on_value (G g) n (A σ) (map F fs) go' ≡ P (on_value g n σ fs go)
  on_value_aged (Val v) n σ fs go go' h = h v
  on_value_aged (Traps k) n σ fs go go' h = refl

  if_aged : (b : Bool) (x y x' y' : Step) → x' ≡ P x → y' ≡ P y → (if b then x' else y') ≡ P (if b then x else y)
  if_aged true x y x' y' h k = h
  if_aged false x y x' y' h k = k

  module _ (p : TProgram) (regions : List TRegion) where
    function_aged : (d : ℕ) (o : Option TFunction) (ps : List Passed) (fs : List steps.Frame) (σ : Store)
        → step_function p regions join_ages of_ages d o (map (aged_passed before) ps) (map F fs) (A σ) ≡ P (step_function p regions union of_samples d o ps fs σ)
    function_aged d None ps fs σ = refl
    function_aged d (Some f) ps fs σ =
        let fr0 : runs.Frame = record { env = nv_env 0 p.names.nvs; locals = σ.locals } in
        let fr : runs.Frame = with_params f.params ps fr0 in
        let inner : Inside = record { depth = d; body = f.body } in
        ap (λ g. begin of_ages inner g.env f.body (Leave (length (map H σ.locals)) ∷ map F fs) (record (A σ) { locals = g.locals })) (params_aged f.params ps fr0)
        ∙ ap (λ n. begin of_ages inner fr.env f.body (Leave n ∷ map F fs) (record (A σ) { locals = map H fr.locals })) (length-map σ.locals H)
        ∙ begin_aged inner fr.env f.body (Leave (length σ.locals) ∷ fs) (record σ { locals = fr.locals })

    pub passed_to_aged : (d : ℕ) (x : Text) (ps : List Passed) (fs : List steps.Frame) (σ : Store)
        → step_passed p regions join_ages of_ages d x (map (aged_passed before) ps) (map F fs) (A σ) ≡ P (step_passed p regions union of_samples d x ps fs σ)
    passed_to_aged zero x ps fs σ = refl
    passed_to_aged (suc d) x ps fs σ = function_aged d (function_named p.functions x) ps fs σ

    step_args_aged : (d : ℕ) (x : Text) (gs : Passing) (n : ℕ) (fs : List steps.Frame) (σ : Store)
        → step_args p regions join_ages of_ages d x (aged_passing before gs) n (map F fs) (A σ) ≡ P (step_args p regions union of_samples d x gs n fs σ)
    step_args_aged d x (Passes ps) n fs σ = passed_to_aged d x ps fs σ
    step_args_aged d x (Breaks k) n fs σ = refl

    call_aged : (f : Inside) (env : List Binding) (n : ℕ) (k : TCall) (fs : List steps.Frame) (σ : Store) → step_call p regions join_ages of_ages f env n k (map F fs) (A σ)
        ≡ P (step_call p regions union of_samples f env n k fs σ)
    call_aged f env n (call x gs) fs σ =
        ap (λ q. step_args p regions join_ages of_ages f.depth x q n (map F fs) (A σ)) (args_aged env σ gs) ∙ step_args_aged f.depth x (args_by union env σ gs) n fs σ

    right_aged : (f : Inside) (env : List Binding) (n : ℕ) (r : TRight) (fs : List steps.Frame) (σ : Store) → step_right p regions join_ages of_ages f env n r (map F fs) (A σ)
        ≡ P (step_right p regions union of_samples f env n r fs σ)
    right_aged f env n (right_value e) fs σ =
        ap (λ g. on_value g n (A σ) (map F fs) (λ v. Goes (map F fs) (Returned v (A σ)))) (value_aged env σ e)
        ∙ on_value_aged (value_by union env σ e) n σ fs (λ v. Goes fs (Returned v σ)) (λ v. Goes (map F fs) (Returned v (A σ))) (λ v. refl)
    right_aged f env n (right_sense s) fs σ = refl
    right_aged f env n (right_call k) fs σ = call_aged f env n k fs σ

    taken_aged : (env : List Binding) (n : ℕ) (k : TKind) (v : Value) (fs : List steps.Frame) (σ : Store)
        → taken p regions join_ages of_ages env n k (aged_value before v) (map F fs) (A σ) ≡ P (taken p regions union of_samples env n k v fs σ)
    taken_aged env n (let_to m x t r) v fs σ = refl
    taken_aged env n (assign x r) v fs σ = ap (λ τ. Goes (map F fs) (Went τ)) (put_taken_aged σ (place_of env x) v)
    taken_aged env n (assign_index x e r) v fs σ =
        let q : Place = place_of env x in
        ap (λ g. on_value g n (A σ) (map F fs) (λ i. Goes (map F fs)
        (element_written_by join_ages q (element_of (length (held_at (A σ) q).words) i.num) i (aged_value before v) n (A σ)))) (value_aged env σ e)
        ∙ ap (λ h. on_value (G (value_by union env σ e)) n (A σ) (map F fs)
        (λ i. Goes (map F fs) (element_written_by join_ages q (element_of (length h.words) i.num) i (aged_value before v) n (A σ)))) (held_aged σ q)
        ∙ on_value_aged (value_by union env σ e) n σ fs
        (λ i. Goes fs (element_written_by union q (element_of (length (held_at σ q).words) i.num) i v n σ))
        (λ i. Goes (map F fs) (element_written_by join_ages q (element_of (length (held_at σ q).words) i.num) i (aged_value before v) n (A σ)))
        (λ i. ap (Goes (map F fs)) (written_aged q (element_of (length (held_at σ q).words) i.num) i v n σ))
    taken_aged env n (assign_deref x r) v fs σ = ap (λ τ. Goes (map F fs) (Went τ)) (put_taken_aged σ (place_of env x) v)
    taken_aged env n k v fs σ = refl

    work_aged : (f : Inside) (env : List Binding) (n : ℕ) (k : TKind) (fs : List steps.Frame) (σ : Store) → work p regions join_ages of_ages f env n k (map F fs) (A σ)
        ≡ P (work p regions union of_samples f env n k fs σ)
    work_aged f env n (let_to m x t r) fs σ = right_aged f env n r (Take env n (let_to m x t r) ∷ fs) σ
    work_aged f env n (let_array m x t z w) fs σ = refl
    work_aged f env n (assign x r) fs σ = right_aged f env n r (Take env n (assign x r) ∷ fs) σ
    work_aged f env n (assign_index x e r) fs σ = right_aged f env n r (Take env n (assign_index x e r) ∷ fs) σ
    work_aged f env n (assign_deref x r) fs σ = right_aged f env n r (Take env n (assign_deref x r) ∷ fs) σ
    work_aged f env n (if_else e a b) fs σ =
        ap (λ g. on_value g n (A σ) (map F fs) (λ v. if is_zero v.num then begin_else of_ages f env b (map F fs) (A σ) else begin of_ages f env a (map F fs) (A σ))) (value_aged env σ e)
        ∙ on_value_aged (value_by union env σ e) n σ fs (λ v. if is_zero v.num then begin_else of_samples f env b fs σ else begin of_samples f env a fs σ)
        (λ v. if is_zero v.num then begin_else of_ages f env b (map F fs) (A σ) else begin of_ages f env a (map F fs) (A σ))
        (λ v. if_aged (is_zero v.num) (begin_else of_samples f env b fs σ) (begin of_samples f env a fs σ) (begin_else of_ages f env b (map F fs) (A σ)) (begin of_ages f env a (map F fs) (A σ))
        (begin_else_aged f env b fs σ) (begin_aged f env a fs σ))
    work_aged f env n (for_in x a b d) fs σ = refl
    work_aged f env n (while_do e t b) fs σ = refl
    work_aged f env n (call_only k) fs σ = call_aged f env n k (Take env n (call_only k) ∷ fs) σ
    work_aged f env n (sense_only s) fs σ = refl
    work_aged f env n (emit q e) fs σ =
        ap (λ g. on_value g n (A σ) (map F fs) (λ v. Goes (map F fs) (Went (noted (Showed (Emitted (number_in p.names.ports q) v.num)) v.samples (A σ))))) (value_aged env σ e)
        ∙ on_value_aged (value_by union env σ e) n σ fs (λ v. Goes fs (Went (noted (Showed (Emitted (number_in p.names.ports q) v.num)) v.samples σ)))
        (λ v. Goes (map F fs) (Went (noted (Showed (Emitted (number_in p.names.ports q) v.num)) v.samples (A σ)))) (λ v. refl)
    work_aged f env n (fresh x) fs σ = refl
    work_aged f env n (consistent x k) fs σ =
        ap (λ h. Goes (map F fs) (Went (tagged_by of_ages (set_home f.body k) n h.samples (A σ)))) (held_aged σ (place_of env x))
        ∙ ap (λ m. Goes (map F fs) (Went (happened (record { said = Showed (Tagged n); samples = S (held_at σ (place_of env x)).samples; instance = m }) (A σ))))
        (counted (set_home f.body k) σ.blocks)
    work_aged f env n (return e) fs σ =
        let is : Bool = is_use (is_fresh env) (return e) in
        let r : Option ℕ = ended_by regions n in
        ap (λ g. on_value g n (A σ) (map F fs) (λ v. Goes (Back v r ∷ map F fs) (Went (done is n (use_by join_ages env (return e) (A σ)) (A σ))))) (value_aged env σ e)
        ∙ ap (λ u. on_value (G (value_by union env σ e)) n (A σ) (map F fs) (λ v. Goes (Back v r ∷ map F fs) (Went (done is n u (A σ))))) (use_aged env (return e) σ)
        ∙ on_value_aged (value_by union env σ e) n σ fs (λ v. Goes (Back v r ∷ fs) (Went (done is n (use_by union env (return e) σ) σ)))
        (λ v. Goes (Back v r ∷ map F fs) (Went (done is n (S (use_by union env (return e) σ)) (A σ))))
        (λ v. ap (λ τ. Goes (Back (aged_value before v) r ∷ map F fs) (Went τ)) (done_aged is n (use_by union env (return e) σ) σ))

    rest_aged : (f : Inside) (env : List Binding) (ss : TStmts) (fs : List steps.Frame) (σ : Store) → step_rest p regions join_ages of_ages f env ss (map F fs) (A σ)
        ≡ P (step_rest p regions union of_samples f env ss fs σ)
    rest_aged f env no_stmts fs σ = refl
    rest_aged f env (more (stmt n line k) rest) fs σ =
        let e : Option ℕ = ended_by regions n in
        ap (λ u. Goes (Use f env n u k ∷ Done (ends_use (is_fresh env) k) n u ∷ Close e ∷ Rest f (grown k rest env (A σ)) rest ∷ map F fs)
        (Went (opened (begun_by regions n) (A σ)))) (use_aged env k σ)
        ∙ ap (λ γ. Goes (Use f env n (S (use_by union env k σ)) k ∷ Done (ends_use (is_fresh env) k) n (S (use_by union env k σ)) ∷ Close e ∷ Rest f γ rest ∷ map F fs)
        (Went (opened (begun_by regions n) (A σ)))) (grown_aged k rest env σ)
        ∙ ap (λ τ. Goes (Use f env n (S (use_by union env k σ)) k ∷ Done (ends_use (is_fresh env) k) n (S (use_by union env k σ)) ∷ Close e ∷ Rest f
        (grown k rest env σ) rest ∷ map F fs) (Went τ)) (opened_aged (begun_by regions n) σ)

    turns_aged : (f : Inside) (x : Text) (t : ℕ) (i : ℤ) (b : TBlock) (env : List Binding) (fs : List steps.Frame) (σ : Store)
        → step_turns p regions join_ages of_ages f x t i b env (map F fs) (A σ) ≡ P (step_turns p regions union of_samples f x t i b env fs σ)
    turns_aged f x zero i b env fs σ = refl
    turns_aged f x (suc t) i b env fs σ = begin_aged f (in_turn x i ∷ env) b (Turns f x t (i +ℤ pos 1) b env ∷ fs) σ

    loop_aged : (f : Inside) (env : List Binding) (n : ℕ) (e : TExpr) (t : ℕ) (b : TBlock) (u : List ℕ) (fs : List steps.Frame) (σ : Store)
        → step_loop p regions join_ages of_ages f env n e t b (S u) (map F fs) (A σ) ≡ P (step_loop p regions union of_samples f env n e t b u fs σ)
    loop_aged f env n e zero b u fs σ = ap (λ τ. Goes (map F fs) (Went τ)) (done_aged (is_use (is_fresh env) (while_do e 0 b)) n u σ)
    loop_aged f env n e (suc t) b u fs σ =
        let is : Bool = is_use (is_fresh env) (while_do e 0 b) in
        let w : List ℕ = use_by union env (while_do e 0 b) σ in
        ap (λ s. Goes (Test f env n e t b (join_ages (S u) s) ∷ map F fs) (Went (used is n s (A σ)))) (use_aged env (while_do e 0 b) σ)
        ∙ ap (λ s. Goes (Test f env n e t b s ∷ map F fs) (Went (used is n (S w) (A σ)))) (sym (union_age before u w))
        ∙ ap (λ τ. Goes (Test f env n e t b (S (union u w)) ∷ map F fs) (Went τ)) (used_aged is n w σ)

    test_aged : (f : Inside) (env : List Binding) (n : ℕ) (e : TExpr) (t : ℕ) (b : TBlock) (u : List ℕ) (fs : List steps.Frame) (σ : Store)
        → step_test p regions join_ages of_ages f env n e t b (S u) (map F fs) (A σ) ≡ P (step_test p regions union of_samples f env n e t b u fs σ)
    test_aged f env n e t b u fs σ =
        let is : Bool = is_use (is_fresh env) (while_do e 0 b) in
        ap (λ g. on_value g n (A σ) (map F fs) (λ v. if is_zero v.num then Goes (map F fs) (Went (done is n (S u) (A σ))) else begin of_ages f env b (Loop f env n e t b (S u) ∷ map F fs)
        (A σ))) (value_aged env σ e)
        ∙ on_value_aged (value_by union env σ e) n σ fs (λ v. if is_zero v.num then Goes fs (Went (done is n u σ)) else begin of_samples f env b (Loop f env n e t b u ∷ fs) σ)
        (λ v. if is_zero v.num then Goes (map F fs) (Went (done is n (S u) (A σ))) else begin of_ages f env b (Loop f env n e t b (S u) ∷ map F fs) (A σ))
        (λ v. if_aged (is_zero v.num) (Goes fs (Went (done is n u σ))) (begin of_samples f env b (Loop f env n e t b u ∷ fs) σ)
        (Goes (map F fs) (Went (done is n (S u) (A σ)))) (begin of_ages f env b (Loop f env n e t b (S u) ∷ map F fs) (A σ))
        (ap (λ τ. Goes (map F fs) (Went τ)) (done_aged is n u σ)) (begin_aged f env b (Loop f env n e t b u ∷ fs) σ))

    went_aged : (f : steps.Frame) (fs : List steps.Frame) (σ : Store) → step_went p regions join_ages of_ages (F f) (map F fs) (A σ) ≡ P (step_went p regions union of_samples f fs σ)
    went_aged (Rest f env ss) fs σ = rest_aged f env ss fs σ
    went_aged (Use f env n u k) fs σ = ap (λ τ. Goes (Work f env n k ∷ map F fs) (Went τ)) (used_aged (begins_use (is_fresh env) k) n u σ)
    went_aged (Work f env n k) fs σ = work_aged f env n k fs σ
    went_aged (Done is n u) fs σ = ap (λ τ. Goes (map F fs) (Went τ)) (done_aged is n u σ)
    went_aged (Close r) fs σ = ap (λ τ. Goes (map F fs) (Went τ)) (closed_aged r σ)
    went_aged (Take env n k) fs σ = taken_aged env n k (plain (pos 0)) fs σ
    went_aged (Leave n) fs σ = ap (λ τ. Goes (map F fs) (Went τ)) (left_aged n σ)
    went_aged (Turns f x t i b env) fs σ = turns_aged f x t i b env fs σ
    went_aged (Loop f env n e t b u) fs σ = loop_aged f env n e t b u fs σ
    went_aged (Test f env n e t b u) fs σ = test_aged f env n e t b u fs σ
    went_aged (Back v r) fs σ = ap (λ τ. Goes (map F fs) (Returned (aged_value before v) τ)) (closed_aged r σ)

    returned_aged : (f : steps.Frame) (v : Value) (fs : List steps.Frame) (σ : Store) → step_returned p regions join_ages of_ages (F f) (aged_value before v) (map F fs) (A σ)
        ≡ P (step_returned p regions union of_samples f v fs σ)
    returned_aged (Take env n k) v fs σ = taken_aged env n k v fs σ
    returned_aged (Leave n) v fs σ = ap (λ τ. Goes (map F fs) (Returned (aged_value before v) τ)) (left_aged n σ)
    returned_aged frame v fs σ = refl

    step_aged : (fs : List steps.Frame) (o : Outcome) → step p regions join_ages of_ages (map F fs) (aged_outcome before c o) ≡ P (step p regions union of_samples fs o)
    step_aged [] o = refl
    step_aged (f ∷ fs) (Went σ) = went_aged f fs σ
    step_aged (f ∷ fs) (Returned v σ) = returned_aged f v fs σ
    step_aged (f ∷ fs) (Stopped s σ) = refl

pub steps_age : StepsAge
steps_age = λ p regions before c fs o. step_aged before c p regions fs o

pub senses_age : SensesAge
senses_age = λ p regions before c s z σ e. ap
    (λ n. Returned (record { num = z; samples = n ∷ [] }) (noted (Rattle.oc_tree.specs.declared.said.Said.TheVariants.Sensed s z) (n ∷ []) (aged_store before c σ))) (sym e)
