-- The functions of checked programs are few and small.
use Rattle.std.proofs.Common.{◌≡◌, ◌≤◌, ℕ, ◌+◌, ◌*◌, Bool, true, false, List, [], ◌∷◌, length, map, Some, cond, is_some, sum_by, subst, sym, arith, All}
use Rattle.std.specs.Prelude.{slice_get, codes}
use Rattle.std.specs.Str.{bytes_eq}
use Rattle.std.proofs.lemmas.List.{length-map, get_or-map}
use Rattle.std.proofs.Math.ListN.{get_or}
use Rattle.std.proofs.lemmas.List.Sums.{get_or-le-sum_by}
use Rattle.std.proofs.lemmas.Option.{slice_get_within, slice_get-get_or, get_or_from_slice_get}
use Rattle.oc_tree.specs.Names.{Text, NameLists}
use Rattle.oc_tree.specs.Tree.{TKind, let_to, let_array, assign, assign_index, assign_deref, if_else, for_in, while_do, call_only, sense_only, emit, fresh, consistent, return}
use Rattle.oc_tree.specs.Tree.{TElse, no_else, else_do, stmt, TBlock, block, TStmts, no_stmts, more, TFunction, TProgram}
use Rattle.oc_tree.specs.Checked.{Group, IsChecked}
use Rattle.oc_tree.specs.Marked.{TRegion}
use Rattle.oc_tree.specs.Expansion.{inner_size, else_size, block_size, stmts_size, program_size}
use Rattle.oc_tree.specs.Stack.{kind_slots, else_slots, block_slots, stmts_slots, link_words}
use Rattle.oc_tree.specs.View.{function_view}
use Rattle.oc_tree.specs.declared.tree.Function.{Function}
use Rattle.oc_code.specs.Scope.{Named, in_scope, for_named, function_scope}
use Rattle.oc_code.specs.Formed.{kind_formed, else_formed, block_formed, stmts_formed, body_formed, IsLast}
use Rattle.oc_desugar.proofs.FewStatements.{few_statements}
use Rattle.oc_desugar.proofs.SizesKept.{unbroken_element}
use Rattle.oc_checked.proofs.Amounts.{few_functions as functions_few}
use Rattle.oc_checked.proofs.Declared.{AllWithin, all_within}
use Rattle.oc_formed.proofs.Law.{checked_formed}
use Rattle.oc_checked.proofs.Mains.{head_fine}
use Rattle.oc_codegen.specs.Small.{kind_bounded, else_bounded, block_bounded, stmts_bounded, IsSmall}

-- A statement takes at most 65,537 slots: an array's words, and a counter.
module _ (names : NameLists) (fs : List TFunction) (regions : List TRegion) (rank : Text → ℕ) (own : ℕ) where
  -- behind a `return` there is nothing
  last_small : (ss : TStmts) → IsLast ss → stmts_bounded ss × (stmts_slots ss ≤ 65537 * stmts_size ss)
  last_small no_stmts h = (tt, omega arith)
  last_small (more s rest) h = absurd h

  mutual
    kind_small : (γ : List Named) (s : ℕ) (k : TKind) → kind_formed names fs regions rank own γ s k → kind_bounded k × (kind_slots k ≤ 65537 * (1 + inner_size k))
    kind_small γ s (let_to m x t r) fm = (tt, omega arith)
    kind_small γ s (let_array m x t z n) fm = (tt, omega (arith, fm.1))
    kind_small γ s (assign x r) fm = (tt, omega arith)
    kind_small γ s (assign_index x e r) fm = (tt, omega arith)
    kind_small γ s (assign_deref x r) fm = (tt, omega arith)
    kind_small γ s (if_else c a b) fm =
        let first = block_small γ s a fm.0 in
        let second = else_small γ (s + block_slots a) b fm.1 in
        ((first.0, second.0), omega (arith, first.1, second.1))
    kind_small γ s (for_in x c d b) fm =
        let body = block_small (for_named x s ∷ γ) (s + 1) b fm.2 in
        (body.0, omega (arith, body.1))
    kind_small γ s (while_do c n b) fm =
        let body = block_small γ (s + 1) b fm.1 in
        ((fm.0, body.0), omega (arith, body.1))
    kind_small γ s (call_only c) fm = (tt, omega arith)
    kind_small γ s (sense_only x) fm = (tt, omega arith)
    kind_small γ s (emit p e) fm = (tt, omega arith)
    kind_small γ s (fresh x) fm = (tt, omega arith)
    kind_small γ s (consistent x i) fm = (tt, omega arith)
    kind_small γ s (return e) fm = absurd fm

    else_small : (γ : List Named) (s : ℕ) (b : TElse) → else_formed names fs regions rank own γ s b → else_bounded b × (else_slots b ≤ 65537 * else_size b)
    else_small γ s no_else fm = (tt, omega arith)
    else_small γ s (else_do b) fm = block_small γ s b fm

    block_small : (γ : List Named) (s : ℕ) (b : TBlock) → block_formed names fs regions rank own γ s b → block_bounded b × (block_slots b ≤ 65537 * block_size b)
    block_small γ s (block id ss) fm = stmts_small false 0 γ s ss fm

    stmts_small : (g : Bool) (o : ℕ) (γ : List Named) (s : ℕ) (ss : TStmts) → stmts_formed names fs regions rank own g o γ s ss
        → stmts_bounded ss × (stmts_slots ss ≤ 65537 * stmts_size ss)
    stmts_small g o γ s no_stmts fm = (tt, omega arith)
    stmts_small g o γ s (more (stmt n line (return e)) rest) fm =
        let left = last_small rest fm.2 in
        ((tt, left.0), omega (arith, left.1))
    stmts_small g o γ s (more (stmt n line k) rest) fm =
        let here = kind_small γ s k fm.0 in
        let left = stmts_small g fm.1 (in_scope k s rest γ) (s + kind_slots k) rest fm.3 in
        ((here.0, left.0), omega (arith, here.1, left.1))

  body_small : (g : Bool) (γ : List Named) (s : ℕ) (b : TBlock) → body_formed names fs regions rank own g γ s b → block_bounded b × (block_slots b ≤ 65537 * block_size b)
  body_small g γ s (block id ss) fm = stmts_small g 0 γ s ss fm

-- at most two words lead back
few_links : (f : TFunction) → link_words f ≤ 2
few_links f = go (bytes_eq f.name (codes "main"))
  where
    go : (b : Bool) → cond b 0 2 ≤ 2
    go true = omega arith
    go false = omega arith

-- what the function at a place has is a part of the whole
one_of : (fs : List TFunction) (i : ℕ) (f : TFunction) → slice_get fs i ≡ Some f → block_size f.body ≤ sum_by (λ g. block_size g.body) fs
one_of fs i f stands =
    subst (λ (g : TFunction). block_size g.body ≤ sum_by (λ g. block_size g.body) fs) (get_or_from_slice_get fs i f f stands)
    (get_or-le-sum_by (λ g. block_size g.body) fs i f (slice_get_within fs i f stands))

module _ (p : TProgram) (groups : List Group) (checked : IsChecked p groups) where
  within : AllWithin p
  within = all_within p checked.form.declared checked.unbroken

  -- its functions are few
  pub few_functions : length p.functions ≤ 128
  few_functions = functions_few p within

  -- each is small
  pub small_function : (i : ℕ) (f : TFunction) → slice_get p.functions i ≡ Some f → IsSmall f
  small_function i f stands =
      let formed = checked_formed p groups checked in
      let body = body_small p.names p.functions [] formed.rank (formed.rank f.name) (is_some f.result) (function_scope p f) (length f.params + link_words f) f.body (formed.bodies i f stands) in
      let params : length f.params ≤ 8 = (head_fine p within i f stands).few_params in
      let statements : program_size p ≤ 8192 = few_statements p checked.form.declared (unbroken_element p checked.unbroken) in
      record { few_params = params; short_frame = omega (arith, params, few_links f, body.1, one_of p.functions i f stands, statements); bounded = body.0 }

  -- the same of the functions that are read as those of a checked program
  pub read_functions : (fs : List Function) → map function_view fs ≡ p.functions → (length fs ≤ 128) × All (λ f. IsSmall (function_view f)) fs
  read_functions fs e = (
    let few : length (map function_view fs) ≤ 128 = subst (λ (gs : List TFunction). length gs ≤ 128) (sym e) few_functions in omega (arith, few, length-map fs function_view),
    λ i d below.
        let same : get_or (map function_view fs) i (function_view d) ≡ function_view (get_or fs i d) = get_or-map function_view fs i d (function_view d) below in
        let there : slice_get (map function_view fs) i ≡ Some (get_or (map function_view fs) i (function_view d)) =
        slice_get-get_or (map function_view fs) i (function_view d) (omega (arith, below, length-map fs function_view)) in
        let f = get_or (map function_view fs) i (function_view d) in
        subst IsSmall same (small_function i f (subst (λ (gs : List TFunction). slice_get gs i ≡ Some f) e there)),
  )
