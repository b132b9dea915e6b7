-- Each statement that names a fresh variable of the code is told as a use.
use Rattle.std.proofs.Common.{◌≡◌, ℕ, zero, suc, ◌+◌, Bool, true, false, true≢false, List, [], ◌∷◌, ◌++◌, map, append-nil, cond, Option, Some, None, refl, sym, ap, ◌∙◌, subst}
use Rattle.std.specs.Prelude.{is_some, slice_get, ◌&&◌, ◌||◌, if◌then◌else◌, nat_eq, option_map, option_to_list}
use Rattle.std.specs.List.{list_any}
use Rattle.std.specs.Option.{option_or}
use Rattle.std.specs.Str.{bytes_eq}
use Rattle.std.proofs.lemmas.Bool.{eq-eqb, and_from, or_left, or_right}
use Rattle.std.proofs.lemmas.Option.{none-some, same_Some}
use Rattle.std.proofs.lemmas.Slice.Eq.{bytes_eq-Decides}
use Rattle.std.proofs.lemmas.List.Folds.{list_any-append}
use Rattle.oc_tree.specs.Names.{Text}
use Rattle.oc_tree.specs.Tree.{TKind, let_to, let_array, if_else, for_in, while_do, fresh, TElse}
use Rattle.oc_tree.specs.Tree.{no_else, else_do, stmt, TBlock, block, TStmts, no_stmts, more, TFunction, TProgram}
use Rattle.oc_tree.specs.declared.tree.NvDecl.{NvDecl}
use Rattle.oc_tree.specs.declared.tree.Param.{Param}
use Rattle.oc_tree.specs.declared.tree.VarId.{VarId}
use Rattle.oc_tree.specs.declared.tree.VarId.TheVariants as variables
use Rattle.oc_tree.specs.declared.scope.Var.{Var}
use Rattle.oc_tree.specs.Scope.{variable_in, is_in_scope, is_declared, is_taken}
use Rattle.oc_tree.specs.Stack.{kind_slots, block_slots}
use Rattle.oc_tree.specs.Places.{Place as Spot, Placed, Variables, find_variable, let_variables, or_nonvolatile, behind, in_branch, in_loop, at_start, kind_placed, else_placed, block_placed}
use Rattle.oc_tree.specs.Places.{stmts_placed}
use Rattle.oc_tree.specs.Named.{own_names}
use Rattle.oc_meaning.specs.Uses.{is_annotated}
use Rattle.oc_meaning.specs.Uses as meaning
use Rattle.oc_code.specs.Scope.{InNv, kind_words, param_slot, may_write, Named, named, is_fresh_in, let_named, for_named, in_scope, params_scope, nv_scope, function_scope}
use Rattle.oc_effects.specs.declared.effect.Note.TheVariants as notes
use Rattle.oc_effects.specs.Effects.{TEffect, variable_at, variables_at, note_of, effect_of, function_effects}
use Rattle.oc_flow.specs.Variables.{same_variable}
use Rattle.oc_checked.proofs.BodiesPass.{first_fails, AllFine}
use Rattle.oc_tree.specs.Elements.{block_elements, in_function}
use Rattle.oc_writes.proofs.Standing.{Each, each_map, each_front, each_back, each_both, each_for}
use Rattle.oc_writes.proofs.KeptNames.{found_on}
use Rattle.oc_writes.proofs.KeptRules.{Same, Ruled, body_ruled}
use Rattle.oc_budget.specs.Costs.{is_fresh_note, uses_in, is_use as budget_use}
use Rattle.oc_budget.proofs.BoundPlain.{kind_told, else_told, block_told, stmts_told}

same_itself : (w : VarId) → same_variable w w ≡ true
same_itself (variables.Nv n) = eq-eqb n n refl
same_itself (variables.Param n) = eq-eqb n n refl
same_itself (variables.Declared n) = eq-eqb n n refl
same_itself variables.Returned = refl

-- ---- variables one behind the other

stays : (vs ws : Variables) (x : Text) (w : VarId) → find_variable vs x ≡ Some w → find_variable (vs ++ ws) x ≡ Some w
stays vs ws x w e = found_on vs ws x ∙ ap (λ o. option_or o (find_variable ws x)) e

found_own : (vs : Variables) (x : Text) (w : VarId) → find_variable vs x ≡ None → find_variable (vs ++ (x, w) ∷ []) x ≡ Some w
found_own vs x w e = found_on vs ((x, w) ∷ []) x ∙ ap (λ o. option_or o (find_variable ((x, w) ∷ []) x)) e ∙ ap (λ b. cond b (Some w) None) ((bytes_eq-Decides x x).1 refl)

module _ (p : TProgram) (f : TFunction) where
  -- where the rules see no variable of a name, there is none
  none_seen : (x : Text) (o : Option Var) (w : Option VarId) → Same p f x o w → is_some o ≡ false → w ≡ None
  none_seen x None None s h = refl
  none_seen x None (Some w) s h = absurd s
  none_seen x (Some v) w s h = absurd (true≢false h)

  new_name : (a : Placed) (r : Ruled p f a) (x : Text) → is_taken p r.here.scope x ≡ false → find_variable a.at.variables x ≡ None
  new_name a r x free = none_seen x (variable_in r.here.scope x) (find_variable a.at.variables x) (r.same x) (first_fails (is_in_scope r.here.scope x) (is_declared p x) free)

module _ (p : TProgram) (f : TFunction) (es : List TEffect) (uses : ℕ → Bool) where
  -- the variable is annotated `Fresh` by one of these statements
  abbrev noted : VarId → Bool
  noted w = list_any (λ b. is_fresh_note w b.note) es

  -- what is known of each statement of the function
  pub record Told (a : Placed) : Type 0 where
    pub ruled : Ruled p f a
    pub used : list_any noted (effect_of p a).named ≡ true → uses a.id ≡ true
    pub marks : (w : VarId) → note_of p a a.kind ≡ Some (notes.Fresh w) → noted w ≡ true

  -- what the code takes for fresh is a variable with an annotation
  abbrev FreshSeen : List Named → Variables → Type 0
  FreshSeen γ vs = (x : Text) → (named γ x).fresh ≡ true → (w : VarId) × (find_variable vs x ≡ Some w) × (noted w ≡ true)

  seen_more : (γ : List Named) (vs : Variables) (g : Named) (w : VarId) → (g.fresh ≡ true → (find_variable (vs ++ (g.name, w) ∷ []) g.name ≡ Some w) × (noted w ≡ true)) → FreshSeen γ vs
      → FreshSeen (g ∷ γ) (vs ++ (g.name, w) ∷ [])
  seen_more γ vs g w own seen x = by (bytes_eq x g.name) refl
    where
      by : (b : Bool) → bytes_eq x g.name ≡ b → (if b then g else named γ x).fresh ≡ true → (v : VarId) × (find_variable (vs ++ (g.name, w) ∷ []) x ≡ Some v) × (noted v ≡ true)
      by true is h = let o = own h in let same : x ≡ g.name = (bytes_eq-Decides x g.name).0 is in (w, ap (find_variable (vs ++ (g.name, w) ∷ [])) same ∙ o.0, o.1)
      by false is h = let o = seen x h in (o.0, stays vs ((g.name, w) ∷ []) x o.0 o.1, o.2)

  seen_same : (γ : List Named) (vs : Variables) → FreshSeen γ vs → FreshSeen γ (vs ++ [])
  seen_same γ vs seen = subst (λ ws. FreshSeen γ ws) (sym (append-nil vs)) seen

  -- ---- a statement

  names_told : (γ : List Named) (a : Placed) → FreshSeen γ a.at.variables → (xs : List Text) → list_any (is_fresh_in γ) xs ≡ true → list_any noted (variables_at p a xs) ≡ true
  names_told γ a seen [] h = absurd (true≢false (sym h))
  names_told γ a seen (x ∷ xs) h =
      list_any-append noted (option_to_list (variable_at p a x)) (variables_at p a xs)
      ∙ by (is_fresh_in γ x) refl h (names_told γ a seen xs)
    where
      by : (b : Bool) → is_fresh_in γ x ≡ b → b || list_any (is_fresh_in γ) xs ≡ true → (list_any (is_fresh_in γ) xs ≡ true → list_any noted (variables_at p a xs) ≡ true)
          → list_any noted (option_to_list (variable_at p a x)) || list_any noted (variables_at p a xs) ≡ true
      by true is e rest =
          let o = seen x is in
          or_left _ (list_any noted (variables_at p a xs)) (ap (λ v. list_any noted (option_to_list (or_nonvolatile p x v))) o.1 ∙ or_left (noted o.0) false o.2)
      by false is e rest = or_right (list_any noted (option_to_list (variable_at p a x))) _ (rest e)

  -- the statement that annotates it stands among those behind it
  fresh_marks : (a : Placed) (x : Text) (w : VarId) (k : TKind) → find_variable a.at.variables x ≡ Some w → meaning.is_fresh_note x k ≡ true → note_of p a k ≡ Some (notes.Fresh w)
  fresh_marks a x w (fresh y) found h =
      let same : y ≡ x = sym ((bytes_eq-Decides x y).0 h) in
      ap (λ z. option_map notes.Fresh (variable_at p a z)) same ∙ ap (λ o. option_map notes.Fresh (or_nonvolatile p x o)) found
  fresh_marks a x w k found h = absurd (true≢false (sym h))

  annotated : (x : Text) (w : VarId) (at : Spot) (ss : TStmts) → find_variable at.variables x ≡ Some w → is_annotated x ss ≡ true → Each Told (stmts_placed at ss) → noted w ≡ true
  annotated x w at no_stmts found h told = absurd (true≢false (sym h))
  annotated x w at (more (stmt n line k) rest) found h told =
      by (meaning.is_fresh_note x k) refl h (λ e. annotated x w (behind at n k) rest (stays at.variables (let_variables n k) x w found) e
      (each_back Told (kind_placed at n k) (stmts_placed (behind at n k) rest) told.1))
    where
      by : (b : Bool) → meaning.is_fresh_note x k ≡ b → b || is_annotated x rest ≡ true → (is_annotated x rest ≡ true → noted w ≡ true) → noted w ≡ true
      by true is e later = told.0.marks w (fresh_marks (record { id = n; line = line; kind = k; at = at }) x w k found is)
      by false is e later = later e

  seen_behind : (γ : List Named) (s : ℕ) (at : Spot) (n line : ℕ) (k : TKind) (rest : TStmts) → FreshSeen γ at.variables → Ruled p f (record { id = n; line = line; kind = k; at = at })
      → Each Told (stmts_placed (behind at n k) rest) → FreshSeen (in_scope k s rest γ) (behind at n k).variables
  seen_behind γ s at n line (let_to m x t r) rest seen ruled told =
      let own = found_own at.variables x (variables.Declared n) (new_name p f (record { id = n; line = line; kind = let_to m x t r; at = at }) ruled x ruled.rules.taken) in
      seen_more γ at.variables (let_named x s 1 rest) (variables.Declared n) (λ h. (own, annotated x (variables.Declared n) (behind at n (let_to m x t r)) rest own h told)) seen
  seen_behind γ s at n line (let_array m x t z i) rest seen ruled told =
      let own = found_own at.variables x (variables.Declared n) (new_name p f (record { id = n; line = line; kind = let_array m x t z i; at = at }) ruled x ruled.rules.taken) in
      seen_more γ at.variables (let_named x (s + 1) i rest) (variables.Declared n) (λ h. (own, annotated x (variables.Declared n) (behind at n (let_array m x t z i)) rest own h told)) seen
  seen_behind γ s at n line k rest seen ruled told = seen_same γ at.variables seen

  mutual
    kind_used : (γ : List Named) (s : ℕ) (at : Spot) (n : ℕ) (k : TKind) → FreshSeen γ at.variables → Each Told (kind_placed at n k) → kind_told uses γ s k
    kind_used γ s at n (if_else c a b) seen told = (
      block_used γ s (in_branch at n) a seen (each_front Told (block_placed (in_branch at n) a) (else_placed (in_branch at n) b) told),
      else_used γ (s + block_slots a) (in_branch at n) b
          seen (each_back Told (block_placed (in_branch at n) a) (else_placed (in_branch at n) b) told),
    )
    kind_used γ s at n (for_in x c d b) seen told =
        block_used (for_named x s ∷ γ) (s + 1) (in_loop at n ((x, variables.Declared n) ∷ [])) b
        (seen_more γ at.variables (for_named x s) (variables.Declared n) (λ h. absurd (true≢false (sym h))) seen) told
    kind_used γ s at n (while_do c i b) seen told = block_used γ (s + 1) (in_loop at n []) b (seen_same γ at.variables seen) told
    kind_used γ s at n k seen told = tt

    else_used : (γ : List Named) (s : ℕ) (at : Spot) (b : TElse) → FreshSeen γ at.variables → Each Told (else_placed at b) → else_told uses γ s b
    else_used γ s at no_else seen told = tt
    else_used γ s at (else_do b) seen told = block_used γ s at b seen told

    block_used : (γ : List Named) (s : ℕ) (at : Spot) (b : TBlock) → FreshSeen γ at.variables → Each Told (block_placed at b) → block_told uses γ s b
    block_used γ s at (block id ss) seen told = stmts_used γ s (record at { block = id }) ss seen told

    stmts_used : (γ : List Named) (s : ℕ) (at : Spot) (ss : TStmts) → FreshSeen γ at.variables → Each Told (stmts_placed at ss) → stmts_told uses γ s ss
    stmts_used γ s at no_stmts seen told = tt
    stmts_used γ s at (more (stmt n line k) rest) seen told =
        let a : Placed = record { id = n; line = line; kind = k; at = at } in
        let later = each_back Told (kind_placed at n k) (stmts_placed (behind at n k) rest) told.1 in (
          λ h. told.0.used (names_told γ a seen (own_names k) h),
          kind_used γ s at n k seen (each_front Told (kind_placed at n k) (stmts_placed (behind at n k) rest) told.1),
          stmts_used (in_scope k s rest γ) (s + kind_slots k) (behind at n k) rest (seen_behind γ s at n line k rest seen told.0.ruled later) later,
        )

  -- ---- the start of a function

  nvs_old : (a : ℕ) (xs : List Text) (ds : List NvDecl) (x : Text) → (named (nv_scope a xs ds) x).fresh ≡ false
  nvs_old a [] ds x = refl
  nvs_old a (y ∷ xs) [] x = refl
  nvs_old a (y ∷ xs) (d ∷ ds) x = by (bytes_eq x y) (nvs_old (a + d.words) xs ds x)
    where
      by : (b : Bool) → (named (nv_scope (a + d.words) xs ds) x).fresh ≡ false
          → (if b then record { name = y; slot = InNv a; words = d.words; writable = true; fresh = false } else named (nv_scope (a + d.words) xs ds) x).fresh ≡ false
      by true h = refl
      by false h = h

  params_old : (qs : List Param) (k : ℕ) (γ : List Named) (x : Text) → (named γ x).fresh ≡ false → (named (params_scope qs k γ) x).fresh ≡ false
  params_old [] k γ x h = h
  params_old (q ∷ qs) k γ x h = params_old qs (k + 1) _ x (by (bytes_eq x q.name))
    where
      by : (b : Bool) → (if b then record { name = q.name; slot = param_slot q.passing k; words = kind_words q.kind; writable = may_write q.passing; fresh = false } else named γ x).fresh ≡ false
      by true = refl
      by false = h

  pub body_used : Each Told (block_placed (at_start f) f.body) → (s : ℕ) → block_told uses (function_scope p f) s f.body
  body_used told s =
      block_used (function_scope p f) s (at_start f) f.body
      (λ x h. absurd (true≢false (sym h ∙ params_old f.params 0 (nv_scope 0 p.names.nvs p.nv) x (nvs_old 0 p.names.nvs p.nv x))))
      told

-- ---- effects

-- what passes is in the list of effects
each_member : (p : TProgram) (P : Placed → TEffect → Bool) (xs : List Placed) → Each (λ a. P a (effect_of p a) ≡ true → list_any (P a) (map (effect_of p) xs) ≡ true) xs
each_member p P [] = tt
each_member p P (a ∷ xs) =
    ((λ h. or_left (P a (effect_of p a)) _ h), each_map _ _ (λ b g h. or_right (P b (effect_of p a)) _ (g h)) xs (each_member p P xs))

in_some : (p : TProgram) (test : List TEffect → Bool) (fs : List TFunction) (u : ℕ) (f : TFunction) → slice_get fs u ≡ Some f → test (function_effects p f) ≡ true
    → list_any test (map (function_effects p) fs) ≡ true
in_some p test [] u f e h = absurd (none-some f e)
in_some p test (g ∷ fs) zero f e h = or_left (test (function_effects p g)) _ (ap (λ k. test (function_effects p k)) (same_Some g f e) ∙ h)
in_some p test (g ∷ fs) (suc u) f e h = or_right (test (function_effects p g)) _ (in_some p test fs u f e h)

-- each statement of a function that is given by its place
pub function_told : (p : TProgram) (u : ℕ) (f : TFunction) → slice_get p.functions u ≡ Some f → AllFine p (block_elements p (in_function f u) f.body)
    → Each (Told p f (function_effects p f) (budget_use p)) (block_placed (at_start f) f.body)
function_told p u f stands fine =
    let es = function_effects p f in
    let xs = block_placed (at_start f) f.body in
    let T : VarId → Bool = λ w. list_any (λ b. is_fresh_note w b.note) es in
    let one = each_member p (λ a b. nat_eq b.stmt a.id && list_any T b.named) xs in
    let two = each_for VarId (λ w a. is_fresh_note w (effect_of p a).note ≡ true → T w ≡ true) xs (λ w. each_member p (λ a b. is_fresh_note w b.note) xs) in
    each_map _ (Told p f es (budget_use p))
    (λ a h. record {
      ruled = h.0;
      used = λ k. in_some p (uses_in a.id) p.functions u f stands (h.1.0 (and_from (nat_eq a.id a.id) (list_any T (effect_of p a).named) (eq-eqb a.id a.id refl) k));
      marks = λ w e. h.1.1 w (ap (is_fresh_note w) e ∙ same_itself w);
    })
    xs (each_both _ _ xs (body_ruled p f u fine) (each_both _ _ xs one two))
