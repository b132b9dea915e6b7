-- A function tells tags of its own sets alone, and calls none that leads back to it.
use Rattle.std.proofs.Common.{◌≡◌, inl, inr, ◌<◌, ◌≤◌, ℕ, zero, suc, ◌==◌, Bool, true, List, [], ◌∷◌, length, Option, Some, None, refl, ap, sym, ◌∙◌, arith}
use Rattle.std.specs.Prelude.{ℤ, ◌||◌, slice_get, option_map, option_and_then}
use Rattle.std.proofs.lemmas.Option.{same_Some}
use Rattle.oc_tree.specs.Names.{Text}
use Rattle.oc_tree.specs.Tree.{call, TKind, if_else, for_in, while_do, consistent}
use Rattle.oc_tree.specs.Tree.{TElse, no_else, else_do, stmt, TBlock, block, TStmts, no_stmts, more, TFunction, TProgram}
use Rattle.oc_tree.specs.declared.tree.VarId.TheVariants as variables
use Rattle.oc_tree.specs.Calls.{function_place}
use Rattle.oc_tree.specs.Checked.{Group, IsChecked}
use Rattle.oc_tree.specs.Marked.{TRegion}
use Rattle.oc_tree.specs.Places.{Place as Spot, Placed, behind, in_branch, in_loop, at_start, kind_placed, else_placed, block_placed, stmts_placed}
use Rattle.oc_meaning.specs.Blocks.{set_home}
use Rattle.oc_meaning.specs.Store.{Event, Store}
use Rattle.oc_meaning.specs.Exec.{Passed, Outcome, Went, Returned, Stopped, leave, block_run}
use Rattle.oc_meaning.specs.Run.{Frame, with_params, function_named, nv_env, function_run, call_to}
use Rattle.oc_effects.specs.Effects.{call_of, called_at, called_by, effect_of}
use Rattle.oc_tree.specs.Members.{IsOf}
use Rattle.oc_flow.proofs.Fixpoint.{Ranked}
use Rattle.oc_timely.proofs.Callees.{callee_at}
use Rattle.oc_laws.proofs.Members.{of_left, of_right}
use Rattle.oc_timely.proofs.Owned.{set_here}
use Rattle.oc_timely.proofs.Stated.{effect}
use Rattle.oc_timely.proofs.Tagged.{Since, SinceOut, since_like, NoteFits, Fits, KindFits, ElseFits, BlockFits, StmtsFit, block_since}

-- ---- calls

module _ (p : TProgram) (groups : List Group) (checked : IsChecked p groups) (ranked : Ranked p) (regions : List TRegion) (f : ℕ) (g : TFunction) (at : slice_get p.functions f ≡ Some g) (k : ℤ) where
  -- what such a name calls doesn't lead to the function
  abbrev pub IsLower : Text → Type 0
  IsLower x = (w : ℕ) → function_place p.functions x ≡ Some w → ranked.rank w < ranked.rank f

  -- a call of a function leads further down
  pub lower : (u : ℕ) (h : TFunction) → slice_get p.functions u ≡ Some h → ranked.rank u ≤ ranked.rank f → (b : Placed) → IsOf b (block_placed (at_start h) h.body) → (x : Text) (args : _) →
      call_of b.kind ≡ Some (call x args) → IsLower x
  lower u h is le b o x args e w place =
      let called : (effect_of p b).call ≡ Some (called_at p b args w) = ap (λ o. option_and_then (called_by p b) o) e ∙ ap (λ o. option_map (called_at p b args) o) place in
      let l = ranked.falls u (effect_of p b) (called_at p b args w) (effect p u h is b o) called in
      omega (arith, l, le)

  pair_is : (u : ℕ) (j : ℤ) → ◌≡◌ {A = Option (ℕ × ℤ)} (Some (u, j)) (Some (f, k)) → (u ≡ f) × (j ≡ k)
  pair_is u j e = let q : ◌≡◌ {A = ℕ × ℤ} (u, j) (f, k) = same_Some (u, j) (f, k) e in (ap (λ (z : ℕ × ℤ). z.0) q, ap (λ (z : ℕ × ℤ). z.1) q)

  module _ (older : List Event) (c : ℕ) (own : ℕ → Type 0) where
    abbrev CallsAway : ℕ → Type 0
    CallsAway depth = (i : Bool) (x : Text) → IsLower x → (ps : List Passed) (σ : Store) → Since p f g k older c own i σ → SinceOut p f g k older c own i (call_to p regions depth x ps σ)

    -- a statement of a function that is this one, or doesn't lead to it
    pub fits : (depth : ℕ) → CallsAway depth → (u : ℕ) (h : TFunction) → slice_get p.functions u ≡ Some h → ranked.rank u ≤ ranked.rank f → (b : Placed) → IsOf b (block_placed (at_start h) h.body) →
        (j : Bool) →
        ((x : Text) → b.kind ≡ consistent x k → u ≡ f → (j ≡ true) × own b.id) → Fits p f g k older c own regions (call_to p regions depth) (set_home h.body) j b.id b.kind
    fits depth calls u h is le b o j its = (note b.kind refl, λ x args e ps σ s. calls j x (lower u h is le b o x args e) ps σ s)
      where
        note : (s : TKind) → b.kind ≡ s → NoteFits p f g k older c own regions (call_to p regions depth) (set_home h.body) j b.id s
        note (consistent x l) e = λ q.
            let r = pair_is u l (sym (set_here p checked.form.numbered.statements u h is b x l o e) ∙ q) in
            let same : g ≡ h = same_Some g h (sym at ∙ ap (slice_get p.functions) (sym r.0) ∙ is) in
            let i = its x (e ∙ ap (consistent x) r.1) r.0 in
            (i.0, ap (λ (z : TFunction). set_home z.body k) same ∙ ap (set_home h.body) (sym r.1), i.1)
        note k e = tt

    -- all that stand in a tree
    module _ (call_at : Text → List Passed → Store → Outcome) (home : ℤ → ℕ) where
      abbrev pub AllFit : Bool → List Placed → Type 0
      AllFit i bs = (b : Placed) → IsOf b bs → (j : Bool) → (i ≡ true → j ≡ true) → Fits p f g k older c own regions call_at home j b.id b.kind

      mutual
        pub kind_fits : (i : Bool) (spot : Spot) (id : ℕ) (s : TKind) → AllFit i (kind_placed spot id s) → KindFits p f g k older c own regions call_at home i s
        kind_fits i spot id (if_else d a b) h = (
          block_fits i (in_branch spot id) a
              (λ z o. h z (of_left z (block_placed (in_branch spot id) a) (else_placed (in_branch spot id) b) o)),
          else_fits i (in_branch spot id) b
              (λ z o. h z (of_right z (block_placed (in_branch spot id) a) (else_placed (in_branch spot id) b) o)),
        )
        kind_fits i spot id (for_in x m n b) h = block_fits i (in_loop spot id ((x, variables.Declared id) ∷ [])) b h
        kind_fits i spot id (while_do d t b) h = block_fits i (in_loop spot id []) b h
        kind_fits i spot id s h = tt

        pub else_fits : (i : Bool) (spot : Spot) (b : TElse) → AllFit i (else_placed spot b) → ElseFits p f g k older c own regions call_at home i b
        else_fits i spot no_else h = tt
        else_fits i spot (else_do b) h = block_fits i spot b h

        pub block_fits : (i : Bool) (spot : Spot) (b : TBlock) → AllFit i (block_placed spot b) → BlockFits p f g k older c own regions call_at home i b
        block_fits i spot (block id ss) h = stmts_fit (i || (set_home g.body k == id)) (record spot { block = id }) ss (λ z o j l. h z o j (λ e. l (ap (λ y. y || (set_home g.body k == id)) e)))

        pub stmts_fit : (i : Bool) (spot : Spot) (ss : TStmts) → AllFit i (stmts_placed spot ss) → StmtsFit p f g k older c own regions call_at home i ss
        stmts_fit i spot no_stmts h = tt
        stmts_fit i spot (more (stmt id line s) rest) h = (
          h _ (inl refl) i (λ e. e),
          kind_fits i spot id s (λ z o. h z (inr (of_left z (kind_placed spot id s) (stmts_placed (behind spot id s) rest) o))),
          stmts_fit i
              (behind spot id s) rest (λ z o. h z (inr (of_right z (kind_placed spot id s) (stmts_placed (behind spot id s) rest) o))),
        )

    leaves : (i : Bool) (n : ℕ) (o : Outcome) → SinceOut p f g k older c own i o → SinceOut p f g k older c own i (leave n o)
    leaves i n (Went τ) h = since_like p f g k older c own i τ _ refl refl h
    leaves i n (Returned v τ) h = since_like p f g k older c own i τ _ refl refl h
    leaves i n (Stopped s τ) h = h

    function_away : (depth : ℕ) → CallsAway depth → (i : Bool) (x : Text) → IsLower x → (o : Option TFunction) → function_named p.functions x ≡ o → (ps : List Passed) (σ : Store) →
        Since p f g k older c own i σ → SinceOut p f g k older c own i (function_run p regions (call_to p regions depth) o ps σ)
    function_away depth calls i x low None e ps σ s = s
    function_away depth calls i x low (Some h) e ps σ s =
        let q = callee_at p x h e in
        let l = low q.0 q.1 in
        let fr : Frame = with_params h.params ps (record { env = nv_env 0 p.names.nvs; locals = σ.locals }) in
        leaves i (length σ.locals) (block_run p.names regions (call_to p regions depth) (set_home h.body) fr.env h.body (record σ { locals = fr.locals }))
        (block_since p f g k older c own regions (call_to p regions depth) (set_home h.body) i fr.env h.body (record σ { locals = fr.locals })
        (block_fits (call_to p regions depth) (set_home h.body) i (at_start h) h.body
        (λ b o j t. fits depth calls q.0 h q.2 (omega (arith, l)) b o j (λ y d n. absurd (let m : ranked.rank q.0 ≡ ranked.rank f = ap ranked.rank n in omega (arith, l, m)))))
        (since_like p f g k older c own i σ (record σ { locals = fr.locals }) refl refl s))

    pub calls_away : (depth : ℕ) → CallsAway depth
    calls_away zero i x low ps σ s = s
    calls_away (suc depth) i x low ps σ s = function_away depth (calls_away depth) i x low (function_named p.functions x) refl ps σ s
