-- A call adds fine events, where the runs of functions do.
use Rattle.std.proofs.Common.{◌≡◌, ℕ, suc, ◌≤◌, Bool, true, List, [], ◌∷◌, length, Option, Some, None, refl, sym, ap, ◌∙◌, subst}
use Rattle.std.specs.Prelude.{ℤ, option_map, option_and_then, slice_get}
use Rattle.oc_tree.specs.Names.{Text}
use Rattle.oc_tree.specs.Tree.{call, TFunction, TProgram}
use Rattle.oc_tree.specs.Calls.{function_place}
use Rattle.oc_tree.specs.Checked.{Group, IsChecked}
use Rattle.oc_tree.specs.Places.{Placed}
use Rattle.oc_tree.specs.Marked.{TMarked}
use Rattle.oc_tree.specs.declared.tree.VarId.{VarId}
use Rattle.oc_tree.specs.declared.tree.Param.{Param}
use Rattle.oc_tree.specs.declared.tree.Passing.{Passing}
use Rattle.oc_tree.specs.declared.tree.Passing.TheVariants as passings
use Rattle.oc_tree.specs.declared.marked.Policy.{Policy}
use Rattle.oc_meaning.specs.Store.{Held, Place, Local, Global, Turn, Nowhere, Store, Binding, held_at, put, left_at}
use Rattle.oc_meaning.specs.Exec.{Passing as HandedOn, Outcome, Went, Returned, Stopped, Passed, Copied, Lent, Passes, Breaks, with_args, args_of}
use Rattle.oc_meaning.specs.Run.{function_named, function_run, call_to}
use Rattle.oc_effects.specs.Effects.{TCalled, effect_of, call_of, called_by, called_at, params_at}
use Rattle.oc_tree.specs.Members.{IsOf}
use Rattle.oc_needs.specs.Policies.{policies}
use Rattle.oc_needs.specs.Need.{Need}
use Rattle.oc_copies.specs.Copies.{CallsCopy, AreCopies, MayPass, HasStored, own_frame, own_run, lent_run, copied_back, all_copied_back}
use Rattle.oc_copies.specs.Stands.{AreFormed}
use Rattle.oc_timely.specs.Within.{Where, samples_of, start_where}
use Rattle.oc_timely.specs.Enough.{Target, by_call, is_open, since}
use Rattle.oc_timely.specs.Steps.{AreTaken}
use Rattle.oc_timely.specs.Modes.{AllFine, FineOut, Sees, IsTakenHere, CallFine}
use Rattle.oc_timely.proofs.Entering.{stands_for, own_taken}

-- ---- copied back, nothing is told

pub fine_put : (σ : Store) (q : Place) (x : Held) → AllFine σ.events → AllFine (put σ q x).events
fine_put σ (Local l) x a = a
fine_put σ (Global l) x a = a
fine_put σ (Turn l) x a = a
fine_put σ Nowhere x a = a

fine_back : (from : Store) (l : ℕ) (s : Passing) (q : Passed) (σ : Store) → AllFine σ.events → AllFine (copied_back from l s q σ).events
fine_back from l passings.Mutable (Lent q) σ a = fine_put σ q (held_at from (Local l)) a
fine_back from l passings.Mutable (Copied v) σ a = a
fine_back from l passings.Shared q σ a = a
fine_back from l passings.Value q σ a = a

fine_all_back : (from : Store) (l : ℕ) (qs : List Param) (ps : List Passed) (σ : Store) → AllFine σ.events → AllFine (all_copied_back from l qs ps σ).events
fine_all_back from l [] ps σ a = a
fine_all_back from l (q ∷ qs) [] σ a = a
fine_all_back from l (q ∷ qs) (s ∷ ps) σ a = fine_all_back from (suc l) qs ps (copied_back from l q.passing s σ) (fine_back from l q.passing s σ a)

-- the call as it is tells what the run over variables of its own does
pub fine_copies : (n : ℕ) (g : TFunction) (ps : List Passed) (o q : Outcome) → AreCopies n g ps o q → FineOut q → FineOut o
fine_copies n g ps (Went τ) (Went υ) c a = subst (λ (s : Store). AllFine s.events) (sym c) (fine_all_back υ n g.params ps (left_at n υ) a)
fine_copies n g ps (Returned v τ) (Returned w υ) c a = subst (λ (s : Store). AllFine s.events) (sym c.1) (fine_all_back υ n g.params ps (left_at n υ) a)
fine_copies n g ps (Stopped s τ) (Stopped r υ) c a = subst (λ (z : Store). AllFine z.events) (sym c.1) a
fine_copies n g ps (Went τ) (Returned w υ) c a = absurd c
fine_copies n g ps (Went τ) (Stopped r υ) c a = absurd c
fine_copies n g ps (Returned v τ) (Went υ) c a = absurd c
fine_copies n g ps (Returned v τ) (Stopped r υ) c a = absurd c
fine_copies n g ps (Stopped s τ) (Went υ) c a = absurd c
fine_copies n g ps (Stopped s τ) (Returned w υ) c a = absurd c

-- ---- what a function finds

pub record FindsOwn (m : TMarked) (guarded : ℕ → Bool) (u : ℕ) (g : TFunction) (ps : List Passed) (σ : Store) : Type 0 where
  pub deep : guarded u ≡ true → is_open σ.events ≡ true
  pub guard : (q : Policy) (v : VarId) (j : ℕ) → IsOf q (policies m.program) → Need m.program q u v →
      IsOf j (samples_of (record σ { locals = (own_frame m.program g ps σ).locals }) (start_where m.program u (length σ.locals)) v) → (is_open σ.events ≡ true) × (since σ.events ≤ j)
  pub taken : AreTaken (record σ { locals = (own_frame m.program g ps σ).locals })

-- the runs of functions at this depth
abbrev pub RunsFine : TMarked → (ℕ → Bool) → (depth : ℕ) → Type 0
RunsFine m guarded depth =
    (u : ℕ) (g : TFunction) → slice_get m.program.functions u ≡ Some g → (ps : List Passed) (σ : Store) → HasStored m.program σ → AreFormed g.params ps → FindsOwn m guarded u g ps σ →
    AllFine σ.events → FineOut (own_run m.program m.regions depth g ps σ)

-- where a called function stands
abbrev pub CalleeAt : TProgram → Type 0
CalleeAt p = (x : Text) (g : TFunction) → function_named p.functions x ≡ Some g → (u : ℕ) × (function_place p.functions x ≡ Some u) × (slice_get p.functions u ≡ Some g) × (params_at p u ≡ g.params)

-- what the rules leave of each call of a function
abbrev pub CallsMayPass : TProgram → (f base : ℕ) → List Placed → Type 0
CallsMayPass p f base body =
    (b : Placed) → IsOf b body → (x : Text) (args : _) → call_of b.kind ≡ Some (call x args) → (env : List Binding) (w : Where) (σ : Store) → Sees p f base b.id b.at env w σ → HasStored p σ →
    (u : ℕ) (g : TFunction) → function_place p.functions x ≡ Some u → slice_get p.functions u ≡ Some g → (ps : List Passed) → args_of env σ args ≡ Passes ps →
    MayPass p u g ps σ × AreFormed g.params ps

module _ (m : TMarked) (groups : List Group) (checked : IsChecked m.program groups) (guarded : ℕ → Bool) (copies : CallsCopy) (callees : CalleeAt m.program) (home : ℤ → ℕ) (f base : ℕ)
    (body : List Placed) (may : CallsMayPass m.program f base body) where
  abbrev p : TProgram
  p = m.program

  module _ (b : Placed) (x : Text) (args : _) (is : call_of b.kind ≡ Some (call x args)) (env : List Binding) (w : Where) (σ : Store) (sees : Sees p f base b.id b.at env w σ) (taken : AreTaken σ)
      (deep : (t : TCalled) → (effect_of p b).call ≡ Some t → guarded t.function ≡ true → is_open σ.events ≡ true) (held : (x : VarId) → Target p f (effect_of p b) x → IsTakenHere w σ x)
      (u : ℕ) (g : TFunction) (place : function_place p.functions x ≡ Some u) (params : params_at p u ≡ g.params) (ps : List Passed) (passes : args_of env σ args ≡ Passes ps)
      (many : length ps ≡ length g.params) where
    called : (effect_of p b).call ≡ Some (called_at p b args u)
    called = ap (λ o. option_and_then (called_by p b) o) is ∙ ap (λ o. option_map (called_at p b args) o) place

    abbrev own : Store
    own = record σ { locals = (own_frame p g ps σ).locals }

    -- what is needed
    guard : (q : Policy) (v : VarId) (j : ℕ) → IsOf q (policies p) → Need p q u v → IsOf j (samples_of own (start_where p u (length σ.locals)) v) → (is_open σ.events ≡ true) × (since σ.events ≤ j)
    guard q v j o need h = let s = stands_for p f base b args env w σ sees taken u g params ps passes many v j h in held s.0 (by_call q (called_at p b args u) o called need s.1) j s.2

    pub finds_own : FindsOwn m guarded u g ps σ
    finds_own = record { deep = λ d. deep (called_at p b args u) called d; guard = guard; taken = own_taken p f base b args env w σ sees taken u g params ps passes many }

  -- the call of a statement
  pub call_fine : (depth : ℕ) → RunsFine m guarded depth → CallFine m guarded (call_to p m.regions (suc depth)) home f base body
  call_fine depth runs b one (call x args) is env w σ sees taken stored deep held all = by (args_of env σ args) refl
    where
      named : (o : Option TFunction) (ps : List Passed) → args_of env σ args ≡ Passes ps → function_named p.functions x ≡ o → FineOut (function_run p m.regions (call_to p m.regions depth) o ps σ)
      named None ps e n = all
      named (Some g) ps e n =
          let c = callees x g n in
          let pass = may b one x args is env w σ sees stored c.0 g c.1 c.2 ps e in
          fine_copies (length σ.locals) g ps (lent_run p m.regions depth g ps σ) (own_run p m.regions depth g ps σ) (copies p groups checked m.regions depth c.0 g c.2 ps σ stored pass.0)
          (runs c.0 g c.2 ps σ stored pass.1 (finds_own b x args is env w σ sees taken deep held c.0 g c.1 c.3 ps e pass.0.as_many) all)

      by : (r : HandedOn) → args_of env σ args ≡ r → FineOut (with_args r b.id σ (λ ps. call_to p m.regions (suc depth) x ps σ))
      by (Breaks k) e = (tt, all)
      by (Passes ps) e = named (function_named p.functions x) ps e refl
