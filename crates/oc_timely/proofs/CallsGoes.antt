-- A call leaves what it must, where the run of its function does.
use Rattle.std.proofs.Common.{◌≡◌, ◌⊎◌, inl, inr, ℕ, zero, suc, ◌+◌, ◌<◌, ◌≤◌, Bool, true, false, List, [], ◌∷◌, length, Option, Some, None, refl, sym, ap, ◌∙◌, subst, arith}
use Rattle.std.proofs.lemmas.Bool.{and_parts}
use Rattle.std.specs.Prelude.{ℤ, pos, ◌==◌, nat_lt, if◌then◌else◌, slice_get, slice_index_or, unwrap_or, option_and_then, option_map}
use Rattle.std.proofs.lemmas.Option.{none-some}
use Rattle.oc_tree.specs.Names.{Text}
use Rattle.oc_tree.specs.Tree.{call, TArgs, TFunction, TProgram}
use Rattle.oc_tree.specs.Calls.{function_place}
use Rattle.oc_tree.specs.Checked.{Group, IsChecked}
use Rattle.oc_tree.specs.Rules.{args_meet, params_of, call_meets}
use Rattle.oc_tree.specs.Scope.{Scope, function_named}
use Rattle.oc_tree.specs.Places.{Placed}
use Rattle.oc_tree.specs.Marked.{TRegion}
use Rattle.oc_tree.specs.declared.tree.Param.{Param}
use Rattle.oc_tree.specs.declared.tree.Passing.{Passing}
use Rattle.oc_tree.specs.declared.tree.Passing.TheVariants as passings
use Rattle.oc_tree.specs.declared.tree.VarId.{VarId}
use Rattle.oc_tree.specs.declared.tree.VarId.TheVariants as variables
use Rattle.oc_meaning.specs.Store.{Value, Held, nothing, plain, Place, Local, Global, Turn, Nowhere, Store, Binding, at, held_at, left_at}
use Rattle.oc_meaning.specs.Exec.{Outcome, Went, Returned, Stopped, Passing as Given, Passes, Breaks, Passed, with_args, args_of}
use Rattle.oc_meaning.specs.Run.{call_to}
use Rattle.oc_effects.specs.Effects.{TEffect, TCalled, effect_of, call_of, called_by, called_at, params_at, variable_at}
use Rattle.oc_flow.specs.Variables.{same_variable, is_variable, is_variable_of, arg_at, ends}
use Rattle.oc_tree.specs.Members.{IsOf}
use Rattle.oc_flow.specs.Relations.{itself, by_call, by_callee}
use Rattle.oc_copies.specs.Copies.{AreCopies, AreCopiedBack, IsCopiedBack, HasStored, own_frame, own_run, lent_place, passing_at, NotWritten, beside, behind_call}
use Rattle.oc_copies.specs.Stands.{AreFormed, IsRuledCall, DoesCopy}
use Rattle.oc_copies.proofs.Cells.{IsCell}
use Rattle.oc_copies.proofs.Behind.{copied_beside}
use Rattle.oc_copies.proofs.DoCopy.{calls_do_copy}
use Rattle.oc_laws.proofs.Members.{at_place}
use Rattle.oc_timely.specs.Scopes.{scope_of}
use Rattle.oc_timely.specs.Within.{Where, place_in, samples_of, start_where, Comes, old, new, AnyOf, Came}
use Rattle.oc_timely.specs.Enough.{taken_in, is_open, since}
use Rattle.oc_timely.specs.Steps.{AreTaken}
use Rattle.oc_timely.specs.Modes.{Sees, IsSteady}
use Rattle.oc_timely.proofs.Came.{stays, only_one}
use Rattle.oc_timely.proofs.Going.{left_or}
use Rattle.oc_timely.proofs.SeesOn.{AreNamed}
use Rattle.oc_timely.proofs.StraightGoes.{IsThis, CallsGo, RightGone, RightLeft}
use Rattle.oc_timely.proofs.Lent.{Back, back_or, Lends, lent_named}
use Rattle.oc_timely.proofs.Entering.{stands_for, own_taken}
use Rattle.oc_flow.proofs.Lists.{same_itself}

-- ---- functions

-- what a run leaves, of a function over variables of its own
abbrev pub FlowsOut : TProgram → (f base : ℕ) → Store → Outcome → Type 0
FlowsOut p f base σ (Went τ) = Came p f base (AnyOf p f) (start_where p f base) (start_where p f base) σ τ × IsSteady σ τ × (length τ.locals ≡ length σ.locals)
FlowsOut p f base σ (Returned v τ) =
    Came p f base (AnyOf p f) (start_where p f base) (start_where p f base) σ τ × IsSteady σ τ × (length τ.locals ≡ length σ.locals)
    × ((j : ℕ) → IsOf j v.samples → Comes p f (AnyOf p f) (samples_of σ (start_where p f base)) σ.taken variables.Returned j × (j < τ.taken))
FlowsOut p f base σ (Stopped s τ) = Unit {0}

-- the runs of functions at this depth
abbrev pub RunsFlow : TProgram → List TRegion → (depth : ℕ) → Type 0
RunsFlow p regions depth = (f : ℕ) (g : TFunction) → slice_get p.functions f ≡ Some g → (ps : List Passed) (σ : Store) → HasStored p σ → AreFormed g.params ps →
    AreTaken (record σ { locals = (own_frame p g ps σ).locals }) →
    FlowsOut p f (length σ.locals) (record σ { locals = (own_frame p g ps σ).locals }) (own_run p regions depth g ps σ)

-- ---- behind a call

module _ (n : ℕ) (g : TFunction) (ps : List Passed) (υ : Store) (enough : n ≤ length υ.locals) where
  abbrev behind : Store
  behind = behind_call n g ps υ

  same_beside : beside behind ≡ beside υ
  same_beside = copied_beside υ n g.params ps (left_at n υ)

  behind_or : (r : Place) (j : ℕ) → IsOf j (held_at behind r).samples → Back υ n g.params ps r j ⊎ IsOf j (held_at υ r).samples
  behind_or r j h = elim (back_or υ n g.params ps (left_at n υ) r j h) [ inl k ↦ inl k | inr k ↦ inr (left_or υ n enough r j k) ]

  behind_steady : (σ : Store) → IsSteady σ υ → IsSteady σ behind
  behind_steady σ s =
      let events = ap (λ (z : Store). z.events) same_beside in
      let count = ap (λ (z : Store). z.taken) same_beside in
      let depth = ap (λ (z : Store). z.depth) same_beside in
      record {
        taken = record {
          held = λ r j h. let l : j < υ.taken = elim (behind_or r j h) [ inl k ↦ s.taken.held (Local (n + k.0)) j k.3 | inr k ↦ s.taken.held r j k ] in omega (arith, l, count);
          count = ap taken_in events ∙ s.taken.count ∙ sym count;
          opened = ap is_open events ∙ s.taken.opened ∙ ap (nat_lt 0) (sym depth);
          begun = let a = s.taken.begun in let e = ap since events in omega (arith, a, e, count);
        };
        deep = depth ∙ s.deep;
        since = λ d. ap since events ∙ s.since d;
      }

held_there : (xs : List Held) (l : ℕ) → l < length xs → at xs l ≡ Some (unwrap_or (at xs l) nothing)
held_there [] l h = absurd (omega (arith, h))
held_there (x ∷ xs) l h = by (l == length xs) refl (λ m. held_there xs l m)
  where
    by : (c : Bool) → (l == length xs) ≡ c → (l < length xs → at xs l ≡ Some (unwrap_or (at xs l) nothing)) →
        (if c then Some x else at xs l) ≡ Some (unwrap_or (if c then Some x else at xs l) nothing)
    by true e rest = refl
    by false e rest = rest (grind (arith, e, h))

none_past : (xs : List Held) (i : ℕ) → length xs ≤ i → slice_index_or xs i nothing ≡ nothing
none_past [] i h = refl
none_past (x ∷ xs) zero h = absurd (omega (arith, h))
none_past (x ∷ xs) (suc i) h = none_past xs i (omega (arith, h))

-- a place with samples is a variable's
cell_of : (τ : Store) (q : Place) (j : ℕ) → IsOf j (held_at τ q).samples → IsCell q
cell_of τ (Local l) j h = tt
cell_of τ (Global i) j h = tt
cell_of τ (Turn z) j h = h
cell_of τ Nowhere j h = h

nowhere_local : (l : ℕ) → Nowhere ≡ Local l → ⊥
nowhere_local l e = cc

passing_within : (qs : List Param) (i : ℕ) (s : Passing) → passing_at qs i ≡ Some s → i < length qs
passing_within [] i s e = absurd (none-some s e)
passing_within (q ∷ qs) zero s e = omega arith
passing_within (q ∷ qs) (suc i) s e = let l = passing_within qs i s e in omega (arith, l)

-- what the rules say of a call's arguments
args_fit : (p : TProgram) (scope : Scope) (x : Text) (args : TArgs) (u : ℕ) (g : TFunction) → function_place p.functions x ≡ Some u → slice_get p.functions u ≡ Some g →
    call_meets p scope (call x args) ≡ true → args_meet p scope g.params args ≡ true
args_fit p scope x args u g placed stands h =
    let named : function_named p x ≡ Some g = ap (λ o. option_and_then (λ i. slice_get p.functions i) o) placed ∙ stands in
    subst (λ qs. args_meet p scope qs args ≡ true) (ap params_of named) (and_parts _ (args_meet p scope (params_of (function_named p x)) args) h).1

module _ (p : TProgram) (groups : List Group) (checked : IsChecked p groups) (regions : List TRegion) (depth : ℕ) (home : ℤ → ℕ) (f base : ℕ) (body : List Placed) (names : AreNamed p f body) where
  abbrev calls : Text → List Passed → Store → Outcome
  calls = call_to p regions (suc depth)

  module _ (b : Placed) (one : IsOf b body) (x : Text) (args : TArgs) (is : call_of b.kind ≡ Some (call x args)) (env : List Binding) (w : Where) (σ : Store)
      (sees : Sees p f base b.id b.at env w σ) (taken : AreTaken σ) (stored : HasStored p σ)
      (ps : List Passed) (passes : args_of env σ args ≡ Passes ps) (ruled : IsRuledCall p (scope_of p f b.at.variables) (call x args)) (copy : DoesCopy p regions depth x ps σ) where
    abbrev u : ℕ
    u = copy.number

    abbrev g : TFunction
    g = copy.function

    abbrev n : ℕ
    n = length σ.locals

    abbrev own : Store
    own = record σ { locals = (own_frame p g ps σ).locals }

    abbrev start : Where
    start = start_where p u n

    abbrev called : TCalled
    called = called_at p b args u

    abbrev P : TEffect → Type 0
    P = IsThis p regions calls home f base body b

    abbrev To : VarId → ℕ → Type 0
    To v j = Comes p f P (samples_of σ w) σ.taken v j

    params : params_at p u ≡ g.params
    params = at_place (λ h. h.params) p.functions u g [] copy.stands

    is_called : (effect_of p b).call ≡ Some called
    is_called = ap (λ o. option_and_then (called_by p b) o) is ∙ ap (λ o. option_map (called_at p b args) o) copy.placed

    -- what has samples is a variable of the function
    known : (v : VarId) (τ : Store) (j : ℕ) → IsOf j (samples_of τ w v) → is_variable p f v ≡ true
    known v τ j h = elim (sees.owns.known v) [ inl e ↦ absurd (subst (λ q. IsOf j (held_at τ q).samples) e h) | inr k ↦ k ]

    -- through the callee
    through : (y v : VarId) → ends (effect_of p b) called y v ≡ true → is_variable p f v ≡ true → (j : ℕ) → Comes p u (AnyOf p u) (samples_of own start) own.taken y j → To v j
    through y v out is_var j (old z h fl) =
        let s = stands_for p f base b args env w σ sees taken u g params ps passes copy.may.as_many z j h in
        old s.0 s.2 (by_call (effect_of p b) called (names.effect b one) is_called (known s.0 σ j s.2) s.1 fl out (itself is_var))
    through y v out is_var j (new a z any br fl le) = new (effect_of p b) v refl (by_callee (effect_of p b) a called (names.effect b one) is_called br fl out) (itself is_var) le

    fits : args_meet p (scope_of p f b.at.variables) g.params args ≡ true
    fits = args_fit p (scope_of p f b.at.variables) x args u g copy.placed copy.stands ruled.meets

    -- what is lent for a parameter by `&mut`
    lends : (i : ℕ) (r : Place) → passing_at g.params i ≡ Some passings.Mutable → lent_place ps i ≡ Some r → Lends p (scope_of p f b.at.variables) b env σ (arg_at called i).lent r
    lends i r m l = lent_named p (scope_of p f b.at.variables) b env σ args (params_at p u) ps passes (subst (λ qs. args_meet p (scope_of p f b.at.variables) qs args ≡ true) (sym params) fits) i r
        (ap (λ qs. passing_at qs i) params ∙ m) l

    few : (i : ℕ) → passing_at g.params i ≡ Some passings.Mutable → i < length (params_at p u)
    few i m = passing_within (params_at p u) i passings.Mutable (ap (λ qs. passing_at qs i) params ∙ m)

    stay : Came p f base P w w σ σ
    stay = stays p f base P b.at env w σ sees.owns

    -- a variable below is lent to none
    not_written : (l : ℕ) → l < base → NotWritten g ps (Local l)
    not_written l low i m e = by (lends i (Local l) m e) (variable_at p b (lends i (Local l) m e).name) refl
      where
        by : (k : Lends p (scope_of p f b.at.variables) b env σ (arg_at called i).lent (Local l)) (o : Option VarId) → variable_at p b k.name ≡ o → ⊥
        by k None q = nowhere_local l (sym (ap (place_in w) q) ∙ sym (sees.owns.named k.name) ∙ k.there)
        by k (Some t) q = let o = (sees.owns.own t l (sym (ap (place_in w) q) ∙ sym (sees.owns.named k.name) ∙ k.there)).0 in omega (arith, o, low)

    module _ (υ τ : Store) (came : Came p u n (AnyOf p u) start start own υ) (steady : IsSteady own υ) (many : length υ.locals ≡ length own.locals) (copied : τ ≡ behind_call n g ps υ)
        (back : IsCopiedBack p n g ps σ υ τ) where
      enough : n ≤ length υ.locals
      enough = let a = copy.holds.locals in omega (arith, a, many)

      -- what is copied back for a parameter
      lent_comes : (v : VarId) (j i : ℕ) → IsOf j (samples_of τ w v) → i < length (params_at p u) → IsOf j (held_at υ (Local (n + i))).samples →
          (l : Lends p (scope_of p f b.at.variables) b env σ (arg_at called i).lent (w v)) → (o : Option VarId) → variable_at p b l.name ≡ o → To v j
      lent_comes v j i h few k l None e = absurd (subst (λ r. IsOf j (held_at τ r).samples) (sym l.there ∙ sees.owns.named l.name ∙ ap (place_in w) e) h)
      lent_comes v j i h few k l (Some t) e =
          let there : w t ≡ w v = sym (ap (place_in w) e) ∙ sym (sees.owns.named l.name) ∙ l.there in
          let same : t ≡ v = only_one p f base P b.at env w σ sees.owns (w v) t v (cell_of τ (w v) j h) there refl in
          let has : nat_lt i (length (params_at p u)) ≡ true = grind (arith, few) in
          let inside : IsOf j (samples_of υ start (variables.Param i)) = subst (λ c. IsOf j (held_at υ (if c then Local (n + i) else Nowhere)).samples) (sym has) k in
          through (variables.Param i) v (ap (λ o. is_variable_of o v) (l.is ∙ e ∙ ap Some same) ∙ same_itself v) (known v τ j h) j (came.within (variables.Param i) j inside)

      -- what is left as the callee left it
      stored_comes : (v : VarId) (j i : ℕ) → IsOf j (samples_of τ w v) → w v ≡ Global i → IsOf j (held_at υ (Global i)).samples → To v j
      stored_comes v j i h e k = by (nat_lt i (length p.names.nvs)) refl
        where
          v_is : v ≡ variables.Nv i
          v_is = sees.owns.stored v i e

          by : (c : Bool) → nat_lt i (length p.names.nvs) ≡ c → To v j
          by true t =
              let inside : IsOf j (samples_of υ start (variables.Nv i)) = subst (λ c. IsOf j (held_at υ (if c then Global i else Nowhere)).samples) (sym t) k in
              through (variables.Nv i) v (ap (same_variable (variables.Nv i)) v_is ∙ same_itself (variables.Nv i)) (known v τ j h) j (came.within (variables.Nv i) j inside)
          by false t =
              let past : length υ.nv ≤ i = (let a : length p.names.nvs ≤ i = grind (arith, t) in let c = came.stored ∙ stored in omega (arith, a, c)) in
              absurd (subst (λ (x : Held). IsOf j x.samples) (none_past υ.nv i past) k)

      kept_comes : (v : VarId) (j : ℕ) → IsOf j (samples_of τ w v) → (q : Place) → w v ≡ q → IsOf j (held_at υ q).samples → To v j
      kept_comes v j h (Local l) e k =
          let o = sees.owns.own v l e in
          stay.within v j (subst (λ q. IsOf j (held_at σ q).samples) (sym e) (subst (λ (x : Held). IsOf j x.samples) (back.kept l o.1) k))
      kept_comes v j h (Global i) e k = stored_comes v j i h e k
      kept_comes v j h (Turn z) e k = absurd k
      kept_comes v j h Nowhere e k = absurd k

      came_back : Came p f base P w w σ τ
      came_back = record {
        within = λ v j h. elim (behind_or n g ps υ enough (w v) j (subst (λ (s : Store). IsOf j (held_at s (w v)).samples) copied h)) [
          | inl k ↦ (let l = lends k.0 (w v) k.1 k.2 in lent_comes v j k.0 h (few k.0 k.1) k.3 l (variable_at p b l.name) refl)
          | inr k ↦ kept_comes v j h (w v) refl k
        ];
        later = let a = came.later in let e = ap (λ (z : Store). z.taken) back.rest in omega (arith, a, e);
        stored = back.nv;
        below = λ l low.
            let room : l < n = (let r = sees.room in omega (arith, r, low)) in
            held_there τ.locals l (let m = back.locals in omega (arith, m, room)) ∙ ap Some (back.other l room (not_written l low)) ∙ sym (held_there σ.locals l room);
      }

      gone : (v : Value) → ((j : ℕ) → IsOf j v.samples → Comes p u (AnyOf p u) (samples_of own start) own.taken variables.Returned j × (j < υ.taken)) →
          RightGone p regions calls home f base body b w σ τ v
      gone v from = record {
        came = came_back;
        comes = λ t is_target is_var j h. through variables.Returned t (ap (λ o. is_variable_of o t) is_target ∙ same_itself t) is_var j (from j h).0;
        steady = subst (IsSteady σ) (sym copied) (behind_steady n g ps υ enough σ (record { taken = steady.taken; deep = steady.deep; since = steady.since }));
        below = λ j h. let l = (from j h).1 in let e = ap (λ (z : Store). z.taken) back.rest in omega (arith, l, e);
        many = back.locals;
      }

    left : (o q : Outcome) → AreCopies n g ps o q → AreCopiedBack p n g ps σ o q → FlowsOut p u n own q → RightLeft p regions calls home f base body b w σ o
    left (Went τ) (Went υ) c k r = gone υ τ r.0 r.1 r.2 c k (plain (pos 0)) (λ j h. absurd h)
    left (Returned v τ) (Returned z υ) c k r = gone υ τ r.0 r.1 r.2 c.1 k.1 v (λ j h. r.3 j (subst (λ (y : Value). IsOf j y.samples) c.0 h))
    left (Stopped s τ) q c k r = tt
    left (Went τ) (Returned z υ) c k r = absurd c
    left (Went τ) (Stopped s υ) c k r = absurd c
    left (Returned v τ) (Went υ) c k r = absurd c
    left (Returned v τ) (Stopped s υ) c k r = absurd c

  -- each call of a statement, one deeper
  pub calls_go : RunsFlow p regions depth → CallsGo p regions calls home f base body
  calls_go runs b one (call x args) is env w σ sees taken stored = by (args_of env σ args) refl
    where
      ruled : IsRuledCall p (scope_of p f b.at.variables) (call x args)
      ruled = names.ruled b one (call x args) is

      by : (r : Given) → args_of env σ args ≡ r → RightLeft p regions calls home f base body b w σ (with_args r b.id σ (λ ps. calls x ps σ))
      by (Breaks k) e = tt
      by (Passes ps) e =
          let copy = calls_do_copy p groups checked regions depth (scope_of p f b.at.variables) env σ sees.stands stored x args ruled ps e in
          left b one x args is env w σ sees taken stored ps e ruled copy (calls x ps σ) (own_run p regions depth copy.function ps σ) copy.copies copy.back
          (runs copy.number copy.function copy.stands ps σ stored copy.formed
          (own_taken p f base b args env w σ sees taken copy.number copy.function (at_place (λ h. h.params) p.functions copy.number copy.function [] copy.stands) ps e copy.may.as_many))
