-- What a function's own list leaves that ends with a `return`.
use Rattle.std.proofs.Common.{◌≡◌, inl, inr, ℕ, suc, ◌+◌, ◌<◌, ◌≤◌, true, List, length, Option, Some, None, refl, ap, ◌∙◌, subst, arith}
use Rattle.std.specs.Prelude.{ℤ}
use Rattle.oc_tree.specs.Names.{Text}
use Rattle.oc_tree.specs.Tree.{TExpr, TKind, return, stmt, TBlock, block, TStmts, no_stmts, more, TProgram}
use Rattle.oc_tree.specs.Places.{Place as Spot, Placed, behind, kind_placed, block_placed, stmts_placed}
use Rattle.oc_tree.specs.Marked.{TRegion}
use Rattle.oc_tree.specs.declared.tree.VarId.TheVariants as variables
use Rattle.oc_meaning.specs.Uses.{is_fresh, is_use, begins_use, ends_use, use_samples}
use Rattle.oc_meaning.specs.Store.{Value, Held, Store, Binding, left_at}
use Rattle.oc_meaning.specs.Eval.{Got, Val, Traps, value_of}
use Rattle.oc_meaning.specs.Exec.{Outcome, Went, Returned, Stopped, Passed, begun_by, ended_by, opened, closed, used, done, finished, then_do, with_value, leave, grown, entered}
use Rattle.oc_meaning.specs.Exec.{kind_run, block_run, stmts_run}
use Rattle.oc_flow.specs.Variables.{is_variable}
use Rattle.oc_tree.specs.Members.{IsOf}
use Rattle.oc_timely.specs.Within.{Where, samples_of, Comes}
use Rattle.oc_timely.specs.Enough.{next_mode}
use Rattle.oc_timely.specs.Steps.{AreTaken}
use Rattle.oc_timely.specs.Modes.{IsShutMode, IsStep, PairedBlock, PairedStmts, Goes, IsEffectAmong, where_behind}
use Rattle.oc_timely.proofs.Came.{comes_back}
use Rattle.oc_timely.proofs.Marks.{IsLike, like_sees, sees_later, sees_spot, IsQuiet, quiet_used, quiet_done, quiet_taken, quiet_entered, like_opened, like_closed}
use Rattle.oc_timely.proofs.Inside.{count_open}
use Rattle.oc_laws.proofs.Members.{of_right}
use Rattle.oc_timely.proofs.SeesOn.{AreNamed}
use Rattle.oc_timely.proofs.Writes.{comes_wider}
use Rattle.oc_timely.proofs.StraightGoes.{IsThis, CallsGo, value_to, value_below}
use Rattle.oc_timely.proofs.Going.{step_counts, opens, Closes, closes, like_came, BlockGone, ListGone, left_gone, list_from}
use Rattle.oc_timely.proofs.Flowing.{InBody, Known, at_start, same_length, at_behind, still_open, came_here, list_gone, kind_goes}
use Rattle.oc_timely.proofs.Returning.{KindStays, EndsWith, EndsSo, EndsBlock, GivesNone, kind_none, return_stops}

same_given : (v z : Value) (σ τ : Store) → Returned v σ ≡ Returned z τ → (v ≡ z) × (σ ≡ τ)
same_given v z σ τ e = (cc, cc)

shut_none : (o : Option ℕ) → IsShutMode o → count_open o ≡ 0
shut_none None h = refl
shut_none (Some r) h = absurd h

like_on : (σ τ υ : Store) → IsLike σ τ → IsLike τ υ → IsLike σ υ
like_on σ τ υ a b = record { locals = b.locals ∙ a.locals; nv = b.nv ∙ a.nv; taken = b.taken ∙ a.taken }

module _ (p : TProgram) (regions : List TRegion) (call : Text → List Passed → Store → Outcome) (home : ℤ → ℕ) (f base : ℕ) (body : List Placed) (names : AreNamed p f body)
    (calls : CallsGo p regions call home f base body)
    (result : is_variable p f variables.Returned ≡ true) where
  -- a value that statements gave
  pub record Gave (bs : List Placed) (w : Where) (σ υ : Store) (v : Value) : Type 0 where
    pub comes : (j : ℕ) → IsOf j v.samples → Comes p f (IsEffectAmong p bs) (samples_of σ w) σ.taken variables.Returned j
    pub below : (j : ℕ) → IsOf j v.samples → j < υ.taken

  -- what a list leaves that gave one
  pub record ListGave (bs : List Placed) (inside : Option ℕ) (w : Where) (σ υ : Store) (v : Value) : Type 0 where
    pub gone : ListGone p f base (IsEffectAmong p bs) inside w σ υ
    pub gave : Gave bs w σ υ v

  -- a `return` gives its value
  module _ (spot : Spot) (id line : ℕ) (e : TExpr) (rest : TStmts) (inside : Option ℕ) (env : List Binding) (w : Where) (σ υ : Store)
      (known : Known p regions call home f base body names calls id spot env w σ) (deep : count_open inside ≤ σ.depth)
      (step : IsStep inside (begun_by regions id) (ended_by regions id)) (shut : IsShutMode (next_mode inside (begun_by regions id) (ended_by regions id)))
      (one : IsOf (record { id = id; line = line; kind = return e; at = spot }) body) where
    abbrev this : Placed
    this = record { id = id; line = line; kind = return e; at = spot }

    abbrev all : List Placed
    all = stmts_placed spot (more (stmt id line (return e)) rest)

    abbrev marked : Store
    marked = opened (begun_by regions id) σ

    abbrev began : Store
    began = used (is_use (is_fresh env) (return e)) id (use_samples env (return e) σ) marked

    abbrev ended_use : Store
    ended_use = done (is_use (is_fresh env) (return e)) id (use_samples env (return e) began) began

    abbrev end : Store
    end = closed (ended_by regions id) ended_use

    quiet : IsQuiet marked began
    quiet = quiet_used (is_use (is_fresh env) (return e)) id (use_samples env (return e) σ) marked

    quiet_end : IsQuiet began ended_use
    quiet_end = quiet_done (is_use (is_fresh env) (return e)) id (use_samples env (return e) began) began

    like_began : IsLike σ began
    like_began = like_on σ marked began (like_opened (begun_by regions id) σ) quiet.like

    like_end : IsLike σ end
    like_end = like_on σ began end like_began (like_on began ended_use end quiet_end.like (like_closed (ended_by regions id) ended_use))

    began_taken : AreTaken began
    began_taken = quiet_taken marked began quiet (opens (begun_by regions id) σ known.taken).taken

    counts : count_open (ended_by regions id) ≡ count_open inside + count_open (begun_by regions id)
    counts =
        let c = step_counts inside (begun_by regions id) (ended_by regions id) step in
        let z = shut_none (next_mode inside (begun_by regions id) (ended_by regions id)) shut in
        omega (arith, c, z)

    depth : ended_use.depth ≡ σ.depth + count_open (begun_by regions id)
    depth = quiet_end.depth ∙ quiet.depth ∙ (opens (begun_by regions id) σ known.taken).deep

    shuts : Closes (ended_by regions id) ended_use end
    shuts = closes (ended_by regions id) ended_use (quiet_taken began ended_use quiet_end began_taken) (omega (arith, counts, depth, deep))

    return_gone : ListGone p f base (IsEffectAmong p all) inside w σ end
    return_gone = record {
      after = w;
      came = like_came p f base (IsEffectAmong p all) spot env w σ end known.sees.owns like_end;
      kept = λ v. inr refl;
      taken = shuts.taken;
      deep = let d = shuts.deep in omega (arith, d, depth, counts);
      since = λ d. shuts.since ∙ quiet_end.since ∙ quiet.since ∙ (opens (begun_by regions id) σ known.taken).since (omega (arith, d));
      more = let l = ap (λ (xs : List Held). length xs) like_end.locals in omega (arith, l);
    }

    return_gave : (z : Value) → value_of env began e ≡ Val z → Gave all w σ end z
    return_gave z is = record {
      comes = λ j h. comes_wider p f (IsThis p regions call home f base body this) (IsEffectAmong p all) (λ a i. (this, inl refl, i)) (samples_of σ w) σ.taken variables.Returned j
          (value_to p regions call home f base body names calls this one env w σ known.sees known.taken known.stored began
          (like_came p f base (IsThis p regions call home f base body this) spot env w σ began known.sees.owns like_began)
          (ap (λ (xs : List Held). length xs) like_began.locals) e z is (λ x i. i) variables.Returned refl result j h);
      below = λ j h. let l = value_below p regions call home f base body names calls this one env w σ known.sees known.taken known.stored began began_taken e z is j h in
          let a = like_end.taken in let b = like_began.taken in omega (arith, l, a, b);
    }

    pub return_gives : (v : Value) → kind_run p.names regions call home env id (return e) began ≡ Returned v υ → ListGave all inside w σ υ v
    return_gives v h = by (value_of env began e) refl h
      where
        by : (g : Got) → value_of env began e ≡ g → with_value g id began (λ z. Returned z end) ≡ Returned v υ → ListGave all inside w σ υ v
        by (Val z) is q =
            let same = same_given z v end υ q in
            subst (λ x. ListGave all inside w σ υ x) same.0 (subst (λ s. ListGave all inside w σ s z) same.1 (record { gone = return_gone; gave = return_gave z is }))
        by (Traps t) is q = absurd (cc)

  -- ---- lists

  module _ (spot : Spot) (id line : ℕ) (k : TKind) (rest : TStmts) (inside : Option ℕ) (env : List Binding) (w : Where) (σ υ : Store)
      (known : Known p regions call home f base body names calls id spot env w σ) (deep : count_open inside ≤ σ.depth)
      (step : IsStep inside (begun_by regions id) (ended_by regions id)) (v : Value) where
    abbrev whole : List Placed
    whole = stmts_placed spot (more (stmt id line k) rest)

    abbrev later : List Placed
    later = stmts_placed (behind spot id k) rest

    abbrev start : Store
    start = used (begins_use (is_fresh env) k) id (use_samples env k σ) (opened (begun_by regions id) σ)

    abbrev behind_it : Store → Store
    behind_it τ = closed (ended_by regions id) (done (ends_use (is_fresh env) k) id (use_samples env k σ) τ)

    -- a statement that goes through, and then the others
    list_on : (τ : Store) → Goes p regions call home f base body spot id line k rest env w σ start τ →
        ListGave later (next_mode inside (begun_by regions id) (ended_by regions id)) (where_behind w id k σ) (behind_it τ) υ v → ListGave whole inside w σ υ v
    list_on τ g r = record {
      gone = list_gone p regions call home f base body names calls spot id line k rest inside env w σ υ known deep step τ g r.gone;
      gave = record {
        comes = λ j h. comes_back p f base (IsEffectAmong p whole) w (where_behind w id k σ) σ (behind_it τ)
            (came_here p regions call home f base body names calls spot id line k rest inside env w σ υ known deep step τ g) variables.Returned j
            (comes_wider p f (IsEffectAmong p later) (IsEffectAmong p whole) (λ a i. (i.0, inr (of_right i.0 (kind_placed spot id k) later i.1), i.2)) (samples_of (behind_it τ) (where_behind w id k σ))
            (behind_it τ).taken variables.Returned j (r.gave.comes j h));
        below = r.gave.below;
      };
    }

    list_by : ((τ : Store) → kind_run p.names regions call home env id k start ≡ Returned v τ → τ ≡ υ → ListGave whole inside w σ υ v) →
        ((τ : Store) → kind_run p.names regions call home env id k start ≡ Went τ → stmts_run p.names regions call home (grown k rest env σ) rest (behind_it τ) ≡ Returned v υ →
        ListGave whole inside w σ υ v) →
        stmts_run p.names regions call home env (more (stmt id line k) rest) σ ≡ Returned v υ → ListGave whole inside w σ υ v
    list_by now others e = by (kind_run p.names regions call home env id k start) refl e
      where
        by : (o : Outcome) → kind_run p.names regions call home env id k start ≡ o → then_do (finished behind_it o) (stmts_run p.names regions call home (grown k rest env σ) rest) ≡ Returned v υ →
            ListGave whole inside w σ υ v
        by (Went τ) is h = others τ is h
        by (Returned z τ) is h = let same = same_given z v τ υ h in now τ (is ∙ ap (λ x. Returned x τ) same.0) same.1
        by (Stopped s τ) is h = absurd (cc)

    -- one that isn't a `return` gives nothing
    stays_given : KindStays k → (τ : Store) → kind_run p.names regions call home env id k start ≡ Returned v τ → ⊥
    stays_given stays τ e = subst GivesNone e (kind_none p.names regions call home env id k start stays)

  given : (spot : Spot) (id line : ℕ) (k : TKind) (rest : TStmts) (inside : Option ℕ) (env : List Binding) (w : Where) (σ υ : Store)
      (known : Known p regions call home f base body names calls id spot env w σ) (deep : count_open inside ≤ σ.depth)
      (step : IsStep inside (begun_by regions id) (ended_by regions id)) (v : Value) → (tail : Type 0) → EndsWith k rest tail →
      InBody p regions call home f base body names calls (stmts_placed spot (more (stmt id line k) rest)) →
      PairedStmts regions (suc id) (next_mode inside (begun_by regions id) (ended_by regions id)) rest →
      ((τ : Store) → tail → kind_run p.names regions call home env id k (used (begins_use (is_fresh env) k) id (use_samples env k σ) (opened (begun_by regions id) σ)) ≡ Went τ →
      stmts_run p.names regions call home (grown k rest env σ) rest (closed (ended_by regions id) (done (ends_use (is_fresh env) k) id (use_samples env k σ) τ)) ≡ Returned v υ →
      ListGave (stmts_placed spot (more (stmt id line k) rest)) inside w σ υ v) →
      stmts_run p.names regions call home env (more (stmt id line k) rest) σ ≡ Returned v υ → ListGave (stmts_placed spot (more (stmt id line k) rest)) inside w σ υ v
  given spot id line (return x) rest inside env w σ υ known deep step v tail ends sub pair others e =
      list_by spot id line (return x) rest inside env w σ υ known deep step v
      (λ τ h same. subst (λ s. ListGave (stmts_placed spot (more (stmt id line (return x)) rest)) inside w σ s v) same
      (return_gives spot id line x rest inside env w σ τ known deep step (subst (PairedStmts regions (suc id) (next_mode inside (begun_by regions id) (ended_by regions id))) ends pair)
      (sub _ (inl refl)) v h))
      (λ τ h r. absurd (return_stops p.names regions call home env id x (used (is_use (is_fresh env) (return x)) id (use_samples env (return x) σ) (opened (begun_by regions id) σ)) τ h)) e
  given spot id line k rest inside env w σ υ known deep step v tail ends sub pair others e =
      list_by spot id line k rest inside env w σ υ known deep step v
      (λ τ h same. absurd (stays_given spot id line k rest inside env w σ υ known deep step v ends.0 τ h))
      (λ τ h r. others τ ends.1 h r) e

  list_gives : (spot : Spot) (n : ℕ) (inside : Option ℕ) (ss : TStmts) → EndsSo ss → InBody p regions call home f base body names calls (stmts_placed spot ss) → PairedStmts regions n inside ss →
      (env : List Binding) (w : Where) (σ υ : Store) (v : Value) → Known p regions call home f base body names calls n spot env w σ → count_open inside ≤ σ.depth →
      stmts_run p.names regions call home env ss σ ≡ Returned v υ → ListGave (stmts_placed spot ss) inside w σ υ v
  list_gives spot n inside no_stmts ends sub pair env w σ υ v known deep e = absurd (cc)
  list_gives spot n inside (more (stmt id line k) rest) ends sub pair env w σ υ v known deep e =
      let at_it : Known p regions call home f base body names calls id spot env w σ =
      record { sees = sees_later p f base n id spot env w σ pair.0 known.sees; taken = known.taken; stored = known.stored } in
      let begin = start spot id line k rest inside env w σ υ at_it deep pair.1 v in
      given spot id line k rest inside env w σ υ at_it deep pair.1 v (EndsSo rest) ends sub pair.3
      (λ τ ends' is h.
      let g = kind_goes p regions call home f base body names calls spot id line k rest sub pair.2 env w σ begin τ
      (same_length p regions call home f base body names calls spot id line k rest inside env w σ υ at_it deep pair.1)
      (at_start p regions call home f base body names calls spot id line k rest inside env w σ υ at_it deep pair.1) is in
      list_on spot id line k rest inside env w σ υ at_it deep pair.1 v τ g
      (list_gives (behind spot id k) (suc id) (next_mode inside (begun_by regions id) (ended_by regions id)) rest ends'
      (λ z i. sub z (inr (of_right z (kind_placed spot id k) (stmts_placed (behind spot id k) rest) i))) pair.3 (grown k rest env σ) (where_behind w id k σ)
      (behind_it spot id line k rest inside env w σ υ at_it deep pair.1 v τ) υ v
      (at_behind p regions call home f base body names calls spot id line k rest inside env w σ υ at_it deep pair.1 τ g)
      (still_open p regions call home f base body names calls spot id line k rest inside env w σ υ at_it deep pair.1 τ g) h))
      e

  -- ---- the body

  -- what a body leaves that gave a value
  pub record BlockGave (b : List Placed) (w : Where) (σ τ : Store) (v : Value) : Type 0 where
    pub gone : BlockGone p f base (IsEffectAmong p b) w σ τ
    pub gave : Gave b w σ τ v

  pub block_gives : (spot : Spot) (n : ℕ) (b : TBlock) → EndsBlock b → InBody p regions call home f base body names calls (block_placed spot b) → PairedBlock regions n b →
      (env : List Binding) (w : Where) (σ τ : Store) (v : Value) → Known p regions call home f base body names calls n spot env w σ → block_run p.names regions call home env b σ ≡ Returned v τ →
      BlockGave (block_placed spot b) w σ τ v
  block_gives spot n (block id ss) ends sub pair env w σ τ v known e = by (stmts_run p.names regions call home env ss (entered id σ)) refl e
    where
      bs : List Placed
      bs = block_placed spot (block id ss)

      inner : Known p regions call home f base body names calls n (record spot { block = id }) env w (entered id σ)
      inner = record {
        sees = sees_spot p f base n spot (record spot { block = id }) env w (entered id σ) refl (like_sees p f base n spot env w σ (entered id σ) (quiet_entered id σ).like known.sees);
        taken = quiet_taken σ (entered id σ) (quiet_entered id σ) known.taken;
        stored = known.stored;
      }

      from : (υ : Store) → ListGave bs None w (entered id σ) υ v → BlockGave bs w σ (left_at (length σ.locals) υ) v
      from υ g = record {
        gone = left_gone p f base (IsEffectAmong p bs) spot n env w σ υ known.sees (list_from p f base (IsEffectAmong p bs) spot env w σ (entered id σ) υ known.sees.owns (quiet_entered id σ) g.gone);
        gave = record {
          comes = λ j h. comes_back p f base (IsEffectAmong p bs) w w σ (entered id σ) (like_came p f base (IsEffectAmong p bs) spot env w σ (entered id σ) known.sees.owns
              (quiet_entered id σ).like) variables.Returned j (g.gave.comes j h);
          below = g.gave.below;
        };
      }

      by : (o : Outcome) → stmts_run p.names regions call home env ss (entered id σ) ≡ o → leave (length σ.locals) o ≡ Returned v τ → BlockGave bs w σ τ v
      by (Went υ) is h = absurd (cc)
      by (Stopped s υ) is h = absurd (cc)
      by (Returned z υ) is h =
          let same = same_given z v (left_at (length σ.locals) υ) τ h in
          subst (λ s. BlockGave bs w σ s v) same.1 (from υ (list_gives (record spot { block = id }) n None ss ends sub pair env w (entered id σ) υ v inner (omega arith)
          (is ∙ ap (λ x. Returned x υ) same.0)))
