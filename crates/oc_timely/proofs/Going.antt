-- What blocks and lists of statements leave, step by step.
use Rattle.std.proofs.Common.{◌≡◌, ◌⊎◌, inl, inr, ℕ, ◌+◌, ◌-◌, ◌<◌, ◌≤◌, Bool, true, false, List, length, Option, Some, None, refl, sym, ap, ◌∙◌, subst, arith}
use Rattle.std.specs.Prelude.{ℤ, if◌then◌else◌, nat_lt, unwrap_or}
use Rattle.oc_tree.specs.Tree.{TKind, let_to, let_array, TProgram}
use Rattle.oc_tree.specs.Places.{Place as Spot}
use Rattle.oc_tree.specs.declared.tree.VarId.{VarId}
use Rattle.oc_tree.specs.declared.tree.VarId.TheVariants as variables
use Rattle.oc_meaning.specs.Store.{Held, Place, Local, Global, Turn, Nowhere, Store, Binding, at, nothing, held_at, left_at}
use Rattle.oc_meaning.specs.Exec.{Outcome, Went, Returned, Stopped, leave, entered, opened, closed}
use Rattle.oc_effects.specs.Effects.{TEffect}
use Rattle.oc_flow.specs.Variables.{same_variable}
use Rattle.oc_tree.specs.Members.{IsOf}
use Rattle.oc_timely.specs.Within.{Where, samples_of, Owns, Comes, old, new, Came}
use Rattle.oc_timely.specs.Enough.{since, next_mode}
use Rattle.oc_timely.specs.Steps.{AreTaken}
use Rattle.oc_timely.specs.Modes.{Sees, IsSteady, IsStep, with_place, where_behind}
use Rattle.oc_copies.proofs.Cells.{at_drop, drop_length, at_past}
use Rattle.oc_timely.proofs.Came.{stays, came_on}
use Rattle.oc_timely.proofs.Marks.{IsLike, like_samples, IsQuiet, quiet_taken, quiet_entered, begun_is, ended_is}
use Rattle.oc_timely.proofs.Inside.{count_open, turn_samples, samples_turn}
use Rattle.oc_flow.proofs.Lists.{same_is}

-- ---- marks

pub step_counts : (inside begun ended : Option ℕ) → IsStep inside begun ended → count_open (next_mode inside begun ended) + count_open ended ≡ count_open inside + count_open begun
step_counts (Some r) (Some q) e h = absurd h
step_counts None None (Some e) h = absurd h
step_counts None None None h = refl
step_counts None (Some q) None h = refl
step_counts None (Some q) (Some e) h = refl
step_counts (Some r) None None h = refl
step_counts (Some r) None (Some e) h = refl

pub record Opens (o : Option ℕ) (σ τ : Store) : Type 0 where
  pub taken : AreTaken τ
  pub deep : τ.depth ≡ σ.depth + count_open o
  pub since : 0 < σ.depth → since τ.events ≡ since σ.events

pub opens : (o : Option ℕ) (σ : Store) → AreTaken σ → Opens o σ (opened o σ)
opens None σ t = record { taken = t; deep = omega arith; since = λ d. refl }
opens (Some r) σ t = let b = begun_is r σ t in record { taken = b.taken; deep = let d = b.deep in omega (arith, d); since = b.still }

pub record Closes (o : Option ℕ) (σ τ : Store) : Type 0 where
  pub taken : AreTaken τ
  pub deep : τ.depth + count_open o ≡ σ.depth
  pub since : since τ.events ≡ since σ.events

pub closes : (o : Option ℕ) (σ : Store) → AreTaken σ → count_open o ≤ σ.depth → Closes o σ (closed o σ)
closes None σ t h = record { taken = t; deep = omega arith; since = refl }
closes (Some r) σ t h = let e = ended_is r σ t (omega (arith, h)) in record { taken = e.taken; deep = let d = e.deep in omega (arith, d); since = e.still }

-- ---- where variables are behind a statement

pub where_kept : (w : Where) (id : ℕ) (k : TKind) (σ : Store) → w (variables.Declared id) ≡ Nowhere → (v : VarId) → (w v ≡ Nowhere) ⊎ (where_behind w id k σ v ≡ w v)
where_kept w id k σ none v = by k
  where
    at_let : (q : Place) → (w v ≡ Nowhere) ⊎ (with_place w id q v ≡ w v)
    at_let q = test (same_variable v (variables.Declared id)) refl
      where
        test : (b : Bool) → same_variable v (variables.Declared id) ≡ b → (w v ≡ Nowhere) ⊎ ((if b then q else w v) ≡ w v)
        test true e = inl (ap w (same_is v (variables.Declared id) e) ∙ none)
        test false e = inr refl

    by : (k : TKind) → (w v ≡ Nowhere) ⊎ (where_behind w id k σ v ≡ w v)
    by (let_to m x t r) = at_let _
    by (let_array m x t z n) = at_let _
    by k = inr refl

-- ---- variables that are gone

pub left_or : (σ : Store) (m : ℕ) → m ≤ length σ.locals → (q : Place) (j : ℕ) → IsOf j (held_at (left_at m σ) q).samples → IsOf j (held_at σ q).samples
left_or σ m b (Global l) j h = h
left_or σ m b (Turn z) j h = h
left_or σ m b Nowhere j h = h
left_or σ m b (Local l) j h = by (nat_lt l m) refl
  where
    by : (c : Bool) → nat_lt l m ≡ c → IsOf j (held_at σ (Local l)).samples
    by true e = let c : l < m = grind (arith, e) in subst (λ (o : Option Held). IsOf j (unwrap_or o nothing).samples) (at_drop σ.locals (length σ.locals - m) l (omega (arith, c, b))) h
    by false e =
        let c : m ≤ l = grind (arith, e) in
        let d = drop_length σ.locals (length σ.locals - m) in
        absurd (subst (λ (o : Option Held). IsOf j (unwrap_or o nothing).samples) (at_past (left_at m σ).locals l (omega (arith, c, b, d))) h)

module _ (p : TProgram) (f base : ℕ) (P : TEffect → Type 0) where
  -- ---- the same variables

  pub like_came : (spot : Spot) (env : List Binding) (w : Where) (σ τ : Store) → Owns p f base spot env w σ → IsLike σ τ → Came p f base P w w σ τ
  like_came spot env w σ τ owns l =
      let c = stays p f base P spot env w σ owns in
      record {
        within = λ v j h. c.within v j (like_samples σ τ l w v j h);
        later = let e = l.taken in omega (arith, e);
        stored = ap (λ (xs : List Held). length xs) l.nv;
        below =
            λ i h. ap (λ xs. at xs i) l.locals;
      }

  -- ---- blocks

  -- a block leaves what was before it
  pub record BlockGone (w : Where) (σ τ : Store) : Type 0 where
    pub came : Came p f base P w w σ τ
    pub steady : IsSteady σ τ
    pub many : length τ.locals ≡ length σ.locals

  pub quiet_gone : (spot : Spot) (env : List Binding) (w : Where) (σ τ : Store) → Owns p f base spot env w σ → AreTaken σ → IsQuiet σ τ → BlockGone w σ τ
  quiet_gone spot env w σ τ owns taken q = record {
    came = like_came spot env w σ τ owns q.like;
    steady = record { taken = quiet_taken σ τ q taken; deep = q.depth; since = λ d. q.since };
    many = ap (λ (xs : List Held). length xs) q.like.locals;
  }

  pub gone_on : (w : Where) (σ τ υ : Store) → BlockGone w σ τ → BlockGone w τ υ → BlockGone w σ υ
  gone_on w σ τ υ a b = record {
    came = came_on p f base P w w w σ τ υ a.came b.came;
    steady = record { taken = b.steady.taken; deep = b.steady.deep ∙ a.steady.deep; since = λ d. b.steady.since (let e = a.steady.deep in omega (arith, e, d)) ∙ a.steady.since d };
    many = b.many ∙ a.many;
  }

  -- a turn's own variable is gone behind it
  pub turn_gone : (w : Where) (id : ℕ) (i : ℤ) (σ τ : Store) → w (variables.Declared id) ≡ Nowhere → BlockGone (with_place w id (Turn i)) σ τ → BlockGone w σ τ
  turn_gone w id i σ τ none g = record {
    came = record { within = λ v j h. by v j (g.came.within v j (samples_turn τ w id i v j none h)); later = g.came.later; stored = g.came.stored; below = g.came.below };
    steady = g.steady;
    many = g.many;
  }
    where
      by : (v : VarId) (j : ℕ) → Comes p f P (samples_of σ (with_place w id (Turn i))) σ.taken v j → Comes p f P (samples_of σ w) σ.taken v j
      by v j (old u h fl) = old u (turn_samples σ w id i u j h) fl
      by v j (new a u i' br fl le) = new a u i' br fl le

  -- ---- lists of statements

  -- what a list of statements leaves, where `inside` says whether a region of the list is open
  pub record ListGone (inside : Option ℕ) (w : Where) (σ υ : Store) : Type 0 where
    pub after : Where
    pub came : Came p f base P w after σ υ
    pub kept : (v : VarId) → (w v ≡ Nowhere) ⊎ (after v ≡ w v)
    pub taken : AreTaken υ
    pub deep : υ.depth + count_open inside ≡ σ.depth
    pub since : count_open inside < σ.depth → since υ.events ≡ since σ.events
    pub more : length σ.locals ≤ length υ.locals

  pub left_gone : (spot : Spot) (n : ℕ) (env : List Binding) (w : Where) (σ υ : Store) → Sees p f base n spot env w σ → ListGone None w σ υ → BlockGone w σ (left_at (length σ.locals) υ)
  left_gone spot n env w σ υ sees g = record {
    came = record {
      within = λ v j h. by v j (left_or υ (length σ.locals) g.more (w v) j h);
      later = g.came.later;
      stored = g.came.stored;
      below = λ l b. at_drop υ.locals (length υ.locals - length σ.locals) l (let r = sees.room in let m = g.more in omega (arith, r, m, b)) ∙ g.came.below l b;
    };
    steady = record {
      taken = record { held = λ q j h. g.taken.held q j (left_or υ (length σ.locals) g.more q j h); count = g.taken.count; opened = g.taken.opened; begun = g.taken.begun };
      deep = let d = g.deep in omega (arith, d);
      since = λ d. g.since d;
    };
    many = let m = g.more in let d = drop_length υ.locals (length υ.locals - length σ.locals) in omega (arith, m, d);
  }
    where
      by : (v : VarId) (j : ℕ) → IsOf j (held_at υ (w v)).samples → Comes p f P (samples_of σ w) σ.taken v j
      by v j h = elim (g.kept v) [
        | inl e ↦ absurd (subst (λ q. IsOf j (held_at υ q).samples) e h)
        | inr e ↦ g.came.within v j (subst (λ q. IsOf j (held_at υ q).samples) (sym e) h)
      ]

  -- from a store with the same variables, and no other marks
  pub list_from : (spot : Spot) (env : List Binding) (w : Where) (σ τ υ : Store) → Owns p f base spot env w σ → IsQuiet σ τ → ListGone None w τ υ → ListGone None w σ υ
  list_from spot env w σ τ υ owns q g = record {
    after = g.after;
    came = came_on p f base P w w g.after σ τ υ (like_came spot env w σ τ owns q.like) g.came;
    kept = g.kept;
    taken = g.taken;
    deep = g.deep ∙ q.depth;
    since = λ d. g.since (let e = q.depth in omega (arith, e, d)) ∙ q.since;
    more = let l = ap (λ (xs : List Held). length xs) q.like.locals in let m = g.more in omega (arith, l, m);
  }

  pub block_left : (spot : Spot) (n id : ℕ) (env : List Binding) (w : Where) (σ τ : Store) (o : Outcome) → Sees p f base n spot env w σ →
      ((υ : Store) → o ≡ Went υ → ListGone None w (entered id σ) υ) → leave (length σ.locals) o ≡ Went τ → BlockGone w σ τ
  block_left spot n id env w σ τ (Went υ) sees list e =
      let same : left_at (length σ.locals) υ ≡ τ = cc in
      subst (BlockGone w σ) same (left_gone spot n env w σ υ sees (list_from spot env w σ (entered id σ) υ sees.owns (quiet_entered id σ) (list υ refl)))
  block_left spot n id env w σ τ (Returned v υ) sees list e = absurd (cc)
  block_left spot n id env w σ τ (Stopped s υ) sees list e = absurd (cc)
