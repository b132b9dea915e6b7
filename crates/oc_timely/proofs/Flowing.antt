-- Samples stay within the flow, in each statement and each block of a function, where calls leave what they must.
use Rattle.std.proofs.Common.{◌≡◌, inl, inr, ℕ, zero, suc, ◌+◌, ◌<◌, ◌≤◌, Bool, true, false, List, [], ◌∷◌, length, Option, Some, None, refl, sym, ap, ◌∙◌, subst, arith, append-nil}
use Rattle.std.specs.Prelude.{ℤ, pos, ◌+ℤ◌, ◌-ℤ◌, if◌then◌else◌}
use Rattle.oc_tree.specs.Names.{Text}
use Rattle.oc_tree.specs.Tree.{TKind, if_else, for_in, while_do, TElse, no_else, else_do, stmt, TBlock, block, TStmts, no_stmts, more, TProgram}
use Rattle.oc_tree.specs.Places.{Place as Spot, Placed, behind, in_branch, in_loop, kind_placed, block_placed, else_placed, stmts_placed}
use Rattle.oc_tree.specs.Marked.{TRegion}
use Rattle.oc_tree.specs.declared.tree.VarId.TheVariants as variables
use Rattle.oc_tree.specs.Samples.{union}
use Rattle.oc_meaning.specs.Uses.{is_fresh, is_use, use_samples, begins_use, ends_use}
use Rattle.oc_meaning.specs.Store.{Held, Turn, Nowhere, Store, Binding}
use Rattle.oc_meaning.specs.Eval.{Got, is_zero, value_of}
use Rattle.oc_meaning.specs.Exec.{Outcome, Went, Returned, Stopped, Passed, begun_by, ended_by, opened, closed, used, done, finished, then_do, for_turns, while_turns}
use Rattle.oc_tree.specs.Weight.{count_of}
use Rattle.oc_meaning.specs.Exec.{in_turn, grown, entered, kind_run, else_run, block_run, stmts_run}
use Rattle.oc_tree.specs.Members.{IsOf}
use Rattle.oc_copies.specs.Copies.{HasStored}
use Rattle.oc_timely.specs.Within.{Where, Came}
use Rattle.oc_timely.specs.Enough.{since, next_mode}
use Rattle.oc_timely.specs.Steps.{AreTaken}
use Rattle.oc_timely.specs.Modes.{Sees, IsStep, PairedKind, PairedElse, PairedBlock, PairedStmts, Goes, In, IsEffectAmong, own_placed, with_place, where_behind, Flows}
use Rattle.oc_timely.proofs.Came.{came_on}
use Rattle.oc_timely.proofs.Marks.{like_sees, sees_length, sees_later, sees_spot, IsQuiet, quiet_used, quiet_done, quiet_taken, quiet_entered, like_opened, like_closed}
use Rattle.oc_timely.proofs.Inside.{count_open}
use Rattle.oc_laws.proofs.Members.{of_left, of_right}
use Rattle.oc_timely.proofs.Writes.{came_wider}
use Rattle.oc_timely.proofs.SeesOn.{AreNamed}
use Rattle.oc_timely.proofs.StraightGoes.{CallsGo, by_value_run, same_store}
use Rattle.oc_timely.proofs.Behinds.{kept_sees, turn_sees, straight_goes}
use Rattle.oc_timely.proofs.Going.{step_counts, opens, closes, where_kept, like_came, BlockGone, quiet_gone, gone_on, turn_gone, ListGone, block_left}

module _ (p : TProgram) (regions : List TRegion) (call : Text → List Passed → Store → Outcome) (home : ℤ → ℕ) (f base : ℕ) (body : List Placed) (names : AreNamed p f body)
    (calls : CallsGo p regions call home f base body) where
  abbrev pub Gone : List Placed → Where → Store → Store → Type 0
  Gone bs w σ τ = BlockGone p f base (IsEffectAmong p bs) w σ τ

  abbrev pub InBody : List Placed → Type 0
  InBody bs = In p regions call home f base body bs

  -- by more statements
  pub wider : (bs cs : List Placed) → ((b : Placed) → IsOf b bs → IsOf b cs) → (w x : Where) (σ τ : Store) → Came p f base (IsEffectAmong p bs) w x σ τ → Came p f base (IsEffectAmong p cs) w x σ τ
  wider bs cs sub w x σ τ c = came_wider p f base (IsEffectAmong p bs) (IsEffectAmong p cs) (λ a i. (i.0, sub i.0 i.1, i.2)) w x σ τ c

  -- what is known at a store of a list
  pub record Known (n : ℕ) (spot : Spot) (env : List Binding) (w : Where) (σ : Store) : Type 0 where
    pub sees : Sees p f base n spot env w σ
    pub taken : AreTaken σ
    pub stored : HasStored p σ

  known_on : (n : ℕ) (spot : Spot) (env : List Binding) (bs : List Placed) (w : Where) (σ τ : Store) → Known n spot env w σ → Gone bs w σ τ → Known n spot env w τ
  known_on n spot env bs w σ τ k g = record { sees = sees_length p f base n spot env w σ τ g.many k.sees; taken = g.steady.taken; stored = g.came.stored ∙ k.stored }

  pub known_quiet : (n : ℕ) (spot : Spot) (env : List Binding) (w : Where) (σ τ : Store) → IsQuiet σ τ → Known n spot env w σ → Known n spot env w τ
  known_quiet n spot env w σ τ q k =
      record { sees = like_sees p f base n spot env w σ τ q.like k.sees; taken = quiet_taken σ τ q k.taken; stored = ap (λ (xs : List Held). length xs) q.like.nv ∙ k.stored }

  none_gone : (n : ℕ) (spot : Spot) (env : List Binding) (bs : List Placed) (w : Where) (σ υ : Store) → Known n spot env w σ → Went σ ≡ Went υ → Gone bs w σ υ
  none_gone n spot env bs w σ υ k e = subst (Gone bs w σ) (same_store σ υ e) (quiet_gone p f base (IsEffectAmong p bs) spot env w σ σ k.sees.owns k.taken (quiet_done false 0 [] σ))

  -- ---- loops

  module _ (n : ℕ) (spot : Spot) (env : List Binding) (bs : List Placed) (w : Where) where
    for_gone : (t : ℕ) (i : ℤ) (turn : ℤ → Store → Outcome) → ((i : ℤ) (σ τ : Store) → Known n spot env w σ → turn i σ ≡ Went τ → Gone bs w σ τ) → (σ υ : Store) → Known n spot env w σ →
        for_turns t i turn σ ≡ Went υ → Gone bs w σ υ
    for_gone zero i turn each σ υ k e = none_gone n spot env bs w σ υ k e
    for_gone (suc t) i turn each σ υ k e = by (turn i σ) refl e (λ τ k' e'. for_gone t (i +ℤ pos 1) turn each τ υ k' e')
      where
        by : (o : Outcome) → turn i σ ≡ o → then_do o (for_turns t (i +ℤ pos 1) turn) ≡ Went υ → ((τ : Store) → Known n spot env w τ → for_turns t (i +ℤ pos 1) turn τ ≡ Went υ → Gone bs w τ υ) →
            Gone bs w σ υ
        by (Went τ) is h rest = let g = each i σ τ k is in gone_on p f base (IsEffectAmong p bs) w σ τ υ g (rest τ (known_on n spot env bs w σ τ k g) h)
        by (Returned v τ) is h rest = absurd (cc)
        by (Stopped s τ) is h rest = absurd (cc)

    while_gone : (t id : ℕ) (is : Bool) (samples : Store → List ℕ) (test : Store → Got) (turn : Store → Outcome) → ((σ τ : Store) → Known n spot env w σ → turn σ ≡ Went τ → Gone bs w σ τ) →
        (before : List ℕ) (σ υ : Store) → Known n spot env w σ → while_turns t id is samples test turn before σ ≡ Went υ → Gone bs w σ υ
    while_gone zero id is samples test turn each before σ υ k e =
        subst (Gone bs w σ) (same_store (done is id before σ) υ e) (quiet_gone p f base (IsEffectAmong p bs) spot env w σ (done is id before σ) k.sees.owns k.taken (quiet_done is id before σ))
    while_gone (suc t) id is samples test turn each before σ υ k e =
        gone_on p f base (IsEffectAmong p bs) w σ began υ (quiet_gone p f base (IsEffectAmong p bs) spot env w σ began k.sees.owns k.taken quiet)
        (by_value_run (test began) id began _ υ (Gone bs w began υ) e (λ v i h. by (is_zero v.num) h (λ τ k' e'. while_gone t id is samples test turn each (union before (samples σ)) τ υ k' e')))
      where
        began : Store
        began = used is id (samples σ) σ

        quiet : IsQuiet σ began
        quiet = quiet_used is id (samples σ) σ

        at : Known n spot env w began
        at = known_quiet n spot env w σ began quiet k

        through : (o : Outcome) → turn began ≡ o → then_do o (while_turns t id is samples test turn (union before (samples σ))) ≡ Went υ →
            ((τ : Store) → Known n spot env w τ → while_turns t id is samples test turn (union before (samples σ)) τ ≡ Went υ → Gone bs w τ υ) → Gone bs w began υ
        through (Went τ) i h rest = let g = each began τ at i in gone_on p f base (IsEffectAmong p bs) w began τ υ g (rest τ (known_on n spot env bs w began τ at g) h)
        through (Returned v τ) i h rest = absurd (cc)
        through (Stopped s τ) i h rest = absurd (cc)

        by : (z : Bool) → (if z then Went (done is id (union before (samples σ)) began) else then_do (turn began) (while_turns t id is samples test turn (union before (samples σ)))) ≡ Went υ →
            ((τ : Store) → Known n spot env w τ → while_turns t id is samples test turn (union before (samples σ)) τ ≡ Went υ → Gone bs w τ υ) → Gone bs w began υ
        by true h rest =
            subst (Gone bs w began) (same_store (done is id (union before (samples σ)) began) υ h)
            (quiet_gone p f base (IsEffectAmong p bs) spot env w began (done is id (union before (samples σ)) began) at.sees.owns at.taken (quiet_done is id (union before (samples σ)) began))
        by false h rest = through (turn began) refl h rest

  -- ---- a statement of a list

  module _ (spot : Spot) (id line : ℕ) (k : TKind) (rest : TStmts) (inside : Option ℕ) (env : List Binding) (w : Where) (σ υ : Store) (known : Known id spot env w σ)
      (deep : count_open inside ≤ σ.depth) (step : IsStep inside (begun_by regions id) (ended_by regions id)) where
    abbrev begun : Option ℕ
    begun = begun_by regions id

    abbrev ended : Option ℕ
    ended = ended_by regions id

    abbrev next : Option ℕ
    next = next_mode inside begun ended

    abbrev marked : Store
    marked = opened begun σ

    abbrev start : Store
    start = used (begins_use (is_fresh env) k) id (use_samples env k σ) marked

    abbrev used_up : Store → Store
    used_up τ = done (ends_use (is_fresh env) k) id (use_samples env k σ) τ

    abbrev behind_it : Store → Store
    behind_it τ = closed ended (used_up τ)

    abbrev w' : Where
    w' = where_behind w id k σ

    abbrev all : List Placed
    all = stmts_placed spot (more (stmt id line k) rest)

    pub quiet : IsQuiet marked start
    quiet = quiet_used (begins_use (is_fresh env) k) id (use_samples env k σ) marked

    pub at_mark : Known id spot env w marked
    at_mark = record {
      sees = like_sees p f base id spot env w σ marked (like_opened begun σ) known.sees;
      taken = (opens begun σ known.taken).taken;
      stored = ap (λ (xs : List Held). length xs) (like_opened begun σ).nv ∙ known.stored;
    }

    pub at_start : Known id spot env w start
    at_start = known_quiet id spot env w marked start quiet at_mark

    pub counts : count_open next + count_open ended ≡ count_open inside + count_open begun
    counts = step_counts inside begun ended step

    pub same_length : length σ.locals ≡ length start.locals
    same_length = ap (λ (xs : List Held). length xs) (sym (quiet.like.locals ∙ (like_opened begun σ).locals))

    module _ (τ : Store) (g : Goes p regions call home f base body spot id line k rest env w σ start τ) where
      quiet_end : IsQuiet τ (used_up τ)
      quiet_end = quiet_done (ends_use (is_fresh env) k) id (use_samples env k σ) τ

      at_end : Known (suc id) (behind spot id k) (grown k rest env σ) w' τ
      at_end = record { sees = g.sees; taken = g.steady.taken; stored = g.came.stored ∙ at_start.stored }

      at_done : Known (suc id) (behind spot id k) (grown k rest env σ) w' (used_up τ)
      at_done = known_quiet (suc id) (behind spot id k) (grown k rest env σ) w' τ (used_up τ) quiet_end at_end

      -- as deep as the marks of the statement say
      depth_done : (used_up τ).depth ≡ σ.depth + count_open begun
      depth_done = quiet_end.depth ∙ g.steady.deep ∙ quiet.depth ∙ (opens begun σ known.taken).deep

      enough : count_open ended ≤ (used_up τ).depth
      enough = omega (arith, depth_done, counts, deep)

      pub at_behind : Known (suc id) (behind spot id k) (grown k rest env σ) w' (behind_it τ)
      at_behind = record {
        sees = like_sees p f base (suc id) (behind spot id k) (grown k rest env σ) w' (used_up τ) (behind_it τ) (like_closed ended (used_up τ)) at_done.sees;
        taken = (closes ended (used_up τ) at_done.taken enough).taken;
        stored = ap (λ (xs : List Held). length xs) (like_closed ended (used_up τ)).nv ∙ at_done.stored;
      }

      depth_behind : (behind_it τ).depth + count_open ended ≡ σ.depth + count_open begun
      depth_behind = (closes ended (used_up τ) at_done.taken enough).deep ∙ depth_done

      pub still_open : count_open next ≤ (behind_it τ).depth
      still_open = omega (arith, depth_behind, counts, deep)

      pub came_here : Came p f base (IsEffectAmong p all) w w' σ (behind_it τ)
      came_here =
          came_on p f base (IsEffectAmong p all) w w w' σ marked (behind_it τ) (like_came p f base (IsEffectAmong p all) spot env w σ marked known.sees.owns (like_opened begun σ))
          (came_on p f base (IsEffectAmong p all) w w w' marked start (behind_it τ) (like_came p f base (IsEffectAmong p all) spot env w marked start at_mark.sees.owns quiet.like)
          (came_on p f base (IsEffectAmong p all) w w' w' start τ (behind_it τ)
          (wider (own_placed spot id line k) all (λ b i. of_left b (own_placed spot id line k) (stmts_placed (behind spot id k) rest) i) w w' start τ g.came)
          (came_on p f base (IsEffectAmong p all) w' w' w' τ (used_up τ) (behind_it τ) (like_came p f base (IsEffectAmong p all) (behind spot id k) (grown k rest env σ) w' τ (used_up τ) g.sees.owns quiet_end.like)
          (like_came p f base (IsEffectAmong p all) (behind spot id k) (grown k rest env σ) w' (used_up τ) (behind_it τ) at_done.sees.owns (like_closed ended (used_up τ))))))

      since_here : count_open inside < σ.depth → since (behind_it τ).events ≡ since σ.events
      since_here d =
          let o = opens begun σ known.taken in
          let e = o.deep in
          let q = quiet.depth in
          (closes ended (used_up τ) at_done.taken enough).since ∙ quiet_end.since ∙ g.steady.since (omega (arith, q, e, d)) ∙ quiet.since ∙ o.since (omega (arith, d))

      more_here : length σ.locals ≤ length (behind_it τ).locals
      more_here =
          let a = ap (λ (xs : List Held). length xs) ((like_closed ended (used_up τ)).locals ∙ quiet_end.like.locals) in
          let b = g.more in
          omega (arith, a, b, same_length)

      first_none : w (variables.Declared id) ≡ Nowhere
      first_none = elim (known.sees.older id) [ inl e ↦ e | inr l ↦ absurd (omega (arith, l)) ]

      pub list_gone : ListGone p f base (IsEffectAmong p (stmts_placed (behind spot id k) rest)) next w' (behind_it τ) υ → ListGone p f base (IsEffectAmong p all) inside w σ υ
      list_gone r = record {
        after = r.after;
        came =
            came_on p f base (IsEffectAmong p all) w w' r.after σ (behind_it τ) υ came_here
            (wider (stmts_placed (behind spot id k) rest) all (λ b i. inr (of_right b (kind_placed spot id k) (stmts_placed (behind spot id k) rest) i)) w' r.after (behind_it τ) υ r.came);
        kept = λ v. elim (where_kept w id k σ first_none v) [
          | inl e ↦ inl e
          | inr e ↦ elim (r.kept v) [ inl q ↦ inl (sym e ∙ q) | inr q ↦ inr (q ∙ e) ]
        ];
        taken = r.taken;
        deep = let a = r.deep in omega (arith, a, depth_behind, counts);
        since = λ d. r.since (omega (arith, depth_behind, counts, d)) ∙ since_here d;
        more = let a = r.more in omega (arith, a, more_here);
      }

    -- the statement, and then the others
    stmt_goes : ((τ : Store) → kind_run p.names regions call home env id k start ≡ Went τ → Goes p regions call home f base body spot id line k rest env w σ start τ) →
        ((τ : Store) → Known (suc id) (behind spot id k) (grown k rest env σ) w' τ → count_open next ≤ τ.depth → stmts_run p.names regions call home (grown k rest env σ) rest τ
        ≡ Went υ → ListGone p f base (IsEffectAmong p (stmts_placed (behind spot id k) rest)) next w' τ υ) →
        stmts_run p.names regions call home env (more (stmt id line k) rest) σ ≡ Went υ → ListGone p f base (IsEffectAmong p all) inside w σ υ
    stmt_goes one others e = by (kind_run p.names regions call home env id k start) refl e
      where
        by : (o : Outcome) → kind_run p.names regions call home env id k start ≡ o → then_do (finished behind_it o) (stmts_run p.names regions call home (grown k rest env σ) rest) ≡ Went υ →
            ListGone p f base (IsEffectAmong p all) inside w σ υ
        by (Went τ) is h = let g = one τ is in list_gone τ g (others (behind_it τ) (at_behind τ g) (still_open τ g) h)
        by (Returned v τ) is h = absurd (cc)
        by (Stopped s τ) is h = absurd (cc)

  -- ---- all statements

  test_of : (z : Bool) (o q : Outcome) (υ : Store) (A : Type 0) → (if z then o else q) ≡ Went υ → (o ≡ Went υ → A) → (q ≡ Went υ → A) → A
  test_of true o q υ A e a b = a e
  test_of false o q υ A e a b = b e

  -- the part of a block of a statement with blocks
  in_all : (spot : Spot) (id line : ℕ) (k : TKind) (rest : TStmts) (bs : List Placed) → InBody (stmts_placed spot (more (stmt id line k) rest)) →
      ((b : Placed) → IsOf b bs → IsOf b (kind_placed spot id k)) → InBody bs
  in_all spot id line k rest bs sub part b i = sub b (inr (of_left b (kind_placed spot id k) (stmts_placed (behind spot id k) rest) (part b i)))

  in_branch_known : (spot : Spot) (id : ℕ) (env : List Binding) (w : Where) (σ : Store) → Known id spot env w σ → Known (suc id) (in_branch spot id) env w σ
  in_branch_known spot id env w σ k = record {
    sees = sees_later p f base id (suc id) (in_branch spot id) env w σ (omega arith) (sees_spot p f base id spot (in_branch spot id) env w σ refl k.sees);
    taken = k.taken;
    stored = k.stored;
  }

  in_while_known : (spot : Spot) (id : ℕ) (env : List Binding) (w : Where) (σ : Store) → Known id spot env w σ → Known (suc id) (in_loop spot id []) env w σ
  in_while_known spot id env w σ k = record {
    sees = sees_later p f base id (suc id) (in_loop spot id []) env w σ (omega arith) (sees_spot p f base id spot (in_loop spot id []) env w σ (append-nil spot.variables) k.sees);
    taken = k.taken;
    stored = k.stored;
  }

  none_here : (spot : Spot) (id : ℕ) (env : List Binding) (w : Where) (σ : Store) → Known id spot env w σ → w (variables.Declared id) ≡ Nowhere
  none_here spot id env w σ k = elim (k.sees.older id) [ inl e ↦ e | inr l ↦ absurd (omega (arith, l)) ]

  wide_gone : (bs cs : List Placed) → ((b : Placed) → IsOf b bs → IsOf b cs) → (w : Where) (σ τ : Store) → Gone bs w σ τ → Gone cs w σ τ
  wide_gone bs cs sub w σ τ g = record { came = wider bs cs sub w w σ τ g.came; steady = g.steady; many = g.many }

  mutual
    pub kind_goes : (spot : Spot) (id line : ℕ) (k : TKind) (rest : TStmts) → InBody (stmts_placed spot (more (stmt id line k) rest)) → PairedKind regions (suc id) k →
        (env : List Binding) (w : Where) (first σ υ : Store) → length first.locals ≡ length σ.locals → Known id spot env w σ →
        kind_run p.names regions call home env id k σ ≡ Went υ → Goes p regions call home f base body spot id line k rest env w first σ υ
    kind_goes spot id line (if_else c a b) rest sub pair env w first σ υ same known e =
        let g : Gone (own_placed spot id line (if_else c a b)) w σ υ =
        by_value_run (value_of env σ c) id σ _ υ (Gone (own_placed spot id line (if_else c a b)) w σ υ) e (λ v is h.
        test_of (is_zero v.num) (else_run p.names regions call home env b σ) (block_run p.names regions call home env a σ) υ (Gone (own_placed spot id line (if_else c a b)) w σ υ) h
        (λ h'. wide_gone (else_placed (in_branch spot id) b) (own_placed spot id line (if_else c a b))
        (λ z i. inr (of_right z (block_placed (in_branch spot id) a) (else_placed (in_branch spot id) b) i)) w σ υ
        (else_goes (in_branch spot id) (suc id) b
        (in_all spot id line (if_else c a b) rest (else_placed (in_branch spot id) b) sub
        (λ z i. of_right z (block_placed (in_branch spot id) a) (else_placed (in_branch spot id) b) i)) pair.1 env w σ υ (in_branch_known spot id env w σ known) h'))
        (λ h'. wide_gone (block_placed (in_branch spot id) a) (own_placed spot id line (if_else c a b))
        (λ z i. inr (of_left z (block_placed (in_branch spot id) a) (else_placed (in_branch spot id) b) i)) w σ υ
        (block_goes (in_branch spot id) (suc id) a
        (in_all spot id line (if_else c a b) rest (block_placed (in_branch spot id) a) sub
        (λ z i. of_left z (block_placed (in_branch spot id) a) (else_placed (in_branch spot id) b) i)) pair.0 env w σ υ (in_branch_known spot id env w σ known) h')))
        in
        record {
          came = g.came;
          sees = kept_sees p regions call home f base body names spot (behind spot id (if_else c a b)) id env w σ υ refl g.many known.sees;
          steady =
              g.steady;
          more = let m = g.many in omega (arith, m);
        }
    kind_goes spot id line (for_in x c d b) rest sub pair env w first σ υ same known e =
        let g : Gone (own_placed spot id line (for_in x c d b)) w σ υ =
        for_gone id spot env (own_placed spot id line (for_in x c d b)) w (count_of (d -ℤ c)) c (λ i. block_run p.names regions call home (in_turn x i ∷ env) b)
        (λ i σ τ k h. turn_gone p f base (IsEffectAmong p (own_placed spot id line (for_in x c d b))) w id i σ τ (none_here spot id env w σ k)
        (wide_gone (block_placed (in_loop spot id ((x, variables.Declared id) ∷ [])) b) (own_placed spot id line (for_in x c d b)) (λ z j. inr j) (with_place w id (Turn i)) σ τ
        (block_goes (in_loop spot id ((x, variables.Declared id) ∷ [])) (suc id) b
        (in_all spot id line (for_in x c d b) rest (block_placed (in_loop spot id ((x, variables.Declared id) ∷ [])) b) sub (λ z j. j)) pair (in_turn x i ∷ env) (with_place w id (Turn i)) σ τ
        (record { sees = turn_sees p regions call home f base body names spot id line x c d b (sub _ (inl refl)) env w σ i k.sees; taken = k.taken; stored = k.stored }) h)))
        σ υ known e
        in
        record {
          came = g.came;
          sees = kept_sees p regions call home f base body names spot (behind spot id (for_in x c d b)) id env w σ υ refl g.many known.sees;
          steady =
              g.steady;
          more = let m = g.many in omega (arith, m);
        }
    kind_goes spot id line (while_do c t b) rest sub pair env w first σ υ same known e =
        let g : Gone (own_placed spot id line (while_do c t b)) w σ υ =
        while_gone id spot env (own_placed spot id line (while_do c t b)) w t id (is_use (is_fresh env) (while_do c t b)) (use_samples env (while_do c t b)) (λ τ. value_of env τ c)
        (block_run p.names regions call home env b)
        (λ σ τ k h. wide_gone (block_placed (in_loop spot id []) b) (own_placed spot id line (while_do c t b)) (λ z j. inr j) w σ τ
        (block_goes (in_loop spot id []) (suc id) b (in_all spot id line (while_do c t b) rest (block_placed (in_loop spot id []) b) sub (λ z j. j)) pair env w σ τ
        (in_while_known spot id env w σ k) h))
        [] σ υ known e
        in
        record {
          came = g.came;
          sees = kept_sees p regions call home f base body names spot (behind spot id (while_do c t b)) id env w σ υ refl g.many known.sees;
          steady =
              g.steady;
          more = let m = g.many in omega (arith, m);
        }
    kind_goes spot id line k rest sub pair env w first σ υ same known e =
        straight_goes p regions call home f base body names calls spot id line k rest tt sub env w first σ υ same known.sees known.taken known.stored e

    else_goes : (spot : Spot) (n : ℕ) (b : TElse) → InBody (else_placed spot b) → PairedElse regions n b → (env : List Binding) (w : Where) (σ τ : Store) → Known n spot env w σ →
        else_run p.names regions call home env b σ ≡ Went τ → Gone (else_placed spot b) w σ τ
    else_goes spot n no_else sub pair env w σ τ known e = none_gone n spot env [] w σ τ known e
    else_goes spot n (else_do b) sub pair env w σ τ known e = block_goes spot n b sub pair env w σ τ known e

    pub block_goes : (spot : Spot) (n : ℕ) (b : TBlock) → InBody (block_placed spot b) → PairedBlock regions n b → (env : List Binding) (w : Where) (σ τ : Store) → Known n spot env w σ →
        block_run p.names regions call home env b σ ≡ Went τ → Gone (block_placed spot b) w σ τ
    block_goes spot n (block id ss) sub pair env w σ τ known e =
        block_left p f base (IsEffectAmong p (block_placed spot (block id ss))) spot n id env w σ τ (stmts_run p.names regions call home env ss (entered id σ)) known.sees
        (λ υ h. stmts_goes (record spot { block = id }) n None ss sub pair env w (entered id σ) υ
        (record {
          sees = sees_spot p f base n spot (record spot { block = id }) env w (entered id σ) refl
              (like_sees p f base n spot env w σ (entered id σ) (quiet_entered id σ).like known.sees);
          taken = quiet_taken σ (entered id σ) (quiet_entered id σ) known.taken;
          stored =
              known.stored;
        }) (omega arith) h) e

    stmts_goes : (spot : Spot) (n : ℕ) (inside : Option ℕ) (ss : TStmts) → InBody (stmts_placed spot ss) → PairedStmts regions n inside ss → (env : List Binding) (w : Where) (σ υ : Store) →
        Known n spot env w σ → count_open inside ≤ σ.depth → stmts_run p.names regions call home env ss σ ≡ Went υ → ListGone p f base (IsEffectAmong p (stmts_placed spot ss)) inside w σ υ
    stmts_goes spot n None no_stmts sub pair env w σ υ known deep e =
        let g = none_gone n spot env [] w σ υ known e in
        record {
          after = w;
          came = g.came;
          kept = λ v. inr refl;
          taken = g.steady.taken;
          deep = let d = g.steady.deep in omega (arith, d);
          since = λ d. g.steady.since d;
          more =
              let m = g.many in omega (arith, m);
        }
    stmts_goes spot n (Some r) no_stmts sub pair env w σ υ known deep e = absurd pair
    stmts_goes spot n inside (more (stmt id line k) rest) sub pair env w σ υ known deep e =
        let at_it : Known id spot env w σ = record { sees = sees_later p f base n id spot env w σ pair.0 known.sees; taken = known.taken; stored = known.stored } in
        stmt_goes spot id line k rest inside env w σ υ at_it deep pair.1
        (λ τ h. kind_goes spot id line k rest sub pair.2 env w σ (start spot id line k rest inside env w σ υ at_it deep pair.1) τ
        (same_length spot id line k rest inside env w σ υ at_it deep pair.1) (at_start spot id line k rest inside env w σ υ at_it deep pair.1) h)
        (λ τ at d h. stmts_goes (behind spot id k) (suc id) (next_mode inside (begun_by regions id) (ended_by regions id)) rest
        (λ z i. sub z (inr (of_right z (kind_placed spot id k) (stmts_placed (behind spot id k) rest) i))) pair.3 (grown k rest env σ) (where_behind w id k σ) τ υ at d h) e

  -- All that `Flows` asks for.
  pub all_flows : Flows p regions call home f base body
  all_flows = record {
    goes =
        λ spot id line k rest sub pair env w first σ τ same sees taken stored e. kind_goes spot id line k rest sub pair env w first σ τ same (record { sees = sees; taken = taken; stored = stored }) e;
    block = λ spot n b sub pair env w σ τ sees taken stored e. let g = block_goes spot n b sub pair env w σ τ (record { sees = sees; taken = taken; stored = stored }) e in (g.came, g.steady, g.many);
    turn = λ spot id line x c d b one env w σ i sees. turn_sees p regions call home f base body names spot id line x c d b one env w σ i sees;
  }
