-- All turns of a `for` with an empty body, one after the other.
use Rattle.std.proofs.Common.{◌≡◌, refl, sym, ap, ◌∙◌, subst, ℕ, zero, suc, ◌-◌, ◌<◌, ℤ, pos, negsuc, ◌+ℤ◌, ◌-ℤ◌, ◌≤ℤ◌, true, List, [], ◌∷◌, ◌++◌, map, reverse, length, drop, arith}
use Rattle.std.specs.Prelude.{int_lt, unsigned_abs}
use Rattle.std.proofs.lemmas.Int.{ints}
use Rattle.std.proofs.lemmas.List.{map-append, reverse-append}
use Rattle.oc_tree.specs.Names.{Text}
use Rattle.oc_tree.specs.Tree.{TProgram, block, no_stmts}
use Rattle.oc_tree.specs.Marked.{TRegion}
use Rattle.oc_tree.specs.View.{block_view, stmts_view}
use Rattle.oc_tree.specs.declared.tree.Stmt.{Stmt}
use Rattle.oc_tree.specs.Weight.{count_of}
use Rattle.oc_meaning.specs.Store.{Binding, Store}
use Rattle.oc_meaning.specs.Exec.{Went}
use Rattle.oc_steps.specs.Ages.{one_more}
use Rattle.oc_steps.specs.Steps.{Frame, Inside, Turns}
use Rattle.oc_steps.specs.Fold.{Way, Next, Went_on, steps_on, next_of, then_next}
use Rattle.oc_judge.specs.Frames.{for_frame, frame_view, frames_view, inside_view, joined}
use Rattle.oc_judge.specs.Passes.{more_times, HasTurns, Reaches}
use Rattle.oc_judge.specs.Ways.{Comes, KeepsRest}
use Rattle.oc_judge.specs.declared.frames.ForTurns.{ForTurns}
use Rattle.oc_judge.specs.declared.frames.Frame as frames

-- ---- the turns that are left

counted : (d : ℤ) → pos 0 ≤ℤ d → count_of d ≡ unsigned_abs d
counted (pos n) h = refl
counted (negsuc n) h = absurd (omega (arith, ints, h))

is_some : (d : ℤ) → pos 1 ≤ℤ d → 0 < count_of d
is_some (pos n) h = omega (arith, ints, h)
is_some (negsuc n) h = absurd (omega (arith, ints, h))

pub has_turns : (t : ForTurns) (id times : ℕ) → block_view t.body.now ≡ block id no_stmts → times ≡ unsigned_abs (t.to -ℤ t.next) → int_lt t.next t.to ≡ true
    → (env : List Binding) (behind : List Frame) → HasTurns (for_frame env t ∷ behind) behind id times
has_turns t id times b c h env behind =
    let same : count_of (t.to -ℤ t.next) ≡ times = counted (t.to -ℤ t.next) (omega (arith, ints, h)) ∙ sym c in
    record {
      inside = inside_view t.inside;
      name = t.name.now;
      next = t.next;
      env = env;
      is = ap (λ n. Turns (inside_view t.inside) t.name.now n t.next (block_view t.body.now) env ∷ behind) same
          ∙ ap (λ l. Turns (inside_view t.inside) t.name.now times t.next l env ∷ behind) b;
      some = subst (λ n. 0 < n) same (is_some (t.to -ℤ t.next) (omega (arith, ints, h)));
    }

pub no_statements : (ss : List Stmt) → length ss ≡ 0 → stmts_view ss ≡ no_stmts
no_statements [] h = refl
no_statements (s ∷ ss) h = absurd (omega (arith, h))

pub frames_more : (fs : List frames.Frame) (f : frames.Frame) → frames_view (fs ++ f ∷ []) ≡ frame_view f ++ frames_view fs
frames_more fs f = ap joined (ap reverse (map-append frame_view fs (f ∷ [])) ∙ reverse-append (map frame_view fs) (frame_view f ∷ []))

-- ---- their steps

drop_same : {A : Type 0} (n : ℕ) (xs : List A) → drop (n - n) xs ≡ xs
drop_same n xs = let e : n - n ≡ 0 = omega arith in ap (λ m. drop m xs) e

abbrev further : ℕ → ℕ → ℕ
further zero m = m
further (suc n) m = suc (further n m)

pub keeps_then : (u v w : Way) → KeepsRest u v → KeepsRest v w → KeepsRest u w
keeps_then u v w a b = record { sets = b.sets ∙ a.sets; inside = b.inside ∙ a.inside; over = b.over ∙ a.over }

module _ (p : TProgram) (rs : List TRegion) where
  further_on : (n m : ℕ) (a b : Way) → steps_on p rs m a ≡ Went_on b → steps_on p rs (further n m) a ≡ steps_on p rs n b
  further_on zero m a b e = e
  further_on (suc n) m a b e = ap (then_next p rs) (further_on n m a b e)

  -- nothing was done
  pub stays : (w v : Way) → v ≡ w → Reaches p rs w v
  stays w v e = record { steps = 0; is = ap Went_on (sym e) }

  -- one after the other
  pub reaches_then : (u v w : Way) → Reaches p rs u v → Reaches p rs v w → Reaches p rs u w
  reaches_then u v w a b = record { steps = further b.steps a.steps; is = further_on b.steps a.steps u v a.is ∙ b.is }

  -- some steps more, which go on
  pub goes_then : (u v w : Way) → Reaches p rs u v → Comes p rs v (Went_on w) → Reaches p rs u w
  goes_then u v w a b = record { steps = further b.steps a.steps; is = further_on b.steps a.steps u v a.is ∙ b.is }

  -- or after which it says or wants something
  pub comes_then : (u v : Way) (next : Next) → Reaches p rs u v → Comes p rs v next → Comes p rs u next
  comes_then u v next a b = record { steps = further b.steps a.steps; is = further_on b.steps a.steps u v a.is ∙ b.is }

  -- one step more, after which it says or wants something
  pub comes : (u v : Way) (next : Next) → Reaches p rs u v → next ≡ next_of p rs v → Comes p rs u next
  comes u v next r e = record { steps = suc r.steps; is = ap (then_next p rs) r.is ∙ sym e }

  module _ (w : Way) (f : Inside) (x : Text) (id : ℕ) (env : List Binding) (fs : List Frame) where
    -- so many turns are left, and nothing was said
    abbrev left : ℕ → ℤ → Store → Way
    left t i τ = record w { frames = Turns f x t i (block id no_stmts) env ∷ fs; out = Went (record τ { events = [] }) }

    abbrev past : Store → Way
    past τ = record w { frames = fs; out = Went (record τ { events = [] }) }

    one_turn : (t : ℕ) (i : ℤ) (τ : Store) → steps_on p rs 3 (left (suc t) i τ) ≡ Went_on (left t (i +ℤ pos 1) (record τ { blocks = one_more id τ.blocks }))
    one_turn t i τ = ap (λ xs. Went_on (left t (i +ℤ pos 1) (record τ { locals = xs; blocks = one_more id τ.blocks }))) (drop_same (length τ.locals) τ.locals)

    all_turns : (t : ℕ) (i : ℤ) (τ : Store) → Reaches p rs (left t i τ) (past (record τ { blocks = more_times t id τ.blocks }))
    all_turns zero i τ = record { steps = 1; is = refl }
    all_turns (suc t) i τ =
        reaches_then (left (suc t) i τ) (left t (i +ℤ pos 1) (record τ { blocks = one_more id τ.blocks })) (past (record τ { blocks = more_times (suc t) id τ.blocks }))
        (record { steps = 3; is = one_turn t i τ }) (all_turns t (i +ℤ pos 1) (record τ { blocks = one_more id τ.blocks }))

  -- a run whose first frame they are
  pub passes : (w : Way) (fs : List Frame) (σ τ : Store) (id times : ℕ) → HasTurns w.frames fs id times → w.out ≡ Went σ → σ.events ≡ []
      → τ ≡ record σ { blocks = more_times times id σ.blocks } → Reaches p rs w (record w { frames = fs; out = Went τ })
  passes w fs σ τ id times h o e q =
      let silent : record σ { events = [] } ≡ σ = ap (λ es. record σ { events = es }) (sym e) in
      subst (λ v. Reaches p rs v (record w { frames = fs; out = Went τ })) (λ i. record w { frames = sym h.is i; out = (ap Went silent ∙ sym o) i })
      (subst (λ v. Reaches p rs (left w h.inside h.name id h.env fs times h.next σ) v)
      (ap (λ es. record w { frames = fs; out = Went (record σ { blocks = more_times times id σ.blocks; events = es }) }) (sym e)
      ∙ ap (λ υ. record w { frames = fs; out = Went υ }) (sym q))
      (all_turns w h.inside h.name id h.env fs times h.next σ))
