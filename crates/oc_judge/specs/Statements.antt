-- Statements that begin.
use Rattle.std.specs.Prelude.{◌≡◌, ℕ, Bool, false, List, [], ◌∷◌, Option, None}
use Rattle.oc_tree.specs.Tree.{TKind}
use Rattle.oc_tree.specs.Marked.{TRegion}
use Rattle.oc_tree.specs.View.{kind_view, stmts_view}
use Rattle.oc_meaning.specs.Store.{Binding, Store}
use Rattle.oc_meaning.specs.Exec.{Went, begun_by, ended_by, grown, opened}
use Rattle.oc_meaning.specs.Uses.{begins_use, ends_use, is_fresh}
use Rattle.oc_steps.specs.Ages.{join_ages}
use Rattle.oc_steps.specs.Sets.{use_by}
use Rattle.oc_steps.specs.Steps.{Close, Done, Frame, Goes, Rest, Step, Use}
use Rattle.oc_judge.specs.Frames.{inside_view}
use Rattle.oc_judge.specs.Going.{regions_of}
use Rattle.oc_judge.specs.Stores.{completion_at}
use Rattle.oc_judge.specs.Values.{age_view}
use Rattle.oc_judge.specs.declared.running.Running.{Running}
use Rattle.oc_judge.specs.declared.statement.Statement.{Statement}
use Rattle.oc_judge.specs.declared.store.Completion.{Completion}
use Rattle.oc_judge.specs.declared.uses.Use.{Use as Found}

-- this is what such a statement says of a use
pub record IsUse (env : List Binding) (k : TKind) (σ : Store) (u : Found) : Type 0 where
  pub begun : u.begins ≡ begins_use (is_fresh env) k
  pub ended : u.ends ≡ ends_use (is_fresh env) k
  pub samples : age_view u.age ≡ use_by join_ages env k σ

-- no region begins with the statement, and nothing was said
pub record IsPlain (regions : List TRegion) (n : ℕ) (σ : Store) : Type 0 where
  pub outside : begun_by regions n ≡ None
  pub told : σ.events ≡ []

-- what stands behind the work of a statement, with the variables behind it
abbrev pub end_frames : Running → Statement → List Binding → List Frame → List Frame
end_frames r s env fs =
    Done s.found.ends s.id (age_view s.found.age) ∷ Close (ended_by (regions_of r) s.id)
    ∷ Rest (inside_view s.inside) env (stmts_view s.rest.now) ∷ fs

-- the statement is begun
abbrev pub begun_here : Running → Statement → List Binding → List Frame → Store → Step
begun_here r s env fs σ =
    Goes
    (Use (inside_view s.inside) env s.id (use_by join_ages env (kind_view s.kind.now) σ)
    (kind_view s.kind.now)
    ∷ Done (ends_use (is_fresh env) (kind_view s.kind.now)) s.id
    (use_by join_ages env (kind_view s.kind.now) σ)
    ∷ Close (ended_by (regions_of r) s.id)
    ∷ Rest (inside_view s.inside) (grown (kind_view s.kind.now) (stmts_view s.rest.now) env σ)
    (stmts_view s.rest.now) ∷ fs)
    (Went (opened (begun_by (regions_of r) s.id) σ))

-- the statement, whose work came to this, has nothing left to say
pub record IsSilent (regions : List TRegion) (s : Statement) (o : Completion) (σ : Store) : Type 0 where
  pub use_ended : s.found.ends ≡ false
  pub region_ended : ended_by regions s.id ≡ None
  pub told : σ.events ≡ []
  pub went : completion_at o σ ≡ Went σ

-- the ends of a use and of a region say nothing
pub record IsQuiet (is : Bool) (region : Option ℕ) (σ : Store) : Type 0 where
  pub use_ended : is ≡ false
  pub region_ended : region ≡ None
  pub told : σ.events ≡ []
