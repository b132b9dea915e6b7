-- What the code's own values stand for.
use Rattle.std.specs.Prelude.{◌≡◌, ◌<◌, ℕ, List, [], map, length}
use Rattle.std.proofs.Common.{Vec, Global}
use Rattle.std.proofs.Math.ListN.{get_or}
use Rattle.oc_tree.specs.Tree.{TProgram}
use Rattle.oc_tree.specs.declared.tree.VarId.{VarId}
use Rattle.oc_effects.specs.Effects.{effects_at}
use Rattle.oc_flow.specs.Variables.{variables}
use Rattle.oc_needs.specs.declared.local.Source.{Source}
use Rattle.oc_needs.specs.declared.local.Local.{Local}
use Rattle.oc_needs.specs.declared.local.Body.{Body}
use Rattle.oc_needs.specs.declared.need.Level.{Level}
use Rattle.oc_needs.specs.declared.asked.Asked.{Asked}
use Rattle.oc_needs.specs.Policies.{annotated, held}
use Rattle.oc_needs.specs.Code.{TSource, TLocal, TLevel, local_at, looped_sites, sources}

abbrev pub source_view : Source → TSource
source_view s = record { stmt = s.stmt; loops = s.loops.items; brought = s.brought.items }

abbrev pub local_view : Local → TLocal
local_view l = record {
  variables = l.variables.items;
  sources = map source_view l.sources.items;
  has_looped = l.has_looped;
  callees = l.callees.items;
}

abbrev pub sites_view : List (Vec ℕ Global) → List (List ℕ)
sites_view lists = map (λ v. v.items) lists

-- the sites of inputs in loops, as far as they are known, by the places of variables and of functions
abbrev pub IsLooped : TProgram → ℕ → List (List ℕ) → Type 0
IsLooped p f rows =
    (i : ℕ) (x : VarId) → i < length rows → get_or rows i []
    ≡ looped_sites p f (sources p f (effects_at p f)) (get_or (variables p f) i x)

abbrev pub tables_view : List (Vec (Vec ℕ Global) Global) → List (List (List ℕ))
tables_view tables = map (λ v. sites_view v.items) tables

-- the function of a body, and what is known of it
pub record IsBody (b : Body) : Type 0 where
  pub here : b.function < length b.summaries.now.program.functions
  pub variables : b.local.now.variables.items
      ≡ (local_at b.summaries.now.program b.function).variables
  pub sources : map source_view b.local.now.sources.items
      ≡ (local_at b.summaries.now.program b.function).sources
  pub has_looped : b.local.now.has_looped ≡ (local_at b.summaries.now.program b.function).has_looped
  pub callees : b.local.now.callees.items ≡ (local_at b.summaries.now.program b.function).callees
  pub looped : IsLooped b.summaries.now.program b.function (sites_view b.looped.now)

-- a policy with what it speaks of
pub record IsAsked (p : TProgram) (a : Asked) : Type 0 where
  pub annotated : a.annotated.items ≡ annotated p a.policy
  pub held : a.held.items ≡ held p a.policy

abbrev pub rows_view : List (Vec VarId Global) → List (List VarId)
rows_view rows = map (λ v. v.items) rows

abbrev pub level_view : Level → TLevel
level_view l = record { rows = rows_view l.rows.items; changed = l.changed.items }
