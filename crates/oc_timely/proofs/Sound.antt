-- All runs of functions add fine events, where the laws beside this one hold.
use Rattle.std.proofs.Common.{◌≡◌, ◌⊎◌, inl, inr, ℕ, zero, suc, ◌<◌, ◌≤◌, Bool, true, false, List, length, Some, refl, arith}
use Rattle.std.specs.Prelude.{slice_get}
use Rattle.oc_tree.specs.Tree.{call, TFunction}
use Rattle.oc_tree.specs.Checked.{Group, IsChecked}
use Rattle.oc_tree.specs.Places.{at_start, block_placed}
use Rattle.oc_tree.specs.Marked.{TRegion, TMarked}
use Rattle.oc_tree.specs.declared.tree.VarId.TheVariants as variables
use Rattle.oc_meaning.specs.Blocks.{set_home}
use Rattle.oc_meaning.specs.Store.{Store}
use Rattle.oc_meaning.specs.Exec.{Passed, Passing, Passes, Breaks, with_args, args_of}
use Rattle.oc_meaning.specs.Run.{call_to}
use Rattle.oc_tree.specs.Members.{IsOf}
use Rattle.oc_needs.specs.Sites.{is_outside}
use Rattle.oc_copies.specs.Copies.{CallsCopy, HasStored, own_frame, own_run}
use Rattle.oc_copies.specs.Stands.{AreFormed}
use Rattle.oc_timely.specs.Within.{start_where}
use Rattle.oc_timely.specs.Enough.{OkBlock}
use Rattle.oc_timely.specs.Modes.{AllFine, FineOut, Sees, CallFine, Flows}
use Rattle.oc_timely.specs.Laid.{LaidBlock, Static}
use Rattle.oc_timely.proofs.Bodies.{AnyTarget, TargetsNeed, body_ok, body_fine}
use Rattle.oc_timely.proofs.Calls.{FindsOwn, RunsFine, CalleeAt, CallsMayPass, call_fine}
use Rattle.oc_timely.proofs.Pairs.{paired_block}

-- What the other laws give of a function: its statements, its numbers from `first` on, what is needed, the flow at each
-- statement, and what the rules leave of its calls.
pub record Knows (m : TMarked) (guarded : ℕ → Bool) (f : ℕ) (g : TFunction) : Type 0 where
  pub static : Static m guarded f (block_placed (at_start g) g.body)
  pub first : ℕ
  pub end : ℕ
  pub laid : LaidBlock m.program first g.body end
  pub regions : (r : TRegion) → IsOf r m.regions → r.function ≡ f → first ≤ r.first
  pub needs : TargetsNeed m.program f
  pub inner : (loop s : ℕ) → is_outside m.program f loop (variables.Declared s) ≡ false → loop < s
  pub flows : (depth base : ℕ) → Flows m.program m.regions (call_to m.program m.regions depth) (set_home g.body) f base (block_placed (at_start g) g.body)
  pub may : (base : ℕ) → CallsMayPass m.program f base (block_placed (at_start g) g.body)
  pub sees : (ps : List Passed) (σ : Store) → HasStored m.program σ → AreFormed g.params ps →
      Sees m.program f (length σ.locals) first (at_start g) (own_frame m.program g ps σ).env (start_where m.program f (length σ.locals)) (record σ { locals = (own_frame m.program g ps σ).locals })

module _ (m : TMarked) (groups : List Group) (checked : IsChecked m.program groups) (guarded : ℕ → Bool) (copies : CallsCopy) (callees : CalleeAt m.program)
    (knows : (f : ℕ) (g : TFunction) → slice_get m.program.functions f ≡ Some g → Knows m guarded f g) where
  -- no call is made at depth 0
  none_fine : (f : ℕ) (g : TFunction) (base : ℕ) → CallFine m guarded (call_to m.program m.regions 0) (set_home g.body) f base (block_placed (at_start g) g.body)
  none_fine f g base b one (call x args) is env w σ sees taken stored deep held all = by (args_of env σ args)
    where
      by : (r : Passing) → FineOut (with_args r b.id σ (λ ps. call_to m.program m.regions 0 x ps σ))
      by (Breaks k) = (tt, all)
      by (Passes ps) = all

  run_fine : (depth f : ℕ) (g : TFunction) → (k : Knows m guarded f g) →
      ((base : ℕ) → CallFine m guarded (call_to m.program m.regions depth) (set_home g.body) f base (block_placed (at_start g) g.body)) → slice_get m.program.functions f ≡ Some g →
      (ps : List Passed) (σ : Store) → HasStored m.program σ → AreFormed g.params ps → FindsOwn m guarded f g ps σ → AllFine σ.events → FineOut (own_run m.program m.regions depth g ps σ)
  run_fine depth f g k calls at ps σ stored many finds all =
      body_fine m guarded (call_to m.program m.regions depth) (set_home g.body) f (length σ.locals) g (calls (length σ.locals)) (k.flows depth (length σ.locals)) k.inner k.static.effect k.needs
      k.first (own_frame m.program g ps σ).env (record σ { locals = (own_frame m.program g ps σ).locals })
      (paired_block m guarded f (block_placed (at_start g) g.body) k.static k.first (at_start g) k.first g.body k.end (omega arith) k.laid (λ z i. i))
      (by (guarded f) refl)
      (record { sees = k.sees ps σ stored many; taken = finds.taken; stored = stored; deep = finds.deep; guard = finds.guard; all = all })
    where
      by : (b : Bool) → guarded f ≡ b → (guarded f ≡ true) ⊎ OkBlock m guarded f (AnyTarget m f) (at_start g) g.body
      by true e = inl e
      by false e = inr (body_ok m guarded f g k.static e k.first k.end k.laid k.regions)

  pub runs_fine : (depth : ℕ) → RunsFine m guarded depth
  runs_fine zero f g i ps σ stored many finds all = run_fine 0 f g (knows f g i) (λ base. none_fine f g base) i ps σ stored many finds all
  runs_fine (suc d) f g i ps σ stored many finds all =
      run_fine (suc d) f g (knows f g i) (λ base. call_fine m groups checked guarded copies callees (set_home g.body) f base (block_placed (at_start g) g.body)
      ((knows f g i).may base) d (runs_fine d)) i ps σ stored many finds all
