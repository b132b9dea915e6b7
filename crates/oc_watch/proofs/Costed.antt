-- The bounds of a program's code, from its tree and its costs alone.
use Rattle.std.proofs.Common.{◌≡◌, ◌≤◌, ◌+◌, ◌-◌, ◌*◌, ℕ, Bool, true, List, length, Some, arith}
use Rattle.std.specs.Prelude.{codes, slice_get}
use Rattle.oc_tree.specs.Names.{Text}
use Rattle.oc_tree.specs.Tree.{TStmts, TFunction, TProgram}
use Rattle.oc_tree.specs.Calls.{function_place}
use Rattle.oc_tree.specs.Weight.{known_of}
use Rattle.oc_tree.specs.declared.said.Target.{Target}
use Rattle.oc_tree.specs.Marked.{TRegion}
use Rattle.oc_tree.specs.Stack.{link_words}
use Rattle.oc_isa.specs.Table.{device_of}
use Rattle.oc_code.specs.Scope.{InNv, Named, named, function_scope}
use Rattle.oc_code.specs.Formed.{IsFormed}
use Rattle.oc_code.proofs.Places.{base, nv_width}
use Rattle.oc_code.proofs.Lawful.{all_access, block_lawful, region_lawful}
use Rattle.oc_code.proofs.Closed.{call_within}
use Rattle.oc_code.proofs.Spent.{cost_to}
use Rattle.oc_bounds.specs.Bounds.{Bounds, IsBounded}
use Rattle.oc_bounds.proofs.Tolls.{toll}
use Rattle.oc_watch.specs.Entries.{run_toll}
use Rattle.oc_tree.specs.Costs.{costs_to}
use Rattle.oc_watch.proofs.Words.{all_words, covers}
use Rattle.oc_watch.proofs.Compared.{block_counted, stmts_counted, begins, region_alone, held_cost, region_less, cost_less}
use Rattle.oc_tree.specs.Picked.{stmts_spent, functions_spent}
use Rattle.oc_watch.proofs.Summed.{picked, listed_less, block_sum, body_in}
use Rattle.oc_watch.proofs.Deeper.{cost_deeper}
use Rattle.oc_watch.proofs.Bounded.{image, Tables, Fits, bounded}

module _ (p : TProgram) (regions : List TRegion) (targets : List (List Target)) (b : Bounds) (formed : IsFormed p regions targets) (t : Tables p regions targets b) (uses : ℕ → Bool)
    (counted : (i : ℕ) (f : TFunction) → slice_get p.functions i ≡ Some f → block_counted uses (function_scope p f) (length f.params + link_words f) f.body) where
  abbrev pub ws : List ℕ
  ws = costs_to p.functions uses regions (length p.functions)

  -- what functions take at any depth is at most what they cost
  less : (d : ℕ) → d ≤ length p.functions → (f : Text) → cost_to p regions d f ≤ known_of ws (function_place p.functions f)
  less d le f = omega (arith, cost_deeper p regions d (length p.functions) f le, cost_less p regions formed.rank uses formed.bodies counted (length p.functions) f)

  -- What is asked where region r begins, of the tree: what it writes, its targets, and that the test of r picks its
  -- statements.
  pub record Budgeted (picks : ℕ → ℕ → Bool) (r : ℕ) (γ : List Named) (s : ℕ) (ss : TStmts) : Type 0 where
    pub lawful : region_lawful regions (t.names r) (call_within p.functions t.writes (t.names r)) γ s ss
    pub covered : (x : Text) → (t.names r).names x ≡ true → covers (t.held r) (named γ x).words (named γ x).slot
    pub stored : (i : ℕ) → (t.names r).nvs i ≡ true → covers (t.held r) (nv_width p.nv i) (InNv (base p.nv i))
    pub few : all_words (t.held r) ≤ b.logged r
    pub begun : begins regions r ss
    pub single : region_alone regions ss
    pub named_uses : stmts_counted uses γ s ss
    pub taken : picked regions (picks r) ss
    pub some : 1 ≤ b.spent r
    pub safe : 2 * (device_of (image p regions targets b)).room + 9 + (b.spent r + b.logged r) ≤ b.safe

  pub fits_of : (picks : ℕ → ℕ → Bool) (x : Text) (r : ℕ) (γ : List Named) (s : ℕ) (ss : TStmts) → Budgeted picks r γ s ss
      → stmts_spent (picks r) (held_cost p.functions regions uses ws) ss ≤ b.spent r - 1 → Fits p regions targets b t formed.rank x r γ s ss
  fits_of picks x r γ s ss q sum = record {
    lawful = q.lawful;
    covered = q.covered;
    stored = q.stored;
    few = q.few;
    spent = λ d lt g fm. omega (
      arith,
      q.some,
      sum,
      listed_less p.functions regions uses ws (picks r) ss q.taken,
      region_less p.names p.functions regions formed.rank (formed.rank x) uses ws
          (cost_to p regions d) (less d (omega (arith, lt))) r ss g γ s fm q.named_uses q.begun q.single,
    );
    safe = q.safe;
  }

  -- `budgeted` says of each function that its regions are, where they begin; `sums` that a region's budget has the costs of
  -- the statements that its test picks in the whole program
  pub tree_bounded : (picks : ℕ → ℕ → Bool) (budgeted : (i : ℕ) (f : TFunction) → slice_get p.functions i ≡ Some f → block_lawful regions all_access (λ c. Unit {0}) (Budgeted picks)
      (function_scope p f) (length f.params + link_words f) f.body) (sums : (r : ℕ) → functions_spent (picks r) (held_cost p.functions regions uses ws) p.functions ≤ b.spent r - 1) →
      known_of ws (function_place p.functions (codes "main")) ≤ b.total → b.total + run_toll p regions (toll (device_of (image p regions targets b)) b) ≤ b.steps
      → (device_of (image p regions targets b)).room + 6 ≤ b.safe → IsBounded (device_of (image p regions targets b)) b
  tree_bounded picks budgeted sums most steps safe =
      bounded p regions targets b formed t
      (λ i f at. block_sum regions all_access (λ c. Unit {0}) (Budgeted picks) (Fits p regions targets b t formed.rank f.name) picks (held_cost p.functions regions uses ws)
      (λ r. b.spent r - 1) (fits_of picks f.name) (function_scope p f) (length f.params + link_words f) f.body
      (λ r. omega (arith, sums r, body_in (picks r) (held_cost p.functions regions uses ws) p.functions i f at)) (budgeted i f at))
      (omega (arith, most, less (length p.functions) (omega arith) (codes "main"))) steps safe
