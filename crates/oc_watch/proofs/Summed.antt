-- From the sum over a region's statements, wherever they stand, to what is listed where the region begins.
use Rattle.std.proofs.Common.{◌≡◌, ◌≤◌, ◌+◌, ℕ, zero, suc, Bool, true, List, [], ◌∷◌, cond, Option, Some, None, ap, arith}
use Rattle.std.specs.Prelude.{slice_get}
use Rattle.std.proofs.lemmas.Option.{none-some, same_Some}
use Rattle.oc_tree.specs.Tree.{TCall, TKind, let_to, let_array, assign, assign_index, assign_deref, if_else, for_in, while_do, call_only, sense_only, emit, fresh, consistent, return, TElse}
use Rattle.oc_tree.specs.Tree.{no_else, else_do, stmt, TBlock, block, TStmts, no_stmts, more, TFunction}
use Rattle.oc_tree.specs.Marked.{TRegion}
use Rattle.oc_tree.specs.Stack.{kind_slots, block_slots}
use Rattle.oc_meaning.specs.Exec.{begun_by, ended_by}
use Rattle.oc_code.specs.Scope.{Named, in_scope, for_named}
use Rattle.oc_code.proofs.Lawful.{Access, fits_at, kind_lawful, else_lawful, block_lawful, stmts_lawful}
use Rattle.oc_tree.specs.Picked.{kind_spent, else_spent, block_spent, stmts_spent, functions_spent}
use Rattle.oc_watch.proofs.Compared.{alone_on, last_or, held_cost, listed_cost}

-- the test picks the statements up to the one that the region ends with
abbrev pub picked : List TRegion → (ℕ → Bool) → TStmts → Type 0
picked regions picks no_stmts = Unit {0}
picked regions picks (more (stmt n line k) rest) = (picks n ≡ true) × alone_on (ended_by regions n) (picked regions picks rest)

pub listed_less : (fs : List TFunction) (regions : List TRegion) (uses : ℕ → Bool) (ws : List ℕ) (picks : ℕ → Bool) (ss : TStmts) → picked regions picks ss
    → listed_cost fs regions uses ws ss ≤ stmts_spent picks (held_cost fs regions uses ws) ss
listed_less fs regions uses ws picks no_stmts p = omega arith
listed_less fs regions uses ws picks (more (stmt n line k) rest) p = go (held_cost fs regions uses ws n k) (kind_spent picks (held_cost fs regions uses ws) k)
    (stmts_spent picks (held_cost fs regions uses ws) rest) (listed_cost fs regions uses ws rest) (ended_by regions n) p.1 (λ q. listed_less fs regions uses ws picks rest q)
  where
    go : (h i r l : ℕ) (e : Option ℕ) → alone_on e (picked regions picks rest) → (picked regions picks rest → l ≤ r) → h + last_or e l ≤ cond (picks n) h 0 + i + r
    go h i r l None q ih = let c : cond (picks n) h 0 ≡ h = ap (λ b. cond b h 0) p.0 in omega (arith, c, ih q)
    go h i r l (Some x) q ih = let c : cond (picks n) h 0 ≡ h = ap (λ b. cond b h 0) p.0 in omega (arith, c)

-- the sum over a whole tree has at least what follows from each place
module _ (regions : List TRegion) (writes : Access) (within : TCall → Type 0) (fits next : ℕ → List Named → ℕ → TStmts → Type 0) (picks : ℕ → ℕ → Bool) (cost : ℕ → TKind → ℕ) (most : ℕ → ℕ)
    (f : (r : ℕ) (γ : List Named) (s : ℕ) (ss : TStmts) → fits r γ s ss → stmts_spent (picks r) cost ss ≤ most r → next r γ s ss) where
  at_sum : (o : Option ℕ) (γ : List Named) (s : ℕ) (ss : TStmts) → ((r : ℕ) → stmts_spent (picks r) cost ss ≤ most r) → fits_at regions writes within fits o γ s ss
      → fits_at regions writes within next o γ s ss
  at_sum None γ s ss h l = tt
  at_sum (Some r) γ s ss h l = f r γ s ss l (h r)

  mutual
    kind_sum : (γ : List Named) (s : ℕ) (k : TKind) → ((r : ℕ) → kind_spent (picks r) cost k ≤ most r) → kind_lawful regions writes within fits γ s k → kind_lawful regions writes within next γ s k
    kind_sum γ s (if_else e a b) h l = (block_sum γ s a (λ r. omega (arith, h r)) l.0, else_sum γ (s + block_slots a) b (λ r. omega (arith, h r)) l.1)
    kind_sum γ s (for_in x a d b) h l = block_sum (for_named x s ∷ γ) (s + 1) b h l
    kind_sum γ s (while_do e n b) h l = block_sum γ (s + 1) b h l
    kind_sum γ s k h l = l

    else_sum : (γ : List Named) (s : ℕ) (b : TElse) → ((r : ℕ) → else_spent (picks r) cost b ≤ most r) → else_lawful regions writes within fits γ s b → else_lawful regions writes within next γ s b
    else_sum γ s no_else h l = l
    else_sum γ s (else_do b) h l = block_sum γ s b h l

    pub block_sum : (γ : List Named) (s : ℕ) (b : TBlock) → ((r : ℕ) → block_spent (picks r) cost b ≤ most r) → block_lawful regions writes within fits γ s b
        → block_lawful regions writes within next γ s b
    block_sum γ s (block id ss) h l = stmts_sum γ s ss h l

    stmts_sum : (γ : List Named) (s : ℕ) (ss : TStmts) → ((r : ℕ) → stmts_spent (picks r) cost ss ≤ most r) → stmts_lawful regions writes within fits γ s ss
        → stmts_lawful regions writes within next γ s ss
    stmts_sum γ s no_stmts h l = l
    stmts_sum γ s (more (stmt n line k) rest) h l = (
      at_sum (begun_by regions n) γ s (more (stmt n line k) rest) h l.0,
      kind_sum γ s k (λ r. omega (arith, h r)) l.1,
      stmts_sum (in_scope k s rest γ) (s + kind_slots k) rest
          (λ r. omega (arith, h r)) l.2,
    )

pub body_in : (picks : ℕ → Bool) (cost : ℕ → TKind → ℕ) (fs : List TFunction) (i : ℕ) (f : TFunction) → slice_get fs i ≡ Some f → block_spent picks cost f.body ≤ functions_spent picks cost fs
body_in picks cost [] i f e = absurd (none-some f e)
body_in picks cost (g ∷ fs) zero f e = let s = ap (λ f. block_spent picks cost f.body) (same_Some g f e) in omega (arith, s)
body_in picks cost (g ∷ fs) (suc i) f e = omega (arith, body_in picks cost fs i f e)
