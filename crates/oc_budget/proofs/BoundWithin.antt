-- From what holds of each statement, by its place, to what the code's claims ask of the tree.
use Rattle.std.proofs.Common.{◌≡◌, ℕ, ◌+◌, ◌-◌, Bool, true, List, [], ◌∷◌, Option, Some, None, refl}
use Rattle.std.specs.List.{list_any}
use Rattle.std.proofs.lemmas.Bool.{or_left, or_right}
use Rattle.oc_tree.specs.Tree.{TCall, TKind, let_to, let_array, assign, assign_index, assign_deref, if_else, for_in, while_do, call_only, sense_only, emit, fresh, consistent, return}
use Rattle.oc_tree.specs.Tree.{TElse, no_else, else_do, stmt, TBlock, block, TStmts, no_stmts, more}
use Rattle.oc_tree.specs.declared.tree.VarId.TheVariants as variables
use Rattle.oc_tree.specs.Marked.{TRegion}
use Rattle.oc_tree.specs.Places.{Place as Spot, Placed, behind, in_branch, in_loop, kind_placed, else_placed, block_placed, stmts_placed}
use Rattle.oc_tree.specs.Stack.{kind_slots, block_slots}
use Rattle.oc_meaning.specs.Exec.{begun_by, ended_by}
use Rattle.oc_code.specs.Formed.{marks}
use Rattle.oc_code.specs.Scope.{Named, in_scope, for_named}
use Rattle.oc_code.proofs.Lawful.{Access, right_lawful, fits_at, kind_lawful, else_lawful, block_lawful, stmts_lawful, while_open, open_lawful, region_lawful}
use Rattle.oc_writes.proofs.Standing.{Each, each_front, each_back}
use Rattle.oc_watch.proofs.Compared.{alone_on, alone, region_alone}
use Rattle.oc_watch.proofs.Summed.{picked}

-- what is asked of a statement itself
abbrev pub KindMay : Access → (TCall → Type 0) → TKind → Type 0
KindMay a within (let_to m x t r) = right_lawful within r
KindMay a within (assign x r) = right_lawful within r × (a.names x ≡ true)
KindMay a within (assign_index x e r) = right_lawful within r × (a.names x ≡ true)
KindMay a within (assign_deref x r) = right_lawful within r × (a.names x ≡ true)
KindMay a within (call_only c) = within c
KindMay a within k = Unit {0}

-- `test` tells the statements of which it is known, with those inside them
module _ (regions : List TRegion) (a : Access) (within : TCall → Type 0) (test : ℕ → Bool) where
  abbrev pub Inner : Placed → Type 0
  Inner s = list_any test (s.id ∷ s.at.around) ≡ true → KindMay a within s.kind

  abbrev None_asked : ℕ → List Named → ℕ → TStmts → Type 0
  None_asked r γ s ss = Unit {0}

  none_asked : (o : Option ℕ) (γ : List Named) (s : ℕ) (ss : TStmts) → fits_at regions a within None_asked o γ s ss
  none_asked None γ s ss = tt
  none_asked (Some r) γ s ss = tt

  abbrev Known : Spot → Type 0
  Known at = (m : ℕ) → list_any test (m ∷ at.around) ≡ true

  mutual
    kind_may : (γ : List Named) (s : ℕ) (at : Spot) (n : ℕ) (k : TKind) → KindMay a within k → list_any test (n ∷ at.around) ≡ true → Each Inner (kind_placed at n k)
        → kind_lawful regions a within None_asked γ s k
    kind_may γ s at n (let_to m x t r) own is h = own
    kind_may γ s at n (let_array m x t z l) own is h = tt
    kind_may γ s at n (assign x r) own is h = own
    kind_may γ s at n (assign_index x e r) own is h = own
    kind_may γ s at n (assign_deref x r) own is h = own
    kind_may γ s at n (if_else e b c) own is h = (
      block_may γ s (in_branch at n) b (λ m. or_right (test m) _ is) (each_front Inner (block_placed (in_branch at n) b) (else_placed (in_branch at n) c) h),
      else_may γ
          (s + block_slots b) (in_branch at n) c (λ m. or_right (test m) _ is) (each_back Inner (block_placed (in_branch at n) b) (else_placed (in_branch at n) c) h),
    )
    kind_may γ s at n (for_in x d e b) own is h = block_may (for_named x s ∷ γ) (s + 1) (in_loop at n ((x, variables.Declared n) ∷ [])) b (λ m. or_right (test m) _ is) h
    kind_may γ s at n (while_do e l b) own is h = block_may γ (s + 1) (in_loop at n []) b (λ m. or_right (test m) _ is) h
    kind_may γ s at n (call_only c) own is h = own
    kind_may γ s at n (sense_only x) own is h = tt
    kind_may γ s at n (emit q e) own is h = tt
    kind_may γ s at n (fresh x) own is h = tt
    kind_may γ s at n (consistent x l) own is h = tt
    kind_may γ s at n (return e) own is h = tt

    else_may : (γ : List Named) (s : ℕ) (at : Spot) (b : TElse) → Known at → Each Inner (else_placed at b) → else_lawful regions a within None_asked γ s b
    else_may γ s at no_else is h = tt
    else_may γ s at (else_do b) is h = block_may γ s at b is h

    pub block_may : (γ : List Named) (s : ℕ) (at : Spot) (b : TBlock) → Known at → Each Inner (block_placed at b) → block_lawful regions a within None_asked γ s b
    block_may γ s at (block id ss) is h = stmts_may γ s (record at { block = id }) ss is h

    stmts_may : (γ : List Named) (s : ℕ) (at : Spot) (ss : TStmts) → Known at → Each Inner (stmts_placed at ss) → stmts_lawful regions a within None_asked γ s ss
    stmts_may γ s at no_stmts is h = tt
    stmts_may γ s at (more (stmt n line k) rest) is h = (
      none_asked (begun_by regions n) γ s (more (stmt n line k) rest),
      kind_may γ s at n k (h.0 (is n)) (is n) (each_front Inner (kind_placed at n k) (stmts_placed (behind at n k) rest) h.1),
      stmts_may (in_scope k s rest γ) (s + kind_slots k) (behind at n k) rest is (each_back Inner (kind_placed at n k) (stmts_placed (behind at n k) rest) h.1),
    )

  -- ---- the statements of a region

  open_go : (γ : List Named) (s : ℕ) (rest : TStmts) (b e : Option ℕ) → b ≡ None → (e ≡ None → open_lawful regions a within 1 γ s rest)
      → while_open (1 + marks b - marks e) (open_lawful regions a within (1 + marks b - marks e) γ s rest)
  open_go γ s rest None None is on = on refl
  open_go γ s rest None (Some x) is on = tt
  open_go γ s rest (Some y) e is on = absurd (let some : Some y ≡ None = is in cc)

  first_go : (γ : List Named) (s : ℕ) (rest : TStmts) (e : Option ℕ) → (e ≡ None → open_lawful regions a within 1 γ s rest)
      → while_open (1 - marks e) (open_lawful regions a within (1 - marks e) γ s rest)
  first_go γ s rest None on = on refl
  first_go γ s rest (Some x) on = tt

  on_none : (e : Option ℕ) (A : Type 0) → alone_on e A → e ≡ None → A
  on_none None A h is = h
  on_none (Some x) A h is = absurd (let some : Some x ≡ None = is in cc)

  open_may : (γ : List Named) (s : ℕ) (at : Spot) (ss : TStmts) → picked regions test ss → alone regions ss → Each Inner (stmts_placed at ss) → open_lawful regions a within 1 γ s ss
  open_may γ s at no_stmts t single h = tt
  open_may γ s at (more (stmt n line k) rest) t single h =
      let is = or_left (test n) (list_any test at.around) t.0 in (
        kind_may γ s at n k (h.0 is) is (each_front Inner (kind_placed at n k) (stmts_placed (behind at n k) rest) h.1),
        open_go (in_scope k s rest γ) (s + kind_slots k) rest (begun_by regions n) (ended_by regions n) single.0
            (λ none. open_may (in_scope k s rest γ) (s + kind_slots k) (behind at n k) rest (on_none (ended_by regions n) (picked regions test rest) t.1 none)
            (on_none (ended_by regions n) (alone regions rest) single.1 none) (each_back Inner (kind_placed at n k) (stmts_placed (behind at n k) rest) h.1)),
      )

  pub region_may : (γ : List Named) (s : ℕ) (at : Spot) (ss : TStmts) → picked regions test ss → region_alone regions ss → Each Inner (stmts_placed at ss) → region_lawful regions a within γ s ss
  region_may γ s at no_stmts t single h = tt
  region_may γ s at (more (stmt n line k) rest) t single h =
      let is = or_left (test n) (list_any test at.around) t.0 in (
        kind_may γ s at n k (h.0 is) is (each_front Inner (kind_placed at n k) (stmts_placed (behind at n k) rest) h.1),
        first_go (in_scope k s rest γ) (s + kind_slots k) rest (ended_by regions n)
            (λ none. open_may (in_scope k s rest γ) (s + kind_slots k) (behind at n k) rest (on_none (ended_by regions n) (picked regions test rest) t.1 none)
            (on_none (ended_by regions n) (alone regions rest) single none) (each_back Inner (kind_placed at n k) (stmts_placed (behind at n k) rest) h.1)),
      )
