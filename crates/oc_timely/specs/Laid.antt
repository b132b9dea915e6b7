-- What the statics take from the rules: numbers in source order, each block in one range of them, and regions apart.
use Rattle.std.specs.Prelude.{◌≡◌, ◌<◌, ◌≤◌, ℕ, suc, Bool, true, false, List, Some}
use Rattle.oc_tree.specs.Tree.{TKind, if_else, for_in, while_do, TElse, no_else, else_do, stmt, TBlock, block, TStmts, no_stmts, more, TProgram}
use Rattle.oc_tree.specs.declared.tree.VarId.{VarId}
use Rattle.oc_tree.specs.Places.{Placed, placed, block_of}
use Rattle.oc_tree.specs.Marked.{TRegion, TMarked, around, is_in_region}
use Rattle.oc_effects.specs.Effects.{TCalled, TEffect, effect_of, effects_at}
use Rattle.oc_tree.specs.Members.{IsOf}
use Rattle.oc_flow.specs.Relations.{Flow, Brings}
use Rattle.oc_needs.specs.Sites.{is_loop_at, is_outside, site, is_input}
use Rattle.oc_timely.specs.Covering.{IsCoveredAt}
use Rattle.oc_timely.specs.Enough.{Target, Met}

module _ (p : TProgram) where
  -- the statements of a block of which one has a number from `n` on and below `k` all have
  abbrev pub IsClosed : ℕ → ℕ → Type 0
  IsClosed n k =
      (s t b : ℕ) → n ≤ s
      → s < k → block_of p s ≡ Some b → block_of p t ≡ Some b → (n ≤ t) × (t < k)

  -- statements are numbered in source order from `n` on and below `k`
  abbrev mutual
    pub LaidKind : (n : ℕ) → TKind → (k : ℕ) → Type 0
    LaidKind n (if_else c a b) k = (mid : ℕ) × LaidBlock n a mid × LaidElse mid b k
    LaidKind n (for_in x c d b) k = LaidBlock n b k
    LaidKind n (while_do c t b) k = LaidBlock n b k
    LaidKind n s k = n ≡ k

    pub LaidElse : (n : ℕ) → TElse → (k : ℕ) → Type 0
    LaidElse n no_else k = n ≡ k
    LaidElse n (else_do b) k = LaidBlock n b k

    pub LaidBlock : (n : ℕ) → TBlock → (k : ℕ) → Type 0
    LaidBlock n (block id ss) k = IsClosed n k × LaidStmts n ss k

    pub LaidStmts : (n : ℕ) → TStmts → (k : ℕ) → Type 0
    LaidStmts n no_stmts k = n ≡ k
    LaidStmts n (more (stmt id line s) rest) k =
        (id ≡ n) × (mid : ℕ) × LaidKind (suc id) s mid × LaidStmts mid rest k

-- What is known of a function's statements, with marks that cover what is required.
pub record Static (m : TMarked) (guarded : ℕ → Bool) (f : ℕ) (body : List Placed) : Type 0 where
  pub found : (b : Placed) → IsOf b body → placed m.program b.id ≡ Some b
  pub effect : (b : Placed) → IsOf b body → IsOf (effect_of m.program b) (effects_at m.program f)
  pub below : (s t : ℕ) → IsOf t (around (placed m.program s)) → t < s
  pub one_region : (r q : TRegion) (s : ℕ) → IsOf r m.regions → IsOf q m.regions
      → is_in_region m.program r s ≡ true → is_in_region m.program q s ≡ true → r ≡ q
  pub region : (r : TRegion) → IsOf r m.regions → (r.first ≤ r.last)
      × (block_of m.program r.first ≡ Some r.block) × (block_of m.program r.last ≡ Some r.block)
  pub input : (a : TEffect) (u x : VarId) → IsOf a (effects_at m.program f)
      → Brings m.program f a u → Flow m.program f u x → is_input m.program f a u x ≡ true
  pub site_low : (a : TEffect) (u x : VarId)
      → IsOf a (effects_at m.program f) → site m.program f a u x ≤ a.stmt
  pub site_lifted : (a : TEffect) (u w x : VarId) (loop : ℕ)
      → IsOf a (effects_at m.program f) → IsOf loop a.around
      → is_loop_at m.program f loop ≡ true → Flow m.program f u w → Flow m.program f w x
      → is_outside m.program f loop w ≡ true → site m.program f a u x ≤ loop
  pub met : guarded f ≡ false → (b : Placed) (x : VarId) → IsOf b body
      → Target m.program f (effect_of m.program b) x → Met m f (effect_of m.program b) x
  pub calls : guarded f ≡ false → (b : Placed) (c : TCalled) → IsOf b body
      → (effect_of m.program b).call ≡ Some c → guarded c.function ≡ true → IsCoveredAt m f b.id
