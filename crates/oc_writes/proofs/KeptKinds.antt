-- The statements that calls and writes are told of, with their places.
use Rattle.std.proofs.Common.{◌≡◌, ℕ, Bool, false, [], ◌∷◌, Option, None, cond, refl, subst}
use Rattle.oc_tree.specs.Names.{Text}
use Rattle.oc_tree.specs.Tree.{TKind, let_to, let_array, if_else, for_in, while_do, TElse, no_else, else_do, stmt, TBlock, block, TStmts, no_stmts, more}
use Rattle.oc_tree.specs.declared.tree.VarId.TheVariants as variables
use Rattle.oc_tree.specs.Calls.{hides, kind_hides, kind_kinds, else_kinds, block_kinds, stmts_kinds}
use Rattle.oc_tree.specs.Places.{Place as Spot, Placed, behind, in_branch, in_loop, kind_placed, else_placed, block_placed, stmts_placed}
use Rattle.oc_writes.proofs.Standing.{Each, each_front, each_back, each_join}
use Rattle.oc_copies.proofs.LeadToNone.{EachKind, kinds_front, kinds_back}

-- a statement declares a variable that hides the one that is asked for
abbrev pub hidden : Option Text → TKind → Bool
hidden of (let_to m y t r) = hides of y
hidden of (let_array m y t z n) = hides of y
hidden of (for_in y m n b) = hides of y
hidden of k = false

-- without a name nothing is hidden
pub none_hidden : (k : TKind) → hidden None k ≡ false
none_hidden (let_to m y t r) = refl
none_hidden (let_array m y t z n) = refl
none_hidden (for_in y m n b) = refl
none_hidden k = refl

hides_less : (of : Option Text) (k : TKind) → hidden of k ≡ false → kind_hides of k ≡ false
hides_less of (let_to m y t r) h = h
hides_less of (let_array m y t z n) h = h
hides_less of k h = refl

module _ (of : Option Text) (K : TKind → Type 0) where
  abbrev pub Shown : Placed → Type 0
  Shown a = hidden of a.kind ≡ false

  abbrev pub Holds : Placed → Type 0
  Holds a = K a.kind

  mutual
    kind_each : (at : Spot) (id : ℕ) (k : TKind) → EachKind K (kind_kinds of k) → hidden of k ≡ false → Each Shown (kind_placed at id k) → K k × Each Holds (kind_placed at id k)
    kind_each at id (if_else c a b) h own shown =
        let first = block_each (in_branch at id) a (kinds_front K (block_kinds of a) (else_kinds of b) h.1)
        (each_front Shown (block_placed (in_branch at id) a) (else_placed (in_branch at id) b) shown) in
        let second = else_each (in_branch at id) b (kinds_back K (block_kinds of a) (else_kinds of b) h.1)
        (each_back Shown (block_placed (in_branch at id) a) (else_placed (in_branch at id) b) shown) in
        (h.0, each_join Holds (block_placed (in_branch at id) a) (else_placed (in_branch at id) b) first second)
    kind_each at id (for_in y m n b) h own shown =
        (h.0, block_each (in_loop at id ((y, variables.Declared id) ∷ [])) b (subst (λ t. EachKind K (cond t [] (block_kinds of b))) own h.1) shown)
    kind_each at id (while_do c n b) h own shown = (h.0, block_each (in_loop at id []) b h.1 shown)
    kind_each at id k h own shown = (h.0, tt)

    else_each : (at : Spot) (b : TElse) → EachKind K (else_kinds of b) → Each Shown (else_placed at b) → Each Holds (else_placed at b)
    else_each at no_else h shown = tt
    else_each at (else_do b) h shown = block_each at b h shown

    pub block_each : (at : Spot) (b : TBlock) → EachKind K (block_kinds of b) → Each Shown (block_placed at b) → Each Holds (block_placed at b)
    block_each at (block id ss) h shown = stmts_each (record at { block = id }) ss h shown

    stmts_each : (at : Spot) (ss : TStmts) → EachKind K (stmts_kinds of ss) → Each Shown (stmts_placed at ss) → Each Holds (stmts_placed at ss)
    stmts_each at no_stmts h shown = tt
    stmts_each at (more (stmt id line k) ss) h shown =
        let own = kind_each at id k (kinds_front K (kind_kinds of k) (cond (kind_hides of k) [] (stmts_kinds of ss)) h) shown.0
        (each_front Shown (kind_placed at id k) (stmts_placed (behind at id k) ss) shown.1) in
        let left : EachKind K (stmts_kinds of ss) =
        subst (λ t. EachKind K (cond t [] (stmts_kinds of ss))) (hides_less of k shown.0) (kinds_back K (kind_kinds of k) (cond (kind_hides of k) [] (stmts_kinds of ss)) h) in
        let rest = stmts_each (behind at id k) ss left (each_back Shown (kind_placed at id k) (stmts_placed (behind at id k) ss) shown.1) in
        (own.0, each_join Holds (kind_placed at id k) (stmts_placed (behind at id k) ss) own.1 rest)
