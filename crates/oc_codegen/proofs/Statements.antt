-- A statement more of a block.
use Rattle.std.proofs.Common.{◌≡◌, ℕ, suc, ◌+◌, ◌-◌, ◌≤◌, List, ◌∷◌, ◌++◌, length, drop, sym, ap, ◌∙◌, arith, append_assoc, length-append}
use Rattle.oc_tree.specs.Names.{NameLists}
use Rattle.oc_tree.specs.Tree.{TKind, TBlock, TStmt, TStmts, stmt, more, TFunction, let_to, let_array}
use Rattle.oc_tree.specs.View.{kind_view, stmt_view, stmts_view, kind_step, block_step, stmt_step}
use Rattle.oc_tree.specs.Marked.{TRegion}
use Rattle.oc_tree.specs.declared.tree.Stmt.{Stmt, fold_out-Stmt}
use Rattle.oc_isa.specs.declared.instr.Placed.{Placed}
use Rattle.oc_code.specs.Scope.{Named, in_scope}
use Rattle.oc_tree.specs.Stack.{kind_slots, stmts_slots}
use Rattle.oc_code.specs.Code.{first_code, whole_code, kind_code, stmts_code}

pub stmt_is : (x : Stmt) → stmt_view x ≡ stmt x.id x.line (kind_view x.kind)
stmt_is x = fold_out-Stmt TKind TBlock TStmt kind_step block_step stmt_step x

-- the statements that are left begin with this one
pub left_are : (x : Stmt) (i : ℕ) (xs : List Stmt) → drop i xs ≡ x ∷ drop (i + 1) xs → stmts_view (drop i xs) ≡ more (stmt x.id x.line (kind_view x.kind)) (stmts_view (drop (i + 1) xs))
left_are x i xs e = ap stmts_view e ∙ ap (λ s. more s (stmts_view (drop (i + 1) xs))) (stmt_is x)

module _ (names : NameLists) (fs : List TFunction) (regions : List TRegion) (k : ℕ) where
  -- a statement with its marks and probes
  abbrev pub one_stmt : List Named → ℕ → ℕ → ℕ → TKind → List Placed
  one_stmt γ n s p kind = whole_code names fs regions k γ n kind (kind_code names fs regions k γ n s (p + length (first_code names fs regions k γ n kind)) kind)

  pub code_step : (γ γ2 : List Named) (s s2 : ℕ) (code code2 all : List Placed) (x : Stmt) (i : ℕ) (xs : List Stmt)
      → drop i xs ≡ x ∷ drop (i + 1) xs
      → code ++ stmts_code names fs regions k γ s (length code) (stmts_view (drop i xs)) ≡ all
      → code2 ≡ code ++ one_stmt γ x.id s (length code) (kind_view x.kind)
      → γ2 ≡ in_scope (kind_view x.kind) s (stmts_view (drop (i + 1) xs)) γ
      → s2 ≡ s + kind_slots (kind_view x.kind)
      → code2 ++ stmts_code names fs regions k γ2 s2 (length code2) (stmts_view (drop (i + 1) xs)) ≡ all
  code_step γ γ2 s s2 code code2 all x i xs e inv ec eγ es =
      let f = stmts_code names fs regions k in
      let kind = kind_view x.kind in
      let rest = stmts_view (drop (i + 1) xs) in
      let w = one_stmt γ x.id s (length code) kind in
      let l : length code2 ≡ length code + length w = ap length ec ∙ length-append code w in
      ap (λ m. code2 ++ f γ2 s2 m rest) l
      ∙ ap (λ c. c ++ f γ2 s2 (length code + length w) rest) ec
      ∙ ap (λ g. (code ++ w) ++ f g s2 (length code + length w) rest) eγ
      ∙ ap (λ m. (code ++ w) ++ f (in_scope kind s rest γ) m (length code + length w) rest) es
      ∙ append_assoc code w (f (in_scope kind s rest γ) (s + kind_slots kind) (length code + length w) rest)
      ∙ ap (λ r. code ++ f γ s (length code) r) (sym (left_are x i xs e))
      ∙ inv

pub slots_step : (x : Stmt) (i : ℕ) (xs : List Stmt) → drop i xs ≡ x ∷ drop (i + 1) xs → stmts_slots (stmts_view (drop i xs))
    ≡ kind_slots (kind_view x.kind) + stmts_slots (stmts_view (drop (i + 1) xs))
slots_step x i xs e = ap stmts_slots (left_are x i xs e)

-- a statement leaves the variables that were visible before it
pub scope_step : (kind : TKind) (s n : ℕ) (rest : TStmts) (γ γ2 old : List Named) → γ2 ≡ in_scope kind s rest γ → n ≤ length γ → drop (length γ - n) γ ≡ old
    → (n ≤ length γ2) × (drop (length γ2 - n) γ2 ≡ old)
scope_step (let_to m x t r) s n rest γ γ2 old e h d =
    let z : length γ2 - n ≡ suc (length γ - n) = omega (arith, ap length e, h) in
    (omega (arith, ap length e, h), ap (λ i. drop i γ2) z ∙ ap (drop (suc (length γ - n))) e ∙ d)
scope_step (let_array m x t z c) s n rest γ γ2 old e h d =
    let y : length γ2 - n ≡ suc (length γ - n) = omega (arith, ap length e, h) in
    (omega (arith, ap length e, h), ap (λ i. drop i γ2) y ∙ ap (drop (suc (length γ - n))) e ∙ d)
scope_step kind s n rest γ γ2 old e h d = (omega (arith, ap length e, h), ap (λ g. drop (length g - n) g) e ∙ d)
