-- In a checked program every statement has a group.
use Rattle.std.proofs.Common.{◌≡◌, refl, sym, ap, ◌∙◌, subst, ℕ, arith, Bool, true, false, ◌==◌, List, [], ◌∷◌, ◌++◌, map, Option, Some, None, cond}
use Rattle.std.specs.List.{All, find, flat_map, count_by}
use Rattle.std.proofs.lemmas.Bool.{eqb-true}
use Rattle.std.proofs.lemmas.List.{map-append}
use Rattle.std.proofs.lemmas.List.Elements.{All-head, All-tail}
use Rattle.std.proofs.lemmas.List.Sums.{sum_by-cons}
use Rattle.oc_tree.specs.Tree.{TKind, if_else, for_in, while_do, TElse, no_else, else_do, stmt, TBlock, block, TStmts, no_stmts, more, TFunction, TProgram}
use Rattle.oc_tree.specs.declared.tree.VarId.TheVariants as variables
use Rattle.oc_tree.specs.Numbers.{kind_statements, else_statements, block_statements, stmts_statements, program_statements}
use Rattle.oc_tree.specs.Places.{Place, Placed, behind, in_branch, in_loop, at_start, kind_placed, else_placed, block_placed, stmts_placed, program_placed, placed}
use Rattle.oc_tree.specs.Checked.{Group, is_in_group, group_of, AreGroups}

-- ---- the statements with places are those of the program

abbrev pub ids : List Placed → List ℕ
ids ps = map (λ a. a.id) ps

mutual
  kind_ids : (at : Place) (id : ℕ) (k : TKind) → ids (kind_placed at id k) ≡ kind_statements k
  kind_ids at id (if_else c a b) = map-append (λ a. a.id) (block_placed (in_branch at id) a) (else_placed (in_branch at id) b)
      ∙ (λ i. block_ids (in_branch at id) a i ++ else_ids (in_branch at id) b i)
  kind_ids at id (for_in x m n b) = block_ids (in_loop at id ((x, variables.Declared id) ∷ [])) b
  kind_ids at id (while_do c n b) = block_ids (in_loop at id []) b
  kind_ids at id _ = refl

  else_ids : (at : Place) (b : TElse) → ids (else_placed at b) ≡ else_statements b
  else_ids at no_else = refl
  else_ids at (else_do b) = block_ids at b

  block_ids : (at : Place) (b : TBlock) → ids (block_placed at b) ≡ block_statements b
  block_ids at (block id ss) = stmts_ids (record at { block = id }) ss

  stmts_ids : (at : Place) (ss : TStmts) → ids (stmts_placed at ss) ≡ stmts_statements ss
  stmts_ids at no_stmts = refl
  stmts_ids at (more (stmt id line k) ss) =
      ap (λ ns. id ∷ ns) (map-append (λ a. a.id) (kind_placed at id k) (stmts_placed (behind at id k) ss) ∙ (λ i. kind_ids at id k i ++ stmts_ids (behind at id k) ss i))

pub functions_ids : (fs : List TFunction) → ids (flat_map (λ f. block_placed (at_start f) f.body) fs) ≡ flat_map (λ f. block_statements f.body) fs
functions_ids [] = refl
functions_ids (f ∷ fs) = map-append (λ a. a.id) (block_placed (at_start f) f.body) (flat_map (λ g. block_placed (at_start g) g.body) fs) ∙ (λ i. block_ids (at_start f) f.body i ++ functions_ids fs i)

pub program_ids : (p : TProgram) → ids (program_placed p) ≡ program_statements p
program_ids p = functions_ids p.functions

-- what holds of the numbers of statements holds of a number that is found
found_holds : (P : ℕ → Type 0) (s : ℕ) (ps : List Placed) (a : Placed) → All P (ids ps) → find (λ b. b.id == s) ps ≡ Some a → P s
found_holds P s [] a h e = grind (arith, e)
found_holds P s (b ∷ ps) a h e = by_test (b.id == s) refl (found_holds P s ps a (All-tail P b.id (ids ps) h)) e
  where
    by_test : (t : Bool) → (b.id == s) ≡ t → (find (λ c. c.id == s) ps ≡ Some a → P s) → cond t (Some b) (find (λ c. c.id == s) ps) ≡ Some a → P s
    by_test true is on _ = subst P (eqb-true b.id s is) (All-head P b.id (ids ps) h)
    by_test false is on f = on f

-- ---- the group of a statement

-- where none is found, none is counted
none_counted : {A : Type 0} (test : A → Bool) (xs : List A) → find test xs ≡ None → count_by test xs ≡ 0
none_counted test [] e = refl
none_counted test (x ∷ xs) e = by_test (test x) refl (none_counted test xs) e
  where
    by_test : (t : Bool) → test x ≡ t → (find test xs ≡ None → count_by test xs ≡ 0) → cond t (Some x) (find test xs) ≡ None → count_by test (x ∷ xs) ≡ 0
    by_test true is on f = grind (arith, f)
    by_test false is on f = sum_by-cons (λ y. cond (test y) 1 0) x xs
        ∙ (let e : ◌≡◌ {A = ℕ} (cond (test x) 1 0) 0 = ap (λ t. cond t 1 0) is in let rest : count_by test xs ≡ 0 = on f in omega (arith, e, rest))

module _ (p : TProgram) (groups : List Group) (s : ℕ) where
  pub has_group : AreGroups p groups → group_of p groups s ≡ None → placed p s ≡ None
  has_group are without = by_place (placed p s) refl
    where
      by_place : (o : Option Placed) → placed p s ≡ o → o ≡ None
      by_place None is = refl
      by_place (Some a) is =
          let one : count_by (is_in_group p s) groups ≡ 1 =
          found_holds (λ n. count_by (is_in_group p n) groups ≡ 1) s (program_placed p) a (subst (All (λ n. count_by (is_in_group p n) groups ≡ 1)) (sym (program_ids p)) are.one_each) is in
          let none : count_by (is_in_group p s) groups ≡ 0 = none_counted (is_in_group p s) groups without in absurd (omega (arith, one, none))
