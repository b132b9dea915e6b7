-- How many statements and slots a program has.
use Rattle.std.proofs.Common.{◌≡◌, ℕ, zero, suc, ◌+◌, ◌*◌, ◌<◌, ◌≤◌, ◌^◌, Bool, true, false, List, [], ◌∷◌, length, flat_map, cond, Some, refl, sym, ap, ◌∙◌, subst, arith, length-append}
use Rattle.std.specs.Prelude.{slice_get, codes}
use Rattle.std.specs.Str.{bytes_eq}
use Rattle.std.proofs.lemmas.Option.{none-some, same_Some}
use Rattle.oc_tree.specs.Names.{Text, NameLists}
use Rattle.oc_tree.specs.Tree.{TKind, let_to, let_array, assign, assign_index, assign_deref, if_else, for_in, while_do, call_only, sense_only, emit, fresh, consistent, return, no_else, else_do}
use Rattle.oc_tree.specs.Tree.{stmt, TBlock, block, TStmts, no_stmts, more, TFunction, TProgram}
use Rattle.oc_tree.specs.Numbers.{numbers_on, kind_statements, block_statements, stmts_statements, program_statements}
use Rattle.oc_tree.specs.Stack.{kind_slots, block_slots, stmts_slots, frame}
use Rattle.oc_tree.specs.Marked.{TRegion}
use Rattle.oc_tree.specs.Checked.{Group, IsChecked}
use Rattle.oc_tree.specs.Expansion.{expansion, program_size}
use Rattle.oc_desugar.proofs.FewStatements.{few_statements}
use Rattle.oc_desugar.proofs.NumberLists.{numbers_length, statements_listed}
use Rattle.oc_desugar.proofs.SizesKept.{unbroken_element}
use Rattle.oc_region.proofs.Elements.{Each, each_left, each_right}
use Rattle.oc_code.specs.Scope.{Named, in_scope, for_named}
use Rattle.oc_code.specs.Formed.{IsLast, kind_formed, block_formed, stmts_formed, body_formed}

-- ---- slots

module _ (names : NameLists) (fs : List TFunction) (regions : List TRegion) (rank : Text → ℕ) (own : ℕ) where
  last_slots : (rest : TStmts) → IsLast rest → stmts_slots rest ≡ 0
  last_slots no_stmts is = refl
  last_slots (more s rest) is = absurd is

  mutual
    kind_room : (k : TKind) (γ : List Named) (s : ℕ) → kind_formed names fs regions rank own γ s k → kind_slots k ≤ 65537 * (1 + length (kind_statements k))
    kind_room (let_array m x t z n) γ s h = let low = h.1 in omega (arith, low)
    kind_room (if_else c a no_else) γ s h = let l = block_room a γ s h.0 in omega (arith, l, length-append (block_statements a) [])
    kind_room (if_else c a (else_do b)) γ s h =
        let l = block_room a γ s h.0 in
        let r = block_room b γ (s + block_slots a) h.1 in
        omega (arith, l, r, length-append (block_statements a) (block_statements b))
    kind_room (for_in x c d b) γ s h = let l = block_room b (for_named x s ∷ γ) (s + 1) h.2 in omega (arith, l)
    kind_room (while_do c n b) γ s h = let l = block_room b γ (s + 1) h.1 in omega (arith, l)
    kind_room k γ s h = omega arith

    block_room : (b : TBlock) (γ : List Named) (s : ℕ) → block_formed names fs regions rank own γ s b → block_slots b ≤ 65537 * length (block_statements b)
    block_room (block id ss) γ s h = stmts_room ss false 0 γ s h

    stmts_room : (ss : TStmts) (gives : Bool) (inside : ℕ) (γ : List Named) (s : ℕ) → stmts_formed names fs regions rank own gives inside γ s ss
        → stmts_slots ss ≤ 65537 * length (stmts_statements ss)
    stmts_room no_stmts gives inside γ s h = omega arith
    stmts_room (more (stmt n line (return e)) rest) gives inside γ s h = let z = last_slots rest h.2 in omega (arith, z)
    stmts_room (more (stmt n line k) rest) gives inside γ s h =
        let l = kind_room k γ s h.0 in
        let r = stmts_room rest gives h.1 (in_scope k s rest γ) (s + kind_slots k) h.3 in
        omega (arith, l, r, length-append (kind_statements k) (stmts_statements rest))

  pub body_room : (b : TBlock) (gives : Bool) (γ : List Named) (s : ℕ) → body_formed names fs regions rank own gives γ s b → block_slots b ≤ 65537 * length (block_statements b)
  body_room (block id ss) gives γ s h = stmts_room ss gives 0 γ s h

-- ---- statements

numbers_low : (top i n : ℕ) → i + n ≤ top → Each (λ m. m < top) (numbers_on i n)
numbers_low top i zero h = tt
numbers_low top i (suc n) h = (omega (arith, h), numbers_low top (suc i) n (omega (arith, h)))

own_each : (P : ℕ → Type 0) (fs : List TFunction) (i : ℕ) (f : TFunction) → slice_get fs i ≡ Some f → Each P (flat_map (λ f. block_statements f.body) fs) → Each P (block_statements f.body)
own_each P [] i f e h = absurd (none-some f e)
own_each P (g ∷ fs) zero f e h = subst (λ (g : TFunction). Each P (block_statements g.body)) (same_Some g f e) (each_left P (block_statements g.body) (flat_map (λ f. block_statements f.body) fs) h)
own_each P (g ∷ fs) (suc i) f e h = own_each P fs i f e (each_right P (block_statements g.body) (flat_map (λ f. block_statements f.body) fs) h)

own_long : (fs : List TFunction) (i : ℕ) (f : TFunction) → slice_get fs i ≡ Some f → length (block_statements f.body) ≤ length (flat_map (λ f. block_statements f.body) fs)
own_long [] i f e = absurd (none-some f e)
own_long (g ∷ fs) zero f e =
    let same : length (block_statements g.body) ≡ length (block_statements f.body) = ap (λ (g : TFunction). length (block_statements g.body)) (same_Some g f e) in
    omega (arith, same, length-append (block_statements g.body) (flat_map (λ f. block_statements f.body) fs))
own_long (g ∷ fs) (suc i) f e = let l = own_long fs i f e in omega (arith, l, length-append (block_statements g.body) (flat_map (λ f. block_statements f.body) fs))

module _ (p : TProgram) (groups : List Group) (checked : IsChecked p groups) (expanded : expansion p ≡ p) where
  listed : program_statements p ≡ numbers_on 1 (program_size p)
  listed = ap program_statements (sym expanded) ∙ statements_listed p

  few : program_size p ≤ 8192
  few = few_statements p checked.form.declared (unbroken_element p checked.unbroken)

  -- the numbers of statements are small
  pub numbers_small : (i : ℕ) (f : TFunction) → slice_get p.functions i ≡ Some f → Each (λ m. m < 2 ^ 32) (block_statements f.body)
  numbers_small i f e = let l = few in own_each (λ m. m < 2 ^ 32) p.functions i f e (subst (Each (λ m. m < 2 ^ 32)) (sym listed) (numbers_low (2 ^ 32) 1 (program_size p) (omega (arith, l))))

  -- and a body has few
  pub body_few : (i : ℕ) (f : TFunction) → slice_get p.functions i ≡ Some f → length (block_statements f.body) ≤ 8192
  body_few i f e =
      let l = few in
      let n : length (program_statements p) ≡ program_size p = ap length listed ∙ numbers_length 1 (program_size p) in
      let h = own_long p.functions i f e in
      omega (arith, l, n, h)

-- a frame fits a field
pub frame_few : (f : TFunction) → length f.params ≤ 8 → block_slots f.body ≤ 65537 * length (block_statements f.body) → length (block_statements f.body) ≤ 8192 → frame f ≤ 536879114
frame_few f params slots few = by (bytes_eq f.name (codes "main"))
  where
    by : (b : Bool) → length f.params + cond b 0 2 + block_slots f.body ≤ 536879114
    by true = omega (arith, params, slots, few)
    by false = omega (arith, params, slots, few)
