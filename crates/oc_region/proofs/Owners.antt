-- In which function a statement and a block stand.
use Rattle.std.proofs.Common.{◌≡◌, ◌<◌, ◌≤◌, ℕ, zero, suc, ◌+◌, true, ◌==◌, List, [], ◌∷◌, ◌++◌, length, Option, Some, None, refl, ap, sym, subst, ◌∙◌, inl, inr, arith}
use Rattle.std.specs.Prelude.{◌⊎◌, flat_map, find, position, option_map}
use Rattle.std.proofs.lemmas.Bool.{eqb-true, eq-eqb, or_left, or_right, false_from_ne_true}
use Rattle.std.proofs.lemmas.Option.{same_Some}
use Rattle.oc_tree.specs.Tree.{TKind, if_else, for_in, while_do, TElse, no_else, else_do, stmt, TBlock, block, TStmts, no_stmts, more, TFunction, TProgram}
use Rattle.oc_tree.specs.declared.tree.VarId.TheVariants as variables
use Rattle.oc_tree.specs.Numbers.{numbers_on, kind_statements, else_statements, block_statements, stmts_statements, program_statements, kind_blocks, else_blocks, block_blocks}
use Rattle.oc_tree.specs.Numbers.{stmts_blocks, program_blocks}
use Rattle.oc_tree.specs.Places.{Place, Placed, behind, in_branch, in_loop, at_start, kind_placed, else_placed, block_placed, stmts_placed, placed, block_of}
use Rattle.oc_tree.specs.Marked.{function_of, around}
use Rattle.oc_timely.proofs.Positions.{position_first, position_later}
use Rattle.oc_region.proofs.Elements.{Each, each_weaker, each_append, each_left, each_right, each_find, each_any, find_append, has}

-- ---- numbers that rise by one

abbrev pub Rise : ℕ → List ℕ → Type 0
Rise i [] = Unit {0}
Rise i (x ∷ xs) = (x ≡ i) × Rise (suc i) xs

pub rise : (i n : ℕ) (xs : List ℕ) → xs ≡ numbers_on i n → Rise i xs
rise i n [] h = tt
rise i zero (x ∷ xs) h = cc h
rise i (suc n) (x ∷ xs) h = (cc h, rise (suc i) n xs (cc h))

rise_behind : (i : ℕ) (xs ys : List ℕ) → Rise i (xs ++ ys) → Rise (i + length xs) ys
rise_behind i [] ys h = let e : i ≡ i + 0 = omega arith in subst (λ j. Rise j ys) e h
rise_behind i (x ∷ xs) ys h = let e : suc i + length xs ≡ i + length (x ∷ xs) = omega arith in subst (λ j. Rise j ys) e (rise_behind (suc i) xs ys h.1)

rise_below : (i : ℕ) (xs ys : List ℕ) → Rise i (xs ++ ys) → Each (λ x. x < i + length xs) xs
rise_below i [] ys h = tt
rise_below i (x ∷ xs) ys h = (omega (arith, h.0), each_weaker (λ y. y < suc i + length xs) (λ y. y < i + length (x ∷ xs)) (λ y l. omega (arith, l)) xs (rise_below (suc i) xs ys h.1))

pub rise_above : (i j : ℕ) (xs : List ℕ) → j ≤ i → Rise i xs → Each (λ x. j ≤ x) xs
rise_above i j [] l h = tt
rise_above i j (x ∷ xs) l h = (omega (arith, h.0), rise_above (suc i) j xs (omega arith) h.1)

-- ---- numbers of functions

-- a number is one of the function at a place
abbrev pub Owns : (TFunction → List ℕ) → List TFunction → ℕ → ℕ → Type 0
Owns key [] k n = ⊥
Owns key (f ∷ fs) zero n = has n (key f) ≡ true
Owns key (f ∷ fs) (suc k) n = Owns key fs k n

module _ (key : TFunction → List ℕ) where
  -- no number is one of two functions
  abbrev pub Distinct : List TFunction → Type 0
  Distinct [] = Unit {0}
  Distinct (f ∷ fs) = ((k n : ℕ) → has n (key f) ≡ true → Owns key fs k n → ⊥) × Distinct fs

  holds_of : (P : ℕ → Type 0) (n : ℕ) (ns : List ℕ) → has n ns ≡ true → Each P ns → P n
  holds_of P n ns e h = each_any P (λ m. m == n) (P n) ns e h (λ m there same. subst P (eqb-true m n same) there)

  owned_holds : (P : ℕ → Type 0) (fs : List TFunction) (k n : ℕ) → Owns key fs k n → Each P (flat_map key fs) → P n
  owned_holds P [] k n h each = absurd h
  owned_holds P (f ∷ fs) zero n h each = holds_of P n (key f) h (each_left P (key f) (flat_map key fs) each)
  owned_holds P (f ∷ fs) (suc k) n h each = owned_holds P fs k n h (each_right P (key f) (flat_map key fs) each)

  distinct_from : (i : ℕ) (fs : List TFunction) → Rise i (flat_map key fs) → Distinct fs
  distinct_from i [] h = tt
  distinct_from i (f ∷ fs) h =
      let later = rise_behind i (key f) (flat_map key fs) h in
      let two : (k n : ℕ) → has n (key f) ≡ true → Owns key fs k n → ⊥ =
      λ k n there other. (let below = holds_of (λ x. x < i + length (key f)) n (key f) there (rise_below i (key f) (flat_map key fs) h) in
      let above = owned_holds (λ x. i + length (key f) ≤ x) fs k n other (rise_above (i + length (key f)) (i + length (key f)) (flat_map key fs) (omega arith) later) in
      omega (arith, below, above)) in
      (two, distinct_from (i + length (key f)) fs later)

  pub distinct : (fs : List TFunction) → flat_map key fs ≡ numbers_on 1 (length (flat_map key fs)) → Distinct fs
  distinct fs e = distinct_from 1 fs (rise 1 (length (flat_map key fs)) (flat_map key fs) e)

owned_first : (key : TFunction → List ℕ) (fs : List TFunction) (k n : ℕ) → Distinct key fs → Owns key fs k n → position (λ f. has n (key f)) fs ≡ Some k
owned_first key [] k n d h = absurd h
owned_first key (f ∷ fs) zero n d h = position_first (λ g. has n (key g)) f fs h
owned_first key (f ∷ fs) (suc k) n d h = position_later (λ g. has n (key g)) f fs k (false_from_ne_true (has n (key f)) (λ there. d.0 k n there h)) (owned_first key fs k n d.1 h)

-- ---- where the statements of a tree stand

-- what is asked of a statement with its place
abbrev Fits : (S B : ℕ → Type 0) → Placed → Type 0
Fits S B a = S a.id × B a.at.block × Each S a.at.around

module _ (S B : ℕ → Type 0) where
  mutual
    kind_fits : (at : Place) (id : ℕ) (k : TKind) → S id → B at.block → Each S at.around → Each S (kind_statements k) → Each B (kind_blocks k) → Each (Fits S B) (kind_placed at id k)
    kind_fits at id (if_else c a b) i l o s t =
        each_append (Fits S B) (block_placed (in_branch at id) a) (else_placed (in_branch at id) b)
        (block_fits (in_branch at id) a (i, o) (each_left S (block_statements a) (else_statements b) s) (each_left B (block_blocks a) (else_blocks b) t))
        (else_fits (in_branch at id) b (i, o) (each_right S (block_statements a) (else_statements b) s) (each_right B (block_blocks a) (else_blocks b) t))
    kind_fits at id (for_in x m n b) i l o s t = block_fits (in_loop at id ((x, variables.Declared id) ∷ [])) b (i, o) s t
    kind_fits at id (while_do c n b) i l o s t = block_fits (in_loop at id []) b (i, o) s t
    kind_fits at id _ i l o s t = tt

    else_fits : (at : Place) (b : TElse) → Each S at.around → Each S (else_statements b) → Each B (else_blocks b) → Each (Fits S B) (else_placed at b)
    else_fits at no_else o s t = tt
    else_fits at (else_do b) o s t = block_fits at b o s t

    block_fits : (at : Place) (b : TBlock) → Each S at.around → Each S (block_statements b) → Each B (block_blocks b) → Each (Fits S B) (block_placed at b)
    block_fits at (block id ss) o s t = stmts_fit (record at { block = id }) ss t.0 o s t.1

    stmts_fit : (at : Place) (ss : TStmts) → B at.block → Each S at.around → Each S (stmts_statements ss) → Each B (stmts_blocks ss) → Each (Fits S B) (stmts_placed at ss)
    stmts_fit at no_stmts l o s t = tt
    stmts_fit at (more (stmt id line k) ss) l o s t = (
      (s.0, l, o),
      each_append (Fits S B) (kind_placed at id k) (stmts_placed (behind at id k) ss)
          (kind_fits at id k s.0 l o (each_left S (kind_statements k) (stmts_statements ss) s.1) (each_left B (kind_blocks k) (stmts_blocks ss) t))
          (stmts_fit (behind at id k) ss l o (each_right S (kind_statements k) (stmts_statements ss) s.1) (each_right B (kind_blocks k) (stmts_blocks ss) t)),
    )

each_has : (ns : List ℕ) → Each (λ n. has n ns ≡ true) ns
each_has [] = tt
each_has (m ∷ ns) = (or_left (m == m) (has m ns) (eq-eqb m m refl), each_weaker (λ n. has n ns ≡ true) (λ n. has n (m ∷ ns) ≡ true) (λ n e. or_right (m == n) (has n ns) e) ns (each_has ns))

abbrev pub own_statements : TFunction → List ℕ
own_statements f = block_statements f.body

abbrev pub own_blocks : TFunction → List ℕ
own_blocks f = block_blocks f.body

-- the statements of a function, and their blocks
abbrev pub InFunction : TFunction → Placed → Type 0
InFunction f a = Fits (λ n. has n (own_statements f) ≡ true) (λ b. has b (own_blocks f) ≡ true) a

pub function_fits : (f : TFunction) → Each (InFunction f) (block_placed (at_start f) f.body)
function_fits f = block_fits (λ n. has n (own_statements f) ≡ true) (λ b. has b (own_blocks f) ≡ true) (at_start f) f.body tt (each_has (own_statements f)) (each_has (own_blocks f))

-- ---- the function of a statement that is found

pub record Owner (fs : List TFunction) (s : ℕ) (a : Placed) : Type 0 where
  pub place : ℕ
  pub statement : Owns own_statements fs place s
  pub block : Owns own_blocks fs place a.at.block
  pub around : Each (Owns own_statements fs place) a.at.around

pub owner : (fs : List TFunction) (s : ℕ) (a : Placed) → find (λ b. b.id == s) (flat_map (λ f. block_placed (at_start f) f.body) fs) ≡ Some a → Owner fs s a
owner [] s a e = cc
owner (f ∷ fs) s a e = by_case (find_append (λ b. b.id == s) (block_placed (at_start f) f.body) (flat_map (λ g. block_placed (at_start g) g.body) fs) a e) (owner fs s a)
  where
    by_case : (find (λ b. b.id == s) (block_placed (at_start f) f.body) ≡ Some a) ⊎ (find (λ b. b.id == s) (flat_map (λ g. block_placed (at_start g) g.body) fs) ≡ Some a)
        → (find (λ b. b.id == s) (flat_map (λ g. block_placed (at_start g) g.body) fs) ≡ Some a → Owner fs s a) → Owner (f ∷ fs) s a
    by_case (inl here) rest =
        let found = each_find (InFunction f) (λ b. b.id == s) (block_placed (at_start f) f.body) a here (function_fits f) in
        record { place = 0; statement = subst (λ n. has n (own_statements f) ≡ true) (eqb-true a.id s found.0) found.1.0; block = found.1.1; around = found.1.2 }
    by_case (inr there) rest = let o = rest there in record { place = suc o.place; statement = o.statement; block = o.block; around = o.around }

-- ---- programs

-- the place of the function in which a block stands
abbrev pub function_of_block : TProgram → ℕ → Option ℕ
function_of_block p b = position (λ f. has b (own_blocks f)) p.functions

module _ (p : TProgram) (statements : program_statements p ≡ numbers_on 1 (length (program_statements p))) (blocks : program_blocks p ≡ numbers_on 1 (length (program_blocks p))) where
  pub statement_function : (k s : ℕ) → Owns own_statements p.functions k s → function_of p s ≡ Some k
  statement_function k s h = owned_first own_statements p.functions k s (distinct own_statements p.functions statements) h

  -- a statement stands in the function of its block
  pub block_function : (s b : ℕ) → block_of p s ≡ Some b → function_of p s ≡ function_of_block p b
  block_function s b e = by_place (placed p s) refl e
    where
      by_place : (o : Option Placed) → placed p s ≡ o → option_map (λ a. a.at.block) o ≡ Some b → function_of p s ≡ function_of_block p b
      by_place None is f = cc
      by_place (Some a) is f =
          let o = owner p.functions s a is in
          let same : a.at.block ≡ b = same_Some a.at.block b f in
          statement_function o.place s o.statement ∙ sym
          (owned_first own_blocks p.functions o.place b (distinct own_blocks p.functions blocks) (subst (λ c. Owns own_blocks p.functions o.place c) same o.block))

  -- what is around a statement stands in its function
  pub around_function : (k s : ℕ) → Owns own_statements p.functions k s → Each (λ t. function_of p t ≡ Some k) (around (placed p s))
  around_function k s h = by_place (placed p s) refl
    where
      by_place : (o : Option Placed) → placed p s ≡ o → Each (λ t. function_of p t ≡ Some k) (around o)
      by_place None is = tt
      by_place (Some a) is =
          let o = owner p.functions s a is in
          let same : o.place ≡ k = same_Some o.place k (sym (statement_function o.place s o.statement) ∙ statement_function k s h) in
          each_weaker (Owns own_statements p.functions o.place) (λ t. function_of p t ≡ Some k) (λ t there. statement_function o.place t there ∙ ap Some same) a.at.around o.around
