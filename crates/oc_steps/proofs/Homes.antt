-- Where statements are numbered, each annotation is of a set of the function in which it stands.
use Rattle.std.proofs.Common.{◌≡◌, ℕ, zero, suc, ℤ, Bool, true, false, List, [], ◌∷◌, ◌++◌, length, Some, None, cond, refl, sym, ap, ◌∙◌, subst, inl, inr, append-nil, arith}
use Rattle.std.specs.Prelude.{◌==◌, ◌+◌, find, flat_map, position, slice_get, nat_lt, not, option_map}
use Rattle.std.specs.List.{list_any, position_or_len}
use Rattle.std.proofs.lemmas.Bool.{eq-eqb, ne_eqb, false_from_ne_true}
use Rattle.std.proofs.lemmas.Bool.Decides.{nat_tests}
use Rattle.std.proofs.lemmas.Option.{none-some, same_Some}
use Rattle.oc_tree.specs.Names.{Text}
use Rattle.oc_tree.specs.Form.{Numbered}
use Rattle.oc_tree.specs.Marked.{function_of}
use Rattle.oc_tree.specs.Members.{IsOf}
use Rattle.oc_tree.specs.Numbers.{numbers_on, block_statements, program_statements}
use Rattle.oc_tree.specs.Places.{Place, Placed, behind, in_branch, in_loop, at_start, kind_placed, else_placed, block_placed, stmts_placed, program_placed, placed}
use Rattle.oc_tree.specs.Tree.{TKind, if_else, for_in, while_do, consistent, TElse, no_else, else_do, stmt, TBlock, block, TStmts, no_stmts, more, TFunction, TProgram}
use Rattle.oc_tree.specs.declared.tree.VarId.TheVariants as variables
use Rattle.oc_tree.proofs.Grouped.{ids, functions_ids, program_ids}
use Rattle.oc_meaning.specs.Run.{function_named}
use Rattle.oc_meaning.proofs.Functions.{place_named}
use Rattle.oc_honest.specs.Timely.{set_in, set_at, set_of}
use Rattle.oc_laws.proofs.Members.{of_left, of_right, in_image, not_lower, of_any, number_of}
use Rattle.oc_steps.specs.Counting.{home_in, home_of, IsNoted, KindNoted, ElseNoted, BlockNoted, StmtsNoted}

-- ---- lists

-- the place of the first that passes a test: that of the first one, or a later one
pub position_first : {A : Type 0} (t : A → Bool) (x : A) (xs : List A) → t x ≡ true → position t (x ∷ xs) ≡ Some 0
position_first t x xs e = grind (arith, e)

pub position_later : {A : Type 0} (t : A → Bool) (x : A) (xs : List A) → t x ≡ false → position t (x ∷ xs) ≡ option_map suc (position t xs)
position_later t x xs e =
    let m : ℕ = position_or_len t xs in
    ap (λ b. cond (nat_lt (cond (not b) (1 + m) 0) (suc (length xs))) (Some (cond (not b) (1 + m) 0)) None) e ∙ shift m (length xs)
  where
    shift : (m l : ℕ) → cond (nat_lt (1 + m) (suc l)) (Some (1 + m)) None ≡ option_map suc (cond (nat_lt m l) (Some m) None)
    shift m l =
        let t : nat_lt (1 + m) (suc l) ≡ nat_lt m l = grind (arith, nat_tests) in
        let k : 1 + m ≡ suc m = omega arith in
        ap (λ b. cond b (Some (1 + m)) None) t ∙ ap (λ q. cond (nat_lt m l) (Some q) None) k ∙ by (nat_lt m l)
      where
        by : (b : Bool) → cond b (Some (suc m)) None ≡ option_map suc (cond b (Some m) None)
        by true = refl
        by false = refl

-- ---- no number twice

abbrev AreDistinct : List ℕ → Type 0
AreDistinct [] = Unit {0}
AreDistinct (x ∷ xs) = (IsOf x xs → ⊥) × AreDistinct xs

distinct_numbers : (k n : ℕ) → AreDistinct (numbers_on k n)
distinct_numbers k zero = tt
distinct_numbers k (suc n) = (λ o. absurd (let l = not_lower (suc k) n k o in omega (arith, l)), distinct_numbers (suc k) n)

-- of two lists together, the second, and that they share none
parted : (xs ys : List ℕ) → AreDistinct (xs ++ ys) → AreDistinct ys × ((n : ℕ) → IsOf n xs → IsOf n ys → ⊥)
parted [] ys d = (d, λ n o q. absurd o)
parted (x ∷ xs) ys d = let rest = parted xs ys d.1 in (rest.0, none rest.1)
  where
    none : ((n : ℕ) → IsOf n xs → IsOf n ys → ⊥) → (n : ℕ) → IsOf n (x ∷ xs) → IsOf n ys → ⊥
    none rest n (inl e) q = d.0 (of_right x xs ys (subst (λ m. IsOf m ys) e q))
    none rest n (inr o) q = rest n o q

-- a statement is found by its number
found_own : (bs : List Placed) (b : Placed) → AreDistinct (ids bs) → IsOf b bs → find (λ a. a.id == b.id) bs ≡ Some b
found_own [] b d o = absurd o
found_own (x ∷ bs) b d (inl e) = ap (λ t. cond t (Some x) (find (λ a. a.id == b.id) bs)) (eq-eqb x.id b.id (ap (λ z. z.id) (sym e))) ∙ ap Some (sym e)
found_own (x ∷ bs) b d (inr o) =
    ap (λ t. cond t (Some x) (find (λ a. a.id == b.id) bs)) (ne_eqb x.id b.id (λ q. d.0 (subst (λ m. IsOf m (ids bs)) (sym q) (in_image (λ a. a.id) bs b o))))
    ∙ found_own bs b d.1 o

-- ---- functions

abbrev statements_in : List TFunction → List ℕ
statements_in fs = flat_map (λ f. block_statements f.body) fs

abbrev placed_in : List TFunction → List Placed
placed_in fs = flat_map (λ f. block_placed (at_start f) f.body) fs

abbrev has : ℕ → TFunction → Bool
has n f = list_any (λ m. m == n) (block_statements f.body)

pub body_ids : (f : TFunction) → ids (block_placed (at_start f) f.body) ≡ block_statements f.body
body_ids f = sym (ap ids (append-nil (block_placed (at_start f) f.body))) ∙ functions_ids (f ∷ []) ∙ append-nil (block_statements f.body)

in_statements : (fs : List TFunction) (i : ℕ) (g : TFunction) → slice_get fs i ≡ Some g → (n : ℕ) → IsOf n (block_statements g.body) → IsOf n (statements_in fs)
in_statements [] i g e n o = absurd (none-some g e)
in_statements (f ∷ fs) zero g e n o =
    of_left n (block_statements f.body) (statements_in fs) (subst (λ (z : TFunction). IsOf n (block_statements z.body)) (sym (same_Some f g e)) o)
in_statements (f ∷ fs) (suc i) g e n o = of_right n (block_statements f.body) (statements_in fs) (in_statements fs i g e n o)

in_placed : (fs : List TFunction) (i : ℕ) (g : TFunction) → slice_get fs i ≡ Some g → (b : Placed) → IsOf b (block_placed (at_start g) g.body) → IsOf b (placed_in fs)
in_placed [] i g e b o = absurd (none-some g e)
in_placed (f ∷ fs) zero g e b o =
    of_left b (block_placed (at_start f) f.body) (placed_in fs) (subst (λ (z : TFunction). IsOf b (block_placed (at_start z) z.body)) (sym (same_Some f g e)) o)
in_placed (f ∷ fs) (suc i) g e b o = of_right b (block_placed (at_start f) f.body) (placed_in fs) (in_placed fs i g e b o)

-- the function of a statement
owner : (fs : List TFunction) → AreDistinct (statements_in fs) → (i : ℕ) (g : TFunction) → slice_get fs i ≡ Some g → (n : ℕ) → IsOf n (block_statements g.body) → position (has n) fs ≡ Some i
owner [] d i g e n o = absurd (none-some g e)
owner (f ∷ fs) d zero g e n o =
    position_first (has n) f fs (of_any (λ m. m == n) n (block_statements f.body) (subst (λ (z : TFunction). IsOf n (block_statements z.body)) (sym (same_Some f g e)) o) (eq-eqb n n refl))
owner (f ∷ fs) d (suc i) g e n o =
    let s = parted (block_statements f.body) (statements_in fs) d in
    let other : has n f ≡ false = false_from_ne_true (has n f) (λ t. s.1 n (number_of n (block_statements f.body) t) (in_statements fs i g e n o)) in
    position_later (has n) f fs other ∙ ap (option_map suc) (owner fs s.0 i g e n o)

-- ---- annotations

module _ (p : TProgram) (body : TBlock) where
  abbrev IsFine : Placed → Type 0
  IsFine b = (x : Text) (k : ℤ) → b.kind ≡ consistent x k → IsNoted p body b.id k

  mutual
    kind_noted : (at : Place) (id line : ℕ) (k : TKind) → ((b : Placed) → IsOf b (record { id = id; line = line; kind = k; at = at } ∷ kind_placed at id k) → IsFine b) → KindNoted p body id k
    kind_noted at id line (consistent x k) h = h _ (inl refl) x k refl
    kind_noted at id line (if_else c a b) h = (
      block_noted (in_branch at id) a (λ z o. h z (inr (of_left z (block_placed (in_branch at id) a) (else_placed (in_branch at id) b) o))),
      else_noted (in_branch at id) b (λ z o. h z (inr (of_right z (block_placed (in_branch at id) a) (else_placed (in_branch at id) b) o))),
    )
    kind_noted at id line (for_in x c d b) h = block_noted (in_loop at id ((x, variables.Declared id) ∷ [])) b (λ z o. h z (inr o))
    kind_noted at id line (while_do c t b) h = block_noted (in_loop at id []) b (λ z o. h z (inr o))
    kind_noted at id line k h = tt

    else_noted : (at : Place) (b : TElse) → ((z : Placed) → IsOf z (else_placed at b) → IsFine z) → ElseNoted p body b
    else_noted at no_else h = tt
    else_noted at (else_do b) h = block_noted at b h

    block_noted : (at : Place) (b : TBlock) → ((z : Placed) → IsOf z (block_placed at b) → IsFine z) → BlockNoted p body b
    block_noted at (block id ss) h = stmts_noted (record at { block = id }) ss h

    stmts_noted : (at : Place) (ss : TStmts) → ((z : Placed) → IsOf z (stmts_placed at ss) → IsFine z) → StmtsNoted p body ss
    stmts_noted at no_stmts h = tt
    stmts_noted at (more (stmt id line k) ss) h = (
      kind_noted at id line k (λ z o. h z (own z o)),
      stmts_noted (behind at id k) ss (λ z o. h z (inr (of_right z (kind_placed at id k) (stmts_placed (behind at id k) ss) o))),
    )
      where
        own : (z : Placed) → IsOf z (record { id = id; line = line; kind = k; at = at } ∷ kind_placed at id k) → IsOf z (stmts_placed at (more (stmt id line k) ss))
        own z (inl e) = inl e
        own z (inr o) = inr (of_left z (kind_placed at id k) (stmts_placed (behind at id k) ss) o)

module _ (p : TProgram) (numbered : Numbered p) where
  distinct : AreDistinct (program_statements p)
  distinct = subst AreDistinct (sym numbered.statements) (distinct_numbers 1 (length (program_statements p)))

  -- an annotation is of a set of its function
  set_here : (i : ℕ) (g : TFunction) → slice_get p.functions i ≡ Some g → (b : Placed) → IsOf b (block_placed (at_start g) g.body) → (x : Text) (k : ℤ) → b.kind ≡ consistent x k
      → set_of p b.id ≡ Some (i, k)
  set_here i g at b o x k e =
      let is : placed p b.id ≡ Some b = found_own (program_placed p) b (subst AreDistinct (sym (program_ids p)) distinct) (in_placed p.functions i g at b o) in
      let own : function_of p b.id ≡ Some i = owner p.functions distinct i g at b.id (subst (IsOf b.id) (body_ids g) (in_image (λ a. a.id) (block_placed (at_start g) g.body) b o)) in
      ap (set_at p b.id) is ∙ ap (λ f. set_in f b.kind) own ∙ ap (set_in (Some i)) e

  -- the annotations of each function that is called
  pub body_noted : (x : Text) (g : TFunction) → function_named p.functions x ≡ Some g → BlockNoted p g.body g.body
  body_noted x g e = block_noted p g.body (at_start g) g.body fine
    where
      at : (i : ℕ) × (slice_get p.functions i ≡ Some g)
      at = let found = place_named 0 p.functions x g e in (found.0, found.2)

      fine : (b : Placed) → IsOf b (block_placed (at_start g) g.body) → IsFine p g.body b
      fine b o y k is s set =
          let same : Some s ≡ Some (at.0, k) = sym set ∙ set_here at.0 g at.1 b o y k is in
          ap (home_of p) (same_Some s (at.0, k) same) ∙ ap (λ f. home_in f k) at.1
