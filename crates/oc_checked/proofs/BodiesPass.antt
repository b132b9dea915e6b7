-- Elements that break no rule, and where those of a function stand among those of its program.
use Rattle.std.proofs.Common.{◌≡◌, ◌<◌, ◌≤◌, ℕ, ◌+◌, Bool, true, false, true≢false, List, [], ◌∷◌, ◌++◌, Option, Some, None, cond, refl, ap, subst, ◌∙◌, arith}
use Rattle.std.specs.Prelude.{◌||◌, slice_get, count_by}
use Rattle.std.proofs.Math.Dec.{ltb}
use Rattle.std.proofs.lemmas.Bool.{ltb-true, ltb-false}
use Rattle.std.proofs.lemmas.List.Sums.{sum_by-cons}
use Rattle.std.proofs.lemmas.Option.{slice_get_within}
use Rattle.oc_tree.specs.Tree.{TFunction, TProgram}
use Rattle.oc_tree.specs.declared.before.Before.{Before}
use Rattle.oc_tree.specs.declared.broken.Broken.{Broken}
use Rattle.oc_tree.specs.declared.tree.Decl.{Decl}
use Rattle.oc_tree.specs.declared.tree.DeclKind.{DeclKind}
use Rattle.oc_tree.specs.declared.tree.DeclKind.TheVariants as decls
use Rattle.oc_tree.specs.Form.{is_function, DeclaredInOrder}
use Rattle.oc_tree.specs.Elements.{Element, function_item, line_of, block_elements, in_function, function_elements, item_elements, after_item, order_elements, nothing_before, program_elements}
use Rattle.oc_tree.specs.Limits.{Tally, nothing_counted, counted}
use Rattle.oc_tree.specs.Broken.{item_rules, rules_of, lowest, or_later, first_broken, broken_element, or_size, broken}

-- ---- tests of two parts

-- where neither of two tests holds, the first doesn't
pub first_fails : (a b : Bool) → a || b ≡ false → a ≡ false
first_fails true b h = h
first_fails false b h = refl

-- and neither does the second
pub second_fails : (a b : Bool) → a || b ≡ false → b ≡ false
second_fails true b h = absurd (true≢false h)
second_fails false b h = h

-- ---- elements

-- an element breaks no rule, at some count
abbrev pub Fine : TProgram → Element → Type 0
Fine p e = (n : Tally) × (lowest (rules_of p n e) ≡ None)

-- no element of a list breaks a rule
abbrev pub AllFine : TProgram → List Element → Type 0
AllFine p [] = Unit {0}
AllFine p (e ∷ es) = Fine p e × AllFine p es

-- then none of its front does
pub fine_front : (p : TProgram) (xs ys : List Element) → AllFine p (xs ++ ys) → AllFine p xs
fine_front p [] ys h = tt
fine_front p (x ∷ xs) ys h = (h.0, fine_front p xs ys h.1)

-- and none of its back
pub fine_back : (p : TProgram) (xs ys : List Element) → AllFine p (xs ++ ys) → AllFine p ys
fine_back p [] ys h = h
fine_back p (x ∷ xs) ys h = fine_back p xs ys h.1

-- where none is found that breaks a rule, none does
all_fine : (p : TProgram) (n : Tally) (es : List Element) → first_broken p n es ≡ None → AllFine p es
all_fine p n [] h = tt
all_fine p n (e ∷ es) h = by (lowest (rules_of p (counted n e) e)) refl (all_fine p (counted n e) es) h
  where
    by : (o : Option ℕ) → lowest (rules_of p (counted n e) e) ≡ o → (first_broken p (counted n e) es ≡ None → AllFine p es)
        → or_later (line_of e) o (first_broken p (counted n e) es) ≡ None → AllFine p (e ∷ es)
    by None is rest none = ((counted n e, is), rest none)
    by (Some rule) is rest none = let some : ◌≡◌ {A = Option Broken} (Some (record { line = line_of e; rule = rule })) None = none in absurd (cc)

-- where no rule at all is broken, none is by an element
not_by_size : (p : TProgram) (o : Option Broken) → or_size p o ≡ None → o ≡ None
not_by_size p None h = refl
not_by_size p (Some b) h = h

-- all elements of a program that breaks no rule
pub program_fine : (p : TProgram) → broken p ≡ None → AllFine p (program_elements p)
program_fine p h = all_fine p nothing_counted (program_elements p) (not_by_size p (broken_element p) h)

-- ---- functions

-- the function at a place: its head breaks no rule, and no statement of its body does
pub record FunctionFine (p : TProgram) (i : ℕ) (f : TFunction) : Type 0 where
  pub tally : Tally
  pub before : Before
  pub head : lowest (item_rules p tally before (function_item f)) ≡ None
  pub body : AllFine p (block_elements p (in_function f i) f.body)

-- how many functions are declared, of one declaration and more
counted_on : (d : Decl) (ds : List Decl) → count_by (λ x. is_function x.kind) (d ∷ ds) ≡ cond {A = ℕ} (is_function d.kind) 1 0 + count_by (λ x. is_function x.kind) ds
counted_on d ds = sum_by-cons (λ x. cond {A = ℕ} (is_function x.kind) 1 0) d ds

module _ (p : TProgram) (i : ℕ) (f : TFunction) (stands : slice_get p.functions i ≡ Some f) where
  -- what is to be found among the elements from there on
  abbrev Finds : Before → List Decl → Type 0
  Finds b ds = AllFine p (order_elements p b ds) → b.functions ≤ i → i < b.functions + count_by (λ d. is_function d.kind) ds → FunctionFine p i f

  -- the function that is declared next
  here_fine : (b : Before) (line : ℕ) (es : List Element) → b.functions ≡ i → AllFine p (item_elements p b line decls.Function ++ es) → FunctionFine p i f
  here_fine b line es e h =
      let found : slice_get p.functions b.functions ≡ Some f = ap (λ n. slice_get p.functions n) e ∙ stands in
      let own : AllFine p (function_elements p b line (Some f)) = subst (λ o. AllFine p (function_elements p b line o)) found (fine_front p (item_elements p b line decls.Function) es h) in
      record {
        tally = own.0.0;
        before = b;
        head = own.0.1;
        body = subst (λ n. AllFine p (block_elements p (in_function f n) f.body)) e own.1;
      }

  -- the next declaration is the function's, or it stands before it
  by_kind : (b : Before) (line n : ℕ) (ds : List Decl) (k : DeclKind) → Finds (after_item b k) ds → AllFine p (item_elements p b line k ++ order_elements p (after_item b k) ds)
      → b.functions ≤ i → n ≡ cond {A = ℕ} (is_function k) 1 0 + count_by (λ d. is_function d.kind) ds → i < b.functions + n → FunctionFine p i f
  by_kind b line n ds decls.Sensor rest h l e g = rest (fine_back p (item_elements p b line decls.Sensor) _ h) l (omega (arith, e, g))
  by_kind b line n ds decls.Port rest h l e g = rest (fine_back p (item_elements p b line decls.Port) _ h) l (omega (arith, e, g))
  by_kind b line n ds decls.Nv rest h l e g = rest (fine_back p (item_elements p b line decls.Nv) _ h) l (omega (arith, e, g))
  by_kind b line n ds decls.Function rest h l e g = go (ltb b.functions i) refl
    where
      go : (t : Bool) → ltb b.functions i ≡ t → FunctionFine p i f
      go true is = let lt : b.functions < i = ltb-true b.functions i is in rest (fine_back p (item_elements p b line decls.Function) _ h) (omega (arith, lt)) (omega (arith, e, g))
      go false is = let le : i ≤ b.functions = ltb-false b.functions i is in here_fine b line _ (omega (arith, le, l)) h

  -- the function is found in the order of declarations
  in_order : (b : Before) (ds : List Decl) → Finds b ds
  in_order b [] h l g = absurd (omega (arith, l, g))
  in_order b (d ∷ ds) h l g = by_kind b d.line (count_by (λ x. is_function x.kind) (d ∷ ds)) ds d.kind (in_order (after_item b d.kind) ds) h l (counted_on d ds) g

-- each function of a program that breaks no rule is so
pub function_fine : (p : TProgram) → broken p ≡ None → DeclaredInOrder p → (i : ℕ) (f : TFunction) → slice_get p.functions i ≡ Some f → FunctionFine p i f
function_fine p unbroken declared i f stands =
    let within = slice_get_within p.functions i f stands in
    let all = declared.functions in
    in_order p i f stands nothing_before p.order (program_fine p unbroken) (omega arith) (omega (arith, within, all))
