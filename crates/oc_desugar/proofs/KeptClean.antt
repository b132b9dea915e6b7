-- Elements that break no rule, and what they count: one after the other, and taken apart.
use Rattle.std.proofs.Common.{◌≡◌, ℕ, zero, suc, ◌+◌, Bool, true, false, List, [], ◌∷◌, ◌++◌, map, length, get_or, refl, ap, sym, subst, ◌∙◌, Option, Some, None, cond}
use Rattle.oc_lex.specs.Stands.{IsName}
use Rattle.oc_tree.specs.Tree.{TRight, TKind, let_to, TProgram}
use Rattle.oc_tree.specs.declared.tree.ValueKind.{ValueKind}
use Rattle.oc_tree.specs.declared.broken.Broken.{Broken}
use Rattle.oc_tree.specs.Names.{Text}
use Rattle.oc_tree.specs.Scope.{variable_in}
use Rattle.oc_tree.specs.Types.{right_type}
use Rattle.oc_tree.specs.Form.{KindInForm}
use Rattle.oc_tree.specs.Elements.{Here, Element, line_of, let_var, kind_of}
use Rattle.oc_tree.specs.Limits.{Tally, counted, statement_passes}
use Rattle.oc_tree.specs.Broken.{Table, statement_rules, rules_of, lowest, or_later, first_broken}
use Rattle.oc_tree.specs.Expansion.{temporary, pulled, left_right, expand_kind}
use Rattle.oc_desugar.proofs.Seen.{SameHere, IsHeld, pull_type, HeldPulls, HeldOwn}
use Rattle.oc_desugar.proofs.KeptScopes.{with_var}

-- the counts behind elements
abbrev pub tally : Tally → List Element → Tally
tally n [] = n
tally n (e ∷ es) = tally (counted n e) es

-- the counts behind two lists of elements
pub tally_join : (n : Tally) (xs ys : List Element) → tally n (xs ++ ys) ≡ tally (tally n xs) ys
tally_join n [] ys = refl
tally_join n (e ∷ xs) ys = tally_join (counted n e) xs ys

-- elements break no rule, and these are the counts behind them
pub record Clean (q : TProgram) (n : Tally) (es : List Element) (end : Tally) : Type 0 where
  pub clean : first_broken q n es ≡ None
  pub counts : tally n es ≡ end

-- nothing is there
pub clean_none : (q : TProgram) (n end : Tally) → n ≡ end → Clean q n [] end
clean_none q n end e = record { clean = refl; counts = e }

-- an element that breaks no rule, and those behind it
pub clean_first : (q : TProgram) (n : Tally) (e : Element) (es : List Element) (end : Tally) → lowest (rules_of q (counted n e) e) ≡ None → Clean q (counted n e) es end → Clean q n (e ∷ es) end
clean_first q n e es end l c =
    record {
      clean = ap (λ (o : Option ℕ). or_later (line_of e) o (first_broken q (counted n e) es)) l ∙ c.clean;
      counts = c.counts;
    }

-- ---- taken apart

-- no rule is broken now, nor later
neither : (line : ℕ) (o : Option ℕ) (later : Option Broken) → or_later line o later ≡ None → (o ≡ None) × (later ≡ None)
neither line None later h = (refl, h)
neither line (Some rule) later h = absurd (cc)

-- the first of the elements, and those behind it
pub first_clean : (q : TProgram) (n : Tally) (e : Element) (es : List Element) → first_broken q n (e ∷ es) ≡ None
    → (lowest (rules_of q (counted n e) e) ≡ None) × (first_broken q (counted n e) es ≡ None)
first_clean q n e es h = neither (line_of e) (lowest (rules_of q (counted n e) e)) (first_broken q (counted n e) es) h

-- two lists of elements
pub apart_of : (q : TProgram) (n : Tally) (xs ys : List Element) → first_broken q n (xs ++ ys) ≡ None → (first_broken q n xs ≡ None) × (first_broken q (tally n xs) ys ≡ None)
apart_of q n [] ys h = (refl, h)
apart_of q n (e ∷ xs) ys h =
    let a = first_clean q n e (xs ++ ys) h in
    let b = apart_of q (counted n e) xs ys a.1 in
    (ap (λ (o : Option ℕ). or_later (line_of e) o (first_broken q (counted n e) xs)) a.0 ∙ b.0, b.1)

-- elements, and others behind them
pub clean_join : (q : TProgram) (n : Tally) (xs ys : List Element) (middle end : Tally) → Clean q n xs middle → Clean q middle ys end → Clean q n (xs ++ ys) end
clean_join q n [] ys middle end a b = subst (λ m. Clean q m ys end) (sym a.counts) b
clean_join q n (e ∷ xs) ys middle end a b =
    let h = first_clean q n e xs a.clean in
    clean_first q n e (xs ++ ys) end h.0 (clean_join q (counted n e) xs ys middle end (record { clean = h.1; counts = a.counts }) b)

-- ---- tables

-- the test at a place of a table
abbrev test_of : Table → ℕ → Bool
test_of ts n = get_or (map (λ t. t.1) ts) n false

-- a test that says no
none_cond : (b : Bool) (n : ℕ) (o : Option ℕ) → cond b (Some n) o ≡ None → (b ≡ false) × (o ≡ None)
none_cond false n o h = (refl, h)
none_cond true n o h = absurd (cc)

-- each test of a table says no
pub not_at : (ts : Table) (n : ℕ) → lowest ts ≡ None → test_of ts n ≡ false
not_at [] n h = refl
not_at (t ∷ ts) zero h = (none_cond t.1 t.0 (lowest ts) h).0
not_at (t ∷ ts) (suc n) h = not_at ts n (none_cond t.1 t.0 (lowest ts) h).1

-- ---- what is proved of one statement

-- what statements and the `let`s of temporaries keep, one by one
pub record Laws (p q : TProgram) (f : ℕ → ℕ) : Type 0 where
  -- what is left of a statement breaks no rule
  pub statement :
      (h g : Here) (n m : Tally) (k i : ℕ) (s : TKind)
      → SameHere f h g → g.last ≡ h.last → HeldOwn p g.scope k s → KindInForm IsName s
      → lowest (statement_rules p n h s) ≡ None → statement_passes m ≡ false
      → lowest (statement_rules q m g (expand_kind k i s)) ≡ None
  -- the `let` of a temporary breaks none
  pub temporary_let :
      (h g : Here) (n m : Tally) (k : ℕ) (s : TKind) (front back : List TRight) (r : TRight)
      → SameHere f h g → pulled k s ≡ front ++ r ∷ back → HeldPulls p g.scope k front
      → variable_in g.scope (temporary (k + length front)) ≡ None → KindInForm IsName s
      → lowest (statement_rules p n h s) ≡ None → statement_passes m ≡ false
      → lowest (statement_rules q m g (let_to false (temporary (k + length front)) None r)) ≡ None
  -- behind its `let` a temporary is held
  pub held :
      (h g : Here) (n : Tally) (k at : ℕ) (s : TKind) (front back : List TRight) (r : TRight)
      → SameHere f h g → pulled k s ≡ front ++ r ∷ back → HeldPulls p g.scope k front
      → variable_in g.scope (temporary (k + length front)) ≡ None → KindInForm IsName s
      → lowest (statement_rules p n h s) ≡ None
      → IsHeld (with_var g.scope (temporary (k + length front)) (let_var g at false (kind_of (right_type q g.scope r)))) (k + length front) (pull_type p r)
  -- a right side keeps its type
  pub type_kept :
      (h g : Here) (k : ℕ) (m : Bool) (x : Text) (t : Option ValueKind) (r : TRight)
      → SameHere f h g → HeldOwn p g.scope k (let_to m x t r) → KindInForm IsName (let_to m x t r)
      → right_type q g.scope (left_right k r) ≡ right_type p h.scope r
