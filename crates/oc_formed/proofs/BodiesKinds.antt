-- What a statement has besides the statements inside it: the names that it declares, and the counts and words that
-- the rules and the form of a program bound.
use Rattle.std.proofs.Common.{◌≡◌, ◌<◌, ◌≤◌, ℕ, ◌+◌, Bool, true, false, true≢false, List, ◌∷◌, Option, Some, None, refl, ap, sym, ◌∙◌, arith}
use Rattle.std.specs.Prelude.{ℤ, pos, neg_ℤ, ◌⊎◌, nat_lt}
use Rattle.std.proofs.lemmas.Bool.{ltb-false}
use mathlib.Core.Logic.{inl, inr}
use Rattle.oc_tree.specs.Names.{Text}
use Rattle.oc_tree.specs.Word.{is_word}
use Rattle.oc_tree.specs.Tree.{TExpr, TKind, let_to, let_array, for_in, while_do, return, TBlock, stmt, TStmts, no_stmts, more, TProgram}
use Rattle.oc_tree.specs.declared.tree.Scalar.{Scalar}
use Rattle.oc_tree.specs.declared.tree.Scalar.TheVariants as scalars
use Rattle.oc_tree.specs.declared.tree.ValueKind.TheVariants as kinds
use Rattle.oc_tree.specs.Form.{IsConst}
use Rattle.oc_tree.specs.Types.{right_type}
use Rattle.oc_tree.specs.Elements.{Here, kind_of, let_var, scope_after, turn_var, in_turn}
use Rattle.oc_tree.specs.Rules.{takes_name, written_bad_length, is_bad_length, let_bad_length, has_many_turns, is_return, stmts_return}
use Rattle.oc_code.specs.Scope.{Named, kind_words, let_named, in_scope, for_named}
use Rattle.oc_checked.proofs.BodiesPass.{first_fails, second_fails}
use Rattle.oc_formed.proofs.ScopesSeen.{Finds, AllFound, found_more}

-- ---- what statements declare

-- the type of a right side is one word
one_word : (t : Option Scalar) → 1 ≡ kind_words (kind_of t)
one_word None = refl
one_word (Some scalars.Int) = refl
one_word (Some scalars.Bool) = refl

-- what is visible behind a statement is found there
pub found_behind : (p : TProgram) (h : Here) (γ : List Named) (id s : ℕ) (k : TKind) (rest : TStmts) → takes_name p h.scope k ≡ false → AllFound p h.scope γ
    → AllFound p (scope_after p h id k) (in_scope k s rest γ)
found_behind p h γ id s (let_to m x t r) rest free all =
    let kind = kind_of (right_type p h.scope r) in
    let one : Finds (let_named x s 1 rest) (let_var h id m kind) = record { words = one_word (right_type p h.scope r); reference = refl; writable = refl } in
    found_more p h.scope γ (let_var h id m kind) (let_named x s 1 rest) one free all
found_behind p h γ id s (let_array m x t z n) rest free all =
    let one : Finds (let_named x (s + 1) n rest) (let_var h id m (kinds.Array n)) = record { words = refl; reference = refl; writable = refl } in
    found_more p h.scope γ (let_var h id m (kinds.Array n)) (let_named x (s + 1) n rest) one free all
found_behind p h γ id s k rest free all = all

-- what is visible in the body of a `for` is found there
pub found_inside : (p : TProgram) (h : Here) (γ : List Named) (s : ℕ) (x : Text) (from to : ℤ) (b : TBlock) → takes_name p h.scope (for_in x from to b) ≡ false
    → AllFound p h.scope γ → AllFound p (in_turn h x).scope (for_named x s ∷ γ)
found_inside p h γ s x from to b free all =
    let one : Finds (for_named x s) turn_var = record { words = refl; reference = refl; writable = refl } in
    found_more p h.scope γ turn_var (for_named x s) one free all

-- ---- counts and words

-- an array has a length from 1 to 65,536
pub array_length : (m : Bool) (x : Text) (t : _) (z : ℤ) (n : ℕ) → let_bad_length (let_array m x t z n) ≡ false → (1 ≤ n) × (n ≤ 65536)
array_length m x t z n h =
    let bad = second_fails (written_bad_length t) (is_bad_length n) h in
    (ltb-false n 1 (first_fails (nat_lt n 1) (nat_lt 65536 n) bad), ltb-false 65536 n (second_fails (nat_lt n 1) (nat_lt 65536 n) bad))

-- a `while` has at most 65,535 turns
pub few_turns : (c : TExpr) (n : ℕ) (b : TBlock) → has_many_turns (while_do c n b) ≡ false → n < 65536
few_turns c n b h = let low : n ≤ 65535 = ltb-false 65535 n h in omega (arith, low)

-- a number that a source can say is a word
pub const_word : (z : ℤ) → IsConst z → is_word z ≡ true
const_word z c = by c.1
  where
    plain : (n : ℕ) → n ≤ 2147483647 → is_word (pos n) ≡ true
    plain n h = grind (arith, h)

    opposite : (n : ℕ) → n ≤ 2147483647 → is_word (neg_ℤ (pos n)) ≡ true
    opposite n h = grind (arith, h)

    by : (z ≡ pos c.0) ⊎ (z ≡ neg_ℤ (pos c.0)) → is_word z ≡ true
    by (inl e) = ap is_word e ∙ plain c.0 c.2
    by (inr e) = ap is_word e ∙ opposite c.0 c.2

-- ---- returns

-- a `return`
abbrev pub returns : TKind → Bool
returns (return e) = true
returns k = false

-- the same test of a statement
same_test : (n line : ℕ) (k : TKind) → is_return (stmt n line k) ≡ returns k
same_test n line (return e) = refl
same_test n line k = refl

-- a function that returns does so behind a statement that is no `return`
pub returns_later : (n line : ℕ) (k : TKind) (rest : TStmts) → returns k ≡ false → stmts_return (more (stmt n line k) rest) ≡ true → stmts_return rest ≡ true
returns_later n line k (more s rest) other h = h
returns_later n line k no_stmts other h = absurd (true≢false (sym h ∙ (same_test n line k ∙ other)))
