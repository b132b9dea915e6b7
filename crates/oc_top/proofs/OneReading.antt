-- A source reads in one way.
use Rattle.std.proofs.Common.{Bool, false, ℕ, ◌≡◌, ◌∙◌, sym, ap, subst, List, inl, inr, Option, Some}
use Rattle.oc_tree.specs.Tree.{TProgram}
use Rattle.oc_tree.specs.Broken.{broken}
use Rattle.oc_tree.specs.declared.broken.Broken.{Broken}
use Rattle.oc_lex.specs.declared.token.Token.{Token}
use Rattle.oc_lex.proofs.TokenLaws.{tokens_same, not_both, faults_same}
use Rattle.oc_grammar.specs.Limits.{the_depths}
use Rattle.oc_grammar.specs.Lexemes.{Lexemes, lexemes_in}
use Rattle.oc_grammar.specs.Programs.{SpellsProgram}
use Rattle.oc_grammar.proofs.ProgramLaws.{one_program}
use Rattle.oc_grammar.proofs.OneFault.{spelled_no_syntax, spelled_no_depth, one_syntax, syntax_or_depth, one_depth}
use Rattle.oc_top.specs.Faults.{HasFaultAt, token_line}
use Rattle.oc_top.specs.Sources.{Reading, faulty, breaks, program, place_of, line_at, IsFaultyIn, no_tokens, no_tree, SpellsIn, ReadsAs, ReadsIn}

-- tokens have one fault, and none where they spell a program
one_fault : (tokens : Lexemes) (a b : ℕ) → HasFaultAt tokens a → HasFaultAt tokens b → a ≡ b
one_fault tokens a b (inl f) (inl g) = one_syntax tokens a b f g
one_fault tokens a b (inl f) (inr g) = absurd (syntax_or_depth tokens a b f g)
one_fault tokens a b (inr f) (inl g) = absurd (syntax_or_depth tokens b a g f)
one_fault tokens a b (inr f) (inr g) = one_depth tokens a b f g

no_fault : (tokens : Lexemes) (p : TProgram) (a : ℕ) → SpellsProgram the_depths p tokens → HasFaultAt tokens a → ⊥
no_fault tokens p a s (inl f) = spelled_no_syntax tokens p a s f
no_fault tokens p a s (inr f) = spelled_no_depth tokens p a s f

some_same : (a b : Broken) → ◌≡◌ {A = Option Broken} (Some a) (Some b) → a ≡ b
some_same a b e = cc

module _ (atomic : Bool) (text : List ℕ) where
  one_line : (m n : ℕ) → IsFaultyIn atomic text m → IsFaultyIn atomic text n → m ≡ n
  one_line m n (no_tokens f a i) (no_tokens g b j) = i ∙ ap (λ x. line_at text (place_of x)) (faults_same text f g a b) ∙ sym j
  one_line m n (no_tokens f a i) (no_tree us b u d j) = absurd (not_both text us f b a)
  one_line m n (no_tree ts a t c i) (no_tokens g b j) = absurd (not_both text ts g a b)
  one_line m n (no_tree ts a t c i) (no_tree us b u d j) =
      let same = tokens_same text ts us a b in
      let d' = subst (λ (vs : List Token). HasFaultAt (lexemes_in atomic text vs) u) same d in
      i ∙ ap (λ k. token_line (lexemes_in atomic text ts) k) (one_fault (lexemes_in atomic text ts) t u c d') ∙ sym (ap (λ vs. token_line (lexemes_in atomic text vs) u) same) ∙ sym j

  not_faulty : (line : ℕ) (p : TProgram) → SpellsIn atomic text p → IsFaultyIn atomic text line → ⊥
  not_faulty line p s (no_tokens f a i) = not_both text s.tokens f s.are_tokens a
  not_faulty line p s (no_tree ts a t c i) =
      let same = tokens_same text ts s.tokens a s.are_tokens in
      no_fault (lexemes_in atomic text ts) p t (subst (λ (vs : List Token). SpellsProgram the_depths p (lexemes_in atomic text vs)) same s.spelled) c

  same_program : (p q : TProgram) → SpellsIn atomic text p → SpellsIn atomic text q → p ≡ q
  same_program p q s t =
      let same = tokens_same text s.tokens t.tokens s.are_tokens t.are_tokens in
      one_program the_depths (lexemes_in atomic text s.tokens) p q s.spelled (subst (λ (vs : List Token). SpellsProgram the_depths q (lexemes_in atomic text vs)) same t.spelled)

  same_broken : (p q : TProgram) → SpellsIn atomic text p → SpellsIn atomic text q → broken p ≡ broken q
  same_broken p q s t = ap broken (same_program p q s t)

  pub one_reading_in : (r s : Reading) → ReadsIn atomic text r → ReadsIn atomic text s → r ≡ s
  one_reading_in (faulty m) (faulty n) a b = ap faulty (one_line m n a b)
  one_reading_in (faulty m) (breaks n) a b = absurd (not_faulty m b.0 b.1 a)
  one_reading_in (faulty m) (program q) a b = absurd (not_faulty m q b.0 a)
  one_reading_in (breaks m) (faulty n) a b = absurd (not_faulty n a.0 a.1 b)
  one_reading_in (breaks m) (breaks n) a b = let e = sym a.2 ∙ same_broken a.0 b.0 a.1 b.1 ∙ b.2 in ap breaks (some_same m n e)
  one_reading_in (breaks m) (program q) a b = let e = sym a.2 ∙ same_broken a.0 q a.1 b.0 ∙ b.1 in cc e
  one_reading_in (program p) (faulty n) a b = absurd (not_faulty n p a.0 b)
  one_reading_in (program p) (breaks n) a b = let e = sym b.2 ∙ same_broken b.0 p b.1 a.0 ∙ a.1 in cc e
  one_reading_in (program p) (program q) a b = ap program (same_program p q a.0 b.0)

pub same_line : (m n : ℕ) → ◌≡◌ {A = Reading} (faulty m) (faulty n) → m ≡ n
same_line m n e = cc

pub same_rule : (m n : Broken) → ◌≡◌ {A = Reading} (breaks m) (breaks n) → m ≡ n
same_rule m n e = cc

pub same_tree : (p q : TProgram) → ◌≡◌ {A = Reading} (program p) (program q) → p ≡ q
same_tree p q e = cc

pub one_reading : (text : List ℕ) (r s : Reading) → ReadsAs text r → ReadsAs text s → r ≡ s
one_reading text r s a b = one_reading_in false text r s a b
