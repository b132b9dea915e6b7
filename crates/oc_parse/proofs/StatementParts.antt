-- Statements with blocks, whose parts behind the first one the code reads by functions of their own.
use Rattle.std.proofs.Common.{◌≡◌, ℕ, ℤ, Ok, refl, sym, ◌∙◌}
use Rattle.oc_tree.specs.Names.{Text}
use Rattle.oc_tree.specs.Tree.{TExpr, TKind, TBlock, for_in, while_do}
use Rattle.oc_lex.specs.declared.token.Mark.TheVariants as marks
use Rattle.oc_lex.specs.declared.token.Word.TheVariants as words
use Rattle.oc_grammar.specs.Limits.{the_depths}
use Rattle.oc_grammar.specs.Lexemes.{Lexemes}
use Rattle.oc_grammar.specs.Reading.{◌>>=◌, expect_mark, expect_word, name_at, number_at}
use Rattle.oc_grammar.specs.ReadingExpressions.{whole_at}
use Rattle.oc_grammar.specs.ReadingStatements.{Reader, ReadNumbered, const_at, for_by, while_by}
use Rattle.oc_grammar.proofs.FrontLaws.{bind_same}
use Rattle.oc_parse.specs.Parts.{bounded_by, ranged_by}
use Rattle.oc_parse.proofs.Loops.{binds}

abbrev for_of : Text → (ℤ × ℤ × TBlock) × ℕ × ℕ × Lexemes → ReadNumbered TKind
for_of x t = Ok (for_in x t.0.0 t.0.1 t.0.2, t.1, t.2, t.3)

pub for_parts : (body : Reader TBlock) (n b : ℕ) (ts : Lexemes) → for_by body n b ts ≡ (name_at ts >>= λ x. ranged_by body n b x.1 >>= for_of x.0)
unfolding for_by ranged_by
for_parts body n b ts =
    bind_same (name_at ts) _ _ (λ x h. sym (
    binds (expect_word words.In x.1) _ (for_of x.0) _ (λ us.
    binds (const_at us) _ (for_of x.0) _ (λ i.
    binds (expect_mark marks.Range i.1) _ (for_of x.0) _ (λ vs.
    binds (const_at vs) _ (for_of x.0) _ (λ j.
    binds (body n b j.1) _ (for_of x.0) _ (λ t. refl)))))))

pub for_is : (body : Reader TBlock) (n b : ℕ) (ts : Lexemes) (x : Text) (us : Lexemes) (i j : ℤ) (t : TBlock) (n' b' : ℕ) (vs : Lexemes) → name_at ts ≡ Ok (x, us)
    → ranged_by body n b us ≡ Ok ((i, j, t), n', b', vs) → for_by body n b ts ≡ Ok (for_in x i j t, n', b', vs)
for_is body n b ts x us i j t n' b' vs h g = for_parts body n b ts ∙ rw (h, g) refl

abbrev while_of : TExpr → (ℕ × TBlock) × ℕ × ℕ × Lexemes → ReadNumbered TKind
while_of c t = Ok (while_do c t.0.0 t.0.1, t.1, t.2, t.3)

pub while_parts : (body : Reader TBlock) (n b : ℕ) (ts : Lexemes) → while_by the_depths body n b ts ≡ (whole_at the_depths ts >>= λ c. bounded_by body n b c.1 >>= while_of c.0)
unfolding while_by bounded_by
while_parts body n b ts =
    bind_same (whole_at the_depths ts) _ _ (λ c h. sym (
    binds (expect_word words.Bound c.1) _ (while_of c.0) _ (λ us.
    binds (number_at us) _ (while_of c.0) _ (λ z.
    binds (body n b z.1) _ (while_of c.0) _ (λ t. refl)))))

pub while_is : (body : Reader TBlock) (n b : ℕ) (ts : Lexemes) (c : TExpr) (us : Lexemes) (z : ℕ) (t : TBlock) (n' b' : ℕ) (vs : Lexemes) → whole_at the_depths ts ≡ Ok (c, us)
    → bounded_by body n b us ≡ Ok ((z, t), n', b', vs) → while_by the_depths body n b ts ≡ Ok (while_do c z t, n', b', vs)
while_is body n b ts c us z t n' b' vs h g = while_parts body n b ts ∙ rw (h, g) refl
