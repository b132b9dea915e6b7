-- Statements without blocks, whose parts the code reads by functions of their own.
use Rattle.std.proofs.Common.{◌≡◌, Ok, refl, sym, ◌∙◌}
use Rattle.oc_tree.specs.Names.{Text}
use Rattle.oc_tree.specs.Tree.{TExpr, TRight, TKind, assign_index, assign_deref, emit, return}
use Rattle.oc_lex.specs.declared.token.Mark.TheVariants as marks
use Rattle.oc_grammar.specs.Limits.{the_depths}
use Rattle.oc_grammar.specs.Lexemes.{Lexemes}
use Rattle.oc_grammar.specs.Statements.{right_of}
use Rattle.oc_grammar.specs.Reading.{Read, ◌>>=◌, expect_mark, name_at}
use Rattle.oc_grammar.specs.ReadingExpressions.{whole_at}
use Rattle.oc_grammar.specs.ReadingStatements.{right_at, element_to_at, target_at, emit_at, return_at}
use Rattle.oc_grammar.proofs.FrontLaws.{bind_same}
use Rattle.oc_parse.specs.Parts.{ended_at, assigned_at, emitted_at}
use Rattle.oc_parse.proofs.Loops.{binds}

abbrev right_from : TExpr × Lexemes → Read TRight
right_from e = Ok (right_of e.0, e.1)

pub right_parts : (ts : Lexemes) → right_at the_depths ts ≡ (ended_at marks.Semicolon ts >>= right_from)
unfolding right_at ended_at
right_parts ts =
    sym (
    binds (whole_at the_depths ts) _ right_from _ (λ e.
    binds (expect_mark marks.Semicolon e.1) _ right_from _ (λ us. refl)))

abbrev returned : TExpr × Lexemes → Read TKind
returned e = Ok (return e.0, e.1)

pub return_parts : (ts : Lexemes) → return_at the_depths ts ≡ (ended_at marks.Semicolon ts >>= returned)
unfolding return_at ended_at
return_parts ts =
    sym (
    binds (whole_at the_depths ts) _ returned _ (λ e.
    binds (expect_mark marks.Semicolon e.1) _ returned _ (λ us. refl)))

pub return_is : (ts : Lexemes) (e : TExpr) (us : Lexemes) → ended_at marks.Semicolon ts ≡ Ok (e, us) → return_at the_depths ts ≡ Ok (return e, us)
return_is ts e us h = return_parts ts ∙ rw h refl

abbrev indexed : Text → TExpr → TRight × Lexemes → Read TKind
indexed x j r = Ok (assign_index x j r.0, r.1)

abbrev indexed_from : Text → TExpr × Lexemes → Read TKind
indexed_from x j = assigned_at j.1 >>= indexed x j.0

pub element_to_parts : (x : Text) (ts : Lexemes) → element_to_at the_depths x ts ≡ (ended_at marks.CloseSquare ts >>= λ j. assigned_at j.1 >>= indexed x j.0)
unfolding element_to_at ended_at assigned_at
element_to_parts x ts =
    sym (
    binds (whole_at the_depths ts) _ (indexed_from x) _ (λ j.
    binds (expect_mark marks.CloseSquare j.1) _ (indexed_from x) _ (λ us.
    binds (expect_mark marks.Assign us) _ (indexed x j.0) _ (λ vs. refl))))

pub element_to_is : (x : Text) (ts : Lexemes) (j : TExpr) (us : Lexemes) (r : TRight) (vs : Lexemes) → ended_at marks.CloseSquare ts ≡ Ok (j, us) → assigned_at us ≡ Ok (r, vs)
    → element_to_at the_depths x ts ≡ Ok (assign_index x j r, vs)
element_to_is x ts j us r vs h g = element_to_parts x ts ∙ rw (h, g) refl

abbrev targeted : Text → TRight × Lexemes → Read TKind
targeted x r = Ok (assign_deref x r.0, r.1)

pub target_parts : (ts : Lexemes) → target_at the_depths ts ≡ (name_at ts >>= λ x. assigned_at x.1 >>= targeted x.0)
unfolding target_at assigned_at
target_parts ts = bind_same (name_at ts) _ _ (λ x h. sym (binds (expect_mark marks.Assign x.1) _ (targeted x.0) _ (λ us. refl)))

pub target_is : (ts : Lexemes) (x : Text) (us : Lexemes) (r : TRight) (vs : Lexemes) → name_at ts ≡ Ok (x, us) → assigned_at us ≡ Ok (r, vs) → target_at the_depths ts ≡ Ok (assign_deref x r, vs)
target_is ts x us r vs h g = target_parts ts ∙ rw (h, g) refl

abbrev emits : Text → TExpr × Lexemes → Read TKind
emits p v = Ok (emit p v.0, v.1)

abbrev emitted_on : TExpr × Lexemes → Read TExpr
emitted_on v = expect_mark marks.Semicolon v.1 >>= λ us. Ok (v.0, us)

pub emit_parts : (ts : Lexemes) → emit_at the_depths ts ≡ (expect_mark marks.OpenRound ts >>= λ us. name_at us >>= λ p. emitted_at p.1 >>= emits p.0)
unfolding emit_at emitted_at ended_at
emit_parts ts =
    bind_same (expect_mark marks.OpenRound ts) _ _ (λ us h.
    bind_same (name_at us) _ _ (λ p g. sym (
    binds (expect_mark marks.Comma p.1) _ (emits p.0) _ (λ vs.
    binds (whole_at the_depths vs >>= λ e. expect_mark marks.CloseRound e.1 >>= λ ws. Ok (e.0, ws)) emitted_on (emits p.0) (λ v. emitted_on v >>= emits p.0) (λ v. refl)
    ∙ binds (whole_at the_depths vs) (λ e. expect_mark marks.CloseRound e.1 >>= λ ws. Ok (e.0, ws)) (λ v. emitted_on v >>= emits p.0)
    (λ v. expect_mark marks.CloseRound v.1 >>= λ ws. expect_mark marks.Semicolon ws >>= λ us. Ok (emit p.0 v.0, us)) (λ v.
    binds (expect_mark marks.CloseRound v.1) (λ ws. Ok (v.0, ws)) (λ v. emitted_on v >>= emits p.0)
    (λ ws. expect_mark marks.Semicolon ws >>= λ us. Ok (emit p.0 v.0, us)) (λ ws.
    binds (expect_mark marks.Semicolon ws) (λ us. Ok (v.0, us)) (emits p.0) (λ us. Ok (emit p.0 v.0, us)) (λ us. refl)))))))

pub emit_is : (ts us : Lexemes) (p : Text) (vs : Lexemes) (v : TExpr) (ws : Lexemes) → expect_mark marks.OpenRound ts ≡ Ok us → name_at us ≡ Ok (p, vs) → emitted_at vs ≡ Ok (v, ws)
    → emit_at the_depths ts ≡ Ok (emit p v, ws)
emit_is ts us p vs v ws h g f = emit_parts ts ∙ rw (h, g, f) refl
