-- The loop over the items of a program, one turn at a time, and the parts of a declaration.
use Rattle.std.proofs.Common.{◌≡◌, ℕ, ◌<◌, [], ◌∷◌, length, Result, Ok, refl, sym, ◌∙◌, arith}
use Rattle.oc_tree.specs.Names.{Text}
use Rattle.oc_tree.specs.Tree.{TProgram}
use Rattle.oc_tree.specs.declared.tree.NvDecl.{NvDecl}
use Rattle.oc_lex.specs.declared.token.Mark.TheVariants as marks
use Rattle.oc_grammar.specs.Limits.{the_depths}
use Rattle.oc_grammar.specs.Lexemes.{Lexemes}
use Rattle.oc_grammar.specs.Reading.{Fault, Read, ◌>>=◌, expect_mark, name_at}
use Rattle.oc_grammar.specs.ReadingStatements.{const_at}
use Rattle.oc_grammar.specs.ReadingPrograms.{cells_at, nv_at, item_at, items_by, items_at}
use Rattle.oc_grammar.proofs.FrontLaws.{bind_same}
use Rattle.oc_grammar.proofs.Turns.{next_items, items_go}
use Rattle.oc_parse.specs.declared.stop.Stop.{Stop}
use Rattle.oc_parse.specs.Steps.{Stopped}
use Rattle.oc_parse.specs.Parts.{declaration_at}
use Rattle.oc_parse.proofs.Loops.{binds, stopped_bind, stopped_along}

items_turn : (p : TProgram) (n b : ℕ) (ts : Lexemes) → 0 < length ts → items_at the_depths p n b ts ≡ (item_at the_depths p n b ts >>= next_items the_depths)
items_turn p n b [] h = absurd (omega arith)
items_turn p n b (t ∷ ts) h = items_go the_depths p n b t ts

pub items_go_on : (p : TProgram) (n b : ℕ) (ts : Lexemes) (q : TProgram) (n' b' : ℕ) (us : Lexemes) (total : Result TProgram Fault) → 0 < length ts → item_at the_depths p n b ts
    ≡ Ok (q, n', b', us) → items_at the_depths p n b ts ≡ total → items_at the_depths q n' b' us ≡ total
items_go_on p n b ts q n' b' us total h e so_far =
    let one : (item_at the_depths p n b ts >>= next_items the_depths) ≡ items_at the_depths q n' b' us = rw e refl in
    sym (items_turn p n b ts h ∙ one) ∙ so_far

pub items_stop : (p : TProgram) (n b : ℕ) (ts : Lexemes) (s : Stop) (total : Result TProgram Fault) → 0 < length ts → Stopped s (item_at the_depths p n b ts)
    → items_at the_depths p n b ts ≡ total → Stopped s total
items_stop p n b ts s total h d so_far =
    stopped_along s (item_at the_depths p n b ts >>= next_items the_depths) total (sym (items_turn p n b ts h) ∙ so_far) (stopped_bind s (item_at the_depths p n b ts) (next_items the_depths) d)

pub items_end : (p : TProgram) (n b : ℕ) (ts : Lexemes) (total : Result TProgram Fault) → length ts ≡ 0 → items_at the_depths p n b ts ≡ total → total ≡ Ok p
unfolding items_by items_at
items_end p n b [] total h so_far = sym so_far
items_end p n b (t ∷ ts) total h so_far = absurd (omega arith)

-- ---- a nonvolatile variable

abbrev named_nv : Text → NvDecl × Lexemes → Read (Text × NvDecl)
named_nv x d = Ok ((x, d.0), d.1)

pub nv_parts : (ts : Lexemes) → nv_at ts ≡ (name_at ts >>= λ x. declaration_at x.1 >>= named_nv x.0)
unfolding nv_at declaration_at
nv_parts ts =
    bind_same (name_at ts) _ _ (λ x h. sym (
    binds (expect_mark marks.Colon x.1) _ (named_nv x.0) _ (λ us.
    binds (cells_at us) _ (named_nv x.0) _ (λ c.
    binds (expect_mark marks.Assign c.1) _ (named_nv x.0) _ (λ vs.
    binds (const_at vs) _ (named_nv x.0) _ (λ i.
    binds (expect_mark marks.Semicolon i.1) _ (named_nv x.0) _ (λ ws. refl)))))))
