use Rattle.std.proofs.Common.{arith, refl, sym, subst}
use Rattle.oc_lex.specs.Tokens.{Lexed, none}
use Rattle.oc_lex.proofs.LoopLaws.{lexed_more, line_next, within_next}
use Rattle.oc_lex.proofs.lexer.read_all.Goals as goal

pub loop-at-init : goal.loop-at-init
loop-at-init c = record { within = omega arith; so_far = subst (λ ts. Lexed c.args.source.now 0 ts 0) (sym c.new-tokens.ensures.items) none; lines = refl }

pub loop-at-preserved : goal.loop-at-preserved
loop-at-preserved c =
    let i = c.loop-at.invariant in
    record {
      within = within_next c.args.source.now c.loop-at.at c.in-Some.count c.in-Some.piece c.loop-at-test.true c.in-Some.ensures;
      so_far = lexed_more c.args.source.now c.loop-at.at c.in-Some.count c.loop-at.line c.loop-at.tokens.items c.add.new.tokens.items c.in-Some.piece c.in_ok-kind.kind
          c.in-Some.ensures c.in_ok-kind.ensures i.lines i.so_far c.in_ok-add.ensures.added;
      lines = line_next c.args.source.now c.loop-at.at c.in-Some.count c.loop-at.line c.line_after-line.result c.in-Some.piece c.in-Some.ensures i.lines c.line_after-line.ensures;
    }
