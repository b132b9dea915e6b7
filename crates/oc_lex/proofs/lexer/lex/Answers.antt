use Rattle.std.proofs.Common.{◌≡◌, ◌≤◌, ◌⊎◌, length}
use Rattle.std.specs.Prelude.{All}
use Rattle.oc_lex.specs.Tokens.{HasFault}
use Rattle.oc_lex.specs.Stands.{InOrder, StandsIn}
use Rattle.oc_lex.specs.declared.lexer.LexError.TheVariants.{Memory}
use Rattle.oc_lex.proofs.StandsLaws.{of_ok, tokens_stand, tokens_in_order, tokens_count}
use Rattle.oc_lex.proofs.TokenLaws.{gives_only, gives_first}
use Rattle.oc_lex.proofs.lexer.lex.Goals as goal

pub returns-clause-stand : goal.returns-clause-stand
returns-clause-stand c = of_ok c.args.source.now (λ ts. All (StandsIn c.args.source.now) ts) (tokens_stand c.args.source.now) (λ e. (e ≡ Memory) ⊎ HasFault c.args.source.now e)
    c.read_all.result c.read_all.ensures

pub returns-clause-order : goal.returns-clause-order
returns-clause-order c = of_ok c.args.source.now (λ ts. InOrder 0 ts (length c.args.source.now)) (tokens_in_order c.args.source.now)
    (λ e. (e ≡ Memory) ⊎ HasFault c.args.source.now e) c.read_all.result c.read_all.ensures

pub returns-clause-count : goal.returns-clause-count
returns-clause-count c = of_ok c.args.source.now (λ ts. length ts ≤ length c.args.source.now) (tokens_count c.args.source.now) (λ e. (e ≡ Memory) ⊎ HasFault c.args.source.now e)
    c.read_all.result c.read_all.ensures

pub returns-clause-only : goal.returns-clause-only
returns-clause-only c = gives_only c.args.source.now c.read_all.result c.read_all.ensures

pub returns-clause-first : goal.returns-clause-first
returns-clause-first c = gives_first c.args.source.now c.read_all.result c.read_all.ensures
