use Rattle.std.proofs.Common.{◌≡◌, ◌+◌, ◌-◌, ◌≤◌, length, take}
use Rattle.oc_lex.specs.Tokens.{Lexed}
use Rattle.oc_io.specs.Counts.{line_feeds}
use Rattle.oc_lex.proofs.lexer.read_all.Given as goal

abbrev pub invariant-loop-at : goal.invariant-loop-at
invariant-loop-at l = record { within : l.at ≤ length l.source; so_far : Lexed l.source 0 l.tokens.items l.at; lines : l.line ≡ 1 + line_feeds (take l.at l.source) }

abbrev pub decreases-loop-at : goal.decreases-loop-at
decreases-loop-at l = length l.source - l.at
