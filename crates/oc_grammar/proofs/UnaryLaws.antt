-- The reading of a unary, by its first token.
use Rattle.std.proofs.Common.{◌≡◌, ℕ, zero, suc, ◌-◌, ◌<◌, arith, refl}
use Rattle.oc_grammar.specs.Limits.{Limits}
use Rattle.oc_grammar.specs.Lexemes.{Lexemes}
use Rattle.oc_grammar.specs.ReadingExpressions.{unary_at, prefixed_at, inner_at, args_at, inner_args_at, inner_sensor_at, unary_here}

module _ (limits : Limits) where
  pub unary_is : (room n : ℕ) (ts : Lexemes) → unary_at limits room n ts ≡ unary_here limits room n ts
  unfolding unary_at unary_here prefixed_at inner_at inner_args_at inner_sensor_at args_at
  unary_is zero n ts = refl
  unary_is (suc room) n ts = refl

  pub prefixed_is : (room n : ℕ) (ts : Lexemes) → 0 < room → prefixed_at limits room n ts ≡ unary_here limits (room - 1) n ts
  unfolding prefixed_at
  prefixed_is zero n ts h = absurd (omega arith)
  prefixed_is (suc room) n ts h = let e : suc room - 1 ≡ room = omega arith in rw e (unary_is room n ts)
