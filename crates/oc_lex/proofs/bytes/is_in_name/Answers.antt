use Rattle.std.proofs.Common.{◌≡◌, ℕ, Bool, true, false, refl, sym, ◌∙◌}
use Rattle.std.specs.Prelude.{◌||◌, ◌==◌}
use Rattle.oc_lex.specs.Bytes.{begins_name, in_name, in_number, is_digit, is_letter}
use Rattle.oc_lex.proofs.bytes.is_in_name.Goals as goal

joined : (letter underscore digit : Bool) → letter ≡ false → (underscore || digit) ≡ ((letter || underscore) || digit)
joined false underscore digit e = refl
joined true underscore digit e = absurd cc

no_letter : (b : ℕ) → is_letter b ≡ false → in_number b ≡ in_name b
unfolding begins_name in_name in_number
no_letter b e = joined (is_letter b) (b == 95) (is_digit b) e

pub returns-else-is_letter : goal.returns-else-is_letter
returns-else-is_letter c = c.is_in_number.ensures ∙ no_letter c.args.byte (sym c.is_letter.ensures ∙ c.if-is_letter.false)
