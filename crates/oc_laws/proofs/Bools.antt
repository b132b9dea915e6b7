-- Tests joined by 'or' and 'and'.
use Rattle.std.proofs.Common.{◌≡◌, Bool, true, false, refl, sym}
use Rattle.std.specs.Prelude.{◌||◌}

pub or_false : (a b : Bool) → b ≡ false → a || b ≡ a
or_false true b h = refl
or_false false b h = h

-- two tests that pass together are the same
pub both_ways : (a b : Bool) → (a ≡ true → b ≡ true) → (b ≡ true → a ≡ true) → a ≡ b
both_ways true b f g = sym (f refl)
both_ways false true f g = g refl
both_ways false false f g = refl
