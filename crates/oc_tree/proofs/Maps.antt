-- Laws of maps over what may be absent.
use Rattle.std.proofs.Common.{◌≡◌, refl, Bool, true, false, Option, Some, None, cond}
use Rattle.std.specs.Option.{option_map, option_or}

-- the first of two
pub map_or : {A B : Type 0} (f : A → B) (a b : Option A) → option_map f (option_or a b) ≡ option_or (option_map f a) (option_map f b)
map_or f None b = refl
map_or f (Some x) b = refl

-- one of two
pub map_cond : {A B : Type 0} (f : A → B) (c : Bool) (a b : Option A) → option_map f (cond c a b) ≡ cond c (option_map f a) (option_map f b)
map_cond f true a b = refl
map_cond f false a b = refl
