-- What may be absent.
use Rattle.std.proofs.Common.{◌≡◌, refl, true≢false, false, Option, Some, None, is_some}

pub none_is : {A : Type 0} (o : Option A) → is_some o ≡ false → o ≡ None
none_is None h = refl
none_is (Some x) h = absurd (true≢false h)
