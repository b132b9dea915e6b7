-- One of two facts.
use Rattle.std.proofs.Common.{◌⊎◌, inl, inr}

pub by_side : {A B C : Type 0} → A ⊎ B → (A → C) → (B → C) → C
by_side (inl x) f g = f x
by_side (inr y) f g = g y
