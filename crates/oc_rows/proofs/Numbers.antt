-- Nineteen digits fit a 64-bit word.
use Rattle.std.proofs.Common.{ℕ, ◌^◌, ◌<◌, arith, lit<}
use Rattle.std.proofs.Math.Nat.{pow-le-pow_right}

pub eighteen : (number index : ℕ) → number < 10 ^ index → index < 19 → number < 10 ^ 18
eighteen number index small within = omega (arith, pow-le-pow_right {n = 10} (lit< tt) {i = index} {j = 18} (omega arith))
