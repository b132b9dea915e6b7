-- Rows that are added one by one.
use Rattle.std.proofs.Common.{ℕ, suc, ◌+◌, ◌-◌, ◌<◌, ◌≡◌, List, ◌++◌, ap, sym, ◌∙◌, append_assoc, arith}
use Rattle.oc_drill.specs.Drill.{rows}

pub row_on : (row : ℕ → List ℕ) (text next : List ℕ) (k n : ℕ) (whole : List ℕ) → k < n → next ≡ text ++ row k → text ++ rows row k (n - k) ≡ whole → next ++ rows row (k + 1) (n - (k + 1)) ≡ whole
row_on row text next k n whole h e i =
    let m : n - k ≡ suc (n - (k + 1)) = omega arith in
    ap (λ s. s ++ rows row (k + 1) (n - (k + 1))) e ∙ append_assoc text (row k) (rows row (k + 1) (n - (k + 1))) ∙ sym (ap (λ r. text ++ rows row k r) m) ∙ i
