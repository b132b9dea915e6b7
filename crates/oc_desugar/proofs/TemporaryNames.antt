-- No name of the language is that of a temporary, and two temporaries have two names.
use Rattle.std.proofs.Common.{◌≡◌, ◌<◌, ◌^◌, ℕ, false, ap, sym, ◌∙◌, true≢false, drop}
use Rattle.std.specs.Str.{bytes_eq}
use Rattle.std.proofs.lemmas.Bool.{false_from_ne_true}
use Rattle.std.proofs.lemmas.Slice.Eq.{bytes_eq-Decides}
use Rattle.std.proofs.lemmas.Fmt.{decimal_injective}
use Rattle.oc_lex.specs.Stands.{IsName}
use Rattle.oc_tree.specs.Names.{Text}
use Rattle.oc_tree.specs.Expansion.{temporary}
use Rattle.oc_desugar.proofs.KeptLookups.{apart}

-- where a temporary is looked for, a name of the language isn't it
pub none_is_name : (x : Text) → IsName x → (k : ℕ) → bytes_eq (temporary k) x ≡ false
none_is_name x h k =
    false_from_ne_true (bytes_eq (temporary k) x) (λ e.
    let same : x ≡ temporary k = sym ((bytes_eq-Decides (temporary k) x).0 e) in
    true≢false (sym ((bytes_eq-Decides x (temporary k)).1 same) ∙ apart x h k))

-- nor is another temporary
pub other_temporary : (m n : ℕ) → m < 2 ^ 64 → n < 2 ^ 64 → (m ≡ n → ⊥) → bytes_eq (temporary m) (temporary n) ≡ false
other_temporary m n p q d =
    false_from_ne_true (bytes_eq (temporary m) (temporary n)) (λ e. d (decimal_injective m n p q (ap (drop 1) ((bytes_eq-Decides (temporary m) (temporary n)).0 e))))
