-- Names of the language are fields of a line.
use Rattle.std.proofs.Common.{◌≡◌, ℕ, suc, ◌==◌, ◌||◌, Bool, true, false, List, [], ◌∷◌, refl, ap, subst, ◌∙◌, arith}
use Rattle.std.specs.Prelude.{◌&&◌, not, All}
use Rattle.std.proofs.lemmas.Bool.{eqb-true}
use Rattle.oc_lex.specs.Bytes.{is_digit, begins_name, in_name}
use Rattle.oc_lex.specs.Stands.{IsName}
use Rattle.oc_tree.specs.Names.{Text}
use Rattle.oc_items.specs.OneText.{ends_field, is_field, NamesAreFields}

-- what begins a name may go on in it
goes_on : (b : ℕ) → begins_name b ≡ true → in_name b ≡ true
unfolding in_name
goes_on b h = ap (λ x. x || is_digit b) h

-- a byte of a name ends no field
no_end : (b : ℕ) → in_name b ≡ true → ends_field b ≡ false
unfolding begins_name in_name
no_end b h = by (b == 32) (b == 10) refl refl
  where
    by : (space feed : Bool) → (b == 32) ≡ space → (b == 10) ≡ feed → space || feed ≡ false
    by true feed e f = absurd (let is = subst (λ n. in_name n ≡ true) (eqb-true b 32 e) h in cc)
    by false true e f = absurd (let is = subst (λ n. in_name n ≡ true) (eqb-true b 10 f) h in cc)
    by false false e f = refl

one_more : (b : ℕ) (rest : List ℕ) → in_name b ≡ true → is_field rest ≡ true → is_field (b ∷ rest) ≡ true
one_more b rest h k = ap (λ e. not e && is_field rest) (no_end b h) ∙ k

all_go_on : (bytes : List ℕ) → All (λ b. in_name b ≡ true) bytes → is_field bytes ≡ true
all_go_on [] h = refl
all_go_on (b ∷ rest) h = one_more b rest (h 0 b (omega arith)) (all_go_on rest (λ i d l. h (suc i) d (omega (arith, l))))

pub names_fit : NamesAreFields
names_fit [] h = absurd h
names_fit (b ∷ rest) h = one_more b rest (goes_on b h.0) (all_go_on rest h.1)

pub all_fit : (xs : List Text) → All IsName xs → All (λ x. is_field x ≡ true) xs
all_fit xs h i d l = names_fit _ (h i d l).0
