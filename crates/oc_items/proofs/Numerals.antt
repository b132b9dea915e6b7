-- Numbers and keys, read back.
use Rattle.std.proofs.Common.{ℕ, zero, suc, ℤ, ◌+◌, ◌-◌, ◌<◌, ◌≤◌, ◌^◌, ◌≡◌, ◌≢◌, true, false, List, [], ◌∷◌, ◌++◌, length, take, drop, get_or, codes, decimal, Result, Ok, Err}
use Rattle.std.proofs.Common.{Option, Some, None, IfSome, IfNone, FitsSigned, refl, sym, ap, subst, ◌∙◌, arith, All, take-append-drop, rules}
use Rattle.std.specs.Int.{w32}
use Rattle.std.specs.Fmt.{signed_decimal}
use Rattle.std.specs.Str.{IsUtf8, bytes_eq}
use Rattle.std.specs.Str.Parse.{ParsesUnsigned, ParsesSigned}
use Rattle.std.proofs.lemmas.Bool.{ne_eqb}
use Rattle.std.proofs.lemmas.Cmp.{nat_list_eq_equiv}
use Rattle.std.proofs.lemmas.List.{drop_more, take_rest, append_cancel_left}
use Rattle.std.proofs.lemmas.List.Elements.{All-head, All-tail}
use Rattle.std.proofs.lemmas.Str.{IsUtf8-from_ascii}
use Rattle.std.proofs.lemmas.Fmt.{IsAscii-decimal, IsAscii-signed, parse-decimal, parse-signed_decimal}
use Rattle.oc_items.specs.Reading.{has_no_space, StandsBehind, SpelledNone, IsValue}

pub if_none : {T : Type 0} (r : Option T) (P : Type 0) → P → IfNone r P
if_none None P h = h
if_none (Some x) P h = tt

pub if_none_too : {T : Type 0} (r : Option T) (P Q : Type 0) → (P → Q) → IfNone r P → IfNone r Q
if_none_too None P Q f h = f h
if_none_too (Some x) P Q f h = tt

pub if_some_too : {T : Type 0} (r : Option T) (P Q : T → Type 0) → ((x : T) → P x → Q x) → IfSome r P → IfSome r Q
if_some_too None P Q f h = tt
if_some_too (Some x) P Q f h = f x h

-- ---- numbers

pub no_signed_text : (field : List ℕ) → (IsUtf8 field → ⊥) → (z : ℤ) → FitsSigned w32 z → signed_decimal z ≡ field → ⊥
no_signed_text field h z l e = h (subst IsUtf8 e (IsUtf8-from_ascii (signed_decimal z) (search (rules, IsAscii-signed))))

pub no_signed_parsed : {E : Type 0} (field text : List ℕ) (error : E) → ParsesSigned w32 10 text (Err error) → text ≡ field → (z : ℤ) → FitsSigned w32 z → signed_decimal z ≡ field → ⊥
no_signed_parsed field text error h t z l e = let r = parse-signed_decimal w32 z text (Err error) l (search rules) (t ∙ sym e) h in cc r

pub other_signed_parsed : (field text written : List ℕ) (number : ℤ) → ParsesSigned {E = ℕ} w32 10 text (Ok number) → text ≡ field → written ≡ signed_decimal number
    → bytes_eq written field ≡ false → (z : ℤ) → FitsSigned w32 z → signed_decimal z ≡ field → ⊥
other_signed_parsed field text written number h t w d z l e =
    let r : ◌≡◌ {A = Result ℤ ℕ} (Ok number) (Ok z) = parse-signed_decimal w32 z text (Ok number) l (search rules) (t ∙ sym e) h in
    let k : number ≡ z = cc in
    let f : written ≡ field = w ∙ ap (λ (m : ℤ). signed_decimal m) k ∙ e in
    let u : true ≡ false = sym (nat_list_eq_equiv.refl field) ∙ ap (λ (x : List ℕ). bytes_eq x field) (sym f) ∙ d in
    cc u

-- ---- keys

pub none_behind : (key bytes digits : List ℕ) (limit : ℕ) → limit ≤ 2 ^ 64 → StandsBehind key bytes digits → ((n : ℕ) → n < 2 ^ 64 → decimal n ≡ digits → ⊥) → SpelledNone key bytes limit
none_behind key bytes digits limit l e none n s = none n (omega (arith, l, s.below)) (append_cancel_left key (decimal n) digits (s.spelled ∙ sym e))

pub no_value : (name bytes rest digits : List ℕ) → StandsBehind name bytes rest → StandsBehind (codes " ") rest digits
    → ((z : ℤ) → FitsSigned w32 z → signed_decimal z ≡ digits → ⊥) → (z : ℤ) → IsValue name bytes z → ⊥
no_value name bytes rest digits e f none z v =
    none z v.fits (append_cancel_left (codes " ") (signed_decimal z) digits (append_cancel_left name (codes " " ++ signed_decimal z) rest (v.spelled ∙ sym e) ∙ sym f))

pub no_space_behind : (name bytes rest : List ℕ) → StandsBehind name bytes rest → ((digits : List ℕ) → StandsBehind (codes " ") rest digits → ⊥) → (z : ℤ) → IsValue name bytes z → ⊥
no_space_behind name bytes rest e none z v = none (signed_decimal z) (append_cancel_left name (codes " " ++ signed_decimal z) rest (v.spelled ∙ sym e))

-- ---- the first space

pub all_no_space : (line : List ℕ) → All (λ b. b ≢ 32) line → has_no_space line ≡ true
all_no_space [] h = refl
all_no_space (b ∷ bs) h = rw (ne_eqb b 32 (All-head (λ b. b ≢ 32) b bs h)) (all_no_space bs (All-tail (λ b. b ≢ 32) b bs h))

front_no_space : (line : List ℕ) (place : ℕ) → ((k : ℕ) → k < place → get_or line k 0 ≢ 32) → has_no_space (take place line) ≡ true
front_no_space [] zero h = refl
front_no_space [] (suc n) h = refl
front_no_space (b ∷ bs) zero h = refl
front_no_space (b ∷ bs) (suc n) h = rw (ne_eqb b 32 (h 0 (omega arith))) (front_no_space bs n (λ k l. h (suc k) (omega (arith, l))))

pub cut_there : (line : List ℕ) (place : ℕ) → place < length line → get_or line place 0 ≡ 32 → ((k : ℕ) → k < place → get_or line k 0 ≢ 32)
    → (take place line ++ (codes " " ++ take (length line - (place + 1)) (drop (place + 1) line)) ≡ line) × (has_no_space (take place line) ≡ true)
cut_there line place l here before = (
  ap (λ (t : List ℕ). take place line ++ (32 ∷ t)) (take_rest line (place + 1)) ∙ ap (λ (b : ℕ). take place line ++ (b ∷ drop (place + 1) line)) (sym here)
      ∙ ap (λ (t : List ℕ). take place line ++ t) (sym (drop_more line place 0 l)) ∙ take-append-drop place line,
  front_no_space line place before,
)
