-- The words of the nonvolatile variables are told by their lines.
use Rattle.std.proofs.Common.{ℕ, ℤ, ◌+◌, ◌<◌, ◌≡◌, Bool, true, false, cond, List, [], ◌∷◌, ◌++◌, length, take, drop, map, sum, min, ap, sym, ◌∙◌, refl, arith, w32, FitsSigned}
use Rattle.std.proofs.Common.{codes, length-take, length-drop, get_or-take, get_or-drop}
use Rattle.std.proofs.lemmas.List.{take-append-drop}
use Rattle.std.proofs.lemmas.List.Sums.{sum_by-cons}
use Rattle.std.specs.Fmt.{signed_decimal}
use Rattle.std.specs.List.{All}
use Rattle.std.proofs.lemmas.List.Elements.{All-tail}
use Rattle.oc_tree.specs.Names.{Text}
use Rattle.oc_items.specs.Text.{words_lines, nv_lines, is_over}
use Rattle.oc_items.specs.OneText.{is_field, OneReportEach}
use Rattle.oc_items.proofs.Fields.{AllFields, line_cut}
use Rattle.oc_items.proofs.Numbers.{signed_from, signed_field, signed_back}
use Rattle.oc_items.proofs.Back.{same_items, Quiet, first_of_all}

abbrev pub AreWords : List ℤ → Type 0
AreWords words = All (FitsSigned w32) words

words_back : (words : List ℤ) → AreWords words → map signed_from (map signed_decimal words) ≡ words
words_back [] h = refl
words_back (x ∷ xs) h =
    ap (λ (y : ℤ). y ∷ map signed_from (map signed_decimal xs)) (signed_back x (first_of_all (FitsSigned w32) x xs h))
    ∙ ap (λ (ys : List ℤ). x ∷ ys) (words_back xs (All-tail (FitsSigned w32) x xs h))

words_fit : (words : List ℤ) → AreWords words → AllFields (map signed_decimal words)
words_fit [] h = tt
words_fit (x ∷ xs) h = (signed_field x (first_of_all (FitsSigned w32) x xs h), words_fit xs (All-tail (FitsSigned w32) x xs h))

pub front_words : (k : ℕ) (words : List ℤ) → AreWords words → AreWords (take k words)
front_words k words h = λ i d l.
    let few : i < min k (length words) = rw (← length-take k words) l in
    rw (get_or-take k words i d (omega (arith, few))) (h i d (omega (arith, few)))

pub back_words : (k : ℕ) (words : List ℤ) → AreWords words → AreWords (drop k words)
back_words k words h = λ i d l. rw (get_or-drop k words i d) (h (k + i) d (omega (arith, l, length-drop k words)))

pub line_fits : (name : Text) (words : List ℤ) → is_field name ≡ true → AreWords words → AllFields (codes "nv" ∷ name ∷ map signed_decimal words)
line_fits name words n h = (refl, (n, words_fit words h))

no_words : (u v : List ℤ) → length u ≡ 0 → length v ≡ 0 → u ≡ v
no_words [] [] l m = refl
no_words (x ∷ u) v l m = absurd (omega (arith, l))
no_words [] (y ∷ v) l m = absurd (omega (arith, m))

same_words : (names : List Text) (sizes : List ℕ) (u v : List ℤ) → All (λ n. is_field n ≡ true) names → length sizes ≡ length names
    → length u ≡ sum sizes → length v ≡ sum sizes → AreWords u → AreWords v
    → words_lines names sizes u ≡ words_lines names sizes v → u ≡ v
same_words [] [] u v f n l m h k e = no_words u v l m
same_words [] (size ∷ sizes) u v f n l m h k e = absurd (omega (arith, n))
same_words (name ∷ names) [] u v f n l m h k e = absurd (omega (arith, n))
same_words (name ∷ names) (size ∷ sizes) u v f n l m h k e =
    let total : sum (size ∷ sizes) ≡ size + sum sizes = sum_by-cons (λ n. n) size sizes in
    let named = first_of_all (λ x. is_field x ≡ true) name names f in
    let cut = line_cut (codes "nv") (codes "nv") (name ∷ map signed_decimal (take size u)) (name ∷ map signed_decimal (take size v))
    (words_lines names sizes (drop size u)) (words_lines names sizes (drop size v))
    (line_fits name (take size u) named (front_words size u h)) (line_fits name (take size v) named (front_words size v k)) e in
    let fronts : take size u ≡ take size v =
    sym (words_back (take size u) (front_words size u h)) ∙ ap (λ (fs : List (List ℕ)). map signed_from (drop 2 fs)) cut.0 ∙ words_back (take size v) (front_words size v k) in
    let rests : drop size u ≡ drop size v =
    same_words names sizes (drop size u) (drop size v) (All-tail (λ x. is_field x ≡ true) name names f) (omega (arith, n))
    (omega (arith, l, total, length-drop size u)) (omega (arith, m, total, length-drop size v)) (back_words size u h) (back_words size v k) cut.1 in
    sym (take-append-drop size u) ∙ ap (λ (x : List ℤ). x ++ drop size u) fronts ∙ ap (λ (x : List ℤ). take size v ++ x) rests ∙ take-append-drop size v

quiet_lines : (names : List Text) (sizes : List ℕ) (words : List ℤ) → Quiet (words_lines names sizes words)
quiet_lines [] sizes words = refl
quiet_lines (name ∷ names) [] words = refl
quiet_lines (name ∷ names) (size ∷ sizes) words = refl

quiet_end : (over : Bool) (lines : List ℕ) → Quiet lines → Quiet (cond over lines [])
quiet_end true lines q = q
quiet_end false lines q = refl

lines_of_over : (p q : Bool) (x y : List ℕ) → p ≡ true → q ≡ true → cond p x [] ≡ cond q y [] → x ≡ y
lines_of_over true true x y p q e = e
lines_of_over false q' x y p q e = cc
lines_of_over true false x y p q e = cc

pub one_report : OneReportEach
one_report names sizes a b u v s p f n h k l m hu hv e =
    let same = same_items names s p a b (cond (is_over a) (nv_lines names sizes u) []) (cond (is_over b) (nv_lines names sizes v) []) h k
    (quiet_end (is_over a) (nv_lines names sizes u) (quiet_lines names.nvs sizes u))
    (quiet_end (is_over b) (nv_lines names sizes v) (quiet_lines names.nvs sizes v)) e in (
      same.0,
      λ over. same_words names.nvs sizes u v f n l m hu hv
          (lines_of_over (is_over a) (is_over b) (nv_lines names sizes u) (nv_lines names sizes v) over (sym (ap is_over same.0) ∙ over) same.1),
    )
