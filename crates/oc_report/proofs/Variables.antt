-- The lines of nonvolatile variables, one after the other.
use Rattle.std.proofs.Common.{ℕ, ◌+◌, ◌<◌, ◌≡◌, ◌∙◌, ℤ, List, [], ◌++◌, length, map, get_or, take, drop, min, ap, refl, arith}
use Rattle.std.proofs.lemmas.List.{drop_more, drop_min, take_min}
use Rattle.oc_io.specs.Faults.{TookPart}
use Rattle.oc_io.proofs.Going.{Going, Both, go_on, stop}
use Rattle.oc_tree.specs.Names.{Text}
use Rattle.oc_isa.specs.declared.image.ImageNv.{ImageNv}
use Rattle.oc_items.specs.Text.{words_line, words_lines}

-- the lines of the variables from a place on, of the words left
abbrev pub lines_from : List Text → List ImageNv → ℕ → List ℤ → List ℕ
lines_from names nvs place rest = words_lines (drop place names) (map (λ v. v.words) (drop place nvs)) rest

next : (names : List Text) (nvs : List ImageNv) (place : ℕ) (d : ImageNv) (rest : List ℤ) → place < length nvs → length nvs ≡ length names
    → lines_from names nvs place rest ≡ words_line (get_or names place []) (take (get_or nvs place d).words rest) ++ lines_from names nvs (place + 1) (drop (get_or nvs place d).words rest)
next names nvs place d rest h same =
    let here : place < length names = omega arith in
    rw (drop_more names place [] here, drop_more nvs place d h) refl

module _ {S : Type 0} (took : S → List ℕ → S → Type 0) (both : Both took) (a b c : S) (names : List Text) (nvs : List ImageNv) (place size : ℕ) (d : ImageNv)
    (rest own others : List ℤ) (whole : List ℕ)
    (h : place < length nvs) (same : length nvs ≡ length names) (is_size : size ≡ min (get_or nvs place d).words (length rest)) (is_own : own ≡ take size rest) (is_others : others ≡ drop size rest)
    (going : Going took a b (lines_from names nvs place rest) whole) where
  own_words : own ≡ take (get_or nvs place d).words rest
  own_words = is_own ∙ ap (λ (n : ℕ). take n rest) is_size ∙ take_min (get_or nvs place d).words rest

  other_words : others ≡ drop (get_or nvs place d).words rest
  other_words = is_others ∙ ap (λ (n : ℕ). drop n rest) is_size ∙ drop_min (get_or nvs place d).words rest

  split : Going took a b (words_line (get_or names place []) own ++ lines_from names nvs (place + 1) others) whole
  split = rw (own_words, other_words) (rw (next names nvs place d rest h same) at going)

  pub variable_on : took b (words_line (get_or names place []) own) c → Going took a c (lines_from names nvs (place + 1) others) whole
  variable_on p = go_on took both a b c _ _ whole split p

  pub variable_stop : TookPart took b (words_line (get_or names place []) own) c → TookPart took a whole c
  variable_stop p = stop took both a b c _ _ whole split p
