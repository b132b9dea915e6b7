-- The test of names is the definition of names.
use Rattle.std.proofs.Common.{◌≡◌, List, [], ◌∷◌, refl, subst, ap, Bool, true, false}
use Rattle.std.proofs.lemmas.Bool.{and_from, and_parts}
use Rattle.std.specs.Prelude.{not, ◌&&◌, ◌||◌}
use Rattle.std.specs.List.{list_all, list_any}
use Rattle.std.specs.Str.{bytes_eq}
use Rattle.std.proofs.lemmas.Slice.Eq.{bytes_eq-Decides}
use Rattle.std.proofs.lemmas.List.Sums.{AllPass-from_list_all, list_all-from_AllPass}
use Rattle.oc_tree.specs.Names.{Text}
use Rattle.oc_lex.specs.declared.token.Word.{Word}
use Rattle.oc_lex.specs.declared.token.Word.TheVariants as words
use Rattle.oc_lex.specs.Bytes.{begins_name, in_name}
use Rattle.oc_lex.specs.Spellings.{word_spelling, SpellsNoWord}
use Rattle.oc_lex.specs.Stands.{IsName}
use Rattle.oc_verify.specs.Reading.{all_words, has_form, is_name, is_word}

spelled : (w : Word) → is_word (word_spelling w) ≡ true
spelled words.Sensor = refl
spelled _ = refl

no_word : (x : Text) → is_word x ≡ false → SpellsNoWord x
no_word x e w h = let t : is_word x ≡ true = subst (λ y. is_word y ≡ true) h (spelled w) in absurd (cc)

none_of : (x : Text) → SpellsNoWord x → (ws : List Word) → list_any (λ w. bytes_eq (word_spelling w) x) ws ≡ false
none_of x h [] = refl
none_of x h (w ∷ ws) = by (bytes_eq (word_spelling w) x) refl (none_of x h ws)
  where
    by : (b : Bool) → bytes_eq (word_spelling w) x ≡ b → list_any (λ v. bytes_eq (word_spelling v) x) ws ≡ false → b || list_any (λ v. bytes_eq (word_spelling v) x) ws ≡ false
    by true e k = absurd (h w ((bytes_eq-Decides (word_spelling w) x).0 e))
    by false e k = k

pub negated : (b : Bool) → not b ≡ true → b ≡ false
negated true e = absurd (cc)
negated false e = refl

pub named : (x : Text) → is_name x ≡ true → IsName x
unfolding is_name
named [] e = absurd (cc)
named (b ∷ bs) e =
    let f : begins_name b && list_all in_name bs ≡ true = (and_parts (has_form (b ∷ bs)) (not (is_word (b ∷ bs))) e).0 in
    let w : is_word (b ∷ bs) ≡ false = negated (is_word (b ∷ bs)) (and_parts (has_form (b ∷ bs)) (not (is_word (b ∷ bs))) e).1 in
    (((and_parts (begins_name b) (list_all in_name bs) f).0, AllPass-from_list_all in_name bs (and_parts (begins_name b) (list_all in_name bs) f).1), no_word (b ∷ bs) w)

pub is_named_so : (x : Text) → IsName x → is_name x ≡ true
unfolding is_name
is_named_so [] h = absurd h.0
is_named_so (b ∷ bs) h =
    and_from (has_form (b ∷ bs)) (not (is_word (b ∷ bs)))
    (and_from (begins_name b) (list_all in_name bs) h.0.0 (list_all-from_AllPass in_name bs h.0.1))
    (ap not (none_of (b ∷ bs) h.1 all_words))
