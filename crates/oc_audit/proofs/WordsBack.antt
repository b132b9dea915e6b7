-- The words of a line, read back.
use Rattle.std.proofs.Common.{◌≡◌, ◌<◌, ℕ, suc, ◌+◌, ℤ, Bool, true, false, List, [], ◌∷◌, ◌++◌, length, FitsSigned, codes, refl, sym, ap, ◌∙◌, subst, append-nil, append_assoc, arith}
use Rattle.std.proofs.lemmas.Bool.{and_parts}
use Rattle.std.specs.Prelude.{◌==◌, ◌&&◌, ◌||◌, not}
use Rattle.std.specs.Int.{w32}
use Rattle.std.specs.Fmt.{signed_decimal}
use Rattle.std.specs.List.{All}
use Rattle.std.proofs.lemmas.List.{append_cancel_left}
use Rattle.std.proofs.lemmas.List.Elements.{All-head, All-tail, All-push}
use Rattle.oc_items.specs.Text.{word_field}
use Rattle.oc_items.specs.OneText.{ends_field, is_field}
use Rattle.oc_items.specs.Reading.{has_no_space, StandsBehind}
use Rattle.oc_items.proofs.Numbers.{signed_from, signed_field, signed_back}
use Rattle.oc_audit.specs.Words.{IsTail, IsNext, HasNoNext, spaced, IsWordsLine, ReadsOn, GivesWords}

-- a field has no space
field_spaces : (bytes : List ℕ) → is_field bytes ≡ true → has_no_space bytes ≡ true
field_spaces [] h = refl
field_spaces (b ∷ bytes) h = let p = and_parts (not (ends_field b)) (is_field bytes) h in by (b == 32) (b == 10) p.0 (field_spaces bytes p.1)
  where
    by : (x y : Bool) → not (x || y) ≡ true → has_no_space bytes ≡ true → (not x && has_no_space bytes) ≡ true
    by false y n r = r
    by true y n r = absurd (cc (n))

no_space_first : (b : ℕ) (bs : List ℕ) → has_no_space (b ∷ bs) ≡ true → b ≡ 32 → ⊥
no_space_first b bs h e =
    let p : (not (32 == 32) && has_no_space bs) ≡ true = subst (λ x. (not (x == 32) && has_no_space bs) ≡ true) e h in
    absurd (cc (p))

-- the first space tells where a field ends
tail_cut : (a b x y : List ℕ) → has_no_space a ≡ true → has_no_space b ≡ true → IsTail x → IsTail y → a ++ x ≡ b ++ y → (a ≡ b) × (x ≡ y)
tail_cut [] [] x y h k s t e = (refl, e)
tail_cut [] (c ∷ b) [] y h k s t e = absurd (cc (e))
tail_cut [] (c ∷ b) (z ∷ x) y h k s t e = let zc : z ≡ c = cc (e) in absurd (no_space_first c b k (sym zc ∙ s))
tail_cut (c ∷ a) [] x [] h k s t e = absurd (cc (e))
tail_cut (c ∷ a) [] x (z ∷ y) h k s t e = let zc : c ≡ z = cc (e) in absurd (no_space_first c a h (zc ∙ t))
tail_cut (c ∷ a) (d ∷ b) x y h k s t e =
    let cd : c ≡ d = cc (e) in
    let r = tail_cut a b x y (and_parts (not (c == 32)) (has_no_space a) h).1 (and_parts (not (d == 32)) (has_no_space b) k).1 s t (cc (e)) in
    (ap (λ z. z ∷ a) cd ∙ ap (λ l. d ∷ l) r.0, r.1)

digits_spaces : (z : ℤ) → FitsSigned w32 z → has_no_space (signed_decimal z) ≡ true
digits_spaces z f = field_spaces (signed_decimal z) (signed_field z f)

one_word : (z w : ℤ) → FitsSigned w32 z → FitsSigned w32 w → signed_decimal z ≡ signed_decimal w → z ≡ w
one_word z w f g e = sym (signed_back z f) ∙ ap signed_from e ∙ signed_back w g

-- ---- the next word

pub no_space_first_word : (bytes : List ℕ) → ((rest : List ℕ) → StandsBehind (codes " ") bytes rest → ⊥) → HasNoNext bytes
no_space_first_word bytes none word behind n = none (signed_decimal word ++ behind) n.spelled

pub no_word : (bytes rest field tail : List ℕ) → StandsBehind (codes " ") bytes rest → field ++ tail ≡ rest → has_no_space field ≡ true → IsTail tail
    → ((z : ℤ) → FitsSigned w32 z → signed_decimal z ≡ field → ⊥) → HasNoNext bytes
no_word bytes rest field tail s parts f t none word behind n =
    let e : signed_decimal word ++ behind ≡ field ++ tail = append_cancel_left (codes " ") (signed_decimal word ++ behind) (field ++ tail) (n.spelled ∙ sym s ∙ ap (λ l. codes " " ++ l) (sym parts)) in
    none word n.fits (tail_cut (signed_decimal word) field behind tail (digits_spaces word n.fits) f n.tail t e).0

pub a_word : (bytes rest field tail : List ℕ) (word : ℤ) → StandsBehind (codes " ") bytes rest → field ++ tail ≡ rest → IsTail tail → FitsSigned w32 word
    → signed_decimal word ≡ field → IsNext bytes word tail
a_word bytes rest field tail word s parts t f d =
    record { fits = f; spelled = ap (λ l. codes " " ++ (l ++ tail)) d ∙ ap (λ l. codes " " ++ l) parts ∙ s; tail = t }

-- ---- all words

flat-append : (xs ys : List ℤ) → spaced (xs ++ ys) ≡ spaced xs ++ spaced ys
flat-append [] ys = refl
flat-append (x ∷ xs) ys = ap (λ l. word_field x ++ l) (flat-append xs ys) ∙ sym (append_assoc (word_field x) (spaced xs) (spaced ys))

spaced_tail : (ws : List ℤ) → IsTail (spaced ws)
spaced_tail [] = tt
spaced_tail (w ∷ ws) = refl

length-last : (ws : List ℤ) (w : ℤ) → length (ws ++ w ∷ []) ≡ suc (length ws)
length-last [] w = refl
length-last (x ∷ ws) w = ap suc (length-last ws w)

length-both : (xs ys : List ℤ) → length (xs ++ ys) ≡ length xs + length ys
length-both [] ys = omega arith
length-both (x ∷ xs) ys = let e : length (xs ++ ys) ≡ length xs + length ys = length-both xs ys in omega (arith, e)

fit_behind : (xs ys : List ℤ) → All (FitsSigned w32) (xs ++ ys) → All (FitsSigned w32) ys
fit_behind [] ys h = h
fit_behind (a ∷ xs) ys h = fit_behind xs ys (All-tail (FitsSigned w32) a (xs ++ ys) h)

pub reads_none : (bytes : List ℕ) (old : List ℤ) → ReadsOn bytes old old 0 bytes
reads_none bytes old = record {
  words = [];
  is = sym (append-nil old);
  many = refl;
  fit = λ i d l. absurd (omega (arith, l));
  spelled = refl;
  only = λ us f e. (us, refl, e);
}

pub reads_next : (bytes : List ℕ) (old now : List ℤ) (n : ℕ) (left : List ℕ) (word : ℤ) (behind : List ℕ) → ReadsOn bytes old now n left → IsNext left word behind
    → ReadsOn bytes old (now ++ word ∷ []) (n + 1) behind
reads_next bytes old now n left word behind r x = record {
  words = r.words ++ word ∷ [];
  is = ap (λ l. l ++ word ∷ []) r.is ∙ append_assoc old r.words (word ∷ []);
  many = let e : length (r.words ++ word ∷ []) ≡ suc (length r.words) = length-last r.words word in omega (arith, e, r.many);
  fit = All-push (FitsSigned w32) r.words word r.fit x.fits;
  spelled =
      ap (λ l. l ++ behind) (flat-append r.words (word ∷ []) ∙ ap (λ l. spaced r.words ++ l) (append-nil (word_field word))) ∙ append_assoc (spaced r.words) (word_field word) behind
      ∙ ap (λ l. spaced r.words ++ l) x.spelled ∙ r.spelled;
  only = λ us f e. let m = r.only us f e in by us f m.0 m.1 m.2;
}
  where
    by : (us : List ℤ) → All (FitsSigned w32) us → (more : List ℤ) → us ≡ r.words ++ more → spaced more ≡ left → (rest : List ℤ) × (us ≡ (r.words ++ word ∷ []) ++ rest) × (spaced rest ≡ behind)
    by us f [] u s = let no : [] ≡ word_field word ++ behind = s ∙ sym x.spelled in absurd (cc (no))
    by us f (z ∷ more) u s =
        let g : All (FitsSigned w32) (z ∷ more) = fit_behind r.words (z ∷ more) (subst (All (FitsSigned w32)) u f) in
        let fz : FitsSigned w32 z = All-head (FitsSigned w32) z more g in
        let e : signed_decimal z ++ spaced more ≡ signed_decimal word ++ behind =
        append_cancel_left (codes " ") (signed_decimal z ++ spaced more) (signed_decimal word ++ behind) (s ∙ sym x.spelled) in
        let c = tail_cut (signed_decimal z) (signed_decimal word) (spaced more) behind (digits_spaces z fz) (digits_spaces word x.fits) (spaced_tail more) x.tail e in
        let zw : z ≡ word = one_word z word fz x.fits c.0 in
        (more, u ∙ ap (λ y. r.words ++ y ∷ more) zw ∙ sym (append_assoc r.words (word ∷ []) more), c.1)

-- where no word is next, there are no more
pub reads_short : (name bytes line : List ℕ) (old now : List ℤ) (n count : ℕ) (left : List ℕ) → codes "nv " ++ (name ++ bytes) ≡ line → ReadsOn bytes old now n left → n < count → HasNoNext left
    → (words : List ℤ) → IsWordsLine name count line words → ⊥
reads_short name bytes line old now n count left h r l none words w =
    let e : spaced words ≡ bytes = behind_name name (spaced words) bytes (w.spelled ∙ sym h) in
    let m = r.only words w.fit e in
    by m.0 m.1 m.2
  where
    behind_name : (name a b : List ℕ) → codes "nv " ++ (name ++ a) ≡ codes "nv " ++ (name ++ b) → a ≡ b
    behind_name name a b e = append_cancel_left name a b (append_cancel_left (codes "nv ") (name ++ a) (name ++ b) e)

    by : (more : List ℤ) → words ≡ r.words ++ more → spaced more ≡ left → ⊥
    by [] u s = let e : length words ≡ length r.words = ap length (u ∙ append-nil r.words) in omega (arith, e, w.many, r.many, l)
    by (z ∷ more) u s =
        none z (spaced more) (record {
          fits = All-head (FitsSigned w32) z more (fit_behind r.words (z ∷ more) (subst (All (FitsSigned w32)) u w.fit));
          spelled = s;
          tail = spaced_tail more;
        })

-- behind all words the line is over, or it is none
pub reads_all : (name bytes line : List ℕ) (old now : List ℤ) (count : ℕ) (left : List ℕ) (good : Bool) → codes "nv " ++ (name ++ bytes) ≡ line → ReadsOn bytes old now count left
    → (good ≡ true → left ≡ []) → (good ≡ false → left ≡ [] → ⊥) → GivesWords name count line old good now
reads_all name bytes line old now count left true h r y n = (
  r.words,
  record {
    many = r.many;
    fit = r.fit;
    spelled = ap (λ l. codes "nv " ++ (name ++ l)) (sym (append-nil (spaced r.words)) ∙ ap (λ l. spaced r.words ++ l) (sym (y refl)) ∙ r.spelled) ∙ h;
  },
  r.is,
)
reads_all name bytes line old now count left false h r y n = λ words w.
    let e : spaced words ≡ bytes = append_cancel_left name (spaced words) bytes (append_cancel_left (codes "nv ") (name ++ spaced words) (name ++ bytes) (w.spelled ∙ sym h)) in
    let m = r.only words w.fit e in
    by words w m.0 m.1 m.2
  where
    by : (words : List ℤ) → IsWordsLine name count line words → (more : List ℤ) → words ≡ r.words ++ more → spaced more ≡ left → ⊥
    by words w [] u s = n refl (sym s)
    by words w (z ∷ more) u s = let e : length words ≡ length r.words + suc (length more) = ap length u ∙ length-both r.words (z ∷ more) in absurd (omega (arith, e, w.many, r.many))
