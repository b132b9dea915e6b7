-- Lines of a report: what was read of it begins a report file, and a line that isn't taken begins none.
use Rattle.std.proofs.Common.{◌≡◌, ◌<◌, ◌≤◌, ◌^◌, ℕ, zero, suc, ◌+◌, ◌-◌, ℤ, pos, Bool, true, false, cond, List, [], ◌∷◌, ◌++◌, length, map, take, drop, get_or, sum, replicate}
use Rattle.std.proofs.Common.{Some, None, FitsSigned, codes, decimal, refl, sym, ap, ◌∙◌, subst, inl, inr, ⊎_elim, append-nil, append_assoc, arith, length-take, length-drop}
use Rattle.std.proofs.Common.{eq-eqb}
use Rattle.std.specs.Prelude.{◌⊎◌, ◌==◌, ◌&&◌, ◌||◌, not, min, if◌then◌else◌}
use Rattle.std.specs.Str.{bytes_eq}
use Rattle.std.specs.Int.{w32}
use Rattle.std.specs.Fmt.{signed_decimal}
use Rattle.std.specs.List.{All, flat_map}
use Rattle.std.proofs.lemmas.List.{append_cancel_right}
use Rattle.std.proofs.lemmas.List.Elements.{All-head, All-tail, All-push}
use Rattle.std.proofs.lemmas.List.Sums.{sum_by-cons}
use Rattle.oc_io.specs.Lines.{further, line_of}
use Rattle.oc_tree.specs.Names.{NameLists, Text}
use Rattle.oc_items.specs.declared.item.Item.{Item}
use Rattle.oc_items.specs.declared.item.Item.TheVariants as item
use Rattle.oc_tree.specs.declared.said.TrapKind.TheVariants as trap
use Rattle.oc_items.specs.Text.{tick_of, fields_of, item_line, report_text, words_line, words_lines, nv_lines, ends, is_over, full_text}
use Rattle.oc_items.specs.OneText.{is_field, IsItem}
use Rattle.oc_items.specs.Reading.{place_of}
use Rattle.oc_items.proofs.Fields.{AllFields, after_line, line_cut, line_after, decimal_field, begins_with_digit}
use Rattle.oc_items.proofs.Numbers.{signed_field}
use Rattle.oc_audit.specs.Words.{spaced, IsWordsLine}
use Rattle.oc_audit.specs.Files.{IsFile, lines, onto_line, ended, BeginsReport}
use Rattle.oc_audit.specs.Taking.{Taken, TakesItem, TakesWords, TakesNone, has_no_feed, IsRead, AreNames}

-- ---- lists

All-onto : {X : Type 0} (P : X → Type 0) (x : X) (xs : List X) → P x → All P xs → All P (x ∷ xs)
All-onto P x xs h g zero d l = h
All-onto P x xs h g (suc i) d l = g i d (omega (arith, l))

All-both : {X : Type 0} (P : X → Type 0) (xs ys : List X) → All P xs → All P ys → All P (xs ++ ys)
All-both P [] ys h g = g
All-both P (x ∷ xs) ys h g = All-onto P x (xs ++ ys) (All-head P x xs h) (All-both P xs ys (All-tail P x xs h) g)

take_one : {X : Type 0} (xs : List X) (n : ℕ) (d : X) → n < length xs → take (suc n) xs ≡ take n xs ++ get_or xs n d ∷ []
take_one [] n d h = absurd (omega (arith, h))
take_one (x ∷ xs) zero d h = refl
take_one (x ∷ xs) (suc n) d h = ap (λ l. x ∷ l) (take_one xs n d (omega (arith, h)))

sum-last : (xs : List ℕ) (x : ℕ) → sum (xs ++ x ∷ []) ≡ sum xs + x
sum-last [] x = let e : sum (x ∷ []) ≡ x + sum [] = sum_by-cons (λ n. n) x [] in let z : sum [] ≡ 0 = refl in omega (arith, e, z)
sum-last (y ∷ xs) x =
    let e : sum (y ∷ (xs ++ x ∷ [])) ≡ y + sum (xs ++ x ∷ []) = sum_by-cons (λ n. n) y (xs ++ x ∷ []) in
    let f : sum (y ∷ xs) ≡ y + sum xs = sum_by-cons (λ n. n) y xs in
    let ih : sum (xs ++ x ∷ []) ≡ sum xs + x = sum-last xs x in
    omega (arith, e, f, ih)

pub length-both : {X : Type 0} (xs ys : List X) → length (xs ++ ys) ≡ length xs + length ys
length-both [] ys = omega arith
length-both (x ∷ xs) ys = let e : length (xs ++ ys) ≡ length xs + length ys = length-both xs ys in omega (arith, e)

take_front : {X : Type 0} (xs ys : List X) → take (length xs) (xs ++ ys) ≡ xs
take_front [] ys = refl
take_front (x ∷ xs) ys = ap (λ l. x ∷ l) (take_front xs ys)

drop_front : {X : Type 0} (xs ys : List X) → drop (length xs) (xs ++ ys) ≡ ys
drop_front [] ys = refl
drop_front (x ∷ xs) ys = drop_front xs ys

pub lines-append : (xs ys : List (List ℕ)) → flat_map ended (xs ++ ys) ≡ flat_map ended xs ++ flat_map ended ys
lines-append [] ys = refl
lines-append (x ∷ xs) ys = ap (λ l. ended x ++ l) (lines-append xs ys) ∙ sym (append_assoc (ended x) (flat_map ended xs) (flat_map ended ys))

text-append : (names : NameLists) (xs ys : List Item) → report_text names (xs ++ ys) ≡ report_text names xs ++ report_text names ys
text-append names [] ys = refl
text-append names (x ∷ xs) ys = ap (λ l. item_line names x ++ l) (text-append names xs ys) ∙ sym (append_assoc (item_line names x) (report_text names xs) (report_text names ys))

-- ---- lines of words

fit_front : (n : ℕ) (xs : List ℤ) → All (FitsSigned w32) xs → All (FitsSigned w32) (take n xs)
fit_front zero xs h = λ i d l. absurd (omega (arith, l))
fit_front (suc n) [] h = h
fit_front (suc n) (x ∷ xs) h = All-onto (FitsSigned w32) x (take n xs) (All-head (FitsSigned w32) x xs h) (fit_front n xs (All-tail (FitsSigned w32) x xs h))

fit_back : (n : ℕ) (xs : List ℤ) → All (FitsSigned w32) xs → All (FitsSigned w32) (drop n xs)
fit_back zero xs h = h
fit_back (suc n) [] h = h
fit_back (suc n) (x ∷ xs) h = fit_back n xs (All-tail (FitsSigned w32) x xs h)

spaced_line : (ws : List ℤ) → further (map signed_decimal ws) ≡ spaced ws ++ codes "\n"
spaced_line [] = refl
spaced_line (w ∷ ws) =
    ap (λ l. codes " " ++ (signed_decimal w ++ l)) (spaced_line ws)
    ∙ ap (λ l. codes " " ++ l) (sym (append_assoc (signed_decimal w) (spaced ws) (codes "\n")))

-- a line of words with its line feed
words_ended : (name : Text) (ws : List ℤ) → words_line name ws ≡ ended (codes "nv " ++ (name ++ spaced ws))
words_ended name ws =
    ap (λ l. codes "nv " ++ (name ++ l)) (spaced_line ws)
    ∙ ap (λ l. codes "nv " ++ l) (sym (append_assoc name (spaced ws) (codes "\n")))

line_of_words : (name : Text) (count : ℕ) (line : List ℕ) (ws : List ℤ) → IsWordsLine name count line ws → words_line name ws ≡ ended line
line_of_words name count line ws h = words_ended name ws ∙ ap ended h.spelled

words_fields : (ws : List ℤ) → All (FitsSigned w32) ws → AllFields (map signed_decimal ws)
words_fields [] h = tt
words_fields (w ∷ ws) h = (signed_field w (All-head (FitsSigned w32) w ws h), words_fields ws (All-tail (FitsSigned w32) w ws h))

take_within : (n : ℕ) (xs ys : List ℤ) → n ≤ length xs → take n (xs ++ ys) ≡ take n xs
take_within zero xs ys h = refl
take_within (suc n) [] ys h = absurd (omega (arith, h))
take_within (suc n) (x ∷ xs) ys h = ap (λ l. x ∷ l) (take_within n xs ys (omega (arith, h)))

drop_within : (n : ℕ) (xs ys : List ℤ) → n ≤ length xs → drop n (xs ++ ys) ≡ drop n xs ++ ys
drop_within zero xs ys h = refl
drop_within (suc n) [] ys h = absurd (omega (arith, h))
drop_within (suc n) (x ∷ xs) ys h = drop_within n xs ys (omega (arith, h))

take_all : {X : Type 0} (n : ℕ) (xs : List X) → length xs ≡ n → take n xs ≡ xs
take_all zero [] h = refl
take_all zero (x ∷ xs) h = absurd (omega (arith, h))
take_all (suc n) [] h = absurd (omega (arith, h))
take_all (suc n) (x ∷ xs) h = ap (λ l. x ∷ l) (take_all n xs (omega (arith, h)))

-- words of further variables stand behind those of the first n
words-more : (names : List Text) (sizes : List ℕ) (n : ℕ) (ws us : List ℤ) → n ≤ length names → n ≤ length sizes → length ws ≡ sum (take n sizes)
    → words_lines names sizes (ws ++ us) ≡ words_lines (take n names) sizes ws ++ words_lines (drop n names) (drop n sizes) us
words-more names sizes zero [] us s l h = refl
words-more names sizes zero (w ∷ ws) us s l h = absurd (omega (arith, h))
words-more [] sizes (suc n) ws us s l h = absurd (omega (arith, s))
words-more (name ∷ names) [] (suc n) ws us s l h = absurd (omega (arith, l))
words-more (name ∷ names) (size ∷ sizes) (suc n) ws us s l h =
    let total : sum (take (suc n) (size ∷ sizes)) ≡ size + sum (take n sizes) = sum_by-cons (λ x. x) size (take n sizes) in
    let enough : size ≤ length ws = omega (arith, h, total) in
    let k : length (drop size ws) ≡ length ws - size = length-drop size ws in
    ap (λ l. words_line name l ++ words_lines names sizes (drop size (ws ++ us))) (take_within size ws us enough)
    ∙ ap (λ l. words_line name (take size ws) ++ words_lines names sizes l) (drop_within size ws us enough)
    ∙ ap (λ l. words_line name (take size ws) ++ l) (words-more names sizes n (drop size ws) us (omega (arith, s)) (omega (arith, l)) (omega (arith, h, total, k)))
    ∙ sym (append_assoc (words_line name (take size ws)) (words_lines (take n names) sizes (drop size ws)) (words_lines (drop n names) (drop n sizes) us))

-- the words of one variable more
words-one : (names : List Text) (sizes : List ℕ) (n : ℕ) (ws us : List ℤ) → n < length names → n < length sizes → length ws ≡ sum (take n sizes) → length us ≡ get_or sizes n 0
    → words_lines (take (suc n) names) sizes (ws ++ us) ≡ words_lines (take n names) sizes ws ++ words_line (get_or names n []) us
words-one names sizes zero [] us s l h k = by names sizes s l k
  where
    by : (names : List Text) (sizes : List ℕ) → 0 < length names → 0 < length sizes → length us ≡ get_or sizes 0 0 → words_lines (take 1 names) sizes us ≡ words_line (get_or names 0 []) us
    by [] sizes s l k = absurd (omega (arith, s))
    by (name ∷ names) [] s l k = absurd (omega (arith, l))
    by (name ∷ names) (size ∷ sizes) s l k = append-nil (words_line name (take size us)) ∙ ap (words_line name) (take_all size us k)
words-one names sizes zero (w ∷ ws) us s l h k = absurd (omega (arith, h))
words-one [] sizes (suc n) ws us s l h k = absurd (omega (arith, s))
words-one (name ∷ names) [] (suc n) ws us s l h k = absurd (omega (arith, l))
words-one (name ∷ names) (size ∷ sizes) (suc n) ws us s l h k =
    let total : sum (take (suc n) (size ∷ sizes)) ≡ size + sum (take n sizes) = sum_by-cons (λ x. x) size (take n sizes) in
    let enough : size ≤ length ws = omega (arith, h, total) in
    let d : length (drop size ws) ≡ length ws - size = length-drop size ws in
    ap (λ l. words_line name l ++ words_lines (take (suc n) names) sizes (drop size (ws ++ us))) (take_within size ws us enough)
    ∙ ap (λ l. words_line name (take size ws) ++ words_lines (take (suc n) names) sizes l) (drop_within size ws us enough)
    ∙ ap (λ l. words_line name (take size ws) ++ l) (words-one names sizes n (drop size ws) us (omega (arith, s)) (omega (arith, l)) (omega (arith, h, total, d)) k)
    ∙ sym (append_assoc (words_line name (take size ws)) (words_lines (take n names) sizes (drop size ws)) (words_line (get_or names n []) us))

-- where these lines go on as those of all variables, what is left are the lines of the others
words_first : (names : List Text) (sizes : List ℕ) (n : ℕ) (ws vs : List ℤ) (rest : List ℕ) → All (λ x. is_field x ≡ true) names → n ≤ length names → length sizes ≡ length names
    → length ws ≡ sum (take n sizes) → length vs ≡ sum sizes → All (FitsSigned w32) ws → All (FitsSigned w32) vs
    → words_lines (take n names) sizes ws ++ rest ≡ words_lines names sizes vs
    → (us : List ℤ) × (rest ≡ words_lines (drop n names) (drop n sizes) us) × (length us ≡ sum (drop n sizes)) × All (FitsSigned w32) us
words_first names sizes zero ws vs rest f b s l m h k e = (vs, e, m, k)
words_first [] sizes (suc n) ws vs rest f b s l m h k e = absurd (omega (arith, b))
words_first (name ∷ names) [] (suc n) ws vs rest f b s l m h k e = absurd (omega (arith, s))
words_first (name ∷ names) (size ∷ sizes) (suc n) ws vs rest f b s l m h k e =
    let total : sum (take (suc n) (size ∷ sizes)) ≡ size + sum (take n sizes) = sum_by-cons (λ x. x) size (take n sizes) in
    let whole : sum (size ∷ sizes) ≡ size + sum sizes = sum_by-cons (λ x. x) size sizes in
    let named : is_field name ≡ true = All-head (λ x. is_field x ≡ true) name names f in
    let cut = line_cut (codes "nv") (codes "nv") (name ∷ map signed_decimal (take size ws)) (name ∷ map signed_decimal (take size vs))
    (words_lines (take n names) sizes (drop size ws) ++ rest) (words_lines names sizes (drop size vs))
    (refl, (named, words_fields (take size ws) (fit_front size ws h))) (refl, (named, words_fields (take size vs) (fit_front size vs k)))
    (sym (append_assoc (words_line name (take size ws)) (words_lines (take n names) sizes (drop size ws)) rest) ∙ e) in
    let d : length (drop size ws) ≡ length ws - size = length-drop size ws in
    let g : length (drop size vs) ≡ length vs - size = length-drop size vs in
    words_first names sizes n (drop size ws) (drop size vs) rest (All-tail (λ x. is_field x ≡ true) name names f) (omega (arith, b)) (omega (arith, s))
    (omega (arith, l, total, d)) (omega (arith, m, whole, g)) (fit_back size ws h) (fit_back size vs k) cut.1

length_zeros : (n : ℕ) → length (replicate n (pos 0)) ≡ n
length_zeros zero = refl
length_zeros (suc n) = ap suc (length_zeros n)

zeros_fit : (n : ℕ) → All (FitsSigned w32) (replicate n (pos 0))
zeros_fit zero = λ i d l. absurd (omega (arith, l))
zeros_fit (suc n) = All-onto (FitsSigned w32) (pos 0) (replicate n (pos 0)) (omega arith) (zeros_fit n)

sum_split : (n : ℕ) (xs : List ℕ) → sum xs ≡ sum (take n xs) + sum (drop n xs)
sum_split zero xs = omega arith
sum_split (suc n) [] = refl
sum_split (suc n) (x ∷ xs) =
    let a : sum (x ∷ xs) ≡ x + sum xs = sum_by-cons (λ y. y) x xs in
    let b : sum (take (suc n) (x ∷ xs)) ≡ x + sum (take n xs) = sum_by-cons (λ y. y) x (take n xs) in
    let c : sum xs ≡ sum (take n xs) + sum (drop n xs) = sum_split n xs in
    omega (arith, a, b, c)

-- ---- what was read

-- one item more
pub read_item_more : (names : NameLists) (sizes : List ℕ) (done : List (List ℕ)) (s t : Taken) (line : List ℕ) → IsRead names sizes done s → TakesItem names s line t
    → IsRead names sizes (done ++ line ∷ []) t
read_item_more names sizes done s t line r k = subst (IsRead names sizes (done ++ line ∷ [])) (sym k.is) (record {
  text =
      let none : words_lines (take s.next names.nvs) sizes s.words ≡ [] = ap (λ n. words_lines (take n names.nvs) sizes s.words) k.none in
      let before : report_text names s.items ≡ flat_map ended done = sym (ap (λ l. report_text names s.items ++ l) none ∙ append-nil (report_text names s.items)) ∙ r.text in
      ap (λ l. report_text names (s.items ++ k.item ∷ []) ++ l) none ∙ append-nil (report_text names (s.items ++ k.item ∷ [])) ∙ text-append names s.items (k.item ∷ [])
      ∙ ap (λ l. l ++ report_text names (k.item ∷ [])) before ∙ ap (λ l. flat_map ended done ++ (l ++ [])) k.has.line_is ∙ sym (lines-append done (line ∷ []));
  each = All-push (IsItem names) s.items k.item r.each k.has.is;
  fit = r.fit;
  many = r.many;
  below = r.below;
  over = inl k.none;
})

-- the words of one variable more
pub read_words_more : (names : NameLists) (sizes : List ℕ) (done : List (List ℕ)) (s t : Taken) (line : List ℕ) → length sizes ≡ length names.nvs → IsRead names sizes done s
    → TakesWords names sizes s line t
    → IsRead names sizes (done ++ line ∷ []) t
read_words_more names sizes done s t line each r k = subst (IsRead names sizes (done ++ line ∷ [])) (sym k.is) (record {
  text =
      ap (λ l. report_text names s.items ++ l) (words-one names.nvs sizes s.next s.words k.words k.there (omega (arith, each, k.there)) r.many k.has.many)
      ∙ ap (λ l. report_text names s.items ++ l)
      (ap (λ l. words_lines (take s.next names.nvs) sizes s.words ++ l) (line_of_words (get_or names.nvs s.next []) (get_or sizes s.next 0) line k.words k.has))
      ∙ sym (append_assoc (report_text names s.items) (words_lines (take s.next names.nvs) sizes s.words) (ended line))
      ∙ ap (λ l. l ++ ended line) r.text ∙ ap (λ l. flat_map ended done ++ l) (sym (append-nil (ended line))) ∙ sym (lines-append done (line ∷ []));
  each = r.each;
  fit = All-both (FitsSigned w32) s.words k.words r.fit k.has.fit;
  many =
      let e : length (s.words ++ k.words) ≡ length s.words + length k.words = length-both s.words k.words in
      let f : sum (take (suc s.next) sizes) ≡ sum (take s.next sizes) + get_or sizes s.next 0 =
      ap sum (take_one sizes s.next 0 (omega (arith, each, k.there))) ∙ sum-last (take s.next sizes) (get_or sizes s.next 0) in
      omega (arith, e, f, r.many, k.has.many);
  below = omega (arith, k.there);
  over = inr k.over;
})

-- ---- what may stand in a report file

-- whether a line of these fields, behind its tick, ends a run
abbrev ends_of : List (List ℕ) → Bool
ends_of [] = false
ends_of (key ∷ rest) = bytes_eq key (codes "end") || bytes_eq key (codes "trap")

ends_fields : (names : NameLists) (i : Item) → ends i ≡ ends_of (fields_of names i)
ends_fields names (item.Sense tick sensor value) = refl
ends_fields names (item.Emit tick port value) = refl
ends_fields names (item.Use tick n) = refl
ends_fields names (item.Done tick n) = refl
ends_fields names (item.Tag tick n) = refl
ends_fields names (item.Enter tick n) = refl
ends_fields names (item.Commit tick n) = refl
ends_fields names (item.Abort tick n) = refl
ends_fields names (item.Off tick n) = refl
ends_fields names (item.Trap tick kind n) = refl
ends_fields names (item.End tick) = refl
ends_fields names (item.Dark tick) = refl

-- whether items are over, where what stands before them ends a run or doesn't
abbrev over_from : Bool → List Item → Bool
over_from d [] = d
over_from d (i ∷ is) = over_from (ends i) is

over_is : (xs : List Item) → is_over xs ≡ over_from false xs
over_is [] = refl
over_is (i ∷ []) = refl
over_is (i ∷ j ∷ rest) = over_is (j ∷ rest)

-- nothing, or a byte first that is no digit and no line feed
abbrev Quiet : List ℕ → Type 0
Quiet rest = get_or rest 0 110 ≡ 110

module _ (names : NameLists) (sizes : List ℕ) (f : AreNames names sizes) where
  item_fields : (i : Item) → IsItem names i → AllFields (decimal (tick_of i) ∷ fields_of names i)
  item_fields i h = (decimal_field (tick_of i) h.tick, by i h)
    where
      by : (i : Item) → IsItem names i → AllFields (fields_of names i)
      by (item.Sense tick sensor value) h = (refl, (f.sensors sensor [] h.named, (signed_field value h.fits, tt)))
      by (item.Emit tick port value) h = (refl, (f.ports port [] h.named, (signed_field value h.fits, tt)))
      by (item.Use tick n) h = (refl, (decimal_field n (omega (arith, h.fits)), tt))
      by (item.Done tick n) h = (refl, (decimal_field n (omega (arith, h.fits)), tt))
      by (item.Tag tick n) h = (refl, (decimal_field n (omega (arith, h.fits)), tt))
      by (item.Enter tick n) h = (refl, (decimal_field n (omega (arith, h.fits)), tt))
      by (item.Commit tick n) h = (refl, (decimal_field n (omega (arith, h.fits)), tt))
      by (item.Abort tick n) h = (refl, (decimal_field n (omega (arith, h.fits)), tt))
      by (item.Off tick n) h = (refl, (decimal_field n h.fits, tt))
      by (item.Trap tick trap.Zero n) h = (refl, (refl, (decimal_field n (omega (arith, h.fits)), tt)))
      by (item.Trap tick trap.Index n) h = (refl, (refl, (decimal_field n (omega (arith, h.fits)), tt)))
      by (item.End tick) h = (refl, tt)
      by (item.Dark tick) h = (refl, tt)

  few : (i : Item) → IsItem names i → place_of i < 2 ^ 8
  few i h = by i h
    where
      by : (i : Item) → IsItem names i → place_of i < 2 ^ 8
      by (item.Sense tick sensor value) h = omega (arith, h.named, f.few_sensors)
      by (item.Emit tick port value) h = omega (arith, h.named, f.few_ports)
      by (item.Use tick n) h = omega arith
      by (item.Done tick n) h = omega arith
      by (item.Tag tick n) h = omega arith
      by (item.Enter tick n) h = omega arith
      by (item.Commit tick n) h = omega arith
      by (item.Abort tick n) h = omega arith
      by (item.Off tick n) h = omega arith
      by (item.Trap tick kind n) h = omega arith
      by (item.End tick) h = omega arith
      by (item.Dark tick) h = omega arith

  no_item : (i : Item) → IsItem names i → (more rest : List ℕ) → Quiet rest → rest ≡ item_line names i ++ more → ⊥
  no_item i h more rest q e =
      let line : get_or (item_line names i ++ more) 0 110 < 58 =
      subst (λ l. get_or l 0 110 < 58) (sym (append_assoc (decimal (tick_of i)) (further (fields_of names i)) more)) (begins_with_digit (tick_of i) (further (fields_of names i) ++ more) 110 h.tick) in
      let same : get_or rest 0 110 ≡ get_or (item_line names i ++ more) 0 110 = ap (λ x. get_or x 0 110) e in
      omega (arith, q, line, same)

  -- where the lines of some items go on as those of others and something quiet, the others are no fewer, and these were over too
  items_first : (d e : Bool) (a b : List Item) (r t : List ℕ) → d ≡ e → All (IsItem names) a → All (IsItem names) b → Quiet t → report_text names a ++ r ≡ report_text names b ++ t
      → ((r ≡ t) × (over_from d a ≡ over_from e b)) ⊎ ((j : Item) × (more : List ℕ) × IsItem names j × (r ≡ item_line names j ++ more))
  items_first d e [] [] r t de h k q x = inl (x, de)
  items_first d e [] (j ∷ b) r t de h k q x = inr (j, report_text names b ++ t, All-head (IsItem names) j b k, x ∙ append_assoc (item_line names j) (report_text names b) t)
  items_first d e (i ∷ a) [] r t de h k q x =
      absurd (no_item i (All-head (IsItem names) i a h) (report_text names a ++ r) t q (sym x ∙ append_assoc (item_line names i) (report_text names a) r))
  items_first d e (i ∷ a) (j ∷ b) r t de h k q x =
      let hi = All-head (IsItem names) i a h in
      let hj = All-head (IsItem names) j b k in
      let cut = line_cut (decimal (tick_of i)) (decimal (tick_of j)) (fields_of names i) (fields_of names j) (report_text names a ++ r) (report_text names b ++ t) (item_fields i hi) (item_fields j hj)
      (sym (append_assoc (item_line names i) (report_text names a) r) ∙ x ∙ append_assoc (item_line names j) (report_text names b) t) in
      let same : fields_of names i ≡ fields_of names j = ap (drop 1) cut.0 in
      items_first (ends i) (ends j) a b r t (ends_fields names i ∙ ap ends_of same ∙ sym (ends_fields names j)) (All-tail (IsItem names) i a h) (All-tail (IsItem names) j b k) q cut.1

-- ---- line feeds

feed_rest : (b : ℕ) (bs : List ℕ) → has_no_feed (b ∷ bs) ≡ true → ((b == 10) ≡ false) × (has_no_feed bs ≡ true)
feed_rest b bs h = by (b == 10) h
  where
    by : (x : Bool) → (not x && has_no_feed bs) ≡ true → (x ≡ false) × (has_no_feed bs ≡ true)
    by false h = (refl, h)
    by true h = absurd (cc (h))

after_feed : (l rest : List ℕ) → has_no_feed l ≡ true → after_line (ended l ++ rest) ≡ rest
after_feed [] rest h = refl
after_feed (b ∷ l) rest h = let p = feed_rest b l h in ap (λ c. cond c (ended l ++ rest) (after_line (ended l ++ rest))) p.0 ∙ after_feed l rest p.1

-- a line of fields in front of bytes that begin with a line is that line
feed_cut : (l rest : List ℕ) (field : List ℕ) (fields : List (List ℕ)) (more : List ℕ) → has_no_feed l ≡ true → AllFields (field ∷ fields)
    → ended l ++ rest ≡ line_of (field ∷ fields) ++ more → ended l ≡ line_of (field ∷ fields)
feed_cut l rest field fields more h k e =
    let same : rest ≡ more = sym (after_feed l rest h) ∙ ap after_line e ∙ line_after field fields more k in
    append_cancel_right (ended l) (line_of (field ∷ fields)) rest (e ∙ ap (λ x. line_of (field ∷ fields) ++ x) (sym same))

pub line_feeds : (l rest : List ℕ) → has_no_feed l ≡ true → lines (ended l ++ rest) ≡ l ∷ lines rest
line_feeds [] rest h = refl
line_feeds (b ∷ l) rest h =
    let p = feed_rest b l h in
    ap (λ c. if c then [] ∷ lines (ended l ++ rest) else onto_line b (lines (ended l ++ rest))) p.0 ∙ ap (onto_line b) (line_feeds l rest p.1)

pub line_last : (b : ℕ) (l : List ℕ) → has_no_feed (b ∷ l) ≡ true → lines (b ∷ l) ≡ (b ∷ l) ∷ []
line_last b [] h = let p = feed_rest b [] h in ap (λ c. if c then [] ∷ [] else onto_line b []) p.0
line_last b (x ∷ l) h =
    let p = feed_rest b (x ∷ l) h in
    ap (λ c. if c then [] ∷ lines (x ∷ l) else onto_line b (lines (x ∷ l))) p.0 ∙ ap (onto_line b) (line_last x l p.1)

-- ---- what was read, and report files

full_quiet : (names : NameLists) (sizes : List ℕ) (b : Bool) (ws : List ℤ) → Quiet (if b then nv_lines names sizes ws else [])
full_quiet names sizes false ws = refl
full_quiet names sizes true ws = by names.nvs sizes
  where
    by : (ns : List Text) (zs : List ℕ) → Quiet (words_lines ns zs ws)
    by [] zs = refl
    by (n ∷ ns) [] = refl
    by (n ∷ ns) (z ∷ zs) = refl

module _ (names : NameLists) (sizes : List ℕ) (f : AreNames names sizes) (done : List (List ℕ)) (s : Taken) (r : IsRead names sizes done s) where
  abbrev read_words : List ℕ
  read_words = words_lines (take s.next names.nvs) sizes s.words

  -- what stands behind what was read, in a report file: another item's line, nothing, or the lines of the other variables
  abbrev Next : List ℕ → Type 0
  Next rest = ((j : Item) × (more : List ℕ) × IsItem names j × (read_words ++ rest ≡ item_line names j ++ more)) ⊎
      (((is_over s.items ≡ false) × (read_words ++ rest ≡ [])) ⊎
      ((is_over s.items ≡ true) × ((us : List ℤ) × (rest ≡ words_lines (drop s.next names.nvs) (drop s.next sizes) us) × (length us ≡ sum (drop s.next sizes)) × All (FitsSigned w32) us)))

  behind_read : (bytes rest : List ℕ) (items : List Item) (words : List ℤ) → flat_map ended done ++ rest ≡ bytes → IsFile names sizes bytes items words
      → Next rest
  behind_read bytes rest items words at w =
      let e : report_text names s.items ++ (read_words ++ rest) ≡ report_text names items ++ (if is_over items then nv_lines names sizes words else []) =
      sym (append_assoc (report_text names s.items) read_words rest) ∙ ap (λ l. l ++ rest) r.text ∙ at ∙ sym w.text in
      ⊎_elim
      (λ x. by (is_over items) (over_is s.items ∙ x.1 ∙ sym (over_is items)) x.0)
      (λ x. inl x)
      (items_first names sizes f false false s.items items (read_words ++ rest) (if is_over items then nv_lines names sizes words else []) refl r.each w.each
      (full_quiet names sizes (is_over items) words) e)
    where
      by : (b : Bool) → is_over s.items ≡ b → read_words ++ rest ≡ (if b then nv_lines names sizes words else [])
          → Next rest
      by false o e = inr (inl (o, e))
      by true o e = inr (inr (o, words_first names.nvs sizes s.next s.words words rest f.nvs r.below f.each r.many w.count r.fit w.fit e))

  quiet_words : (rest : List ℕ) → (s.next ≡ 0 → ⊥) → Quiet (read_words ++ rest)
  quiet_words rest n = by s.next names.nvs sizes n r.below f.each
    where
      by : (k : ℕ) (ns : List Text) (zs : List ℕ) → (k ≡ 0 → ⊥) → k ≤ length ns → length zs ≡ length ns → Quiet (words_lines (take k ns) zs s.words ++ rest)
      by zero ns zs n b l = absurd (n refl)
      by (suc k) [] zs n b l = absurd (omega (arith, b))
      by (suc k) (x ∷ ns) [] n b l = absurd (omega (arith, l))
      by (suc k) (x ∷ ns) (z ∷ zs) n b l = refl

  -- a line that isn't taken begins no report file behind what was read
  pub no_more : (line : List ℕ) → has_no_feed line ≡ true → TakesNone names sizes s line → BeginsReport names sizes (done ++ line ∷ []) → ⊥
  no_more line h none b =
      let at : flat_map ended done ++ (ended line ++ b.rest) ≡ flat_map ended (done ++ line ∷ []) ++ b.rest =
      sym (append_assoc (flat_map ended done) (ended line) b.rest) ∙ ap (λ l. (flat_map ended done ++ l) ++ b.rest) (sym (append-nil (ended line)))
      ∙ ap (λ l. l ++ b.rest) (sym (lines-append done (line ∷ []))) in
      by (behind_read (flat_map ended (done ++ line ∷ []) ++ b.rest) (ended line ++ b.rest) b.items b.words at b.file)
    where
      item_next : (k : ℕ) → s.next ≡ k → (j : Item) (more : List ℕ) → IsItem names j → read_words ++ (ended line ++ b.rest) ≡ item_line names j ++ more → ⊥
      item_next zero z j more i e =
          let start : ended line ++ b.rest ≡ item_line names j ++ more = ap (λ n. words_lines (take n names.nvs) sizes s.words ++ (ended line ++ b.rest)) (sym z) ∙ e in
          none.no_item z j (few names sizes f j i) (record { is = i; line_is = sym (feed_cut line b.rest (decimal (tick_of j)) (fields_of names j) more h (item_fields names sizes f j i) start) })
      item_next (suc k) z j more i e = no_item names sizes f j i more (read_words ++ (ended line ++ b.rest))
          (quiet_words (ended line ++ b.rest) (λ y. let x : suc k ≡ 0 = sym z ∙ y in absurd (omega (arith, x)))) e

      full : (xs ys : List ℕ) → xs ++ (ended line ++ ys) ≡ [] → ⊥
      full [] ys e = by line e
        where
          by : (l : List ℕ) → ended l ++ ys ≡ [] → ⊥
          by [] e = absurd (cc (e))
          by (x ∷ l) e = absurd (cc (e))
      full (x ∷ xs) ys e = absurd (cc (e))

      words_next : is_over s.items ≡ true → (us : List ℤ) → (ns : List Text) (zs : List ℕ) → drop s.next names.nvs ≡ ns → drop s.next sizes ≡ zs
          → ended line ++ b.rest ≡ words_lines ns zs us → length us ≡ sum zs
          → All (FitsSigned w32) us → ⊥
      words_next o us [] zs d g e m k = full [] b.rest e
      words_next o us (name ∷ ns) [] d g e m k =
          let x : length (drop s.next names.nvs) ≡ length names.nvs - s.next = length-drop s.next names.nvs in
          let y : length (drop s.next sizes) ≡ length sizes - s.next = length-drop s.next sizes in
          let x' : length (drop s.next names.nvs) ≡ suc (length ns) = ap length d in
          let y' : length (drop s.next sizes) ≡ 0 = ap length g in
          omega (arith, x, y, x', y', f.each)
      words_next o us (name ∷ ns) (size ∷ zs) d g e m k =
          let total : sum (size ∷ zs) ≡ size + sum zs = sum_by-cons (λ n. n) size zs in
          let x : length (drop s.next names.nvs) ≡ length names.nvs - s.next = length-drop s.next names.nvs in
          let x' : length (drop s.next names.nvs) ≡ suc (length ns) = ap length d in
          let there : s.next < length names.nvs = omega (arith, x, x') in
          let own : get_or names.nvs s.next [] ≡ name = sym (get_dropped s.next names.nvs []) ∙ ap (λ l. get_or l 0 []) d in
          let own_size : get_or sizes s.next 0 ≡ size = sym (get_dropped s.next sizes 0) ∙ ap (λ l. get_or l 0 0) g in
          let named : is_field name ≡ true = subst (λ n. is_field n ≡ true) own (f.nvs s.next [] there) in
          let fit : All (FitsSigned w32) (take size us) = fit_front size us k in
          let same : ended line ≡ words_line name (take size us) =
          feed_cut line b.rest (codes "nv") (name ∷ map signed_decimal (take size us)) (words_lines ns zs (drop size us)) h (refl, (named, words_fields (take size us) fit)) e in
          let spelled : codes "nv " ++ (name ++ spaced (take size us)) ≡ line =
          append_cancel_right (codes "nv " ++ (name ++ spaced (take size us))) line (codes "\n") (sym (words_ended name (take size us)) ∙ sym same) in
          let t : length (take size us) ≡ min size (length us) = length-take size us in
          none.no_words o there (take size us) (record {
            many = own_many size own_size (omega (arith, t, m, total));
            fit = fit;
            spelled = ap (λ n. codes "nv " ++ (n ++ spaced (take size us))) own ∙ spelled;
          })
        where
          own_many : (z : ℕ) → get_or sizes s.next 0 ≡ z → length (take size us) ≡ z → length (take size us) ≡ get_or sizes s.next 0
          own_many z a c = c ∙ sym a

          get_dropped : {X : Type 0} (n : ℕ) (xs : List X) (d : X) → get_or (drop n xs) 0 d ≡ get_or xs n d
          get_dropped zero xs d = refl
          get_dropped (suc n) [] d = refl
          get_dropped (suc n) (x ∷ xs) d = get_dropped n xs d

      by : Next (ended line ++ b.rest) → ⊥
      by (inl x) = item_next s.next refl x.0 x.1 x.2 x.3
      by (inr (inl x)) = full read_words b.rest x.1
      by (inr (inr x)) = words_next x.0 x.1.0 (drop s.next names.nvs) (drop s.next sizes) refl refl x.1.1 x.1.2 x.1.3

  -- what was read begins a report file
  pub begun : BeginsReport names sizes done
  begun = by (is_over s.items) refl
    where
      by : (b : Bool) → is_over s.items ≡ b → BeginsReport names sizes done
      by false o =
          let z : s.next ≡ 0 = ⊎_elim (λ e. e) (λ e. absurd (let no : true ≡ false = sym e ∙ o in cc (no))) r.over in
          record {
            items = s.items;
            words = replicate (sum sizes) (pos 0);
            rest = [];
            file = record {
              text =
                  ap (λ b. report_text names s.items ++ (if b then nv_lines names sizes (replicate (sum sizes) (pos 0)) else [])) o
                  ∙ ap (λ n. report_text names s.items ++ words_lines (take n names.nvs) sizes s.words) (sym z) ∙ r.text ∙ sym (append-nil (flat_map ended done));
              each = r.each;
              count = length_zeros (sum sizes);
              fit = zeros_fit (sum sizes);
            };
          }
      by true o =
          let zeros : List ℤ = replicate (sum (drop s.next sizes)) (pos 0) in
          let more : length (s.words ++ zeros) ≡ length s.words + length zeros = length-both s.words zeros in
          let n : length zeros ≡ sum (drop s.next sizes) = length_zeros (sum (drop s.next sizes)) in
          let t : sum sizes ≡ sum (take s.next sizes) + sum (drop s.next sizes) = sum_split s.next sizes in
          record {
            items = s.items;
            words = s.words ++ zeros;
            rest = words_lines (drop s.next names.nvs) (drop s.next sizes) zeros;
            file = record {
              text =
                  ap (λ b. report_text names s.items ++ (if b then nv_lines names sizes (s.words ++ zeros) else [])) o
                  ∙ ap (λ l. report_text names s.items ++ l) (words-more names.nvs sizes s.next s.words zeros r.below (omega (arith, r.below, f.each)) r.many)
                  ∙ sym (append_assoc (report_text names s.items) read_words (words_lines (drop s.next names.nvs) (drop s.next sizes) zeros))
                  ∙ ap (λ l. l ++ words_lines (drop s.next names.nvs) (drop s.next sizes) zeros) r.text;
              each = r.each;
              count = omega (arith, more, n, t, r.many);
              fit = All-both (FitsSigned w32) s.words zeros r.fit (zeros_fit (sum (drop s.next sizes)));
            };
          }

  -- where lines are missing, it is no report file
  pub unread : is_over s.items ≡ true → s.next < length names.nvs → (items : List Item) (words : List ℤ) → IsFile names sizes (flat_map ended done) items words → ⊥
  unread o l items words w = by (behind_read (flat_map ended done) [] items words (append-nil (flat_map ended done)) w)
    where
      item_next : (k : ℕ) → s.next ≡ k → (j : Item) (more : List ℕ) → IsItem names j → read_words ++ [] ≡ item_line names j ++ more → ⊥
      item_next zero z j more i e = no_item names sizes f j i more [] refl (ap (λ n. words_lines (take n names.nvs) sizes s.words ++ []) (sym z) ∙ e)
      item_next (suc k) z j more i e = no_item names sizes f j i more (read_words ++ []) (quiet_words [] (λ y. let x : suc k ≡ 0 = sym z ∙ y in absurd (omega (arith, x)))) e

      words_next : (us : List ℤ) (ns : List Text) (zs : List ℕ) → length ns ≡ length names.nvs - s.next → length zs ≡ length names.nvs - s.next → [] ≡ words_lines ns zs us → ⊥
      words_next us [] zs a b e = omega (arith, a, l)
      words_next us (x ∷ ns) [] a b e = omega (arith, b, l)
      words_next us (x ∷ ns) (z ∷ zs) a b e = absurd (cc (e))

      by : Next [] → ⊥
      by (inl x) = item_next s.next refl x.0 x.1 x.2 x.3
      by (inr (inl x)) = absurd (let no : true ≡ false = sym o ∙ x.0 in cc (no))
      by (inr (inr x)) =
          let a : length (drop s.next names.nvs) ≡ length names.nvs - s.next = length-drop s.next names.nvs in
          let b : length (drop s.next sizes) ≡ length sizes - s.next = length-drop s.next sizes in
          words_next x.1.0 (drop s.next names.nvs) (drop s.next sizes) a (omega (arith, b, f.each)) x.1.1

  -- all was read
  pub all_read : (is_over s.items ≡ true → length names.nvs ≤ s.next) → (b : Bool) → is_over s.items ≡ b
      → (ws : List ℤ) × IsFile names sizes (flat_map ended done) s.items ws × ((if b then Some s.words else None) ≡ (if is_over s.items then Some ws else None))
  all_read h false o =
      let z : s.next ≡ 0 = ⊎_elim (λ e. e) (λ e. absurd (let no : true ≡ false = sym e ∙ o in cc (no))) r.over in (
        replicate (sum sizes) (pos 0),
        record {
          text =
              ap (λ b. report_text names s.items ++ (if b then nv_lines names sizes (replicate (sum sizes) (pos 0)) else [])) o
              ∙ ap (λ n. report_text names s.items ++ words_lines (take n names.nvs) sizes s.words) (sym z) ∙ r.text;
          each = r.each;
          count = length_zeros (sum sizes);
          fit = zeros_fit (sum sizes);
        },
        ap (λ b. if b then Some (replicate (sum sizes) (pos 0)) else None) (sym o),
      )
  all_read h true o =
      let a : length names.nvs ≤ s.next = h o in
      let n : s.next ≡ length names.nvs = omega (arith, a, r.below) in (
        s.words,
        record {
          text =
              ap (λ b. report_text names s.items ++ (if b then nv_lines names sizes s.words else [])) o
              ∙ ap (λ l. report_text names s.items ++ words_lines l sizes s.words) (sym (take_all s.next names.nvs (sym n))) ∙ r.text;
          each = r.each;
          count = r.many ∙ ap sum (take_all s.next sizes (f.each ∙ sym n));
          fit = r.fit;
        },
        ap (λ b. if b then Some s.words else None) (sym o),
      )

-- ---- the last byte

abbrev pub last_byte : ℕ → List ℕ → ℕ
last_byte d [] = d
last_byte d (b ∷ bs) = last_byte b bs

last-both : (d : ℕ) (xs ys : List ℕ) → last_byte d (xs ++ ys) ≡ last_byte (last_byte d xs) ys
last-both d [] ys = refl
last-both d (x ∷ xs) ys = last-both x xs ys

last_further : (d : ℕ) (fs : List (List ℕ)) → last_byte d (further fs) ≡ 10
last_further d [] = refl
last_further d (g ∷ fs) = last-both 32 g (further fs) ∙ last_further (last_byte 32 g) fs

last_line : (d : ℕ) (g : List ℕ) (fs : List (List ℕ)) → last_byte d (line_of (g ∷ fs)) ≡ 10
last_line d g fs = last-both d g (further fs) ∙ last_further (last_byte d g) fs

last_text : (names : NameLists) (items : List Item) → last_byte 10 (report_text names items) ≡ 10
last_text names [] = refl
last_text names (i ∷ items) =
    last-both 10 (item_line names i) (report_text names items) ∙ ap (λ d. last_byte d (report_text names items)) (last_line 10 (decimal (tick_of i)) (fields_of names i)) ∙ last_text names items

last_words : (ns : List Text) (zs : List ℕ) (ws : List ℤ) → last_byte 10 (words_lines ns zs ws) ≡ 10
last_words [] zs ws = refl
last_words (n ∷ ns) [] ws = refl
last_words (n ∷ ns) (z ∷ zs) ws =
    last-both 10 (words_line n (take z ws)) (words_lines ns zs (drop z ws))
    ∙ ap (λ d. last_byte d (words_lines ns zs (drop z ws))) (last_line 10 (codes "nv") (n ∷ map signed_decimal (take z ws))) ∙ last_words ns zs (drop z ws)

pub last_full : (names : NameLists) (sizes : List ℕ) (items : List Item) (words : List ℤ) → last_byte 10 (full_text names sizes items words) ≡ 10
last_full names sizes items words =
    last-both 10 (report_text names items) (if is_over items then nv_lines names sizes words else [])
    ∙ ap (λ d. last_byte d (if is_over items then nv_lines names sizes words else [])) (last_text names items)
    ∙ by (is_over items)
  where
    by : (b : Bool) → last_byte 10 (if b then nv_lines names sizes words else []) ≡ 10
    by true = last_words names.nvs sizes words
    by false = refl

no_last : (b : ℕ) (l : List ℕ) → has_no_feed (b ∷ l) ≡ true → last_byte b l ≡ 10 → ⊥
no_last b [] h e =
    let p = feed_rest b [] h in
    absurd (let no : true ≡ false = sym (eq-eqb b 10 e) ∙ p.0 in cc (no))
no_last b (x ∷ l) h e = no_last x l (feed_rest b (x ∷ l) h).1 e

-- bytes behind the last line feed are in no report file
pub unfinished : (names : NameLists) (sizes : List ℕ) (front : List ℕ) (b : ℕ) (l : List ℕ) → has_no_feed (b ∷ l) ≡ true → (items : List Item) (words : List ℤ)
    → IsFile names sizes (front ++ b ∷ l) items words → ⊥
unfinished names sizes front b l h items words w =
    no_last b l h (sym (last-both 10 front (b ∷ l)) ∙ ap (last_byte 10) (sym w.text) ∙ last_full names sizes items words)
