-- A report file has no bad line, and other bytes have one at most; and a text is that of one report.
use Rattle.std.proofs.Common.{◌≡◌, ◌<◌, ◌+◌, ℕ, zero, suc, ℤ, Bool, true, false, List, [], ◌∷◌, ◌++◌, length, sum, Option, Some, None, FitsSigned, refl, sym, ap, ◌∙◌, subst}
use Rattle.std.proofs.Common.{append-nil, append_assoc, arith, eqb-true}
use Rattle.std.specs.Prelude.{◌==◌, if◌then◌else◌}
use Rattle.std.specs.Int.{w32}
use Rattle.std.specs.List.{All, flat_map}
use Rattle.oc_tree.specs.Names.{NameLists}
use Rattle.oc_items.specs.declared.item.Item.{Item}
use Rattle.oc_items.specs.Text.{full_text, is_over}
use Rattle.oc_items.specs.OneText.{AreApart, IsItem, is_field}
use Rattle.oc_items.proofs.NvBack.{one_report}
use Rattle.oc_audit.specs.Files.{IsFile, IsReportFile, lines, onto_line, ended, BeginsReport, EndsBadly, bad, early, IsBadLine}
use Rattle.oc_audit.specs.Laws.{ReadsBack}
use Rattle.oc_audit.proofs.ReadBack.{length-both, lines-append, last_byte, last_full}

-- ---- the first bad line

pub longer : {X : Type 0} (xs ys : List X) (x : X) (r t : List X) → xs ++ x ∷ r ≡ ys ++ t → length xs < length ys → (more : List X) × (ys ≡ (xs ++ x ∷ []) ++ more)
longer [] [] x r t e l = absurd (omega (arith, l))
longer [] (y ∷ ys) x r t e l = (ys, let same : y ≡ x = cc (e) in ap (λ z. z ∷ ys) same)
longer (a ∷ xs) [] x r t e l = absurd (omega (arith, l))
longer (a ∷ xs) (y ∷ ys) x r t e l =
    let m = longer xs ys x r t (cc (e)) (omega (arith, l)) in
    let same : y ≡ a = cc (e) in
    (m.0, ap (λ z. z ∷ ys) same ∙ ap (λ z. a ∷ z) m.1)

pub same_length : (i j : ℕ) → (i < j → ⊥) → (j < i → ⊥) → i ≡ j
same_length zero zero h k = refl
same_length zero (suc j) h k = absurd (h (omega arith))
same_length (suc i) zero h k = absurd (k (omega arith))
same_length (suc i) (suc j) h k = ap suc (same_length i j (λ l. h (omega (arith, l))) (λ l. k (omega (arith, l))))

module _ (names : NameLists) (sizes : List ℕ) where
  begins_front : (ls more : List (List ℕ)) → BeginsReport names sizes (ls ++ more) → BeginsReport names sizes ls
  begins_front ls more b = record {
    items = b.items;
    words = b.words;
    rest = flat_map ended more ++ b.rest;
    file = subst (λ x. IsFile names sizes x b.items b.words) (ap (λ x. x ++ b.rest) (lines-append ls more) ∙ append_assoc (flat_map ended ls) (flat_map ended more) b.rest) b.file;
  }

  module _ (bytes : List ℕ) where
    tail_of : (before : List (List ℕ)) → EndsBadly names sizes bytes before → (tail : List (List ℕ)) × (lines bytes ≡ before ++ tail)
    tail_of before (bad line rest e none) = (line ∷ rest, e)
    tail_of before (early e none) = ([], e ∙ sym (append-nil before))

    -- no bad line stands behind another
    no_later : (before later : List (List ℕ)) → EndsBadly names sizes bytes before → BeginsReport names sizes later → (tail : List (List ℕ)) → lines bytes ≡ later ++ tail → length before < length later → ⊥
    no_later before later (bad line rest e none) b tail t l =
        let m = longer before later line rest tail (sym e ∙ t) l in
        none (begins_front (before ++ line ∷ []) m.0 (subst (BeginsReport names sizes) m.1 b))
    no_later before later (early e none) b tail t l =
        let n : length before ≡ length later + length tail = ap length (sym e ∙ t) ∙ length-both later tail in
        absurd (omega (arith, n, l))

    pub one_bad_line : (n m : ℕ) → IsBadLine names sizes bytes n → IsBadLine names sizes bytes m → n ≡ m
    one_bad_line n m x y =
        let xt = tail_of x.before x.ends in
        let yt = tail_of y.before y.ends in
        let no : length x.before < length y.before → ⊥ = no_later x.before y.before x.ends y.begun yt.0 yt.1 in
        let on : length y.before < length x.before → ⊥ = no_later y.before x.before y.ends x.begun xt.0 xt.1 in
        let same : length x.before ≡ length y.before = same_length (length x.before) (length y.before) no on in
        x.number ∙ ap suc same ∙ sym y.number

-- ---- lines, joined

onto_joined : (b : ℕ) (l : List ℕ) (ls : List (List ℕ)) → flat_map ended (onto_line b (l ∷ ls)) ≡ b ∷ flat_map ended (l ∷ ls)
onto_joined b l ls = refl

joined_on : (b : ℕ) (ls : List (List ℕ)) → (ls ≡ [] → ⊥) → flat_map ended (onto_line b ls) ≡ b ∷ flat_map ended ls
joined_on b [] h = absurd (h refl)
joined_on b (l ∷ ls) h = onto_joined b l ls

onto_some : (b : ℕ) (ls : List (List ℕ)) → onto_line b ls ≡ [] → ⊥
onto_some b [] e = absurd (cc (e))
onto_some b (l ∷ ls) e = absurd (cc (e))

lines_some : (b : ℕ) (bs : List ℕ) → lines (b ∷ bs) ≡ [] → ⊥
lines_some b bs = by (b == 10)
  where
    by : (c : Bool) → (if c then [] ∷ lines bs else onto_line b (lines bs)) ≡ [] → ⊥
    by true e = absurd (cc (e))
    by false e = onto_some b (lines bs) e

-- bytes whose last is a line feed are their lines
joined : (bytes : List ℕ) → last_byte 10 bytes ≡ 10 → flat_map ended (lines bytes) ≡ bytes
joined [] h = refl
joined (b ∷ bs) h = by (λ last. joined bs last) (b == 10) refl
  where
    unfeed : (last_byte 10 bs ≡ 10 → flat_map ended (lines bs) ≡ bs) → (b == 10) ≡ false → (rest : List ℕ) → last_byte b rest ≡ 10 → rest ≡ bs
        → flat_map ended (onto_line b (lines bs)) ≡ b ∷ bs
    unfeed on n [] last e = absurd (let no : true ≡ false = sym (ap (λ x. x == 10) last) ∙ n in cc (no))
    unfeed on n (x ∷ rest) last e = joined_on b (lines bs) (λ z. lines_some x rest (ap lines e ∙ z)) ∙ ap (λ l. b ∷ l) (on (subst (λ l. last_byte 10 l ≡ 10) e last))

    by : (last_byte 10 bs ≡ 10 → flat_map ended (lines bs) ≡ bs) → (c : Bool) → (b == 10) ≡ c → flat_map ended (if c then [] ∷ lines bs else onto_line b (lines bs)) ≡ b ∷ bs
    by on true e =
        let feed : b ≡ 10 = eqb-true b 10 e in
        ap (λ l. 10 ∷ l) (on (subst (λ x. last_byte x bs ≡ 10) feed h)) ∙ ap (λ x. x ∷ bs) (sym feed)
    by on false e = unfeed on e bs h refl

-- a report file has no bad line
pub no_bad_line : (names : NameLists) (sizes : List ℕ) (bytes : List ℕ) (n : ℕ) (items : List Item) (words : List ℤ) → IsFile names sizes bytes items words → IsBadLine names sizes bytes n → ⊥
no_bad_line names sizes bytes n items words w b = by b.before b.ends
  where
    by : (before : List (List ℕ)) → EndsBadly names sizes bytes before → ⊥
    by before (bad line rest e none) =
        let last : last_byte 10 bytes ≡ 10 = ap (last_byte 10) (sym w.text) ∙ last_full names sizes items words in
        let split : bytes ≡ flat_map ended (before ++ line ∷ []) ++ flat_map ended rest =
        sym (joined bytes last) ∙ ap (flat_map ended) (e ∙ sym (append_assoc before (line ∷ []) rest)) ∙ lines-append (before ++ line ∷ []) rest in
        none (record { items = items; words = words; rest = flat_map ended rest; file = subst (λ x. IsFile names sizes x items words) split w })
    by before (early e none) = none items words w

-- ---- a text, read back

module _ (names : NameLists) (sizes : List ℕ) (sensors : AreApart names.sensors) (ports : AreApart names.ports) (nvs : All (λ n. is_field n ≡ true) names.nvs) (each : length sizes ≡ length names.nvs)
    (items : List Item) (words : List ℤ) (are : All (IsItem names) items) (count : length words ≡ sum sizes) (fit : All (FitsSigned w32) words) where
  abbrev text : List ℕ
  text = full_text names sizes items words

  whole : IsFile names sizes text items words
  whole = record { text = refl; each = are; count = count; fit = fit }

  same_words : (others : List Item) (us : List ℤ) → (others ≡ items) × (is_over others ≡ true → us ≡ words) → (b : Bool) → is_over others ≡ b
      → (if b then Some us else None) ≡ (if b then Some words else None)
  same_words others us h true o = ap (λ l. Some l) (h.1 o)
  same_words others us h false o = refl

  alone : (others : List Item) (nv : Option (List ℤ)) → IsReportFile names sizes text others nv → (others ≡ items) × (nv ≡ (if is_over items then Some words else None))
  alone others nv f =
      let h = one_report names sizes others items f.words words sensors ports nvs each f.file.each are f.file.count count f.file.fit fit f.file.text in
      (h.0, f.nv_is ∙ same_words others f.words h (is_over others) refl ∙ ap (λ l. if is_over l then Some words else None) h.0)

  pub reads_back : ReadsBack names sizes items words
  reads_back = record {
    spells = record { words = words; file = whole; nv_is = refl };
    alone = alone;
    good = λ n. no_bad_line names sizes text n items words whole;
  }
