-- Of a whole report meters are told the items.
use Rattle.std.proofs.Common.{ℕ, suc, ℤ, ◌+◌, ◌<◌, ◌^◌, ◌≡◌, cond, Bool, true, false, List, [], ◌∷◌, ◌++◌, map, take, drop, get_or, codes, decimal, refl, sym, ap}
use Rattle.std.proofs.Common.{subst, ◌∙◌, append_assoc, arith}
use Rattle.std.specs.Fmt.{signed_decimal}
use Rattle.std.specs.List.{All}
use Rattle.std.proofs.lemmas.List.{take_all}
use Rattle.std.proofs.lemmas.List.Elements.{All-nil, All-cons, All-tail}
use Rattle.oc_io.specs.Lines.{further}
use Rattle.oc_tree.specs.Names.{NameLists, Text}
use Rattle.oc_items.specs.declared.item.Item.{Item}
use Rattle.oc_items.specs.Text.{tick_of, fields_of, item_line, report_text, words_line, words_lines, nv_lines, is_over}
use Rattle.oc_items.specs.OneText.{AreApart, IsItem, is_field}
use Rattle.oc_items.specs.Reading.{place_of}
use Rattle.oc_items.proofs.Back.{one_text, first_of_all, line_fits}
use Rattle.oc_items.proofs.Fields.{begins_with_digit}
use Rattle.oc_meters.specs.Tally.{Reading, tell_readings}
use Rattle.oc_meters.specs.Reads.{Page, longest_line, IsLineTold, told, untold, TakesBytes}
use Rattle.oc_meters.specs.ReadBack.{begun, tell_items, ReportIsRead}
use Rattle.oc_meters.proofs.Stretches.{line_is, most, passes}
use Rattle.oc_meters.proofs.Lengths.{line_length}
use Rattle.oc_meters.proofs.Numerals.{words_line_fits}

module _ (names : NameLists) (s : AreApart names.sensors) (p : AreApart names.ports) where
  -- two items with one line are the same
  one_item : (i j : Item) → IsItem names i → IsItem names j → item_line names i ≡ item_line names j → i ≡ j
  one_item i j h k e =
      let both : (i ∷ []) ≡ (j ∷ []) = one_text names (i ∷ []) (j ∷ []) s p (All-cons (IsItem names) i [] h (All-nil (IsItem names))) (All-cons (IsItem names) j [] k (All-nil (IsItem names)))
      (ap (λ (l : List ℕ). l ++ []) e) in
      cc both

  told_item : (i : Item) (line : List ℕ) (old new : List Reading) → IsItem names i → place_of i < 2 ^ 8 → item_line names i ≡ line ++ codes "\n" → IsLineTold names line old new → new ≡ tell_readings i old
  told_item i line old new h l e (told j t n) = n ∙ ap (λ (x : Item). tell_readings x old) (one_item j i t.has.is h (t.has.line_is ∙ sym e))
  told_item i line old new h l e (untold none n) = absurd (none i l (record { is = h; line_is = e }))

  -- no item's line begins with the letter of the lines of nonvolatile variables
  told_other : (line rest : List ℕ) (old new : List Reading) → line ≡ 110 ∷ rest → IsLineTold names line old new → new ≡ old
  told_other line rest old new e (untold none n) = n
  told_other line rest old new e (told j t n) =
      let digit : get_or (item_line names j) 0 110 < 58 = begins_with_digit (tick_of j) (further (fields_of names j)) 110 t.has.is.tick in
      let same : get_or (item_line names j) 0 110 ≡ get_or (line ++ codes "\n") 0 110 = ap (λ (x : List ℕ). get_or x 0 110) t.has.line_is in
      let letter : get_or (line ++ codes "\n") 0 110 ≡ 110 = rw e refl in
      absurd (omega (arith, digit, same, letter))

  take_letter : (m : ℕ) (rest : List ℕ) → take (m + 1) (110 ∷ rest) ≡ 110 ∷ take m rest
  take_letter m rest = let k : m + 1 ≡ suc m = omega arith in rw k refl

  after_items : (items : List Item) (rest : List ℕ) (old : List Reading) (new : Page) → All (IsItem names) items → All (λ i. place_of i < 2 ^ 8) items
      → TakesBytes names (begun old) (report_text names items ++ rest) new → TakesBytes names (begun (tell_items items old)) rest new
  after_items [] rest old new h l t = t
  after_items (i ∷ items) rest old new h l t =
      let here = first_of_all (IsItem names) i items h in
      let whole = line_is (decimal (tick_of i)) (fields_of names i) (line_fits names s p i here) in
      let more = report_text names items ++ rest in
      let text : report_text names (i ∷ items) ++ rest ≡ whole.line ++ (10 ∷ more) =
      append_assoc (item_line names i) (report_text names items) rest ∙ ap (λ (x : List ℕ). x ++ more) whole.is ∙ append_assoc whole.line (codes "\n") more in
      let passed = passes names whole.line more old new whole.free (subst (λ (x : List ℕ). TakesBytes names (begun old) x new) text t) in
      let short : take (most names) whole.line ≡ whole.line = take_all (most names) whole.line (omega (arith, line_length names i whole.line here whole.is)) in
      let one : passed.readings ≡ tell_readings i old = told_item i whole.line old passed.readings here (first_of_all (λ j. place_of j < 2 ^ 8) i items l) whole.is
      (subst (λ (x : List ℕ). IsLineTold names x old passed.readings) short passed.told) in
      after_items items rest (tell_readings i old) new (All-tail (IsItem names) i items h) (All-tail (λ j. place_of j < 2 ^ 8) i items l)
      (subst (λ (r : List Reading). TakesBytes names (begun r) more new) one passed.others)

  after_words : (nvs : List Text) (sizes : List ℕ) (words : List ℤ) (old : List Reading) (new : Page) → All (λ n. is_field n ≡ true) nvs
      → TakesBytes names (begun old) (words_lines nvs sizes words) new → new ≡ begun old
  after_words [] sizes words old new f t = t
  after_words (name ∷ nvs) [] words old new f t = t
  after_words (name ∷ nvs) (size ∷ sizes) words old new f t =
      let fit = words_line_fits name (take size words) (first_of_all (λ n. is_field n ≡ true) name nvs f) in
      let whole = line_is (codes "nv") (name ∷ map signed_decimal (take size words)) fit in
      let more = words_lines nvs sizes (drop size words) in
      let text : words_line name (take size words) ++ more ≡ whole.line ++ (10 ∷ more) = ap (λ (x : List ℕ). x ++ more) whole.is ∙ append_assoc whole.line (codes "\n") more in
      let passed = passes names whole.line more old new whole.free (subst (λ (x : List ℕ). TakesBytes names (begun old) x new) text t) in
      let none : passed.readings ≡ old = told_other (take (most names) whole.line) _ old passed.readings (take_letter (longest_line names) _) passed.told in
      after_words nvs sizes (drop size words) old new (All-tail (λ n. is_field n ≡ true) name nvs f)
      (subst (λ (r : List Reading). TakesBytes names (begun r) more new) none passed.others)

  after_end : (over : Bool) (sizes : List ℕ) (words : List ℤ) (old : List Reading) (new : Page) → All (λ n. is_field n ≡ true) names.nvs
      → TakesBytes names (begun old) (cond over (nv_lines names sizes words) []) new → new ≡ begun old
  after_end true sizes words old new f t = after_words names.nvs sizes words old new f t
  after_end false sizes words old new f t = t

pub report_is_read : ReportIsRead
report_is_read names sizes items words old new s p f h l t =
    after_end names s p (is_over items) sizes words (tell_items items old) new f
    (after_items names s p items (cond (is_over items) (nv_lines names sizes words) []) old new h l t)
