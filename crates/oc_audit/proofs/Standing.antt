-- How far a report was read.
use Rattle.std.proofs.Common.{◌≡◌, ◌<◌, ◌≤◌, ℕ, suc, ◌+◌, true, List, [], ◌∷◌, ◌++◌, length, Some, None, codes, refl, sym, ap, ◌∙◌, subst, inl, ⊎_elim, append-nil, append_assoc, arith}
use Rattle.std.specs.Prelude.{◌-◌, if◌then◌else◌, slice_get}
use Rattle.oc_items.specs.declared.item.Item.{Item}
use Rattle.std.specs.List.{flat_map}
use Rattle.oc_tree.specs.Names.{NameLists}
use Rattle.oc_items.specs.Text.{ends, is_over}
use Rattle.oc_audit.specs.Files.{IsFile, IsReportFile, lines, ended, bad, early, IsBadLine}
use Rattle.oc_audit.specs.Taking.{Taken, TakesNone, Takes, has_no_feed, IsRead, Stands, AreNames}
use Rattle.oc_audit.proofs.ReadBack.{read_item_more, read_words_more, no_more, begun, unread, unfinished, all_read, line_feeds, line_last, lines-append, length-both}

module _ (names : NameLists) (sizes : List ℕ) (f : AreNames names sizes) (bytes : List ℕ) where
  pub stands_first : Stands names sizes bytes 0 bytes (record { items = []; next = 0; words = [] })
  stands_first = record {
    done = [];
    number = refl;
    short = omega arith;
    split = refl;
    text = refl;
    read = record {
      text = refl;
      each = λ i d l. absurd (omega (arith, l));
      fit = λ i d l. absurd (omega (arith, l));
      many = refl;
      below = omega arith;
      over = inl refl;
    };
  }

  read_more : (done : List (List ℕ)) (s t : Taken) (line : List ℕ) → IsRead names sizes done s → Takes names sizes s line true t → IsRead names sizes (done ++ line ∷ []) t
  read_more done s t line r k = ⊎_elim (λ x. read_item_more names sizes done s t line r x) (λ x. read_words_more names sizes done s t line f.each r x) k

  length-one : (done : List (List ℕ)) (line : List ℕ) → suc (length done) ≡ length (done ++ line ∷ [])
  length-one done line = let e : length (done ++ line ∷ []) ≡ length done + 1 = length-both done (line ∷ []) in omega (arith, e)

  pub stands_more : (n : ℕ) (rest : List ℕ) (s t : Taken) (line behind : List ℕ) → Stands names sizes bytes n rest s → line ++ (codes "\n" ++ behind) ≡ rest → has_no_feed line ≡ true
      → Takes names sizes s line true t → Stands names sizes bytes (n + 1) behind t
  stands_more n rest s t line behind a e h k =
      let whole : ended line ++ behind ≡ rest = append_assoc line (codes "\n") behind ∙ e in
      let more : length (ended line ++ behind) ≡ length (ended line) + length behind = length-both (ended line) behind in
      let one : length (ended line) ≡ length line + 1 = length-both line (codes "\n") in
      let same : length (ended line ++ behind) ≡ length rest = ap length whole in
      record {
        done = a.done ++ line ∷ [];
        number = let l : suc (length a.done) ≡ length (a.done ++ line ∷ []) = length-one a.done line in omega (arith, a.number, l);
        short = omega (arith, a.short, more, one, same);
        split = a.split ∙ ap (λ l. a.done ++ lines l) (sym whole) ∙ ap (λ l. a.done ++ l) (line_feeds line behind h) ∙ sym (append_assoc a.done (line ∷ []) (lines behind));
        text =
            ap (λ l. l ++ behind) (lines-append a.done (line ∷ []) ∙ ap (λ l. flat_map ended a.done ++ l) (append-nil (ended line)))
            ∙ append_assoc (flat_map ended a.done) (ended line) behind ∙ ap (λ l. flat_map ended a.done ++ l) whole ∙ a.text;
        read = read_more a.done s t line a.read k;
      }

  -- the line is the first bad one
  pub bad_line : (n : ℕ) (rest : List ℕ) (s : Taken) (line behind : List ℕ) → Stands names sizes bytes n rest s → line ++ (codes "\n" ++ behind) ≡ rest → has_no_feed line ≡ true
      → TakesNone names sizes s line → IsBadLine names sizes bytes (n + 1)
  bad_line n rest s line behind a e h k =
      let whole : ended line ++ behind ≡ rest = append_assoc line (codes "\n") behind ∙ e in
      record {
        before = a.done;
        number = omega (arith, a.number);
        begun = begun names sizes f a.done s a.read;
        ends = bad line (lines behind) (a.split ∙ ap (λ l. a.done ++ lines l) (sym whole) ∙ ap (λ l. a.done ++ l) (line_feeds line behind h)) (no_more names sizes f a.done s a.read line h k);
      }

  -- an unfinished line is bad
  pub bad_last : (n : ℕ) (rest : List ℕ) (s : Taken) → Stands names sizes bytes n rest s → (rest ≡ [] → ⊥) → has_no_feed rest ≡ true → TakesNone names sizes s rest
      → IsBadLine names sizes bytes (n + 1)
  bad_last n [] s a m h k = absurd (m refl)
  bad_last n (b ∷ rest) s a m h k = record {
    before = a.done;
    number = omega (arith, a.number);
    begun = begun names sizes f a.done s a.read;
    ends = bad (b ∷ rest) [] (a.split ∙ ap (λ l. a.done ++ l) (line_last b rest h)) (no_more names sizes f a.done s a.read (b ∷ rest) h k);
  }

  -- it may stand there, and its line feed is missing
  pub early_last : (n : ℕ) (rest : List ℕ) (s t : Taken) → Stands names sizes bytes n rest s → (rest ≡ [] → ⊥) → has_no_feed rest ≡ true → Takes names sizes s rest true t
      → IsBadLine names sizes bytes (n + 2)
  early_last n [] s t a m h k = absurd (m refl)
  early_last n (b ∷ rest) s t a m h k = record {
    before = a.done ++ (b ∷ rest) ∷ [];
    number = let l : suc (length a.done) ≡ length (a.done ++ (b ∷ rest) ∷ []) = length-one a.done (b ∷ rest) in omega (arith, a.number, l);
    begun = begun names sizes f (a.done ++ (b ∷ rest) ∷ []) t (read_more a.done s t (b ∷ rest) a.read k);
    ends = early (a.split ∙ ap (λ l. a.done ++ l) (line_last b rest h))
        (λ items words w. unfinished names sizes (flat_map ended a.done) b rest h items words (subst (λ l. IsFile names sizes l items words) (sym a.text) w));
  }

  -- lines are missing
  pub early_end : (n : ℕ) (s : Taken) → Stands names sizes bytes n [] s → is_over s.items ≡ true → s.next < length names.nvs → IsBadLine names sizes bytes (n + 1)
  early_end n s a o l = record {
    before = a.done;
    number = omega (arith, a.number);
    begun = begun names sizes f a.done s a.read;
    ends = early (a.split ∙ append-nil a.done)
        (λ items words w. unread names sizes f a.done s a.read o l items words (subst (λ x. IsFile names sizes x items words) (sym (sym (append-nil (flat_map ended a.done)) ∙ a.text)) w));
  }

  -- all was read
  pub whole_report : (n : ℕ) (s : Taken) → Stands names sizes bytes n [] s → (is_over s.items ≡ true → length names.nvs ≤ s.next)
      → IsReportFile names sizes bytes s.items (if is_over s.items then Some s.words else None)
  whole_report n s a l =
      let r = all_read names sizes f a.done s a.read l (is_over s.items) refl in
      record { words = r.0; file = subst (λ x. IsFile names sizes x s.items r.0) (sym (append-nil (flat_map ended a.done)) ∙ a.text) r.1; nv_is = r.2 }

-- ---- the last item

pub ends_last : (items : List Item) (i : Item) → Some i ≡ slice_get items (length items - 1) → ends i ≡ is_over items
ends_last [] i e = absurd (cc (e))
ends_last (x ∷ []) i e = let same : i ≡ x = cc (e) in ap ends same
ends_last (x ∷ y ∷ rest) i e =
    let more : suc (suc (length rest)) - 1 ≡ suc (length rest) = omega arith in
    let less : suc (length rest) - 1 ≡ length rest = omega arith in
    let at : Some i ≡ slice_get (x ∷ y ∷ rest) (suc (length rest)) = e ∙ ap (slice_get (x ∷ y ∷ rest)) more in
    ends_last (y ∷ rest) i (at ∙ ap (slice_get (y ∷ rest)) (sym less))
