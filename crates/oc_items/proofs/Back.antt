-- An item is told by its line.
use Rattle.std.proofs.Common.{ℕ, ◌<◌, ◌≡◌, cond, List, [], ◌∷◌, ◌++◌, get_or, decimal, codes, ap, sym, ◌∙◌, refl, arith, append_assoc}
use Rattle.std.proofs.lemmas.List.{append-nil}
use Rattle.std.specs.List.{All}
use Rattle.std.specs.Str.{bytes_eq}
use Rattle.std.specs.Str.Parse.{digits_value}
use Rattle.std.proofs.lemmas.List.Elements.{All-tail}
use Rattle.oc_io.specs.Lines.{further}
use Rattle.oc_tree.specs.Names.{NameLists}
use Rattle.oc_tree.specs.declared.said.TrapKind.{TrapKind}
use Rattle.oc_tree.specs.declared.said.TrapKind.TheVariants as trap
use Rattle.oc_items.specs.declared.item.Item.{Item}
use Rattle.oc_items.specs.declared.item.Item.TheVariants as item
use Rattle.oc_items.specs.Text.{tick_of, fields_of, item_line, report_text}
use Rattle.oc_items.specs.OneText.{AreApart, IsItem, OneTextEach}
use Rattle.oc_items.proofs.Fields.{AllFields, line_cut, decimal_field, begins_with_digit}
use Rattle.oc_items.proofs.Numbers.{signed_from, decimal_back, signed_field, signed_back}
use Rattle.oc_items.proofs.Places.{place_from, place_back}

pub first_of_all : {X : Type 0} (P : X → Type 0) (x : X) (xs : List X) → All P (x ∷ xs) → P x
first_of_all P x xs h = h 0 x (omega arith)

abbrev pub kind_from : List ℕ → TrapKind
kind_from word = cond (bytes_eq word (codes "zero")) trap.Zero trap.Index

-- the item of this tick and these fields
abbrev pub told : NameLists → ℕ → List (List ℕ) → Item
told names t (key ∷ []) = cond (bytes_eq key (codes "end")) (item.End t) (item.Dark t)
told names t (key ∷ n ∷ []) =
    cond (bytes_eq key (codes "use")) (item.Use t (digits_value 10 n))
    (cond (bytes_eq key (codes "done")) (item.Done t (digits_value 10 n))
    (cond (bytes_eq key (codes "tag")) (item.Tag t (digits_value 10 n))
    (cond (bytes_eq key (codes "enter")) (item.Enter t (digits_value 10 n))
    (cond (bytes_eq key (codes "commit")) (item.Commit t (digits_value 10 n))
    (cond (bytes_eq key (codes "abort")) (item.Abort t (digits_value 10 n))
    (item.Off t (digits_value 10 n)))))))
told names t (key ∷ a ∷ n ∷ []) =
    cond (bytes_eq key (codes "sense")) (item.Sense t (place_from 0 names.sensors a) (signed_from n))
    (cond (bytes_eq key (codes "emit")) (item.Emit t (place_from 0 names.ports a) (signed_from n))
    (item.Trap t (kind_from a) (digits_value 10 n)))
told names t other = item.Dark t

abbrev pub told_line : NameLists → List (List ℕ) → Item
told_line names [] = item.Dark 0
told_line names (t ∷ fields) = told names (digits_value 10 t) fields

back : (names : NameLists) → AreApart names.sensors → AreApart names.ports → (i : Item) → IsItem names i → told names (tick_of i) (fields_of names i) ≡ i
back names s p (item.Sense tick sensor value) h = rw (place_back names.sensors sensor s.differ h.named, signed_back value h.fits) refl
back names s p (item.Emit tick port value) h = rw (place_back names.ports port p.differ h.named, signed_back value h.fits) refl
back names s p (item.Use tick n) h = rw (decimal_back n (omega (arith, h.fits))) refl
back names s p (item.Done tick n) h = rw (decimal_back n (omega (arith, h.fits))) refl
back names s p (item.Tag tick n) h = rw (decimal_back n (omega (arith, h.fits))) refl
back names s p (item.Enter tick n) h = rw (decimal_back n (omega (arith, h.fits))) refl
back names s p (item.Commit tick n) h = rw (decimal_back n (omega (arith, h.fits))) refl
back names s p (item.Abort tick n) h = rw (decimal_back n (omega (arith, h.fits))) refl
back names s p (item.Off tick n) h = rw (decimal_back n h.fits) refl
back names s p (item.Trap tick trap.Zero n) h = rw (decimal_back n (omega (arith, h.fits))) refl
back names s p (item.Trap tick trap.Index n) h = rw (decimal_back n (omega (arith, h.fits))) refl
back names s p (item.End tick) h = refl
back names s p (item.Dark tick) h = refl

after_tick : (names : NameLists) → AreApart names.sensors → AreApart names.ports → (i : Item) → IsItem names i → AllFields (fields_of names i)
after_tick names s p (item.Sense tick sensor value) h = (refl, (s.fields sensor [] h.named, (signed_field value h.fits, tt)))
after_tick names s p (item.Emit tick port value) h = (refl, (p.fields port [] h.named, (signed_field value h.fits, tt)))
after_tick names s p (item.Use tick n) h = (refl, (decimal_field n (omega (arith, h.fits)), tt))
after_tick names s p (item.Done tick n) h = (refl, (decimal_field n (omega (arith, h.fits)), tt))
after_tick names s p (item.Tag tick n) h = (refl, (decimal_field n (omega (arith, h.fits)), tt))
after_tick names s p (item.Enter tick n) h = (refl, (decimal_field n (omega (arith, h.fits)), tt))
after_tick names s p (item.Commit tick n) h = (refl, (decimal_field n (omega (arith, h.fits)), tt))
after_tick names s p (item.Abort tick n) h = (refl, (decimal_field n (omega (arith, h.fits)), tt))
after_tick names s p (item.Off tick n) h = (refl, (decimal_field n h.fits, tt))
after_tick names s p (item.Trap tick trap.Zero n) h = (refl, (refl, (decimal_field n (omega (arith, h.fits)), tt)))
after_tick names s p (item.Trap tick trap.Index n) h = (refl, (refl, (decimal_field n (omega (arith, h.fits)), tt)))
after_tick names s p (item.End tick) h = (refl, tt)
after_tick names s p (item.Dark tick) h = (refl, tt)

pub line_fits : (names : NameLists) → AreApart names.sensors → AreApart names.ports → (i : Item) → IsItem names i → AllFields (decimal (tick_of i) ∷ fields_of names i)
line_fits names s p i h = (decimal_field (tick_of i) h.tick, after_tick names s p i h)

line_back : (names : NameLists) → AreApart names.sensors → AreApart names.ports → (i : Item) → IsItem names i → told_line names (decimal (tick_of i) ∷ fields_of names i) ≡ i
line_back names s p i h = ap (λ (t : ℕ). told names t (fields_of names i)) (decimal_back (tick_of i) h.tick) ∙ back names s p i h

-- what stands after the items is nothing, or begins with another byte than a digit
abbrev pub Quiet : List ℕ → Type 0
Quiet rest = get_or rest 0 110 ≡ 110

no_item : (names : NameLists) (i : Item) → IsItem names i → (more rest : List ℕ) → Quiet rest → rest ≡ item_line names i ++ more → ⊥
no_item names i h more rest q e =
    let line : get_or (item_line names i ++ more) 0 110 < 58 = rw append_assoc (begins_with_digit (tick_of i) (further (fields_of names i) ++ more) 110 h.tick) in
    let same : get_or rest 0 110 ≡ get_or (item_line names i ++ more) 0 110 = ap (λ (x : List ℕ). get_or x 0 110) e in
    omega (arith, q, line, same)

-- two lists of items with something quiet after each, and the same bytes
pub same_items : (names : NameLists) → AreApart names.sensors → AreApart names.ports
    → (a b : List Item) (r t : List ℕ) → All (IsItem names) a → All (IsItem names) b → Quiet r → Quiet t
    → report_text names a ++ r ≡ report_text names b ++ t → (a ≡ b) × (r ≡ t)
same_items names s p [] [] r t h k q w e = (refl, e)
same_items names s p [] (j ∷ b) r t h k q w e =
    absurd (no_item names j (first_of_all (IsItem names) j b k) (report_text names b ++ t) r q (e ∙ append_assoc (item_line names j) (report_text names b) t))
same_items names s p (i ∷ a) [] r t h k q w e =
    absurd (no_item names i (first_of_all (IsItem names) i a h) (report_text names a ++ r) t w (sym e ∙ append_assoc (item_line names i) (report_text names a) r))
same_items names s p (i ∷ a) (j ∷ b) r t h k q w e =
    let hi = first_of_all (IsItem names) i a h in
    let hj = first_of_all (IsItem names) j b k in
    let cut = line_cut (decimal (tick_of i)) (decimal (tick_of j)) (fields_of names i) (fields_of names j) (report_text names a ++ r) (report_text names b ++ t)
    (line_fits names s p i hi) (line_fits names s p j hj)
    (sym (append_assoc (item_line names i) (report_text names a) r) ∙ e ∙ append_assoc (item_line names j) (report_text names b) t) in
    let one : i ≡ j = sym (line_back names s p i hi) ∙ ap (told_line names) cut.0 ∙ line_back names s p j hj in
    let rest = same_items names s p a b r t (All-tail (IsItem names) i a h) (All-tail (IsItem names) j b k) q w cut.1 in
    (ap (λ (x : Item). x ∷ a) one ∙ ap (λ (xs : List Item). j ∷ xs) rest.0, rest.1)

pub one_text : OneTextEach
one_text names a b s p h k e =
    (same_items names s p a b [] [] h k refl refl (append-nil (report_text names a) ∙ e ∙ sym (append-nil (report_text names b)))).0
