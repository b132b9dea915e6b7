-- An item is read from the parts of its line.
use Rattle.std.proofs.Common.{ℕ, zero, suc, ℤ, ◌<◌, ◌≤◌, ◌≡◌, ◌^◌, ◌==◌, ◌&&◌, ◌||◌, not, Bool, true, false, List, [], ◌∷◌, ◌++◌, codes, decimal, refl, sym, ap, subst, ◌∙◌, append_assoc, arith}
use Rattle.std.proofs.lemmas.Bool.{and_parts}
use Rattle.std.proofs.lemmas.List.{append_cancel_right}
use Rattle.std.specs.Fmt.{signed_decimal}
use Rattle.oc_tree.specs.Names.{NameLists, Text, name_at}
use Rattle.oc_tree.specs.declared.said.TrapKind.TheVariants as trap
use Rattle.oc_items.specs.declared.item.Item.{Item}
use Rattle.oc_items.specs.declared.item.Item.TheVariants as item
use Rattle.oc_items.specs.Text.{tick_of, item_line}
use Rattle.oc_items.specs.OneText.{is_field}
use Rattle.oc_items.specs.Reading.{place_of, HasLine, LineTells, body_of, has_no_space, IsValue, NoneBefore, HasBody, TellsBody, NoSense, NoEmit, NoStatement, NoMark, NoStop}
use Rattle.oc_items.proofs.Fields.{decimal_field}

-- ---- lines and bodies

three_parts : (tick name value : List ℕ) (key : List ℕ) → tick ++ (key ++ (name ++ (codes " " ++ (value ++ codes "\n")))) ≡ (tick ++ (key ++ (name ++ (codes " " ++ value)))) ++ codes "\n"
three_parts tick name value key =
    ap (λ (l : List ℕ). tick ++ (key ++ l)) (sym (append_assoc name (codes " " ++ value) (codes "\n")))
    ∙ ap (λ (l : List ℕ). tick ++ l) (sym (append_assoc key (name ++ (codes " " ++ value)) (codes "\n")))
    ∙ sym (append_assoc tick (key ++ (name ++ (codes " " ++ value))) (codes "\n"))

line_is_body : (names : NameLists) (i : Item) → item_line names i ≡ (decimal (tick_of i) ++ (codes " " ++ body_of names i)) ++ codes "\n"
line_is_body names (item.Sense tick sensor value) = three_parts (decimal tick) (name_at names.sensors sensor) (signed_decimal value) (codes " sense ")
line_is_body names (item.Emit tick port value) = three_parts (decimal tick) (name_at names.ports port) (signed_decimal value) (codes " emit ")
line_is_body names (item.Use tick n) = sym (append_assoc (decimal tick) (codes " use " ++ decimal n) (codes "\n"))
line_is_body names (item.Done tick n) = sym (append_assoc (decimal tick) (codes " done " ++ decimal n) (codes "\n"))
line_is_body names (item.Tag tick n) = sym (append_assoc (decimal tick) (codes " tag " ++ decimal n) (codes "\n"))
line_is_body names (item.Enter tick n) = sym (append_assoc (decimal tick) (codes " enter " ++ decimal n) (codes "\n"))
line_is_body names (item.Commit tick n) = sym (append_assoc (decimal tick) (codes " commit " ++ decimal n) (codes "\n"))
line_is_body names (item.Abort tick n) = sym (append_assoc (decimal tick) (codes " abort " ++ decimal n) (codes "\n"))
line_is_body names (item.Off tick n) = sym (append_assoc (decimal tick) (codes " off " ++ decimal n) (codes "\n"))
line_is_body names (item.Trap tick trap.Zero n) = sym (append_assoc (decimal tick) (codes " trap zero " ++ decimal n) (codes "\n"))
line_is_body names (item.Trap tick trap.Index n) = sym (append_assoc (decimal tick) (codes " trap index " ++ decimal n) (codes "\n"))
line_is_body names (item.End tick) = sym (append_assoc (decimal tick) (codes " end") (codes "\n"))
line_is_body names (item.Dark tick) = sym (append_assoc (decimal tick) (codes " dark") (codes "\n"))

body_there : (names : NameLists) (line : List ℕ) (i : Item) → HasLine names line i → decimal (tick_of i) ++ (codes " " ++ body_of names i) ≡ line
body_there names line i h = append_cancel_right (decimal (tick_of i) ++ (codes " " ++ body_of names i)) line (codes "\n") (sym (line_is_body names i) ∙ h.line_is)

-- ---- the first space

head_is : (a b : ℕ) (x y : List ℕ) → a ∷ x ≡ b ∷ y → a ≡ b
head_is a b x y e = cc

tail_is : (a b : ℕ) (x y : List ℕ) → a ∷ x ≡ b ∷ y → x ≡ y
tail_is a b x y e = cc

no_space_first : (b : ℕ) (bs : List ℕ) → has_no_space (b ∷ bs) ≡ true → 32 ≡ b → ⊥
no_space_first b bs h e = let t : not (b == 32) ≡ true = (and_parts (not (b == 32)) (has_no_space bs) h).0 in let u : not (32 == 32) ≡ true = subst (λ (x : ℕ). not (x == 32) ≡ true) (sym e) t in cc u

no_space_rest : (b : ℕ) (bs : List ℕ) → has_no_space (b ∷ bs) ≡ true → has_no_space bs ≡ true
no_space_rest b bs h = (and_parts (not (b == 32)) (has_no_space bs) h).1

space_cut : (a b x y : List ℕ) → has_no_space a ≡ true → has_no_space b ≡ true → a ++ (codes " " ++ x) ≡ b ++ (codes " " ++ y) → (a ≡ b) × (x ≡ y)
space_cut [] [] x y h k e = (refl, tail_is 32 32 x y e)
space_cut [] (c ∷ b) x y h k e = absurd (no_space_first c b k (head_is 32 c x (b ++ (codes " " ++ y)) e))
space_cut (c ∷ a) [] x y h k e = absurd (no_space_first c a h (sym (head_is c 32 (a ++ (codes " " ++ x)) y e)))
space_cut (c ∷ a) (d ∷ b) x y h k e =
    let r = space_cut a b x y (no_space_rest c a h) (no_space_rest d b k) (tail_is c d (a ++ (codes " " ++ x)) (b ++ (codes " " ++ y)) e) in
    (rw (head_is c d (a ++ (codes " " ++ x)) (b ++ (codes " " ++ y)) e, r.0) refl, r.1)

field_byte : (s t f : Bool) → (not (s || t) && f) ≡ true → (not s ≡ true) × (f ≡ true)
field_byte true t f h = cc h
field_byte false true f h = cc h
field_byte false false f h = (refl, h)

field_has_no_space : (bytes : List ℕ) → is_field bytes ≡ true → has_no_space bytes ≡ true
field_has_no_space [] h = refl
field_has_no_space (b ∷ bs) h = let p = field_byte (b == 32) (b == 10) (is_field bs) h in rw p.0 (field_has_no_space bs p.1)

space_there : (a x : List ℕ) → has_no_space (a ++ (codes " " ++ x)) ≡ true → ⊥
space_there [] x h = cc h
space_there (c ∷ a) x h = space_there a x (no_space_rest c (a ++ (codes " " ++ x)) h)

pub no_line_without_space : (names : NameLists) (line : List ℕ) → has_no_space line ≡ true → (i : Item) → HasLine names line i → ⊥
no_line_without_space names line s i h = space_there (decimal (tick_of i)) (body_of names i) (rw (body_there names line i h) s)

-- the parts of a line are those of its item
pub parts_of_line : (names : NameLists) (line digits body : List ℕ) → digits ++ (codes " " ++ body) ≡ line → has_no_space digits ≡ true → (i : Item) → HasLine names line i
    → (decimal (tick_of i) ≡ digits) × (body_of names i ≡ body)
parts_of_line names line digits body e s i h =
    space_cut (decimal (tick_of i)) digits (body_of names i) body (field_has_no_space (decimal (tick_of i)) (decimal_field (tick_of i) h.is.tick)) s (body_there names line i h ∙ sym e)

-- ---- items by their bodies

pub has_line : (names : NameLists) (line digits body : List ℕ) (tick : ℕ) (i : Item) → digits ++ (codes " " ++ body) ≡ line → decimal tick ≡ digits → HasBody names tick body i → HasLine names line i
has_line names line digits body tick i e d h = record {
  is = h.is;
  line_is = line_is_body names i ∙ ap (λ (l : List ℕ). l ++ codes "\n")
      (ap (λ (n : ℕ). decimal n ++ (codes " " ++ body_of names i)) h.tick_is ∙ ap (λ (l : List ℕ). decimal tick ++ (codes " " ++ l)) h.body ∙ ap (λ (l : List ℕ). l ++ (codes " " ++ body)) d ∙ e);
}

pub no_body : (names : NameLists) (tick : ℕ) (bytes : List ℕ) → NoSense names bytes → NoEmit names bytes → NoStatement bytes → NoMark bytes → NoStop bytes → (i : Item)
    → place_of i < 2 ^ 8 → HasBody names tick bytes i → ⊥
no_body names tick bytes a b c d e (item.Sense t place value) l h = a.none place value l h.is.named h.is.fits h.body
no_body names tick bytes a b c d e (item.Emit t place value) l h = b.none place value l h.is.named h.is.fits h.body
no_body names tick bytes a b c d e (item.Use t n) l h = c.uses n (record { below = h.is.fits; spelled = h.body })
no_body names tick bytes a b c d e (item.Done t n) l h = c.dones n (record { below = h.is.fits; spelled = h.body })
no_body names tick bytes a b c d e (item.Tag t n) l h = c.tags n (record { below = h.is.fits; spelled = h.body })
no_body names tick bytes a b c d e (item.Enter t n) l h = d.enters n (record { below = h.is.fits; spelled = h.body })
no_body names tick bytes a b c d e (item.Commit t n) l h = d.commits n (record { below = h.is.fits; spelled = h.body })
no_body names tick bytes a b c d e (item.Abort t n) l h = d.aborts n (record { below = h.is.fits; spelled = h.body })
no_body names tick bytes a b c d e (item.Off t n) l h = e.offs n (record { below = h.is.fits; spelled = h.body })
no_body names tick bytes a b c d e (item.Trap t trap.Zero n) l h = c.zeros n (record { below = h.is.fits; spelled = h.body })
no_body names tick bytes a b c d e (item.Trap t trap.Index n) l h = c.indexes n (record { below = h.is.fits; spelled = h.body })
no_body names tick bytes a b c d e (item.End t) l h = e.ends h.body
no_body names tick bytes a b c d e (item.Dark t) l h = e.darks h.body

le_by_not : (a b : ℕ) → (b < a → ⊥) → a ≤ b
le_by_not zero b h = omega arith
le_by_not (suc a) zero h = absurd (h (omega arith))
le_by_not (suc a) (suc b) h = let l = le_by_not a b (λ l. h (omega (arith, l))) in omega (arith, l)

first_named : (names : List Text) (rest : List ℕ) (place : ℕ) → NoneBefore names rest place → (k : ℕ) (value : ℤ) → IsValue (name_at names k) rest value → place ≤ k
first_named names rest place n k value v = le_by_not place k (λ l. n.none k value l v)

unlike : (a b : ℕ) (x y : List ℕ) → (a ≡ b → ⊥) → a ∷ x ≡ b ∷ y → ⊥
unlike a b x y n e = n (head_is a b x y e)

pub tells_line : (names : NameLists) (line digits body : List ℕ) (tick : ℕ) (i : Item) → tick < 2 ^ 64 → digits ++ (codes " " ++ body) ≡ line → has_no_space digits ≡ true
    → decimal tick ≡ digits → TellsBody names tick body i → ((n : ℕ) → n < 2 ^ 64 → decimal n ≡ digits → n ≡ tick) → LineTells names line i
tells_line names line digits body tick i l e s d t only = record {
  has = has_line names line digits body tick i e d t.has;
  first = λ j h. let p = parts_of_line names line digits body e s j h in t.first j (record { is = h.is; tick_is = only (tick_of j) h.is.tick p.0; body = p.1 });
}
