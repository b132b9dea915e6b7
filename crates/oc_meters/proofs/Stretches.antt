-- Bytes that a book takes, line by line.
use Rattle.std.proofs.Common.{ℕ, zero, suc, ◌+◌, ◌≡◌, ◌==◌, ◌||◌, ◌&&◌, not, Bool, true, false, true≢false, List, [], ◌∷◌, ◌++◌, take, codes, refl, sym, ap, subst, ◌∙◌, append_assoc}
use Rattle.std.proofs.lemmas.List.{append-nil}
use Rattle.oc_io.specs.Lines.{further, line_of}
use Rattle.oc_tree.specs.Names.{NameLists}
use Rattle.oc_items.specs.OneText.{is_field}
use Rattle.oc_items.proofs.Fields.{AllFields}
use Rattle.oc_meters.specs.Tally.{Reading}
use Rattle.oc_meters.specs.Reads.{Page, longest_line, IsLineTold, TakesByte, ends, goes_on, TakesBytes}
use Rattle.oc_meters.specs.ReadBack.{begun}

-- none of these bytes is a line feed
abbrev pub NoFeed : List ℕ → Type 0
NoFeed [] = Unit {0}
NoFeed (b ∷ rest) = ((b == 10) ≡ false) × NoFeed rest

-- a line feed behind bytes that have none
pub record IsLine (text : List ℕ) : Type 0 where
  pub line : List ℕ
  pub free : NoFeed line
  pub is : text ≡ line ++ codes "\n"

parts : (space feed rest : Bool) → (not (space || feed) && rest) ≡ true → (feed ≡ false) × (rest ≡ true)
parts false false rest h = (refl, h)
parts false true rest h = cc
parts true feed rest h = cc

pub free_both : (x y : List ℕ) → NoFeed x → NoFeed y → NoFeed (x ++ y)
free_both [] y h k = k
free_both (b ∷ x) y h k = (h.0, free_both x y h.1 k)

pub field_free : (x : List ℕ) → is_field x ≡ true → NoFeed x
field_free [] h = tt
field_free (b ∷ x) h = let p = parts (b == 32) (b == 10) (is_field x) h in (p.0, field_free x p.1)

pub further_line : (fs : List (List ℕ)) → AllFields fs → IsLine (further fs)
further_line [] h = record { line = []; free = tt; is = refl }
further_line (f ∷ fs) h =
    let rest = further_line fs h.1 in
    record {
      line = 32 ∷ (f ++ rest.line);
      free = (refl, free_both f rest.line (field_free f h.0) rest.free);
      is = ap (λ (t : List ℕ). 32 ∷ t) (ap (λ (t : List ℕ). f ++ t) rest.is ∙ sym (append_assoc f rest.line (codes "\n")));
    }

abbrev pub line_is : (f : List ℕ) (fs : List (List ℕ)) → AllFields (f ∷ fs) → IsLine (line_of (f ∷ fs))
line_is f fs h =
    let rest = further_line fs h.1 in
    record {
      line = f ++ rest.line;
      free = free_both f rest.line (field_free f h.0) rest.free;
      is = ap (λ (t : List ℕ). f ++ t) rest.is ∙ sym (append_assoc f rest.line (codes "\n"));
    }

take_front : (m : ℕ) (kept : List ℕ) (b : ℕ) → take m (take m kept ++ b ∷ []) ≡ take m (kept ++ b ∷ [])
take_front zero kept b = refl
take_front (suc m) [] b = refl
take_front (suc m) (x ∷ kept) b = ap (λ (l : List ℕ). x ∷ l) (take_front m kept b)

take_none : (m : ℕ) → ◌≡◌ {A = List ℕ} (take m []) []
take_none zero = refl
take_none (suc m) = refl

abbrev pub with_line : List ℕ → List Reading → Page
with_line line readings = record { line = line; readings = readings }

-- so many bytes of a line are kept
abbrev pub most : NameLists → ℕ
most names = longest_line names + 1

-- what is kept of these bytes
abbrev seen : NameLists → List ℕ → List Reading → Page
seen names bytes readings = with_line (take (most names) bytes) readings

-- behind a line no other is begun, and the meters were told of it
pub record Passed (names : NameLists) (line rest : List ℕ) (old : List Reading) (new : Page) : Type 0 where
  pub readings : List Reading
  pub told : IsLineTold names (take (most names) line) old readings
  pub others : TakesBytes names (begun readings) rest new

module _ (names : NameLists) where
  byte_on : (b : ℕ) (old new : Page) → (b == 10) ≡ false → TakesByte names old b new → new ≡ with_line (take (most names) (old.line ++ b ∷ [])) old.readings
  byte_on b old new e (ends f told l) = absurd (true≢false (sym f ∙ e))
  byte_on b old new e (goes_on f n) = n

  byte_ends : (old new : Page) → TakesByte names old 10 new → IsLineTold names old.line old.readings new.readings × (new.line ≡ [])
  byte_ends old new (ends f told l) = (told, l)
  byte_ends old new (goes_on f n) = absurd (true≢false f)

  stretch : (bytes : List ℕ) → NoFeed bytes → (kept : List ℕ) (readings : List Reading) (new : Page) → TakesBytes names (seen names kept readings) bytes new → new ≡ seen names (kept ++ bytes) readings
  stretch [] free kept readings new t = t ∙ ap (λ (l : List ℕ). seen names l readings) (sym (append-nil kept))
  stretch (b ∷ bytes) free kept readings new t =
      let here : t.0 ≡ seen names (kept ++ b ∷ []) readings = byte_on b (seen names kept readings) t.0 free.0 t.1 ∙ ap (λ (l : List ℕ). with_line l readings) (take_front (most names) kept b) in
      stretch bytes free.1 (kept ++ b ∷ []) readings new (subst (λ (s : Page). TakesBytes names s bytes new) here t.2)
      ∙ ap (λ (l : List ℕ). seen names l readings) (append_assoc kept (b ∷ []) bytes)

  split : (x y : List ℕ) (a c : Page) → TakesBytes names a (x ++ y) c → (b : Page) × TakesBytes names a x b × TakesBytes names b y c
  split [] y a c t = (a, refl, t)
  split (byte ∷ x) y a c t = let s = split x y t.0 c t.2 in (s.0, (t.0, t.1, s.1), s.2)

  fed : (line rest : List ℕ) (old : List Reading) (new : Page) → TakesBytes names (seen names line old) (10 ∷ rest) new → Passed names line rest old new
  fed line rest old new t =
      let end = byte_ends (seen names line old) t.0 t.1 in
      record {
        readings = t.0.readings;
        told = end.0;
        others = subst (λ (l : List ℕ). TakesBytes names (with_line l t.0.readings) rest new) end.1 t.2;
      }

  -- the bytes of a line, a line feed, and the rest
  pub passes : (line rest : List ℕ) (old : List Reading) (new : Page) → NoFeed line → TakesBytes names (begun old) (line ++ (10 ∷ rest)) new → Passed names line rest old new
  passes line rest old new free t =
      let start : begun old ≡ seen names [] old = ap (λ (l : List ℕ). with_line l old) (sym (take_none (most names))) in
      let s = split line (10 ∷ rest) (begun old) new t in
      let here : s.0 ≡ seen names line old = stretch line free [] old s.0 (subst (λ (p : Page). TakesBytes names p line s.0) start s.1) in
      fed line rest old new (subst (λ (p : Page). TakesBytes names p (10 ∷ rest) new) here s.2)
