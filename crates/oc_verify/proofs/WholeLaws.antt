-- Which bytes are an image's: what was read was written, and what was written is read back.
use Rattle.std.proofs.Common.{append_assoc, ◌≡◌, ℕ, suc, ◌≤◌, List, [], ◌∷◌, ◌++◌, length, take, drop, Result, Ok, Err, refl, sym, ap, ◌∙◌, subst, arith, Bool, true, false}
use Rattle.std.proofs.lemmas.Bool.{and_from, and_parts}
use Rattle.std.specs.Prelude.{◌&&◌, if◌then◌else◌, map, not, FitsSigned, ℤ}
use Rattle.std.specs.List.{flat_map, All}
use Rattle.std.specs.Int.{w32, cast_signed, cast_unsigned}
use Rattle.std.specs.Str.{bytes_eq}
use Rattle.std.proofs.lemmas.Int.{to_z-of_z}
use Rattle.std.proofs.lemmas.Slice.Eq.{bytes_eq-Decides}
use Rattle.std.proofs.lemmas.List.{append-nil, take-append-drop, length-map}
use Rattle.std.proofs.lemmas.List.Elements.{All-nil, All-cons, All-head, All-tail, All-append}
use mir.ValLaws.{of_z_fits}
use Rattle.oc_lex.specs.Stands.{IsName}
use Rattle.oc_tree.specs.Names.{Text, NameLists}
use Rattle.oc_tree.specs.declared.said.Target.{Target}
use Rattle.oc_isa.specs.declared.image.ImageFunction.{ImageFunction}
use Rattle.oc_isa.specs.declared.image.ImageNv.{ImageNv}
use Rattle.oc_isa.specs.declared.instr.Placed.{Placed}
use Rattle.oc_isa.specs.Image.{Parts}
use Rattle.oc_isa.specs.Bytes.{Bytes, IsFew, magic, image_bytes, number_bytes, word_bytes, name_bytes, list_bytes, nvs_bytes, all_nvs_bytes, function_bytes, target_bytes, placed_bytes}
use Rattle.oc_verify.specs.Reading.{Read, ◌>>=◌, AreImage, IsTold, HasNumbers, all_names, each_once, is_named, IsNumber, AreNumbers, target_numbers, IsInstr, any_at, word_at}
use Rattle.oc_verify.specs.Reading.{list_at, names_at, bare_at, nv_at, function_at, target_at, placed_at, magic_at, ended, read_at}
use Rattle.oc_verify.specs.Reads.{names_on, all_names_at, declarations_at, body_at}
use Rattle.oc_verify.proofs.FieldLaws.{AreBytes, IsField, bytes_behind, shorter, bind_good, then_bad, ok_pair, any_field, word_field, list_field}
use Rattle.oc_verify.proofs.InstrFields.{target_field, placed_field}
use Rattle.oc_verify.proofs.NamedFields.{with_name, HasName, IsTail, AreNamed, names_field, names_back}
use Rattle.oc_verify.proofs.ReadLaws.{any_back, list_back, regions_back}
use Rattle.oc_verify.proofs.InstrLaws.{placed_back}

-- What stands behind names

abbrev itself : Text → Text
itself x = x

abbrev nothing : Text → Bytes
nothing x = []

abbrev Always : Text → Type 0
Always x = Unit {0}

bare_tail : IsTail bare_at itself nothing Always
bare_tail x = record {
  good = λ bs h y rest e. let q = ok_pair x y bs rest e in record { is = q.1; fine = (sym q.0, tt); behind = subst AreBytes q.1 h };
  bad = λ bs h left e. absurd (cc);
}

abbrev Nv : Type 0
Nv = Text × ImageNv

abbrev nv_name : Nv → Text
nv_name y = y.0

abbrev nv_tail : Nv → Bytes
nv_tail y = number_bytes y.1.words ++ word_bytes y.1.initial

abbrev IsNv : ImageNv → Type 0
IsNv v = IsNumber v.words × FitsSigned w32 v.initial

abbrev IsNvPart : Nv → Type 0
IsNvPart y = IsNv y.1

nv_fields : IsTail nv_at nv_name nv_tail IsNvPart
nv_fields x = record {
  good = λ bs h y rest e.
      let s = bind_good (any_at bs) (λ n. word_at n.1 >>= λ z. Ok ((x, record { words = n.0; initial = z.0 }), z.1)) (y, rest) e in
      let w = any_field.good bs h s.0 s.1 s.2 in
      let t = bind_good (word_at s.1) (λ z. Ok ((x, record { words = s.0; initial = z.0 }), z.1)) (y, rest) s.3 in
      let v = word_field.good s.1 w.behind t.0 t.1 t.2 in
      let made : Nv = (x, record { words = s.0; initial = t.0 }) in
      let q = ok_pair made y t.1 rest t.3 in
      record {
        is = w.is ∙ ap (λ l. number_bytes s.0 ++ l) v.is ∙ sym (append_assoc (number_bytes s.0) (word_bytes t.0) t.1) ∙ (λ j. nv_tail (q.0 j) ++ q.1 j);
        fine = subst (HasName nv_at nv_name nv_tail IsNvPart x) q.0 (refl, (w.fine, v.fine));
        behind = subst AreBytes q.1 v.behind;
      };
  bad = λ bs h left e.
      then_bad any_at number_bytes IsNumber any_field bs h (λ n. word_at n.1 >>= λ z. Ok ((x, record { words = n.0; initial = z.0 }), z.1)) left e
      (λ n r w f. then_bad word_at word_bytes (FitsSigned w32) word_field r w.behind (λ z. Ok ((x, record { words = n; initial = z.0 }), z.1)) left f (λ z r' v g. absurd (cc)));
}

abbrev function_name : ImageFunction → Text
function_name f = f.name

abbrev function_tail : ImageFunction → Bytes
function_tail f = number_bytes f.entry ++ (number_bytes f.params ++ number_bytes f.frame)

abbrev IsFunction : ImageFunction → Type 0
IsFunction f = AreNumbers (f.entry, f.params, f.frame)

function_fields : IsTail function_at function_name function_tail IsFunction
function_fields x = record {
  good = λ bs h y rest e.
      let s = bind_good (any_at bs) (λ e. any_at e.1 >>= λ p. any_at p.1 >>= λ f. Ok (record { name = x; entry = e.0; params = p.0; frame = f.0 }, f.1)) (y, rest) e in
      let w = any_field.good bs h s.0 s.1 s.2 in
      let t = bind_good (any_at s.1) (λ p. any_at p.1 >>= λ f. Ok (record { name = x; entry = s.0; params = p.0; frame = f.0 }, f.1)) (y, rest) s.3 in
      let v = any_field.good s.1 w.behind t.0 t.1 t.2 in
      let u = bind_good (any_at t.1) (λ f. Ok (record { name = x; entry = s.0; params = t.0; frame = f.0 }, f.1)) (y, rest) t.3 in
      let z = any_field.good t.1 v.behind u.0 u.1 u.2 in
      let made : ImageFunction = record { name = x; entry = s.0; params = t.0; frame = u.0 } in
      let q = ok_pair made y u.1 rest u.3 in
      record {
        is = w.is ∙ ap (λ l. number_bytes s.0 ++ l) (v.is ∙ ap (λ l. number_bytes t.0 ++ l) z.is)
            ∙ sym (append_assoc (number_bytes s.0) (number_bytes t.0 ++ number_bytes u.0) u.1 ∙ ap (λ l. number_bytes s.0 ++ l) (append_assoc (number_bytes t.0) (number_bytes u.0) u.1))
            ∙ (λ j. function_tail (q.0 j) ++ q.1 j);
        fine = subst (HasName function_at function_name function_tail IsFunction x) q.0 (refl, (w.fine, v.fine, z.fine));
        behind = subst AreBytes q.1 z.behind;
      };
  bad = λ bs h left e.
      then_bad any_at number_bytes IsNumber any_field bs h (λ e. any_at e.1 >>= λ p. any_at p.1 >>= λ f. Ok (record { name = x; entry = e.0; params = p.0; frame = f.0 }, f.1)) left e
      (λ n r w f. then_bad any_at number_bytes IsNumber any_field r w.behind (λ p. any_at p.1 >>= λ f. Ok (record { name = x; entry = n; params = p.0; frame = f.0 }, f.1)) left f
      (λ p r' v g. then_bad any_at number_bytes IsNumber any_field r' v.behind (λ f. Ok (record { name = x; entry = n; params = p; frame = f.0 }, f.1)) left g (λ m r'' z k. absurd (cc))));
}

abbrev as_word : ℕ × Bytes → Read ℤ
as_word n = Ok (cast_signed w32 n.0, n.1)

abbrev as_nv : Text → ℕ → ℤ × Bytes → Read Nv
as_nv x w z = Ok ((x, record { words = w; initial = z.0 }), z.1)

nv_back : (y : Nv) (rest : Bytes) → IsNvPart y → nv_at (nv_name y) (nv_tail y ++ rest) ≡ Ok (y, rest)
nv_back y rest h =
    let v : ImageNv = y.1 in
    ap (nv_at y.0) (append_assoc (number_bytes v.words) (word_bytes v.initial) rest)
    ∙ ap (λ r. r >>= λ n. word_at n.1 >>= as_nv y.0 n.0) (any_back v.words (word_bytes v.initial ++ rest) h.0)
    ∙ ap (λ r. (r >>= as_word) >>= as_nv y.0 v.words) (any_back (cast_unsigned w32 v.initial) rest (of_z_fits w32 v.initial h.1).fits)
    ∙ ap (λ z. as_nv y.0 v.words (z, rest)) (to_z-of_z w32 v.initial h.1)

function_back : (f : ImageFunction) (rest : Bytes) → IsFunction f → function_at (function_name f) (function_tail f ++ rest) ≡ Ok (f, rest)
function_back f rest h =
    let x = f.name in
    ap (function_at x) (append_assoc (number_bytes f.entry) (number_bytes f.params ++ number_bytes f.frame) rest
    ∙ ap (λ l. number_bytes f.entry ++ l) (append_assoc (number_bytes f.params) (number_bytes f.frame) rest))
    ∙ ap (λ r. r >>= λ e. any_at e.1 >>= λ p. any_at p.1 >>= λ m. Ok (record { name = x; entry = e.0; params = p.0; frame = m.0 }, m.1))
    (any_back f.entry (number_bytes f.params ++ (number_bytes f.frame ++ rest)) h.0)
    ∙ ap (λ r. r >>= λ p. any_at p.1 >>= λ m. Ok (record { name = x; entry = f.entry; params = p.0; frame = m.0 }, m.1)) (any_back f.params (number_bytes f.frame ++ rest) h.1)
    ∙ ap (λ r. r >>= λ m. Ok (record { name = x; entry = f.entry; params = f.params; frame = m.0 }, m.1)) (any_back f.frame rest h.2)

-- names alone
bare_bytes : (xs : List Text) → list_bytes (with_name bare_at itself nothing Always) xs ≡ list_bytes name_bytes xs
bare_bytes xs = ap (λ b. list_bytes b xs) (λ j x. append-nil (name_bytes x) j)

nvs_on : (ys : List Nv) → flat_map (with_name nv_at nv_name nv_tail IsNvPart) ys ≡ nvs_bytes (map nv_name ys) (map (λ y. y.1) ys)
nvs_on [] = refl
nvs_on (y ∷ ys) =
    append_assoc (name_bytes y.0) (nv_tail y) (flat_map (with_name nv_at nv_name nv_tail IsNvPart) ys)
    ∙ ap (λ l. name_bytes y.0 ++ l) (append_assoc (number_bytes y.1.words) (word_bytes y.1.initial) (flat_map (with_name nv_at nv_name nv_tail IsNvPart) ys))
    ∙ ap (λ l. name_bytes y.0 ++ (number_bytes y.1.words ++ (word_bytes y.1.initial ++ l))) (nvs_on ys)

nv_bytes : (ys : List Nv) → list_bytes (with_name nv_at nv_name nv_tail IsNvPart) ys ≡ all_nvs_bytes (map nv_name ys) (map (λ y. y.1) ys)
nv_bytes ys = (λ j. number_bytes (sym (length-map ys nv_name) j) ++ nvs_on ys j)

same_map : {A : Type 0} (xs : List A) → map (λ x. x) xs ≡ xs
same_map [] = refl
same_map (x ∷ xs) = ap (λ l. x ∷ l) (same_map xs)

-- Names of several lists

and_assoc : (a b c : Bool) → a && (b && c) ≡ (a && b) && c
and_assoc true b c = refl
and_assoc false b c = refl

once_append : (seen xs ys : List Text) → each_once seen (xs ++ ys) ≡ (each_once seen xs && each_once (seen ++ xs) ys)
once_append seen [] ys = ap (λ l. each_once l ys) (sym (append-nil seen))
once_append seen (x ∷ xs) ys =
    ap (λ b. not (is_named seen x) && b) (once_append (seen ++ x ∷ []) xs ys ∙ ap (λ l. each_once (seen ++ x ∷ []) xs && each_once l ys) (append_assoc seen (x ∷ []) xs))
    ∙ and_assoc (not (is_named seen x)) (each_once (seen ++ x ∷ []) xs) (each_once (seen ++ x ∷ xs) ys)

-- The whole, field by field

abbrev image_of : List Text → List Text → List Nv → List ImageFunction → List (List Target) → ℕ → List Placed → Parts
image_of s p v f r w c = record { names = record { sensors = s; ports = p; nvs = map (λ x. x.0) v }; functions = f; targets = r; nv = map (λ x. x.1) v; code = c; stack = w }

abbrev Rest : Type 0 → Type 0
Rest A = A × Bytes → Result Parts ℕ

abbrev at_end : List Text → List Text → List Nv → List ImageFunction → List (List Target) → ℕ → Rest (List Placed)
at_end s p v f r w c = ended (image_of s p v f r w c.0) c.1

abbrev at_code : List Text → List Text → List Nv → List ImageFunction → List (List Target) → Rest ℕ
at_code s p v f r w = list_at placed_at w.1 >>= at_end s p v f r w.0

abbrev at_stack : List Text → List Text → List Nv → List ImageFunction → Rest (List (List Target))
at_stack s p v f r = any_at r.1 >>= at_code s p v f r.0

abbrev at_regions : List Text → List Text → List Nv → Rest (List ImageFunction)
at_regions s p v f = list_at (list_at target_at) f.1 >>= at_stack s p v f.0

abbrev at_functions : List Text → List Text → Rest (List Nv)
at_functions s p v = names_at 128 function_at ((s ++ p) ++ map (λ x. x.0) v.0) v.1 >>= at_regions s p v.0

abbrev at_nvs : List Text → Rest (List Text)
at_nvs s p = names_at 64 nv_at (s ++ p.0) p.1 >>= at_functions s p.0

abbrev at_ports : Rest (List Text)
at_ports s = names_at 64 bare_at s.0 s.1 >>= at_nvs s.0

abbrev at_sensors : Bytes → Result Parts ℕ
at_sensors rest = names_at 64 bare_at [] rest >>= at_ports

-- The whole in two parts

binds : {A B C : Type 0} (r : Result A ℕ) (f : A → Result B ℕ) (g : B → Result C ℕ) (h : A → Result C ℕ) → ((x : A) → (f x >>= g) ≡ h x) → ((r >>= f) >>= g) ≡ (r >>= h)
binds (Ok x) f g h e = e x
binds (Err left) f g h e = refl

abbrev Declarations : Type 0
Declarations = NameLists × List ImageNv × List ImageFunction

abbrev Body : Type 0
Body = List (List Target) × ℕ × List Placed

abbrev whole : Declarations → Body → Result Parts ℕ
whole d b = Ok (record { names = d.0; functions = d.2; targets = b.0; nv = d.1; code = b.2; stack = b.1 })

abbrev pub at_body : Declarations × Bytes → Result Parts ℕ
at_body d = body_at d.1 >>= whole d.0

abbrev pub at_declared : Bytes → Result Parts ℕ
at_declared rest = declarations_at rest >>= at_body

ended_then : (d : Declarations) (b : Body) (bs : Bytes) → (ended b bs >>= whole d) ≡ (ended (record { names = d.0; functions = d.2; targets = b.0; nv = d.1; code = b.2; stack = b.1 }) bs)
ended_then d b [] = refl
ended_then d b (x ∷ bs) = refl

body_then : (s p : List Text) (v : List Nv) (f : List ImageFunction) (bs : Bytes)
    → at_body ((record { sensors = s; ports = p; nvs = map (λ x. x.0) v }, map (λ x. x.1) v, f), bs) ≡ at_regions s p v (f, bs)
body_then s p v f bs =
    let d : Declarations = (record { sensors = s; ports = p; nvs = map (λ x. x.0) v }, map (λ x. x.1) v, f) in
    binds (list_at (list_at target_at) bs) _ (whole d) (at_stack s p v f) (λ r.
    binds (any_at r.1) _ (whole d) (at_code s p v f r.0) (λ w.
    binds (list_at placed_at w.1) _ (whole d) (at_end s p v f r.0 w.0) (λ c. ended_then d (r.0, w.0, c.0) c.1)))

abbrev at_functions_of : (NameLists × List ImageNv) × Bytes → Result Parts ℕ
at_functions_of n = (names_at 128 function_at (names_on [] n.0.0) n.1 >>= λ f. Ok ((n.0.0, n.0.1, f.0), f.1)) >>= at_body

declared_then : (rest : Bytes) → at_declared rest ≡ at_sensors rest
declared_then rest =
    binds (all_names_at [] rest) _ at_body at_functions_of (λ n. refl)
    ∙ binds (names_at 64 bare_at [] rest) _ at_functions_of at_ports (λ s.
    binds (names_at 64 bare_at s.0 s.1) _ at_functions_of (at_nvs s.0) (λ p.
    binds (names_at 64 nv_at (s.0 ++ p.0) p.1) _ at_functions_of (at_functions s.0 p.0) (λ v.
    binds (names_at 128 function_at ((s.0 ++ p.0) ++ map (λ x. x.0) v.0) v.1) _ at_body (at_regions s.0 p.0 v.0) (λ f. body_then s.0 p.0 v.0 f.0 f.1))))

pub read_in_parts : (bs : Bytes) → read_at bs ≡ (magic_at bs >>= at_declared)
read_in_parts bs = by (magic_at bs)
  where
    by : (m : Result Bytes ℕ) → (m >>= at_sensors) ≡ (m >>= at_declared)
    by (Ok rest) = sym (declared_then rest)
    by (Err left) = refl

magic_good : (bs : Bytes) (i : Parts) → AreBytes bs → read_at bs ≡ Ok i → (rest : Bytes) × (bs ≡ magic ++ rest) × AreBytes rest × (at_sensors rest ≡ Ok i)
magic_good bs i h e = by (bytes_eq (take 8 bs) magic) refl e
  where
    by : (b : Bool) → bytes_eq (take 8 bs) magic ≡ b → ((if b then Ok (drop 8 bs) else Err (length bs)) >>= at_sensors) ≡ Ok i
        → (rest : Bytes) × (bs ≡ magic ++ rest) × AreBytes rest × (at_sensors rest ≡ Ok i)
    by true t f = (drop 8 bs, sym (take-append-drop 8 bs) ∙ ap (λ l. l ++ drop 8 bs) ((bytes_eq-Decides (take 8 bs) magic).0 t), bytes_behind 8 bs h, f)
    by false t f = absurd (cc)

ended_good : (a i : Parts) (bs : Bytes) → ended a bs ≡ Ok i → (bs ≡ []) × (a ≡ i)
ended_good a i [] e = (refl, (cc))
ended_good a i (b ∷ bs) e = absurd (cc)

ended_bad : (a : Parts) (bs : Bytes) (left : ℕ) → ended a bs ≡ Err left → left ≤ length bs
ended_bad a [] left e = absurd (cc)
ended_bad a (b ∷ bs) left e = let q : suc (length bs) ≡ left = (cc) in omega (arith, q)

abbrev Bare : List Text → List Text → Type 0
Bare = AreNamed bare_at itself nothing Always

abbrev Nvs : List Text → List Nv → Type 0
Nvs = AreNamed nv_at nv_name nv_tail IsNvPart

abbrev Functions : List Text → List ImageFunction → Type 0
Functions = AreNamed function_at function_name function_tail IsFunction

abbrev bare_list : (seen : List Text) → IsField (names_at 64 bare_at seen) (list_bytes (with_name bare_at itself nothing Always)) (λ ys. (length ys ≤ 64) × Bare seen ys)
bare_list seen = names_field bare_at itself nothing Always bare_tail 64 seen

abbrev nv_list : (seen : List Text) → IsField (names_at 64 nv_at seen) (list_bytes (with_name nv_at nv_name nv_tail IsNvPart)) (λ ys. (length ys ≤ 64) × Nvs seen ys)
nv_list seen = names_field nv_at nv_name nv_tail IsNvPart nv_fields 64 seen

abbrev function_list : (seen : List Text) → IsField (names_at 128 function_at seen) (list_bytes (with_name function_at function_name function_tail IsFunction))
    (λ ys. (length ys ≤ 128) × Functions seen ys)
function_list seen = names_field function_at function_name function_tail IsFunction function_fields 128 seen

abbrev AreTargets : List Target → Type 0
AreTargets ts = IsFew ts × All (λ t. AreNumbers (target_numbers t)) ts

abbrev region_list : IsField (list_at (list_at target_at)) (list_bytes (list_bytes target_bytes)) (λ rs. IsFew rs × All AreTargets rs)
region_list = list_field (list_at target_at) (list_bytes target_bytes) AreTargets (list_field target_at target_bytes (λ t. AreNumbers (target_numbers t)) target_field)

abbrev code_list : IsField (list_at placed_at) (list_bytes placed_bytes) (λ ps. IsFew ps × All IsInstr ps)
code_list = list_field placed_at placed_bytes IsInstr placed_field

each_nv : (ys : List Nv) → All IsNvPart ys → All IsNv (map (λ y. y.1) ys)
each_nv [] h = All-nil IsNv
each_nv (y ∷ ys) h = All-cons IsNv y.1 (map (λ y. y.1) ys) (All-head IsNvPart y ys h) (each_nv ys (All-tail IsNvPart y ys h))

-- what was told of the parts, put together
module _ (s p : List Text) (v : List Nv) (f : List ImageFunction) (r : List (List Target)) (w : ℕ) (c : List Placed) where
  abbrev I : Parts
  I = image_of s p v f r w c

  abbrev ns : List Text
  ns = map (λ x. x.0) v

  abbrev fs : List Text
  fs = map (λ x. x.name) f

  all_told : (P : Text → Type 0) → All P s → All P p → All P ns → All P fs → All P (all_names I)
  all_told P a b d e = All-append P s (p ++ (ns ++ fs)) a (All-append P p (ns ++ fs) b (All-append P ns fs d e))

  all_once : each_once [] s ≡ true → each_once s p ≡ true → each_once (s ++ p) ns ≡ true → each_once ((s ++ p) ++ ns) fs ≡ true → each_once [] (all_names I) ≡ true
  all_once a b d e =
      once_append [] s (p ++ (ns ++ fs)) ∙ and_from (each_once [] s) (each_once s (p ++ (ns ++ fs))) a
      (once_append s p (ns ++ fs) ∙ and_from (each_once s p) (each_once (s ++ p) (ns ++ fs)) b
      (once_append (s ++ p) ns fs ∙ and_from (each_once (s ++ p) ns) (each_once ((s ++ p) ++ ns) fs) d e))

  put_together : (bs : Bytes) → bs ≡ image_bytes I → (length s ≤ 64) × Bare [] s → (length p ≤ 64) × Bare s p → (length v ≤ 64) × Nvs (s ++ p) v → (length f ≤ 128) × Functions ((s ++ p) ++ ns) f
      → IsFew r × All AreTargets r → IsNumber w → IsFew c × All IsInstr c → AreImage bs I
  put_together bs is a b d e g h k =
      let plain : (xs : List Text) (P : Text → Type 0) → All P (map itself xs) → All P xs = λ xs P q. subst (All P) (same_map xs) q in
      let n : length ns ≡ length v = length-map v (λ x. x.0) in
      let m : length (map (λ x. x.1) v) ≡ length v = length-map v (λ x. x.1) in
      record {
        is = is;
        told = record {
          names = all_told IsName (plain s IsName a.1.names) (plain p IsName b.1.names) d.1.names e.1.names;
          differ = all_once (subst (λ l. each_once [] l ≡ true) (same_map s) a.1.once) (subst (λ l. each_once s l ≡ true) (same_map p) b.1.once) d.1.once e.1.once;
          few_sensors = a.0;
          few_ports = b.0;
          few_nvs = (let l = d.0 in omega (arith, n, l));
          each_nv = m ∙ sym n;
          few_functions = e.0;
        };
        numbers = record {
          names = all_told IsFew (plain s IsFew a.1.few) (plain p IsFew b.1.few) d.1.few e.1.few;
          nv = each_nv v d.1.fine;
          functions = e.1.fine;
          regions = g.0;
          targets = g.1;
          stack = h;
          long = k.0;
          code = k.1;
        };
      }

-- what was read was written
pub read_is : (bs : Bytes) → AreBytes bs → (i : Parts) → read_at bs ≡ Ok i → AreImage bs i
read_is bs h i e =
    let m = magic_good bs i h e in
    let s = bind_good (names_at 64 bare_at [] m.0) at_ports i m.3 in
    let sw = (bare_list []).good m.0 m.2 s.0 s.1 s.2 in
    let p = bind_good (names_at 64 bare_at s.0 s.1) (at_nvs s.0) i s.3 in
    let pw = (bare_list s.0).good s.1 sw.behind p.0 p.1 p.2 in
    let v = bind_good (names_at 64 nv_at (s.0 ++ p.0) p.1) (at_functions s.0 p.0) i p.3 in
    let vw = (nv_list (s.0 ++ p.0)).good p.1 pw.behind v.0 v.1 v.2 in
    let f = bind_good (names_at 128 function_at ((s.0 ++ p.0) ++ map (λ x. x.0) v.0) v.1) (at_regions s.0 p.0 v.0) i v.3 in
    let fw = (function_list ((s.0 ++ p.0) ++ map (λ x. x.0) v.0)).good v.1 vw.behind f.0 f.1 f.2 in
    let r = bind_good (list_at (list_at target_at) f.1) (at_stack s.0 p.0 v.0 f.0) i f.3 in
    let rw' = region_list.good f.1 fw.behind r.0 r.1 r.2 in
    let w = bind_good (any_at r.1) (at_code s.0 p.0 v.0 f.0 r.0) i r.3 in
    let ww = any_field.good r.1 rw'.behind w.0 w.1 w.2 in
    let c = bind_good (list_at placed_at w.1) (at_end s.0 p.0 v.0 f.0 r.0 w.0) i w.3 in
    let cw = code_list.good w.1 ww.behind c.0 c.1 c.2 in
    let q = ended_good (image_of s.0 p.0 v.0 f.0 r.0 w.0 c.0) i c.1 c.3 in
    let e6 : w.1 ≡ list_bytes placed_bytes c.0 = cw.is ∙ ap (λ l. list_bytes placed_bytes c.0 ++ l) q.0 ∙ append-nil (list_bytes placed_bytes c.0) in
    let e5 = ww.is ∙ ap (λ l. number_bytes w.0 ++ l) e6 in
    let e4 = rw'.is ∙ ap (λ l. list_bytes (list_bytes target_bytes) r.0 ++ l) e5 in
    let e3 = fw.is ∙ ap (λ l. list_bytes function_bytes f.0 ++ l) e4 in
    let e2 = vw.is ∙ ap (λ b. b ++ v.1) (nv_bytes v.0) ∙ ap (λ l. all_nvs_bytes (map nv_name v.0) (map (λ y. y.1) v.0) ++ l) e3 in
    let e1 = pw.is ∙ ap (λ b. b ++ p.1) (bare_bytes p.0) ∙ ap (λ l. list_bytes name_bytes p.0 ++ l) e2 in
    let e0 = sw.is ∙ ap (λ b. b ++ s.1) (bare_bytes s.0) ∙ ap (λ l. list_bytes name_bytes s.0 ++ l) e1 in
    let is : bs ≡ image_bytes (image_of s.0 p.0 v.0 f.0 r.0 w.0 c.0) = m.1 ∙ ap (λ l. magic ++ l) e0 in
    subst (AreImage bs) q.1 (put_together s.0 p.0 v.0 f.0 r.0 w.0 c.0 bs is sw.fine pw.fine vw.fine fw.fine rw'.fine ww.fine cw.fine)

-- a fault lies inside of the file
pub fault_inside : (bs : Bytes) → AreBytes bs → (left : ℕ) → read_at bs ≡ Err left → left ≤ length bs
fault_inside bs h left e = by (bytes_eq (take 8 bs) magic) refl e
  where
    rest_bad : (rest : Bytes) → AreBytes rest → at_sensors rest ≡ Err left → left ≤ length rest
    rest_bad rest h e =
        then_bad (names_at 64 bare_at []) (list_bytes (with_name bare_at itself nothing Always)) (λ ys. (length ys ≤ 64) × Bare [] ys) (bare_list []) rest h at_ports left e (λ s r0 w0 e0.
        then_bad (names_at 64 bare_at s) (list_bytes (with_name bare_at itself nothing Always)) (λ ys. (length ys ≤ 64) × Bare s ys) (bare_list s) r0 w0.behind (at_nvs s) left e0 (λ p r1 w1 e1.
        then_bad (names_at 64 nv_at (s ++ p)) (list_bytes (with_name nv_at nv_name nv_tail IsNvPart)) (λ ys. (length ys ≤ 64) × Nvs (s ++ p) ys) (nv_list (s ++ p)) r1 w1.behind
        (at_functions s p) left e1 (λ v r2 w2 e2.
        then_bad (names_at 128 function_at ((s ++ p) ++ map (λ x. x.0) v)) (list_bytes (with_name function_at function_name function_tail IsFunction))
        (λ ys. (length ys ≤ 128) × Functions ((s ++ p) ++ map (λ x. x.0) v) ys) (function_list ((s ++ p) ++ map (λ x. x.0) v)) r2 w2.behind (at_regions s p v) left e2 (λ f r3 w3 e3.
        then_bad (list_at (list_at target_at)) (list_bytes (list_bytes target_bytes)) (λ rs. IsFew rs × All AreTargets rs) region_list r3 w3.behind (at_stack s p v f) left e3 (λ r r4 w4 e4.
        then_bad any_at number_bytes IsNumber any_field r4 w4.behind (at_code s p v f r) left e4 (λ w r5 w5 e5.
        then_bad (list_at placed_at) (list_bytes placed_bytes) (λ ps. IsFew ps × All IsInstr ps) code_list r5 w5.behind (at_end s p v f r w) left e5 (λ c r6 w6 e6.
        ended_bad (image_of s p v f r w c) r6 left e6)))))))

    by : (b : Bool) → bytes_eq (take 8 bs) magic ≡ b → ((if b then Ok (drop 8 bs) else Err (length bs)) >>= at_sensors) ≡ Err left → left ≤ length bs
    by true t f = let n = shorter (take 8 bs) (drop 8 bs) bs (sym (take-append-drop 8 bs)) in let l = rest_bad (drop 8 bs) (bytes_behind 8 bs h) f in omega (arith, n, l)
    by false t f = let q : length bs ≡ left = (cc) in omega (arith, q)

-- Back

zipped : (xs : List Text) (vs : List ImageNv) → length vs ≡ length xs → (ys : List Nv) × (map (λ y. y.0) ys ≡ xs) × (map (λ y. y.1) ys ≡ vs)
zipped [] [] e = ([], refl, refl)
zipped [] (v ∷ vs) e = absurd (omega (arith, e))
zipped (x ∷ xs) [] e = absurd (omega (arith, e))
zipped (x ∷ xs) (v ∷ vs) e = let r = zipped xs vs (omega (arith, e)) in ((x, v) ∷ r.0, ap (λ l. x ∷ l) r.1, ap (λ l. v ∷ l) r.2)

each_part : (ys : List Nv) → All IsNv (map (λ y. y.1) ys) → All IsNvPart ys
each_part [] h = All-nil IsNvPart
each_part (y ∷ ys) h = All-cons IsNvPart y ys (All-head IsNv y.1 (map (λ y. y.1) ys) h) (each_part ys (All-tail IsNv y.1 (map (λ y. y.1) ys) h))

all_first : (P : Text → Type 0) (xs ys : List Text) → All P (xs ++ ys) → All P xs
all_first P [] ys h = All-nil P
all_first P (x ∷ xs) ys h = All-cons P x xs (All-head P x (xs ++ ys) h) (all_first P xs ys (All-tail P x (xs ++ ys) h))

all_last : (P : Text → Type 0) (xs ys : List Text) → All P (xs ++ ys) → All P ys
all_last P [] ys h = h
all_last P (x ∷ xs) ys h = all_last P xs ys (All-tail P x (xs ++ ys) h)

all_always : (xs : List Text) → All Always xs
all_always [] = All-nil Always
all_always (x ∷ xs) = All-cons Always x xs tt (all_always xs)

module _ (s p : List Text) (v : List Nv) (f : List ImageFunction) (r : List (List Target)) (w : ℕ) (c : List Placed) where
  back : IsTold (image_of s p v f r w c) → HasNumbers (image_of s p v f r w c) → read_at (image_bytes (image_of s p v f r w c)) ≡ Ok (image_of s p v f r w c)
  back t n =
      let ns : List Text = map (λ x. x.0) v in
      let fs : List Text = map (λ x. x.name) f in
      let once1 = sym (once_append [] s (p ++ (ns ++ fs))) ∙ t.differ in
      let behind1 : each_once s (p ++ (ns ++ fs)) ≡ true = (and_parts (each_once [] s) (each_once s (p ++ (ns ++ fs))) once1).1 in
      let once2 = sym (once_append s p (ns ++ fs)) ∙ behind1 in
      let behind2 : each_once (s ++ p) (ns ++ fs) ≡ true = (and_parts (each_once s p) (each_once (s ++ p) (ns ++ fs)) once2).1 in
      let once3 = sym (once_append (s ++ p) ns fs) ∙ behind2 in
      let N : (P : Text → Type 0) → All P (all_names (image_of s p v f r w c)) → All P p × All P ns × All P fs = λ P h.
      (let l = all_last P s (p ++ (ns ++ fs)) h in let k = all_last P p (ns ++ fs) l in (all_first P p (ns ++ fs) l, all_first P ns fs k, all_last P ns fs k)) in
      let ids = N IsName t.names in
      let fews = N IsFew n.names in
      let plain : (xs : List Text) (P : Text → Type 0) → All P xs → All P (map itself xs) = λ xs P q. subst (All P) (sym (same_map xs)) q in
      let S : Bare [] s = record {
        once = subst (λ l. each_once [] l ≡ true) (sym (same_map s)) (and_parts (each_once [] s) (each_once s (p ++ (ns ++ fs))) once1).0;
        names =
            plain s IsName (all_first IsName s (p ++ (ns ++ fs)) t.names);
        few = plain s IsFew (all_first IsFew s (p ++ (ns ++ fs)) n.names);
        fine = all_always s;
      } in
      let Q : Bare s p = record {
        once = subst (λ l. each_once s l ≡ true) (sym (same_map p)) (and_parts (each_once s p) (each_once (s ++ p) (ns ++ fs)) once2).0;
        names =
            plain p IsName ids.0;
        few = plain p IsFew fews.0;
        fine = all_always p;
      } in
      let V : Nvs (s ++ p) v = record { once = (and_parts (each_once (s ++ p) ns) (each_once ((s ++ p) ++ ns) fs) once3).0; names = ids.1; few = fews.1; fine = each_part v n.nv } in
      let F : Functions ((s ++ p) ++ ns) f = record { once = (and_parts (each_once (s ++ p) ns) (each_once ((s ++ p) ++ ns) fs) once3).1; names = ids.2; few = fews.2; fine = n.functions } in
      let few_v : length v ≤ 64 = (let l = t.few_nvs in let m = length-map v (λ x. x.0) in omega (arith, l, m)) in
      let behind_code : Bytes = list_bytes placed_bytes c in
      let behind_stack : Bytes = number_bytes w ++ behind_code in
      let behind_regions : Bytes = list_bytes (list_bytes target_bytes) r ++ behind_stack in
      let behind_functions : Bytes = list_bytes function_bytes f ++ behind_regions in
      let behind_nvs : Bytes = all_nvs_bytes ns (map (λ x. x.1) v) ++ behind_functions in
      let behind_ports : Bytes = list_bytes name_bytes p ++ behind_nvs in
      ap (λ l. names_at 64 bare_at [] (l ++ behind_ports) >>= at_ports) (sym (bare_bytes s))
      ∙ ap (λ q. q >>= at_ports) (names_back bare_at itself nothing Always (λ y l h. refl) 64 [] s behind_ports (omega arith) t.few_sensors S)
      ∙ ap (λ l. names_at 64 bare_at s (l ++ behind_nvs) >>= at_nvs s) (sym (bare_bytes p))
      ∙ ap (λ q. q >>= at_nvs s) (names_back bare_at itself nothing Always (λ y l h. refl) 64 s p behind_nvs (omega arith) t.few_ports Q)
      ∙ ap (λ l. names_at 64 nv_at (s ++ p) (l ++ behind_functions) >>= at_functions s p) (sym (nv_bytes v))
      ∙ ap (λ q. q >>= at_functions s p) (names_back nv_at nv_name nv_tail IsNvPart nv_back 64 (s ++ p) v behind_functions (omega arith) few_v V)
      ∙ ap (λ q. q >>= at_regions s p v) (names_back function_at function_name function_tail IsFunction function_back 128 ((s ++ p) ++ ns) f behind_regions (omega arith) t.few_functions F)
      ∙ ap (λ q. q >>= at_stack s p v f) (regions_back r behind_stack n.regions n.targets)
      ∙ ap (λ q. q >>= at_code s p v f r) (any_back w behind_code n.stack)
      ∙ ap (λ l. list_at placed_at l >>= at_end s p v f r w) (sym (append-nil behind_code))
      ∙ ap (λ q. q >>= at_end s p v f r w) (list_back placed_at placed_bytes IsInstr placed_back c [] n.long n.code)

-- what was written is read back
pub read_back : (bs : Bytes) (i : Parts) → AreImage bs i → read_at bs ≡ Ok i
read_back bs i a =
    let z = zipped i.names.nvs i.nv a.told.each_nv in
    let whole : image_of i.names.sensors i.names.ports z.0 i.functions i.targets i.stack i.code ≡ i =
    (λ j. record { names = record { sensors = i.names.sensors; ports = i.names.ports; nvs = z.1 j }; functions = i.functions; targets = i.targets; nv = z.2 j; code = i.code; stack = i.stack }) in
    ap read_at a.is ∙ subst (λ k. IsTold k → HasNumbers k → read_at (image_bytes k) ≡ Ok k) whole (back i.names.sensors i.names.ports z.0 i.functions i.targets i.stack i.code) a.told a.numbers
