-- What fields with names were read from, and that they are read back.
use Rattle.std.proofs.Common.{append_assoc, ◌≡◌, ℕ, zero, suc, ◌≤◌, List, [], ◌∷◌, ◌++◌, length, length-append, take, drop, Ok, Err, refl, sym, ap, ◌∙◌, subst, arith, true, false, nat_le}
use Rattle.std.proofs.lemmas.Bool.{and_from, and_parts}
use Rattle.std.specs.Prelude.{◌&&◌, map, not}
use Rattle.std.specs.List.{flat_map, All}
use Rattle.std.proofs.lemmas.List.{take-append-drop, length-take}
use Rattle.std.proofs.lemmas.List.Elements.{All-nil, All-cons, All-head, All-tail}
use Rattle.oc_lex.specs.Stands.{IsName}
use Rattle.oc_tree.specs.Names.{Text}
use Rattle.oc_isa.specs.Bytes.{Bytes, number_bytes, name_bytes, list_bytes, IsFew}
use Rattle.oc_verify.specs.Reading.{Read, ◌>>=◌, if_in, number_at, any_at, name_at, named_at, names_at, is_name, is_named, each_once, IsNumber}
use Rattle.oc_verify.proofs.WordLaws.{named, is_named_so, negated}
use Rattle.oc_verify.proofs.FieldLaws.{AreBytes, Was, IsField, IsBetween, bytes_behind, bind_good, bind_bad, then_bad, if_good, if_bad, ok_pair, number_field, any_field}
use Rattle.oc_verify.proofs.ReadLaws.{number_back, any_back}

-- A name

-- a name that is told for the first time
abbrev pub IsFresh : List Text → Text → Type 0
IsFresh seen x = IsFew x × IsName x × (is_named seen x ≡ false)

pub name_field : (seen : List Text) → IsField (name_at seen) name_bytes (IsFresh seen)
unfolding name_at
name_field seen = record {
  good = λ bs h x rest e.
      let s = bind_good (any_at bs) (λ n. if_in (nat_le n.0 (length n.1) && (is_name (take n.0 n.1) && not (is_named seen (take n.0 n.1)))) bs (Ok (take n.0 n.1, drop n.0 n.1))) (x, rest) e in
      let w = any_field.good bs h s.0 s.1 s.2 in
      let t = if_good (nat_le s.0 (length s.1) && (is_name (take s.0 s.1) && not (is_named seen (take s.0 s.1)))) bs (Ok (take s.0 s.1, drop s.0 s.1)) (x, rest) s.3 in
      let q = ok_pair (take s.0 s.1) x (drop s.0 s.1) rest t.1 in
      let here : nat_le s.0 (length s.1) ≡ true = (and_parts (nat_le s.0 (length s.1)) (is_name (take s.0 s.1) && not (is_named seen (take s.0 s.1))) t.0).0 in
      let right = (and_parts (nat_le s.0 (length s.1)) (is_name (take s.0 s.1) && not (is_named seen (take s.0 s.1))) t.0).1 in
      let long : s.0 ≤ length s.1 = grind (arith, here) in
      let n : length (take s.0 s.1) ≡ s.0 = (let l = length-take s.0 s.1 in omega (arith, l, long)) in
      let few : IsFew (take s.0 s.1) = subst IsNumber (sym n) w.fine in
      let fine : IsFresh seen (take s.0 s.1) = (
        few,
        named (take s.0 s.1) (and_parts (is_name (take s.0 s.1)) (not (is_named seen (take s.0 s.1))) right).0,
        negated (is_named seen (take s.0 s.1))
            (and_parts (is_name (take s.0 s.1)) (not (is_named seen (take s.0 s.1))) right).1,
      ) in
      record {
        is = w.is ∙ (λ j. number_bytes (sym n j) ++ sym (take-append-drop s.0 s.1) j) ∙ sym (append_assoc (number_bytes (length (take s.0 s.1))) (take s.0 s.1) (drop s.0 s.1))
            ∙ (λ j. name_bytes (q.0 j) ++ q.1 j);
        fine = subst (IsFresh seen) q.0 fine;
        behind = subst AreBytes q.1 (bytes_behind s.0 s.1 w.behind);
      };
  bad = λ bs h left e.
      bind_bad (any_at bs) (λ n. if_in (nat_le n.0 (length n.1) && (is_name (take n.0 n.1) && not (is_named seen (take n.0 n.1)))) bs (Ok (take n.0 n.1, drop n.0 n.1))) left (length bs) e
      (λ q. any_field.bad bs h left q)
      (λ n r q f. if_bad (nat_le n (length r) && (is_name (take n r) && not (is_named seen (take n r)))) bs (Ok (take n r, drop n r)) left f (λ g. absurd (cc)));
}

front_of : (x rest : Bytes) → take (length x) (x ++ rest) ≡ x
front_of [] rest = refl
front_of (b ∷ x) rest = ap (λ l. b ∷ l) (front_of x rest)

behind_of : (x rest : Bytes) → drop (length x) (x ++ rest) ≡ rest
behind_of [] rest = refl
behind_of (b ∷ x) rest = behind_of x rest

pub name_back : (seen : List Text) (x rest : Bytes) → IsFew x → IsName x → is_named seen x ≡ false → name_at seen (name_bytes x ++ rest) ≡ Ok (x, rest)
unfolding name_at
name_back seen x rest few name fresh =
    let bs : Bytes = name_bytes x ++ rest in
    let long : nat_le (length x) (length (x ++ rest)) ≡ true = (let n = length-append x rest in let l : length x ≤ length (x ++ rest) = omega (arith, n) in grind (arith, l)) in
    let right : is_name x && not (is_named seen x) ≡ true = and_from (is_name x) (not (is_named seen x)) (is_named_so x name) (ap not fresh) in
    ap (λ r. r >>= λ n. if_in (nat_le n.0 (length n.1) && (is_name (take n.0 n.1) && not (is_named seen (take n.0 n.1)))) bs (Ok (take n.0 n.1, drop n.0 n.1)))
    (ap any_at (append_assoc (number_bytes (length x)) x rest) ∙ any_back (length x) (x ++ rest) few)
    ∙ (λ j. if_in (long j && (is_name (front_of x rest j) && not (is_named seen (front_of x rest j)))) bs (Ok (front_of x rest j, behind_of x rest j)))
    ∙ ap (λ b. if_in b bs (Ok (x, rest))) right

-- Lists with names

once_of : (seen : List Text) (x : Text) (xs : List Text) → is_named seen x ≡ false → each_once (seen ++ x ∷ []) xs ≡ true → each_once seen (x ∷ xs) ≡ true
once_of seen x xs f o = and_from (not (is_named seen x)) (each_once (seen ++ x ∷ []) xs) (ap not f) o

-- what stands behind each name, and how the name is had from both
module _ {A : Type 0} (one : Text → Bytes → Read A) (name_of : A → Text) (tail : A → Bytes) (P : A → Type 0) where
  abbrev pub with_name : A → Bytes
  with_name y = name_bytes (name_of y) ++ tail y

  -- a part that has this name
  abbrev pub HasName : Text → A → Type 0
  HasName x y = (name_of y ≡ x) × P y

  abbrev pub IsTail : Type 0
  IsTail = (x : Text) → IsField (one x) tail (HasName x)

  pub record AreNamed (seen : List Text) (ys : List A) : Type 0 where
    pub once : each_once seen (map name_of ys) ≡ true
    pub names : All IsName (map name_of ys)
    pub few : All IsFew (map name_of ys)
    pub fine : All P ys

  module _ (T : IsTail) where
    named_good : (seen : List Text) (n : ℕ) (bs : Bytes) → AreBytes bs → (ys : List A) (rest : Bytes) → named_at one seen n bs ≡ Ok (ys, rest)
        → Was (flat_map with_name) (λ zs. (length zs ≡ n) × AreNamed seen zs) bs ys rest
    unfolding named_at
    named_good seen zero bs h ys rest e =
        let q = ok_pair [] ys bs rest e in
        subst (λ zs. Was (flat_map with_name) (λ l. (length l ≡ 0) × AreNamed seen l) bs zs rest) q.0
        (record { is = q.1; fine = (refl, record { once = refl; names = All-nil IsName; few = All-nil IsFew; fine = All-nil P }); behind = subst AreBytes q.1 h })
    named_good seen (suc n) bs h ys rest e =
        let s = bind_good (name_at seen bs) (λ x. one x.0 x.1 >>= λ y. named_at one (seen ++ x.0 ∷ []) n y.1 >>= λ zs. Ok (y.0 ∷ zs.0, zs.1)) (ys, rest) e in
        let w = (name_field seen).good bs h s.0 s.1 s.2 in
        let t = bind_good (one s.0 s.1) (λ y. named_at one (seen ++ s.0 ∷ []) n y.1 >>= λ zs. Ok (y.0 ∷ zs.0, zs.1)) (ys, rest) s.3 in
        let v = (T s.0).good s.1 w.behind t.0 t.1 t.2 in
        let u = bind_good (named_at one (seen ++ s.0 ∷ []) n t.1) (λ zs. Ok (t.0 ∷ zs.0, zs.1)) (ys, rest) t.3 in
        let z = named_good (seen ++ s.0 ∷ []) n t.1 v.behind u.0 u.1 u.2 in
        let q = ok_pair (t.0 ∷ u.0) ys u.1 rest u.3 in
        let m : s.0 ≡ name_of t.0 = sym v.fine.0 in
        let f : IsFresh seen (name_of t.0) = subst (IsFresh seen) m w.fine in
        let k : AreNamed (seen ++ name_of t.0 ∷ []) u.0 = subst (λ x. AreNamed (seen ++ x ∷ []) u.0) m z.fine.1 in
        subst (λ zs. Was (flat_map with_name) (λ l. (length l ≡ suc n) × AreNamed seen l) bs zs rest) q.0 (record {
          is = w.is ∙ (λ j. name_bytes (m j) ++ v.is j) ∙ sym (append_assoc (name_bytes (name_of t.0)) (tail t.0) t.1)
              ∙ ap (λ l. with_name t.0 ++ l) (z.is ∙ ap (λ l. flat_map with_name u.0 ++ l) q.1) ∙ sym (append_assoc (with_name t.0) (flat_map with_name u.0) rest);
          fine = (
            ap suc z.fine.0,
            record {
              once = once_of seen (name_of t.0) (map name_of u.0) f.2 k.once;
              names = All-cons IsName (name_of t.0) (map name_of u.0) f.1 k.names;
              few = All-cons IsFew (name_of t.0) (map name_of u.0) f.0 k.few;
              fine = All-cons P t.0 u.0 v.fine.1 k.fine;
            },
          );
          behind = subst AreBytes q.1 z.behind;
        })

    named_bad : (seen : List Text) (n : ℕ) (bs : Bytes) → AreBytes bs → (left : ℕ) → named_at one seen n bs ≡ Err left → left ≤ length bs
    unfolding named_at
    named_bad seen zero bs h left e = absurd (cc)
    named_bad seen (suc n) bs h left e =
        then_bad (name_at seen) name_bytes (IsFresh seen) (name_field seen) bs h (λ x. one x.0 x.1 >>= λ y. named_at one (seen ++ x.0 ∷ []) n y.1 >>= λ zs. Ok (y.0 ∷ zs.0, zs.1)) left e
        (λ x r w f. then_bad (one x) tail (HasName x) (T x) r w.behind (λ y. named_at one (seen ++ x ∷ []) n y.1 >>= λ zs. Ok (y.0 ∷ zs.0, zs.1)) left f
        (λ y r' v g. bind_bad (named_at one (seen ++ x ∷ []) n r') (λ zs. Ok (y ∷ zs.0, zs.1)) left (length r') g
        (λ q. named_bad (seen ++ x ∷ []) n r' v.behind left q) (λ zs r'' q d. absurd (cc))))

    -- a list of at most so many
    pub names_field : (most : ℕ) (seen : List Text) → IsField (names_at most one seen) (list_bytes with_name) (λ ys. (length ys ≤ most) × AreNamed seen ys)
    names_field most seen = record {
      good = λ bs h ys rest e.
          let s = bind_good (number_at 0 most bs) (λ n. named_at one seen n.0 n.1) (ys, rest) e in
          let w = (number_field 0 most).good bs h s.0 s.1 s.2 in
          let v = named_good seen s.0 s.1 w.behind ys rest s.3 in
          record {
            is = w.is ∙ (λ j. number_bytes (sym v.fine.0 j) ++ v.is j) ∙ sym (append_assoc (number_bytes (length ys)) (flat_map with_name ys) rest);
            fine = (subst (λ m. m ≤ most) (sym v.fine.0) w.fine.2, v.fine.1);
            behind = v.behind;
          };
      bad = λ bs h left e. then_bad (number_at 0 most) number_bytes (IsBetween 0 most) (number_field 0 most) bs h (λ n. named_at one seen n.0 n.1) left e
          (λ n r w f. named_bad seen n r w.behind left f);
    }

  -- and back
  module _ (B : (y : A) (rest : Bytes) → P y → one (name_of y) (tail y ++ rest) ≡ Ok (y, rest)) where
    named_back : (seen : List Text) (ys : List A) (rest : Bytes) → AreNamed seen ys → named_at one seen (length ys) (flat_map with_name ys ++ rest) ≡ Ok (ys, rest)
    unfolding named_at
    named_back seen [] rest h = refl
    named_back seen (y ∷ ys) rest h =
        let x = name_of y in
        let more : Bytes = flat_map with_name ys ++ rest in
        let go : A × Bytes → Read (List A) = λ z. named_at one (seen ++ x ∷ []) (length ys) z.1 >>= λ zs. Ok (z.0 ∷ zs.0, zs.1) in
        let fresh : is_named seen x ≡ false = negated (is_named seen x) (and_parts (not (is_named seen x)) (each_once (seen ++ x ∷ []) (map name_of ys)) h.once).0 in
        let rest_named : AreNamed (seen ++ x ∷ []) ys = record {
          once = (and_parts (not (is_named seen x)) (each_once (seen ++ x ∷ []) (map name_of ys)) h.once).1;
          names = All-tail IsName x (map name_of ys) h.names;
          few = All-tail IsFew x (map name_of ys) h.few;
          fine = All-tail P y ys h.fine;
        } in
        let bytes : (with_name y ++ flat_map with_name ys) ++ rest ≡ name_bytes x ++ (tail y ++ more) = append_assoc (with_name y) (flat_map with_name ys) rest
        ∙ append_assoc (name_bytes x) (tail y) more in
        ap (λ bs. name_at seen bs >>= λ x. one x.0 x.1 >>= λ z. named_at one (seen ++ x.0 ∷ []) (length ys) z.1 >>= λ zs. Ok (z.0 ∷ zs.0, zs.1)) bytes
        ∙ ap (λ r. r >>= λ x. one x.0 x.1 >>= λ z. named_at one (seen ++ x.0 ∷ []) (length ys) z.1 >>= λ zs. Ok (z.0 ∷ zs.0, zs.1))
        (name_back seen x (tail y ++ more) (All-head IsFew x (map name_of ys) h.few) (All-head IsName x (map name_of ys) h.names) fresh)
        ∙ ap (λ r. r >>= go) (B y more (All-head P y ys h.fine))
        ∙ ap (λ r. r >>= λ zs. Ok (y ∷ zs.0, zs.1)) (named_back (seen ++ x ∷ []) ys rest rest_named)

    pub names_back : (most : ℕ) (seen : List Text) (ys : List A) (rest : Bytes) → IsNumber most → length ys ≤ most → AreNamed seen ys
        → names_at most one seen (list_bytes with_name ys ++ rest) ≡ Ok (ys, rest)
    names_back most seen ys rest small few h =
        ap (λ bs. number_at 0 most bs >>= λ n. named_at one seen n.0 n.1) (append_assoc (number_bytes (length ys)) (flat_map with_name ys) rest)
        ∙ ap (λ r. r >>= λ n. named_at one seen n.0 n.1) (number_back 0 most (length ys) (flat_map with_name ys ++ rest) (omega arith) few (omega (arith, small, few)))
        ∙ named_back seen ys rest h
