-- Fields that are read so many times.
use Rattle.std.proofs.Common.{append_assoc, ◌≡◌, ℕ, suc, List, [], ◌∷◌, ◌++◌, Ok, Err, refl, sym, ap, ◌∙◌}
use Rattle.std.proofs.lemmas.List.{append-nil}
use Rattle.oc_isa.specs.Bytes.{Bytes}
use Rattle.oc_verify.specs.declared.fault.ReadFault.{ReadFault}
use Rattle.oc_verify.specs.declared.fault.ReadFault.TheVariants as faults
use Rattle.oc_tree.specs.Names.{Text}
use Rattle.oc_verify.specs.Reading.{Read, ◌>>=◌, many_at, name_at, named_at}
use Rattle.oc_verify.specs.Reads.{Reads}

-- what is still to be read, behind what was read
abbrev pub behind : {A : Type 0} → List A → List A × Bytes → Read (List A)
behind done ys = Ok (done ++ ys.0, ys.1)

-- these were read, and so many are left
abbrev pub IsMany : {A : Type 0} → (Bytes → Read A) → ℕ → Bytes → List A → ℕ → Bytes → Type 0
IsMany one n start done left now = many_at one n start ≡ (many_at one left now >>= behind done)

none_behind : {A : Type 0} (r : Read (List A)) → r ≡ (r >>= behind [])
none_behind (Ok ys) = refl
none_behind (Err e) = refl

pub many_begun : {A : Type 0} (one : Bytes → Read A) (n : ℕ) (start : Bytes) → IsMany one n start [] n start
many_begun one n start = none_behind (many_at one n start)

one_behind : {A : Type 0} (x : A) (done : List A) (r : Read (List A)) → ((r >>= λ xs. Ok (x ∷ xs.0, xs.1)) >>= behind done) ≡ (r >>= behind (done ++ x ∷ []))
one_behind x done (Ok ys) = ap (λ l. Ok (l, ys.1)) (sym (append_assoc done (x ∷ []) ys.0))
one_behind x done (Err e) = refl

pub many_more : {A : Type 0} (one : Bytes → Read A) (n : ℕ) (start : Bytes) (done : List A) (left rest : ℕ) (now next : Bytes) (x : A) → left ≡ suc rest → one now ≡ Ok (x, next)
    → IsMany one n start done left now → IsMany one n start (done ++ x ∷ []) rest next
unfolding many_at
many_more one n start done left rest now next x l e h =
    h ∙ ap (λ m. many_at one m now >>= behind done) l
    ∙ ap (λ r. (r >>= λ y. many_at one rest y.1 >>= λ ys. Ok (y.0 ∷ ys.0, ys.1)) >>= behind done) e
    ∙ one_behind x done (many_at one rest next)

pub many_fails : {A : Type 0} (one : Bytes → Read A) (n : ℕ) (start : Bytes) (done : List A) (left rest : ℕ) (now : Bytes) (e : ℕ) → left ≡ suc rest → one now ≡ Err e
    → IsMany one n start done left now → many_at one n start ≡ Err e
unfolding many_at
many_fails one n start done left rest now e l f h =
    h ∙ ap (λ m. many_at one m now >>= behind done) l
    ∙ ap (λ r. (r >>= λ y. many_at one rest y.1 >>= λ ys. Ok (y.0 ∷ ys.0, ys.1)) >>= behind done) f

pub many_done : {A : Type 0} (one : Bytes → Read A) (n : ℕ) (start : Bytes) (done : List A) (left : ℕ) (now : Bytes) → left ≡ 0 → IsMany one n start done left now
    → many_at one n start ≡ Ok (done, now)
unfolding many_at
many_done one n start done left now l h =
    h ∙ ap (λ m. many_at one m now >>= behind done) l ∙ ap (λ d. Ok (d, now)) (append-nil done)

-- the next of them has a fault
pub many_faults : {A V : Type 0} (view : V → List A) (one : Bytes → Read A) (n : ℕ) (start : Bytes) (done : List A) (left rest : ℕ) (now next : Bytes) (fault : ReadFault) → left ≡ suc rest
    → Reads {A = A} {B = A} (λ x. x) (Err fault) next (one now) → IsMany one n start done left now → Reads {A = V} {B = List A} view (Err fault) next (many_at one n start)
many_faults view one n start done left rest now next (faults.Bad k) l r h = many_fails one n start done left rest now k l r h
many_faults view one n start done left rest now next faults.Memory l r h = tt

-- Fields with names

-- these were read, with the names that were seen, and so many are left
abbrev pub IsPart : {A : Type 0} → (Text → Bytes → Read A) → ℕ → List Text → Bytes → List A → ℕ → List Text → Bytes → Type 0
IsPart one n first start done left seen now = named_at one first n start ≡ (named_at one seen left now >>= behind done)

pub part_begun : {A : Type 0} (one : Text → Bytes → Read A) (n : ℕ) (first : List Text) (start : Bytes) → IsPart one n first start [] n first start
part_begun one n first start = none_behind (named_at one first n start)

module _ {A : Type 0} (one : Text → Bytes → Read A) (n : ℕ) (first : List Text) (start : Bytes) (done : List A) (left rest : ℕ) (seen : List Text) (now : Bytes)
    (l : left ≡ suc rest) (h : IsPart one n first start done left seen now) where
  abbrev Go : Text × Bytes → Read (List A)
  Go x = one x.0 x.1 >>= λ y. named_at one (seen ++ x.0 ∷ []) rest y.1 >>= λ ys. Ok (y.0 ∷ ys.0, ys.1)

  on : named_at one first n start ≡ ((name_at seen now >>= Go) >>= behind done)
  unfolding named_at
  on = h ∙ ap (λ m. named_at one seen m now >>= behind done) l

  pub part_more : (x : Text) (mid next : Bytes) (y : A) → name_at seen now ≡ Ok (x, mid) → one x mid ≡ Ok (y, next) → IsPart one n first start (done ++ y ∷ []) rest (seen ++ x ∷ []) next
  part_more x mid next y e f =
      on ∙ ap (λ r. (r >>= Go) >>= behind done) e
      ∙ ap (λ r. (r >>= λ z. named_at one (seen ++ x ∷ []) rest z.1 >>= λ ys. Ok (z.0 ∷ ys.0, ys.1)) >>= behind done) f
      ∙ one_behind y done (named_at one (seen ++ x ∷ []) rest next)

  -- the name has a fault
  pub part_faults : {V : Type 0} (view : V → List A) (next : Bytes) (fault : ReadFault) → Reads {A = Text} {B = Text} (λ x. x) (Err fault) next (name_at seen now)
      → Reads {A = V} {B = List A} view (Err fault) next (named_at one first n start)
  part_faults view next (faults.Bad k) r = on ∙ ap (λ r. (r >>= Go) >>= behind done) r
  part_faults view next faults.Memory r = tt

  -- what stands behind it has one
  pub part_faults_behind : {V : Type 0} (view : V → List A) (x : Text) (mid next : Bytes) (fault : ReadFault) → name_at seen now ≡ Ok (x, mid)
      → Reads {A = A} {B = A} (λ y. y) (Err fault) next (one x mid) → Reads {A = V} {B = List A} view (Err fault) next (named_at one first n start)
  part_faults_behind view x mid next (faults.Bad k) e r = on ∙ ap (λ r. (r >>= Go) >>= behind done) e
      ∙ ap (λ r. (r >>= λ z. named_at one (seen ++ x ∷ []) rest z.1 >>= λ ys. Ok (z.0 ∷ ys.0, ys.1)) >>= behind done) r
  part_faults_behind view x mid next faults.Memory e r = tt

pub part_done : {A : Type 0} (one : Text → Bytes → Read A) (n : ℕ) (first : List Text) (start : Bytes) (done : List A) (left : ℕ) (seen : List Text) (now : Bytes) → left ≡ 0
    → IsPart one n first start done left seen now → named_at one first n start ≡ Ok (done, now)
unfolding named_at
part_done one n first start done left seen now l h =
    h ∙ ap (λ m. named_at one seen m now >>= behind done) l ∙ ap (λ d. Ok (d, now)) (append-nil done)
