-- Things with commas between them.
use Rattle.std.proofs.Common.{◌≡◌, ℕ, zero, suc, ◌<◌, List, [], ◌∷◌, length, Some, None, Ok, refl, ap, subst, arith, inl, inr}
use Rattle.oc_lex.specs.declared.token.Mark.TheVariants as marks
use Rattle.oc_grammar.specs.Lexemes.{Lexemes}
use Rattle.oc_grammar.specs.Fronts.{Sign}
use Rattle.oc_grammar.specs.Reading.{Read, ◌>>=◌, with_some, strip_mark, expect_mark, listed_by}
use Rattle.oc_grammar.proofs.FrontLaws.{bind_ok, bind_same, ok_is, with_some_ok, with_some_same, strip_mark_ok, expect_mark_ok, sign_shorter}

-- a reading of one thing takes what R says
abbrev pub PartSound : {A : Type 0} → (A → Lexemes → Lexemes → Type 0) → (Lexemes → Read A) → Type 0
PartSound R part = (ts : Lexemes) (x : _ × Lexemes) → part ts ≡ Ok x → R x.0 ts x.1

abbrev pub Shortens : {A : Type 0} → (Lexemes → Read A) → Type 0
Shortens part = (ts : Lexemes) (x : _ × Lexemes) → part ts ≡ Ok x → length x.1 < length ts

-- what is read is such a list, where the forms of such lists are given
pub listed_sound : {A : Type 0} (R : A → Lexemes → Lexemes → Type 0) (Q : List A → Lexemes → Lexemes → Type 0) (part : Lexemes → Read A) → PartSound R part
    → ((from rest : Lexemes) → Sign marks.CloseRound from rest → Q [] from rest)
    → ((x : A) (from a rest : Lexemes) → R x from a → Sign marks.CloseRound a rest → Q (x ∷ []) from rest)
    → ((x : A) (xs : List A) (from a b rest : Lexemes) → R x from a → Sign marks.Comma a b → Q xs b rest → Q (x ∷ xs) from rest)
    → (k : ℕ) (ts : Lexemes) (y : List A × Lexemes) → listed_by part k ts ≡ Ok y → Q y.0 ts y.1
unfolding listed_by
listed_sound R Q part sound closed last further zero ts y e = absurd cc
listed_sound R Q part sound closed last further (suc k) ts y e =
    elim (with_some_ok (strip_mark marks.CloseRound ts) _ _ (Ok y) e) [
      | inl w ↦
          let p = bind_ok (part ts) _ y w.1 in
          elim (with_some_ok (strip_mark marks.Comma p.0.1) _ _ (Ok y) p.2) [
            | inl v ↦
                let c = bind_ok (expect_mark marks.CloseRound p.0.1) _ y v.1 in
                subst (λ (q : List _ × Lexemes). Q q.0 ts q.1) (ok_is _ y c.2) (last p.0.0 ts p.0.1 c.0 (sound ts p.0 p.1) (expect_mark_ok marks.CloseRound p.0.1 c.0 c.1))
            | inr v ↦
                let o = bind_ok (listed_by part k v.0) _ y v.2 in
                subst (λ (q : List _ × Lexemes). Q q.0 ts q.1) (ok_is _ y o.2)
                (further p.0.0 o.0.0 ts p.0.1 v.0 o.0.1 (sound ts p.0 p.1) (strip_mark_ok marks.Comma p.0.1 v.0 v.1) (listed_sound R Q part sound closed last further k v.0 o.0 o.1))
          ]
      | inr w ↦ subst (λ (q : List _ × Lexemes). Q q.0 ts q.1) (ok_is _ y w.2) (closed ts w.0 (strip_mark_ok marks.CloseRound ts w.0 w.1))
    ]

-- any count that is enough gives the same
pub listed_enough : {A : Type 0} (part : Lexemes → Read A) → Shortens part → (k j : ℕ) (ts : Lexemes) → length ts < k → length ts < j → listed_by part k ts ≡ listed_by part j ts
unfolding listed_by
listed_enough part short zero j ts h g = absurd (omega arith)
listed_enough part short (suc k) zero ts h g = absurd (omega arith)
listed_enough part short (suc k) (suc j) ts h g =
    with_some_same (strip_mark marks.CloseRound ts) _ _ _ _
    (λ _. bind_same (part ts) _ _ (λ x e.
    let s = short ts x e in
    with_some_same (strip_mark marks.Comma x.1) _ _ _ _ (λ _. refl) (λ us c.
    let l = sign_shorter (strip_mark_ok marks.Comma x.1 us c) in
    ap (λ (r : Read (List _)). r >>= λ xs. Ok (x.0 ∷ xs.0, xs.1)) (listed_enough part short k j us (omega arith) (omega arith)))))
    (λ us _. refl)

-- ---- one thing at a time

abbrev pub listed_at : {A : Type 0} → (Lexemes → Read A) → Lexemes → Read (List A)
listed_at part ts = listed_by part (suc (length ts)) ts

-- behind one thing
abbrev pub behind : {A : Type 0} → (Lexemes → Read (List A)) → A × Lexemes → Read (List A)
behind rest x =
    with_some (strip_mark marks.Comma x.1)
    (expect_mark marks.CloseRound x.1 >>= λ us. Ok (x.0 ∷ [], us))
    (λ us. rest us >>= λ xs. Ok (x.0 ∷ xs.0, xs.1))

pub listed_turn : {A : Type 0} (part : Lexemes → Read A) → Shortens part → (ts : Lexemes) → strip_mark marks.CloseRound ts ≡ None → listed_at part ts ≡ (part ts >>= behind (listed_at part))
unfolding listed_by
listed_turn part short ts none =
    rw none (bind_same (part ts) _ _ (λ x e.
    let s = short ts x e in
    with_some_same (strip_mark marks.Comma x.1) _ _ _ _ (λ _. refl) (λ us c.
    let l = sign_shorter (strip_mark_ok marks.Comma x.1 us c) in
    ap (λ (r : Read (List _)). r >>= λ xs. Ok (x.0 ∷ xs.0, xs.1)) (listed_enough part short (length ts) (suc (length us)) us (omega arith) (omega arith)))))

pub listed_closed : {A : Type 0} (part : Lexemes → Read A) (ts us : Lexemes) → strip_mark marks.CloseRound ts ≡ Some us → listed_at part ts ≡ Ok ([], us)
unfolding listed_by
listed_closed part ts us e = rw e refl
