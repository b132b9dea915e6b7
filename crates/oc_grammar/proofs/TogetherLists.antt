-- Things with commas between them, read together.
use Rattle.std.proofs.Common.{◌≡◌, ℕ, zero, suc, false, List, [], ◌∷◌, Option, Some, None, Ok, refl, sym, arith}
use Rattle.oc_lex.specs.declared.token.Mark.TheVariants as marks
use Rattle.oc_grammar.specs.Limits.{Depth}
use Rattle.oc_grammar.specs.Lexemes.{Lexeme, Lexemes, sign}
use Rattle.oc_grammar.specs.Reading.{Read, ◌>>=◌, with_some, strip_mark, expect_mark, listed_by}
use Rattle.oc_grammar.proofs.ListLaws.{Shortens, listed_at, behind, listed_turn, listed_closed}
use Rattle.oc_grammar.proofs.Online.{is_curly, Live, Ready, ready_given, Online, far, same, bind, later, live_bind, taken}
use Rattle.oc_grammar.proofs.Together.{reads, rest_of, IsMark, mark_fronts, Good, fair, given, good_bind, go, choose, close_round, closing_round, plain_mark}

pub listed_go : {A : Type 0} (part : Lexemes → Read A) → Shortens part → (ts : Lexemes)
    → listed_at part ts ≡ with_some (strip_mark marks.CloseRound ts) (part ts >>= behind (listed_at part)) (λ us. Ok ([], us))
listed_go part short ts = by_front (strip_mark marks.CloseRound ts) refl
  where
    by_front : (o : Option Lexemes) → strip_mark marks.CloseRound ts ≡ o → listed_at part ts ≡ with_some o (part ts >>= behind (listed_at part)) (λ us. Ok ([], us))
    by_front None k = listed_turn part short ts k
    by_front (Some us) k = listed_closed part ts us k

module _ (gap : Depth → ℕ) (asks : Lexeme → Type 0) {A : Type 0} (part part' : Lexemes → Read A) (short : Shortens part) (short' : Shortens part')
    (one : Good gap asks (reads A) false part part') where
  behind_ready : (a : A) → Ready false (λ xs ts. (xs, ts)) (λ ts. behind (listed_at part') (a, ts))
  unfolding strip_mark expect_mark
  behind_ready a = record {
    live = record { more = sign 1 marks.CloseRound ∷ []; value = a ∷ []; reads = λ rest h. refl };
    plain =
        λ rest h. plain_mark 1 marks.CloseRound rest (closing_round gap asks);
  }

  pub list_live : Live false (λ xs ts. (xs, ts)) (listed_at part')
  unfolding strip_mark listed_by
  list_live = record { more = sign 1 marks.CloseRound ∷ []; value = []; reads = λ rest h. refl }

  calm_comma : (t : Lexeme) → IsMark marks.Comma t → is_curly t ≡ false
  calm_comma t p = rw p.1 refl

  calm_close : (t : Lexeme) → IsMark marks.CloseRound t → is_curly t ≡ false
  calm_close t p = rw p.1 refl

  mutual
    pub list_online : (n : ℕ) → Online gap asks (reads (List A)) false n (listed_at part) (listed_at part')
    list_online zero = far
    list_online (suc n) =
        same gap asks
        (choose gap asks (reads (List A)) false (strip_mark marks.CloseRound) rest_of (λ v. IsMark marks.CloseRound) (mark_fronts marks.CloseRound)
        (λ ts. part ts >>= behind (listed_at part)) (λ ts. part' ts >>= behind (listed_at part')) (λ us. Ok ([], us)) (λ us. Ok ([], us)) n
        (later gap asks (λ a ts. (a, ts)) (λ a ts. (a, ts)) (λ i. i) (reads (List A)) false false (behind (listed_at part)) (behind (listed_at part')) (λ t e. e)
        (λ t z e i. behind_ready i) (one.online (suc n)) (λ i ts e. let h = short ts (i, ts) e in omega arith) (behind_online n))
        (λ v t p. go gap asks (fair gap asks (given gap asks [])) (calm_close t p)))
        (listed_at part) (listed_at part') (λ ts. sym (listed_go part short ts)) (λ ts. sym (listed_go part' short' ts))

    behind_online : (n : ℕ) (a : A) → Online gap asks (reads (List A)) false n (λ ts. behind (listed_at part) (a, ts)) (λ ts. behind (listed_at part') (a, ts))
    behind_online zero a = far
    behind_online (suc n) a =
        choose gap asks (reads (List A)) false (strip_mark marks.Comma) rest_of (λ v. IsMark marks.Comma) (mark_fronts marks.Comma)
        (λ ts. expect_mark marks.CloseRound ts >>= λ us. Ok (a ∷ [], us)) (λ ts. expect_mark marks.CloseRound ts >>= λ us. Ok (a ∷ [], us))
        (λ us. listed_at part us >>= λ xs. Ok (a ∷ xs.0, xs.1)) (λ us. listed_at part' us >>= λ xs. Ok (a ∷ xs.0, xs.1)) n
        ((good_bind gap asks _ _ (close_round gap asks) (λ v. given gap asks (a ∷ []))).online (suc n))
        (λ v t p. taken (bind gap asks (λ xs ts. (xs, ts)) (λ xs ts. (xs, ts)) (λ i. i) (reads (List A)) false false (λ xs. Ok (a ∷ xs.0, xs.1)) (λ xs. Ok (a ∷ xs.0, xs.1))
        (λ t e. e) (λ t z e xs. ready_given (λ ys ts. (ys, ts)) (a ∷ xs)) (list_online n) (λ xs. (given gap asks (a ∷ xs)).online n)) (calm_comma t p)
        (λ z. live_bind false (λ xs ts. (xs, ts)) (λ xs ts. (xs, ts)) (listed_at part') (λ xs. Ok (a ∷ xs.0, xs.1)) list_live (λ xs. ready_given (λ ys ts. (ys, ts)) (a ∷ xs))))

  pub list_good : Good gap asks (reads (List A)) false (listed_at part) (listed_at part')
  unfolding list_live
  list_good = record { online = list_online; ready = record { live = list_live; plain = λ rest h. plain_mark 1 marks.CloseRound rest (closing_round gap asks) } }
