-- The fronts of the tokens, read together.
use Rattle.std.proofs.Common.{◌≡◌, ℕ, zero, suc, ℤ, pos, Bool, true, false, eqb, [], ◌∷◌, ◌++◌, length, Option, Some, None, Result, Ok, Err, refl, ap, inl, inr, ◌⊎◌}
use Rattle.std.proofs.lemmas.Bool.{eqb-true}
use Rattle.oc_tree.specs.Names.{Text}
use Rattle.oc_lex.specs.declared.token.Word.{Word}
use Rattle.oc_lex.specs.declared.token.Mark.{Mark}
use Rattle.oc_lex.specs.declared.token.Mark.TheVariants as marks
use Rattle.oc_grammar.specs.Limits.{Depth}
use Rattle.oc_grammar.specs.Lexemes.{Lexeme, Lexemes, named, numeral, keyword, sign}
use Rattle.oc_grammar.specs.Fronts.{a_sign, a_keyword, mark_operator}
use Rattle.oc_grammar.specs.Reading.{Fault, depth_fault, next_at, ◌>>=◌, with_some, refuse, mark_number, word_number, strip_mark, strip_word, expect_mark, expect_word, name_at}
use Rattle.oc_grammar.specs.Reading.{number_at, operator_front}
use Rattle.oc_grammar.specs.Depths.{Opens}
use Rattle.oc_grammar.proofs.FrontLaws.{one_mark, one_word, sign_expect, keyword_expect}
use Rattle.oc_grammar.proofs.Online.{Reading, Shape, shaped, shape, Positive, lead_bind, is_curly, Takes, Plain, Live, Ready, live_same, ready_same, live_bind, ready_bind, widen}
use Rattle.oc_grammar.proofs.Online.{waits, ends, Online, far, near, Step, refused, gives, both_deep, one_deep, taken, same, same_end, same_step, wider, step_of, end_of, bind}

-- ---- what may be in front

abbrev pub IsMark : Mark → Lexeme → Type 0
IsMark m t = (line : ℕ) × (t ≡ sign line m)

abbrev pub IsWord : Word → Lexeme → Type 0
IsWord w t = (line : ℕ) × (t ≡ keyword line w)

-- at a token a test finds something there or not, whatever is behind
abbrev pub AtFront : {V Z : Type 0} → (Lexemes → Option Z) → (V → Lexemes → Z) → (V → Lexeme → Type 0) → Lexeme → Type 0
AtFront f put P t = ((v : _) × P v t × ((ts : Lexemes) → f (t ∷ ts) ≡ Some (put v ts))) ⊎ ((ts : Lexemes) → f (t ∷ ts) ≡ None)

pub record Fronts {V Z : Type 0} (f : Lexemes → Option Z) (put : V → Lexemes → Z) (P : V → Lexeme → Type 0) : Type 0 where
  pub nothing : f [] ≡ None
  pub each : (t : Lexeme) → AtFront f put P t

-- what readings give: nothing, or something
abbrev pub rest_of : Unit {0} → Lexemes → Lexemes
rest_of v ts = ts

abbrev pub over : Shape (Unit {0}) (Unit {0}) Lexemes Lexemes
over = shape rest_of rest_of

abbrev pub reads : (A : Type 0) → Shape A A (A × Lexemes) (A × Lexemes)
reads A = shape (λ a ts. (a, ts)) (λ a ts. (a, ts))

pub mark_fronts : (m : Mark) → Fronts (strip_mark m) rest_of (λ v. IsMark m)
unfolding strip_mark
mark_fronts m = record { nothing = refl; each = by_token }
  where
    by_flag : (line : ℕ) (k : Mark) (b : Bool) → eqb (mark_number k) (mark_number m) ≡ b
        → ((v : Unit {0}) × IsMark m (sign line k) × ((ts : Lexemes) → strip_mark m (sign line k ∷ ts) ≡ Some ts)) ⊎ ((ts : Lexemes) → strip_mark m (sign line k ∷ ts) ≡ None)
    by_flag line k true e = inl (tt, (line, ap (λ (a : Mark). sign line a) (one_mark k m (eqb-true _ _ e))), λ ts. rw e refl)
    by_flag line k false e = inr (λ ts. rw e refl)

    by_token : (t : Lexeme) → ((v : Unit {0}) × IsMark m t × ((ts : Lexemes) → strip_mark m (t ∷ ts) ≡ Some ts)) ⊎ ((ts : Lexemes) → strip_mark m (t ∷ ts) ≡ None)
    by_token (sign line k) = by_flag line k (eqb (mark_number k) (mark_number m)) refl
    by_token _ = inr (λ ts. refl)

pub word_fronts : (w : Word) → Fronts (strip_word w) rest_of (λ v. IsWord w)
unfolding strip_word
word_fronts w = record { nothing = refl; each = by_token }
  where
    by_flag : (line : ℕ) (k : Word) (b : Bool) → eqb (word_number k) (word_number w) ≡ b
        → ((v : Unit {0}) × IsWord w (keyword line k) × ((ts : Lexemes) → strip_word w (keyword line k ∷ ts) ≡ Some ts)) ⊎ ((ts : Lexemes) → strip_word w (keyword line k ∷ ts) ≡ None)
    by_flag line k true e = inl (tt, (line, ap (λ (a : Word). keyword line a) (one_word k w (eqb-true _ _ e))), λ ts. rw e refl)
    by_flag line k false e = inr (λ ts. rw e refl)

    by_token : (t : Lexeme) → ((v : Unit {0}) × IsWord w t × ((ts : Lexemes) → strip_word w (t ∷ ts) ≡ Some ts)) ⊎ ((ts : Lexemes) → strip_word w (t ∷ ts) ≡ None)
    by_token (keyword line k) = by_flag line k (eqb (word_number k) (word_number w)) refl
    by_token _ = inr (λ ts. refl)

-- ---- plain tokens

pub plain_number : (line : ℕ) (v : ℤ) (ts : Lexemes) → Plain (numeral line v ∷ ts)
unfolding strip_mark strip_word operator_front
plain_number line v ts = record { no_round = refl; no_square = refl; no_colon = refl; no_arrow = refl; no_ampersand = refl; no_mutable = refl; no_else = refl; no_if = refl; no_operator = λ j. refl }

pub plain_name : (line : ℕ) (x : Text) (ts : Lexemes) → Plain (named line x ∷ ts)
unfolding strip_mark strip_word operator_front
plain_name line x ts = record { no_round = refl; no_square = refl; no_colon = refl; no_arrow = refl; no_ampersand = refl; no_mutable = refl; no_else = refl; no_if = refl; no_operator = λ j. refl }

pub plain_end : Plain []
unfolding strip_mark strip_word operator_front
plain_end = record { no_round = refl; no_square = refl; no_colon = refl; no_arrow = refl; no_ampersand = refl; no_mutable = refl; no_else = refl; no_if = refl; no_operator = λ j. refl }

pub with_some_apply : {A B C : Type 0} (f : B → C) (o : Option A) (x : B) (g : A → B) → with_some o (f x) (λ z. f (g z)) ≡ f (with_some o x g)
with_some_apply f None x g = refl
with_some_apply f (Some z) x g = refl

pub expect_bind : {A : Type 0} (m : Mark) (ts : Lexemes) (k : Lexemes → Result A Fault) → with_some (strip_mark m ts) (refuse ts) k ≡ (expect_mark m ts >>= k)
unfolding expect_mark
expect_bind m ts k = by_front (strip_mark m ts)
  where
    by_front : (o : Option Lexemes) → with_some o (refuse ts) k ≡ (with_some o (refuse ts) (λ us. Ok us) >>= k)
    by_front None = refl
    by_front (Some us) = refl

-- a mark that nothing goes on with
pub record Closing (m : Mark) : Type 0 where
  pub other_round : eqb (mark_number m) 0 ≡ false
  pub other_square : eqb (mark_number m) 4 ≡ false
  pub other_colon : eqb (mark_number m) 7 ≡ false
  pub other_arrow : eqb (mark_number m) 9 ≡ false
  pub other_ampersand : eqb (mark_number m) 25 ≡ false
  pub no_infix : mark_operator m ≡ None

pub plain_mark : (line : ℕ) (m : Mark) (ts : Lexemes) → Closing m → Plain (sign line m ∷ ts)
unfolding strip_mark strip_word operator_front
plain_mark line m ts c = record {
  no_round = rw c.other_round refl;
  no_square = rw c.other_square refl;
  no_colon = rw c.other_colon refl;
  no_arrow =
      rw c.other_arrow refl;
  no_ampersand = rw c.other_ampersand refl;
  no_mutable = refl;
  no_else = refl;
  no_if = refl;
  no_operator = λ j. rw c.no_infix refl;
}

-- a word that nothing goes on with
pub record Starting (w : Word) : Type 0 where
  pub other_mutable : eqb (word_number w) 5 ≡ false
  pub other_else : eqb (word_number w) 7 ≡ false
  pub other_if : eqb (word_number w) 6 ≡ false

pub plain_word : (line : ℕ) (w : Word) (ts : Lexemes) → Starting w → Plain (keyword line w ∷ ts)
unfolding strip_mark strip_word operator_front
plain_word line w ts c = record {
  no_round = refl;
  no_square = refl;
  no_colon = refl;
  no_arrow = refl;
  no_ampersand = refl;
  no_mutable = rw c.other_mutable refl;
  no_else =
      rw c.other_else refl;
  no_if = rw c.other_if refl;
  no_operator = λ j. refl;
}

-- ---- readings that go together, with some tokens that complete them

module _ (gap : Depth → ℕ) (asks : Lexeme → Type 0) where
  -- behind a token that was taken
  pub record Fair {I K X Y : Type 0} (s : Shape I K X Y) (b : Bool) (r : Reading X) (q : Reading Y) : Type 0 where
    pub online : (n : ℕ) → Online gap asks s b n r q
    pub live : Live s.whole s.large q

  -- anywhere
  pub record Good {I K X Y : Type 0} (s : Shape I K X Y) (b : Bool) (r : Reading X) (q : Reading Y) : Type 0 where
    pub online : (n : ℕ) → Online gap asks s b n r q
    pub ready : Ready s.whole s.large q

  pub fair : {I K X Y : Type 0} {s : Shape I K X Y} {b : Bool} {r : Reading X} {q : Reading Y} → Good s b r q → Fair s b r q
  fair g = record { online = g.online; live = g.ready.live }

  pub fair_wide : {I K X Y : Type 0} {s : Shape I K X Y} {r : Reading X} {q : Reading Y} → Fair s false r q → Fair s true r q
  fair_wide g = record { online = λ n. wider gap asks true (g.online n); live = g.live }

  pub good_same : {I K X Y : Type 0} {s : Shape I K X Y} {b : Bool} {r : Reading X} {q : Reading Y} (r' : Reading X) (q' : Reading Y) → ((ts : Lexemes) → r ts ≡ r' ts)
      → ((ts : Lexemes) → q ts ≡ q' ts) → Good s b r q → Good s b r' q'
  good_same {s = s} {q = q} r' q' e f g = record { online = λ n. same gap asks (g.online n) r' q' e f; ready = ready_same s.whole s.large q q' f g.ready }

  -- something is given at once
  pub given : {I K X Y : Type 0} {x : I → Lexemes → X} {y : K → Lexemes → Y} {keep : I → K} {b : Bool} (i : I) → Good (shaped x y keep) b (λ ts. Ok (x i ts)) (λ ts. Ok (y (keep i) ts))
  given {x = x} {y = y} {keep = keep} {b = b} i = record {
    online = by_count;
    ready = record { live = record { more = []; value = keep i; reads = λ rest h. refl }; plain = λ rest h. h };
  }
    where
      by_count : (n : ℕ) → Online gap asks (shaped x y keep) b n (λ ts. Ok (x i ts)) (λ ts. Ok (y (keep i) ts))
      by_count zero = far
      by_count (suc n) = near (ends i refl refl) (λ t. gives i (λ ts. refl) (λ ts. refl))

  pub good_bind : {I J H X Y Z W : Type 0} {x : I → Lexemes → X} {y : I → Lexemes → Y} {u : Shape J H Z W} {b : Bool} {r : Reading X} {q : Reading Y} (k : X → Result Z Fault)
      (l : Y → Result W Fault) → Good (shape x y) b r q → ((i : I) → Good u b (λ ts. k (x i ts)) (λ ts. l (y i ts))) → Good u b (λ ts. r ts >>= k) (λ ts. q ts >>= l)
  good_bind {x = x} {y = y} {u = u} {b = b} {r = r} {q = q} k l g h = record {
    online = λ n. bind gap asks x y (λ i. i) u b b k l (λ t e. e) (λ t a e i. (h i).ready) (g.online n) (λ i. (h i).online n);
    ready = ready_bind u.whole y u.large q l g.ready (λ i. (h i).ready);
  }

  pub fair_bind : {I J H X Y Z W : Type 0} {x : I → Lexemes → X} {y : I → Lexemes → Y} {u : Shape J H Z W} {b : Bool} {r : Reading X} {q : Reading Y} (k : X → Result Z Fault)
      (l : Y → Result W Fault) → Fair (shape x y) b r q → ((i : I) → Good u b (λ ts. k (x i ts)) (λ ts. l (y i ts))) → Fair u b (λ ts. r ts >>= k) (λ ts. q ts >>= l)
  fair_bind {x = x} {y = y} {u = u} {b = b} {r = r} {q = q} k l g h = record {
    online = λ n. bind gap asks x y (λ i. i) u b b k l (λ t e. e) (λ t a e i. (h i).ready) (g.online n) (λ i. (h i).online n);
    live = live_bind u.whole y u.large q l g.live (λ i. (h i).ready);
  }

  -- the token is taken
  pub go : {I K X Y : Type 0} {s : Shape I K X Y} {b : Bool} {n : ℕ} {t : Lexeme} {r : Reading X} {q : Reading Y} → Fair s b r q → Takes b t → Step gap asks s b n t r q
  go {n = n} f w = taken (f.online n) w (λ a. f.live)

  -- one of two readings, by what is in front
  pub choose : {I K X Y V Z : Type 0} (s : Shape I K X Y) (b : Bool) (f : Lexemes → Option Z) (put : V → Lexemes → Z) (P : V → Lexeme → Type 0) → Fronts f put P
      → (other : Reading X) (other' : Reading Y) (found : Z → Result X Fault) (found' : Z → Result Y Fault) (n : ℕ) → Online gap asks s b (suc n) other other'
      → ((v : V) (t : Lexeme) → P v t → Step gap asks s b n t (λ ts. found (put v ts)) (λ ts. found' (put v ts)))
      → Online gap asks s b (suc n) (λ ts. with_some (f ts) (other ts) found) (λ ts. with_some (f ts) (other' ts) found')
  choose s b f put P fr other other' found found' n o k =
      near (same_end gap asks (end_of gap asks o) (λ ts. with_some (f ts) (other ts) found) (λ ts. with_some (f ts) (other' ts) found') (rw fr.nothing refl) (rw fr.nothing refl))
      (λ t. by_step t (fr.each t))
    where
      by_step : (t : Lexeme) → AtFront f put P t → Step gap asks s b n t (λ ts. with_some (f (t ∷ ts)) (other (t ∷ ts)) found) (λ ts. with_some (f (t ∷ ts)) (other' (t ∷ ts)) found')
      by_step t (inl w) = same_step gap asks (k w.0 t w.1) (λ ts. with_some (f (t ∷ ts)) (other (t ∷ ts)) found) (λ ts. with_some (f (t ∷ ts)) (other' (t ∷ ts)) found')
          (λ ts. rw (w.2 ts) refl) (λ ts. rw (w.2 ts) refl)
      by_step t (inr w) = same_step gap asks (step_of gap asks o t) (λ ts. with_some (f (t ∷ ts)) (other (t ∷ ts)) found) (λ ts. with_some (f (t ∷ ts)) (other' (t ∷ ts)) found')
          (λ ts. rw (w ts) refl) (λ ts. rw (w ts) refl)

  -- one of two readings, where what is in front is optional
  pub optional : {I K X Y V Z : Type 0} {s : Shape I K X Y} {b : Bool} (f : Lexemes → Option Z) (put : V → Lexemes → Z) (P : V → Lexeme → Type 0) → Fronts f put P
      → ((v : V) (t : Lexeme) → P v t → Takes b t) → ((ts : Lexemes) → Plain ts → f ts ≡ None)
      → (other : Reading X) (other' : Reading Y) (found : Z → Result X Fault) (found' : Z → Result Y Fault) → Good s b other other'
      → ((v : V) → Fair s b (λ ts. found (put v ts)) (λ ts. found' (put v ts)))
      → Good s b (λ ts. with_some (f ts) (other ts) found) (λ ts. with_some (f ts) (other' ts) found')
  optional {s = s} {b = b} f put P fr w plainly other other' found found' g h = record {
    online = by_count;
    ready = record {
      live = record {
        more = g.ready.live.more;
        value = g.ready.live.value;
        reads = λ rest e. rw (plainly (g.ready.live.more ++ rest) (g.ready.plain rest e)) (g.ready.live.reads rest e);
      };
      plain = g.ready.plain;
    };
  }
    where
      by_count : (n : ℕ) → Online gap asks s b n (λ ts. with_some (f ts) (other ts) found) (λ ts. with_some (f ts) (other' ts) found')
      by_count zero = far
      by_count (suc n) = choose s b f put P fr other other' found found' n (g.online (suc n)) (λ v t p. go (h v) (w v t p))

  pub refused_at : {I K X Y : Type 0} (s : Shape I K X Y) (b : Bool) (n : ℕ) → Online gap asks s b n (λ ts. refuse ts) (λ ts. refuse ts)
  refused_at s b zero = far
  refused_at s b (suc n) = near (waits refl refl) (λ t. refused (λ ts. refl) (λ ts. refl))

  calm_mark : (m : Mark) → ((line : ℕ) → is_curly (sign line m) ≡ false) → (t : Lexeme) → IsMark m t → is_curly t ≡ false
  calm_mark m c t p = rw p.1 (c p.0)

  pub calm_word : (w : Word) (t : Lexeme) → IsWord w t → is_curly t ≡ false
  calm_word w t p = rw p.1 refl

  mark_online : (m : Mark) → ((line : ℕ) → is_curly (sign line m) ≡ false) → (n : ℕ) → Online gap asks over false n (expect_mark m) (expect_mark m)
  unfolding expect_mark
  mark_online m c zero = far
  mark_online m c (suc n) = choose over false (strip_mark m) rest_of (λ v. IsMark m) (mark_fronts m) (λ ts. refuse ts) (λ ts. refuse ts) (λ us. Ok us) (λ us. Ok us) n
      (refused_at over false (suc n)) (λ v t p. go (fair (given tt)) (calm_mark m c t p))

  word_online : (w : Word) (n : ℕ) → Online gap asks over false n (expect_word w) (expect_word w)
  unfolding expect_word
  word_online w zero = far
  word_online w (suc n) = choose over false (strip_word w) rest_of (λ v. IsWord w) (word_fronts w) (λ ts. refuse ts) (λ ts. refuse ts) (λ us. Ok us) (λ us. Ok us) n
      (refused_at over false (suc n)) (λ v t p. go (fair (given tt)) (calm_word w t p))

  abbrev mark_live : (m : Mark) → Live false rest_of (expect_mark m)
  mark_live m = record { more = sign 1 m ∷ []; value = tt; reads = λ rest h. sign_expect a_sign }

  pub mark_fair : (m : Mark) → ((line : ℕ) → is_curly (sign line m) ≡ false) → Fair over false (expect_mark m) (expect_mark m)
  mark_fair m c = record { online = mark_online m c; live = mark_live m }

  pub mark_good : (m : Mark) → ((line : ℕ) → is_curly (sign line m) ≡ false) → Closing m → Good over false (expect_mark m) (expect_mark m)
  mark_good m c e = record { online = mark_online m c; ready = record { live = mark_live m; plain = λ rest h. plain_mark 1 m rest e } }

  pub word_good : (w : Word) → Starting w → Good over false (expect_word w) (expect_word w)
  word_good w e = record {
    online = word_online w;
    ready =
        record { live = record { more = keyword 1 w ∷ []; value = tt; reads = λ rest h. keyword_expect a_keyword }; plain = λ rest h. plain_word 1 w rest e };
  }

  pub name_good : Good (reads Text) false name_at name_at
  unfolding name_at
  name_good = record { online = by_count; ready = record { live = record { more = named 1 [] ∷ []; value = []; reads = λ rest h. refl }; plain = λ rest h. plain_name 1 [] rest } }
    where
      by_step : (n : ℕ) (t : Lexeme) → Step gap asks (reads Text) false n t (λ ts. name_at (t ∷ ts)) (λ ts. name_at (t ∷ ts))
      by_step n (named line x) = go (fair (given x)) refl
      by_step n _ = refused (λ ts. refl) (λ ts. refl)

      by_count : (n : ℕ) → Online gap asks (reads Text) false n name_at name_at
      by_count zero = far
      by_count (suc n) = near (waits refl refl) (by_step n)

  pub number_good : Good (reads ℤ) false number_at number_at
  unfolding number_at
  number_good = record { online = by_count; ready = record { live = record { more = numeral 1 (pos 0) ∷ []; value = pos 0; reads = λ rest h. refl }; plain = λ rest h. plain_number 1 (pos 0) rest } }
    where
      by_step : (n : ℕ) (t : Lexeme) → Step gap asks (reads ℤ) false n t (λ ts. number_at (t ∷ ts)) (λ ts. number_at (t ∷ ts))
      by_step n (numeral line x) = go (fair (given x)) refl
      by_step n _ = refused (λ ts. refl) (λ ts. refl)

      by_count : (n : ℕ) → Online gap asks (reads ℤ) false n number_at number_at
      by_count zero = far
      by_count (suc n) = near (waits refl refl) (by_step n)

  abbrev pub closing_round : Closing marks.CloseRound
  closing_round = record { other_round = refl; other_square = refl; other_colon = refl; other_arrow = refl; other_ampersand = refl; no_infix = refl }

  pub close_round : Good over false (expect_mark marks.CloseRound) (expect_mark marks.CloseRound)
  close_round = mark_good marks.CloseRound (λ line. refl) closing_round

  pub close_square : Good over false (expect_mark marks.CloseSquare) (expect_mark marks.CloseSquare)
  close_square = mark_good marks.CloseSquare (λ line. refl) (record { other_round = refl; other_square = refl; other_colon = refl; other_arrow = refl; other_ampersand = refl; no_infix = refl })

  pub semicolon : Good over false (expect_mark marks.Semicolon) (expect_mark marks.Semicolon)
  semicolon = mark_good marks.Semicolon (λ line. refl) (record { other_round = refl; other_square = refl; other_colon = refl; other_arrow = refl; other_ampersand = refl; no_infix = refl })

  pub assign_mark : Good over false (expect_mark marks.Assign) (expect_mark marks.Assign)
  assign_mark = mark_good marks.Assign (λ line. refl) (record { other_round = refl; other_square = refl; other_colon = refl; other_arrow = refl; other_ampersand = refl; no_infix = refl })

  pub comma : Good over false (expect_mark marks.Comma) (expect_mark marks.Comma)
  comma = mark_good marks.Comma (λ line. refl) (record { other_round = refl; other_square = refl; other_colon = refl; other_arrow = refl; other_ampersand = refl; no_infix = refl })

  pub open_round : Fair over false (expect_mark marks.OpenRound) (expect_mark marks.OpenRound)
  open_round = mark_fair marks.OpenRound (λ line. refl)

  -- by the token in front
  pub dispatch : {I K X Y : Type 0} {s : Shape I K X Y} {b : Bool} (f : Lexeme → Reading X) (f' : Lexeme → Reading Y) → ((n : ℕ) (t : Lexeme) → Step gap asks s b n t (f t) (f' t))
      → (n : ℕ) → Online gap asks s b n (λ ts. next_at ts >>= λ x. f x.0 x.1) (λ ts. next_at ts >>= λ x. f' x.0 x.1)
  unfolding next_at
  dispatch f f' h zero = far
  dispatch f f' h (suc n) = near (waits refl refl) (h n)

  -- ---- where a depth may be passed

  -- behind a token that may pass a depth
  pub data Opened {I K X Y : Type 0} (d : Depth) (s : Shape I K X Y) (n : ℕ) (r : Reading X) (q : Reading Y) : Type 0 where
    opened : Online gap asks s false n r q → Live s.whole s.large q → Opened d s n r q
    deep_both : (Positive (gap d) → ⊥) → ((ts : Lexemes) → r ts ≡ Err (depth_fault d (suc (length ts)))) → ((ts : Lexemes) → q ts ≡ Err (depth_fault d (suc (length ts)))) → Opened d s n r q
    deep_one : Positive (gap d) → ((ts : Lexemes) → r ts ≡ Err (depth_fault d (suc (length ts)))) → Live s.whole s.large q → Opened d s n r q

  pub opened_step : {I K X Y : Type 0} {d : Depth} {s : Shape I K X Y} {n : ℕ} {t : Lexeme} {r : Reading X} {q : Reading Y} → Opened d s n r q → Opens d t → is_curly t ≡ false
      → Step gap asks s false n t r q
  opened_step (opened o l) p w = taken o w (λ a. l)
  opened_step {d = d} (deep_both nil h g) p w = both_deep d p nil h g
  opened_step {d = d} (deep_one z h l) p w = one_deep d p z h w (λ a. l)

  pub opened_into : {I K J H X Y Z W : Type 0} (d : Depth) (x : I → Lexemes → X) (y : K → Lexemes → Y) (keep : I → K) (u : Shape J H Z W) (n : ℕ) {r : Reading X} {q : Reading Y}
      (k : X → Result Z Fault) (l : Y → Result W Fault) → Opened d (shaped x y keep) n r q → ((i : I) → Online gap asks u false n (λ ts. k (x i ts)) (λ ts. l (y (keep i) ts)))
      → ((i : K) → Ready u.whole u.large (λ ts. l (y i ts))) → Opened d u n (λ ts. r ts >>= k) (λ ts. q ts >>= l)
  opened_into d x y keep u n {q = q} k l (opened o v) h e = opened (bind gap asks x y keep u false false k l (λ t e. e) (λ t a c i. e i) o h) (live_bind u.whole y u.large q l v e)
  opened_into d x y keep u n {r = r} {q = q} k l (deep_both nil a c) h e = deep_both nil (λ ts. lead_bind (r ts) k _ (a ts)) (λ ts. lead_bind (q ts) l _ (c ts))
  opened_into d x y keep u n {r = r} {q = q} k l (deep_one z a v) h e = deep_one z (λ ts. lead_bind (r ts) k _ (a ts)) (live_bind u.whole y u.large q l v e)

  -- the token in front is only looked at
  pub peek_online : {I K X Y V Z : Type 0} (s : Shape I K X Y) (b : Bool) (f : Lexemes → Option Z) (put : V → Lexemes → Z) (P : V → Lexeme → Type 0) → Fronts f put P
      → (other : Reading X) (other' : Reading Y) (found : Reading X) (found' : Reading Y) → ((n : ℕ) → Online gap asks s b n other other') → ((n : ℕ) → Online gap asks s b n found found') → (n : ℕ)
      → Online gap asks s b n (λ ts. with_some (f ts) (other ts) (λ z. found ts)) (λ ts. with_some (f ts) (other' ts) (λ z. found' ts))
  peek_online s b f put P fr other other' found found' o p zero = far
  peek_online s b f put P fr other other' found found' o p (suc n) =
      near (same_end gap asks (end_of gap asks (o (suc n))) (λ ts. with_some (f ts) (other ts) (λ z. found ts)) (λ ts. with_some (f ts) (other' ts) (λ z. found' ts))
      (rw fr.nothing refl) (rw fr.nothing refl)) (λ t. by_step t (fr.each t))
    where
      by_step : (t : Lexeme) → AtFront f put P t → Step gap asks s b n t (λ ts. with_some (f (t ∷ ts)) (other (t ∷ ts)) (λ z. found (t ∷ ts)))
          (λ ts. with_some (f (t ∷ ts)) (other' (t ∷ ts)) (λ z. found' (t ∷ ts)))
      by_step t (inl w) = same_step gap asks (step_of gap asks (p (suc n)) t) (λ ts. with_some (f (t ∷ ts)) (other (t ∷ ts)) (λ z. found (t ∷ ts)))
          (λ ts. with_some (f (t ∷ ts)) (other' (t ∷ ts)) (λ z. found' (t ∷ ts))) (λ ts. rw (w.2 ts) refl) (λ ts. rw (w.2 ts) refl)
      by_step t (inr w) = same_step gap asks (step_of gap asks (o (suc n)) t) (λ ts. with_some (f (t ∷ ts)) (other (t ∷ ts)) (λ z. found (t ∷ ts)))
          (λ ts. with_some (f (t ∷ ts)) (other' (t ∷ ts)) (λ z. found' (t ∷ ts))) (λ ts. rw (w ts) refl) (λ ts. rw (w ts) refl)

  -- with some tokens that complete them, where a token without a `{` is asked for
  pub record Mostly {I K X Y : Type 0} (s : Shape I K X Y) (r : Reading X) (q : Reading Y) : Type 0 where
    pub online : (n : ℕ) → Online gap asks s true n r q
    pub ready : (t : Lexeme) → asks t → is_curly t ≡ false → Ready s.whole s.large q

  pub mostly_bind : {I J H X Y Z W : Type 0} {x : I → Lexemes → X} {y : I → Lexemes → Y} {u : Shape J H Z W} {r : Reading X} {q : Reading Y} (k : X → Result Z Fault)
      (l : Y → Result W Fault) → Good (shape x y) false r q → ((i : I) → Mostly u (λ ts. k (x i ts)) (λ ts. l (y i ts))) → Mostly u (λ ts. r ts >>= k) (λ ts. q ts >>= l)
  mostly_bind {x = x} {y = y} {u = u} {r = r} {q = q} k l g h = record {
    online = λ n. bind gap asks x y (λ i. i) u false true k l (widen true) (λ t a e i. (h i).ready t a e) (g.online n) (λ i. (h i).online n);
    ready = λ t a e. ready_bind u.whole y u.large q l g.ready (λ i. (h i).ready t a e);
  }

  -- the same behind a token that was taken
  pub record Lately {I K X Y : Type 0} (s : Shape I K X Y) (r : Reading X) (q : Reading Y) : Type 0 where
    pub online : (n : ℕ) → Online gap asks s true n r q
    pub live : (t : Lexeme) → asks t → is_curly t ≡ false → Live s.whole s.large q

  pub lately_bind : {I J H X Y Z W : Type 0} {x : I → Lexemes → X} {y : I → Lexemes → Y} {u : Shape J H Z W} {r : Reading X} {q : Reading Y} (k : X → Result Z Fault)
      (l : Y → Result W Fault) → Fair (shape x y) false r q → ((i : I) → Mostly u (λ ts. k (x i ts)) (λ ts. l (y i ts))) → Lately u (λ ts. r ts >>= k) (λ ts. q ts >>= l)
  lately_bind {x = x} {y = y} {u = u} {r = r} {q = q} k l g h = record {
    online = λ n. bind gap asks x y (λ i. i) u false true k l (widen true) (λ t a e i. (h i).ready t a e) (g.online n) (λ i. (h i).online n);
    live = λ t a e. live_bind u.whole y u.large q l g.live (λ i. (h i).ready t a e);
  }

  -- a name, and then what need not begin plainly
  pub name_then : {J H Z W : Type 0} (u : Shape J H Z W) (k : Text × Lexemes → Result Z Fault) (l : Text × Lexemes → Result W Fault)
      → ((x : Text) → Lately u (λ ts. k (x, ts)) (λ ts. l (x, ts))) → Mostly u (λ ts. name_at ts >>= k) (λ ts. name_at ts >>= l)
  unfolding name_at
  name_then u k l h = record {
    online = by_count;
    ready = λ t a e.
        let d = (h []).live t a e in
        record { live = record { more = named 1 [] ∷ d.more; value = d.value; reads = λ rest f. d.reads rest f }; plain = λ rest f. plain_name 1 [] (d.more ++ rest) };
  }
    where
      by_step : (n : ℕ) (t : Lexeme) → Step gap asks u true n t (λ ts. name_at (t ∷ ts) >>= k) (λ ts. name_at (t ∷ ts) >>= l)
      by_step n (named line x) = taken ((h x).online n) tt (λ a. (h x).live (named line x) a refl)
      by_step n _ = refused (λ ts. refl) (λ ts. refl)

      by_count : (n : ℕ) → Online gap asks u true n (λ ts. name_at ts >>= k) (λ ts. name_at ts >>= l)
      by_count zero = far
      by_count (suc n) = near (waits refl refl) (by_step n)

  -- the same without a `{`
  pub name_then_good : {J H Z W : Type 0} (u : Shape J H Z W) (k : Text × Lexemes → Result Z Fault) (l : Text × Lexemes → Result W Fault)
      → ((x : Text) → Fair u false (λ ts. k (x, ts)) (λ ts. l (x, ts))) → Good u false (λ ts. name_at ts >>= k) (λ ts. name_at ts >>= l)
  unfolding name_at
  name_then_good u k l h = record {
    online = by_count;
    ready =
        let d = (h []).live in
        record { live = record { more = named 1 [] ∷ d.more; value = d.value; reads = λ rest f. d.reads rest f }; plain = λ rest f. plain_name 1 [] (d.more ++ rest) };
  }
    where
      by_step : (n : ℕ) (t : Lexeme) → Step gap asks u false n t (λ ts. name_at (t ∷ ts) >>= k) (λ ts. name_at (t ∷ ts) >>= l)
      by_step n (named line x) = go (h x) refl
      by_step n _ = refused (λ ts. refl) (λ ts. refl)

      by_count : (n : ℕ) → Online gap asks u false n (λ ts. name_at ts >>= k) (λ ts. name_at ts >>= l)
      by_count zero = far
      by_count (suc n) = near (waits refl refl) (by_step n)
