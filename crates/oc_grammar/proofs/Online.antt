-- Two readings that go from left to right together, where the second may allow more depth.
use Rattle.std.proofs.Common.{◌≡◌, ℕ, zero, suc, Bool, true, false, [], ◌∷◌, ◌++◌, length, None, Result, Ok, Err, refl, sym, ◌∙◌, append_assoc}
use Rattle.oc_lex.specs.declared.token.Word.TheVariants as words
use Rattle.oc_lex.specs.declared.token.Mark.TheVariants as marks
use Rattle.oc_grammar.specs.Limits.{Depth}
use Rattle.oc_grammar.specs.Lexemes.{Lexeme, Lexemes, sign}
use Rattle.oc_grammar.specs.Reading.{Fault, syntax_fault, depth_fault, ◌>>=◌, strip_mark, strip_word, operator_front}
use Rattle.oc_grammar.specs.Depths.{Opens}

abbrev pub Reading : Type 0 → Type 0
Reading X = Lexemes → Result X Fault

-- how the two readings answer, where the same was read and these tokens are left; the last reading
-- has all tokens
pub record Shape (I K X Y : Type 0) : Type 0 where
  pub small : I → Lexemes → X
  pub large : K → Lexemes → Y
  pub kept : I → K
  pub whole : Bool

abbrev pub shaped : {I K X Y : Type 0} → (I → Lexemes → X) → (K → Lexemes → Y) → (I → K) → Shape I K X Y
shaped x y o = record { small = x; large = y; kept = o; whole = false }

abbrev pub shape : {I X Y : Type 0} → (I → Lexemes → X) → (I → Lexemes → Y) → Shape I I X Y
shape x y = shaped x y (λ i. i)

abbrev pub Positive : ℕ → Type 0
Positive zero = ⊥
Positive (suc n) = Unit {0}

abbrev pub is_curly : Lexeme → Bool
is_curly (sign line marks.OpenCurly) = true
is_curly _ = false

-- whether a reading may take a `{`
abbrev pub Takes : Bool → Lexeme → Type 0
Takes true t = Unit {0}
Takes false t = is_curly t ≡ false

-- ---- what completes a reading

-- nothing that may go on is in front
pub record Plain (ts : Lexemes) : Type 0 where
  pub no_round : strip_mark marks.OpenRound ts ≡ None
  pub no_square : strip_mark marks.OpenSquare ts ≡ None
  pub no_colon : strip_mark marks.Colon ts ≡ None
  pub no_arrow : strip_mark marks.Arrow ts ≡ None
  pub no_ampersand : strip_mark marks.Ampersand ts ≡ None
  pub no_mutable : strip_word words.Mutable ts ≡ None
  pub no_else : strip_word words.Else ts ≡ None
  pub no_if : strip_word words.If ts ≡ None
  pub no_operator : (j : ℕ) → operator_front j ts ≡ None

-- what may follow
abbrev pub Follows : Bool → Lexemes → Type 0
Follows true ts = ts ≡ []
Follows false ts = Plain ts

-- some tokens are read whole, whatever may follow
pub record Live {I Y : Type 0} (whole : Bool) (give : I → Lexemes → Y) (read : Reading Y) : Type 0 where
  pub more : Lexemes
  pub value : I
  pub reads : (rest : Lexemes) → Follows whole rest → read (more ++ rest) ≡ Ok (give value rest)

-- these tokens begin plainly themselves
pub record Ready {I Y : Type 0} (whole : Bool) (give : I → Lexemes → Y) (read : Reading Y) : Type 0 where
  pub live : Live whole give read
  pub plain : (rest : Lexemes) → Follows whole rest → Plain (live.more ++ rest)

abbrev pub live_same : {I Y : Type 0} (w : Bool) (give : I → Lexemes → Y) (r q : Reading Y) → ((ts : Lexemes) → r ts ≡ q ts) → Live w give r → Live w give q
live_same w give r q e l = record { more = l.more; value = l.value; reads = λ rest h. sym (e (l.more ++ rest)) ∙ l.reads rest h }

pub ready_same : {I Y : Type 0} (w : Bool) (give : I → Lexemes → Y) (r q : Reading Y) → ((ts : Lexemes) → r ts ≡ q ts) → Ready w give r → Ready w give q
ready_same w give r q e d = record { live = live_same w give r q e d.live; plain = d.plain }

abbrev pub live_bind : {I J Y Z : Type 0} (w : Bool) (give : I → Lexemes → Y) (last : J → Lexemes → Z) (r : Reading Y) (k : Y → Result Z Fault) → Live false give r
    → ((i : I) → Ready w last (λ ts. k (give i ts))) → Live w last (λ ts. r ts >>= k)
live_bind w give last r k l d =
    let then = d l.value in
    let reads : (rest : Lexemes) → Follows w rest → (r ((l.more ++ then.live.more) ++ rest) >>= k) ≡ Ok (last then.live.value rest) =
    λ rest h. rw (append_assoc l.more then.live.more rest, l.reads (then.live.more ++ rest) (then.plain rest h)) (then.live.reads rest h) in
    record { more = l.more ++ then.live.more; value = then.live.value; reads = reads }

pub ready_bind : {I J Y Z : Type 0} (w : Bool) (give : I → Lexemes → Y) (last : J → Lexemes → Z) (r : Reading Y) (k : Y → Result Z Fault) → Ready false give r
    → ((i : I) → Ready w last (λ ts. k (give i ts))) → Ready w last (λ ts. r ts >>= k)
ready_bind w give last r k d e =
    let then = e d.live.value in
    record {
      live = live_bind w give last r k d.live e;
      plain = λ rest h. rw (append_assoc d.live.more then.live.more rest) (d.plain (then.live.more ++ rest) (then.plain rest h));
    }

pub ready_given : {K Y : Type 0} (give : K → Lexemes → Y) (i : K) → Ready false give (λ ts. Ok (give i ts))
ready_given give i = record { live = record { more = []; value = i; reads = λ rest h. refl }; plain = λ rest h. h }

pub lead_bind : {A B : Type 0} (r : Result A Fault) (k : A → Result B Fault) (f : Fault) → r ≡ Err f → (r >>= k) ≡ Err f
lead_bind r k f e = rw e refl

pub past_bind : {A B : Type 0} (r : Result A Fault) (k : A → Result B Fault) (x : A) → r ≡ Ok x → (r >>= k) ≡ k x
past_bind r k x e = rw e refl

-- where a `{` may be taken too
pub widen : (b : Bool) (t : Lexeme) → Takes false t → Takes b t
widen true t h = tt
widen false t h = h

-- ---- readings together

module _ (gap : Depth → ℕ) (asks : Lexeme → Type 0) where
  pub data End {I K X Y : Type 0} (s : Shape I K X Y) (r : Reading X) (q : Reading Y) : Type 0 where
    waits : r [] ≡ Err (syntax_fault 0) → q [] ≡ Err (syntax_fault 0) → End s r q
    ends : (i : I) → r [] ≡ Ok (s.small i []) → q [] ≡ Ok (s.large (s.kept i) []) → End s r q

  -- For so many tokens: where one goes on, the other does. At each token that is asked for, some more
  -- tokens make what the second has read whole. Step is at a token, on what is behind it.
  mutual
    pub data Online {I K X Y : Type 0} (s : Shape I K X Y) (b : Bool) : ℕ → Reading X → Reading Y → Type 0 where
      far : {r : Reading X} {q : Reading Y} → Online s b 0 r q
      near : {n : ℕ} {r : Reading X} {q : Reading Y} → End s r q → ((t : Lexeme) → Step s b n t (λ ts. r (t ∷ ts)) (λ ts. q (t ∷ ts))) → Online s b (suc n) r q

    pub data Step {I K X Y : Type 0} (s : Shape I K X Y) (b : Bool) : ℕ → Lexeme → Reading X → Reading Y → Type 0 where
      refused : {n : ℕ} {t : Lexeme} {r : Reading X} {q : Reading Y} → ((ts : Lexemes) → r ts ≡ Err (syntax_fault (suc (length ts))))
          → ((ts : Lexemes) → q ts ≡ Err (syntax_fault (suc (length ts)))) → Step s b n t r q
      gives : {n : ℕ} {t : Lexeme} {r : Reading X} {q : Reading Y} → (i : I) → ((ts : Lexemes) → r ts ≡ Ok (s.small i (t ∷ ts)))
          → ((ts : Lexemes) → q ts ≡ Ok (s.large (s.kept i) (t ∷ ts))) → Step s b n t r q
      both_deep : {n : ℕ} {t : Lexeme} {r : Reading X} {q : Reading Y} → (d : Depth) → Opens d t → (Positive (gap d) → ⊥)
          → ((ts : Lexemes) → r ts ≡ Err (depth_fault d (suc (length ts)))) → ((ts : Lexemes) → q ts ≡ Err (depth_fault d (suc (length ts)))) → Step s b n t r q
      one_deep : {n : ℕ} {t : Lexeme} {r : Reading X} {q : Reading Y} → (d : Depth) → Opens d t → Positive (gap d) → ((ts : Lexemes) → r ts ≡ Err (depth_fault d (suc (length ts))))
          → Takes b t → (asks t → Live s.whole s.large q) → Step s b n t r q
      taken : {n : ℕ} {t : Lexeme} {r : Reading X} {q : Reading Y} → Online s b n r q → Takes b t → (asks t → Live s.whole s.large q) → Step s b n t r q

  -- the same readings, written otherwise
  pub same_end : {I K X Y : Type 0} {s : Shape I K X Y} {r : Reading X} {q : Reading Y} → End s r q → (r' : Reading X) (q' : Reading Y) → r [] ≡ r' [] → q [] ≡ q' [] → End s r' q'
  same_end (waits h g) r' q' e f = waits (sym e ∙ h) (sym f ∙ g)
  same_end (ends i h g) r' q' e f = ends i (sym e ∙ h) (sym f ∙ g)

  mutual
    pub same : {I K X Y : Type 0} {s : Shape I K X Y} {b : Bool} {n : ℕ} {r : Reading X} {q : Reading Y} → Online s b n r q → (r' : Reading X) (q' : Reading Y)
        → ((ts : Lexemes) → r ts ≡ r' ts) → ((ts : Lexemes) → q ts ≡ q' ts) → Online s b n r' q'
    same far r' q' e f = far
    same (near h k) r' q' e f = near (same_end h r' q' (e []) (f [])) (λ t. same_step (k t) (λ ts. r' (t ∷ ts)) (λ ts. q' (t ∷ ts)) (λ ts. e (t ∷ ts)) (λ ts. f (t ∷ ts)))

    pub same_step : {I K X Y : Type 0} {s : Shape I K X Y} {b : Bool} {n : ℕ} {t : Lexeme} {r : Reading X} {q : Reading Y} → Step s b n t r q → (r' : Reading X) (q' : Reading Y)
        → ((ts : Lexemes) → r ts ≡ r' ts) → ((ts : Lexemes) → q ts ≡ q' ts) → Step s b n t r' q'
    same_step (refused h g) r' q' e f = refused (λ ts. sym (e ts) ∙ h ts) (λ ts. sym (f ts) ∙ g ts)
    same_step (gives i h g) r' q' e f = gives i (λ ts. sym (e ts) ∙ h ts) (λ ts. sym (f ts) ∙ g ts)
    same_step (both_deep d o nil h g) r' q' e f = both_deep d o nil (λ ts. sym (e ts) ∙ h ts) (λ ts. sym (f ts) ∙ g ts)
    same_step {s = s} {q = q} (one_deep d o p h w a) r' q' e f = one_deep d o p (λ ts. sym (e ts) ∙ h ts) w (λ k. live_same s.whole s.large q q' f (a k))
    same_step {s = s} {q = q} (taken o w a) r' q' e f = taken (same o r' q' e f) w (λ k. live_same s.whole s.large q q' f (a k))

  -- for fewer tokens
  mutual
    pub fewer : {I K X Y : Type 0} {s : Shape I K X Y} {b : Bool} {n : ℕ} {r : Reading X} {q : Reading Y} → Online s b (suc n) r q → Online s b n r q
    fewer {n = zero} o = far
    fewer {n = suc n} (near h k) = near h (λ t. fewer_step (k t))

    fewer_step : {I K X Y : Type 0} {s : Shape I K X Y} {b : Bool} {n : ℕ} {t : Lexeme} {r : Reading X} {q : Reading Y} → Step s b (suc n) t r q → Step s b n t r q
    fewer_step (refused h g) = refused h g
    fewer_step (gives i h g) = gives i h g
    fewer_step (both_deep d o nil h g) = both_deep d o nil h g
    fewer_step (one_deep d o p h w a) = one_deep d o p h w a
    fewer_step (taken o w a) = taken (fewer o) w a

  mutual
    pub wider : {I K X Y : Type 0} {s : Shape I K X Y} {n : ℕ} {r : Reading X} {q : Reading Y} → (b : Bool) → Online s false n r q → Online s b n r q
    wider b far = far
    wider b (near h k) = near h (λ t. wider_step b (k t))

    wider_step : {I K X Y : Type 0} {s : Shape I K X Y} {n : ℕ} {t : Lexeme} {r : Reading X} {q : Reading Y} → (b : Bool) → Step s false n t r q → Step s b n t r q
    wider_step b (refused h g) = refused h g
    wider_step b (gives i h g) = gives i h g
    wider_step b (both_deep d o nil h g) = both_deep d o nil h g
    wider_step {t = t} b (one_deep d o p h w a) = one_deep d o p h (widen b t w) a
    wider_step {t = t} b (taken o w a) = taken (wider b o) (widen b t w) a

  pub step_of : {I K X Y : Type 0} {s : Shape I K X Y} {b : Bool} {n : ℕ} {r : Reading X} {q : Reading Y} → Online s b (suc n) r q → (t : Lexeme) → Step s b n t (λ ts. r (t ∷ ts)) (λ ts. q (t ∷ ts))
  step_of (near h k) t = k t

  pub end_of : {I K X Y : Type 0} {s : Shape I K X Y} {b : Bool} {n : ℕ} {r : Reading X} {q : Reading Y} → Online s b (suc n) r q → End s r q
  end_of (near h k) = h

  -- ---- one reading behind another

  module _ {I K J H X Y Z W : Type 0} (x : I → Lexemes → X) (y : K → Lexemes → Y) (keep : I → K) (u : Shape J H Z W) (c b : Bool) (k : X → Result Z Fault) (l : Y → Result W Fault)
      (w : (t : Lexeme) → Takes c t → Takes b t) (d : (t : Lexeme) → asks t → Takes c t → (i : K) → Ready u.whole u.large (λ ts. l (y i ts))) where
    end_past : (r : Reading X) (q : Reading Y) (i : I) → r [] ≡ Ok (x i []) → q [] ≡ Ok (y (keep i) []) → End u (λ ts. k (x i ts)) (λ ts. l (y (keep i) ts))
        → End u (λ ts. r ts >>= k) (λ ts. q ts >>= l)
    end_past r q i h g (waits a e) = waits (past_bind (r []) k _ h ∙ a) (past_bind (q []) l _ g ∙ e)
    end_past r q i h g (ends j a e) = ends j (past_bind (r []) k _ h ∙ a) (past_bind (q []) l _ g ∙ e)

    end_bind : {n : ℕ} {r : Reading X} {q : Reading Y} → End (shaped x y keep) r q → ((i : I) → Online u b (suc n) (λ ts. k (x i ts)) (λ ts. l (y (keep i) ts)))
        → End u (λ ts. r ts >>= k) (λ ts. q ts >>= l)
    end_bind {r = r} {q = q} (waits h g) o = waits (lead_bind (r []) k _ h) (lead_bind (q []) l _ g)
    end_bind {r = r} {q = q} (ends i h g) o = end_past r q i h g (end_of (o i))

    cut_end : (r : Reading X) (q : Reading Y) → End (shaped x y keep) r q → ((ts : Lexemes) (z : X) → r ts ≡ Ok z → ⊥) → End u (λ ts. r ts >>= k) (λ ts. q ts >>= l)
    cut_end r q (waits h g) never = waits (lead_bind (r []) k _ h) (lead_bind (q []) l _ g)
    cut_end r q (ends i h g) never = absurd (never [] _ h)

    mutual
      pub bind : {n : ℕ} {r : Reading X} {q : Reading Y} → Online (shaped x y keep) c n r q → ((i : I) → Online u b n (λ ts. k (x i ts)) (λ ts. l (y (keep i) ts)))
          → Online u b n (λ ts. r ts >>= k) (λ ts. q ts >>= l)
      bind far o = far
      bind (near h f) o = near (end_bind h o) (λ t. bind_step (f t) o)

      pub bind_step : {n : ℕ} {t : Lexeme} {r : Reading X} {q : Reading Y} → Step (shaped x y keep) c n t r q
          → ((i : I) → Online u b (suc n) (λ ts. k (x i ts)) (λ ts. l (y (keep i) ts))) → Step u b n t (λ ts. r ts >>= k) (λ ts. q ts >>= l)
      bind_step {r = r} {q = q} (refused h g) o = refused (λ ts. lead_bind (r ts) k _ (h ts)) (λ ts. lead_bind (q ts) l _ (g ts))
      bind_step {t = t} {r = r} {q = q} (gives i h g) o =
          same_step (step_of (o i) t) (λ ts. r ts >>= k) (λ ts. q ts >>= l) (λ ts. sym (past_bind (r ts) k _ (h ts))) (λ ts. sym (past_bind (q ts) l _ (g ts)))
      bind_step {r = r} {q = q} (both_deep e a nil h g) o = both_deep e a nil (λ ts. lead_bind (r ts) k _ (h ts)) (λ ts. lead_bind (q ts) l _ (g ts))
      bind_step {t = t} {r = r} {q = q} (one_deep e a p h v m) o = one_deep e a p (λ ts. lead_bind (r ts) k _ (h ts)) (w t v) (λ z. live_bind u.whole y u.large q l (m z) (d t z v))
      bind_step {t = t} {r = r} {q = q} (taken a v m) o = taken (bind a (λ i. fewer (o i))) (w t v) (λ z. live_bind u.whole y u.large q l (m z) (d t z v))

    -- the first takes a token before it gives something
    pub later : {n : ℕ} {r : Reading X} {q : Reading Y} → Online (shaped x y keep) c (suc n) r q → ((i : I) (ts : Lexemes) → r ts ≡ Ok (x i ts) → ⊥)
        → ((i : I) → Online u b n (λ ts. k (x i ts)) (λ ts. l (y (keep i) ts))) → Online u b (suc n) (λ ts. r ts >>= k) (λ ts. q ts >>= l)
    later {n = n} {r = r} {q = q} (near h f) never o = near (by_end h) (λ t. by_step t (f t))
      where
        by_end : End (shaped x y keep) r q → End u (λ ts. r ts >>= k) (λ ts. q ts >>= l)
        by_end (waits a e) = waits (lead_bind (r []) k _ a) (lead_bind (q []) l _ e)
        by_end (ends i a e) = absurd (never i [] a)

        by_step : (t : Lexeme) → Step (shaped x y keep) c n t (λ ts. r (t ∷ ts)) (λ ts. q (t ∷ ts)) → Step u b n t (λ ts. r (t ∷ ts) >>= k) (λ ts. q (t ∷ ts) >>= l)
        by_step t (refused a e) = refused (λ ts. lead_bind (r (t ∷ ts)) k _ (a ts)) (λ ts. lead_bind (q (t ∷ ts)) l _ (e ts))
        by_step t (gives i a e) = absurd (never i (t ∷ []) (a []))
        by_step t (both_deep z p nil a e) = both_deep z p nil (λ ts. lead_bind (r (t ∷ ts)) k _ (a ts)) (λ ts. lead_bind (q (t ∷ ts)) l _ (e ts))
        by_step t (one_deep z p g a v m) = one_deep z p g (λ ts. lead_bind (r (t ∷ ts)) k _ (a ts)) (w t v) (λ asked. live_bind u.whole y u.large (λ ts. q (t ∷ ts)) l (m asked) (d t asked v))
        by_step t (taken a v m) = taken (bind a o) (w t v) (λ asked. live_bind u.whole y u.large (λ ts. q (t ∷ ts)) l (m asked) (d t asked v))

    -- the first never gives anything
    mutual
      pub cut : {n : ℕ} {r : Reading X} {q : Reading Y} → Online (shaped x y keep) c n r q → ((ts : Lexemes) (z : X) → r ts ≡ Ok z → ⊥) → Online u b n (λ ts. r ts >>= k) (λ ts. q ts >>= l)
      cut far never = far
      cut {r = r} {q = q} (near h f) never = near (cut_end r q h never) (λ t. cut_step (f t) (λ ts. never (t ∷ ts)))

      cut_step : {n : ℕ} {t : Lexeme} {r : Reading X} {q : Reading Y} → Step (shaped x y keep) c n t r q → ((ts : Lexemes) (z : X) → r ts ≡ Ok z → ⊥)
          → Step u b n t (λ ts. r ts >>= k) (λ ts. q ts >>= l)
      cut_step {r = r} {q = q} (refused h g) never = refused (λ ts. lead_bind (r ts) k _ (h ts)) (λ ts. lead_bind (q ts) l _ (g ts))
      cut_step (gives i h g) never = absurd (never [] _ (h []))
      cut_step {r = r} {q = q} (both_deep e a nil h g) never = both_deep e a nil (λ ts. lead_bind (r ts) k _ (h ts)) (λ ts. lead_bind (q ts) l _ (g ts))
      cut_step {t = t} {r = r} {q = q} (one_deep e a p h v m) never = one_deep e a p (λ ts. lead_bind (r ts) k _ (h ts)) (w t v) (λ z. live_bind u.whole y u.large q l (m z) (d t z v))
      cut_step {t = t} {r = r} {q = q} (taken a v m) never = taken (cut a never) (w t v) (λ z. live_bind u.whole y u.large q l (m z) (d t z v))
