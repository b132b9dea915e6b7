-- What readings that go together say of each other.
use Rattle.std.proofs.Common.{◌≡◌, ℕ, suc, ◌<◌, ◌≤◌, Bool, true, false, [], ◌∷◌, ◌++◌, length, Result, Ok, Err, refl, sym, ap, ◌∙◌, arith, inl, inr, ◌⊎◌}
use Rattle.std.proofs.lemmas.List.{length-append}
use Rattle.oc_grammar.specs.Limits.{Depth}
use Rattle.oc_grammar.specs.Lexemes.{Lexeme, Lexemes}
use Rattle.oc_grammar.specs.Depths.{Opens}
use Rattle.oc_grammar.specs.Reading.{Fault, syntax_fault, depth_fault}
use Rattle.oc_grammar.proofs.Online.{Reading, Shape, Positive, Follows, Live, End, waits, ends, Online, far, near, Step, refused, gives, both_deep, one_deep, taken}
use Rattle.oc_grammar.proofs.Together.{plain_end}

-- the tokens that were left at a fault
abbrev pub left_of : Fault → ℕ
left_of (syntax_fault n) = n
left_of (depth_fault d n) = n

abbrev failed : {X : Type 0} → Fault → Result X Fault
failed f = Err f

fault_is : {X : Type 0} (f g : Fault) → failed {X = X} f ≡ failed g → f ≡ g
fault_is f g e = cc

no_fault : {X : Type 0} (x : X) (f : Fault) → ◌≡◌ {A = Result X Fault} (Ok x) (Err f) → ⊥
no_fault x f e = cc

left_is : (f g : Fault) → f ≡ g → left_of f ≡ left_of g
left_is f g e = ap left_of e

follows_end : (w : Bool) → Follows w []
follows_end true = refl
follows_end false = plain_end

-- some more tokens are read whole
abbrev pub Completes : {Y : Type 0} → (Lexemes → Result Y Fault) → Type 0
Completes q = (more : Lexemes) × (y : _) × (q more ≡ Ok y)

completes : {I Y : Type 0} (w : Bool) (give : I → Lexemes → Y) (q : Reading Y) → Live w give q → Completes q
completes w give q l = (l.more ++ [], give l.value [], l.reads [] (follows_end w))

module _ (gap : Depth → ℕ) (asks : Lexeme → Type 0) {I K X Y : Type 0} (s : Shape I K X Y) (b : Bool) where
  end_within : {r : Reading X} {q : Reading Y} → End gap asks s r q → (f : Fault) → r [] ≡ Err f → left_of f ≤ 0
  end_within (waits a c) f e = let k = left_is (syntax_fault 0) f (fault_is (syntax_fault 0) f (sym a ∙ e)) in omega arith
  end_within (ends i a c) f e = absurd (no_fault (s.small i []) f (sym a ∙ e))

  -- a fault stands at one of the tokens
  mutual
    pub within : {n : ℕ} {r : Reading X} {q : Reading Y} → Online gap asks s b n r q → (ts : Lexemes) → length ts < n → (f : Fault) → r ts ≡ Err f → left_of f ≤ length ts
    within far ts h f e = absurd (omega arith)
    within (near g k) [] h f e = end_within g f e
    within (near g k) (t ∷ ts) h f e = step_within (k t) ts (omega arith) f e

    step_within : {n : ℕ} {t : Lexeme} {r : Reading X} {q : Reading Y} → Step gap asks s b n t r q → (ts : Lexemes) → length ts < n → (f : Fault) → r ts ≡ Err f → left_of f ≤ suc (length ts)
    step_within (refused a c) ts h f e = let k = left_is (syntax_fault (suc (length ts))) f (fault_is _ f (sym (a ts) ∙ e)) in omega arith
    step_within {t = t} (gives i a c) ts h f e = absurd (no_fault (s.small i (t ∷ ts)) f (sym (a ts) ∙ e))
    step_within (both_deep d o nil a c) ts h f e = let k = left_is (depth_fault d (suc (length ts))) f (fault_is _ f (sym (a ts) ∙ e)) in omega arith
    step_within (one_deep d o p a w l) ts h f e = let k = left_is (depth_fault d (suc (length ts))) f (fault_is _ f (sym (a ts) ∙ e)) in omega arith
    step_within (taken o w l) ts h f e = let k = within o ts h f e in omega arith

  end_never : {r : Reading X} {q : Reading Y} → End gap asks s r q → (d : Depth) → r [] ≡ Err (depth_fault d 0) → ⊥
  end_never (waits a c) d e = let k = fault_is (syntax_fault 0) (depth_fault d 0) (sym a ∙ e) in cc
  end_never (ends i a c) d e = no_fault (s.small i []) (depth_fault d 0) (sym a ∙ e)

  -- no depth is passed at the end
  mutual
    pub never_at_end : {n : ℕ} {r : Reading X} {q : Reading Y} → Online gap asks s b n r q → (ts : Lexemes) → length ts < n → (d : Depth) → r ts ≡ Err (depth_fault d 0) → ⊥
    never_at_end far ts h d e = absurd (omega arith)
    never_at_end (near g k) [] h d e = end_never g d e
    never_at_end (near g k) (t ∷ ts) h d e = step_never (k t) ts (omega arith) d e

    step_never : {n : ℕ} {t : Lexeme} {r : Reading X} {q : Reading Y} → Step gap asks s b n t r q → (ts : Lexemes) → length ts < n → (d : Depth) → r ts ≡ Err (depth_fault d 0) → ⊥
    step_never (refused a c) ts h d e = let k = left_is (syntax_fault (suc (length ts))) (depth_fault d 0) (fault_is _ _ (sym (a ts) ∙ e)) in absurd (omega arith)
    step_never {t = t} (gives i a c) ts h d e = no_fault (s.small i (t ∷ ts)) (depth_fault d 0) (sym (a ts) ∙ e)
    step_never (both_deep g o nil a c) ts h d e = let k = left_is (depth_fault g (suc (length ts))) (depth_fault d 0) (fault_is _ _ (sym (a ts) ∙ e)) in absurd (omega arith)
    step_never (one_deep g o p a w l) ts h d e = let k = left_is (depth_fault g (suc (length ts))) (depth_fault d 0) (fault_is _ _ (sym (a ts) ∙ e)) in absurd (omega arith)
    step_never (taken o w l) ts h d e = never_at_end o ts h d e

  end_reads : {r : Reading X} {q : Reading Y} → End gap asks s r q → (x : X) → r [] ≡ Ok x → (y : Y) × (q [] ≡ Ok y)
  end_reads (waits a c) x e = absurd (no_fault x (syntax_fault 0) (sym e ∙ a))
  end_reads (ends i a c) x e = (s.large (s.kept i) [], c)

  -- what the first reads the second reads
  mutual
    pub reads_too : {n : ℕ} {r : Reading X} {q : Reading Y} → Online gap asks s b n r q → (ts : Lexemes) → length ts < n → (x : X) → r ts ≡ Ok x → (y : Y) × (q ts ≡ Ok y)
    reads_too far ts h x e = absurd (omega arith)
    reads_too (near g k) [] h x e = end_reads g x e
    reads_too (near g k) (t ∷ ts) h x e = step_reads (k t) ts (omega arith) x e

    step_reads : {n : ℕ} {t : Lexeme} {r : Reading X} {q : Reading Y} → Step gap asks s b n t r q → (ts : Lexemes) → length ts < n → (x : X) → r ts ≡ Ok x → (y : Y) × (q ts ≡ Ok y)
    step_reads (refused a c) ts h x e = absurd (no_fault x (syntax_fault (suc (length ts))) (sym e ∙ a ts))
    step_reads {t = t} (gives i a c) ts h x e = (s.large (s.kept i) (t ∷ ts), c ts)
    step_reads (both_deep g o nil a c) ts h x e = absurd (no_fault x (depth_fault g (suc (length ts))) (sym e ∙ a ts))
    step_reads (one_deep g o p a w l) ts h x e = absurd (no_fault x (depth_fault g (suc (length ts))) (sym e ∙ a ts))
    step_reads (taken o w l) ts h x e = reads_too o ts h x e

  step_refuses_here : {n : ℕ} {t : Lexeme} {r : Reading X} {q : Reading Y} → Step gap asks s b n t r q → (behind more : Lexemes) → length behind < n
      → r behind ≡ Err (syntax_fault (suc (length behind))) → q more ≡ Err (syntax_fault (suc (length more)))
  step_refuses_here (refused a c) behind more h e = c more
  step_refuses_here {t = t} (gives i a c) behind more h e = absurd (no_fault (s.small i (t ∷ behind)) _ (sym (a behind) ∙ e))
  step_refuses_here (both_deep d o nil a c) behind more h e = let k = fault_is (depth_fault d (suc (length behind))) (syntax_fault (suc (length behind))) (sym (a behind) ∙ e) in absurd cc
  step_refuses_here (one_deep d o p a w l) behind more h e = let k = fault_is (depth_fault d (suc (length behind))) (syntax_fault (suc (length behind))) (sym (a behind) ∙ e) in absurd cc
  step_refuses_here (taken o w l) behind more h e = let k = within o behind h (syntax_fault (suc (length behind))) e in absurd (omega arith)

  -- what the first refuses the second refuses, whatever follows
  mutual
    pub refuses_too : {n : ℕ} {r : Reading X} {q : Reading Y} → Online gap asks s b n r q → (front : Lexemes) (t : Lexeme) (behind more : Lexemes)
        → length (front ++ t ∷ behind) < n → r (front ++ t ∷ behind) ≡ Err (syntax_fault (suc (length behind))) → q (front ++ t ∷ more) ≡ Err (syntax_fault (suc (length more)))
    refuses_too far front t behind more h e = absurd (omega arith)
    refuses_too (near g k) [] t behind more h e = step_refuses_here (k t) behind more (omega arith) e
    refuses_too (near g k) (u ∷ front) t behind more h e = step_refuses (k u) front t behind more (omega arith) e

    step_refuses : {n : ℕ} {u : Lexeme} {r : Reading X} {q : Reading Y} → Step gap asks s b n u r q → (front : Lexemes) (t : Lexeme) (behind more : Lexemes)
        → length (front ++ t ∷ behind) < n → r (front ++ t ∷ behind) ≡ Err (syntax_fault (suc (length behind))) → q (front ++ t ∷ more) ≡ Err (syntax_fault (suc (length more)))
    step_refuses (refused a c) front t behind more h e = let k =
        left_is (syntax_fault (suc (length (front ++ t ∷ behind)))) (syntax_fault (suc (length behind))) (fault_is _ _ (sym (a (front ++ t ∷ behind)) ∙ e)) in let l =
        length-append front (t ∷ behind) in absurd (omega arith)
    step_refuses {u = u} (gives i a c) front t behind more h e = absurd (no_fault (s.small i (u ∷ front ++ t ∷ behind)) _ (sym (a (front ++ t ∷ behind)) ∙ e))
    step_refuses (both_deep d o nil a c) front t behind more h e = let k =
        fault_is (depth_fault d (suc (length (front ++ t ∷ behind)))) (syntax_fault (suc (length behind))) (sym (a (front ++ t ∷ behind)) ∙ e) in absurd cc
    step_refuses (one_deep d o p a w l) front t behind more h e = let k =
        fault_is (depth_fault d (suc (length (front ++ t ∷ behind)))) (syntax_fault (suc (length behind))) (sym (a (front ++ t ∷ behind)) ∙ e) in absurd cc
    step_refuses (taken o w l) front t behind more h e = refuses_too o front t behind more h e

  end_waits : {r : Reading X} {q : Reading Y} → End gap asks s r q → r [] ≡ Err (syntax_fault 0) → q [] ≡ Err (syntax_fault 0)
  end_waits (waits a c) e = c
  end_waits (ends i a c) e = absurd (no_fault (s.small i []) _ (sym a ∙ e))

  -- where the first has too few tokens, the second has
  mutual
    pub waits_too : {n : ℕ} {r : Reading X} {q : Reading Y} → Online gap asks s b n r q → (ts : Lexemes) → length ts < n → r ts ≡ Err (syntax_fault 0) → q ts ≡ Err (syntax_fault 0)
    waits_too far ts h e = absurd (omega arith)
    waits_too (near g k) [] h e = end_waits g e
    waits_too (near g k) (t ∷ ts) h e = step_waits (k t) ts (omega arith) e

    step_waits : {n : ℕ} {t : Lexeme} {r : Reading X} {q : Reading Y} → Step gap asks s b n t r q → (ts : Lexemes) → length ts < n → r ts ≡ Err (syntax_fault 0) → q ts ≡ Err (syntax_fault 0)
    step_waits (refused a c) ts h e = let k = left_is (syntax_fault (suc (length ts))) (syntax_fault 0) (fault_is _ _ (sym (a ts) ∙ e)) in absurd (omega arith)
    step_waits {t = t} (gives i a c) ts h e = absurd (no_fault (s.small i (t ∷ ts)) _ (sym (a ts) ∙ e))
    step_waits (both_deep d o nil a c) ts h e = let k = left_is (depth_fault d (suc (length ts))) (syntax_fault 0) (fault_is _ _ (sym (a ts) ∙ e)) in absurd (omega arith)
    step_waits (one_deep d o p a w l) ts h e = let k = left_is (depth_fault d (suc (length ts))) (syntax_fault 0) (fault_is _ _ (sym (a ts) ∙ e)) in absurd (omega arith)
    step_waits (taken o w l) ts h e = waits_too o ts h e

  -- where the first passes a depth, the second passes it too, whatever follows, or may be deeper there
  abbrev pub Deeper : Depth → Lexeme → Reading Y → Type 0
  Deeper d t q = Opens d t × (((Positive (gap d) → ⊥) × ((more : Lexemes) → q more ≡ Err (depth_fault d (suc (length more))))) ⊎ (Positive (gap d) × (asks t → Completes q)))

  depth_is : (g d : Depth) (m : ℕ) (q : Reading Y) (t : Lexeme) → g ≡ d → Deeper g t q → Deeper d t q
  depth_is g d m q t e h = rw (sym e) h

  same_depth : (g d : Depth) (m n : ℕ) → depth_fault g m ≡ depth_fault d n → g ≡ d
  same_depth g d m n e = cc

  step_deep_here : {n : ℕ} {t : Lexeme} {r : Reading X} {q : Reading Y} → Step gap asks s b n t r q → (behind : Lexemes) (d : Depth) → length behind < n
      → r behind ≡ Err (depth_fault d (suc (length behind))) → Deeper d t q
  step_deep_here (refused a c) behind d h e = let k = fault_is (syntax_fault (suc (length behind))) (depth_fault d (suc (length behind))) (sym (a behind) ∙ e) in absurd cc
  step_deep_here {t = t} (gives i a c) behind d h e = absurd (no_fault (s.small i (t ∷ behind)) _ (sym (a behind) ∙ e))
  step_deep_here {t = t} {q = q} (both_deep g o nil a c) behind d h e =
      depth_is g d 0 q t (same_depth g d _ _ (fault_is (depth_fault g (suc (length behind))) (depth_fault d (suc (length behind))) (sym (a behind) ∙ e))) (o, inl (nil, c))
  step_deep_here {t = t} {q = q} (one_deep g o p a w l) behind d h e =
      depth_is g d 0 q t (same_depth g d _ _ (fault_is (depth_fault g (suc (length behind))) (depth_fault d (suc (length behind))) (sym (a behind) ∙ e)))
      (o, inr (p, λ z. completes s.whole s.large q (l z)))
  step_deep_here (taken o w l) behind d h e = let k = within o behind h (depth_fault d (suc (length behind))) e in absurd (omega arith)

  mutual
    pub deep_too : {n : ℕ} {r : Reading X} {q : Reading Y} → Online gap asks s b n r q → (front : Lexemes) (t : Lexeme) (behind : Lexemes) (d : Depth)
        → length (front ++ t ∷ behind) < n → r (front ++ t ∷ behind) ≡ Err (depth_fault d (suc (length behind))) → Deeper d t (λ more. q (front ++ t ∷ more))
    deep_too far front t behind d h e = absurd (omega arith)
    deep_too (near g k) [] t behind d h e = step_deep_here (k t) behind d (omega arith) e
    deep_too (near g k) (u ∷ front) t behind d h e = step_deep (k u) front t behind d (omega arith) e

    step_deep : {n : ℕ} {u : Lexeme} {r : Reading X} {q : Reading Y} → Step gap asks s b n u r q → (front : Lexemes) (t : Lexeme) (behind : Lexemes) (d : Depth)
        → length (front ++ t ∷ behind) < n → r (front ++ t ∷ behind) ≡ Err (depth_fault d (suc (length behind))) → Deeper d t (λ more. q (front ++ t ∷ more))
    step_deep (refused a c) front t behind d h e = let k =
        fault_is (syntax_fault (suc (length (front ++ t ∷ behind)))) (depth_fault d (suc (length behind))) (sym (a (front ++ t ∷ behind)) ∙ e) in absurd cc
    step_deep {u = u} (gives i a c) front t behind d h e = absurd (no_fault (s.small i (u ∷ front ++ t ∷ behind)) _ (sym (a (front ++ t ∷ behind)) ∙ e))
    step_deep (both_deep g o nil a c) front t behind d h e = let k =
        left_is (depth_fault g (suc (length (front ++ t ∷ behind)))) (depth_fault d (suc (length behind))) (fault_is _ _ (sym (a (front ++ t ∷ behind)) ∙ e)) in let l =
        length-append front (t ∷ behind) in absurd (omega arith)
    step_deep (one_deep g o p a w l) front t behind d h e = let k =
        left_is (depth_fault g (suc (length (front ++ t ∷ behind)))) (depth_fault d (suc (length behind))) (fault_is _ _ (sym (a (front ++ t ∷ behind)) ∙ e)) in let l =
        length-append front (t ∷ behind) in absurd (omega arith)
    step_deep (taken o w l) front t behind d h e = deep_too o front t behind d h e

  step_goes_here : {n : ℕ} {t : Lexeme} {r : Reading X} {q : Reading Y} → Step gap asks s b n t r q → (behind : Lexemes) (f : Fault) → r behind ≡ Err f → left_of f ≤ length behind
      → asks t → Completes q
  step_goes_here (refused a c) behind f e g z = let k = left_is (syntax_fault (suc (length behind))) f (fault_is _ f (sym (a behind) ∙ e)) in absurd (omega arith)
  step_goes_here {t = t} (gives i a c) behind f e g z = absurd (no_fault (s.small i (t ∷ behind)) f (sym (a behind) ∙ e))
  step_goes_here (both_deep d o nil a c) behind f e g z = let k = left_is (depth_fault d (suc (length behind))) f (fault_is _ f (sym (a behind) ∙ e)) in absurd (omega arith)
  step_goes_here (one_deep d o p a w l) behind f e g z = let k = left_is (depth_fault d (suc (length behind))) f (fault_is _ f (sym (a behind) ∙ e)) in absurd (omega arith)
  step_goes_here {q = q} (taken o w l) behind f e g z = completes s.whole s.large q (l z)

  -- where the first stops behind a token that is asked for, some more tokens make the second whole
  mutual
    pub goes_on : {n : ℕ} {r : Reading X} {q : Reading Y} → Online gap asks s b n r q → (front : Lexemes) (t : Lexeme) (behind : Lexemes) (f : Fault)
        → length (front ++ t ∷ behind) < n → r (front ++ t ∷ behind) ≡ Err f → left_of f ≤ length behind → asks t → Completes (λ more. q (front ++ t ∷ more))
    goes_on far front t behind f h e g z = absurd (omega arith)
    goes_on (near i k) [] t behind f h e g z = step_goes_here (k t) behind f e g z
    goes_on (near i k) (u ∷ front) t behind f h e g z = step_goes (k u) front t behind f (omega arith) e g z

    step_goes : {n : ℕ} {u : Lexeme} {r : Reading X} {q : Reading Y} → Step gap asks s b n u r q → (front : Lexemes) (t : Lexeme) (behind : Lexemes) (f : Fault)
        → length (front ++ t ∷ behind) < n → r (front ++ t ∷ behind) ≡ Err f → left_of f ≤ length behind → asks t → Completes (λ more. q (front ++ t ∷ more))
    step_goes (refused a c) front t behind f h e g z = let k = left_is (syntax_fault (suc (length (front ++ t ∷ behind)))) f (fault_is _ f (sym (a (front ++ t ∷ behind)) ∙ e)) in
        let l = length-append front (t ∷ behind) in absurd (omega arith)
    step_goes {u = u} (gives i a c) front t behind f h e g z = absurd (no_fault (s.small i (u ∷ front ++ t ∷ behind)) f (sym (a (front ++ t ∷ behind)) ∙ e))
    step_goes (both_deep d o nil a c) front t behind f h e g z = let k =
        left_is (depth_fault d (suc (length (front ++ t ∷ behind)))) f (fault_is _ f (sym (a (front ++ t ∷ behind)) ∙ e)) in let l = length-append front (t ∷ behind) in absurd (omega arith)
    step_goes (one_deep d o p a w l) front t behind f h e g z = let k =
        left_is (depth_fault d (suc (length (front ++ t ∷ behind)))) f (fault_is _ f (sym (a (front ++ t ∷ behind)) ∙ e)) in let l = length-append front (t ∷ behind) in absurd (omega arith)
    step_goes (taken o w l) front t behind f h e g z = goes_on o front t behind f h e g z
