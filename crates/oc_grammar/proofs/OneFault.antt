-- Tokens spell a program, or have one place where they stop, or one where they pass a depth.
use Rattle.std.proofs.Common.{◌≡◌, ℕ, [], ◌∷◌, ◌++◌, length, Result, Ok, Err, refl, sym, ap, subst, ◌∙◌, append_assoc, inl, inr, ◌⊎◌}
use Rattle.oc_tree.specs.Tree.{TProgram}
use Rattle.oc_grammar.specs.Limits.{the_depths}
use Rattle.oc_grammar.specs.Lexemes.{Lexeme, Lexemes}
use Rattle.oc_grammar.specs.Reading.{Fault, syntax_fault, depth_fault}
use Rattle.oc_grammar.specs.Programs.{SpellsProgram}
use Rattle.oc_grammar.specs.ReadingPrograms.{program_at}
use Rattle.oc_grammar.specs.Depths.{BeginsWithin, BeginsProgram, IsDepth, IsSyntax, wrong, ended}
use Rattle.oc_grammar.proofs.ProgramLaws.{program_sound}
use Rattle.oc_grammar.proofs.FaultLaws.{syntax_there, depth_there}

-- ---- two places in one list

-- the first place stands before the second
abbrev Earlier : Lexemes → Lexeme → Lexemes → Lexemes → Type 0
Earlier a t b c = (m : Lexemes) × (c ≡ a ++ t ∷ m)

abbrev Order : Lexemes → Lexeme → Lexemes → Lexemes → Lexeme → Lexemes → Type 0
Order a t b c u d = Earlier a t b c ⊎ (Earlier c u d a ⊎ ((a ≡ c) × (t ≡ u)))

first_is : (x y : Lexeme) (xs ys : Lexemes) → x ∷ xs ≡ y ∷ ys → x ≡ y
first_is x y xs ys e = cc

rest_is : (x y : Lexeme) (xs ys : Lexemes) → x ∷ xs ≡ y ∷ ys → xs ≡ ys
rest_is x y xs ys e = cc

order : (a : Lexemes) (t : Lexeme) (b c : Lexemes) (u : Lexeme) (d : Lexemes) → a ++ t ∷ b ≡ c ++ u ∷ d → Order a t b c u d
order [] t b [] u d e = inr (inr (refl, first_is t u b d e))
order [] t b (x ∷ c) u d e = inl (c, ap (λ (y : Lexeme). y ∷ c) (sym (first_is t x b (c ++ u ∷ d) e)))
order (x ∷ a) t b [] u d e = inr (inl (a, ap (λ (y : Lexeme). y ∷ a) (first_is x u (a ++ t ∷ b) d e)))
order (x ∷ a) t b (y ∷ c) u d e =
    let k = first_is x y (a ++ t ∷ b) (c ++ u ∷ d) e in
    longer x y a t b c u d k (order a t b c u d (rest_is x y (a ++ t ∷ b) (c ++ u ∷ d) e))
  where
    longer : (x y : Lexeme) (a : Lexemes) (t : Lexeme) (b c : Lexemes) (u : Lexeme) (d : Lexemes) → x ≡ y → Order a t b c u d → Order (x ∷ a) t b (y ∷ c) u d
    longer x y a t b c u d k (inl h) = inl (h.0, rw (k, h.1) refl)
    longer x y a t b c u d k (inr (inl h)) = inr (inl (h.0, rw (k, h.1) refl))
    longer x y a t b c u d k (inr (inr h)) = inr (inr (rw (k, h.0) refl, h.1))

-- ---- what begins a program

begins_less : (a b : Lexemes) → BeginsProgram (a ++ b) → BeginsProgram a
begins_less a b h =
    let w = h.within in
    record { limits = h.limits; within = record { more = b ++ w.more; program = w.program; spelled = subst (λ (l : Lexemes). SpellsProgram h.limits w.program l) (append_assoc a b w.more) w.spelled } }

begins_to : (a : Lexemes) (t : Lexeme) (m c : Lexemes) → c ≡ a ++ t ∷ m → BeginsProgram c → BeginsProgram (a ++ t ∷ [])
begins_to a t m c e h = begins_less (a ++ t ∷ []) m (subst BeginsProgram (e ∙ sym (append_assoc a (t ∷ []) m)) h)

spelled_begins : (p : TProgram) (tokens : Lexemes) (a : Lexemes) (t : Lexeme) (b : Lexemes) → tokens ≡ a ++ t ∷ b → SpellsProgram the_depths p tokens → BeginsWithin the_depths (a ++ t ∷ [])
spelled_begins p tokens a t b e h = record { more = b; program = p; spelled = subst (λ (l : Lexemes). SpellsProgram the_depths p l) (e ∙ sym (append_assoc a (t ∷ []) b)) h }

-- ---- one place

pub spelled_no_syntax : (tokens : Lexemes) (p : TProgram) (i : ℕ) → SpellsProgram the_depths p tokens → IsSyntax tokens i → ⊥
spelled_no_syntax tokens p i h (wrong a t b e k deep front bad) = bad (record { limits = the_depths; within = spelled_begins p tokens a t b e h })
spelled_no_syntax tokens p i h (ended k deep begins none) = none the_depths p h

pub spelled_no_depth : (tokens : Lexemes) (p : TProgram) (i : ℕ) → SpellsProgram the_depths p tokens → IsDepth tokens i → ⊥
spelled_no_depth tokens p i h d = d.passes.passed the_depths refl (spelled_begins p tokens d.front d.token d.behind d.split h)

pub one_syntax : (tokens : Lexemes) (i j : ℕ) → IsSyntax tokens i → IsSyntax tokens j → i ≡ j
one_syntax tokens i j (wrong a t b e k deep front bad) (wrong c u d e' k' deep' front' bad') = by_order (order a t b c u d (sym e ∙ e'))
  where
    by_order : Order a t b c u d → i ≡ j
    by_order (inl h) = absurd (bad (begins_to a t h.0 c h.1 front'))
    by_order (inr (inl h)) = absurd (bad' (begins_to c u h.0 a h.1 front))
    by_order (inr (inr h)) = k ∙ ap (λ (l : Lexemes). length l) h.0 ∙ sym k'
one_syntax tokens i j (wrong a t b e k deep front bad) (ended k' deep' begins none) = absurd (bad (begins_to a t b tokens e begins))
one_syntax tokens i j (ended k deep begins none) (wrong c u d e' k' deep' front' bad') = absurd (bad' (begins_to c u d tokens e' begins))
one_syntax tokens i j (ended k deep begins none) (ended k' deep' begins' none') = k ∙ sym k'

pub syntax_or_depth : (tokens : Lexemes) (i j : ℕ) → IsSyntax tokens i → IsDepth tokens j → ⊥
syntax_or_depth tokens i j (wrong a t b e k deep front bad) p = by_order (order a t b p.front p.token p.behind (sym e ∙ p.split))
  where
    by_order : Order a t b p.front p.token p.behind → ⊥
    by_order (inl h) = bad (begins_to a t h.0 p.front h.1 (begins_less p.front (p.token ∷ []) p.passes.begins))
    by_order (inr (inl h)) = deep p.depth p.front p.token h.0 h.1 p.passes
    by_order (inr (inr h)) = bad (rw (h.0, h.1) p.passes.begins)
syntax_or_depth tokens i j (ended k deep begins none) p = deep p.depth p.front p.token p.behind p.split p.passes

pub one_depth : (tokens : Lexemes) (i j : ℕ) → IsDepth tokens i → IsDepth tokens j → i ≡ j
one_depth tokens i j p q = by_order (order p.front p.token p.behind q.front q.token q.behind (sym p.split ∙ q.split))
  where
    by_order : Order p.front p.token p.behind q.front q.token q.behind → i ≡ j
    by_order (inl h) = absurd (q.first p.depth p.front p.token h.0 h.1 p.passes)
    by_order (inr (inl h)) = absurd (p.first q.depth q.front q.token h.0 h.1 q.passes)
    by_order (inr (inr h)) = p.place ∙ ap (λ (l : Lexemes). length l) h.0 ∙ sym q.place

pub some_outcome : (tokens : Lexemes) → ((p : TProgram) × SpellsProgram the_depths p tokens) ⊎ (((i : ℕ) × IsSyntax tokens i) ⊎ ((i : ℕ) × IsDepth tokens i))
some_outcome tokens = by_result (program_at the_depths tokens) refl
  where
    by_result : (r : Result TProgram Fault) → program_at the_depths tokens ≡ r → ((p : TProgram) × SpellsProgram the_depths p tokens) ⊎ (((i : ℕ) × IsSyntax tokens i) ⊎ ((i : ℕ) × IsDepth tokens i))
    by_result (Ok p) e = inl (p, program_sound the_depths tokens p e)
    by_result (Err (syntax_fault n)) e = inr (inl (_, syntax_there tokens n e))
    by_result (Err (depth_fault d n)) e = inr (inr (_, depth_there tokens d n e))
