-- The statements that `atomic` begins are statements of the expansion.
use Rattle.std.proofs.Common.{◌≡◌, ℕ, Bool, true, false, true≢false, ◌==◌, inl, inr, List, [], ◌∷◌, Some, refl, sym, ◌∙◌, cond}
use Rattle.std.specs.Prelude.{map, filter, flat_map, find, is_some}
use Rattle.std.specs.List.{zip}
use Rattle.std.proofs.lemmas.Bool.{eq-eqb}
use Rattle.oc_tree.specs.Tree.{TProgram}
use Rattle.oc_tree.specs.Expansion.{expansion}
use Rattle.oc_tree.specs.Members.{IsOf}
use Rattle.oc_tree.specs.Places.{Placed, program_placed, placed}
use Rattle.oc_grammar.specs.Lexemes.{Lexemes}
use Rattle.oc_parse.specs.Atomics.{is_if, ifs_of, begins_if, picked, atomics}

of_picked : (n : ℕ) (bs : List Bool) (ns : List ℕ) → IsOf n (picked bs ns) → IsOf n ns
of_picked n [] ns o = absurd o
of_picked n (b ∷ bs) [] o = absurd o
of_picked n (b ∷ bs) (m ∷ ms) o = by b o (of_picked n bs ms)
  where
    by : (b : Bool) → IsOf n (map (λ p. p.1) (cond b ((b, m) ∷ filter (λ p. p.0) (zip bs ms)) (filter (λ p. p.0) (zip bs ms)))) → (IsOf n (picked bs ms) → IsOf n ms) → IsOf n (m ∷ ms)
    by true (inl e) rest = inl e
    by true (inr i) rest = inr (rest i)
    by false i rest = inr (rest i)

found : (n : ℕ) (ps : List Placed) → IsOf n (ifs_of ps) → is_some (find (λ a. a.id == n) ps) ≡ true
found n [] o = absurd o
found n (p ∷ ps) o = by_number (p.id == n) refl (λ f. found n ps (by_kind (is_if p.kind) o f))
  where
    by_kind : (b : Bool) → IsOf n (map (λ a. a.id) (cond b (p ∷ filter (λ a. is_if a.kind) ps) (filter (λ a. is_if a.kind) ps))) → (p.id == n) ≡ false → IsOf n (ifs_of ps)
    by_kind true (inl e) f = absurd (true≢false (sym (eq-eqb p.id n (sym e)) ∙ f))
    by_kind true (inr i) f = i
    by_kind false i f = i

    by_number : (b : Bool) → (p.id == n) ≡ b → ((p.id == n) ≡ false → is_some (find (λ a. a.id == n) ps) ≡ true) → is_some (cond b (Some p) (find (λ a. a.id == n) ps)) ≡ true
    by_number true e rest = refl
    by_number false e rest = rest e

pub atomics_there : (p : TProgram) (tokens : Lexemes) (n : ℕ) → IsOf n (atomics p tokens) → is_some (placed (expansion p) n) ≡ true
atomics_there p tokens n o = found n (program_placed (expansion p)) (of_picked n (flat_map begins_if tokens) (ifs_of (program_placed (expansion p))) o)
