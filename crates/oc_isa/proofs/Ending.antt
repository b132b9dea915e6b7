-- The last part of a text.
use Rattle.std.proofs.Common.{ℕ, ◌≡◌, List, ◌++◌, ap, sym, ◌∙◌, append_assoc, subst, codes}
use Rattle.oc_io.specs.Faults.{TookPart}
use Rattle.oc_io.proofs.Going.{Going, Both}

-- a front part of the whole was put, and this is still to come
pub after_front : {S : Type 0} (took : S → List ℕ → S → Type 0) (a b : S) (front rest whole : List ℕ) → front ++ rest ≡ whole → took a front b → Going took a b rest whole
after_front took a b front rest whole e p = record { done = front; taken = p; joins = e }

-- what was still to come was put
pub ends_whole : {S : Type 0} (took : S → List ℕ → S → Type 0) (both : Both took) (a b c : S) (rest whole : List ℕ)
    → Going took a b rest whole → took b rest c → took a whole c
ends_whole took both a b c rest whole g p = subst (λ (s : List ℕ). took a s c) g.joins (both a b c g.done rest g.taken p)

-- a part of what was still to come was put
pub ends_part : {S : Type 0} (took : S → List ℕ → S → Type 0) (both : Both took) (a b c : S) (rest whole : List ℕ)
    → Going took a b rest whole → TookPart took b rest c → TookPart took a whole c
ends_part took both a b c rest whole g p = record {
  front = g.done ++ p.front;
  back = p.back;
  split = sym g.joins ∙ ap (λ (s : List ℕ). g.done ++ s) p.split ∙ sym (append_assoc g.done p.front p.back);
  taken = both a b c g.done p.front g.taken p.taken;
}

-- the first two fields of a line, and what follows
pub two_fields : (x y rest : List ℕ) → (x ++ (codes " " ++ y)) ++ rest ≡ x ++ (codes " " ++ (y ++ rest))
two_fields x y rest = append_assoc x (codes " " ++ y) rest

-- a part of a front part is a part of the whole
pub part_of_front : {S : Type 0} (took : S → List ℕ → S → Type 0) (a b : S) (front rest whole : List ℕ) → front ++ rest ≡ whole → TookPart took a front b → TookPart took a whole b
part_of_front took a b front rest whole e p = record {
  front = p.front;
  back = p.back ++ rest;
  split = sym e ∙ ap (λ (s : List ℕ). s ++ rest) p.split ∙ append_assoc p.front p.back rest;
  taken = p.taken;
}
