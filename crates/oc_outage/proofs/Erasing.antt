-- Erasing, as a report grows.
use Rattle.std.proofs.Common.{◌≡◌, ℕ, List, [], ◌∷◌, ◌++◌, Option, refl, ap, ◌∙◌, true, false, eq-eqb, append-nil}
use Rattle.std.specs.Prelude.{if◌then◌else◌}
use Rattle.oc_tree.specs.Said.{Told}
use Rattle.oc_tree.specs.declared.said.Said.{Said}
use Rattle.oc_tree.specs.declared.said.Said.TheVariants.{Sensed, Showed, Entered, Committed, Aborted, Off, Dark, Ended}
use Rattle.oc_items.specs.Erase.{mark_or, next_mark, begins_stretch, goes_on, erase_from, erase}
use Rattle.oc_items.proofs.Joined.{erase-append}

abbrev pub item : ℕ → Said → Told
item t s = record { tick = t; said = s }

-- an input, or what an instruction shows
abbrev pub IsPlain : Said → Type 0
IsPlain (Sensed a b) = Unit {0}
IsPlain (Showed a) = Unit {0}
IsPlain s = ⊥

abbrev pub ArePlain : List Told → Type 0
ArePlain [] = Unit {0}
ArePlain (i ∷ is) = IsPlain i.said × ArePlain is

plain_mark : (s : Said) (m : Option Said) → IsPlain s → mark_or s m ≡ m
plain_mark (Sensed a b) m p = refl
plain_mark (Showed a) m p = refl
plain_mark said m p = absurd p

plain_goes_on : (s : Said) → IsPlain s → goes_on s ≡ true
plain_goes_on (Sensed a b) p = refl
plain_goes_on (Showed a) p = refl
plain_goes_on said p = absurd p

mark_after : (body ys : List Told) → ArePlain body → next_mark (body ++ ys) ≡ next_mark ys
mark_after [] ys p = refl
mark_after (i ∷ body) ys p = plain_mark i.said (next_mark (body ++ ys)) p.0 ∙ mark_after body ys p.1

module _ (t r : ℕ) where
  skips_all : (body : List Told) → ArePlain body → erase_from true (body ++ item t (Aborted r) ∷ []) ≡ []
  skips_all [] p = refl
  skips_all (i ∷ body) p = ap (λ b. erase_from b (body ++ item t (Aborted r) ∷ [])) (plain_goes_on i.said p.0) ∙ skips_all body p.1

  attempt_gone : (u : ℕ) (body : List Told) → ArePlain body → erase (item u (Entered r) ∷ (body ++ item t (Aborted r) ∷ [])) ≡ []
  attempt_gone u body p =
      let after = body ++ item t (Aborted r) ∷ [] in
      ap (λ m. if begins_stretch (Entered r) m then erase_from true after else item u (Entered r) ∷ erase_from false after) (mark_after body (item t (Aborted r) ∷ []) p)
      ∙ ap (λ b. if b then erase_from true after else item u (Entered r) ∷ erase_from false after) (eq-eqb r r refl)
      ∙ skips_all body p

  -- an attempt that was aborted leaves nothing
  pub erase-attempt : (u : ℕ) (xs body : List Told) → ArePlain body → erase (xs ++ item u (Entered r) ∷ (body ++ item t (Aborted r) ∷ [])) ≡ erase xs
  erase-attempt u xs body p =
      erase-append xs (item u (Entered r) ∷ (body ++ item t (Aborted r) ∷ [])) tt
      ∙ ap (λ l. erase xs ++ l) (attempt_gone u body p) ∙ append-nil (erase xs)
