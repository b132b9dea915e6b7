-- The table of groups.
use Rattle.std.proofs.Common.{◌≡◌, ◌<◌, ◌≤◌, ℕ, Bool, true, false, List, ◌∷◌, Option, Some, None, cond, refl, ap, sym, ◌∙◌}
use Rattle.std.specs.Prelude.{◌&&◌, nat_le}
use Rattle.std.proofs.Math.ListN.{get_or}
use Rattle.std.proofs.lemmas.Bool.{lt-leb}
use Rattle.oc_tree.specs.Tree.{TProgram}
use Rattle.oc_tree.specs.Places.{block_of}
use Rattle.oc_tree.specs.Checked.{Group, same_block, is_in_group, group_of}
use Rattle.oc_region.specs.Views.{or_group, group_with}

or_none : (o : Option Group) → or_group o None ≡ o
or_none None = refl
or_none (Some g) = refl

never : (b : Bool) → (b && false) ≡ false
never true = refl
never false = refl

no_block : (o : Option ℕ) → same_block o None ≡ false
no_block None = refl
no_block (Some b) = refl

-- the table before it is filled with a group, and after the statements below `i`
pub record Filled (p : TProgram) (group : Group) (old new : List (Option Group)) (i : ℕ) : Type 0 where
  pub below : (k : ℕ) → k < i → get_or new k None ≡ group_with p group k (get_or old k None)
  pub behind : (k : ℕ) → i ≤ k → get_or new k None ≡ get_or old k None

module _ (p : TProgram) (group : Group) where
  not_in : (k : ℕ) (o : Option Group) → is_in_group p k group ≡ false → group_with p group k o ≡ o
  not_in k o e = ap (λ b. or_group o (cond b (Some group) None)) e ∙ or_none o

  -- statements in front of a group, and behind it
  pub in_front : (k : ℕ) (o : Option Group) → k < group.0 → group_with p group k o ≡ o
  in_front k o l =
      let b : Bool = same_block (block_of p k) (block_of p group.0) in
      not_in k o (ap (λ t. b && (t && nat_le k group.1)) (lt-leb group.0 k l) ∙ never b)

  pub behind_group : (k : ℕ) (o : Option Group) → group.1 < k → group_with p group k o ≡ o
  behind_group k o l =
      let b : Bool = same_block (block_of p k) (block_of p group.0) in
      not_in k o (ap (λ t. b && (nat_le group.0 k && t)) (lt-leb k group.1 l) ∙ ap (λ t. b && t) (never (nat_le group.0 k)) ∙ never b)

  -- a group that stands in no block
  pub nowhere : (k : ℕ) (o : Option Group) → block_of p group.0 ≡ None → group_with p group k o ≡ o
  nowhere k o e =
      let t : Bool = nat_le group.0 k && nat_le k group.1 in
      not_in k o (ap (λ b. same_block (block_of p k) b && t) e ∙ ap (λ b. b && t) (no_block (block_of p k)))

  -- with one more group
  pub with_group : (groups rest : List Group) (k : ℕ) (o : Option Group) → rest ≡ group ∷ groups → or_group (group_with p group k o) (group_of p groups k) ≡ or_group o (group_of p rest k)
  with_group groups rest k o e = by_known o (is_in_group p k group) ∙ ap (λ l. or_group o (group_of p l k)) (sym e)
    where
      by_known : (o : Option Group) (b : Bool) → or_group (or_group o (cond b (Some group) None)) (group_of p groups k) ≡ or_group o (cond b (Some group) (group_of p groups k))
      by_known None true = refl
      by_known None false = refl
      by_known (Some g) b = refl
