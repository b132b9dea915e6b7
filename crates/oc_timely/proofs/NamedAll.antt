-- What `Flows` takes from a function's statements.
use Rattle.std.proofs.Common.{◌≡◌, ℕ, ◌<◌, List, Some, None}
use Rattle.std.specs.Prelude.{slice_get}
use Rattle.oc_tree.specs.Names.{Text}
use Rattle.oc_tree.specs.Tree.{TCall, TFunction, TProgram}
use Rattle.oc_tree.specs.Checked.{Group, IsChecked}
use Rattle.oc_tree.specs.Places.{Placed, find_variable, at_start, block_placed, placed}
use Rattle.oc_tree.specs.declared.tree.VarId.TheVariants as variables
use Rattle.oc_effects.specs.Effects.{call_of}
use Rattle.oc_tree.specs.Members.{IsOf}
use Rattle.oc_copies.specs.Stands.{IsRuledCall}
use Rattle.oc_timely.specs.Scopes.{scope_of}
use Rattle.oc_timely.proofs.SeesOn.{AreNamed, declared_name}
use Rattle.oc_timely.proofs.Named.{has_effect, has_declared}
use Rattle.oc_timely.proofs.Noted.{has_noted}
use Rattle.oc_timely.proofs.Stated.{found}
use Rattle.oc_timely.proofs.Ruling.{unused, ruled}
use Rattle.oc_timely.proofs.Before.{before}

are_named : (p : TProgram) (f : ℕ) (g : TFunction) → slice_get p.functions f ≡ Some g →
    ((b : Placed) (x : Text) → IsOf b (block_placed (at_start g) g.body) → declared_name b.kind ≡ Some x → find_variable b.at.variables x ≡ None) →
    ((b : Placed) (y : Text) (s : ℕ) → IsOf b (block_placed (at_start g) g.body) → find_variable b.at.variables y ≡ Some (variables.Declared s) → s < b.id) →
    ((b : Placed) → IsOf b (block_placed (at_start g) g.body) → placed p b.id ≡ Some b) →
    ((b : Placed) → IsOf b (block_placed (at_start g) g.body) → (c : TCall) → call_of b.kind ≡ Some c → IsRuledCall p (scope_of p f b.at.variables) c) →
    AreNamed p f (block_placed (at_start g) g.body)
are_named p f g at unused before its ruled = record {
  effect = λ b h. has_effect p f g at b h;
  declared = λ b h d. has_declared p f g at b h d;
  unused = unused;
  before = before;
  noted = λ b x v h k e. has_noted p f b x v (has_effect p f g at b h) k e;
  found = its;
  ruled = ruled;
}

pub checked_named : (p : TProgram) (groups : List Group) → IsChecked p groups → (f : ℕ) (g : TFunction) → slice_get p.functions f ≡ Some g → AreNamed p f (block_placed (at_start g) g.body)
checked_named p groups checked f g at =
    let numbered = checked.form.numbered.statements in
    let its = found p f g at numbered in
    are_named p f g at (unused p groups checked f g at its) (before p f g at numbered) its (ruled p groups checked f g at its)
