-- The slots and the bindings of the code, as the definition of the code sees them.
use Rattle.std.specs.Prelude.{List, [], ◌∷◌, Option, Some, None}
use Rattle.oc_tree.specs.Names.{Text}
use Rattle.oc_code.specs.Scope as scopes
use Rattle.oc_code.specs.Scope.{Named, unnamed}
use Rattle.oc_codegen.specs.declared.scope.Slot.{Slot}
use Rattle.oc_codegen.specs.declared.scope.Slot.TheVariants.{InFrame, ByAddress, InNv, Nowhere}
use Rattle.oc_codegen.specs.declared.scope.Variable.{Variable}
use Rattle.oc_codegen.specs.declared.scope.Binding.{Binding}

abbrev pub slot_view : Slot → scopes.Slot
slot_view (InFrame s) = scopes.InFrame s
slot_view (ByAddress s) = scopes.ByAddress s
slot_view (InNv a) = scopes.InNv a
slot_view Nowhere = scopes.NoSlot

-- a variable with its name
abbrev pub named_view : Text → Variable → Named
named_view x v =
    record {
      name = x;
      slot = slot_view v.slot;
      words = v.words;
      writable = v.writable;
      fresh = v.fresh;
    }

abbrev pub binding_view : Binding → Named
binding_view b = named_view b.name.now b.variable

-- what is known of a name that may be that of a variable
abbrev pub found_view : Text → Option Variable → Named
found_view x None = unnamed x
found_view x (Some v) = named_view x v

-- the bindings, newest first, behind some that are older than all of them
abbrev pub onto : List Binding → List Named → List Named
onto [] γ = γ
onto (b ∷ bs) γ = onto bs (binding_view b ∷ γ)

-- the visible variables, newest first, of bindings in the order in which they were made
abbrev pub visible : List Binding → List Named
visible bs = onto bs []
