-- Values, places and stores.
use Rattle.std.specs.Prelude.{ℕ, ◌-◌, ℤ, pos, Bool, false, List, [], ◌∷◌, length, drop, Option, Some, None, unwrap_or, slice_index_or, slice_set, if◌then◌else◌, ◌==◌}
use Rattle.std.specs.Str.{bytes_eq}
pub use Rattle.oc_tree.specs.Levels.{at_level as at, set_level as put_at}
use Rattle.oc_tree.specs.Levels.{at_level, set_level}
use Rattle.oc_tree.specs.Names.{Text}
use Rattle.oc_tree.specs.declared.said.Said.{Said}
use Rattle.oc_tree.specs.Samples.{union}

-- a number, and the samples on which it depends
pub record Value : Type 0 where
  -- the number; a truth is 1 or 0
  pub num : ℤ
  -- the samples on which it depends, each once, rising
  pub samples : List ℕ

-- what a variable holds
pub record Held : Type 0 where
  -- the words of an array, or the one word of a scalar
  pub words : List ℤ
  -- the samples on which they depend, one set for all of them
  pub samples : List ℕ

-- where a variable is in a run
pub data Place : Type 0 where
  -- a variable that a function made, by how many were made before it and still live
  Local : ℕ → Place
  -- a nonvolatile variable, by its number
  Global : ℕ → Place
  -- the variable of a `for`, which has this number while its turn lasts
  Turn : ℤ → Place
  -- what a name stands for that isn't visible
  Nowhere : Place

-- something that a run says, and the samples on which it depends
pub record Event : Type 0 where
  -- what is said
  pub said : Said
  -- the samples on which it depends
  pub samples : List ℕ
  -- of a tag, the number of the execution of its consistent set's block; else 0
  pub instance : ℕ

-- the state of a run between two steps of a source
pub record Store : Type 0 where
  -- what the local variables hold, the newest first
  pub locals : List Held
  -- what the nonvolatile variables hold, in the order of their declarations
  pub nv : List Held
  -- the samples that inputs will give, the next one first
  pub left : List ℤ
  -- how many samples were taken
  pub taken : ℕ
  -- how many executions of regions are open
  pub depth : ℕ
  -- the blocks of which an execution began, the newest first
  pub blocks : List ℕ
  -- what was said so far, the newest first
  pub events : List Event

-- a visible variable
pub record Binding : Type 0 where
  -- its name
  pub name : Text
  -- where it is; of a reference, where the variable is that was passed
  pub place : Place
  -- whether it is a parameter that was passed by reference
  pub reference : Bool
  -- whether it is annotated `Fresh`
  pub fresh : Bool

-- a value that depends on no sample
abbrev pub plain : ℤ → Value
plain z = record { num = z; samples = [] }

-- a variable that holds just this value
abbrev pub holding : Value → Held
holding v = record { words = v.num ∷ []; samples = v.samples }

-- what is held where no variable is
abbrev pub nothing : Held
nothing = record { words = []; samples = [] }

-- the value of a scalar
abbrev pub value_in : Held → Value
value_in h = record { num = slice_index_or h.words 0 (pos 0); samples = h.samples }

-- what a scalar holds once this value was assigned to it
abbrev pub replaced : Held → Value → Held
replaced h v = record { words = slice_set h.words 0 v.num; samples = v.samples }

-- what an array holds once its element i was assigned: the set of samples only grows, by these
abbrev pub with_element : Held → ℕ → ℤ → List ℕ → Held
with_element h i z samples =
    record { words = slice_set h.words i z; samples = union h.samples samples }

-- what the variable at a place holds
abbrev pub held_at : Store → Place → Held
held_at σ (Local l) = unwrap_or (at_level σ.locals l) nothing
held_at σ (Global a) = slice_index_or σ.nv a nothing
held_at σ (Turn z) = holding (plain z)
held_at σ Nowhere = nothing

-- the variable at a place holds this from now on; the variable of a `for` isn't assigned
abbrev pub put : Store → Place → Held → Store
put σ (Local l) h = record σ { locals = set_level σ.locals l h }
put σ (Global a) h = record σ { nv = slice_set σ.nv a h }
put σ p h = σ

-- a new local variable, which holds this
abbrev pub made : Held → Store → Store
made h σ = record σ { locals = h ∷ σ.locals }

-- the local variables that were made since there were n of them are gone
abbrev pub left_at : ℕ → Store → Store
left_at n σ = record σ { locals = drop (length σ.locals - n) σ.locals }

-- one event more was said
abbrev pub happened : Event → Store → Store
happened e σ = record σ { events = e ∷ σ.events }

-- something was said that depends on these samples and is no tag
abbrev pub noted : Said → List ℕ → Store → Store
noted said samples σ = happened (record { said = said; samples = samples; instance = 0 }) σ

-- what stands for a name of which no variable is visible
abbrev pub unknown : Text → Binding
unknown x = record { name = x; place = Nowhere; reference = false; fresh = false }

-- the visible variable of a name
abbrev pub binding_of : List Binding → Text → Binding
binding_of [] x = unknown x
binding_of (b ∷ env) x = if bytes_eq x b.name then b else binding_of env x

-- where the variable of a name is
abbrev pub place_of : List Binding → Text → Place
place_of env x = (binding_of env x).place
