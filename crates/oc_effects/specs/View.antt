-- The effect that each declared value stands for.
use Rattle.std.specs.Prelude.{List, map, Option, option_map}
use Rattle.std.proofs.Common.{Bor, Vec, Global}
use Rattle.oc_effects.specs.declared.effect.Passed.{Passed}
use Rattle.oc_effects.specs.declared.effect.Called.{Called}
use Rattle.oc_effects.specs.declared.effect.Effect.{Effect}
use Rattle.oc_effects.specs.Effects.{TPassed, TCalled, TEffect}

abbrev pub passed_view : Passed → TPassed
passed_view a = record { named = a.named.items; lent = a.lent }

abbrev pub called_view : Called → TCalled
called_view c = record { function = c.function; args = map passed_view c.args.items }

abbrev pub effect_view : Effect → TEffect
effect_view e = record {
  stmt = e.stmt;
  line = e.line;
  block = e.block;
  around = e.around.items;
  is_loop = e.is_loop;
  declares = e.declares;
  named = e.named.items;
  sources = e.sources.items;
  target = e.target;
  senses = e.senses;
  call = option_map called_view e.call;
  note = e.note;
}

-- those of functions, as code holds them
abbrev pub effects_view : List (Vec Effect Global) → List (List TEffect)
effects_view ess = map (λ es. map effect_view es.items) ess

abbrev pub effect_seen : Option (Bor Effect) → Option TEffect
effect_seen e = option_map (λ x. effect_view x.now) e
