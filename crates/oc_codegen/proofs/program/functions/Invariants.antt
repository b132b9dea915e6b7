use Rattle.std.proofs.Common.{◌≡◌, ◌++◌, length, drop, map}
use Rattle.oc_tree.specs.Names.{names_view}
use Rattle.oc_tree.specs.Regions.{region_view}
use Rattle.oc_tree.specs.View.{function_view, program_view}
use Rattle.oc_code.specs.Scope.{nv_scope}
use Rattle.oc_code.specs.Code.{functions_code, image_functions}
use Rattle.oc_codegen.proofs.program.functions.Given as goal

-- What is written, with the code of the functions that are left, is the whole, and so are their entries.
abbrev pub invariant-loop-next : goal.invariant-loop-next
invariant-loop-next l = record {
  names : l.setting.names ≡ names_view l.program.names;
  callees : l.setting.functions ≡ map function_view l.program.functions.items;
  regions : l.setting.regions ≡ map region_view l.regions;
  scope : l.scope ≡ nv_scope 0 l.program.names.nvs.items l.program.nv.items;
  code : l.code ++ functions_code (program_view l.program) (map region_view l.regions) (length l.code) (map function_view (drop l.next-index l.next-items))
      ≡ functions_code (program_view l.program) (map region_view l.regions) 0 (map function_view l.program.functions.items);
  entries : l.functions.items ++ image_functions (program_view l.program) (map region_view l.regions) (length l.code) (map function_view (drop l.next-index l.next-items))
      ≡ image_functions (program_view l.program) (map region_view l.regions) 0 (map function_view l.program.functions.items);
}
