use Rattle.std.proofs.Common.{rules, ◌≡◌, map, length, arith, Some, None}
use Rattle.std.proofs.lemmas.List.{length-map}
use Rattle.oc_tree.specs.View.{function_view}
use Rattle.oc_tree.specs.Calls.{place_from, function_names}
use Rattle.oc_code.specs.Code.{function_number}
use Rattle.oc_codegen.proofs.FunctionPlaces.{number_some, number_none}
use Rattle.oc_codegen.proofs.setting.Setting.function.Goals as goal

pub returns-in-Some : goal.returns-in-Some
returns-in-Some c =
    let fs = map function_view c.self.inside.program.now.functions.items in
    let x = c.args.name.now in
    let p : place_from 0 (function_names fs) x ≡ Some c.in-Some.place = search rules in
    let n : c.in-Some.place ≡ function_number fs x = omega (arith, number_some fs x 0 c.in-Some.place p) in
    let e : function_number c.args.self.now.functions x ≡ c.in-Some.place = search rules in
    search rules

pub returns-in-None : goal.returns-in-None
returns-in-None c =
    let fs = map function_view c.self.inside.program.now.functions.items in
    let x = c.args.name.now in
    let p : place_from 0 (function_names fs) x ≡ None = search rules in
    let n : function_number fs x ≡ length fs = number_none fs x 0 p in
    let m = length-map c.self.inside.program.now.functions.items function_view in
    let e : function_number c.args.self.now.functions x ≡ c.len.result = search rules in
    search rules
