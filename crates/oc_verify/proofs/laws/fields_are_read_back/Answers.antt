use Rattle.oc_verify.proofs.ReadLaws.{number_back, list_back, regions_back}
use Rattle.oc_isa.specs.Bytes.{placed_bytes}
use Rattle.oc_verify.specs.Reading.{placed_at, IsInstr}
use Rattle.oc_verify.proofs.InstrLaws.{placed_back}
use Rattle.oc_verify.proofs.laws.fields_are_read_back.Goals as goal

pub returns-clause-numbers : goal.returns-clause-numbers
returns-clause-numbers c = λ low high n rest l h s. number_back low high n rest l h s

pub returns-clause-regions : goal.returns-clause-regions
returns-clause-regions c = λ rs rest few h. regions_back rs rest few h

pub returns-clause-code : goal.returns-clause-code
returns-clause-code c = λ ps rest few h. list_back placed_at placed_bytes IsInstr placed_back ps rest few h
