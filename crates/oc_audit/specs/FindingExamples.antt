-- What an audit finds, by an example.
use Rattle.std.proofs.lemmas.List.Elements.{All-nil}
use Rattle.std.specs.Prelude.{refl, FitsSigned, [], None}
use Rattle.std.specs.Int.{w32}
use Rattle.oc_tree.specs.Worked.{fresh_input}
use Rattle.oc_items.specs.OneText.{IsItem}
use Rattle.oc_honest.specs.HonestExamples.{IsHonest_example_empty}
use Rattle.oc_audit.specs.Findings.{IsFinding}
use Rattle.oc_audit.specs.declared.audit.Finding.TheVariants as finding

-- an empty file is the report of a run that has said nothing yet
pub IsFinding_example : IsFinding fresh_input [] [] finding.Honest
IsFinding_example = (
  record { items = []; nv = None },
  record {
    items = [];
    nv = None;
    file = record {
      words = [];
      file = record {
        text = refl;
        each = All-nil (IsItem fresh_input.names);
        count = refl;
        fit = All-nil (FitsSigned w32);
      };
      nv_is = refl;
    };
    is = refl;
  },
  IsHonest_example_empty,
)
