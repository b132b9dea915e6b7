use Rattle.std.proofs.Common.{refl, sym, ◌∙◌, inl, inr}
use Rattle.oc_lex.specs.declared.bytes.Class.TheVariants as class
use Rattle.oc_lex.proofs.PieceLaws.{blank_longest, name_longest, number_longest}
use Rattle.oc_lex.proofs.piece.front.Goals as goal

pub returns-in-Blank : goal.returns-in-Blank
returns-in-Blank c = blank_longest c.args.bytes.now c.in-len1-up.len_at_least (sym c.in-Blank.ensures)

pub returns-in-Letter : goal.returns-in-Letter
returns-in-Letter c =
    elim c.in-Letter.is [
      | inl e ↦ name_longest c.args.bytes.now c.name_length.result class.Letter c.in-len1-up.len_at_least (sym c.byte_class.ensures ∙ e) refl c.name_length.ensures.exact
      | inr e ↦ name_longest c.args.bytes.now c.name_length.result class.Underscore c.in-len1-up.len_at_least (sym c.byte_class.ensures ∙ e) refl c.name_length.ensures.exact
    ]

pub returns-in-Digit : goal.returns-in-Digit
returns-in-Digit c = number_longest c.args.bytes.now c.number_length.result c.in-len1-up.len_at_least (sym c.in-Digit.ensures) c.number_length.ensures.exact
