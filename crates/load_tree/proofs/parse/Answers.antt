use Rattle.std.proofs.Common.{[], ◌∷◌, ◌++◌, sym, ◌∙◌, ap, subst}
use Rattle.il_syntax_laws.proofs.Bytes.{texts_alike}
use Rattle.il_syntax_laws.proofs.Configurations.{config_one}
use Rattle.il_syntax_laws.proofs.Spelled.{spelled_written}
use Rattle.il_syntax_laws.proofs.Alike.{alike_self}
use Rattle.load_lines.specs.Reads.{number_of}
use Rattle.load_tree.specs.Refused.{IsPlaceAt, Keeps, KeepsBefore}
use Rattle.load_tree.proofs.UnitsByError.{keeps_each}
use Rattle.load_tree.proofs.Turn.{fault_parts}
use Rattle.load_tree.proofs.Rests.{text_goes_on, text_goes_on_with}
use Rattle.il_statics.specs.Written.{IsNested}
use Rattle.load_tree.specs.Late.{WhereUnexpected}
use Rattle.load_tree.proofs.Late.{then_so}
use Rattle.load_tree.proofs.parse.Goals as goal

pub returns-in-Ok-clause-found : goal.returns-in-Ok-clause-found
returns-in-Ok-clause-found c = rw c.of.ensures c.in-Ok.ensures.reads.found.0

pub returns-in-Ok-clause-spelled : goal.returns-in-Ok-clause-spelled
returns-in-Ok-clause-spelled c = rw c.of.ensures (_, c.requires, c.in-Ok.ensures.reads.found.0)

pub returns-in-Ok-clause-only : goal.returns-in-Ok-clause-only
returns-in-Ok-clause-only c = λ d w. ((config_one c.args.text.now).only d _ _ _ _ w c.in-Ok.ensures.reads.found.0).0 ∙ sym c.of.ensures

pub returns-in-Err-Fault-clause-refused : goal.returns-in-Err-Fault-clause-refused
returns-in-Err-Fault-clause-refused c = λ fault d w small.
    let bad = (rw c.in-Err-Fault.field-0-is at c.in-Err-Fault.ensures.refused).fault tt in
    bad.4.never c.args.text.now c.args.tokens.now (alike_self _ _ _ bad.4.inside) d [] (w, keeps_each _ d small)

pub of-requires-clause-written : goal.of-requires-clause-written
of-requires-clause-written c = spelled_written c.args.text.now c.in-Ok.tree (_, c.requires, c.in-Ok.ensures.reads.found.0)

pub of-requires-clause-few : goal.of-requires-clause-few
of-requires-clause-few c = c.in-Ok.ensures.reads.found.1.instructions

pub of-requires-clause-nested : goal.of-requires-clause-nested
of-requires-clause-nested c = c.in-Ok.ensures.reads.found.1.nesting

pub returns-in-Err-Fault-clause-nowhere : goal.returns-in-Err-Fault-clause-nowhere
returns-in-Err-Fault-clause-nowhere c =
    let bad = (rw c.in-Err-Fault.field-0-is at c.in-Err-Fault.ensures.refused).fault tt in
    let parts = fault_parts c.in-Err-Fault.error bad.0 c.in-Err-Fault.place bad.1 bad.2 c.args.text.now c.end_of.result c.end_of.ensures.offset c.end_of.ensures.line in (
      bad.0,
      bad.1,
      c.number.ensures ∙ ap number_of parts.0,
      bad.3,
      subst (λ x. IsPlaceAt c.args.text.now x bad.1) (sym c.unwrap_or.ensures) parts.1,
      λ other others a d w keeps. bad.4.never other others a d [] (w, subst (λ error. Keeps error d) (sym parts.0) keeps),
    )

pub returns-in-Err-Fault-clause-texts : goal.returns-in-Err-Fault-clause-texts
returns-in-Err-Fault-clause-texts c =
    let bad = (rw c.in-Err-Fault.field-0-is at c.in-Err-Fault.ensures.refused).fault tt in
    let parts = fault_parts c.in-Err-Fault.error bad.0 c.in-Err-Fault.place bad.1 bad.2 c.args.text.now c.end_of.result c.end_of.ensures.offset c.end_of.ensures.line in (
      bad.0,
      bad.1,
      c.number.ensures ∙ ap number_of parts.0,
      bad.3,
      subst (λ x. IsPlaceAt c.args.text.now x bad.1) (sym c.unwrap_or.ensures) parts.1,
      λ front t rest split here other same others cut d w keeps. bad.4.never other (front ++ t ∷ others) (texts_alike c.args.text.now other c.args.tokens.now _ front t rest others c.requires split here same) d [] (w, subst (λ error. Keeps error d) (sym parts.0) keeps),
    )

pub returns-in-Err-Fault-clause-before : goal.returns-in-Err-Fault-clause-before
returns-in-Err-Fault-clause-before c =
    let bad = (rw c.in-Err-Fault.field-0-is at c.in-Err-Fault.ensures.begins).fault tt in
    let parts = fault_parts c.in-Err-Fault.error bad.0 c.in-Err-Fault.place bad.1 bad.2 c.args.text.now c.end_of.result c.end_of.ensures.offset c.end_of.ensures.line in (
      bad.0,
      bad.1,
      c.number.ensures ∙ ap number_of parts.0,
      bad.3.inside,
      subst (λ x. IsPlaceAt c.args.text.now x bad.1) (sym c.unwrap_or.ensures) parts.1,
      text_goes_on KeepsBefore c.args.text.now c.args.tokens.now bad.1 c.requires bad.3,
      text_goes_on_with bad.0 c.args.text.now c.args.tokens.now bad.1 c.requires bad.4,
    )

pub returns-in-Err-Fault-clause-early : goal.returns-in-Err-Fault-clause-early
returns-in-Err-Fault-clause-early c =
    let bad = (rw c.in-Err-Fault.field-0-is at c.in-Err-Fault.ensures.late).fault tt in
    let parts = fault_parts c.in-Err-Fault.error bad.0 c.in-Err-Fault.place bad.1 bad.2 c.args.text.now c.end_of.result c.end_of.ensures.offset c.end_of.ensures.line in (
      bad.0,
      bad.1,
      c.number.ensures ∙ ap number_of parts.0,
      bad.3,
      subst (λ x. IsPlaceAt c.args.text.now x bad.1) (sym c.unwrap_or.ensures) parts.1,
      then_so bad.0 (λ k leaves other others vs cut d w. leaves other others vs [] cut d (w, tt)) bad.4,
    )
