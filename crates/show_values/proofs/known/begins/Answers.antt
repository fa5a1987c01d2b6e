use Rattle.std.proofs.Common.{◌≡◌, Bool, true, false, sym, ap, ◌∙◌}
use Rattle.std.specs.Prelude.{◌||◌, nat_eq}
use Rattle.std.specs.List.{starts_with}
use Rattle.std.proofs.lemmas.Str.Pattern.{starts_text}
use Rattle.show_values.proofs.Knowing.{one_or}
use Rattle.show_values.proofs.known.begins.Goals as goal

pub returns-then-starts_with : goal.returns-then-starts_with
returns-then-starts_with c = one_or c.starts_with.result (starts_with nat_eq c.args.name.now c.args.dotted.now) (starts_with nat_eq c.args.name.now c.args.bracketed.now) (starts_text c.starts_with.result c.args.dotted.now c.args.name.now c.starts_with.ensures.cases) c.if-starts_with.true

pub returns-else-starts_with : goal.returns-else-starts_with
returns-else-starts_with c =
    let first = starts_text c.starts_with.result c.args.dotted.now c.args.name.now c.starts_with.ensures.cases in
    let second = starts_text c.starts_with-else-starts_with.result c.args.bracketed.now c.args.name.now c.starts_with-else-starts_with.ensures.cases in
    second ∙ ap (λ (b : Bool). b || starts_with nat_eq c.args.name.now c.args.bracketed.now) (sym c.if-starts_with.false ∙ first)
