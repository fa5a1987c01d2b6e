use Rattle.std.proofs.Common.{List, [], ◌∷◌, ◌++◌, ◌∙◌, ap, None, refl}
use Rattle.il_syntax.specs.declared.tree.Named.{Named}
use Rattle.load_lines.proofs.Chain.{up}
use Rattle.load_tree.proofs.External.{name_refused, colon_refused, type_refused, semicolon_refused, external_read}
use Rattle.il_syntax.specs.declared.token.Sign.TheVariants.{Colon, Semicolon}
use Rattle.load_lines.proofs.Breaks.{at_first, first_type, later_loose, later_type, map_breaks, part_loose, s_loose, s_part, s_type, up_breaks}
use Rattle.il_syntax_laws.proofs.Open.{sign_fills}
use Rattle.il_syntax_laws.proofs.Samples.{sign_sampled, the_name_sampled, type_sampled}
use Rattle.load_lines.proofs.Completions.{the_name_filling, type_filling}
use Rattle.load_tree.proofs.variables.external.Goals as goal

pub returns-in_err-name-clause-refused : goal.returns-in_err-name-clause-refused
returns-in_err-name-clause-refused c = up _ c.from_residual.ensures.1 (name_refused c.args.source.now _ _ c.in_err-name.ensures.refused)

pub returns-in_err-sign-clause-refused : goal.returns-in_err-sign-clause-refused
returns-in_err-sign-clause-refused c = up _ c.from_residual-in_err-sign.ensures.1 (colon_refused c.args.source.now _ _ _ _ c.in_ok-name.ensures.reads (rw c.skip_lines.ensures.rest at c.in_err-sign.ensures.refused))

pub returns-in_err-declared-clause-refused : goal.returns-in_err-declared-clause-refused
returns-in_err-declared-clause-refused c =
    up _ c.from_residual-in_err-declared.ensures.1
    (type_refused c.args.source.now _ _ _ _ _ c.in_ok-name.ensures.reads (rw c.skip_lines.ensures.rest at c.in_ok-sign.ensures.reads) (rw c.skip_lines-2.ensures.rest at c.in_err-declared.ensures.refused))

pub returns-in_err-sign-2-clause-refused : goal.returns-in_err-sign-2-clause-refused
returns-in_err-sign-2-clause-refused c =
    up _ c.from_residual-in_err-sign-2.ensures.1
    (semicolon_refused c.args.source.now _ _ _ _ _ _ _ c.in_ok-name.ensures.reads (rw c.skip_lines.ensures.rest at c.in_ok-sign.ensures.reads) (rw c.skip_lines-2.ensures.rest at c.in_ok-declared.ensures.reads) (rw c.skip_lines-3.ensures.rest at c.in_err-sign-2.ensures.refused))

pub returns-clause-reads : goal.returns-clause-reads
returns-clause-reads c =
    let pushed = c.in_ok-push.ensures.ok ∙ ap (λ (l : List Named). l ++ c.in_ok-name.name ∷ []) c.new-names.ensures in
    rw pushed
    (external_read c.args.source.now _ _ _ _ _ _ _ c.in_ok-name.ensures.reads (rw c.skip_lines.ensures.rest at c.in_ok-sign.ensures.reads) (rw c.skip_lines-2.ensures.rest at c.in_ok-declared.ensures.reads) (rw c.skip_lines-3.ensures.rest at c.in_ok-sign-2.ensures.reads))

pub returns-in_err-name-clause-begins : goal.returns-in_err-name-clause-begins
returns-in_err-name-clause-begins c =
    up_breaks _ c.from_residual.ensures.1 (map_breaks (λ x. record { names = x.0 ∷ []; declared = x.1.0; initial = None }) (λ x other us r w. (refl, refl, (w.2.0, (w.0, w.1, w.2.1), w.2.2))) (at_first (s_loose (the_name_sampled) (s_part (sign_sampled Colon) (s_type (type_sampled) (sign_sampled Semicolon) refl refl) refl) refl) c.in_err-name.ensures.first))

pub returns-in_err-sign-clause-begins : goal.returns-in_err-sign-clause-begins
returns-in_err-sign-clause-begins c =
    up_breaks _ c.from_residual-in_err-sign.ensures.1 (map_breaks (λ x. record { names = x.0 ∷ []; declared = x.1.0; initial = None }) (λ x other us r w. (refl, refl, (w.2.0, (w.0, w.1, w.2.1), w.2.2))) (later_loose (the_name_filling) c.in_ok-name.ensures.reads (s_part (sign_sampled Colon) (s_type (type_sampled) (sign_sampled Semicolon) refl refl) refl) refl (at_first (s_part (sign_sampled Colon) (s_type (type_sampled) (sign_sampled Semicolon) refl refl) refl) (rw c.skip_lines.ensures.rest at c.in_err-sign.ensures.first))))

pub returns-in_err-declared-clause-begins : goal.returns-in_err-declared-clause-begins
returns-in_err-declared-clause-begins c =
    up_breaks _ c.from_residual-in_err-declared.ensures.1 (map_breaks (λ x. record { names = x.0 ∷ []; declared = x.1.0; initial = None }) (λ x other us r w. (refl, refl, (w.2.0, (w.0, w.1, w.2.1), w.2.2))) (later_loose (the_name_filling) c.in_ok-name.ensures.reads (s_part (sign_sampled Colon) (s_type (type_sampled) (sign_sampled Semicolon) refl refl) refl) refl (part_loose (sign_fills Colon) (rw c.skip_lines.ensures.rest at c.in_ok-sign.ensures.reads) (s_type (type_sampled) (sign_sampled Semicolon) refl refl) refl (first_type (sign_sampled Semicolon) refl refl (rw c.skip_lines-2.ensures.rest at c.in_err-declared.ensures.begins)))))

pub returns-in_err-sign-2-clause-begins : goal.returns-in_err-sign-2-clause-begins
returns-in_err-sign-2-clause-begins c =
    up_breaks _ c.from_residual-in_err-sign-2.ensures.1 (map_breaks (λ x. record { names = x.0 ∷ []; declared = x.1.0; initial = None }) (λ x other us r w. (refl, refl, (w.2.0, (w.0, w.1, w.2.1), w.2.2))) (later_loose (the_name_filling) c.in_ok-name.ensures.reads (s_part (sign_sampled Colon) (s_type (type_sampled) (sign_sampled Semicolon) refl refl) refl) refl (part_loose (sign_fills Colon) (rw c.skip_lines.ensures.rest at c.in_ok-sign.ensures.reads) (s_type (type_sampled) (sign_sampled Semicolon) refl refl) refl (later_type (type_filling) (rw c.skip_lines-2.ensures.rest at c.in_ok-declared.ensures.reads) (sign_sampled Semicolon) refl refl (at_first (sign_sampled Semicolon) (rw c.skip_lines-3.ensures.rest at c.in_err-sign-2.ensures.first))))))
