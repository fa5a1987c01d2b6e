use Rattle.std.proofs.Common.{◌≡◌, ℕ, List, [], ◌∷◌, ◌++◌, length, refl, sym, ap, subst, ◌∙◌}
use Rattle.cli_host.specs.Writes.{AppendsFront}
use Rattle.trace_text.specs.declared.format.Format.TheVariants.{Two}
use Rattle.trace_text.specs.Text.{first_line, last_line}
use Rattle.trace_text.specs.Written.{traced, text_of_entries}
use Rattle.trace_text.specs.Writing.{IsWritten, events_text}
use Rattle.trace_text.proofs.Writes.{wrote_err, all_put, whole_is, front_along, front_then, written_then}
use Rattle.trace_text.proofs.write.write_all.Goals as goal

pub returns-in_err-count : goal.returns-in_err-count
returns-in_err-count g c =
    let first : c.put_first.new.waiting ≡ first_line Two ++ 10 ∷ [] = c.put_first.ensures ∙ ap (λ (l : List ℕ). l ++ (first_line Two ++ 10 ∷ [])) c.new-waiting.ensures in
    let failed = c.in_err-count.ensures.puts in
    wrote_err c.from_residual.result _ _ _ _ (text_of_entries c.args.entries.now) c.from_residual.ensures.0
    (front_along _ _ (c.put_first.new.waiting ++ events_text (traced c.args.entries.now)) (last_line (length (traced c.args.entries.now)) ++ 10 ∷ []) (text_of_entries c.args.entries.now)
    (whole_is c.args.entries.now c.put_first.new.waiting (length (traced c.args.entries.now)) first refl) failed.0) failed.1

pub returns-in_err-write_last : goal.returns-in_err-write_last
returns-in_err-write_last g c =
    let first : c.put_first.new.waiting ≡ first_line Two ++ 10 ∷ [] = c.put_first.ensures ∙ ap (λ (l : List ℕ). l ++ (first_line Two ++ 10 ∷ [])) c.new-waiting.ensures in
    let failed = c.in_err-write_last.ensures in
    wrote_err c.from_residual-in_err-write_last.result _ _ _ _ (text_of_entries c.args.entries.now) c.from_residual-in_err-write_last.ensures.0
    (subst (AppendsFront (g.W.Sink.contents c.args.sink.now) (g.W.Sink.contents c.write_last.new.sink)) (whole_is c.args.entries.now c.put_first.new.waiting c.in_ok-count.count first c.in_ok-count.ensures.count)
    (front_then _ _ _ c.write_entries.new.waiting (c.put_first.new.waiting ++ events_text (traced c.args.entries.now)) (last_line c.in_ok-count.count ++ 10 ∷ []) c.in_ok-count.ensures.puts.0 failed.0)) failed.1

pub returns : goal.returns
returns g c =
    let first : c.put_first.new.waiting ≡ first_line Two ++ 10 ∷ [] = c.put_first.ensures ∙ ap (λ (l : List ℕ). l ++ (first_line Two ++ 10 ∷ [])) c.new-waiting.ensures in
    let last = c.in_ok-write_last.ensures in
    let whole : IsWritten (g.W.Sink.contents c.args.sink.now) (g.W.Sink.contents c.write_last.new.sink) c.write_last.new.waiting (text_of_entries c.args.entries.now) =
    subst (IsWritten (g.W.Sink.contents c.args.sink.now) (g.W.Sink.contents c.write_last.new.sink) c.write_last.new.waiting)
    (whole_is c.args.entries.now c.put_first.new.waiting c.in_ok-count.count first c.in_ok-count.ensures.count)
    (written_then _ _ _ c.write_entries.new.waiting c.write_last.new.waiting (c.put_first.new.waiting ++ events_text (traced c.args.entries.now)) (last_line c.in_ok-count.count ++ 10 ∷ []) c.in_ok-count.ensures.puts.0 last.0) in
    let held : IsWritten (g.W.Sink.contents c.args.sink.now) (g.W.Sink.contents c.write_last.new.sink) c.as_slice.result.now (text_of_entries c.args.entries.now) =
    subst (λ (l : List ℕ). IsWritten (g.W.Sink.contents c.args.sink.now) (g.W.Sink.contents c.write_last.new.sink) l (text_of_entries c.args.entries.now)) (sym c.as_slice.ensures) whole in
    all_put c.put_all.result _ _ _ _ _ _ c.as_slice.result.now (text_of_entries c.args.entries.now) held (last.1 ∙ c.in_ok-count.ensures.puts.1) c.put_all.ensures.ok c.put_all.ensures.goes_on c.put_all.ensures.failed c.put_all.ensures.front
