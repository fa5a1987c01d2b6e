-- The lines of a scan.
use Rattle.std.proofs.Common.{◌≡◌, ◌≤◌, ◌<◌, ◌+◌, ◌-◌, ℕ, zero, suc, List, [], ◌++◌, refl, sym, ap, ◌∙◌, subst, Option, Some, None, arith}
use Rattle.std.proofs.lemmas.List.{append-nil}
use Rattle.il_syntax.specs.declared.tree.Config.{Config}
use Rattle.scan_task.specs.Scanning.{Program}
use Rattle.group_spec.specs.World.{World}
use Rattle.show_scan.specs.declared.chosen.Asked.{Asked}
use Rattle.show_scan.specs.Shown.{seen_in, from_seen, rest_if, lines_text}

next_line : (c : Config) (source : List ℕ) (k : ℕ) (asked : Asked) (w : World) → lines_text c source (suc k) asked w ≡ from_seen c source asked (lines_text c source k) w (seen_in c w asked.task)
unfolding lines_text
next_line c source k asked w = refl

no_line : (c : Config) (source : List ℕ) (asked : Asked) (w : World) → lines_text c source zero asked w ≡ []
unfolding lines_text
no_line c source asked w = refl

module _ (c : Config) (source : List ℕ) (fuel count : ℕ) (all old : List ℕ) (asked : Asked) (w : World) (so_far : old ++ lines_text c source (fuel - count) asked w ≡ all) where
  -- all were shown
  pub none_left : fuel ≤ count → old ≡ all
  none_left past =
      let over : fuel - count ≡ zero = omega (arith, past) in
      sym (append-nil old) ∙ ap (λ ls. old ++ ls) (sym (no_line c source asked w)) ∙ ap (λ n. old ++ lines_text c source n asked w) (sym over) ∙ so_far

  -- one more was shown
  module _ (p : Program) (is : p.config ≡ c) (new : List ℕ) (v : World) (more : Option Asked) (shown : (rest : Asked → World → List ℕ) → old ++ from_seen p.config source asked rest w (seen_in p.config w asked.task) ≡ new ++ rest_if more rest v) (left : count < fuel) where
    one_less : fuel - count ≡ suc (fuel - (count + 1))
    one_less = omega (arith, left)

    with_rest : new ++ rest_if more (lines_text c source (fuel - (count + 1))) v ≡ all
    with_rest =
        sym (subst (λ d. old ++ from_seen d source asked (lines_text c source (fuel - (count + 1))) w (seen_in d w asked.task) ≡ new ++ rest_if more (lines_text c source (fuel - (count + 1))) v) is (shown (lines_text c source (fuel - (count + 1)))))
        ∙ ap (λ ls. old ++ ls) (sym (next_line c source (fuel - (count + 1)) asked w)) ∙ ap (λ n. old ++ lines_text c source n asked w) (sym one_less) ∙ so_far

    pub goes_on : (then : Asked) → more ≡ Some then → new ++ lines_text c source (fuel - (count + 1)) then v ≡ all
    goes_on then on = ap (λ o. new ++ rest_if o (lines_text c source (fuel - (count + 1))) v) (sym on) ∙ with_rest

    pub stops : more ≡ None → new ≡ all
    stops off = sym (append-nil new) ∙ ap (λ o. new ++ rest_if o (lines_text c source (fuel - (count + 1))) v) (sym off) ∙ with_rest
