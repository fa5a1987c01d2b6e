-- Faults of other units, one after another.
use Rattle.std.proofs.Common.{◌≡◌, ℕ, ◌+◌, ◌<◌, List, [], ◌∷◌, ◌++◌, take, length, get_or, refl, sym, ap, ◌∙◌, subst, append-nil, append_assoc}
use Rattle.std.proofs.lemmas.List.{take_more}
use Rattle.il_syntax.specs.declared.tree.Place.{Place}
use Rattle.cli_shell.specs.declared.commands.OtherFault.{OtherFault}
use Rattle.cli_shell.specs.Also.{also_line, AreAlsoTold}

module _ (IsTold : ℕ → Place → List ℕ → Type 0) where
  -- one after others
  also_last : (faults : List OtherFault) (fault : OtherFault) (told own : List ℕ) → AreAlsoTold IsTold faults told → IsTold fault.number fault.place own → AreAlsoTold IsTold (faults ++ fault ∷ []) (told ++ (also_line fault ++ own))
  also_last [] fault told own none is = (own, [], is, refl, ap (λ l. l ++ (also_line fault ++ own)) none ∙ sym (append-nil (also_line fault ++ own)))
  also_last (f ∷ faults) fault told own (here, rest, is_here, are, all) is =
      (here, rest ++ (also_line fault ++ own), is_here, also_last faults fault rest own are is, ap (λ l. l ++ (also_line fault ++ own)) all ∙ append_assoc (also_line f ++ here) rest (also_line fault ++ own))

  -- what a loop keeps
  pub also_next : (faults : List OtherFault) (at : ℕ) (blank : OtherFault) (told own new : List ℕ) → at < length faults → IsTold (get_or faults at blank).number (get_or faults at blank).place own → new ≡ told ++ (also_line (get_or faults at blank) ++ own)
      → AreAlsoTold IsTold (take at faults) told → AreAlsoTold IsTold (take (at + 1) faults) new
  also_next faults at blank told own new low is grown before =
      let fault = get_or faults at blank in
      subst (λ l. AreAlsoTold IsTold (take (at + 1) faults) l) (sym grown)
      (subst (λ fs. AreAlsoTold IsTold fs (told ++ (also_line fault ++ own))) (sym (take_more faults at blank low))
      (also_last (take at faults) fault told own before is))
