-- Labels.
use Rattle.std.proofs.Common.{◌≡◌, ℕ, List, [], ◌∷◌, drop, subst, sym}
use Rattle.il_syntax.specs.declared.token.Token.{Token}
use Rattle.il_syntax.specs.declared.token.Sign.TheVariants.{Colon}
use Rattle.il_syntax.specs.declared.tree.Named.{Named}
use Rattle.il_syntax.specs.Text.{name_of}
use Rattle.il_syntax.specs.Grammar.{At, TheSign, AName, SpellsLabel}
use Rattle.il_syntax_laws.proofs.Leads.{at_holds}
use Rattle.load_lines.specs.Lead.{lead_at}
use Rattle.load_lines.specs.declared.lead.Lead.TheVariants as lead
use Rattle.load_lines.proofs.Leaves.{name_there, the_name_lead}
use Rattle.load_lines.proofs.Instructions.{behind_one}

module _ (text : List ℕ) where
  -- a name at its place, with a colon after it
  pub label_there : (t : Token) (ts us m : List Token) (n : Named) → ts ≡ t ∷ us → lead_at text ts ≡ lead.Name → t.start ≡ n.place.offset → t.line ≡ n.place.line → n.name ≡ name_of text t
      → TheSign Colon (drop 1 ts) m → SpellsLabel text n ts m
  label_there t ts us m n e l start line same colon = (drop 1 ts, placed ts e (subst (λ (x : List ℕ). AName text x ts (drop 1 ts)) (sym same) (name_there text t ts us e l)), colon)
    where
      placed : (vs : List Token) → vs ≡ t ∷ us → AName text n.name vs (drop 1 vs) → At n.place (AName text n.name) vs (drop 1 vs)
      placed [] e p = absurd p
      placed (v ∷ vs) e p = let here : v ≡ t = cc in (subst (λ (x : Token). x.start ≡ n.place.offset) (sym here) start, subst (λ (x : Token). x.line ≡ n.place.line) (sym here) line, p)

  -- no colon follows the first token
  pub no_colon : (n : Named) (ts m : List Token) → ((r : List Token) → TheSign Colon (drop 1 ts) r → ⊥) → SpellsLabel text n ts m → ⊥
  no_colon n ts m missing w = missing m (subst (λ (x : List Token). TheSign Colon x m) (behind_one _ ts w.0 (at_holds text (AName text n.name) n.place ts w.0 w.1)) w.2)

  -- a label begins with a name
  pub label_lead : (n : Named) (ts m : List Token) → SpellsLabel text n ts m → lead_at text ts ≡ lead.Name
  label_lead n ts m w = the_name_lead text n ts w.0 w.1
