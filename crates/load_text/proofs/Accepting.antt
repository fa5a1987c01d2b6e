-- Which texts are accepted.
use Rattle.std.proofs.Common.{◌≡◌, sym, subst, ℕ, ◌+◌, ◌<◌, List, [], length, arith}
use Rattle.std.specs.Prelude.{Ok, Err, Result, IfErr, IsErrAnd}
use Rattle.std.proofs.lemmas.Option.{slice_get_within}
use Rattle.il_syntax.specs.declared.tree.Config.{Config}
use Rattle.il_syntax.specs.declared.tree.Place.{Place}
use Rattle.il_syntax.specs.declared.token.Token.{Token}
use Rattle.il_syntax.specs.declared.fault.Refusal.{Refusal}
use Rattle.il_syntax.specs.declared.fault.Refusal.TheVariants.{Fault, Memory}
use Rattle.il_syntax.specs.Text.{AreTokens}
use Rattle.il_syntax.specs.Grammar.{AfterLines, SpellsConfig}
use Rattle.il_statics.specs.Faults.{HasNoFault, IsRefusedBy}
use Rattle.il_semantics.specs.Annotation.{Annotated}
use Rattle.ranges_pass.specs.Lacking.{BreaksRanges, lacks_ranges}
use Rattle.load_budgets.specs.Costs.{IsTooLong}
use Rattle.load_tree.specs.Refused.{IsSmall, IsFault}
use Rattle.load_text.specs.Loading.{IsSpelled, IsAccepted, IsUnbroken, IsRefusedFor, by_declarations, by_types, by_order, by_ranges, by_budgets}

-- REFUSALS

-- what lacks ranges has none
lacking : (c : Config) (number : ℕ) (place : Place) → BreaksRanges c number place → Annotated c → ⊥
lacking c number place (lacks_ranges u among lacks) annotated =
    let found = annotated u among in
    lacks.first.none found.0 (record { entry = found.1.entry; each = λ place k below is. found.1.each place k (within_body lacks.at (length u.body.steps) place (slice_get_within u.body.steps lacks.at lacks.step lacks.stands) below) is })
  where
    within_body : (at n place : ℕ) → at < n → place < at + 1 → place < n + 1
    within_body at n place low below = omega (arith, low, below)

-- what is named is broken, or has no ranges
pub names_broken : {text : List ℕ} (c : Config) (number : ℕ) (place : Place) → IsRefusedFor c (Fault number place) → IsAccepted text c → ⊥
names_broken c number place (by_declarations first) a = a.declared number place first.broken
names_broken c number place (by_types declared first) a = a.typed number place first.broken
names_broken c number place (by_order declared typed first) a = a.ordered number place first.broken
names_broken c number place (by_ranges unbroken first) a = lacking c number place first.broken a.annotated
names_broken c number place (by_budgets unbroken annotated first) a = a.affordable number place first.broken

-- what is named of a phase is broken
pub breaks : {X : Type 0} (Breaks : ℕ → Place → Type 0) (e : Refusal) (r : Result X Refusal) → IsErrAnd r (λ d. d ≡ e) → IsFault r → IsRefusedBy Breaks e → HasNoFault Breaks → ⊥
breaks {X} Breaks e (Ok x) same h refused none = absurd h
breaks {X} Breaks e (Err (Fault number place)) same h refused none = at (subst (IsRefusedBy Breaks) (sym same) refused)
  where
    at : IsRefusedBy Breaks (Fault number place) → ⊥
    at first = none number place first.broken
breaks {X} Breaks e (Err Memory) same h refused none = absurd h

-- the same of an answer as it is
pub breaks_here : {X : Type 0} (Breaks : ℕ → Place → Type 0) (r : Result X Refusal) → IsFault r → IfErr r (IsRefusedBy Breaks) → HasNoFault Breaks → ⊥
breaks_here Breaks (Ok x) h refused none = absurd h
breaks_here Breaks (Err (Fault number place)) h first none = none number place first.broken
breaks_here Breaks (Err Memory) h refused none = absurd h

-- a fault that is handed on is a fault
pub handed_on : {X : Type 0} (Y : Type 0) (e : Refusal) (r : Result X Refusal) → IsErrAnd r (λ d. d ≡ e) → IsFault r → IsFault {A = Y} (Err e)
handed_on {X} Y e (Ok x) same h = absurd h
handed_on {X} Y e (Err d) same h = subst (λ d. IsFault {A = Y} (Err d)) same h

-- a text that the parser refuses spells none within the limits
pub none_spelled : (text : List ℕ) (tokens : List Token) → ((ts : List Token) → AreTokens text 0 ts → ts ≡ tokens)
    → ((c : Config) → AfterLines (SpellsConfig text c) tokens [] → IsSmall c → ⊥) → (c : Config) → IsSpelled text c → ⊥
none_spelled text tokens only refused c a =
    refused c (subst (λ ts. AfterLines (SpellsConfig text c) ts []) (only a.spelled.0 a.spelled.1) a.spelled.2) (record { units = a.limits.units; instructions = a.limits.instructions; nesting = a.limits.nesting })

-- what the parser gives is the only such configuration
pub same_spelled : (text : List ℕ) (tokens : List Token) (found : Config) → ((ts : List Token) → AreTokens text 0 ts → ts ≡ tokens)
    → ((d : Config) → AfterLines (SpellsConfig text d) tokens [] → d ≡ found) → (c : Config) → IsSpelled text c → c ≡ found
same_spelled text tokens found only unique c a = unique c (subst (λ ts. AfterLines (SpellsConfig text c) ts []) (only a.spelled.0 a.spelled.1) a.spelled.2)

-- what was parsed and judged is accepted
pub accepted_is : (text : List ℕ) (c : Config) → IsSpelled text c → IsUnbroken c → Annotated c → HasNoFault (IsTooLong c) → IsAccepted text c
accepted_is text c spelled unbroken annotated affordable = record { spelled = spelled; declared = unbroken.declared; typed = unbroken.typed; ordered = unbroken.ordered; annotated = annotated; affordable = affordable }
