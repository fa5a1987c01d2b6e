-- What each phase's refusal says of the text.
use Rattle.std.proofs.Common.{◌≡◌, ◌⊎◌, ◌∙◌, ℕ, ◌<◌, ◌≤◌, List, [], length, arith, refl, sym, subst, ap, inl, inr, Result, Ok, Err}
use Rattle.std.specs.Prelude.{IsErrAnd, IfOk, IfErr}
use Rattle.std.proofs.lemmas.Bool.{cases_lt}
use Rattle.il_syntax.specs.declared.fault.Refusal.{Refusal}
use Rattle.il_syntax.specs.declared.fault.Refusal.TheVariants.{Fault, Memory}
use Rattle.il_syntax.specs.declared.tree.Config.{Config}
use Rattle.il_syntax.specs.declared.tree.Place.{Place}
use Rattle.il_syntax.specs.declared.token.Token.{Token}
use Rattle.il_syntax.specs.Text.{AreTokens, HasNoTokens}
use Rattle.load_tokens.specs.Refused.{IsMemoryOrFaultOfBytes}
use Rattle.load_tokens.specs.LexicalErrors.{IsFaultOfText, the_start}
use Rattle.load_tokens.proofs.FirstError.{one_fault, no_first}
use Rattle.il_syntax.specs.Grammar.{AfterLines, SpellsConfig}
use Rattle.il_fault_laws.specs.Faults.{IsFaultOfGrammar}
use Rattle.load_tree.specs.Refused.{IsFault, IsOfParser, IsSmall, GoesOnNowhere, GoesOnBefore}
use Rattle.load_tree.specs.Late.{NoneTooMany}
use Rattle.load_text.specs.Loading.{IsSpelled, IsRefusedFor, SpellsNone, HasFaultOfGrammar, IsNumberOfBytes, of_bytes, of_grammar, of_tree, IsExplained, ReportsFaultOfText, ReportsFaultOfGrammar}
use Rattle.load_text.proofs.TreeNumbers.{late_fault}

-- a refusal that is handed on is of the same kind
pub handed_as : {X : Type 0} (P : Refusal → Type 0) (e : Refusal) (r : Result X Refusal) → IsErrAnd r (λ d. d ≡ e) → P e → IfErr r P
handed_as {X} P e (Ok x) same is = absurd same
handed_as {X} P e (Err d) same is = subst P (sym same) is

-- what an answer says, said otherwise
pub if_ok : {X E : Type 0} (P Q : X → Type 0) (r : Result X E) → ((x : X) → P x → Q x) → IfOk r P → IfOk r Q
if_ok P Q (Ok x) goes is = goes x is
if_ok P Q (Err e) goes is = tt

pub if_err : {X E : Type 0} (P Q : E → Type 0) (r : Result X E) → ((e : E) → P e → Q e) → IfErr r P → IfErr r Q
if_err P Q (Ok x) goes is = tt
if_err P Q (Err e) goes is = goes e is

-- a fault of the tree
pub explained_by_tree : (text : List ℕ) (c : Config) (e : Refusal) → IsSpelled text c → IsRefusedFor c e → IsExplained text e
explained_by_tree text c (Fault number place) spelled refused = of_tree (late_fault c number place refused) (c, spelled, refused)
explained_by_tree text c Memory spelled refused = tt

-- a fault of the parser
pub explained_by_parser : (text : List ℕ) (e : Refusal) → IsOfParser e → (IsFault {A = Config} (Err e) → HasFaultOfGrammar text e) → (IsFault {A = Config} (Err e) → SpellsNone text) → IsExplained text e
explained_by_parser text (Fault number place) (inl is) has none = of_grammar (omega (arith, is), omega (arith, is)) (has tt) (none tt)
explained_by_parser text (Fault number place) (inr (inl is)) has none = of_grammar (omega (arith, is), omega (arith, is)) (has tt) (none tt)
explained_by_parser text (Fault number place) (inr (inr is)) has none = of_grammar (omega (arith, is), omega (arith, is)) (has tt) (none tt)
explained_by_parser text Memory is has none = tt

-- a fault of the bytes, or a text that is too long
pub explained_by_tokens : {A : Type 0} (text : List ℕ) (e : Refusal) → (262144 < length text → ◌≡◌ {A = Result A Refusal} (Err e) (Err (Fault 6 the_start))) → (length text ≤ 262144 → IsMemoryOrFaultOfBytes e)
    → (IsFault {A = Config} (Err e) → length text ≤ 262144 → HasNoTokens text) → (e ≡ Memory) ⊎ IsFaultOfText text e → IsExplained text e
explained_by_tokens text Memory long bytes none fault = tt
explained_by_tokens {A} text (Fault number place) long bytes none fault = of_bytes low (that fault) (λ c s. none tt s.limits.bytes s.spelled.0 s.spelled.1)
  where
    that : (Fault number place ≡ Memory) ⊎ IsFaultOfText text (Fault number place) → IsFaultOfText text (Fault number place)
    that (inl bad) = absurd cc
    that (inr is) = is

    low : IsNumberOfBytes number
    low = elim (cases_lt 262144 (length text)) [
      | inl over ↦ let is : number ≡ 6 = number_of (long over) in (omega (arith, is), omega (arith, is))
      | inr within ↦ let is = bytes within in (is.0, omega (arith, is.1))
    ]
      where
        number_of : ◌≡◌ {A = Result A Refusal} (Err (Fault number place)) (Err (Fault 6 the_start)) → number ≡ 6
        number_of same = ap number_in same
          where
            number_in : Result A Refusal → ℕ
            number_in (Err (Fault n p)) = n
            number_in _ = 0

-- THE FAULT OF THE BYTES

-- a text that has tokens has no fault of its bytes
pub no_fault_of_bytes : (text : List ℕ) (ts : List Token) (n : ℕ) (p : Place) → length text ≤ 262144 → AreTokens text 0 ts → IsFaultOfText text (Fault n p) → ⊥
no_fault_of_bytes text ts n p short cut (inl h) = omega (arith, short, h.0)
no_fault_of_bytes text ts n p short cut (inr h) = no_first text ts n p cut h.1

pub no_fault_of_spelled : (text : List ℕ) (c : Config) (n : ℕ) (p : Place) → IsSpelled text c → IsFaultOfText text (Fault n p) → ⊥
no_fault_of_spelled text c n p s fault = no_fault_of_bytes text s.spelled.0 n p s.limits.bytes s.spelled.1 fault

-- what the lexer answers
pub reported_by_tokens : {X : Type 0} (text : List ℕ) (e : Refusal) (r : Result X Refusal) → IsErrAnd r (λ d. d ≡ e) → (e ≡ Memory) ⊎ IsFaultOfText text e → ReportsFaultOfText text r
reported_by_tokens {X} text e (Ok x) same is n p fault = absurd same
reported_by_tokens {X} text e (Err d) same (inl memory) n p fault = inr (same ∙ memory)
reported_by_tokens {X} text e (Err d) same (inr is) n p fault = inl (same ∙ one_fault text e (Fault n p) is fault)

-- what is handed on
pub handed_report : {X : Type 0} (text : List ℕ) (e : Refusal) (r : Result X Refusal) → IsErrAnd r (λ d. d ≡ e) → ((n : ℕ) (p : Place) → IsFaultOfText text (Fault n p) → (e ≡ Fault n p) ⊎ (e ≡ Memory)) → ReportsFaultOfText text r
handed_report {X} text e (Ok x) same reports n p fault = absurd same
handed_report {X} text e (Err d) same reports n p fault = subst (λ b. (b ≡ Fault n p) ⊎ (b ≡ Memory)) (sym same) (reports n p fault)

-- THE FAULT OF THE GRAMMAR

-- what the parser says of its tokens
pub fault_of_parser : (text : List ℕ) (e : Refusal) (tokens : List Token) → length text ≤ 262144 → AreTokens text 0 tokens → IsFault {A = Config} (Err e) → GoesOnNowhere text tokens e → GoesOnBefore text tokens e → NoneTooMany text tokens e → HasFaultOfGrammar text e
fault_of_parser text Memory tokens short cut fault nowhere before early = absurd fault
fault_of_parser text (Fault number place) tokens short cut fault nowhere before early =
    record { short = short; tokens = tokens; cut = cut; is = record { fault = (number, (place, refl)); nowhere = nowhere; before = before; early = early } }

-- the law of these faults
abbrev pub IsOneFault : Type 0
IsOneFault = (text : List ℕ) (ts : List Token) (e f : Refusal) → AreTokens text 0 ts → length text ≤ 262144 → IsFaultOfGrammar text ts e → IsFaultOfGrammar text ts f → e ≡ f

abbrev pub IsNoFault : Type 0
IsNoFault = (text : List ℕ) (ts : List Token) (c : Config) (e : Refusal) → AreTokens text 0 ts → AfterLines (SpellsConfig text c) ts [] → IsSmall c → IsFaultOfGrammar text ts e → ⊥

-- a text that has no tokens has none
pub no_grammar_by_tokens : {X : Type 0} (text : List ℕ) (e : Refusal) (r : Result X Refusal) → IsErrAnd r (λ d. d ≡ e) → (IsFault {A = Config} (Err e) → length text ≤ 262144 → HasNoTokens text) → ReportsFaultOfGrammar text r
no_grammar_by_tokens {X} text e (Ok x) same none n p fault = absurd same
no_grammar_by_tokens {X} text Memory (Err d) same none n p fault = inr same
no_grammar_by_tokens {X} text (Fault m q) (Err d) same none n p fault = absurd (none tt fault.short fault.tokens fault.cut)

-- what the parser answers
pub reported_by_parser : {X : Type 0} → IsOneFault → (text : List ℕ) (e : Refusal) (r : Result X Refusal) → IsErrAnd r (λ d. d ≡ e) → ((ts us : List Token) → AreTokens text 0 ts → AreTokens text 0 us → ts ≡ us) → (IsFault {A = Config} (Err e) → HasFaultOfGrammar text e) → ReportsFaultOfGrammar text r
reported_by_parser {X} law text e (Ok x) same cut has n p fault = absurd same
reported_by_parser {X} law text Memory (Err d) same cut has n p fault = inr same
reported_by_parser {X} law text (Fault m q) (Err d) same cut has n p fault =
    let mine = has tt in
    inl (same ∙ law text fault.tokens (Fault m q) (Fault n p) fault.cut fault.short (subst (λ ts. IsFaultOfGrammar text ts (Fault m q)) (cut mine.tokens fault.tokens mine.cut fault.cut) mine.is) fault.is)

-- a text that spells a configuration has none
pub no_grammar_of_spelled : IsNoFault → (text : List ℕ) (tokens : List Token) (c : Config) → ((ts : List Token) → AreTokens text 0 ts → ts ≡ tokens) → AfterLines (SpellsConfig text c) tokens [] → IsSmall c → (e : Refusal) → HasFaultOfGrammar text e → ⊥
no_grammar_of_spelled law text tokens c only spelled small e fault =
    law text fault.tokens c e fault.cut (subst (λ ts. AfterLines (SpellsConfig text c) ts []) (sym (only fault.tokens fault.cut)) spelled) small fault.is

-- what is handed on
pub handed_grammar : {X : Type 0} (text : List ℕ) (e : Refusal) (r : Result X Refusal) → IsErrAnd r (λ d. d ≡ e) → ((n : ℕ) (p : Place) → HasFaultOfGrammar text (Fault n p) → (e ≡ Fault n p) ⊎ (e ≡ Memory)) → ReportsFaultOfGrammar text r
handed_grammar {X} text e (Ok x) same reports n p fault = absurd same
handed_grammar {X} text e (Err d) same reports n p fault = subst (λ b. (b ≡ Fault n p) ⊎ (b ≡ Memory)) (sym same) (reports n p fault)
