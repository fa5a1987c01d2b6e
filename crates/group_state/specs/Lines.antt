-- The next line of a text: what it says, or why it isn't taken (own rules).
use Rattle.std.specs.Prelude.{◌≡◌, ◌⊎◌, List, ℕ, ◌∷◌, ◌++◌}
use Rattle.trace_text.specs.Reading.{IsOneLine}
use Rattle.group_state.specs.declared.fault.StateFault.{StateFault}
use Rattle.group_state.specs.declared.fault.StateFault.TheVariants.{BadLine, Truncated}

-- a text begins with a line, and this is after its line feed (own rule)
pub record IsNext (text line rest : List ℕ) : Type 0 where
  pub whole : text ≡ line ++ (10 ∷ rest)
  pub one : IsOneLine line

-- The next line says this, it holds what has to hold, and this is after it (own rule).
pub record Takes (X : Type 0) (Says : X → List ℕ → Type 0) (Holds : X → Type 0) (text : List ℕ) (said : X) (rest : List ℕ) : Type 0 where
  pub line : List ℕ
  pub next : IsNext text line rest
  pub says : Says said line
  pub holds : Holds said

-- The next line is whole, and says no such thing (own rule).
pub record SaysNone (X : Type 0) (Says : X → List ℕ → Type 0) (text : List ℕ) : Type 0 where
  pub line : List ℕ
  pub rest : List ℕ
  pub next : IsNext text line rest
  pub none : (said : X) → Says said line → ⊥

-- The next line says something that breaks a rule (own rule).
pub record SaysWrong (X : Type 0) (Says : X → List ℕ → Type 0) (Breaks : X → StateFault → Type 0) (text : List ℕ) (fault : StateFault) : Type 0 where
  pub said : X
  pub line : List ℕ
  pub rest : List ℕ
  pub next : IsNext text line rest
  pub says : Says said line
  pub breaks : Breaks said fault

-- Why the next line isn't taken: it has another form, 80; the text ends in it, 81; or what it says breaks a rule (own rule).
abbrev pub Refuses : (X : Type 0) → (X → List ℕ → Type 0) → (X → StateFault → Type 0) → List ℕ → StateFault → Type 0
Refuses X Says Breaks text fault =
    ((fault ≡ BadLine) × SaysNone X Says text) ⊎ (((fault ≡ Truncated) × IsOneLine text) ⊎ SaysWrong X Says Breaks text fault)

-- no rule, which nothing breaks (own rule)
abbrev pub HoldsAlways : (X : Type 0) → X → Type 0
HoldsAlways X said = Unit {0}

-- no rule is broken (own rule)
abbrev pub BreaksNever : (X : Type 0) → X → StateFault → Type 0
BreaksNever X said fault = ⊥
