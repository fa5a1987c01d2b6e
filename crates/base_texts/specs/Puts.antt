-- Texts that grow at their end (own rules).
use Rattle.std.specs.Prelude.{◌≡◌, ℕ, List, ◌++◌, String, string_bytes}

-- a text has these bytes after what it had
abbrev pub Puts : {A : Type 0} → String A → String A → List ℕ → Type 0
Puts old new bytes = string_bytes new ≡ string_bytes old ++ bytes
