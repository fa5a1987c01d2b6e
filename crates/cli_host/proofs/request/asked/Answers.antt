use Rattle.std.proofs.Common.{◌≡◌, ℕ, List, ◌∷◌, sym, ◌∙◌, subst}
use Rattle.cli_host.specs.Requests.{Takes, Asks, word_of, command_of}
use Rattle.cli_host.specs.declared.request.Name.{Name}
use Rattle.cli_host.specs.declared.request.Request.{Request}

-- words have one first word, and one rest after it
cut : (words rest more : List (List ℕ)) (word other : List ℕ) → words ≡ word ∷ rest → words ≡ other ∷ more → (word ≡ other) × (more ≡ rest)
cut words rest more word other is are = let e = sym is ∙ are in (cc, cc)

-- words that begin with the name of no command ask for nothing
none_named : (words rest : List (List ℕ)) (word : List ℕ) → words ≡ word ∷ rest → ((n : Name) → word ≡ word_of n → ⊥) → (r : Request) → Asks words r → ⊥
none_named words rest word is none r asks = none (command_of r) (cut words rest asks.rest word (word_of (command_of r)) is asks.are).0

-- and so do those after whose name is nothing that its command takes
none_taken : (words rest : List (List ℕ)) (word : List ℕ) (n : Name) → words ≡ word ∷ rest → word ≡ word_of n → ((r : Request) → word_of (command_of r) ≡ word_of n → Takes rest r → ⊥) → (r : Request) → Asks words r → ⊥
none_taken words rest word n is named none r asks =
    let parts = cut words rest asks.rest word (word_of (command_of r)) is asks.are in
    none r (sym parts.0 ∙ named) (subst (λ ws. Takes ws r) parts.1 asks.takes)
