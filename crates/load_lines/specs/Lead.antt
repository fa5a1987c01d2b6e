-- What a list of tokens begins with.
use Rattle.std.specs.Prelude.{ℕ, List, [], ◌∷◌, Option, Some, None}
use Rattle.il_syntax.specs.declared.token.Token.{Token}
use Rattle.il_syntax.specs.declared.token.Kind.{Kind}
use Rattle.il_syntax.specs.declared.token.Kind.TheVariants as kind
use Rattle.il_syntax.specs.declared.keyword.Keyword.{Keyword}
use Rattle.il_syntax.specs.Words.{keyword_of}
use Rattle.il_syntax.specs.Text.{name_of}
use Rattle.load_lines.specs.declared.lead.Lead.{Lead}
use Rattle.load_lines.specs.declared.lead.Lead.TheVariants as lead

-- what a token is, for a word also which reserved word
abbrev pub lead_of : Kind → Option Keyword → Lead
lead_of kind.Word (Some k) = lead.Reserved k
lead_of kind.Word None = lead.Name
lead_of (kind.Number value) k = lead.Number value
lead_of (kind.Typed value) k = lead.Typed value
lead_of (kind.Sign s) k = lead.Sign s
lead_of kind.LineEnd k = lead.LineEnd

-- what the first token is
unfoldable pub lead_at : List ℕ → List Token → Lead
lead_at text [] = lead.Nothing
lead_at text (t ∷ ts) = lead_of t.kind (keyword_of (name_of text t))
