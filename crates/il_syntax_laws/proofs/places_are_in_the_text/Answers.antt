use Rattle.il_syntax_laws.proofs.Spelled.{spelled_places}
use Rattle.il_syntax_laws.proofs.places_are_in_the_text.Goals as goal

pub returns : goal.returns
returns k = spelled_places
