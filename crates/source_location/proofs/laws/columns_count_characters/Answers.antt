use Rattle.source_location.proofs.CharactersLemmas.{char_count-chars}
use Rattle.source_location.proofs.laws.columns_count_characters.Goals as goal

pub returns : goal.returns
returns c = char_count-chars c.args._text.now c.utf8._text
