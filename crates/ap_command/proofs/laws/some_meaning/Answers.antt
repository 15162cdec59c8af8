use Rattle.std.proofs.Common.{refl}
use Rattle.ap_live.specs.Lexicon.{lexicon_of}
use Rattle.ap_command.specs.Rows.{given_by}
use Rattle.ap_command.specs.Reading.{made_way}
use Rattle.ap_command.specs.Words.{way_of}
use Rattle.ap_command.proofs.laws.some_meaning.Goals as goal

pub returns-clause-entries : goal.returns-clause-entries
returns-clause-entries c = λ mode d p sensitive made proper. (
  given_by mode (lexicon_of p sensitive) sensitive,
  (
    lexicon_of p sensitive,
    c.dictionary_has_its_lexicon.ensures d (made_way (way_of mode)) p sensitive made
        (c.compiled_have_lexicons.ensures.exact p sensitive made.sound proper),
    refl,
  ),
)

pub returns-clause-sections : goal.returns-clause-sections
returns-clause-sections c = λ mode p sensitive made proper. (
  given_by mode (lexicon_of p sensitive) sensitive,
  (lexicon_of p sensitive, c.compiled_have_lexicons.ensures.exact p sensitive made proper, refl),
)
