use Rattle.std.proofs.Common.{◌≡◌, ◌++◌, take, true}
use Rattle.std.specs.List.{flat_map, list_all}
use Rattle.ap_binary.specs.Pieces.{is_character}
use Rattle.ap_binary.specs.Text.{letter_text}
use Rattle.ap_binary.proofs.writing.put_letters.Given as goal

abbrev pub invariant-letters : goal.invariant-letters
invariant-letters l = record {
  text : l.into ≡ l.fn.into ++ flat_map letter_text (take l.letter-index l.letters);
  held : list_all is_character (take l.letter-index l.letters) ≡ true;
}
