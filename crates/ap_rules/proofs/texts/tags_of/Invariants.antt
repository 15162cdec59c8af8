use Rattle.std.proofs.Common.{◌≡◌, [], drop}
use Rattle.ap_rules.specs.Texts.{tag_symbols, parts_after}
use Rattle.ap_rules.proofs.TagLaws.{behind}
use Rattle.ap_rules.proofs.texts.tags_of.Given as goal

abbrev pub invariant-text : goal.invariant-text
invariant-text l = behind l.word
    (tag_symbols l.stars (parts_after l.part.items (drop l.c-index l.text)))
    ≡ tag_symbols l.stars (parts_after [] l.text)
