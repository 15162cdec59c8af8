use Rattle.std.proofs.Common.{List, ℕ, ◌∙◌, sym, subst}
use Rattle.ap_chunk.specs.Translations.{IsOf}
use Rattle.ap_chunk.proofs.UnitWords.{is_translation}
use Rattle.ap_chunk.proofs.parts.translation.Goals as goal

pub new-requires-3 : goal.new-requires-3
new-requires-3 c =
    is_translation c.in_ok-key.key.items c.new.result c.new-2.result c.args.unit.now
    (subst (λ (k : List ℕ). IsOf k c.args.unit.now) (sym c.in_ok-key.ensures) c.requires.key)
    (c.new.ensures ∙ c.requires.source) (c.new-2.ensures ∙ c.in_ok-target.ensures.word)
