use Rattle.std.proofs.Common.{sym, ◌∙◌}
use Rattle.ap_stream.proofs.EffectLaws as effects
use Rattle.ap_stream.proofs.examine.examine.Goals as goal

pub returns-then-is_blank : goal.returns-then-is_blank
returns-then-is_blank c = rw c.effect.ensures
    (effects.blank_told _ _ _ _ _ (sym c.is_blank.ensures ∙ c.if-is_blank.true) c.requires.stood)

pub returns-in-Part : goal.returns-in-Part
returns-in-Part c =
    effects.part_told _ _ _ _ (sym c.is_blank.ensures ∙ c.if-is_blank.false) c.requires.stood
    (sym c.in-Part.ensures)

pub returns-in-NotChar : goal.returns-in-NotChar
returns-in-NotChar c = (
  effects.bad_told _ _ _ _ (sym c.is_blank.ensures ∙ c.if-is_blank.false) c.requires.stood
      (sym c.in-NotChar.ensures),
  λ e. cc,
)

pub returns-in-Char : goal.returns-in-Char
returns-in-Char c = rw c.effect-in-Char.ensures
    (effects.char_told _ _ _ _ _ _ _ (sym c.is_blank.ensures ∙ c.if-is_blank.false)
    c.requires.stood c.requires.end c.in-Char.ensures)
