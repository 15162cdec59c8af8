use Rattle.std.proofs.Common.{sym, ◌∙◌}
use Rattle.ap_stream.proofs.LevelLaws as levels
use Rattle.ap_stream.proofs.level.show_closed.Goals as goal

pub returns-then-is_byte : goal.returns-then-is_byte
returns-then-is_byte c =
    levels.chunk_told _ _ _ c.requires (sym c.is_byte.ensures ∙ c.if-is_byte.true)

pub returns-else-is_byte : goal.returns-else-is_byte
returns-else-is_byte c =
    rw c.wrong_byte.ensures
    (levels.no_dollar_told _ _ _ c.requires (sym c.is_byte.ensures ∙ c.if-is_byte.false))
