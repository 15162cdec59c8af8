use Rattle.std.proofs.Common.{◌≡◌, ◌∙◌, ap, sym, [], List, ℕ, ◌++◌}
use Rattle.ap_stream.specs.Told.{Clean, behind}
use Rattle.ap_format.specs.Deformatted.{des_from}
use Rattle.ap_stream.proofs.Stop.{begins_from_nil}
use Rattle.ap_format.proofs.Moving.{des_end, des_over, no_bytes}
use Rattle.ap_format.proofs.deformat.DestxtStage.end.Goals as goal

pub returns-then-is_empty-clause-rest : goal.returns-then-is_empty-clause-rest
returns-then-is_empty-clause-rest c =
    let ends = c.in-Ok.ensures.ends in
    rw (← c.self.view_is, c.in-None.is)
    (des_end _ _ _ _ ends.0 (c.is_idle.ensures.idle c.if-not-is_idle.false)
    (rw c.clear.ensures at ends.1) ends.3 ends.5)

pub returns-else-is_empty-clause-rest : goal.returns-else-is_empty-clause-rest
returns-else-is_empty-clause-rest c =
    let ends = c.in-Ok.ensures.ends in
    rw (← c.self.view_is, c.in-None.is)
    (des_end _ _ _ _ ends.0 (c.is_idle.ensures.idle c.if-not-is_idle.false)
    (rw c.clear.ensures at ends.1) ends.3 ends.5)

pub returns-then-is_empty-clause-over : goal.returns-then-is_empty-clause-over
returns-then-is_empty-clause-over c = λ _.
    let ends = c.in-Ok.ensures.ends in
    let none : c.finish.new.out ≡ [] = sym c.as_slice.ensures
    ∙ no_bytes _ (sym c.is_empty.ensures ∙ c.if-is_empty.true) in
    rw c.in-None.is (
      ap (λ (s : List ℕ). behind s
          (des_from c.finish.new.self.place (c.finish.new.self.bytes ++ []) Clean)) none
          ∙ des_over _ ends.3,
      none,
    )

pub returns-in-Err-clause-front : goal.returns-in-Err-clause-front
returns-in-Err-clause-front c = λ _. begins_from_nil _ _ c.clear-in-Err.ensures
