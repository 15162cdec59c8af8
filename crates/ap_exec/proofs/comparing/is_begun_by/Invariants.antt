use Rattle.std.proofs.Common.{◌≡◌, drop}
use Rattle.ap_exec.specs.Comparing.{is_begun_by}
use Rattle.ap_exec.proofs.comparing.is_begun_by.Given as goal

abbrev pub invariant-loop-s : goal.invariant-loop-s
invariant-loop-s l = is_begun_by l.caseless (drop l.s-index l.part) l.rest
    ≡ is_begun_by l.caseless l.part l.word
