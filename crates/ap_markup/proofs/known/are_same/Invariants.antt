use Rattle.std.proofs.Common.{◌≡◌, drop}
use Rattle.ap_markup.proofs.known.are_same.Given as goal

abbrev pub invariant-given : goal.invariant-given
invariant-given l = drop l.one-index l.a ≡ l.rest → l.a ≡ l.b
