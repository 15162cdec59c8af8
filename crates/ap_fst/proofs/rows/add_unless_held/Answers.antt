use Rattle.std.proofs.Common.{refl, sym, rules}
use Rattle.ap_fst.specs.Covering.{beyond, held, other}
use Rattle.ap_fst.proofs.rows.add_unless_held.Goals as goal

pub returns-in_default : goal.returns-in_default
returns-in_default c = beyond c.in_default.ensures refl

pub returns-then-is_held : goal.returns-then-is_held
returns-then-is_held c = held (c.is_held.ensures (search rules)) refl

pub returns : goal.returns
returns c = other c.in-Some.place (sym c.in-Some.ensures) c.in_ok-push.ensures.items
