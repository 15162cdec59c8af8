use Rattle.std.proofs.Common.{◌≡◌, arith, sym, ◌∙◌, refl, take, drop, ◌-◌, slice_index_or}
use Rattle.std.proofs.lemmas.Slice.Eq.{bytes_eq-Decides}
use Rattle.ap_stream.specs.declared.kept_units.Entry.{Entry}
use Rattle.ap_stream.proofs.KeptUnits.{given_there}
use Rattle.ap_stream.proofs.kept_units.given_at.Goals as goal

pub returns-then-is_same : goal.returns-then-is_same
returns-then-is_same c = λ dialect given all.
    let none : Entry = record { from = 0; behind = 0; to = 0 } in
    let entry : Entry = slice_index_or c.args.entries.now c.args.at none in
    let same : take (entry.behind - entry.from) (drop entry.from c.args.bytes.now)
    ≡ c.args.key.now =
    (bytes_eq-Decides (take (entry.behind - entry.from) (drop entry.from c.args.bytes.now))
    c.args.key.now).0 (sym c.is_same.ensures ∙ c.if-is_same.true) in
    given_there dialect given c.args.bytes.now c.args.entries.now c.args.at none entry
    c.args.key.now _ (omega (arith, c.if-at-entries.false)) refl same refl all
