use Rattle.std.proofs.Common.{◌≡◌, ◌∙◌, ap, sym, Ok}
use Rattle.std.specs.List.{filter}
use Rattle.ap_passes.specs.Splitting.{is_filled, parts, split}
use Rattle.ap_passes.proofs.Staying.{split_open}
use Rattle.ap_passes.proofs.splitting.split_word.Goals as goal

pub returns-then-branch : goal.returns-then-branch
returns-then-branch c =
    let e : filter is_filled (parts c.move_invariable.new.into) ≡ split c.args.word.now =
    ap (λ z. filter is_filled (parts z))
    (c.in_ok-move_invariable.ensures.moves (ap Ok c.if-branch.true))
    ∙ sym (split_open c.args.word.now
    (rw c.symbols.ensures.symbols at (c.stays.ensures.open c.if-stays.false))) in
    rw (← e) c.parts_of.ensures

pub returns : goal.returns
returns c =
    let e : filter is_filled (parts c.args.word.now) ≡ split c.args.word.now =
    ap (λ z. filter is_filled (parts z))
    (sym (c.in_ok-move_invariable.ensures.stays (ap Ok c.if-branch.false)))
    ∙ sym (split_open c.args.word.now
    (rw c.symbols.ensures.symbols at (c.stays.ensures.open c.if-stays.false))) in
    rw (← e) c.parts_of-2.ensures
