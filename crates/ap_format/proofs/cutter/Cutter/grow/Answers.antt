use Rattle.std.proofs.Common.{◌≡◌, ◌∙◌, ap, arith, ◌++◌, ◌∷◌, [], sym, length, length-append}
use Rattle.ap_stream.specs.Chars.{Part, NotChar, Char, char_at}
use Rattle.ap_format.proofs.Cuts.{part_short}
use Rattle.ap_format.proofs.Moving.{cuts_letter, letter_is, letter_short}
use Rattle.ap_format.proofs.cutter.Cutter.grow.Goals as goal
use Rattle.ap_format.proofs.cutter.Cutter.grow.Goals.{In-Char}

pub invariant_of-self-in-Part : goal.invariant_of-self-in-Part
invariant_of-self-in-Part c =
    let part : char_at c.push.new.self.items ≡ Part =
    ap char_at (sym c.as_slice.ensures.value) ∙ sym c.in-Part.ensures in
    let size = ap length c.in_ok-push.ensures.items ∙ length-append c.self.inside.held.items
    (c.args.byte ∷ []) in
    (part, omega (arith, size), part_short _ part)

pub invariant_of-self-in-NotChar : goal.invariant_of-self-in-NotChar
invariant_of-self-in-NotChar c =
    let bad : char_at c.push.new.self.items ≡ NotChar =
    ap char_at (sym c.as_slice.ensures.value) ∙ sym c.in-NotChar.ensures in
    let size = ap length c.in_ok-push.ensures.items ∙ length-append c.self.inside.held.items
    (c.args.byte ∷ []) in
    let before = part_short _ (rw (← c.self.view_is) at c.requires.part) in
    (bad, omega (arith, size), omega (arith, size, before))

whole : (c : In-Char) → char_at (c.self.inside.held.items ++ c.args.byte ∷ [])
    ≡ Char c.in-Char.letter c.in-Char.size
whole c = ap char_at (sym c.in_ok-push.ensures.items ∙ sym c.as_slice.ensures.value)
    ∙ sym c.in-Char.ensures

part : (c : In-Char) → char_at c.self.inside.held.items ≡ Part
part c = rw (← c.self.view_is) at c.requires.part

pub write_letter-requires : goal.write_letter-requires
write_letter-requires c =
    let k = (goal.at.write_letter-requires c).In-Char in
    c.as_slice-in-Char.ensures.value ∙ c.in_ok-push.ensures.items
    ∙ letter_is _ _ _ _ (part k) (whole k)

pub returns-in-Ok-clause-cuts : goal.returns-in-Ok-clause-cuts
returns-in-Ok-clause-cuts c =
    let k = (goal.at.returns-in-Ok-clause-cuts c).In-Char in
    rw (← c.self.view_is)
    (cuts_letter _ _ c.args.byte c.in-Char.letter c.in-Char.size _ _ (part k)
    (rw (← c.self.view_is) at c.requires.dark) (whole k) c.clear.ensures.items
    c.place_after-self-inside.ensures c.in-Ok.ensures)

pub returns-in-Ok-clause-short : goal.returns-in-Ok-clause-short
returns-in-Ok-clause-short c =
    let k = (goal.at.returns-in-Ok-clause-short c).In-Char in
    let before = part_short _ (part k) in
    let size = ap length (letter_is _ _ _ _ (part k) (whole k)) in
    let more = length-append c.self.inside.held.items (c.args.byte ∷ []) in
    let most = letter_short c.in-Char.letter in
    let all = ap length c.in-Ok.ensures ∙ length-append c.args.out.now _ in
    omega (arith, all, most, size, more, before)
