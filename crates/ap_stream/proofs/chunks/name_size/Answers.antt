use Rattle.std.proofs.Common.{arith, ap, sym, ◌∙◌, ◌≡◌, drop}
use Rattle.std.proofs.lemmas.List.{length-drop}
use Rattle.ap_stream.proofs.SignLaws as laws
use Rattle.ap_stream.specs.Chars.{Char, char_at}
use Rattle.ap_stream.specs.Units.{Runs, Breaks, Stops, name}
use Rattle.ap_stream.proofs.ChunkWalk.{never, unbroken, same}
use Rattle.ap_stream.proofs.chunks.name_size.Goals.{In-Char}
use Rattle.ap_stream.proofs.chunks.name_size.Goals as goal

char_is : (c : In-Char) → Char c.in-Char.letter c.in-Char.size
    ≡ char_at (drop c.loop-at.at c.args.bytes.now)
char_is c = c.in-Char.ensures ∙ ap char_at (laws.slice_rest c.args.bytes.now c.loop-at.at)

pub returns-in-Part-clause-size : goal.returns-in-Part-clause-size
returns-in-Part-clause-size c = λ n d e.
    let none : name 0 c.args.bytes.now ≡ Runs =
    laws.name_runs _ c.loop-at.at 0 0 c.loop-at.invariant.on
    (c.in-Part.ensures ∙ ap char_at (laws.slice_rest c.args.bytes.now c.loop-at.at)) in
    absurd (never (sym none ∙ e))

pub returns-in-NotChar-clause-size : goal.returns-in-NotChar-clause-size
returns-in-NotChar-clause-size c = λ n d e.
    let none : name 0 c.args.bytes.now ≡ Breaks =
    laws.name_broken _ c.loop-at.at 0 0 c.loop-at.invariant.on
    (c.in-NotChar.ensures ∙ ap char_at (laws.slice_rest c.args.bytes.now c.loop-at.at)) in
    absurd (unbroken (sym none ∙ e))

pub returns-then-is_reserved_in_tag-clause-size : goal.returns-then-is_reserved_in_tag-clause-size
returns-then-is_reserved_in_tag-clause-size c = λ n d e.
    let stops : name 0 c.args.bytes.now ≡ Stops c.loop-at.at c.in-Char.letter =
    laws.name_stops _ c.loop-at.at c.in-Char.letter c.in-Char.size c.loop-at.invariant.on
    (char_is (goal.at.returns-then-is_reserved_in_tag-clause-size c).In-Char)
    (sym c.is_reserved_in_tag.ensures ∙ c.if-is_reserved_in_tag.true) in
    same (sym stops ∙ e)

pub overflow_add-at : goal.overflow_add-at
overflow_add-at c =
    let fits = laws.whole_fits _ _ _ (char_is (goal.at.overflow_add-at c).In-Char) in
    let l = length-drop c.loop-at.at c.args.bytes.now in omega (arith, fits.1, l)

pub loop-at-smaller : goal.loop-at-smaller
loop-at-smaller c =
    let fits = laws.whole_fits _ _ _ (char_is (goal.at.loop-at-smaller c).In-Char) in
    let l = length-drop c.loop-at.at c.args.bytes.now in
    omega (arith, fits.0, fits.1, l, c.loop-at-test.true)

pub loop-at-preserved : goal.loop-at-preserved
loop-at-preserved c =
    let is = char_is (goal.at.loop-at-preserved c).In-Char in
    let fits = laws.whole_fits _ _ _ is in
    let l = length-drop c.loop-at.at c.args.bytes.now in
    record {
      fits = omega (arith, fits.1, l, c.loop-at.invariant.fits);
      on = laws.name_more _ c.loop-at.at c.in-Char.letter c.in-Char.size c.loop-at.invariant.on is
          (sym c.is_reserved_in_tag.ensures ∙ c.if-is_reserved_in_tag.false);
    }

pub returns-clause-size : goal.returns-clause-size
returns-clause-size c = λ n d e.
    let none : name 0 c.args.bytes.now ≡ Runs =
    laws.name_over _ c.loop-at.at 0 0 c.loop-at.invariant.on
    (omega (arith, c.loop-at-test.false)) in
    absurd (never (sym none ∙ e))
