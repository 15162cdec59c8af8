use Rattle.std.proofs.Common.{arith, ap, sym, subst, ◌∙◌, ◌≡◌, ◌++◌, take, drop, false}
use Rattle.std.proofs.lemmas.List.{length-drop}
use Rattle.std.specs.String.{string_bytes}
use Rattle.std.specs.Prelude.{encode_utf8}
use Rattle.ap_symbol.specs.TagNames.{is_reserved_lem}
use Rattle.std.proofs.Math.Seq.{take-add}
use Rattle.ap_stream.specs.Chars.{Front, Char, char_at}
use Rattle.ap_stream.proofs.Encoding.{char_encodes, Encodes}
use Rattle.ap_stream.proofs.SignLaws as laws
use Rattle.ap_stream.proofs.words.name_of.Goals as goal
use Rattle.ap_stream.proofs.words.name_of.Goals.{In-Char}

char_is : (c : In-Char) → Char c.in-Char.letter c.in-Char.size
    ≡ char_at (drop c.loop-at.at c.args.bytes.now)
char_is c = c.in-Char.ensures ∙ ap char_at (laws.slice_rest c.args.bytes.now c.loop-at.at)

pub returns-in-Part : goal.returns-in-Part
returns-in-Part c = laws.name_runs _ c.loop-at.at 0 0 c.loop-at.invariant.on
    (c.in-Part.ensures ∙ ap char_at (laws.slice_rest c.args.bytes.now c.loop-at.at))

pub returns-in-NotChar : goal.returns-in-NotChar
returns-in-NotChar c = laws.name_broken _ c.loop-at.at 0 0 c.loop-at.invariant.on
    (c.in-NotChar.ensures ∙ ap char_at (laws.slice_rest c.args.bytes.now c.loop-at.at))

pub returns-then-is_reserved_in_tag : goal.returns-then-is_reserved_in_tag
returns-then-is_reserved_in_tag c = (
  c.loop-at.at,
  c.loop-at.invariant.text,
  omega (arith, c.loop-at-test.true),
  c.loop-at.invariant.plain,
  laws.name_stops _ c.loop-at.at c.in-Char.letter c.in-Char.size c.loop-at.invariant.on
      (char_is (goal.at.returns-then-is_reserved_in_tag c).In-Char)
      (sym c.is_reserved_in_tag.ensures ∙ c.if-is_reserved_in_tag.true),
)

pub overflow_add-at : goal.overflow_add-at
overflow_add-at c = let fits = laws.whole_fits _ _ _ (char_is (goal.at.overflow_add-at c).In-Char)
    in let l = length-drop c.loop-at.at c.args.bytes.now in omega (arith, fits.1, l)

pub loop-at-smaller : goal.loop-at-smaller
loop-at-smaller c = let fits = laws.whole_fits _ _ _ (char_is (goal.at.loop-at-smaller c).In-Char)
    in let l = length-drop c.loop-at.at c.args.bytes.now in
    omega (arith, fits.0, fits.1, l, c.loop-at-test.true)

pub loop-at-preserved : goal.loop-at-preserved
loop-at-preserved c =
    let is = char_is (goal.at.loop-at-preserved c).In-Char in
    let fits = laws.whole_fits _ _ _ is in
    let l = length-drop c.loop-at.at c.args.bytes.now in
    let plain : is_reserved_lem c.in-Char.letter ≡ false = sym c.is_reserved_in_tag.ensures
    ∙ c.if-is_reserved_in_tag.false in
    let spelled : Encodes (drop c.loop-at.at c.args.bytes.now)
    (Char c.in-Char.letter c.in-Char.size) =
    subst (λ (f : Front). Encodes (drop c.loop-at.at c.args.bytes.now) f) (sym is)
    (char_encodes (drop c.loop-at.at c.args.bytes.now)) in
    let pushed : string_bytes c.push.new.self ≡ string_bytes c.loop-at.text
    ++ encode_utf8 c.in-Char.letter = c.in_ok-push-in-Char.ensures.bytes in
    record {
      fits = omega (arith, fits.1, l, c.loop-at.invariant.fits);
      text = pushed ∙ ap (λ q. q ++ encode_utf8 c.in-Char.letter) c.loop-at.invariant.text
          ∙ ap (λ q. take c.loop-at.at c.args.bytes.now ++ q) spelled
          ∙ sym (take-add c.loop-at.at c.in-Char.size c.args.bytes.now);
      plain = laws.more_plain _ c.loop-at.at c.in-Char.letter c.in-Char.size
          c.loop-at.invariant.plain is plain;
      on = laws.name_more _ c.loop-at.at c.in-Char.letter c.in-Char.size
          c.loop-at.invariant.on is plain;
    }

pub returns : goal.returns
returns c = laws.name_over _ c.loop-at.at 0 0 c.loop-at.invariant.on
    (omega (arith, c.loop-at-test.false))
