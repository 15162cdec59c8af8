-- The made text is given part by part.
use Rattle.std.proofs.Common.{◌≡◌, ℕ, zero, suc, ◌+◌, ◌-◌, ◌*◌, ◌<◌, ◌≤◌, Bool, true, false, List, [], ◌∷◌, ◌++◌, length, take, drop, arith, sym, ap, ◌∙◌, subst, refl, append_assoc, length-append}
use Rattle.std.specs.Prelude.{◌%◌, ◌==◌, decimal, codes, if◌then◌else◌}
use Rattle.std.proofs.Math.Seq.{drop-length, take-append-add}
use Rattle.std.proofs.lemmas.Fmt.{length-decimal-le}
use Rattle.std.proofs.lemmas.List.{take-append-le, take_all, length-take, length-drop}
use Rattle.ap_outside.proofs.Pieces.{piece-rest}
use Rattle.ap_command.specs.declared.made.Part.{Part}
use Rattle.ap_command.specs.declared.made.Part.TheVariants.{Head, Number, Tail}
use Rattle.ap_command.specs.Words.{work_max}
use Rattle.ap_command.specs.Working.{head, tail, part_text, behind_part, sentence, sentences_from, made_text, left_of}

-- at the start of a sentence all of it is left
pub all-left : (number more : ℕ) → left_of Head number 0 more ≡ sentences_from number more
unfolding sentences_from
all-left number zero = refl
all-left number (suc more) =
    sym (append_assoc (head number) (decimal number ++ tail number) (sentences_from (suc number) more))

pub all-made : (sentences more : ℕ) → more ≡ sentences → left_of Head 0 0 more
    ≡ made_text sentences
all-made sentences more e = all-left 0 more ∙ ap (sentences_from 0) e

pub on-number : (number more : ℕ) → 0 < more → left_of Number number 0 more
    ≡ left_of Head number (length (head number)) more
on-number number zero h = absurd (omega arith)
on-number number (suc more) h =
    sym (ap (λ a. a ++ ((decimal number ++ tail number) ++ sentences_from (suc number) more))
    (drop-length (head number))
    ∙ append_assoc (decimal number) (tail number) (sentences_from (suc number) more))

pub on-tail : (number more : ℕ) → 0 < more → left_of Tail number 0 more
    ≡ left_of Number number (length (decimal number)) more
on-tail number zero h = absurd (omega arith)
on-tail number (suc more) h =
    sym (ap (λ a. a ++ (tail number ++ sentences_from (suc number) more))
    (drop-length (decimal number)))

pub on-sentence : (number more less : ℕ) → more ≡ suc less → left_of Head (number + 1) 0 less
    ≡ left_of Tail number (length (tail number)) more
on-sentence number zero less e = absurd (omega arith)
on-sentence number (suc more) less e =
    let same : less ≡ more = omega arith in
    let next : number + 1 ≡ suc number = omega arith in
    ap (left_of Head (number + 1) 0) same ∙ ap (λ n. left_of Head n 0 more) next
    ∙ all-left (suc number) more
    ∙ sym (ap (λ a. a ++ ([] ++ sentences_from (suc number) more)) (drop-length (tail number)))

-- some bytes of a part are given
pub part-given : (part : Part) (number at count more : ℕ) (piece after : List ℕ) → 0 < more →
    piece ≡ take count (drop at (part_text part number)) →
    at + count ≤ length (part_text part number) → left_of part number at more
    ≡ take count (piece ++ after) ++ left_of part number (at + count) more
part-given part number at count zero piece after h e l = absurd (omega arith)
part-given part number at count (suc more) piece after h e l =
    ap (λ x. x ++ (behind_part part number ++ sentences_from (suc number) more))
    (piece-rest (part_text part number) piece after at count e l)
    ∙ append_assoc (take count (piece ++ after)) (drop (at + count) (part_text part number))
    (behind_part part number ++ sentences_from (suc number) more)

-- one piece more is given
pub more-given : (whole left next into piece behind : List ℕ) (at count : ℕ) →
    whole ≡ take at into ++ left → left ≡ take count piece ++ next → at ≤ length into →
    count ≤ length piece →
    whole ≡ take (at + count) (take at into ++ (piece ++ behind)) ++ next
more-given whole left next into piece behind at count e f l k =
    let front : length (take at into) ≡ at = omega (arith, length-take at into) in
    e ∙ ap (λ x. take at into ++ x) f
    ∙ sym (append_assoc (take at into) (take count piece) next)
    ∙ ap (λ x. x ++ next)
    (sym (ap (λ (n : ℕ). take (n + count) (take at into ++ (piece ++ behind))) (sym front)
    ∙ take-append-add (take at into) (piece ++ behind) count
    ∙ ap (λ x. take at into ++ x) (take-append-le count piece behind k)))

-- the bytes of a sentence
either-short : (b : Bool) (xs ys : List ℕ) (most : ℕ) → length xs ≤ most → length ys ≤ most →
    length (if b then xs else ys) ≤ most
either-short true xs ys most h k = h
either-short false xs ys most h k = k

pub head-short : (number : ℕ) → length (head number) ≤ 15
head-short number = either-short (number % 2 == 0) (codes "The black dog[<") (codes "black cats[<") 15
    (omega arith) (omega arith)

pub tail-short : (number : ℕ) → length (tail number) ≤ 15
tail-short number = either-short (number % 2 == 0) (codes ">] of the cat.\n") (codes ">] sleep.\n") 15
    (omega arith) (omega arith)

pub one-more : (number more size : ℕ) → 0 < more
    → size + length (sentences_from number more)
    ≡ (size + ((length (head number) + length (decimal number)) + length (tail number)))
    + length (sentences_from (number + 1) (more - 1))
unfolding sentences_from
one-more number zero size h = absurd (omega arith)
one-more number (suc more) size h =
    let same : number + 1 ≡ suc number = omega arith in
    let less : suc more - 1 ≡ more = omega arith in
    let counts : length (sentences_from (number + 1) (suc more - 1))
    ≡ length (sentences_from (suc number) more) =
    ap (λ n. length (sentences_from n (suc more - 1))) same
    ∙ ap (λ n. length (sentences_from (suc number) n)) less in
    omega (
      arith,
      counts,
      length-append (sentence number) (sentences_from (suc number) more),
      length-append (head number) (decimal number ++ tail number),
      length-append (decimal number) (tail number),
    )

-- so many sentences are within any limit
pub made-short : (number more : ℕ) → number + more ≤ work_max →
    length (sentences_from number more) ≤ 40 * more
unfolding sentences_from
made-short number zero h = omega arith
made-short number (suc more) h =
    let digits : length (decimal number) ≤ 7 = length-decimal-le 7 number (omega arith)
    (omega (arith, h)) (omega (arith, h)) in
    omega (
      arith,
      digits,
      head-short number,
      tail-short number,
      made-short (suc number) more (omega (arith, h)),
      length-append (sentence number) (sentences_from (suc number) more),
      length-append (head number) (decimal number ++ tail number),
      length-append (decimal number) (tail number),
    )

pub no-more-bytes : (number more size whole : ℕ) → more ≡ 0 →
    size + length (sentences_from number more) ≡ whole → size ≡ whole
unfolding sentences_from
no-more-bytes number zero size whole e h = omega (arith, h)
no-more-bytes number (suc more) size whole e h = absurd (omega arith)

-- what was given fits
pub placed : (into piece behind : List ℕ) (at count : ℕ) → at ≤ length into →
    count ≤ length piece → at + count ≤ length (take at into ++ (piece ++ behind))
placed into piece behind at count h k =
    omega (
      arith,
      h,
      k,
      length-take at into,
      length-append (take at into) (piece ++ behind),
      length-append piece behind,
    )

-- all that is left of a slice
pub rest-all : (xs : List ℕ) (at : ℕ) → take (length xs - at) (drop at xs) ≡ drop at xs
rest-all xs at = take_all (length xs - at) (drop at xs) (omega (arith, length-drop at xs))
