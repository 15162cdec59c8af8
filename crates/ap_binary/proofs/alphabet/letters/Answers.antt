use Rattle.std.proofs.Common.{◌≡◌, ◌+◌, ◌-◌, ◌++◌, ◌∷◌, [], suc, length, arith, sym, ◌∙◌, List, ℕ, length-append, ap}
use Rattle.std.proofs.lemmas.Result.{err_from_is_err_and}
use Rattle.ap_binary.specs.Pieces.{letters_in}
use Rattle.ap_binary.proofs.Letters.{letters_go, letters_stop, letters_done, some_left}
use Rattle.ap_binary.proofs.alphabet.letters.Goals as goal

pub returns-in_err-letter-clause-gives : goal.returns-in_err-letter-clause-gives
returns-in_err-letter-clause-gives c =
    let p = err_from_is_err_and c.from_residual.result c.from_residual.ensures.1 in
    let begins = sym c.begins_with.ensures ∙ c.letters-test.true in
    rw (p.1, p.2) (letters_stop c.in_err-letter.field-0.0 c.letters.found
    (length c.args.bytes.now - length c.letters.found) c.letters.least c.letters.rest.now
    (letters_in (length c.args.bytes.now) 0 c.args.bytes.now)
    (omega (arith, c.letters.invariant.few, some_left c.letters.rest.now begins)) begins
    c.in_err-letter.ensures.gives c.letters.invariant.meaning)

pub letters-smaller : goal.letters-smaller
letters-smaller c = c.in_ok-letter.ensures.shorter

pub letters-preserved : goal.letters-preserved
letters-preserved c =
    let total = length c.args.bytes.now in
    let found : List ℕ = c.letters.found in
    let letter = c.in_ok-letter.letter in
    let less = c.in_ok-letter.ensures.shorter in
    let len : length c.push.new.self ≡ length found + 1 = ap length c.in_ok-push.ensures.ok
    ∙ length-append found (letter ∷ []) in
    let count : total - length found ≡ suc (total - length c.push.new.self) =
    omega (arith, len, less, c.letters.invariant.few) in
    record {
      shrinks = omega (arith, less, c.letters.invariant.shrinks);
      few = omega (arith, len, less, c.letters.invariant.few);
      meaning = rw c.in_ok-push.ensures.ok
          (letters_go found (total - length found) (total - length (found ++ letter ∷ []))
          c.letters.least c.letters.rest.now c.in_ok-letter.after.now letter
          (letters_in total 0 c.args.bytes.now)
          (count ∙ ap (λ (z : List ℕ). suc (total - length z)) c.in_ok-push.ensures.ok)
          (sym c.begins_with.ensures ∙ c.letters-test.true) c.in_ok-letter.ensures.gives
          c.letters.invariant.meaning);
    }

pub returns-clause-gives : goal.returns-clause-gives
returns-clause-gives c =
    letters_done c.letters.found (length c.args.bytes.now - length c.letters.found) c.letters.least
    c.letters.rest.now (letters_in (length c.args.bytes.now) 0 c.args.bytes.now)
    (sym c.begins_with.ensures ∙ c.letters-test.false) c.letters.invariant.meaning
