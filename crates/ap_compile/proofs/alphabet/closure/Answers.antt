use Rattle.std.proofs.Common.{List, ℕ, subst, sym}
use Rattle.ap_symbol.specs.Alphabet.{IsClosure}
use Rattle.ap_fst.specs.Sections.{IsAlphabet}
use Rattle.ap_compile.proofs.Lettering.{closure_from, alphabet_from, members_through}
use Rattle.ap_compile.proofs.alphabet.closure.Goals as goal

pub returns-clause-closure : goal.returns-clause-closure
returns-clause-closure c =
    subst (λ (xs : List ℕ). IsClosure c.args.alphabet.now xs) (sym c.from_vec.ensures)
    (closure_from c.args.alphabet.now c.sort_letters.new.letters.items
    (members_through c.args.alphabet.now c.as_slice.result.now c.in_ok-letters.letters.items
    c.sort_letters.new.letters.items c.as_slice.ensures c.in_ok-letters.ensures
    c.sort_letters.ensures.members))

pub returns-clause-alphabet : goal.returns-clause-alphabet
returns-clause-alphabet c = subst (λ (xs : List ℕ). IsAlphabet xs) (sym c.from_vec.ensures)
    (alphabet_from c.closure_is_closed.ensures c.case_keeps_words.ensures.white c.args.alphabet.now
    c.sort_letters.new.letters.items c.requires c.sort_letters.ensures.ascend
    (members_through c.args.alphabet.now c.as_slice.result.now c.in_ok-letters.letters.items
    c.sort_letters.new.letters.items c.as_slice.ensures c.in_ok-letters.ensures
    c.sort_letters.ensures.members))
