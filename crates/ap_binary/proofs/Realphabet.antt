-- The line of an alphabet that is written is read again.
use Rattle.std.proofs.Common.{◌≡◌, inl, inr, ℕ, suc, zero, ◌+◌, ◌<◌, ◌≤◌, Bool, true, false, nat_le, List, [], ◌∷◌, ◌++◌, length, refl, sym, ◌∙◌, ap, arith, append_assoc, length-append, Option, Some}
use Rattle.std.specs.Prelude.{decimal, codes}
use Rattle.std.specs.List.{flat_map, list_all}
use Rattle.std.proofs.lemmas.Bool.{and_parts}
use Rattle.std.proofs.lemmas.Bool.Decides.{nat_tests}
use Rattle.ap_symbol.specs.Alphabet.{is_closed}
use Rattle.ap_fst.specs.Lists.{IsIn}
use Rattle.ap_fst.proofs.PlaceLaws.{less_from_cmp}
use Rattle.ap_binary.specs.Pieces.{word_at, is_digit, character_at, next_letter_at, letters_in, alphabet_at}
use Rattle.ap_binary.specs.Text.{then_end, letter_text, alphabet_text}
use Rattle.ap_binary.proofs.Letters.{AreLetters, IsPlainLetter}
use Rattle.ap_binary.proofs.Numerals.{byte_back, word_back, character_back}
use Rattle.ap_binary.proofs.Rereading.{ended}

pub pass_at : {X : Type 0} (p : X → Bool) (xs : List X) (x : X) → list_all p xs ≡ true →
    IsIn x xs → p x ≡ true
pass_at p [] x h i = elim i [ ]
pass_at p (y ∷ xs) x h (inl e) = ap p e ∙ (and_parts (p y) (list_all p xs) h).0
pass_at p (y ∷ xs) x h (inr i) = pass_at p xs x (and_parts (p y) (list_all p xs) h).1 i

record BeginsOther (bytes : List ℕ) : Type 0 where
  first : ℕ
  tail : List ℕ
  is : bytes ≡ first ∷ tail
  other : is_digit first ≡ false

begins_other : (letters rest : List ℕ) → BeginsOther (flat_map letter_text letters ++ 10 ∷ rest)
begins_other [] rest = record { first = 10; tail = rest; is = refl; other = refl }
begins_other (c ∷ letters) rest =
    record {
      first = 32;
      tail = (decimal c ++ flat_map letter_text letters) ++ 10 ∷ rest;
      is =
          refl;
      other = refl;
    }

next_back : (least c : ℕ) (bytes : List ℕ) → least ≤ c → IsPlainLetter c → BeginsOther bytes →
    next_letter_at least (32 ∷ (decimal c ++ bytes)) ≡ Some (c, bytes)
unfolding next_letter_at
next_back least c bytes le plain b =
    let e : character_at (decimal c ++ bytes) ≡ Some (c, bytes) =
    ap (λ z. character_at (decimal c ++ z)) b.is
    ∙ character_back c b.first b.tail plain.char plain.plain b.other
    ∙ ap (λ (z : List ℕ). let r : Option (ℕ × List ℕ) = Some (c, z) in r) (sym b.is) in
    let t : nat_le least c ≡ true = grind (arith, nat_tests, le) in
    rw (byte_back 32 (decimal c ++ bytes), e, t) refl

rest_letters : (least c : ℕ) (letters : List ℕ) → AreLetters least (c ∷ letters) →
    AreLetters (c + 1) letters
rest_letters least c letters are = record {
  ascend = are.ascend.1;
  above = λ d i. let lt : c < d = less_from_cmp c d (are.ascend.0 d i) in omega arith;
  plain = λ d i. are.plain d (inr i);
}

letters_back : (n least : ℕ) (letters rest : List ℕ) → length letters ≤ n → AreLetters least letters
    → letters_in n least (flat_map letter_text letters ++ 10 ∷ rest) ≡ Some (letters, 10 ∷ rest)
unfolding letters_in
letters_back zero least [] rest le are = refl
letters_back (suc n) least [] rest le are = refl
letters_back zero least (c ∷ letters) rest le are = absurd (omega arith)
letters_back (suc n) least (c ∷ letters) rest le are =
    let more : List ℕ = flat_map letter_text letters ++ 10 ∷ rest in
    let e : flat_map letter_text (c ∷ letters) ++ 10 ∷ rest ≡ 32 ∷ (decimal c ++ more) =
    ap (λ z. 32 ∷ z) (append_assoc (decimal c) (flat_map letter_text letters) (10 ∷ rest)) in
    let next : next_letter_at least (32 ∷ (decimal c ++ more)) ≡ Some (c, more) =
    next_back least c more (are.above c (inl refl)) (are.plain c (inl refl))
    (begins_other letters rest) in
    let later : letters_in n (c + 1) more ≡ Some (letters, 10 ∷ rest) =
    letters_back n (c + 1) letters rest (omega arith) (rest_letters least c letters are) in
    ap (letters_in (suc n) least) e ∙ rw (next, later) refl

each_takes_a_byte : (letters rest : List ℕ) →
    length letters ≤ length (flat_map letter_text letters ++ rest)
each_takes_a_byte [] rest = omega arith
each_takes_a_byte (c ∷ letters) rest =
    let e : flat_map letter_text (c ∷ letters) ++ rest ≡ 32
    ∷ (decimal c ++ (flat_map letter_text letters ++ rest)) =
    ap (λ z. 32 ∷ z) (append_assoc (decimal c) (flat_map letter_text letters) rest) in
    let n : length (flat_map letter_text (c ∷ letters) ++ rest)
    ≡ length (32 ∷ (decimal c ++ (flat_map letter_text letters ++ rest))) = ap length e in
    let k : length (decimal c ++ (flat_map letter_text letters ++ rest))
    ≡ length (decimal c) + length (flat_map letter_text letters ++ rest) =
    length-append (decimal c) (flat_map letter_text letters ++ rest) in
    let h : length letters ≤ length (flat_map letter_text letters ++ rest) =
    each_takes_a_byte letters rest in
    rw n (omega arith)

alphabet_parts : (bytes word after rest letters : List ℕ) → word_at (codes "alphabet") bytes
    ≡ Some word → letters_in (length word) 0 word ≡ Some (letters, 10 ∷ rest) →
    is_closed letters ≡ true → alphabet_at bytes ≡ Some (letters, rest)
unfolding alphabet_at
alphabet_parts bytes word after rest letters p q closed = rw (p, q, byte_back 10 rest, closed) refl

pub alphabet_back : (letters rest : List ℕ) → AreLetters 0 letters → is_closed letters ≡ true →
    alphabet_at (alphabet_text letters ++ rest) ≡ Some (letters, rest)
alphabet_back letters rest are closed =
    let word : List ℕ = flat_map letter_text letters ++ 10 ∷ rest in
    let e : alphabet_text letters ++ rest ≡ codes "alphabet" ++ word =
    append_assoc (codes "alphabet") (then_end (flat_map letter_text letters)) rest
    ∙ ap (λ z. codes "alphabet" ++ z) (ended (flat_map letter_text letters) rest) in
    ap alphabet_at e ∙ alphabet_parts (codes "alphabet" ++ word) word [] rest letters
    (word_back (codes "alphabet") word)
    (letters_back (length word) 0 letters rest
    (each_takes_a_byte letters (10 ∷ rest)) are) closed
