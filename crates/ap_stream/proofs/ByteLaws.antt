-- What the code makes of one more byte.
use Rattle.std.specs.Prelude.{◌≡◌, ℕ, ◌<◌, List, [], ◌∷◌, ◌++◌, length, true, false, eqb, refl}
use Rattle.std.proofs.Common.{arith, ap, sym, subst, ◌∙◌, length-append}
use Rattle.ap_stream.specs.declared.dialect.Dialect.{Dialect}
use Rattle.ap_stream.specs.declared.item.Item.TheVariants as item
use Rattle.ap_stream.specs.Chars.{Part, Char, char_at}
use Rattle.ap_stream.proofs.CharLaws.{char_length}
use Rattle.ap_stream.specs.Reading.{Whole}
use Rattle.ap_stream.specs.Stands.{Always, InBlank, Within}
use Rattle.ap_stream.proofs.StandLaws.{blank_on, bracket_on, blank_ends}
use Rattle.ap_stream.specs.Blanks.{is_white}
use Rattle.std.proofs.Common.{get_or}
use Rattle.std.proofs.lemmas.Bool.{eqb-true}

-- a character that wasn't whole before its last byte
pub whole_char : (old part : List ℕ) (b c n : ℕ) → part ≡ old ++ b ∷ [] → char_at old ≡ Part →
    Char c n ≡ char_at part → char_at part ≡ Char c (length part)
whole_char old part b c n p h e =
    let k : char_at (old ++ b ∷ []) ≡ Char c n = ap char_at (sym p) ∙ sym e in
    let l : n ≡ length part = char_length old b c n h k ∙ ap length (sym p) in
    sym e ∙ ap (Char c) l

pub some_part : (old part : List ℕ) (b : ℕ) → part ≡ old ++ b ∷ [] → 0 < length part
some_part old part b p = rw (p, length-append) (omega arith)

eqb_is : (b : ℕ) → eqb b 91 ≡ true → b ≡ 91
eqb_is b h = eqb-true b 91 h

pub one_byte : (old part : List ℕ) (b : ℕ) → part ≡ old ++ b ∷ [] → old ≡ [] →
    part ≡ get_or part 0 0 ∷ []
one_byte [] part b p h = p ∙ ap (λ c. c ∷ []) (ap (λ q. get_or q 0 0) (sym p))
one_byte (a ∷ old) part b p h = absurd (cc)

pub goes_white : (done part : List ℕ) → part ≡ get_or part 0 0 ∷ [] → InBlank done →
    is_white (get_or part 0 0) ≡ true → InBlank (done ++ part)
goes_white done part p h w = let P : List ℕ → Type 0 = λ q. InBlank (done ++ q) in
    subst P (sym p) (blank_on done (get_or part 0 0) h w)

pub goes_bracket : (done part : List ℕ) → part ≡ get_or part 0 0 ∷ [] → InBlank done →
    eqb (get_or part 0 0) 91 ≡ true → Within false (done ++ part) []
goes_bracket done part p h w =
    let P : List ℕ → Type 0 = λ q. Within false (done ++ q) [] in
    subst P (sym (p ∙ ap (λ c. c ∷ []) (eqb_is _ w))) (bracket_on done h)

pub goes_end : (dialect : Dialect) (done part : List ℕ) → part ≡ get_or part 0 0 ∷ [] →
    InBlank done → is_white (get_or part 0 0) ≡ false → eqb (get_or part 0 0) 91 ≡ false →
    Always dialect (done ++ part) (Whole (item.Blank done) (length done))
goes_end dialect done part p h w k = let P : List ℕ → Type 0 =
    λ q. Always dialect (done ++ q) (Whole (item.Blank done) (length done)) in
    subst P (sym p) (blank_ends dialect done (get_or part 0 0) h w k)

pub nothing_part : char_at [] ≡ Part
unfolding char_at
nothing_part = refl

pub some_blank : (held : List ℕ) → InBlank held → 0 < length held
some_blank [] h = absurd (let e = h.begins in cc)
some_blank (a ∷ held) h = omega arith
