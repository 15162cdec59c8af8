-- The symbols of a word that is read are those that words hold.
use Rattle.std.specs.Prelude.{◌≡◌, ℕ, zero, suc, ◌<◌, List, [], ◌∷◌, ◌++◌, length, Bool, true, false, eqb, Option, Some, None, slice_get, refl, encode_utf8}
use Rattle.std.specs.List.{list_any, list_all}
use Rattle.std.specs.Str.{encode_utf8_all}
use Rattle.std.proofs.Common.{arith, ap, sym, subst, ◌∙◌}
use Rattle.std.proofs.lemmas.List.Folds.{list_any-append}
use Rattle.std.proofs.lemmas.Bool.Decides.{nat_tests}
use Rattle.std.proofs.Math.Seq.{take-append_seam}
use Rattle.ap_symbol.specs.declared.symbol.Symbol.{Symbol}
use Rattle.ap_symbol.specs.declared.symbol.Symbol.TheVariants as symbol
use Rattle.ap_symbol.specs.Words.{is_proper, AreProper}
use Rattle.ap_symbol.specs.Coded.{AreNamed}
use Rattle.ap_symbol.specs.TagNames.{is_reserved_lem, is_tag_name}
use Rattle.ap_stream.specs.declared.dialect.Dialect.{Dialect}
use Rattle.ap_stream.specs.Chars.{Front, Char}
use Rattle.ap_stream.specs.Units.{form_of}
use Rattle.ap_stream.specs.UnitBytes.{UnitOf}
use Rattle.ap_stream.proofs.InUnitLaws.{unit_always}
use Rattle.ap_stream.specs.Laws.{IsSpelt, AreSpelt, EachSpelt, AreWords}
use Rattle.ap_stream.proofs.Back.{char_back, some_named}
use Rattle.ap_stream.proofs.SignLaws.{KeepsPlain, char_plain}
use Rattle.ap_stream.proofs.WordsRead.{unit_words}

named_free : (cs : List ℕ) → AreNamed cs → list_any is_reserved_lem (encode_utf8_all cs) ≡ false
named_free [] h = refl
named_free (c ∷ cs) h =
    let keeps : KeepsPlain (encode_utf8 c ++ []) (Char c (length (encode_utf8 c))) =
    subst (λ (f : Front). KeepsPlain (encode_utf8 c ++ []) f) (char_back c [] h.0)
    (char_plain (encode_utf8 c ++ [])) in
    let one : list_any is_reserved_lem (encode_utf8 c) ≡ false =
    ap (list_any is_reserved_lem) (sym (take-append_seam (encode_utf8 c) [])) ∙ keeps h.1 in
    list_any-append is_reserved_lem (encode_utf8 c) (encode_utf8_all cs)
    ∙ rw (one, named_free cs h.2) refl

named_proper : (name : List ℕ) (cs : List ℕ) → name ≡ encode_utf8_all cs → AreNamed cs →
    0 < length cs → is_tag_name name ≡ true
named_proper name cs e h some =
    let full : 0 < length name = let m = some_named cs h some in
    subst (λ (q : List ℕ). 0 < length q) (sym e) m in
    let counted : eqb (length name) 0 ≡ false = grind (arith, nat_tests, full) in
    let free : list_any is_reserved_lem name ≡ false = ap (list_any is_reserved_lem) e
    ∙ named_free cs h in
    rw (counted, free) refl

spelt_proper : (surface : Bool) (s : Symbol) → IsSpelt surface s → is_proper s ≡ true
spelt_proper surface (symbol.Letter c) h = rw (h.1) refl
spelt_proper surface (symbol.Tag name) h = named_proper name h.1.0 h.1.1 h.1.2 h.1.3
spelt_proper surface symbol.Blank h = refl
spelt_proper surface symbol.Join h = refl
spelt_proper surface symbol.Queue h = refl
spelt_proper surface symbol.Alarm h = refl
spelt_proper surface symbol.Star h = refl
spelt_proper surface symbol.At h = refl

pub word_proper : (surface : Bool) (word : List Symbol) → AreSpelt surface word →
    list_all is_proper word ≡ true
word_proper surface [] h = refl
word_proper surface (s ∷ word) h =
    rw (spelt_proper surface s h.0, word_proper surface word h.1) refl

abbrev ProperAt : Option (List Symbol) → Type 0
ProperAt None = Unit {0}
ProperAt (Some word) = AreProper word

each_proper : (words : List (List Symbol)) (at : ℕ) → EachSpelt words →
    ProperAt (slice_get words at)
each_proper [] at h = tt
each_proper (word ∷ words) zero h = word_proper false word h.0
each_proper (word ∷ words) (suc at) h = each_proper words at h.1

words_proper : (dialect : Dialect) (words : List (List Symbol)) (at : ℕ) → AreWords dialect words →
    ProperAt (slice_get words at)
words_proper dialect [] at h = tt
words_proper dialect (word ∷ words) zero h = word_proper (form_of dialect).surface word h.2
words_proper dialect (word ∷ words) (suc at) h = each_proper words at h.3

-- each word of a unit that is read is proper
pub unit_proper : (dialect : Dialect) (held : List ℕ) (words : List (List Symbol)) (at : ℕ)
    (word : List Symbol) → UnitOf dialect held words → slice_get words at ≡ Some word →
    AreProper word
unit_proper dialect held words at word u e =
    subst (λ (q : Option (List Symbol)). ProperAt q) e
    (words_proper dialect words
    at (unit_words dialect (held ++ []) words (length held)
    (unit_always dialect held words u [])))
