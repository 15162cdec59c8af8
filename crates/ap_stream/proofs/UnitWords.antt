-- The words of a unit that is whole, told from its bytes.
use Rattle.std.specs.Prelude.{◌≡◌, ℕ, zero, suc, ◌+◌, ◌-◌, ◌<◌, ◌≤◌, pred, List, [], ◌∷◌, ◌++◌, drop, length, Bool, true, false, cond, eqb, Some, None, slice_get, refl}
use Rattle.std.proofs.Common.{arith, ap, sym, subst, ◌∙◌, append_assoc, length-append}
use Rattle.std.proofs.lemmas.List.{append-nil}
use Rattle.std.proofs.lemmas.Option.{slice_get_past}
use Rattle.std.proofs.lemmas.Bool.Decides.{nat_tests}
use Rattle.ap_symbol.specs.declared.symbol.Symbol.{Symbol}
use Rattle.ap_stream.specs.declared.dialect.Dialect.{Dialect}
use Rattle.ap_stream.specs.declared.fault.MalformedKind.TheVariants.{Stray, EmptyWord}
use Rattle.ap_stream.specs.Units.{Form, form_of, Sign, Awaits, Bars, Reads, Slash, Dollar, Brace, sign, in_surface, is_none, may_part, may_end, early, Rest, Lacks, Wrong, Ends, rest, longer, gone}
use Rattle.ap_stream.specs.UnitBytes.{UnitOf, ended_words, unit_words, IsAt, held_words, IsHeld}
use Rattle.ap_stream.specs.declared.unit.Held.{Held}
use Rattle.ap_stream.specs.declared.unit.Held.TheVariants as held
use Rattle.ap_stream.proofs.InUnitLaws.{unit_always}
use Rattle.ap_stream.specs.Laws.{AreWords}
use Rattle.ap_stream.proofs.WordsRead.{unit_words as read_words}
use Rattle.ap_stream.proofs.SignLaws as laws

-- the unit of bytes has the words that its bytes are
pub words_are : (dialect : Dialect) (held : List ℕ) (all : List (List Symbol)) →
    UnitOf dialect held all → unit_words dialect held ≡ all
words_are dialect held all u =
    ap (λ q. ended_words (rest (form_of dialect) [] [] 0 (drop 1 q))) u.begins
    ∙ ap (λ q. ended_words (rest (form_of dialect) [] [] 0 q)) (sym (append-nil u.tail))
    ∙ ap ended_words (u.on [])

pub unit_is : (dialect : Dialect) (held : List ℕ) (all : List (List Symbol)) →
    UnitOf dialect held all → UnitOf dialect held (unit_words dialect held)
unit_is dialect held all u =
    subst (λ (q : List (List Symbol)). UnitOf dialect held q) (sym (words_are dialect held all u)) u

-- the words that stand before are the first of all

abbrev Extends : List (List Symbol) → Rest → Type 0
Extends words Lacks = Unit {0}
Extends words (Wrong kind) = Unit {0}
Extends words (Ends all n) = (more : List (List Symbol)) × (all ≡ words ++ more)

extends_longer : (words : List (List Symbol)) (n : ℕ) (r : Rest) → Extends words r →
    Extends words (longer n r)
extends_longer words n Lacks h = tt
extends_longer words n (Wrong kind) h = tt
extends_longer words n (Ends all m) h = h

extends_cond : (words : List (List Symbol)) (b : Bool) (r t : Rest) → Extends words r →
    Extends words t → Extends words (cond b r t)
extends_cond words true r t h k = h
extends_cond words false r t h k = k

extends_less : (words : List (List Symbol)) (word : List Symbol) (r : Rest) →
    Extends (words ++ word ∷ []) r → Extends words r
extends_less words word Lacks h = tt
extends_less words word (Wrong kind) h = tt
extends_less words word (Ends all n) h = (word ∷ h.0, h.1 ∙ append_assoc words (word ∷ []) h.0)

rest_extends : (form : Form) (words : List (List Symbol)) (word : List Symbol) (skip : ℕ)
    (bs : List ℕ) → Extends words (rest form words word skip bs)
unfolding rest
rest_extends form words word skip [] = tt
rest_extends form words word (suc skip) (b ∷ bs) = rest_extends form words word skip bs
rest_extends form words word zero (b ∷ bs) =
    by (sign (in_surface form words) (b ∷ bs)) (λ ws w k. rest_extends form ws w k bs)
  where
    by : (s : Sign) → ((ws : List (List Symbol)) (w : List Symbol) (k : ℕ) →
        Extends ws (rest form ws w k bs)) →
        Extends words (gone form words word s (λ ws w k. rest form ws w k bs))
    by Awaits go = tt
    by (Bars kind) go = tt
    by (Reads s n) go = extends_longer words n (rest form words (word ++ s ∷ []) (pred n) bs)
        (go words (word ++ s ∷ []) (pred n))
    by Slash go = extends_cond words form.several _ (Wrong Stray)
        (extends_cond words (may_part words word) _ (Wrong EmptyWord)
        (extends_longer words 1 (rest form (words ++ word ∷ []) [] 0 bs)
        (extends_less words word (rest form (words ++ word ∷ []) [] 0 bs)
        (go (words ++ word ∷ []) [] 0))) tt) tt
    by Dollar go = extends_cond words (may_end form words word) (Ends (words ++ word ∷ []) 1)
        (Wrong (early form)) (word ∷ [], refl) tt
    by Brace go = extends_cond words form.braced (Ends (words ++ word ∷ []) 1) (Wrong Stray)
        (word ∷ [], refl) tt

-- a unit that is read has a word
pub some_words : (dialect : Dialect) (held : List ℕ) (all : List (List Symbol)) →
    UnitOf dialect held all → 0 < length all
some_words dialect held all u =
    by all (read_words dialect (held ++ []) all (length held) (unit_always dialect held all u []))
  where
    by : (words : List (List Symbol)) → AreWords dialect words → 0 < length words
    by [] h = absurd h
    by (word ∷ words) h = omega arith

-- a word at its place

pub first_at : (words : List (List Symbol)) (found : Bool) (word : List Symbol) → 0 < length words →
    IsAt words 0 found word → (more : List (List Symbol)) × (words ≡ word ∷ more)
first_at [] found word some h = absurd (omega (arith, some))
first_at (w ∷ words) true word some h = (words, cc)
first_at (w ∷ words) false word some h = absurd (cc)

pub some_held : (h : Held) → IsHeld h → 0 < length (held_words h)
some_held (held.Words words) h = h
some_held (held.Bytes dialect bytes) h =
    some_words dialect bytes.items (unit_words dialect bytes.items) h

at_place : (words more : List (List Symbol)) (word : List Symbol) →
    slice_get (words ++ word ∷ more) (length words) ≡ Some word
at_place [] more word = refl
at_place (w ∷ words) more word = at_place words more word

pub none_is : (words : List (List Symbol)) (n : ℕ) → length words ≡ n → is_none words ≡ eqb n 0
none_is [] n e = sym (let k : eqb n 0 ≡ true = grind (arith, nat_tests, e) in k)
none_is (w ∷ words) n e = sym (let k : eqb n 0 ≡ false = grind (arith, nat_tests, e) in k)

module _ (dialect : Dialect) (held : List ℕ) (all words : List (List Symbol)) (word : List Symbol)
    (at : ℕ) (u : UnitOf dialect held all) (behind : 1 ≤ at)
    (on : rest (form_of dialect) [] [] 0 (drop 1 held)
    ≡ longer (at - 1) (rest (form_of dialect) words word 0 (drop at held))) where
  all_are : (found : List (List Symbol)) → UnitOf dialect held found →
      unit_words dialect held ≡ found
  all_are found f = words_are dialect held found f

  pub found_dollar : sign (in_surface (form_of dialect) words) (drop at held) ≡ Dollar →
      at < length held → slice_get (unit_words dialect held) (length words) ≡ Some word
  found_dollar e inside = ap (λ q. slice_get q (length words))
      (all_are _ (laws.at_dollar dialect held all words word at u behind on e inside))
      ∙ at_place words [] word

  pub missing_dollar : (wanted : ℕ) → sign (in_surface (form_of dialect) words) (drop at held)
      ≡ Dollar → at < length held → length words < wanted →
      slice_get (unit_words dialect held) wanted ≡ None
  missing_dollar wanted e inside past =
      let size = length-append words (word ∷ []) in
      ap (λ q. slice_get q wanted)
      (all_are _ (laws.at_dollar dialect held all words word at u behind on e inside))
      ∙ slice_get_past (words ++ word ∷ []) wanted (omega (arith, size, past))

  pub found_slash : sign (in_surface (form_of dialect) words) (drop at held) ≡ Slash →
      at < length held → slice_get (unit_words dialect held) (length words) ≡ Some word
  found_slash e inside =
      let on_more : rest (form_of dialect) [] [] 0 (drop 1 held)
      ≡ longer ((at + 1) - 1) (rest (form_of dialect) (words ++ word ∷ []) [] 0
      (drop (at + 1) held)) = laws.past_slash dialect held all words word at u behind
      on e inside in
      let same : longer ((at + 1) - 1)
      (rest (form_of dialect) (words ++ word ∷ []) [] 0 (drop (at + 1) held))
      ≡ Ends all (length u.tail) =
      sym on_more ∙ laws.total dialect held all words word at u behind on in
      let m : Extends (words ++ word ∷ []) (Ends all (length u.tail)) =
      subst (λ (r : Rest). Extends (words ++ word ∷ []) r) same
      (extends_longer (words ++ word ∷ []) ((at + 1) - 1) _
      (rest_extends (form_of dialect) (words ++ word ∷ []) [] 0 (drop (at + 1) held))) in
      ap (λ q. slice_get q (length words)) (words_are dialect held all u ∙ m.1
      ∙ append_assoc words (word ∷ []) m.0) ∙ at_place words m.0 word
