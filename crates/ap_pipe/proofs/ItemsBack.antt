-- What is written of items is read back as these items, in a dialect without chunks.
use Rattle.std.specs.Prelude.{◌≡◌, ℕ, suc, ◌+◌, ◌<◌, ◌≤◌, List, [], ◌∷◌, ◌++◌, length, take, Bool, true, false, eqb, leb, ◌||◌, Some, None, refl, encode_utf8}
use Rattle.std.proofs.Common.{arith, ap, sym, subst, ◌∙◌, append_assoc, length-append, inl, inr}
use Rattle.std.proofs.lemmas.Bool.{cases_lt}
use Rattle.std.proofs.lemmas.Bool.Decides.{nat_tests}
use Rattle.std.proofs.lemmas.List.{append-nil}
use Rattle.std.proofs.Math.Seq.{take-append_seam, drop-append_seam, drop-length}
use Rattle.ap_symbol.specs.Coded.{IsCode}
use Rattle.ap_stream.proofs.AtEndLaws.{begun_blank}
use Rattle.ap_stream.specs.Blanks.{is_white}
use Rattle.ap_stream.proofs.GivenLaws.{gives_whole}
use Rattle.ap_stream.specs.Laws.{AreWords, IsBlank}
use Rattle.ap_stream.specs.Stands.{Surely}
use Rattle.ap_stream.proofs.LimitedLaws.{limited_within, limited_decided, limited_past}
use Rattle.ap_stream.specs.Limits.{unit_max, item_max}
use Rattle.ap_stream.proofs.LimitLaws.{item_max_is}
use Rattle.ap_stream.specs.Pieces.{is_bare}
use Rattle.ap_stream.specs.Reading.{Whole, Needs, Reads, first, limited, reads, read_at, followed, counted, at_end, nothing}
use Rattle.ap_stream.proofs.ReadingLaws.{reads_nil, reads_whole, reads_needs}
use Rattle.ap_stream.specs.Spelling.{spelled}
use Rattle.ap_stream.specs.Stands.{Always, InBlank, blank_first}
use Rattle.ap_stream.proofs.StandLaws.{blank_ends, escaped_whole}
use Rattle.ap_stream.specs.declared.dialect.Dialect.{Dialect}
use Rattle.ap_stream.specs.declared.item.Item.{Item}
use Rattle.ap_stream.specs.declared.item.Item.TheVariants as item
use Rattle.ap_stream.specs.declared.item.Read.{Read}
use Rattle.ap_stream.proofs.Back.{unit_back}
use Rattle.ap_stream.proofs.ChunkCut.{open_on}
use Rattle.ap_stream.proofs.Fronts.{alone, alone_some, free_blank, free_whole, bare_free}

-- an item that can be written in the dialect: a character that may stand bare or is escaped, a
-- blank, or the words of a unit
abbrev pub IsOwn : Dialect → Item → Type 0
IsOwn dialect (item.Plain c) =
    IsCode c.letter × (c.escaped ≡ false → is_bare dialect c.letter ≡ true)
IsOwn dialect (item.Blank bytes) = IsBlank bytes × (blank_first bytes ≡ true)
IsOwn dialect (item.Unit words) = AreWords dialect words
IsOwn dialect (item.Chunk c) = ⊥

abbrev pub is_blank : Item → Bool
is_blank (item.Plain c) = false
is_blank (item.Blank bytes) = true
is_blank (item.Unit words) = false
is_blank (item.Chunk c) = false

abbrev pub NoBlankFirst : List Item → Type 0
NoBlankFirst [] = Unit {0}
NoBlankFirst (thing ∷ things) = is_blank thing ≡ false

-- such items, each of no more bytes than an item may have, and no blank behind a blank
abbrev pub AreOwn : Dialect → List Item → Type 0
AreOwn dialect [] = Unit {0}
AreOwn dialect (thing ∷ things) = IsOwn dialect thing × (length (spelled thing) ≤ unit_max)
    × (is_blank thing ≡ true → NoBlankFirst things) × AreOwn dialect things

abbrev pub all_spelled : List Item → List ℕ
all_spelled [] = []
all_spelled (thing ∷ things) = spelled thing ++ all_spelled things

abbrev pub things_of : List Read → List Item
things_of [] = []
things_of (read ∷ reads) = read.item ∷ things_of reads

-- an item that is no blank is read, however the text goes on
record IsFront (dialect : Dialect) (thing : Item) : Type 0 where
  some : 0 < length (spelled thing)
  dark : blank_first (spelled thing) ≡ false
  always : Always dialect (spelled thing) (Whole thing (length (spelled thing)))

plain_front : (dialect : Dialect) (letter : ℕ) (escaped : Bool) → IsCode letter →
    (escaped ≡ false → is_bare dialect letter ≡ true) →
    IsFront dialect (item.Plain (record { letter = letter; escaped = escaped }))
plain_front dialect letter true code bare = record {
  some = omega arith;
  dark = refl;
  always = λ x. escaped_whole dialect (encode_utf8 letter) letter (alone letter code) x
      ∙ ap (Whole (item.Plain (record { letter = letter; escaped = true }))) (omega arith);
}
plain_front dialect letter false code bare = record {
  some = alone_some letter code;
  dark = free_blank letter code dialect (bare_free dialect letter (bare refl));
  always = free_whole letter code dialect (bare_free dialect letter (bare refl));
}

front_of : (dialect : Dialect) (thing : Item) → IsOwn dialect thing → is_blank thing ≡ false →
    IsFront dialect thing
front_of dialect (item.Plain c) h e = plain_front dialect c.letter c.escaped h.0 h.1
front_of dialect (item.Blank bytes) h e = absurd (cc)
front_of dialect (item.Unit words) h e = record {
  some = omega arith;
  dark = refl;
  always = λ x. unit_back dialect words x h;
}
front_of dialect (item.Chunk c) h e = absurd h

-- a blank
module _ (dialect : Dialect) (bytes : List ℕ) (h : IsBlank bytes)
    (begins : blank_first bytes ≡ true) where
  in_blank : InBlank bytes
  in_blank = record { begins = begins; on = open_on bytes h.1 }

  needs : first dialect bytes ≡ Needs
  needs = (begun_blank dialect bytes in_blank).needs

  -- a byte that no blank begins with ends it
  ended : (b : ℕ) → is_white b ≡ false → eqb b 91 ≡ false → length bytes ≤ item_max →
      (x : List ℕ) → limited item_max dialect ((bytes ++ b ∷ []) ++ x)
      ≡ Whole (item.Blank bytes) (length bytes)
  ended b w k fits x = by_limit item_max fits
    where
      always : Always dialect (bytes ++ b ∷ []) (Whole (item.Blank bytes) (length bytes))
      always = blank_ends dialect bytes b in_blank w k

      long : (most : ℕ) → length bytes ≡ most → limited most dialect ((bytes ++ b ∷ []) ++ x)
          ≡ Whole (item.Blank bytes) (length bytes)
      long most e =
          let size : length (bytes ++ b ∷ []) ≡ suc most = rw length-append (omega (arith, e)) in
          let before : first dialect (take most (bytes ++ b ∷ [])) ≡ Needs =
          ap (λ n. first dialect (take n (bytes ++ b ∷ []))) (sym e)
          ∙ ap (first dialect) (take-append_seam bytes (b ∷ [])) ∙ needs in
          let now : first dialect (bytes ++ b ∷ []) ≡ Whole (item.Blank bytes) (length bytes) =
          rw append-nil at (always []) in
          let fine : leb (length bytes) most ≡ true = grind (arith, nat_tests, e) in
          limited_past most dialect (bytes ++ b ∷ []) size before x ∙ rw (now, fine) refl

      by_limit : (most : ℕ) → length bytes ≤ most →
          limited most dialect ((bytes ++ b ∷ []) ++ x) ≡ Whole (item.Blank bytes) (length bytes)
      by_limit most fits = elim (cases_lt (length bytes) most) [
        | inl less ↦ limited_decided most dialect (bytes ++ b ∷ [])
            (Whole (item.Blank bytes) (length bytes)) (rw length-append (omega arith)) always tt x
        | inr more ↦ long most (omega arith)
      ]

either_none : (a b : Bool) → (a || b) ≡ false → (a ≡ false) × (b ≡ false)
either_none true b h = absurd (cc)
either_none false b h = (refl, h)

within : (n : ℕ) → n ≤ unit_max → n ≤ item_max
within n h = rw item_max_is h

-- the item at the front, and then the others
abbrev ReadsOn : Dialect → Item → List ℕ → Type 0
ReadsOn dialect thing after = (place : ℕ) → reads dialect place (spelled thing ++ after)
    ≡ followed (Some (read_at place thing (length (spelled thing))))
    (reads dialect (counted (place + length (spelled thing))) after)

front_on : (dialect : Dialect) (thing : Item) (after : List ℕ) → IsFront dialect thing →
    length (spelled thing) ≤ unit_max → ReadsOn dialect thing after
front_on dialect thing after h fits place =
    let whole : Surely dialect (spelled thing) (Whole thing (length (spelled thing))) =
    limited_decided item_max dialect (spelled thing) (Whole thing (length (spelled thing)))
    (within (length (spelled thing)) fits) h.always tt in
    gives_whole dialect (spelled thing) [] place (length (spelled thing)) thing whole h.some
    (omega arith) (drop-length (spelled thing)) after

-- behind a blank stands another byte
blank_on : (dialect : Dialect) (bytes after : List ℕ) → IsOwn dialect (item.Blank bytes) →
    length bytes ≤ unit_max → 0 < length after → blank_first after ≡ false →
    ReadsOn dialect (item.Blank bytes) after
blank_on dialect bytes [] h fits some dark place = absurd (omega (arith, some))
blank_on dialect bytes (b ∷ bs) h fits some dark place =
    let n = either_none (is_white b) (eqb b 91) dark in
    let whole : limited item_max dialect (bytes ++ b ∷ bs)
    ≡ Whole (item.Blank bytes) (length bytes) =
    ap (limited item_max dialect) (sym (append_assoc bytes (b ∷ []) bs))
    ∙ ended dialect bytes h.0 h.1 b n.0 n.1 (within (length bytes) fits) bs in
    let more : 0 < length (bytes ++ b ∷ bs) = rw length-append (omega arith) in
    reads_whole dialect place (bytes ++ b ∷ bs) (item.Blank bytes) (length bytes) whole h.0.0 more
    ∙ ap (λ (q : List ℕ). followed (Some (read_at place (item.Blank bytes) (length bytes)))
    (reads dialect (counted (place + length bytes)) q)) (drop-append_seam bytes (b ∷ bs))

-- or the text ends there
blank_last : (dialect : Dialect) (bytes : List ℕ) (place : ℕ) → IsOwn dialect (item.Blank bytes) →
    length bytes ≤ unit_max → reads dialect place bytes
    ≡ followed (Some (read_at place (item.Blank bytes) (length bytes))) nothing
blank_last dialect bytes place h fits =
    let b = begun_blank dialect bytes (in_blank dialect bytes h.0 h.1) in
    let wants : limited item_max dialect bytes ≡ Needs =
    limited_within item_max dialect bytes (within (length bytes) fits) ∙ b.needs in
    reads_needs dialect place bytes wants h.0.0 ∙ ap (at_end place bytes) (b.whole_is refl)

-- a text of these items is read to its end
pub record IsBack (things : List Item) (made : Reads) : Type 0 where
  pub items : things_of made.items ≡ things
  pub stop : made.stop ≡ None

back_after : (dialect : Dialect) (place : ℕ) (thing : Item) (things : List Item) →
    ReadsOn dialect thing (all_spelled things) →
    ((at : ℕ) → IsBack things (reads dialect at (all_spelled things))) →
    IsBack (thing ∷ things) (reads dialect place (spelled thing ++ all_spelled things))
back_after dialect place thing things on h =
    let k = h (counted (place + length (spelled thing))) in
    subst (λ (q : Reads). IsBack (thing ∷ things) q) (sym (on place))
    (record { items = ap (λ (q : List Item). thing ∷ q) k.items; stop = k.stop })

pub items_back : (dialect : Dialect) (place : ℕ) (things : List Item) → AreOwn dialect things →
    IsBack things (reads dialect place (all_spelled things))
items_back dialect place [] h =
    subst (λ (q : Reads). IsBack [] q) (sym (reads_nil dialect place))
    (record { items = refl; stop = refl })
items_back dialect place (thing ∷ things) h =
    by thing things h (λ at. items_back dialect at things h.3)
  where
    other : (thing : Item) (things : List Item) → is_blank thing ≡ false →
        AreOwn dialect (thing ∷ things) →
        ((at : ℕ) → IsBack things (reads dialect at (all_spelled things))) →
        IsBack (thing ∷ things) (reads dialect place (spelled thing ++ all_spelled things))
    other thing things e h go =
        back_after dialect place thing things
        (front_on dialect thing (all_spelled things) (front_of dialect thing h.0 e) h.1) go

    blank : (bytes : List ℕ) (things : List Item) → AreOwn dialect (item.Blank bytes ∷ things) →
        ((at : ℕ) → IsBack things (reads dialect at (all_spelled things))) →
        IsBack (item.Blank bytes ∷ things) (reads dialect place (bytes ++ all_spelled things))
    blank bytes [] h go =
        subst (λ (q : Reads). IsBack (item.Blank bytes ∷ []) q)
        (sym (ap (reads dialect place) (append-nil bytes)
        ∙ blank_last dialect bytes place h.0 h.1)) (record { items = refl; stop = refl })
    blank bytes (thing ∷ things) h go =
        let f = front_of dialect thing h.3.0 (h.2 refl) in
        let some : 0 < length (spelled thing ++ all_spelled things) =
        rw length-append (omega (arith, f.some)) in
        back_after dialect place (item.Blank bytes) (thing ∷ things)
        (blank_on dialect bytes (spelled thing ++ all_spelled things) h.0 h.1 some
        (dark_on (spelled thing) (all_spelled things) f.some f.dark)) go
      where
        dark_on : (a x : List ℕ) → 0 < length a → blank_first a ≡ false →
            blank_first (a ++ x) ≡ false
        dark_on [] x some e = absurd (omega (arith, some))
        dark_on (b ∷ bs) x some e = e

    by : (thing : Item) (things : List Item) → AreOwn dialect (thing ∷ things) →
        ((at : ℕ) → IsBack things (reads dialect at (all_spelled things))) →
        IsBack (thing ∷ things) (reads dialect place (spelled thing ++ all_spelled things))
    by (item.Plain c) things h go = other (item.Plain c) things refl h go
    by (item.Blank bytes) things h go = blank bytes things h go
    by (item.Unit words) things h go = other (item.Unit words) things refl h go
    by (item.Chunk c) things h go = absurd h.0
