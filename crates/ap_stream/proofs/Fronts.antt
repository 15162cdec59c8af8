-- The piece at the front of a text: its size and its superblanks are told by the text.
use Rattle.std.specs.Prelude.{◌≡◌, ℕ, suc, ◌+◌, ◌<◌, ◌≤◌, List, [], ◌∷◌, ◌++◌, drop, take, length, Bool, true, false, cond, eqb, ltb, ◌&&◌, ◌||◌, not, refl, encode_utf8}
use Rattle.std.specs.List.{flat_map}
use Rattle.std.proofs.Common.{arith, ap, sym, subst, ◌∙◌, append_assoc, length-append, inl, inr}
use Rattle.std.proofs.lemmas.Bool.{eqb-true, and_parts, ne_eqb, cases_lt}
use Rattle.std.proofs.lemmas.Bool.Decides.{nat_tests}
use Rattle.std.proofs.lemmas.List.{append-nil, length-take-le}
use Rattle.std.proofs.Math.Seq.{drop-append_seam, take-append_seam}
use Rattle.ap_symbol.specs.Coded.{IsCode}
use Rattle.ap_symbol.specs.declared.symbol.Symbol.{Symbol}
use Rattle.ap_stream.specs.declared.dialect.Dialect.{Dialect}
use Rattle.ap_stream.specs.declared.item.Item.{Item}
use Rattle.ap_stream.specs.declared.item.Item.TheVariants as item
use Rattle.ap_stream.specs.Blanks.{Run, Open, Inside, BadChar, Done, Close, Within, Bad, Closed, closing, is_white, blank, begins_blank}
use Rattle.ap_stream.specs.Chars.{Front, Part, NotChar, Char, char_at}
use Rattle.ap_stream.specs.Dialects.{is_refused, has_words, has_chunks, has_units}
use Rattle.ap_stream.proofs.InUnitLaws.{unit_always, units_words, braced_chunks}
use Rattle.ap_stream.specs.UnitBytes.{UnitOf}
use Rattle.ap_stream.specs.Pieces.{HaveSameSuperblanks, HasSuperblanks, nothing, piece, IsPiece, plain, white, superblank, unit, IsPlain, IsUnit, is_bare, IsChunk, chunk}
use Rattle.ap_stream.specs.declared.fault.MalformedKind.TheVariants.{Stray}
use Rattle.ap_stream.specs.ReadOn.{ArePieces}
use Rattle.ap_symbol.specs.Kinds.{first_word}
use Rattle.ap_stream.specs.Reading.{First, Needs, Whole, Faulty, Bad as OfKind, first, begins_unit, of_run, of_escaped, of_char, of_unit, plain as plain_item, of_body, of_chunk, of_caret}
use Rattle.ap_stream.specs.Supers.{item_supers, inner_supers}
use Rattle.ap_stream.specs.Stands.{blank_first}
use Rattle.ap_stream.proofs.StandLaws.{escape_first, unit_first}
use Rattle.ap_stream.proofs.StandLaws.{letter_whole, escaped_whole}
use Rattle.ap_stream.specs.Units.{Rest, Lacks, Wrong, Ends, rest, form_of}
use Rattle.ap_stream.proofs.Back.{char_back}
use Rattle.ap_stream.proofs.Cut.{first_byte, char_size, rest_cut}
use Rattle.ap_stream.specs.Chunks.{Body, Opens, Fails, Closes, body}
use Rattle.ap_stream.specs.declared.item.Inner.{Inner}
use Rattle.ap_stream.proofs.InChunkLaws.{only_chunked}
use Rattle.ap_stream.proofs.ChunkTexts.{text_chunk}
use Rattle.ap_stream.proofs.UnitTexts.{text_unit}
pub use Rattle.ap_stream.proofs.BlankTexts.{to_bracket}

-- tests of bytes below 128 say of a character what they say of its first byte

abbrev pub IsLow : (ℕ → Bool) → Type 0
IsLow test = (b : ℕ) → 128 ≤ b → test b ≡ false

first_high : (a : ℕ) (bs : List ℕ) (c n : ℕ) → char_at (a ∷ bs) ≡ Char c n → 128 ≤ c → 128 ≤ a
unfolding char_at
first_high a bs c n h high = elim (cases_lt a 128) [
  | inl low ↦ let t : ltb a 128 ≡ true = grind (arith, nat_tests) in let k : Char a 1 ≡ Char c n =
      rw t at h in let e : a ≡ c = cc in absurd (omega (arith, e, low, high))
  | inr more ↦ more
]

pub same_test : (test : ℕ → Bool) → IsLow test → (a : ℕ) (bs : List ℕ) (c n : ℕ) →
    char_at (a ∷ bs) ≡ Char c n → test a ≡ test c
same_test test low a bs c n h = elim (cases_lt c 128) [
  | inl small ↦ ap test (first_byte a bs c n h small).0
  | inr high ↦ low a (first_high a bs c n h high) ∙ sym (low c high)
]

differs : (d : ℕ) → d < 128 → IsLow (λ b. eqb b d)
differs d small b high = ne_eqb b d (λ e. omega (arith, e, small, high))

pub low_blank : IsLow begins_blank
low_blank b high = rw (
  differs 32 (omega arith) b high,
  differs 9 (omega arith) b high,
  differs 10 (omega arith) b high,
  differs 13 (omega arith) b high,
  differs 91 (omega arith) b high,
) refl

pub low_escape : IsLow (λ b. eqb b 92)
low_escape = differs 92 (omega arith)

pub low_unit : (dialect : Dialect) → IsLow (begins_unit dialect)
low_unit dialect b high = rw (differs 94 (omega arith) b high) (by (has_units dialect))
  where
    by : (v : Bool) → (v && false) ≡ false
    by true = refl
    by false = refl

-- what stands bare
pub record IsFree (dialect : Dialect) (c : ℕ) : Type 0 where
  pub blank : begins_blank c ≡ false
  pub escape : eqb c 92 ≡ false
  pub unit : begins_unit dialect c ≡ false
  pub refused : is_refused dialect c ≡ false

none_of : (a b c d : Bool) → not (a || (b || (c || d))) ≡ true → (a ≡ false) × (b ≡ false)
    × (c ≡ false) × (d ≡ false)
none_of true b c d h = absurd (cc)
none_of false true c d h = absurd (cc)
none_of false false true d h = absurd (cc)
none_of false false false true h = absurd (cc)
none_of false false false false h = (refl, refl, refl, refl)

pub bare_free : (dialect : Dialect) (c : ℕ) → is_bare dialect c ≡ true → IsFree dialect c
bare_free dialect c h = let n =
    none_of (begins_blank c) (eqb c 92) (begins_unit dialect c) (is_refused dialect c) h in
    record { blank = n.0; escape = n.1; unit = n.2; refused = n.3 }

pub free_bare : (dialect : Dialect) (c : ℕ) → IsFree dialect c → is_bare dialect c ≡ true
free_bare dialect c h = rw (h.blank, h.escape, h.unit, h.refused) refl

-- a character alone
module _ (c : ℕ) (code : IsCode c) where
  pub alone : char_at (encode_utf8 c) ≡ Char c (length (encode_utf8 c))
  alone = ap char_at (sym (append-nil (encode_utf8 c))) ∙ char_back c [] code

  pub alone_some : 0 < length (encode_utf8 c)
  alone_some = (char_size (encode_utf8 c) c (length (encode_utf8 c)) alone).0

  alone_test : (test : ℕ → Bool) → IsLow test → (of : List ℕ → Bool) → of [] ≡ false →
      ((b : ℕ) (bs : List ℕ) → of (b ∷ bs) ≡ test b) → test c ≡ false → of (encode_utf8 c) ≡ false
  alone_test test low of none some t = by (encode_utf8 c) (length (encode_utf8 c)) alone
    where
      by : (p : List ℕ) (n : ℕ) → char_at p ≡ Char c n → of p ≡ false
      by [] n h = none
      by (b ∷ bs) n h = some b bs ∙ same_test test low b bs c n h ∙ t

  module _ (dialect : Dialect) (free : IsFree dialect c) where
    pub free_blank : blank_first (encode_utf8 c) ≡ false
    free_blank = alone_test begins_blank low_blank blank_first refl (λ b bs. refl) free.blank

    pub free_whole : (x : List ℕ) → first dialect (encode_utf8 c ++ x)
        ≡ Whole (plain_item c false) (length (encode_utf8 c))
    free_whole x = letter_whole dialect (encode_utf8 c) alone_some free_blank
        (alone_test (λ b. eqb b 92) low_escape escape_first refl (λ b bs. refl) free.escape)
        (alone_test (begins_unit dialect) (low_unit dialect) (unit_first dialect) refl
        (λ b bs. refl) free.unit) c alone free.refused x

-- a unit
pub unit_cut : (dialect : Dialect) (bs : List ℕ) (words : List (List Symbol)) (n : ℕ) →
    first dialect bs ≡ Whole (item.Unit words) n → UnitOf dialect (take n bs) words × (0 < n)
    × (n ≤ length bs)
unfolding first
unit_cut dialect [] words n h = absurd (cc)
unit_cut dialect (b ∷ bs) words n h = by_blank (begins_blank b) h
  where
    of_rest : begins_unit dialect b ≡ true → has_words dialect ≡ true → (r : Rest) →
        rest (form_of dialect) [] [] 0 bs ≡ r →
        of_unit r ≡ Whole (item.Unit words) n → UnitOf dialect (take n (b ∷ bs)) words × (0 < n)
        × (n ≤ length (b ∷ bs))
    of_rest u w Lacks e h = absurd (cc)
    of_rest u w (Wrong kind) e h = absurd (cc)
    of_rest u w (Ends all k) e h =
        let same : all ≡ words = cc in
        let size : 1 + k ≡ n = cc in
        let is = and_parts (has_units dialect) (eqb b 94) u in
        let fits = (rest_cut (form_of dialect) [] [] 0 bs [] all k e).2 in
        let len : length (take k bs) ≡ k = length-take-le k bs fits in
        let grown : n ≡ suc k = omega (arith, size) in (
          record {
            tail = take k bs;
            has = w;
            begins = ap (λ q. take q (b ∷ bs)) grown ∙ ap (λ q. q ∷ take k bs) (eqb-true b 94 is.1);
            on = λ x. (rest_cut (form_of dialect) [] [] 0 bs x all k e).0
                ∙ ap (λ (q : List (List Symbol)). Ends q k) same ∙ ap (Ends words) (sym len);
          },
          omega (arith, size),
          omega (arith, size, fits),
        )

    no_body : (name : List Symbol) (parts : List Inner) (m : ℕ) (z : Body) →
        of_body name parts m z ≡ Whole (item.Unit words) n → ⊥
    no_body name parts m Opens h = cc
    no_body name parts m (Fails kind) h = cc
    no_body name parts m (Closes more k) h = cc

    no_chunk : (r : Rest) → of_chunk bs r ≡ Whole (item.Unit words) n → ⊥
    no_chunk Lacks h = cc
    no_chunk (Wrong kind) h = cc
    no_chunk (Ends all k) h = no_body (first_word all) [] (1 + k) (body k bs) h

    of_caret_at : begins_unit dialect b ≡ true → (v : Bool) → has_chunks dialect ≡ v → (r : Rest) →
        rest (form_of dialect) [] [] 0 bs ≡ r → cond v (of_chunk bs r) (of_unit r)
        ≡ Whole (item.Unit words) n → UnitOf dialect (take n (b ∷ bs)) words × (0 < n)
        × (n ≤ length (b ∷ bs))
    of_caret_at u true c r e h = absurd (no_chunk r h)
    of_caret_at u false c r e h =
        of_rest u (units_words dialect (and_parts (has_units dialect) (eqb b 94) u).0
        (braced_chunks dialect ∙ c)) r e h

    run : (r : Run) → of_run (b ∷ bs) r ≡ Whole (item.Unit words) n → ⊥
    run Open h = cc
    run Inside h = cc
    run BadChar h = cc
    run (Done m) h = cc

    escape : (f : Front) → of_escaped f ≡ Whole (item.Unit words) n → ⊥
    escape Part h = cc
    escape NotChar h = cc
    escape (Char c m) h = cc

    letter_at : (v : Bool) (c m : ℕ) → cond v (Faulty (OfKind Stray)) (Whole (plain_item c false) m)
        ≡ Whole (item.Unit words) n → ⊥
    letter_at true c m h = cc
    letter_at false c m h = cc

    letter : (f : Front) → of_char dialect f ≡ Whole (item.Unit words) n → ⊥
    letter Part h = cc
    letter NotChar h = cc
    letter (Char c m) h = letter_at (is_refused dialect c) c m h

    by_unit : (v : Bool) → begins_unit dialect b ≡ v →
        cond v (of_caret dialect bs (rest (form_of dialect) [] [] 0 bs))
        (of_char dialect (char_at (b ∷ bs))) ≡ Whole (item.Unit words) n →
        UnitOf dialect (take n (b ∷ bs)) words × (0 < n)
        × (n ≤ length (b ∷ bs))
    by_unit true u h =
        of_caret_at u (has_chunks dialect) refl (rest (form_of dialect) [] [] 0 bs) refl h
    by_unit false u h = absurd (letter (char_at (b ∷ bs)) h)

    by_escape : (v : Bool) →
        cond v (of_escaped (char_at bs))
        (cond (begins_unit dialect b) (of_caret dialect bs (rest (form_of dialect) [] [] 0 bs))
        (of_char dialect (char_at (b ∷ bs)))) ≡ Whole (item.Unit words) n →
        UnitOf dialect (take n (b ∷ bs)) words × (0 < n) × (n ≤ length (b ∷ bs))
    by_escape true h = absurd (escape (char_at bs) h)
    by_escape false h = by_unit (begins_unit dialect b) refl h

    by_blank : (v : Bool) → cond v (of_run (b ∷ bs) (blank 0 (b ∷ bs)))
        (cond (eqb b 92) (of_escaped (char_at bs))
        (cond (begins_unit dialect b) (of_caret dialect bs (rest (form_of dialect) [] [] 0 bs))
        (of_char dialect (char_at (b ∷ bs))))) ≡ Whole (item.Unit words) n
        → UnitOf dialect (take n (b ∷ bs)) words × (0 < n) × (n ≤ length (b ∷ bs))
    by_blank true h = absurd (run (blank 0 (b ∷ bs)) h)
    by_blank false h = by_escape (eqb b 92) h

pub unit_of_bytes : (dialect : Dialect) (bytes : List ℕ) (u : IsUnit dialect bytes) →
    UnitOf dialect bytes u.words × (0 < length bytes)
unit_of_bytes dialect bytes u =
    let own = text_unit dialect u.words bytes u.text in
    (own, let l = ap length own.begins in omega (arith, l))

-- the size of the piece at the front of a text
abbrev close_size : Close → ℕ
close_size Within = 0
close_size Bad = 0
close_size (Closed n) = suc n

abbrev whole_size : First → ℕ
whole_size Needs = 0
whole_size (Whole thing n) = n
whole_size (Faulty kind) = 0

abbrev size_at : Dialect → List ℕ → ℕ
size_at dialect [] = 0
size_at dialect (b ∷ bs) =
    cond (is_white b) 1 (cond (eqb b 91) (close_size (closing false 0 bs))
    (whole_size (first dialect (b ∷ bs))))

abbrev whole_supers : First → List (List ℕ)
whole_supers Needs = []
whole_supers (Whole thing n) = item_supers thing
whole_supers (Faulty kind) = []

-- a piece is a superblank where it begins with [, and else white space or the item that it is
abbrev own_at : Dialect → List ℕ → List (List ℕ)
own_at dialect [] = []
own_at dialect (b ∷ bs) =
    cond (is_white b) [] (cond (eqb b 91) ((b ∷ bs) ∷ []) (whole_supers (first dialect (b ∷ bs))))

record IsFront (dialect : Dialect) (bytes : List ℕ) (own : List (List ℕ)) : Type 0 where
  some : 0 < length bytes
  size : (x : List ℕ) → size_at dialect (bytes ++ x) ≡ length bytes
  own_is : own ≡ own_at dialect bytes

either_none : (a b : Bool) → (a || b) ≡ false → (a ≡ false) × (b ≡ false)
either_none true b h = absurd (cc)
either_none false b h = (refl, h)

-- a character, a unit or a chunk, and its superblanks: however the text goes on, it is the item at
-- its front
pub record IsWhole (dialect : Dialect) (own : List (List ℕ)) (bytes : List ℕ) : Type 0 where
  pub thing : Item
  pub supers : item_supers thing ≡ own
  pub some : 0 < length bytes
  pub dark : blank_first bytes ≡ false
  pub read : (x : List ℕ) → first dialect (bytes ++ x) ≡ Whole thing (length bytes)

whole_front : (dialect : Dialect) (bytes : List ℕ) (own given : List (List ℕ)) →
    IsWhole dialect given bytes → own ≡ given → IsFront dialect bytes own
whole_front dialect [] own given h e = absurd (let s = h.some in omega (arith, s))
whole_front dialect (b ∷ bs) own given h e =
    let n = either_none (is_white b) (eqb b 91) h.dark in
    let alone : first dialect (b ∷ bs) ≡ Whole h.thing (length (b ∷ bs)) =
    ap (first dialect) (sym (append-nil (b ∷ bs))) ∙ h.read [] in
    record {
      some = h.some;
      size = λ x. rw (n.0, n.1) (ap whole_size (h.read x));
      own_is = e ∙ sym h.supers ∙ rw (n.0, n.1) (ap whole_supers (sym alone));
    }

pub plain_whole : (dialect : Dialect) (bytes : List ℕ) → IsPlain dialect bytes →
    IsWhole dialect [] bytes
plain_whole dialect bytes p = by p.character.escaped refl
  where
    escaped_whole_item : IsWhole dialect [] (92 ∷ encode_utf8 p.character.letter)
    escaped_whole_item = record {
      thing = plain_item p.character.letter true;
      supers = refl;
      some = omega arith;
      dark = refl;
      read = λ x. escaped_whole dialect (encode_utf8 p.character.letter) p.character.letter
          (alone p.character.letter p.code) x
          ∙ ap (Whole (plain_item p.character.letter true)) (omega arith);
    }

    bare_whole_item : IsFree dialect p.character.letter →
        IsWhole dialect [] (encode_utf8 p.character.letter)
    bare_whole_item free = record {
      thing = plain_item p.character.letter false;
      supers = refl;
      some = alone_some p.character.letter p.code;
      dark = free_blank p.character.letter p.code dialect free;
      read = free_whole p.character.letter p.code dialect free;
    }

    by : (v : Bool) → p.character.escaped ≡ v → IsWhole dialect [] bytes
    by true v =
        let is : bytes ≡ 92 ∷ encode_utf8 p.character.letter = p.spelled ∙ rw v refl in
        subst (λ (q : List ℕ). IsWhole dialect [] q) (sym is) escaped_whole_item
    by false v =
        let is : bytes ≡ encode_utf8 p.character.letter = p.spelled ∙ rw v refl in
        subst (λ (q : List ℕ). IsWhole dialect [] q) (sym is)
        (bare_whole_item (bare_free dialect p.character.letter (p.allowed v)))

pub unit_whole : (dialect : Dialect) (bytes : List ℕ) → IsUnit dialect bytes →
    IsWhole dialect [] bytes
unit_whole dialect bytes u =
    let k = unit_of_bytes dialect bytes u in
    record {
      thing = item.Unit u.words;
      supers = refl;
      some = k.1;
      dark = ap blank_first k.0.begins;
      read = unit_always dialect bytes u.words k.0;
    }

pub chunk_whole : (dialect : Dialect) (bytes : List ℕ) (c : IsChunk dialect bytes) →
    IsWhole dialect (flat_map inner_supers c.chunk.content) bytes
chunk_whole dialect bytes c =
    let size = ap length c.text.spelled in
    record {
      thing = item.Chunk c.chunk;
      supers = refl;
      some = omega (arith, size);
      dark = ap blank_first c.text.spelled;
      read = λ x. ap (λ (d : Dialect). first d (bytes ++ x)) (only_chunked dialect c.chunks)
          ∙ text_chunk c.chunk bytes c.text x;
    }

pub white_other : (b : ℕ) → is_white b ≡ true → eqb b 91 ≡ false
white_other b w = by (eqb b 91) refl
  where
    by : (v : Bool) → eqb b 91 ≡ v → v ≡ false
    by true e = absurd (let is = eqb-true b 91 e in let k : is_white 91 ≡ true =
        subst (λ z. is_white z ≡ true) is w in cc)
    by false e = refl

front_is : (dialect : Dialect) (bytes : List ℕ) (own : List (List ℕ)) → IsPiece dialect bytes own →
    IsFront dialect bytes own
front_is dialect bytes own (plain p e) =
    whole_front dialect bytes own [] (plain_whole dialect bytes p) e
front_is dialect bytes own (white b is w e) =
    subst (λ (q : List ℕ). IsFront dialect q own) (sym is)
    (record { some = omega arith; size = λ x. rw w refl; own_is = e ∙ rw w refl })
front_is dialect bytes own (superblank s e) =
    subst (λ (q : List ℕ). IsFront dialect q own) (sym s.begins)
    (record {
      some = omega arith;
      size = λ x. rw (to_bracket s.rest s.goes_on x) refl;
      own_is =
          e ∙ ap (λ (q : List ℕ). q ∷ []) s.begins;
    })
front_is dialect bytes own (unit u e) =
    whole_front dialect bytes own [] (unit_whole dialect bytes u) e
front_is dialect bytes own (chunk c e) =
    whole_front dialect bytes own _ (chunk_whole dialect bytes c) e

-- two pieces at the front of a text are one
same_front : (dialect : Dialect) (a b x y : List ℕ) (own other : List (List ℕ)) →
    IsFront dialect a own → IsFront dialect b other → a ++ x ≡ b ++ y →
    (a ≡ b) × (own ≡ other) × (x ≡ y)
same_front dialect a b x y own other h k e =
    let n : length a ≡ length b = sym (h.size x) ∙ ap (size_at dialect) e ∙ k.size y in
    let s : a ≡ b = sym (take-append_seam a x) ∙ ap (take (length a)) e
    ∙ ap (λ m. take m (b ++ y)) n ∙ take-append_seam b y in (
      s,
      h.own_is ∙ ap (own_at dialect) s ∙ sym k.own_is,
      sym (drop-append_seam a x) ∙ ap (drop (length a)) e
          ∙ ap (λ m. drop m (b ++ y)) n ∙ drop-append_seam b y,
    )

no_front : (dialect : Dialect) (a x : List ℕ) (own : List (List ℕ)) → IsFront dialect a own →
    [] ≡ a ++ x → ⊥
no_front dialect a x own h e = let l = ap length e ∙ length-append a x in omega (arith, l, h.some)

-- what stands behind a row of pieces in a row of pieces is one
pub pieces_left : (dialect : Dialect) (front rest : List ℕ) → ArePieces dialect front →
    ArePieces dialect (front ++ rest) → ArePieces dialect rest
pieces_left dialect front rest h k = left front h.superblanks (front ++ rest) k.superblanks h.has
    k.has refl
  where
    left : (p : List ℕ) (own : List (List ℕ)) (text : List ℕ) (all : List (List ℕ)) →
        HasSuperblanks dialect p own → HasSuperblanks dialect text all → text ≡ p ++ rest →
        ArePieces dialect rest
    left p own text all (nothing e f) k is =
        let same : text ≡ rest = is ∙ ap (λ (q : List ℕ). q ++ rest) e in
        record {
          superblanks = all;
          has = subst (λ (q : List ℕ). HasSuperblanks dialect q all) same k;
        }
    left p own text all (piece a x b more q h e f) (nothing u v) is =
        absurd (no_front dialect a (x ++ rest) b (front_is dialect a b q)
        (sym u ∙ is ∙ ap (λ (z : List ℕ). z ++ rest) e ∙ append_assoc a x rest))
    left p own text all (piece a x b more q h e f) (piece c y d others r k u v) is =
        let s = same_front dialect c a y (x ++ rest) d b (front_is dialect c d r)
        (front_is dialect a b q)
        (sym u ∙ is ∙ ap (λ (z : List ℕ). z ++ rest) e ∙ append_assoc a x rest) in
        left x more y others h k s.2

-- a text has one list of superblanks
pub one_list_by : (dialect : Dialect) (text same : List ℕ) (one other : List (List ℕ)) →
    HasSuperblanks dialect text one → HasSuperblanks dialect same other → text ≡ same → one ≡ other
one_list_by dialect text same one other (nothing e f) (nothing g h) is = f ∙ sym h
one_list_by dialect text same one other (nothing e f) (piece a x own more p k g h) is =
    absurd (no_front dialect a x own (front_is dialect a own p) (sym e ∙ is ∙ g))
one_list_by dialect text same one other (piece a x own more p k e f) (nothing g h) is =
    absurd (no_front dialect a x own (front_is dialect a own p) (sym g ∙ sym is ∙ e))
one_list_by dialect text same one other (piece a x own more p k e f)
    (piece b y theirs rest q m g h) is =
    let s = same_front dialect a b x y own theirs (front_is dialect a own p)
    (front_is dialect b theirs q) (sym e ∙ is ∙ g) in
    let t = one_list_by dialect x y more rest k m s.2 in
    f ∙ ap (λ (z : List (List ℕ)). z ++ more) s.1
    ∙ ap (λ (z : List (List ℕ)). theirs ++ z) t ∙ sym h

pub one_list : (dialect : Dialect) (text : List ℕ) (one other : List (List ℕ)) →
    HasSuperblanks dialect text one → HasSuperblanks dialect text other → one ≡ other
one_list dialect text one other h k = one_list_by dialect text text one other h k refl

pub kept_twice : (first second third : Dialect) (text made last : List ℕ) →
    HaveSameSuperblanks first second text made → HaveSameSuperblanks second third made last →
    HaveSameSuperblanks first third text last
kept_twice first second third text made last h k =
    let same : k.superblanks ≡ h.superblanks =
    one_list second made k.superblanks h.superblanks k.before h.after in
    record {
      superblanks = h.superblanks;
      before = h.before;
      after =
          subst (λ (q : List (List ℕ)). HasSuperblanks third last q) same k.after;
    }
