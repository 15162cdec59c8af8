-- What is written of a plain text is read item by item: each piece is one item.
use Rattle.std.specs.Prelude.{◌≡◌, ◌⊎◌, ℕ, suc, ◌+◌, ◌<◌, ◌≤◌, List, [], ◌∷◌, ◌++◌, take, length, Bool, true, false, eqb, leb, ◌||◌, Some, None, refl, encode_utf8, if◌then◌else◌}
use Rattle.std.specs.List.{flat_map}
use Rattle.std.proofs.Common.{arith, ap, sym, subst, ◌∙◌, append_assoc, length-append, inl, inr}
use Rattle.std.proofs.lemmas.Bool.{ne_eqb, eqb-true, cases_lt}
use Rattle.std.proofs.lemmas.Bool.Decides.{nat_tests}
use Rattle.std.proofs.lemmas.List.{append-nil}
use Rattle.std.proofs.lemmas.Str.{encode_ascii, length-encode, len_utf8_bounds}
use Rattle.std.proofs.Math.Seq.{drop-append_seam, take-append_seam}
use Rattle.ap_symbol.specs.Coded.{IsCode}
use Rattle.ap_symbol.specs.Rendering.{letter_bytes, is_escaped_lem}
use Rattle.ap_stream.specs.declared.dialect.Dialect.{Dialect}
use Rattle.ap_stream.specs.declared.dialect.Dialect.TheVariants.{Raw, Generated}
use Rattle.ap_stream.specs.declared.item.Item.{Item}
use Rattle.ap_stream.specs.declared.item.Item.TheVariants as item
use Rattle.ap_stream.specs.declared.item.Read.{Read}
use Rattle.ap_stream.specs.Blanks.{Run, Open, Close, is_white, begins_blank, blank, further, behind_close}
use Rattle.ap_stream.proofs.BlankLaws.{blank_bracket, blank_at, further_further}
use Rattle.ap_stream.specs.Dialects.{is_refused, has_units}
use Rattle.ap_stream.specs.Limits.{item_max}
use Rattle.ap_stream.proofs.LimitLaws.{item_max_is}
use Rattle.ap_stream.proofs.LimitedLaws.{limited_within, limited_decided, limited_past}
use Rattle.ap_stream.specs.Reading.{Needs, Whole, Complete, at_end, first, last, limited, at_limit, Reads, reads, followed, read_at, counted, plain}
use Rattle.ap_stream.proofs.ReadingLaws.{reads_nil, reads_whole, reads_needs}
use Rattle.ap_stream.specs.Stands.{Always, InBlank, blank_first}
use Rattle.ap_stream.proofs.StandLaws.{begin_white, blank_ends, escaped_whole}
use Rattle.ap_stream.specs.Pieces.{IsToBracket, closed, bare}
use Rattle.ap_stream.specs.Told.{behind}
use Rattle.ap_stream.proofs.Fronts.{IsFree, alone, alone_some, free_whole, free_blank, to_bracket}
use Rattle.ap_format.specs.declared.blanks.Spot.TheVariants as spot
use Rattle.ap_format.specs.Pieces.{Pieces, white_size}
use Rattle.ap_format.proofs.PieceLaws.{run_max_is}
use Rattle.ap_format.specs.Deformatted.{is_space, run_bytes, piece_bytes}
use Rattle.ap_format.specs.Reformatted.{bare_blank, bare_item, bare_items}
use Rattle.ap_format.specs.Standing.{IsWhite}
use Rattle.ap_format.proofs.Runs.{white_parts, white_low, white_step}
use Rattle.ap_format.proofs.Moving.{run_short}
use Rattle.ap_format.proofs.Texts.{IsCut, ends, run, letter, stops, source}

-- the dialects that have no units and refuse reserved characters alone
pub record IsOpen (dialect : Dialect) : Type 0 where
  pub units : has_units dialect ≡ false
  pub allowed : (c : ℕ) → is_escaped_lem c ≡ false → is_refused dialect c ≡ false

no_reserved : (c : ℕ) → is_escaped_lem c ≡ false → (d : ℕ) → is_escaped_lem d ≡ true →
    eqb c d ≡ false
no_reserved c plain d t = ne_eqb c d (λ e. let k : is_escaped_lem c ≡ true =
    subst (λ z. is_escaped_lem z ≡ true) (sym e) t in absurd (cc))

pub raw_open : IsOpen Raw
raw_open = record {
  units = refl;
  allowed = λ c h. rw (
    no_reserved c h 94 refl,
    no_reserved c h 36 refl,
    no_reserved c h 47 refl,
    no_reserved c h 60 refl,
    no_reserved c h 62 refl,
    no_reserved c h 123 refl,
    no_reserved c h 125 refl,
    no_reserved c h 93 refl,
    no_reserved c h 64 refl,
  ) refl;
}

pub generated_open : IsOpen Generated
generated_open = record {
  units = refl;
  allowed = λ c h. rw (
    no_reserved c h 94 refl,
    no_reserved c h 36 refl,
    no_reserved c h 123 refl,
    no_reserved c h 125 refl,
    no_reserved c h 93 refl,
  ) refl;
}

-- characters

letter_free : (dialect : Dialect) → IsOpen dialect → (c : ℕ) → is_escaped_lem c ≡ false →
    is_white c ≡ false → IsFree dialect c
letter_free dialect is_open c plain dark = record {
  blank = rw (dark, no_reserved c plain 91 refl) refl;
  escape = no_reserved c plain 92 refl;
  unit = rw is_open.units refl;
  refused = is_open.allowed c plain;
}

letter_front : (dialect : Dialect) → IsOpen dialect → (c : ℕ) → IsCode c → is_white c ≡ false →
    Always dialect (letter_bytes c) (Whole (plain c (is_escaped_lem c)) (length (letter_bytes c)))
letter_front dialect is_open c code dark x = by (is_escaped_lem c) refl
  where
    by : (v : Bool) → is_escaped_lem c ≡ v →
        first dialect ((if v then 92 ∷ encode_utf8 c else encode_utf8 c) ++ x)
        ≡ Whole (plain c v) (length (if v then 92 ∷ encode_utf8 c else encode_utf8 c))
    by true e = escaped_whole dialect (encode_utf8 c) c (alone c code) x
        ∙ ap (Whole (plain c true)) (omega arith)
    by false e = free_whole c code dialect (letter_free dialect is_open c e dark) x

-- what is written of a character begins no blank
letter_blank : (c : ℕ) → IsCode c → is_white c ≡ false → (x : List ℕ) →
    blank_first (letter_bytes c ++ x) ≡ false
letter_blank c code dark x = by (is_escaped_lem c) refl
  where
    on : (p : List ℕ) → 0 < length p → blank_first p ≡ false → blank_first (p ++ x) ≡ false
    on [] some h = absurd (omega (arith, some))
    on (b ∷ p) some h = h

    by : (v : Bool) → is_escaped_lem c ≡ v →
        blank_first ((if v then 92 ∷ encode_utf8 c else encode_utf8 c) ++ x) ≡ false
    by true e = refl
    by false e = on (encode_utf8 c) (alone_some c code)
        (free_blank c code Raw (letter_free Raw raw_open c e dark))

letter_size : (c : ℕ) → (0 < length (letter_bytes c)) × (length (letter_bytes c) ≤ item_max)
letter_size c = by (is_escaped_lem c)
  where
    size : (0 < length (encode_utf8 c)) × (length (encode_utf8 c) ≤ 4)
    size = let l = length-encode c in let bounds = len_utf8_bounds c in
        (omega (arith, l, bounds.0), omega (arith, l, bounds.1))

    by : (v : Bool) → (0 < length (if v then 92 ∷ encode_utf8 c else encode_utf8 c))
        × (length (if v then 92 ∷ encode_utf8 c else encode_utf8 c) ≤ item_max)
    by true = let s = size in (omega arith, omega (arith, s.1, item_max_is))
    by false = let s = size in (s.0, omega (arith, s.1, item_max_is))

-- runs of white space

not_white : (b d : ℕ) → is_white b ≡ true → is_white d ≡ false → eqb b d ≡ false
not_white b d white dark = ne_eqb b d (λ e. let k : is_white d ≡ true =
    subst (λ z. is_white z ≡ true) e white in absurd (cc))

bracketed : (r : List ℕ) → IsWhite r → IsToBracket (r ++ 93 ∷ [])
bracketed [] white = closed refl
bracketed (b ∷ r) white =
    let parts = white_parts b r white in
    let low = white_low b parts.0 in
    bare b (r ++ 93 ∷ []) (inl (omega (arith, low)))
    (λ e. let k : is_white 92 ≡ true = subst (λ z. is_white z ≡ true) e parts.0 in cc)
    (λ e. let k : is_white 93 ≡ true = subst (λ z. is_white z ≡ true) e parts.0 in cc)
    (bracketed r parts.1)
    (ap (λ (q : List ℕ). q ++ (r ++ 93 ∷ [])) (sym (encode_ascii b low)))

superblank : (p : List ℕ) → IsToBracket p → InBlank (91 ∷ p)
superblank p h = record {
  begins = refl;
  on = λ x.
      blank_bracket (p ++ x)
      ∙ ap (λ (k : Close). further 1 (behind_close k (λ n. blank n (p ++ x)))) (to_bracket p h x)
      ∙ ap (λ (k : Run). further 1 (further (length p) k)) (blank_at p x)
      ∙ further_further 1 (length p) (blank 0 x)
      ∙ ap (λ n. further n (blank 0 x)) (let e : 1 + length p ≡ length (91 ∷ p) = omega arith in e);
}

one_space : (r : List ℕ) → is_space r ≡ true → r ≡ 32 ∷ []
one_space [] h = absurd (cc)
one_space (b ∷ []) h = ap (λ z. z ∷ []) (eqb-true b 32 h)
one_space (b ∷ c ∷ r) h = absurd (cc)

run_blank : (r : List ℕ) → IsWhite r → InBlank (run_bytes r)
run_blank r white = by (is_space r) refl
  where
    by : (v : Bool) → is_space r ≡ v → InBlank (if v then r else 91 ∷ (r ++ 93 ∷ []))
    by true e = subst InBlank (sym (one_space r e)) (begin_white 32 refl)
    by false e = superblank (r ++ 93 ∷ []) (bracketed r white)

-- a blank with nothing behind it

blank_nil : blank 0 [] ≡ Open
unfolding blank
blank_nil = refl

blank_needs : (dialect : Dialect) (p : List ℕ) → InBlank p → first dialect p ≡ Needs
unfolding first
blank_needs dialect [] h = refl
blank_needs dialect (b ∷ bs) h =
    let all : blank 0 (b ∷ bs) ≡ Open = ap (blank 0) (sym (append-nil (b ∷ bs))) ∙ h.on []
    ∙ ap (further (length (b ∷ bs))) blank_nil in
    rw (h.begins, all) refl

blank_last : (p : List ℕ) → InBlank p → last p ≡ Complete (item.Blank p)
unfolding last
blank_last [] h = absurd (let e = h.begins in cc)
blank_last (b ∷ bs) h =
    let all : blank 0 (b ∷ bs) ≡ Open = ap (blank 0) (sym (append-nil (b ∷ bs))) ∙ h.on []
    ∙ ap (further (length (b ∷ bs))) blank_nil in
    rw (h.begins, all) refl

some_blank : (p : List ℕ) → InBlank p → 0 < length p
some_blank [] h = absurd (let e = h.begins in cc)
some_blank (b ∷ bs) h = omega arith

-- and with what begins no blank

at_whole : (n : ℕ) (thing : Item) → n ≤ item_max → at_limit item_max (Whole thing n) ≡ Whole thing n
at_whole n thing short =
    let t : leb n item_max ≡ true = grind (arith, nat_tests, short) in rw t refl

either_none : (a b : Bool) → (a || b) ≡ false → (a ≡ false) × (b ≡ false)
either_none true b h = absurd (cc)
either_none false b h = (refl, h)

blank_limited : (dialect : Dialect) (p : List ℕ) → InBlank p → length p ≤ item_max →
    (b : ℕ) (x : List ℕ) → begins_blank b ≡ false →
    limited item_max dialect (p ++ b ∷ x) ≡ Whole (item.Blank p) (length p)
blank_limited dialect p h short b x dark =
    ap (limited item_max dialect) (sym (append_assoc p (b ∷ []) x))
    ∙ by (cases_lt (length p) item_max)
  where
    parts : (is_white b ≡ false) × (eqb b 91 ≡ false)
    parts = either_none (is_white b) (eqb b 91) dark

    always : Always dialect (p ++ b ∷ []) (Whole (item.Blank p) (length p))
    always = blank_ends dialect p b h parts.0 parts.1

    size : length (p ++ b ∷ []) ≡ suc (length p)
    size = let l = length-append p (b ∷ []) in omega (arith, l)

    by : (length p < item_max) ⊎ (item_max ≤ length p) →
        limited item_max dialect ((p ++ b ∷ []) ++ x) ≡ Whole (item.Blank p) (length p)
    by (inl less) =
        limited_decided item_max dialect (p ++ b ∷ []) (Whole (item.Blank p) (length p))
        (let s = size in omega (arith, s, less)) always tt x
    by (inr most) =
        let is : length p ≡ item_max = omega (arith, short, most) in
        let front : take item_max (p ++ b ∷ []) ≡ p =
        ap (λ n. take n (p ++ b ∷ [])) (sym is) ∙ take-append_seam p (b ∷ []) in
        limited_past item_max dialect (p ++ b ∷ []) (size ∙ ap suc is)
        (ap (first dialect) front ∙ blank_needs dialect p h) x
        ∙ ap (at_limit item_max)
        (ap (first dialect) (sym (append-nil (p ++ b ∷ []))) ∙ always [])
        ∙ at_whole (length p) (item.Blank p) short

pub blank_read : (dialect : Dialect) (place : ℕ) (p rest : List ℕ) → InBlank p →
    length p ≤ item_max → blank_first rest ≡ false → reads dialect place (p ++ rest)
    ≡ followed (Some (read_at place (item.Blank p) (length p)))
    (reads dialect (counted (place + length p)) rest)
blank_read dialect place p [] h short dark =
    ap (reads dialect place) (append-nil p)
    ∙ reads_needs dialect place p
    (limited_within item_max dialect p short ∙ blank_needs dialect p h) (some_blank p h)
    ∙ ap (at_end place p) (blank_last p h)
    ∙ ap (followed (Some (read_at place (item.Blank p) (length p))))
    (sym (reads_nil dialect (counted (place + length p))))
blank_read dialect place p (b ∷ x) h short dark =
    let some = some_blank p h in
    let size = length-append p (b ∷ x) in
    reads_whole dialect place (p ++ b ∷ x) (item.Blank p) (length p)
    (blank_limited dialect p h short b x dark) some (omega (arith, size, some))
    ∙ ap (λ (q : List ℕ). followed (Some (read_at place (item.Blank p) (length p)))
    (reads dialect (counted (place + length p)) q)) (drop-append_seam p (b ∷ x))

letter_read : (dialect : Dialect) → IsOpen dialect → (place c : ℕ) (rest : List ℕ) → IsCode c →
    is_white c ≡ false → reads dialect place (letter_bytes c ++ rest)
    ≡ followed (Some (read_at place (plain c (is_escaped_lem c)) (length (letter_bytes c))))
    (reads dialect (counted (place + length (letter_bytes c))) rest)
letter_read dialect is_open place c rest code dark =
    let s = letter_size c in
    let size = length-append (letter_bytes c) rest in
    reads_whole dialect place (letter_bytes c ++ rest) (plain c (is_escaped_lem c))
    (length (letter_bytes c))
    (limited_decided item_max dialect (letter_bytes c)
    (Whole (plain c (is_escaped_lem c)) (length (letter_bytes c))) s.1
    (letter_front dialect is_open c code dark) tt rest)
    s.0 (omega (arith, size, s.0))
    ∙ ap (λ (q : List ℕ).
    followed (Some (read_at place (plain c (is_escaped_lem c)) (length (letter_bytes c))))
    (reads dialect (counted (place + length (letter_bytes c))) q))
    (drop-append_seam (letter_bytes c) rest)

-- a run of white space is what its blank gives

bare_inside : (r : List ℕ) → IsWhite r → bare_blank spot.Inside (r ++ 93 ∷ []) ≡ r
unfolding bare_blank
bare_inside [] white = refl
bare_inside (b ∷ r) white =
    let parts = white_parts b r white in
    rw (not_white b 93 parts.0 refl, not_white b 92 parts.0 refl)
    (ap (λ q. b ∷ q) (bare_inside r parts.1))

bare_bracket : (bs : List ℕ) → bare_blank spot.Outside (91 ∷ bs) ≡ bare_blank spot.Inside bs
unfolding bare_blank
bare_bracket bs = refl

bare_space : bare_blank spot.Outside (32 ∷ []) ≡ 32 ∷ []
unfolding bare_blank
bare_space = refl

bare_run : (r : List ℕ) → IsWhite r → bare_blank spot.Outside (run_bytes r) ≡ r
bare_run r white = by (is_space r) refl
  where
    by : (v : Bool) → is_space r ≡ v →
        bare_blank spot.Outside (if v then r else 91 ∷ (r ++ 93 ∷ [])) ≡ r
    by true e = let is = one_space r e in
        ap (bare_blank spot.Outside) is ∙ bare_space ∙ sym is
    by false e = bare_bracket (r ++ 93 ∷ []) ∙ bare_inside r white

-- a text is read to its end, and its items give this text
pub record ReadsAs (dialect : Dialect) (place : ℕ) (bytes text : List ℕ) : Type 0 where
  pub stop : (reads dialect place bytes).stop ≡ None
  pub given : bare_items (reads dialect place bytes).items ≡ record { text = text; fault = None }

reads_next : (dialect : Dialect) (place at : ℕ) (read : Read) (bytes rest text own : List ℕ) →
    reads dialect place bytes ≡ followed (Some read) (reads dialect at rest) →
    bare_item read.item ≡ own → ReadsAs dialect at rest text →
    ReadsAs dialect place bytes (own ++ text)
reads_next dialect place at read bytes rest text own e is h = record {
  stop = ap (λ (q : Reads). q.stop) e ∙ h.stop;
  given =
      ap (λ (q : Reads). bare_items q.items) e ∙ ap (behind (bare_item read.item)) h.given
      ∙ ap (λ (s : List ℕ). behind s (record { text = text; fault = None })) is;
}

-- nothing is written where nothing is left, and then a character, but no white space
next_blank : (text : List ℕ) (cuts : Pieces) → IsCut text cuts → white_size text ≡ 0 →
    blank_first (flat_map piece_bytes cuts.pieces) ≡ false
next_blank text cuts (ends e is) dark = rw is refl
next_blank text cuts (run r y more white some short after h e is) dark = absurd (by r white some e)
  where
    by : (p : List ℕ) → IsWhite p → 0 < length p → text ≡ p ++ y → ⊥
    by [] w s t = omega (arith, s)
    by (b ∷ q) w s t = let one = white_step b (q ++ y) (white_parts b q w).0 in
        let none = sym (ap white_size t) ∙ dark in omega (arith, one, none)
next_blank text cuts (letter c y more code plain h e is) dark =
    rw is (letter_blank c code plain (flat_map piece_bytes more.pieces))
next_blank text cuts (stops fault broken is) dark = rw is refl

nothing_reads : (dialect : Dialect) (place : ℕ) → ReadsAs dialect place [] []
nothing_reads dialect place = record {
  stop = ap (λ (q : Reads). q.stop) (reads_nil dialect place);
  given = ap (λ (q : Reads). bare_items q.items) (reads_nil dialect place);
}

pub pieces_read : (dialect : Dialect) → IsOpen dialect → (place : ℕ) (text : List ℕ)
    (cuts : Pieces) → IsCut text cuts →
    ReadsAs dialect place (flat_map piece_bytes cuts.pieces) (flat_map source cuts.pieces)
pieces_read dialect is_open place text cuts (ends e is) =
    rw is (nothing_reads dialect place)
pieces_read dialect is_open place text cuts (run r y more white some short after h e is) =
    let p = run_bytes r in
    let size = run_short r in
    let fits : length (run_bytes r) ≤ item_max =
    omega (arith, size, short, run_max_is, item_max_is) in
    rw is
    (reads_next dialect place (counted (place + length p)) (read_at place (item.Blank p) (length p))
    (p ++ flat_map piece_bytes more.pieces) (flat_map piece_bytes more.pieces)
    (flat_map source more.pieces) r
    (blank_read dialect place p (flat_map piece_bytes more.pieces) (run_blank r white) fits
    (next_blank y more h after))
    (bare_run r white)
    (pieces_read dialect is_open (counted (place + length p)) y more h))
pieces_read dialect is_open place text cuts (letter c y more code dark h e is) =
    rw is
    (reads_next dialect place (counted (place + length (letter_bytes c)))
    (read_at place (plain c (is_escaped_lem c)) (length (letter_bytes c)))
    (letter_bytes c ++ flat_map piece_bytes more.pieces) (flat_map piece_bytes more.pieces)
    (flat_map source more.pieces) (encode_utf8 c)
    (letter_read dialect is_open place c (flat_map piece_bytes more.pieces) code dark) refl
    (pieces_read dialect is_open (counted (place + length (letter_bytes c))) y more h))
pieces_read dialect is_open place text cuts (stops fault broken is) =
    rw is (nothing_reads dialect place)
