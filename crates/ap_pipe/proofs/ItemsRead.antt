-- What bilingual lookup writes for a lexical text is read as the items of that text, each unit with
-- its translations.
use Rattle.std.specs.Prelude.{◌≡◌, ℕ, zero, suc, ◌+◌, ◌<◌, ◌≤◌, pred, nat_lt, List, [], ◌∷◌, ◌++◌, length, take, drop, Bool, true, false, cond, leb, eqb, not, None, refl, if◌then◌else◌}
use Rattle.std.proofs.Common.{arith, ap, sym, subst, ◌∙◌}
use Rattle.std.proofs.lemmas.Bool.Decides.{nat_tests}
use Rattle.std.proofs.lemmas.List.{append-nil, length-take, take-take}
use Rattle.std.proofs.lemmas.Str.{length-encode, len_utf8_bounds}
use Rattle.ap_symbol.specs.Kinds.{first_word}
use Rattle.ap_symbol.specs.declared.symbol.Symbol.{Symbol}
use Rattle.ap_stream.specs.Blanks.{Run, Open, Inside, BadChar, Done, blank, begins_blank}
use Rattle.ap_stream.proofs.BlankLaws.{blank_some}
use Rattle.ap_stream.specs.Chars.{Front, Part, NotChar, Char, char_at}
use Rattle.ap_stream.specs.Chunks.{Body, Opens, Fails, Closes, body}
use Rattle.ap_stream.specs.Dialects.{is_refused, has_chunks}
use Rattle.ap_stream.specs.Each.{each, item_text, is_over}
use Rattle.ap_stream.specs.Laws.{AreWords, IsBlank}
use Rattle.ap_stream.specs.Limits.{unit_max, item_max}
use Rattle.ap_stream.proofs.LimitLaws.{item_max_is}
use Rattle.ap_stream.specs.Reading.{First, Needs, Whole, Faulty, Bad, Past, first, last, Broken, last_run, begins_unit, of_run, of_escaped, of_char, of_unit, of_caret, of_chunk, of_body, plain as plain_item, limited, at_limit, past, walk, walked, reads, at_end, counted}
use Rattle.ap_stream.specs.Spelling.{spelled, character_bytes, unit_bytes}
use Rattle.ap_stream.specs.Stands.{blank_first}
use Rattle.ap_stream.specs.Told.{behind, ends_in}
use Rattle.ap_stream.specs.Units.{Rest, Lacks, Wrong, Ends, rest, form_of}
use Rattle.ap_stream.specs.declared.dialect.Dialect.{Dialect}
use Rattle.ap_stream.specs.declared.dialect.Dialect.TheVariants.{Lexical, Bilingual}
use Rattle.ap_stream.specs.declared.fault.LimitKind.TheVariants.{ItemTooLong, UnitTooLong}
use Rattle.ap_stream.specs.declared.fault.MalformedKind.TheVariants.{Unfinished, Stray}
use Rattle.ap_stream.specs.declared.fault.StreamFault.TheVariants.{Limit}
use Rattle.ap_stream.specs.declared.item.Item.{Item}
use Rattle.ap_stream.specs.declared.item.Item.TheVariants as item
use Rattle.ap_stream.specs.declared.item.Read.{Read}
use Rattle.ap_stream.proofs.ChunkCut.{done_on}
use Rattle.ap_stream.proofs.Rows.{IsRow, Rows, reads_rows, drop_pred}
use Rattle.ap_live.specs.Lexicon.{Lexicon}
use Rattle.ap_live.specs.Readable.{GivesReadable}
use Rattle.ap_lookup.specs.Lookup.{translations}
use Rattle.ap_lookup.specs.Works.{bilingual_unit}
use Rattle.ap_lookup.proofs.SuperblanksKept.{some_translations}
use Rattle.ap_pipe.proofs.ItemsBack.{is_blank, NoBlankFirst, AreOwn, all_spelled, IsBack, items_back}

-- A blank that is read: it has so many bytes, and what stands behind it is none.
abbrev BlankAt : List ℕ → Item → ℕ → Type 0
BlankAt bs (item.Plain c) n = Unit {0}
BlankAt bs (item.Blank bytes) n = (blank_first bs ≡ true) × (bytes ≡ take n bs) × (0 < n)
    × (n < length bs) × (blank 0 (take n bs) ≡ Open) × (blank_first (drop n bs) ≡ false)
BlankAt bs (item.Unit words) n = Unit {0}
BlankAt bs (item.Chunk c) n = Unit {0}

abbrev FirstAt : List ℕ → First → Type 0
FirstAt bs Needs = Unit {0}
FirstAt bs (Whole thing n) = BlankAt bs thing n
FirstAt bs (Faulty kind) = Unit {0}

at_cond : (bs : List ℕ) (v : Bool) (f g : First) → (v ≡ true → FirstAt bs f) →
    (v ≡ false → FirstAt bs g) → FirstAt bs (cond v f g)
at_cond bs true f g h k = h refl
at_cond bs false f g h k = k refl

run_at : (b : ℕ) (bs : List ℕ) (r : Run) → begins_blank b ≡ true → blank 0 (b ∷ bs) ≡ r →
    FirstAt (b ∷ bs) (of_run (b ∷ bs) r)
unfolding blank
run_at b bs Open t e = tt
run_at b bs Inside t e = tt
run_at b bs BadChar t e = tt
run_at b bs (Done n) t e =
    let on = done_on (b ∷ bs) n e in
    let goes : blank 0 (take n (b ∷ bs)) ≡ Open =
    ap (blank 0) (sym (append-nil (take n (b ∷ bs)))) ∙ on.0 [] in
    (t, refl, blank_some b bs n t e, on.2, goes, on.1)

escaped_at : (bs : List ℕ) (f : Front) → FirstAt bs (of_escaped f)
escaped_at bs Part = tt
escaped_at bs NotChar = tt
escaped_at bs (Char c n) = tt

char_at_front : (dialect : Dialect) (bs : List ℕ) (f : Front) → FirstAt bs (of_char dialect f)
char_at_front dialect bs Part = tt
char_at_front dialect bs NotChar = tt
char_at_front dialect bs (Char c n) =
    at_cond bs (is_refused dialect c) (Faulty (Bad Stray)) (Whole (plain_item c false) n) (λ _. tt)
    (λ _. tt)

body_at : (all : List ℕ) (name : List Symbol) (n : ℕ) (r : Body) → FirstAt all (of_body name [] n r)
body_at all name n Opens = tt
body_at all name n (Fails kind) = tt
body_at all name n (Closes parts m) = tt

caret_at : (dialect : Dialect) (all bs : List ℕ) (r : Rest) → FirstAt all (of_caret dialect bs r)
caret_at dialect all bs r =
    at_cond all (has_chunks dialect) (of_chunk bs r) (of_unit r) (λ _. chunk r) (λ _. unit r)
  where
    chunk : (r : Rest) → FirstAt all (of_chunk bs r)
    chunk Lacks = tt
    chunk (Wrong kind) = tt
    chunk (Ends words n) = body_at all (first_word words) (1 + n) (body n bs)

    unit : (r : Rest) → FirstAt all (of_unit r)
    unit Lacks = tt
    unit (Wrong kind) = tt
    unit (Ends words n) = tt

first_at : (dialect : Dialect) (bs : List ℕ) → FirstAt bs (first dialect bs)
unfolding first
first_at dialect [] = tt
first_at dialect (b ∷ bs) =
    at_cond (b ∷ bs) (begins_blank b) (of_run (b ∷ bs) (blank 0 (b ∷ bs))) _
    (λ t. run_at b bs (blank 0 (b ∷ bs)) t refl)
    (λ _. at_cond (b ∷ bs) (eqb b 92) (of_escaped (char_at bs)) _
    (λ _. escaped_at (b ∷ bs) (char_at bs))
    (λ _. at_cond (b ∷ bs) (begins_unit dialect b)
    (of_caret dialect bs (rest (form_of dialect) [] [] 0 bs)) (of_char dialect (char_at (b ∷ bs)))
    (λ _. caret_at dialect (b ∷ bs) bs (rest (form_of dialect) [] [] 0 bs))
    (λ _. char_at_front dialect (b ∷ bs) (char_at (b ∷ bs)))))

-- within the limit
abbrev IsShort : ℕ → Item → ℕ → Type 0
IsShort most (item.Plain c) n = Unit {0}
IsShort most (item.Blank bytes) n = n ≤ most
IsShort most (item.Unit words) n = Unit {0}
IsShort most (item.Chunk c) n = Unit {0}

abbrev LimitedAt : ℕ → List ℕ → First → Type 0
LimitedAt most bs Needs = length bs ≤ most
LimitedAt most bs (Whole thing n) = BlankAt bs thing n × IsShort most thing n
LimitedAt most bs (Faulty kind) = Unit {0}

first_taken : (k : ℕ) (bs : List ℕ) → blank_first (take k bs) ≡ true → blank_first bs ≡ true
first_taken zero bs h = absurd (cc)
first_taken (suc k) [] h = h
first_taken (suc k) (b ∷ bs) h = h

first_dropped : (n k : ℕ) (bs : List ℕ) → n < length (take k bs) →
    blank_first (drop n (take k bs)) ≡ blank_first (drop n bs)
first_dropped n zero bs h = absurd (omega (arith, h))
first_dropped n (suc k) [] h = absurd (omega (arith, h))
first_dropped zero (suc k) (b ∷ bs) h = refl
first_dropped (suc n) (suc k) (b ∷ bs) h = first_dropped n k bs (omega (arith, h))

widen : (most k : ℕ) (bs : List ℕ) (thing : Item) (n : ℕ) → k ≤ suc most →
    BlankAt (take k bs) thing n → BlankAt bs thing n × IsShort most thing n
widen most k bs (item.Plain c) n few h = (tt, tt)
widen most k bs (item.Blank bytes) n few h =
    let l = length-take k bs in
    let same : take n (take k bs) ≡ take n bs = take-take n k bs (omega (arith, l, h.3)) in (
      (
        first_taken k bs h.0,
        h.1 ∙ same,
        h.2,
        omega (arith, l, h.3),
        ap (blank 0) (sym same) ∙ h.4,
        sym (first_dropped n k bs h.3) ∙ h.5,
      ),
      omega (arith, l, h.3, few),
    )
widen most k bs (item.Unit words) n few h = (tt, tt)
widen most k bs (item.Chunk c) n few h = (tt, tt)

short_at : (most : ℕ) (bs : List ℕ) (f : First) → length bs ≤ most → FirstAt bs f →
    LimitedAt most bs f
short_at most bs Needs fits h = fits
short_at most bs (Whole (item.Plain c) n) fits h = (tt, tt)
short_at most bs (Whole (item.Blank bytes) n) fits h = (h, omega (arith, fits, h.3))
short_at most bs (Whole (item.Unit words) n) fits h = (tt, tt)
short_at most bs (Whole (item.Chunk c) n) fits h = (tt, tt)
short_at most bs (Faulty kind) fits h = tt

limit_at : (most : ℕ) (bs : List ℕ) (f : First) → FirstAt (take (suc most) bs) f →
    LimitedAt most bs (at_limit most f)
limit_at most bs Needs h = tt
limit_at most bs (Whole thing n) h = by (leb n most)
  where
    by : (v : Bool) →
        LimitedAt most bs (cond v (Whole thing n) (Faulty (Past ItemTooLong)))
    by true = widen most (suc most) bs thing n (omega arith) h
    by false = tt
limit_at most bs (Faulty kind) h = tt

past_at : (most : ℕ) (bs : List ℕ) (f g : First) → FirstAt (take most bs) f →
    FirstAt (take (suc most) bs) g → LimitedAt most bs (past most f g)
past_at most bs Needs g h k = limit_at most bs g k
past_at most bs (Whole thing n) g h k = widen most most bs thing n (omega arith) h
past_at most bs (Faulty kind) g h k = tt

limited_at : (dialect : Dialect) (most : ℕ) (bs : List ℕ) →
    LimitedAt most bs (limited most dialect bs)
unfolding limited
limited_at dialect most bs = by (leb (length bs) most) refl
  where
    by : (v : Bool) → leb (length bs) most ≡ v → LimitedAt most bs (cond v (first dialect bs)
        (past most (first dialect (take most bs)) (first dialect (take (suc most) bs))))
    by true e =
        let fits : length bs ≤ most = grind (arith, nat_tests, e) in
        short_at most bs (first dialect bs) fits (first_at dialect bs)
    by false e =
        past_at most bs (first dialect (take most bs)) (first dialect (take (suc most) bs))
        (first_at dialect (take most bs)) (first_at dialect (take (suc most) bs))

-- the blanks of a text, none behind another, where the first item may be one or not
abbrev BlankIn : Bool → Item → Type 0
BlankIn may (item.Plain c) = Unit {0}
BlankIn may (item.Blank bytes) = (may ≡ true) × IsBlank bytes × (blank_first bytes ≡ true)
    × (length bytes ≤ unit_max)
BlankIn may (item.Unit words) = Unit {0}
BlankIn may (item.Chunk c) = Unit {0}

abbrev Apart : Bool → List Read → Type 0
Apart may [] = Unit {0}
Apart may (read ∷ reads) = BlankIn may read.item × Apart (not (is_blank read.item)) reads

taken_first : (n : ℕ) (bs : List ℕ) → 0 < n → blank_first bs ≡ true →
    blank_first (take n bs) ≡ true
taken_first zero bs some h = absurd (omega (arith, some))
taken_first (suc n) [] some h = h
taken_first (suc n) (b ∷ bs) some h = h

short : (n : ℕ) → n ≤ item_max → n ≤ unit_max
short n h = rw (← item_max_is) h

-- a blank that the text ends in
last_apart : (place : ℕ) (bs : List ℕ) (may : Bool) → (blank_first bs ≡ true → may ≡ true) →
    length bs ≤ item_max → (at_end place bs (last bs)).stop ≡ None →
    Apart may (at_end place bs (last bs)).items
unfolding last
last_apart place [] may m fits h = absurd (cc)
last_apart place (b ∷ bs) may m fits h = begun (begins_blank b) refl h
  where
    run : (r : Run) → begins_blank b ≡ true → blank 0 (b ∷ bs) ≡ r →
        (at_end place (b ∷ bs) (last_run (b ∷ bs) r)).stop ≡ None →
        Apart may (at_end place (b ∷ bs) (last_run (b ∷ bs) r)).items
    run Open t e h = ((m t, (omega arith, e), t, short (length (b ∷ bs)) fits), tt)
    run Inside t e h = absurd (cc)
    run BadChar t e h = absurd (cc)
    run (Done n) t e h = absurd (cc)

    begun : (v : Bool) → begins_blank b ≡ v → (at_end place (b ∷ bs)
        (cond v (last_run (b ∷ bs) (blank 0 (b ∷ bs))) (Broken (Bad Unfinished)))).stop ≡ None →
        Apart may (at_end place (b ∷ bs)
        (cond v (last_run (b ∷ bs) (blank 0 (b ∷ bs))) (Broken (Bad Unfinished)))).items
    begun true t h = run (blank 0 (b ∷ bs)) t refl h
    begun false t h = absurd (cc)

walk_apart : (dialect : Dialect) (place skip : ℕ) (bs : List ℕ) (may : Bool) →
    (blank_first (drop skip bs) ≡ true → may ≡ true) →
    (walk dialect place skip bs).stop ≡ None → Apart may (walk dialect place skip bs).items
unfolding walk
walk_apart dialect place zero [] may m h = tt
walk_apart dialect place (suc skip) [] may m h = tt
walk_apart dialect place (suc skip) (b ∷ bs) may m h = walk_apart dialect place skip bs may m h
walk_apart dialect place zero (b ∷ bs) may m h =
    by (limited item_max dialect (b ∷ bs)) (limited_at dialect item_max (b ∷ bs))
    (λ at k next n e. walk_apart dialect at k bs next n e) h
  where
    blank_in : (thing : Item) (n : ℕ) → BlankAt (b ∷ bs) thing n → IsShort item_max thing n →
        BlankIn may thing
    blank_in (item.Plain c) n a s = tt
    blank_in (item.Blank bytes) n a s =
        let l = length-take n (b ∷ bs) in
        let size : length bytes ≡ n = ap length a.1 ∙ (omega (arith, l, a.3)) in
        let some : 0 < length bytes = omega (arith, size, a.2) in
        let goes : blank 0 bytes ≡ Open = ap (blank 0) a.1 ∙ a.4 in (
          m a.0,
          (some, goes),
          ap blank_first a.1 ∙ taken_first n (b ∷ bs) a.2 a.0,
          short (length bytes) (omega (arith, size, s)),
        )
    blank_in (item.Unit words) n a s = tt
    blank_in (item.Chunk c) n a s = tt

    next_may : (thing : Item) (n : ℕ) → BlankAt (b ∷ bs) thing n →
        blank_first (drop (pred n) bs) ≡ true → not (is_blank thing) ≡ true
    next_may (item.Plain c) n a e = refl
    next_may (item.Blank bytes) n a e =
        let f : blank_first (drop (pred n) bs) ≡ false =
        ap blank_first (sym (drop_pred n b bs a.2)) ∙ a.5 in absurd (cc)
    next_may (item.Unit words) n a e = refl
    next_may (item.Chunk c) n a e = refl

    by : (f : First) → LimitedAt item_max (b ∷ bs) f →
        ((at k : ℕ) (next : Bool) → (blank_first (drop k bs) ≡ true → next ≡ true) →
        (walk dialect at k bs).stop ≡ None → Apart next (walk dialect at k bs).items) →
        (walked place (b ∷ bs) f (λ at k. walk dialect at k bs)).stop ≡ None →
        Apart may (walked place (b ∷ bs) f (λ at k. walk dialect at k bs)).items
    by Needs r go h = last_apart place (b ∷ bs) may m r h
    by (Whole thing n) r go h = (
      blank_in thing n r.0 r.1,
      go (counted (place + n)) (pred n) (not (is_blank thing)) (next_may thing n r.0) h,
    )
    by (Faulty kind) r go h = absurd (cc)

reads_apart : (dialect : Dialect) (place : ℕ) (text : List ℕ) → (reads dialect place text).stop
    ≡ None → Apart true (reads dialect place text).items
unfolding reads
reads_apart dialect place text h = walk_apart dialect place 0 text true (λ _. refl) h

-- the words that bilingual lookup writes of a unit
abbrev pub with_translations : Lexicon → List (List Symbol) → List (List Symbol)
with_translations lexicon words =
    first_word words ∷ translations lexicon false (first_word words)

-- the items of a lexical text, with these words
abbrev pub remade : Lexicon → Item → Item
remade lexicon (item.Plain c) = item.Plain c
remade lexicon (item.Blank bytes) = item.Blank bytes
remade lexicon (item.Unit words) = item.Unit (with_translations lexicon words)
remade lexicon (item.Chunk c) = item.Chunk c

abbrev pub all_remade : Lexicon → List Read → List Item
all_remade lexicon [] = []
all_remade lexicon (read ∷ reads) = remade lexicon read.item ∷ all_remade lexicon reads

-- the bytes of a plain character are few
few_bytes : (letter : ℕ) (escaped : Bool) →
    length (character_bytes (record { letter = letter; escaped = escaped })) ≤ unit_max
few_bytes letter true =
    let l = length-encode letter in let k = len_utf8_bounds letter in omega (arith, l, k)
few_bytes letter false =
    let l = length-encode letter in let k = len_utf8_bounds letter in omega (arith, l, k)

under : (n : ℕ) → nat_lt unit_max n ≡ false → n ≤ unit_max
under n h = grind (arith, nat_tests)

-- what lookup writes is what is written of such items
record IsMade (lexicon : Lexicon) (items : List Read) : Type 0 where
  own : AreOwn Bilingual (all_remade lexicon items)
  text : (each (bilingual_unit lexicon false) items).text ≡ all_spelled (all_remade lexicon items)

module _ (lexicon : Lexicon) (gives : GivesReadable lexicon) where
  words_made : (words : List (List Symbol)) → AreWords Lexical words →
      AreWords Bilingual (with_translations lexicon words)
  words_made [] h = absurd h
  words_made (word ∷ words) h =
      let t = some_translations lexicon false gives word h.2 in (refl, h.1, h.2, t.0, t.1)

  apart_next : (items : List Read) → Apart false items → NoBlankFirst (all_remade lexicon items)
  apart_next [] h = tt
  apart_next (read ∷ items) h = by read.item h.0
    where
      by : (thing : Item) → BlankIn false thing → is_blank (remade lexicon thing) ≡ false
      by (item.Plain c) h = refl
      by (item.Blank bytes) h = absurd (let e = h.0 in cc)
      by (item.Unit words) h = refl
      by (item.Chunk c) h = refl

  own_next : (thing : Item) (bytes : List ℕ) (may : Bool) (items : List Read) →
      IsRow Lexical thing bytes → BlankIn may thing → Apart (not (is_blank thing)) items →
      is_over (bilingual_unit lexicon false) thing ≡ false →
      AreOwn Bilingual (all_remade lexicon items) →
      AreOwn Bilingual (remade lexicon thing ∷ all_remade lexicon items)
  own_next (item.Plain c) bytes may items r b a over go =
      ((r.0, r.1), few_bytes c.letter c.escaped, λ e. absurd (cc), go)
  own_next (item.Blank all) bytes may items r b a over go =
      ((b.1, b.2), b.3, λ _. apart_next items a, go)
  own_next (item.Unit words) bytes may items r b a over go = (
    words_made words r.1,
    under (length (unit_bytes (with_translations lexicon words))) over,
    λ e. absurd (cc),
    go,
  )
  own_next (item.Chunk c) bytes may items r b a over go = absurd r

  spelled_as : (thing : Item) → item_text (bilingual_unit lexicon false) thing
      ≡ spelled (remade lexicon thing)
  spelled_as (item.Plain c) = refl
  spelled_as (item.Blank bytes) = refl
  spelled_as (item.Unit words) = refl
  spelled_as (item.Chunk c) = refl

  made : (text : List ℕ) (may : Bool) (items : List Read) → Rows Lexical text items →
      Apart may items → (each (bilingual_unit lexicon false) items).fault ≡ None →
      IsMade lexicon items
  made text may [] h a e = record { own = tt; text = refl }
  made text may (read ∷ items) h a e =
      by (is_over (bilingual_unit lexicon false) read.item) refl
      (λ f. made h.1 (not (is_blank read.item)) items h.3 a.1 f) e
    where
      on : is_over (bilingual_unit lexicon false) read.item ≡ false → IsMade lexicon items →
          AreOwn Bilingual (all_remade lexicon (read ∷ items))
      on over go = own_next read.item h.0 may items h.2 a.0 a.1 over go.own

      by : (v : Bool) → is_over (bilingual_unit lexicon false) read.item ≡ v →
          ((each (bilingual_unit lexicon false) items).fault ≡ None → IsMade lexicon items) →
          (if v then ends_in [] (Limit UnitTooLong read.place)
          else behind (item_text (bilingual_unit lexicon false) read.item)
          (each (bilingual_unit lexicon false) items)).fault ≡ None → IsMade lexicon (read ∷ items)
      by true over go e = absurd (cc)
      by false over go e =
          let g = go e in
          record {
            own = on over g;
            text =
                rw over
                (ap (λ (q : List ℕ). q ++ (each (bilingual_unit lexicon false) items).text)
                (spelled_as read.item)
                ∙ ap (λ (q : List ℕ). spelled (remade lexicon read.item) ++ q) g.text);
          }

  -- so it is read as these items
  pub lookup_back : (from to : ℕ) (text : List ℕ) → (reads Lexical from text).stop ≡ None →
      (each (bilingual_unit lexicon false) (reads Lexical from text).items).fault ≡ None →
      IsBack (all_remade lexicon (reads Lexical from text).items)
      (reads Bilingual to
      (each (bilingual_unit lexicon false) (reads Lexical from text).items).text)
  lookup_back from to text s e =
      let m = made text true (reads Lexical from text).items (reads_rows Lexical from text s)
      (reads_apart Lexical from text s) e in
      subst (λ (q : List ℕ). IsBack (all_remade lexicon (reads Lexical from text).items)
      (reads Bilingual to q)) (sym m.text)
      (items_back Bilingual to (all_remade lexicon (reads Lexical from text).items) m.own)
