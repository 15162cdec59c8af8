-- A text that is read to its end is the bytes of its items, and these are pieces.
use Rattle.std.specs.Prelude.{◌≡◌, ℕ, zero, suc, ◌+◌, ◌<◌, ◌≤◌, pred, List, [], ◌∷◌, ◌++◌, drop, take, length, Bool, true, false, cond, eqb, leb, None, refl}
use Rattle.std.specs.List.{AllByRecursion}
use Rattle.std.proofs.Common.{arith, ap, sym, subst, ◌∙◌}
use Rattle.std.proofs.lemmas.Bool.{eqb-true}
use Rattle.std.proofs.lemmas.List.{append-nil, length-take, length-take-le, take-append-drop, take-take, take_all}
use Rattle.std.proofs.lemmas.List.Concat.{flat_map-cons}
use Rattle.std.proofs.Math.Seq.{take-append_seam, drop-append_seam}
use Rattle.ap_symbol.specs.Coded.{IsCode}
use Rattle.ap_symbol.specs.declared.symbol.Symbol.{Symbol}
use Rattle.ap_stream.specs.declared.dialect.Dialect.{Dialect}
use Rattle.ap_stream.specs.declared.fault.LimitKind.TheVariants.{ItemTooLong}
use Rattle.ap_stream.specs.declared.fault.MalformedKind.TheVariants.{Stray, Unfinished}
use Rattle.ap_stream.specs.declared.item.Item.{Item}
use Rattle.ap_stream.specs.declared.item.Item.TheVariants as item
use Rattle.ap_stream.specs.declared.item.Read.{Read}
use Rattle.ap_stream.specs.Blanks.{Run, Open, Inside, BadChar, Done, blank, begins_blank}
use Rattle.ap_stream.proofs.BlankLaws.{blank_some}
use Rattle.ap_stream.specs.Chars.{Front, Part, NotChar, Char, char_at}
use Rattle.ap_stream.specs.Dialects.{is_refused, has_chunks}
use Rattle.ap_stream.specs.Laws.{AreWords, AreSpelt, AreParts}
use Rattle.ap_stream.specs.Limits.{item_max}
use Rattle.ap_stream.specs.Notation.{AreBlanks, none, space, bracketed, IsUnitText, IsChunkText}
use Rattle.ap_stream.specs.Pieces.{HasSuperblanks, nothing, piece, plain, white, superblank, unit, IsUnit, is_bare, supers_of, chunk}
use Rattle.ap_symbol.specs.Kinds.{first_word}
use Rattle.ap_stream.specs.Reading.{First, Needs, Whole, Faulty, Bad as OfKind, Past, first, last, Last, Complete, Broken, last_run, begins_unit, of_run, of_escaped, of_char, of_unit, plain as plain_item, limited, at_limit, past, walk, walked, reads, at_end, counted, of_caret, of_chunk, of_body}
use Rattle.ap_stream.specs.Spelling.{character_bytes}
use Rattle.ap_stream.specs.Supers.{blank_supers, item_supers}
use Rattle.ap_stream.specs.Units.{Rest, Lacks, Wrong, Ends, rest, form_of}
use Rattle.ap_stream.proofs.Cut.{char_size, char_bytes, char_code}
use Rattle.ap_stream.proofs.BlankTexts.{to_bracket, RunText, run_text}
use Rattle.ap_stream.proofs.Fronts.{white_other, same_test, low_blank, low_escape, low_unit, free_bare, unit_cut}
use Rattle.ap_stream.proofs.Joined.{joined, one_piece}
use Rattle.ap_stream.proofs.Superblanks.{supers_other, supers_closed}
use Rattle.ap_stream.proofs.UnitTexts.{unit_text}
use Rattle.ap_stream.proofs.WordsRead.{unit_words}
use Rattle.ap_stream.specs.Chunks.{Body, Opens, Fails, Closes, body}
use Rattle.ap_stream.specs.declared.item.Chunk.{Chunk}
use Rattle.ap_stream.specs.declared.dialect.Dialect.TheVariants.{Raw, Analysed, Lexical, Bilingual, Chunked, Generated}
use Rattle.ap_stream.proofs.ChunkCut.{chunk_cut}
pub use Rattle.ap_stream.proofs.BlankTexts.{Behind, ClosedAt, closed_at}

pub drop_pred : (n b : ℕ) (bs : List ℕ) → 0 < n → drop n (b ∷ bs) ≡ drop (pred n) bs
drop_pred zero b bs some = absurd (omega (arith, some))
drop_pred (suc n) b bs some = refl

-- a blank that is read: a row of white space and superblanks, in every dialect

abbrev pub BlankRow : List ℕ → Type 0
BlankRow bytes = (dialect : Dialect) → HasSuperblanks dialect bytes (blank_supers 0 bytes)

blanks_row : (bytes : List ℕ) → AreBlanks bytes → BlankRow bytes
unfolding blank_supers
blanks_row bytes (none e) dialect =
    subst (λ (q : List ℕ). HasSuperblanks dialect q (blank_supers 0 q)) (sym e) (nothing refl refl)
blanks_row bytes (space b rest w h e) dialect =
    subst (λ (q : List ℕ). HasSuperblanks dialect q (blank_supers 0 q)) (sym e)
    (piece (b ∷ []) rest [] (blank_supers 0 rest) (white b refl w refl)
    (blanks_row rest h dialect) refl (supers_other b rest (white_other b w)))
blanks_row bytes (bracketed front rest s h e) dialect =
    let inner : List ℕ = s.rest in
    let all : blank_supers 0 (91 ∷ (s.rest ++ rest)) ≡ (91 ∷ s.rest) ∷ blank_supers 0 rest =
    supers_closed (s.rest ++ rest) (length s.rest) (to_bracket s.rest s.goes_on rest)
    ∙ rw (take-append_seam s.rest rest, drop-append_seam s.rest rest) refl in
    let whole : front ++ rest ≡ 91 ∷ (s.rest ++ rest) =
    ap (λ (q : List ℕ). q ++ rest) s.begins in
    let own : blank_supers 0 (front ++ rest) ≡ (front ∷ []) ++ blank_supers 0 rest =
    ap (blank_supers 0) whole ∙ all
    ∙ ap (λ (q : List ℕ). q ∷ blank_supers 0 rest) (sym s.begins) in
    subst (λ (q : List ℕ). HasSuperblanks dialect q (blank_supers 0 q)) (sym e)
    (piece front rest (front ∷ []) (blank_supers 0 rest) (superblank s refl)
    (blanks_row rest h dialect) refl own)

abbrev pub RunRow : List ℕ → Run → Type 0
RunRow bs Open = BlankRow bs
RunRow bs Inside = Unit {0}
RunRow bs BadChar = Unit {0}
RunRow bs (Done n) = BlankRow (take n bs) × (n ≤ length bs)

as_row : (bs : List ℕ) (r : Run) → RunText bs r → RunRow bs r
as_row bs Open h = blanks_row bs h
as_row bs Inside h = tt
as_row bs BadChar h = tt
as_row bs (Done n) h = (blanks_row (take n bs) h.0, h.1)

pub run_row : (skip : ℕ) (bs : List ℕ) → RunRow (drop skip bs) (blank skip bs)
run_row skip bs = as_row (drop skip bs) (blank skip bs) (run_text skip bs)

-- a chunk that is read, and its bytes, in the dialect that has them
abbrev pub ChunkRow : Dialect → Chunk → List ℕ → Type 0
ChunkRow Raw c bytes = ⊥
ChunkRow Analysed c bytes = ⊥
ChunkRow Lexical c bytes = ⊥
ChunkRow Bilingual c bytes = ⊥
ChunkRow Chunked c bytes = (first Chunked bytes ≡ Whole (item.Chunk c) (length bytes))
    × AreSpelt false c.name × AreParts c.content
ChunkRow Generated c bytes = ⊥

-- an item that is read, and its bytes
abbrev pub IsRow : Dialect → Item → List ℕ → Type 0
IsRow dialect (item.Plain c) bytes =
    IsCode c.letter × (c.escaped ≡ false → is_bare dialect c.letter ≡ true)
    × (bytes ≡ character_bytes c)
IsRow dialect (item.Blank blank) bytes = (blank ≡ bytes) × BlankRow bytes
IsRow dialect (item.Unit words) bytes = IsUnit dialect bytes × AreWords dialect words
IsRow dialect (item.Chunk c) bytes = ChunkRow dialect c bytes

abbrev pub FirstRow : Dialect → List ℕ → First → Type 0
FirstRow dialect bs Needs = Unit {0}
FirstRow dialect bs (Whole thing n) = IsRow dialect thing (take n bs) × (0 < n) × (n ≤ length bs)
FirstRow dialect bs (Faulty kind) = Unit {0}

row_cond : (dialect : Dialect) (bs : List ℕ) (v : Bool) (f g : First) →
    (v ≡ true → FirstRow dialect bs f) → (v ≡ false → FirstRow dialect bs g) →
    FirstRow dialect bs (cond v f g)
row_cond dialect bs true f g h k = h refl
row_cond dialect bs false f g h k = k refl

row_run : (dialect : Dialect) (b : ℕ) (bs : List ℕ) (r : Run) → begins_blank b ≡ true →
    blank 0 (b ∷ bs) ≡ r → RunRow (b ∷ bs) r → FirstRow dialect (b ∷ bs) (of_run (b ∷ bs) r)
row_run dialect b bs Open t e h = tt
row_run dialect b bs Inside t e h = tt
row_run dialect b bs BadChar t e h = tt
row_run dialect b bs (Done n) t e h = ((refl, h.0), blank_some b bs n t e, h.1)

row_escaped : (dialect : Dialect) (b : ℕ) (bs : List ℕ) (f : Front) → b ≡ 92 → char_at bs ≡ f →
    FirstRow dialect (b ∷ bs) (of_escaped f)
row_escaped dialect b bs Part is e = tt
row_escaped dialect b bs NotChar is e = tt
row_escaped dialect b bs (Char c n) is e =
    let grown : 1 + n ≡ suc n = omega arith in
    let s = char_size bs c n e in (
      (
        char_code bs c n e,
        λ u. absurd (cc),
        ap (λ q. take q (b ∷ bs)) grown
            ∙ ap (λ q. q ∷ take n bs) is ∙ ap (λ (q : List ℕ). 92 ∷ q) (sym (char_bytes bs c n e)),
      ),
      omega arith,
      omega (arith, s.1),
    )

row_char : (dialect : Dialect) (b : ℕ) (bs : List ℕ) (f : Front) → begins_blank b ≡ false →
    eqb b 92 ≡ false → begins_unit dialect b ≡ false → char_at (b ∷ bs) ≡ f →
    FirstRow dialect (b ∷ bs) (of_char dialect f)
row_char dialect b bs Part u v w e = tt
row_char dialect b bs NotChar u v w e = tt
row_char dialect b bs (Char c n) u v w e =
    row_cond dialect (b ∷ bs) (is_refused dialect c) (Faulty (OfKind Stray))
    (Whole (plain_item c false) n) (λ _. tt)
    (λ r. (
      (
        char_code (b ∷ bs) c n e,
        λ _. free_bare dialect c
            (record {
              blank = sym (same_test begins_blank low_blank b bs c n e) ∙ u;
              escape =
                  sym (same_test (λ z. eqb z 92) low_escape b bs c n e) ∙ v;
              unit =
                  sym (same_test (begins_unit dialect) (low_unit dialect) b bs c n e) ∙ w;
              refused = r;
            }),
        sym (char_bytes (b ∷ bs) c n e),
      ),
      (char_size (b ∷ bs) c n e).0,
      (char_size (b ∷ bs) c n e).1,
    ))

row_unit : (dialect : Dialect) (bs : List ℕ) (words : List (List Symbol)) (n : ℕ) →
    first dialect bs ≡ Whole (item.Unit words) n → FirstRow dialect bs (Whole (item.Unit words) n)
row_unit dialect bs words n e =
    let c = unit_cut dialect bs words n e in
    let text : IsUnitText dialect words (take n bs) = unit_text dialect (take n bs) words c.0 in
    ((record { words = words; text = text }, unit_words dialect bs words n e), c.1, c.2)

chunk_row : (dialect : Dialect) (bs : List ℕ) (c : Chunk) (n : ℕ) → has_chunks dialect ≡ true →
    first dialect bs ≡ Whole (item.Chunk c) n → FirstRow dialect bs (Whole (item.Chunk c) n)
chunk_row Raw bs c n has e = absurd (cc)
chunk_row Analysed bs c n has e = absurd (cc)
chunk_row Lexical bs c n has e = absurd (cc)
chunk_row Bilingual bs c n has e = absurd (cc)
chunk_row Chunked bs c n has e =
    let k = chunk_cut bs c n e in
    let alone : first Chunked (take n bs) ≡ Whole (item.Chunk c) (length (take n bs)) =
    ap (first Chunked) (sym (append-nil (take n bs))) ∙ k.read []
    ∙ ap (Whole (item.Chunk c)) (sym (length-take-le n bs k.fits)) in
    ((alone, k.name, k.parts), k.some, k.fits)
chunk_row Generated bs c n has e = absurd (cc)

unit_row : (dialect : Dialect) (b : ℕ) (bs : List ℕ) → begins_blank b ≡ false → eqb b 92 ≡ false →
    begins_unit dialect b ≡ true →
    FirstRow dialect (b ∷ bs) (of_caret dialect bs (rest (form_of dialect) [] [] 0 bs))
unfolding first
unit_row dialect b bs u v w =
    row_cond dialect (b ∷ bs) (has_chunks dialect)
    (of_chunk bs (rest (form_of dialect) [] [] 0 bs)) (of_unit (rest (form_of dialect) [] [] 0 bs))
    (λ c. with_body c (rest (form_of dialect) [] [] 0 bs) refl)
    (λ c. by c (rest (form_of dialect) [] [] 0 bs) refl)
  where
    by : has_chunks dialect ≡ false → (r : Rest) → rest (form_of dialect) [] [] 0 bs ≡ r →
        FirstRow dialect (b ∷ bs) (of_unit r)
    by c Lacks e = tt
    by c (Wrong kind) e = tt
    by c (Ends words n) e = row_unit dialect (b ∷ bs) words (1 + n) (rw (u, v, w, c, e) refl)

    closed_row : has_chunks dialect ≡ true → (words : List (List Symbol)) (n : ℕ) →
        rest (form_of dialect) [] [] 0 bs ≡ Ends words n → (z : Body) → body n bs ≡ z →
        FirstRow dialect (b ∷ bs) (of_body (first_word words) [] (1 + n) z)
    closed_row c words n e Opens f = tt
    closed_row c words n e (Fails kind) f = tt
    closed_row c words n e (Closes parts m) f =
        chunk_row dialect (b ∷ bs) (record { name = first_word words; content = parts }) (1 + n + m) c
        (rw (u, v, w, c, e, f) refl)

    with_body : has_chunks dialect ≡ true → (r : Rest) → rest (form_of dialect) [] [] 0 bs ≡ r →
        FirstRow dialect (b ∷ bs) (of_chunk bs r)
    with_body c Lacks e = tt
    with_body c (Wrong kind) e = tt
    with_body c (Ends words n) e = closed_row c words n e (body n bs) refl

pub first_row : (dialect : Dialect) (bs : List ℕ) → FirstRow dialect bs (first dialect bs)
unfolding first
first_row dialect [] = tt
first_row dialect (b ∷ bs) =
    row_cond dialect (b ∷ bs) (begins_blank b) (of_run (b ∷ bs) (blank 0 (b ∷ bs))) _
    (λ t. row_run dialect b bs (blank 0 (b ∷ bs)) t refl (run_row 0 (b ∷ bs)))
    (λ u. row_cond dialect (b ∷ bs) (eqb b 92) (of_escaped (char_at bs)) _
    (λ t. row_escaped dialect b bs (char_at bs) (eqb-true b 92 t) refl)
    (λ v. row_cond dialect (b ∷ bs) (begins_unit dialect b)
    (of_caret dialect bs (rest (form_of dialect) [] [] 0 bs)) (of_char dialect (char_at (b ∷ bs)))
    (λ t. unit_row dialect b bs u v t)
    (λ w. row_char dialect b bs (char_at (b ∷ bs)) u v w refl)))

-- within the limit
widen : (dialect : Dialect) (k : ℕ) (bs : List ℕ) (f : First) → FirstRow dialect (take k bs) f →
    FirstRow dialect bs f
widen dialect k bs Needs h = tt
widen dialect k bs (Faulty kind) h = tt
widen dialect k bs (Whole thing n) h =
    let l = length-take k bs in
    let same : take n (take k bs) ≡ take n bs = take-take n k bs (omega (arith, l, h.2)) in
    (subst (λ (q : List ℕ). IsRow dialect thing q) same h.0, h.1, omega (arith, l, h.2))

limit_row : (dialect : Dialect) (most : ℕ) (bs : List ℕ) (f : First) → FirstRow dialect bs f →
    FirstRow dialect bs (at_limit most f)
limit_row dialect most bs Needs h = tt
limit_row dialect most bs (Whole thing n) h =
    row_cond dialect bs (leb n most) (Whole thing n) (Faulty (Past ItemTooLong)) (λ _. h) (λ _. tt)
limit_row dialect most bs (Faulty kind) h = tt

past_row : (dialect : Dialect) (most : ℕ) (bs : List ℕ) (f g : First) → FirstRow dialect bs f →
    FirstRow dialect bs g → FirstRow dialect bs (past most f g)
past_row dialect most bs Needs g h k = limit_row dialect most bs g k
past_row dialect most bs (Whole thing n) g h k = h
past_row dialect most bs (Faulty kind) g h k = tt

limited_row : (dialect : Dialect) (most : ℕ) (bs : List ℕ) →
    FirstRow dialect bs (limited most dialect bs)
unfolding limited
limited_row dialect most bs =
    row_cond dialect bs (leb (length bs) most) (first dialect bs) _ (λ _. first_row dialect bs)
    (λ _. past_row dialect most bs (first dialect (take most bs))
    (first dialect (take (suc most) bs))
    (widen dialect most bs (first dialect (take most bs)) (first_row dialect (take most bs)))
    (widen dialect (suc most) bs (first dialect (take (suc most) bs))
    (first_row dialect (take (suc most) bs))))

-- at the end of the text
abbrev LastRow : Dialect → List ℕ → Last → Type 0
LastRow dialect bs (Complete thing) = IsRow dialect thing bs
LastRow dialect bs (Broken kind) = Unit {0}

last_row : (dialect : Dialect) (bs : List ℕ) → LastRow dialect bs (last bs)
unfolding last
last_row dialect [] = tt
last_row dialect (b ∷ bs) = by_cond (begins_blank b) (run (blank 0 (b ∷ bs)) (run_row 0 (b ∷ bs)))
  where
    run : (r : Run) → RunRow (b ∷ bs) r → LastRow dialect (b ∷ bs) (last_run (b ∷ bs) r)
    run Open h = (refl, h)
    run Inside h = tt
    run BadChar h = tt
    run (Done n) h = tt

    by_cond : (v : Bool) → LastRow dialect (b ∷ bs) (last_run (b ∷ bs) (blank 0 (b ∷ bs))) →
        LastRow dialect (b ∷ bs)
        (cond v (last_run (b ∷ bs) (blank 0 (b ∷ bs))) (Broken (OfKind Unfinished)))
    by_cond true h = h
    by_cond false h = tt

-- the text is the bytes of the items, one after another
abbrev pub Rows : Dialect → List ℕ → List Read → Type 0
Rows dialect text [] = text ≡ []
Rows dialect text (read ∷ reads) = (front : List ℕ) × (rest : List ℕ)
    × IsRow dialect read.item front × Rows dialect rest reads × (text ≡ front ++ rest)

walk_rows : (dialect : Dialect) (place skip : ℕ) (bs : List ℕ) → (walk dialect place skip bs).stop
    ≡ None → Rows dialect (drop skip bs) (walk dialect place skip bs).items
unfolding walk
walk_rows dialect place zero [] h = refl
walk_rows dialect place (suc skip) [] h = refl
walk_rows dialect place (suc skip) (b ∷ bs) h = walk_rows dialect place skip bs h
walk_rows dialect place zero (b ∷ bs) h =
    by (limited item_max dialect (b ∷ bs)) (limited_row dialect item_max (b ∷ bs))
    (λ at k e. walk_rows dialect at k bs e) h
  where
    end : (l : Last) → LastRow dialect (b ∷ bs) l → (at_end place (b ∷ bs) l).stop ≡ None →
        Rows dialect (b ∷ bs) (at_end place (b ∷ bs) l).items
    end (Complete thing) r h = (b ∷ bs, [], r, refl, sym (append-nil (b ∷ bs)))
    end (Broken kind) r h = absurd (cc)

    by : (f : First) → FirstRow dialect (b ∷ bs) f →
        ((at k : ℕ) → (walk dialect at k bs).stop ≡ None →
        Rows dialect (drop k bs) (walk dialect at k bs).items)
        → (walked place (b ∷ bs) f (λ at k. walk dialect at k bs)).stop ≡ None →
        Rows dialect (b ∷ bs) (walked place (b ∷ bs) f (λ at k. walk dialect at k bs)).items
    by Needs r go h = end (last (b ∷ bs)) (last_row dialect (b ∷ bs)) h
    by (Whole thing n) r go h =
        let same : drop n (b ∷ bs) ≡ drop (pred n) bs = drop_pred n b bs r.1 in (
          take n (b ∷ bs),
          drop (pred n) bs,
          r.0,
          go (counted (place + n)) (pred n) h,
          sym (ap (λ (q : List ℕ). take n (b ∷ bs) ++ q) (sym same)
              ∙ take-append-drop n (b ∷ bs)),
        )
    by (Faulty kind) r go h = absurd (cc)

pub reads_rows : (dialect : Dialect) (place : ℕ) (text : List ℕ) → (reads dialect place text).stop
    ≡ None → Rows dialect text (reads dialect place text).items
unfolding reads
reads_rows dialect place text h = walk_rows dialect place 0 text h

chunk_has : (dialect : Dialect) (c : Chunk) (bytes : List ℕ) → ChunkRow dialect c bytes →
    HasSuperblanks dialect bytes (item_supers (item.Chunk c))
chunk_has Raw c bytes h = absurd h
chunk_has Analysed c bytes h = absurd h
chunk_has Lexical c bytes h = absurd h
chunk_has Bilingual c bytes h = absurd h
chunk_has Chunked c bytes h =
    let all : take (length bytes) bytes ≡ bytes = take_all (length bytes) bytes (omega arith) in
    let text : IsChunkText c bytes =
    subst (IsChunkText c) all (chunk_cut bytes c (length bytes) h.0).text in
    one_piece Chunked bytes (item_supers (item.Chunk c))
    (chunk (record { chunks = refl; chunk = c; text = text }) refl)
chunk_has Generated c bytes h = absurd h

-- the superblanks of an item
pub row_has : (dialect : Dialect) (thing : Item) (bytes : List ℕ) → IsRow dialect thing bytes →
    HasSuperblanks dialect bytes (item_supers thing)
row_has dialect (item.Plain c) bytes h =
    one_piece dialect bytes []
    (plain (record { character = c; code = h.0; allowed = h.1; spelled = h.2 }) refl)
row_has dialect (item.Blank all) bytes h =
    subst (λ (q : List ℕ). HasSuperblanks dialect bytes (blank_supers 0 q)) (sym h.0) (h.1 dialect)
row_has dialect (item.Unit words) bytes h = one_piece dialect bytes [] (unit h.0 refl)
row_has dialect (item.Chunk c) bytes h = chunk_has dialect c bytes h

pub rows_have : (dialect : Dialect) (text : List ℕ) (items : List Read) → Rows dialect text items →
    HasSuperblanks dialect text (supers_of items)
rows_have dialect text [] h = nothing h refl
rows_have dialect text (read ∷ items) h =
    let all : HasSuperblanks dialect (h.0 ++ h.1) (item_supers read.item ++ supers_of items) =
    joined dialect h.0 h.1 (item_supers read.item) (supers_of items)
    (row_has dialect read.item h.0 h.2) (rows_have dialect h.1 items h.3) in
    let list : supers_of (read ∷ items) ≡ item_supers read.item ++ supers_of items =
    flat_map-cons (λ (r : Read). item_supers r.item) read items in
    subst (λ (q : List ℕ). HasSuperblanks dialect q (supers_of (read ∷ items))) (sym h.4)
    (subst (λ (q : List (List ℕ)). HasSuperblanks dialect (h.0 ++ h.1) q) (sym list) all)

pub reads_have : (dialect : Dialect) (place : ℕ) (text : List ℕ) → (reads dialect place text).stop
    ≡ None → HasSuperblanks dialect text (supers_of (reads dialect place text).items)
reads_have dialect place text h =
    rows_have dialect text (reads dialect place text).items (reads_rows dialect place text h)

-- whatever stops the reading, each item that was read has its bytes
abbrev pub WasRead : Dialect → Read → Type 0
WasRead dialect read = (bytes : List ℕ) × IsRow dialect read.item bytes

abbrev pub AreRead : Dialect → List Read → Type 0
AreRead dialect items = AllByRecursion (WasRead dialect) items

walk_read : (dialect : Dialect) (place skip : ℕ) (bs : List ℕ) →
    AreRead dialect (walk dialect place skip bs).items
unfolding walk
walk_read dialect place zero [] = tt
walk_read dialect place (suc skip) [] = tt
walk_read dialect place (suc skip) (b ∷ bs) = walk_read dialect place skip bs
walk_read dialect place zero (b ∷ bs) =
    by (limited item_max dialect (b ∷ bs)) (limited_row dialect item_max (b ∷ bs))
    (λ at k. walk_read dialect at k bs)
  where
    end : (l : Last) → LastRow dialect (b ∷ bs) l →
        AreRead dialect (at_end place (b ∷ bs) l).items
    end (Complete thing) r = ((b ∷ bs, r), tt)
    end (Broken kind) r = tt

    by : (f : First) → FirstRow dialect (b ∷ bs) f →
        ((at k : ℕ) → AreRead dialect (walk dialect at k bs).items) →
        AreRead dialect (walked place (b ∷ bs) f (λ at k. walk dialect at k bs)).items
    by Needs r go = end (last (b ∷ bs)) (last_row dialect (b ∷ bs))
    by (Whole thing n) r go = ((take n (b ∷ bs), r.0), go (counted (place + n)) (pred n))
    by (Faulty kind) r go = tt

pub reads_read : (dialect : Dialect) (place : ℕ) (text : List ℕ) →
    AreRead dialect (reads dialect place text).items
unfolding reads
reads_read dialect place text = walk_read dialect place 0 text

pub read_take : (dialect : Dialect) (n : ℕ) (items : List Read) → AreRead dialect items →
    AreRead dialect (take n items)
read_take dialect zero items h = tt
read_take dialect (suc n) [] h = tt
read_take dialect (suc n) (read ∷ items) h = (h.0, read_take dialect n items h.1)

pub supers_more : (read : Read) (items : List Read) →
    supers_of (read ∷ items) ≡ item_supers read.item ++ supers_of items
supers_more read items = flat_map-cons (λ (r : Read). item_supers r.item) read items
