-- What is written of a text is its plain text, piece by piece.
use Rattle.std.specs.Prelude.{◌≡◌, ◌≢◌, ℕ, zero, suc, ◌+◌, ◌<◌, pred, List, [], ◌∷◌, ◌++◌, drop, take, length, Bool, true, false, cond, eqb, leb, None, refl, encode_utf8}
use Rattle.std.proofs.Common.{arith, ap, sym, subst, ◌∙◌, append_assoc, get_or}
use Rattle.std.proofs.lemmas.Bool.{eqb-true, ne_eqb}
use Rattle.std.proofs.lemmas.List.{append-nil, take-append-drop}
use Rattle.std.proofs.lemmas.Str.{encode_ascii, inside_one}
use Rattle.std.proofs.Math.Seq.{take-add}
use Rattle.ap_stream.specs.declared.dialect.Dialect.TheVariants.{Generated}
use Rattle.ap_stream.specs.declared.item.Item.{Item}
use Rattle.ap_stream.specs.declared.item.Item.TheVariants as item
use Rattle.ap_stream.specs.declared.item.Read.{Read}
use Rattle.ap_stream.specs.Blanks.{Run, Open, Inside, BadChar, Done, further, behind_close, blank, Close, Within, Bad, Closed, closing, is_white, begins_blank}
use Rattle.ap_stream.specs.Chars.{Front, Part, NotChar, Char, char_at}
use Rattle.ap_stream.specs.Dialects.{is_refused}
use Rattle.ap_stream.specs.Limits.{item_max}
use Rattle.ap_stream.specs.Pieces.{IsToBracket, IsPlain}
use Rattle.ap_stream.specs.Pieces as pieces
use Rattle.ap_stream.specs.Reading.{First, Needs, Whole, Faulty, first, last, Last, Complete, Broken, of_run, of_escaped, of_char, last_run, limited, at_limit, past, walk, walked, reads, at_end, counted, Past, Bad as OfKind}
use Rattle.ap_stream.specs.declared.fault.LimitKind.TheVariants.{ItemTooLong}
use Rattle.ap_stream.specs.declared.fault.MalformedKind.TheVariants.{Stray, Unfinished}
use Rattle.ap_stream.specs.Told.{Clean, or_else}
use Rattle.ap_stream.proofs.Fronts.{alone_some, white_other}
use Rattle.ap_stream.proofs.Rows.{closed_at, IsRow, Rows, reads_rows}
use Rattle.ap_format.specs.BareTexts.{IsKeptInside, closed, bare, escaped, IsBareBlank, empty, white, superblank, IsBareText, nothing, character, blanks}
use Rattle.ap_format.specs.Reformatted.{bare_blank, bare_item, bare_items, ret_text}
use Rattle.ap_format.specs.declared.blanks.Spot.TheVariants as spot

-- ---- characters in a superblank

-- a byte of a character that is below 128 is the character
byte_is : (c k : ℕ) → k < length (encode_utf8 c) → get_or (encode_utf8 c) k 0 < 128 →
    c ≡ get_or (encode_utf8 c) k 0
byte_is c k within low =
    inside_one c [] (encode_utf8 c) k (sym (append-nil (encode_utf8 c))) within low

-- bytes without ] and backslash are kept
abbrev HasNone : List ℕ → Type 0
HasNone p = (k : ℕ) → k < length p → (get_or p k 0 ≢ 92) × (get_or p k 0 ≢ 93)

kept_inside : (p x : List ℕ) → HasNone p →
    bare_blank spot.Inside (p ++ x) ≡ p ++ bare_blank spot.Inside x
unfolding bare_blank
kept_inside [] x none = refl
kept_inside (b ∷ p) x none =
    let here = none 0 (omega arith) in
    rw (ne_eqb b 93 here.1, ne_eqb b 92 here.0)
    (ap (λ q. b ∷ q) (kept_inside p x (λ k within. none (suc k) (omega (arith, within)))))

bare_kept : (c : ℕ) (x : List ℕ) → c ≢ 92 → c ≢ 93 →
    bare_blank spot.Inside (encode_utf8 c ++ x) ≡ encode_utf8 c ++ bare_blank spot.Inside x
bare_kept c x slash bracket =
    kept_inside (encode_utf8 c) x (λ k within. (
      λ e. slash (byte_is c k within (omega (arith, e)) ∙ e),
      λ e. bracket (byte_is c k within (omega (arith, e)) ∙ e),
    ))

first_kept : (p x : List ℕ) → ((k : ℕ) → suc k < length p → (get_or p (suc k) 0 ≢ 92)
    × (get_or p (suc k) 0 ≢ 93)) → 0 < length p →
    bare_blank spot.Escaped (p ++ x) ≡ p ++ bare_blank spot.Inside x
unfolding bare_blank
first_kept [] x none some = absurd (omega (arith, some))
first_kept (b ∷ p) x none some =
    ap (λ q. b ∷ q) (kept_inside p x (λ k within. none k (omega (arith, within))))

escaped_kept : (c : ℕ) (x : List ℕ) → 0 < length (encode_utf8 c) →
    bare_blank spot.Escaped (encode_utf8 c ++ x) ≡ encode_utf8 c ++ bare_blank spot.Inside x
escaped_kept c x some =
    first_kept (encode_utf8 c) x (λ k within. (
      λ e. later k within 92 (omega arith) e,
      λ e. later k within 93 (omega arith) e,
    )) some
  where
    later : (k : ℕ) → suc k < length (encode_utf8 c) → (d : ℕ) → d < 128 →
        get_or (encode_utf8 c) (suc k) 0 ≡ d → ⊥
    later k within d low e =
        let is : c ≡ get_or (encode_utf8 c) (suc k) 0 =
        byte_is c (suc k) within (omega (arith, e, low)) in
        let size : length (encode_utf8 c) ≡ 1 =
        ap length (encode_ascii c (omega (arith, is, e, low))) in
        omega (arith, within, size)

bracket_ends : (x : List ℕ) → bare_blank spot.Inside (93 ∷ x) ≡ bare_blank spot.Outside x
unfolding bare_blank
bracket_ends x = refl

slash_escapes : (x : List ℕ) → bare_blank spot.Inside (92 ∷ x) ≡ bare_blank spot.Escaped x
unfolding bare_blank
slash_escapes x = refl

bracket_begins : (x : List ℕ) → bare_blank spot.Outside (91 ∷ x) ≡ bare_blank spot.Inside x
unfolding bare_blank
bracket_begins x = refl

white_kept : (b : ℕ) (x : List ℕ) → eqb b 91 ≡ false →
    bare_blank spot.Outside (b ∷ x) ≡ b ∷ bare_blank spot.Outside x
unfolding bare_blank
white_kept b x h = rw h refl

none_kept : bare_blank spot.Outside [] ≡ []
unfolding bare_blank
none_kept = refl

-- ---- what the rule keeps is what is written

inside_is : (bytes text : List ℕ) → IsKeptInside bytes text → (x : List ℕ) →
    bare_blank spot.Inside (bytes ++ x) ≡ text ++ bare_blank spot.Outside x
inside_is bytes text (closed e f) x =
    ap (λ (q : List ℕ). bare_blank spot.Inside (q ++ x)) e ∙ bracket_ends x
    ∙ ap (λ (q : List ℕ). q ++ bare_blank spot.Outside x) (sym f)
inside_is bytes text (bare c rest more code slash bracket h e f) x =
    ap (λ (q : List ℕ). bare_blank spot.Inside (q ++ x)) e
    ∙ ap (bare_blank spot.Inside) (append_assoc (encode_utf8 c) rest x)
    ∙ bare_kept c (rest ++ x) slash bracket
    ∙ ap (λ (q : List ℕ). encode_utf8 c ++ q) (inside_is rest more h x)
    ∙ sym (append_assoc (encode_utf8 c) more (bare_blank spot.Outside x))
    ∙ ap (λ (q : List ℕ). q ++ bare_blank spot.Outside x) (sym f)
inside_is bytes text (escaped c rest more code h e f) x =
    ap (λ (q : List ℕ). bare_blank spot.Inside (q ++ x)) e
    ∙ slash_escapes ((encode_utf8 c ++ rest) ++ x)
    ∙ ap (bare_blank spot.Escaped) (append_assoc (encode_utf8 c) rest x)
    ∙ escaped_kept c (rest ++ x) (alone_some c code)
    ∙ ap (λ (q : List ℕ). encode_utf8 c ++ q) (inside_is rest more h x)
    ∙ sym (append_assoc (encode_utf8 c) more (bare_blank spot.Outside x))
    ∙ ap (λ (q : List ℕ). q ++ bare_blank spot.Outside x) (sym f)

pub bare_is : (blank text : List ℕ) → IsBareBlank blank text →
    bare_blank spot.Outside blank ≡ text
bare_is blank text (empty e f) = ap (bare_blank spot.Outside) e ∙ none_kept ∙ sym f
bare_is blank text (white b rest more w h e f) =
    ap (bare_blank spot.Outside) e ∙ white_kept b rest (white_other b w)
    ∙ ap (λ (q : List ℕ). b ∷ q) (bare_is rest more h) ∙ sym f
bare_is blank text (superblank inner own rest more k h e f) =
    ap (bare_blank spot.Outside) e ∙ bracket_begins (inner ++ rest) ∙ inside_is inner own k rest
    ∙ ap (λ (q : List ℕ). own ++ q) (bare_is rest more h) ∙ sym f

-- ---- a blank that is read has the shape of the rule

keeps : (bytes : List ℕ) → IsToBracket bytes → (own : List ℕ) × IsKeptInside bytes own
keeps bytes (pieces.closed e) = ([], closed e refl)
keeps bytes (pieces.bare c rest code slash bracket h e) =
    let k = keeps rest h in
    (encode_utf8 c ++ k.0, bare c rest k.0 code slash bracket k.1 e refl)
keeps bytes (pieces.escaped c rest code h e) =
    let k = keeps rest h in (encode_utf8 c ++ k.0, escaped c rest k.0 code k.1 e refl)

abbrev HasBare : List ℕ → Type 0
HasBare bytes = (text : List ℕ) × IsBareBlank bytes text

none_bare : HasBare []
none_bare = ([], empty refl refl)

white_bare : (b : ℕ) (bs : List ℕ) → is_white b ≡ true → HasBare bs → HasBare (b ∷ bs)
white_bare b bs w h = (b ∷ h.0, white b bs h.0 w h.1 refl refl)

super_bare : (inner bs : List ℕ) → IsToBracket inner → HasBare bs → HasBare (91 ∷ (inner ++ bs))
super_bare inner bs t h =
    let k = keeps inner t in (k.0 ++ h.0, superblank inner k.0 bs h.0 k.1 h.1 refl refl)

abbrev RunBare : List ℕ → Run → Type 0
RunBare bs Open = HasBare bs
RunBare bs Inside = Unit {0}
RunBare bs BadChar = Unit {0}
RunBare bs (Done n) = HasBare (take n bs)

white_run : (b : ℕ) (bs : List ℕ) (r : Run) → is_white b ≡ true → RunBare bs r →
    RunBare (b ∷ bs) (further 1 r)
white_run b bs Open w h = white_bare b bs w h
white_run b bs Inside w h = tt
white_run b bs BadChar w h = tt
white_run b bs (Done n) w h = let size : 1 + n ≡ suc n = omega arith in
    subst (λ q. HasBare (take q (b ∷ bs))) (sym size) (white_bare b (take n bs) w h)

super_run : (bs : List ℕ) (n : ℕ) (r : Run) → closing false 0 bs ≡ Closed n → RunBare (drop n bs) r
    → RunBare (91 ∷ bs) (further 1 (further n r))
super_run bs n Open e h = let c = closed_at false 0 bs n e in
    subst (λ (q : List ℕ). HasBare (91 ∷ q)) (take-append-drop n bs)
    (super_bare (take n bs) (drop n bs) c.0 h)
super_run bs n Inside e h = tt
super_run bs n BadChar e h = tt
super_run bs n (Done m) e h =
    let c = closed_at false 0 bs n e in
    let size : suc (n + m) ≡ 1 + (n + m) = omega arith in
    subst (λ q. HasBare (take q (91 ∷ bs))) size
    (subst (λ (q : List ℕ). HasBare (91 ∷ q)) (sym (take-add n m bs))
    (super_bare (take n bs) (take m (drop n bs)) c.0 h))

run_cond : (bs : List ℕ) (v : Bool) (r s : Run) → (v ≡ true → RunBare bs r) →
    (v ≡ false → RunBare bs s) → RunBare bs (cond v r s)
run_cond bs true r s h k = h refl
run_cond bs false r s h k = k refl

run_bare : (skip : ℕ) (bs : List ℕ) → RunBare (drop skip bs) (blank skip bs)
unfolding blank
run_bare zero [] = none_bare
run_bare (suc skip) [] = none_bare
run_bare (suc skip) (b ∷ bs) = run_bare skip bs
run_bare zero (b ∷ bs) = run_cond (b ∷ bs) (is_white b) (further 1 (blank 0 bs)) _
    (λ w. white_run b bs (blank 0 bs) w (run_bare 0 bs))
    (λ _. run_cond (b ∷ bs) (eqb b 91)
    (further 1 (behind_close (closing false 0 bs) (λ n. blank n bs))) (Done 0)
    (λ e. bracket (eqb-true b 91 e) (closing false 0 bs) refl (λ n. run_bare n bs))
    (λ _. none_bare))
  where
    bracket : b ≡ 91 → (c : Close) → closing false 0 bs ≡ c →
        ((n : ℕ) → RunBare (drop n bs) (blank n bs)) →
        RunBare (b ∷ bs) (further 1 (behind_close c (λ n. blank n bs)))
    bracket is Within e go = tt
    bracket is Bad e go = tt
    bracket is (Closed n) e go =
        subst (λ q. RunBare (q ∷ bs) (further 1 (further n (blank n bs)))) (sym is)
        (super_run bs n (blank n bs) e (go n))

-- ---- the items of a generated text

abbrev ItemBare : Item → Type 0
ItemBare (item.Plain c) = Unit {0}
ItemBare (item.Blank bytes) = HasBare bytes
ItemBare (item.Unit words) = ⊥
ItemBare (item.Chunk c) = ⊥

abbrev FirstBare : First → Type 0
FirstBare Needs = Unit {0}
FirstBare (Whole thing n) = ItemBare thing
FirstBare (Faulty kind) = Unit {0}

first_cond : (v : Bool) (f g : First) → FirstBare f → FirstBare g → FirstBare (cond v f g)
first_cond true f g h k = h
first_cond false f g h k = k

of_run_bare : (bs : List ℕ) (r : Run) → RunBare bs r → FirstBare (of_run bs r)
of_run_bare bs Open h = tt
of_run_bare bs Inside h = tt
of_run_bare bs BadChar h = tt
of_run_bare bs (Done n) h = h

of_escaped_bare : (f : Front) → FirstBare (of_escaped f)
of_escaped_bare Part = tt
of_escaped_bare NotChar = tt
of_escaped_bare (Char c n) = tt

of_char_bare : (f : Front) → FirstBare (of_char Generated f)
of_char_bare Part = tt
of_char_bare NotChar = tt
of_char_bare (Char c n) =
    first_cond (is_refused Generated c) (Faulty (OfKind Stray))
    (Whole (item.Plain (record { letter = c; escaped = false })) n) tt tt

first_bare : (bs : List ℕ) → FirstBare (first Generated bs)
unfolding first
first_bare [] = tt
first_bare (b ∷ bs) =
    first_cond (begins_blank b) (of_run (b ∷ bs) (blank 0 (b ∷ bs))) _
    (of_run_bare (b ∷ bs) (blank 0 (b ∷ bs)) (run_bare 0 (b ∷ bs)))
    (first_cond (eqb b 92) (of_escaped (char_at bs)) (of_char Generated (char_at (b ∷ bs)))
    (of_escaped_bare (char_at bs)) (of_char_bare (char_at (b ∷ bs))))

limit_bare : (most : ℕ) (f : First) → FirstBare f → FirstBare (at_limit most f)
limit_bare most Needs h = tt
limit_bare most (Whole thing n) h =
    first_cond (leb n most) (Whole thing n) (Faulty (Past ItemTooLong)) h tt
limit_bare most (Faulty kind) h = tt

past_bare : (most : ℕ) (f g : First) → FirstBare f → FirstBare g → FirstBare (past most f g)
past_bare most Needs g h k = limit_bare most g k
past_bare most (Whole thing n) g h k = h
past_bare most (Faulty kind) g h k = tt

limited_bare : (most : ℕ) (bs : List ℕ) → FirstBare (limited most Generated bs)
unfolding limited
limited_bare most bs =
    first_cond (leb (length bs) most) (first Generated bs) _ (first_bare bs)
    (past_bare most (first Generated (take most bs)) (first Generated (take (suc most) bs))
    (first_bare (take most bs)) (first_bare (take (suc most) bs)))

abbrev LastBare : Last → Type 0
LastBare (Complete thing) = ItemBare thing
LastBare (Broken kind) = Unit {0}

last_bare : (bs : List ℕ) → LastBare (last bs)
unfolding last
last_bare [] = tt
last_bare (b ∷ bs) = by (begins_blank b) (run (blank 0 (b ∷ bs)) (run_bare 0 (b ∷ bs)))
  where
    run : (r : Run) → RunBare (b ∷ bs) r → LastBare (last_run (b ∷ bs) r)
    run Open h = h
    run Inside h = tt
    run BadChar h = tt
    run (Done n) h = tt

    by : (v : Bool) → LastBare (last_run (b ∷ bs) (blank 0 (b ∷ bs))) →
        LastBare (cond v (last_run (b ∷ bs) (blank 0 (b ∷ bs))) (Broken (OfKind Unfinished)))
    by true h = h
    by false h = tt

abbrev AreBare : List Read → Type 0
AreBare [] = Unit {0}
AreBare (read ∷ reads) = ItemBare read.item × AreBare reads

walk_bare : (place skip : ℕ) (bs : List ℕ) → AreBare (walk Generated place skip bs).items
unfolding walk
walk_bare place zero [] = tt
walk_bare place (suc skip) [] = tt
walk_bare place (suc skip) (b ∷ bs) = walk_bare place skip bs
walk_bare place zero (b ∷ bs) =
    by (limited item_max Generated (b ∷ bs)) (limited_bare item_max (b ∷ bs))
    (λ at k. walk_bare at k bs)
  where
    end : (l : Last) → LastBare l → AreBare (at_end place (b ∷ bs) l).items
    end (Complete thing) r = (r, tt)
    end (Broken kind) r = tt

    by : (f : First) → FirstBare f → ((at k : ℕ) → AreBare (walk Generated at k bs).items) →
        AreBare (walked place (b ∷ bs) f (λ at k. walk Generated at k bs)).items
    by Needs r go = end (last (b ∷ bs)) (last_bare (b ∷ bs))
    by (Whole thing n) r go = (r, go (counted (place + n)) (pred n))
    by (Faulty kind) r go = tt

reads_bare : (place : ℕ) (text : List ℕ) → AreBare (reads Generated place text).items
unfolding reads
reads_bare place text = walk_bare place 0 text

-- ---- a text

one_bare : (thing : Item) (front rest text more : List ℕ) → IsRow Generated thing front →
    ItemBare thing → IsBareText rest more → text ≡ front ++ rest →
    IsBareText text (bare_item thing ++ more)
one_bare (item.Plain c) front rest text more row own on e =
    let is : IsPlain Generated front =
    record { character = c; code = row.0; allowed = row.1; spelled = row.2 } in
    character front rest more is on e refl
one_bare (item.Blank bytes) front rest text more row own on e =
    let is : IsBareBlank front own.0 = subst (λ (q : List ℕ). IsBareBlank q own.0) row.0 own.1 in
    blanks front own.0 rest more is on e
    (ap (λ (q : List ℕ). q ++ more) (bare_is bytes own.0 own.1))
one_bare (item.Unit words) front rest text more row own on e = absurd own
one_bare (item.Chunk c) front rest text more row own on e = absurd own

rows_bare : (text : List ℕ) (items : List Read) → Rows Generated text items → AreBare items →
    IsBareText text (bare_items items).text
rows_bare text [] h own = nothing h refl
rows_bare text (read ∷ items) h own =
    one_bare read.item h.0 h.1 text (bare_items items).text h.2 own.0
    (rows_bare h.1 items h.3 own.1) h.4

no_fault : (items : List Read) → (bare_items items).fault ≡ None
no_fault [] = refl
no_fault (read ∷ items) = no_fault items

pub gives_bare : (text : List ℕ) → (ret_text text Clean).fault ≡ None →
    IsBareText text (ret_text text Clean).text
gives_bare text h =
    let stop : (reads Generated 0 text).stop ≡ None =
    sym (ap (λ f. or_else f (reads Generated 0 text).stop)
    (no_fault (reads Generated 0 text).items)) ∙ h in
    rows_bare text (reads Generated 0 text).items (reads_rows Generated 0 text stop)
    (reads_bare 0 text)
