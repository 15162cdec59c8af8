-- The pieces of a text: together they are the text, and no run of white space stands beside
-- another.
use Rattle.std.specs.Prelude.{◌≡◌, ◌≢◌, ◌⊎◌, ℕ, zero, suc, ◌+◌, ◌<◌, ◌≤◌, nat_lt, List, [], ◌∷◌, ◌++◌, take, drop, length, Bool, true, false, cond, Some, None, refl, encode_utf8, if◌then◌else◌}
use Rattle.std.specs.List.{flat_map}
use Rattle.std.specs.Str.{IsUtf8, encode_utf8_all}
use Rattle.std.proofs.Common.{arith, ap, sym, subst, ◌∙◌, append_assoc, length-append, inl, inr}
use Rattle.std.proofs.Math.Seq.{drop-append_seam}
use Rattle.std.proofs.Math.Utf8.{scalar, scalars, scalar_cases}
use Rattle.std.proofs.lemmas.Bool.{and_parts, cases_lt}
use Rattle.std.proofs.lemmas.Bool.Decides.{nat_tests}
use Rattle.std.proofs.lemmas.List.{take-append-drop, length-take-le}
use Rattle.std.proofs.lemmas.Str.{encode_ascii}
use Rattle.ap_symbol.specs.Coded.{IsCode}
use Rattle.ap_stream.specs.Blanks.{is_white}
use Rattle.ap_stream.specs.Chars.{Front, Part, NotChar, Char, char_at}
use Rattle.ap_stream.specs.Limits.{unit_max}
use Rattle.ap_stream.specs.Reading.{counted}
use Rattle.ap_stream.specs.declared.fault.StreamFault.{StreamFault}
use Rattle.ap_stream.specs.declared.fault.StreamFault.TheVariants.{Malformed, Limit}
use Rattle.ap_stream.specs.declared.fault.MalformedKind.TheVariants.{NotUtf8, Unfinished}
use Rattle.ap_stream.specs.declared.fault.LimitKind.TheVariants.{ItemTooLong}
use Rattle.ap_stream.proofs.Back.{char_back}
use Rattle.ap_stream.proofs.Cut.{char_size, char_bytes, char_code, first_byte}
use Rattle.ap_format.specs.Pieces.{Piece, Run, Letter, Pieces, nothing, stopped, followed, run_max, white_size, cut, pieces_of, of_run, of_char}
use Rattle.ap_format.proofs.PieceLaws.{run_max_is}
use Rattle.ap_format.specs.Standing.{IsWhite}
use Rattle.ap_format.specs.Laws.{IsPlainText}
use Rattle.ap_format.proofs.Runs.{white_dark, white_step, white_take, white_within, white_parts, white_low}
use Rattle.ap_format.proofs.Cuts.{high_dark}

-- why no piece stands at the front: a run that is too long, or no whole character
abbrev pub IsBroken : List ℕ → Type 0
IsBroken text = (run_max < white_size text)
    ⊎ ((0 < length text) × ((c n : ℕ) → char_at text ≢ Char c n))

-- a text and its pieces
pub data IsCut : List ℕ → Pieces → Type 0 where
  ends : {text : List ℕ} {cuts : Pieces} → text ≡ [] → cuts ≡ nothing → IsCut text cuts
  run : {text : List ℕ} {cuts : Pieces} (r y : List ℕ) (more : Pieces) → IsWhite r → 0 < length r →
      length r ≤ run_max → white_size y ≡ 0 → IsCut y more → text ≡ r ++ y →
      cuts ≡ followed (Run r) more → IsCut text cuts
  letter : {text : List ℕ} {cuts : Pieces} (c : ℕ) (y : List ℕ) (more : Pieces) → IsCode c →
      is_white c ≡ false → IsCut y more → text ≡ encode_utf8 c ++ y →
      cuts ≡ followed (Letter c) more → IsCut text cuts
  stops : {text : List ℕ} {cuts : Pieces} (fault : StreamFault) → IsBroken text →
      cuts ≡ stopped fault → IsCut text cuts

white_rest : (bs : List ℕ) → white_size (drop (white_size bs) bs) ≡ 0
unfolding white_size
white_rest [] = refl
white_rest (b ∷ bs) = by (is_white b) refl (white_rest bs)
  where
    by : (v : Bool) → is_white b ≡ v → white_size (drop (white_size bs) bs) ≡ 0 →
        white_size (drop (cond v (suc (white_size bs)) 0) (b ∷ bs)) ≡ 0
    by true e h = h
    by false e h = white_dark b bs e

-- the letter is no white space where its first byte is none
letter_dark : (b : ℕ) (bs : List ℕ) (c n : ℕ) → char_at (b ∷ bs) ≡ Char c n → is_white b ≡ false →
    is_white c ≡ false
letter_dark b bs c n h dark = by (cases_lt c 128)
  where
    by : (c < 128) ⊎ (128 ≤ c) → is_white c ≡ false
    by (inl small) = ap is_white (sym (first_byte b bs c n h small).0) ∙ dark
    by (inr big) = high_dark c (grind (arith, nat_tests, big))

module _ (place b : ℕ) (bs : List ℕ) (on : (at skip : ℕ) → IsCut (drop skip bs) (cut at skip bs))
  where
    abbrev behind : ℕ → ℕ → Pieces
    behind at skip = cut at skip bs

    run_is : (n : ℕ) → n ≡ white_size (b ∷ bs) → is_white b ≡ true →
        IsCut (b ∷ bs) (of_run place (b ∷ bs) n behind)
    run_is zero e white = absurd (let one = white_step b bs white in omega (arith, e, one))
    run_is (suc k) e white = by (nat_lt run_max (suc k)) refl
      where
        within : suc k ≤ length (b ∷ bs)
        within = let w = white_within (b ∷ bs) in omega (arith, e, w)

        size : length (take (suc k) (b ∷ bs)) ≡ suc k
        size = length-take-le (suc k) (b ∷ bs) within

        by : (v : Bool) → nat_lt run_max (suc k) ≡ v →
            IsCut (b ∷ bs) (if v then stopped (Limit ItemTooLong place)
            else followed (Run (take (suc k) (b ∷ bs))) (behind (counted (place + suc k)) k))
        by true long = stops (Limit ItemTooLong place)
            (inl (let l : run_max < suc k = grind (arith, nat_tests, long) in
            omega (arith, e, l))) refl
        by false short =
            run (take (suc k) (b ∷ bs)) (drop (suc k) (b ∷ bs)) (behind (counted (place + suc k)) k)
            (white_take (b ∷ bs) (suc k) (omega (arith, e))) (omega (arith, size))
            (let s : suc k ≤ run_max = grind (arith, nat_tests, short) in omega (arith, s, size))
            (ap (λ n. white_size (drop n (b ∷ bs))) e ∙ white_rest (b ∷ bs))
            (on (counted (place + suc k)) k) (sym (take-append-drop (suc k) (b ∷ bs))) refl

    char_is : (f : Front) → char_at (b ∷ bs) ≡ f → is_white b ≡ false →
        IsCut (b ∷ bs) (of_char place f behind)
    char_is Part e dark = stops (Malformed Unfinished place) (inr (omega arith, λ c n h. cc)) refl
    char_is NotChar e dark = stops (Malformed NotUtf8 place) (inr (omega arith, λ c n h. cc)) refl
    char_is (Char c zero) e dark = absurd (let s = char_size (b ∷ bs) c 0 e in omega (arith, s.0))
    char_is (Char c (suc k)) e dark =
        letter c (drop k bs) (behind (counted (place + suc k)) k) (char_code (b ∷ bs) c (suc k) e)
        (letter_dark b bs c (suc k) e dark) (on (counted (place + suc k)) k)
        (sym (take-append-drop (suc k) (b ∷ bs))
        ∙ ap (λ q. q ++ drop k bs) (sym (char_bytes (b ∷ bs) c (suc k) e))) refl

cut_is : (bs : List ℕ) (place skip : ℕ) → IsCut (drop skip bs) (cut place skip bs)
unfolding cut
cut_is [] place zero = ends refl refl
cut_is [] place (suc skip) = ends refl refl
cut_is (b ∷ bs) place (suc skip) = cut_is bs place skip
cut_is (b ∷ bs) place zero = by (is_white b) refl (λ at skip. cut_is bs at skip)
  where
    by : (v : Bool) → is_white b ≡ v → ((at skip : ℕ) → IsCut (drop skip bs) (cut at skip bs)) →
        IsCut (b ∷ bs) (cond v
        (of_run place (b ∷ bs) (white_size (b ∷ bs)) (λ at skip. cut at skip bs))
        (of_char place (char_at (b ∷ bs)) (λ at skip. cut at skip bs)))
    by true e on = run_is place b bs on (white_size (b ∷ bs)) refl e
    by false e on = char_is place b bs on (char_at (b ∷ bs)) refl e

-- each text has its pieces
pub text_is_cut : (place : ℕ) (text : List ℕ) → IsCut text (pieces_of place text)
unfolding pieces_of
text_is_cut place text = cut_is text place 0

-- a piece as it stands in the text
abbrev pub source : Piece → List ℕ
source (Run r) = r
source (Letter c) = encode_utf8 c

-- the pieces of a text without a fault are the text
pub sources : (text : List ℕ) (cuts : Pieces) → IsCut text cuts → cuts.stop ≡ None →
    flat_map source cuts.pieces ≡ text
sources text cuts (ends e is) whole = rw is (sym e)
sources text cuts (run r y more white some short dark h e is) whole =
    rw is (ap (λ q. r ++ q) (sources y more h (rw is at whole)) ∙ sym e)
sources text cuts (letter c y more code dark h e is) whole =
    rw is (ap (λ q. encode_utf8 c ++ q) (sources y more h (rw is at whole)) ∙ sym e)
sources text cuts (stops fault broken is) whole =
    absurd (let none : Some fault ≡ None = rw is at whole in cc)

-- a text in UTF-8 goes on in UTF-8 behind a character
pub utf8_rest : (c : ℕ) (y text : List ℕ) → IsCode c → text ≡ encode_utf8 c ++ y → IsUtf8 text →
    IsUtf8 y
utf8_rest c y text code e u = by u.0 u.1.0 u.1.1
  where
    here : char_at (encode_utf8 c ++ y) ≡ Char c (length (encode_utf8 c))
    here = char_back c y code

    by : (cs : List ℕ) → scalars cs ≡ true → encode_utf8_all cs ≡ text → IsUtf8 y
    by [] s is = absurd (let size = ap length (is ∙ e) ∙ length-append (encode_utf8 c) y in
        let some = char_size (encode_utf8 c ++ y) c (length (encode_utf8 c)) here in
        omega (arith, size, some.0))
    by (d ∷ ds) s is =
        let parts = and_parts (scalar d) (scalars ds) s in
        let same : encode_utf8 d ++ encode_utf8_all ds ≡ encode_utf8 c ++ y = is ∙ e in
        let there : Char d (length (encode_utf8 d)) ≡ Char c (length (encode_utf8 c)) =
        sym (char_back d (encode_utf8_all ds) (scalar_cases d parts.0)) ∙ ap char_at same ∙ here in
        let size : length (encode_utf8 d) ≡ length (encode_utf8 c) = cc in (
          ds,
          (
            parts.1,
            sym (drop-append_seam (encode_utf8 d) (encode_utf8_all ds))
                ∙ ap (drop (length (encode_utf8 d))) same
                ∙ ap (λ n. drop n (encode_utf8 c ++ y)) size ∙ drop-append_seam (encode_utf8 c) y,
          ),
        )

-- and behind white space
pub utf8_white : (r y text : List ℕ) → IsWhite r → text ≡ r ++ y → IsUtf8 text → IsUtf8 y
utf8_white [] y text white e u = subst IsUtf8 e u
utf8_white (b ∷ r) y text white e u =
    let parts = white_parts b r white in
    let low = white_low b parts.0 in
    let ascii : encode_utf8 b ≡ b ∷ [] = encode_ascii b low in
    utf8_white r y (r ++ y) parts.1 refl
    (utf8_rest b (r ++ y) text (inl (omega (arith, low)))
    (e ∙ ap (λ (q : List ℕ). q ++ (r ++ y)) (sym ascii)) u)

runs_on : (front y text : List ℕ) → text ≡ front ++ y →
    ((f r back : List ℕ) → text ≡ f ++ (r ++ back) → IsWhite r → length r + 2 ≤ unit_max) →
    (f r back : List ℕ) → y ≡ f ++ (r ++ back) → IsWhite r → length r + 2 ≤ unit_max
runs_on front y text e h f r back is white =
    h (front ++ f) r back
    (e ∙ ap (λ q. front ++ q) is ∙ sym (append_assoc front f (r ++ back))) white

whole_text : (text : List ℕ) → IsPlainText text → IsBroken text → ⊥
whole_text text plain (inl long) =
    let within = white_within text in
    let size = length-take-le (white_size text) text within in
    let short = plain.runs [] (take (white_size text) text) (drop (white_size text) text)
    (sym (take-append-drop (white_size text) text))
    (white_take text (white_size text) (omega arith)) in
    omega (arith, long, size, short, run_max_is)
whole_text text plain (inr none) = by plain.utf8.0 plain.utf8.1.0 plain.utf8.1.1
  where
    by : (cs : List ℕ) → scalars cs ≡ true → encode_utf8_all cs ≡ text → ⊥
    by [] s is = let size = ap length is in omega (arith, size, none.0)
    by (d ∷ ds) s is =
        let parts = and_parts (scalar d) (scalars ds) s in
        none.1 d (length (encode_utf8 d))
        (ap char_at (sym is) ∙ char_back d (encode_utf8_all ds) (scalar_cases d parts.0))

-- a plain text has no fault
pub plain_whole : (text : List ℕ) (cuts : Pieces) → IsCut text cuts → IsPlainText text →
    cuts.stop ≡ None
plain_whole text cuts (ends e is) plain = rw is refl
plain_whole text cuts (run r y more white some short dark h e is) plain =
    rw is (plain_whole y more h (record {
      utf8 = utf8_white r y text white e plain.utf8;
      runs = runs_on r y text e plain.runs;
    }))
plain_whole text cuts (letter c y more code dark h e is) plain =
    rw is (plain_whole y more h (record {
      utf8 = utf8_rest c y text code e plain.utf8;
      runs = runs_on (encode_utf8 c) y text e plain.runs;
    }))
plain_whole text cuts (stops fault broken is) plain = absurd (whole_text text plain broken)
