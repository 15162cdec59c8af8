-- What taking more bytes of a text means.
use Rattle.std.specs.Prelude.{◌≡◌, ◌≢◌, ℕ, zero, suc, ◌+◌, ◌-◌, ◌<◌, ◌≤◌, min, List, [], ◌∷◌, ◌++◌, take, drop, length, Bool, true, false, cond, eqb, ◌==◌, if◌then◌else◌, refl, encode_utf8, Option, Some, None, Result, Ok, Err}
use Rattle.std.proofs.Common.{arith, ap, sym, subst, ◌∙◌, append_assoc, length-append}
use Rattle.std.specs.Result.{IfOk}
use Rattle.std.proofs.lemmas.List.{append-nil, take-take, length-take, length-take-le, take-append-drop, drop-drop}
use Rattle.ap_symbol.specs.Rendering.{letter_bytes, is_escaped_lem}
use Rattle.ap_stream.specs.Blanks.{is_white}
use Rattle.ap_stream.specs.Chars.{Part, NotChar, Char, char_at}
use Rattle.ap_stream.proofs.CharLaws.{char_length}
use Rattle.ap_stream.specs.Limits.{unit_max}
use Rattle.ap_stream.specs.Reading.{counted}
use Rattle.ap_stream.specs.Told.{Told, Ending, Clean, silent, behind, ends_in, rest_from}
use Rattle.ap_stream.specs.declared.fault.StreamFault.{StreamFault}
use Rattle.ap_stream.specs.declared.fault.StreamFault.TheVariants.{Malformed, Limit}
use Rattle.ap_stream.specs.declared.fault.MalformedKind.TheVariants.{NotUtf8, Unfinished}
use Rattle.ap_stream.specs.declared.fault.LimitKind.TheVariants.{ItemTooLong}
use Rattle.ap_format.specs.Pieces.{Pieces, run_max, white_size}
use Rattle.ap_format.proofs.PieceLaws.{run_max_is}
use Rattle.ap_format.specs.Deformatted.{is_space, run_bytes, written, des_from, Uncut, Deformatting, des_rest}
use Rattle.ap_format.specs.declared.cutter.Begun.TheVariants as begun
use Rattle.ap_format.specs.Standing.{IsWhite, Stands, Stops, Cuts, Closes, kind_of_white}
use Rattle.std.proofs.lemmas.Bool.{eqb-true, eqb-false}
use Rattle.ap_format.proofs.Runs.{white_nil, white_dark, white_take, white_within, white_append, dark_front}
use Rattle.ap_format.proofs.Cuts.{behind_behind, run_front, run_long, letter_front, bad_front, part_end, none_left, part_dark, bare_bytes, written_limit, written_bad}

-- a run that more white space may follow, the start of a character, and what begins none are held
pub cuts_held : (old new : Uncut) (taken out : List ℕ) → new.bytes ≡ old.bytes ++ taken →
    new.place ≡ old.place → Cuts old taken out out new
cuts_held old new taken out bytes place = record {
  given = [];
  written = sym (append-nil out);
  moves = λ x e. rw (place, bytes, append_assoc) refl;
  held = let size = length-append old.bytes taken in let same = ap length bytes in
      omega (arith, size, same);
}

-- a character whose last byte this is
grown_dark : (held : List ℕ) (byte : ℕ) → char_at held ≡ Part →
    (held ≡ [] → is_white byte ≡ false) → white_size (held ++ byte ∷ []) ≡ 0
grown_dark [] byte part dark = white_dark byte [] (dark refl)
grown_dark (b ∷ q) byte part dark = white_dark b (q ++ byte ∷ []) (part_dark b q part)

pub letter_size : (held : List ℕ) (byte c n : ℕ) → char_at held ≡ Part →
    char_at (held ++ byte ∷ []) ≡ Char c n → n ≡ length (held ++ byte ∷ [])
letter_size held byte c n part whole = char_length held byte c n part whole

pub letter_is : (held : List ℕ) (byte c n : ℕ) → char_at held ≡ Part →
    char_at (held ++ byte ∷ []) ≡ Char c n → held ++ byte ∷ [] ≡ encode_utf8 c
letter_is held byte c n part whole =
    let size = letter_size held byte c n part whole in
    sym (bare_bytes (held ++ byte ∷ []) c (whole ∙ ap (Char c) size))

pub cuts_letter : (old new : Uncut) (byte c n : ℕ) (out after : List ℕ) → char_at old.bytes ≡ Part →
    (old.bytes ≡ [] → is_white byte ≡ false) → char_at (old.bytes ++ byte ∷ []) ≡ Char c n →
    new.bytes ≡ [] → new.place ≡ counted (old.place + n) → after ≡ out ++ letter_bytes c →
    Cuts old (byte ∷ []) out after new
cuts_letter old new byte c n out after part dark whole none place is =
    let size = letter_size old.bytes byte c n part whole in
    let all : char_at (old.bytes ++ byte ∷ []) ≡ Char c (length (old.bytes ++ byte ∷ [])) =
    whole ∙ ap (Char c) size in
    let some : 0 < length (old.bytes ++ byte ∷ []) =
    omega (arith, length-append old.bytes (byte ∷ [])) in
    record {
      given = letter_bytes c;
      written = is;
      moves = λ x e.
          ap (λ (t : List ℕ). des_from old.place t e) (sym (append_assoc old.bytes (byte ∷ []) x))
          ∙ ap (λ (q : Pieces). written q e)
          (letter_front old.place (old.bytes ++ byte ∷ []) x c all
          (grown_dark old.bytes byte part dark) some)
          ∙ ap (λ n. behind (letter_bytes c) (des_from n x e))
          (sym (place ∙ ap (λ k. counted (old.place + k)) size))
          ∙ ap (λ (s : List ℕ). behind (letter_bytes c) (des_from new.place (s ++ x) e))
          (sym none);
      held = let same = ap length none in omega (arith, same);
    }

letter_cond : (v : Bool) (bytes : List ℕ) →
    length (if v then 92 ∷ bytes else bytes) ≤ 1 + length bytes
letter_cond true bytes = omega arith
letter_cond false bytes = omega arith

pub letter_short : (c : ℕ) → length (letter_bytes c) ≤ 1 + length (encode_utf8 c)
letter_short c = letter_cond (is_escaped_lem c) (encode_utf8 c)

-- a run that no white space follows
run_cond : (v : Bool) (run : List ℕ) →
    length (if v then run else 91 ∷ (run ++ 93 ∷ [])) ≤ length run + 2
run_cond true run = omega arith
run_cond false run = let size = length-append run (93 ∷ []) in omega (arith, size)

pub run_short : (run : List ℕ) → length (run_bytes run) ≤ length run + 2
run_short run = run_cond (is_space run) run

fits : (n : ℕ) → n + 2 ≤ unit_max → n ≤ run_max
fits n h = omega (arith, h, run_max_is)

pub closes_run : (old new : Uncut) (out after : List ℕ) → IsWhite old.bytes → 0 < length old.bytes →
    length old.bytes + 2 ≤ unit_max → new.bytes ≡ [] →
    new.place ≡ counted (old.place + length old.bytes) → after ≡ out ++ run_bytes old.bytes →
    Closes old out after new
closes_run old new out after white some short none place is = record {
  given = run_bytes old.bytes;
  written = is;
  empty = none;
  short = let size = run_short old.bytes in omega (arith, size, short);
  moves = λ x e dark.
      rw place (ap (λ (q : Pieces). written q e)
      (run_front old.place old.bytes x white some (fits (length old.bytes) short) dark));
}

-- a run and what follows it
pub cuts_closed : (old mid new : Uncut) (taken out between after : List ℕ) →
    Closes old out between mid → Cuts mid taken between after new → white_size taken ≡ 0 →
    0 < length taken → Cuts old taken out after new
cuts_closed old mid new taken out between after closes cuts dark some = record {
  given = closes.given ++ cuts.given;
  written = cuts.written ∙ ap (λ s. s ++ cuts.given) closes.written
      ∙ append_assoc out closes.given cuts.given;
  moves = λ x e.
      closes.moves (taken ++ x) e (dark_front taken x some dark)
      ∙ ap (λ (s : List ℕ). behind closes.given (des_from mid.place (s ++ (taken ++ x)) e))
      (sym closes.empty)
      ∙ ap (behind closes.given) (cuts.moves x e)
      ∙ behind_behind closes.given cuts.given (des_from new.place (new.bytes ++ x) e);
  held = let h = cuts.held in let none = ap length closes.empty in omega (arith, h, none);
}

-- one step behind the other
pub cuts_on : (old mid new : Uncut) (first second out between after : List ℕ) →
    Cuts old first out between mid → Cuts mid second between after new →
    Cuts old (first ++ second) out after new
cuts_on old mid new first second out between after a b = record {
  given = a.given ++ b.given;
  written = b.written ∙ ap (λ s. s ++ b.given) a.written ∙ append_assoc out a.given b.given;
  moves = λ x e.
      ap (λ (s : List ℕ). des_from old.place (old.bytes ++ s) e) (append_assoc first second x)
      ∙ a.moves (second ++ x) e ∙ ap (behind a.given) (b.moves x e)
      ∙ behind_behind a.given b.given (des_from new.place (new.bytes ++ x) e);
  held = let h = a.held in let k = b.held in let size = length-append first second in
      omega (arith, h, k, size);
}

-- what begins no character, and a run that is too long, stop the text
pub stops_bad : (uncut : Uncut) → char_at uncut.bytes ≡ NotChar → 0 < length uncut.bytes →
    Stops uncut (Malformed NotUtf8 uncut.place)
stops_bad uncut bad some x e =
    ap (λ (q : Pieces). written q e) (bad_front uncut.place uncut.bytes x bad some)
    ∙ written_bad uncut.place e

pub stops_long : (uncut : Uncut) → IsWhite uncut.bytes → length uncut.bytes + 1 ≡ unit_max →
    Stops uncut (Limit ItemTooLong uncut.place)
stops_long uncut white long x e =
    ap (λ (q : Pieces). written q e)
    (run_long uncut.place uncut.bytes x white (omega (arith, long, run_max_is)))
    ∙ written_limit uncut.place e

-- more white space

pub white_some : (piece : List ℕ) (n : ℕ) → 0 < white_size piece → 0 < n →
    0 < white_size (take n piece)
unfolding white_size
white_some piece zero some h = absurd (omega (arith, h))
white_some [] (suc n) some h = some
white_some (b ∷ bs) (suc n) some h = by (is_white b) some
  where
    by : (v : Bool) → 0 < cond v (suc (white_size bs)) 0 →
        0 < cond v (suc (white_size (take n bs))) 0
    by true s = omega arith
    by false s = s

pub stands_white : (held : List ℕ) → IsWhite held → 0 < length held → length held + 1 ≤ unit_max →
    Stands (kind_of_white (length held)) held
stands_white held white some most = by (eqb (length held + 1) unit_max) refl
  where
    by : (v : Bool) → eqb (length held + 1) unit_max ≡ v →
        Stands (if v then begun.TooLong else begun.White) held
    by true e = (white, eqb-true (length held + 1) unit_max e)
    by false e = (
      white,
      some,
      let differs : length held + 1 ≢ unit_max = eqb-false (length held + 1) unit_max e in
          omega (arith, most, differs),
    )

-- at the end of the text

pub ends_none : (place : ℕ) (held : List ℕ) → held ≡ [] → des_from place held Clean
    ≡ behind [] silent
ends_none place held none = ap (λ (q : List ℕ). des_from place q Clean) none
    ∙ ap (λ (q : Pieces). written q Clean) (none_left place)

abbrev pub Ended : Uncut → List ℕ → List ℕ → Uncut → Type 0
Ended old out after new = (x : List ℕ) × (after ≡ out ++ x) × (length x ≤ unit_max)
    × (new.bytes ≡ []) × (old.bytes ≡ [] → x ≡ []) × (des_from old.place old.bytes Clean
    ≡ behind x silent)

pub ends_closed : (old new : Uncut) (out after : List ℕ) → Closes old out after new →
    0 < length old.bytes → Ended old out after new
ends_closed old new out after closes some = (
  closes.given,
  closes.written,
  closes.short,
  closes.empty,
  λ none. absurd (let size = ap length none in omega (arith, size, some)),
  ap (λ (q : List ℕ). des_from old.place q Clean) (sym (append-nil old.bytes))
      ∙ closes.moves [] Clean white_nil
      ∙ ap (behind closes.given) (ends_none new.place [] refl),
)

pub ends_part : (place : ℕ) (held : List ℕ) → char_at held ≡ Part → 0 < length held →
    des_from place held Clean ≡ ends_in [] (Malformed Unfinished place)
ends_part place held part some =
    ap (λ (q : Pieces). written q Clean) (part_end place held part some)

pub ends_stop : (uncut : Uncut) (fault : StreamFault) → Stops uncut fault →
    des_from uncut.place uncut.bytes Clean ≡ ends_in [] fault
ends_stop uncut fault stops =
    ap (λ (q : List ℕ). des_from uncut.place q Clean) (sym (append-nil uncut.bytes))
    ∙ stops [] Clean

-- a step that finds no memory says nothing

pub if_both : {T E : Type 0} (r : Result T E) (P Q R : T → Type 0) → ((n : T) → P n → Q n → R n) →
    IfOk r P → IfOk r Q → IfOk r R
if_both (Ok y) P Q R f h k = f y h k
if_both (Err y) P Q R f h k = tt

-- how much white space is taken, and what it is with that before it

taken_size : (old piece : List ℕ) (most n : ℕ) → most ≡ min (length piece)
    ((unit_max - 1) - length old) → n ≡ white_size (take most piece) → n ≤ most
taken_size old piece most n m e = let size = white_within (take most piece) in
    let all = length-take most piece in omega (arith, e, size, all)

pub added_count : (old piece : List ℕ) (most n : ℕ) → length old + 2 ≤ unit_max →
    0 < white_size piece → most ≡ min (length piece) ((unit_max - 1) - length old) →
    n ≡ white_size (take most piece) → (0 < n) × (n ≤ length piece)
added_count old piece most n short some m e =
    let within = white_within piece in
    let few = taken_size old piece most n m e in
    let first = white_some piece most some (omega (arith, m, short, some, within)) in
    (omega (arith, first, e), omega (arith, few, m))

pub added_stands : (old piece new : List ℕ) (most n : ℕ) → IsWhite old → length old + 2 ≤ unit_max →
    0 < white_size piece → most ≡ min (length piece) ((unit_max - 1) - length old) →
    n ≡ white_size (take most piece) → new ≡ old ++ take n piece →
    Stands (kind_of_white (length new)) new
added_stands old piece new most n white short some m e is =
    let count = added_count old piece most n short some m e in
    let few = taken_size old piece most n m e in
    let more : IsWhite (take n piece) =
    subst IsWhite (take-take n most piece few)
    (white_take (take most piece) n (omega (arith, e))) in
    let size = ap length is ∙ length-append old (take n piece) in
    let taken = length-take-le n piece count.1 in
    stands_white new (subst IsWhite (sym is) (white_append old (take n piece) white more))
    (omega (arith, size, taken, count.0)) (omega (arith, size, taken, few, m, short))

-- the stage

pub des_over : (new : Uncut) → new.bytes ≡ [] → des_from new.place (new.bytes ++ []) Clean ≡ silent
des_over new empty = ends_none new.place (new.bytes ++ []) (append-nil new.bytes ∙ empty)

pub des_end : (old new : Uncut) (pending out given : List ℕ) → pending ≡ [] → out ≡ given →
    new.bytes ≡ [] → des_from old.place old.bytes Clean ≡ behind given silent →
    behind pending (des_from old.place (old.bytes ++ []) Clean)
    ≡ behind out (des_from new.place (new.bytes ++ []) Clean)
des_end old new pending out given none same empty h =
    ap (λ (s : List ℕ). behind s (des_from old.place (old.bytes ++ []) Clean)) none
    ∙ ap (λ (q : List ℕ). des_from old.place q Clean) (append-nil old.bytes) ∙ h
    ∙ ap (λ (s : List ℕ). behind s silent) (sym same)
    ∙ ap (behind out) (sym (des_over new empty))

pub no_bytes : (bytes : List ℕ) → (length bytes == 0) ≡ true → bytes ≡ []
no_bytes [] h = refl
no_bytes (b ∷ bs) h = absurd (let none = eqb-true (length (b ∷ bs)) 0 h in omega (arith, none))

module _ (now : Deformatting) (uncut : Uncut) (out : List ℕ) (from : ℕ) (ended : Bool)
    (fault : Option StreamFault)
    (view : record { uncut = uncut; pending = drop from out; ended = ended; fault = fault } ≡ now)
  where
    gives : (f stop : Option StreamFault) (made : Told) (n : ℕ) (e : Ending) →
        behind (take n (drop from out)) (rest_from f (drop n (drop from out)) stop made e)
        ≡ rest_from f (drop from out) stop made e
    gives None stop made n e = rw (← append_assoc, take-append-drop) refl
    gives (Some f) stop made n e = rw take-append-drop refl

    pub des_at_give : (n : ℕ) (x : List ℕ) (e : Ending) →
        behind (take n now.pending)
        (des_rest (record {
          uncut = uncut;
          pending = drop (from + n) out;
          ended = ended;
          fault = fault;
        }) x e)
        ≡ des_rest now x e
    des_at_give n x e = rw (← view, ← drop-drop n from out) (gives fault _ _ n e)
