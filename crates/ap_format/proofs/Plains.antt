-- What stands at the front of a generated text and gives a text by itself.
use Rattle.std.specs.Prelude.{◌≡◌, ◌≢◌, ℕ, zero, suc, ◌+◌, ◌<◌, ◌≤◌, List, [], ◌∷◌, ◌++◌, take, drop, length, Bool, true, false, not, ◌&&◌, ◌||◌, eqb, ltb, Some, refl, encode_utf8, if◌then◌else◌}
use Rattle.std.specs.List.{list_any}
use Rattle.std.proofs.Common.{arith, ap, sym, subst, ◌∙◌, get_or, append_assoc, length-append}
use Rattle.std.proofs.lemmas.Bool.{ne_eqb}
use Rattle.std.proofs.lemmas.Bool.Decides.{nat_tests}
use Rattle.std.proofs.lemmas.List.{append-nil, length-drop, length-take-le}
use Rattle.std.proofs.lemmas.Str.{length-encode, len_utf8_bounds}
use Rattle.std.proofs.Math.Seq.{drop-append_seam, take-add}
use Rattle.ap_symbol.specs.Coded.{IsCode}
use Rattle.ap_stream.specs.declared.dialect.Dialect.TheVariants.{Generated}
use Rattle.ap_stream.specs.declared.item.Item.{Item}
use Rattle.ap_stream.specs.declared.item.Item.TheVariants as item
use Rattle.ap_stream.specs.Blanks.{is_white, begins_blank, blank, closes, escapes, further}
use Rattle.ap_stream.proofs.BlankLaws.{further_further}
use Rattle.ap_stream.specs.Chars.{Char, char_at}
use Rattle.ap_stream.specs.Dialects.{is_reserved_generated}
use Rattle.ap_stream.specs.Limits.{item_max}
use Rattle.ap_stream.proofs.LimitLaws.{item_max_is}
use Rattle.ap_stream.proofs.LimitedLaws.{limited_decided}
use Rattle.ap_stream.specs.Reading.{Whole, plain, Reads, reads, read_at, followed, counted}
use Rattle.ap_stream.proofs.ReadingLaws.{reads_whole}
use Rattle.ap_stream.specs.Stands.{InBlank, Within, blank_first}
use Rattle.ap_stream.proofs.StandLaws.{begin_white, begin_bracket, escaped_whole, within_char}
use Rattle.ap_stream.proofs.ByteLaws.{nothing_part}
use Rattle.ap_stream.specs.Rest.{worked}
use Rattle.ap_stream.specs.Told.{Ending, behind}
use Rattle.ap_stream.proofs.Cut.{char_size, char_bytes, char_code, char_cut}
use Rattle.ap_stream.proofs.Fronts.{IsFree, IsLow, same_test, alone, alone_some, free_blank, free_whole}
use Rattle.ap_format.specs.declared.blanks.Spot.TheVariants as spot
use Rattle.ap_format.specs.Pieces.{white_size}
use Rattle.ap_format.specs.Reformatted.{bare_blank, bare_item, bare_items}
use Rattle.ap_format.specs.Giving.{ret_from, stands_bare, unescaped, IsPlain, GiveText, Wrote}
use Rattle.ap_format.specs.Standing.{IsWhite}
use Rattle.ap_format.proofs.BareBlanks.{bare_same}
use Rattle.ap_format.proofs.Cuts.{behind_behind, counted_on}
use Rattle.ap_format.proofs.ReadBack.{blank_read}
use Rattle.ap_format.proofs.RetTurns.{bare_short}
use Rattle.ap_format.proofs.Runs.{white_parts, white_take}

-- characters

none_of : (a b c : Bool) → not (a || (b || c)) ≡ true → (a ≡ false) × (b ≡ false) × (c ≡ false)
none_of true b c h = absurd (cc)
none_of false true c h = absurd (cc)
none_of false false true h = absurd (cc)
none_of false false false h = (refl, refl, refl)

bare_free : (c : ℕ) → stands_bare c ≡ true → IsFree Generated c
bare_free c h = let n = none_of (begins_blank c) (eqb c 92) (is_reserved_generated c) h in
    record { blank = n.0; escape = n.1; unit = refl; refused = n.2 }

encoded_short : (c : ℕ) → 1 + length (encode_utf8 c) ≤ item_max
encoded_short c = let l = length-encode c in let b = len_utf8_bounds c in
    omega (arith, l, b.1, item_max_is)

bare_plain : (c : ℕ) → IsCode c → stands_bare c ≡ true → IsPlain (encode_utf8 c) (encode_utf8 c)
bare_plain c code h = record {
  letter = c;
  escaped = false;
  is = refl;
  some = alone_some c code;
  short = let l = encoded_short c in omega (arith, l);
  dark = free_blank c code Generated (bare_free c h);
  whole = free_whole c code Generated (bare_free c h);
}

escaped_plain : (c : ℕ) → IsCode c → IsPlain (92 ∷ encode_utf8 c) (encode_utf8 c)
escaped_plain c code = record {
  letter = c;
  escaped = true;
  is = refl;
  some = omega arith;
  short = let l = encoded_short c in omega (arith, l);
  dark = refl;
  whole = λ x. escaped_whole Generated (encode_utf8 c) c (alone c code) x
      ∙ ap (Whole (plain c true)) (omega arith);
}

-- a bare character at the front of bytes
pub plain_at : (bytes : List ℕ) (c n : ℕ) → char_at bytes ≡ Char c n → stands_bare c ≡ true →
    IsPlain (take n bytes) (take n bytes)
plain_at bytes c n h bare =
    subst (λ (q : List ℕ). IsPlain q q) (char_bytes bytes c n h)
    (bare_plain c (char_code bytes c n h) bare)

-- an ASCII character
ascii_at : (b : ℕ) (bs : List ℕ) → b < 128 → char_at (b ∷ bs) ≡ Char b 1
unfolding char_at
ascii_at b bs low = let t : ltb b 128 ≡ true = grind (arith, nat_tests, low) in rw t refl

pub plain_low : (bytes : List ℕ) → 0 < length bytes → get_or bytes 0 0 < 128 →
    stands_bare (get_or bytes 0 0) ≡ true → IsPlain (take 1 bytes) (take 1 bytes)
plain_low [] some low bare = absurd (omega (arith, some))
plain_low (b ∷ bs) some low bare = plain_at (b ∷ bs) b 1 (ascii_at b bs low) bare

pub some_bytes : (bytes : List ℕ) → eqb (length bytes) 0 ≡ false → 0 < length bytes
some_bytes [] h = absurd (cc)
some_bytes (b ∷ bs) h = omega arith

-- an escaped one
pub plain_escaped : (bytes : List ℕ) (n : ℕ) → 0 < length bytes → get_or bytes 0 0 ≡ 92 →
    (c : ℕ) × (char_at (drop 1 bytes) ≡ Char c n) →
    IsPlain (take (1 + n) bytes) (unescaped (take (1 + n) bytes))
plain_escaped [] n some is h = absurd (omega (arith, some))
plain_escaped (b ∷ bs) n some is (c, h) =
    let same : 92 ∷ encode_utf8 c ≡ take (1 + n) (b ∷ bs) =
    ap (λ (q : List ℕ). 92 ∷ q) (char_bytes bs c n h) ∙ ap (λ a. a ∷ take n bs) (sym is)
    ∙ ap (λ k. take k (b ∷ bs)) (let e : suc n ≡ 1 + n = omega arith in e) in
    subst (λ (q : List ℕ). IsPlain q (unescaped q)) same (escaped_plain c (char_code bs c n h))

-- a bare one has no escape
pub plain_bare : (bytes : List ℕ) (n : ℕ) → get_or bytes 0 0 ≢ 92 →
    IsPlain (take n bytes) (take n bytes) → IsPlain (take n bytes) (unescaped (take n bytes))
plain_bare bytes n differs h =
    subst (λ (q : List ℕ). IsPlain (take n bytes) q) (same bytes n differs) h
  where
    same : (bytes : List ℕ) (n : ℕ) → get_or bytes 0 0 ≢ 92 → take n bytes
        ≡ unescaped (take n bytes)
    same bytes zero differs = refl
    same [] (suc n) differs = refl
    same (b ∷ bs) (suc n) differs = let e : eqb b 92 ≡ false = ne_eqb b 92 differs in
        rw e refl

-- what a character gives

pub gives_read : (bytes rest : List ℕ) (place at : ℕ) (thing : Item) (size : ℕ) (e : Ending) →
    reads Generated place bytes
    ≡ followed (Some (read_at place thing size)) (reads Generated at rest) →
    ret_from place bytes e ≡ behind (bare_item thing) (ret_from at rest e)
gives_read bytes rest place at thing size e h = ap (λ (q : Reads). worked bare_items q e) h

plain_read : (bytes text : List ℕ) (h : IsPlain bytes text) (place : ℕ) (x : List ℕ) →
    reads Generated place (bytes ++ x)
    ≡ followed (Some (read_at place (plain h.letter h.escaped) (length bytes)))
    (reads Generated (counted (place + length bytes)) x)
plain_read bytes text h place x =
    let size = length-append bytes x in
    reads_whole Generated place (bytes ++ x) (plain h.letter h.escaped) (length bytes)
    (limited_decided item_max Generated bytes (Whole (plain h.letter h.escaped) (length bytes))
    h.short h.whole tt x) h.some (omega (arith, size, h.some))
    ∙ ap (λ (q : List ℕ).
    followed (Some (read_at place (plain h.letter h.escaped) (length bytes)))
    (reads Generated (counted (place + length bytes)) q)) (drop-append_seam bytes x)

pub plain_gives : (bytes text : List ℕ) → IsPlain bytes text → GiveText bytes text
plain_gives bytes text h place x e =
    gives_read (bytes ++ x) x place (counted (place + length bytes)) (plain h.letter h.escaped)
    (length bytes) e (plain_read bytes text h place x)
    ∙ ap (λ (s : List ℕ). behind s (ret_from (counted (place + length bytes)) x e)) (sym h.is)

-- one behind the other
pub gives_on : (p q s t : List ℕ) → GiveText p s → GiveText q t → GiveText (p ++ q) (s ++ t)
gives_on p q s t h k place x e =
    let size = length-append p q in
    ap (λ (z : List ℕ). ret_from place z e) (append_assoc p q x) ∙ h place (q ++ x) e
    ∙ ap (behind s) (k (counted (place + length p)) x e)
    ∙ behind_behind s t (ret_from (counted (counted (place + length p) + length q)) x e)
    ∙ ap (λ n. behind (s ++ t) (ret_from n x e))
    (counted_on place (length p) (length q) ∙ ap (λ n. counted (place + n)) (sym size))

-- a blank with a character behind it
pub blank_gives : (p q t : List ℕ) → InBlank p → length p ≤ item_max → IsPlain q t →
    GiveText (p ++ q) (bare_blank spot.Outside p ++ t)
blank_gives p q t in_blank short h place x e =
    let size = length-append p q in
    let dark : blank_first (q ++ x) ≡ false = on q h.some h.dark in
    ap (λ (z : List ℕ). ret_from place z e) (append_assoc p q x)
    ∙ gives_read (p ++ (q ++ x)) (q ++ x) place (counted (place + length p)) (item.Blank p)
    (length p) e (blank_read Generated place p (q ++ x) in_blank short dark)
    ∙ ap (behind (bare_blank spot.Outside p))
    (plain_gives q t h (counted (place + length p)) x e)
    ∙ behind_behind (bare_blank spot.Outside p) t
    (ret_from (counted (counted (place + length p) + length q)) x e)
    ∙ ap (λ n. behind (bare_blank spot.Outside p ++ t) (ret_from n x e))
    (counted_on place (length p) (length q) ∙ ap (λ n. counted (place + n)) (sym size))
  where
    on : (q : List ℕ) → 0 < length q → blank_first q ≡ false → blank_first (q ++ x) ≡ false
    on [] some dark = absurd (omega (arith, some))
    on (b ∷ q) some dark = dark

-- blanks

begins_on : (p q : List ℕ) → blank_first p ≡ true → blank_first (p ++ q) ≡ true
begins_on [] q h = absurd (cc)
begins_on (b ∷ p) q h = h

pub both_blank : (p q : List ℕ) → InBlank p → InBlank q → InBlank (p ++ q)
both_blank p q h k = record {
  begins = begins_on p q h.begins;
  on = λ x. rw (append_assoc, length-append)
      (h.on (q ++ x) ∙ ap (further (length p)) (k.on x)
      ∙ further_further (length p) (length q) (blank 0 x));
}

pub white_blank : (p : List ℕ) → IsWhite p → 0 < length p → InBlank p
white_blank [] white some = absurd (omega (arith, some))
white_blank (b ∷ []) white some = begin_white b (white_parts b [] white).0
white_blank (b ∷ c ∷ p) white some =
    let parts = white_parts b (c ∷ p) white in
    both_blank (b ∷ []) (c ∷ p) (begin_white b parts.0)
    (white_blank (c ∷ p) parts.1 (omega arith))

no_bracket : (p : List ℕ) → IsWhite p → list_any (λ b. eqb b 91) p ≡ false
no_bracket [] white = refl
no_bracket (b ∷ p) white =
    let parts = white_parts b p white in
    let e : eqb b 91 ≡ false = ne_eqb b 91 (λ is. let k : is_white 91 ≡ true =
    subst (λ z. is_white z ≡ true) is parts.0 in cc) in
    rw e (no_bracket p parts.1)

-- white space with a character that gives itself behind it gives itself
pub white_gives : (p q : List ℕ) → IsWhite p → 0 < length p → length p ≤ item_max →
    IsPlain q q → GiveText (p ++ q) (p ++ q)
white_gives p q white some short h =
    subst (λ (s : List ℕ). GiveText (p ++ q) (s ++ q)) (sym (bare_same p (no_bracket p white)))
    (blank_gives p q q (white_blank p white some) short h)

-- a superblank, character by character

-- the character at a place, by itself
char_there : (bytes : List ℕ) (c n : ℕ) → char_at bytes ≡ Char c n →
    char_at (take n bytes) ≡ Char c (length (take n bytes))
char_there bytes c n h =
    let fits = char_size bytes c n h in
    let size : length (take n bytes) ≡ n = length-take-le n bytes fits.1 in
    ap char_at (sym (append-nil (take n bytes))) ∙ char_cut bytes [] c n h
    ∙ ap (Char c) (sym size)

-- what a test of ASCII characters says of a character it says of its first byte
first_test : (test : ℕ → Bool) → IsLow test → (bytes : List ℕ) (c n : ℕ) →
    char_at bytes ≡ Char c n → test (get_or bytes 0 0) ≡ test c
first_test test low [] c n h =
    absurd (let fits = char_size [] c n h in omega (arith, fits.0, fits.1))
first_test test low (b ∷ bs) c n h = same_test test low b bs c n h

low_by : (v : Bool) (d : ℕ) → d < 128 → IsLow (λ b. not v && eqb b d)
low_by true d small b high = refl
low_by false d small b high = ne_eqb b d (λ e. omega (arith, e, small, high))

module _ (bytes : List ℕ) (at : ℕ) (e : Bool) (within : Within e (take at bytes) []) (n : ℕ)
    (c : ℕ) (h : char_at (drop at bytes) ≡ Char c n) where
  there : char_at (take n (drop at bytes)) ≡ Char c (length (take n (drop at bytes)))
  there = char_there (drop at bytes) c n h

  closes_same : closes e (get_or (drop at bytes) 0 0) ≡ closes e c
  closes_same = first_test (closes e) (low_by e 93 (omega arith)) (drop at bytes) c n h

  escapes_same : escapes e c ≡ escapes e (get_or (drop at bytes) 0 0)
  escapes_same =
      sym (first_test (escapes e) (low_by e 92 (omega arith)) (drop at bytes) c n h)

  pub closes_blank : closes e (get_or (drop at bytes) 0 0) ≡ true → InBlank (take (at + n) bytes)
  closes_blank first =
      let is : closes e c ≡ true = sym closes_same ∙ first in
      subst InBlank (sym (take-add at n bytes))
      (record {
        begins = begins_on (take at bytes) (take n (drop at bytes)) within.begins;
        on = λ x. within_char e (take at bytes) (take n (drop at bytes)) c [] within there x
            ∙ rw is refl;
      })

  pub goes_within : closes e (get_or (drop at bytes) 0 0) ≡ false →
      Within (escapes e (get_or (drop at bytes) 0 0)) (take (at + n) bytes) []
  goes_within first =
      let is : closes e c ≡ false = sym closes_same ∙ first in
      let on : Within (escapes e c) (take at bytes ++ take n (drop at bytes)) [] =
      record {
        begins = begins_on (take at bytes) (take n (drop at bytes)) within.begins;
        part_is = nothing_part;
        on = λ x. within_char e (take at bytes) (take n (drop at bytes)) c [] within there x
            ∙ rw is refl;
      } in
      subst (λ v. Within v (take (at + n) bytes) []) escapes_same
      (subst (λ (q : List ℕ). Within (escapes e c) q []) (sym (take-add at n bytes)) on)

-- the bracket at the front
pub bracket_within : (bytes : List ℕ) → 0 < length bytes → get_or bytes 0 0 ≡ 91 →
    Within false (take 1 bytes) []
bracket_within [] some is = absurd (omega (arith, some))
bracket_within (b ∷ bs) some is =
    subst (λ a. Within false (a ∷ []) []) (sym is) begin_bracket

-- white space at the front
pub white_at : (bytes : List ℕ) → 0 < length bytes → is_white (get_or bytes 0 0) ≡ true →
    InBlank (take 1 bytes)
white_at [] some is = absurd (omega (arith, some))
white_at (b ∷ bs) some is = begin_white b is

-- at the front of bytes

pub blank_more : (bytes : List ℕ) (at n : ℕ) → (0 < at → InBlank (take at bytes)) →
    InBlank (take n (drop at bytes)) → InBlank (take (at + n) bytes)
blank_more bytes zero n before next =
    subst (λ k. InBlank (take k bytes)) (let e : n ≡ 0 + n = omega arith in e) next
blank_more bytes (suc at) n before next =
    subst InBlank (sym (take-add (suc at) n bytes))
    (both_blank (take (suc at) bytes) (take n (drop (suc at) bytes)) (before (omega arith)) next)

pub given_more : (bytes : List ℕ) (at n : ℕ) →
    (0 < at → GiveText (take at bytes) (take at bytes)) →
    GiveText (take n (drop at bytes)) (take n (drop at bytes)) →
    GiveText (take (at + n) bytes) (take (at + n) bytes)
given_more bytes zero n before next =
    subst (λ k. GiveText (take k bytes) (take k bytes))
    (let e : n ≡ 0 + n = omega arith in e) next
given_more bytes (suc at) n before next =
    subst (λ (q : List ℕ). GiveText q q) (sym (take-add (suc at) n bytes))
    (gives_on (take (suc at) bytes) (take n (drop (suc at) bytes)) _ _ (before (omega arith)) next)

-- white space and a character
pub spaced_gives : (bytes : List ℕ) (white n : ℕ) → white ≡ white_size bytes → 0 < white →
    length bytes ≤ item_max → white ≤ length bytes →
    IsPlain (take n (drop white bytes)) (take n (drop white bytes)) →
    GiveText (take (white + n) bytes) (take (white + n) bytes)
spaced_gives bytes white n is some short within h =
    let size = length-take-le white bytes within in
    subst (λ (q : List ℕ). GiveText q q) (sym (take-add white n bytes))
    (white_gives (take white bytes) (take n (drop white bytes))
    (white_take bytes white (omega (arith, is))) (omega (arith, size, some))
    (omega (arith, size, short, within)) h)

bare_none : bare_blank spot.Outside [] ≡ []
unfolding bare_blank
bare_none = refl

-- a blank, or none, and a character were written
pub item_wrote : (bytes : List ℕ) (blank n : ℕ) (before after text : List ℕ) →
    (0 < blank → InBlank (take blank bytes)) → blank ≤ length bytes → length bytes ≤ item_max →
    IsPlain (take n (drop blank bytes)) text →
    after ≡ (before ++ bare_blank spot.Outside (take blank bytes)) ++ text →
    Wrote (take (blank + n) bytes) before after
item_wrote bytes zero n before after text in_blank within short h e = record {
  given = text;
  written = e ∙ ap (λ (q : List ℕ). (before ++ q) ++ text) bare_none
      ∙ ap (λ (q : List ℕ). q ++ text) (append-nil before);
  gives = subst (λ k. GiveText (take k bytes) text) (let s : n ≡ 0 + n = omega arith in s)
      (plain_gives (take n bytes) text h);
}
item_wrote bytes (suc k) n before after text in_blank within short h e = record {
  given = bare_blank spot.Outside (take (suc k) bytes) ++ text;
  written = e ∙ append_assoc before (bare_blank spot.Outside (take (suc k) bytes)) text;
  gives =
      let size = length-take-le (suc k) bytes within in
      subst (λ (q : List ℕ).
      GiveText q (bare_blank spot.Outside (take (suc k) bytes) ++ text))
      (sym (take-add (suc k) n bytes))
      (blank_gives (take (suc k) bytes) (take n (drop (suc k) bytes)) text
      (in_blank (omega arith)) (omega (arith, size, within, short)) h);
}

unescaped_short : (bytes : List ℕ) → length (unescaped bytes) ≤ length bytes
unescaped_short [] = omega arith
unescaped_short (b ∷ bs) = by (eqb b 92)
  where
    by : (v : Bool) → length (if v then bs else b ∷ bs) ≤ length (b ∷ bs)
    by true = omega arith
    by false = omega arith

pub item_short : (bytes : List ℕ) (blank n : ℕ) (before after : List ℕ) → blank ≤ length bytes →
    n ≤ length (drop blank bytes) →
    after ≡ (before ++ bare_blank spot.Outside (take blank bytes))
    ++ unescaped (take n (drop blank bytes)) → length after ≤ length before + length bytes
item_short bytes blank n before after within fits e =
    let front = take blank bytes in
    let letter = take n (drop blank bytes) in
    let all = ap length e
    ∙ length-append (before ++ bare_blank spot.Outside front) (unescaped letter) in
    let first = length-append before (bare_blank spot.Outside front) in
    let a = bare_short spot.Outside front in
    let b = unescaped_short letter in
    let f = length-take-le blank bytes within in
    let l = length-take-le n (drop blank bytes) fits in
    let rest = length-drop blank bytes in
    omega (arith, all, first, a, b, f, l, rest, within, fits)
