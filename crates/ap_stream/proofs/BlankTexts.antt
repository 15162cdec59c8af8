-- The bytes of a blank, by the notation, are those that a reader takes for it.
use Rattle.std.specs.Prelude.{◌≡◌, ◌≢◌, ℕ, zero, suc, ◌+◌, ◌-◌, ◌<◌, ◌≤◌, pred, List, [], ◌∷◌, ◌++◌, drop, take, length, Bool, true, false, cond, eqb, ◌&&◌, not, refl, encode_utf8}
use Rattle.std.proofs.Common.{arith, ap, sym, subst, ◌∙◌, append_assoc, length-append}
use Rattle.std.proofs.lemmas.Bool.{eqb-true, ne_eqb}
use Rattle.std.proofs.lemmas.Bool.Decides.{nat_tests}
use Rattle.std.proofs.lemmas.List.{length-drop, take-append-drop}
use Rattle.std.proofs.lemmas.Str.{encode_ascii}
use Rattle.std.proofs.Math.Seq.{take-add, drop-append_seam}
use Rattle.ap_symbol.specs.Coded.{IsCode}
use Rattle.ap_stream.specs.Blanks.{Run, Open, Inside, BadChar, Done, further, behind_close, blank, Close, Within, Bad, Closed, closing, closing_by, closes, escapes, longer, is_white, begins_blank}
use Rattle.ap_stream.proofs.BlankLaws.{further_further, further_zero, blank_white, blank_bracket, blank_at}
use Rattle.ap_stream.specs.Chars.{Front, Part, NotChar, Char, char_at}
use Rattle.ap_stream.specs.Notation.{IsToBracket, closed, bare, escaped, AreBlanks, none, space, bracketed, IsBlankText}
use Rattle.ap_stream.specs.Stands.{blank_first}
use Rattle.ap_stream.proofs.Back.{char_back}
use Rattle.ap_stream.proofs.Cut.{char_size, char_bytes, char_code}
use Rattle.ap_stream.proofs.Superblanks.{closing_first}

-- a superblank
pub to_bracket : (bytes : List ℕ) → IsToBracket bytes → (x : List ℕ) → closing false 0 (bytes ++ x)
    ≡ Closed (length bytes)
unfolding char_at
to_bracket bytes (closed e) x = ap (λ (q : List ℕ). closing false 0 (q ++ x)) e
    ∙ closing_first false (93 ∷ x) 93 1 refl ∙ ap (λ (q : List ℕ). Closed (length q)) (sym e)
to_bracket bytes (bare c more code no_escape no_close h e) x =
    let n : ℕ = length (encode_utf8 c) in
    let u : eqb c 93 ≡ false = ne_eqb c 93 no_close in
    let v : eqb c 92 ≡ false = ne_eqb c 92 no_escape in
    let one : closing false 0 (encode_utf8 c ++ (more ++ x))
    ≡ longer (length (encode_utf8 c)) (closing false 0 (more ++ x)) =
    closing_first false (encode_utf8 c ++ (more ++ x)) c (length (encode_utf8 c))
    (char_back c (more ++ x) code)
    ∙ rw (u, v, drop-append_seam (encode_utf8 c) (more ++ x)) refl in
    let size : length (encode_utf8 c) + length more ≡ length bytes =
    sym (ap length e ∙ length-append (encode_utf8 c) more) in
    ap (λ (q : List ℕ). closing false 0 (q ++ x)) e
    ∙ ap (closing false 0) (append_assoc (encode_utf8 c) more x) ∙ one
    ∙ ap (longer (length (encode_utf8 c))) (to_bracket more h x) ∙ ap Closed size
to_bracket bytes (escaped c more code h e) x =
    let two : closing true 0 (encode_utf8 c ++ (more ++ x))
    ≡ longer (length (encode_utf8 c)) (closing false 0 (more ++ x)) =
    closing_first true (encode_utf8 c ++ (more ++ x)) c (length (encode_utf8 c))
    (char_back c (more ++ x) code) ∙ rw (drop-append_seam (encode_utf8 c) (more ++ x)) refl in
    let one : closing false 0 (92 ∷ (encode_utf8 c ++ (more ++ x)))
    ≡ longer 1 (closing true 0 (encode_utf8 c ++ (more ++ x))) =
    closing_first false (92 ∷ (encode_utf8 c ++ (more ++ x))) 92 1 refl in
    let size : 1 + (length (encode_utf8 c) + length more) ≡ length bytes = let l = ap length e in
    let k = length-append (encode_utf8 c) more in omega (arith, l, k) in
    ap (λ (q : List ℕ). closing false 0 (q ++ x)) e
    ∙ ap (λ (q : List ℕ). closing false 0 (92 ∷ q)) (append_assoc (encode_utf8 c) more x) ∙ one
    ∙ ap (longer 1) (two ∙ ap (longer (length (encode_utf8 c))) (to_bracket more h x))
    ∙ ap Closed size

-- a superblank that is read

-- behind a backslash stands any one character
abbrev pub Behind : Bool → List ℕ → Type 0
Behind true bytes = (c : ℕ) × (more : List ℕ) × IsCode c × IsToBracket more
    × (bytes ≡ encode_utf8 c ++ more)
Behind false bytes = IsToBracket bytes

drop_pred : (n b : ℕ) (bs : List ℕ) → 0 < n → drop n (b ∷ bs) ≡ drop (pred n) bs
drop_pred zero b bs some = absurd (omega (arith, some))
drop_pred (suc n) b bs some = refl

no_close : (c : ℕ) → eqb c 93 ≡ false → c ≢ 93
no_close c h e = grind (arith, nat_tests)

no_escape : (c : ℕ) → eqb c 92 ≡ false → c ≢ 92
no_escape c h e = grind (arith, nat_tests)

-- one character more
module _ (b : ℕ) (bs : List ℕ) (c m k : ℕ) (h : char_at (b ∷ bs) ≡ Char c m) where
  front : take (m + k) (b ∷ bs) ≡ encode_utf8 c ++ take k (drop m (b ∷ bs))
  front = take-add m k (b ∷ bs)
      ∙ ap (λ (q : List ℕ). q ++ take k (drop m (b ∷ bs))) (sym (char_bytes (b ∷ bs) c m h))

  plain_behind : (e v w : Bool) → closes e c ≡ false → eqb c 92 ≡ w → e ≡ v →
      Behind (escapes e c) (take k (drop m (b ∷ bs))) → Behind e (take (m + k) (b ∷ bs))
  plain_behind e true w n is v g =
      let done : IsToBracket (take k (drop m (b ∷ bs))) =
      subst (λ (z : Bool). Behind (not z && eqb c 92) (take k (drop m (b ∷ bs)))) v g in
      subst (λ (z : Bool). Behind z (take (m + k) (b ∷ bs))) (sym v) (
        c,
        take k (drop m (b ∷ bs)),
        char_code (b ∷ bs) c m h,
        done,
        front,
      )
  plain_behind e false true n is v g =
      let there : Behind true (take k (drop m (b ∷ bs))) =
      subst (λ (z : Bool). Behind z (take k (drop m (b ∷ bs)))) is
      (subst (λ (z : Bool). Behind (not z && eqb c 92) (take k (drop m (b ∷ bs)))) v g) in
      let slash : encode_utf8 c ≡ 92 ∷ [] = let s = eqb-true c 92 is in
      ap encode_utf8 s ∙ encode_ascii 92 (omega arith) in
      subst (λ (z : Bool). Behind z (take (m + k) (b ∷ bs))) (sym v)
      (escaped there.0 there.1 there.2 there.3
      (front ∙ ap (λ (q : List ℕ). q ++ take k (drop m (b ∷ bs))) slash
      ∙ ap (λ (q : List ℕ). 92 ∷ q) there.4))
  plain_behind e false false n is v g =
      let done : IsToBracket (take k (drop m (b ∷ bs))) =
      subst (λ (z : Bool). Behind z (take k (drop m (b ∷ bs)))) is
      (subst (λ (z : Bool). Behind (not z && eqb c 92) (take k (drop m (b ∷ bs)))) v g) in
      let open_c : eqb c 93 ≡ false = subst (λ (z : Bool). (not z && eqb c 93) ≡ false) v n in
      subst (λ (z : Bool). Behind z (take (m + k) (b ∷ bs))) (sym v)
      (bare c (take k (drop m (b ∷ bs))) (char_code (b ∷ bs) c m h) (no_escape c is)
      (no_close c open_c) done front)

close_behind : (e : Bool) (b : ℕ) (bs : List ℕ) (c m : ℕ) → char_at (b ∷ bs) ≡ Char c m →
    closes e c ≡ true → Behind e (take m (b ∷ bs))
close_behind true b bs c m h t = absurd (cc)
close_behind false b bs c m h t =
    let is : c ≡ 93 = eqb-true c 93 t in
    closed (sym (char_bytes (b ∷ bs) c m h) ∙ ap encode_utf8 is ∙ encode_ascii 93 (omega arith))

abbrev pub ClosedAt : Bool → List ℕ → ℕ → Type 0
ClosedAt e bs n = Behind e (take n bs) × (n ≤ length bs)

pub closed_at : (e : Bool) (skip : ℕ) (bs : List ℕ) (n : ℕ) → closing e skip bs ≡ Closed n →
    ClosedAt e (drop skip bs) n
unfolding closing
closed_at e skip [] n h = absurd (cc)
closed_at e (suc skip) (b ∷ bs) n h = closed_at e skip bs n h
closed_at e zero (b ∷ bs) n h = by (char_at (b ∷ bs)) refl (λ f k m g. closed_at f k bs m g) h
  where
    later : (c m : ℕ) → char_at (b ∷ bs) ≡ Char c m → closes e c ≡ false →
        ((f : Bool) (k j : ℕ) → closing f k bs ≡ Closed j → ClosedAt f (drop k bs) j) →
        (r : Close) → closing (escapes e c) (pred m) bs ≡ r → longer m r ≡ Closed n →
        ClosedAt e (b ∷ bs) n
    later c m k t go Within is h = absurd (cc)
    later c m k t go Bad is h = absurd (cc)
    later c m k t go (Closed j) is h =
        let size : m + j ≡ n = cc in
        let s = char_size (b ∷ bs) c m k in
        let g = go (escapes e c) (pred m) j is in
        let same : drop (pred m) bs ≡ drop m (b ∷ bs) = sym (drop_pred m b bs s.0) in
        let there : Behind (escapes e c) (take j (drop m (b ∷ bs))) =
        subst (λ (q : List ℕ). Behind (escapes e c) (take j q)) same g.0 in
        let far : length (drop m (b ∷ bs)) ≡ length (b ∷ bs) - m = length-drop m (b ∷ bs) in
        let near : length (drop (pred m) bs) ≡ length (drop m (b ∷ bs)) = ap length same in (
          subst (λ q. Behind e (take q (b ∷ bs))) size
              (plain_behind b bs c m j k e e (eqb c 92) t refl refl there),
          omega (arith, size, g.1, far, near, s.1),
        )

    test : (c m : ℕ) → char_at (b ∷ bs) ≡ Char c m →
        ((f : Bool) (k j : ℕ) → closing f k bs ≡ Closed j → ClosedAt f (drop k bs) j) → (v : Bool) →
        closes e c ≡ v → cond v (Closed m) (longer m (closing (escapes e c) (pred m) bs)) ≡ Closed n
        → ClosedAt e (b ∷ bs) n
    test c m k go true t h =
        let size : m ≡ n = cc in (
          subst (λ q. Behind e (take q (b ∷ bs))) size (close_behind e b bs c m k t),
          omega (arith, size, (char_size (b ∷ bs) c m k).1),
        )
    test c m k go false t h = later c m k t go (closing (escapes e c) (pred m) bs) refl h

    by : (f : Front) → char_at (b ∷ bs) ≡ f →
        ((f : Bool) (k j : ℕ) → closing f k bs ≡ Closed j → ClosedAt f (drop k bs) j) →
        closing_by e f (λ v skip. closing v skip bs) ≡ Closed n → ClosedAt e (b ∷ bs) n
    by Part k go h = absurd (cc)
    by NotChar k go h = absurd (cc)
    by (Char c m) k go h = test c m k go (closes e c) refl h

-- the bytes of a blank are read as one, whatever follows

pub super_read : (inner x : List ℕ) → IsToBracket inner → blank 0 (91 ∷ (inner ++ x))
    ≡ further 1 (further (length inner) (blank 0 x))
super_read inner x t = blank_bracket (inner ++ x)
    ∙ ap (λ k. further 1 (behind_close k (λ n. blank n (inner ++ x)))) (to_bracket inner t x)
    ∙ ap (λ r. further 1 (further (length inner) r)) (blank_at inner x)

pub blanks_on : (p : List ℕ) → AreBlanks p → (x : List ℕ) →
    blank 0 (p ++ x) ≡ further (length p) (blank 0 x)
blanks_on p (none e) x = ap (λ (q : List ℕ). blank 0 (q ++ x)) e ∙ sym (further_zero (blank 0 x))
    ∙ ap (λ (q : List ℕ). further (length q) (blank 0 x)) (sym e)
blanks_on p (space b rest w h e) x =
    let size : 1 + length rest ≡ length p = let l = ap length e in omega (arith, l) in
    ap (λ (q : List ℕ). blank 0 (q ++ x)) e ∙ blank_white b (rest ++ x) w
    ∙ ap (further 1) (blanks_on rest h x) ∙ further_further 1 (length rest) (blank 0 x)
    ∙ ap (λ n. further n (blank 0 x)) size
blanks_on p (bracketed front rest s h e) x =
    let begins : p ≡ 91 ∷ (s.rest ++ rest) = e ∙ ap (λ (q : List ℕ). q ++ rest) s.begins in
    let size : 1 + (length s.rest + length rest) ≡ length p =
    let l = ap length begins in let k = length-append s.rest rest in omega (arith, l, k) in
    ap (λ (q : List ℕ). blank 0 (q ++ x)) begins
    ∙ ap (λ (q : List ℕ). blank 0 (91 ∷ q)) (append_assoc s.rest rest x)
    ∙ super_read s.rest (rest ++ x) s.goes_on
    ∙ ap (λ r. further 1 (further (length s.rest) r)) (blanks_on rest h x)
    ∙ ap (further 1) (further_further (length s.rest) (length rest) (blank 0 x))
    ∙ further_further 1 (length s.rest + length rest) (blank 0 x)
    ∙ ap (λ n. further n (blank 0 x)) size

pub text_begins : (p : List ℕ) → IsBlankText p → blank_first p ≡ true
text_begins p t = by t.are
  where
    white : (b : ℕ) → is_white b ≡ true → begins_blank b ≡ true
    white b w = rw w refl

    by : AreBlanks p → blank_first p ≡ true
    by (none e) = absurd (t.some e)
    by (space b rest w h e) = ap blank_first e ∙ white b w
    by (bracketed own rest s h e) =
        ap blank_first (e ∙ ap (λ (q : List ℕ). q ++ rest) s.begins)

-- what is read of a blank are its bytes

abbrev pub RunText : List ℕ → Run → Type 0
RunText bs Open = AreBlanks bs
RunText bs Inside = Unit {0}
RunText bs BadChar = Unit {0}
RunText bs (Done n) = AreBlanks (take n bs) × (n ≤ length bs)

white_text : (b : ℕ) (bs : List ℕ) (r : Run) → is_white b ≡ true → RunText bs r →
    RunText (b ∷ bs) (further 1 r)
white_text b bs Open w h = space b bs w h refl
white_text b bs Inside w h = tt
white_text b bs BadChar w h = tt
white_text b bs (Done n) w h = let size : 1 + n ≡ suc n = omega arith in (
  space b (take n bs) w h.0 (ap (λ k. take k (b ∷ bs)) size),
  omega (arith, h.1),
)

super_row : (inner rest bytes : List ℕ) → IsToBracket inner → AreBlanks rest →
    bytes ≡ 91 ∷ (inner ++ rest) → AreBlanks bytes
super_row inner rest bytes t h e =
    bracketed (91 ∷ inner) rest (record { rest = inner; begins = refl; goes_on = t }) h e

super_text : (bs : List ℕ) (n : ℕ) (r : Run) → closing false 0 bs ≡ Closed n →
    RunText (drop n bs) r → RunText (91 ∷ bs) (further 1 (further n r))
super_text bs n Open e h = let c = closed_at false 0 bs n e in
    super_row (take n bs) (drop n bs) (91 ∷ bs) c.0 h
    (ap (λ (q : List ℕ). 91 ∷ q) (sym (take-append-drop n bs)))
super_text bs n Inside e h = tt
super_text bs n BadChar e h = tt
super_text bs n (Done m) e h =
    let c = closed_at false 0 bs n e in
    let size : 1 + (n + m) ≡ suc (n + m) = omega arith in
    let l = length-drop n bs in (
      super_row (take n bs) (take m (drop n bs)) (take (1 + (n + m)) (91 ∷ bs)) c.0 h.0
          (ap (λ k. take k (91 ∷ bs)) size ∙ ap (λ (q : List ℕ). 91 ∷ q) (take-add n m bs)),
      omega (arith, l, c.1, h.1),
    )

text_cond : (bs : List ℕ) (v : Bool) (r s : Run) → (v ≡ true → RunText bs r) →
    (v ≡ false → RunText bs s) → RunText bs (cond v r s)
text_cond bs true r s h k = h refl
text_cond bs false r s h k = k refl

pub run_text : (skip : ℕ) (bs : List ℕ) → RunText (drop skip bs) (blank skip bs)
unfolding blank
run_text zero [] = none refl
run_text (suc skip) [] = none refl
run_text (suc skip) (b ∷ bs) = run_text skip bs
run_text zero (b ∷ bs) = text_cond (b ∷ bs) (is_white b) (further 1 (blank 0 bs)) _
    (λ w. white_text b bs (blank 0 bs) w (run_text 0 bs))
    (λ _. text_cond (b ∷ bs) (eqb b 91)
    (further 1 (behind_close (closing false 0 bs) (λ n. blank n bs))) (Done 0)
    (λ e. bracket (eqb-true b 91 e) (closing false 0 bs) refl (λ n. run_text n bs))
    (λ _. (none refl, omega arith)))
  where
    bracket : b ≡ 91 → (c : Close) → closing false 0 bs ≡ c →
        ((n : ℕ) → RunText (drop n bs) (blank n bs)) →
        RunText (b ∷ bs) (further 1 (behind_close c (λ n. blank n bs)))
    bracket is Within e go = tt
    bracket is Bad e go = tt
    bracket is (Closed n) e go =
        subst (λ q. RunText (q ∷ bs) (further 1 (further n (blank n bs)))) (sym is)
        (super_text bs n (blank n bs) e (go n))
