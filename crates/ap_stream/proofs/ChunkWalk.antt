-- A walk over the bytes of a chunk that is whole.
use Rattle.std.specs.Prelude.{◌≡◌, ◌≢◌, ℕ, zero, suc, ◌+◌, ◌-◌, ◌<◌, ◌≤◌, pred, List, [], ◌∷◌, ◌++◌, drop, take, length, Bool, true, false, cond, eqb, ◌&&◌, not, refl}
use Rattle.std.proofs.Common.{arith, ap, sym, subst, ◌∙◌, append_assoc, drop-drop, drop-cons, get_or}
use Rattle.std.proofs.lemmas.Bool.{eqb-true, ne_eqb}
use Rattle.std.proofs.lemmas.List.{append-nil, drop_all, length-drop, length-take-le}
use Rattle.ap_symbol.specs.declared.symbol.Symbol.{Symbol}
use Rattle.ap_symbol.specs.declared.symbol.Symbol.TheVariants.{Tag}
use Rattle.ap_stream.specs.declared.dialect.Dialect.TheVariants.{Lexical, Chunked}
use Rattle.ap_stream.specs.declared.fault.MalformedKind.TheVariants.{Stray, EmptyWord, BadTag}
use Rattle.ap_stream.specs.declared.item.Chunk.{Chunk}
use Rattle.ap_stream.specs.declared.item.Inner.{Inner}
use Rattle.ap_stream.specs.declared.item.Inner.TheVariants as inner
use Rattle.ap_stream.specs.declared.item.Item.TheVariants as item
use Rattle.ap_stream.specs.Blanks.{Run, Open, Inside, BadChar, Done, blank, further, inside, begins_blank, is_white, Close, Within, Bad, Closed, closing, behind_close}
use Rattle.ap_stream.proofs.BlankLaws.{further_further, blank_white, blank_bracket, blank_done, blank_skip, blank_some}
use Rattle.ap_stream.specs.Chars.{Front, Part, NotChar, Char, char_at, CharSize}
use Rattle.ap_stream.specs.Dialects.{is_refused}
use Rattle.ap_stream.specs.Units.{form_of, Name, Runs, Breaks, Stops, name, Sign, Awaits, Bars, Reads, Slash, Dollar, Brace, sign, of_name, of_escape, of_bare, bare_of, is_barred, may_end, early, Rest, Lacks, Wrong, Ends, rest, longer}
use Rattle.ap_stream.proofs.UnitLaws.{longer_longer, rest_dollar}
use Rattle.ap_stream.specs.UnitBytes.{UnitOf, Barren}
use Rattle.ap_stream.specs.Chunks.{Barred, Braced, portion, blank_portion, unit_portion, Body, Opens, Fails, Closes, behind_part, behind_portion, closed, body, wrong_byte}
use Rattle.ap_stream.proofs.ChunkLaws.{body_skip, body_nil, body_brace}
use Rattle.ap_stream.specs.Stands.{ChunkOf}
use Rattle.ap_symbol.specs.Kinds.{first_word}
use Rattle.ap_stream.specs.Reading.{Whole, Faulty, Bad as OfKind, first, of_run, of_escaped, of_char, of_chunk, of_body, plain}
use Rattle.ap_stream.proofs.SignLaws as laws
use Rattle.ap_stream.proofs.SignLaws.{IsWhole}
use Rattle.ap_stream.proofs.UnitWords.{words_are}
use Rattle.ap_stream.proofs.Cut.{rest_cut, sign_cut_at, sign_ends, EndsIn}

-- a blank

abbrev IsDone : Run → Type 0
IsDone Open = ⊥
IsDone Inside = ⊥
IsDone BadChar = ⊥
IsDone (Done n) = Unit {0}

done_further : (n : ℕ) (r : Run) → IsDone (further n r) → IsDone r
done_further n Open h = h
done_further n Inside h = h
done_further n BadChar h = h
done_further n (Done m) h = tt

byte_here : (bytes : List ℕ) (at : ℕ) → at < length bytes →
    drop at bytes ≡ get_or bytes at 0 ∷ drop (at + 1) bytes
byte_here bytes at inside =
    let n : suc at ≡ at + 1 = omega arith in
    drop-cons bytes at 0 inside ∙ ap (λ k. get_or bytes at 0 ∷ drop k bytes) n

module _ (bytes : List ℕ) (at : ℕ) (on : blank 0 bytes ≡ further at (blank 0 (drop at bytes)))
    (whole : (n : ℕ) × (blank 0 bytes ≡ Done n)) where
  run_here : IsDone (blank 0 (drop at bytes))
  run_here = done_further at _ (subst IsDone (sym whole.1 ∙ on) tt)

  pub past_white : at < length bytes → is_white (get_or bytes at 0) ≡ true →
      blank 0 bytes ≡ further (at + 1) (blank 0 (drop (at + 1) bytes))
  past_white inside w =
      on ∙ ap (λ q. further at (blank 0 q)) (byte_here bytes at inside)
      ∙ ap (further at) (blank_white (get_or bytes at 0) (drop (at + 1) bytes) w)
      ∙ further_further at 1 (blank 0 (drop (at + 1) bytes))

  bracket_here : at < length bytes → get_or bytes at 0 ≡ 91 →
      blank 0 (drop at bytes) ≡ further 1 (inside false (drop (at + 1) bytes))
  bracket_here inside is =
      ap (blank 0) (byte_here bytes at inside ∙ ap (λ b. b ∷ drop (at + 1) bytes) is)
      ∙ blank_bracket (drop (at + 1) bytes)

  pub past_super : (size : ℕ) → at < length bytes → get_or bytes at 0 ≡ 91 →
      closing false 0 (drop (at + 1) bytes) ≡ Closed size →
      blank 0 bytes ≡ further (at + (1 + size)) (blank 0 (drop (at + (1 + size)) bytes))
  past_super size inside is c =
      let rest : List ℕ = drop (at + 1) bytes in
      let back : drop size (drop (at + 1) bytes) ≡ drop (at + (1 + size)) bytes =
      drop-drop size (at + 1) bytes ∙ ap (λ n. drop n bytes) (omega arith) in
      let r : Run = blank 0 (drop (at + (1 + size)) bytes) in
      on ∙ ap (further at) (bracket_here inside is)
      ∙ ap (λ k. further at (further 1 (behind_close k (λ n. blank n (drop (at + 1) bytes))))) c
      ∙ ap (λ q. further at (further 1 (further size q)))
      (blank_skip size (drop (at + 1) bytes) ∙ ap (blank 0) back)
      ∙ ap (further at) (further_further 1 size r) ∙ further_further at (1 + size) r

  pub unclosed : at < length bytes → get_or bytes at 0 ≡ 91 →
      ((n : ℕ) → closing false 0 (drop (at + 1) bytes) ≢ Closed n) → ⊥
  unclosed inside is none =
      by (closing false 0 (drop (at + 1) bytes)) refl
      (done_further 1 _ (subst IsDone (bracket_here inside is) run_here))
    where
      by : (k : Close) → closing false 0 (drop (at + 1) bytes) ≡ k →
          IsDone (behind_close k (λ n. blank n (drop (at + 1) bytes))) → ⊥
      by Within e h = h
      by Bad e h = h
      by (Closed n) e h = none n e

  pub run_ends : at < length bytes → is_white (get_or bytes at 0) ≡ false →
      eqb (get_or bytes at 0) 91 ≡ false → blank 0 bytes ≡ Done at
  run_ends inside w k =
      on ∙ ap (λ q. further at (blank 0 q)) (byte_here bytes at inside)
      ∙ ap (further at) (blank_done (get_or bytes at 0) (drop (at + 1) bytes) w k)
      ∙ ap Done (omega arith)

  pub run_over : length bytes ≤ at → ⊥
  unfolding blank
  run_over past = subst (λ (q : List ℕ). IsDone (blank 0 q)) (drop_all at bytes past) run_here

-- a symbol

pub escape_size : (bs : List ℕ) (k : ℕ) → CharSize bs k → (s : Symbol) (n : ℕ) →
    sign false (92 ∷ bs) ≡ Reads s n → 1 + k ≡ n
unfolding sign
escape_size bs k h s n e = by (char_at bs) refl e
  where
    by : (f : Front) → char_at bs ≡ f → of_escape f ≡ Reads s n → 1 + k ≡ n
    by Part c e = absurd (cc)
    by NotChar c e = absurd (cc)
    by (Char c m) d e = let size : 1 + m ≡ n = cc in ap (λ z. 1 + z) (h c m d) ∙ size

pub tag_size : (bs : List ℕ) (k : ℕ) → ((n : ℕ) (c : ℕ) → name 0 bs ≡ Stops n c → k ≡ n) →
    (s : Symbol) (n : ℕ) → sign false (60 ∷ bs) ≡ Reads s n → 2 + k ≡ n
unfolding sign
tag_size bs k h s n e = by (name 0 bs) refl e
  where
    at : (m c : ℕ) → name 0 bs ≡ Stops m c → (v : Bool) →
        cond v (Reads (Tag (take m bs)) (2 + m)) (Bars BadTag) ≡ Reads s n → 2 + k ≡ n
    at m c d true e = let size : 2 + m ≡ n = cc in ap (λ z. 2 + z) (h m c d) ∙ size
    at m c d false e = absurd (cc)

    by : (r : Name) → name 0 bs ≡ r → of_name bs r ≡ Reads s n → 2 + k ≡ n
    by Runs d e = absurd (cc)
    by Breaks d e = absurd (cc)
    by (Stops m c) d e = at m c d (eqb c 62 && not (eqb m 0)) e

pub bare_size : (b : ℕ) (bs : List ℕ) (k : ℕ) → eqb b 92 ≡ false → eqb b 60 ≡ false →
    CharSize (b ∷ bs) k → (s : Symbol) (n : ℕ) → sign false (b ∷ bs) ≡ Reads s n → k ≡ n
unfolding sign
bare_size b bs k u v h s n e = by (char_at (b ∷ bs)) refl (rw (u, v) at e)
  where
    at : (c m : ℕ) → char_at (b ∷ bs) ≡ Char c m → (u v z w : Bool) → cond u Slash
        (cond v Dollar (cond z Brace (cond w (Bars Stray) (Reads (bare_of false c) m))))
        ≡ Reads s n → k ≡ n
    at c m d true v z w e = absurd (cc)
    at c m d false true z w e = absurd (cc)
    at c m d false false true w e = absurd (cc)
    at c m d false false false true e = absurd (cc)
    at c m d false false false false e = let size : m ≡ n = cc in h c m d ∙ size

    by : (f : Front) → char_at (b ∷ bs) ≡ f → of_bare false f ≡ Reads s n → k ≡ n
    by Part d e = absurd (cc)
    by NotChar d e = absurd (cc)
    by (Char c m) d e = at c m d (eqb c 47) (eqb c 36) (eqb c 123) (is_barred false c) e

module _ (bytes : List ℕ) (some : 1 ≤ length bytes) where
  first_here : bytes ≡ get_or bytes 0 0 ∷ drop 1 bytes
  first_here = byte_here bytes 0 (omega (arith, some))

  pub symbol_escape : (k : ℕ) → get_or bytes 0 0 ≡ 92 → CharSize (drop 1 bytes) k → (s : Symbol)
      (n : ℕ) → sign false bytes ≡ Reads s n → 1 + k ≡ n
  symbol_escape k is h s n e =
      escape_size (drop 1 bytes) k h s n
      (ap (sign false) (sym (first_here ∙ ap (λ b. b ∷ drop 1 bytes) is)) ∙ e)

  pub symbol_tag : (k : ℕ) → get_or bytes 0 0 ≡ 60 →
      ((n : ℕ) (c : ℕ) → name 0 (drop 1 bytes) ≡ Stops n c → k ≡ n) → (s : Symbol) (n : ℕ) →
      sign false bytes ≡ Reads s n → 2 + k ≡ n
  symbol_tag k is h s n e =
      tag_size (drop 1 bytes) k h s n
      (ap (sign false) (sym (first_here ∙ ap (λ b. b ∷ drop 1 bytes) is)) ∙ e)

  pub symbol_bare : (k : ℕ) → eqb (get_or bytes 0 0) 92 ≡ false →
      eqb (get_or bytes 0 0) 60 ≡ false →
      CharSize bytes k → (s : Symbol) (n : ℕ) → sign false bytes ≡ Reads s n → k ≡ n
  symbol_bare k u v h s n e =
      bare_size (get_or bytes 0 0) (drop 1 bytes) k u v
      (λ c m d. h c m (ap char_at first_here ∙ d)) s n (ap (sign false) (sym first_here) ∙ e)

pub symbol_none : (bytes : List ℕ) → length bytes < 1 → (s : Symbol) (n : ℕ) →
    sign false bytes ≡ Reads s n → 0 ≡ n
unfolding sign
symbol_none [] l s n e = absurd (cc)
symbol_none (b ∷ bs) l s n e = absurd (omega (arith, l))

-- what a name's end tells
pub never : {n c : ℕ} → Runs ≡ Stops n c → ⊥
never e = cc

pub unbroken : {n c : ℕ} → Breaks ≡ Stops n c → ⊥
unbroken e = cc

pub same : {m n c d : ℕ} → Stops m c ≡ Stops n d → m ≡ n
same e = cc

-- a word up to its end

-- the size of a word's symbol, where one stands there
pub record SymbolAt (bs : List ℕ) : Type 0 where
  pub symbol : Symbol
  pub size : ℕ
  pub is : sign false bs ≡ Reads symbol size
  pub some : 0 < size
  pub fits : size ≤ length bs

pub symbol_there : (word : List Symbol) (bs : List ℕ) → eqb (get_or bs 0 0) 36 ≡ false →
    IsWhole (rest (form_of Lexical) [] word 0 bs) → SymbolAt bs
unfolding rest
symbol_there word [] other w = absurd w
symbol_there word (b ∷ bs) other w = by (sign false (b ∷ bs)) refl (sign_ends false b bs)
  where
    by : (s : Sign) → sign false (b ∷ bs) ≡ s → EndsIn b s → SymbolAt (b ∷ bs)
    by Awaits e i = absurd (rw e at w)
    by (Bars kind) e i = absurd (rw e at w)
    by (Reads s n) e i =
        let f = sign_cut_at false b bs [] s n e in
        record { symbol = s; size = n; is = e; some = f.1; fits = f.2 }
    by Slash e i = absurd (rw e at w)
    by Dollar e i =
        absurd (let k : eqb b 36 ≡ true = subst (λ z. eqb z 36 ≡ true) (sym i) refl in cc)
    by Brace e i = absurd (rw e at w)

module _ (bytes : List ℕ) (at : ℕ) (word : List Symbol)
    (on : rest (form_of Lexical) [] [] 0 bytes
    ≡ longer at (rest (form_of Lexical) [] word 0 (drop at bytes)))
    (whole : (words : List (List Symbol)) × (n : ℕ) × (rest (form_of Lexical) [] [] 0 bytes
    ≡ Ends words n))
  where
    pub word_here : IsWhole (rest (form_of Lexical) [] word 0 (drop at bytes))
    word_here = laws.whole_longer at _ (subst IsWhole (sym whole.2 ∙ on) tt)

    pub symbol_here : at < length bytes → (get_or bytes at 0 ≡ 36 → ⊥) → SymbolAt (drop at bytes)
    symbol_here inside other =
        symbol_there word (drop at bytes)
        (ap (λ (q : List ℕ). eqb (get_or q 0 0) 36) (byte_here bytes at inside)
        ∙ ne_eqb (get_or bytes at 0) 36 other) word_here

    pub word_on : (s : SymbolAt (drop at bytes)) →
        rest (form_of Lexical) [] [] 0 bytes
        ≡ longer (at + s.size) (rest (form_of Lexical) [] (word ++ s.symbol ∷ []) 0
        (drop (at + s.size) bytes))
    word_on s =
        let next : List Symbol = word ++ s.symbol ∷ [] in
        on ∙ ap (longer at) (laws.front_reads (form_of Lexical) [] word
        (drop at bytes) s.symbol s.size
        s.is s.some (let f = s.fits in let k = s.some in omega (arith, f, k)))
        ∙ longer_longer at s.size (rest (form_of Lexical) [] (word ++ s.symbol ∷ []) 0
        (drop s.size (drop at bytes)))
        ∙ ap (λ q. longer (at + s.size) (rest (form_of Lexical) [] (word ++ s.symbol ∷ []) 0 q))
        (drop-drop s.size at bytes)

    pub word_past : (s : SymbolAt (drop at bytes)) (n : ℕ) → n ≡ s.size → (next : List Symbol)
        × (rest (form_of Lexical) [] [] 0 bytes
        ≡ longer (at + n) (rest (form_of Lexical) [] next 0 (drop (at + n) bytes)))
    word_past s n e = (
      word ++ s.symbol ∷ [],
      subst (λ k. rest (form_of Lexical) [] [] 0 bytes
          ≡ longer (at + k) (rest (form_of Lexical) [] (word ++ s.symbol ∷ []) 0
          (drop (at + k) bytes)))
          (sym e) (word_on s),
    )

    pub word_ends : at < length bytes → get_or bytes at 0 ≡ 36 →
        rest (form_of Lexical) [] [] 0 bytes ≡ Ends (word ∷ []) (at + 1)
    word_ends inside is =
        let there : drop at bytes ≡ 36 ∷ drop (at + 1) bytes =
        byte_here bytes at inside ∙ ap (λ b. b ∷ drop (at + 1) bytes) is in
        let here : rest (form_of Lexical) [] word 0 (drop at bytes)
        ≡ cond (may_end (form_of Lexical) [] word) (Ends (word ∷ []) 1)
        (Wrong (early (form_of Lexical))) =
        ap (rest (form_of Lexical) [] word 0) there
        ∙ rest_dollar (form_of Lexical) [] word (drop (at + 1) bytes) in
        on ∙ ap (longer at) (here ∙ only (may_end (form_of Lexical) [] word)
        (subst IsWhole here word_here))
      where
        only : (may : Bool) → IsWhole (cond may (Ends (word ∷ []) 1) (Wrong EmptyWord)) →
            cond may (Ends (word ∷ []) 1) (Wrong EmptyWord) ≡ Ends (word ∷ []) 1
        only true h = refl
        only false h = absurd h

    pub word_over : length bytes ≤ at → ⊥
    unfolding rest
    word_over past =
        subst (λ (q : List ℕ). IsWhole (rest (form_of Lexical) [] word 0 q))
        (drop_all at bytes past)
        word_here

-- a chunk's name

module _ (held : List ℕ) (at : ℕ) (word : List Symbol) (behind : 1 ≤ at)
    (on : rest (form_of Chunked) [] [] 0 (drop 1 held)
    ≡ longer (at - 1) (rest (form_of Chunked) [] word 0 (drop at held)))
    (whole : (words : List (List Symbol)) × (n : ℕ)
    × (rest (form_of Chunked) [] [] 0 (drop 1 held) ≡ Ends words n)) where
  name_here : IsWhole (rest (form_of Chunked) [] word 0 (drop at held))
  name_here = laws.whole_longer (at - 1) _ (subst IsWhole (sym whole.2 ∙ on) tt)

  left : at < length held → 0 < length (drop at held)
  left inside = let l = length-drop at held in omega (arith, l, inside)

  pub name_on : (s : Symbol) (n : ℕ) → sign false (drop at held) ≡ Reads s n → 0 < n →
      n ≤ length (drop at held) →
      rest (form_of Chunked) [] [] 0 (drop 1 held)
      ≡ longer ((at + n) - 1) (rest (form_of Chunked) [] (word ++ s ∷ []) 0 (drop (at + n) held))
  name_on s n e some fits =
      let r : Rest = rest (form_of Chunked) [] (word ++ s ∷ []) 0 (drop (at + n) held) in
      on ∙ ap (longer (at - 1)) (laws.front_reads (form_of Chunked) [] word
      (drop at held) s n e some
      (omega (arith, some, fits)))
      ∙ longer_longer (at - 1) n (rest (form_of Chunked) [] (word ++ s ∷ []) 0
      (drop n (drop at held)))
      ∙ ap (λ q. longer ((at - 1) + n) (rest (form_of Chunked) [] (word ++ s ∷ []) 0 q))
      (drop-drop n at held)
      ∙ ap (λ k. longer k r) (let k : (at - 1) + n ≡ (at + n) - 1 = omega (arith, behind) in k)

  pub name_stops : sign false (drop at held) ≡ Brace → at < length held →
      rest (form_of Chunked) [] [] 0 (drop 1 held) ≡ Ends (word ∷ []) ((at + 1) - 1)
  name_stops e inside =
      on ∙ ap (longer (at - 1))
      (laws.front_brace (form_of Chunked) [] word (drop at held) e (left inside))
      ∙ ap (Ends (word ∷ [])) (omega (arith, behind))

  pub no_slash : sign false (drop at held) ≡ Slash → at < length held → ⊥
  no_slash e inside =
      subst IsWhole (laws.front_slash (form_of Chunked) [] word (drop at held) e
      (left inside)) name_here

  pub no_dollar : sign false (drop at held) ≡ Dollar → at < length held → ⊥
  no_dollar e inside =
      subst IsWhole (laws.front_dollar (form_of Chunked) [] word (drop at held) e
      (left inside)) name_here

  pub no_symbol : Barren (sign false (drop at held)) → ⊥
  no_symbol h = laws.front_barren (form_of Chunked) [] word (drop at held) h name_here

  pub name_over : length held ≤ at → ⊥
  unfolding rest
  name_over past =
      subst (λ (q : List ℕ). IsWhole (rest (form_of Chunked) [] word 0 q)) (drop_all at held past)
      name_here

pub name_some : (held : List ℕ) → (words : List (List Symbol)) × (n : ℕ)
    × (rest (form_of Chunked) [] [] 0 (drop 1 held) ≡ Ends words n) → 1 ≤ length held
unfolding rest
name_some [] h = absurd (let e = h.2 in cc)
name_some (b ∷ bs) h = omega arith

-- a content

-- behind these parts, which have so many bytes
abbrev pub behind_parts : List Inner → ℕ → Body → Body
behind_parts parts n Opens = Opens
behind_parts parts n (Fails kind) = Fails kind
behind_parts parts n (Closes more m) = Closes (parts ++ more) (n + m)

parts_more : (parts : List Inner) (n k : ℕ) (part : Inner) (b : Body) →
    behind_parts parts n (behind_part part k b) ≡ behind_parts (parts ++ part ∷ []) (n + k) b
parts_more parts n k part Opens = refl
parts_more parts n k part (Fails kind) = refl
parts_more parts n k part (Closes more m) =
    ap (λ q. Closes q (n + (k + m))) (sym (append_assoc parts (part ∷ []) more))
    ∙ ap (Closes ((parts ++ part ∷ []) ++ more)) (omega arith)

abbrev pub IsClosed : Body → Type 0
IsClosed Opens = ⊥
IsClosed (Fails kind) = ⊥
IsClosed (Closes parts n) = Unit {0}

closed_behind : (parts : List Inner) (n : ℕ) (b : Body) → IsClosed (behind_parts parts n b) →
    IsClosed b
closed_behind parts n Opens h = h
closed_behind parts n (Fails kind) h = h
closed_behind parts n (Closes more m) h = tt

-- what stands at the front of a content that is whole
pub data Begins (b : ℕ) (bs : List ℕ) : Type 0 where
  brace : b ≡ 125 → closed bs ≡ Closes [] 2 → Begins b bs
  unit : (words : List (List Symbol)) (n : ℕ) → b ≡ 94 →
      rest (form_of Lexical) [] [] 0 bs ≡ Ends words n → Begins b bs
  run : (n : ℕ) → begins_blank b ≡ true → blank 0 (b ∷ bs) ≡ Done n → Begins b bs

pub content_begins : (b : ℕ) (bs : List ℕ) → IsClosed (body 0 (b ∷ bs)) → Begins b bs
unfolding body portion
content_begins b bs h = by_blank (begins_blank b) refl h
  where
    of_blank : begins_blank b ≡ true → (r : Run) → blank 0 (b ∷ bs) ≡ r →
        IsClosed (behind_portion (blank_portion (b ∷ bs) r) bs (λ n. body n bs)) → Begins b bs
    of_blank t Open e h = absurd h
    of_blank t Inside e h = absurd h
    of_blank t BadChar e h = absurd h
    of_blank t (Done n) e h = run n t e

    of_unit_at : eqb b 94 ≡ true → (r : Rest) → rest (form_of Lexical) [] [] 0 bs ≡ r →
        IsClosed (behind_portion (unit_portion r) bs (λ n. body n bs)) → Begins b bs
    of_unit_at t Lacks e h = absurd h
    of_unit_at t (Wrong kind) e h = absurd h
    of_unit_at t (Ends words n) e h = unit words n (eqb-true b 94 t) e

    of_close : b ≡ 125 → (xs : List ℕ) → bs ≡ xs → IsClosed (closed xs) → Begins b bs
    of_close is [] e h = absurd h
    of_close is (x ∷ xs) e h = brace is (ap closed e ∙ only (eqb x 36) h)
      where
        only : (v : Bool) → IsClosed (cond v (Closes [] 2) (Fails (wrong_byte x))) →
            cond v (Closes [] 2) (Fails (wrong_byte x)) ≡ Closes [] 2
        only true h = refl
        only false h = absurd h

    by_brace : (v : Bool) → eqb b 125 ≡ v →
        IsClosed (behind_portion (cond v Braced (Barred (wrong_byte b))) bs (λ n. body n bs)) →
        Begins b bs
    by_brace true e h = of_close (eqb-true b 125 e) bs refl h
    by_brace false e h = absurd h

    by_unit : (v : Bool) → eqb b 94 ≡ v →
        IsClosed (behind_portion (cond v (unit_portion (rest (form_of Lexical) [] [] 0 bs))
        (cond (eqb b 125) Braced (Barred (wrong_byte b)))) bs (λ n. body n bs)) → Begins b bs
    by_unit true e h = of_unit_at e (rest (form_of Lexical) [] [] 0 bs) refl h
    by_unit false e h = by_brace (eqb b 125) refl h

    by_blank : (v : Bool) → begins_blank b ≡ v →
        IsClosed (behind_portion (cond v (blank_portion (b ∷ bs) (blank 0 (b ∷ bs)))
        (cond (eqb b 94) (unit_portion (rest (form_of Lexical) [] [] 0 bs))
        (cond (eqb b 125) Braced (Barred (wrong_byte b))))) bs (λ n. body n bs)) → Begins b bs
    by_blank true e h = of_blank e (blank 0 (b ∷ bs)) refl h
    by_blank false e h = by_unit (eqb b 94) refl h

-- one part more
pub unit_part : (bs : List ℕ) (words : List (List Symbol)) (n : ℕ) →
    rest (form_of Lexical) [] [] 0 bs ≡ Ends words n →
    body 0 (94 ∷ bs) ≡ behind_part (inner.Unit words) (1 + n) (body 0 (drop n bs))
unfolding body portion
unit_part bs words n e =
    ap (λ r. behind_portion (unit_portion r) bs (λ k. body k bs)) e
    ∙ ap (behind_part (inner.Unit words) (1 + n)) (body_skip (pred (1 + n)) bs)
    ∙ ap (λ k. behind_part (inner.Unit words) (1 + n) (body 0 (drop k bs))) (omega arith)

pub run_part : (b : ℕ) (bs : List ℕ) (n : ℕ) → begins_blank b ≡ true → blank 0 (b ∷ bs) ≡ Done n →
    0 < n → body 0 (b ∷ bs)
    ≡ behind_part (inner.Blank (take n (b ∷ bs))) n (body 0 (drop n (b ∷ bs)))
unfolding body portion
run_part b bs zero t e some = absurd (omega (arith, some))
run_part b bs (suc n) t e some =
    rw (t, e) (ap (behind_part (inner.Blank (take (suc n) (b ∷ bs))) (suc n)) (body_skip n bs))

-- the unit's bytes
pub unit_of : (bs : List ℕ) (words : List (List Symbol)) (n : ℕ) →
    rest (form_of Lexical) [] [] 0 bs ≡ Ends words n →
    UnitOf Lexical (take (1 + n) (94 ∷ bs)) words × (n ≤ length bs)
unit_of bs words n e =
    let fits : n ≤ length bs = (rest_cut (form_of Lexical) [] [] 0 bs [] words n e).2 in
    let len : length (take n bs) ≡ n = length-take-le n bs fits in
    let grown : 1 + n ≡ suc n = omega arith in (
      record {
        tail = take n bs;
        has = refl;
        begins = ap (λ k. take k (94 ∷ bs)) grown;
        on = λ x. (rest_cut (form_of Lexical) [] [] 0 bs x words n e).0
            ∙ ap (Ends words) (sym len);
      },
      fits,
    )

-- the part at the front of a content that is whole
module _ (bytes : List ℕ) (whole : (all : List Inner) × (n : ℕ) × (body 0 bytes ≡ Closes all n))
    (some : 0 < length bytes) where
  front_is : bytes ≡ get_or bytes 0 0 ∷ drop 1 bytes
  front_is = byte_here bytes 0 some

  front_begins : Begins (get_or bytes 0 0) (drop 1 bytes)
  front_begins =
      content_begins (get_or bytes 0 0) (drop 1 bytes)
      (subst (λ (q : List ℕ). IsClosed (body 0 q)) front_is (subst IsClosed (sym whole.2) tt))

  pub unit_begins : get_or bytes 0 0 ≡ 94 →
      (words : List (List Symbol)) × (n : ℕ)
      × (rest (form_of Lexical) [] [] 0 (drop 1 bytes) ≡ Ends words n)
  unit_begins is = by front_begins
    where
      no_brace : (b : ℕ) → b ≡ 125 → b ≡ 94 → ⊥
      no_brace b z y = omega (arith, z, y)

      no_run : begins_blank 94 ≡ true → ⊥
      no_run z = cc

      by : Begins (get_or bytes 0 0) (drop 1 bytes) → (words : List (List Symbol)) × (n : ℕ)
          × (rest (form_of Lexical) [] [] 0 (drop 1 bytes) ≡ Ends words n)
      by (brace e c) = absurd (no_brace _ e is)
      by (unit words n e r) = (words, n, r)
      by (run n t r) = absurd (no_run (subst (λ b. begins_blank b ≡ true) is t))

  pub run_begins : (get_or bytes 0 0 ≡ 125 → ⊥) → (get_or bytes 0 0 ≡ 94 → ⊥) →
      (n : ℕ) × (blank 0 bytes ≡ Done n)
  run_begins u v = by front_begins
    where
      by : Begins (get_or bytes 0 0) (drop 1 bytes) → (n : ℕ) × (blank 0 bytes ≡ Done n)
      by (brace e c) = absurd (u e)
      by (unit words n e r) = absurd (v e)
      by (run n t r) = (n, ap (blank 0) front_is ∙ r)

  white_begins : (get_or bytes 0 0 ≡ 125 → ⊥) → (get_or bytes 0 0 ≡ 94 → ⊥) →
      begins_blank (get_or bytes 0 0) ≡ true
  white_begins u v = by front_begins
    where
      by : Begins (get_or bytes 0 0) (drop 1 bytes) → begins_blank (get_or bytes 0 0) ≡ true
      by (brace e c) = absurd (u e)
      by (unit words n e r) = absurd (v e)
      by (run n t r) = t

  -- the unit, its bytes and what stands behind it
  pub unit_there : (words : List (List Symbol)) (n : ℕ) → get_or bytes 0 0 ≡ 94 →
      rest (form_of Lexical) [] [] 0 (drop 1 bytes) ≡ Ends words n →
      UnitOf Lexical (take (1 + n) bytes) words
  unit_there words n is r =
      subst (λ (q : List ℕ). UnitOf Lexical (take (1 + n) q) words)
      (sym (front_is ∙ ap (λ b. b ∷ drop 1 bytes) is)) (unit_of (drop 1 bytes) words n r).0

  pub behind_unit : (words made : List (List Symbol)) (n : ℕ) → get_or bytes 0 0 ≡ 94 →
      rest (form_of Lexical) [] [] 0 (drop 1 bytes) ≡ Ends words n →
      UnitOf Lexical (take (1 + n) bytes) made →
      body 0 bytes ≡ behind_part (inner.Unit made) (1 + n) (body 0 (drop (1 + n) bytes))
  behind_unit words made n is r u =
      let same : words ≡ made =
      sym (words_are Lexical (take (1 + n) bytes) words (unit_there words n is r))
      ∙ words_are Lexical (take (1 + n) bytes) made u in
      let back : drop n (drop 1 bytes) ≡ drop (1 + n) bytes = drop-drop n 1 bytes in
      ap (body 0) (front_is ∙ ap (λ b. b ∷ drop 1 bytes) is) ∙ unit_part (drop 1 bytes) words n r
      ∙ ap (λ (q : List ℕ). behind_part (inner.Unit words) (1 + n) (body 0 q)) back
      ∙ ap (λ (q : List (List Symbol)). behind_part (inner.Unit q) (1 + n)
      (body 0 (drop (1 + n) bytes)))
      same

  pub run_some : (get_or bytes 0 0 ≡ 125 → ⊥) → (get_or bytes 0 0 ≡ 94 → ⊥) → (n : ℕ) →
      blank 0 bytes ≡ Done n → 0 < n
  run_some u v n r =
      blank_some (get_or bytes 0 0) (drop 1 bytes) n (white_begins u v)
      (ap (blank 0) (sym front_is) ∙ r)

  pub behind_run : (get_or bytes 0 0 ≡ 125 → ⊥) → (get_or bytes 0 0 ≡ 94 → ⊥) → (n : ℕ) →
      (made : List ℕ) → blank 0 bytes ≡ Done n → made ≡ take n bytes →
      body 0 bytes ≡ behind_part (inner.Blank made) n (body 0 (drop n bytes))
  behind_run u v n made r m =
      subst (λ (q : List ℕ). body 0 bytes ≡ behind_part (inner.Blank q) n (body 0 (drop n bytes)))
      (sym m)
      (subst (λ (q : List ℕ). body 0 q ≡ behind_part (inner.Blank (take n q)) n (body 0 (drop n q)))
      (sym front_is)
      (run_part (get_or bytes 0 0) (drop 1 bytes) n (white_begins u v)
      (ap (blank 0) (sym front_is) ∙ r)
      (run_some u v n r)))

module _ (bytes : List ℕ) (at : ℕ) (parts : List Inner)
    (on : body 0 bytes ≡ behind_parts parts at (body 0 (drop at bytes)))
    (whole : (all : List Inner) × (n : ℕ) × (body 0 bytes ≡ Closes all n)) where
  content_here : IsClosed (body 0 (drop at bytes))
  content_here = closed_behind parts at _ (subst IsClosed (sym whole.2 ∙ on) tt)

  pub content_left : (all : List Inner) × (n : ℕ) × (body 0 (drop at bytes) ≡ Closes all n)
  content_left = by (body 0 (drop at bytes)) refl content_here
    where
      by : (b : Body) → body 0 (drop at bytes) ≡ b → IsClosed b →
          (all : List Inner) × (n : ℕ) × (body 0 (drop at bytes) ≡ Closes all n)
      by Opens e h = absurd h
      by (Fails kind) e h = absurd h
      by (Closes all n) e h = (all, n, e)

  pub content_over : length bytes ≤ at → ⊥
  content_over past =
      let none : body 0 (drop at bytes) ≡ Opens = ap (body 0) (drop_all at bytes past) ∙ body_nil in
      subst IsClosed none content_here

  pub content_ends : at < length bytes → get_or bytes at 0 ≡ 125 →
      (n : ℕ) × (body 0 bytes ≡ Closes parts n)
  content_ends inside is =
      let there : drop at bytes ≡ 125 ∷ drop (at + 1) bytes =
      byte_here bytes at inside ∙ ap (λ b. b ∷ drop (at + 1) bytes) is in (
        at + 2,
        by there (content_begins 125 (drop (at + 1) bytes)
            (subst (λ (q : List ℕ). IsClosed (body 0 q)) there content_here)),
      )
    where
      no_unit : (b : ℕ) → b ≡ 125 → b ≡ 94 → ⊥
      no_unit b z y = omega (arith, z, y)

      no_run : begins_blank 125 ≡ true → ⊥
      no_run z = cc

      by : drop at bytes ≡ 125 ∷ drop (at + 1) bytes → Begins 125 (drop (at + 1) bytes) →
          body 0 bytes ≡ Closes parts (at + 2)
      by there (brace e c) =
          on ∙ ap (λ (q : List ℕ). behind_parts parts at (body 0 q)) there
          ∙ ap (behind_parts parts at) (body_brace (drop (at + 1) bytes) ∙ c)
          ∙ ap (λ q. Closes q (at + 2)) (append-nil parts)
      by there (unit words n e r) = absurd (no_unit 125 refl e)
      by there (run n t r) = absurd (no_run t)

  pub past_part : (part : Inner) (size : ℕ) →
      body 0 (drop at bytes) ≡ behind_part part size (body 0 (drop size (drop at bytes))) →
      body 0 bytes
      ≡ behind_parts (parts ++ part ∷ []) (at + size) (body 0 (drop (at + size) bytes))
  past_part part size e =
      on ∙ ap (behind_parts parts at) (e
      ∙ ap (λ (q : List ℕ). behind_part part size (body 0 q)) (drop-drop size at bytes))
      ∙ parts_more parts at size part (body 0 (drop (at + size) bytes))

-- a chunk

pub record IsShaped (bs : List ℕ) (chunk : Chunk) (k : ℕ) : Type 0 where
  pub tail : List ℕ
  pub words : List (List Symbol)
  pub named : ℕ
  pub parts : List Inner
  pub size : ℕ
  pub begins : bs ≡ 94 ∷ tail
  pub name_is : rest (form_of Chunked) [] [] 0 tail ≡ Ends words named
  pub body_is : body 0 (drop named tail) ≡ Closes parts size
  pub chunk_is : chunk ≡ record { name = first_word words; content = parts }
  pub size_is : k ≡ 1 + named + size

pub shaped : (bs : List ℕ) (chunk : Chunk) (k : ℕ) → first Chunked bs ≡ Whole (item.Chunk chunk) k →
    IsShaped bs chunk k
unfolding first
shaped [] chunk k h = absurd (cc)
shaped (b ∷ bs) chunk k h = by_blank (begins_blank b) h
  where
    of_body_at : b ≡ 94 → (words : List (List Symbol)) (n : ℕ) →
        rest (form_of Chunked) [] [] 0 bs ≡ Ends words n → (z : Body) → body n bs ≡ z →
        of_body (first_word words) [] (1 + n) z ≡ Whole (item.Chunk chunk) k →
        IsShaped (b ∷ bs) chunk k
    of_body_at is words n e Opens f h = absurd (cc)
    of_body_at is words n e (Fails kind) f h = absurd (cc)
    of_body_at is words n e (Closes parts m) f h =
        let same : record { name = first_word words; content = parts } ≡ chunk = cc in
        let count : 1 + n + m ≡ k = cc in
        record {
          tail = bs;
          words = words;
          named = n;
          parts = parts;
          size = m;
          begins = ap (λ z. z ∷ bs) is;
          name_is = e;
          body_is = sym (body_skip n bs) ∙ f;
          chunk_is = sym same;
          size_is = sym count;
        }

    of_rest : b ≡ 94 → (r : Rest) → rest (form_of Chunked) [] [] 0 bs ≡ r →
        of_chunk bs r ≡ Whole (item.Chunk chunk) k → IsShaped (b ∷ bs) chunk k
    of_rest is Lacks e h = absurd (cc)
    of_rest is (Wrong kind) e h = absurd (cc)
    of_rest is (Ends words n) e h = of_body_at is words n e (body n bs) refl h

    no_run : (r : Run) → of_run (b ∷ bs) r ≡ Whole (item.Chunk chunk) k → ⊥
    no_run Open h = cc
    no_run Inside h = cc
    no_run BadChar h = cc
    no_run (Done m) h = cc

    no_escape : (f : Front) → of_escaped f ≡ Whole (item.Chunk chunk) k → ⊥
    no_escape Part h = cc
    no_escape NotChar h = cc
    no_escape (Char c m) h = cc

    no_letter : (f : Front) → of_char Chunked f ≡ Whole (item.Chunk chunk) k → ⊥
    no_letter Part h = cc
    no_letter NotChar h = cc
    no_letter (Char c m) h = at (is_refused Chunked c) h
      where
        at : (v : Bool) → cond v (Faulty (OfKind Stray)) (Whole (plain c false) m)
            ≡ Whole (item.Chunk chunk) k → ⊥
        at true h = cc
        at false h = cc

    by_unit : (v : Bool) → eqb b 94 ≡ v →
        cond v (of_chunk bs (rest (form_of Chunked) [] [] 0 bs))
        (of_char Chunked (char_at (b ∷ bs)))
        ≡ Whole (item.Chunk chunk) k → IsShaped (b ∷ bs) chunk k
    by_unit true e h = of_rest (eqb-true b 94 e) (rest (form_of Chunked) [] [] 0 bs) refl h
    by_unit false e h = absurd (no_letter (char_at (b ∷ bs)) h)

    by_escape : (v : Bool) → cond v (of_escaped (char_at bs))
        (cond (eqb b 94) (of_chunk bs (rest (form_of Chunked) [] [] 0 bs))
        (of_char Chunked (char_at (b ∷ bs)))) ≡ Whole (item.Chunk chunk) k →
        IsShaped (b ∷ bs) chunk k
    by_escape true h = absurd (no_escape (char_at bs) h)
    by_escape false h = by_unit (eqb b 94) refl h

    by_blank : (v : Bool) → cond v (of_run (b ∷ bs) (blank 0 (b ∷ bs)))
        (cond (eqb b 92) (of_escaped (char_at bs))
        (cond (eqb b 94) (of_chunk bs (rest (form_of Chunked) [] [] 0 bs))
        (of_char Chunked (char_at (b ∷ bs))))) ≡ Whole (item.Chunk chunk) k →
        IsShaped (b ∷ bs) chunk k
    by_blank true h = absurd (no_run (blank 0 (b ∷ bs)) h)
    by_blank false h = by_escape (eqb b 92) h

-- a chunk that bytes are
pub shape_of : (held : List ℕ) (chunk : Chunk) → ChunkOf held chunk →
    IsShaped held chunk (length held)
shape_of held chunk h =
    shaped held chunk (length held) (ap (first Chunked) (sym (append-nil held)) ∙ h [])

pub name_whole : (held : List ℕ) (chunk : Chunk) → ChunkOf held chunk →
    (words : List (List Symbol)) × (n : ℕ)
    × (rest (form_of Chunked) [] [] 0 (drop 1 held) ≡ Ends words n)
name_whole held chunk h =
    let s = shape_of held chunk h in (
      s.words,
      s.named,
      ap (λ (q : List ℕ). rest (form_of Chunked) [] [] 0 (drop 1 q)) s.begins
          ∙ s.name_is,
    )

abbrev ends_at : Rest → ℕ
ends_at Lacks = 0
ends_at (Wrong kind) = 0
ends_at (Ends words n) = n

abbrev words_in : Rest → List (List Symbol)
words_in Lacks = []
words_in (Wrong kind) = []
words_in (Ends words n) = words

abbrev parts_in : Body → List Inner
parts_in Opens = []
parts_in (Fails kind) = []
parts_in (Closes parts n) = parts

module _ (held : List ℕ) (chunk : Chunk) (h : ChunkOf held chunk) (name : List Symbol) (end : ℕ)
    (behind : 1 ≤ end)
    (named : rest (form_of Chunked) [] [] 0 (drop 1 held) ≡ Ends (name ∷ []) (end - 1)) where
  pub shape : IsShaped held chunk (length held)
  shape = shape_of held chunk h

  both : Ends shape.words shape.named ≡ Ends (name ∷ []) (end - 1)
  both = sym shape.name_is
      ∙ ap (λ (q : List ℕ). rest (form_of Chunked) [] [] 0 (drop 1 q)) (sym shape.begins) ∙ named

  pub content_whole : body 0 (drop end held) ≡ Closes shape.parts shape.size
  content_whole =
      let n : shape.named ≡ end - 1 = ap ends_at both in
      let e : end ≡ suc shape.named = omega (arith, n, behind) in
      ap (λ k. body 0 (drop k held)) e ∙ ap (λ (q : List ℕ). body 0
      (drop (suc shape.named) q)) shape.begins
      ∙ shape.body_is

  pub chunk_made : (parts : List Inner) (n : ℕ) → body 0 (drop end held) ≡ Closes parts n →
      ChunkOf held (record { name = name; content = parts })
  chunk_made parts n e =
      let p : shape.parts ≡ parts = ap parts_in (sym content_whole ∙ e) in
      let w : first_word shape.words ≡ name = ap first_word (ap words_in both) in
      let all : chunk ≡ record { name = name; content = parts } =
      shape.chunk_is ∙ ap (λ q. record { name = q; content = shape.parts }) w
      ∙ ap (λ q. record { name = name; content = q }) p in
      subst (λ (c : Chunk). ChunkOf held c) all h
