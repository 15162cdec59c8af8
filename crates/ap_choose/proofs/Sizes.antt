-- What is written of a unit has no more bytes than the unit that was read.
use Rattle.std.specs.Prelude.{◌≡◌, ℕ, zero, suc, ◌+◌, ◌<◌, ◌≤◌, pred, Bool, true, false, not, ◌&&◌, ◌||◌, cond, eqb, leb, List, [], ◌∷◌, ◌++◌, length, take, drop, slice_index_or, encode_utf8, if◌then◌else◌, refl}
use Rattle.std.specs.List.{AllByRecursion}
use Rattle.std.proofs.Common.{arith, ap, sym, subst, ◌∙◌}
use Rattle.std.proofs.lemmas.Bool.{or_parts, eqb-true}
use Rattle.std.proofs.lemmas.Bool.Decides.{nat_tests}
use Rattle.std.proofs.lemmas.Grind.{flat_map-append}
use Rattle.std.proofs.lemmas.List.{length-append, length-take, append-nil}
use Rattle.std.proofs.str.Laws.{one as one_byte}
use Rattle.ap_symbol.specs.Rendering.{is_escaped_lem, letter_bytes, symbol_bytes, rendering}
use Rattle.ap_symbol.specs.TextWord.{bare_symbol}
use Rattle.ap_symbol.specs.Words.{is_white}
use Rattle.ap_symbol.specs.declared.symbol.Symbol.{Symbol}
use Rattle.ap_symbol.specs.declared.symbol.Symbol.TheVariants as symbol
use Rattle.ap_stream.specs.Blanks.{Run, Open, Inside, BadChar, Done, blank, begins_blank}
use Rattle.ap_stream.specs.Chars.{Front, Part, NotChar, Char, char_at}
use Rattle.ap_stream.specs.Dialects.{is_refused}
use Rattle.ap_stream.specs.Each.{is_worded}
use Rattle.ap_stream.specs.Limits.{item_max}
use Rattle.ap_stream.specs.Reading.{First, Needs, Whole, Faulty, Past, first, limited, past, at_limit, begins_unit, of_run, of_escaped, of_unit, of_char, IsRead}
use Rattle.ap_stream.specs.Spelling.{spelled}
use Rattle.ap_stream.specs.Steps.{bytes_of}
use Rattle.ap_stream.specs.Units.{Name, Runs, Breaks, Stops, name, Sign, Awaits, Bars, Reads, Slash, Dollar, Brace, of_name, of_escape, of_bare, is_barred, sign, form_of, in_surface, is_none, may_part, may_end, gone, Rest, Lacks, Wrong, Ends, rest, longer}
use Rattle.ap_stream.specs.declared.dialect.Dialect.TheVariants.{Analysed}
use Rattle.ap_stream.specs.declared.fault.LimitKind.TheVariants.{ItemTooLong}
use Rattle.ap_stream.specs.declared.fault.MalformedKind.TheVariants.{Stray, EmptyWord}
use Rattle.ap_stream.specs.declared.item.Item.{Item}
use Rattle.ap_stream.specs.declared.item.Item.TheVariants as item
use Rattle.ap_stream.specs.declared.item.Read.{Read}
use Rattle.ap_stream.proofs.BareSpells.{bare_size}
use Rattle.ap_stream.proofs.Encoding.{Encodes, char_encodes}
use Rattle.ap_stream.proofs.SignLaws.{whole_fits}
use Rattle.ap_passes.specs.Passes.{filled_one}
use Rattle.ap_choose.specs.Sentences.{readings, is_unit, unit_part, part, left, written}

-- a symbol of a reading is spelled with as many bytes as it was read with, or fewer
abbrev SignFits : Sign → Type 0
SignFits Awaits = Unit {0}
SignFits (Bars kind) = Unit {0}
SignFits (Reads s n) = length (symbol_bytes s) ≤ n
SignFits Slash = Unit {0}
SignFits Dollar = Unit {0}
SignFits Brace = Unit {0}

fits_cond : (b : Bool) (f g : Sign) → (b ≡ true → SignFits f) → (b ≡ false → SignFits g) →
    SignFits (cond b f g)
fits_cond true f g h k = h refl
fits_cond false f g h k = k refl

encode_fits : (c n : ℕ) (bytes : List ℕ) → encode_utf8 c ≡ take n bytes → length (encode_utf8 c) ≤ n
encode_fits c n bytes e = let a = ap length e in let b = length-take n bytes in omega (arith, a, b)

letter_most : (c : ℕ) → length (letter_bytes c) ≤ 1 + length (encode_utf8 c)
letter_most c = by (is_escaped_lem c)
  where
    by : (v : Bool) → length (if v then 92 ∷ encode_utf8 c else encode_utf8 c)
        ≤ 1 + length (encode_utf8 c)
    by true = omega arith
    by false = omega arith

escape_fits : (bytes : List ℕ) (f : Front) → Encodes bytes f → SignFits (of_escape f)
escape_fits bytes Part e = tt
escape_fits bytes NotChar e = tt
escape_fits bytes (Char c n) e = by (is_white c)
  where
    by : (v : Bool) → length (symbol_bytes (if v then symbol.Blank else symbol.Letter c)) ≤ 1 + n
    by true = omega arith
    by false = let a = encode_fits c n bytes e in let b = letter_most c in omega (arith, a, b)

name_fits : (bytes : List ℕ) (n : Name) → SignFits (of_name bytes n)
name_fits bytes Runs = tt
name_fits bytes Breaks = tt
name_fits bytes (Stops n c) =
    fits_cond (eqb c 62 && not (eqb n 0)) (Reads (symbol.Tag (take n bytes)) (2 + n)) _
    (λ _. let a = length-append (take n bytes) (62 ∷ []) in let b = length-take n bytes in
    omega (arith, a, b)) (λ _. tt)

-- no character but this byte begins with it
not_first : (k c n b : ℕ) (bs : List ℕ) → k < 128 → 0 < n → encode_utf8 c ≡ take n (b ∷ bs) →
    eqb b k ≡ false → eqb c k ≡ false
not_first k c zero b bs low some e f = absurd (omega (arith, some))
not_first k c (suc n) b bs low some e f = by (eqb c k) refl
  where
    first_of : List ℕ → ℕ
    first_of [] = 0
    first_of (x ∷ xs) = x

    by : (v : Bool) → eqb c k ≡ v → v ≡ false
    by true t = absurd (
        let same : c ≡ k = eqb-true c k t in
        let one : encode_utf8 k ≡ k ∷ [] = one_byte k low in
        let head : k ≡ b = ap first_of (sym one ∙ ap encode_utf8 (sym same) ∙ e) in
        let yes : eqb b k ≡ true = grind (arith, nat_tests) in cc)
    by false t = refl

bare_letter : (c n : ℕ) → length (encode_utf8 c) ≤ n → is_escaped_lem c ≡ false →
    length (letter_bytes c) ≤ n
bare_letter c n le e = let a : letter_bytes c ≡ encode_utf8 c =
    ap (λ (v : Bool). cond v (92 ∷ encode_utf8 c) (encode_utf8 c)) e in let b = ap length a in
    omega (arith, b, le)

module _ (c n : ℕ) (some : 0 < n) (le : length (encode_utf8 c) ≤ n) (slash : eqb c 47 ≡ false)
    (dollar : eqb c 36 ≡ false) (brace : eqb c 123 ≡ false) (barred : is_barred false c ≡ false)
    (less : eqb c 60 ≡ false) (back : eqb c 92 ≡ false) where
  not_escaped : eqb c 43 ≡ false → eqb c 35 ≡ false → eqb c 126 ≡ false → eqb c 42 ≡ false →
      eqb c 64 ≡ false → is_escaped_lem c ≡ false
  not_escaped join queue alarm star at =
      let a = or_parts (eqb c 94)
      (eqb c 62 || (eqb c 125 || (eqb c 91 || (eqb c 93 || (false && (eqb c 60 || eqb c 64))))))
      barred in
      let d = or_parts (eqb c 62)
      (eqb c 125 || (eqb c 91 || (eqb c 93 || (false && (eqb c 60 || eqb c 64))))) a.1 in
      let f = or_parts (eqb c 125) (eqb c 91 || (eqb c 93 || (false && (eqb c 60 || eqb c 64))))
      d.1 in
      let g = or_parts (eqb c 91) (eqb c 93 || (false && (eqb c 60 || eqb c 64))) f.1 in
      let h = or_parts (eqb c 93) (false && (eqb c 60 || eqb c 64)) g.1 in
      rw (
        a.0,
        dollar,
        slash,
        less,
        d.0,
        brace,
        f.0,
        back,
        g.0,
        h.0,
        at,
        star,
        queue,
        join,
        alarm,
      ) refl

  symbol_fits : length (symbol_bytes (bare_symbol c)) ≤ n
  symbol_fits = white (is_white c)
    where
      last : (v : Bool) → eqb c 64 ≡ v → eqb c 43 ≡ false → eqb c 35 ≡ false → eqb c 126 ≡ false →
          eqb c 42 ≡ false → length (symbol_bytes (cond v symbol.At (symbol.Letter c))) ≤ n
      last true e j q a s = omega (arith, some)
      last false e j q a s = bare_letter c n le (not_escaped j q a s e)

      star : (v : Bool) → eqb c 42 ≡ v → eqb c 43 ≡ false → eqb c 35 ≡ false → eqb c 126 ≡ false →
          length (symbol_bytes (cond v symbol.Star (cond (eqb c 64) symbol.At (symbol.Letter c))))
          ≤ n
      star true e j q a = omega (arith, some)
      star false e j q a = last (eqb c 64) refl j q a e

      alarm : (v : Bool) → eqb c 126 ≡ v → eqb c 43 ≡ false → eqb c 35 ≡ false →
          length (symbol_bytes (cond v symbol.Alarm
          (cond (eqb c 42) symbol.Star (cond (eqb c 64) symbol.At (symbol.Letter c))))) ≤ n
      alarm true e j q = omega (arith, some)
      alarm false e j q = star (eqb c 42) refl j q e

      queue : (v : Bool) → eqb c 35 ≡ v → eqb c 43 ≡ false →
          length (symbol_bytes (cond v symbol.Queue
          (cond (eqb c 126) symbol.Alarm
          (cond (eqb c 42) symbol.Star (cond (eqb c 64) symbol.At (symbol.Letter c)))))) ≤ n
      queue true e j = omega (arith, some)
      queue false e j = alarm (eqb c 126) refl j e

      join : (v : Bool) → eqb c 43 ≡ v →
          length (symbol_bytes (cond v symbol.Join
          (cond (eqb c 35) symbol.Queue
          (cond (eqb c 126) symbol.Alarm
          (cond (eqb c 42) symbol.Star (cond (eqb c 64) symbol.At (symbol.Letter c))))))) ≤ n
      join true e = omega (arith, some)
      join false e = queue (eqb c 35) refl e

      white : (v : Bool) → length
          (symbol_bytes (cond v symbol.Blank
          (cond (eqb c 43) symbol.Join
          (cond (eqb c 35) symbol.Queue
          (cond (eqb c 126) symbol.Alarm
          (cond (eqb c 42) symbol.Star (cond (eqb c 64) symbol.At (symbol.Letter c)))))))) ≤ n
      white true = omega (arith, some)
      white false = join (eqb c 43) refl

bare_fits : (b : ℕ) (bs : List ℕ) (f : Front) → char_at (b ∷ bs) ≡ f → Encodes (b ∷ bs) f →
    eqb b 92 ≡ false → eqb b 60 ≡ false → SignFits (of_bare false f)
bare_fits b bs Part e k back less = tt
bare_fits b bs NotChar e k back less = tt
bare_fits b bs (Char c n) e k back less =
    let some = (whole_fits (b ∷ bs) c n (sym e)).0 in
    fits_cond (eqb c 47) Slash _ (λ _. tt) (λ slash. fits_cond (eqb c 36) Dollar _ (λ _. tt)
    (λ dollar. fits_cond (eqb c 123) Brace _ (λ _. tt)
    (λ brace. fits_cond (is_barred false c) (Bars Stray) (Reads (bare_symbol c) n) (λ _. tt)
    (λ barred.
    symbol_fits c n some (encode_fits c n (b ∷ bs) k) slash dollar brace barred
    (not_first 60 c n b bs (omega arith) some k less)
    (not_first 92 c n b bs (omega arith) some k back)))))

sign_fits : (bytes : List ℕ) → SignFits (sign false bytes)
unfolding sign
sign_fits [] = tt
sign_fits (b ∷ bs) = fits_cond (eqb b 92) (of_escape (char_at bs)) _
    (λ _. escape_fits bs (char_at bs) (char_encodes bs))
    (λ back. fits_cond (eqb b 60 && true) (of_name bs (name 0 bs))
    (of_bare false (char_at (b ∷ bs))) (λ _. name_fits bs (name 0 bs))
    (λ less. bare_fits b bs (char_at (b ∷ bs)) refl (char_encodes (b ∷ bs)) back
    (and_one (eqb b 60) less)))
  where
    and_one : (v : Bool) → (v && true) ≡ false → v ≡ false
    and_one true h = absurd (cc)
    and_one false h = refl

-- words, each with a slash
abbrev sized : List (List Symbol) → ℕ
sized [] = 0
sized (word ∷ words) = suc (length (rendering word)) + sized words

sized_append : (a b : List (List Symbol)) → sized (a ++ b) ≡ sized a + sized b
sized_append [] b = omega arith
sized_append (word ∷ a) b = let h = sized_append a b in omega (arith, h)

-- the readings among the words so far
abbrev weight : List (List Symbol) → List Symbol → ℕ
weight words word = sized (drop 1 (words ++ word ∷ []))

more_length : (word : List Symbol) (s : Symbol) → length (rendering (word ++ s ∷ []))
    ≡ length (rendering word) + length (symbol_bytes s)
more_length word s =
    ap length (flat_map-append symbol_bytes word (s ∷ []))
    ∙ length-append (rendering word) (symbol_bytes s ++ [])
    ∙ ap (λ (q : List ℕ). length (rendering word) + length q) (append-nil (symbol_bytes s))

weight_symbol : (words : List (List Symbol)) (word : List Symbol) (s : Symbol) (n : ℕ) →
    (is_none words ≡ false → length (symbol_bytes s) ≤ n) → weight words (word ++ s ∷ [])
    ≤ weight words word + n
weight_symbol [] word s n h = omega arith
weight_symbol (first ∷ words) word s n h =
    let a = sized_append words ((word ++ s ∷ []) ∷ []) in
    let b = sized_append words (word ∷ []) in
    let l = more_length word s in
    let k = h refl in
    omega (arith, a, b, l, k)

weight_slash : (words : List (List Symbol)) (word : List Symbol) → weight (words ++ word ∷ []) []
    ≡ weight words word + 1
weight_slash [] word = omega arith
weight_slash (first ∷ words) word = let a = sized_append (words ++ word ∷ []) ([] ∷ []) in
    omega (arith, a)

abbrev Weighs : List (List Symbol) → List Symbol → Rest → Type 0
Weighs words word Lacks = Unit {0}
Weighs words word (Wrong kind) = Unit {0}
Weighs words word (Ends all n) = sized (drop 1 all) + 1 ≤ weight words word + n

weighs_longer : (words next : List (List Symbol)) (word after : List Symbol) (k : ℕ) (r : Rest) →
    weight next after ≤ weight words word + k → Weighs next after r → Weighs words word (longer k r)
weighs_longer words next word after k Lacks le h = tt
weighs_longer words next word after k (Wrong kind) le h = tt
weighs_longer words next word after k (Ends all n) le h = omega (arith, le, h)

weighs_cond : (words : List (List Symbol)) (word : List Symbol) (b : Bool) (f g : Rest) →
    Weighs words word f → Weighs words word g → Weighs words word (cond b f g)
weighs_cond words word true f g h k = h
weighs_cond words word false f g h k = k

gone_weighs : (words : List (List Symbol)) (word : List Symbol) (s : Sign)
    (more : List (List Symbol) → List Symbol → ℕ → Rest) → (is_none words ≡ false → SignFits s)
    → ((next : List (List Symbol)) (after : List Symbol) (skip : ℕ) →
    Weighs next after (more next after skip)) →
    Weighs words word (gone (form_of Analysed) words word s more)
gone_weighs words word Awaits more h go = tt
gone_weighs words word (Bars kind) more h go = tt
gone_weighs words word (Reads s n) more h go = weighs_longer words words word (word ++ s ∷ []) n
    (more words (word ++ s ∷ []) (pred n)) (weight_symbol words word s n h)
    (go words (word ++ s ∷ []) (pred n))
gone_weighs words word Slash more h go =
    weighs_cond words word (may_part words word) (longer 1 (more (words ++ word ∷ []) [] 0))
    (Wrong EmptyWord)
    (weighs_longer words (words ++ word ∷ []) word [] 1 (more (words ++ word ∷ []) [] 0) (let e =
    weight_slash words word in omega (arith, e)) (go (words ++ word ∷ []) [] 0)) tt
gone_weighs words word Dollar more h go =
    weighs_cond words word (may_end (form_of Analysed) words word) (Ends (words ++ word ∷ []) 1)
    (Wrong EmptyWord) (omega arith) tt
gone_weighs words word Brace more h go = tt

signs : (words : List (List Symbol)) (bytes : List ℕ) → is_none words ≡ false →
    SignFits (sign (in_surface (form_of Analysed) words) bytes)
signs words bytes e = subst (λ (v : Bool). SignFits (sign v bytes)) (sym e) (sign_fits bytes)

rest_weighs : (words : List (List Symbol)) (word : List Symbol) (skip : ℕ) (bytes : List ℕ) →
    Weighs words word (rest (form_of Analysed) words word skip bytes)
unfolding rest
rest_weighs words word skip [] = tt
rest_weighs words word (suc skip) (b ∷ bs) = rest_weighs words word skip bs
rest_weighs words word zero (b ∷ bs) =
    gone_weighs words word (sign (in_surface (form_of Analysed) words) (b ∷ bs))
    (λ words word skip. rest (form_of Analysed) words word skip bs) (signs words (b ∷ bs))
    (λ next after skip. rest_weighs next after skip bs)

-- an item that was read
abbrev FirstFits : First → Type 0
FirstFits Needs = Unit {0}
FirstFits (Whole (item.Plain c) n) = Unit {0}
FirstFits (Whole (item.Blank bytes) n) = Unit {0}
FirstFits (Whole (item.Unit words) n) = sized (readings words) + 2 ≤ n
FirstFits (Whole (item.Chunk c) n) = ⊥
FirstFits (Faulty kind) = Unit {0}

first_cond : (b : Bool) (f g : First) → FirstFits f → FirstFits g → FirstFits (cond b f g)
first_cond true f g h k = h
first_cond false f g h k = k

run_fits : (bytes : List ℕ) (r : Run) → FirstFits (of_run bytes r)
run_fits bytes Open = tt
run_fits bytes Inside = tt
run_fits bytes BadChar = tt
run_fits bytes (Done n) = tt

escaped_fits : (f : Front) → FirstFits (of_escaped f)
escaped_fits Part = tt
escaped_fits NotChar = tt
escaped_fits (Char c n) = tt

char_fits_item : (f : Front) → FirstFits (of_char Analysed f)
char_fits_item Part = tt
char_fits_item NotChar = tt
char_fits_item (Char c n) = first_cond (is_refused Analysed c) _ _ tt tt

unit_fits : (r : Rest) → Weighs [] [] r → FirstFits (of_unit r)
unit_fits Lacks h = tt
unit_fits (Wrong kind) h = tt
unit_fits (Ends words n) h = omega (arith, h)

first_fits : (bytes : List ℕ) → FirstFits (first Analysed bytes)
unfolding first
first_fits [] = tt
first_fits (b ∷ bs) = first_cond (begins_blank b) (of_run (b ∷ bs) (blank 0 (b ∷ bs))) _
    (run_fits (b ∷ bs) (blank 0 (b ∷ bs)))
    (first_cond (eqb b 92) (of_escaped (char_at bs)) _ (escaped_fits (char_at bs))
    (first_cond (begins_unit Analysed b) (of_unit (rest (form_of Analysed) [] [] 0 bs))
    (of_char Analysed (char_at (b ∷ bs))) (unit_fits (rest (form_of Analysed) [] [] 0 bs)
    (rest_weighs [] [] 0 bs)) (char_fits_item (char_at (b ∷ bs)))))

at_fits : (most : ℕ) (f : First) → FirstFits f → FirstFits (at_limit most f)
at_fits most Needs h = tt
at_fits most (Whole thing n) h = first_cond (leb n most) (Whole thing n) (Faulty (Past ItemTooLong))
    h tt
at_fits most (Faulty kind) h = tt

past_fits : (most : ℕ) (f g : First) → FirstFits f → FirstFits g → FirstFits (past most f g)
past_fits most Needs g h k = at_fits most g k
past_fits most (Whole thing n) g h k = h
past_fits most (Faulty kind) g h k = tt

limited_fits : (most : ℕ) (bytes : List ℕ) → FirstFits (limited most Analysed bytes)
unfolding limited
limited_fits most bytes = first_cond (leb (length bytes) most) (first Analysed bytes) _
    (first_fits bytes)
    (past_fits most (first Analysed (take most bytes)) (first Analysed (take (suc most) bytes))
    (first_fits (take most bytes)) (first_fits (take (suc most) bytes)))

-- a reading and what is written of it
word_fits : (words : List (List Symbol)) (place : ℕ) →
    length (filled_one (slice_index_or words place [])) ≤ sized words + 2
word_fits [] place = omega arith
word_fits ([] ∷ words) zero = omega arith
word_fits ((s ∷ word) ∷ words) zero =
    let b = length-append (rendering (s ∷ word) ++ []) (36 ∷ []) in
    let c = ap length (append-nil (rendering (s ∷ word))) in
    omega (arith, b, c)
word_fits (word ∷ words) (suc place) = let h = word_fits words place in omega (arith, h)

item_fits : (read : Read) (places : List ℕ) → IsRead Analysed read → length (part read.item places)
    ≤ read.size
item_fits read places is = by read.item (limited_fits item_max is.text) is.whole
    (λ w. bare_size Analysed read w is)
  where
    by : (thing : Item) → FirstFits (limited item_max Analysed is.text) →
        limited item_max Analysed is.text ≡ Whole thing read.size →
        (is_worded thing ≡ false → length (spelled thing) ≤ read.size) → length (part thing places)
        ≤ read.size
    by (item.Plain c) h e bare = bare refl
    by (item.Blank bytes) h e bare = bare refl
    by (item.Unit words) h e bare = unit places (subst FirstFits e h)
      where
        unit : (places : List ℕ) → sized (readings words) + 2 ≤ read.size →
            length (unit_part words places) ≤ read.size
        unit [] le = omega arith
        unit (place ∷ places) le = let w = word_fits (readings words) place in omega (arith, w, le)
    by (item.Chunk c) h e bare = absurd (subst FirstFits e h)

pub written_size : (items : List Read) (places : List ℕ) → AllByRecursion (IsRead Analysed) items →
    length (written items places) ≤ bytes_of items
written_size [] places all = omega arith
written_size (read ∷ items) places all =
    let a = item_fits read places all.0 in
    let b = written_size items (left read.item places) all.1 in
    let c = length-append (part read.item places) (written items (left read.item places)) in
    omega (arith, a, b, c)

-- an item that is no unit
pub part_size : (read : Read) → is_unit read.item ≡ false → IsRead Analysed read →
    length (spelled read.item) ≤ read.size
part_size read e is = by read.item e (item_fits read [] is)
  where
    by : (thing : Item) → is_unit thing ≡ false → length (part thing []) ≤ read.size →
        length (spelled thing) ≤ read.size
    by (item.Plain c) e h = h
    by (item.Blank bytes) e h = h
    by (item.Unit words) e h = absurd (cc)
    by (item.Chunk c) e h = h
