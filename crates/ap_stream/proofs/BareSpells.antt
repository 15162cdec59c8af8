-- A character or a blank that a text begins with is spelled as the text has it.
use Rattle.std.specs.Prelude.{◌≡◌, ℕ, suc, ◌+◌, ◌≤◌, List, [], ◌∷◌, take, length, Bool, true, false, cond, eqb, leb, refl}
use Rattle.std.proofs.Common.{arith, ap}
use Rattle.std.proofs.lemmas.Bool.{eqb-true}
use Rattle.std.proofs.lemmas.List.{length-take}
use Rattle.ap_symbol.specs.declared.symbol.Symbol.{Symbol}
use Rattle.ap_stream.specs.Limits.{item_max}
use Rattle.ap_stream.specs.declared.dialect.Dialect.{Dialect}
use Rattle.ap_stream.specs.declared.item.Item.{Item}
use Rattle.ap_stream.specs.declared.item.Read.{Read}
use Rattle.ap_stream.specs.Dialects.{is_refused, has_chunks}
use Rattle.ap_stream.specs.Each.{is_worded}
use Rattle.ap_stream.specs.Units.{Rest, Lacks, Wrong, Ends, rest, form_of}
use Rattle.ap_stream.specs.Chars.{Front, Part, NotChar, Char, char_at}
use Rattle.ap_stream.specs.Blanks.{Run, Open, Inside, BadChar, Done, blank, begins_blank}
use Rattle.ap_stream.proofs.Encoding.{Encodes, char_encodes}
use Rattle.ap_symbol.specs.Kinds.{first_word}
use Rattle.ap_stream.specs.Reading.{First, Needs, Whole, Faulty, Past, first, limited, past, at_limit, of_run, of_escaped, of_char, plain, IsRead, of_unit, begins_unit, of_body, of_chunk, of_caret}
use Rattle.ap_stream.specs.declared.fault.LimitKind.TheVariants.{ItemTooLong}
use Rattle.ap_stream.specs.Spelling.{spelled}
use Rattle.ap_stream.specs.Chunks.{Body, Opens, Fails, Closes, body}
use Rattle.ap_stream.specs.declared.item.Inner.{Inner}

abbrev pub Spells : List ℕ → First → Type 0
Spells text Needs = Unit {0}
Spells text (Whole thing n) = is_worded thing ≡ false → spelled thing ≡ take n text
Spells text (Faulty kind) = Unit {0}

spells_cond : (text : List ℕ) (b : Bool) (f g : First) → (b ≡ true → Spells text f) →
    (b ≡ false → Spells text g) → Spells text (cond b f g)
spells_cond text true f g h k = h refl
spells_cond text false f g h k = k refl

spells_run : (text : List ℕ) (r : Run) → Spells text (of_run text r)
spells_run text Open = tt
spells_run text Inside = tt
spells_run text BadChar = tt
spells_run text (Done n) = λ _. refl

spells_escaped : (b : ℕ) (bs : List ℕ) (f : Front) → b ≡ 92 → Encodes bs f →
    Spells (b ∷ bs) (of_escaped f)
spells_escaped b bs Part is e = tt
spells_escaped b bs NotChar is e = tt
spells_escaped b bs (Char c n) is e = λ _. let one : 1 + n ≡ suc n = omega arith in
    rw (one, is, e) refl

spells_char : (dialect : Dialect) (text : List ℕ) (f : Front) → Encodes text f →
    Spells text (of_char dialect f)
spells_char dialect text Part e = tt
spells_char dialect text NotChar e = tt
spells_char dialect text (Char c n) e =
    spells_cond text (is_refused dialect c) (Faulty _) (Whole (plain c false) n) (λ _. tt)
    (λ _. λ _. e)

spells_unit : (text : List ℕ) (r : Rest) → Spells text (of_unit r)
spells_unit text Lacks = tt
spells_unit text (Wrong kind) = tt
spells_unit text (Ends words n) = λ e. absurd (cc)

spells_body : (text : List ℕ) (name : List Symbol) (parts : List Inner) (n : ℕ) (b : Body) →
    Spells text (of_body name parts n b)
spells_body text name parts n Opens = tt
spells_body text name parts n (Fails kind) = tt
spells_body text name parts n (Closes more m) = λ e. absurd (cc)

spells_chunk : (text bytes : List ℕ) (r : Rest) → Spells text (of_chunk bytes r)
spells_chunk text bytes Lacks = tt
spells_chunk text bytes (Wrong kind) = tt
spells_chunk text bytes (Ends words n) =
    spells_body text (first_word words) [] (1 + n) (body n bytes)

spells_caret : (dialect : Dialect) (text bytes : List ℕ) (r : Rest) →
    Spells text (of_caret dialect bytes r)
spells_caret dialect text bytes r =
    spells_cond text (has_chunks dialect) (of_chunk bytes r) (of_unit r)
    (λ _. spells_chunk text bytes r) (λ _. spells_unit text r)

pub first_spells : (dialect : Dialect) (text : List ℕ) → Spells text (first dialect text)
unfolding first
first_spells dialect [] = tt
first_spells dialect (b ∷ bs) =
    spells_cond (b ∷ bs) (begins_blank b) (of_run (b ∷ bs) (blank 0 (b ∷ bs))) _
    (λ _. spells_run (b ∷ bs) (blank 0 (b ∷ bs)))
    (λ _. spells_cond (b ∷ bs) (eqb b 92) (of_escaped (char_at bs)) _
    (λ is. spells_escaped b bs (char_at bs) (eqb-true b 92 is) (char_encodes bs))
    (λ _. spells_cond (b ∷ bs) (begins_unit dialect b)
    (of_caret dialect bs (rest (form_of dialect) [] [] 0 bs)) _
    (λ _. spells_caret dialect (b ∷ bs) bs (rest (form_of dialect) [] [] 0 bs))
    (λ _. spells_char dialect (b ∷ bs) (char_at (b ∷ bs)) (char_encodes (b ∷ bs)))))

-- some text begins with the bytes of the item
abbrev pub Shown : Item → ℕ → Type 0
Shown thing n = is_worded thing ≡ false → (text : List ℕ) × (spelled thing ≡ take n text)

shown_by : (text : List ℕ) (f : First) (thing : Item) (n : ℕ) → Spells text f → f ≡ Whole thing n →
    Shown thing n
shown_by text f thing n s e = λ u. let k = rw e at s in (text, k u)

shown_limit : (most : ℕ) (text : List ℕ) (f : First) (thing : Item) (n : ℕ) → Spells text f →
    at_limit most f ≡ Whole thing n → Shown thing n
shown_limit most text Needs thing n s e = absurd (cc)
shown_limit most text (Whole other m) thing n s e = by (leb m most) e
  where
    by : (b : Bool) → cond b (Whole other m) (Faulty (Past ItemTooLong)) ≡ Whole thing n →
        Shown thing n
    by true e = shown_by text (Whole other m) thing n s e
    by false e = absurd (cc)
shown_limit most text (Faulty kind) thing n s e = absurd (cc)

shown_past : (most : ℕ) (text more : List ℕ) (f g : First) (thing : Item) (n : ℕ) → Spells text f →
    Spells more g → past most f g ≡ Whole thing n → Shown thing n
shown_past most text more Needs g thing n s t e = shown_limit most more g thing n t e
shown_past most text more (Whole other m) g thing n s t e =
    shown_by text (Whole other m) thing n s e
shown_past most text more (Faulty kind) g thing n s t e = absurd (cc)

shown_cond : (b : Bool) (f g : First) (thing : Item) (n : ℕ) → (f ≡ Whole thing n → Shown thing n) →
    (g ≡ Whole thing n → Shown thing n) → cond b f g ≡ Whole thing n → Shown thing n
shown_cond true f g thing n h k e = h e
shown_cond false f g thing n h k e = k e

pub limited_shows : (most : ℕ) (dialect : Dialect) (text : List ℕ) (thing : Item) (n : ℕ) →
    limited most dialect text ≡ Whole thing n → Shown thing n
unfolding limited
limited_shows most dialect text thing n h =
    shown_cond (leb (length text) most) (first dialect text) _ thing n
    (λ e. shown_by text (first dialect text) thing n (first_spells dialect text) e)
    (λ e. shown_past most (take most text) (take (suc most) text) (first dialect (take most text))
    (first dialect (take (suc most) text)) thing n (first_spells dialect (take most text))
    (first_spells dialect (take (suc most) text)) e) h

-- the spelling of a character or a blank as reading gives it has no more bytes than it had
pub bare_size : (dialect : Dialect) (read : Read) → is_worded read.item ≡ false →
    IsRead dialect read → length (spelled read.item) ≤ read.size
bare_size dialect read bare h =
    let s = limited_shows item_max dialect h.text read.item read.size h.whole bare in
    let e : length (spelled read.item) ≡ length (take read.size s.0) = ap length s.1 in
    let l = length-take read.size s.0 in omega (arith, e, l)
