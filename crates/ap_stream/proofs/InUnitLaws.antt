-- Within a unit or a chunk's name: what is true of its bytes so far, however they go on.
use Rattle.std.specs.Prelude.{◌≡◌, ℕ, ◌+◌, ◌<◌, List, [], ◌∷◌, ◌++◌, length, Bool, true, false, cond, ◌&&◌, not, refl}
use Rattle.std.proofs.Common.{arith, ap, sym, ◌∙◌, append_assoc, length-append}
use Rattle.std.proofs.lemmas.Bool.{and_parts, not-true}
use Rattle.std.proofs.lemmas.List.{append-nil}
use Rattle.ap_symbol.specs.declared.symbol.Symbol.{Symbol}
use Rattle.ap_stream.specs.declared.dialect.Dialect.{Dialect}
use Rattle.ap_stream.specs.declared.dialect.Dialect.TheVariants.{Raw, Analysed, Lexical, Bilingual, Chunked, Generated}
use Rattle.ap_stream.specs.declared.fault.MalformedKind.{MalformedKind}
use Rattle.ap_stream.specs.declared.examine.Spot.{Spot}
use Rattle.ap_stream.specs.declared.item.Item.TheVariants as item
use Rattle.ap_stream.specs.Dialects.{has_units, has_words, has_chunks}
use Rattle.ap_stream.specs.Units.{form_of, Reads, sign, in_surface, is_none, may_part, may_end, Rest, Lacks, Wrong, Ends, rest, longer}
use Rattle.ap_stream.proofs.UnitLaws.{longer_longer, rest_symbol, rest_slash, rest_dollar}
use Rattle.ap_stream.specs.UnitBytes.{UnitOf}
use Rattle.ap_stream.specs.Reading.{Needs, Whole, Faulty, Bad, first, of_unit, of_chunk, of_caret}
use Rattle.ap_stream.specs.Stands.{InUnit}
use Rattle.ap_stream.specs.Effects.{surface_at, spot, grown_spot}

pub first_caret : (dialect : Dialect) (t : List ℕ) → has_units dialect ≡ true →
    first dialect (94 ∷ t) ≡ of_caret dialect t (rest (form_of dialect) [] [] 0 t)
unfolding first
first_caret dialect t h = rw h refl

-- a dialect's units have no brace
pub words_units : (dialect : Dialect) → has_words dialect ≡ true → has_units dialect ≡ true
words_units Raw h = absurd (cc)
words_units Analysed h = refl
words_units Lexical h = refl
words_units Bilingual h = refl
words_units Chunked h = absurd (cc)
words_units Generated h = absurd (cc)

pub words_chunks : (dialect : Dialect) → has_words dialect ≡ true → has_chunks dialect ≡ false
words_chunks Raw h = absurd (cc)
words_chunks Analysed h = refl
words_chunks Lexical h = refl
words_chunks Bilingual h = refl
words_chunks Chunked h = absurd (cc)
words_chunks Generated h = absurd (cc)

pub words_brace : (dialect : Dialect) → has_words dialect ≡ true → (form_of dialect).braced ≡ false
words_brace Raw h = absurd (cc)
words_brace Analysed h = refl
words_brace Lexical h = refl
words_brace Bilingual h = refl
words_brace Chunked h = absurd (cc)
words_brace Generated h = absurd (cc)

pub units_words : (dialect : Dialect) → has_units dialect ≡ true → (form_of dialect).braced ≡ false →
    has_words dialect ≡ true
units_words Raw h k = absurd (cc)
units_words Analysed h k = refl
units_words Lexical h k = refl
units_words Bilingual h k = refl
units_words Chunked h k = absurd (cc)
units_words Generated h k = absurd (cc)

pub braced_chunks : (dialect : Dialect) → (form_of dialect).braced ≡ has_chunks dialect
braced_chunks Raw = refl
braced_chunks Analysed = refl
braced_chunks Lexical = refl
braced_chunks Bilingual = refl
braced_chunks Chunked = refl
braced_chunks Generated = refl

-- of the dialects with units
pub first_words : (dialect : Dialect) (t : List ℕ) → has_words dialect ≡ true →
    first dialect (94 ∷ t) ≡ of_unit (rest (form_of dialect) [] [] 0 t)
first_words dialect t h =
    first_caret dialect t (words_units dialect h) ∙ rw (words_chunks dialect h) refl

-- such bytes are the unit, whatever follows
pub unit_always : (dialect : Dialect) (held : List ℕ) (words : List (List Symbol)) →
    UnitOf dialect held words → (x : List ℕ) → first dialect (held ++ x)
    ≡ Whole (item.Unit words) (length held)
unit_always dialect held words h x =
    let l : 1 + length h.tail ≡ length held = sym (ap length h.begins ∙ omega arith) in
    ap (λ q. first dialect (q ++ x)) h.begins ∙ first_words dialect (h.tail ++ x) h.has
    ∙ ap of_unit (h.on x) ∙ ap (Whole (item.Unit words)) l

pub unit_begins : (dialect : Dialect) → has_units dialect ≡ true →
    InUnit dialect (spot true true) (94 ∷ [])
unit_begins dialect h = record {
  tail = [];
  words = [];
  word = [];
  has = h;
  begins = refl;
  first_is = refl;
  empty_is = refl;
  on = λ x. sym (zero_longer (rest (form_of dialect) [] [] 0 x));
}
  where
    zero_longer : (r : Rest) → longer 0 r ≡ r
    zero_longer Lacks = refl
    zero_longer (Wrong kind) = refl
    zero_longer (Ends words k) = ap (Ends words) (omega arith)

module _ (dialect : Dialect) (at : Spot) (done : List ℕ) (h : InUnit dialect at done) where
  pub surface_is : surface_at dialect at ≡ in_surface (form_of dialect) h.words
  surface_is = ap (λ f. (form_of dialect).surface && f) h.first_is

  pub unit_front : (p x : List ℕ) (r : Rest) → rest (form_of dialect) h.words h.word 0 (p ++ x) ≡ r
      → first dialect ((done ++ p) ++ x)
      ≡ of_caret dialect (h.tail ++ (p ++ x)) (longer (length h.tail) r)
  unit_front p x r e =
      let is : (done ++ p) ++ x ≡ 94 ∷ (h.tail ++ (p ++ x)) =
      append_assoc done p x ∙ ap (λ q. q ++ (p ++ x)) h.begins in
      let all : List ℕ = h.tail ++ (p ++ x) in
      ap (first dialect) is ∙ first_caret dialect all h.has
      ∙ ap (of_caret dialect all) (h.on (p ++ x) ∙ ap (longer (length h.tail)) e)

  caret_wrong : (t : List ℕ) (kind : MalformedKind) →
      of_caret dialect t (Wrong kind) ≡ Faulty (Bad kind)
  caret_wrong t kind = by (has_chunks dialect)
    where
      by : (b : Bool) →
          cond b (of_chunk t (Wrong kind)) (of_unit (Wrong kind)) ≡ Faulty (Bad kind)
      by true = refl
      by false = refl

  caret_lacks : (t : List ℕ) → of_caret dialect t Lacks ≡ Needs
  caret_lacks t = by (has_chunks dialect)
    where
      by : (b : Bool) → cond b (of_chunk t Lacks) (of_unit Lacks) ≡ Needs
      by true = refl
      by false = refl

  pub unit_wrong : (p : List ℕ) (kind : MalformedKind) →
      ((x : List ℕ) → rest (form_of dialect) h.words h.word 0 (p ++ x) ≡ Wrong kind) →
      (x : List ℕ) → first dialect ((done ++ p) ++ x) ≡ Faulty (Bad kind)
  unit_wrong p kind e x = unit_front p x (Wrong kind) (e x) ∙ caret_wrong (h.tail ++ (p ++ x)) kind

  pub unit_needs : (p : List ℕ) → rest (form_of dialect) h.words h.word 0 p ≡ Lacks →
      first dialect (done ++ p) ≡ Needs
  unit_needs p e = rw append-nil
      at (unit_front p [] Lacks (ap (rest (form_of dialect) h.words h.word 0) (append-nil p) ∙ e)
      ∙ caret_lacks (h.tail ++ (p ++ [])))

  pub unit_ends : may_end (form_of dialect) h.words h.word ≡ true →
      UnitOf dialect (done ++ 36 ∷ []) (h.words ++ h.word ∷ [])
  unit_ends m = record {
    tail = h.tail ++ 36 ∷ [];
    has = units_words dialect h.has
        (not-true (form_of dialect).braced (and_parts (not (form_of dialect).braced) _ m).0);
    begins = ap (λ q. q ++ 36 ∷ []) h.begins;
    on = λ x.
        let e : rest (form_of dialect) h.words h.word 0 (36 ∷ x) ≡ Ends (h.words ++ h.word ∷ []) 1 =
        rest_dollar (form_of dialect) h.words h.word x ∙ rw m refl in
        ap (rest (form_of dialect) [] [] 0) (append_assoc h.tail (36 ∷ []) x) ∙ h.on (36 ∷ x)
        ∙ ap (longer (length h.tail)) e
        ∙ ap (Ends (h.words ++ h.word ∷ [])) (sym (length-append h.tail (36 ∷ [])));
  }

  further : (p : List ℕ) (words : List (List Symbol)) (word : List Symbol) →
      ((x : List ℕ) → rest (form_of dialect) h.words h.word 0 (p ++ x)
      ≡ longer (length p) (rest (form_of dialect) words word 0 x)) →
      (x : List ℕ) → rest (form_of dialect) [] [] 0 ((h.tail ++ p) ++ x)
      ≡ longer (length (h.tail ++ p)) (rest (form_of dialect) words word 0 x)
  further p words word e x =
      ap (rest (form_of dialect) [] [] 0) (append_assoc h.tail p x) ∙ h.on (p ++ x)
      ∙ ap (longer (length h.tail)) (e x)
      ∙ longer_longer (length h.tail) (length p) (rest (form_of dialect) words word 0 x)
      ∙ ap (λ n. longer n (rest (form_of dialect) words word 0 x)) (sym (length-append h.tail p))

  none_more : (word : List Symbol) (s : Symbol) → false ≡ is_none (word ++ s ∷ [])
  none_more [] s = refl
  none_more (t ∷ word) s = refl

  none_words : (words : List (List Symbol)) (word : List Symbol) →
      false ≡ is_none (words ++ word ∷ [])
  none_words [] word = refl
  none_words (w ∷ words) word = refl

  pub unit_symbol : (p : List ℕ) (s : Symbol) → 0 < length p →
      ((x : List ℕ) → sign (in_surface (form_of dialect) h.words) (p ++ x) ≡ Reads s (length p)) →
      InUnit dialect (grown_spot at) (done ++ p)
  unit_symbol p s some e = record {
    tail = h.tail ++ p;
    words = h.words;
    word = h.word ++ s ∷ [];
    has = h.has;
    begins = ap (λ q. q ++ p) h.begins;
    first_is = h.first_is;
    empty_is = none_more h.word s;
    on = further p h.words (h.word ++ s ∷ [])
        (λ x. rest_symbol (form_of dialect) h.words h.word p x s some (e x));
  }

  pub unit_slash : (form_of dialect).several ≡ true → may_part h.words h.word ≡ true →
      InUnit dialect (spot false true) (done ++ 47 ∷ [])
  unit_slash s m = record {
    tail = h.tail ++ 47 ∷ [];
    words = h.words ++ h.word ∷ [];
    word = [];
    has = h.has;
    begins = ap (λ q. q ++ 47 ∷ []) h.begins;
    first_is = none_words h.words h.word;
    empty_is = refl;
    on = further (47 ∷ []) (h.words ++ h.word ∷ []) []
        (λ x. rest_slash (form_of dialect) h.words h.word x ∙ rw (s, m) refl);
  }
