-- Within the content of a chunk: what is true of its bytes so far, however they go on.
use Rattle.std.specs.Prelude.{◌≡◌, ℕ, ◌+◌, ◌<◌, List, [], ◌∷◌, ◌++◌, drop, length, Bool, true, false, eqb, ◌||◌, refl}
use Rattle.std.proofs.Common.{arith, ap, sym, subst, ◌∙◌, append_assoc, length-append}
use Rattle.std.proofs.lemmas.Bool.{eqb-true}
use Rattle.std.proofs.lemmas.List.{append-nil, drop-append-le, length-drop}
use Rattle.std.proofs.Math.Seq.{drop-append_seam, drop-append-add, drop-length}
use Rattle.ap_symbol.specs.declared.symbol.Symbol.{Symbol}
use Rattle.ap_stream.specs.declared.dialect.Dialect.{Dialect}
use Rattle.ap_stream.specs.declared.dialect.Dialect.TheVariants.{Raw, Analysed, Lexical, Bilingual, Chunked, Generated}
use Rattle.ap_stream.specs.declared.examine.Spot.{Spot}
use Rattle.ap_stream.specs.declared.fault.MalformedKind.{MalformedKind}
use Rattle.ap_stream.specs.declared.item.Chunk.{Chunk}
use Rattle.ap_stream.specs.declared.item.Inner.{Inner}
use Rattle.ap_stream.specs.declared.item.Item.TheVariants as item
use Rattle.ap_stream.specs.Dialects.{has_chunks}
use Rattle.ap_stream.specs.Items.{Item}
use Rattle.ap_stream.specs.Blanks.{Run, Open, Inside, BadChar, Done, blank, begins_blank}
use Rattle.ap_stream.specs.Units.{Rest, Lacks, Wrong, Ends, rest, form_of}
use Rattle.ap_stream.proofs.UnitLaws.{rest_brace}
use Rattle.ap_stream.specs.Chunks.{Portion, Begun, Barred, Held, Braced, portion, blank_portion, unit_portion, Body, Opens, Fails, Closes, behind_part, behind_portion, body, wrong_byte}
use Rattle.ap_stream.proofs.ChunkLaws.{body_skip, body_nil, body_brace}
use Rattle.ap_stream.specs.Stands.{InUnit, ChunkOf, caret_first, InPart, InClosed}
use Rattle.ap_stream.proofs.InUnitLaws.{braced_chunks, unit_front}
use Rattle.ap_symbol.specs.Kinds.{first_word}
use Rattle.ap_stream.specs.Reading.{First, Needs, Whole, Faulty, Bad, Past, first, of_run, of_unit, of_body}

abbrev pub part_first : List ℕ → Bool
part_first [] = false
part_first (b ∷ bs) = begins_blank b || eqb b 94

abbrev pub portion_of : First → Portion
portion_of Needs = Begun
portion_of (Whole (Item.Plain c) n) = Braced
portion_of (Whole (Item.Blank bytes) n) = Held (Inner.Blank bytes) n
portion_of (Whole (Item.Unit words) n) = Held (Inner.Unit words) n
portion_of (Whole (Item.Chunk c) n) = Braced
portion_of (Faulty (Bad kind)) = Barred kind
portion_of (Faulty (Past kind)) = Braced

-- which a blank or a unit may be
abbrev pub IsPart : First → Type 0
IsPart Needs = Unit {0}
IsPart (Whole (Item.Plain c) n) = ⊥
IsPart (Whole (Item.Blank bytes) n) = Unit {0}
IsPart (Whole (Item.Unit words) n) = Unit {0}
IsPart (Whole (Item.Chunk c) n) = ⊥
IsPart (Faulty (Bad kind)) = Unit {0}
IsPart (Faulty (Past kind)) = ⊥

abbrev pub Agree : Portion → First → Type 0
Agree p f = (p ≡ portion_of f) × IsPart f

run_agrees : (bytes : List ℕ) (r : Run) → Agree (blank_portion bytes r) (of_run bytes r)
run_agrees bytes Open = (refl, tt)
run_agrees bytes Inside = (refl, tt)
run_agrees bytes BadChar = (refl, tt)
run_agrees bytes (Done n) = (refl, tt)

unit_agrees : (r : Rest) → Agree (unit_portion r) (of_unit r)
unit_agrees Lacks = (refl, tt)
unit_agrees (Wrong kind) = (refl, tt)
unit_agrees (Ends words n) = (refl, tt)

pub part_agrees : (bs : List ℕ) → part_first bs ≡ true → Agree (portion bs) (first Lexical bs)
unfolding portion first
part_agrees [] h = absurd (cc)
part_agrees (b ∷ bs) h = by (begins_blank b) (eqb b 94) refl refl h
  where
    by : (v w : Bool) → begins_blank b ≡ v → eqb b 94 ≡ w → (v || w) ≡ true →
        Agree (portion (b ∷ bs)) (first Lexical (b ∷ bs))
    by true w e f h = rw e (run_agrees (b ∷ bs) (blank 0 (b ∷ bs)))
    by false true e f h =
        let is : b ≡ 94 = eqb-true b 94 f in
        subst (λ z. Agree (portion (z ∷ bs)) (first Lexical (z ∷ bs))) (sym is)
        (unit_agrees (rest (form_of Lexical) [] [] 0 bs))
    by false false e f h = absurd (cc)

pub part_on : (p x : List ℕ) → part_first p ≡ true → part_first (p ++ x) ≡ true
part_on [] x h = absurd (cc)
part_on (b ∷ p) x h = h

pub part_some : (p : List ℕ) → part_first p ≡ true → 0 < length p
part_some [] h = absurd (cc)
part_some (b ∷ p) h = omega arith

-- what the front of a content comes to

pub body_front : (bs : List ℕ) → 0 < length bs →
    body 0 bs ≡ behind_portion (portion bs) (drop 1 bs) (λ n. body n (drop 1 bs))
unfolding body
body_front [] some = absurd (omega arith)
body_front (b ∷ bs) some = refl

pub body_begun : (bs : List ℕ) → portion bs ≡ Begun → body 0 bs ≡ Opens
body_begun [] h = body_nil
body_begun (b ∷ bs) h =
    body_front (b ∷ bs) (omega arith)
    ∙ ap (λ p. behind_portion p bs (λ n. body n bs)) h

pub body_barred : (bs : List ℕ) (kind : MalformedKind) → 0 < length bs → portion bs ≡ Barred kind →
    body 0 bs ≡ Fails kind
body_barred bs kind some h =
    body_front bs some ∙ ap (λ p. behind_portion p (drop 1 bs) (λ n. body n (drop 1 bs))) h

pub body_held : (p x : List ℕ) (part : Inner) → 0 < length p →
    portion (p ++ x) ≡ Held part (length p) →
    body 0 (p ++ x) ≡ behind_part part (length p) (body 0 x)
body_held [] x part some h = absurd (omega arith)
body_held (b ∷ p) x part some h =
    body_front (b ∷ (p ++ x)) (omega arith)
    ∙ ap (λ q. behind_portion q (p ++ x) (λ n. body n (p ++ x))) h
    ∙ ap (behind_part part (length (b ∷ p)))
    (body_skip (length p) (p ++ x) ∙ ap (body 0) (drop-append_seam p x))

pub of_behind : (name : List Symbol) (parts : List Inner) (n k : ℕ) (part : Inner) (b : Body) →
    of_body name parts n (behind_part part k b) ≡ of_body name (parts ++ part ∷ []) (n + k) b
of_behind name parts n k part Opens = refl
of_behind name parts n k part (Fails kind) = refl
of_behind name parts n k part (Closes more m) =
    let same : parts ++ (part ∷ more) ≡ (parts ++ part ∷ []) ++ more =
    sym (append_assoc parts (part ∷ []) more) in
    let size : n + (k + m) ≡ (n + k) + m = omega arith in
    ap (λ q. Whole (item.Chunk (record { name = name; content = q })) (n + (k + m))) same
    ∙ ap (Whole (item.Chunk (record { name = name; content = (parts ++ part ∷ []) ++ more }))) size

pub caret_on : (p x : List ℕ) → caret_first p ≡ true → caret_first (p ++ x) ≡ true
caret_on [] x h = absurd (cc)
caret_on (b ∷ p) x h = h

-- the content begins behind the name's brace
pub name_ends : (dialect : Dialect) (at : Spot) (done : List ℕ) → InUnit dialect at done →
    (form_of dialect).braced ≡ true → InPart dialect (length (done ++ 123 ∷ [])) (done ++ 123 ∷ [])
name_ends dialect at done h braced =
    let chunks : has_chunks dialect ≡ true = sym (braced_chunks dialect) ∙ braced in
    let words : List (List Symbol) = h.words ++ h.word ∷ [] in
    let all : List ℕ = done ++ 123 ∷ [] in
    let len : 1 + (length h.tail + 1) ≡ length (done ++ 123 ∷ []) =
    let l = length-append done (123 ∷ []) in let b = ap length h.begins in omega (arith, l, b) in
    record {
      name = first_word (h.words ++ h.word ∷ []);
      parts = [];
      chunks = chunks;
      begins = caret_on done (123 ∷ []) (ap caret_first h.begins);
      fits = omega arith;
      on = λ x.
          let e : rest (form_of dialect) h.words h.word 0 (123 ∷ x) ≡ Ends words 1 =
          rest_brace (form_of dialect) h.words h.word x ∙ rw braced refl in
          let back : drop (length h.tail + 1) (h.tail ++ (123 ∷ x)) ≡ x =
          drop-append-add h.tail (123 ∷ x) 1 in
          let none : drop (length all) all ++ x ≡ x = ap (λ (q : List ℕ). q ++ x)
          (drop-length all) in
          unit_front dialect at done h (123 ∷ []) x (Ends words 1) e ∙ rw chunks
          (ap (of_body (first_word words) [] (1 + (length h.tail + 1)))
          (body_skip (length h.tail + 1) (h.tail ++ (123 ∷ x)) ∙ ap (body 0) (back ∙ sym none))
          ∙ ap (λ n. of_body (first_word words) [] n (body 0 (drop (length all) all ++ x))) len);
    }

module _ (dialect : Dialect) (from : ℕ) (done : List ℕ) (h : InPart dialect from done) where
  pub inner_on : (p : List ℕ) → drop from (done ++ p) ≡ drop from done ++ p
  inner_on p = drop-append-le from done p h.fits

  -- more bytes of the part
  pub part_grows : (p : List ℕ) → InPart dialect from (done ++ p)
  part_grows p = record {
    name = h.name;
    parts = h.parts;
    chunks = h.chunks;
    begins = caret_on done p h.begins;
    fits = let l = length-append done p in let f = h.fits in omega (arith, l, f);
    on = λ x. ap (first dialect) (append_assoc done p x) ∙ h.on (p ++ x)
        ∙ ap (λ q. of_body h.name h.parts from (body 0 q))
        (sym (append_assoc (drop from done) p x) ∙ ap (λ (q : List ℕ). q ++ x) (sym (inner_on p)));
  }

  pub part_needs : body 0 (drop from done) ≡ Opens → first dialect done ≡ Needs
  part_needs e =
      ap (first dialect) (sym (append-nil done)) ∙ h.on []
      ∙ ap (λ q. of_body h.name h.parts from (body 0 q)) (append-nil (drop from done))
      ∙ ap (of_body h.name h.parts from) e

  pub part_fails : (kind : MalformedKind) →
      ((x : List ℕ) → body 0 (drop from done ++ x) ≡ Fails kind) →
      (x : List ℕ) → first dialect (done ++ x) ≡ Faulty (Bad kind)
  part_fails kind e x = h.on x ∙ ap (of_body h.name h.parts from) (e x)

  inner_length : length done ≡ from + length (drop from done)
  inner_length = let l = length-drop from done in let f = h.fits in omega (arith, l, f)

  -- a part is whole
  pub part_ends : (part : Inner) → 0 < length (drop from done) →
      ((x : List ℕ) → portion (drop from done ++ x) ≡ Held part (length (drop from done))) →
      InPart dialect (length done) done
  part_ends part some e = record {
    name = h.name;
    parts = h.parts ++ part ∷ [];
    chunks = h.chunks;
    begins = h.begins;
    fits = omega arith;
    on = λ x.
        let none : drop (length done) done ++ x ≡ x = ap (λ (q : List ℕ). q ++ x)
        (drop-length done) in
        h.on x ∙ ap (of_body h.name h.parts from) (body_held (drop from done) x part some (e x))
        ∙ of_behind h.name h.parts from (length (drop from done)) part (body 0 x)
        ∙ ap (λ n. of_body h.name (h.parts ++ part ∷ []) n (body 0 x)) (sym inner_length)
        ∙ ap (λ q. of_body h.name (h.parts ++ part ∷ []) (length done) (body 0 q)) (sym none);
  }

  -- a part is whole before this byte
  pub part_ends_before : (part : Inner) (b : ℕ) → 0 < length (drop from done) →
      ((x : List ℕ) → portion (drop from done ++ (b ∷ x)) ≡ Held part (length (drop from done))) →
      InPart dialect (length done) (done ++ b ∷ [])
  part_ends_before part b some e = record {
    name = h.name;
    parts = h.parts ++ part ∷ [];
    chunks = h.chunks;
    begins = caret_on done (b ∷ []) h.begins;
    fits = let l = length-append done (b ∷ []) in omega (arith, l);
    on = λ x.
        let back : drop (length done) (done ++ b ∷ []) ++ x ≡ b ∷ x =
        ap (λ (q : List ℕ). q ++ x) (drop-append_seam done (b ∷ [])) in
        ap (first dialect) (append_assoc done (b ∷ []) x) ∙ h.on (b ∷ x)
        ∙ ap (of_body h.name h.parts from) (body_held (drop from done) (b ∷ x) part some (e x))
        ∙ of_behind h.name h.parts from (length (drop from done)) part (body 0 (b ∷ x))
        ∙ ap (λ n. of_body h.name (h.parts ++ part ∷ []) n (body 0 (b ∷ x))) (sym inner_length)
        ∙ ap (λ q. of_body h.name (h.parts ++ part ∷ []) (length done) (body 0 q)) (sym back);
  }

  -- the brace behind the last part
  pub part_closes : drop from done ≡ 125 ∷ [] → InClosed dialect done
  part_closes is = record {
    name = h.name;
    parts = h.parts;
    before = from;
    chunks = h.chunks;
    begins = h.begins;
    size = inner_length ∙ ap (λ (q : List ℕ). from + length q) is;
    on = λ x. h.on x ∙ ap (λ q. of_body h.name h.parts from (body 0 (q ++ x))) is
        ∙ ap (of_body h.name h.parts from) (body_brace x);
  }

module _ (dialect : Dialect) (done : List ℕ) (h : InClosed dialect done) where
  pub closed_needs : first dialect done ≡ Needs
  closed_needs = ap (first dialect) (sym (append-nil done)) ∙ h.on []

  pub closed_wrong : (b : ℕ) → eqb b 36 ≡ false → (x : List ℕ) →
      first dialect ((done ++ b ∷ []) ++ x) ≡ Faulty (Bad (wrong_byte b))
  closed_wrong b e x = ap (first dialect) (append_assoc done (b ∷ []) x) ∙ h.on (b ∷ x) ∙ rw e refl

  -- what the chunk is
  abbrev pub closed_chunk : Chunk
  closed_chunk = record { name = h.name; content = h.parts ++ [] }

  pub closed_whole : (x : List ℕ) →
      first dialect ((done ++ 36 ∷ []) ++ x) ≡ Whole (item.Chunk closed_chunk)
      (length (done ++ 36 ∷ []))
  closed_whole x =
      let size : h.before + 2 ≡ length (done ++ 36 ∷ []) =
      let l = length-append done (36 ∷ []) in let s = h.size in omega (arith, l, s) in
      ap (first dialect) (append_assoc done (36 ∷ []) x) ∙ h.on (36 ∷ x)
      ∙ ap (Whole (item.Chunk closed_chunk)) size

-- the one dialect with chunks
pub only_chunked : (dialect : Dialect) → has_chunks dialect ≡ true → dialect ≡ Chunked
only_chunked Raw h = absurd (cc)
only_chunked Analysed h = absurd (cc)
only_chunked Lexical h = absurd (cc)
only_chunked Bilingual h = absurd (cc)
only_chunked Chunked h = refl
only_chunked Generated h = absurd (cc)

pub chunk_always : (dialect : Dialect) (held : List ℕ) (chunk : Chunk) → has_chunks dialect ≡ true →
    ChunkOf held chunk → (x : List ℕ) → first dialect (held ++ x)
    ≡ Whole (item.Chunk chunk) (length held)
chunk_always dialect held chunk has h =
    subst (λ (d : Dialect). (x : List ℕ) → first d (held ++ x)
    ≡ Whole (item.Chunk chunk) (length held))
    (sym (only_chunked dialect has)) h
