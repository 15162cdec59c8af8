-- Runs that are copied: how they are read, and what a handler that copies makes of them.
use Rattle.std.specs.Prelude.{◌≡◌, ℕ, suc, ◌+◌, ◌-◌, ◌^◌, ◌<◌, ◌≤◌, min, List, [], ◌∷◌, ◌++◌, drop, take, length, Bool, true, false, not, ◌&&◌, ◌||◌, eqb, None, refl, encode_utf8}
use Rattle.std.proofs.Common.{inl, Result, Ok, Err, OnErr, IfErr, ◌≢◌, get_or, arith, ap, sym, subst, ◌∙◌, append_assoc, length-append}
use Rattle.std.proofs.lemmas.Grind.{flat_map-append}
use Rattle.std.proofs.lemmas.List.{append-nil, take-append-drop}
use Rattle.std.proofs.lemmas.Str.{length-encode, len_utf8_bounds, encode_ascii}
use Rattle.std.proofs.Math.Seq.{drop-append_seam, take-add}
use Rattle.ap_symbol.specs.Coded.{IsCode}
use Rattle.ap_symbol.specs.declared.symbol.Symbol.{Symbol}
use Rattle.ap_stream.specs.declared.dialect.Dialect.{Dialect}
use Rattle.ap_stream.specs.declared.dialect.Dialect.TheVariants.{Raw, Analysed, Lexical, Bilingual, Chunked, Generated}
use Rattle.ap_stream.specs.declared.examine.Mode.TheVariants as mode
use Rattle.ap_stream.specs.declared.level.Level.TheVariants as level
use Rattle.ap_stream.specs.declared.level.Effect.TheVariants as effect
use Rattle.ap_stream.specs.declared.item.Item.{Item}
use Rattle.ap_stream.specs.declared.item.Item.TheVariants as item
use Rattle.ap_stream.specs.declared.item.Read.{Read}
use Rattle.ap_stream.specs.Blanks.{is_white, begins_blank}
use Rattle.ap_stream.specs.Chars.{Char, char_at}
use Rattle.ap_stream.specs.Copying.{is_common, IsCommon, is_copied, AreCopied, AreCopying, spelling, preceded, IsRun, IsWhite, GivesUnit, Gives}
use Rattle.ap_stream.specs.Stands.{stops_word, Looks, Always, blank_first}
use Rattle.ap_stream.specs.Dialects.{is_refused, has_units}
use Rattle.ap_stream.proofs.LimitedLaws.{limited_decided}
use Rattle.ap_stream.proofs.InUnitLaws.{unit_always}
use Rattle.ap_stream.specs.Limits.{item_max, unit_max}
use Rattle.ap_stream.proofs.LimitLaws.{item_max_is}
use Rattle.ap_stream.specs.Reading.{Whole, limited, plain, Reads, reads, read_at, counted}
use Rattle.ap_stream.proofs.ReadingLaws.{reads_whole}
use Rattle.ap_stream.proofs.RestLaws.{seat_pending_first}
use Rattle.ap_stream.specs.Rest.{rest_of, worked}
use Rattle.ap_stream.specs.Seat.{Seat}
use Rattle.ap_stream.specs.Spelling.{spelled}
use Rattle.ap_stream.proofs.StandLaws.{begin_white, blank_ends}
use Rattle.ap_stream.specs.Told.{Told, Ending, Begins, behind, ends_in}
use Rattle.ap_stream.specs.declared.fault.StreamFault.{StreamFault}
use Rattle.ap_stream.specs.declared.fault.StreamFault.TheVariants.{Memory}
use Rattle.ap_stream.specs.UnitBytes.{UnitOf, unit_words}
use Rattle.ap_stream.proofs.UnitWords.{unit_is}
use Rattle.ap_stream.proofs.Cut.{char_bytes, char_code}
use Rattle.ap_stream.proofs.Fronts.{IsFree, free_whole, free_blank, alone_some}

-- what a common character isn't

pub none : (a b : Bool) → (a || b) ≡ false → (a ≡ false) × (b ≡ false)
none true b h = absurd (cc)
none false b h = (refl, h)

negated : (a : Bool) → not a ≡ true → a ≡ false
negated true h = absurd (cc)
negated false h = refl

never : (v : Bool) → (v && false) ≡ false
never true = refl
never false = refl

module _ (c : ℕ) (common : is_common c ≡ true) where
  two : (stops_word c ≡ false) × ((eqb c 126 || is_white c) ≡ false)
  two = none (stops_word c) (eqb c 126 || is_white c) (negated _ common)

  white : is_white c ≡ false
  white = (none (eqb c 126) (is_white c) two.1).1

  pub common_free : (dialect : Dialect) → IsFree dialect c
  common_free dialect =
      let a = none (eqb c 92) _ two.0 in
      let b = none (eqb c 47) _ a.1 in
      let d = none (eqb c 36) _ b.1 in
      let e = none (eqb c 60) _ d.1 in
      let f = none (eqb c 62) _ e.1 in
      let g = none (eqb c 94) _ f.1 in
      let h = none (eqb c 123) _ g.1 in
      let i = none (eqb c 125) _ h.1 in
      let j = none (eqb c 91) _ i.1 in
      let k = none (eqb c 93) (eqb c 64) j.1 in
      record {
        blank = rw (white, j.0) refl;
        escape = a.0;
        unit = rw g.0 (never (has_units dialect));
        refused = refused_by dialect (rw (b.0, d.0, e.0, f.0, h.0, i.0, k.0, k.1) refl)
            (rw (d.0, g.0, h.0, i.0, k.0) refl) g.0;
      }
    where
      refused_by : (dialect : Dialect) → is_refused Analysed c ≡ false →
          is_refused Generated c ≡ false → eqb c 94 ≡ false → is_refused dialect c ≡ false
      refused_by Raw r s t = rw (t, r) refl
      refused_by Analysed r s t = r
      refused_by Lexical r s t = r
      refused_by Bilingual r s t = r
      refused_by Chunked r s t = r
      refused_by Generated r s t = s

-- places

clamped : (k p m n : ℕ) → min (min (p + m) k + n) k ≡ min (p + (m + n)) k
clamped k p m n = omega arith

clamped_once : (k p : ℕ) → min (min p k) k ≡ min p k
clamped_once k p = omega arith

pub counted_twice : (place m n : ℕ) → counted (counted (place + m) + n) ≡ counted (place + (m + n))
counted_twice place m n = clamped (2 ^ 64 - 1) place m n

pub counted_is : (place : ℕ) → counted (counted place) ≡ counted place
counted_is place = clamped_once (2 ^ 64 - 1) place

-- runs

both_copied : (a b : List Read) → AreCopied a → AreCopied b → AreCopied (a ++ b)
both_copied [] b h k = k
both_copied (read ∷ a) b h k = (h.0, both_copied a b h.1 k)

pub none_runs : (dialect : Dialect) → IsRun dialect []
none_runs dialect = record {
  items = λ place. [];
  copied = λ place. tt;
  is = λ place. refl;
  reads_on = λ place c x.
      let e : counted (place + 0) ≡ place = ap counted (omega arith) ∙ c in
      ap (λ (q : ℕ). reads dialect q x) (sym e);
}

pub preceded_twice : (a b : List Read) (more : Reads) → preceded a (preceded b more)
    ≡ preceded (a ++ b) more
preceded_twice a b more =
    ap (λ (q : List Read). record { items = q; stop = more.stop })
    (sym (append_assoc a b more.items))

pub both_run : (dialect : Dialect) (a b : List ℕ) → IsRun dialect a → IsRun dialect b →
    IsRun dialect (a ++ b)
both_run dialect a b r s = record {
  items = λ place. r.items place ++ s.items (counted (place + length a));
  copied = λ place. both_copied (r.items place) (s.items (counted (place + length a)))
      (r.copied place) (s.copied (counted (place + length a)));
  is = λ place. rw (flat_map-append, r.is place, s.is (counted (place + length a))) refl;
  reads_on = λ place c x.
      let far : counted (counted (place + length a) + length b)
      ≡ counted (place + length (a ++ b)) =
      rw length-append (counted_twice place (length a) (length b)) in
      rw (append_assoc, ← far) (r.reads_on place c (b ++ x)
      ∙ ap (preceded (r.items place)) (s.reads_on (counted (place + length a))
      (counted_is (place + length a)) x)
      ∙ preceded_twice (r.items place) (s.items (counted (place + length a))) _);
}

-- an item at the front
module _ (dialect : Dialect) (bytes : List ℕ) (thing : Item) (some : 0 < length bytes)
    (short : length bytes ≤ item_max) (always : Always dialect bytes (Whole thing (length bytes)))
  where
    reads_item : (place : ℕ) (x : List ℕ) → reads dialect place (bytes ++ x)
        ≡ preceded (read_at place thing (length bytes) ∷ [])
        (reads dialect (counted (place + length bytes)) x)
    reads_item place x =
        let whole : limited item_max dialect (bytes ++ x) ≡ Whole thing (length bytes) =
        limited_decided item_max dialect bytes (Whole thing (length bytes)) short always tt x in
        let more : 0 < length (bytes ++ x) = rw length-append (omega arith) in
        reads_whole dialect place (bytes ++ x) thing (length bytes) whole some more
        ∙ rw drop-append_seam refl

    pub item_runs : is_copied thing ≡ true → spelled thing ≡ bytes → IsRun dialect bytes
    item_runs copied is = record {
      items = λ place. read_at place thing (length bytes) ∷ [];
      copied = λ place. (copied, tt);
      is = λ place. append-nil (spelled thing) ∙ is;
      reads_on = λ place c x. reads_item place x;
    }

-- a white-space character that another byte ends
pub white_reads : (dialect : Dialect) (w b : ℕ) (bytes : List ℕ) → is_white w ≡ true →
    is_white b ≡ false → eqb b 91 ≡ false → (place : ℕ) →
    reads dialect place (w ∷ b ∷ bytes)
    ≡ preceded (read_at place (item.Blank (w ∷ [])) 1 ∷ [])
    (reads dialect (counted (place + 1)) (b ∷ bytes))
white_reads dialect w b bytes is dark bare place =
    let whole : limited item_max dialect ((w ∷ b ∷ []) ++ bytes)
    ≡ Whole (item.Blank (w ∷ [])) 1 =
    limited_decided item_max dialect (w ∷ b ∷ []) (Whole (item.Blank (w ∷ [])) 1)
    (rw item_max_is (omega arith))
    (blank_ends dialect (w ∷ []) b (begin_white w is) dark bare) tt bytes in
    reads_whole dialect place (w ∷ b ∷ bytes) (item.Blank (w ∷ [])) 1 whole (omega arith)
    (omega arith)

encoded_size : (c : ℕ) → length (encode_utf8 c) ≤ 4
encoded_size c = let l = length-encode c in let b = len_utf8_bounds c in omega (arith, l, b.1)

-- a common character, with white space before it or not
module _ (dialect : Dialect) (c : ℕ) (code : IsCode c) (common : is_common c ≡ true) where
  size : length (encode_utf8 c) ≤ item_max
  size = rw item_max_is (omega (arith, encoded_size c))

  pub common_runs : IsRun dialect (encode_utf8 c)
  common_runs =
      item_runs dialect (encode_utf8 c) (plain c false) (alone_some c code) size
      (free_whole c code dialect (common_free c common dialect)) common refl

  pub common_reads : (place : ℕ) (x : List ℕ) → reads dialect place (encode_utf8 c ++ x)
      ≡ preceded (read_at place (plain c false) (length (encode_utf8 c)) ∷ [])
      (reads dialect (counted (place + length (encode_utf8 c))) x)
  common_reads place x =
      reads_item dialect (encode_utf8 c) (plain c false) (alone_some c code) size
      (free_whole c code dialect (common_free c common dialect)) place x

  white_before : (w : ℕ) → is_white w ≡ true → (bytes : List ℕ) → bytes ≡ encode_utf8 c →
      (place : ℕ) (x : List ℕ) → reads dialect place (w ∷ (bytes ++ x))
      ≡ preceded (read_at place (item.Blank (w ∷ [])) 1 ∷ [])
      (reads dialect (counted (place + 1)) (bytes ++ x))
  white_before w is [] e place x =
      absurd (let s = alone_some c code in let l = ap length e in omega (arith, s, l))
  white_before w is (b ∷ bytes) e place x =
      let dark : begins_blank b ≡ false = ap blank_first e
      ∙ free_blank c code dialect (common_free c common dialect) in
      let n = none (is_white b) (eqb b 91) dark in
      white_reads dialect w b (bytes ++ x) is n.0 n.1 place

  pub white_runs : (w : ℕ) → is_white w ≡ true → IsRun dialect (w ∷ encode_utf8 c)
  white_runs w is = record {
    items = λ place. read_at place (item.Blank (w ∷ [])) 1
        ∷ common_runs.items (counted (place + 1));
    copied = λ place. (refl, common_runs.copied (counted (place + 1)));
    is = λ place. ap (λ (q : List ℕ). w ∷ q) (common_runs.is (counted (place + 1)));
    reads_on = λ place counts x.
        let far : counted (counted (place + 1) + length (encode_utf8 c))
        ≡ counted (place + length (w ∷ encode_utf8 c)) =
        counted_twice place 1 (length (encode_utf8 c)) ∙ ap (λ n. counted (place + n))
        (omega arith) in
        white_before w is (encode_utf8 c) refl place x
        ∙ ap (preceded (read_at place (item.Blank (w ∷ [])) 1 ∷ []))
        (common_runs.reads_on (counted (place + 1)) (counted_is (place + 1)) x)
        ∙ rw far refl;
  }

one_byte : (bytes : List ℕ) → length (take 1 bytes) ≡ 1 → take 1 bytes ≡ get_or bytes 0 0 ∷ []
one_byte [] e = absurd (omega (arith, e))
one_byte (b ∷ bytes) e = refl

-- an ASCII character that is common is whole by itself
pub common_looks : (dialect : Dialect) (piece : List ℕ) → length (take 1 piece) ≡ 1 →
    get_or piece 0 0 < 128 → is_common (get_or piece 0 0) ≡ true →
    Looks dialect (level.Item mode.Start) 0 (take 1 piece)
    (effect.Plain (record { letter = get_or piece 0 0; escaped = false }))
common_looks dialect piece single low common =
    let b : ℕ = get_or piece 0 0 in
    let bytes : List ℕ = take 1 piece in
    let is : bytes ≡ b ∷ [] = one_byte piece single in
    let one : encode_utf8 b ≡ b ∷ [] = encode_ascii b low in
    let whole : Always dialect bytes (Whole (plain b false) (length bytes)) =
    subst (λ (q : List ℕ). Always dialect q (Whole (plain b false) (length q))) (one ∙ sym is)
    (free_whole b (inl (omega (arith, low))) dialect (common_free b common dialect)) in (
      λ x. limited_decided item_max dialect bytes (Whole (plain b false) (length bytes))
          (rw item_max_is (omega (arith, single))) whole tt x,
      omega (arith, single),
    )

pub run_of_common : (dialect : Dialect) (bytes : List ℕ) → IsCommon bytes → IsRun dialect bytes
run_of_common dialect bytes h =
    subst (λ (q : List ℕ). IsRun dialect q) (sym h.is)
    (common_runs dialect h.letter h.code h.common)

pub run_of_white : (dialect : Dialect) (w : ℕ) (bytes : List ℕ) → is_white w ≡ true →
    IsCommon bytes → IsRun dialect (w ∷ bytes)
run_of_white dialect w bytes is h =
    subst (λ (q : List ℕ). IsRun dialect (w ∷ q)) (sym h.is)
    (white_runs dialect h.letter h.code h.common w is)

-- white space at the front of bytes, and a common character behind it
pub white_step : (dialect : Dialect) (bytes : List ℕ) (n : ℕ) → 0 < length bytes →
    is_white (get_or bytes 0 0) ≡ true → IsCommon (take n (drop 1 bytes)) →
    IsRun dialect (take (n + 1) bytes)
white_step dialect [] n some is h = absurd (omega (arith, some))
white_step dialect (w ∷ bytes) n some is h =
    let more : n + 1 ≡ suc n = omega arith in
    rw more (run_of_white dialect w (take n bytes) is h)

-- a character at the front of bytes that is common
pub is_common_at : (bytes : List ℕ) (c n : ℕ) → char_at bytes ≡ Char c n → is_common c ≡ true →
    IsCommon (take n bytes)
is_common_at bytes c n h common = record {
  letter = c;
  code = char_code bytes c n h;
  common = common;
  is = sym (char_bytes bytes c n h);
}

-- a run goes on
pub run_on : (dialect : Dialect) (bytes : List ℕ) (at n : ℕ) → IsRun dialect (take at bytes) →
    IsRun dialect (take n (drop at bytes)) → IsRun dialect (take (at + n) bytes)
run_on dialect bytes at n r s =
    subst (λ (q : List ℕ). IsRun dialect q) (sym (take-add at n bytes))
    (both_run dialect (take at bytes) (take n (drop at bytes)) r s)

-- what a handler that copies makes of a run
module _ {H : Type 0} (count : H → ℕ) (work : H → List Read → Told)
    (copies : AreCopying count work) where
  work_copied : (h : H) → count h ≡ 0 → (items xs : List Read) → AreCopied items →
      work h (items ++ xs) ≡ behind (spelling items) (work h xs)
  work_copied h none [] xs all = refl
  work_copied h none (read ∷ items) xs all =
      copies h read (items ++ xs) none all.0
      ∙ ap (behind (spelled read.item)) (work_copied h none items xs all.1)
      ∙ ap (λ (q : List ℕ). record { text = q; fault = (work h xs).fault })
      (sym (append_assoc (spelled read.item) (spelling items) (work h xs).text))

  worked_copied : (h : H) → count h ≡ 0 → (items : List Read) (run : List ℕ) → AreCopied items →
      spelling items ≡ run → (more : Reads) (e : Ending) →
      worked (work h) (preceded items more) e ≡ behind run (worked (work h) more e)
  worked_copied h none items run all is more e =
      rw (work_copied h none items more.items all, is) refl

  pub run_gives : (dialect : Dialect) (h : H) → count h ≡ 0 → (run : List ℕ) → IsRun dialect run →
      Gives work dialect h h run run
  run_gives dialect h none run runs = record {
    gives = λ place counts x e.
        ap (λ r. worked (work h) r e) (runs.reads_on place counts x)
        ∙ worked_copied h none (runs.items place) run (runs.copied place) (runs.is place)
        (reads dialect (counted (place + length run)) x) e;
  }

  -- a unit, and a white-space character before it
  module _ (dialect : Dialect) (h after : H) (none : count h ≡ 0) (unit given : List ℕ)
      (words : List (List Symbol)) (is : UnitOf dialect unit words)
      (short : length unit ≤ unit_max) (g : GivesUnit work dialect h after unit given) where
    unit_gives : (place : ℕ) (x : List ℕ) (e : Ending) →
        worked (work h) (reads dialect place (unit ++ x)) e
        ≡ behind given (worked (work after) (reads dialect (counted (place + length unit)) x) e)
    unit_gives place x e =
        let all : UnitOf dialect unit (unit_words dialect unit) =
        unit_is dialect unit words is in
        let some : 0 < length unit = let l = ap length is.begins in omega (arith, l) in
        ap (λ r. worked (work h) r e) (reads_item dialect unit
        (item.Unit (unit_words dialect unit)) some (rw item_max_is short)
        (unit_always dialect unit (unit_words dialect unit) all) place x)
        ∙ rw (g.gives place (length unit)
        (reads dialect (counted (place + length unit)) x).items) refl

    white_unit : (w : ℕ) → is_white w ≡ true → (place : ℕ) (x : List ℕ) (e : Ending) →
        worked (work h) (reads dialect place (w ∷ (unit ++ x))) e
        ≡ behind (w ∷ given)
        (worked (work after) (reads dialect (counted (place + length (w ∷ unit))) x) e)
    white_unit w white place x e =
        let text : unit ++ x ≡ 94 ∷ (is.tail ++ x) = ap (λ (q : List ℕ). q ++ x) is.begins in
        let blank : reads dialect place (w ∷ (unit ++ x))
        ≡ preceded (read_at place (item.Blank (w ∷ [])) 1 ∷ [])
        (reads dialect (counted (place + 1)) (unit ++ x)) =
        rw text (white_reads dialect w 94 (is.tail ++ x) white refl refl place) in
        let far : counted (counted (place + 1) + length unit)
        ≡ counted (place + length (w ∷ unit)) =
        counted_twice place 1 (length unit) ∙ ap (λ n. counted (place + n)) (omega arith) in
        ap (λ r. worked (work h) r e) blank
        ∙ worked_copied h none (read_at place (item.Blank (w ∷ [])) 1 ∷ []) (w ∷ [])
        (refl, tt) refl (reads dialect (counted (place + 1)) (unit ++ x)) e
        ∙ ap (behind (w ∷ [])) (unit_gives (counted (place + 1)) x e ∙ rw far refl)

    pub front_gives : (front : List ℕ) → IsWhite front →
        Gives work dialect h after (front ++ unit) (front ++ given)
    front_gives [] is = record { gives = λ place counts x e. unit_gives place x e }
    front_gives (w ∷ []) one = record { gives = λ place counts x e. white_unit w one place x e }
    front_gives (w ∷ v ∷ front) one = absurd one

  pub rest_given : (now new : Seat H) (bytes given : List ℕ) →
      Gives work now.dialect now.handler new.handler bytes given → now.fault ≡ None →
      now.begun ≡ [] → counted now.place ≡ now.place → new.dialect ≡ now.dialect →
      new.fault ≡ None → new.pending ≡ now.pending ++ given → new.begun ≡ [] →
      new.place ≡ counted (now.place + length bytes) → (x : List ℕ) (e : Ending) →
      rest_of work now (bytes ++ x) e ≡ rest_of work new x e
  rest_given now new bytes given g fault begun counts dialect fault' pending begun' place x e =
      rw (fault, begun, fault', pending, begun', dialect, place)
      (ap (behind now.pending) (g.gives now.place counts x e)
      ∙ ap (λ (q : List ℕ). record {
        text = q;
        fault = (worked (work new.handler)
            (reads now.dialect (counted (now.place + length bytes)) x) e).fault;
      }) (sym (append_assoc now.pending given _)))

-- what is pending is a front of the text, and the fault of a later state is that of the first
module _ {H : Type 0} (work : H → List Read → Told) (old mid : Seat H) (piece : List ℕ) where
  pub front_on : (used : ℕ) → ((x : List ℕ) (e : Ending) →
      rest_of work old (take used piece ++ x) e ≡ rest_of work mid x e) →
      (x : List ℕ) (e : Ending) → Begins mid.pending (rest_of work old (piece ++ x) e).text
  front_on used rest x e =
      let is : take used piece ++ (drop used piece ++ x) ≡ piece ++ x =
      sym (append_assoc (take used piece) (drop used piece) x)
      ∙ ap (λ (q : List ℕ). q ++ x) (take-append-drop used piece) in
      rw (← is, rest (drop used piece ++ x) e)
      (seat_pending_first work mid (drop used piece ++ x) e)

pub cause_from : {T H : Type 0} (r : Result T StreamFault) (work : H → List Read → Told)
    (old mid : Seat H) (piece pending : List ℕ) → mid.fault ≡ None → ((x : List ℕ) (e : Ending) →
    rest_of work old x e ≡ rest_of work mid x e) →
    IfErr r (λ f. f ≢ Memory → mid.fault ≡ None → (n : ℕ) × (n ≤ length piece)
    × ((x : List ℕ) (e : Ending) → rest_of work mid (take n piece ++ x) e ≡ ends_in pending f)) →
    IfErr r (λ f. f ≢ Memory → old.fault ≡ None → (n : ℕ) × (n ≤ length piece)
    × ((x : List ℕ) (e : Ending) → rest_of work old (take n piece ++ x) e ≡ ends_in pending f))
cause_from (Ok y) work old mid piece pending going same h = tt
cause_from (Err f) work old mid piece pending going same h = λ other none.
    let k = h other going in (k.0, k.1, λ x e. same (take k.0 piece ++ x) e ∙ k.2 x e)

pub front_from : {T E H : Type 0} (r : Result T E) (work : H → List Read → Told)
    (old mid : Seat H) (piece pending : List ℕ) → mid.fault ≡ None → ((x : List ℕ) (e : Ending) →
    rest_of work old x e ≡ rest_of work mid x e) →
    OnErr r (mid.fault ≡ None → (x : List ℕ) (e : Ending) →
    Begins pending (rest_of work mid (piece ++ x) e).text) →
    OnErr r (old.fault ≡ None → (x : List ℕ) (e : Ending) →
    Begins pending (rest_of work old (piece ++ x) e).text)
front_from (Ok y) work old mid piece pending going same h = tt
front_from (Err y) work old mid piece pending going same h = λ none x e.
    rw (same (piece ++ x) e) (h going x e)
