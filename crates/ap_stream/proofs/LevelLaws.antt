-- Where the bytes so far end, in the content of a chunk too, and what one more byte shows.
use Rattle.std.specs.Prelude.{◌≡◌, ◌≢◌, ℕ, ◌+◌, ◌<◌, List, [], ◌∷◌, ◌++◌, drop, take, length, Bool, true, false, cond, eqb, ◌||◌, refl}
use Rattle.std.proofs.Common.{arith, ap, sym, subst, ◌∙◌, append_assoc, length-append, get_or}
use Rattle.std.proofs.lemmas.Bool.{eqb-true}
use Rattle.std.proofs.lemmas.List.{append-nil, take-append-drop}
use Rattle.std.proofs.Math.Seq.{drop-append_seam, drop-length}
use Rattle.ap_stream.specs.declared.dialect.Dialect.{Dialect}
use Rattle.ap_stream.specs.declared.dialect.Dialect.TheVariants.{Lexical}
use Rattle.ap_stream.specs.declared.examine.Mode.{Mode}
use Rattle.ap_stream.specs.declared.examine.Mode.TheVariants as mode
use Rattle.ap_stream.specs.declared.examine.Spot.{Spot}
use Rattle.ap_stream.specs.declared.level.Level.{Level}
use Rattle.ap_stream.specs.declared.level.Level.TheVariants as level
use Rattle.ap_stream.specs.declared.level.Effect.{Effect}
use Rattle.ap_stream.specs.declared.level.Effect.TheVariants as effect
use Rattle.ap_stream.specs.declared.fault.MalformedKind.{MalformedKind}
use Rattle.ap_stream.specs.declared.fault.MalformedKind.TheVariants.{Unfinished}
use Rattle.ap_stream.specs.declared.item.Inner.TheVariants as inner
use Rattle.ap_stream.specs.declared.item.Item.TheVariants as item
use Rattle.ap_stream.specs.Chars.{Front, Part, NotChar, Char, char_at}
use Rattle.ap_stream.specs.Blanks.{is_white}
use Rattle.ap_stream.specs.Chunks.{Held, portion, Opens, body, wrong_byte, wrong_front}
use Rattle.ap_stream.proofs.ChunkLaws.{body_nil, body_wrong}
use Rattle.ap_stream.specs.Reading.{First, Needs, Whole, Faulty, Bad, Broken, first, last}
use Rattle.ap_stream.specs.Stands.{InUnit, caret_first, InPart, Stands, Always, InBlank, Within, blank_first, StandsPart, StandsIn, StoodIn, Tells, portion_effect, at_blank, between}
use Rattle.ap_stream.specs.Effects.{spot}
use Rattle.ap_stream.proofs.InUnitLaws.{unit_always, unit_begins}
use Rattle.ap_stream.proofs.InChunkLaws.{part_first, portion_of, IsPart, part_agrees, part_on, part_some, body_begun, body_barred, caret_on, part_grows, part_needs, part_fails, part_ends, part_ends_before, part_closes, inner_on, closed_needs, closed_wrong, closed_chunk, closed_whole}
use Rattle.ap_stream.proofs.StandLaws.{begin_white, begin_bracket}
use Rattle.ap_stream.proofs.AtEndLaws.{Begins, begun, in_blank}
use Rattle.ap_stream.proofs.ByteLaws.{nothing_part, some_part}

-- laws

blank_part : (p : List ℕ) → blank_first p ≡ true → part_first p ≡ true
blank_part [] h = absurd (cc)
blank_part (b ∷ bs) h = rw h refl

unit_part : (at : Spot) (done : List ℕ) → InUnit Lexical at done → part_first done ≡ true
unit_part at done h = ap part_first h.begins

-- a part so far begins as parts do
pub part_begins : (at : Mode) (done part : List ℕ) → between at ≡ false → StandsPart at done part →
    part_first done ≡ true
part_begins mode.Start done part e h = absurd (cc)
part_begins mode.Escape done part e h = absurd h
part_begins mode.Blank done part e h = blank_part done h.1.begins
part_begins mode.Inside done part e h = blank_part done h.begins
part_begins mode.InsideEscape done part e h = blank_part done h.begins
part_begins (mode.Word at) done part e h = unit_part at done h.0
part_begins (mode.WordEscape at) done part e h =
    ap part_first h.0.done_is ∙ part_on h.0.before (92 ∷ []) (unit_part at h.0.before h.0.unit)
part_begins (mode.Tag at some) done part e h =
    ap part_first h.0.done_is ∙ part_on h.0.before (60 ∷ h.0.named)
    (unit_part at h.0.before h.0.unit)

pub part_stands : (at : Mode) (done part : List ℕ) → between at ≡ false → StandsPart at done part →
    Stands Lexical at done part
part_stands mode.Start done part e h = absurd (cc)
part_stands mode.Escape done part e h = absurd h
part_stands mode.Blank done part e h = h
part_stands mode.Inside done part e h = h
part_stands mode.InsideEscape done part e h = h
part_stands (mode.Word at) done part e h = h
part_stands (mode.WordEscape at) done part e h = h
part_stands (mode.Tag at some) done part e h = h

pub stands_part : (at : Mode) (done part : List ℕ) → part_first done ≡ true →
    Stands Lexical at done part → StandsPart at done part
stands_part mode.Start done part e h =
    absurd (let k : part_first [] ≡ true = subst (λ (q : List ℕ). part_first q ≡ true) h.0 e in cc)
stands_part mode.Escape done part e h =
    absurd (let k : part_first (92 ∷ []) ≡ true =
    subst (λ (q : List ℕ). part_first q ≡ true) h.0 e in cc)
stands_part mode.Blank done part e h = h
stands_part mode.Inside done part e h = h
stands_part mode.InsideEscape done part e h = h
stands_part (mode.Word at) done part e h = h
stands_part (mode.WordEscape at) done part e h = h
stands_part (mode.Tag at some) done part e h = h

last_caret : (p : List ℕ) → caret_first p ≡ true → last p ≡ Broken (Bad Unfinished)
unfolding last
last_caret [] h = refl
last_caret (b ∷ bs) h = let is : b ≡ 94 = eqb-true b 94 h in rw is refl

-- what the bytes say, where no byte follows

begun_chunk : (dialect : Dialect) (held : List ℕ) → first dialect held ≡ Needs →
    caret_first held ≡ true → Begins dialect held false
begun_chunk dialect held n c =
    record { needs = n; whole_is = λ e. absurd (cc); broken_is = λ _. last_caret held c }

open_part : (at : Mode) (done part : List ℕ) → (b : Bool) → between at ≡ b →
    StandsPart at done part →
    body 0 (done ++ part) ≡ Opens
open_part at done part false e h =
    let begins : part_first done ≡ true = part_begins at done part e h in
    let n : first Lexical (done ++ part) ≡ Needs =
    (begun Lexical at done part (part_stands at done part e h)
    (let l = length-append done part in let s = part_some done begins in
    omega (arith, l, s))).needs in
    let a = part_agrees (done ++ part) (part_on done part begins) in
    body_begun (done ++ part) (a.0 ∙ ap portion_of n)
open_part mode.Start done part true e h = rw (h.0, h.1) body_nil
open_part mode.Escape done part true e h = absurd h
open_part mode.Blank done part true e h = absurd (cc)
open_part mode.Inside done part true e h = absurd (cc)
open_part mode.InsideEscape done part true e h = absurd (cc)
open_part (mode.Word at) done part true e h = absurd (cc)
open_part (mode.WordEscape at) done part true e h = absurd (cc)
open_part (mode.Tag at some) done part true e h = absurd (cc)

pub begun_in : (dialect : Dialect) (at : Level) (done part : List ℕ) →
    StandsIn dialect at done part →
    0 < length (done ++ part) → Begins dialect (done ++ part) (at_blank at)
begun_in dialect (level.Item at) done part h some = begun dialect at done part h some
begun_in dialect (level.Part from at) done part h some =
    let grown : InPart dialect from (done ++ part) = part_grows dialect from done h.0 part in
    let inner : drop from (done ++ part) ≡ drop from done ++ part =
    inner_on dialect from done h.0 part in
    begun_chunk dialect (done ++ part)
    (part_needs dialect from (done ++ part) grown
    (ap (body 0) inner ∙ open_part at (drop from done) part (between at) refl h.1))
    (caret_on done part h.0.begins)
begun_in dialect level.Closed done part h some =
    let same : done ≡ done ++ part = sym (append-nil done) ∙ ap (λ q. done ++ q) (sym h.1) in
    subst (λ (q : List ℕ). Begins dialect q false) same
    (begun_chunk dialect done (closed_needs dialect done h.0) h.0.begins)

pub begun_at : (dialect : Dialect) (held : List ℕ) (done : ℕ) (at : Level) →
    StandsIn dialect at (take done held) (drop done held) → 0 < length held →
    Begins dialect held (at_blank at)
begun_at dialect held done at h some =
    let more : 0 < length (take done held ++ drop done held) =
    rw (take-append-drop done held) some in
    rw (take-append-drop done held) at (begun_in dialect at (take done held)
    (drop done held) h more)

pub in_blank_at : (dialect : Dialect) (held : List ℕ) (done : ℕ) (at : Level) →
    StandsIn dialect at (take done held) (drop done held) → at_blank at ≡ true → InBlank held
in_blank_at dialect held done (level.Item at) h e = in_blank dialect held done at h e
in_blank_at dialect held done (level.Part from at) h e = absurd (cc)
in_blank_at dialect held done level.Closed h e = absurd (cc)

pub some_stood : (dialect : Dialect) (at : Level) (done part : List ℕ) →
    StoodIn dialect at done part → 0 < length part
some_stood dialect at done part h = some_part h.old part h.byte h.part_is

-- what one more byte tells

wrong_kind : (f : Front) → wrong_front f ≢ Unfinished
wrong_kind Part e = cc
wrong_kind NotChar e = cc
wrong_kind (Char c n) e = cc

by_cond : (P : Effect → Type 0) (b : Bool) (s t : Effect) → (b ≡ true → P s) → (b ≡ false → P t) →
    P (cond b s t)
by_cond P true s t h k = h refl
by_cond P false s t h k = k refl

neither : (a b : Bool) → a ≡ false → b ≡ false → (a || b) ≡ false
neither a b h k = rw (h, k) refl

-- the first byte of a part, or the one behind the last
module _ (dialect : Dialect) (at : Level) (done : List ℕ) (b from : ℕ)
    (h : InPart dialect from (done ++ b ∷ [])) (inner : drop from (done ++ b ∷ []) ≡ b ∷ []) where
  abbrev Told : Effect → Type 0
  Told s = Tells dialect at done (b ∷ []) s

  goes_part : (to : Mode) → StandsPart to (b ∷ []) [] → Told (effect.Goes (level.Part from to))
  goes_part to s = (h, subst (λ (q : List ℕ). StandsPart to q []) (sym inner) s)

  byte_told : Told (portion_effect (b ∷ []) from)
  byte_told =
      by_cond Told (is_white b) _ _ (λ w. goes_part mode.Blank (refl, begin_white b w))
      (λ w. by_cond Told (eqb b 91) _ _
      (λ e. goes_part mode.Inside
      (subst (λ z. Within false (z ∷ []) []) (sym (eqb-true b 91 e)) begin_bracket))
      (λ k. by_cond Told (eqb b 94) _ _
      (λ e. goes_part (mode.Word (spot true true)) (
        subst (λ z. InUnit Lexical (spot true true) (z ∷ [])) (sym (eqb-true b 94 e))
            (unit_begins Lexical refl),
        nothing_part,
      ))
      (λ l. by_cond Told (eqb b 125) _ _
      (λ e. (
        part_closes dialect from (done ++ b ∷ []) h
            (inner ∙ ap (λ z. z ∷ []) (eqb-true b 125 e)),
        refl,
      ))
      (λ m. (
        part_fails dialect from (done ++ b ∷ []) h (wrong_byte b)
            (λ x. ap (λ (q : List ℕ). body 0 (q ++ x)) inner
            ∙ body_wrong b x (neither (is_white b) (eqb b 91) w k) l m),
        wrong_kind (char_at (b ∷ [])),
      )))))

pub portion_told : (dialect : Dialect) (at : Level) (done part : List ℕ) (b from : ℕ) →
    part ≡ b ∷ [] → InPart dialect from (done ++ b ∷ []) → drop from (done ++ b ∷ []) ≡ b ∷ [] →
    Tells dialect at done part (portion_effect part from)
portion_told dialect at done part b from is h inner =
    subst (λ (q : List ℕ). Tells dialect at done q (portion_effect q from)) (sym is)
    (byte_told dialect at done b from h inner)

-- between two parts
pub between_told : (dialect : Dialect) (from : ℕ) (at : Mode) (done part : List ℕ) →
    between at ≡ true → StoodIn dialect (level.Part from at) done part →
    Tells dialect (level.Part from at) done part (portion_effect part from)
between_told dialect from mode.Start done part e h =
    let is : part ≡ h.byte ∷ [] = h.part_is ∙ ap (λ (q : List ℕ). q ++ h.byte ∷ []) h.stands.1.1 in
    portion_told dialect (level.Part from mode.Start) done part h.byte from is
    (part_grows dialect from done h.stands.0 (h.byte ∷ []))
    (inner_on dialect from done h.stands.0 (h.byte ∷ [])
    ∙ ap (λ (q : List ℕ). q ++ h.byte ∷ []) h.stands.1.0)
between_told dialect from mode.Escape done part e h = absurd (cc)
between_told dialect from mode.Blank done part e h = absurd (cc)
between_told dialect from mode.Inside done part e h = absurd (cc)
between_told dialect from mode.InsideEscape done part e h = absurd (cc)
between_told dialect from (mode.Word spot) done part e h = absurd (cc)
between_told dialect from (mode.WordEscape spot) done part e h = absurd (cc)
between_told dialect from (mode.Tag spot some) done part e h = absurd (cc)

-- within a part
module _ (dialect : Dialect) (from : ℕ) (at : Mode) (done part : List ℕ)
    (within : between at ≡ false)
    (h : StoodIn dialect (level.Part from at) done part) where
  begins : part_first (drop from done) ≡ true
  begins = part_begins at (drop from done) h.old within h.stands.1

  grown : InPart dialect from (done ++ part)
  grown = part_grows dialect from done h.stands.0 part

  inner_is : drop from (done ++ part) ≡ drop from done ++ part
  inner_is = inner_on dialect from done h.stands.0 part

  begins_all : (x : List ℕ) → part_first ((drop from done ++ part) ++ x) ≡ true
  begins_all x = part_on (drop from done ++ part) x (part_on (drop from done) part begins)

  portion_is : (f : First) → Always Lexical (drop from done ++ part) f → (x : List ℕ) →
      portion ((drop from done ++ part) ++ x) ≡ portion_of f
  portion_is f e x = (part_agrees _ (begins_all x)).0 ∙ ap portion_of (e x)

  pub blank_told : Tells Lexical (level.Item at) (drop from done) part effect.BlankEnds →
      Tells dialect (level.Part from at) done part (portion_effect part (length done))
  blank_told s =
      let b : ℕ = get_or part 0 0 in
      let blank : List ℕ = drop from done in
      let there : (x : List ℕ) → portion (drop from done ++ (get_or part 0 0 ∷ x))
      ≡ Held (inner.Blank (drop from done)) (length (drop from done)) =
      λ x. ap portion (ap (λ (q : List ℕ). drop from done ++ (q ++ x)) (sym s.1)
      ∙ sym (append_assoc (drop from done) part x))
      ∙ portion_is (Whole (item.Blank (drop from done)) (length (drop from done))) s.2 x in
      portion_told dialect (level.Part from at) done part b (length done) s.1
      (part_ends_before dialect from done h.stands.0 (inner.Blank blank) b s.0 there)
      (drop-append_seam done (get_or part 0 0 ∷ []))

  pub unit_told : (end : ℕ) → end ≡ length done + length part →
      Tells Lexical (level.Item at) (drop from done) part effect.UnitEnds →
      Tells dialect (level.Part from at) done part (effect.Goes (level.Part end mode.Start))
  unit_told end e s =
      let all : length (done ++ part) ≡ end = length-append done part ∙ sym e in
      let some : 0 < length (drop from (done ++ part)) =
      rw inner_is (part_some _ (part_on (drop from done) part begins)) in
      let there : (x : List ℕ) → portion (drop from (done ++ part) ++ x)
      ≡ Held (inner.Unit s.0) (length (drop from (done ++ part))) =
      λ x. rw inner_is (portion_is (Whole (item.Unit s.0) (length (drop from done ++ part)))
      (unit_always Lexical (drop from done ++ part) s.0 s.1) x) in
      subst
      (λ n. InPart dialect n (done ++ part) × StandsPart mode.Start (drop n (done ++ part)) []) all (
        part_ends dialect from (done ++ part) grown (inner.Unit s.0) some there,
        (drop-length (done ++ part), refl),
      )

  pub bad_told : (kind : MalformedKind) → Tells Lexical (level.Item at) (drop from done) part (effect.Bad kind) →
      Tells dialect (level.Part from at) done part (effect.Bad kind)
  bad_told kind s = (
    part_fails dialect from (done ++ part) grown kind (λ x. ap
        (λ (q : List ℕ). body 0 (q ++ x)) inner_is
        ∙ body_barred ((drop from done ++ part) ++ x) kind (part_some _ (begins_all x))
        (portion_is (Faulty (Bad kind)) s.0 x)),
    s.1,
  )

  pub never_plain : (c : _) → Tells Lexical (level.Item at) (drop from done) part (effect.Plain c) → ⊥
  never_plain c s =
      subst IsPart (s []) (part_agrees ((drop from done ++ part) ++ []) (begins_all [])).1

-- behind the content's brace
module _ (dialect : Dialect) (done part : List ℕ) (h : StoodIn dialect level.Closed done part) where
  pub only_byte : part ≡ h.byte ∷ []
  only_byte = h.part_is ∙ ap (λ (q : List ℕ). q ++ h.byte ∷ []) h.stands.1

  pub chunk_told : eqb (get_or part 0 0) 36 ≡ true →
      Tells dialect level.Closed done part effect.ChunkEnds
  chunk_told e =
      let is : h.byte ≡ 36 =
      eqb-true h.byte 36 (ap (λ (q : List ℕ). eqb (get_or q 0 0) 36) (sym only_byte) ∙ e) in
      let all : part ≡ 36 ∷ [] = only_byte ∙ ap (λ z. z ∷ []) is in
      subst (λ (q : List ℕ). Tells dialect level.Closed done q effect.ChunkEnds) (sym all) (
        closed_chunk dialect done h.stands.0,
        h.stands.0.chunks,
        closed_whole dialect done
            h.stands.0,
      )

  pub no_dollar_told : eqb (get_or part 0 0) 36 ≡ false →
      Tells dialect level.Closed done part (effect.Bad (wrong_front (char_at part)))
  no_dollar_told e =
      let other : eqb h.byte 36 ≡ false =
      ap (λ (q : List ℕ). eqb (get_or q 0 0) 36) (sym only_byte) ∙ e in
      subst (λ (q : List ℕ). Tells dialect level.Closed done q
      (effect.Bad (wrong_front (char_at q))))
      (sym only_byte)
      (closed_wrong dialect done h.stands.0 h.byte other, wrong_kind (char_at (h.byte ∷ [])))
