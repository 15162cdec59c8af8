-- Bytes that are crossed at once.
use Rattle.std.specs.Prelude.{◌≡◌, ◌==◌, ◌||◌, ℕ, suc, ◌+◌, ◌-◌, ◌<◌, ◌≤◌, List, [], ◌∷◌, ◌++◌, drop, take, length, min, Bool, true, false, cond, eqb, ltb, slice_index, refl, Option, Some, None}
use Rattle.std.proofs.Common.{arith, ap, sym, subst, ◌∙◌, append_assoc, length-append}
use Rattle.std.proofs.lemmas.List.{append-nil, take_all, drop_all, length-take, length-take-le, get_or-take, take-take}
use Rattle.std.proofs.lemmas.Bool.{ltb-true}
use Rattle.std.proofs.lemmas.Bool.Decides.{nat_tests}
use Rattle.ap_stream.specs.Limits.{unit_max}
use Rattle.ap_stream.specs.declared.examine.Mode.{Mode}
use Rattle.ap_stream.specs.declared.examine.Mode.TheVariants as mode
use Rattle.ap_stream.specs.declared.dialect.Dialect.{Dialect}
use Rattle.ap_stream.specs.declared.dialect.Dialect.TheVariants.{Lexical}
use Rattle.ap_stream.specs.declared.fault.MalformedKind.TheVariants.{Stray}
use Rattle.ap_stream.specs.declared.level.Level.{Level}
use Rattle.ap_stream.specs.declared.level.Level.TheVariants as level
use Rattle.ap_stream.specs.declared.level.Effect.{Effect}
use Rattle.ap_stream.specs.declared.level.Effect.TheVariants as effect
use Rattle.ap_stream.specs.Blanks.{is_white}
use Rattle.ap_stream.specs.Chars.{Char, char_at}
use Rattle.ap_stream.specs.Dialects.{is_refused}
use Rattle.ap_stream.specs.Reading.{begins_unit}
use Rattle.ap_stream.specs.Units.{form_of, Sign, Awaits, Bars, Reads, Slash, Dollar, Brace, of_bare, begins_tag}
use Rattle.ap_stream.specs.Effects.{surface_at, sign_effect, effect as table, goes_on, crossed_by, crossing, and_on}
use Rattle.ap_stream.specs.Stands.{Stands, InPart, StandsIn, StandsPart, StoodIn, Tells, at_blank, between, AllCross}
use Rattle.ap_stream.specs.Given.{Standing}
use Rattle.ap_stream.proofs.WordSteps.{by_cond}
use Rattle.ap_stream.proofs.EffectLaws.{char_told, blank_told}
use Rattle.ap_stream.proofs.ByteLaws.{nothing_part}
use Rattle.ap_stream.proofs.InChunkLaws.{part_first, part_grows, inner_on, part_on}
use Rattle.ap_stream.proofs.LevelLaws.{part_begins, part_stands, stands_part}

given : {A : Type 0} (x z : A) (R : A → Type 0) → Some x ≡ Some z → R x → R z
given x z R e r = let same : x ≡ z = cc in subst R same r

inside_crossed : (dialect : Dialect) (b : ℕ) → b < 128 → ((b == 93 || b == 92) ≡ true → ⊥) →
    crossed_by dialect mode.Inside b ≡ Some mode.Inside
inside_crossed dialect b small bare =
    let t : ltb b 128 ≡ true = grind (arith, nat_tests) in
    let m : eqb b 93 ≡ false = grind (arith, nat_tests, bare) in
    let n : eqb b 92 ≡ false = grind (arith, nat_tests, bare) in
    rw (t, m, n) refl

inside_run : (dialect : Dialect) (run : List ℕ) →
    ((k : ℕ) → k < length run → crossed_by dialect mode.Inside (slice_index run k) ≡ Some mode.Inside)
    → crossing dialect mode.Inside run ≡ Some mode.Inside
unfolding crossing
inside_run dialect [] all = refl
inside_run dialect (b ∷ run) all =
    ap (λ o. and_on o (λ next. crossing dialect next run)) (all 0 (omega arith))
    ∙ inside_run dialect run (λ k l. all (suc k) (omega arith))

-- bytes of a superblank before a bracket and a backslash
pub inside_all : (dialect : Dialect) (n : ℕ) (bytes : List ℕ) → n ≤ length bytes →
    ((k : ℕ) → k < n → slice_index bytes k < 128)
    → ((k : ℕ) → k < n → (slice_index bytes k == 93 || slice_index bytes k == 92) ≡ true → ⊥)
    → crossing dialect mode.Inside (take n bytes) ≡ Some mode.Inside
inside_all dialect n bytes fits small bare =
    let size : length (take n bytes) ≡ n = length-take-le n bytes fits in
    inside_run dialect (take n bytes) (λ k l.
    let less : k < n = omega (arith, l, size) in
    subst (λ b. crossed_by dialect mode.Inside b ≡ Some mode.Inside)
    (sym (get_or-take n bytes k 0 less))
    (inside_crossed dialect (slice_index bytes k) (small k less) (bare k less)))

-- how many bytes end with it is nothing to where an item so goes on
same_end : (dialect : Dialect) (at : Mode) (e f c : ℕ) →
    goes_on (table dialect at e c) ≡ goes_on (table dialect at f c)
same_end dialect mode.Start e f c = refl
same_end dialect mode.Escape e f c = refl
same_end dialect mode.Blank e f c = refl
same_end dialect mode.Inside e f c = refl
same_end dialect mode.InsideEscape e f c = refl
same_end dialect (mode.WordEscape at) e f c = refl
same_end dialect (mode.Tag at some) e f c = refl
same_end dialect (mode.Word at) e f c =
    by (eqb c 92) (begins_tag (surface_at dialect at) c)
    (of_bare (surface_at dialect at) (Char c 1))
  where
    brace : (b : Bool) → goes_on (cond b (effect.Goes (level.Part e mode.Start)) (effect.Bad Stray))
        ≡ goes_on (cond b (effect.Goes (level.Part f mode.Start)) (effect.Bad Stray))
    brace true = refl
    brace false = refl

    sign : (s : Sign) → goes_on (sign_effect (form_of dialect) at e s)
        ≡ goes_on (sign_effect (form_of dialect) at f s)
    sign Awaits = refl
    sign (Bars kind) = refl
    sign (Reads symbol n) = refl
    sign Slash = refl
    sign Dollar = refl
    sign Brace = brace (form_of dialect).braced

    by : (a b : Bool) (s : Sign) → goes_on (cond a (effect.Goes (level.Item (mode.WordEscape at)))
        (cond b (effect.Goes (level.Item (mode.Tag at false)))
        (sign_effect (form_of dialect) at e s)))
        ≡ goes_on (cond a (effect.Goes (level.Item (mode.WordEscape at)))
        (cond b (effect.Goes (level.Item (mode.Tag at false)))
        (sign_effect (form_of dialect) at f s)))
    by true b s = refl
    by false true s = refl
    by false false s = sign s

ascii_char : (b : ℕ) (x : List ℕ) → b < 128 → char_at (b ∷ x) ≡ Char b 1
unfolding char_at
ascii_char b x h = let t : ltb b 128 ≡ true = grind (arith, nat_tests) in rw t refl

-- a byte that is a character by itself
pub byte_told : (dialect : Dialect) (at : Mode) (done : List ℕ) (b end : ℕ) →
    Stands dialect at done [] → b < 128 → end ≡ length done + 1 →
    Tells dialect (level.Item at) done (b ∷ []) (table dialect at end b)
byte_told dialect at done b end h small e = by (at_blank (level.Item at)) refl
  where
    stood : StoodIn dialect (level.Item at) done (b ∷ [])
    stood = record { old = []; byte = b; part_is = refl; stands = h }

    by : (v : Bool) → at_blank (level.Item at) ≡ v →
        Tells dialect (level.Item at) done (b ∷ []) (table dialect at end b)
    by true k = blank_told dialect at done (b ∷ []) end k stood
    by false k = char_told dialect at done (b ∷ []) end b 1 k stood e (sym (ascii_char b [] small))

stands_on : (dialect : Dialect) (at to : Mode) (done part : List ℕ) (e : Effect) →
    Tells dialect (level.Item at) done part e → goes_on e ≡ Some to →
    Stands dialect to (done ++ part) []
stands_on dialect at to done part effect.Waits t k = absurd (cc)
stands_on dialect at to done part (effect.Goes (level.Item mode.Start)) t k = absurd (cc)
stands_on dialect at to done part (effect.Goes (level.Item mode.Escape)) t k = absurd (cc)
stands_on dialect at to done part (effect.Goes (level.Item mode.Blank)) t k = absurd (cc)
stands_on dialect at to done part (effect.Goes (level.Item mode.Inside)) t k =
    given mode.Inside to (λ m. Stands dialect m (done ++ part) []) k t
stands_on dialect at to done part (effect.Goes (level.Item mode.InsideEscape)) t k = absurd (cc)
stands_on dialect at to done part (effect.Goes (level.Item (mode.Word s))) t k =
    given (mode.Word s) to (λ m. Stands dialect m (done ++ part) []) k t
stands_on dialect at to done part (effect.Goes (level.Item (mode.WordEscape s))) t k = absurd (cc)
stands_on dialect at to done part (effect.Goes (level.Item (mode.Tag s some))) t k =
    given (mode.Tag s some) to (λ m. Stands dialect m (done ++ part) []) k t
stands_on dialect at to done part (effect.Goes (level.Part from m)) t k = absurd (cc)
stands_on dialect at to done part (effect.Goes level.Closed) t k = absurd (cc)
stands_on dialect at to done part (effect.Plain c) t k = absurd (cc)
stands_on dialect at to done part effect.BlankEnds t k = absurd (cc)
stands_on dialect at to done part effect.UnitEnds t k = absurd (cc)
stands_on dialect at to done part effect.ChunkEnds t k = absurd (cc)
stands_on dialect at to done part (effect.Bad kind) t k = absurd (cc)
stands_on dialect at to done part effect.TooLong t k = absurd (cc)

one_more : {A : Type 0} (t : Bool) (x : Option A) (z : A) → cond t x None ≡ Some z →
    (t ≡ true) × (x ≡ Some z)
one_more true x z e = (refl, e)
one_more false x z e = absurd (cc)

crossed_on : (dialect : Dialect) (at to : Mode) (done : List ℕ) (b : ℕ) → Stands dialect at done [] →
    crossed_by dialect at b ≡ Some to → Stands dialect to (done ++ b ∷ []) []
crossed_on dialect at to done b h e =
    let k = one_more (ltb b 128) (goes_on (table dialect at 0 b)) to e in
    stands_on dialect at to done (b ∷ []) (table dialect at (length done + 1) b)
    (byte_told dialect at done b (length done + 1) h (ltb-true b 128 k.0) refl)
    (same_end dialect at (length done + 1) 0 b ∙ k.1)

pub crossed_all : (dialect : Dialect) (at to : Mode) (done run : List ℕ) → Stands dialect at done [] →
    crossing dialect at run ≡ Some to → Stands dialect to (done ++ run) []
unfolding crossing
crossed_all dialect at to done [] h e =
    subst (λ (q : List ℕ). Stands dialect to q []) (sym (append-nil done))
    (given at to (λ m. Stands dialect m done []) e h)
crossed_all dialect at to done (b ∷ run) h e =
    by (crossed_by dialect at b) refl e
    (λ next k l. crossed_all dialect next to (done ++ b ∷ []) run k l)
  where
    by : (o : Option Mode) → crossed_by dialect at b ≡ o →
        and_on o (λ next. crossing dialect next run) ≡ Some to
        → ((next : Mode) → Stands dialect next (done ++ b ∷ []) [] → crossing dialect next run
        ≡ Some to → Stands dialect to ((done ++ b ∷ []) ++ run) []) →
        Stands dialect to (done ++ b ∷ run) []
    by None k l more = absurd (cc)
    by (Some next) k l more =
        subst (λ (q : List ℕ). Stands dialect to q []) (append_assoc done (b ∷ []) run)
        (more next (crossed_on dialect at next done b h k) l)

-- one byte more is crossed
pub crossing_more : (dialect : Dialect) (at to next : Mode) (run : List ℕ) (b : ℕ) →
    crossing dialect at run ≡ Some to → crossed_by dialect to b ≡ Some next →
    crossing dialect at (run ++ b ∷ []) ≡ Some next
unfolding crossing
crossing_more dialect at to next [] b e k = let same : at ≡ to = cc in
    ap (λ m. and_on (crossed_by dialect m b) (λ z. Some z)) same
    ∙ ap (λ o. and_on o (λ z. Some z)) k
crossing_more dialect at to next (a ∷ run) b e k =
    by (crossed_by dialect at a) e (λ mid l. crossing_more dialect mid to next run b l k)
  where
    by : (o : Option Mode) → and_on o (λ z. crossing dialect z run) ≡ Some to →
        ((mid : Mode) → crossing dialect mid run ≡ Some to →
        crossing dialect mid (run ++ b ∷ []) ≡ Some next)
        → and_on o (λ z. crossing dialect z (run ++ b ∷ [])) ≡ Some next
    by None l more = absurd (cc)
    by (Some mid) l more = more mid l

pub crossing_none : (dialect : Dialect) (at : Mode) → crossing dialect at [] ≡ Some at
unfolding crossing
crossing_none dialect at = refl

-- before a part only what begins one is crossed
start_part : (b : ℕ) (run : List ℕ) (to : Mode) → crossed_by Lexical mode.Start b ≡ Some to →
    part_first (b ∷ run) ≡ true
start_part b run to e =
    by_cond P (is_white b) _ _ (λ w k. rw w refl)
    (λ w. by_cond P (eqb b 91) _ _ (λ a k. rw (w, a) refl)
    (λ a. by_cond P (eqb b 92) _ _ (λ s k. absurd (cc))
    (λ s. by_cond P (begins_unit Lexical b) _ _ (λ u k. rw (w, a, u) refl)
    (λ u. by_cond P (is_refused Lexical b) _ _ (λ r k. absurd (cc)) (λ r k. absurd (cc))))))
    (one_more (ltb b 128) (goes_on (table Lexical mode.Start 0 b)) to e).1
  where
    P : Effect → Type 0
    P s = goes_on s ≡ Some to → part_first (b ∷ run) ≡ true

starts_part : (run : List ℕ) (to : Mode) → 0 < length run → crossing Lexical mode.Start run ≡ Some to →
    part_first run ≡ true
unfolding crossing
starts_part [] to some e = absurd (omega arith)
starts_part (b ∷ run) to some e = by (crossed_by Lexical mode.Start b) refl e
  where
    by : (o : Option Mode) → crossed_by Lexical mode.Start b ≡ o →
        and_on o (λ next. crossing Lexical next run) ≡ Some to → part_first (b ∷ run) ≡ true
    by None k l = absurd (cc)
    by (Some next) k l = start_part b run next k

crossed_part : (at to : Mode) (held run : List ℕ) (b : Bool) → between at ≡ b →
    StandsPart at held [] → 0 < length run → crossing Lexical at run ≡ Some to →
    StandsPart to (held ++ run) []
crossed_part at to held run false e h some all =
    stands_part to (held ++ run) [] (part_on held run (part_begins at held [] e h))
    (crossed_all Lexical at to held run (part_stands at held [] e h) all)
crossed_part mode.Start to held run true e h some all =
    subst (λ (q : List ℕ). StandsPart to (q ++ run) []) (sym h.0)
    (stands_part to run [] (starts_part run to some all)
    (crossed_all Lexical mode.Start to [] run (refl, nothing_part, refl) all))
crossed_part mode.Escape to held run true e h some all = absurd h
crossed_part mode.Blank to held run true e h some all = absurd (cc)
crossed_part mode.Inside to held run true e h some all = absurd (cc)
crossed_part mode.InsideEscape to held run true e h some all = absurd (cc)
crossed_part (mode.Word at) to held run true e h some all = absurd (cc)
crossed_part (mode.WordEscape at) to held run true e h some all = absurd (cc)
crossed_part (mode.Tag at more) to held run true e h some all = absurd (cc)

-- in a content too
crossed_in : (dialect : Dialect) (at to : Level) (held run : List ℕ) → 0 < length run →
    AllCross dialect at to (length run) run → StandsIn dialect at held [] →
    StandsIn dialect to (held ++ run) []
crossed_in dialect (level.Item at) to held run some all h =
    subst (λ (z : Level). StandsIn dialect z (held ++ run) []) (sym all.1)
    (crossed_all dialect at all.0 held run h (rw (take_all (length run) run (omega arith)) at all.2))
crossed_in dialect (level.Part from at) to held run some all h =
    let grown : InPart dialect from (held ++ run) = part_grows dialect from held h.0 run in
    let inner : drop from held ++ run ≡ drop from (held ++ run) =
    sym (inner_on dialect from held h.0 run) in
    subst (λ (z : Level). StandsIn dialect z (held ++ run) []) (sym all.1) (
      grown,
      subst (λ (q : List ℕ). StandsPart all.0 q []) inner
          (crossed_part at all.0 (drop from held) run (between at) refl h.1 some
          (rw (take_all (length run) run (omega arith)) at all.2)),
    )
crossed_in dialect level.Closed to held run some all h = absurd (omega (arith, some, all))

-- so many of the first bytes
some_cross : (dialect : Dialect) (at to : Level) (n : ℕ) (bytes : List ℕ) → n ≤ length bytes →
    AllCross dialect at to n bytes → AllCross dialect at to (length (take n bytes)) (take n bytes)
some_cross dialect at to n bytes fits h = by at h
  where
    twice : take n bytes ≡ take (length (take n bytes)) (take n bytes)
    twice = sym (take_all (length (take n bytes)) (take n bytes) (omega arith))

    by : (at : Level) → AllCross dialect at to n bytes →
        AllCross dialect at to (length (take n bytes)) (take n bytes)
    by (level.Item at) h = (h.0, h.1, ap (crossing dialect at) (sym twice) ∙ h.2)
    by (level.Part from at) h = (h.0, h.1, ap (crossing Lexical at) (sym twice) ∙ h.2)
    by level.Closed h = length-take-le n bytes fits ∙ h

-- a reader crosses such bytes
pub stands_crossed : (dialect : Dialect) (done size n m : ℕ) (held piece after : List ℕ)
    (looked : Bool) (at to : Level) → looked ≡ true → 0 < n →
    Standing dialect looked at done held → length held ≤ done → n ≤ length (take m piece) →
    AllCross dialect at to n (take m piece) → m ≤ unit_max - length held →
    after ≡ held ++ take n piece → size ≡ length after → Standing dialect looked to size after
stands_crossed dialect done size n m held piece after false at to e some h d fits all short a
    s = absurd (cc)
stands_crossed dialect done size n m held piece after true at to e some h d fits all short a s =
    let few : length held ≤ unit_max = h.short refl in
    let cut : length (take m piece) ≡ min m (length piece) = length-take m piece in
    let shorter : take n (take m piece) ≡ take n piece =
    take-take n m piece (omega (arith, cut, fits)) in
    let len : length (take n piece) ≡ n = length-take n piece ∙ omega (arith, cut, fits) in
    let total : length after ≡ length held + n = ap length a ∙ length-append held (take n piece)
    ∙ ap (λ k. length held + k) len in
    let runs : AllCross dialect at to (length (take n piece)) (take n piece) =
    subst (λ (q : List ℕ). AllCross dialect at to (length q) q) shorter
    (some_cross dialect at to n (take m piece) fits all) in
    let here : StandsIn dialect at held [] =
    rw (take_all done held d, drop_all done held d) at h.stands in
    let there : StandsIn dialect to after [] =
    subst (λ (q : List ℕ). StandsIn dialect to q []) (sym a)
    (crossed_in dialect at to held (take n piece) (omega (arith, some, len)) runs here) in
    record {
      fits = omega (arith, s);
      short = λ _. omega (arith, total, cut, fits, few, short);
      stands = rw (take_all size after (omega (arith, s)), drop_all size after (omega (arith, s)))
          there;
    }
