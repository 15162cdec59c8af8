-- Where the text ends.
use Rattle.std.specs.Prelude.{◌≡◌, ℕ, ◌<◌, List, [], ◌∷◌, ◌++◌, drop, take, length, Bool, true, false, eqb, ◌&&◌, not, refl}
use Rattle.std.proofs.Common.{arith, ap, sym, subst, ◌∙◌, append_assoc}
use Rattle.std.proofs.lemmas.List.{append-nil, take-append-drop}
use Rattle.std.proofs.lemmas.Bool.{eqb-true}
use Rattle.ap_stream.specs.declared.fault.MalformedKind.TheVariants.{Unfinished}
use Rattle.ap_stream.specs.declared.examine.Mode.{Mode}
use Rattle.ap_stream.specs.declared.examine.Mode.TheVariants as mode
use Rattle.ap_stream.specs.declared.level.Level.TheVariants as level
use Rattle.ap_stream.specs.declared.dialect.Dialect.{Dialect}
use Rattle.ap_stream.specs.Chars.{Part, char_at}
use Rattle.ap_stream.specs.Blanks.{Run, Open, Inside, blank, further}
use Rattle.ap_stream.proofs.BlankLaws.{inside_part}
use Rattle.ap_stream.specs.Reading.{Needs, Bad, Complete, Broken, first, last, of_run, last_run}
use Rattle.ap_stream.specs.Stands.{Stands, InBlank, Within, blank_first, InUnit, InEscape, InTag, at_blank}
use Rattle.ap_stream.proofs.StandLaws.{escape_first, unit_first, tag_first}
use Rattle.ap_stream.specs.declared.examine.Spot.{Spot}
use Rattle.ap_stream.specs.Dialects.{has_units}
use Rattle.ap_stream.proofs.InUnitLaws.{unit_needs, surface_is}
use Rattle.ap_stream.specs.Units.{form_of, rest, Lacks, sign, Awaits, name, behind_name, Runs, in_surface}
use Rattle.ap_stream.proofs.UnitLaws.{name_part, rest_awaits}
use Rattle.ap_stream.specs.Items.{Item}

-- what is begun
pub record Begins (dialect : Dialect) (held : List ℕ) (whole : Bool) : Type 0 where
  pub needs : first dialect held ≡ Needs
  pub whole_is : whole ≡ true → last held ≡ Complete (Item.Blank held)
  pub broken_is : whole ≡ false → last held ≡ Broken (Bad Unfinished)

not_escape : (p : List ℕ) → char_at p ≡ Part → escape_first p ≡ false
unfolding char_at
not_escape [] h = refl
not_escape (b ∷ bs) h = elim (eqb b 92) as (λ v. eqb b 92 ≡ v → v ≡ false) [
  | true ↦
      (λ e. absurd (let is : b ≡ 92 = eqb-true b 92 e in let k : char_at (92 ∷ bs)
      ≡ Part = rw is at h
      in cc))
  | false ↦ (λ e. refl)
] refl

of_blank : (dialect : Dialect) (held : List ℕ) (r : Run) → blank_first held ≡ true →
    blank 0 held ≡ r → (first dialect held ≡ of_run held r) × (last held ≡ last_run held r)
unfolding first last
of_blank dialect [] r h k = absurd (cc)
of_blank dialect (b ∷ bs) r h k = (rw (h, k) refl, rw (h, k) refl)

pub begun_blank : (dialect : Dialect) (held : List ℕ) → InBlank held → Begins dialect held true
unfolding blank
begun_blank dialect held h =
    let run : blank 0 held ≡ Open = rw append-nil at (h.on []) in
    let k = of_blank dialect held Open h.begins run in
    record { needs = k.0; whole_is = λ _. k.1; broken_is = λ e. absurd (cc) }

begins_on : (done part : List ℕ) → blank_first done ≡ true → blank_first (done ++ part) ≡ true
begins_on [] part h = absurd (cc)
begins_on (a ∷ done) part h = h

begun_within : (dialect : Dialect) (e : Bool) (done part : List ℕ) → Within e done part →
    Begins dialect (done ++ part) false
begun_within dialect e done part h =
    let run : blank 0 (done ++ part) ≡ Inside =
    h.on part ∙ ap (further (length done)) (inside_part e part h.part_is) in
    let k = of_blank dialect (done ++ part) Inside (begins_on done part h.begins) run in
    record { needs = k.0; whole_is = λ t. absurd (cc); broken_is = λ _. k.1 }

not_tag : (p : List ℕ) (surface : Bool) → char_at p ≡ Part → tag_first surface p ≡ false
unfolding char_at
not_tag [] surface h = refl
not_tag (b ∷ bs) surface h =
    elim (eqb b 60) as (λ v. eqb b 60 ≡ v → (v && not surface) ≡ false) [
      | true ↦
          (λ e. absurd (let is : b ≡ 60 = eqb-true b 60 e in let k : char_at (60 ∷ bs)
          ≡ Part = rw is at h
          in cc))
      | false ↦ (λ e. refl)
    ] refl

not_unit : (dialect : Dialect) (p : List ℕ) → char_at p ≡ Part → unit_first dialect p ≡ false
unfolding char_at
not_unit dialect [] h = refl
not_unit dialect (b ∷ bs) h =
    elim (eqb b 94) as (λ v. eqb b 94 ≡ v → (has_units dialect && v) ≡ false) [
      | true ↦
          (λ e. absurd (let is : b ≡ 94 = eqb-true b 94 e in let k : char_at (94 ∷ bs)
          ≡ Part = rw is at h
          in cc))
      | false ↦ (λ e. and_no (has_units dialect))
    ] refl
  where
    and_no : (b : Bool) → (b && false) ≡ false
    and_no true = refl
    and_no false = refl

sign_part : (surface : Bool) (p : List ℕ) → char_at p ≡ Part → sign surface p ≡ Awaits
unfolding sign
sign_part surface [] h = refl
sign_part surface (b ∷ bs) h = rw (not_escape (b ∷ bs) h, not_tag (b ∷ bs) surface h, h) refl

-- no byte follows within a unit
last_unit : (t : List ℕ) → last (94 ∷ t) ≡ Broken (Bad Unfinished)
unfolding last
last_unit t = refl

begun_unit : (dialect : Dialect) (at : Spot) (done p : List ℕ) (h : InUnit dialect at done) →
    rest (form_of dialect) h.words h.word 0 p ≡ Lacks → Begins dialect (done ++ p) false
begun_unit dialect at done p h e = record {
  needs = unit_needs dialect at done h p e;
  whole_is = λ t. absurd (cc);
  broken_is = λ _. ap (λ q. last (q ++ p)) h.begins ∙ last_unit (h.tail ++ p);
}

sign_escape_part : (surface : Bool) (p : List ℕ) → char_at p ≡ Part → sign surface (92 ∷ p) ≡ Awaits
unfolding sign
sign_escape_part surface p h = rw h refl

sign_name_part : (named p : List ℕ) →
    ((x : List ℕ) → name 0 (named ++ x) ≡ behind_name (length named) (name 0 x)) →
    char_at p ≡ Part → sign false (60 ∷ (named ++ p)) ≡ Awaits
unfolding sign
sign_name_part named p on h = let e : name 0 (named ++ p) ≡ Runs =
    on p ∙ ap (behind_name (length named)) (name_part p h) in rw e refl

begun_escape_in : (dialect : Dialect) (at : Spot) (done p : List ℕ) (h : InEscape dialect at done) →
    char_at p ≡ Part → Begins dialect (done ++ p) false
begun_escape_in dialect at done p h e =
    let is : h.before ++ (92 ∷ p) ≡ done ++ p =
    sym (ap (λ q. q ++ p) h.done_is ∙ append_assoc h.before (92 ∷ []) p) in
    let P : List ℕ → Type 0 = λ q. Begins dialect q false in
    subst P is (begun_unit dialect at h.before (92 ∷ p) h.unit
    (rest_awaits (form_of dialect) h.unit.words h.unit.word (92 ∷ p)
    (sign_escape_part (in_surface (form_of dialect) h.unit.words) p e)))

begun_tag : (dialect : Dialect) (at : Spot) (some : Bool) (done p : List ℕ)
    (h : InTag dialect at some done) → char_at p ≡ Part → Begins dialect (done ++ p) false
begun_tag dialect at some done p h e =
    let is : h.before ++ (60 ∷ (h.named ++ p)) ≡ done ++ p =
    sym (ap (λ q. q ++ p) h.done_is ∙ append_assoc h.before (60 ∷ h.named) p) in
    let bare : in_surface (form_of dialect) h.unit.words ≡ false =
    sym (surface_is dialect at h.before h.unit) ∙ h.bare in
    let P : List ℕ → Type 0 = λ q. Begins dialect q false in
    subst P is (begun_unit dialect at h.before (60 ∷ (h.named ++ p)) h.unit
    (rest_awaits (form_of dialect) h.unit.words h.unit.word (60 ∷ (h.named ++ p))
    (ap (λ v. sign v (60 ∷ (h.named ++ p))) bare ∙ sign_name_part h.named p h.on e)))

begun_start : (dialect : Dialect) (part : List ℕ) → 0 < length part → char_at part ≡ Part →
    blank_first part ≡ false → Begins dialect part false
unfolding first last
begun_start dialect [] some h k = absurd (omega arith)
begun_start dialect (b ∷ bs) some h k =
    let e : eqb b 92 ≡ false = not_escape (b ∷ bs) h in
    record {
      needs = rw (k, e, not_unit dialect (b ∷ bs) h, h) refl;
      whole_is =
          λ t. absurd (cc);
      broken_is = λ _. rw k refl;
    }

begun_escape : (dialect : Dialect) (part : List ℕ) → char_at part ≡ Part →
    Begins dialect (92 ∷ part) false
unfolding first last
begun_escape dialect part h =
    record { needs = rw h refl; whole_is = λ t. absurd (cc); broken_is = λ _. refl }

pub begun : (dialect : Dialect) (at : Mode) (done part : List ℕ) → Stands dialect at done part →
    0 < length (done ++ part) → Begins dialect (done ++ part) (at_blank (level.Item at))
begun dialect mode.Start done part h some =
    rw h.0 (begun_start dialect part (let P : List ℕ → Type 0 = λ q. 0 < length (q ++ part) in
    subst P h.0 some) h.1 h.2)
begun dialect mode.Escape done part h some = rw h.0 (begun_escape dialect part h.1)
begun dialect mode.Blank done part h some = rw (h.0, append-nil) (begun_blank dialect done h.1)
begun dialect mode.Inside done part h some = begun_within dialect false done part h
begun dialect mode.InsideEscape done part h some = begun_within dialect true done part h
begun dialect (mode.Word at) done part h some =
    begun_unit dialect at done part h.0
    (rest_awaits (form_of dialect) h.0.words h.0.word part
    (sign_part (in_surface (form_of dialect) h.0.words) part h.1))
begun dialect (mode.WordEscape at) done part h some = begun_escape_in dialect at done part h.0 h.1
begun dialect (mode.Tag at named) done part h some = begun_tag dialect at named done part h.0 h.1

pub in_blank : (dialect : Dialect) (held : List ℕ) (done : ℕ) (at : Mode) →
    Stands dialect at (take done held) (drop done held) → at_blank (level.Item at) ≡ true → InBlank held
in_blank dialect held done mode.Start h e = absurd (cc)
in_blank dialect held done mode.Escape h e = absurd (cc)
in_blank dialect held done mode.Blank h e =
    let is : take done held ≡ held = sym (append-nil (take done held))
    ∙ ap (λ q. take done held ++ q) (sym h.0) ∙ take-append-drop done held in
    let P : List ℕ → Type 0 = InBlank in subst P is h.1
in_blank dialect held done mode.Inside h e = absurd (cc)
in_blank dialect held done mode.InsideEscape h e = absurd (cc)
in_blank dialect held done (mode.Word at) h e = absurd (cc)
in_blank dialect held done (mode.WordEscape at) h e = absurd (cc)
in_blank dialect held done (mode.Tag at some) h e = absurd (cc)
