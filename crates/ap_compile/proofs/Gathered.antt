-- Gatherings: entries that end alike share one draft of each part that they end with.
use Rattle.std.proofs.Common.{◌≡◌, ◌⊎◌, inl, inr, ℕ, ◌+◌, ◌-◌, ◌<◌, ◌≤◌, Bool, ◌&&◌, List, [], ◌∷◌, ◌++◌, refl, sym, ◌∙◌, ap, subst, arith, append-nil, append_assoc, length-append, Option, Some, None, slice_get, length, take, get_or, suc, zero}
use Rattle.std.specs.Prelude.{IsTrue, ◌↔◌}
use Rattle.std.specs.List.{list_all}
use Rattle.std.specs.List.Sorted.{IsPermutation}
use Rattle.std.proofs.Math.Seq.{take-append_seam}
use Rattle.std.proofs.lemmas.Bool.{and_parts, cases_lt}
use Rattle.std.proofs.lemmas.List.{take_more, take_all, take-take, map-append, length-map, length-take-le, get_or_append_left}
use Rattle.std.proofs.lemmas.List.Folds.{list_all-append}
use Rattle.std.proofs.lemmas.Option.{slice_get_within}
use Rattle.ap_symbol.specs.Lists.{IsIn}
use Rattle.ap_dix.specs.Derivation.{Label as EntryLabel, Derives, nothing, is_kept}
use Rattle.ap_dix.specs.declared.dictionary.Dictionary.{Dictionary}
use Rattle.ap_dix.specs.declared.dictionary.Direction.{Direction}
use Rattle.ap_dix.specs.declared.dictionary.Entry.{Entry}
use Rattle.ap_dix.specs.declared.dictionary.EntryPart.{EntryPart}
use Rattle.ap_fst.specs.Sketches.{Sketch}
use Rattle.ap_fst.specs.Paths.{Accepts, IsEither}
use Rattle.ap_fst.specs.declared.label.Label.{Label}
use Rattle.ap_fst.proofs.Listing.{in_permutation}
use Rattle.ap_compile.specs.Labels.{derived_labels, ArePlain}
use Rattle.ap_compile.specs.Drafts.{IsDraftOf, IsCut, Any, Spells, AreDraftedParts, is_drafted_part}
use Rattle.ap_compile.specs.Gatherings.{HasPlace, SpellsFrom, Tells, endings, shared, InLevels, Gathers, IsPlainDraft, IsPlainGathering, IsGatheringOf, IsGrown, among_made, before_shared}
use Rattle.ap_compile.specs.declared.gathering.Gathering.{Gathering}
use Rattle.ap_compile.specs.declared.gathering.Level.{Level}
use Rattle.ap_compile.specs.declared.places.Place.{Place}
use Rattle.ap_compile.proofs.Drafting.{built_labels, derived_built, derived_injective, same_draft, more_draft, more_added}
use Rattle.ap_compile.proofs.Choosing.{in_front, in_back, in_either, any_last}
use Rattle.ap_compile.proofs.Deriving.{derives_cut, derives_joined, none_derived}

pub all_got : {X : Type 0} (p : X → Bool) (xs : List X) (k : ℕ) (x : X) → slice_get xs k ≡ Some x →
    IsTrue (list_all p xs) → IsTrue (p x)
all_got p [] zero x h all = cc
all_got p [] (suc k) x h all = cc
all_got p (y ∷ xs) zero x h all = let e : y ≡ x = cc in
    subst (λ z. IsTrue (p z)) e ((and_parts (p y) (list_all p xs) all).0)
all_got p (y ∷ xs) (suc k) x h all = all_got p xs k x h ((and_parts (p y) (list_all p xs) all).1)

-- places of entries

pub got_in : {X : Type 0} (xs : List X) (k : ℕ) (x : X) → slice_get xs k ≡ Some x → IsIn x xs
got_in [] zero x h = cc
got_in [] (suc k) x h = cc
got_in (y ∷ xs) zero x h = let e : y ≡ x = cc in inl (sym e)
got_in (y ∷ xs) (suc k) x h = inr (got_in xs k x h)

in_got : {X : Type 0} (x : X) (xs : List X) → IsIn x xs → (k : ℕ) × (slice_get xs k ≡ Some x)
in_got x [] h = elim h [ ]
in_got x (y ∷ xs) (inl e) = (zero, ap Some (sym e))
in_got x (y ∷ xs) (inr h) = let (k, e) = in_got x xs h in (suc k, e)

place_kept : (entries : List Entry) (places places' : List Place) (entry : Entry) →
    ((place : Place) → IsIn place places → IsIn place places') → HasPlace entries places entry →
    HasPlace entries places' entry
place_kept entries places places' entry more h =
    record { place = h.place; listed = more h.place h.listed; at = h.at }

pub place_next : (entries : List Entry) (places places' : List Place) (place : Place) →
    places' ≡ places ++ place ∷ [] →
    ((k : ℕ) (entry : Entry) → k < place.entry → slice_get entries k ≡ Some entry →
    HasPlace entries places entry)
    → (k : ℕ) (entry : Entry) → k < place.entry + 1 → slice_get entries k ≡ Some entry →
    HasPlace entries places' entry
place_next entries places places' place e h k entry lt at =
    subst (λ (z : List Place). HasPlace entries z entry) (sym e)
    (elim (cases_lt k place.entry) [
      | inl before ↦ place_kept entries places (places ++ place ∷ []) entry
          (λ p i. in_front p places (place ∷ []) i) (h k entry before at)
      | inr after ↦ let same : k ≡ place.entry = omega arith in
          record {
            place = place;
            listed = in_back place places (place ∷ []) (inl refl);
            at =
                ap (slice_get entries) (sym same) ∙ at;
          }
    ])

pub places_listed : (entries : List Entry) (places : List Place) (i : ℕ) → length entries ≤ i →
    ((k : ℕ) (entry : Entry) → k < i → slice_get entries k ≡ Some entry →
    HasPlace entries places entry) → (entry : Entry) → IsIn entry entries →
    HasPlace entries places entry
places_listed entries places i le h entry l =
    let (k, at) = in_got entry entries l in
    let lt : k < length entries = slice_get_within entries k entry at in
    h k entry (omega arith) at

pub places_sorted : (entries : List Entry) (places places' : List Place) →
    IsPermutation places places' →
    ((entry : Entry) → IsIn entry entries → HasPlace entries places entry) → (entry : Entry) →
    IsIn entry entries → HasPlace entries places' entry
places_sorted entries places places' p h entry i =
    place_kept entries places places' entry
    (λ place l. in_permutation place places places' p l) (h entry i)

-- what drafts tell

pub tells_draft : (draft : Sketch) → ((w : List Label) → Accepts draft w → ArePlain w) →
    IsDraftOf (Tells draft) draft
tells_draft draft plain = record {
  exact = λ w. (
    (λ a. record { string = w; accepted = a; same = refl }),
    (λ (t : Tells draft (derived_labels w)). subst (λ (z : List Label). Accepts draft z)
        (derived_injective t.string w t.same) t.accepted),
  );
  plain = plain;
}

pub draft_tells : (P : List EntryLabel → Type 0) (draft : Sketch) → IsDraftOf P draft →
    (labels : List EntryLabel) → Tells draft labels ↔ P labels
draft_tells P draft h labels = (
  (λ t. subst P t.same ((h.exact t.string).0 t.accepted)),
  (λ p. record {
    string = built_labels labels;
    accepted =
        (h.exact (built_labels labels)).1 (subst P (sym (derived_built labels)) p);
    same =
        derived_built labels;
  }),
)

pub nothing_told : (draft : Sketch) → ((w : List Label) → Accepts draft w → ⊥) →
    (labels : List EntryLabel) → Tells draft labels → ⊥
nothing_told draft none labels t = none t.string t.accepted

-- a gathering is closed

bare_cut : (d : Dictionary) (direction : Direction) (P : List EntryLabel → Type 0)
    (w : List EntryLabel) → P w ↔ IsCut P (Derives d direction []) w
bare_cut d direction P w = (
  (λ p. record { front = w; back = []; whole = sym (append-nil w); first = p; second = nothing }),
  (λ c. subst P (sym (c.whole ∙ ap (λ z. c.front ++ z) (none_derived d direction c.back c.second)
      ∙ append-nil c.front)) c.first),
)

-- shared parts

pub shared_last : (back parts : List EntryPart) (part : EntryPart) →
    shared back (parts ++ part ∷ []) ≡ part ∷ shared back parts
shared_last back [] part = refl
shared_last back (p ∷ parts) part = shared_last (p ∷ back) parts part

pub shared_length : (back parts : List EntryPart) → length (shared back parts)
    ≡ length parts + length back
shared_length back [] = omega arith
shared_length back (p ∷ parts) = shared_length (p ∷ back) parts ∙ omega arith

pub both_true : (a b : Bool) → IsTrue a → IsTrue b → IsTrue (a && b)
both_true a b h k = rw (h, k) refl

shared_all : (p : EntryPart → Bool) (back parts : List EntryPart) →
    IsTrue (list_all p (shared back parts)) → IsTrue (list_all p parts) × IsTrue (list_all p back)
shared_all p back [] h = (refl, h)
shared_all p back (x ∷ parts) h =
    let k : IsTrue (list_all p parts) × IsTrue (list_all p (x ∷ back)) =
    shared_all p (x ∷ back) parts h in
    let l = and_parts (p x) (list_all p back) k.1 in
    (both_true (p x) (list_all p parts) l.0 k.0, l.1)

pub shared_drafted : (drafts : List (Option Sketch)) (parts tail : List EntryPart) → shared [] parts ≡ tail →
    AreDraftedParts drafts tail → AreDraftedParts drafts parts
shared_drafted drafts parts tail e h =
    (shared_all (is_drafted_part drafts) [] parts (subst (AreDraftedParts drafts) (sym e) h)).0

pub endings_last : (levels : List Level) (l : Level) → endings (levels ++ l ∷ []) ≡ endings levels
    ++ l.ending.now ∷ []
endings_last levels l = map-append (λ (m : Level). m.ending.now) levels (l ∷ [])

-- labels in levels

levels_last : (d : Dictionary) (direction : Direction) (back : List EntryPart) (levels : List Level)
    (l : Level) (w : List EntryLabel)
    → InLevels d direction back (levels ++ l ∷ []) w
    ↔ (InLevels d direction back levels w
    ⊎ IsCut (Tells l.fronts)
    (Derives d direction (l.ending.now ∷ shared back (endings levels))) w)
levels_last d direction back [] l w = (
  (λ x. elim x [ inl c ↦ inr c | inr n ↦ absurd n ]),
  (λ x. elim x [ inl n ↦ absurd n | inr c ↦ inl c ]),
)
levels_last d direction back (m ∷ levels) l w =
    let k = levels_last d direction (m.ending.now ∷ back) levels l w in (
      (λ x. elim x [
        | inl c ↦ inl (inl c)
        | inr y ↦
            elim (k.0 y) [ inl z ↦ inl (inr z) | inr c ↦ inr c ]
      ]),
      (λ x. elim x [
        | inl y ↦ elim y [ inl c ↦ inl c | inr z ↦ inr (k.1 (inl z)) ]
        | inr c ↦
            inr (k.1 (inr c))
      ]),
    )

-- the same, of a gathering whose innermost level is this one
gathers_last : (d : Dictionary) (direction : Direction) (g : Gathering) (levels : List Level)
    (l : Level) (w : List EntryLabel) → g.levels.items ≡ levels ++ l ∷ []
    → Gathers d direction g w
    ↔ (Tells g.made w ⊎ (InLevels d direction [] levels w
    ⊎ IsCut (Tells l.fronts)
    (Derives d direction (l.ending.now ∷ shared [] (endings levels))) w))
gathers_last d direction g levels l w e =
    let k = levels_last d direction [] levels l w in (
      (λ x. elim x [
        | inl t ↦ inl t
        | inr y ↦
            inr (k.0 (subst (λ (z : List Level). InLevels d direction [] z w) e y))
      ]),
      (λ x. elim x [
        | inl t ↦ inl t
        | inr y ↦
            inr (subst (λ (z : List Level). InLevels d direction [] z w) (sym e) (k.1 y))
      ]),
    )

-- a cut whose first labels are of either kind
cut_either : (F G P Q : List EntryLabel → Type 0) (w : List EntryLabel) →
    ((v : List EntryLabel) → F v ↔ (G v ⊎ P v)) → IsCut F Q w ↔ (IsCut G Q w ⊎ IsCut P Q w)
cut_either F G P Q w h = (
  (λ c. elim ((h c.front).0 c.first) [
    | inl g ↦ inl (record {
      front = c.front;
      back = c.back;
      whole = c.whole;
      first =
          g;
      second = c.second;
    })
    | inr p ↦ inr (record {
      front = c.front;
      back = c.back;
      whole = c.whole;
      first =
          p;
      second = c.second;
    })
  ]),
  (λ x. elim x [
    | inl c ↦ record {
      front = c.front;
      back = c.back;
      whole = c.whole;
      first =
          (h c.front).1 (inl c.first);
      second = c.second;
    }
    | inr c ↦ record {
      front = c.front;
      back = c.back;
      whole = c.whole;
      first =
          (h c.front).1 (inr c.first);
      second = c.second;
    }
  ]),
)

-- two cuts, one behind the other
cut_twice : (d : Dictionary) (direction : Direction) (P : List EntryLabel → Type 0)
    (part : EntryPart) (tail : List EntryPart) (w : List EntryLabel)
    → IsCut (IsCut P (Derives d direction (part ∷ []))) (Derives d direction tail) w
    ↔ IsCut P (Derives d direction (part ∷ tail)) w
cut_twice d direction P part tail w = (
  (λ c. record {
    front = c.first.front;
    back = c.first.back ++ c.back;
    whole = c.whole ∙ ap (λ z. z ++ c.back) c.first.whole
        ∙ append_assoc c.first.front c.first.back c.back;
    first = c.first.first;
    second = derives_joined d direction (part ∷ []) tail c.first.back c.back
        c.first.second c.second;
  }),
  (λ c.
      let k : IsCut (Derives d direction (part ∷ [])) (Derives d direction tail) c.back =
      derives_cut d direction (part ∷ []) tail c.back c.second in
      record {
        front = c.front ++ k.front;
        back = k.back;
        whole = c.whole ∙ ap (λ z. c.front ++ z) k.whole
            ∙ sym (append_assoc c.front k.front k.back);
        first = record {
          front = c.front;
          back = k.front;
          whole = refl;
          first =
              c.first;
          second = k.first;
        };
        second = k.second;
      }),
)

-- what is derived by two lists of parts is a cut
cut_derived : (d : Dictionary) (direction : Direction) (front tail : List EntryPart)
    (w : List EntryLabel) → IsCut (Derives d direction front) (Derives d direction tail) w
    ↔ Derives d direction (front ++ tail) w
cut_derived d direction front tail w = (
  (λ c. subst (λ (z : List EntryLabel). Derives d direction (front ++ tail) z) (sym c.whole)
      (derives_joined d direction front tail c.front c.back c.first c.second)),
  (λ k. derives_cut d direction front tail w k),
)

-- a gathering stays

pub as_it_is : (d : Dictionary) (direction : Direction) (g : Gathering) → IsPlainGathering g →
    IsGatheringOf d direction (Gathers d direction g) g
as_it_is d direction g plain = record { exact = λ w. ((λ x. x), (λ x. x)); plain = plain }

pub same_gathering : (d : Dictionary) (direction : Direction) (P Q : List EntryLabel → Type 0)
    (g : Gathering) → IsGatheringOf d direction P g → ((w : List EntryLabel) → P w ↔ Q w) →
    IsGatheringOf d direction Q g
same_gathering d direction P Q g h same =
    record {
      exact = λ w. (
        (λ x. (same w).0 ((h.exact w).0 x)),
        (λ q. (h.exact w).1 ((same w).1 q)),
      );
      plain = h.plain;
    }

pub none_more : (d : Dictionary) (direction : Direction) (Q : List EntryLabel → Type 0)
    (g : Gathering) → IsPlainGathering g → ((w : List EntryLabel) → Q w → ⊥) →
    IsGatheringOf d direction (λ w. Gathers d direction g w ⊎ Q w) g
none_more d direction Q g plain none =
    same_gathering d direction (Gathers d direction g) (λ w. Gathers d direction g w ⊎ Q w) g
    (as_it_is d direction g plain)
    (λ w. ((λ x. inl x), (λ x. elim x [ inl y ↦ y | inr q ↦ absurd (none w q) ])))

-- a gathering grows

pub plain_front : (g rest : Gathering) (l : Level) → g.levels.items ≡ rest.levels.items ++ l ∷ [] →
    rest.made ≡ g.made → IsPlainGathering g → IsPlainGathering rest
plain_front g rest l e m h = record {
  made = subst IsPlainDraft (sym m) h.made;
  fronts = λ k i. h.fronts k
      (subst (λ (z : List Level). IsIn k z) (sym e) (in_front k rest.levels.items (l ∷ []) i));
}

pub plain_last : (g : Gathering) (levels : List Level) (l : Level) → g.levels.items ≡ levels ++ l
    ∷ [] → IsPlainGathering g → IsPlainDraft l.fronts
plain_last g levels l e h =
    h.fronts l (subst (λ (z : List Level). IsIn l z) (sym e) (in_back l levels (l ∷ []) (inl refl)))

told_either : (P : List EntryLabel → Type 0) (old more new : Sketch) → IsPlainDraft old →
    IsDraftOf P more → ((w : List Label) → Accepts new w ↔ IsEither old more w) →
    IsDraftOf (λ w. Tells old w ⊎ P w) new
told_either P old more new plain h e =
    more_added (Tells old) P old new (tells_draft old plain) (more_draft P old more new h e)

-- with no level, among those that are done with
pub grown_made : (d : Dictionary) (direction : Direction) (P : List EntryLabel → Type 0)
    (g new : Gathering) (more : Sketch) → g.levels.items ≡ [] → new.levels.items ≡ g.levels.items →
    ((w : List Label) → Accepts new.made w ↔ IsEither g.made more w)
    → IsPlainGathering g → IsDraftOf P more →
    IsGatheringOf d direction (λ w. Gathers d direction g w
    ⊎ IsCut P (Derives d direction (shared [] (endings g.levels.items))) w) new
grown_made d direction P g new more none same e plain h =
    let all : IsDraftOf (λ w. Tells g.made w ⊎ P w) new.made =
    told_either P g.made more new.made plain.made h e in
    let bare : (w : List EntryLabel) →
    P w ↔ IsCut P (Derives d direction (shared [] (endings g.levels.items))) w =
    subst (λ (z : List Level). (w : List EntryLabel) →
    P w ↔ IsCut P (Derives d direction (shared [] (endings z))) w) (sym none)
    (λ w. bare_cut d direction P w) in
    let told : (w : List EntryLabel) → Tells new.made w ↔ (Tells g.made w ⊎ P w) =
    λ w. draft_tells (λ w. Tells g.made w ⊎ P w) new.made all w in
    record {
      exact = λ w. (
        (λ x. elim x [
          | inl t ↦ elim ((told w).0 t) [ inl y ↦ inl (inl y) | inr p ↦ inr ((bare w).0 p) ]
          | inr y ↦ inl (inr (subst (λ (z : List Level). InLevels d direction [] z w) same y))
        ]),
        (λ x. elim x [
          | inl y ↦ elim y [
            | inl t ↦ inl ((told w).1 (inl t))
            | inr z ↦
                inr (subst (λ (v : List Level). InLevels d direction [] v w) (sym same) z)
          ]
          | inr c ↦ inl ((told w).1 (inr ((bare w).1 c)))
        ]),
      );
      plain = record {
        made = all.plain;
        fronts =
            λ k i. plain.fronts k (subst (λ (z : List Level). IsIn k z) same i);
      };
    }

-- in the innermost level
pub grown_last : (d : Dictionary) (direction : Direction) (P : List EntryLabel → Type 0)
    (g new : Gathering) (levels : List Level) (l m : Level) (more : Sketch)
    → g.levels.items ≡ levels ++ l ∷ [] → new.levels.items ≡ levels ++ m ∷ [] → new.made ≡ g.made →
    m.ending.now ≡ l.ending.now →
    ((w : List Label) → Accepts m.fronts w ↔ IsEither l.fronts more w)
    → IsPlainGathering g → IsDraftOf P more →
    IsGatheringOf d direction (λ w. Gathers d direction g w
    ⊎ IsCut P (Derives d direction (shared [] (endings g.levels.items))) w) new
grown_last d direction P g new levels l m more old e made same either plain h =
    let all : IsDraftOf (λ w. Tells l.fronts w ⊎ P w) m.fronts =
    told_either P l.fronts more m.fronts (plain_last g levels l old plain) h either in
    let told : (w : List EntryLabel) → Tells m.fronts w ↔ (Tells l.fronts w ⊎ P w) =
    λ w. draft_tells (λ w. Tells l.fronts w ⊎ P w) m.fronts all w in
    let there : shared [] (endings g.levels.items) ≡ l.ending.now ∷ shared [] (endings levels) =
    ap (λ z. shared [] (endings z)) old ∙ ap (shared []) (endings_last levels l)
    ∙ shared_last [] (endings levels) l.ending.now in
    let D : List EntryPart → List EntryLabel → Type 0 = Derives d direction in
    let cut : (w : List EntryLabel) →
    IsCut (Tells m.fronts) (Derives d direction (m.ending.now ∷ shared [] (endings levels))) w
    ↔ (IsCut (Tells l.fronts) (Derives d direction (l.ending.now ∷ shared [] (endings levels)))
    w ⊎ IsCut P (Derives d direction (l.ending.now ∷ shared [] (endings levels))) w) =
    λ w. subst (λ (z : EntryPart). IsCut (Tells m.fronts)
    (Derives d direction (z ∷ shared [] (endings levels))) w
    ↔ (IsCut (Tells l.fronts) (Derives d direction (l.ending.now ∷ shared [] (endings levels)))
    w ⊎ IsCut P (Derives d direction (l.ending.now ∷ shared [] (endings levels))) w)) (sym same)
    (cut_either (Tells m.fronts) (Tells l.fronts) P
    (D (l.ending.now ∷ shared [] (endings levels))) w told) in
    let to : (w : List EntryLabel) →
    IsCut P (Derives d direction (l.ending.now ∷ shared [] (endings levels))) w
    ↔ IsCut P (Derives d direction (shared [] (endings g.levels.items))) w =
    λ w. subst (λ (z : List EntryPart). IsCut P
    (Derives d direction (l.ending.now ∷ shared [] (endings levels))) w
    ↔ IsCut P (Derives d direction z) w) (sym there) ((λ x. x), (λ x. x)) in
    record {
      exact = λ w.
          let was = gathers_last d direction g levels l w old in
          let is = gathers_last d direction new levels m w e in (
            (λ x. elim (is.0 x) [
              | inl t ↦ inl (was.1 (inl (subst (λ (z : Sketch). Tells z w) made t)))
              | inr y ↦ elim y [
                | inl z ↦ inl (was.1 (inr (inl z)))
                | inr c ↦ elim ((cut w).0 c) [
                  | inl k ↦ inl (was.1 (inr (inr k)))
                  | inr k ↦
                      inr ((to w).0 k)
                ]
              ]
            ]),
            (λ x. elim x [
              | inl y ↦ elim (was.0 y) [
                | inl t ↦ is.1 (inl (subst (λ (z : Sketch). Tells z w) (sym made) t))
                | inr y ↦ elim y [
                  | inl z ↦ is.1 (inr (inl z))
                  | inr k ↦
                      is.1 (inr (inr ((cut w).1 (inl k))))
                ]
              ]
              | inr c ↦ is.1 (inr (inr ((cut w).1 (inr ((to w).1 c)))))
            ]),
          );
      plain = record {
        made = subst IsPlainDraft (sym made) plain.made;
        fronts = λ k i. elim (in_either k levels (m ∷ [])
            (subst (λ (z : List Level). IsIn k z) e i)) [
              | inl j ↦ plain.fronts k
                  (subst (λ (z : List Level). IsIn k z) (sym old) (in_front k levels (l ∷ []) j))
              | inr j ↦ elim j [
                | inl q ↦ subst (λ (z : Level). IsPlainDraft z.fronts) (sym q) all.plain
                | inr n ↦ absurd n
              ]
            ];
      };
    }

pub grown_endings : (g new : Gathering) (levels : List Level) (l m : Level) →
    g.levels.items ≡ levels ++ l ∷ [] → new.levels.items ≡ levels ++ m ∷ [] →
    m.ending.now ≡ l.ending.now → endings new.levels.items ≡ endings g.levels.items
grown_endings g new levels l m old e same = ap endings e ∙ endings_last levels m
    ∙ ap (λ z. endings levels ++ z ∷ []) same ∙ sym (endings_last levels l) ∙ ap endings (sym old)

pub grown : (d : Dictionary) (direction : Direction) (P : List EntryLabel → Type 0) (g : Gathering)
    (more : Sketch) (new : Gathering) → IsGrown g more new → IsPlainGathering g → IsDraftOf P more
    → IsGatheringOf d direction (λ w. Gathers d direction g w
    ⊎ IsCut P (Derives d direction (shared [] (endings g.levels.items))) w) new
grown d direction P g more new (among_made none bare either) plain h =
    grown_made d direction P g new more none (bare ∙ sym none) either plain h
grown d direction P g more new (before_shared levels l m old e made same either) plain h =
    grown_last d direction P g new levels l m more old e made same either plain h

pub grown_same : (g : Gathering) (more : Sketch) (new : Gathering) → IsGrown g more new →
    endings new.levels.items ≡ endings g.levels.items
grown_same g more new (among_made none bare either) = ap endings (bare ∙ sym none)
grown_same g more new (before_shared levels l m old e made same either) =
    grown_endings g new levels l m old e same

-- the innermost level is closed: what it accepted is among the rest
pub last_closed : (d : Dictionary) (direction : Direction) (g rest new : Gathering) (l : Level) →
    g.levels.items ≡ rest.levels.items ++ l ∷ [] → rest.made ≡ g.made
    → IsGatheringOf d direction (λ w. Gathers d direction rest w
    ⊎ IsCut (IsCut (Tells l.fronts) (Derives d direction (l.ending.now ∷ [])))
    (Derives d direction (shared [] (endings rest.levels.items))) w) new →
    IsGatheringOf d direction (Gathers d direction g) new
last_closed d direction g rest new l e made h =
    same_gathering d direction (λ w. Gathers d direction rest w
    ⊎ IsCut (IsCut (Tells l.fronts) (Derives d direction (l.ending.now ∷ [])))
    (Derives d direction (shared [] (endings rest.levels.items))) w)
    (Gathers d direction g) new h (λ w.
    let was = gathers_last d direction g rest.levels.items l w e in
    let twice = cut_twice d direction (Tells l.fronts) l.ending.now
    (shared [] (endings rest.levels.items)) w in (
      (λ x. elim x [
        | inl y ↦ elim y [
          | inl t ↦ was.1 (inl (subst (λ (z : Sketch). Tells z w) made t))
          | inr z ↦
              was.1 (inr (inl z))
        ]
        | inr c ↦ was.1 (inr (inr (twice.0 c)))
      ]),
      (λ x. elim (was.0 x) [
        | inl t ↦ inl (inl (subst (λ (z : Sketch). Tells z w) (sym made) t))
        | inr y ↦ elim y [ inl z ↦ inl (inr z) | inr c ↦ inr (twice.1 c) ]
      ]),
    ))

pub closed_endings : (g rest : Gathering) (l : Level) → g.levels.items ≡ rest.levels.items ++ l ∷ []
    → endings rest.levels.items ≡ take (length g.levels.items - 1) (endings g.levels.items)
closed_endings g rest l e =
    let whole : endings g.levels.items ≡ endings rest.levels.items ++ l.ending.now ∷ [] =
    ap endings e ∙ endings_last rest.levels.items l in
    let long : length (endings rest.levels.items) ≡ length rest.levels.items =
    length-map rest.levels.items (λ (m : Level). m.ending.now) in
    let size : length g.levels.items ≡ length rest.levels.items + 1 =
    ap length e ∙ length-append rest.levels.items (l ∷ []) in
    let count : length g.levels.items - 1 ≡ length (endings rest.levels.items) =
    omega (arith, long, size) in
    sym (ap (λ k. take k (endings g.levels.items)) count
    ∙ ap (take (length (endings rest.levels.items))) whole
    ∙ take-append_seam (endings rest.levels.items) (l.ending.now ∷ []))

-- a level more, with nothing in it
pub level_opened : (d : Dictionary) (direction : Direction) (g new : Gathering) (l : Level) →
    new.levels.items ≡ g.levels.items ++ l ∷ [] → new.made ≡ g.made →
    ((w : List Label) → Accepts l.fronts w → ⊥) → IsPlainGathering g →
    IsGatheringOf d direction (Gathers d direction g) new
level_opened d direction g new l e made none plain = record {
  exact = λ w.
      let is = gathers_last d direction new g.levels.items l w e in (
        (λ x. elim (is.0 x) [
          | inl t ↦ inl (subst (λ (z : Sketch). Tells z w) made t)
          | inr y ↦ elim y [
            | inl z ↦ inr z
            | inr c ↦
                absurd (nothing_told l.fronts none c.front c.first)
          ]
        ]),
        (λ x. elim x [
          | inl t ↦ is.1 (inl (subst (λ (z : Sketch). Tells z w) (sym made) t))
          | inr z ↦
              is.1 (inr (inl z))
        ]),
      );
  plain = record {
    made = subst IsPlainDraft (sym made) plain.made;
    fronts = λ k i. elim (in_either k g.levels.items (l ∷ [])
        (subst (λ (z : List Level). IsIn k z) e i)) [
          | inl j ↦ plain.fronts k j
          | inr j ↦ elim j [
            | inl q ↦
                (λ w a. absurd (none w (subst (λ (z : Level). Accepts z.fronts w) q a)))
            | inr n ↦ absurd n
          ]
        ];
  };
}

-- one gathering made from another, and a third from that
pub gathered_on : (d : Dictionary) (direction : Direction) (P : List EntryLabel → Type 0)
    (g next : Gathering) → IsGatheringOf d direction P g →
    IsGatheringOf d direction (Gathers d direction g) next → IsGatheringOf d direction P next
gathered_on d direction P g next h k =
    same_gathering d direction (Gathers d direction g) P next k h.exact

-- an entry whose parts are these and then those that are shared
pub entry_gathered : (d : Dictionary) (direction : Direction) (g ready new : Gathering)
    (front tail : List EntryPart) (entry : Entry) → IsTrue (is_kept direction entry) →
    entry.parts ≡ front ++ tail → shared [] (endings ready.levels.items) ≡ tail
    → IsGatheringOf d direction (Gathers d direction g) ready →
    IsGatheringOf d direction (λ w. Gathers d direction ready w
    ⊎ IsCut (Derives d direction front)
    (Derives d direction (shared [] (endings ready.levels.items))) w) new
    → IsGatheringOf d direction (λ w. Gathers d direction g w ⊎ Spells d direction entry w) new
entry_gathered d direction g ready new front tail entry kept whole there h k =
    let D : List EntryPart → List EntryLabel → Type 0 = Derives d direction in
    let cut : (w : List EntryLabel) → IsCut (D front) (D (shared [] (endings ready.levels.items))) w
    ↔ D entry.parts w =
    λ w. subst (λ (z : List EntryPart). IsCut (Derives d direction front)
    (Derives d direction (shared [] (endings ready.levels.items))) w
    ↔ Derives d direction z w) (sym whole)
    (subst (λ (z : List EntryPart). IsCut (Derives d direction front) (Derives d direction z) w
    ↔ Derives d direction (front ++ tail) w) (sym there) (cut_derived d direction front tail w))
    in
    same_gathering d direction (λ w. Gathers d direction ready w
    ⊎ IsCut (Derives d direction front)
    (Derives d direction (shared [] (endings ready.levels.items))) w)
    (λ w. Gathers d direction g w ⊎ Spells d direction entry w) new k (λ w. (
      (λ x. elim x [
        | inl y ↦ inl ((h.exact w).0 y)
        | inr c ↦
            inr (record { kept = kept; derived = (cut w).0 c })
      ]),
      (λ x. elim x [ inl y ↦ inl ((h.exact w).1 y) | inr s ↦ inr ((cut w).1 s.derived) ]),
    ))

-- a gathering without levels is what its draft accepts
pub all_closed : (d : Dictionary) (direction : Direction) (P : List EntryLabel → Type 0)
    (g : Gathering) → endings g.levels.items ≡ [] → IsGatheringOf d direction P g →
    IsDraftOf P g.made
all_closed d direction P g none h =
    let bare : g.levels.items ≡ [] = no_levels g.levels.items none in
    same_draft (Tells g.made) P g.made (tells_draft g.made h.plain.made) (λ w. (
      (λ t. (h.exact w).0 (inl t)),
      (λ p. elim ((h.exact w).1 p) [
        | inl t ↦ t
        | inr z ↦
            absurd (subst (λ (v : List Level). InLevels d direction [] v w) bare z)
      ]),
    ))
  where
    no_levels : (levels : List Level) → endings levels ≡ [] → levels ≡ []
    no_levels [] e = refl
    no_levels (l ∷ levels) e = cc

-- parts that agree with levels

pub agreed_more : (parts rest front : List EntryPart) (last : EntryPart) (ends : List EntryPart)
    (count : ℕ) (d : EntryPart) → count < length ends → parts ≡ rest ++ shared [] (take count ends)
    → rest ≡ front ++ last ∷ [] → get_or ends count d ≡ last
    → parts ≡ front ++ shared [] (take (count + 1) ends)
agreed_more parts rest front last ends count d lt whole split same =
    let more : shared [] (take (count + 1) ends) ≡ last ∷ shared [] (take count ends) =
    ap (shared []) (take_more ends count d lt ∙ ap (λ z. take count ends ++ z ∷ []) same)
    ∙ shared_last [] (take count ends) last in
    whole ∙ ap (λ z. z ++ shared [] (take count ends)) split
    ∙ append_assoc front (last ∷ []) (shared [] (take count ends))
    ∙ ap (λ z. front ++ z) (sym more)

pub ending_at : (levels : List Level) (n : ℕ) (l d : Level) → n < length levels →
    l ≡ get_or levels n d → get_or (endings levels) n d.ending.now ≡ l.ending.now
ending_at [] n l d lt e = absurd (omega arith)
ending_at (x ∷ levels) zero l d lt e = ap (λ (z : Level). z.ending.now) (sym e)
ending_at (x ∷ levels) (suc n) l d lt e = ending_at levels n l d (omega arith) e

pub endings_length : (levels : List Level) → length (endings levels) ≡ length levels
endings_length levels = length-map levels (λ (m : Level). m.ending.now)

-- fewer parts are drafted too

pub drafted_take : (drafts : List (Option Sketch)) (n : ℕ) (parts : List EntryPart) → AreDraftedParts drafts parts →
    AreDraftedParts drafts (take n parts)
drafted_take drafts zero parts h = refl
drafted_take drafts (suc n) [] h = refl
drafted_take drafts (suc n) (x ∷ parts) h =
    let l = and_parts (is_drafted_part drafts x) (list_all (is_drafted_part drafts) parts) h in
    both_true (is_drafted_part drafts x) (list_all (is_drafted_part drafts) (take n parts)) l.0
    (drafted_take drafts n parts l.1)

pub tail_drafted : (drafts : List (Option Sketch)) (parts front tail : List EntryPart) → parts ≡ front ++ tail →
    AreDraftedParts drafts parts → AreDraftedParts drafts tail
tail_drafted drafts parts front tail e h =
    (and_parts (list_all (is_drafted_part drafts) front) (list_all (is_drafted_part drafts) tail)
    (sym (list_all-append (is_drafted_part drafts) front tail)
    ∙ subst (AreDraftedParts drafts) e h)).1

-- one level fewer
pub closed_less : (levels last next : List EntryPart) (n k m : ℕ) → length levels ≡ n →
    length last ≡ m → k < n → last ≡ take (n - k) levels → next ≡ take (m - 1) last →
    next ≡ take (n - (k + 1)) levels
closed_less levels last next n k m size long lt e f =
    let short : length last ≡ n - k =
    ap length e ∙ length-take-le (n - k) levels (omega (arith, size)) in
    let few : (m - 1) ≤ (n - k) = omega (arith, long, short) in
    let is : m - 1 ≡ n - (k + 1) = omega (arith, long, short, lt) in
    f ∙ ap (take (m - 1)) e ∙ take-take (m - 1) (n - k) levels few ∙ ap (λ z. take z levels) is

-- one more of the parts is shared
pub opened_more : (tail front ends : List EntryPart) (part d : EntryPart) →
    tail ≡ front ++ shared [] ends → length ends < length tail →
    part ≡ get_or tail (length tail - 1 - length ends) d
    → (less : List EntryPart) × (tail ≡ less ++ shared [] (ends ++ part ∷ []))
opened_more tail front ends part d whole lt is =
    let long : length (shared [] ends) ≡ length ends + 0 = shared_length [] ends in
    let size : length tail ≡ length front + length (shared [] ends) =
    ap length whole ∙ length-append front (shared [] ends) in
    let at : length tail - 1 - length ends ≡ length front - 1 = omega (arith, long, size) in
    let some : length front - 1 < length front = omega (arith, long, size, lt) in
    let got : get_or tail (length front - 1) d ≡ get_or front (length front - 1) d =
    ap (λ z. get_or z (length front - 1) d) whole
    ∙ get_or_append_left front (shared [] ends) d (length front - 1) some in
    let last : part ≡ get_or front (length front - 1) d = is ∙ ap (λ k. get_or tail k d) at ∙ got in
    let count : (length front - 1) + 1 ≡ length front = omega (arith, some) in
    let split : front ≡ take (length front - 1) front ++ part ∷ [] =
    sym (take_all (length front) front (omega arith)) ∙ ap (λ k. take k front) (sym count)
    ∙ take_more front (length front - 1) d some
    ∙ ap (λ z. take (length front - 1) front ++ z ∷ []) (sym last) in (
      take (length front - 1) front,
      whole ∙ ap (λ z. z ++ shared [] ends) split
          ∙ append_assoc (take (length front - 1) front) (part ∷ []) (shared [] ends)
          ∙ ap (λ z. take (length front - 1) front ++ z) (sym (shared_last [] ends part)),
    )

-- all of them are
pub opened_all : (tail front ends : List EntryPart) → tail ≡ front ++ shared [] ends →
    length tail ≤ length ends → shared [] ends ≡ tail
opened_all tail front ends whole le =
    let long : length (shared [] ends) ≡ length ends + 0 = shared_length [] ends in
    let size : length tail ≡ length front + length (shared [] ends) =
    ap length whole ∙ length-append front (shared [] ends) in
    let none : length front ≡ 0 = omega (arith, long, size, le) in
    let bare : front ≡ [] = empty front none in
    sym (whole ∙ ap (λ z. z ++ shared [] ends) bare)
  where
    empty : (xs : List EntryPart) → length xs ≡ 0 → xs ≡ []
    empty [] e = refl
    empty (x ∷ xs) e = cc

-- the entry at a place

pub place_passed : (d : Dictionary) (direction : Direction) (entries : List Entry) (place : Place)
    (g : Gathering) → slice_get entries place.entry ≡ None → IsPlainGathering g →
    IsGatheringOf d direction (λ w. Gathers d direction g w
    ⊎ SpellsFrom d direction entries place w) g
place_passed d direction entries place g none plain =
    none_more d direction (SpellsFrom d direction entries place) g plain
    (λ w s. let at : slice_get entries place.entry ≡ Some s.entry = s.at in cc)

pub place_gathered : (d : Dictionary) (direction : Direction) (entries : List Entry) (place : Place)
    (entry : Entry) (g new : Gathering) → slice_get entries place.entry ≡ Some entry →
    IsGatheringOf d direction (λ w. Gathers d direction g w ⊎ Spells d direction entry w) new
    → IsGatheringOf d direction (λ w. Gathers d direction g w
    ⊎ SpellsFrom d direction entries place w) new
place_gathered d direction entries place entry g new at h =
    same_gathering d direction (λ w. Gathers d direction g w ⊎ Spells d direction entry w)
    (λ w. Gathers d direction g w ⊎ SpellsFrom d direction entries place w) new h (λ w. (
      (λ x. elim x [ inl y ↦ inl y | inr s ↦ inr (record { entry = entry; at = at; spells = s }) ]),
      (λ x. elim x [
        | inl y ↦ inl y
        | inr s ↦ let there : Some s.entry ≡ Some entry = sym s.at ∙ at in
            let same : s.entry ≡ entry =
            cc in inr (subst (λ (z : Entry). Spells d direction z w) same s.spells)
      ]),
    ))

-- all places

pub place_more : (d : Dictionary) (direction : Direction) (Q : Place → List EntryLabel → Type 0)
    (places : List Place) (place p : Place) (i : ℕ) (g new : Gathering) → i < length places →
    place ≡ get_or places i p
    → IsGatheringOf d direction (Any Q (take i places)) g →
    IsGatheringOf d direction (λ w. Gathers d direction g w ⊎ Q place w) new →
    IsGatheringOf d direction (Any Q (take (i + 1) places)) new
place_more d direction Q places place p i g new lt is h n =
    let e : take (i + 1) places ≡ take i places ++ place ∷ [] =
    take_more places i p lt ∙ ap (λ z. take i places ++ z ∷ []) (sym is) in
    subst (λ zs. IsGatheringOf d direction (Any Q zs) new) (sym e)
    (same_gathering d direction (λ w. Gathers d direction g w ⊎ Q place w)
    (Any Q (take i places ++ place ∷ [])) new n (λ w. (
      (λ x. (any_last Q (take i places) place w).0
          (elim x [ inl y ↦ inl ((h.exact w).0 y) | inr q ↦ inr q ])),
      (λ a. elim ((any_last Q (take i places) place w).1 a) [
        | inl y ↦ inl ((h.exact w).1 y)
        | inr q ↦ inr q
      ]),
    )))

pub places_taken : (d : Dictionary) (direction : Direction) (Q : Place → List EntryLabel → Type 0)
    (places : List Place) (i : ℕ) (g : Gathering) → length places ≤ i →
    IsGatheringOf d direction (Any Q (take i places)) g → IsGatheringOf d direction (Any Q places) g
places_taken d direction Q places i g le h =
    subst (λ (zs : List Place). IsGatheringOf d direction (Any Q zs) g) (take_all i places le) h

pub places_all : (d : Dictionary) (direction : Direction) (entries : List Entry)
    (places : List Place) (g : Gathering) (made : Sketch) →
    ((entry : Entry) → IsIn entry entries → HasPlace entries places entry)
    → IsGatheringOf d direction (Any (SpellsFrom d direction entries) places) g →
    IsDraftOf (Gathers d direction g) made → IsDraftOf (Any (Spells d direction) entries) made
places_all d direction entries places g made each h hm =
    same_draft (Gathers d direction g) (Any (Spells d direction) entries) made hm (λ w. (
      (λ x. let a : Any (SpellsFrom d direction entries) places w = (h.exact w).0 x in
          record {
            item = a.holds.entry;
            listed = got_in entries a.item.entry a.holds.entry a.holds.at;
            holds = a.holds.spells;
          }),
      (λ s. let p : HasPlace entries places s.item = each s.item s.listed in
          (h.exact w).1 (record {
            item = p.place;
            listed = p.listed;
            holds =
                record { entry = s.item; at = p.at; spells = s.holds };
          })),
    ))
