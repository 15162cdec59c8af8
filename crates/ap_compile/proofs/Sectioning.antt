-- Sections as a compiled dictionary holds them.
use Rattle.std.proofs.Common.{◌≡◌, inl, inr, ℕ, ◌<◌, ◌≤◌, true, List, [], ◌∷◌, ◌++◌, refl, sym, ◌∙◌, ap, subst, arith, Some, slice_get, length, suc, zero}
use Rattle.std.specs.Prelude.{IsTrue, ◌↔◌}
use Rattle.std.specs.List.{list_all}
use Rattle.std.specs.Option.{option_to_list}
use Rattle.std.proofs.lemmas.Bool.{and_parts, cases_Bool, cases_eq}
use Rattle.std.proofs.lemmas.List.{length-map, map-append}
use Rattle.std.proofs.lemmas.List.Folds.{list_all-append}
use Rattle.ap_symbol.specs.Lists.{IsIn}
use Rattle.ap_dix.specs.Derivation.{Strings, left_word as derived_left_word}
use Rattle.ap_dix.specs.Soundness.{IsSound}
use Rattle.ap_dix.specs.declared.dictionary.Dictionary.{Dictionary}
use Rattle.ap_dix.specs.declared.dictionary.Direction.{Direction}
use Rattle.ap_dix.specs.declared.dictionary.Kind.{Kind}
use Rattle.ap_fst.specs.Machines.{Machine, IsMachine}
use Rattle.ap_fst.specs.Sections.{is_plain_label, IsSection}
use Rattle.ap_fst.specs.Sides.{left_word}
use Rattle.ap_fst.specs.Silence.{HasNoEmptyCycle, HasEmptySide, HasBoundedRuns}
use Rattle.ap_fst.specs.Trimming.{IsTrimmed, IsReached, IsFinishing}
use Rattle.ap_fst.specs.Walks.{Walk, ends, goes, AcceptsLabels}
use Rattle.ap_fst.specs.declared.label.Label.{Label}
use Rattle.ap_fst.specs.declared.label.Edge.{Edge}
use Rattle.ap_compile.specs.Labels.{derived_label, derived_labels, ArePlain}
use Rattle.ap_compile.specs.Empties.{HasEmptyEntry, section_entries}
use Rattle.ap_compile.proofs.Bounding.{HasShortStrings, short_strings, entry_of_section, quiet, silent_quiet, quiet_within}

walk_joined : (edges : List Edge) (s t u : ℕ) (front back : List Label) → Walk edges s front t →
    Walk edges t back u → Walk edges s (front ++ back) u
walk_joined edges s t u [] back (ends e) k = subst (λ (x : ℕ). Walk edges x back u) (sym e) k
walk_joined edges s t u front back (goes {labels = labels} j e at from whole w) k =
    goes j e at from (ap (λ z. z ++ back) whole) (walk_joined edges e.to t u labels back w k)

record IsPlaced (e : Edge) (edges : List Edge) : Type 0 where
  pub place : ℕ
  pub at : slice_get edges place ≡ Some e

placed_in : (e : Edge) (edges : List Edge) → IsIn e edges → IsPlaced e edges
placed_in e [] h = elim h [ ]
placed_in e (x ∷ edges) (inl q) = record { place = zero; at = ap Some (sym q) }
placed_in e (x ∷ edges) (inr h) = let p : IsPlaced e edges = placed_in e edges h in
    record { place = suc p.place; at = p.at }

reached : (m : Machine) (s : ℕ) → IsTrimmed m → s < m.states → IsReached m s
reached m zero h lt = record { labels = []; walk = ends refl }
reached m (suc s) h lt = h.reached (suc s) (omega arith) lt

middle_plain : (front : List Label) (l : Label) (back : List Label) → ArePlain (front ++ l ∷ back) →
    IsTrue (is_plain_label l)
middle_plain front l back p =
    let both = and_parts (list_all is_plain_label front) (list_all is_plain_label (l ∷ back))
    (sym (list_all-append is_plain_label front (l ∷ back)) ∙ p) in
    (and_parts (is_plain_label l) (list_all is_plain_label back) both.1).0

-- an edge before an accepting walk
edge_before : (m : Machine) (e : Edge) (back : List Label) (last : ℕ) → IsMachine m → IsTrimmed m →
    ((w : List Label) → AcceptsLabels m w → ArePlain w) → IsIn e m.edges → IsIn last m.finals →
    Walk m.edges e.to back last → IsTrue (is_plain_label e.label)
edge_before m e back last sound trimmed plain listed final walk =
    let p : IsPlaced e m.edges = placed_in e m.edges listed in
    let r : IsReached m e.from = reached m e.from trimmed ((sound.each e listed).from_in) in
    let step : Walk m.edges e.from (e.label ∷ back) last = goes p.place e p.at refl refl walk in
    middle_plain r.labels e.label back
    (plain (r.labels ++ e.label ∷ back)
    (record {
      last = last;
      final = final;
      walk =
          walk_joined m.edges 0 e.from last r.labels (e.label ∷ back) r.walk step;
    }))

none_in : (e : Edge) (edges : List Edge) → edges ≡ [] → IsIn e edges → ⊥
none_in e edges q h = let k : IsIn e [] = subst (λ (xs : List Edge). IsIn e xs) q h in elim k [ ]

plain_edge : (m : Machine) (e : Edge) → IsMachine m → IsTrimmed m →
    ((w : List Label) → AcceptsLabels m w → ArePlain w) → IsIn e m.edges →
    IsTrue (is_plain_label e.label)
plain_edge m e sound trimmed plain listed = elim (cases_eq e.to 0) [
  | inl z ↦ elim (cases_Bool (is_plain_label e.label)) [
    | inl t ↦ t
    | inr f ↦ absurd (none_in e m.edges ((trimmed.nothing (λ w a.
        let walk : Walk m.edges e.to w a.last =
        subst (λ (s : ℕ). Walk m.edges s w a.last) (sym z) a.walk in
        let t : is_plain_label e.label ≡ true =
        edge_before m e w a.last sound trimmed plain listed a.final walk in
        cc)).1) listed)
  ]
  | inr d ↦ let f : IsFinishing m e.to =
      trimmed.finishing e.to (omega arith) ((sound.each e listed).to_in) in
      edge_before m e f.labels f.last sound trimmed plain listed f.final f.walk
]

left_same : (w : List Label) → derived_left_word (derived_labels w) ≡ left_word w
left_same [] = refl
left_same (l ∷ w) = ap (λ z. option_to_list l.left ++ z) (left_same w)

runs_bounded : (d : Dictionary) (direction : Direction) (kind : Kind) (m : Machine) → IsSound d →
    ((w : List Label) → AcceptsLabels m w ↔ Strings d direction kind (derived_labels w)) →
    HasBoundedRuns m
runs_bounded d direction kind m sound h =
    let s : HasShortStrings d direction = short_strings d direction sound in
    record {
      bound = s.bound;
      short = λ w middle a r.
          let one : quiet (derived_labels w) ≤ s.bound =
          s.short kind (derived_labels w) ((h w).0 a) in
          let two : length (derived_labels middle) ≡ length middle =
          length-map middle derived_label in
          let three : length (derived_labels middle) ≡ quiet (derived_labels middle) =
          silent_quiet (derived_labels middle) (left_same middle ∙ r.silent) in
          let four : quiet (derived_labels middle) ≤ quiet (derived_labels w) =
          quiet_within (derived_labels r.front) (derived_labels middle) (derived_labels r.back)
          (derived_labels w)
          (ap derived_labels r.whole ∙ map-append derived_label r.front (middle ++ r.back)
          ∙ ap (λ z. derived_labels r.front ++ z) (map-append derived_label middle r.back)) in
          omega (arith, one, two, three, four);
    }

no_empty_side : (d : Dictionary) (direction : Direction) (kind : Kind) (m : Machine) →
    ((w : List Label) → AcceptsLabels m w ↔ Strings d direction kind (derived_labels w)) →
    (HasEmptyEntry d direction (section_entries d.sections) → ⊥) → HasEmptySide m → ⊥
no_empty_side d direction kind m h none e =
    let s : Strings d direction kind (derived_labels e.labels) = (h e.labels).0 e.accepted in
    none (record {
      entry = s.entry;
      listed =
          entry_of_section d.sections s.section s.entry s.listed s.entered;
      empty =
          record {
            kept = s.kept;
            silent =
                record {
                  labels = derived_labels e.labels;
                  derived = s.derived;
                  silent =
                      left_same e.labels ∙ e.empty;
                };
          };
    })

pub section_is : ((m : Machine) → IsMachine m → IsTrimmed m →
    (HasNoEmptyCycle m ↔ HasBoundedRuns m)) →
    (d : Dictionary) (direction : Direction) (kind : Kind) (m : Machine) → IsSound d →
    IsMachine m → IsTrimmed m
    → ((w : List Label) → AcceptsLabels m w ↔ Strings d direction kind (derived_labels w)) →
    ((w : List Label) → AcceptsLabels m w → ArePlain w) →
    (HasEmptyEntry d direction (section_entries d.sections) → ⊥) → IsSection m
section_is law d direction kind m sound is trimmed h plain none = record {
  sound = is;
  trimmed = trimmed;
  cycles = (law m is trimmed).1 (runs_bounded d direction kind m sound h);
  sides = no_empty_side d direction kind m h none;
  plain = λ e listed. plain_edge m e is trimmed plain listed;
}
