-- What is kept of a section is a section.
use Rattle.std.proofs.Common.{◌≡◌, inl, inr, ℕ, ◌<◌, zero, suc, List, [], ◌∷◌, ◌++◌, refl, sym, ◌∙◌, subst, arith}
use Rattle.std.specs.Prelude.{◌↔◌, IsTrue}
use Rattle.std.proofs.lemmas.Bool.{cases_eq, cases_Bool, true≢false}
use Rattle.ap_fst.specs.Lists.{IsIn}
use Rattle.ap_fst.specs.Machines.{Machine}
use Rattle.ap_fst.specs.Sections.{is_plain_label, IsSection}
use Rattle.ap_fst.specs.Silence.{HasBoundedRuns}
use Rattle.ap_fst.specs.Trimming.{IsReached, IsFinishing}
use Rattle.ap_fst.specs.Walks.{Walk, ends, goes, AcceptsLabels}
use Rattle.ap_fst.specs.declared.label.Label.{Label}
use Rattle.ap_fst.specs.declared.label.Edge.{Edge}
use Rattle.ap_fst.proofs.CycleLaws.{empty_cycle_runs}
use Rattle.ap_fst.proofs.Listing.{in_back, in_from_place, placed_in, IsPlaced}
use Rattle.ap_fst.proofs.WalkLaws.{walk_then}
use Rattle.ap_min.specs.Canonical.{IsCanonical}
use Rattle.ap_trim.specs.Sections.{IsKeptOf}

-- each label of a walk is that of an edge
labels_plain : (m : Machine) → IsSection m → (s t : ℕ) (w : List Label) → Walk m.edges s w t →
    (l : Label) → IsIn l w → IsTrue (is_plain_label l)
labels_plain m sec s t w (ends e) l i = elim i [ ]
labels_plain m sec s t w (goes {labels = labels} j e at from whole rest) l i =
    let k : IsIn l (e.label ∷ labels) = subst (λ (z : List Label). IsIn l z) whole i in
    elim k [
      | inl q ↦ subst (λ (z : Label). IsTrue (is_plain_label z)) (sym q)
          (sec.plain e (in_from_place m.edges j e at))
      | inr r ↦ labels_plain m sec e.to t labels rest l r
    ]

module _ (section b made : Machine) (sec : IsSection section) (kept : IsKeptOf section b made)
    (canonical : IsCanonical made) where
  accepted_plain : (w : List Label) → AcceptsLabels made w → (l : Label) → IsIn l w →
      IsTrue (is_plain_label l)
  accepted_plain w a l i = let h = (kept w).0 a in labels_plain section sec 0 h.0.last w h.0.walk l
      i

  reached : (s : ℕ) → s < made.states → IsReached made s
  reached zero lt = record { labels = []; walk = ends refl }
  reached (suc s) lt = canonical.trimmed.reached (suc s) (omega arith) lt

  -- an edge before an accepting walk
  edge_before : (e : Edge) (back : List Label) (last : ℕ) → IsIn e made.edges →
      IsIn last made.finals → Walk made.edges e.to back last → IsTrue (is_plain_label e.label)
  edge_before e back last listed final walk =
      let p : IsPlaced e made.edges = placed_in e made.edges listed in
      let r : IsReached made e.from = reached e.from ((canonical.sound.each e listed).from_in) in
      let step : Walk made.edges e.from (e.label ∷ back) last =
      goes p.place e p.at refl refl walk in
      accepted_plain (r.labels ++ e.label ∷ back) (record {
        last = last;
        final = final;
        walk = walk_then made.edges 0 e.from last r.labels
            (e.label ∷ back) r.walk step;
      }) e.label
      (in_back e.label r.labels (e.label ∷ back) (inl refl))

  none_in : (e : Edge) (edges : List Edge) → edges ≡ [] → IsIn e edges → ⊥
  none_in e edges q h = elim (subst (λ (xs : List Edge). IsIn e xs) q h) [ ]

  plain_edge : (e : Edge) → IsIn e made.edges → IsTrue (is_plain_label e.label)
  plain_edge e listed = elim (cases_eq e.to 0) [
    | inl z ↦ elim (cases_Bool (is_plain_label e.label)) [
      | inl t ↦ t
      | inr f ↦ absurd (none_in e made.edges ((canonical.trimmed.nothing (λ w a.
          true≢false (sym (edge_before e w a.last listed a.final
          (subst (λ (s : ℕ). Walk made.edges s w a.last) (sym z) a.walk)) ∙ f))).1) listed)
    ]
    | inr d ↦ let f : IsFinishing made e.to = canonical.trimmed.finishing e.to (omega (arith, d))
        ((canonical.sound.each e listed).to_in) in edge_before e f.labels f.last listed f.final
        f.walk
  ]

  bounded : HasBoundedRuns made
  bounded =
      let h : HasBoundedRuns section = (empty_cycle_runs section sec.sound sec.trimmed).0 sec.cycles
      in
      record {
        bound = h.bound;
        short = λ labels middle a r. h.short labels middle
            ((kept labels).0 a).0 r;
      }

  pub section_kept : IsSection made
  section_kept = record {
    sound = canonical.sound;
    trimmed = canonical.trimmed;
    cycles = (empty_cycle_runs made canonical.sound canonical.trimmed).1 bounded;
    sides = λ e. sec.sides (record {
      labels = e.labels;
      accepted = ((kept e.labels).0 e.accepted).0;
      empty = e.empty;
    });
    plain = plain_edge;
  }

-- another transducer of the same label strings
pub kept_by_same : (section b old new : Machine) → ((w : List Label) → AcceptsLabels new w ↔
    AcceptsLabels old w) → IsKeptOf section b old → IsKeptOf section b new
kept_by_same section b old new same kept w = (
  λ a. (kept w).0 ((same w).0 a),
  λ k. (same w).1 ((kept w).1 k),
)
