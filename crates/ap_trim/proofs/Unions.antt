-- What drafts of the sections accept together.
use Rattle.std.proofs.Common.{inl, inr, List}
use Rattle.std.specs.Prelude.{◌↔◌}
use Rattle.ap_fst.specs.Machines.{Machine}
use Rattle.ap_fst.specs.Paths.{Accepts, IsEither}
use Rattle.ap_fst.specs.Sections.{Parts, section_of}
use Rattle.ap_fst.specs.Sketches.{Sketch}
use Rattle.ap_fst.specs.Walks.{AcceptsLabels}
use Rattle.ap_fst.specs.declared.compiled.Kind2.{Kind2}
use Rattle.ap_fst.specs.declared.compiled.Kind2.TheVariants.{Standard, Inconditional, Postblank, Preblank}
use Rattle.ap_fst.specs.declared.label.Label.{Label}
use Rattle.ap_trim.specs.Reading.{AcceptsAny, IsUnion}

abbrev pub IsSectionDraft : Parts → Kind2 → Sketch → Type 0
IsSectionDraft p kind d = (labels : List Label) → Accepts d labels ↔
    AcceptsLabels (section_of p kind) labels

module _ (p : Parts) (a b c d ab abc all : Sketch) (m : Machine)
    (standard : IsSectionDraft p Standard a) (inconditional : IsSectionDraft p Inconditional b)
    (postblank : IsSectionDraft p Postblank c) (preblank : IsSectionDraft p Preblank d)
    (first : (labels : List Label) → Accepts ab labels ↔ IsEither a b labels)
    (second : (labels : List Label) → Accepts abc labels ↔ IsEither ab c labels)
    (third : (labels : List Label) → Accepts all labels ↔ IsEither abc d labels)
    (made : (labels : List Label) → AcceptsLabels m labels ↔ Accepts all labels) where
  any_of : (labels : List Label) → AcceptsLabels m labels → AcceptsAny p labels
  any_of labels h = elim ((third labels).0 ((made labels).0 h)) [
    | inl x ↦ elim ((second labels).0 x) [
      | inl y ↦ elim ((first labels).0 y) [
        | inl z ↦ record { kind = Standard; accepted = (standard labels).0 z }
        | inr z ↦ record { kind = Inconditional; accepted = (inconditional labels).0 z }
      ]
      | inr y ↦ record { kind = Postblank; accepted = (postblank labels).0 y }
    ]
    | inr x ↦ record { kind = Preblank; accepted = (preblank labels).0 x }
  ]

  of_kind : (labels : List Label) (kind : Kind2) → AcceptsLabels (section_of p kind) labels →
      AcceptsLabels m labels
  of_kind labels Standard h = (made labels).1 ((third labels).1
      (inl ((second labels).1 (inl ((first labels).1 (inl ((standard labels).1 h)))))))
  of_kind labels Inconditional h = (made labels).1 ((third labels).1
      (inl ((second labels).1 (inl ((first labels).1 (inr ((inconditional labels).1 h)))))))
  of_kind labels Postblank h = (made labels).1 ((third labels).1
      (inl ((second labels).1 (inr ((postblank labels).1 h)))))
  of_kind labels Preblank h = (made labels).1 ((third labels).1 (inr ((preblank labels).1 h)))

  pub union_is : IsUnion p m
  union_is labels = (any_of labels, λ h. of_kind labels h.kind h.accepted)
