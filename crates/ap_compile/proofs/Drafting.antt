use Rattle.std.proofs.Common.{◌≡◌, ◌⊎◌, inl, inr, true, List, [], ◌∷◌, ◌++◌, refl, sym, ◌∙◌, ap, subst, map}
use Rattle.std.specs.Prelude.{IsTrue, ◌↔◌, Result, Ok, Err, IfOk}
use Rattle.std.specs.List.{list_all}
use Rattle.std.proofs.lemmas.Bool.{and_from}
use Rattle.std.proofs.lemmas.List.{map-append}
use Rattle.std.proofs.lemmas.List.Folds.{list_all-append}
use Rattle.ap_dix.specs.Derivation.{Label as EntryLabel}
use Rattle.ap_fst.specs.Sections.{is_plain_label}
use Rattle.ap_fst.specs.Sketches.{Sketch}
use Rattle.ap_fst.specs.Paths.{Accepts, IsJoined, IsEither}
use Rattle.ap_fst.specs.declared.label.Label.{Label}
use Rattle.ap_compile.specs.Labels.{derived_label, derived_labels, ArePlain}
use Rattle.ap_compile.specs.Drafts.{IsDraftOf, IsMoreBy, IsCut}

-- a label that entries derive as a transducer's, the other way round
abbrev pub built_label : EntryLabel → Label
built_label l = record { left = l.left; right = l.right }

abbrev pub built_labels : List EntryLabel → List Label
built_labels labels = map built_label labels

pub built_derived : (w : List Label) → built_labels (derived_labels w) ≡ w
built_derived [] = refl
built_derived (l ∷ w) = ap (λ z. l ∷ z) (built_derived w)

pub derived_built : (w : List EntryLabel) → derived_labels (built_labels w) ≡ w
derived_built [] = refl
derived_built (l ∷ w) = ap (λ z. l ∷ z) (derived_built w)

pub derived_injective : (v w : List Label) → derived_labels v ≡ derived_labels w → v ≡ w
derived_injective v w e = sym (built_derived v) ∙ ap built_labels e ∙ built_derived w

pub same_draft : (P Q : List EntryLabel → Type 0) (made : Sketch) → IsDraftOf P made →
    ((w : List EntryLabel) → P w ↔ Q w) → IsDraftOf Q made
same_draft P Q made h same = record {
  exact = λ w. (
    (λ a. (same (derived_labels w)).0 ((h.exact w).0 a)),
    (λ q. (h.exact w).1 ((same (derived_labels w)).1 q)),
  );
  plain = h.plain;
}

pub none_draft : (made : Sketch) → ((w : List Label) → Accepts made w ↔ (w ≡ [])) →
    IsDraftOf (λ w. w ≡ []) made
none_draft made h = record {
  exact = λ w. ((λ a. ap derived_labels ((h w).0 a)), (λ q. (h w).1 (derived_injective w [] q)));
  plain = λ w a. subst (λ (z : List Label). ArePlain z) (sym ((h w).0 a)) refl;
}

pub letter_draft : (made : Sketch) (label : Label) →
    ((w : List Label) → Accepts made w ↔ (w ≡ label ∷ [])) → IsTrue (is_plain_label label) →
    IsDraftOf (λ w. w ≡ derived_label label ∷ []) made
letter_draft made label h p = record {
  exact = λ w. (
    (λ a. ap derived_labels ((h w).0 a)),
    (λ q. (h w).1 (derived_injective w (label ∷ []) q)),
  );
  plain = λ w a. subst (λ (z : List Label). ArePlain z) (sym ((h w).0 a))
      (and_from (is_plain_label label) true p refl);
}

plain_both : (front back w : List Label) → w ≡ front ++ back → ArePlain front →
    ArePlain back → ArePlain w
plain_both front back w e f b = ap (list_all is_plain_label) e
    ∙ list_all-append is_plain_label front back
    ∙ and_from (list_all is_plain_label front) (list_all is_plain_label back) f b

pub joined_draft : (P Q : List EntryLabel → Type 0) (a b made : Sketch) → IsDraftOf P a →
    IsDraftOf Q b → ((w : List Label) → Accepts made w ↔ IsJoined a b w) →
    IsDraftOf (IsCut P Q) made
joined_draft P Q a b made ha hb hm = record {
  exact = λ w. (
    (λ h. let j : IsJoined a b w = (hm w).0 h in
        record {
          front = derived_labels j.front;
          back = derived_labels j.back;
          whole =
              ap derived_labels j.whole ∙ map-append derived_label j.front j.back;
          first =
              (ha.exact j.front).0 j.first;
          second = (hb.exact j.back).0 j.second;
        }),
    (λ (c : IsCut P Q (derived_labels w)).
        (hm w).1 (record {
          front = built_labels c.front;
          back = built_labels c.back;
          whole = sym (built_derived w) ∙ ap built_labels c.whole
              ∙ map-append built_label c.front c.back;
          first = (ha.exact (built_labels c.front)).1
              (subst P (sym (derived_built c.front)) c.first);
          second = (hb.exact (built_labels c.back)).1
              (subst Q (sym (derived_built c.back)) c.second);
        })),
  );
  plain = λ w h. let j : IsJoined a b w = (hm w).0 h in
      plain_both j.front j.back w j.whole (ha.plain j.front j.first) (hb.plain j.back j.second);
}

pub more_draft : (Q : List EntryLabel → Type 0) (a b made : Sketch) → IsDraftOf Q b →
    ((w : List Label) → Accepts made w ↔ IsEither a b w) → IsMoreBy Q a made
more_draft Q a b made hb hm = record {
  exact = λ w. (
    (λ h. elim ((hm w).0 h) [ inl q ↦ inl q | inr q ↦ inr ((hb.exact w).0 q) ]),
    (λ h. (hm w).1 (elim h [ inl q ↦ inl q | inr q ↦ inr ((hb.exact w).1 q) ])),
  );
  plain = λ old w h. elim ((hm w).0 h) [ inl q ↦ old w q | inr q ↦ hb.plain w q ];
}

pub same_more : (Q R : List EntryLabel → Type 0) (a made : Sketch) → IsMoreBy Q a made →
    ((w : List EntryLabel) → Q w ↔ R w) → IsMoreBy R a made
same_more Q R a made h same = record {
  exact = λ w. (
    (λ x. elim ((h.exact w).0 x) [
      | inl q ↦ inl q
      | inr q ↦
          inr ((same (derived_labels w)).0 q)
    ]),
    (λ x. (h.exact w).1 (elim x [
      | inl q ↦ inl q
      | inr q ↦
          inr ((same (derived_labels w)).1 q)
    ])),
  );
  plain = h.plain;
}

pub no_more : (Q : List EntryLabel → Type 0) (a : Sketch) → ((w : List EntryLabel) → Q w → ⊥) →
    IsMoreBy Q a a
no_more Q a none = record {
  exact = λ w. (
    (λ x. inl x),
    (λ x. elim x [ inl q ↦ q | inr q ↦ absurd (none (derived_labels w) q) ]),
  );
  plain = λ old. old;
}

pub more_added : (P Q : List EntryLabel → Type 0) (a made : Sketch) → IsDraftOf P a →
    IsMoreBy Q a made → IsDraftOf (λ w. P w ⊎ Q w) made
more_added P Q a made h m = record {
  exact = λ w. (
    (λ x. elim ((m.exact w).0 x) [ inl q ↦ inl ((h.exact w).0 q) | inr q ↦ inr q ]),
    (λ x. (m.exact w).1 (elim x [ inl q ↦ inl ((h.exact w).1 q) | inr q ↦ inr q ])),
  );
  plain = m.plain h.plain;
}

pub no_draft : (P : List EntryLabel → Type 0) (made : Sketch) →
    ((w : List Label) → Accepts made w → ⊥) → ((w : List EntryLabel) → P w → ⊥) → IsDraftOf P made
no_draft P made h none =
    record {
      exact = λ w. ((λ a. absurd (h w a)), (λ q. absurd (none (derived_labels w) q)));
      plain = λ w a. absurd (h w a);
    }
