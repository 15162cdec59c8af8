-- Drafts of expressions.
use Rattle.std.proofs.Common.{◌≡◌, ◌⊎◌, inl, inr, ℕ, ◌+◌, ◌<◌, ◌≤◌, Bool, List, [], ◌∷◌, ◌++◌, refl, sym, ◌∙◌, ap, subst, append_assoc, append-nil, arith, Some, length, take, get_or, map, suc, zero, Vec, Global}
use Rattle.std.specs.Prelude.{IsTrue, ◌↔◌}
use Rattle.std.specs.List.{list_all}
use Rattle.std.proofs.lemmas.Bool.{and_parts, and_from}
use Rattle.std.proofs.lemmas.List.{map-append, take_more, take_all}
use Rattle.std.proofs.lemmas.List.Folds.{list_all-append}
use Rattle.ap_symbol.specs.declared.symbol.Symbol.{Symbol}
use Rattle.ap_symbol.specs.declared.symbol.Symbol.TheVariants.{Letter, Tag, Blank, Join, Queue, Alarm, Star, At}
use Rattle.ap_dix.specs.Derivation.{Label as EntryLabel, label, Derives, nothing, expression, paired, facing}
use Rattle.ap_dix.specs.Forms.{Form, sequence, either, forms_of}
use Rattle.ap_dix.specs.Language.{Lang, LangAll, LangSome, IsSplit, Repeats as RepeatsOf, done as done_of, more as more_of}
use Rattle.ap_dix.specs.Plain.{plain}
use Rattle.ap_dix.specs.Soundness.{is_one_symbol, is_sound_form, are_sound_forms}
use Rattle.ap_dix.specs.declared.dictionary.Dictionary.{Dictionary}
use Rattle.ap_dix.specs.declared.dictionary.Direction.{Direction}
use Rattle.ap_dix.specs.declared.dictionary.Direction.TheVariants.{Lr, Rl}
use Rattle.ap_dix.specs.declared.dictionary.EntryPart.TheVariants.{Expression}
use Rattle.ap_dix.specs.declared.expr.Expr.{Expr, Sequence, Either}
use Rattle.ap_dix.proofs.PlainLaws.{plain-Sequence, plain-Either}
use Rattle.ap_fst.specs.Sections.{is_plain_label, is_plain_side}
use Rattle.ap_fst.specs.Sketches.{Sketch}
use Rattle.ap_fst.specs.Paths.{Accepts, IsJoined, IsEither, IsOptional, IsMoreThanNone, Repeats, done, more}
use Rattle.ap_fst.specs.declared.label.Label.{Label}
use Rattle.ap_compile.specs.Labels.{derived_label, derived_labels, ArePlain}
use Rattle.ap_compile.specs.Drafts.{IsCut, IsDraftOf, IsMoreBy}
use Rattle.ap_compile.specs.Forming.{OfStrings}
use Rattle.ap_compile.proofs.Drafting.{built_labels, built_label, built_derived, derived_built, derived_injective, same_draft, none_draft, letter_draft, joined_draft, more_draft, more_added}
use Rattle.ap_compile.proofs.Words.{paired_swapped}

-- strings and their labels

pub paired_append : (a b : List Symbol) → paired (a ++ b) (a ++ b) ≡ paired a a ++ paired b b
paired_append [] b = refl
paired_append (x ∷ a) b = ap (λ z. label (Some x) (Some x) ∷ z) (paired_append a b)

pub faced_same : (direction : Direction) (s : List Symbol) →
    facing direction (paired s s) ≡ paired s s
faced_same Lr s = refl
faced_same Rl s = paired_swapped s s

pub same_strings : (P Q : List Symbol → Type 0) → ((s : List Symbol) → P s ↔ Q s) →
    (w : List EntryLabel) → OfStrings P w ↔ OfStrings Q w
same_strings P Q h w = (
  (λ o. record { string = o.string; held = (h o.string).0 o.held; is = o.is }),
  (λ o. record { string = o.string; held = (h o.string).1 o.held; is = o.is }),
)

pub strings_draft : (P Q : List Symbol → Type 0) (made : Sketch) → IsDraftOf (OfStrings P) made →
    ((s : List Symbol) → P s ↔ Q s) → IsDraftOf (OfStrings Q) made
strings_draft P Q made h same =
    same_draft (OfStrings P) (OfStrings Q) made h (same_strings P Q same)

pub one_symbol_plain : (x : Symbol) → IsTrue (is_one_symbol x) → IsTrue (is_plain_side (Some x))
one_symbol_plain (Letter c) h = h
one_symbol_plain Blank h = refl
one_symbol_plain (Tag name) h = let no : ⊥ = cc in absurd no
one_symbol_plain Join h = let no : ⊥ = cc in absurd no
one_symbol_plain Queue h = let no : ⊥ = cc in absurd no
one_symbol_plain Alarm h = let no : ⊥ = cc in absurd no
one_symbol_plain Star h = let no : ⊥ = cc in absurd no
one_symbol_plain At h = let no : ⊥ = cc in absurd no

pub symbol_drafted : (made : Sketch) (l r x : Symbol) → l ≡ x → r ≡ x → IsTrue (is_one_symbol x) →
    ((w : List Label) → Accepts made w ↔ (w ≡ record { left = Some l; right = Some r } ∷ [])) →
    IsDraftOf (OfStrings (λ s. s ≡ x ∷ [])) made
symbol_drafted made l r x el er one h =
    let lab : Label = record { left = Some l; right = Some r } in
    let is : derived_label lab ≡ label (Some x) (Some x) =
    ap (λ (z : Symbol). label (Some z) (Some r)) el
    ∙ ap (λ (z : Symbol). label (Some x) (Some z)) er in
    let left : IsTrue (is_plain_side (Some l)) = one_symbol_plain l (ap is_one_symbol el ∙ one) in
    let right : IsTrue (is_plain_side (Some r)) = one_symbol_plain r (ap is_one_symbol er ∙ one) in
    same_draft (λ w. w ≡ derived_label lab ∷ []) (OfStrings (λ s. s ≡ x ∷ [])) made
    (letter_draft made lab h
    (and_from (is_plain_side (Some l)) (is_plain_side (Some r)) left right))
    (λ w. (
      (λ e. record { string = x ∷ []; held = refl; is = e ∙ ap (λ z. z ∷ []) is }),
      (λ o. o.is ∙ ap (λ z. paired z z) o.held ∙ ap (λ z. z ∷ []) (sym is)),
    ))

pub empty_drafted : (made : Sketch) → ((w : List Label) → Accepts made w ↔ (w ≡ [])) →
    IsDraftOf (OfStrings (λ s. s ≡ [])) made
empty_drafted made h = same_draft (λ w. w ≡ []) (OfStrings (λ s. s ≡ [])) made (none_draft made h)
    (λ w. (
      (λ e. record { string = []; held = refl; is = e }),
      (λ o. o.is ∙ ap (λ z. paired z z) o.held),
    ))

pub split_drafted : (P Q : List Symbol → Type 0) (a b made : Sketch) → IsDraftOf (OfStrings P) a →
    IsDraftOf (OfStrings Q) b → ((w : List Label) → Accepts made w ↔ IsJoined a b w) →
    IsDraftOf (OfStrings (IsSplit P Q)) made
split_drafted P Q a b made ha hb hm =
    same_draft (IsCut (OfStrings P) (OfStrings Q)) (OfStrings (IsSplit P Q)) made
    (joined_draft (OfStrings P) (OfStrings Q) a b made ha hb hm)
    (λ w. (
      (λ c. record {
        string = c.first.string ++ c.second.string;
        held = record {
          front = c.first.string;
          back = c.second.string;
          whole = refl;
          first =
              c.first.held;
          second = c.second.held;
        };
        is = c.whole ∙ ap (λ z. z ++ c.back) c.first.is
            ∙ ap (λ z. paired c.first.string c.first.string ++ z) c.second.is
            ∙ sym (paired_append c.first.string c.second.string);
      }),
      (λ o. record {
        front = paired o.held.front o.held.front;
        back = paired o.held.back o.held.back;
        whole = o.is ∙ ap (λ z. paired z z) o.held.whole ∙ paired_append o.held.front o.held.back;
        first = record { string = o.held.front; held = o.held.first; is = refl };
        second = record { string = o.held.back; held = o.held.second; is = refl };
      }),
    ))

pub either_drafted : (P Q : List Symbol → Type 0) (a made : Sketch) → IsDraftOf (OfStrings P) a →
    IsMoreBy (OfStrings Q) a made → IsDraftOf (OfStrings (λ s. P s ⊎ Q s)) made
either_drafted P Q a made ha hm =
    same_draft (λ w. OfStrings P w ⊎ OfStrings Q w) (OfStrings (λ s. P s ⊎ Q s)) made
    (more_added (OfStrings P) (OfStrings Q) a made ha hm)
    (λ w. (
      (λ x. elim x [
        | inl o ↦ record { string = o.string; held = inl o.held; is = o.is }
        | inr o ↦
            record { string = o.string; held = inr o.held; is = o.is }
      ]),
      (λ o. elim o.held [
        | inl p ↦ inl (record { string = o.string; held = p; is = o.is })
        | inr q ↦
            inr (record { string = o.string; held = q; is = o.is })
      ]),
    ))

plain_both : (front back w : List Label) → w ≡ front ++ back → ArePlain front →
    ArePlain back → ArePlain w
plain_both front back w e f b = ap (list_all is_plain_label) e
    ∙ list_all-append is_plain_label front back
    ∙ and_from (list_all is_plain_label front) (list_all is_plain_label back) f b

-- repetitions

repeats_plain : (P : List Symbol → Type 0) (a : Sketch) (w : List Label) → IsDraftOf (OfStrings P) a
    → Repeats a w → ArePlain w
repeats_plain P a w h done = refl
repeats_plain P a w h (more front back whole first rest) =
    plain_both front back w whole (h.plain front first) (repeats_plain P a back h rest)

repeats_strings : (P : List Symbol → Type 0) (a : Sketch) (w : List Label) →
    IsDraftOf (OfStrings P) a → Repeats a w → OfStrings (RepeatsOf P) (derived_labels w)
repeats_strings P a w h done = record { string = []; held = done_of; is = refl }
repeats_strings P a w h (more front back whole first rest) =
    let o : OfStrings P (derived_labels front) = (h.exact front).0 first in
    let r : OfStrings (RepeatsOf P) (derived_labels back) = repeats_strings P a back h rest in
    record {
      string = o.string ++ r.string;
      held = more_of o.string r.string refl o.held r.held;
      is = ap derived_labels whole ∙ map-append derived_label front back
          ∙ ap (λ z. z ++ derived_labels back) o.is ∙ ap (λ z. paired o.string o.string ++ z) r.is
          ∙ sym (paired_append o.string r.string);
    }

-- the labels of a string in the words of transducers
abbrev built : List Symbol → List Label
built s = built_labels (paired s s)

built_append : (s front back : List Symbol) → s ≡ front ++ back →
    built s ≡ built front ++ built back
built_append s front back e = ap (λ z. built_labels (paired z z)) e
    ∙ ap built_labels (paired_append front back)
    ∙ map-append built_label (paired front front) (paired back back)

built_accepted : (P : List Symbol → Type 0) (a : Sketch) (s : List Symbol) →
    IsDraftOf (OfStrings P) a → P s → Accepts a (built s)
built_accepted P a s h p =
    (h.exact (built s)).1 (record { string = s; held = p; is = derived_built (paired s s) })

strings_repeat : (P : List Symbol → Type 0) (a : Sketch) (s : List Symbol) →
    IsDraftOf (OfStrings P) a → RepeatsOf P s → Repeats a (built s)
strings_repeat P a s h done_of = done
strings_repeat P a s h (more_of front back whole first rest) =
    more (built front) (built back) (built_append s front back whole)
    (built_accepted P a front h first) (strings_repeat P a back h rest)

from_built : (A : List Label → Type 0) (w : List Label) (s : List Symbol) →
    derived_labels w ≡ paired s s → A (built s) → A w
from_built A w s e h = subst A (sym (sym (built_derived w) ∙ ap built_labels e)) h

pub star_drafted : (P : List Symbol → Type 0) (a made : Sketch) → IsDraftOf (OfStrings P) a →
    ((w : List Label) → Accepts made w ↔ Repeats a w) → IsDraftOf (OfStrings (RepeatsOf P)) made
star_drafted P a made h hm = record {
  exact = λ w. (
    (λ x. repeats_strings P a w h ((hm w).0 x)),
    (λ (o : OfStrings (RepeatsOf P) (derived_labels w)). (hm w).1
        (from_built (Repeats a) w o.string o.is (strings_repeat P a o.string h o.held))),
  );
  plain = λ w x. repeats_plain P a w h ((hm w).0 x);
}

more_built : (P : List Symbol → Type 0) (a : Sketch) (s : List Symbol) → IsDraftOf (OfStrings P) a →
    IsSplit P (RepeatsOf P) s → IsMoreThanNone a (built s)
more_built P a s h p = record {
  front = built p.front;
  back = built p.back;
  whole =
      built_append s p.front p.back p.whole;
  first = built_accepted P a p.front h p.first;
  repeats =
      strings_repeat P a p.back h p.second;
}

pub plus_drafted : (P : List Symbol → Type 0) (a made : Sketch) → IsDraftOf (OfStrings P) a →
    ((w : List Label) → Accepts made w ↔ IsMoreThanNone a w) →
    IsDraftOf (OfStrings (IsSplit P (RepeatsOf P))) made
plus_drafted P a made h hm = record {
  exact = λ w. (
    (λ x. let m : IsMoreThanNone a w = (hm w).0 x in
        let o : OfStrings P (derived_labels m.front) = (h.exact m.front).0 m.first in
        let r : OfStrings (RepeatsOf P) (derived_labels m.back) =
        repeats_strings P a m.back h m.repeats in
        record {
          string = o.string ++ r.string;
          held = record {
            front = o.string;
            back = r.string;
            whole = refl;
            first =
                o.held;
            second = r.held;
          };
          is = ap derived_labels m.whole ∙ map-append derived_label m.front m.back
              ∙ ap (λ z. z ++ derived_labels m.back) o.is
              ∙ ap (λ z. paired o.string o.string ++ z) r.is
              ∙ sym (paired_append o.string r.string);
        }),
    (λ (o : OfStrings (IsSplit P (RepeatsOf P)) (derived_labels w)). (hm w).1
        (from_built (IsMoreThanNone a) w o.string o.is (more_built P a o.string h o.held))),
  );
  plain = λ w x. let m : IsMoreThanNone a w = (hm w).0 x in
      plain_both m.front m.back w m.whole (h.plain m.front m.first)
      (repeats_plain P a m.back h m.repeats);
}

pub opt_drafted : (P : List Symbol → Type 0) (a made : Sketch) → IsDraftOf (OfStrings P) a →
    ((w : List Label) → Accepts made w ↔ IsOptional a w) →
    IsDraftOf (OfStrings (λ s. (s ≡ []) ⊎ P s)) made
opt_drafted P a made h hm = record {
  exact = λ w. (
    (λ x. elim ((hm w).0 x) [
      | inl e ↦ record { string = []; held = inl refl; is = ap derived_labels e }
      | inr p ↦ let o : OfStrings P (derived_labels w) = (h.exact w).0 p in
          record { string = o.string; held = inr o.held; is = o.is }
    ]),
    (λ (o : OfStrings (λ s. (s ≡ []) ⊎ P s) (derived_labels w)). (hm w).1 (elim o.held [
      | inl e ↦ inl (derived_injective w [] (o.is ∙ ap (λ z. paired z z) e))
      | inr p ↦ inr ((h.exact w).1 (record { string = o.string; held = p; is = o.is }))
    ])),
  );
  plain = λ w x. elim ((hm w).0 x) [ inl e ↦ subst ArePlain (sym e) refl | inr p ↦ h.plain w p ];
}

-- one expression more

all_more : (es : List Form) (e : Form) (s : List Symbol) → LangAll (forms_of (es ++ e ∷ [])) s
    ↔ IsSplit (LangAll (forms_of es)) (Lang e) s
all_more [] e s = (
  (λ h. record {
    front = [];
    back = s;
    whole = refl;
    first = refl;
    second =
        subst (Lang e) (sym (h.whole ∙ ap (λ z. h.front ++ z) h.second
        ∙ append-nil h.front)) h.first;
  }),
  (λ h. record {
    front = s;
    back = [];
    whole = sym (append-nil s);
    first =
        subst (Lang e) (sym (h.whole ∙ ap (λ z. z ++ h.back) h.first)) h.second;
    second = refl;
  }),
)
all_more (f ∷ es) e s = (
  (λ h. let k : IsSplit (LangAll (forms_of es)) (Lang e) h.back =
      (all_more es e h.back).0 h.second in
      record {
        front = h.front ++ k.front;
        back = k.back;
        whole = h.whole ∙ ap (λ z. h.front ++ z) k.whole
            ∙ sym (append_assoc h.front k.front k.back);
        first = record {
          front = h.front;
          back = k.front;
          whole = refl;
          first =
              h.first;
          second = k.first;
        };
        second = k.second;
      }),
  (λ h. let back : LangAll (forms_of (es ++ e ∷ [])) (h.first.back ++ h.back) =
      (all_more es e (h.first.back ++ h.back)).1
      (record {
        front = h.first.back;
        back = h.back;
        whole = refl;
        first = h.first.second;
        second =
            h.second;
      }) in
      record {
        front = h.first.front;
        back = h.first.back ++ h.back;
        whole = h.whole ∙ ap (λ z. z ++ h.back) h.first.whole
            ∙ append_assoc h.first.front h.first.back h.back;
        first = h.first.first;
        second = back;
      }),
)

some_more : (es : List Form) (e : Form) (s : List Symbol) → LangSome (forms_of (es ++ e ∷ [])) s
    ↔ (LangSome (forms_of es) s ⊎ Lang e s)
some_more [] e s = (
  (λ h. elim h [ inl p ↦ inr p | inr q ↦ absurd q ]),
  (λ h. elim h [ inl q ↦ absurd q | inr p ↦ inl p ]),
)
some_more (f ∷ es) e s = (
  (λ h. elim h [
    | inl p ↦ inl (inl p)
    | inr q ↦
        elim ((some_more es e s).0 q) [ inl a ↦ inl (inr a) | inr b ↦ inr b ]
  ]),
  (λ h. elim h [
    | inl p ↦ elim p [ inl a ↦ inl a | inr b ↦ inr ((some_more es e s).1 (inl b)) ]
    | inr q ↦ inr ((some_more es e s).1 (inr q))
  ]),
)

forms_more : (es : List Expr) (e d : Expr) (i : ℕ) → i < length es → e ≡ get_or es i d →
    map plain (take (i + 1) es) ≡ map plain (take i es) ++ plain e ∷ []
forms_more es e d i lt is =
    ap (map plain) (take_more es i d lt ∙ ap (λ z. take i es ++ z ∷ []) (sym is))
    ∙ map-append plain (take i es) (e ∷ [])

pub sequence_more : (es : List Expr) (e d : Expr) (i : ℕ) (a b made : Sketch) → i < length es →
    e ≡ get_or es i d → IsDraftOf (OfStrings (LangAll (forms_of (map plain (take i es))))) a →
    IsDraftOf (OfStrings (Lang (plain e))) b
    → ((w : List Label) → Accepts made w ↔ IsJoined a b w) →
    IsDraftOf (OfStrings (LangAll (forms_of (map plain (take (i + 1) es))))) made
sequence_more es e d i a b made lt is ha hb hm =
    subst (λ (fs : List Form). IsDraftOf (OfStrings (LangAll (forms_of fs))) made)
    (sym (forms_more es e d i lt is))
    (strings_draft (IsSplit (LangAll (forms_of (map plain (take i es)))) (Lang (plain e)))
    (LangAll (forms_of (map plain (take i es) ++ plain e ∷ []))) made
    (split_drafted (LangAll (forms_of (map plain (take i es)))) (Lang (plain e)) a b made ha hb hm)
    (λ s. let k = all_more (map plain (take i es)) (plain e) s in (k.1, k.0)))

pub choice_more : (es : List Expr) (e d : Expr) (i : ℕ) (a b made : Sketch) → i < length es →
    e ≡ get_or es i d → IsDraftOf (OfStrings (LangSome (forms_of (map plain (take i es))))) a →
    IsDraftOf (OfStrings (Lang (plain e))) b
    → ((w : List Label) → Accepts made w ↔ IsEither a b w) →
    IsDraftOf (OfStrings (LangSome (forms_of (map plain (take (i + 1) es))))) made
choice_more es e d i a b made lt is ha hb hm =
    subst (λ (fs : List Form). IsDraftOf (OfStrings (LangSome (forms_of fs))) made)
    (sym (forms_more es e d i lt is))
    (strings_draft (λ s. LangSome (forms_of (map plain (take i es))) s ⊎ Lang (plain e) s)
    (LangSome (forms_of (map plain (take i es) ++ plain e ∷ []))) made
    (either_drafted (LangSome (forms_of (map plain (take i es)))) (Lang (plain e)) a made ha
    (more_draft (OfStrings (Lang (plain e))) a b made hb hm))
    (λ s. let k = some_more (map plain (take i es)) (plain e) s in (k.1, k.0)))

pub all_forms : (A : List Form → Type 0) (es : List Expr) (i : ℕ) → length es ≤ i →
    A (map plain (take i es)) → A (map plain es)
all_forms A es i le h = subst (λ (z : List Expr). A (map plain z)) (take_all i es le) h

pub sound_one : (es : List Expr) (i : ℕ) (e d : Expr) → i < length es → e ≡ get_or es i d →
    IsTrue (are_sound_forms (forms_of (map plain es))) → IsTrue (is_sound_form (plain e))
sound_one [] i e d lt is h = absurd (omega arith)
sound_one (x ∷ es) zero e d lt is h = ap (λ z. is_sound_form (plain z)) is
    ∙ (and_parts (is_sound_form (plain x)) (are_sound_forms (forms_of (map plain es))) h).0
sound_one (x ∷ es) (suc i) e d lt is h =
    sound_one es i e d (omega arith) is
    ((and_parts (is_sound_form (plain x)) (are_sound_forms (forms_of (map plain es))) h).1)

-- the forms of the code's expressions

pub sequence_form : (e : Expr) (es : Vec Expr Global) (xs : List Expr) → e ≡ Sequence es →
    xs ≡ es.items → plain e ≡ sequence (forms_of (map plain xs))
sequence_form e es xs is v = ap plain is ∙ plain-Sequence es
    ∙ ap (λ z. sequence (forms_of (map plain z))) (sym v)

pub either_form : (e : Expr) (es : Vec Expr Global) (xs : List Expr) → e ≡ Either es →
    xs ≡ es.items → plain e ≡ either (forms_of (map plain xs))
either_form e es xs is v = ap plain is ∙ plain-Either es
    ∙ ap (λ z. either (forms_of (map plain z))) (sym v)

pub form_drafted : (f g : Form) (made : Sketch) → f ≡ g → IsDraftOf (OfStrings (Lang g)) made →
    IsDraftOf (OfStrings (Lang f)) made
form_drafted f g made e h = subst (λ (z : Form). IsDraftOf (OfStrings (Lang z)) made) (sym e) h

pub form_empty : (f g : Form) (b : Bool) → f ≡ g → (IsTrue b ↔ Lang g []) → IsTrue b ↔ Lang f []
form_empty f g b e h = subst (λ (z : Form). IsTrue b ↔ Lang z []) (sym e) h

pub form_sound : (f g : Form) → f ≡ g → IsTrue (is_sound_form f) → IsTrue (is_sound_form g)
form_sound f g e h = subst (λ (z : Form). IsTrue (is_sound_form z)) e h

-- the empty string

nil_front : {X : Type 0} (xs ys : List X) → [] ≡ xs ++ ys → xs ≡ []
nil_front [] ys e = refl
nil_front (x ∷ xs) ys e = let no : ⊥ = cc in absurd no

nil_back : {X : Type 0} (xs ys : List X) → [] ≡ xs ++ ys → ys ≡ []
nil_back [] ys e = sym e
nil_back (x ∷ xs) ys e = let no : ⊥ = cc in absurd no

pub empty_both : (P Q : List Symbol → Type 0) → IsSplit P Q [] ↔ (P [] × Q [])
empty_both P Q = (
  (λ h. (
    subst P (nil_front h.front h.back h.whole) h.first,
    subst Q (nil_back h.front h.back h.whole) h.second,
  )),
  (λ h. record { front = []; back = []; whole = refl; first = h.0; second = h.1 }),
)

pub empty_plus : (P : List Symbol → Type 0) (b : Bool) → (IsTrue b ↔ P []) →
    IsTrue b ↔ IsSplit P (RepeatsOf P) []
empty_plus P b h = (
  (λ t. (empty_both P (RepeatsOf P)).1 (h.0 t, done_of)),
  (λ s. h.1 ((empty_both P (RepeatsOf P)).0 s).0),
)

pub all_empty_more : (es : List Expr) (e d : Expr) (i : ℕ) → i < length es → e ≡ get_or es i d →
    LangAll (forms_of (map plain (take i es))) [] → Lang (plain e) [] →
    LangAll (forms_of (map plain (take (i + 1) es))) []
all_empty_more es e d i lt is h k =
    subst (λ (fs : List Form). LangAll (forms_of fs) []) (sym (forms_more es e d i lt is))
    ((all_more (map plain (take i es)) (plain e) []).1
    ((empty_both (LangAll (forms_of (map plain (take i es)))) (Lang (plain e))).1 (h, k)))

pub empty_each : (es : List Expr) (i : ℕ) (e d : Expr) → i < length es → e ≡ get_or es i d →
    LangAll (forms_of (map plain es)) [] → Lang (plain e) []
empty_each [] i e d lt is h = absurd (omega arith)
empty_each (x ∷ es) zero e d lt is h =
    subst (λ z. Lang (plain z) []) (sym is)
    ((empty_both (Lang (plain x)) (LangAll (forms_of (map plain es)))).0 h).0
empty_each (x ∷ es) (suc i) e d lt is h =
    empty_each es i e d (omega arith) is
    ((empty_both (Lang (plain x)) (LangAll (forms_of (map plain es)))).0 h).1

pub some_empty : (es : List Expr) (i : ℕ) (e d : Expr) → i < length es → e ≡ get_or es i d →
    Lang (plain e) [] → LangSome (forms_of (map plain es)) []
some_empty [] i e d lt is h = absurd (omega arith)
some_empty (x ∷ es) zero e d lt is h = inl (subst (λ z. Lang (plain z) []) is h)
some_empty (x ∷ es) (suc i) e d lt is h = inr (some_empty es i e d (omega arith) is h)

pub no_empty_more : (es : List Expr) (e d : Expr) (i : ℕ) → i < length es → e ≡ get_or es i d →
    (LangSome (forms_of (map plain (take i es))) [] → ⊥) → (Lang (plain e) [] → ⊥) →
    LangSome (forms_of (map plain (take (i + 1) es))) [] → ⊥
no_empty_more es e d i lt is f g h =
    elim ((some_more (map plain (take i es)) (plain e) []).0
    (subst (λ (fs : List Form). LangSome (forms_of fs) []) (forms_more es e d i lt is) h))
    [ inl a ↦ f a | inr b ↦ g b ]

-- the part of an entry

pub one_expression : (d : Dictionary) (direction : Direction) (e : Form) (text : List ℕ)
    (w : List EntryLabel) → Derives d direction (Expression e text ∷ []) w → OfStrings (Lang e) w
one_expression d direction e text w (expression string l nothing q) =
    record {
      string = string;
      held = l;
      is =
          q ∙ append-nil (facing direction (paired string string)) ∙ faced_same direction string;
    }

pub of_expression : (d : Dictionary) (direction : Direction) (e : Form) (text : List ℕ)
    (w : List EntryLabel) → OfStrings (Lang e) w → Derives d direction (Expression e text ∷ []) w
of_expression d direction e text w o =
    expression o.string o.held nothing (o.is ∙ sym (faced_same direction o.string)
    ∙ sym (append-nil (facing direction (paired o.string o.string))))

pub part_drafted : (d : Dictionary) (direction : Direction) (e : Form) (text : List ℕ)
    (made : Sketch) → IsDraftOf (OfStrings (Lang e)) made →
    IsDraftOf (Derives d direction (Expression e text ∷ [])) made
part_drafted d direction e text made h =
    same_draft (OfStrings (Lang e)) (Derives d direction (Expression e text ∷ [])) made h
    (λ w. (of_expression d direction e text w, one_expression d direction e text w))
