-- What is left out of a tree, because it is too deep, has no first fault.
use Rattle.std.proofs.Common.{◌≡◌, ◌⊎◌, inl, inr, ℕ, zero, suc, ◌+◌, ◌-◌, ◌<◌, ◌≤◌, min, Bool, true, false, cond, ◌==◌, List, [], ◌∷◌, length, refl, sym, ap, ◌∙◌, arith, Option, Some, None, subst}
use Rattle.std.proofs.lemmas.Bool.Decides.{nat_tests}
use Rattle.ap_markup.specs.Deep.{pruned}
use Rattle.ap_markup.specs.Table.{Grammar, Line, Content, line_in}
use Rattle.ap_markup.specs.Tree.{Tag, Parts, Done, Run, Element}
use Rattle.ap_markup.specs.Kinds.{number_of}
use Rattle.ap_markup.specs.Faults.{Fault, order_of, place_past}
use Rattle.ap_markup.specs.Forms.{SpellsText}
use Rattle.ap_markup.specs.Least.{IsNoLater, IsLeast}
use Rattle.ap_markup.specs.Allows.{HasRequired, names_of}
use Rattle.ap_markup.specs.Mistakes.{IsMistake, unknown, unlisted, unmet, out, lacking, deep, only_of, groups_of, known_after, HasFault, stray, past_text, at_tag, inside, past_element}
use Rattle.ap_markup.specs.Elements.{grammar}
use Rattle.ap_markup.specs.Sentences.{HasFaultUnder}
use Rattle.ap_markup.specs.declared.kind.MarkupKind.{MarkupKind}
use Rattle.ap_markup.specs.declared.kind.MarkupKind.TheVariants.{Misplaced}
use Rattle.ap_markup.specs.declared.tables.Table.{Table}
use Rattle.ap_markup.proofs.LeastFaults.{same_fault}
use Rattle.ap_markup.proofs.Ordered.{InOrder, order_within, pruned_order, text_order}
use Rattle.ap_markup.proofs.TreeFaults.{of_run, of_element, of_none}

-- some fault of the family is no later
abbrev Earlier : (Fault → Type 0) → Fault → Type 0
Earlier A f = (g : Fault) × A g × IsNoLater (order_of g) (order_of f)

itself : (A : Fault → Type 0) (f : Fault) → A f → Earlier A f
itself A f h = (f, h, inr (refl, omega arith))

through : (a b c : ℕ × ℕ) → IsNoLater a b → IsNoLater b c → IsNoLater a c
through a b c (inl x) (inl y) = inl (omega (arith, x, y))
through a b c (inl x) (inr y) = inl (omega (arith, x, y.0))
through a b c (inr x) (inl y) = inl (omega (arith, x.0, y))
through a b c (inr x) (inr y) = inr (x.0 ∙ y.0, omega (arith, x.1, y.1))

both_ways : (a b : ℕ × ℕ) → IsNoLater a b → IsNoLater b a → (a.0 ≡ b.0) × (a.1 ≡ b.1)
both_ways a b (inl x) (inl y) = absurd (omega (arith, x, y))
both_ways a b (inl x) (inr y) = absurd (omega (arith, x, y.0))
both_ways a b (inr x) (inl y) = absurd (omega (arith, x.0, y))
both_ways a b (inr x) (inr y) = (x.0, omega (arith, x.1, y.1))

-- two families of which each has a fault no later than each of the other have the same least
least_covered : (A B : Fault → Type 0) → ((f : Fault) → A f → Earlier B f) →
    ((f : Fault) → B f → Earlier A f) → (o : Option Fault) → IsLeast order_of A o →
    IsLeast order_of B o
least_covered A B to from None h = λ f b. let e = from f b in h e.0 e.1
least_covered A B to from (Some f) h =
    let e = to f h.0 in
    let k = from e.0 e.1 in
    let back : IsNoLater (order_of f) (order_of e.0) =
    through (order_of f) (order_of k.0) (order_of e.0) (h.1 k.0 k.1) k.2 in
    let s = both_ways (order_of e.0) (order_of f) e.2 back in
    let same : e.0 ≡ f = same_fault e.0 f s.0 s.1 in (
      subst B same e.1,
      λ g b. let d = from g b in through (order_of f) (order_of d.0) (order_of g) (h.1 d.0 d.1) d.2,
    )

-- an element that isn't too deep is kept
kept_is : (room : ℕ) (tag : Tag) (kids more : Parts) → pruned (room + 1) (Element tag kids more)
    ≡ Element tag (pruned room kids) (pruned (room + 1) more)
unfolding pruned
kept_is room tag kids more =
    let b : (room + 1 == 0) ≡ false = grind (arith, nat_tests) in
    let less : room + 1 - 1 ≡ room = omega arith in
    ap (λ t. cond t (pruned (room + 1) more)
    (Element tag (pruned (room + 1 - 1) kids) (pruned (room + 1) more))) b
    ∙ ap (λ n. Element tag (pruned n kids) (pruned (room + 1) more)) less

run_is : (room : ℕ) (chars : List ℕ) (at : ℕ) (more : Parts) → pruned room (Run chars at more)
    ≡ Run chars at (pruned room more)
unfolding pruned
run_is room chars at more = refl

none_is : (room : ℕ) → pruned room Done ≡ Done
unfolding pruned
none_is room = refl

names_kept : (room : ℕ) (parts : Parts) → names_of (pruned (room + 1) parts) ≡ names_of parts
names_kept room Done = ap names_of (none_is (room + 1))
names_kept room (Run chars at more) = ap names_of (run_is (room + 1) chars at more)
    ∙ names_kept room more
names_kept room (Element tag kids more) = ap names_of (kept_is room tag kids more)
    ∙ ap (λ (ns : List (List ℕ)). tag.name ∷ ns) (names_kept room more)

low : (lo a b : ℕ) → lo ≤ a → lo ≤ b → lo ≤ min a b
low lo a b h k = omega (arith, h, k)

-- no fault is before the parts
fault_from : (text : List ℕ) (t : Grammar) (parts : Parts) (lo hi : ℕ) → InOrder text lo parts hi →
    hi ≤ 18446744073709551615 →
    (room : ℕ) (only : Bool) (groups : Option (List Content)) (before : List (List ℕ)) (f : Fault) →
    HasFault t room only groups before parts f → lo ≤ f.0
fault_from text t Done lo hi o big room only groups before f h =
    absurd (of_none t room only groups before Done f refl h)
fault_from text t (Run chars at more) lo hi o big room only groups before f h =
    elim (of_run t room only groups before (Run chars at more) f chars at more refl h) [
      | inl x ↦
          let here : f.0 ≡ place_past at x.0 = ap (λ (z : Fault). z.0) x.3 in
          let in_text = order_within text more at hi o.1 in
          let past : lo ≤ place_past at x.0 =
          low lo (at + x.0) 18446744073709551615 (omega (arith, o.0))
          (omega (arith, o.0, in_text, big)) in
          omega (arith, here, past)
      | inr y ↦ let r = fault_from text t more at hi o.1 big room only groups before f y in
          omega (arith, o.0, r)
    ]
fault_from text t (Element tag kids more) lo hi o big room only groups before f h =
    elim (of_element t room only groups before (Element tag kids more) f tag kids more refl h) [
      | inl (inl x) ↦ let here : f.0 ≡ tag.place = ap (λ (z : Fault). z.0) x.2 in
          omega (arith, here, o.1)
      | inl (inr y) ↦
          let b = order_within text more o.0 hi o.4 in
          let r = fault_from text t kids (tag.place + 1) o.0 o.3 (omega (arith, b, big)) (room - 1)
          (only_of (line_in tag.name t.rows)) (groups_of (line_in tag.name t.rows)) [] f y in
          omega (arith, o.1, r)
      | inr z ↦
          let a = order_within text kids (tag.place + 1) o.0 o.3 in
          let r = fault_from text t more o.0 hi o.4 big room only groups
          (known_after (line_in tag.name t.rows) tag.name before) f z in
          omega (arith, o.1, a, r)
    ]

-- the faults at a start tag don't depend on what is left out
mistake_to : (t : Grammar) (room : ℕ) (groups : Option (List Content)) (before : List (List ℕ))
    (tag : Tag) (kids some : Parts) (kind : MarkupKind) → (0 < room → names_of some ≡ names_of kids)
    → IsMistake t room groups before tag kids kind → IsMistake t room groups before tag some kind
mistake_to t room groups before tag kids some kind same (unknown a b c) = unknown a b c
mistake_to t room groups before tag kids some kind same (unlisted l a b c) = unlisted l a b c
mistake_to t room groups before tag kids some kind same (unmet l a b c) = unmet l a b c
mistake_to t room groups before tag kids some kind same (out l gs a b c d) = out l gs a b c d
mistake_to t room groups before tag kids some kind same (deep a b) = deep a b
mistake_to t room groups before tag kids some kind same (lacking l a never c) = by room refl
  where
    by : (n : ℕ) → room ≡ n → IsMistake t room groups before tag some kind
    by zero e = deep e c
    by (suc m) e = lacking l a
        (λ h. never (subst (HasRequired l.groups) (same (omega (arith, e))) h)) c

inner_names : (room : ℕ) (kids : Parts) → 0 < room → names_of (pruned room kids) ≡ names_of kids
inner_names room kids some =
    let next : room ≡ (room - 1) + 1 = omega (arith, some) in
    ap (λ n. names_of (pruned n kids)) next ∙ names_kept (room - 1) kids

abbrev Inner : Grammar → ℕ → Tag → Parts → Fault → Type 0
Inner t room tag kids f =
    HasFault t (room - 1) (only_of (line_in tag.name t.rows))
    (groups_of (line_in tag.name t.rows)) [] kids f

-- within an element that is too deep all is later than its own fault
inner_deep : (text : List ℕ) (t : Grammar) (room : ℕ) (only : Bool) (groups : Option (List Content))
    (before : List (List ℕ)) (tag : Tag) (kids own rest : Parts) (mid : ℕ) (f : Fault) → room ≡ 0 →
    InOrder text (tag.place + 1) kids mid → mid ≤ 18446744073709551615 → Inner t room tag kids f →
    Earlier (HasFault t room only groups before (Element tag own rest)) f
inner_deep text t room only groups before tag kids own rest mid f none o big h =
    let r = fault_from text t kids (tag.place + 1) mid o big (room - 1)
    (only_of (line_in tag.name t.rows)) (groups_of (line_in tag.name t.rows)) [] f h in (
      (tag.place, Misplaced),
      at_tag tag own rest Misplaced refl (deep none refl) refl,
      inl (omega (arith, r)),
    )

to_pruned : (text : List ℕ) (t : Grammar) (parts : Parts) (lo hi : ℕ) → InOrder text lo parts hi →
    hi ≤ 18446744073709551615 →
    (room : ℕ) (only : Bool) (groups : Option (List Content)) (before : List (List ℕ)) (f : Fault) →
    HasFault t room only groups before parts f →
    Earlier (HasFault t room only groups before (pruned (room + 1) parts)) f
to_pruned text t Done lo hi o big room only groups before f h =
    absurd (of_none t room only groups before Done f refl h)
to_pruned text t (Run chars at more) lo hi o big room only groups before f h =
    elim (of_run t room only groups before (Run chars at more) f chars at more refl h) [
      | inl x ↦ itself (HasFault t room only groups before
          (pruned (room + 1) (Run chars at more))) f
          (stray chars at x.0 (pruned (room + 1) more)
          (run_is (room + 1) chars at more) x.1 x.2 x.3)
      | inr y ↦
          let r = to_pruned text t more at hi o.1 big room only groups before f y in (
            r.0,
            past_text chars at (pruned (room + 1) more)
                (run_is (room + 1) chars at more) r.1,
            r.2,
          )
    ]
to_pruned text t (Element tag kids more) lo hi o big room only groups before f h =
    elim (of_element t room only groups before (Element tag kids more) f tag kids more refl h) [
      | inl (inl x) ↦ itself (HasFault t room only groups before
          (pruned (room + 1) (Element tag kids more))) f
          (at_tag tag (pruned room kids) (pruned (room + 1) more) x.0 (kept_is room tag kids more)
          (mistake_to t room groups before tag kids (pruned room kids) x.0
          (inner_names room kids) x.1) x.2)
      | inl (inr y) ↦ by room refl y
          (λ inner. to_pruned text t kids (tag.place + 1) o.0 o.3 within (room - 1) (only_of l)
          (groups_of l) [] f inner)
      | inr z ↦
          let r = to_pruned text t more o.0 hi o.4 big room only groups
          (known_after l tag.name before) f z in (
            r.0,
            past_element tag (pruned room kids) (pruned (room + 1) more)
                (kept_is room tag kids more) r.1,
            r.2,
          )
    ]
  where
    l : Option Line
    l = line_in tag.name t.rows

    within : o.0 ≤ 18446744073709551615
    within = omega (arith, order_within text more o.0 hi o.4, big)

    by : (n : ℕ) → room ≡ n → Inner t room tag kids f →
        (Inner t room tag kids f →
        Earlier (HasFault t (room - 1) (only_of (line_in tag.name t.rows))
        (groups_of (line_in tag.name t.rows)) [] (pruned (room - 1 + 1) kids)) f) →
        Earlier (HasFault t room only groups before (pruned (room + 1) (Element tag kids more))) f
    by zero e y on = subst (λ (z : Parts). Earlier (HasFault t room only groups before z) f)
        (sym (kept_is room tag kids more))
        (inner_deep text t room only groups before tag kids (pruned room kids)
        (pruned (room + 1) more) o.0 f e o.3
        (omega (arith, order_within text more o.0 hi o.4, big)) y)
    by (suc m) e y on =
        let r = on y in
        let same : room - 1 + 1 ≡ room = omega (arith, e) in (
          r.0,
          inside tag (pruned room kids) (pruned (room + 1) more) (kept_is room tag kids more)
              (subst (λ n. Inner t room tag (pruned n kids) r.0) same r.1),
          r.2,
        )

from_pruned : (text : List ℕ) (t : Grammar) (parts : Parts) (lo hi : ℕ) → InOrder text lo parts hi →
    hi ≤ 18446744073709551615 →
    (room : ℕ) (only : Bool) (groups : Option (List Content)) (before : List (List ℕ)) (f : Fault) →
    HasFault t room only groups before (pruned (room + 1) parts) f →
    Earlier (HasFault t room only groups before parts) f
from_pruned text t Done lo hi o big room only groups before f h =
    absurd (of_none t room only groups before (pruned (room + 1) Done) f (none_is (room + 1)) h)
from_pruned text t (Run chars at more) lo hi o big room only groups before f h =
    elim (of_run t room only groups before (pruned (room + 1) (Run chars at more)) f chars
    at (pruned (room + 1) more) (run_is (room + 1) chars at more) h) [
      | inl x ↦ itself (HasFault t room only groups before (Run chars at more)) f
          (stray chars at x.0 more refl x.1 x.2 x.3)
      | inr y ↦
          let r = from_pruned text t more at hi o.1 big room only groups before f y in
          (r.0, past_text chars at more refl r.1, r.2)
    ]
from_pruned text t (Element tag kids more) lo hi o big room only groups before f h =
    elim (of_element t room only groups before (pruned (room + 1) (Element tag kids more)) f tag
    (pruned room kids) (pruned (room + 1) more) (kept_is room tag kids more) h) [
      | inl (inl x) ↦ itself (HasFault t room only groups before (Element tag kids more)) f
          (at_tag tag kids more x.0 refl
          (mistake_to t room groups before tag (pruned room kids) kids x.0
          (λ some. sym (inner_names room kids some)) x.1) x.2)
      | inl (inr y) ↦ by room refl y
          (λ inner. from_pruned text t kids (tag.place + 1) o.0 o.3 within (room - 1) (only_of l)
          (groups_of l) [] f inner)
      | inr z ↦
          let r = from_pruned text t more o.0 hi o.4 big room only groups
          (known_after l tag.name before) f z in
          (r.0, past_element tag kids more refl r.1, r.2)
    ]
  where
    l : Option Line
    l = line_in tag.name t.rows

    within : o.0 ≤ 18446744073709551615
    within = omega (arith, order_within text more o.0 hi o.4, big)

    by : (n : ℕ) → room ≡ n → Inner t room tag (pruned room kids) f →
        (HasFault t (room - 1) (only_of (line_in tag.name t.rows))
        (groups_of (line_in tag.name t.rows)) [] (pruned (room - 1 + 1) kids) f →
        Earlier (Inner t room tag kids) f) →
        Earlier (HasFault t room only groups before (Element tag kids more)) f
    by zero e y on = inner_deep text t room only groups before tag (pruned room kids) kids more o.0
        f e (pruned_order text room kids (tag.place + 1) o.0 o.3)
        (omega (arith, order_within text more o.0 hi o.4, big)) y
    by (suc m) e y on =
        let same : room ≡ room - 1 + 1 = omega (arith, e) in
        let r = on (subst (λ n. Inner t room tag (pruned n kids) f) same y) in
        (r.0, inside tag kids more refl r.1, r.2)

pub whole_found : (text : List ℕ) (table : Table) (whole : Parts) (o : Option Fault) →
    length text < 18446744073709551616 → SpellsText text whole →
    IsLeast order_of (HasFaultUnder table (pruned 201 whole)) o →
    IsLeast order_of (HasFaultUnder table whole) o
whole_found text table whole o short s h =
    let order = text_order text whole s in
    let big : length text ≤ 18446744073709551615 = omega (arith, short) in
    least_covered (HasFaultUnder table (pruned 201 whole)) (HasFaultUnder table whole)
    (λ f k. from_pruned text (grammar table) whole 0 (length text) order big 200 true
    (Some (grammar table).document) [] f k)
    (λ f k. to_pruned text (grammar table) whole 0 (length text) order big 200 true
    (Some (grammar table).document) [] f k) o h

pub whole_read : (text : List ℕ) (table : Table) (whole : Parts) (o : Option Fault) →
    length text < 18446744073709551616 → SpellsText text whole →
    IsLeast order_of (HasFaultUnder table whole) o →
    IsLeast order_of (HasFaultUnder table (pruned 201 whole)) o
whole_read text table whole o short s h =
    let order = text_order text whole s in
    let big : length text ≤ 18446744073709551615 = omega (arith, short) in
    least_covered (HasFaultUnder table whole) (HasFaultUnder table (pruned 201 whole))
    (λ f k. to_pruned text (grammar table) whole 0 (length text) order big 200 true
    (Some (grammar table).document) [] f k)
    (λ f k. from_pruned text (grammar table) whole 0 (length text) order big 200 true
    (Some (grammar table).document) [] f k) o h
