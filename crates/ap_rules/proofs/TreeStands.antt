-- Every tree without fault is rules by the table.
use Rattle.std.proofs.Common.{◌≡◌, inl, inr, ℕ, true, List, [], ◌∷◌, length, refl, sym, ap, ◌∙◌, subst, Option, Some, None, codes}
use Rattle.std.specs.Option.{option_map}
use Rattle.ap_markup.specs.Deep.{pruned}
use Rattle.ap_markup.specs.Elements.{grammar}
use Rattle.ap_markup.specs.Faults.{Fault as NotationFault, next, order_of as notation_order, first_in as notation_first}
use Rattle.ap_markup.specs.Forms.{SpellsText}
use Rattle.ap_markup.specs.Least.{IsLeast}
use Rattle.ap_markup.specs.Sentences.{HasFaultUnder}
use Rattle.ap_markup.specs.TableRows.{at_most_one}
use Rattle.ap_markup.specs.Tree.{Tag, Parts, Done, Run, Element}
use Rattle.ap_markup.proofs.ElementLaws.{first_least}
use Rattle.ap_markup.proofs.Ordered.{text_order, pruned_order}
use Rattle.ap_rules.specs.Children.{Children, nothing, element, children}
use Rattle.ap_rules.specs.Defining.{none_defined}
use Rattle.ap_rules.specs.Faults.{RuleMark, tag_kind, marked, around_root, around_within, first_in, or_else, first_mark}
use Rattle.ap_rules.specs.Mistakes.{Fault, HasRootFault, order_of}
use Rattle.ap_rules.specs.Plain.{PlainRules}
use Rattle.ap_rules.specs.SectionRows.{AreRules}
use Rattle.ap_rules.specs.Sentences.{HasAnyFault}
use Rattle.ap_rules.specs.Spelling.{table_of, kind_of}
use Rattle.ap_rules.specs.declared.rules.Form.{Form}
use Rattle.ap_rules.specs.declared.rules.Form.TheVariants.{Transfer, Interchunk, Postchunk}
use Rattle.ap_rules.proofs.Faultless.{Clean, Stands, or_none, grammar_is, clean_parts, not_deep}
use Rattle.ap_rules.proofs.OwnFaults.{placed, IsRoot, root_least}
use Rattle.ap_rules.proofs.Placing.{among_each, in_last, as_row}
use Rattle.ap_rules.proofs.SectionsStand.{sections_stand}
use Rattle.ap_rules.proofs.ValuesRead.{tag_as}

-- a root, by the name that it has in its form

root_word : Form → List ℕ
root_word Transfer = codes "transfer"
root_word Interchunk = codes "interchunk"
root_word Postchunk = codes "postchunk"

abbrev Rules : Form → Tag → Children → Type 0
Rules form tag own = (r : PlainRules) × AreRules form (element tag own nothing) r

root_row : (form : Form) (tag : Tag) (own : Children) →
    Stands (around_root form tag own) none_defined (tag_as (root_word form) tag) own →
    Rules form (tag_as (root_word form) tag) own
unfolding root_word
root_row Transfer tag own z =
    let r = as_row (around_root Transfer tag own) none_defined (tag_as (codes "transfer") tag) own _
    refl z in sections_stand Transfer (tag_as (codes "transfer") tag) own r.1
root_row Interchunk tag own z =
    let r = as_row (around_root Interchunk tag own) none_defined (tag_as (codes "interchunk")
    tag) own
    _ refl z in sections_stand Interchunk (tag_as (codes "interchunk") tag) own r.1
root_row Postchunk tag own z =
    let r = as_row (around_root Postchunk tag own) none_defined (tag_as (codes "postchunk") tag)
    own _
    refl z in sections_stand Postchunk (tag_as (codes "postchunk") tag) own r.1

document_is : (form : Form) → (grammar (table_of form)).document
    ≡ at_most_one (root_word form ∷ []) ∷ []
unfolding root_word
document_is Transfer = refl
document_is Interchunk = refl
document_is Postchunk = refl

clean_root : (form : Form) (tag : Tag) (own : Children) →
    Clean (around_root form tag own) none_defined ((grammar (table_of form)).document, 0)
    (element tag own nothing) → Rules form tag own
clean_root form tag own (here, (n, is, later)) =
    let among = in_last tag.name (at_most_one (root_word form ∷ [])) 0 n
    (ap (λ gs. next tag.name gs 0) (sym (document_is form)) ∙ is) in
    among_each (λ word. Stands (around_root form tag own) none_defined (tag_as word tag) own →
    Rules form (tag_as word tag) own) (root_word form ∷ []) tag.name
    (λ z. root_row form tag own z, tt) among.0 here

-- no fault of its own
root_right : (form : Form) (tag : Tag) (own : Children) → first_mark form (element tag own nothing)
    ≡ None → first_in (around_root form tag own) none_defined (element tag own nothing) ≡ None
root_right form tag own e =
    let a = around_root form tag own in
    let two = or_none (marked tag (tag_kind a none_defined tag own))
    (first_in (around_within a tag own) none_defined own) e in
    ap (λ (o : Option RuleMark). or_else o
    (or_else (first_in (around_within a tag own) none_defined own) None)) two.0
    ∙ ap (λ (o : Option RuleMark). or_else o None) two.1

root_stands : (form : Form) (root : Parts) → IsRoot root →
    notation_first (grammar (table_of form)) 200 true
    (Some ((grammar (table_of form)).document, 0)) root ≡ None →
    first_mark form (children root) ≡ None → (r : PlainRules) × AreRules form (children root) r
unfolding children
root_stands form Done is f g = absurd is
root_stands form (Run text at more) is f g = absurd is
root_stands form (Element tag kids more) is f g =
    let P : Parts → Type 0 = λ z. notation_first (grammar (table_of form)) 200 true
    (Some ((grammar (table_of form)).document, 0)) (Element tag kids z) ≡ None →
    first_mark form (element tag (children kids) (children z)) ≡ None →
    (r : PlainRules) × AreRules form (element tag (children kids) (children z)) r in
    subst P (sym is) (λ h k. clean_root form tag (children kids)
    (clean_parts (grammar (table_of form)) 200 true ((grammar (table_of form)).document, 0)
    (around_root form tag (children kids)) none_defined (Element tag kids Done) (grammar_is form) h
    (root_right form tag (children kids) k))) f g

-- the first of no faults
first_none : (form : Form) (whole : Parts) → ((f : Fault) → HasAnyFault form whole f → ⊥) →
    (o : Option NotationFault) →
    IsLeast notation_order (HasFaultUnder (table_of form) (pruned 201 whole)) o → o ≡ None
first_none form whole faultless None least = refl
first_none form whole faultless (Some g) least =
    absurd (faultless (g.0, kind_of g.1) (inl (g, least.0, refl)))

mark_none : (form : Form) (root : Parts) → ((f : Fault) → HasRootFault form (children root) f → ⊥) →
    (o : Option RuleMark) → IsLeast order_of (HasRootFault form (children root)) (option_map
    placed o)
    → o ≡ None
mark_none form root faultless None least = refl
mark_none form root faultless (Some m) least = absurd (faultless (placed m) least.0)

pub root_of_text : (text : List ℕ) (whole : Parts) → SpellsText text whole → IsRoot (pruned 200
    whole)
unfolding pruned
root_of_text text whole s = rw s.spelled.root_is refl

pub tree_stands : (form : Form) (text : List ℕ) (whole : Parts) → SpellsText text whole →
    ((f : Fault) → HasAnyFault form whole f → ⊥) →
    (r : PlainRules) × AreRules form (children (pruned 200 whole)) r
tree_stands form text whole s faultless =
    let t = grammar (table_of form) in
    let root = pruned 200 whole in
    let none : notation_first t 200 true (Some (t.document, 0)) (pruned 201 whole) ≡ None =
    first_none form whole faultless _ (first_least (table_of form) (pruned 201 whole)) in
    let same = not_deep t 201 200 true (Some (t.document, 0)) whole refl none in
    let mark = mark_none form root (λ f h. faultless f (inr h)) (first_mark form (children root))
    (root_least form text root (length text)
    (pruned_order text 200 whole 0 (length text) (text_order text whole s))
    (root_of_text text whole s)) in
    root_stands form root (root_of_text text whole s)
    (ap (notation_first t 200 true (Some (t.document, 0))) (sym same) ∙ none) mark
