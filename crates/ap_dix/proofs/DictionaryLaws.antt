-- A text is read as the grammar spells it, and refused as its sentences say.
use Rattle.std.proofs.Common.{◌≡◌, ◌⊎◌, inl, inr, ℕ, ◌+◌, Bool, cond, true, false, ◌==◌, List, [], length, refl, sym, ap, ◌∙◌, subst, arith, codes, Option, Some, None, Result, Ok, Err}
use Rattle.std.specs.Option.{option_map}
use Rattle.std.specs.Str.{IsUtf8}
use Rattle.ap_markup.specs.Deep.{pruned}
use Rattle.ap_markup.specs.Elements.{elements, Spelled, fault_at, grammar}
use Rattle.ap_markup.specs.Faults.{Fault as NotationFault, order_of as notation_order, first_in as notation_first}
use Rattle.ap_markup.specs.Forms.{SpellsText}
use Rattle.ap_markup.specs.Kinds.{number_of}
use Rattle.ap_markup.specs.Least.{IsLeast}
use Rattle.ap_markup.specs.Marks.{mark_order}
use Rattle.ap_markup.specs.Sentences.{HasFaultUnder, GivesTree}
use Rattle.ap_markup.specs.Sooner.{is_before, sooner}
use Rattle.ap_markup.specs.Spelling.{line_at}
use Rattle.ap_markup.specs.Tree.{Tag, Parts, Done, Run, Element}
use Rattle.ap_markup.specs.declared.elements.MarkupFault.{MarkupFault}
use Rattle.ap_markup.specs.declared.kind.MarkupKind.{MarkupKind}
use Rattle.ap_markup.specs.declared.kind.MarkupKind.TheVariants as notation
use Rattle.ap_markup.specs.declared.tables.Table.TheVariants.{Dix}
use Rattle.ap_markup.proofs.ElementLaws.{first_least, tree_found, tree_read, refusal_found, refusal_read}
use Rattle.ap_markup.proofs.LeastOf.{or_next, least_then, least_alike, least_of_both, least_mapped, least_one}
use Rattle.ap_markup.proofs.Ordered.{InOrder, text_order, pruned_order}
use Rattle.ap_dix.specs.Faults.{DixMark, tag_kind, marked, or_else, defined_after, defined_in, declared_in, first_in, first_mark}
use Rattle.ap_dix.specs.Mistakes.{Fault, order_of, HasFault, IsAtTag}
use Rattle.ap_dix.specs.Refusals.{kind_number}
use Rattle.ap_dix.specs.Sentences.{HasNotationFault, HasOwnFault, HasAnyFault, SpellsDictionary, HasFirstFault, IsRefusedFor}
use Rattle.ap_dix.specs.Spelling.{kind_of, mark_of, fault_of, decided, judged, spelled, Spells, IsFirstFault}
use Rattle.ap_dix.specs.declared.dictionary.Dictionary.{Dictionary}
use Rattle.ap_dix.specs.declared.refusal.DixFault.{DixFault}
use Rattle.ap_dix.specs.declared.refusal.DixKind.{DixKind}
use Rattle.ap_dix.specs.declared.refusal.DixKind.TheVariants.{NotUtf8, Syntax, UnknownElement, UnknownAttribute, MissingAttribute, Misplaced, DuplicateName, UndeclaredSymbol, UndefinedParadigm, BadRegex, Weighted, Unsupported}
use Rattle.ap_dix.proofs.NamesAbove.{declared_found, declared_read}
use Rattle.ap_dix.proofs.OwnFaults.{placed, SameNames, or_placed, fault_within, tag_least, own_least}

-- one fault for one place and number
kind_numbered : ℕ → DixKind
kind_numbered n = cond (n == 1) NotUtf8
    (cond (n == 2) Syntax (cond (n == 3) UnknownElement
    (cond (n == 4) UnknownAttribute
    (cond (n == 5) MissingAttribute
    (cond (n == 6) Misplaced
    (cond (n == 7) DuplicateName
    (cond (n == 8) UndeclaredSymbol
    (cond (n == 9) UndefinedParadigm
    (cond (n == 10) BadRegex (cond (n == 11) Weighted Unsupported))))))))))

kind_back : (k : DixKind) → kind_numbered (kind_number k) ≡ k
unfolding kind_numbered
kind_back NotUtf8 = refl
kind_back Syntax = refl
kind_back UnknownElement = refl
kind_back UnknownAttribute = refl
kind_back MissingAttribute = refl
kind_back Misplaced = refl
kind_back DuplicateName = refl
kind_back UndeclaredSymbol = refl
kind_back UndefinedParadigm = refl
kind_back BadRegex = refl
kind_back Weighted = refl
kind_back Unsupported = refl

same_fault : (f g : Fault) → f.0 ≡ g.0 → kind_number f.1 ≡ kind_number g.1 → f ≡ g
same_fault f g place number =
    let kind : f.1 ≡ g.1 = sym (kind_back f.1) ∙ ap kind_numbered number ∙ kind_back g.1 in
    rw (place, kind) refl

one_first : (whole : Parts) (o p : Option Fault) → IsLeast order_of (HasAnyFault whole) o →
    IsLeast order_of (HasAnyFault whole) p → o ≡ p
one_first whole o p a b =
    least_one order_of (HasAnyFault whole)
    (λ f g x y place number. same_fault f g place number) o p a b

-- the faults of the notation among those of a dictionary
abbrev named : NotationFault → Fault
named g = (g.0, kind_of g.1)

same_number : (k : MarkupKind) → kind_number (kind_of k) ≡ number_of k
same_number notation.NotUtf8 = refl
same_number notation.Syntax = refl
same_number notation.UnknownElement = refl
same_number notation.UnknownAttribute = refl
same_number notation.MissingAttribute = refl
same_number notation.Misplaced = refl

same_order : (g : NotationFault) → order_of (named g) ≡ notation_order g
same_order g = ap (λ n. (g.0, n)) (same_number g.1)

-- the names that the file declares, and none above its first element
declared_same : (kids : Parts) → SameNames (declared_in [] kids) (codes "sdef") kids
declared_same kids = record {
  found = λ name h. elim (declared_found kids [] name h) [
    | inl x ↦ absurd (let no : ⊥ = let q : ◌≡◌ {A = Bool} false true = x in cc in no)
    | inr y ↦ y
  ];
  read = λ name h. declared_read kids [] name h;
}

none_above : SameNames [] (codes "pardef") Done
none_above = record {
  found = λ name h. let no : ⊥ = let q : ◌≡◌ {A = Bool} false true = h in cc in no;
  read = λ name h. absurd h;
}

abbrev IsRoot : Parts → Type 0
IsRoot Done = ⊥
IsRoot (Run chars at more) = ⊥
IsRoot (Element tag kids more) = more ≡ Done

root_least : (text : List ℕ) (root : Parts) (hi : ℕ) → InOrder text 0 root hi → IsRoot root →
    IsLeast order_of (HasOwnFault root) (option_map placed (first_mark root))
root_least text Done hi o r = absurd r
root_least text (Run chars at more) hi o r = absurd r
root_least text (Element tag kids more) hi o r =
    let own = marked tag (tag_kind (declared_in [] kids) [] tag kids) in
    let inner = first_in (declared_in [] kids) [] kids in
    let A = IsAtTag kids Done tag kids in
    let B = HasFault kids Done kids in
    let s = declared_same kids in
    subst (IsLeast order_of (HasOwnFault (Element tag kids more))) (sym (or_placed own inner))
    (least_alike order_of (λ f. A f ⊎ B f) (HasOwnFault (Element tag kids more))
    (or_next (option_map placed own) (option_map placed inner))
    (λ f h. elim h [
      | inl x ↦ inl x
      | inr y ↦ inr (inl y)
    ])
    (λ f h. back f h)
    (least_then order_of A B (option_map placed own) (option_map placed inner)
    (λ f g x y.
    let here : f.0 ≡ tag.place = ap (λ (z : Fault). z.0) x.2 in
    let w = fault_within text kids kids Done (tag.place + 1) o.0 g o.3 y in
    inl (omega (arith, here, w.0)))
    (tag_least kids Done (declared_in [] kids) [] tag kids s none_above)
    (own_least text kids (declared_in [] kids) s kids Done [] (tag.place + 1) o.0 o.3 none_above)))
  where
    none_behind : IsRoot (Element tag kids more) → (f : Fault) →
        HasFault kids (Element tag kids Done) more f → ⊥
    none_behind is f h = subst (λ (z : Parts). HasFault kids (Element tag kids Done) z f) is h

    back : (f : Fault) → HasOwnFault (Element tag kids more) f → IsAtTag kids Done tag kids f
        ⊎ HasFault kids Done kids f
    back f (inl x) = inl x
    back f (inr (inl x)) = inr x
    back f (inr (inr x)) = absurd (none_behind r f x)

-- the first of the marks is the least of both families
abbrev both_marks : Parts → Option MarkupFault → Option DixMark
both_marks root first = sooner (mark_order kind_number) (option_map mark_of first) (first_mark root)

sooner_placed : (a b : Option DixMark) → option_map placed (sooner (mark_order kind_number) a b)
    ≡ sooner order_of (option_map placed a) (option_map placed b)
sooner_placed None b = refl
sooner_placed (Some m) None = refl
sooner_placed (Some m) (Some n) = by (is_before order_of (placed n) (placed m))
  where
    by : (t : Bool) → option_map placed (cond {A = Option DixMark} t (Some n) (Some m))
        ≡ cond {A = Option Fault} t (Some (placed n)) (Some (placed m))
    by true = refl
    by false = refl

marks_named : (text : List ℕ) (o : Option NotationFault) →
    option_map placed (option_map mark_of
    (option_map (λ (f : NotationFault). fault_at text f.1 f.0) o)) ≡ option_map named o
marks_named text None = refl
marks_named text (Some f) = refl

root_of_text : (text : List ℕ) (whole : Parts) → SpellsText text whole → IsRoot (pruned 200 whole)
unfolding pruned
root_of_text text whole s = rw s.spelled.root_is refl

all_least : (text : List ℕ) (whole : Parts) (o : Option NotationFault) → SpellsText text whole →
    IsLeast notation_order (HasFaultUnder Dix (pruned 201 whole)) o →
    IsLeast order_of (HasAnyFault whole)
    (option_map placed (both_marks (pruned 200 whole)
    (option_map (λ (f : NotationFault). fault_at text f.1 f.0) o)))
all_least text whole o s least =
    let root = pruned 200 whole in
    let notation = option_map (λ (f : NotationFault). fault_at text f.1 f.0) o in
    let a = least_mapped notation_order order_of named (HasFaultUnder Dix (pruned 201 whole)) o
    same_order least in
    let b = root_least text root (length text)
    (pruned_order text 200 whole 0 (length text) (text_order text whole s))
    (root_of_text text whole s) in
    subst (IsLeast order_of (HasAnyFault whole))
    (ap (λ (z : Option Fault). sooner order_of z (option_map placed (first_mark root)))
    (sym (marks_named text o))
    ∙ sym (sooner_placed (option_map mark_of notation) (first_mark root)))
    (least_of_both order_of (HasNotationFault whole) (HasOwnFault root) (option_map named o)
    (option_map placed (first_mark root)) a b)

-- each mark has the line of its place
abbrev Lined : List ℕ → Option DixMark → Type 0
Lined text None = Unit {0}
Lined text (Some m) = m.line ≡ line_at text m.place

lined_or : (text : List ℕ) (a b : Option DixMark) → Lined text a → Lined text b →
    Lined text (or_else a b)
lined_or text None b x y = y
lined_or text (Some m) b x y = x

lined_sooner : (text : List ℕ) (a b : Option DixMark) → Lined text a → Lined text b →
    Lined text (sooner (mark_order kind_number) a b)
lined_sooner text None b x y = y
lined_sooner text (Some m) None x y = x
lined_sooner text (Some m) (Some n) x y = by (is_before order_of (placed n) (placed m))
  where
    by : (t : Bool) → Lined text (cond {A = Option DixMark} t (Some n) (Some m))
    by true = y
    by false = x

lined_tag : (text : List ℕ) (tag : Tag) (o : Option DixKind) → tag.line ≡ line_at text tag.place →
    Lined text (marked tag o)
lined_tag text tag None e = tt
lined_tag text tag (Some k) e = e

lined_in : (text : List ℕ) (parts : Parts) (declared defined : List (List ℕ)) (lo hi : ℕ) →
    InOrder text lo parts hi → Lined text (first_in declared defined parts)
unfolding first_in
lined_in text Done declared defined lo hi o = tt
lined_in text (Run chars at more) declared defined lo hi o =
    lined_in text more declared defined at hi o.1
lined_in text (Element tag kids more) declared defined lo hi o =
    lined_or text (marked tag (tag_kind declared defined tag kids))
    (or_else (first_in declared defined kids)
    (first_in declared (defined_after tag (defined_in defined kids)) more))
    (lined_tag text tag (tag_kind declared defined tag kids) o.2)
    (lined_or text (first_in declared defined kids)
    (first_in declared (defined_after tag (defined_in defined kids)) more)
    (lined_in text kids declared defined (tag.place + 1) o.0 o.3)
    (lined_in text more declared (defined_after tag (defined_in defined kids)) o.0 hi o.4))

lined_root : (text : List ℕ) (root : Parts) (hi : ℕ) → InOrder text 0 root hi →
    Lined text (first_mark root)
lined_root text Done hi o = tt
lined_root text (Run chars at more) hi o = tt
lined_root text (Element tag kids more) hi o =
    lined_or text (marked tag (tag_kind (declared_in [] kids) [] tag kids))
    (first_in (declared_in [] kids) [] kids)
    (lined_tag text tag (tag_kind (declared_in [] kids) [] tag kids) o.2)
    (lined_in text kids (declared_in [] kids) [] (tag.place + 1) o.0 o.3)

lined_notation : (text : List ℕ) (o : Option NotationFault) →
    Lined text (option_map mark_of (option_map (λ (f : NotationFault). fault_at text f.1 f.0) o))
lined_notation text None = tt
lined_notation text (Some f) = refl

all_lined : (text : List ℕ) (whole : Parts) (o : Option NotationFault) → SpellsText text whole →
    Lined text (both_marks (pruned 200 whole)
    (option_map (λ (f : NotationFault). fault_at text f.1 f.0) o))
all_lined text whole o s =
    lined_sooner text (option_map mark_of
    (option_map (λ (f : NotationFault). fault_at text f.1 f.0) o))
    (first_mark (pruned 200 whole)) (lined_notation text o)
    (lined_root text (pruned 200 whole) (length text)
    (pruned_order text 200 whole 0 (length text) (text_order text whole s)))

-- what is decided
none_placed : (o : Option DixMark) → option_map placed o ≡ None → o ≡ None
none_placed None e = refl
none_placed (Some m) e = let no : ◌≡◌ {A = Option Fault} (Some (placed m)) None = e in cc

line_of_placed : (text : List ℕ) (o : Option DixMark) (f : Fault) → Lined text o →
    option_map placed o ≡ Some f → (root : Parts) →
    decided root o ≡ Err (record { kind = f.1; line = line_at text f.0 })
line_of_placed text None f l e root = let no : ◌≡◌ {A = Option Fault} None (Some f) = e in cc
line_of_placed text (Some m) f l e root =
    let same : placed m ≡ f = some_same (placed m) f e in
    subst (λ (z : Fault). ◌≡◌ {A = Result Dictionary DixFault} (Err (fault_of m))
    (Err (record { kind = z.1; line = line_at text z.0 }))) same
    (ap (λ n. Err (record { kind = m.kind; line = n })) l)
  where
    some_same : (a b : Fault) → Some a ≡ Some b → a ≡ b
    some_same a b e = cc

spelled_is : (text : List ℕ) (read : Spelled) → elements text Dix ≡ read →
    spelled text ≡ judged read
unfolding spelled
spelled_is text read e = ap judged e

-- from the grammar to what is read
tree_given : (text : List ℕ) (whole : Parts) → IsUtf8 text → SpellsText text whole →
    (least : Option NotationFault) →
    IsLeast notation_order (HasFaultUnder Dix (pruned 201 whole)) least →
    spelled text ≡ decided (pruned 200 whole)
    (both_marks (pruned 200 whole)
    (option_map (λ (f : NotationFault). fault_at text f.1 f.0) least))
tree_given text whole u s least is =
    let root = pruned 200 whole in
    let first = option_map (λ (f : NotationFault). fault_at text f.1 f.0) least in
    spelled_is text (Ok (root, first))
    (tree_read text Dix root first
    (record {
      whole = whole;
      utf8 = u;
      spelled = s;
      root_is = refl;
      least = least;
      is_least =
          is;
      first_is = refl;
    }))

the_first : Parts → Option NotationFault
the_first whole = notation_first (grammar Dix) 200 true (Some ((grammar Dix).document, 0))
    (pruned 201 whole)

the_least : (whole : Parts) →
    IsLeast notation_order (HasFaultUnder Dix (pruned 201 whole)) (the_first whole)
unfolding the_first
the_least whole = first_least Dix (pruned 201 whole)

pub dictionary_read : (text : List ℕ) (d : Dictionary) → SpellsDictionary text d → Spells text d
dictionary_read text d g =
    let o = the_first g.whole in
    let least = the_least g.whole in
    let marks = both_marks (pruned 200 g.whole)
    (option_map (λ (f : NotationFault). fault_at text f.1 f.0) o) in
    let none : option_map placed marks ≡ None =
    one_first g.whole (option_map placed marks) None (all_least text g.whole o g.spelled least)
    g.faultless in
    tree_given text g.whole g.utf8 g.spelled o least
    ∙ ap (decided (pruned 200 g.whole)) (none_placed marks none)
    ∙ ap Ok (sym g.value)

pub first_read : (text : List ℕ) (fault : DixFault) → HasFirstFault text fault →
    IsFirstFault text fault
first_read text fault g =
    let o = the_first g.whole in
    let least = the_least g.whole in
    let marks = both_marks (pruned 200 g.whole)
    (option_map (λ (f : NotationFault). fault_at text f.1 f.0) o) in
    let one : option_map placed marks ≡ Some g.first =
    one_first g.whole (option_map placed marks) (Some g.first)
    (all_least text g.whole o g.spelled least) g.least in
    tree_given text g.whole g.utf8 g.spelled o least
    ∙ line_of_placed text marks g.first (all_lined text g.whole o g.spelled) one
    (pruned 200 g.whole)
    ∙ ap Err (sym g.is)

pub refused_read : (text : List ℕ) (fault : DixFault) → IsRefusedFor text fault →
    IsFirstFault text fault
refused_read text fault (inl (f, refused, is)) =
    spelled_is text (Err f) (refusal_read text Dix f refused) ∙ ap Err (sym is)
refused_read text fault (inr first) = first_read text fault first

-- and back
abbrev Sides : List ℕ → Result Dictionary DixFault → Type 0
Sides text (Ok d) = SpellsDictionary text d
Sides text (Err fault) = IsRefusedFor text fault

decided_sides : (text : List ℕ) (whole : Parts) → IsUtf8 text → SpellsText text whole →
    (o : Option DixMark) → Lined text o → IsLeast order_of (HasAnyFault whole) (option_map placed o)
    → Sides text (decided (pruned 200 whole) o)
decided_sides text whole u s None l least =
    record { whole = whole; utf8 = u; spelled = s; faultless = least; value = refl }
decided_sides text whole u s (Some m) l least =
    inr (record {
      whole = whole;
      utf8 = u;
      spelled = s;
      first = placed m;
      least = least;
      is =
          ap (λ (n : ℕ). fault_with m.kind n) l;
    })
  where
    fault_with : DixKind → ℕ → DixFault
    fault_with kind n = record { kind = kind; line = n }

tree_sides : (text : List ℕ) (root : Parts) (first : Option MarkupFault) →
    GivesTree text Dix root first → Sides text (decided root (both_marks root first))
tree_sides text root first g =
    let given = option_map (λ (f : NotationFault). fault_at text f.1 f.0) g.least in
    let marks = both_marks (pruned 200 g.whole) given in
    subst (λ (z : Parts). Sides text (decided z (both_marks z first))) (sym g.root_is)
    (subst (λ (z : Option MarkupFault). Sides text
    (decided (pruned 200 g.whole) (both_marks (pruned 200 g.whole) z))) (sym g.first_is)
    (decided_sides text g.whole g.utf8 g.spelled marks (all_lined text g.whole g.least g.spelled)
    (all_least text g.whole g.least g.spelled g.is_least)))

spelled_sides : (text : List ℕ) (read : Spelled) → elements text Dix ≡ read →
    Sides text (judged read)
spelled_sides text (Ok tree) e = tree_sides text tree.0 tree.1 (tree_found text Dix tree.0 tree.1 e)
spelled_sides text (Err f) e = inl (f, refusal_found text Dix f e, refl)

sides : (text : List ℕ) → Sides text (spelled text)
unfolding spelled
sides text = spelled_sides text (elements text Dix) refl

pub dictionary_found : (text : List ℕ) (d : Dictionary) → Spells text d → SpellsDictionary text d
dictionary_found text d h = subst (Sides text) h (sides text)

pub refused_found : (text : List ℕ) (fault : DixFault) → IsFirstFault text fault →
    IsRefusedFor text fault
refused_found text fault h = subst (Sides text) h (sides text)
