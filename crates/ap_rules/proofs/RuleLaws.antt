-- A text is read as the grammar spells it, and refused as its sentences say.
use Rattle.std.proofs.Common.{◌≡◌, inl, inr, ℕ, ◌+◌, Bool, cond, true, false, ◌==◌, List, length, refl, sym, ap, ◌∙◌, subst, Option, Some, None, Result, Ok, Err}
use Rattle.std.specs.Option.{option_map}
use Rattle.std.specs.Str.{IsUtf8}
use Rattle.ap_markup.specs.Deep.{pruned}
use Rattle.ap_markup.specs.Elements.{elements, Spelled, fault_at, grammar}
use Rattle.ap_markup.specs.Faults.{Fault as NotationFault, order_of as notation_order, first_in as notation_first}
use Rattle.ap_markup.specs.Forms.{SpellsText}
use Rattle.ap_markup.specs.Kinds.{number_of}
use Rattle.ap_markup.specs.Least.{IsLeast}
use Rattle.ap_markup.specs.Marks.{mark_order}
use Rattle.ap_markup.specs.Sentences.{HasFaultUnder, GivesTree}
use Rattle.ap_markup.specs.Sooner.{is_before, sooner}
use Rattle.ap_markup.specs.Spelling.{line_at}
use Rattle.ap_markup.specs.Tree.{Tag, Parts, Done, Run, Element}
use Rattle.ap_markup.specs.declared.elements.MarkupFault.{MarkupFault}
use Rattle.ap_markup.specs.declared.kind.MarkupKind.{MarkupKind}
use Rattle.ap_markup.specs.declared.kind.MarkupKind.TheVariants as notation
use Rattle.ap_markup.proofs.ElementLaws.{first_least, tree_found, tree_read, refusal_found, refusal_read}
use Rattle.ap_markup.proofs.LeastOf.{least_of_both, least_mapped, least_one}
use Rattle.ap_markup.proofs.Ordered.{InOrder, text_order, pruned_order}
use Rattle.ap_rules.specs.Children.{Children, children}
use Rattle.ap_rules.specs.Defining.{none_defined, defined_after, defined_in}
use Rattle.ap_rules.specs.Faults.{RuleMark, Around, tag_kind, marked, or_else, around_root, around_within, first_in, first_mark}
use Rattle.ap_rules.specs.Mistakes.{Fault, order_of}
use Rattle.ap_rules.specs.Plain.{PlainRules}
use Rattle.ap_rules.specs.Refusals.{kind_number}
use Rattle.ap_rules.specs.SectionRows.{AreRules}
use Rattle.ap_rules.specs.Sentences.{HasNotationFault, HasOwnFault, HasAnyFault, SpellsRules, HasFirstFault, IsRefusedFor}
use Rattle.ap_rules.specs.Spelling.{table_of, kind_of, mark_of, fault_of, decided, judged, spelled, Spells, IsFirstFault}
use Rattle.ap_rules.specs.declared.defined.Defined.{Defined}
use Rattle.ap_rules.specs.declared.refusal.RuleFault.{RuleFault}
use Rattle.ap_rules.specs.declared.refusal.RuleKind.{RuleKind}
use Rattle.ap_rules.specs.declared.refusal.RuleKind.TheVariants.{NotUtf8, Syntax, UnknownElement, UnknownAttribute, MissingAttribute, Misplaced, DuplicateName, UndefinedName, BadPosition, BadTags, PatternLength, Misused, Unsupported}
use Rattle.ap_rules.specs.declared.rules.Form.{Form}
use Rattle.ap_rules.proofs.OwnFaults.{placed, IsRoot, root_least}
use Rattle.ap_rules.proofs.Read.{spelled_is}
use Rattle.ap_rules.proofs.SectionsRead.{tree_read as rows_read}
use Rattle.ap_rules.proofs.TreeStands.{root_of_text, tree_stands}

-- one fault for one place and number
kind_numbered : ℕ → RuleKind
kind_numbered n = cond (n == 1) NotUtf8
    (cond (n == 2) Syntax (cond (n == 3) UnknownElement
    (cond (n == 4) UnknownAttribute
    (cond (n == 5) MissingAttribute
    (cond (n == 6) Misplaced
    (cond (n == 7) DuplicateName
    (cond (n == 8) UndefinedName
    (cond (n == 9) BadPosition
    (cond (n == 10) BadTags (cond (n == 11) PatternLength
    (cond (n == 12) Misused Unsupported)))))))))))

kind_back : (k : RuleKind) → kind_numbered (kind_number k) ≡ k
unfolding kind_numbered
kind_back NotUtf8 = refl
kind_back Syntax = refl
kind_back UnknownElement = refl
kind_back UnknownAttribute = refl
kind_back MissingAttribute = refl
kind_back Misplaced = refl
kind_back DuplicateName = refl
kind_back UndefinedName = refl
kind_back BadPosition = refl
kind_back BadTags = refl
kind_back PatternLength = refl
kind_back Misused = refl
kind_back Unsupported = refl

same_fault : (f g : Fault) → f.0 ≡ g.0 → kind_number f.1 ≡ kind_number g.1 → f ≡ g
same_fault f g place number =
    let kind : f.1 ≡ g.1 = sym (kind_back f.1) ∙ ap kind_numbered number ∙ kind_back g.1 in
    rw (place, kind) refl

one_first : (form : Form) (whole : Parts) (o p : Option Fault) →
    IsLeast order_of (HasAnyFault form whole) o →
    IsLeast order_of (HasAnyFault form whole) p → o ≡ p
one_first form whole o p a b =
    least_one order_of (HasAnyFault form whole)
    (λ f g x y place number. same_fault f g place number) o p a b

-- the faults of the notation among those of a rule file
abbrev named : NotationFault → Fault
named g = (g.0, kind_of g.1)

same_number : (k : MarkupKind) → kind_number (kind_of k) ≡ number_of k
same_number notation.NotUtf8 = refl
same_number notation.Syntax = refl
same_number notation.UnknownElement = refl
same_number notation.UnknownAttribute = refl
same_number notation.MissingAttribute = refl
same_number notation.Misplaced = refl

same_order : (g : NotationFault) → order_of (named g) ≡ notation_order g
same_order g = ap (λ n. (g.0, n)) (same_number g.1)

-- the first of the marks is the least of both families
abbrev both_marks : Form → Parts → Option MarkupFault → Option RuleMark
both_marks form root first =
    sooner (mark_order kind_number) (option_map mark_of first) (first_mark form (children root))

sooner_placed : (a b : Option RuleMark) → option_map placed (sooner (mark_order kind_number) a b)
    ≡ sooner order_of (option_map placed a) (option_map placed b)
sooner_placed None b = refl
sooner_placed (Some m) None = refl
sooner_placed (Some m) (Some n) = by (is_before order_of (placed n) (placed m))
  where
    by : (t : Bool) → option_map placed (cond {A = Option RuleMark} t (Some n) (Some m))
        ≡ cond {A = Option Fault} t (Some (placed n)) (Some (placed m))
    by true = refl
    by false = refl

-- the faults of the notation with the lines of their places
abbrev at_places : List ℕ → Option NotationFault → Option MarkupFault
at_places text o = option_map (λ (f : NotationFault). fault_at text f.1 f.0) o

marks_named : (text : List ℕ) (o : Option NotationFault) →
    option_map placed (option_map mark_of (at_places text o)) ≡ option_map named o
marks_named text None = refl
marks_named text (Some f) = refl

all_least : (form : Form) (text : List ℕ) (whole : Parts) (o : Option NotationFault) →
    SpellsText text whole → IsLeast notation_order
    (HasFaultUnder (table_of form) (pruned 201 whole)) o →
    IsLeast order_of (HasAnyFault form whole)
    (option_map placed (both_marks form (pruned 200 whole) (at_places text o)))
all_least form text whole o s least =
    let root = pruned 200 whole in
    let notation = at_places text o in
    let own = first_mark form (children root) in
    let a = least_mapped notation_order order_of named
    (HasFaultUnder (table_of form) (pruned 201 whole)) o same_order least in
    let b = root_least form text root (length text)
    (pruned_order text 200 whole 0 (length text) (text_order text whole s))
    (root_of_text text whole s) in
    subst (IsLeast order_of (HasAnyFault form whole))
    (ap (λ (z : Option Fault). sooner order_of z (option_map placed own)) (sym (marks_named text o))
    ∙ sym (sooner_placed (option_map mark_of notation) own))
    (least_of_both order_of (HasNotationFault form whole) (HasOwnFault form root)
    (option_map named o) (option_map placed own) a b)

-- each mark has the line of its place
abbrev Lined : List ℕ → Option RuleMark → Type 0
Lined text None = Unit {0}
Lined text (Some m) = m.line ≡ line_at text m.place

lined_or : (text : List ℕ) (a b : Option RuleMark) → Lined text a → Lined text b →
    Lined text (or_else a b)
lined_or text None b x y = y
lined_or text (Some m) b x y = x

lined_sooner : (text : List ℕ) (a b : Option RuleMark) → Lined text a → Lined text b →
    Lined text (sooner (mark_order kind_number) a b)
lined_sooner text None b x y = y
lined_sooner text (Some m) None x y = x
lined_sooner text (Some m) (Some n) x y = by (is_before order_of (placed n) (placed m))
  where
    by : (t : Bool) → Lined text (cond {A = Option RuleMark} t (Some n) (Some m))
    by true = y
    by false = x

lined_tag : (text : List ℕ) (tag : Tag) (o : Option RuleKind) → tag.line ≡ line_at text tag.place →
    Lined text (marked tag o)
lined_tag text tag None e = tt
lined_tag text tag (Some k) e = e

lined_in : (text : List ℕ) (parts : Parts) (a : Around) (above : Defined) (lo hi : ℕ) →
    InOrder text lo parts hi → Lined text (first_in a above (children parts))
unfolding children
lined_in text Done a above lo hi o = tt
lined_in text (Run chars at more) a above lo hi o = lined_in text more a above at hi o.1
lined_in text (Element tag kids more) a above lo hi o =
    let inside = children kids in
    let around = around_within a tag inside in
    let next = defined_after tag (defined_in above inside) in
    lined_or text (marked tag (tag_kind a above tag inside))
    (or_else (first_in around above inside) (first_in a next (children more)))
    (lined_tag text tag (tag_kind a above tag inside) o.2)
    (lined_or text (first_in around above inside) (first_in a next (children more))
    (lined_in text kids around above (tag.place + 1) o.0 o.3)
    (lined_in text more a next o.0 hi o.4))

lined_root : (form : Form) (text : List ℕ) (root : Parts) (hi : ℕ) → InOrder text 0 root hi →
    IsRoot root → Lined text (first_mark form (children root))
unfolding children
lined_root form text Done hi o r = absurd r
lined_root form text (Run chars at more) hi o r = absurd r
lined_root form text (Element tag kids more) hi o r =
    let inside = children kids in
    let outside = around_root form tag inside in
    lined_or text (marked tag (tag_kind outside none_defined tag inside))
    (first_in (around_within outside tag inside) none_defined inside)
    (lined_tag text tag (tag_kind outside none_defined tag inside) o.2)
    (lined_in text kids (around_within outside tag inside) none_defined (tag.place + 1) o.0 o.3)

lined_notation : (text : List ℕ) (o : Option NotationFault) →
    Lined text (option_map mark_of (at_places text o))
lined_notation text None = tt
lined_notation text (Some f) = refl

all_lined : (form : Form) (text : List ℕ) (whole : Parts) (o : Option NotationFault) →
    SpellsText text whole → Lined text (both_marks form (pruned 200 whole) (at_places text o))
all_lined form text whole o s =
    lined_sooner text (option_map mark_of (at_places text o))
    (first_mark form (children (pruned 200 whole))) (lined_notation text o)
    (lined_root form text (pruned 200 whole) (length text)
    (pruned_order text 200 whole 0 (length text) (text_order text whole s))
    (root_of_text text whole s))

-- what is decided
none_placed : (o : Option RuleMark) → option_map placed o ≡ None → o ≡ None
none_placed None e = refl
none_placed (Some m) e = let no : ◌≡◌ {A = Option Fault} (Some (placed m)) None = e in cc

line_of_placed : (form : Form) (text : List ℕ) (o : Option RuleMark) (f : Fault) → Lined text o →
    option_map placed o ≡ Some f → (tree : Children) →
    decided form tree o ≡ Err (record { kind = f.1; line = line_at text f.0 })
line_of_placed form text None f l e tree = let no : ◌≡◌ {A = Option Fault} None (Some f) = e in cc
line_of_placed form text (Some m) f l e tree =
    let same : placed m ≡ f = some_same (placed m) f e in
    subst (λ (z : Fault). ◌≡◌ {A = Result PlainRules RuleFault} (Err (fault_of m))
    (Err (record { kind = z.1; line = line_at text z.0 }))) same
    (ap (λ n. Err (record { kind = m.kind; line = n })) l)
  where
    some_same : (a b : Fault) → Some a ≡ Some b → a ≡ b
    some_same a b e = cc

-- from the grammar to what is read
tree_given : (form : Form) (text : List ℕ) (whole : Parts) → IsUtf8 text → SpellsText text whole →
    (least : Option NotationFault) →
    IsLeast notation_order (HasFaultUnder (table_of form) (pruned 201 whole)) least →
    spelled form text ≡ decided form (children (pruned 200 whole))
    (both_marks form (pruned 200 whole) (at_places text least))
tree_given form text whole u s least is =
    let root = pruned 200 whole in
    let first = at_places text least in
    spelled_is form text (Ok (root, first))
    (tree_read text (table_of form) root first
    (record {
      whole = whole;
      utf8 = u;
      spelled = s;
      root_is = refl;
      least = least;
      is_least =
          is;
      first_is = refl;
    }))

the_first : Form → Parts → Option NotationFault
the_first form whole = notation_first (grammar (table_of form)) 200 true
    (Some ((grammar (table_of form)).document, 0)) (pruned 201 whole)

the_least : (form : Form) (whole : Parts) →
    IsLeast notation_order (HasFaultUnder (table_of form) (pruned 201 whole)) (the_first form whole)
unfolding the_first
the_least form whole = first_least (table_of form) (pruned 201 whole)

pub rules_read : (form : Form) (text : List ℕ) (r : PlainRules) → SpellsRules form text r →
    Spells form text r
rules_read form text r g =
    let o = the_first form g.whole in
    let least = the_least form g.whole in
    let marks = both_marks form (pruned 200 g.whole) (at_places text o) in
    let none : option_map placed marks ≡ None =
    one_first form g.whole (option_map placed marks) None
    (all_least form text g.whole o g.spelled least) g.faultless in
    tree_given form text g.whole g.utf8 g.spelled o least
    ∙ ap (decided form (children (pruned 200 g.whole))) (none_placed marks none)
    ∙ ap Ok (rows_read form (children (pruned 200 g.whole)) r g.rules)

first_read : (form : Form) (text : List ℕ) (fault : RuleFault) → HasFirstFault form text fault →
    IsFirstFault form text fault
first_read form text fault g =
    let o = the_first form g.whole in
    let least = the_least form g.whole in
    let marks = both_marks form (pruned 200 g.whole) (at_places text o) in
    let one : option_map placed marks ≡ Some g.first =
    one_first form g.whole (option_map placed marks) (Some g.first)
    (all_least form text g.whole o g.spelled least) g.least in
    tree_given form text g.whole g.utf8 g.spelled o least
    ∙ line_of_placed form text marks g.first (all_lined form text g.whole o g.spelled) one
    (children (pruned 200 g.whole))
    ∙ ap Err (sym g.is)

pub refused_read : (form : Form) (text : List ℕ) (fault : RuleFault) → IsRefusedFor form text fault
    → IsFirstFault form text fault
refused_read form text fault (inl (f, refused, is)) =
    spelled_is form text (Err f) (refusal_read text (table_of form) f refused) ∙ ap Err (sym is)
refused_read form text fault (inr first) = first_read form text fault first

-- and back
abbrev Sides : Form → List ℕ → Result PlainRules RuleFault → Type 0
Sides form text (Ok r) = SpellsRules form text r
Sides form text (Err fault) = IsRefusedFor form text fault

decided_sides : (form : Form) (text : List ℕ) (whole : Parts) → IsUtf8 text →
    SpellsText text whole → (o : Option RuleMark) → Lined text o →
    IsLeast order_of (HasAnyFault form whole) (option_map placed o) →
    Sides form text (decided form (children (pruned 200 whole)) o)
decided_sides form text whole u s None l least =
    let tree = children (pruned 200 whole) in
    let rules = tree_stands form text whole s least in
    record {
      whole = whole;
      utf8 = u;
      spelled = s;
      faultless = least;
      rules =
          subst (AreRules form tree) (sym (rows_read form tree rules.0 rules.1)) rules.1;
    }
decided_sides form text whole u s (Some m) l least =
    inr (record {
      whole = whole;
      utf8 = u;
      spelled = s;
      first = placed m;
      least = least;
      is =
          ap (λ (n : ℕ). fault_with m.kind n) l;
    })
  where
    fault_with : RuleKind → ℕ → RuleFault
    fault_with kind n = record { kind = kind; line = n }

tree_sides : (form : Form) (text : List ℕ) (root : Parts) (first : Option MarkupFault) →
    GivesTree text (table_of form) root first →
    Sides form text (decided form (children root) (both_marks form root first))
tree_sides form text root first g =
    let given = at_places text g.least in
    let marks = both_marks form (pruned 200 g.whole) given in
    subst (λ (z : Parts). Sides form text (decided form (children z) (both_marks form z first)))
    (sym g.root_is)
    (subst (λ (z : Option MarkupFault). Sides form text
    (decided form (children (pruned 200 g.whole)) (both_marks form (pruned 200 g.whole) z)))
    (sym g.first_is)
    (decided_sides form text g.whole g.utf8 g.spelled marks
    (all_lined form text g.whole g.least g.spelled)
    (all_least form text g.whole g.least g.spelled g.is_least)))

spelled_sides : (form : Form) (text : List ℕ) (read : Spelled) → elements text (table_of form)
    ≡ read → Sides form text (judged form read)
spelled_sides form text (Ok tree) e =
    tree_sides form text tree.0 tree.1 (tree_found text (table_of form) tree.0 tree.1 e)
spelled_sides form text (Err f) e = inl (f, refusal_found text (table_of form) f e, refl)

sides : (form : Form) (text : List ℕ) → Sides form text (spelled form text)
unfolding spelled
sides form text = spelled_sides form text (elements text (table_of form)) refl

pub rules_found : (form : Form) (text : List ℕ) (r : PlainRules) → Spells form text r →
    SpellsRules form text r
rules_found form text r h = subst (Sides form text) h (sides form text)

pub refused_found : (form : Form) (text : List ℕ) (fault : RuleFault) → IsFirstFault form text fault
    → IsRefusedFor form text fault
refused_found form text fault h = subst (Sides form text) h (sides form text)
