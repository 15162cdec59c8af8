-- One part of a tree after another.
use Rattle.std.proofs.Common.{◌≡◌, ℕ, ◌+◌, ◌<◌, ◌≤◌, true, false, cond, filter, not, List, [], ◌∷◌, ◌++◌, drop, length, get_or, sym, ap, ◌∙◌, Option, Some, None, codes}
use Rattle.std.specs.Option.{option_to_list}
use Rattle.ap_symbol.specs.Words.{is_white}
use Rattle.ap_symbol.specs.declared.symbol.Symbol.TheVariants.{Queue}
use Rattle.ap_markup.specs.Tree.{Done}
use Rattle.ap_markup.specs.View.{parts_of, node_then, tag_of}
use Rattle.ap_markup.specs.declared.node.Node.{Node}
use Rattle.ap_markup.specs.declared.node.Part.{Part, Run, Element}
use Rattle.ap_markup.proofs.PartSteps.{at_run, at_node, at_end}
use Rattle.ap_markup.specs.NameLists.{with_name}
use Rattle.ap_markup.specs.Said.{is_named, name_of}
use Rattle.ap_dix.specs.Faults.{DixMark, tag_kind, marked, or_else, defined_after, defined_in, first_in, first_mark, declared_by, declared_in}
use Rattle.ap_dix.specs.Value.{entry_part, entry_parts, entry, entries, pardef, pardefs, names_with, alphabet}
use Rattle.ap_dix.specs.WordText.{letters, mark, symbols, texts}
use Rattle.ap_dix.specs.declared.dictionary.EntryPart.{EntryPart}

-- the symbols of a word
pub symbols_run : (parts : List Part) (i : ℕ) (p : Part) (text : List ℕ) (at : ℕ) →
    i < length parts → p ≡ get_or parts i p → p ≡ Run text at → symbols (parts_of (drop i parts))
    ≡ letters text ++ symbols (parts_of (drop (i + 1) parts))
unfolding symbols
symbols_run parts i p text at lt is shape = ap symbols (at_run parts i p text at lt is shape)

pub symbols_node : (parts : List Part) (i : ℕ) (p : Part) (n : Node) → i < length parts →
    p ≡ get_or parts i p → p ≡ Element n → symbols (parts_of (drop i parts))
    ≡ cond (is_named (codes "g") (tag_of n)) (Queue ∷ symbols (parts_of n.parts.items))
    (mark (tag_of n)) ++ symbols (parts_of (drop (i + 1) parts))
unfolding symbols
symbols_node parts i p n lt is shape = ap symbols (at_node parts i p n lt is shape)

pub symbols_end : (parts : List Part) (i : ℕ) → length parts ≤ i →
    symbols (parts_of (drop i parts)) ≡ []
unfolding symbols
symbols_end parts i over = ap symbols (at_end parts i over)

-- the parts of an entry
pub entry_parts_run : (names : List (List ℕ)) (parts : List Part) (i : ℕ) (p : Part) (text : List ℕ)
    (at : ℕ) → i < length parts → p ≡ get_or parts i p → p ≡ Run text at →
    entry_parts names (parts_of (drop i parts)) ≡ entry_parts names (parts_of (drop (i + 1) parts))
unfolding entry_parts
entry_parts_run names parts i p text at lt is shape =
    ap (entry_parts names) (at_run parts i p text at lt is shape)

pub entry_parts_node : (names : List (List ℕ)) (parts : List Part) (i : ℕ) (p : Part) (n : Node)
    (made : Option EntryPart) → i < length parts → p ≡ get_or parts i p → p ≡ Element n →
    made ≡ entry_part names (tag_of n) (parts_of n.parts.items) →
    entry_parts names (parts_of (drop i parts)) ≡ option_to_list made
    ++ entry_parts names (parts_of (drop (i + 1) parts))
unfolding entry_parts
entry_parts_node names parts i p n made lt is shape made_is =
    ap (entry_parts names) (at_node parts i p n lt is shape)
    ∙ ap (λ (m : Option EntryPart). option_to_list m
    ++ entry_parts names (parts_of (drop (i + 1) parts))) (sym made_is)

pub entry_parts_end : (names : List (List ℕ)) (parts : List Part) (i : ℕ) → length parts ≤ i →
    entry_parts names (parts_of (drop i parts)) ≡ []
unfolding entry_parts
entry_parts_end names parts i over = ap (entry_parts names) (at_end parts i over)

-- the entries
pub entries_run : (names : List (List ℕ)) (parts : List Part) (i : ℕ) (p : Part) (text : List ℕ)
    (at : ℕ) → i < length parts → p ≡ get_or parts i p → p ≡ Run text at →
    entries names (parts_of (drop i parts)) ≡ entries names (parts_of (drop (i + 1) parts))
unfolding entries
entries_run names parts i p text at lt is shape =
    ap (entries names) (at_run parts i p text at lt is shape)

pub entries_node : (names : List (List ℕ)) (parts : List Part) (i : ℕ) (p : Part) (n : Node) →
    i < length parts → p ≡ get_or parts i p → p ≡ Element n →
    entries names (parts_of (drop i parts))
    ≡ cond (is_named (codes "e") (tag_of n)) (entry names (tag_of n) (parts_of n.parts.items)
    ∷ entries names (parts_of (drop (i + 1) parts))) (entries names (parts_of (drop (i + 1) parts)))
unfolding entries
entries_node names parts i p n lt is shape = ap (entries names) (at_node parts i p n lt is shape)

pub entries_end : (names : List (List ℕ)) (parts : List Part) (i : ℕ) → length parts ≤ i →
    entries names (parts_of (drop i parts)) ≡ []
unfolding entries
entries_end names parts i over = ap (entries names) (at_end parts i over)

-- the paradigms and their names
pub pardefs_run : (names : List (List ℕ)) (parts : List Part) (i : ℕ) (p : Part) (text : List ℕ)
    (at : ℕ) → i < length parts → p ≡ get_or parts i p → p ≡ Run text at →
    pardefs names (parts_of (drop i parts)) ≡ pardefs names (parts_of (drop (i + 1) parts))
unfolding pardefs
pardefs_run names parts i p text at lt is shape =
    ap (pardefs names) (at_run parts i p text at lt is shape)

pub pardefs_node : (names : List (List ℕ)) (parts : List Part) (i : ℕ) (p : Part) (n : Node) →
    i < length parts → p ≡ get_or parts i p → p ≡ Element n →
    pardefs names (parts_of (drop i parts))
    ≡ cond (is_named (codes "pardef") (tag_of n)) (pardef names (tag_of n) (parts_of n.parts.items)
    ∷ pardefs (with_name names (name_of (tag_of n).attributes)) (parts_of (drop (i + 1) parts)))
    (pardefs names (parts_of (drop (i + 1) parts)))
unfolding pardefs
pardefs_node names parts i p n lt is shape = ap (pardefs names) (at_node parts i p n lt is shape)

pub pardefs_end : (names : List (List ℕ)) (parts : List Part) (i : ℕ) → length parts ≤ i →
    pardefs names (parts_of (drop i parts)) ≡ []
unfolding pardefs
pardefs_end names parts i over = ap (pardefs names) (at_end parts i over)

pub names_with_run : (names : List (List ℕ)) (parts : List Part) (i : ℕ) (p : Part) (text : List ℕ)
    (at : ℕ) → i < length parts → p ≡ get_or parts i p → p ≡ Run text at →
    names_with names (parts_of (drop i parts)) ≡ names_with names (parts_of (drop (i + 1) parts))
unfolding names_with
names_with_run names parts i p text at lt is shape =
    ap (names_with names) (at_run parts i p text at lt is shape)

pub names_with_node : (names : List (List ℕ)) (parts : List Part) (i : ℕ) (p : Part) (n : Node) →
    i < length parts → p ≡ get_or parts i p → p ≡ Element n →
    names_with names (parts_of (drop i parts))
    ≡ cond (is_named (codes "pardef") (tag_of n))
    (names_with (with_name names (name_of (tag_of n).attributes)) (parts_of (drop (i + 1) parts)))
    (names_with names (parts_of (drop (i + 1) parts)))
unfolding names_with
names_with_node names parts i p n lt is shape =
    ap (names_with names) (at_node parts i p n lt is shape)

pub names_with_end : (names : List (List ℕ)) (parts : List Part) (i : ℕ) → length parts ≤ i →
    names_with names (parts_of (drop i parts)) ≡ names
unfolding names_with
names_with_end names parts i over = ap (names_with names) (at_end parts i over)

-- the alphabet
pub alphabet_run : (parts : List Part) (i : ℕ) (p : Part) (text : List ℕ) (at : ℕ) →
    i < length parts → p ≡ get_or parts i p → p ≡ Run text at → alphabet (parts_of (drop i parts))
    ≡ filter (λ c. not (is_white c)) text ++ alphabet (parts_of (drop (i + 1) parts))
unfolding alphabet
alphabet_run parts i p text at lt is shape = ap alphabet (at_run parts i p text at lt is shape)

pub alphabet_node : (parts : List Part) (i : ℕ) (p : Part) (n : Node) → i < length parts →
    p ≡ get_or parts i p → p ≡ Element n → alphabet (parts_of (drop i parts))
    ≡ alphabet (parts_of (drop (i + 1) parts))
unfolding alphabet
alphabet_node parts i p n lt is shape = ap alphabet (at_node parts i p n lt is shape)

pub alphabet_end : (parts : List Part) (i : ℕ) → length parts ≤ i →
    alphabet (parts_of (drop i parts)) ≡ []
unfolding alphabet
alphabet_end parts i over = ap alphabet (at_end parts i over)

-- the texts
pub texts_run : (parts : List Part) (i : ℕ) (p : Part) (text : List ℕ) (at : ℕ) → i < length parts →
    p ≡ get_or parts i p → p ≡ Run text at → texts (parts_of (drop i parts)) ≡ text
    ++ texts (parts_of (drop (i + 1) parts))
unfolding texts
texts_run parts i p text at lt is shape = ap texts (at_run parts i p text at lt is shape)

pub texts_node : (parts : List Part) (i : ℕ) (p : Part) (n : Node) → i < length parts →
    p ≡ get_or parts i p → p ≡ Element n → texts (parts_of (drop i parts))
    ≡ texts (parts_of (drop (i + 1) parts))
unfolding texts
texts_node parts i p n lt is shape = ap texts (at_node parts i p n lt is shape)

pub texts_end : (parts : List Part) (i : ℕ) → length parts ≤ i →
    texts (parts_of (drop i parts)) ≡ []
unfolding texts
texts_end parts i over = ap texts (at_end parts i over)

-- the names of paradigms, and the first fault
pub defined_run : (defined : List (List ℕ)) (parts : List Part) (i : ℕ) (p : Part) (text : List ℕ)
    (at : ℕ) → i < length parts → p ≡ get_or parts i p → p ≡ Run text at →
    defined_in defined (parts_of (drop i parts))
    ≡ defined_in defined (parts_of (drop (i + 1) parts))
unfolding defined_in
defined_run defined parts i p text at lt is shape =
    ap (defined_in defined) (at_run parts i p text at lt is shape)

pub defined_node : (defined : List (List ℕ)) (parts : List Part) (i : ℕ) (p : Part) (n : Node) →
    i < length parts → p ≡ get_or parts i p → p ≡ Element n →
    defined_in defined (parts_of (drop i parts))
    ≡ defined_in (defined_after (tag_of n) (defined_in defined (parts_of n.parts.items)))
    (parts_of (drop (i + 1) parts))
unfolding defined_in
defined_node defined parts i p n lt is shape =
    ap (defined_in defined) (at_node parts i p n lt is shape)

pub defined_end : (defined : List (List ℕ)) (parts : List Part) (i : ℕ) → length parts ≤ i →
    defined_in defined (parts_of (drop i parts)) ≡ defined
unfolding defined_in
defined_end defined parts i over = ap (defined_in defined) (at_end parts i over)

pub first_run : (declared defined : List (List ℕ)) (parts : List Part) (i : ℕ) (p : Part)
    (text : List ℕ) (at : ℕ) → i < length parts → p ≡ get_or parts i p → p ≡ Run text at →
    first_in declared defined (parts_of (drop i parts))
    ≡ first_in declared defined (parts_of (drop (i + 1) parts))
unfolding first_in
first_run declared defined parts i p text at lt is shape =
    ap (first_in declared defined) (at_run parts i p text at lt is shape)

pub first_node : (declared defined : List (List ℕ)) (parts : List Part) (i : ℕ) (p : Part)
    (n : Node) → i < length parts → p ≡ get_or parts i p → p ≡ Element n →
    first_in declared defined (parts_of (drop i parts))
    ≡ or_else (marked (tag_of n) (tag_kind declared defined (tag_of n) (parts_of n.parts.items)))
    (or_else (first_in declared defined (parts_of n.parts.items))
    (first_in declared (defined_after (tag_of n) (defined_in defined (parts_of n.parts.items)))
    (parts_of (drop (i + 1) parts))))
unfolding first_in
first_node declared defined parts i p n lt is shape =
    ap (first_in declared defined) (at_node parts i p n lt is shape)

pub first_end : (declared defined : List (List ℕ)) (parts : List Part) (i : ℕ) → length parts ≤ i →
    first_in declared defined (parts_of (drop i parts)) ≡ None
unfolding first_in
first_end declared defined parts i over = ap (first_in declared defined) (at_end parts i over)

-- the declared names
pub declared_run : (names : List (List ℕ)) (parts : List Part) (i : ℕ) (p : Part) (text : List ℕ)
    (at : ℕ) → i < length parts → p ≡ get_or parts i p → p ≡ Run text at →
    declared_in names (parts_of (drop i parts)) ≡ declared_in names (parts_of (drop (i + 1) parts))
unfolding declared_in
declared_run names parts i p text at lt is shape =
    ap (declared_in names) (at_run parts i p text at lt is shape)

pub declared_node : (names : List (List ℕ)) (parts : List Part) (i : ℕ) (p : Part) (n : Node) →
    i < length parts → p ≡ get_or parts i p → p ≡ Element n →
    declared_in names (parts_of (drop i parts))
    ≡ declared_in (declared_in (declared_by (tag_of n) names) (parts_of n.parts.items))
    (parts_of (drop (i + 1) parts))
unfolding declared_in
declared_node names parts i p n lt is shape =
    ap (declared_in names) (at_node parts i p n lt is shape)

pub declared_end : (names : List (List ℕ)) (parts : List Part) (i : ℕ) → length parts ≤ i →
    declared_in names (parts_of (drop i parts)) ≡ names
unfolding declared_in
declared_end names parts i over = ap (declared_in names) (at_end parts i over)

pub symbols_yes : (parts : List Part) (i : ℕ) (p : Part) (n : Node) → i < length parts →
    p ≡ get_or parts i p → p ≡ Element n → is_named (codes "g") (tag_of n) ≡ true →
    symbols (parts_of (drop i parts)) ≡ (Queue ∷ symbols (parts_of n.parts.items))
    ++ symbols (parts_of (drop (i + 1) parts))
symbols_yes parts i p n lt is shape named = symbols_node parts i p n lt is shape
    ∙ ap (λ b. cond b (Queue ∷ symbols (parts_of n.parts.items)) (mark (tag_of n))
    ++ symbols (parts_of (drop (i + 1) parts))) named

pub symbols_no : (parts : List Part) (i : ℕ) (p : Part) (n : Node) → i < length parts →
    p ≡ get_or parts i p → p ≡ Element n → is_named (codes "g") (tag_of n) ≡ false →
    symbols (parts_of (drop i parts)) ≡ mark (tag_of n) ++ symbols (parts_of (drop (i + 1) parts))
symbols_no parts i p n lt is shape named = symbols_node parts i p n lt is shape
    ∙ ap (λ b. cond b (Queue ∷ symbols (parts_of n.parts.items)) (mark (tag_of n))
    ++ symbols (parts_of (drop (i + 1) parts))) named

pub entries_yes : (names : List (List ℕ)) (parts : List Part) (i : ℕ) (p : Part) (n : Node) →
    i < length parts → p ≡ get_or parts i p → p ≡ Element n → is_named (codes "e") (tag_of n) ≡ true
    → entries names (parts_of (drop i parts)) ≡ entry names (tag_of n) (parts_of n.parts.items)
    ∷ entries names (parts_of (drop (i + 1) parts))
entries_yes names parts i p n lt is shape named = entries_node names parts i p n lt is shape
    ∙ ap (λ b. cond b (entry names (tag_of n) (parts_of n.parts.items)
    ∷ entries names (parts_of (drop (i + 1) parts)))
    (entries names (parts_of (drop (i + 1) parts)))) named

pub entries_no : (names : List (List ℕ)) (parts : List Part) (i : ℕ) (p : Part) (n : Node) →
    i < length parts → p ≡ get_or parts i p → p ≡ Element n → is_named (codes "e") (tag_of n)
    ≡ false → entries names (parts_of (drop i parts))
    ≡ entries names (parts_of (drop (i + 1) parts))
entries_no names parts i p n lt is shape named = entries_node names parts i p n lt is shape
    ∙ ap (λ b. cond b (entry names (tag_of n) (parts_of n.parts.items)
    ∷ entries names (parts_of (drop (i + 1) parts)))
    (entries names (parts_of (drop (i + 1) parts)))) named

pub pardefs_yes : (names : List (List ℕ)) (parts : List Part) (i : ℕ) (p : Part) (n : Node) →
    i < length parts → p ≡ get_or parts i p → p ≡ Element n → is_named (codes "pardef") (tag_of n)
    ≡ true → pardefs names (parts_of (drop i parts))
    ≡ pardef names (tag_of n) (parts_of n.parts.items)
    ∷ pardefs (with_name names (name_of (tag_of n).attributes)) (parts_of (drop (i + 1) parts))
pardefs_yes names parts i p n lt is shape named = pardefs_node names parts i p n lt is shape
    ∙ ap (λ b. cond b (pardef names (tag_of n) (parts_of n.parts.items)
    ∷ pardefs (with_name names (name_of (tag_of n).attributes)) (parts_of (drop (i + 1) parts)))
    (pardefs names (parts_of (drop (i + 1) parts)))) named

pub pardefs_no : (names : List (List ℕ)) (parts : List Part) (i : ℕ) (p : Part) (n : Node) →
    i < length parts → p ≡ get_or parts i p → p ≡ Element n → is_named (codes "pardef") (tag_of n)
    ≡ false → pardefs names (parts_of (drop i parts))
    ≡ pardefs names (parts_of (drop (i + 1) parts))
pardefs_no names parts i p n lt is shape named = pardefs_node names parts i p n lt is shape
    ∙ ap (λ b. cond b (pardef names (tag_of n) (parts_of n.parts.items)
    ∷ pardefs (with_name names (name_of (tag_of n).attributes)) (parts_of (drop (i + 1) parts)))
    (pardefs names (parts_of (drop (i + 1) parts)))) named

pub names_with_yes : (names : List (List ℕ)) (parts : List Part) (i : ℕ) (p : Part) (n : Node) →
    i < length parts → p ≡ get_or parts i p → p ≡ Element n → is_named (codes "pardef") (tag_of n)
    ≡ true → names_with names (parts_of (drop i parts))
    ≡ names_with (with_name names (name_of (tag_of n).attributes)) (parts_of (drop (i + 1) parts))
names_with_yes names parts i p n lt is shape named = names_with_node names parts i p n lt is shape
    ∙ ap (λ b. cond b (names_with (with_name names (name_of (tag_of n).attributes))
    (parts_of (drop (i + 1) parts))) (names_with names (parts_of (drop (i + 1) parts)))) named

pub names_with_no : (names : List (List ℕ)) (parts : List Part) (i : ℕ) (p : Part) (n : Node) →
    i < length parts → p ≡ get_or parts i p → p ≡ Element n → is_named (codes "pardef") (tag_of n)
    ≡ false → names_with names (parts_of (drop i parts))
    ≡ names_with names (parts_of (drop (i + 1) parts))
names_with_no names parts i p n lt is shape named = names_with_node names parts i p n lt is shape
    ∙ ap (λ b. cond b (names_with (with_name names (name_of (tag_of n).attributes))
    (parts_of (drop (i + 1) parts))) (names_with names (parts_of (drop (i + 1) parts)))) named

pub after_yes : (n : Node) (defined : List (List ℕ)) → is_named (codes "pardef") (tag_of n) ≡ true →
    defined_after (tag_of n) defined ≡ with_name defined (name_of (tag_of n).attributes)
after_yes n defined named =
    ap (λ b. cond b (with_name defined (name_of (tag_of n).attributes)) defined) named

pub after_no : (n : Node) (defined : List (List ℕ)) → is_named (codes "pardef") (tag_of n) ≡ false →
    defined_after (tag_of n) defined ≡ defined
after_no n defined named =
    ap (λ b. cond b (with_name defined (name_of (tag_of n).attributes)) defined) named

pub by_yes : (n : Node) (names : List (List ℕ)) → is_named (codes "sdef") (tag_of n) ≡ true →
    declared_by (tag_of n) names ≡ with_name names (name_of (tag_of n).attributes)
by_yes n names named = ap (λ b. cond b
    (with_name names (name_of (tag_of n).attributes)) names) named

pub by_no : (n : Node) (names : List (List ℕ)) → is_named (codes "sdef") (tag_of n) ≡ false →
    declared_by (tag_of n) names ≡ names
by_no n names named = ap (λ b. cond b (with_name names (name_of (tag_of n).attributes)) names) named

-- the first fault, where the start tag has it, where its parts have it, and where neither has one
pub first_here : (declared defined : List (List ℕ)) (parts : List Part) (i : ℕ) (p : Part)
    (n : Node) (m : DixMark) → i < length parts → p ≡ get_or parts i p → p ≡ Element n →
    marked (tag_of n) (tag_kind declared defined (tag_of n) (parts_of n.parts.items)) ≡ Some m →
    first_in declared defined (parts_of (drop i parts)) ≡ Some m
first_here declared defined parts i p n m lt is shape own =
    first_node declared defined parts i p n lt is shape
    ∙ ap (λ (o : Option DixMark). or_else o
    (or_else (first_in declared defined (parts_of n.parts.items))
    (first_in declared (defined_after (tag_of n) (defined_in defined (parts_of n.parts.items)))
    (parts_of (drop (i + 1) parts))))) own

pub first_within : (declared defined : List (List ℕ)) (parts : List Part) (i : ℕ) (p : Part)
    (n : Node) (m : DixMark) → i < length parts → p ≡ get_or parts i p → p ≡ Element n →
    marked (tag_of n) (tag_kind declared defined (tag_of n) (parts_of n.parts.items)) ≡ None →
    first_in declared defined (parts_of n.parts.items) ≡ Some m →
    first_in declared defined (parts_of (drop i parts)) ≡ Some m
first_within declared defined parts i p n m lt is shape own inner =
    first_node declared defined parts i p n lt is shape
    ∙ ap (λ (o : Option DixMark). or_else o
    (or_else (first_in declared defined (parts_of n.parts.items))
    (first_in declared (defined_after (tag_of n) (defined_in defined (parts_of n.parts.items)))
    (parts_of (drop (i + 1) parts))))) own
    ∙ ap (λ (o : Option DixMark). or_else o
    (first_in declared (defined_after (tag_of n) (defined_in defined (parts_of n.parts.items)))
    (parts_of (drop (i + 1) parts)))) inner

pub first_later : (declared defined after : List (List ℕ)) (parts : List Part) (i : ℕ) (p : Part)
    (n : Node) → i < length parts → p ≡ get_or parts i p → p ≡ Element n →
    marked (tag_of n) (tag_kind declared defined (tag_of n) (parts_of n.parts.items)) ≡ None →
    first_in declared defined (parts_of n.parts.items) ≡ None →
    after ≡ defined_after (tag_of n) (defined_in defined (parts_of n.parts.items)) →
    first_in declared defined (parts_of (drop i parts))
    ≡ first_in declared after (parts_of (drop (i + 1) parts))
first_later declared defined after parts i p n lt is shape own inner after_is =
    first_node declared defined parts i p n lt is shape
    ∙ ap (λ (o : Option DixMark). or_else o
    (or_else (first_in declared defined (parts_of n.parts.items))
    (first_in declared (defined_after (tag_of n) (defined_in defined (parts_of n.parts.items)))
    (parts_of (drop (i + 1) parts))))) own
    ∙ ap (λ (o : Option DixMark). or_else o
    (first_in declared (defined_after (tag_of n) (defined_in defined (parts_of n.parts.items)))
    (parts_of (drop (i + 1) parts)))) inner
    ∙ ap (λ names. first_in declared names (parts_of (drop (i + 1) parts))) (sym after_is)

pub defined_later : (defined after : List (List ℕ)) (parts : List Part) (i : ℕ) (p : Part)
    (n : Node) → i < length parts → p ≡ get_or parts i p → p ≡ Element n →
    after ≡ defined_after (tag_of n) (defined_in defined (parts_of n.parts.items)) →
    defined_in defined (parts_of (drop i parts)) ≡ defined_in after (parts_of (drop (i + 1) parts))
defined_later defined after parts i p n lt is shape after_is =
    defined_node defined parts i p n lt is shape
    ∙ ap (λ names. defined_in names (parts_of (drop (i + 1) parts))) (sym after_is)

pub declared_later : (names own after : List (List ℕ)) (parts : List Part) (i : ℕ) (p : Part)
    (n : Node) → i < length parts → p ≡ get_or parts i p → p ≡ Element n →
    own ≡ declared_by (tag_of n) names → after ≡ declared_in own (parts_of n.parts.items) →
    declared_in names (parts_of (drop i parts)) ≡ declared_in after (parts_of (drop (i + 1) parts))
declared_later names own after parts i p n lt is shape own_is after_is =
    declared_node names parts i p n lt is shape
    ∙ ap (λ ns. declared_in (declared_in ns (parts_of n.parts.items))
    (parts_of (drop (i + 1) parts))) (sym own_is)
    ∙ ap (λ ns. declared_in ns (parts_of (drop (i + 1) parts))) (sym after_is)

-- the first fault of the tree of a root
pub mark_own : (n : Node) (declared defined : List (List ℕ)) (m : DixMark) →
    declared ≡ declared_in [] (parts_of n.parts.items) → defined ≡ [] →
    marked (tag_of n) (tag_kind declared defined (tag_of n) (parts_of n.parts.items)) ≡ Some m →
    Some m ≡ first_mark (node_then n Done)
mark_own n declared defined m declared_is defined_is own =
    let kids = parts_of n.parts.items in
    sym (ap (λ ds. or_else (marked (tag_of n) (tag_kind (declared_in [] kids) ds (tag_of n) kids))
    (first_in (declared_in [] kids) [] kids)) (sym defined_is)
    ∙ ap (λ ds. or_else (marked (tag_of n) (tag_kind ds defined (tag_of n) kids))
    (first_in (declared_in [] kids) [] kids)) (sym declared_is)
    ∙ ap (λ (o : Option DixMark). or_else o (first_in (declared_in [] kids) [] kids)) own)

pub mark_within : (n : Node) (declared defined : List (List ℕ)) →
    declared ≡ declared_in [] (parts_of n.parts.items) → defined ≡ [] →
    marked (tag_of n) (tag_kind declared defined (tag_of n) (parts_of n.parts.items)) ≡ None →
    first_in declared defined (parts_of n.parts.items) ≡ first_mark (node_then n Done)
mark_within n declared defined declared_is defined_is own =
    let kids = parts_of n.parts.items in
    sym (ap (λ ds. or_else (marked (tag_of n) (tag_kind (declared_in [] kids) ds (tag_of n) kids))
    (first_in (declared_in [] kids) [] kids)) (sym defined_is)
    ∙ ap (λ ds. or_else (marked (tag_of n) (tag_kind ds defined (tag_of n) kids))
    (first_in (declared_in [] kids) [] kids)) (sym declared_is)
    ∙ ap (λ (o : Option DixMark). or_else o (first_in (declared_in [] kids) [] kids)) own
    ∙ ap (λ ds. first_in ds [] kids) (sym declared_is)
    ∙ ap (λ ds. first_in declared ds kids) (sym defined_is))
