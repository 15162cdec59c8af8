-- What parts that are taken one after another give: what those before give, and then the last.
use Rattle.std.proofs.Common.{◌≡◌, ℕ, Bool, true, false, cond, List, [], ◌∷◌, ◌++◌, fold, map, refl, sym, ap, ◌∙◌, append-nil, codes}
use Rattle.ap_markup.specs.NameLists.{with_name}
use Rattle.ap_markup.specs.Said.{is_named, name_of}
use Rattle.ap_markup.specs.Tree.{Parts, Done, Run as text_then, Element as element_then, joined}
use Rattle.ap_markup.specs.View.{part_then, parts_of, tag_of}
use Rattle.ap_markup.specs.declared.node.Node.{Node}
use Rattle.ap_markup.specs.declared.node.Part.{Part, Run, Element}
use Rattle.ap_markup.proofs.ViewLemmas.{part_then-Element, parts_of-append}
use Rattle.ap_dix.specs.Value.{entry, entries, pardef, pardefs, names_with, section, sections}
use Rattle.ap_dix.specs.declared.dictionary.Entry.{Entry}
use Rattle.ap_dix.specs.declared.dictionary.Pardef.{Pardef}
use Rattle.ap_dix.specs.declared.dictionary.Section.{Section}

goes : {X : Type 0} (f : Parts → List X) → ((p q : Parts) → f (joined p q) ≡ f p ++ f q) →
    (xs : List Part) (p : Part) (made made' last : List X) → f (part_then p Done) ≡ last →
    made' ≡ made ++ last → made ≡ f (parts_of xs) → made' ≡ f (parts_of (xs ++ p ∷ []))
goes f both xs p made made' last last_is grown was = grown ∙ ap (λ m. m ++ last) was
    ∙ ap (λ l. f (parts_of xs) ++ l) (sym last_is)
    ∙ sym (ap f (parts_of-append xs p) ∙ both (parts_of xs) (part_then p Done))

cond-append : {X : Type 0} (b : Bool) (one : X) (some more whole : List X) → whole ≡ some ++ more →
    cond b (one ∷ whole) whole ≡ cond b (one ∷ some) some ++ more
cond-append true one some more whole h = ap (λ w. one ∷ w) h
cond-append false one some more whole h = h

-- the entries
entries-joined : (names : List (List ℕ)) (p q : Parts) →
    entries names (joined p q) ≡ entries names p ++ entries names q
unfolding entries
entries-joined names Done q = refl
entries-joined names (text_then text at more) q = entries-joined names more q
entries-joined names (element_then tag kids more) q =
    cond-append (is_named (codes "e") tag) (entry names tag kids) (entries names more)
    (entries names q) (entries names (joined more q)) (entries-joined names more q)

pub entries_run : (names : List (List ℕ)) (xs : List Part) (p : Part) (text : List ℕ) (at : ℕ)
    (made made' : List Entry) → p ≡ Run text at → made' ≡ made →
    made ≡ entries names (parts_of xs) → made' ≡ entries names (parts_of (xs ++ p ∷ []))
unfolding entries
entries_run names xs p text at made made' shape same was =
    goes (entries names) (entries-joined names) xs p made made' []
    (ap (λ (q : Part). entries names (part_then q Done)) shape) (same ∙ sym (append-nil made)) was

entries-node : (names : List (List ℕ)) (p : Part) (n : Node) (b : Bool) → p ≡ Element n →
    is_named (codes "e") (tag_of n) ≡ b → entries names (part_then p Done)
    ≡ cond b (entry names (tag_of n) (parts_of n.parts.items) ∷ []) []
unfolding entries
entries-node names p n b shape named =
    ap (λ (q : Part). entries names (part_then q Done)) shape
    ∙ ap (entries names) (part_then-Element n Done)
    ∙ ap (λ b. cond b (entry names (tag_of n) (parts_of n.parts.items) ∷ []) []) named

pub entries_yes : (names : List (List ℕ)) (xs : List Part) (p : Part) (n : Node) (one : Entry)
    (made made' : List Entry) → p ≡ Element n → is_named (codes "e") (tag_of n) ≡ true →
    one ≡ entry names (tag_of n) (parts_of n.parts.items) → made' ≡ made ++ one ∷ [] →
    made ≡ entries names (parts_of xs) → made' ≡ entries names (parts_of (xs ++ p ∷ []))
entries_yes names xs p n one made made' shape named one_is grown was =
    goes (entries names) (entries-joined names) xs p made made' (one ∷ [])
    (entries-node names p n true shape named ∙ ap (λ o. o ∷ []) (sym one_is)) grown was

pub entries_no : (names : List (List ℕ)) (xs : List Part) (p : Part) (n : Node)
    (made made' : List Entry) → p ≡ Element n → is_named (codes "e") (tag_of n) ≡ false →
    made' ≡ made → made ≡ entries names (parts_of xs) →
    made' ≡ entries names (parts_of (xs ++ p ∷ []))
entries_no names xs p n made made' shape named same was =
    goes (entries names) (entries-joined names) xs p made made' []
    (entries-node names p n false shape named) (same ∙ sym (append-nil made)) was

-- the sections
sections-joined : (names : List (List ℕ)) (p q : Parts) →
    sections names (joined p q) ≡ sections names p ++ sections names q
unfolding sections
sections-joined names Done q = refl
sections-joined names (text_then text at more) q = sections-joined names more q
sections-joined names (element_then tag kids more) q =
    cond-append (is_named (codes "section") tag) (section names tag kids) (sections names more)
    (sections names q) (sections names (joined more q)) (sections-joined names more q)

pub sections_run : (names : List (List ℕ)) (xs : List Part) (p : Part) (text : List ℕ) (at : ℕ)
    (made made' : List Section) → p ≡ Run text at → made' ≡ made →
    made ≡ sections names (parts_of xs) → made' ≡ sections names (parts_of (xs ++ p ∷ []))
unfolding sections
sections_run names xs p text at made made' shape same was =
    goes (sections names) (sections-joined names) xs p made made' []
    (ap (λ (q : Part). sections names (part_then q Done)) shape) (same ∙ sym (append-nil made)) was

sections-node : (names : List (List ℕ)) (p : Part) (n : Node) (b : Bool) → p ≡ Element n →
    is_named (codes "section") (tag_of n) ≡ b → sections names (part_then p Done)
    ≡ cond b (section names (tag_of n) (parts_of n.parts.items) ∷ []) []
unfolding sections
sections-node names p n b shape named =
    ap (λ (q : Part). sections names (part_then q Done)) shape
    ∙ ap (sections names) (part_then-Element n Done)
    ∙ ap (λ b. cond b (section names (tag_of n) (parts_of n.parts.items) ∷ []) []) named

pub sections_yes : (names : List (List ℕ)) (xs : List Part) (p : Part) (n : Node) (one : Section)
    (made made' : List Section) → p ≡ Element n → is_named (codes "section") (tag_of n) ≡ true →
    one ≡ section names (tag_of n) (parts_of n.parts.items) → made' ≡ made ++ one ∷ [] →
    made ≡ sections names (parts_of xs) → made' ≡ sections names (parts_of (xs ++ p ∷ []))
sections_yes names xs p n one made made' shape named one_is grown was =
    goes (sections names) (sections-joined names) xs p made made' (one ∷ [])
    (sections-node names p n true shape named ∙ ap (λ o. o ∷ []) (sym one_is)) grown was

pub sections_no : (names : List (List ℕ)) (xs : List Part) (p : Part) (n : Node)
    (made made' : List Section) → p ≡ Element n → is_named (codes "section") (tag_of n) ≡ false →
    made' ≡ made → made ≡ sections names (parts_of xs) →
    made' ≡ sections names (parts_of (xs ++ p ∷ []))
sections_no names xs p n made made' shape named same was =
    goes (sections names) (sections-joined names) xs p made made' []
    (sections-node names p n false shape named) (same ∙ sym (append-nil made)) was

-- the names that paradigms have are those that the tree adds
pub names_made : (names : List (List ℕ)) (kids : Parts) →
    fold with_name names (map (λ (made : Pardef). made.name) (pardefs names kids))
    ≡ names_with names kids
unfolding pardefs names_with
names_made names Done = refl
names_made names (text_then text at more) = names_made names more
names_made names (element_then tag kids more) =
    by (is_named (codes "pardef") tag) (names_made (with_name names (name_of tag.attributes)) more)
    (names_made names more)
  where
    by : (b : Bool) →
        fold with_name (with_name names (name_of tag.attributes))
        (map (λ (made : Pardef). made.name)
        (pardefs (with_name names (name_of tag.attributes)) more))
        ≡ names_with (with_name names (name_of tag.attributes)) more →
        fold with_name names (map (λ (made : Pardef). made.name) (pardefs names more))
        ≡ names_with names more →
        fold with_name names (map (λ (made : Pardef). made.name) (cond b (pardef names tag kids
        ∷ pardefs (with_name names (name_of tag.attributes)) more) (pardefs names more)))
        ≡ cond b (names_with (with_name names (name_of tag.attributes)) more)
        (names_with names more)
    by true e k = e
    by false e k = k
