-- What a tree spells is sound.
use Rattle.std.proofs.Common.{◌≡◌, ℕ, ◌+◌, ◌≤◌, Bool, true, false, not, ◌&&◌, ◌==◌, cond, ltb, List, [], ◌∷◌, ◌++◌, filter, length, length-append, refl, subst, ◌∙◌, arith, Option, Some, None, Ok, Err, codes}
use Rattle.std.specs.Option.{option_map, option_to_list}
use Rattle.std.specs.List.{list_all, position_or_len}
use Rattle.std.specs.Str.{bytes_eq, encode_utf8_all}
use Rattle.std.proofs.lemmas.Bool.Decides.{nat_tests}
use Rattle.std.proofs.lemmas.List.Folds.{list_all-append}
use Rattle.ap_symbol.specs.TagNames.{is_tag_name}
use Rattle.ap_symbol.specs.Words.{is_white}
use Rattle.ap_symbol.specs.declared.symbol.Symbol.{Symbol}
use Rattle.ap_symbol.specs.declared.symbol.Symbol.TheVariants.{Letter, Tag as tag_symbol, Blank, Join, Queue, Alarm}
use Rattle.ap_markup.specs.Elements.{elements, Spelled}
use Rattle.ap_markup.specs.Tree.{Tag, Parts, Done, Run, Element}
use Rattle.ap_markup.specs.declared.tables.Table.TheVariants.{Dix}
use Rattle.ap_markup.specs.Marks.{mark_order}
use Rattle.ap_markup.specs.Sooner.{sooner}
use Rattle.ap_dix.specs.Faults.{DixMark, first_mark}
use Rattle.ap_dix.specs.Refusals.{kind_number}
use Rattle.ap_dix.specs.Forms.{Form}
use Rattle.ap_dix.specs.Machines.{expression}
use Rattle.ap_dix.proofs.FormsSound.{expression_sound}
use Rattle.ap_markup.specs.NameLists.{has_name, with_name, number_of}
use Rattle.ap_markup.specs.Said.{name_of, is_named, child}
use Rattle.ap_dix.specs.Soundness.{IsSound, is_entry_symbol, is_sound_part, is_sound_entry, are_sound_pardefs}
use Rattle.ap_dix.specs.Spelling.{spelled, judged, decided, mark_of, root_parts}
use Rattle.ap_dix.specs.Value.{expression_part, entry_part, entry_parts, entry, entries, pardef, pardefs, names_with, section, sections, alphabet, dictionary}
use Rattle.ap_dix.specs.WordText.{letter, letters, mark, tag_named, element_symbols, symbols, texts}
use Rattle.ap_dix.specs.declared.dictionary.Dictionary.{Dictionary}
use Rattle.ap_dix.specs.declared.dictionary.EntryPart.{EntryPart}
use Rattle.ap_dix.specs.declared.dictionary.EntryPart.TheVariants.{Identity, Pair, Paradigm, Expression}
use Rattle.ap_dix.specs.declared.dictionary.Section.{Section}

both : (a b : Bool) → a ≡ true → b ≡ true → (a && b) ≡ true
both a b ea eb = rw (ea, eb) refl

all_both : {X : Type 0} (p : X → Bool) (xs ys : List X) → list_all p xs ≡ true →
    list_all p ys ≡ true → list_all p (xs ++ ys) ≡ true
all_both p xs ys ex ey = list_all-append p xs ys ∙ both (list_all p xs) (list_all p ys) ex ey

all_either : {X : Type 0} (p : X → Bool) (b : Bool) (xs ys : List X) → list_all p xs ≡ true →
    list_all p ys ≡ true → list_all p (cond b xs ys) ≡ true
all_either p true xs ys ex ey = ex
all_either p false xs ys ex ey = ey

letter_sound : (c : ℕ) → list_all is_entry_symbol (letter c) ≡ true
letter_sound c = all_either is_entry_symbol (c == 32) (Blank ∷ [])
    (cond (is_white c) [] (Letter c ∷ [])) refl
    (all_either is_entry_symbol (is_white c) [] (Letter c ∷ []) refl refl)

letters_sound : (text : List ℕ) → list_all is_entry_symbol (letters text) ≡ true
letters_sound [] = refl
letters_sound (c ∷ cs) =
    all_both is_entry_symbol (letter c) (letters cs) (letter_sound c) (letters_sound cs)

tag_sound : (name : List ℕ) → list_all is_entry_symbol (tag_named name) ≡ true
tag_sound name = all_either is_entry_symbol (is_tag_name name) (tag_symbol name ∷ []) [] refl refl

mark_of_sound : (b j a s : Bool) (name : List ℕ) →
    list_all is_entry_symbol
    (cond b (Blank ∷ []) (cond j (Join ∷ []) (cond a (Alarm ∷ []) (cond s (tag_named name) []))))
    ≡ true
mark_of_sound true j a s name = refl
mark_of_sound false true a s name = refl
mark_of_sound false false true s name = refl
mark_of_sound false false false true name = tag_sound name
mark_of_sound false false false false name = refl

mark_sound : (tag : Tag) → list_all is_entry_symbol (mark tag) ≡ true
mark_sound tag = mark_of_sound (is_named (codes "b") tag) (is_named (codes "j") tag)
    (is_named (codes "a") tag) (is_named (codes "s") tag) (encode_utf8_all (name_of tag.attributes))

symbols_sound : (p : Parts) → list_all is_entry_symbol (symbols p) ≡ true
unfolding symbols
symbols_sound Done = refl
symbols_sound (Run text at more) =
    all_both is_entry_symbol (letters text) (symbols more) (letters_sound text) (symbols_sound more)
symbols_sound (Element tag kids more) =
    all_both is_entry_symbol (element_symbols tag (symbols kids)) (symbols more)
    (all_either is_entry_symbol (is_named (codes "g") tag) (Queue ∷ symbols kids) (mark tag)
    (symbols_sound kids) (mark_sound tag))
    (symbols_sound more)

number_below : (b : Bool) (k len bound : ℕ) → ltb k len ≡ b → len ≤ bound →
    list_all (is_sound_part bound)
    (option_to_list (option_map Paradigm (cond b (Some k) None))) ≡ true
number_below true k len bound e le =
    let lt : ltb k bound ≡ true = grind (arith, nat_tests) in
    rw lt refl
number_below false k len bound e le = refl

number_sound : (names : List (List ℕ)) (name : List ℕ) (bound : ℕ) → length names ≤ bound →
    list_all (is_sound_part bound)
    (option_to_list (option_map Paradigm (number_of names name))) ≡ true
number_sound names name bound le =
    number_below (ltb (position_or_len (bytes_eq name) names) (length names))
    (position_or_len (bytes_eq name) names) (length names) bound refl le

part_of_sound : (i p par re : Bool) (bound : ℕ) (word left right : List Symbol)
    (number form : Option EntryPart) → list_all is_entry_symbol word ≡ true →
    list_all is_entry_symbol left ≡ true → list_all is_entry_symbol right ≡ true →
    list_all (is_sound_part bound) (option_to_list number) ≡ true →
    list_all (is_sound_part bound) (option_to_list form) ≡ true
    → list_all (is_sound_part bound)
    (option_to_list (cond i (Some (Identity word))
    (cond p (Some (Pair left right)) (cond par number (cond re form None))))) ≡ true
part_of_sound true p par re bound word left right number form w l r n f = rw w refl
part_of_sound false true par re bound word left right number form w l r n f = rw (l, r) refl
part_of_sound false false true re bound word left right number form w l r n f = n
part_of_sound false false false true bound word left right number form w l r n f = f
part_of_sound false false false false bound word left right number form w l r n f = refl

form_sound : (bound : ℕ) (text : List ℕ) (o : Option Form) → expression text ≡ o →
    list_all (is_sound_part bound) (option_to_list (option_map (λ e. Expression e text) o)) ≡ true
form_sound bound text None e = refl
form_sound bound text (Some form) e = rw (expression_sound text form e) refl

part_sound : (names : List (List ℕ)) (tag : Tag) (kids : Parts) (bound : ℕ) → length names ≤ bound →
    list_all (is_sound_part bound) (option_to_list (entry_part names tag kids)) ≡ true
part_sound names tag kids bound le =
    part_of_sound (is_named (codes "i") tag) (is_named (codes "p") tag) (is_named (codes "par") tag)
    (is_named (codes "re") tag) bound (symbols kids) (symbols (child (codes "l") kids))
    (symbols (child (codes "r") kids))
    (option_map Paradigm (number_of names (name_of tag.attributes)))
    (expression_part (texts kids))
    (symbols_sound kids) (symbols_sound (child (codes "l") kids))
    (symbols_sound (child (codes "r") kids))
    (number_sound names (name_of tag.attributes) bound le)
    (form_sound bound (texts kids) (expression (texts kids)) refl)

parts_sound : (names : List (List ℕ)) (bound : ℕ) → length names ≤ bound → (p : Parts) →
    list_all (is_sound_part bound) (entry_parts names p) ≡ true
unfolding entry_parts
parts_sound names bound le Done = refl
parts_sound names bound le (Run text at more) = parts_sound names bound le more
parts_sound names bound le (Element tag kids more) =
    all_both (is_sound_part bound) (option_to_list (entry_part names tag kids))
    (entry_parts names more) (part_sound names tag kids bound le)
    (parts_sound names bound le more)

entries_sound : (names : List (List ℕ)) (bound : ℕ) → length names ≤ bound → (p : Parts) →
    list_all (is_sound_entry bound) (entries names p) ≡ true
unfolding entries
entries_sound names bound le Done = refl
entries_sound names bound le (Run text at more) = entries_sound names bound le more
entries_sound names bound le (Element tag kids more) =
    all_either (is_sound_entry bound) (is_named (codes "e") tag)
    (entry names tag kids ∷ entries names more) (entries names more)
    (both (is_sound_entry bound (entry names tag kids))
    (list_all (is_sound_entry bound) (entries names more)) (parts_sound names bound le kids)
    (entries_sound names bound le more))
    (entries_sound names bound le more)

with_longer : (b : Bool) (names : List (List ℕ)) (name : List ℕ) →
    length (cond b names (names ++ name ∷ [])) ≤ length names + 1
with_longer true names name = omega arith
with_longer false names name = omega (arith, length-append names (name ∷ []))

pardefs_either : (b : Bool) (n : ℕ) (names : List (List ℕ)) (tag : Tag) (kids more : Parts) →
    list_all (is_sound_entry n) (entries names kids) ≡ true →
    are_sound_pardefs (n + 1) (pardefs (with_name names (name_of tag.attributes)) more) ≡ true →
    are_sound_pardefs n (pardefs names more) ≡ true
    → are_sound_pardefs n (cond b
    (pardef names tag kids ∷ pardefs (with_name names (name_of tag.attributes)) more)
    (pardefs names more)) ≡ true
pardefs_either true n names tag kids more own next skip = both _ _ own next
pardefs_either false n names tag kids more own next skip = skip

pardefs_sound : (n : ℕ) (names : List (List ℕ)) → length names ≤ n → (p : Parts) →
    are_sound_pardefs n (pardefs names p) ≡ true
unfolding pardefs
pardefs_sound n names le Done = refl
pardefs_sound n names le (Run text at more) = pardefs_sound n names le more
pardefs_sound n names le (Element tag kids more) =
    let longer = with_longer (has_name names (name_of tag.attributes)) names
    (name_of tag.attributes) in
    pardefs_either (is_named (codes "pardef") tag) n names tag kids more
    (entries_sound names n le kids)
    (pardefs_sound (n + 1) (with_name names (name_of tag.attributes)) (omega arith) more)
    (pardefs_sound n names le more)

names_either : (b : Bool) (names : List (List ℕ)) (tag : Tag) (kids more : Parts) →
    length (names_with (with_name names (name_of tag.attributes)) more) ≤ length
    (with_name names (name_of tag.attributes)) + length
    (pardefs (with_name names (name_of tag.attributes)) more) →
    length (names_with names more) ≤ length names + length (pardefs names more)
    → length (cond b (names_with (with_name names (name_of tag.attributes)) more)
    (names_with names more)) ≤ length names + length
    (cond b (pardef names tag kids ∷ pardefs (with_name names (name_of tag.attributes)) more)
    (pardefs names more))
names_either true names tag kids more next skip =
    let longer = with_longer (has_name names (name_of tag.attributes)) names
    (name_of tag.attributes) in
    omega arith
names_either false names tag kids more next skip = skip

names_few : (names : List (List ℕ)) (p : Parts) →
    length (names_with names p) ≤ length names + length (pardefs names p)
unfolding names_with pardefs
names_few names Done = omega arith
names_few names (Run text at more) = names_few names more
names_few names (Element tag kids more) =
    names_either (is_named (codes "pardef") tag) names tag kids more
    (names_few (with_name names (name_of tag.attributes)) more) (names_few names more)

sections_sound : (names : List (List ℕ)) (bound : ℕ) → length names ≤ bound → (p : Parts) →
    list_all (λ (s : Section). list_all (is_sound_entry bound) s.entries) (sections names p) ≡ true
unfolding sections
sections_sound names bound le Done = refl
sections_sound names bound le (Run text at more) = sections_sound names bound le more
sections_sound names bound le (Element tag kids more) =
    all_either (λ (s : Section). list_all (is_sound_entry bound) s.entries)
    (is_named (codes "section") tag) (section names tag kids ∷ sections names more)
    (sections names more)
    (both (list_all (is_sound_entry bound) (entries names kids))
    (list_all (λ (s : Section). list_all (is_sound_entry bound) s.entries)
    (sections names more)) (entries_sound names bound le kids)
    (sections_sound names bound le more))
    (sections_sound names bound le more)

kept_either : (b : Bool) (c : ℕ) (cs : List ℕ) → not (is_white c) ≡ b →
    list_all (λ x. not (is_white x)) cs ≡ true →
    list_all (λ x. not (is_white x)) (cond b (c ∷ cs) cs) ≡ true
kept_either true c cs e all = both (not (is_white c)) (list_all (λ x. not (is_white x)) cs) e all
kept_either false c cs e all = all

filtered : (text : List ℕ) →
    list_all (λ x. not (is_white x)) (filter (λ x. not (is_white x)) text) ≡ true
filtered [] = refl
filtered (c ∷ cs) = kept_either (not (is_white c)) c (filter (λ x. not (is_white x)) cs) refl
    (filtered cs)

alphabet_sound : (p : Parts) → list_all (λ x. not (is_white x)) (alphabet p) ≡ true
unfolding alphabet
alphabet_sound Done = refl
alphabet_sound (Run text at more) =
    all_both (λ x. not (is_white x)) (filter (λ x. not (is_white x)) text) (alphabet more)
    (filtered text) (alphabet_sound more)
alphabet_sound (Element tag kids more) = alphabet_sound more

pub dictionary_sound : (kids : Parts) → IsSound (dictionary kids)
dictionary_sound kids =
    let all = child (codes "pardefs") kids in
    record {
      pardefs = pardefs_sound 0 [] (omega arith) all;
      sections = sections_sound (names_with [] all) (length (pardefs [] all)) (let few =
          names_few [] all in omega arith) kids;
      alphabet = alphabet_sound (child (codes "alphabet") kids);
    }

decided_sound : (tree : Parts) (first : Option DixMark) (d : Dictionary) →
    decided tree first ≡ Ok d → IsSound d
decided_sound tree None d e = let same : dictionary (root_parts tree) ≡ d = cc in
    subst IsSound same (dictionary_sound (root_parts tree))
decided_sound tree (Some m) d e = absurd (let no : ⊥ = cc in no)

judged_sound : (read : Spelled) (d : Dictionary) → judged read ≡ Ok d → IsSound d
judged_sound (Ok tree) d e =
    decided_sound tree.0 (sooner (mark_order kind_number) (option_map mark_of tree.1)
    (first_mark tree.0)) d e
judged_sound (Err f) d e = absurd (let no : ⊥ = cc in no)

-- a dictionary that a text spells is sound
pub spelled_sound : (text : List ℕ) (d : Dictionary) → spelled text ≡ Ok d → IsSound d
unfolding spelled
spelled_sound text d e = judged_sound (elements text Dix) d e
