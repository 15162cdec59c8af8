-- The label strings of a sound dictionary have no more labels with an empty left side than a number
-- of the dictionary.
use Rattle.std.proofs.Common.{◌≡◌, inl, inr, ℕ, ◌+◌, ◌<◌, ◌≤◌, List, [], ◌∷◌, ◌++◌, refl, sym, ◌∙◌, ap, subst, append_assoc, append-nil, arith, Option, Some, None, slice_get, length, length-append}
use Rattle.std.specs.Prelude.{IsTrue, nat_lt}
use Rattle.std.specs.List.{list_all}
use Rattle.std.specs.Option.{option_to_list}
use Rattle.std.proofs.lemmas.Bool.{and_parts, cases_lt}
use Rattle.std.proofs.lemmas.Bool.Decides.{nat_tests}
use Rattle.std.proofs.lemmas.List.{length-map}
use Rattle.ap_symbol.specs.Lists.{IsIn}
use Rattle.ap_symbol.specs.declared.symbol.Symbol.{Symbol}
use Rattle.ap_dix.specs.Derivation.{Label as EntryLabel, Derives, nothing, identity, pair, paradigm, expression, paired, swapped, facing, left_word, Strings}
use Rattle.ap_dix.specs.Soundness.{is_sound_part, is_sound_entry, are_sound_pardefs, IsSound}
use Rattle.ap_dix.specs.declared.dictionary.Dictionary.{Dictionary}
use Rattle.ap_dix.specs.declared.dictionary.Direction.{Direction}
use Rattle.ap_dix.specs.declared.dictionary.Direction.TheVariants.{Lr, Rl}
use Rattle.ap_dix.specs.declared.dictionary.Entry.{Entry}
use Rattle.ap_dix.specs.declared.dictionary.EntryPart.{EntryPart}
use Rattle.ap_dix.specs.declared.dictionary.EntryPart.TheVariants.{Identity, Pair, Paradigm, Expression}
use Rattle.ap_dix.specs.declared.dictionary.Kind.{Kind}
use Rattle.ap_dix.specs.declared.dictionary.Pardef.{Pardef}
use Rattle.ap_dix.specs.declared.dictionary.Section.{Section}
use Rattle.ap_compile.specs.Empties.{section_entries}
use Rattle.ap_compile.proofs.Forming.{faced_same}
use Rattle.ap_compile.proofs.Choosing.{in_front, in_back}
use Rattle.ap_compile.proofs.Deriving.{at_get, past}

-- how many of the labels have an empty left side
abbrev quiet_side : Option Symbol → ℕ
quiet_side None = 1
quiet_side (Some s) = 0

abbrev pub quiet : List EntryLabel → ℕ
quiet [] = 0
quiet (l ∷ labels) = quiet_side l.left + quiet labels

quiet_append : (a b : List EntryLabel) → quiet (a ++ b) ≡ quiet a + quiet b
quiet_append [] b = omega arith
quiet_append (l ∷ a) b = let e : quiet (a ++ b) ≡ quiet a + quiet b = quiet_append a b in
    omega (arith, e)

quiet_few : (side : Option Symbol) → quiet_side side ≤ 1
quiet_few None = omega arith
quiet_few (Some s) = omega arith

quiet_length : (labels : List EntryLabel) → quiet labels ≤ length labels
quiet_length [] = omega arith
quiet_length (l ∷ labels) = let one : quiet_side l.left ≤ 1 = quiet_few l.left in
    let rest : quiet labels ≤ length labels = quiet_length labels in omega (arith, one, rest)

-- a word with itself has none
quiet_same : (s : List Symbol) → quiet (paired s s) ≡ 0
quiet_same [] = refl
quiet_same (x ∷ s) = let e : quiet (paired s s) ≡ 0 = quiet_same s in omega (arith, e)

-- how many such labels a part derives at most, where a paradigm's entry derives no more than so
-- many
abbrev part_size : ℕ → EntryPart → ℕ
part_size b (Identity word) = length (paired word word)
part_size b (Pair left right) = length (paired left right)
part_size b (Paradigm n) = b
part_size b (Expression e text) = 0

abbrev parts_size : ℕ → List EntryPart → ℕ
parts_size b [] = 0
parts_size b (part ∷ parts) = part_size b part + parts_size b parts

abbrev entries_size : ℕ → List Entry → ℕ
entries_size b [] = 0
entries_size b (entry ∷ entries) = parts_size b entry.parts + entries_size b entries

-- the entries of the paradigms below n derive no more than b such labels
record IsBound (d : Dictionary) (direction : Direction) (b n : ℕ) : Type 0 where
  pub short : (k : ℕ) (pardef : Pardef) (entry : Entry) (labels : List EntryLabel) → k < n →
      slice_get d.pardefs k ≡ Some pardef → IsIn entry pardef.entries →
      Derives d direction entry.parts labels → quiet labels ≤ b

faced_length : (direction : Direction) (labels : List EntryLabel) → length (facing direction labels)
    ≡ length labels
faced_length Lr labels = refl
faced_length Rl labels = length-map labels swapped

whole_quiet : (own labels whole : List EntryLabel) → whole ≡ own ++ labels →
    quiet whole ≡ quiet own + quiet labels
whole_quiet own labels whole e = ap quiet e ∙ quiet_append own labels

derives_short : (d : Dictionary) (direction : Direction) (b n : ℕ) (parts : List EntryPart)
    (labels : List EntryLabel) → IsBound d direction b n → IsTrue (list_all (is_sound_part n) parts)
    → Derives d direction parts labels → quiet labels ≤ parts_size b parts
derives_short d direction b n [] labels h sound nothing = omega arith
derives_short d direction b n (Identity word ∷ parts) whole h sound
    (identity {labels = labels} k e) =
    let rest : quiet labels ≤ parts_size b parts =
    derives_short d direction b n parts labels h
    ((and_parts (is_sound_part n (Identity word)) (list_all (is_sound_part n) parts) sound).1) k
    in
    let all : quiet whole ≡ quiet (facing direction (paired word word)) + quiet labels =
    whole_quiet (facing direction (paired word word)) labels whole e in
    let own : length (facing direction (paired word word)) ≡ length (paired word word) =
    faced_length direction (paired word word) in
    let few : quiet (facing direction (paired word word)) ≤ length
    (facing direction (paired word word)) =
    quiet_length (facing direction (paired word word)) in
    omega (arith, rest, all, own, few)
derives_short d direction b n (Pair left right ∷ parts) whole h sound (pair {labels = labels} k e) =
    let rest : quiet labels ≤ parts_size b parts =
    derives_short d direction b n parts labels h
    ((and_parts (is_sound_part n (Pair left right)) (list_all (is_sound_part n) parts)
    sound).1) k in
    let all : quiet whole ≡ quiet (facing direction (paired left right)) + quiet labels =
    whole_quiet (facing direction (paired left right)) labels whole e in
    let own : length (facing direction (paired left right)) ≡ length (paired left right) =
    faced_length direction (paired left right) in
    let few : quiet (facing direction (paired left right)) ≤ length
    (facing direction (paired left right)) =
    quiet_length (facing direction (paired left right)) in
    omega (arith, rest, all, own, few)
derives_short d direction b n (Expression f text ∷ parts) whole h sound
    (expression {labels = labels} string l k e) =
    let rest : quiet labels ≤ parts_size b parts =
    derives_short d direction b n parts labels h
    ((and_parts (is_sound_part n (Expression f text)) (list_all (is_sound_part n) parts)
    sound).1) k in
    let all : quiet whole ≡ quiet (facing direction (paired string string)) + quiet labels =
    whole_quiet (facing direction (paired string string)) labels whole e in
    let own : quiet (facing direction (paired string string)) ≡ 0 =
    ap quiet (faced_same direction string) ∙ quiet_same string in
    omega (arith, rest, all, own)
derives_short d direction b n (Paradigm m ∷ parts) whole h sound
    (paradigm {own = own} {labels = labels} pardef entry at listed kept derived k e) =
    let both = and_parts (is_sound_part n (Paradigm m)) (list_all (is_sound_part n) parts) sound in
    let rest : quiet labels ≤ parts_size b parts =
    derives_short d direction b n parts labels h both.1 k in
    let all : quiet whole ≡ quiet own + quiet labels = whole_quiet own labels whole e in
    let below : IsTrue (nat_lt m n) = both.0 in
    let less : m < n = grind (arith, nat_tests) in
    let one : quiet own ≤ b =
    h.short m pardef entry own less (at_get d.pardefs m pardef at) listed derived in
    omega (arith, rest, all, one)

entry_size : (b : ℕ) (entry : Entry) (entries : List Entry) → IsIn entry entries →
    parts_size b entry.parts ≤ entries_size b entries
entry_size b entry [] h = elim h [ ]
entry_size b entry (x ∷ entries) (inl e) = let q : parts_size b entry.parts ≡ parts_size b x.parts =
    ap (λ (y : Entry). parts_size b y.parts) e in omega (arith, q)
entry_size b entry (x ∷ entries) (inr h) =
    let q : parts_size b entry.parts ≤ entries_size b entries = entry_size b entry entries h in
    omega (arith, q)

entry_sound : (n : ℕ) (entry : Entry) (entries : List Entry) → IsIn entry entries →
    IsTrue (list_all (is_sound_entry n) entries) → IsTrue (is_sound_entry n entry)
entry_sound n entry [] h s = elim h [ ]
entry_sound n entry (x ∷ entries) (inl e) s =
    ap (is_sound_entry n) e ∙
    (and_parts (is_sound_entry n x) (list_all (is_sound_entry n) entries) s).0
entry_sound n entry (x ∷ entries) (inr h) s =
    entry_sound n entry entries h
    ((and_parts (is_sound_entry n x) (list_all (is_sound_entry n) entries) s).1)

record IsBounded (d : Dictionary) (direction : Direction) : Type 0 where
  pub bound : ℕ
  pub is : IsBound d direction bound (length d.pardefs)

-- a paradigm more
bound_more : (d : Dictionary) (direction : Direction) (b n : ℕ) (pardef : Pardef) →
    slice_get d.pardefs n ≡ Some pardef → IsTrue (list_all (is_sound_entry n) pardef.entries) →
    IsBound d direction b n → IsBound d direction (b + entries_size b pardef.entries) (n + 1)
bound_more d direction b n pardef at sound h = record {
  short = λ k p entry labels lt here listed derived. elim (cases_lt k n) [
    | inl below ↦ let q : quiet labels ≤ b = h.short k p entry labels below here listed derived in
        omega (arith, q)
    | inr above ↦
        let same : k ≡ n = omega arith in
        let there : Some p ≡ Some pardef = sym here ∙ ap (slice_get d.pardefs) same ∙ at in
        let is : p ≡ pardef = cc in
        let listed' : IsIn entry pardef.entries =
        subst (λ (x : Pardef). IsIn entry x.entries) is listed in
        let one : quiet labels ≤ parts_size b entry.parts =
        derives_short d direction b n entry.parts labels h
        (entry_sound n entry pardef.entries listed' sound) derived in
        let two : parts_size b entry.parts ≤ entries_size b pardef.entries =
        entry_size b entry pardef.entries listed' in
        omega (arith, one, two)
  ];
}

bound_rest : (d : Dictionary) (direction : Direction) (rest before : List Pardef) (b n : ℕ) →
    d.pardefs ≡ before ++ rest → n ≡ length before → IsTrue (are_sound_pardefs n rest) →
    IsBound d direction b n → IsBounded d direction
bound_rest d direction [] before b n e k sound h =
    let all : n ≡ length d.pardefs = k ∙ ap length (sym (append-nil before)) ∙ ap length (sym e) in
    record { bound = b; is = subst (λ (m : ℕ). IsBound d direction b m) all h }
bound_rest d direction (pardef ∷ rest) before b n e k sound h =
    let both = and_parts (list_all (is_sound_entry n) pardef.entries)
    (are_sound_pardefs (n + 1) rest) sound in
    let at : slice_get d.pardefs n ≡ Some pardef = ap (λ (xs : List Pardef). slice_get xs n) e
    ∙ ap (slice_get (before ++ pardef ∷ rest)) k ∙ past before rest pardef in
    bound_rest d direction rest (before ++ pardef ∷ []) (b + entries_size b pardef.entries) (n + 1)
    (e ∙ sym (append_assoc before (pardef ∷ []) rest))
    (omega (arith, k, length-append before (pardef ∷ []))) both.1
    (bound_more d direction b n pardef at both.0 h)

bounded : (d : Dictionary) (direction : Direction) → IsSound d → IsBounded d direction
bounded d direction sound =
    bound_rest d direction d.pardefs [] 0 0 refl refl sound.pardefs
    (record { short = λ k p entry labels lt here listed derived. absurd (omega arith) })

pub entry_of_section : (sections : List Section) (section : Section) (entry : Entry) →
    IsIn section sections → IsIn entry section.entries → IsIn entry (section_entries sections)
entry_of_section [] section entry h k = elim h [ ]
entry_of_section (x ∷ sections) section entry (inl e) k =
    in_front entry x.entries (section_entries sections)
    (subst (λ (y : Section). IsIn entry y.entries) e k)
entry_of_section (x ∷ sections) section entry (inr h) k =
    in_back entry x.entries (section_entries sections) (entry_of_section sections section entry h k)

sections_sound : (n : ℕ) (sections : List Section) (section : Section) → IsIn section sections →
    IsTrue (list_all (λ (s : Section). list_all (is_sound_entry n) s.entries) sections) →
    IsTrue (list_all (is_sound_entry n) section.entries)
sections_sound n [] section h s = elim h [ ]
sections_sound n (x ∷ sections) section (inl e) s =
    ap (λ (y : Section). list_all (is_sound_entry n) y.entries) e
    ∙ (and_parts (list_all (is_sound_entry n) x.entries)
    (list_all (λ (y : Section). list_all (is_sound_entry n) y.entries) sections) s).0
sections_sound n (x ∷ sections) section (inr h) s =
    sections_sound n sections section h
    ((and_parts (list_all (is_sound_entry n) x.entries)
    (list_all (λ (y : Section). list_all (is_sound_entry n) y.entries) sections) s).1)

-- some number bounds how many labels with an empty left side the label strings have
pub record HasShortStrings (d : Dictionary) (direction : Direction) : Type 0 where
  pub bound : ℕ
  pub short : (kind : Kind) (labels : List EntryLabel) → Strings d direction kind labels →
      quiet labels ≤ bound

pub short_strings : (d : Dictionary) (direction : Direction) → IsSound d →
    HasShortStrings d direction
short_strings d direction sound =
    let b : IsBounded d direction = bounded d direction sound in
    record {
      bound = entries_size b.bound (section_entries d.sections);
      short = λ kind labels s.
          let one : quiet labels ≤ parts_size b.bound s.entry.parts =
          derives_short d direction b.bound (length d.pardefs) s.entry.parts labels b.is
          (entry_sound (length d.pardefs) s.entry s.section.entries s.entered
          (sections_sound (length d.pardefs) d.sections s.section s.listed
          sound.sections)) s.derived in
          let two : parts_size b.bound s.entry.parts ≤ entries_size b.bound
          (section_entries d.sections) =
          entry_size b.bound s.entry (section_entries d.sections)
          (entry_of_section d.sections s.section s.entry s.listed s.entered) in
          omega (arith, one, two);
    }

-- a run of labels with empty left sides is no longer than there are such labels

left_none_of : (side : Option Symbol) (rest : List Symbol) → option_to_list side ++ rest ≡ [] →
    (quiet_side side ≡ 1) × (rest ≡ [])
left_none_of None rest h = (refl, h)
left_none_of (Some s) rest h = let no : ⊥ = cc in absurd no

left_none : (l : EntryLabel) (labels : List EntryLabel) → left_word (l ∷ labels) ≡ [] →
    (quiet_side l.left ≡ 1) × (left_word labels ≡ [])
left_none l labels h = left_none_of l.left (left_word labels) h

pub silent_quiet : (labels : List EntryLabel) → left_word labels ≡ [] → length labels ≡ quiet labels
silent_quiet [] h = refl
silent_quiet (l ∷ labels) h =
    let p = left_none l labels h in
    let one : quiet_side l.left ≡ 1 = p.0 in
    let rest : length labels ≡ quiet labels = silent_quiet labels p.1 in
    omega (arith, one, rest)

pub quiet_within : (front middle back whole : List EntryLabel) → whole ≡ front ++ (middle ++ back) →
    quiet middle ≤ quiet whole
quiet_within front middle back whole e =
    let one : quiet whole ≡ quiet front + quiet (middle ++ back) =
    ap quiet e ∙ quiet_append front (middle ++ back) in
    let two : quiet (middle ++ back) ≡ quiet middle + quiet back = quiet_append middle back in
    omega (arith, one, two)
