-- Entries that derive labels with an empty input side.
use Rattle.std.proofs.Common.{◌≡◌, inl, inr, ℕ, ◌+◌, ◌<◌, Bool, List, [], ◌∷◌, ◌++◌, refl, sym, ◌∙◌, ap, subst, append_assoc, append-nil, arith, Option, Some, None, slice_get, length, take, get_or, suc, zero}
use Rattle.std.specs.Prelude.{IsTrue, ◌↔◌}
use Rattle.std.specs.Option.{MatchOption, option_to_list, is_some}
use Rattle.std.proofs.lemmas.List.{take_more}
use Rattle.std.proofs.lemmas.Option.{slice_get-get_or}
use Rattle.ap_symbol.specs.Lists.{IsIn}
use Rattle.ap_symbol.specs.declared.symbol.Symbol.{Symbol}
use Rattle.ap_dix.specs.Derivation.{Label as EntryLabel, Derives, nothing, identity, pair, paradigm, paired, facing, left_word}
use Rattle.ap_dix.specs.declared.dictionary.Dictionary.{Dictionary}
use Rattle.ap_dix.specs.declared.dictionary.Direction.{Direction}
use Rattle.ap_dix.specs.declared.dictionary.Direction.TheVariants.{Lr, Rl}
use Rattle.ap_dix.specs.declared.dictionary.Entry.{Entry}
use Rattle.ap_dix.specs.declared.dictionary.EntryPart.{EntryPart}
use Rattle.ap_dix.specs.declared.dictionary.EntryPart.TheVariants.{Identity, Pair, Paradigm, Expression}
use Rattle.ap_dix.specs.declared.dictionary.Pardef.{Pardef}
use Rattle.ap_dix.specs.declared.dictionary.Section.{Section}
use Rattle.ap_compile.specs.Drafts.{IsCut, SpellsAt}
use Rattle.ap_compile.specs.Empties.{IsSilent, IsEmptyEntry, HasEmptyEntry, IsEmptyAt, AreEmpties, IsFirstEmpty, section_entries}
use Rattle.ap_compile.proofs.Choosing.{in_back, in_either}
use Rattle.ap_compile.proofs.Deriving.{one_identity, one_pair, one_paradigm, derives_cut, derives_joined, snoc_get, get_at}
use Rattle.ap_dix.specs.Forms.{Form}
use Rattle.ap_dix.specs.Language.{Lang}
use Rattle.ap_compile.specs.Forming.{OfStrings}
use Rattle.ap_compile.proofs.Forming.{one_expression, of_expression}
use Rattle.ap_compile.proofs.Words.{paired_swapped}

-- what the labels of two words read

left_paired : (left right : List Symbol) → left_word (paired left right) ≡ left
left_paired [] [] = refl
left_paired (a ∷ left) [] = ap (λ z. a ∷ z) (left_paired left [])
left_paired [] (b ∷ right) = left_paired [] right
left_paired (a ∷ left) (b ∷ right) = ap (λ z. a ∷ z) (left_paired left right)

pub reads_left : (direction : Direction) (left right : List Symbol) (b : Bool) → direction ≡ Lr →
    (IsTrue b ↔ (left ≡ [])) → IsTrue b ↔ (left_word (facing direction (paired left right)) ≡ [])
reads_left direction left right b e h =
    let k : left_word (facing direction (paired left right)) ≡ left =
    ap (λ (x : Direction). left_word (facing x (paired left right))) e
    ∙ left_paired left right in
    ((λ t. k ∙ h.0 t), (λ q. h.1 (sym k ∙ q)))

pub reads_right : (direction : Direction) (left right : List Symbol) (b : Bool) → direction ≡ Rl →
    (IsTrue b ↔ (right ≡ [])) → IsTrue b ↔ (left_word (facing direction (paired left right)) ≡ [])
reads_right direction left right b e h =
    let k : left_word (facing direction (paired left right)) ≡ right =
    ap (λ (x : Direction). left_word (facing x (paired left right))) e
    ∙ ap left_word (paired_swapped left right) ∙ left_paired right left in
    ((λ t. k ∙ h.0 t), (λ q. h.1 (sym k ∙ q)))

-- one part

pub identity_silent : (d : Dictionary) (direction : Direction) (word : List Symbol) (b : Bool) →
    (IsTrue b ↔ (left_word (facing direction (paired word word)) ≡ [])) →
    IsTrue b ↔ IsSilent d direction (Identity word ∷ [])
identity_silent d direction word b h =
    let own : List EntryLabel = facing direction (paired word word) in (
      (λ t. record {
        labels = own;
        derived = identity nothing (sym (append-nil own));
        silent = h.0 t;
      }),
      (λ s. h.1 (ap left_word (sym (one_identity d direction word s.labels s.derived)) ∙ s.silent)),
    )

pub pair_silent : (d : Dictionary) (direction : Direction) (left right : List Symbol) (b : Bool) →
    (IsTrue b ↔ (left_word (facing direction (paired left right)) ≡ [])) →
    IsTrue b ↔ IsSilent d direction (Pair left right ∷ [])
pair_silent d direction left right b h =
    let own : List EntryLabel = facing direction (paired left right) in (
      (λ t. record { labels = own; derived = pair nothing (sym (append-nil own)); silent = h.0 t }),
      (λ s. h.1 (ap left_word (sym (one_pair d direction left right s.labels s.derived))
          ∙ s.silent)),
    )

pub paradigm_silent : (d : Dictionary) (direction : Direction) (empties : List Bool) (n : ℕ)
    (b : Bool) → AreEmpties d direction empties → slice_get empties n ≡ Some b →
    IsTrue b ↔ IsSilent d direction (Paradigm n ∷ [])
paradigm_silent d direction empties n b are at = (
  (λ t. let s : IsEmptyAt d direction n = (are.each n b at).0 t in
      let q : IsSilent d direction s.has.entry.parts = s.has.empty.silent in
      record {
        labels = q.labels;
        derived =
            paradigm s.pardef s.has.entry (get_at d.pardefs n s.pardef s.at) s.has.listed
            s.has.empty.kept q.derived nothing (sym (append-nil q.labels));
        silent = q.silent;
      }),
  (λ s. (are.each n b at).1 (let k : SpellsAt d direction n s.labels =
      one_paradigm d direction n s.labels s.derived in
      record {
        pardef = k.pardef;
        at = k.at;
        has =
            record {
              entry = k.spells.item;
              listed = k.spells.listed;
              empty =
                  record {
                    kept = k.spells.holds.kept;
                    silent =
                        record {
                          labels = s.labels;
                          derived =
                              k.spells.holds.derived;
                          silent = s.silent;
                        };
                  };
            };
      })),
)

pub expression_silent : (d : Dictionary) (direction : Direction) (e : Form) (text : List ℕ)
    (b : Bool) → (IsTrue b ↔ Lang e []) → IsTrue b ↔ IsSilent d direction (Expression e text ∷ [])
expression_silent d direction e text b h = (
  (λ t. record {
    labels = [];
    derived =
        of_expression d direction e text [] (record { string = []; held = h.0 t; is = refl });
    silent = refl;
  }),
  (λ s. let o : OfStrings (Lang e) s.labels =
      one_expression d direction e text s.labels s.derived in
      let none : o.string ≡ [] = sym (left_paired o.string o.string) ∙ ap left_word (sym o.is)
      ∙ s.silent in
      h.1 (subst (Lang e) none o.held)),
)

-- parts

pub left_append : (a b : List EntryLabel) → left_word (a ++ b) ≡ left_word a ++ left_word b
left_append [] b = refl
left_append (l ∷ a) b = ap (λ z. option_to_list l.left ++ z) (left_append a b)
    ∙ sym (append_assoc (option_to_list l.left) (left_word a) (left_word b))

pub front_empty : {X : Type 0} (xs ys : List X) → xs ++ ys ≡ [] → xs ≡ []
front_empty [] ys e = refl
front_empty (x ∷ xs) ys e = cc

pub back_empty : {X : Type 0} (xs ys : List X) → xs ++ ys ≡ [] → ys ≡ []
back_empty [] ys e = e
back_empty (x ∷ xs) ys e = cc

pub silent_none : (d : Dictionary) (direction : Direction) → IsSilent d direction []
silent_none d direction = record { labels = []; derived = nothing; silent = refl }

silent_joined : (d : Dictionary) (direction : Direction) (a b : List EntryPart) →
    IsSilent d direction a → IsSilent d direction b → IsSilent d direction (a ++ b)
silent_joined d direction a b s t =
    record {
      labels = s.labels ++ t.labels;
      derived =
          derives_joined d direction a b s.labels t.labels s.derived t.derived;
      silent =
          left_append s.labels t.labels ∙ ap (λ z. z ++ left_word t.labels) s.silent ∙ t.silent;
    }

silent_front : (d : Dictionary) (direction : Direction) (a b : List EntryPart) →
    IsSilent d direction (a ++ b) → IsSilent d direction a
silent_front d direction a b s =
    let c : IsCut (Derives d direction a) (Derives d direction b) s.labels =
    derives_cut d direction a b s.labels s.derived in
    record {
      labels = c.front;
      derived = c.first;
      silent =
          front_empty (left_word c.front) (left_word c.back) (sym (left_append c.front c.back)
          ∙ ap left_word (sym c.whole) ∙ s.silent);
    }

silent_back : (d : Dictionary) (direction : Direction) (a b : List EntryPart) →
    IsSilent d direction (a ++ b) → IsSilent d direction b
silent_back d direction a b s =
    let c : IsCut (Derives d direction a) (Derives d direction b) s.labels =
    derives_cut d direction a b s.labels s.derived in
    record {
      labels = c.back;
      derived = c.second;
      silent =
          back_empty (left_word c.front) (left_word c.back) (sym (left_append c.front c.back)
          ∙ ap left_word (sym c.whole) ∙ s.silent);
    }

pub silent_more : (d : Dictionary) (direction : Direction) (parts : List EntryPart)
    (part p : EntryPart) (i : ℕ) → i < length parts → part ≡ get_or parts i p →
    IsSilent d direction (take i parts) → IsSilent d direction (part ∷ []) →
    IsSilent d direction (take (i + 1) parts)
silent_more d direction parts part p i lt is s t =
    let e : take (i + 1) parts ≡ take i parts ++ part ∷ [] =
    take_more parts i p lt ∙ ap (λ z. take i parts ++ z ∷ []) (sym is) in
    subst (λ (z : List EntryPart). IsSilent d direction z) (sym e)
    (silent_joined d direction (take i parts) (part ∷ []) s t)

-- the list before, at and after a place
pub record IsSplit {X : Type 0} (xs : List X) (i : ℕ) (x : X) : Type 0 where
  pub after : List X
  pub whole : xs ≡ take i xs ++ x ∷ after

pub split_at : {X : Type 0} (xs : List X) (i : ℕ) (x d : X) → i < length xs → x ≡ get_or xs i d →
    IsSplit xs i x
split_at [] i x d lt is = absurd (omega arith)
split_at (y ∷ xs) zero x d lt is = record { after = xs; whole = ap (λ z. z ∷ xs) (sym is) }
split_at (y ∷ xs) (suc i) x d lt is = let s : IsSplit xs i x = split_at xs i x d (omega arith) is in
    record { after = s.after; whole = ap (λ z. y ∷ z) s.whole }

pub loud_part : (d : Dictionary) (direction : Direction) (parts : List EntryPart)
    (part p : EntryPart) (i : ℕ) → i < length parts → part ≡ get_or parts i p →
    IsSilent d direction parts → IsSilent d direction (part ∷ [])
loud_part d direction parts part p i lt is s =
    let k : IsSplit parts i part = split_at parts i part p lt is in
    let q : IsSilent d direction (take i parts ++ part ∷ k.after) =
    subst (λ (z : List EntryPart). IsSilent d direction z) k.whole s in
    silent_front d direction (part ∷ []) k.after
    (silent_back d direction (take i parts) (part ∷ k.after) q)

-- entries

in_both : (d : Dictionary) (direction : Direction) (a b : List Entry) →
    (HasEmptyEntry d direction a → ⊥) → (HasEmptyEntry d direction b → ⊥) →
    HasEmptyEntry d direction (a ++ b) → ⊥
in_both d direction a b f g h = elim (in_either h.entry a b h.listed) [
  | inl k ↦ f (record { entry = h.entry; listed = k; empty = h.empty })
  | inr k ↦ g (record { entry = h.entry; listed = k; empty = h.empty })
]

one_entry : (d : Dictionary) (direction : Direction) (entry : Entry) →
    (IsEmptyEntry d direction entry → ⊥) → HasEmptyEntry d direction (entry ∷ []) → ⊥
one_entry d direction entry f h =
    elim h.listed [
      | inl e ↦ f (subst (λ (x : Entry). IsEmptyEntry d direction x) e h.empty)
      | inr z ↦ elim z [ ]
    ]

pub no_empty_more : (d : Dictionary) (direction : Direction) (entries : List Entry)
    (entry p : Entry) (i : ℕ) → i < length entries → entry ≡ get_or entries i p →
    (HasEmptyEntry d direction (take i entries) → ⊥) → (IsEmptyEntry d direction entry → ⊥)
    → HasEmptyEntry d direction (take (i + 1) entries) → ⊥
no_empty_more d direction entries entry p i lt is f g h =
    let e : take (i + 1) entries ≡ take i entries ++ entry ∷ [] = take_more entries i p lt
    ∙ ap (λ z. take i entries ++ z ∷ []) (sym is) in
    in_both d direction (take i entries) (entry ∷ []) f (one_entry d direction entry g)
    (subst (λ (z : List Entry). HasEmptyEntry d direction z) e h)

pub first_at : (d : Dictionary) (direction : Direction) (entries : List Entry) (entry p : Entry)
    (i line : ℕ) → i < length entries → entry ≡ get_or entries i p → line ≡ entry.line →
    (HasEmptyEntry d direction (take i entries) → ⊥) → IsEmptyEntry d direction entry
    → IsFirstEmpty d direction entries line
first_at d direction entries entry p i line lt is li f g =
    let k : IsSplit entries i entry = split_at entries i entry p lt is in
    record {
      before = take i entries;
      entry = entry;
      after = k.after;
      whole = k.whole;
      empty =
          g;
      line_is = li;
      first = f;
    }

-- paradigms

pub told_empty : (d : Dictionary) (direction : Direction) (entries : List Entry) (first : Option ℕ)
    (b : Bool) → b ≡ is_some first →
    MatchOption first (HasEmptyEntry d direction entries → ⊥)
    (λ line. IsFirstEmpty d direction entries line) → IsTrue b ↔ HasEmptyEntry d direction entries
told_empty d direction entries None b e m = ((λ t. cc), (λ h. absurd (m h)))
told_empty d direction entries (Some line) b e m = (
  (λ t. record {
    entry = m.entry;
    listed =
        subst (λ (z : List Entry). IsIn m.entry z) (sym m.whole)
        (in_back m.entry m.before (m.entry ∷ m.after) (inl refl));
    empty = m.empty;
  }),
  (λ h. e),
)

pub empties_more : (d : Dictionary) (direction : Direction) (empties empties' : List Bool)
    (empty : Bool) (pardef p : Pardef) (i : ℕ) → i ≡ length empties → i < length d.pardefs →
    pardef ≡ get_or d.pardefs i p → AreEmpties d direction empties →
    empties' ≡ empties ++ empty ∷ []
    → (IsTrue empty ↔ HasEmptyEntry d direction pardef.entries) → AreEmpties d direction empties'
empties_more d direction empties empties' empty pardef p i n lt is h e made = record {
  each = λ k x at. elim (snoc_get empties empty x k
      (ap (λ (z : List Bool). slice_get z k) (sym e) ∙ at)) [
        | inl (a, b) ↦ h.each k x b
        | inr (a, b) ↦
            let at' : slice_get d.pardefs k ≡ Some pardef =
            ap (slice_get d.pardefs) (let q : k ≡ i = omega arith in q)
            ∙ slice_get-get_or d.pardefs i p lt ∙ ap Some (sym is) in
            subst (λ (z : Bool). IsTrue z ↔ IsEmptyAt d direction k) b (
              (λ t. record { pardef = pardef; at = at'; has = made.0 t }),
              (λ s. let there : Some s.pardef ≡ Some pardef = sym s.at ∙ at' in
                  let same : s.pardef ≡ pardef = cc in
                  made.1 (subst (λ (q : Pardef). HasEmptyEntry d direction q.entries) same s.has)),
            )
      ];
}

-- sections

sections_append : (a b : List Section) → section_entries (a ++ b) ≡ section_entries a
    ++ section_entries b
sections_append [] b = refl
sections_append (s ∷ a) b = ap (λ z. s.entries ++ z) (sections_append a b)
    ∙ sym (append_assoc s.entries (section_entries a) (section_entries b))

pub no_section_more : (d : Dictionary) (direction : Direction) (sections : List Section)
    (section p : Section) (i : ℕ) → i < length sections → section ≡ get_or sections i p →
    (HasEmptyEntry d direction (section_entries (take i sections)) → ⊥) →
    (HasEmptyEntry d direction section.entries → ⊥)
    → HasEmptyEntry d direction (section_entries (take (i + 1) sections)) → ⊥
no_section_more d direction sections section p i lt is f g h =
    let e : take (i + 1) sections ≡ take i sections ++ section ∷ [] = take_more sections i p lt
    ∙ ap (λ z. take i sections ++ z ∷ []) (sym is) in
    let k : section_entries (take (i + 1) sections) ≡ section_entries (take i sections)
    ++ section.entries = ap section_entries e ∙ sections_append (take i sections) (section ∷ [])
    ∙ ap (λ z. section_entries (take i sections) ++ z) (append-nil section.entries) in
    in_both d direction (section_entries (take i sections)) section.entries f g
    (subst (λ (z : List Entry). HasEmptyEntry d direction z) k h)

pub first_section : (d : Dictionary) (direction : Direction) (sections : List Section)
    (section p : Section) (i line : ℕ) → i < length sections → section ≡ get_or sections i p →
    (HasEmptyEntry d direction (section_entries (take i sections)) → ⊥) →
    IsFirstEmpty d direction section.entries line
    → IsFirstEmpty d direction (section_entries sections) line
first_section d direction sections section p i line lt is f g =
    let k : IsSplit sections i section = split_at sections i section p lt is in
    let front : List Entry = section_entries (take i sections) in
    let rest : List Entry = section_entries k.after in
    record {
      before = front ++ g.before;
      entry = g.entry;
      after = g.after ++ rest;
      whole = ap section_entries k.whole ∙ sections_append (take i sections) (section ∷ k.after)
          ∙ ap (λ (z : List Entry). front ++ (z ++ rest)) g.whole
          ∙ ap (λ z. front ++ z) (append_assoc g.before (g.entry ∷ g.after) rest)
          ∙ sym (append_assoc front g.before (g.entry ∷ (g.after ++ rest)));
      empty = g.empty;
      line_is = g.line_is;
      first = in_both d direction front g.before f g.first;
    }
