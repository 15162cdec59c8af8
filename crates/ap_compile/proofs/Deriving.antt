use Rattle.std.proofs.Common.{◌≡◌, ◌⊎◌, inl, inr, ℕ, ◌+◌, ◌<◌, List, [], ◌∷◌, ◌++◌, refl, sym, ◌∙◌, ap, subst, append_assoc, append-nil, arith, Option, Some, slice_get, length, take, get_or, suc, zero}
use Rattle.std.specs.Prelude.{IsTrue, ◌↔◌}
use Rattle.std.specs.List.{list_all}
use Rattle.std.proofs.lemmas.Bool.{and_parts}
use Rattle.std.proofs.lemmas.List.{take_more}
use Rattle.ap_symbol.specs.Lists.{IsAt}
use Rattle.ap_symbol.specs.declared.symbol.Symbol.{Symbol}
use Rattle.ap_dix.specs.Derivation.{Label as EntryLabel, Derives, nothing, identity, pair, paradigm, expression, paired, facing}
use Rattle.ap_dix.specs.Soundness.{is_sound_entry, are_sound_pardefs}
use Rattle.ap_dix.specs.declared.dictionary.Dictionary.{Dictionary}
use Rattle.ap_dix.specs.declared.dictionary.Direction.{Direction}
use Rattle.ap_dix.specs.declared.dictionary.EntryPart.{EntryPart}
use Rattle.ap_dix.specs.declared.dictionary.EntryPart.TheVariants.{Identity, Pair, Paradigm, Expression}
use Rattle.ap_dix.specs.declared.dictionary.Pardef.{Pardef}
use Rattle.ap_fst.specs.Sketches.{Sketch}
use Rattle.ap_fst.specs.Paths.{Accepts, IsJoined}
use Rattle.ap_fst.specs.declared.label.Label.{Label}
use Rattle.ap_compile.specs.Labels.{derived_label}
use Rattle.ap_compile.specs.Drafts.{IsCut, IsDraftOf, Any, Spells, SpellsAt, AreDrafts}
use Rattle.ap_compile.proofs.Drafting.{same_draft, none_draft, joined_draft}
use Rattle.ap_compile.proofs.Words.{take_next}

-- the item of a number, in both ways of saying it

pub past : {X : Type 0} (before after : List X) (x : X) →
    slice_get (before ++ x ∷ after) (length before) ≡ Some x
past [] after x = refl
past (y ∷ before) after x = past before after x

pub at_get : {X : Type 0} (xs : List X) (n : ℕ) (x : X) → IsAt xs n x → slice_get xs n ≡ Some x
at_get xs n x (before, after, e, k) =
    subst (λ (i : ℕ). slice_get xs i ≡ Some x) (sym k)
    (subst (λ zs. slice_get zs (length before) ≡ Some x) (sym e) (past before after x))

pub get_at : {X : Type 0} (xs : List X) (n : ℕ) (x : X) → slice_get xs n ≡ Some x → IsAt xs n x
get_at [] zero x h = cc
get_at [] (suc n) x h = cc
get_at (y ∷ xs) zero x h = let e : y ≡ x = cc in ([], xs, ap (λ z. z ∷ xs) e, refl)
get_at (y ∷ xs) (suc n) x h = let (before, after, e, k) = get_at xs n x h in
    (y ∷ before, after, ap (λ z. y ∷ z) e, ap suc k)

-- a word's draft grows by a label
pub labels_more : (xs : List EntryLabel) (a b made : Sketch) (label : Label) (i : ℕ) →
    slice_get xs i ≡ Some (derived_label label) → IsDraftOf (λ w. w ≡ take i xs) a →
    IsDraftOf (λ w. w ≡ derived_label label ∷ []) b
    → ((w : List Label) → Accepts made w ↔ IsJoined a b w) →
    IsDraftOf (λ w. w ≡ take (i + 1) xs) made
labels_more xs a b made label i at ha hb hm =
    let e : take (i + 1) xs ≡ take i xs ++ derived_label label ∷ [] =
    take_next xs i (derived_label label) at in
    same_draft (IsCut (λ w. w ≡ take i xs) (λ w. w ≡ derived_label label ∷ []))
    (λ w. w ≡ take (i + 1) xs) made
    (joined_draft (λ w. w ≡ take i xs) (λ w. w ≡ derived_label label ∷ []) a b made ha hb hm)
    (λ w. (
      (λ c. c.whole ∙ ap (λ z. z ++ c.back) c.first ∙ ap (λ z. take i xs ++ z) c.second ∙ sym e),
      (λ h. record {
        front = take i xs;
        back = derived_label label ∷ [];
        whole = h ∙ e;
        first =
            refl;
        second = refl;
      }),
    ))

-- what one part derives, by its kind

pub one_identity : (d : Dictionary) (direction : Direction) (word : List Symbol)
    (w : List EntryLabel) → Derives d direction (Identity word ∷ []) w →
    w ≡ facing direction (paired word word)
one_identity d direction word w (identity nothing e) =
    e ∙ append-nil (facing direction (paired word word))

pub identity_draft : (d : Dictionary) (direction : Direction) (word : List Symbol) (made : Sketch) →
    IsDraftOf (λ w. w ≡ facing direction (paired word word)) made →
    IsDraftOf (Derives d direction (Identity word ∷ [])) made
identity_draft d direction word made h =
    same_draft (λ w. w ≡ facing direction (paired word word))
    (Derives d direction (Identity word ∷ [])) made h
    (λ w. (
      (λ e. identity nothing (e ∙ sym (append-nil (facing direction (paired word word))))),
      (λ k. one_identity d direction word w k),
    ))

pub one_pair : (d : Dictionary) (direction : Direction) (left right : List Symbol)
    (w : List EntryLabel) → Derives d direction (Pair left right ∷ []) w →
    w ≡ facing direction (paired left right)
one_pair d direction left right w (pair nothing e) =
    e ∙ append-nil (facing direction (paired left right))

pub pair_draft : (d : Dictionary) (direction : Direction) (left right : List Symbol) (made : Sketch)
    → IsDraftOf (λ w. w ≡ facing direction (paired left right)) made →
    IsDraftOf (Derives d direction (Pair left right ∷ [])) made
pair_draft d direction left right made h =
    same_draft (λ w. w ≡ facing direction (paired left right))
    (Derives d direction (Pair left right ∷ [])) made h
    (λ w. (
      (λ e. pair nothing (e ∙ sym (append-nil (facing direction (paired left right))))),
      (λ k. one_pair d direction left right w k),
    ))

pub one_paradigm : (d : Dictionary) (direction : Direction) (n : ℕ) (w : List EntryLabel) →
    Derives d direction (Paradigm n ∷ []) w → SpellsAt d direction n w
one_paradigm d direction n w (paradigm {own = own} pardef entry at listed kept derived nothing e) =
    record {
      pardef = pardef;
      at = at_get d.pardefs n pardef at;
      spells =
          record {
            item = entry;
            listed = listed;
            holds =
                record {
                  kept = kept;
                  derived =
                      subst (λ (z : List EntryLabel). Derives d direction entry.parts z)
                      (sym (e ∙ append-nil own)) derived;
                };
          };
    }

pub paradigm_draft : (d : Dictionary) (direction : Direction) (n : ℕ)
    (drafts : List (Option Sketch)) (draft made : Sketch) → AreDrafts d direction drafts →
    slice_get drafts n ≡ Some (Some draft) →
    made ≡ draft → IsDraftOf (Derives d direction (Paradigm n ∷ [])) made
paradigm_draft d direction n drafts draft made are at same =
    subst (λ (x : Sketch). IsDraftOf (Derives d direction (Paradigm n ∷ [])) x) (sym same)
    (same_draft (SpellsAt d direction n) (Derives d direction (Paradigm n ∷ [])) draft
    (are.each n draft at)
    (λ w. (
      (λ s. paradigm s.pardef s.spells.item (get_at d.pardefs n s.pardef s.at) s.spells.listed
          s.spells.holds.kept s.spells.holds.derived nothing (sym (append-nil w))),
      (λ k. one_paradigm d direction n w k),
    )))

-- parts, and then others

pub derives_cut : (d : Dictionary) (direction : Direction) (a b : List EntryPart)
    (w : List EntryLabel) → Derives d direction (a ++ b) w →
    IsCut (Derives d direction a) (Derives d direction b) w
derives_cut d direction [] b w k =
    record { front = []; back = w; whole = refl; first = nothing; second = k }
derives_cut d direction (Identity word ∷ a) b w (identity {labels = labels} k e) =
    let c : IsCut (Derives d direction a) (Derives d direction b) labels =
    derives_cut d direction a b labels k in
    let own : List EntryLabel = facing direction (paired word word) in
    record {
      front = own ++ c.front;
      back = c.back;
      whole = e ∙ ap (λ z. own ++ z) c.whole
          ∙ sym (append_assoc own c.front c.back);
      first = identity c.first refl;
      second = c.second;
    }
derives_cut d direction (Pair left right ∷ a) b w (pair {labels = labels} k e) =
    let c : IsCut (Derives d direction a) (Derives d direction b) labels =
    derives_cut d direction a b labels k in
    let own : List EntryLabel = facing direction (paired left right) in
    record {
      front = own ++ c.front;
      back = c.back;
      whole = e ∙ ap (λ z. own ++ z) c.whole
          ∙ sym (append_assoc own c.front c.back);
      first = pair c.first refl;
      second = c.second;
    }
derives_cut d direction (Expression f text ∷ a) b w (expression {labels = labels} string l k e) =
    let c : IsCut (Derives d direction a) (Derives d direction b) labels =
    derives_cut d direction a b labels k in
    let own : List EntryLabel = facing direction (paired string string) in
    record {
      front = own ++ c.front;
      back = c.back;
      whole = e ∙ ap (λ z. own ++ z) c.whole
          ∙ sym (append_assoc own c.front c.back);
      first = expression string l c.first refl;
      second = c.second;
    }
derives_cut d direction (Paradigm n ∷ a) b w
    (paradigm {own = own} {labels = labels} pardef entry at listed kept derived k e) =
    let c : IsCut (Derives d direction a) (Derives d direction b) labels =
    derives_cut d direction a b labels k in
    record {
      front = own ++ c.front;
      back = c.back;
      whole = e ∙ ap (λ z. own ++ z) c.whole
          ∙ sym (append_assoc own c.front c.back);
      first =
          paradigm pardef entry at listed kept derived c.first refl;
      second = c.second;
    }

pub derives_joined : (d : Dictionary) (direction : Direction) (a b : List EntryPart)
    (front back : List EntryLabel) → Derives d direction a front → Derives d direction b back →
    Derives d direction (a ++ b) (front ++ back)
derives_joined d direction [] b front back nothing k = k
derives_joined d direction (Identity word ∷ a) b front back (identity {labels = labels} h e) k =
    identity (derives_joined d direction a b labels back h k)
    (ap (λ z. z ++ back) e ∙ append_assoc (facing direction (paired word word)) labels back)
derives_joined d direction (Pair left right ∷ a) b front back (pair {labels = labels} h e) k =
    pair (derives_joined d direction a b labels back h k)
    (ap (λ z. z ++ back) e ∙ append_assoc (facing direction (paired left right)) labels back)
derives_joined d direction (Expression f text ∷ a) b front back
    (expression {labels = labels} string l h e) k =
    expression string l (derives_joined d direction a b labels back h k)
    (ap (λ z. z ++ back) e ∙ append_assoc (facing direction (paired string string)) labels back)
derives_joined d direction (Paradigm n ∷ a) b front back
    (paradigm {own = own} {labels = labels} pardef entry at listed kept derived h e) k =
    paradigm pardef entry at listed kept derived (derives_joined d direction a b labels back h k)
    (ap (λ z. z ++ back) e ∙ append_assoc own labels back)

pub none_derived : (d : Dictionary) (direction : Direction) (w : List EntryLabel) →
    Derives d direction [] w → w ≡ []
none_derived d direction w nothing = refl

pub parts_none : (d : Dictionary) (direction : Direction) (made : Sketch) →
    ((w : List Label) → Accepts made w ↔ (w ≡ [])) → IsDraftOf (Derives d direction []) made
parts_none d direction made h =
    same_draft (λ w. w ≡ []) (Derives d direction []) made (none_draft made h)
    (λ w. (
      (λ e. subst (λ (z : List EntryLabel). Derives d direction [] z) (sym e) nothing),
      (λ k. none_derived d direction w k),
    ))

pub parts_more : (d : Dictionary) (direction : Direction) (a b made : Sketch)
    (parts : List EntryPart) (part p : EntryPart) (i : ℕ) → i < length parts →
    part ≡ get_or parts i p → IsDraftOf (Derives d direction (take i parts)) a
    → IsDraftOf (Derives d direction (part ∷ [])) b →
    ((w : List Label) → Accepts made w ↔ IsJoined a b w) →
    IsDraftOf (Derives d direction (take (i + 1) parts)) made
parts_more d direction a b made parts part p i lt is ha hb hm =
    let e : take (i + 1) parts ≡ take i parts ++ part ∷ [] =
    take_more parts i p lt ∙ ap (λ z. take i parts ++ z ∷ []) (sym is) in
    subst (λ (zs : List EntryPart). IsDraftOf (Derives d direction zs) made) (sym e)
    (same_draft (IsCut (Derives d direction (take i parts)) (Derives d direction (part ∷ [])))
    (Derives d direction (take i parts ++ part ∷ [])) made
    (joined_draft (Derives d direction (take i parts)) (Derives d direction (part ∷ [])) a b
    made ha hb hm)
    (λ w. (
      (λ c. subst (λ (z : List EntryLabel). Derives d direction (take i parts ++ part ∷ []) z)
          (sym c.whole) (derives_joined d direction (take i parts) (part ∷ []) c.front c.back
          c.first c.second)),
      (λ k. derives_cut d direction (take i parts) (part ∷ []) w k),
    )))

-- paradigms

pub snoc_get : {X : Type 0} (xs : List X) (x y : X) (k : ℕ) → slice_get (xs ++ x ∷ []) k ≡ Some y →
    ((k < length xs) × (slice_get xs k ≡ Some y)) ⊎ ((k ≡ length xs) × (x ≡ y))
snoc_get [] x y zero h = inr (refl, cc)
snoc_get [] x y (suc k) h = cc
snoc_get (z ∷ xs) x y zero h = inl (omega arith, h)
snoc_get (z ∷ xs) x y (suc k) h =
    elim (snoc_get xs x y k h) [
      | inl (a, b) ↦ inl (omega arith, b)
      | inr (a, b) ↦
          inr (omega arith, b)
    ]

pub drafts_more : (d : Dictionary) (direction : Direction) (drafts : List (Option Sketch))
    (draft : Option Sketch) (pardef : Pardef) (i : ℕ) → i ≡ length drafts →
    slice_get d.pardefs i ≡ Some pardef → AreDrafts d direction drafts
    → ((made : Sketch) → draft ≡ Some made →
    IsDraftOf (Any (Spells d direction) pardef.entries) made) →
    AreDrafts d direction (drafts ++ draft ∷ [])
drafts_more d direction drafts draft pardef i n is h made = record {
  each = λ k x at. elim (snoc_get drafts draft (Some x) k at) [
    | inl (a, b) ↦ h.each k x b
    | inr (a, b) ↦
        let at' : slice_get d.pardefs k ≡ Some pardef =
        ap (slice_get d.pardefs) (let q : k ≡ i = omega arith in q) ∙ is in
        same_draft (Any (Spells d direction) pardef.entries) (SpellsAt d direction k) x
        (made x b) (λ w. (
          (λ s. record { pardef = pardef; at = at'; spells = s }),
          (λ s. let there : Some s.pardef ≡ Some pardef = sym s.at ∙ at' in
              let same : s.pardef ≡ pardef = cc in
              subst (λ (q : Pardef). Any (Spells d direction) q.entries w) same s.spells),
        ))
  ];
}

-- what is sound

pub sound_at : (n : ℕ) (pardefs : List Pardef) (i m : ℕ) (pardef p : Pardef) → i < length pardefs →
    m ≡ n + i → pardef ≡ get_or pardefs i p → IsTrue (are_sound_pardefs n pardefs) →
    IsTrue (list_all (is_sound_entry m) pardef.entries)
sound_at n [] i m pardef p h k e all = absurd (omega arith)
sound_at n (y ∷ ys) zero m pardef p h k e all =
    let same : m ≡ n = omega arith in
    subst (λ (q : Pardef). IsTrue (list_all (is_sound_entry m) q.entries)) (sym e)
    (subst (λ (z : ℕ). IsTrue (list_all (is_sound_entry z) y.entries)) (sym same)
    ((and_parts (list_all (is_sound_entry n) y.entries) (are_sound_pardefs (n + 1) ys) all).0))
sound_at n (y ∷ ys) (suc i) m pardef p h k e all =
    sound_at (n + 1) ys i m pardef p (omega arith) (omega arith) e
    ((and_parts (list_all (is_sound_entry n) y.entries) (are_sound_pardefs (n + 1) ys) all).1)
