-- A category takes a word, as a relation and as a test.
use Rattle.std.proofs.Common.{◌≡◌, ℕ, zero, suc, ◌<◌, Bool, true, false, cond, List, [], ◌∷◌, ◌++◌, length, take, drop, Option, Some, None, refl, ap, sym, ◌∙◌, arith, inl, inr}
use Rattle.std.specs.List.{list_all, list_any}
use Rattle.std.proofs.lemmas.Bool.{false≢true, and_parts, and_from, or_cases, or_left, or_right}
use Rattle.std.proofs.lemmas.List.{take_at, drop_at}
use Rattle.ap_symbol.specs.Kinds.{is_tag, is_marked}
use Rattle.ap_symbol.specs.declared.symbol.Symbol.{Symbol}
use Rattle.ap_symbol.specs.declared.symbol.Symbol.TheVariants.{Star}
use Rattle.ap_symbol.specs.Fitting.{fits_lem}
use Rattle.ap_symbol.specs.Lists.{IsIn}
use Rattle.ap_symbol.proofs.FittingSymbols.{fits_is, fits_itself}
use Rattle.ap_rules.specs.declared.rules.CatItem.{CatItem}
use Rattle.ap_rules.specs.declared.rules.DefCat.{DefCat}
use Rattle.ap_rules.specs.declared.rules.Form.{Form}
use Rattle.ap_rules.specs.declared.rules.Form.TheVariants.{Transfer, Interchunk, Postchunk}
use Rattle.ap_chunk.specs.Categories.{IsDivided, TakeTags, FitsLemma, TakesTagged, ItemTakes, Takes}
use Rattle.ap_chunk.specs.Tests.{first_tag, division, some_later, one_and, is_none, take_tags, fits_lemma, takes_tagged, item_takes, takes_at, takes}
use Rattle.ap_chunk.proofs.Dividing.{none_before, first_behind}

-- one part
same_from : (p x : Symbol) → fits_lem true p x ≡ true → p ≡ x
same_from p x h = elim ((fits_is true p x).0 h) [
  | inl e ↦ e
  | inr k ↦
      absurd (false≢true (sym k.0))
]

-- the tags behind a star, as a list behind taken ones
abbrev Behind : (List Symbol → Type 0) → List Symbol → Type 0
Behind P tags = (taken rest : List Symbol) × (tags ≡ taken ++ rest) × (0 < length taken) × P rest

behind_from : (P : List Symbol → Type 0) (test : List Symbol → Bool) →
    ((rest : List Symbol) → test rest ≡ true → P rest) → (tags : List Symbol) →
    some_later test tags ≡ true → Behind P tags
behind_from P test f [] h = absurd (false≢true h)
behind_from P test f (x ∷ tags) h = elim (or_cases (test tags) (some_later test tags) h) [
  | inl e ↦ (x ∷ [], tags, refl, omega arith, f tags e)
  | inr e ↦ further x tags (behind_from P test f tags e)
]
  where
    further : (x : Symbol) (tags : List Symbol) → Behind P tags → Behind P (x ∷ tags)
    further x tags (taken, rest, e, n, p) = (x ∷ taken, rest, ap (λ l. x ∷ l) e, omega arith, p)

later_behind : (test : List Symbol → Bool) (x : Symbol) (taken rest : List Symbol) →
    test rest ≡ true → some_later test ((x ∷ taken) ++ rest) ≡ true
later_behind test x [] rest h = or_left (test rest) (some_later test rest) h
later_behind test x (y ∷ taken) rest h =
    or_right (test ((y ∷ taken) ++ rest)) (some_later test ((y ∷ taken) ++ rest))
    (later_behind test y taken rest h)

later_from : (test : List Symbol → Bool) (taken rest : List Symbol) → 0 < length taken →
    test rest ≡ true → some_later test (taken ++ rest) ≡ true
later_from test [] rest n h = absurd (omega (arith, n))
later_from test (x ∷ taken) rest n h = later_behind test x taken rest h

abbrev Next : Symbol → (List Symbol → Type 0) → List Symbol → Type 0
Next part P tags = (rest : List Symbol) × (tags ≡ part ∷ rest) × P rest

next_from : (part : Symbol) (P : List Symbol → Type 0) (test : List Symbol → Bool) →
    ((rest : List Symbol) → test rest ≡ true → P rest) → (tags : List Symbol) →
    one_and part test tags ≡ true → Next part P tags
next_from part P test f [] h = absurd (false≢true h)
next_from part P test f (x ∷ tags) h =
    let both = and_parts (fits_lem true part x) (test tags) h in
    (tags, ap (λ s. s ∷ tags) (sym (same_from part x both.0)), f tags both.1)

from_next : (part : Symbol) (test : List Symbol → Bool) (rest : List Symbol) → test rest ≡ true →
    one_and part test (part ∷ rest) ≡ true
from_next part test rest h =
    and_from (fits_lem true part part) (test rest) (fits_itself true part) h

nothing_left : (tags : List Symbol) → is_none tags ≡ true → tags ≡ []
nothing_left [] h = refl
nothing_left (x ∷ tags) h = absurd (false≢true h)

pub to_tags : (parts tags : List Symbol) → take_tags parts tags ≡ true → TakeTags parts tags
to_tags [] tags h = nothing_left tags h
to_tags (Star ∷ parts) tags h =
    behind_from (TakeTags parts) (take_tags parts) (to_tags parts) tags h
to_tags (part ∷ parts) tags h =
    next_from part (TakeTags parts) (take_tags parts) (to_tags parts) tags h

pub from_tags : (parts tags : List Symbol) → TakeTags parts tags → take_tags parts tags ≡ true
from_tags [] tags h = ap is_none h
from_tags (Star ∷ parts) tags t = ap (some_later (take_tags parts)) t.2
    ∙ later_from (take_tags parts) t.0 t.1 t.3 (from_tags parts t.1 t.4)
from_tags (part ∷ parts) tags t = ap (one_and part (take_tags parts)) t.1
    ∙ from_next part (take_tags parts) t.0 (from_tags parts t.0 t.2)

-- an item
to_lemma : (wanted : Option (List Symbol)) (lemma : List Symbol) → fits_lemma wanted lemma ≡ true →
    FitsLemma wanted lemma
to_lemma None lemma h = tt
to_lemma (Some w) lemma h = h

from_lemma : (wanted : Option (List Symbol)) (lemma : List Symbol) → FitsLemma wanted lemma →
    fits_lemma wanted lemma ≡ true
from_lemma None lemma h = refl
from_lemma (Some w) lemma h = h

to_tagged : (item : CatItem) (lemma tags : List Symbol) → takes_tagged item lemma tags ≡ true →
    TakesTagged item lemma tags
to_tagged item lemma tags h =
    let both = and_parts (fits_lemma item.lemma lemma) (take_tags item.tags tags) h in
    record { fit = to_lemma item.lemma lemma both.0; taken = to_tags item.tags tags both.1 }

from_tagged : (item : CatItem) (lemma tags : List Symbol) → TakesTagged item lemma tags →
    takes_tagged item lemma tags ≡ true
from_tagged item lemma tags t =
    and_from (fits_lemma item.lemma lemma) (take_tags item.tags tags)
    (from_lemma item.lemma lemma t.fit) (from_tags item.tags tags t.taken)

to_item : (form : Form) (item : CatItem) (lemma tags : List Symbol) →
    item_takes form item lemma tags ≡ true → ItemTakes form item lemma tags
to_item Transfer item lemma tags h = to_tagged item lemma tags h
to_item Interchunk item lemma tags h = to_tagged item lemma tags h
to_item Postchunk item lemma tags h = h

from_item : (form : Form) (item : CatItem) (lemma tags : List Symbol) →
    ItemTakes form item lemma tags → item_takes form item lemma tags ≡ true
from_item Transfer item lemma tags h = from_tagged item lemma tags h
from_item Interchunk item lemma tags h = from_tagged item lemma tags h
from_item Postchunk item lemma tags h = h

-- one of the items
some_item : (test : CatItem → Bool) (items : List CatItem) → list_any test items ≡ true →
    (item : CatItem) × (IsIn item items) × (test item ≡ true)
some_item test [] h = absurd (false≢true h)
some_item test (i ∷ items) h = elim (or_cases (test i) (list_any test items) h) [
  | inl e ↦ (i, inl refl, e)
  | inr e ↦ further i items (some_item test items e)
]
  where
    further : (i : CatItem) (items : List CatItem) → (item : CatItem) × (IsIn item items)
        × (test item ≡ true) → (item : CatItem) × (IsIn item (i ∷ items)) × (test item ≡ true)
    further i items (item, k, e) = (item, inr k, e)

from_some : (test : CatItem → Bool) (items : List CatItem) (item : CatItem) → IsIn item items →
    test item ≡ true → list_any test items ≡ true
from_some test [] item k h = absurd k
from_some test (i ∷ items) item (inl e) h =
    or_left (test i) (list_any test items) (ap test (sym e) ∙ h)
from_some test (i ∷ items) item (inr k) h =
    or_right (test i) (list_any test items) (from_some test items item k h)

-- the word
parted : (m a : Bool) (n at : ℕ) → cond m None (cond a (Some n) None) ≡ Some at →
    (m ≡ false) × (a ≡ true) × (n ≡ at)
parted true a n at e = cc
parted false true n at e = (refl, refl, cc)
parted false false n at e = cc

take_drop : (n : ℕ) (word : List Symbol) → word ≡ take n word ++ drop n word
take_drop zero word = refl
take_drop (suc n) [] = refl
take_drop (suc n) (x ∷ word) = ap (λ l. x ∷ l) (take_drop n word)

to_at : (form : Form) (category : DefCat) (word : List Symbol) (o : Option ℕ) → division word ≡ o →
    takes_at form category word o ≡ true → Takes form category word
to_at form category word None e h = absurd (false≢true h)
to_at form category word (Some at) e h =
    let p = parted (is_marked word) (list_all is_tag (drop (first_tag word) word))
    (first_tag word) at e in
    let k = some_item (λ item. item_takes form item (take at word) (drop at word))
    category.items h in
    record {
      unmarked = p.0;
      lemma = take at word;
      tags = drop at word;
      divided = record {
        whole = take_drop at word;
        before = sym (ap (λ n. list_any is_tag (take n word)) p.2) ∙ none_before word;
        behind = sym (ap (λ n. list_all is_tag (drop n word)) p.2) ∙ p.1;
      };
      item = k.0;
      «in» = k.1;
      taken = to_item form k.0 (take at word) (drop at word) k.2;
    }

join : (m a : Bool) (n : ℕ) → m ≡ false → a ≡ true → cond m None (cond a (Some n) None) ≡ Some n
join true a n e f = absurd (false≢true (sym e))
join false true n e f = refl
join false false n e f = absurd (false≢true f)

divided_at : (word lemma tags : List Symbol) → is_marked word ≡ false → IsDivided word lemma tags →
    division word ≡ Some (length lemma)
divided_at word lemma tags m d =
    let e : first_tag word ≡ length lemma =
    ap first_tag d.whole ∙ first_behind lemma tags d.before d.behind in
    let all : list_all is_tag (drop (first_tag word) word) ≡ true =
    ap (λ n. list_all is_tag (drop n word)) e
    ∙ ap (λ l. list_all is_tag (drop (length lemma) l)) d.whole
    ∙ ap (list_all is_tag) (drop_at lemma tags (length lemma) refl) ∙ d.behind in
    join (is_marked word) (list_all is_tag (drop (first_tag word) word)) (first_tag word) m
    all ∙ ap Some e

from_at : (form : Form) (category : DefCat) (word : List Symbol) → Takes form category word →
    takes form category word ≡ true
from_at form category word t =
    let lemma : take (length t.lemma) word ≡ t.lemma = ap (take (length t.lemma)) t.divided.whole
    ∙ take_at t.lemma t.tags (length t.lemma) refl in
    let tags : drop (length t.lemma) word ≡ t.tags = ap (drop (length t.lemma)) t.divided.whole
    ∙ drop_at t.lemma t.tags (length t.lemma) refl in
    ap (takes_at form category word) (divided_at word t.lemma t.tags t.unmarked t.divided)
    ∙ from_some (λ item. item_takes form item (take (length t.lemma) word)
    (drop (length t.lemma) word)) category.items t.item t.«in»
    (ap (λ l. item_takes form t.item l (drop (length t.lemma) word)) lemma
    ∙ ap (item_takes form t.item t.lemma) tags ∙ from_item form t.item t.lemma t.tags t.taken)

pub takes_exactly : (form : Form) (category : DefCat) (word : List Symbol) →
    (takes form category word ≡ true → Takes form category word)
    × (Takes form category word → takes form category word ≡ true)
takes_exactly form category word =
    (to_at form category word (division word) refl, from_at form category word)
