-- What was written to a whole word or to its lemma is read there.
use Rattle.std.proofs.Common.{◌≡◌, ◌⊎◌, inl, inr, ℕ, suc, ◌+◌, Bool, true, false, cond, List, [], ◌∷◌, ◌++◌, length, take, drop, append-nil, refl, sym, ap, ◌∙◌, subst, arith, Option}
use Rattle.std.specs.List.{list_all, prefix_len}
use Rattle.std.proofs.lemmas.Bool.{false≢true, and_parts}
use Rattle.std.proofs.lemmas.List.{take_all, take_at, drop_all}
use Rattle.ap_symbol.specs.declared.symbol.Symbol.{Symbol}
use Rattle.ap_rules.specs.declared.attribute.AttrItem.{AttrItem}
use Rattle.ap_rules.specs.declared.value.Clip.{Clip}
use Rattle.ap_rules.specs.declared.value.ClipPart.{ClipPart}
use Rattle.ap_rules.specs.declared.value.ClipPart.TheVariants.{Lem, Whole}
use Rattle.ap_rules.specs.declared.value.Side.{Side}
use Rattle.ap_rules.specs.declared.value.Side.TheVariants.{Source, Target}
use Rattle.ap_exec.specs.Parts.{is_lemma, span_of, cut, side_in, word_on, word_of, part_at}
use Rattle.ap_exec.specs.Units.{Shown, Sight}
use Rattle.ap_exec.specs.WordLaws.{IsOnWhole, IsWrittenAt}
use Rattle.ap_exec.specs.Writing.{spliced, written_at}

-- a part of a word is read
abbrev pub reread : List (List AttrItem) → ClipPart → List Symbol → List Symbol
reread attributes part word = cut (span_of attributes part word) word

-- a word with its part written over
abbrev pub rewritten : List (List AttrItem) → ClipPart → List Symbol → List Symbol → List Symbol
rewritten attributes part value word = spliced (span_of attributes part word) value word

whole_word : (attributes : List (List AttrItem)) (value word : List Symbol) →
    reread attributes Whole (rewritten attributes Whole value word) ≡ value
whole_word attributes value word =
    let made = rewritten attributes Whole value word in
    take_all (length made) made (omega arith)
    ∙ ap (λ (rest : List Symbol). value ++ rest) (drop_all (0 + length word) word (omega arith))
    ∙ append-nil value

-- behind the symbols that pass, one that doesn't stands, or none
pub none_passes : (test : Symbol → Bool) (word : List Symbol) →
    prefix_len test (drop (prefix_len test word) word) ≡ 0
none_passes test [] = refl
none_passes test (x ∷ word) = by (test x) refl (none_passes test word)
  where
    by : (b : Bool) → test x ≡ b → prefix_len test (drop (prefix_len test word) word) ≡ 0 →
        prefix_len test (drop (cond b (1 + prefix_len test word) 0) (x ∷ word)) ≡ 0
    by true e h = let next : 1 + prefix_len test word ≡ suc (prefix_len test word) = omega arith in
        ap (λ (k : ℕ). prefix_len test (drop k (x ∷ word))) next ∙ h
    by false e h = ap (λ (b : Bool). cond b (1 + prefix_len test word) 0) e

pub all_pass : (test : Symbol → Bool) (value rest : List Symbol) → list_all test value ≡ true →
    prefix_len test rest ≡ 0 → prefix_len test (value ++ rest) ≡ length value
all_pass test [] rest all none = none
all_pass test (x ∷ value) rest all none =
    let both = and_parts (test x) (list_all test value) all in
    let next = all_pass test value rest both.1 none in
    ap (λ (b : Bool). cond b (1 + prefix_len test (value ++ rest)) 0) both.0
    ∙ omega (arith, next)

lemma_word : (attributes : List (List AttrItem)) (value word : List Symbol) →
    list_all is_lemma value ≡ true →
    reread attributes Lem (rewritten attributes Lem value word) ≡ value
lemma_word attributes value word all =
    let rest = drop (0 + prefix_len is_lemma word) word in
    let none : prefix_len is_lemma rest ≡ 0 =
    ap (λ (n : ℕ). prefix_len is_lemma (drop n word)) (omega arith) ∙ none_passes is_lemma word in
    ap (λ (n : ℕ). take n (value ++ rest)) (all_pass is_lemma value rest all none)
    ∙ take_at value rest (length value) refl

-- on a whole word of a unit
abbrev pub written_by : List (List AttrItem) → ClipPart → Side → Bool → List Symbol → Shown → Shown
written_by attributes part side queue value unit =
    written_at part side (span_of attributes part (word_on side queue unit)) value unit

abbrev pub Reads : List (List AttrItem) → Side → Bool → List Symbol → Shown → ClipPart → Type 0
Reads attributes side queue value unit part =
    reread attributes part (word_on side queue (written_by attributes part side queue value unit))
    ≡ value

pub no_side : ◌≡◌ {A = Side} Target Source → ⊥
no_side e = let no : ⊥ = cc in no

whole_by : (attributes : List (List AttrItem)) (side : Side) (queue : Bool) (value : List Symbol)
    (unit : Shown) → (side ≡ Source) ⊎ (queue ≡ true) →
    Reads attributes side queue value unit Whole
whole_by attributes Source queue value unit on = whole_word attributes value unit.source
whole_by attributes Target true value unit on = whole_word attributes value unit.target
whole_by attributes Target false value unit (inl e) = absurd (no_side e)
whole_by attributes Target false value unit (inr e) = absurd (false≢true e)

lemma_by : (attributes : List (List AttrItem)) (side : Side) (queue : Bool) (value : List Symbol)
    (unit : Shown) → (side ≡ Source) ⊎ (queue ≡ true) → list_all is_lemma value ≡ true →
    Reads attributes side queue value unit Lem
lemma_by attributes Source queue value unit on all = lemma_word attributes value unit.source all
lemma_by attributes Target true value unit on all = lemma_word attributes value unit.target all
lemma_by attributes Target false value unit (inl e) all = absurd (no_side e)
lemma_by attributes Target false value unit (inr e) all = absurd (false≢true e)

-- what is read at the position
pub read_at : (sight : Sight) (c : Clip) (value : List Symbol) → (w : IsWrittenAt sight c value) →
    Reads sight.attributes (side_in sight.form c.side) c.queue value w.before c.part →
    part_at sight c.pos c.part c.side c.queue ≡ value
read_at sight c value w h =
    ap (λ (o : Option Shown). reread sight.attributes c.part
    (word_of (side_in sight.form c.side) c.queue o)) w.stands ∙ h

pub whole_is_read : (sight : Sight) (c : Clip) (value : List Symbol) → c.part ≡ Whole →
    IsOnWhole sight.form c → IsWrittenAt sight c value →
    part_at sight c.pos c.part c.side c.queue ≡ value
whole_is_read sight c value e on w =
    read_at sight c value w
    (subst (Reads sight.attributes (side_in sight.form c.side) c.queue value w.before) (sym e)
    (whole_by sight.attributes (side_in sight.form c.side) c.queue value w.before on))

pub lemma_is_read : (sight : Sight) (c : Clip) (value : List Symbol) → c.part ≡ Lem →
    IsOnWhole sight.form c → list_all is_lemma value ≡ true → IsWrittenAt sight c value →
    part_at sight c.pos c.part c.side c.queue ≡ value
lemma_is_read sight c value e on all w =
    read_at sight c value w
    (subst (Reads sight.attributes (side_in sight.form c.side) c.queue value w.before) (sym e)
    (lemma_by sight.attributes (side_in sight.form c.side) c.queue value w.before on all))
