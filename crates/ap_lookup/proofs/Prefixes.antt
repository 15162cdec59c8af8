-- The law of translation: the prefix that is taken is the longest.
use Rattle.std.specs.Prelude.{◌≡◌, ◌⊎◌, ◌↔◌, ℕ, ◌<◌, ◌≤◌, nat_le, Bool, true, false, List, [], ◌∷◌, ◌++◌, length, take, map, refl}
use Rattle.std.specs.List.Sorted.{IsStrictlySortedBy}
use Rattle.std.proofs.Common.{arith, ap, sym, subst, ◌∙◌, inl, inr}
use Rattle.std.proofs.lemmas.Bool.{false_from_ne_true, and_parts, and_from, cases_lt}
use Rattle.std.proofs.lemmas.Bool.Decides.{nat_tests}
use Rattle.ap_symbol.specs.Kinds.{is_marked}
use Rattle.ap_symbol.specs.Lists.{IsIn}
use Rattle.ap_symbol.specs.Rendering.{word_cmp}
use Rattle.ap_symbol.specs.declared.symbol.Symbol.{Symbol}
use Rattle.ap_fst.specs.declared.compiled.Kind2.{Kind2}
use Rattle.ap_fst.specs.declared.compiled.Kind2.TheVariants.{Standard, Inconditional, Postblank, Preblank}
use Rattle.ap_live.specs.Found.{has_words}
use Rattle.ap_live.specs.Lexicon.{Lexicon}
use Rattle.ap_live.specs.Readings.{any_words, carried}
use Rattle.ap_live.proofs.AnyWords.{some_append}
use Rattle.ap_live.proofs.Greatest.{greatest_is, greatest_within, greatest_passes, greatest_reaches}
use Rattle.ap_live.proofs.WordOrder.{some_word, in_order_sorted, in_order_some}
use Rattle.ap_lookup.specs.Laws.{IsPrefix, IsLongest, HasNone}
use Rattle.ap_lookup.specs.Translation.{lemma_length, lemma, is_prefix, prefix, forms_of, taken, untaken, translation}
use Rattle.ap_lookup.proofs.Translations.{translation_marked, translation_none, translation_found}

-- ---- some word of some kind

either_some : (a b : List (List Symbol)) → (has_words a ≡ true) ⊎ (has_words b ≡ true) →
    has_words (a ++ b) ≡ true
either_some [] b (inl h) = cc
either_some [] b (inr h) = h
either_some (word ∷ a) b h = refl

words_in : (words : List (List Symbol)) (right : List Symbol) → IsIn right words →
    has_words words ≡ true
words_in [] right i = absurd i
words_in (word ∷ words) right i = refl

pub any_some : (lexicon : Lexicon) (symbols right : List Symbol) (kind : Kind2) →
    IsIn right (lexicon.readings kind symbols) → has_words (any_words lexicon symbols) ≡ true
any_some lexicon symbols right Standard i =
    either_some (lexicon.readings Standard symbols) _ (inl (words_in _ right i))
any_some lexicon symbols right Inconditional i =
    either_some (lexicon.readings Standard symbols) _
    (inr (either_some (lexicon.readings Inconditional symbols) _ (inl (words_in _ right i))))
any_some lexicon symbols right Postblank i =
    either_some (lexicon.readings Standard symbols) _
    (inr (either_some (lexicon.readings Inconditional symbols) _
    (inr (either_some (lexicon.readings Postblank symbols) _ (inl (words_in _ right i))))))
any_some lexicon symbols right Preblank i =
    either_some (lexicon.readings Standard symbols) _
    (inr (either_some (lexicon.readings Inconditional symbols) _
    (inr (either_some (lexicon.readings Postblank symbols) _ (inr (words_in _ right i))))))

of_kind : (lexicon : Lexicon) (symbols : List Symbol) (kind : Kind2) →
    has_words (lexicon.readings kind symbols) ≡ true → (kind : Kind2) × (right : List Symbol)
    × IsIn right (lexicon.readings kind symbols)
of_kind lexicon symbols kind h = let s = some_word (lexicon.readings kind symbols) h in
    (kind, s.0, s.1)

pub some_kind : (lexicon : Lexicon) (symbols : List Symbol) → has_words (any_words lexicon symbols)
    ≡ true → (kind : Kind2) × (right : List Symbol) × IsIn right (lexicon.readings kind symbols)
some_kind lexicon symbols h =
    elim (some_append (lexicon.readings Standard symbols) _ h) [
      | inl s ↦ of_kind lexicon symbols Standard s
      | inr r ↦ elim (some_append (lexicon.readings Inconditional symbols) _ r) [
        | inl s ↦ of_kind lexicon symbols Inconditional s
        | inr q ↦ elim (some_append (lexicon.readings Postblank symbols) _ q) [
          | inl s ↦ of_kind lexicon symbols Postblank s
          | inr s ↦ of_kind lexicon symbols Preblank s
        ]
      ]
    ]

-- ---- the test and the fact

at_most : (m n : ℕ) → nat_le m n ≡ true → m ≤ n
at_most m n h = grind (arith, nat_tests)

module _ (lexicon : Lexicon) (word : List Symbol) where
  passes : (n : ℕ) → IsPrefix lexicon word n → is_prefix lexicon word n ≡ true
  passes n p =
      let t : nat_le (lemma_length word) n ≡ true =
      (let w : lemma_length word ≤ n = p.whole in grind (arith, nat_tests)) in
      and_from (nat_le (lemma_length word) n) (has_words (any_words lexicon (take n word))) t
      (any_some lexicon (take n word) p.right p.kind p.read)

  is_one : (n : ℕ) → 0 < n → n ≤ length word → is_prefix lexicon word n ≡ true →
      IsPrefix lexicon word n
  is_one n some within t =
      let both = and_parts (nat_le (lemma_length word) n)
      (has_words (any_words lexicon (take n word))) t in
      let k = some_kind lexicon (take n word) both.1 in
      record {
        some = some;
        within = within;
        whole = at_most (lemma_length word) n both.0;
        kind =
            k.0;
        right = k.1;
        read = k.2;
      }

  none_above : (n : ℕ) → ((m : ℕ) → n < m → IsPrefix lexicon word m → ⊥) → (m : ℕ) → n < m →
      m ≤ length word → is_prefix lexicon word m ≡ false
  none_above n none m more le =
      false_from_ne_true _ (λ t. none m more (is_one m (omega (arith, more)) le t))

  length_of : (n : ℕ) → IsLongest lexicon word n → prefix lexicon word ≡ n
  length_of n p = greatest_is (is_prefix lexicon word) (length word) n p.prefix.within
      (inr (passes n p.prefix)) (none_above n p.none_longer)

  no_length : ((n : ℕ) → IsPrefix lexicon word n → ⊥) → prefix lexicon word ≡ 0
  no_length none = greatest_is (is_prefix lexicon word) (length word) 0 (omega arith) (inl refl)
      (none_above 0 (λ m more p. none m p))

  -- so there is a longest one, or none
  pub found : (n : ℕ) → prefix lexicon word ≡ n → 0 < n → IsLongest lexicon word n
  found n e some =
      let le : n ≤ length word =
      (let w = greatest_within (is_prefix lexicon word) (length word) in omega (arith, w, e)) in
      let t : is_prefix lexicon word n ≡ true =
      elim (greatest_passes (is_prefix lexicon word) (length word)) [
        | inl z ↦ absurd (omega (arith, z, e, some))
        | inr y ↦ ap (is_prefix lexicon word) (sym e) ∙ y
      ] in
      record {
        prefix = is_one n some le t;
        none_longer = λ m more p. let r =
            greatest_reaches (is_prefix lexicon word) (length word) m p.within (passes m p) in
            omega (arith, r, e, more);
      }

  pub nothing : prefix lexicon word ≡ 0 → (n : ℕ) → IsPrefix lexicon word n → ⊥
  nothing e n p = let r = greatest_reaches (is_prefix lexicon word) (length word) n p.within
      (passes n p) in let s = p.some in omega (arith, r, e, s)

  module _ (sensitive : Bool) where
    pub longest : (n : ℕ) → is_marked word ≡ false → IsLongest lexicon word n →
        translation lexicon sensitive word ≡ taken lexicon sensitive word n
    longest n m p = sym (translation_found lexicon sensitive word n m (length_of n p) p.prefix.some)

    none_case : (b : Bool) → is_marked word ≡ b → HasNone lexicon word →
        translation lexicon sensitive word ≡ untaken word
    none_case true m h = sym (translation_marked lexicon sensitive word m)
    none_case false m (inl t) = absurd (let no : true ≡ false = sym t ∙ m in cc)
    none_case false m (inr none) = sym (translation_none lexicon sensitive word m (no_length none))

    pub none : HasNone lexicon word → translation lexicon sensitive word ≡ untaken word
    none h = none_case (is_marked word) refl h

    -- where a prefix is taken there is a head
    some_head : (n : ℕ) → IsPrefix lexicon word n →
        has_words (forms_of lexicon sensitive word (take n word)) ≡ true
    some_head n p =
        let s = some_word (any_words lexicon (take n word))
        (any_some lexicon (take n word) p.right p.kind p.read) in
        let t : has_words (map (carried sensitive (lemma word)) (any_words lexicon (take n word)))
        ≡ true = mapped_some (any_words lexicon (take n word))
        (any_some lexicon (take n word) p.right p.kind p.read) in
        let w = some_word (map (carried sensitive (lemma word)) (any_words lexicon (take n word))) t
        in
        in_order_some (map (carried sensitive (lemma word))
        (any_words lexicon (take n word))) w.0 w.1
      where
        mapped_some : (words : List (List Symbol)) → has_words words ≡ true →
            has_words (map (carried sensitive (lemma word)) words) ≡ true
        mapped_some [] h = h
        mapped_some (w ∷ words) h = refl

    headless : (n : ℕ) → prefix lexicon word ≡ n → is_marked word ≡ false →
        (translation lexicon sensitive word).heads ≡ [] → HasNone lexicon word
    headless n e m h =
        elim (cases_lt 0 n) [
          | inl some ↦
              let p = found n e some in
              let here : forms_of lexicon sensitive word (take n word) ≡ [] =
              ap (λ t. t.heads) (sym (longest n m p)) ∙ h in
              absurd (let no : true ≡ false = sym (some_head n p.prefix) ∙ ap has_words here in cc)
          | inr z ↦ inr (nothing (e ∙ (let k : n ≡ 0 = omega (arith, z) in k)))
        ]

    headless_case : (b : Bool) → is_marked word ≡ b → (translation lexicon sensitive word).heads
        ≡ [] → HasNone lexicon word
    headless_case true m h = inl m
    headless_case false m h = headless (prefix lexicon word) refl m h

    pub no_head : ((translation lexicon sensitive word).heads ≡ []) ↔ HasNone lexicon word
    no_head = (headless_case (is_marked word) refl, λ h. ap (λ t. t.heads) (none h))

    none_sorted : IsStrictlySortedBy word_cmp []
    none_sorted = in_order_sorted []

    order_at : (n : ℕ) → prefix lexicon word ≡ n → (b : Bool) → is_marked word ≡ b →
        IsStrictlySortedBy word_cmp (translation lexicon sensitive word).heads
    order_at n e true m = subst (λ t. IsStrictlySortedBy word_cmp t.heads)
        (translation_marked lexicon sensitive word m) none_sorted
    order_at n e false m =
        elim (cases_lt 0 n) [
          | inl some ↦ subst (λ t. IsStrictlySortedBy word_cmp t.heads)
              (translation_found lexicon sensitive word n m e some)
              (in_order_sorted (map (carried sensitive (lemma word))
              (any_words lexicon (take n word))))
          | inr z ↦ subst (λ t. IsStrictlySortedBy word_cmp t.heads)
              (translation_none lexicon sensitive word m
              (e ∙ (let k : n ≡ 0 = omega (arith, z) in k))) none_sorted
        ]

    pub order : IsStrictlySortedBy word_cmp (translation lexicon sensitive word).heads
    order = order_at (prefix lexicon word) refl (is_marked word) refl
