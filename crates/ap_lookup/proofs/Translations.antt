-- The walk over a word that is translated.
use Rattle.std.specs.Prelude.{◌≡◌, ℕ, ◌+◌, ◌-◌, ◌<◌, ◌≤◌, nat_lt, nat_le, Bool, true, false, not, List, [], ◌∷◌, ◌++◌, length, take, drop, refl}
use Rattle.std.proofs.Common.{arith, ap, sym, subst, ◌∙◌, inl, get_or, length-drop}
use Rattle.std.proofs.lemmas.Bool.{false_from_ne_true, and_parts}
use Rattle.std.proofs.lemmas.Bool.Decides.{nat_tests}
use Rattle.std.proofs.lemmas.List.{take_more, take-take, take-append-le, length-take, take_all}
use Rattle.ap_symbol.specs.Kinds.{is_marked}
use Rattle.ap_symbol.specs.declared.symbol.Symbol.{Symbol}
use Rattle.ap_fst.specs.Sections.{Parts}
use Rattle.ap_live.specs.Found.{has_words}
use Rattle.ap_live.specs.Greatest.{greatest}
use Rattle.ap_live.specs.Lexicon.{Lexicon, IsCoherent, viable_in}
use Rattle.ap_live.specs.Readings.{any_words, parted_size}
use Rattle.ap_live.specs.SectionLives.{AreLive}
use Rattle.ap_live.specs.declared.live_sections.LiveSections.{LiveSections}
use Rattle.ap_live.proofs.AnyWords.{any_viable, viable_front}
use Rattle.ap_live.proofs.Greatest.{greatest_is, greatest_cut}
use Rattle.ap_lookup.specs.Matching.{is_match}
use Rattle.ap_lookup.specs.Translation.{Translated, forms_of, lemma_length, is_prefix, prefix, taken, untaken, translated_at, translation}

pub match_short : (lexicon : Lexicon) (least : ℕ) (word : List Symbol) (m : ℕ) → m < least →
    is_match lexicon least word m ≡ false
match_short lexicon least word m lt = let t : nat_le least m ≡ false =
    grind (arith, nat_tests) in rw t refl

pub match_reads : (lexicon : Lexicon) (least : ℕ) (word : List Symbol) (m : ℕ) (b : Bool) →
    least ≤ m → has_words (any_words lexicon (take m word)) ≡ b → is_match lexicon least word m ≡ b
match_reads lexicon least word m b le e = let t : nat_le least m ≡ true =
    grind (arith, nat_tests) in rw t e

pub none_below : (lexicon : Lexicon) (least : ℕ) (word : List Symbol) (n : ℕ) → n < least →
    greatest (is_match lexicon least word) n ≡ 0
none_below lexicon least word n lt =
    greatest_is (is_match lexicon least word) n 0 (omega arith) (inl refl)
    (λ m more le. match_short lexicon least word m (omega (arith, lt, le)))

pub taken_again : {X : Type 0} (m n : ℕ) (xs : List X) → m ≤ n → take m (take n xs) ≡ take m xs
taken_again m n xs le = take-take m n xs le

-- past a dead end nothing is viable
pub dead_past : (lexicon : Lexicon) (word : List Symbol) (n : ℕ) → IsCoherent lexicon →
    lexicon.viable (take (n + 1) word) ≡ false → (m : ℕ) → n < m → m ≤ length word →
    lexicon.viable (take m word) ≡ false
dead_past lexicon word n whole dead m lt le =
    false_from_ne_true _ (λ t. let k =
    viable_front lexicon word (n + 1) m whole (omega (arith, lt)) t in
    absurd (let no : true ≡ false = sym k ∙ dead in cc))

-- where nothing longer is viable, the longest prefix is found below
pub prefix_within : (lexicon : Lexicon) (word : List Symbol) (n : ℕ) → IsCoherent lexicon →
    n ≤ length word → ((m : ℕ) → n < m → m ≤ length word → lexicon.viable (take m word) ≡ false) →
    prefix lexicon word ≡ greatest (is_prefix lexicon word) n
prefix_within lexicon word n whole fits ends =
    greatest_cut (is_prefix lexicon word) (length word) n fits
    (λ m more le. false_from_ne_true _ (λ t.
    let reads = (and_parts (nat_le (lemma_length word) m)
    (has_words (any_words lexicon (take m word))) t).1 in
    absurd (let no : true ≡ false = sym (any_viable lexicon (take m word) whole reads)
    ∙ ends m more le in cc)))

pub true_not : (b : Bool) → true ≡ not b → b ≡ false
true_not true h = cc
true_not false h = refl

pub false_not : (b : Bool) → false ≡ not b → b ≡ true
false_not true h = refl
false_not false h = cc

-- one symbol more, which goes on or not
module _ (p : Parts) (sensitive : Bool) (word : List Symbol) (n : ℕ) (x : Symbol)
    (more : n < length word) (at : x ≡ get_or word n x) where
  next_is : take (n + 1) word ≡ take n word ++ x ∷ []
  next_is = take_more word n x more ∙ ap (λ y. take n word ++ y ∷ []) (sym at)

  pub live_more : (lives : LiveSections) → AreLive p sensitive (take n word ++ x ∷ []) lives →
      AreLive p sensitive (take (n + 1) word) lives
  live_more lives live = subst (λ (symbols : List Symbol). AreLive p sensitive symbols lives)
      (sym next_is) live

  pub dead_next : viable_in p sensitive (take n word ++ x ∷ []) ≡ false →
      viable_in p sensitive (take (n + 1) word) ≡ false
  dead_next e = ap (viable_in p sensitive) next_is ∙ e

  pub so_many : length (take n word) ≡ n
  so_many = let t = length-take n word in omega (arith, t, more)

-- back before one symbol
pub live_back : (p : Parts) (sensitive : Bool) (symbols : List Symbol) (x : Symbol) (n : ℕ)
    (lives : LiveSections) → length symbols ≡ n →
    AreLive p sensitive (take n (symbols ++ x ∷ [])) lives → AreLive p sensitive symbols lives
live_back p sensitive symbols x n lives is live =
    let e : take n (symbols ++ x ∷ []) ≡ symbols =
    take-append-le n symbols (x ∷ []) (omega (arith, is))
    ∙ take_all n symbols (omega (arith, is)) in
    subst (λ (z : List Symbol). AreLive p sensitive z lives) e live

pub slice_rest : (word : List Symbol) (i : ℕ) → take (length word - i) (drop i word) ≡ drop i word
slice_rest word i = let l = length-drop i word in
    take_all (length word - i) (drop i word) (omega (arith, l))

module _ (lexicon : Lexicon) (sensitive : Bool) (word : List Symbol) where
  pub translation_marked : is_marked word ≡ true → untaken word ≡ translation lexicon sensitive word
  unfolding translation
  translation_marked m = rw m refl

  pub translation_none : is_marked word ≡ false → prefix lexicon word ≡ 0 →
      untaken word ≡ translation lexicon sensitive word
  unfolding translation
  translation_none m e = rw (m, e) refl

  pub translation_at : (n : ℕ) → is_marked word ≡ false → prefix lexicon word ≡ n →
      translated_at lexicon sensitive word n ≡ translation lexicon sensitive word
  unfolding translation
  translation_at n m e = rw (m, e) refl

  pub at_none : (n : ℕ) → n ≡ 0 → untaken word ≡ translated_at lexicon sensitive word n
  at_none n e = rw e refl

  pub at_some : (n : ℕ) → 0 < n →
      taken lexicon sensitive word n ≡ translated_at lexicon sensitive word n
  at_some n some = let t : nat_lt 0 n ≡ true = grind (arith, nat_tests) in rw t refl

  pub translation_found : (n : ℕ) → is_marked word ≡ false → prefix lexicon word ≡ n → 0 < n →
      taken lexicon sensitive word n ≡ translation lexicon sensitive word
  translation_found n m e some = at_some n some ∙ translation_at n m e

  -- heads that are too long, at the prefix that is taken
  pub heads_long : (n size : ℕ) → 0 < n →
      translated_at lexicon sensitive word n ≡ translation lexicon sensitive word →
      size < parted_size (forms_of lexicon sensitive word (take n word)) →
      size < parted_size (translation lexicon sensitive word).heads
  heads_long n size some e h =
      subst (λ (z : List (List Symbol)). size < parted_size z)
      (ap (λ (t : Translated). t.heads) (at_some n some ∙ e)) h
