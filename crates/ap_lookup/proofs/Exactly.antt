-- The words that are looked up by a compiled dictionary are the right words of what its sections
-- relate, and each of these.
use Rattle.std.proofs.Common.{◌≡◌, ◌⊎◌, inl, inr, ℕ, ◌<◌, ◌≤◌, Bool, true, false, List, [], ◌∷◌, map, length, take, refl, sym, ap, subst, ◌∙◌, arith}
use Rattle.std.specs.Prelude.{◌↔◌, nat_le, if◌then◌else◌}
use Rattle.std.specs.List.{AllByRecursion}
use Rattle.std.specs.List.Sorted.{IsStrictlySortedBy}
use Rattle.std.specs.declared.cmp.Ordering.TheVariants.{Less}
use Rattle.std.proofs.lemmas.Bool.{false_from_ne_true, and_parts, and_from, cases_lt}
use Rattle.std.proofs.lemmas.Bool.Decides.{nat_tests}
use Rattle.std.proofs.lemmas.Map.Lookups.{exact_bytes}
use Rattle.ap_symbol.specs.Kinds.{is_marked}
use Rattle.ap_symbol.specs.Lists.{IsIn}
use Rattle.ap_symbol.specs.Rendering.{word_cmp}
use Rattle.ap_symbol.specs.Words.{AreProper}
use Rattle.ap_symbol.specs.declared.symbol.Symbol.{Symbol}
use Rattle.ap_symbol.proofs.RecasedWords.{stays_proper}
use Rattle.ap_fst.specs.Sections.{Parts, IsCompiled}
use Rattle.ap_fst.specs.declared.compiled.Kind2.{Kind2}
use Rattle.ap_fst.proofs.Listing.{in_map, in_mapped, IsImage}
use Rattle.ap_live.specs.Found.{has_words}
use Rattle.ap_live.specs.Lexicon.{Lexicon, Reads, lexicon_of}
use Rattle.ap_live.specs.Readings.{carried, any_words, carried_words}
use Rattle.ap_live.specs.Relations.{relation_of}
use Rattle.ap_live.proofs.AnyWords.{IsAny, any_is, any_of, any_proper, carried_proper}
use Rattle.ap_live.proofs.Coherence.{sections_proper, lexicon_is}
use Rattle.ap_live.proofs.Finding.{OneRendering}
use Rattle.ap_live.proofs.Greatest.{greatest_is}
use Rattle.ap_live.proofs.WordOrder.{in_order_sound, in_order_there, in_order_sorted}
use Rattle.ap_stream.specs.Steps.{Gives}
use Rattle.ap_stream.specs.declared.item.Read.{Read}
use Rattle.ap_lookup.specs.Exactly.{FitsSome, IsRightWord, AreRightWords, IsFront, IsLongestFront, IsTranslation, front_taken, none_taken, IsGreatestMatch, IsLeastWord, MayMatch, WritesMatch}
use Rattle.ap_lookup.specs.Laws.{IsPrefix, IsLongest}
use Rattle.ap_lookup.specs.Lookup.{generated, formed, is_star, starred, unmatched}
use Rattle.ap_lookup.specs.Matching.{is_match, longest_match}
use Rattle.ap_lookup.specs.PostGenerating.{symbols, least, chosen, match_step, matched, post_step}
use Rattle.ap_lookup.specs.Translation.{lemma, forms_of, prefix, taken, untaken, translation}
use Rattle.ap_lookup.specs.declared.generation_writer.Marks.{Marks}
use Rattle.ap_lookup.proofs.PostSteps.{matched_is, step_alarm, alarm_within, match_some}
use Rattle.ap_lookup.proofs.Prefixes.{any_some, some_kind, found, nothing, longest, none}

all_in : (P : List Symbol → Type 0) (ws : List (List Symbol)) (v : List Symbol) →
    AllByRecursion P ws → IsIn v ws → P v
all_in P [] v a i = absurd i
all_in P (w ∷ ws) v a (inl e) = subst P (sym e) a.0
all_in P (w ∷ ws) v a (inr i) = all_in P ws v a.1 i

-- the first of words in order stands before the others
first_least : (w : List Symbol) (ws : List (List Symbol)) (v : List Symbol) →
    IsStrictlySortedBy word_cmp (w ∷ ws) → IsIn v ws → word_cmp w v ≡ Less
unfolding IsStrictlySortedBy
first_least w ws v s i = all_in (λ y. word_cmp w y ≡ Less) ws v s.0 i

module _ (law : OneRendering) (p : Parts) (sensitive : Bool) (compiled : IsCompiled p) where
  -- the readings of a kind
  kind_is : (kind : Kind2) (seen right : List Symbol) →
      IsIn right ((lexicon_of p sensitive).readings kind seen)
      ↔ Reads sensitive (relation_of p) kind seen right
  kind_is kind seen right =
      (lexicon_is law p sensitive compiled (sections_proper p compiled)).exactly kind seen right

  -- with a case carried to them
  abbrev all_of : List Symbol → List Symbol → List (List Symbol)
  all_of base seen = map (carried sensitive base) (any_words (lexicon_of p sensitive) seen)

  proper_of : (base seen w : List Symbol) → IsIn w (all_of base seen) → AreProper w
  proper_of base seen w i =
      carried_proper stays_proper sensitive base (any_words (lexicon_of p sensitive) seen)
      (all_of base seen) refl (λ v j. any_proper p sensitive seen v compiled j) w i

  word_to : (base seen w : List Symbol) → IsIn w (all_of base seen) →
      IsRightWord p sensitive base seen w
  word_to base seen w i =
      let m : IsImage (carried sensitive base) w (any_words (lexicon_of p sensitive) seen) =
      in_mapped (carried sensitive base) w (any_words (lexicon_of p sensitive) seen) i in
      let a : IsAny (lexicon_of p sensitive) seen m.source =
      any_is (lexicon_of p sensitive) seen m.source m.listed in
      let r : Reads sensitive (relation_of p) a.kind seen m.source =
      (kind_is a.kind seen m.source).0 a.listed in
      record {
        kind = a.kind;
        left = r.left;
        right = m.source;
        related = r.related;
        fit = r.fit;
        word_is = m.image;
      }

  word_from : (base seen w : List Symbol) → IsRightWord p sensitive base seen w →
      IsIn w (all_of base seen)
  word_from base seen w r =
      let reads : Reads sensitive (relation_of p) r.kind seen r.right =
      record { left = r.left; related = r.related; fit = r.fit } in
      let listed : IsIn r.right (any_words (lexicon_of p sensitive) seen) =
      any_of (lexicon_of p sensitive) r.kind seen r.right ((kind_is r.kind seen r.right).1 reads) in
      subst (λ (z : List Symbol). IsIn z (all_of base seen)) (sym r.word_is)
      (in_map (carried sensitive base) r.right (any_words (lexicon_of p sensitive) seen) listed)

  right_words : (base seen : List Symbol) →
      AreRightWords p sensitive base seen
      (carried_words (lexicon_of p sensitive) sensitive base seen)
  right_words base seen = record {
    order = in_order_sorted (all_of base seen);
    exactly = λ w. (
      λ i. word_to base seen w (in_order_sound (all_of base seen) w i),
      λ r. in_order_there (all_of base seen) w
          (λ u v i j e. law u v (proper_of base seen u i) (proper_of base seen v j)
          (exact_bytes _ _ e))
          (word_from base seen w r),
    );
  }

  -- a left word of some kind
  some_fits : (seen : List Symbol) →
      has_words (any_words (lexicon_of p sensitive) seen) ≡ true → FitsSome p sensitive seen
  some_fits seen h =
      let k = some_kind (lexicon_of p sensitive) seen h in
      let r : Reads sensitive (relation_of p) k.0 seen k.1 = (kind_is k.0 seen k.1).0 k.2 in
      record {
        kind = k.0;
        left = r.left;
        right = k.1;
        related = r.related;
        fit = r.fit;
      }

  fits_read : (seen : List Symbol) (f : FitsSome p sensitive seen) →
      IsIn f.right ((lexicon_of p sensitive).readings f.kind seen)
  fits_read seen f =
      (kind_is f.kind seen f.right).1 (record { left = f.left; related = f.related; fit = f.fit })

  fits_some : (seen : List Symbol) → FitsSome p sensitive seen →
      has_words (any_words (lexicon_of p sensitive) seen) ≡ true
  fits_some seen f = any_some (lexicon_of p sensitive) seen f.right f.kind (fits_read seen f)

  -- ---- translation

  to_prefix : (word : List Symbol) (n : ℕ) → IsFront p sensitive word n →
      IsPrefix (lexicon_of p sensitive) word n
  to_prefix word n f = record {
    some = f.some;
    within = f.within;
    whole = f.whole;
    kind = f.fits.kind;
    right = f.fits.right;
    read = fits_read (take n word) f.fits;
  }

  to_front : (word : List Symbol) (n : ℕ) → IsPrefix (lexicon_of p sensitive) word n →
      IsFront p sensitive word n
  to_front word n f =
      let r : Reads sensitive (relation_of p) f.kind (take n word) f.right =
      (kind_is f.kind (take n word) f.right).0 f.read in
      record {
        some = f.some;
        within = f.within;
        whole = f.whole;
        fits = record {
          kind = f.kind;
          left = r.left;
          right = f.right;
          related = r.related;
          fit = r.fit;
        };
      }

  to_longest : (word : List Symbol) (n : ℕ) → IsLongest (lexicon_of p sensitive) word n →
      IsLongestFront p sensitive word n
  to_longest word n l = record {
    front = to_front word n l.prefix;
    none_longer = λ m more f. l.none_longer m more (to_prefix word m f);
  }

  untaken_is : (word : List Symbol) →
      (is_marked word ≡ true) ⊎ ((n : ℕ) → IsFront p sensitive word n → ⊥) →
      (is_marked word ≡ true) ⊎ ((n : ℕ) → IsPrefix (lexicon_of p sensitive) word n → ⊥) →
      IsTranslation p sensitive word (translation (lexicon_of p sensitive) sensitive word)
  untaken_is word why none_there =
      let e : translation (lexicon_of p sensitive) sensitive word ≡ untaken word =
      none (lexicon_of p sensitive) word sensitive none_there in
      none_taken why (ap (λ t. t.heads) e) (ap (λ t. t.left) e)

  translation_by : (word : List Symbol) (n : ℕ) → prefix (lexicon_of p sensitive) word ≡ n →
      (b : Bool) → is_marked word ≡ b →
      IsTranslation p sensitive word (translation (lexicon_of p sensitive) sensitive word)
  translation_by word n e true m = untaken_is word (inl m) (inl m)
  translation_by word n e false m =
      elim (cases_lt 0 n) [
        | inl some ↦
            let l : IsLongest (lexicon_of p sensitive) word n =
            found (lexicon_of p sensitive) word n e some in
            let t : translation (lexicon_of p sensitive) sensitive word
            ≡ taken (lexicon_of p sensitive) sensitive word n =
            longest (lexicon_of p sensitive) word sensitive n m l in
            front_taken n m (to_longest word n l)
            (subst (AreRightWords p sensitive (lemma word) (take n word))
            (sym (ap (λ z. z.heads) t)) (right_words (lemma word) (take n word)))
            (ap (λ z. z.left) t)
        | inr z ↦
            let no : (m : ℕ) → IsPrefix (lexicon_of p sensitive) word m → ⊥ =
            nothing (lexicon_of p sensitive) word (e ∙ (let k : n ≡ 0 = omega (arith, z) in k)) in
            untaken_is word (inr (λ k f. no k (to_prefix word k f))) (inr no)
      ]

  -- ---- post-generation

  at_least_none : (n : ℕ) → nat_le 0 n ≡ true
  at_least_none n = grind (arith, nat_tests)

  match_passes : (all : List Symbol) (n : ℕ) → FitsSome p sensitive (take n all) →
      is_match (lexicon_of p sensitive) 0 all n ≡ true
  match_passes all n f =
      and_from (nat_le 0 n) (has_words (any_words (lexicon_of p sensitive) (take n all)))
      (at_least_none n) (fits_some (take n all) f)

  match_fits : (all : List Symbol) (n : ℕ) → is_match (lexicon_of p sensitive) 0 all n ≡ true →
      FitsSome p sensitive (take n all)
  match_fits all n h =
      some_fits (take n all)
      (and_parts (nat_le 0 n) (has_words (any_words (lexicon_of p sensitive) (take n all))) h).1

  match_is : (all : List Symbol) (n : ℕ) → IsGreatestMatch p sensitive all n →
      longest_match (lexicon_of p sensitive) 0 all ≡ n
  match_is all n g =
      greatest_is (is_match (lexicon_of p sensitive) 0 all) (length all) n g.within
      (inr (match_passes all n g.fits))
      (λ m more le. false_from_ne_true _ (λ t. g.none_longer m more le (match_fits all m t)))

  match_none : (all : List Symbol) → ((n : ℕ) → 0 < n → n ≤ length all →
      FitsSome p sensitive (take n all) → ⊥) → longest_match (lexicon_of p sensitive) 0 all ≡ 0
  match_none all none_there =
      greatest_is (is_match (lexicon_of p sensitive) 0 all) (length all) 0 (omega arith) (inl refl)
      (λ m more le. false_from_ne_true _ (λ t. none_there m more le (match_fits all m t)))

  least_of : (seen : List Symbol) (words : List (List Symbol)) →
      AreRightWords p sensitive seen seen words → (v : List Symbol) →
      IsRightWord p sensitive seen seen v → IsLeastWord p sensitive seen (least words)
  least_of seen [] a v r = absurd ((a.exactly v).1 r)
  least_of seen (w ∷ words) a v r = record {
    is = (a.exactly w).0 (inl refl);
    least = λ other is. elim ((a.exactly other).1 is) [
      | inl e ↦ inl (sym e)
      | inr i ↦ inr (first_least w words other a.order i)
    ];
  }

  least_is : (seen : List Symbol) → FitsSome p sensitive seen →
      IsLeastWord p sensitive seen (chosen (lexicon_of p sensitive) sensitive seen)
  least_is seen f =
      least_of seen (carried_words (lexicon_of p sensitive) sensitive seen seen)
      (right_words seen seen) (carried sensitive seen f.right)
      (record {
        kind = f.kind;
        left = f.left;
        right = f.right;
        related = f.related;
        fit = f.fit;
        word_is = refl;
      })

  module _ (reads : List Read) (may : MayMatch p sensitive reads) where
    step_on : post_step (lexicon_of p sensitive) sensitive reads
        ≡ match_step (lexicon_of p sensitive) sensitive reads
        (matched (lexicon_of p sensitive) reads)
    step_on = step_alarm (lexicon_of p sensitive) sensitive reads may.alarm
        ∙ alarm_within (lexicon_of p sensitive) sensitive reads may.short

    taken_match : (n : ℕ) → IsGreatestMatch p sensitive (symbols reads) n →
        WritesMatch p sensitive reads n (post_step (lexicon_of p sensitive) sensitive reads)
    taken_match n g = record {
      word = chosen (lexicon_of p sensitive) sensitive (take n (symbols reads));
      least = least_is (take n (symbols reads)) g.fits;
      step_is = step_on
          ∙ ap (match_step (lexicon_of p sensitive) sensitive reads)
          (matched_is (lexicon_of p sensitive) reads ∙ match_is (symbols reads) n g)
          ∙ match_some (lexicon_of p sensitive) sensitive reads n g.some;
    }

    left_alarm : ((n : ℕ) → 0 < n → n ≤ length (symbols reads) →
        FitsSome p sensitive (take n (symbols reads)) → ⊥) →
        post_step (lexicon_of p sensitive) sensitive reads ≡ Gives 1 []
    left_alarm none_there = step_on
        ∙ ap (match_step (lexicon_of p sensitive) sensitive reads)
        (matched_is (lexicon_of p sensitive) reads ∙ match_none (symbols reads) none_there)

-- ---- the laws

pub heads_exact : OneRendering → (p : Parts) (sensitive : Bool) (word : List Symbol) → IsCompiled p →
    IsTranslation p sensitive word (translation (lexicon_of p sensitive) sensitive word)
heads_exact law p sensitive word compiled =
    translation_by law p sensitive compiled word (prefix (lexicon_of p sensitive) word) refl
    (is_marked word) refl

pub forms_exact : OneRendering → (p : Parts) (sensitive : Bool) (word : List Symbol) → IsCompiled p →
    AreRightWords p sensitive (lemma word) word
    (forms_of (lexicon_of p sensitive) sensitive word word)
forms_exact law p sensitive word compiled =
    right_words law p sensitive compiled (lemma word) word

pub forms_written : (lexicon : Lexicon) (marks : Marks) (sensitive : Bool) (word : List Symbol) →
    is_marked word ≡ false → generated lexicon marks sensitive word
    ≡ formed marks word (forms_of lexicon sensitive word word)
forms_written lexicon marks sensitive word h =
    ap (λ b. if b then (if is_star word then starred marks word else unmatched marks word)
    else formed marks word (forms_of lexicon sensitive word word)) h

pub greatest_taken : OneRendering → (p : Parts) (sensitive : Bool) (reads : List Read) (n : ℕ) →
    IsCompiled p → MayMatch p sensitive reads → IsGreatestMatch p sensitive (symbols reads) n →
    WritesMatch p sensitive reads n (post_step (lexicon_of p sensitive) sensitive reads)
greatest_taken law p sensitive reads n compiled may g =
    taken_match law p sensitive compiled reads may n g

pub alarm_left : OneRendering → (p : Parts) (sensitive : Bool) (reads : List Read) →
    IsCompiled p → MayMatch p sensitive reads → ((n : ℕ) → 0 < n → n ≤ length (symbols reads) →
    FitsSome p sensitive (take n (symbols reads)) → ⊥) →
    post_step (lexicon_of p sensitive) sensitive reads ≡ Gives 1 []
alarm_left law p sensitive reads compiled may none_there =
    left_alarm law p sensitive compiled reads may none_there

pub least_written : OneRendering → (p : Parts) (sensitive : Bool) (seen : List Symbol) →
    IsCompiled p → FitsSome p sensitive seen →
    IsLeastWord p sensitive seen (chosen (lexicon_of p sensitive) sensitive seen)
least_written law p sensitive seen compiled f = least_is law p sensitive compiled seen f
