-- What a watch says of a word that goes on by a symbol, and of one that ends.
use Rattle.std.proofs.Common.{◌≡◌, inl, inr, ℕ, ◌+◌, ◌≤◌, true, false, List, [], ◌∷◌, ◌++◌, length, take, sym, ◌∙◌, ap, subst, arith, append_assoc, append-nil, length-append}
use Rattle.std.specs.Prelude.{◌↔◌}
use Rattle.std.proofs.lemmas.Bool.{cases_lt, true≢false}
use Rattle.std.proofs.lemmas.List.{take_all}
use Rattle.ap_symbol.specs.Kinds.{is_tag}
use Rattle.ap_symbol.specs.declared.symbol.Symbol.{Symbol}
use Rattle.ap_fst.specs.Machines.{Machine}
use Rattle.ap_det.specs.Subsets.{HoldsFinal}
use Rattle.ap_lookup.specs.Translation.{lemma_length}
use Rattle.ap_trim.specs.Reading.{ReadsWhole}
use Rattle.ap_trim.specs.Stepping.{HasNoFront}
use Rattle.ap_trim.specs.Watching.{IsTaken, IsKeptBy, has_tag, Sight, kept, lemma, tags, IsLemma, Sees, IsGood}
use Rattle.ap_trim.proofs.Lemmas.{lemma_untagged, lemma_at_tag, lemma_tagged, lemma_within, take_front}
use Rattle.ap_trim.proofs.Readings.{whole_read}

module _ (m : Machine) where
  front_kept : (word more : List Symbol) (n : ℕ) → n ≤ length word →
      lemma_length (word ++ more) ≤ n → ReadsWhole m (take n word) → IsKeptBy m (word ++ more)
  front_kept word more n le whole w =
      let long : length (word ++ more) ≡ length word + length more = length-append word more in
      inr (record {
        count = n;
        within = omega (arith, le, long);
        front =
            record { lemma = whole; whole = subst (ReadsWhole m) (sym (take_front n word more le)) w };
      })

  all_taken : (word : List Symbol) → take (length word) word ≡ word
  all_taken word = take_all (length word) word (omega arith)

  -- a lemma that is read whole, and a tag behind it
  pub kept_at_tag : (word : List Symbol) (x : Symbol) → has_tag word ≡ false → is_tag x ≡ true →
      ReadsWhole m word → Sees m kept (word ++ x ∷ [])
  kept_at_tag word x none t w = λ more.
      let one : lemma_length (word ++ x ∷ more) ≡ length word + lemma_length (x ∷ more) =
      lemma_untagged word (x ∷ more) none in
      let two : lemma_length (x ∷ more) ≡ 0 = lemma_at_tag x more t in
      subst (λ (z : List Symbol). IsKeptBy m z) (sym (append_assoc word (x ∷ []) more))
      (front_kept word (x ∷ more) (length word) (omega arith) (omega (arith, one, two))
      (subst (ReadsWhole m) (sym (all_taken word)) w))

  -- a word with a tag that is read whole
  pub kept_whole : (word : List Symbol) → has_tag word ≡ true → ReadsWhole m word → Sees m kept word
  kept_whole word t w = λ more.
      let one : lemma_length (word ++ more) ≡ lemma_length word = lemma_tagged word more t in
      let two : lemma_length word ≤ length word = lemma_within word in
      front_kept word more (length word) (omega arith) (omega (arith, one, two))
      (subst (ReadsWhole m) (sym (all_taken word)) w)

  longer : (word : List Symbol) (x : Symbol) → length (word ++ x ∷ []) ≡ length word + 1
  longer word x = length-append word (x ∷ [])

  -- neither shorter nor whole
  pub untaken_next : (word : List Symbol) (x : Symbol) →
      HasNoFront m (word ++ x ∷ []) (length word) → (ReadsWhole m (word ++ x ∷ []) → ⊥) →
      IsTaken m (word ++ x ∷ []) → ⊥
  untaken_next word x none bare t =
      let long : length (word ++ x ∷ []) ≡ length word + 1 = longer word x in
      let within : t.count ≤ length (word ++ x ∷ []) = t.within in
      elim (cases_lt (length word) t.count) [
        | inl more ↦ bare (subst (ReadsWhole m) (take_all t.count (word ++ x ∷ [])
            (omega (arith, long, within, more))) t.front.whole)
        | inr le ↦ none t.count le t.front
      ]

  pub no_front_tagged : (word : List Symbol) (x : Symbol) → has_tag word ≡ true →
      (IsTaken m word → ⊥) → HasNoFront m (word ++ x ∷ []) (length word)
  no_front_tagged word x t bare = λ n le f.
      let one : lemma_length (word ++ x ∷ []) ≡ lemma_length word = lemma_tagged word (x ∷ []) t in
      let two : lemma_length (word ++ x ∷ []) ≤ n = f.lemma in
      bare (record {
        count = n;
        within = le;
        front = record {
          lemma = omega (arith, one, two);
          whole = subst (ReadsWhole m) (take_front n word (x ∷ []) le) f.whole;
        };
      })

  pub no_front_lemma : (word : List Symbol) (x : Symbol) → has_tag word ≡ false →
      (ReadsWhole m word → ⊥) → HasNoFront m (word ++ x ∷ []) (length word)
  no_front_lemma word x none bare = λ n le f.
      let one : lemma_length (word ++ x ∷ []) ≡ length word + lemma_length (x ∷ []) =
      lemma_untagged word (x ∷ []) none in
      let two : lemma_length (word ++ x ∷ []) ≤ n = f.lemma in
      bare (subst (ReadsWhole m) (take_front n word (x ∷ []) le ∙
      take_all n word (omega (arith, one, two))) f.whole)

  -- ---- at the end

  lemma_all : (word : List Symbol) → has_tag word ≡ false → lemma_length word ≡ length word
  lemma_all word none =
      let one : lemma_length (word ++ []) ≡ length word + 0 = lemma_untagged word [] none in
      ap lemma_length (sym (append-nil word)) ∙ omega (arith, one)

  good_lemma : (set : List ℕ) (word : List Symbol) → IsLemma m set word → HoldsFinal m set ↔
      IsKeptBy m word
  good_lemma set word h =
      let all : lemma_length word ≡ length word = lemma_all word h.untagged in (
        λ f. inr (record {
          count = length word;
          within = omega arith;
          front =
              record {
                lemma = omega (arith, all);
                whole =
                    subst (ReadsWhole m) (sym (all_taken word)) ((whole_read m word set h.read).0 f);
              };
        }),
        λ k. elim k [
          | inl j ↦ absurd (true≢false (sym j ∙ h.unjoined))
          | inr t ↦ let one : lemma_length word ≤ t.count = t.front.lemma in
              (whole_read m word set h.read).1 (subst (ReadsWhole m)
              (take_all t.count word (omega (arith, one, all))) t.front.whole)
        ],
      )

  pub good_sight : (sight : Sight) (word : List Symbol) → Sees m sight word → IsGood m sight ↔
      IsKeptBy m word
  good_sight kept word h = (
    λ g. subst (λ (z : List Symbol). IsKeptBy m z) (append-nil word) (h []),
    λ k. tt,
  )
  good_sight (lemma set) word h = good_lemma set word h
  good_sight (tags set) word h = (
    λ g. absurd g,
    λ k. elim k [ inl j ↦ absurd (true≢false (sym j ∙ h.unjoined)) | inr t ↦ absurd (h.untaken t) ],
  )
