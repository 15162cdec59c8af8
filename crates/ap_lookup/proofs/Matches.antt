-- How far symbols go on and the longest match, and where more symbols follow, in a coherent
-- lexicon.
use Rattle.std.specs.Prelude.{◌≡◌, ◌⊎◌, ℕ, suc, ◌<◌, ◌≤◌, nat_le, ◌&&◌, true, false, List, ◌++◌, length, take}
use Rattle.std.proofs.Common.{arith, ap, sym, ◌∙◌, inl, inr}
use Rattle.std.proofs.lemmas.Bool.{false_from_ne_true, and_parts}
use Rattle.std.proofs.lemmas.List.{take-append-le, take-take, length-append}
use Rattle.ap_symbol.specs.declared.symbol.Symbol.{Symbol}
use Rattle.ap_live.specs.Found.{has_words}
use Rattle.ap_live.specs.Greatest.{greatest}
use Rattle.ap_live.specs.Lexicon.{Lexicon, IsCoherent}
use Rattle.ap_live.specs.Readings.{any_words}
use Rattle.ap_live.proofs.AnyWords.{any_viable, viable_front}
use Rattle.ap_live.proofs.Greatest.{greatest_within, greatest_passes, greatest_above, greatest_reaches, greatest_is, greatest_cut, greatest_same}
use Rattle.ap_lookup.specs.Matching.{is_match, longest_match, fitting}

-- a match among the first symbols of a list
pub match_front : (lexicon : Lexicon) (least : ℕ) (a b : List Symbol) (m : ℕ) →
    take m a ≡ take m b → is_match lexicon least a m ≡ is_match lexicon least b m
match_front lexicon least a b m e =
    ap (λ (symbols : List Symbol). nat_le least m && has_words (any_words lexicon symbols)) e

module _ (lexicon : Lexicon) (symbols : List Symbol) where
  pub fitting_within : fitting lexicon symbols ≤ length symbols
  unfolding fitting
  fitting_within = greatest_within (λ n. lexicon.viable (take n symbols)) (length symbols)

  pub fitting_at : (fitting lexicon symbols ≡ 0)
      ⊎ (lexicon.viable (take (fitting lexicon symbols) symbols) ≡ true)
  unfolding fitting
  fitting_at = greatest_passes (λ n. lexicon.viable (take n symbols)) (length symbols)

  fitting_above : (m : ℕ) → fitting lexicon symbols < m → m ≤ length symbols →
      lexicon.viable (take m symbols) ≡ false
  unfolding fitting
  fitting_above m = greatest_above (λ n. lexicon.viable (take n symbols)) (length symbols) m

  pub fitting_reaches : (n : ℕ) → n ≤ length symbols → lexicon.viable (take n symbols) ≡ true →
      n ≤ fitting lexicon symbols
  unfolding fitting
  fitting_reaches n = greatest_reaches (λ n. lexicon.viable (take n symbols)) (length symbols) n

  module _ (whole : IsCoherent lexicon) where
    past_end : (n m : ℕ) → (n ≡ length symbols) ⊎ (lexicon.viable (take (suc n) symbols) ≡ false) →
        n < m → m ≤ length symbols → lexicon.viable (take m symbols) ≡ true → ⊥
    past_end n m (inl end) more le t = omega arith
    past_end n m (inr no_more) more le t =
        let longer = viable_front lexicon symbols (suc n) m whole (omega arith) t in
        absurd (let no : true ≡ false = sym longer ∙ no_more in cc)

    -- it is the number of symbols that go on, where one more does not or there is no more
    pub fitting_is : (n : ℕ) → n ≤ length symbols →
        (n ≡ 0) ⊎ (lexicon.viable (take n symbols) ≡ true) →
        (n ≡ length symbols) ⊎ (lexicon.viable (take (suc n) symbols) ≡ false) →
        fitting lexicon symbols ≡ n
    unfolding fitting
    fitting_is n within here past =
        greatest_is (λ k. lexicon.viable (take k symbols)) (length symbols) n within here
        (λ m more le. false_from_ne_true _ (past_end n m past more le))

    module _ (least : ℕ) where
      match_reaches : (m : ℕ) → m ≤ length symbols → is_match lexicon least symbols m ≡ true →
          m ≤ fitting lexicon symbols
      match_reaches m le t = fitting_reaches m le
          (any_viable lexicon (take m symbols) whole
          (and_parts (nat_le least m) (has_words (any_words lexicon (take m symbols))) t).1)

      -- the longest match is found at or below that number, or any greater one
      pub match_is : (v : ℕ) → fitting lexicon symbols ≤ v → v ≤ length symbols →
          longest_match lexicon least symbols ≡ greatest (is_match lexicon least symbols) v
      match_is v low high = greatest_cut (is_match lexicon least symbols) (length symbols) v high
          (λ m more le. false_from_ne_true _ (λ t. let r = match_reaches m le t in
          omega (arith, r, more, low)))

      pub match_within : longest_match lexicon least symbols ≤ fitting lexicon symbols
      match_within =
          let e = match_is (fitting lexicon symbols) (omega arith) fitting_within in
          let w = greatest_within (is_match lexicon least symbols) (fitting lexicon symbols) in
          omega (arith, e, w)

-- Where an end is known among some symbols, it is the same with more of them.
module _ (lexicon : Lexicon) (symbols more : List Symbol) (whole : IsCoherent lexicon) where
  fits : (n : ℕ) → n ≤ length symbols → n ≤ length (symbols ++ more)
  fits n le = let l = length-append symbols more in omega (arith, l, le)

  same : (n : ℕ) → n ≤ length symbols → take n (symbols ++ more) ≡ take n symbols
  same n le = take-append-le n symbols more le

  pub fitting_settled : fitting lexicon symbols < length symbols → fitting lexicon (symbols ++ more)
      ≡ fitting lexicon symbols
  fitting_settled lt =
      let v = fitting lexicon symbols in
      let here : (v ≡ 0) ⊎ (lexicon.viable (take v (symbols ++ more)) ≡ true) =
      elim (fitting_at lexicon symbols) [
        | inl z ↦ inl z
        | inr t ↦ inr (ap lexicon.viable (same v (omega arith)) ∙ t)
      ] in
      let past : lexicon.viable (take (suc v) (symbols ++ more)) ≡ false =
      ap lexicon.viable (same (suc v) (omega arith))
      ∙ fitting_above lexicon symbols (suc v) (omega arith) (omega arith) in
      fitting_is lexicon (symbols ++ more) whole v (fits v (omega arith)) here (inr past)

  pub match_settled : (least : ℕ) → fitting lexicon symbols < length symbols →
      longest_match lexicon least (symbols ++ more) ≡ longest_match lexicon least symbols
  match_settled least lt =
      let v = fitting lexicon symbols in
      let e = fitting_settled lt in
      match_is lexicon (symbols ++ more) whole least v (omega (arith, e)) (fits v (omega arith))
      ∙ greatest_same (is_match lexicon least (symbols ++ more)) (is_match lexicon least symbols) v
      (λ m le. match_front lexicon least (symbols ++ more) symbols m
      (same m (omega (arith, le, lt))))
      ∙ sym (match_is lexicon symbols whole least v (omega arith) (omega arith))

  -- where all go on, no fewer do with more of them
  pub fitting_grows : fitting lexicon symbols ≡ length symbols →
      length symbols ≤ fitting lexicon (symbols ++ more)
  fitting_grows e = elim (fitting_at lexicon symbols) [
    | inl z ↦ omega (arith, z, e)
    | inr t ↦ fitting_reaches lexicon (symbols ++ more) (length symbols)
        (fits (length symbols) (omega arith))
        (ap lexicon.viable (same (length symbols) (omega arith))
        ∙ ap (λ n. lexicon.viable (take n symbols)) (sym e) ∙ t)
  ]

-- the longest match of the symbols that were seen is that of all, where no further one goes on
pub match_seen : (lexicon : Lexicon) (symbols seen : List Symbol) (n : ℕ) → IsCoherent lexicon →
    seen ≡ take n symbols → n ≤ length symbols → fitting lexicon symbols ≡ n
    → greatest (is_match lexicon 0 seen) n ≡ longest_match lexicon 0 symbols
match_seen lexicon symbols seen n whole is le e =
    greatest_same (is_match lexicon 0 seen) (is_match lexicon 0 symbols) n
    (λ m low. match_front lexicon 0 seen symbols m (ap (take m) is ∙ take-take m n symbols low))
    ∙ sym (match_is lexicon symbols whole 0 n (omega (arith, e)) le)
