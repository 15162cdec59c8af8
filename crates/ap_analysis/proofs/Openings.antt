-- Two texts with the same front take the same step, where neither goes on behind it.
use Rattle.std.specs.Prelude.{◌≡◌, ◌⊎◌, ℕ, suc, ◌+◌, ◌<◌, ◌≤◌, nat_lt, max, eqb, cond, Bool, false, List, [], ◌∷◌, ◌++◌, length, take, drop, refl, if◌then◌else◌}
use Rattle.std.specs.List.{flat_map, prefix_len}
use Rattle.std.proofs.Common.{arith, ap, sym, ◌∙◌, subst, inl, inr}
use Rattle.std.proofs.lemmas.Bool.{cases_lt}
use Rattle.std.proofs.lemmas.List.{take-append-le}
use Rattle.std.proofs.lemmas.List.Folds.{prefix_len-append}
use Rattle.ap_stream.specs.Spelling.{spelled}
use Rattle.ap_stream.specs.Steps.{Gives}
use Rattle.ap_stream.specs.Supers.{item_supers}
use Rattle.ap_stream.specs.declared.item.Read.{Read}
use Rattle.ap_stream.proofs.ItemFronts.{front_more}
use Rattle.ap_live.specs.Found.{has_words}
use Rattle.ap_live.specs.Lexicon.{Lexicon, IsCoherent}
use Rattle.ap_live.proofs.Greatest.{greatest_same}
use Rattle.ap_analysis.specs.Items.{symbol_of, symbols}
use Rattle.ap_analysis.specs.Licence.{is_alphabetic, begins_alphabetic, surface, licensed_words, is_licensed, licence, viable_length, run_length, unknown_length, span}
use Rattle.ap_analysis.specs.Analysis.{swallowed, known, unknown, copied, step_within}
use Rattle.ap_analysis.proofs.Fronts.{symbols_grow, begins_more}
use Rattle.ap_analysis.proofs.Lengths.{words_of, viable_at, viable_above, viable_length_is, licence_is, licence_within, span_is}
use Rattle.ap_analysis.proofs.Steps.{known_of, unknown_of, step_parts}

-- no run begins where no alphabetic character comes
none_runs : (lexicon : Lexicon) (xs : List Read) → begins_alphabetic lexicon xs ≡ false →
    prefix_len (is_alphabetic lexicon) xs ≡ 0
none_runs lexicon [] h = refl
none_runs lexicon (x ∷ xs) h = ap (λ t. cond t (1 + prefix_len (is_alphabetic lexicon) xs) 0) h

drop_front : (a xs : List Read) → drop (length a) (a ++ xs) ≡ xs
drop_front [] xs = refl
drop_front (read ∷ a) xs = drop_front a xs

module _ (lexicon : Lexicon) (whole : IsCoherent lexicon) (a xs ys : List Read)
    (all : length (symbols a) ≡ length a) (ends : begins_alphabetic lexicon xs ≡ false)
    (stops : begins_alphabetic lexicon ys ≡ false)
    (low : viable_length lexicon (a ++ xs) ≤ length a)
    (past : (viable_length lexicon (a ++ xs) < length a)
    ⊎ (lexicon.viable (surface (a ++ ys) (suc (length a))) ≡ false)) where
  same_surface : (n : ℕ) → n ≤ length a → surface (a ++ ys) n ≡ surface (a ++ xs) n
  same_surface n le = front_more symbol_of a ys n le ∙ sym (front_more symbol_of a xs n le)

  long_x : length a ≤ length (symbols (a ++ xs))
  long_x = let g = symbols_grow a xs in omega (arith, g, all)

  long_y : length a ≤ length (symbols (a ++ ys))
  long_y = let g = symbols_grow a ys in omega (arith, g, all)

  viable_same : viable_length lexicon (a ++ ys) ≡ viable_length lexicon (a ++ xs)
  viable_same =
      let v : ℕ = viable_length lexicon (a ++ xs) in
      viable_length_is lexicon (a ++ ys) v whole (omega (arith, low, long_y))
      (elim (viable_at lexicon (a ++ xs)) [
        | inl z ↦ inl z
        | inr t ↦ inr (ap lexicon.viable (same_surface v low) ∙ t)
      ])
      (elim (cases_lt v (length a)) [
        | inl lt ↦ inr (ap lexicon.viable (same_surface (suc v) (omega (arith, lt)))
            ∙ viable_above lexicon (a ++ xs) (suc v) (omega arith) (omega (arith, lt, long_x)))
        | inr ge ↦ elim past [
          | inl lt ↦ absurd (omega (arith, lt, ge))
          | inr dead ↦
              let e : length a ≡ v = omega (arith, ge, low) in
              inr (subst (λ (k : ℕ). lexicon.viable (surface (a ++ ys) (suc k)) ≡ false) e dead)
        ]
      ])

  begins_same : (n : ℕ) → n ≤ length a → begins_alphabetic lexicon (drop n (a ++ ys))
      ≡ begins_alphabetic lexicon (drop n (a ++ xs))
  begins_same n le = elim (cases_lt n (length a)) [
    | inl lt ↦ begins_more lexicon a ys n lt ∙ sym (begins_more lexicon a xs n lt)
    | inr ge ↦
        let e : n ≡ length a = omega (arith, le, ge) in
        ap (λ (k : ℕ). begins_alphabetic lexicon (drop k (a ++ ys))) e
        ∙ ap (begins_alphabetic lexicon) (drop_front a ys) ∙ stops ∙ sym ends
        ∙ ap (begins_alphabetic lexicon) (sym (drop_front a xs))
        ∙ ap (λ (k : ℕ). begins_alphabetic lexicon (drop k (a ++ xs))) (sym e)
  ]

  words_same : (n : ℕ) → n ≤ length a → licensed_words lexicon (a ++ ys) n
      ≡ licensed_words lexicon (a ++ xs) n
  unfolding words_of
  words_same n le =
      ap (λ t. words_of lexicon t (surface (a ++ ys) n)) (begins_same n le)
      ∙ ap (words_of lexicon (begins_alphabetic lexicon (drop n (a ++ xs)))) (same_surface n le)

  licence_same : licence lexicon (a ++ ys) ≡ licence lexicon (a ++ xs)
  licence_same =
      licence_is lexicon (a ++ ys) (length a) whole (omega (arith, viable_same, low)) long_y
      ∙ greatest_same (is_licensed lexicon (a ++ ys)) (is_licensed lexicon (a ++ xs)) (length a)
      (λ m le. ap has_words (words_same m le))
      ∙ sym (licence_is lexicon (a ++ xs) (length a) whole low long_x)

  run_same : run_length lexicon (a ++ ys) ≡ run_length lexicon (a ++ xs)
  unfolding run_length
  run_same =
      let p = is_alphabetic lexicon in
      prefix_len-append p a ys
      ∙ ap (λ (n : ℕ). cond (eqb (prefix_len p a) (length a)) (length a + n) (prefix_len p a))
      (none_runs lexicon ys stops ∙ sym (none_runs lexicon xs ends))
      ∙ sym (prefix_len-append p a xs)

  unknown_same : unknown_length lexicon (a ++ ys) ≡ unknown_length lexicon (a ++ xs)
  unfolding unknown_length
  unknown_same =
      ap (λ (n : ℕ). if nat_lt 0 n then 0 else run_length lexicon (a ++ ys)) licence_same
      ∙ ap (λ (n : ℕ). if nat_lt 0 (licence lexicon (a ++ xs)) then 0 else n) run_same

  pub span_same : span lexicon (a ++ ys) ≡ span lexicon (a ++ xs)
  span_same =
      span_is lexicon (a ++ ys)
      ∙ ap (λ (n : ℕ). max n (unknown_length lexicon (a ++ ys))) viable_same
      ∙ ap (max (viable_length lexicon (a ++ xs))) unknown_same ∙ sym (span_is lexicon (a ++ xs))

  -- the step, where something stands in front
  module _ (sensitive : Bool) (some : 0 < length a) (spans : span lexicon (a ++ xs) ≤ length a) where
    taken_same : (n : ℕ) → n ≤ length a → take n (a ++ ys) ≡ take n (a ++ xs)
    taken_same n le = take-append-le n a ys le ∙ sym (take-append-le n a xs le)

    known_same : (n : ℕ) → n ≤ length a → known lexicon sensitive (a ++ ys) n
        ≡ known lexicon sensitive (a ++ xs) n
    known_same n le =
        ap (λ words. known_of lexicon sensitive n words (surface (a ++ ys) n)
        (swallowed (a ++ ys) n)) (words_same n le)
        ∙ ap (λ seen. known_of lexicon sensitive n (licensed_words lexicon (a ++ xs) n) seen
        (swallowed (a ++ ys) n)) (same_surface n le)
        ∙ ap (λ (taken : List Read). known_of lexicon sensitive n
        (licensed_words lexicon (a ++ xs) n) (surface (a ++ xs) n) (flat_map (λ bytes. bytes)
        (flat_map (λ read. item_supers read.item) taken))) (taken_same n le)

    unknown_step_same : (n : ℕ) → n ≤ length a → unknown (a ++ ys) n ≡ unknown (a ++ xs) n
    unknown_step_same n le = ap (unknown_of n) (same_surface n le)

    copied_same : copied (a ++ ys) ≡ copied (a ++ xs)
    copied_same = ap (λ front. Gives 1 (flat_map (λ read. spelled read.item) front))
        (taken_same 1 (omega (arith, some)))

    pub within_same : step_within lexicon sensitive (a ++ ys) ≡ step_within lexicon sensitive (a ++ xs)
    within_same =
        let k = licence lexicon (a ++ xs) in
        let u = unknown_length lexicon (a ++ xs) in
        let s = span_is lexicon (a ++ xs) in
        ap (λ n. if nat_lt 0 n then known lexicon sensitive (a ++ ys) n
        else (if nat_lt 0 (unknown_length lexicon (a ++ ys))
        then unknown (a ++ ys) (unknown_length lexicon (a ++ ys))
        else copied (a ++ ys))) licence_same
        ∙ ap (λ n. if nat_lt 0 k then known lexicon sensitive (a ++ ys) k
        else (if nat_lt 0 n then unknown (a ++ ys) n else copied (a ++ ys))) unknown_same
        ∙ step_parts (nat_lt 0 k) (nat_lt 0 u) _ _ _ _ _ _
        (known_same k (omega (arith, licence_within lexicon (a ++ xs) whole, low)))
        (unknown_step_same u (omega (arith, s, spans))) copied_same
