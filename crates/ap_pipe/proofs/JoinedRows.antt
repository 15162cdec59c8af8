-- A whole row with joined transfer agrees with the row with bilingual lookup and transfer.
use Rattle.std.specs.Prelude.{◌≡◌, ℕ, suc, false, List, [], ◌∷◌, ◌++◌, None, refl}
use Rattle.std.proofs.Common.{ap, sym, subst}
use Rattle.ap_stream.specs.Told.{Ending, Clean, cut_told}
use Rattle.ap_live.specs.Lexicon.{Lexicon}
use Rattle.ap_live.specs.Readable.{GivesReadable}
use Rattle.ap_analysis.specs.Whole.{analysis}
use Rattle.ap_passes.specs.Passes.{first_pass, split_pass}
use Rattle.ap_lookup.specs.PostWorks.{post_generated_text}
use Rattle.ap_lookup.specs.Works.{bilingual_text, generated_text}
use Rattle.ap_rules.specs.Views.{plain_rules}
use Rattle.ap_rules.specs.declared.rules.Form.TheVariants.{Transfer}
use Rattle.ap_rules.specs.declared.rules.Rules.{Rules}
use Rattle.ap_exec.specs.Borderless.{KeepQueues}
use Rattle.ap_chunk.specs.Stages.{transferred_text, interchunked_text, postchunked_text}
use Rattle.ap_pipe.specs.Joined.{joined_text}
use Rattle.ap_pipe.specs.JoinedLaws.{Meaning, looked_up_first, JoinedRowsAgree}
use Rattle.ap_pipe.specs.Row.{meaning, last_fault}
use Rattle.ap_pipe.proofs.JoinedAgree.{last_none, none_last, joined_agrees}

-- what stages give doesn't depend on where in a row they stand
same_text : (stages : List Meaning) (n m : ℕ) (x y : List ℕ) (e : Ending) → x ≡ y →
    (meaning n stages x e).text ≡ (meaning m stages y e).text
same_text [] n m x y e h = h
same_text (f ∷ fs) n m x y e h =
    same_text fs (suc n) (suc m) (cut_told e (f x e)).text (cut_told e (f y e)).text Clean
    (ap (λ (z : List ℕ). (cut_told e (f z e)).text) h)

module _ (lexicon : Lexicon) (rules : Rules) (form : rules.form ≡ Transfer)
    (keep : KeepQueues (plain_rules rules)) (gives : GivesReadable lexicon)
    (behind : List Meaning) where
  abbrev with_joined : List Meaning
  with_joined = joined_text lexicon rules ∷ behind

  abbrev with_lookup : List Meaning
  with_lookup = bilingual_text lexicon false ∷ transferred_text rules ∷ behind

  -- from transfer on
  from_transfer : (n : ℕ) (x : List ℕ) →
      (meaning n with_joined x Clean).fault ≡ None → (meaning n with_lookup x Clean).fault ≡ None →
      (meaning n with_joined x Clean).text ≡ (meaning n with_lookup x Clean).text
  from_transfer n x e f =
      let one = last_none (meaning (suc n) behind (joined_text lexicon rules x Clean).text
      Clean).fault n (joined_text lexicon rules x Clean).fault e in
      let first = last_none (meaning (suc n) (transferred_text rules ∷ behind)
      (bilingual_text lexicon false x Clean).text Clean).fault n
      (bilingual_text lexicon false x Clean).fault f in
      let second = last_none (meaning (suc (suc n)) behind
      (transferred_text rules (bilingual_text lexicon false x Clean).text Clean).text Clean).fault
      (suc n) (transferred_text rules (bilingual_text lexicon false x Clean).text Clean).fault
      first.0 in
      let both : (meaning 1 (looked_up_first lexicon rules) x Clean).fault ≡ None =
      none_last (last_fault None 2
      (transferred_text rules (bilingual_text lexicon false x Clean).text Clean).fault) 1
      (bilingual_text lexicon false x Clean).fault
      (none_last None 2
      (transferred_text rules (bilingual_text lexicon false x Clean).text Clean).fault refl
      second.1) first.1 in
      same_text behind (suc n) (suc (suc n)) (joined_text lexicon rules x Clean).text
      (transferred_text rules (bilingual_text lexicon false x Clean).text Clean).text Clean
      (joined_agrees lexicon gives rules x form keep one.1 both)

  -- behind other stages
  behind_stages : (front : List Meaning) (n : ℕ) (x : List ℕ) →
      (meaning n (front ++ with_joined) x Clean).fault ≡ None →
      (meaning n (front ++ with_lookup) x Clean).fault ≡ None →
      (meaning n (front ++ with_joined) x Clean).text
      ≡ (meaning n (front ++ with_lookup) x Clean).text
  behind_stages [] n x e f = from_transfer n x e f
  behind_stages (s ∷ front) n x e f =
      behind_stages front (suc n) (s x Clean).text
      (last_none (meaning (suc n) (front ++ with_joined) (s x Clean).text Clean).fault n
      (s x Clean).fault e).0
      (last_none (meaning (suc n) (front ++ with_lookup) (s x Clean).text Clean).fault n
      (s x Clean).fault f).0

  -- the first of them may read a text that was cut
  behind_first : (s : Meaning) (front : List Meaning) (n : ℕ) (x : List ℕ) (end : Ending) →
      (meaning n (s ∷ (front ++ with_joined)) x end).fault ≡ None →
      (meaning n (s ∷ (front ++ with_lookup)) x end).fault ≡ None →
      (meaning n (s ∷ (front ++ with_joined)) x end).text
      ≡ (meaning n (s ∷ (front ++ with_lookup)) x end).text
  behind_first s front n x end e f =
      behind_stages front (suc n) (cut_told end (s x end)).text
      (last_none (meaning (suc n) (front ++ with_joined) (cut_told end (s x end)).text Clean).fault
      n (cut_told end (s x end)).fault e).0
      (last_none (meaning (suc n) (front ++ with_lookup) (cut_told end (s x end)).text Clean).fault
      n (cut_told end (s x end)).fault f).0

pub joined_rows_agree : (lexicon : Lexicon) → GivesReadable lexicon → JoinedRowsAgree lexicon
joined_rows_agree lexicon gives p text ending same form keep e f =
    behind_first p.bilingual p.transfer form keep (subst GivesReadable (sym same) gives)
    (interchunked_text p.interchunk ∷ postchunked_text p.postchunk
    ∷ generated_text p.generator p.marks false ∷ post_generated_text p.post false ∷ [])
    (analysis p.analyser false) (first_pass ∷ split_pass ∷ []) 1 text ending e f
