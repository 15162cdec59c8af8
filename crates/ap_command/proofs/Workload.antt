-- What the workload finds, what it counts, and what it answers.
use Rattle.std.proofs.Common.{◌≡◌, ℕ, zero, suc, ◌<◌, ◌≤◌, List, [], ap, sym, ◌∙◌, subst, refl, inl, inr, arith, Option, Some}
use Rattle.ap_stream.specs.Pieces.{HasSuperblanks}
use Rattle.ap_stream.specs.declared.dialect.Dialect.TheVariants.{Raw, Generated}
use Rattle.ap_pipe.specs.Standing.{Standing, standing}
use Rattle.ap_command.specs.declared.status.Status.{Status}
use Rattle.ap_command.specs.declared.status.Status.TheVariants.{Done, FileFault, BadDictionary, BadRules, BadCompiled, Malformed, Limit}
use Rattle.ap_command.specs.Outside.{Outside}
use Rattle.ap_command.specs.Rows.{Stage, StreamText, HaveSame, row_reads, row_writes}
use Rattle.ap_command.specs.Gives.{Streams, Nothing}
use Rattle.ap_command.specs.Messages.{IsTold, IsLimitTold}
use Rattle.ap_command.specs.Words.{room_lem, work_max}
use Rattle.ap_command.specs.Working.{run_words, work_run, before_work, over_built_in, made_text, of_built_in, limit_place}
use Rattle.ap_command.specs.Answer.{IsStreamAnswer, bytes_of, IsReported, IsWorked}
use Rattle.ap_command.specs.Account.{IsBuiltInRow}
use Rattle.ap_command.proofs.Fitting.{run-gives}
use Rattle.ap_command.proofs.Kept.{work-kept}

stands-so : (s : Standing) (bytes : Option (List ℕ)) (faults : ℕ) → s.bytes ≡ bytes →
    s.faults ≡ faults → s ≡ standing bytes faults
stands-so s bytes faults e f = ap (λ b. standing b s.faults) e ∙ ap (λ n. standing bytes n) f

pub work-begins : (sentences : ℕ) (source sink : Standing) → source.bytes
    ≡ Some (made_text sentences) → source.faults ≡ 0 → sink.bytes ≡ Some [] → sink.faults ≡ 0 →
    over_built_in source sink ≡ before_work sentences
work-begins sentences source sink e f g h =
    ap (λ s. over_built_in s sink) (stands-so source (Some (made_text sentences)) 0 e f)
    ∙ ap (λ k. over_built_in (standing (Some (made_text sentences)) 0) k)
    (stands-so sink (Some []) 0 g h)

-- what the translation answers for it
module _ (sentences : ℕ) (source sink source' sink' : Standing)
    (left : source.bytes ≡ Some (made_text sentences)) (calm : source.faults ≡ 0)
    (empty : sink.bytes ≡ Some []) (fresh : sink.faults ≡ 0) (ended : Status)
    (ran : IsStreamAnswer run_words (over_built_in source sink) (over_built_in source' sink') ended
    work_run) where
  pub work-ran : IsStreamAnswer run_words (before_work sentences) (over_built_in source' sink')
      ended work_run
  work-ran = subst (λ (b : Outside). IsStreamAnswer run_words b (over_built_in source' sink') ended
      work_run) (work-begins sentences source sink left calm empty fresh) ran

  pub worked-so : (old new : Standing) (text : List ℕ) (status : Status) →
      sentences ≤ work_max → source'.faults ≡ 0 →
      bytes_of sink'.bytes ≡ text → IsReported sentences old new text ended status →
      IsWorked sentences old new status
  worked-so old new text status few takes is h = record {
    few = few;
    after = over_built_in source' sink';
    ended = ended;
    ran = work-ran;
    loads = refl;
    takes = takes;
    reported = subst (λ x. IsReported sentences old new x ended status) (sym is) h;
  }

-- the row of `run` writes a generated text
abbrev Writes : List Stage → Type 0
Writes stages = (row_reads stages ≡ StreamText Raw) × (row_writes stages ≡ StreamText Generated)

built-in-writes : (stages : List Stage) → IsBuiltInRow stages → Writes stages
built-in-writes stages row = elim (run-gives room_lem 1 row.said) [
  | inl r ↦
      let both : Streams r.stages ≡ Streams stages = sym r.is ∙ row.gives in
      let same : r.stages ≡ stages = cc in
      subst Writes same (r.reads, r.writes)
  | inr e ↦ absurd (let x : Nothing ≡ Streams stages = sym e ∙ row.gives in cc)
]

-- so the superblanks of what it wrote are found
pub work-pieces : (sentences : ℕ) (inside : Outside) (text : List ℕ) →
    IsStreamAnswer run_words (before_work sentences) inside Done work_run →
    bytes_of inside.sink.bytes ≡ text →
    (superblanks : List (List ℕ)) × HasSuperblanks Generated text superblanks
work-pieces sentences inside text a is =
    let k = work-kept sentences inside a in
    let w = built-in-writes k.0 k.1 in
    let h = subst (λ to. HaveSame (StreamText Raw) to k.2.input k.2.text) w.1
    (subst (λ from. HaveSame from (row_writes k.0) k.2.input k.2.text) w.0 k.2.kept) in (
      h.superblanks,
      subst (λ x. HasSuperblanks Generated x h.superblanks)
          (sym (ap bytes_of k.2.put.put) ∙ is) h.after,
    )

-- what is answered where the translation didn't come to its end
pub unreported : (sentences : ℕ) (old new : Standing) (text : List ℕ) (ended status : Status) →
    (ended ≡ Done → ⊥) → new ≡ old → status ≡ of_built_in ended →
    IsReported sentences old new text ended status
unreported sentences old new text Done status n e f = absurd (n refl)
unreported sentences old new text ended status n e f = (e, f)

-- and it has a message, where there are words
limit-built-in : (words kind place : ℕ) → IsLimitTold 0 kind place 8 → 0 < words →
    IsLimitTold 0 kind (limit_place kind place) words
limit-built-in words kind place (inl h) w =
    let first : limit_place kind place ≡ 0 = ap (λ k. limit_place k place) h.1 in
    inl (refl, h.1, omega (arith, first, w))
limit-built-in words kind place (inr h) w = inr h

pub built-in-told : (s : Status) (words : ℕ) → IsTold s 8 → 0 < words → IsTold (of_built_in s) words
built-in-told (FileFault file) words h w = w
built-in-told (BadDictionary file fault line) words h w = (w, h.1, h.2)
built-in-told (BadRules file fault line) words h w = (w, h.1, h.2)
built-in-told (BadCompiled file fault line) words h w = (w, h.1, h.2)
built-in-told (Malformed stage kind place) words h w = h
built-in-told (Limit zero kind place) words h w = limit-built-in words kind place h w
built-in-told (Limit (suc stage) kind place) words (inl h) w = absurd (omega (arith, h.0))
built-in-told (Limit (suc stage) kind place) words (inr (inl h)) w = absurd (omega (arith, h.0))
built-in-told (Limit (suc stage) kind place) words (inr (inr h)) w = inr (inr h)
built-in-told s words h w = tt
