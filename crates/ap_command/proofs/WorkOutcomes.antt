-- What `work` gives is one outcome.
use Rattle.std.proofs.Common.{◌≡◌, ℕ, List, [], ◌∷◌, subst, sym, ap, ◌∙◌, refl, inl, inr, ◌⊎◌, Option, Some, None}
use Rattle.std.specs.Option.{IfSome}
use Rattle.ap_command.specs.Account.{Outcome, row_outcome, worked_outcome, failed_outcome, IsFlawed, IsRowOutcome, IsBuiltInRow, IsWorkOutcome}
use Rattle.ap_command.specs.Answer.{AllOpen, Opens, Reaches}
use Rattle.ap_command.specs.Gives.{Gives, Streams, gives_of}
use Rattle.ap_command.specs.Messages.{name_at}
use Rattle.ap_command.specs.Outside.{FilesStanding}
use Rattle.ap_command.specs.Reading.{HasText, IsAccepted, Flaw, status_of_flaw, IsFlawOf}
use Rattle.ap_command.specs.Rows.{Stage, Meaning, AreMeanings}
use Rattle.ap_command.specs.Said.{Said}
use Rattle.ap_command.specs.Words.{files_of}
use Rattle.ap_command.specs.Working.{built_in, text_named, run_words, work_run, made_text, of_built_in}
use Rattle.ap_command.specs.declared.reading.Reading.{Reading}
use Rattle.ap_pipe.specs.Answers.{ending_of as text_ending}
use Rattle.ap_pipe.specs.Row.{meaning}
use Rattle.ap_pipe.specs.declared.round.Intake.{Intake}
use Rattle.ap_pipe.specs.declared.round.Intake.TheVariants.{Clean}
use Rattle.ap_command.proofs.Honest.{says-one, one-flaw-of, no-flaw-of}
use Rattle.ap_command.proofs.OneReading.{Laws}

-- two facts of one text
record Both (P Q : List ℕ → Type 0) : Type 0 where
  pub text : List ℕ
  pub first : P text
  pub second : Q text

module _ (files : FilesStanding) (at : List ℕ → Option (List ℕ)) (told : files.contents ≡ Some at)
  where
    both : (name : List ℕ) (P Q : List ℕ → Type 0) → HasText files name P → HasText files name Q →
        Both P Q
    both name P Q h k =
        let u = subst (λ o. IfSome o
        (λ (at : List ℕ → Option (List ℕ)). (text : List ℕ) × (at name ≡ Some text) × P text)) told h
        in
        let v = subst (λ o. IfSome o
        (λ (at : List ℕ → Option (List ℕ)). (text : List ℕ) × (at name ≡ Some text) × Q text)) told k
        in
        let same : v.0 ≡ u.0 = (let x : Some v.0 ≡ Some u.0 = sym v.1 ∙ u.1 in cc) in
        record { text = u.0; first = u.2; second = subst Q same v.2 }

    module _ (laws : Laws) (words : List (List ℕ)) where
      opens-one : (r : Reading) (c d : Said) → Opens words files r c → Opens words files r d → c ≡ d
      opens-one r c d h k =
          let b : Both (λ text. IsAccepted r.manner text c) (λ text. IsAccepted r.manner text d) =
          both (name_at words r.place) (λ text. IsAccepted r.manner text c)
          (λ text. IsAccepted r.manner text d) h k in
          says-one laws r.manner b.text c d b.first b.second

      cons-same : (c d : Said) (cs ds : List Said) → c ≡ d → cs ≡ ds → c ∷ cs ≡ d ∷ ds
      cons-same c d cs ds e f = ap (λ x. x ∷ cs) e ∙ ap (λ xs. d ∷ xs) f

      opened-same : (rs : List Reading) (cs ds : List Said) → AllOpen words files rs cs →
          AllOpen words files rs ds → cs ≡ ds
      opened-same [] [] [] h k = refl
      opened-same [] [] (d ∷ ds) h k = absurd k
      opened-same [] (c ∷ cs) ds h k = absurd h
      opened-same (r ∷ rs) [] ds h k = absurd h
      opened-same (r ∷ rs) (c ∷ cs) [] h k = absurd k
      opened-same (r ∷ rs) (c ∷ cs) (d ∷ ds) h k =
          cons-same c d cs ds (opens-one r c d h.0 k.0) (opened-same rs cs ds h.1 k.1)

      abbrev HasFlaw : ℕ → Flaw → Reading → Type 0
      HasFlaw file flaw r = (r.place ≡ file) × HasText files (name_at words r.place)
          (λ text. IsFlawOf r.manner text flaw)

      open-sound : (r : Reading) (c : Said) (file : ℕ) (flaw : Flaw) → Opens words files r c →
          HasFlaw file flaw r → ⊥
      open-sound r c file flaw h f =
          let b : Both (λ text. IsAccepted r.manner text c) (λ text. IsFlawOf r.manner text flaw) =
          both (name_at words r.place) (λ text. IsAccepted r.manner text c)
          (λ text. IsFlawOf r.manner text flaw) h f.1 in
          no-flaw-of laws r.manner b.text c flaw b.first b.second

      open-unflawed : (rs : List Reading) (cs : List Said) (file : ℕ) (flaw : Flaw) →
          AllOpen words files rs cs → Reaches words files rs (HasFlaw file flaw) → ⊥
      open-unflawed [] cs file flaw h f = f
      open-unflawed (r ∷ rs) [] file flaw h f = h
      open-unflawed (r ∷ rs) (c ∷ cs) file flaw h (inl f) = open-sound r c file flaw h.0 f
      open-unflawed (r ∷ rs) (c ∷ cs) file flaw h (inr f) = open-unflawed rs cs file flaw h.1 f.2

      flaw-one : (rs : List Reading) (file other : ℕ) (flaw second : Flaw) →
          Reaches words files rs (HasFlaw file flaw) → Reaches words files rs (HasFlaw other second) →
          (file ≡ other) × (flaw ≡ second)
      flaw-one [] file other flaw second f g = absurd f
      flaw-one (r ∷ rs) file other flaw second (inl f) (inl g) =
          let b : Both (λ text. IsFlawOf r.manner text flaw)
          (λ text. IsFlawOf r.manner text second) =
          both (name_at words r.place) (λ text. IsFlawOf r.manner text flaw)
          (λ text. IsFlawOf r.manner text second) f.1 g.1 in
          (sym f.0 ∙ g.0, one-flaw-of laws r.manner b.text flaw second b.first b.second)
      flaw-one (r ∷ rs) file other flaw second (inl f) (inr g) =
          absurd (open-sound r g.0 file flaw g.1 f)
      flaw-one (r ∷ rs) file other flaw second (inr f) (inl g) =
          absurd (open-sound r f.0 other second f.1 g)
      flaw-one (r ∷ rs) file other flaw second (inr f) (inr g) =
          flaw-one rs file other flaw second f.2 g.2

abbrev OneMeaning : Type 0
OneMeaning = (stages : List Stage) (a b : List Meaning) → AreMeanings stages a →
    AreMeanings stages b → a ≡ b

row-one : OneMeaning → (stages : List Stage) (input : List ℕ) (ending : Intake) (a b : Outcome) →
    IsRowOutcome stages input ending a → IsRowOutcome stages input ending b → a ≡ b
row-one law stages input ending a b p q =
    p.2 ∙ ap (λ (ms : List Meaning). row_outcome (meaning 1 ms input (text_ending ending)) ending)
    (law stages p.0 q.0 p.1 q.1) ∙ sym q.2

streams-one : (a b : List Stage) → Streams a ≡ Streams b → a ≡ b
streams-one a b e = cc

row-of-files : Laws → (a b : List Stage) → IsBuiltInRow a → IsBuiltInRow b → a ≡ b
row-of-files laws a b p q =
    let said : p.said ≡ q.said =
    opened-same built_in text_named refl laws run_words (files_of work_run) p.said q.said p.opened
    q.opened in
    streams-one a b (sym p.gives ∙ ap (gives_of work_run) said ∙ q.gives)

pub work-one : Laws → OneMeaning → (sentences : ℕ) (a b : Outcome) →
    IsWorkOutcome sentences a → IsWorkOutcome sentences b → a ≡ b
work-one laws law sentences a b (inl p) (inl q) =
    let stages : p.0 ≡ q.0 = row-of-files laws p.0 q.0 p.1 q.1 in
    let row : IsRowOutcome q.0 (made_text sentences) Clean p.2 =
    subst (λ (s : List Stage). IsRowOutcome s (made_text sentences) Clean p.2) stages p.3 in
    p.4 ∙ ap (λ (o : Outcome). worked_outcome sentences o.text o.status)
    (row-one law q.0 (made_text sentences) Clean p.2 q.2 row q.3) ∙ sym q.4
work-one laws law sentences a b (inl p) (inr q) =
    absurd (open-unflawed built_in text_named refl laws run_words (files_of work_run) p.1.said q.0
    q.1 p.1.opened q.2)
work-one laws law sentences a b (inr p) (inl q) =
    absurd (open-unflawed built_in text_named refl laws run_words (files_of work_run) q.1.said p.0
    p.1 q.1.opened p.2)
work-one laws law sentences a b (inr p) (inr q) =
    let same = flaw-one built_in text_named refl laws run_words (files_of work_run) p.0 q.0 p.1 q.1
    p.2 q.2 in
    p.3 ∙ ap (λ (f : ℕ). failed_outcome (of_built_in (status_of_flaw f p.1))) same.0
    ∙ ap (λ (f : Flaw). failed_outcome (of_built_in (status_of_flaw q.0 f))) same.1 ∙ sym q.3
