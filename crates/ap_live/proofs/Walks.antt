-- What earlier walks met.
use Rattle.std.proofs.Common.{◌≡◌, ◌⊎◌, inl, inr, ℕ, ◌+◌, Bool, List, [], ◌∷◌, ◌++◌, refl, sym, ◌∙◌, subst, arith}
use Rattle.ap_symbol.specs.declared.symbol.Symbol.{Symbol}
use Rattle.ap_fst.specs.Lists.{IsIn}
use Rattle.ap_fst.specs.Sections.{IsCompiled, Parts}
use Rattle.ap_fst.specs.declared.compiled.Kind2.TheVariants.{Standard, Inconditional, Postblank, Preblank}
use Rattle.ap_live.specs.Found.{has_words}
use Rattle.ap_live.specs.Lexicon.{Lexicon, lexicon_of}
use Rattle.ap_live.specs.Readings.{any_words}
use Rattle.ap_live.specs.SectionLives.{AreLive}
use Rattle.ap_live.specs.Walks.{AddsNote, AreMet, GoAlike, IsBlank, IsFoundIn, IsGiven, IsMetAt, IsNoteOf, IsNoted, IsWalked, MovesDown}
use Rattle.ap_live.specs.declared.live_sections.LiveSections.{LiveSections}
use Rattle.ap_live.specs.declared.met.Met.{Met}
use Rattle.ap_live.specs.declared.notes.Note.{Note}
use Rattle.ap_live.specs.declared.walked.Walked.{Walked}
use Rattle.ap_live.proofs.Alike.{go_alike}
use Rattle.ap_live.proofs.Spreading.{in_either}

-- ---- what callers know of the notes

module _ (p : Parts) (sensitive : Bool) (Holds : ℕ → ℕ → List Symbol → Type 0) where
  -- Nothing is noted, so of each note anything holds.
  pub walked_blank : (walked : Walked) → IsBlank walked → IsWalked p sensitive Holds walked
  walked_blank walked blank = λ place ahead met noted. absurd (blank place ahead met noted)

  -- What holds of a walk in these sections is noted with it.
  pub walked_noted : (place ahead : ℕ) (lives : LiveSections) (old new : Walked)
      (symbols : List Symbol) → AddsNote place ahead lives old new →
      AreLive p sensitive symbols lives → Holds place ahead symbols →
      IsWalked p sensitive Holds old → IsWalked p sensitive Holds new
  walked_noted place ahead lives old new symbols adds live holds walked = λ place' ahead' met noted.
      elim (adds place' ahead' met noted) [
        | inl was ↦ walked place' ahead' met was
        | inr is ↦ record {
          symbols = symbols;
          met_is = is.met_is p sensitive symbols live;
          holds = subst (λ (z : ℕ). Holds z ahead' symbols) (sym is.place_is)
              (subst (λ (z : ℕ). Holds place z symbols) (sym is.ahead_is) holds);
        }
      ]

  -- What holds of all notes may be said in other words.
  pub walked_as : (Holds' : ℕ → ℕ → List Symbol → Type 0) (walked : Walked) →
      ((place ahead : ℕ) (symbols : List Symbol) → Holds place ahead symbols →
      Holds' place ahead symbols)
      → IsWalked p sensitive Holds walked → IsWalked p sensitive Holds' walked
  walked_as Holds' walked other is = λ place ahead met noted.
      let w = is place ahead met noted in
      record {
        symbols = w.symbols;
        met_is = w.met_is;
        holds = other place ahead w.symbols w.holds;
      }

  -- Where the first held symbols leave, the notes are of places that are that much less.
  pub walked_passed : (Holds' : ℕ → ℕ → List Symbol → Type 0) (count : ℕ) (old new : Walked) →
      MovesDown count old new → ((place ahead : ℕ) (symbols : List Symbol) →
      Holds (count + place) ahead symbols → Holds' place ahead symbols)
      → IsWalked p sensitive Holds old → IsWalked p sensitive Holds' new
  walked_passed Holds' count old new moves other is = λ place ahead met noted.
      let w = is (count + place) ahead met (moves place ahead met noted) in
      record {
        symbols = w.symbols;
        met_is = w.met_is;
        holds = other place ahead w.symbols w.holds;
      }

  -- A walk that was met went on as this one will, and what was said of it holds.
  pub record WentAlike (place ahead : ℕ) (symbols : List Symbol) : Type 0 where
    pub before : List Symbol
    pub alike : GoAlike (lexicon_of p sensitive) before symbols
    pub holds : Holds place ahead before

  pub walked_met : (place ahead : ℕ) (lives : LiveSections) (walked : Walked)
      (symbols : List Symbol) → IsMetAt p walked place lives ahead →
      AreLive p sensitive symbols lives → IsWalked p sensitive Holds walked →
      WentAlike place ahead symbols
  walked_met place ahead lives walked symbols at live is =
      let w = is place ahead at.met at.noted in
      record {
        before = w.symbols;
        alike = at.alike sensitive w.symbols symbols w.met_is live;
        holds = w.holds;
      }

same_some : (a b c d : List (List Symbol)) → has_words a ≡ has_words c → has_words b ≡ has_words d →
    has_words (a ++ b) ≡ has_words (c ++ d)
same_some [] b [] d h k = k
same_some [] b (w ∷ c) d h k = cc
same_some (v ∷ a) b [] d h k = cc
same_some (v ∷ a) b (w ∷ c) d h k = refl

-- Where two walks go on alike, both have right words of any kind or neither has.
pub any_alike : (lexicon : Lexicon) (one two more : List Symbol) → GoAlike lexicon one two →
    has_words (any_words lexicon (one ++ more)) ≡ has_words (any_words lexicon (two ++ more))
any_alike lexicon one two more alike =
    same_some (lexicon.readings Standard (one ++ more)) _ (lexicon.readings Standard (two ++ more)) _
    (alike.reads Standard more)
    (same_some (lexicon.readings Inconditional (one ++ more)) _
    (lexicon.readings Inconditional (two ++ more)) _ (alike.reads Inconditional more)
    (same_some (lexicon.readings Postblank (one ++ more)) _
    (lexicon.readings Postblank (two ++ more)) _ (alike.reads Postblank more)
    (alike.reads Preblank more)))

-- ---- the calls

pub none_noted : (walked : Walked) → walked.recent ≡ [] → walked.earlier ≡ [] → IsBlank walked
none_noted walked r e = λ place ahead met noted. elim noted.listed [
  | inl i ↦ elim (subst (λ (z : List Note). IsIn noted.note z) r i) [ ]
  | inr i ↦ elim (subst (λ (z : List Note). IsIn noted.note z) e i) [ ]
]

pub blank_moves : (count : ℕ) (old new : Walked) → IsBlank new → MovesDown count old new
blank_moves count old new blank = λ place ahead met noted. absurd (blank place ahead met noted)

pub same_moves : (count : ℕ) (old new : Walked) → new.recent ≡ old.recent →
    new.earlier ≡ old.earlier → new.passed ≡ old.passed + count → MovesDown count old new
same_moves count old new r e passed = λ place ahead met noted. record {
  note = noted.note;
  listed = elim noted.listed [
    | inl i ↦ inl (subst (λ (z : List Note). IsIn noted.note z) r i)
    | inr i ↦ inr (subst (λ (z : List Note). IsIn noted.note z) e i)
  ];
  place_is = let is = noted.place_is in omega (arith, is, passed);
  ahead_is = noted.ahead_is;
  met_is = noted.met_is;
}

pub same_adds : (place ahead : ℕ) (lives : LiveSections) (old : Walked) →
    AddsNote place ahead lives old old
same_adds place ahead lives old = λ place' ahead' met noted. inl noted

-- the note that was added, or one of those that were kept
added_or_kept : (place at ahead place' ahead' : ℕ) (met met' : Met) (lives : LiveSections)
    (old : Walked) (note : Note) → at ≡ old.passed + place
    → ((p : Parts) (sensitive : Bool) (symbols : List Symbol) → AreLive p sensitive symbols lives →
    AreMet p sensitive symbols met)
    → note.place ≡ old.passed + place' → note.ahead ≡ ahead' → note.met ≡ met' →
    (IsIn note old.recent ⊎ IsIn note old.earlier) ⊎ IsGiven at ahead met note →
    IsNoted old place' ahead' met' ⊎ IsNoteOf place ahead lives place' ahead' met'
added_or_kept place at ahead place' ahead' met met' lives old note a live pi ai mi (inl kept) =
    inl (record { note = note; listed = kept; place_is = pi; ahead_is = ai; met_is = mi })
added_or_kept place at ahead place' ahead' met met' lives old note a live pi ai mi (inr given) =
    let given_place : note.place ≡ at = given.place_is in
    inr (record {
      place_is = omega (arith, given_place, a, pi);
      ahead_is = sym ai ∙ given.ahead_is;
      met_is = λ p sensitive symbols is. subst (λ (z : Met). AreMet p sensitive symbols z)
          (sym given.met_is ∙ mi) (live p sensitive symbols is);
    })

pub note_added : (place at ahead : ℕ) (met : Met) (lives : LiveSections) (old middle new : Walked)
    → at ≡ old.passed + place
    → ((p : Parts) (sensitive : Bool) (symbols : List Symbol) → AreLive p sensitive symbols lives →
    AreMet p sensitive symbols met)
    → ((note : Note) → IsIn note middle.recent ⊎ IsIn note middle.earlier →
    IsIn note old.recent ⊎ IsIn note old.earlier)
    → middle.passed ≡ old.passed
    → ((note : Note) → IsIn note new.recent → IsIn note middle.recent ⊎ IsGiven at ahead met note)
    → new.earlier ≡ middle.earlier → new.passed ≡ middle.passed →
    AddsNote place ahead lives old new
note_added place at ahead met lives old middle new a live kept passed adds e passed' =
    λ place' ahead' met' noted.
    let is = noted.place_is in
    added_or_kept place at ahead place' ahead' met met' lives old noted.note a live
    (omega (arith, is, passed, passed')) noted.ahead_is noted.met_is
    (elim noted.listed [
      | inl i ↦ elim (adds noted.note i) [
        | inl k ↦ inl (kept noted.note (inl k))
        | inr given ↦ inr given
      ]
      | inr i ↦ inl (kept noted.note
          (inr (subst (λ (z : List Note). IsIn noted.note z) e i)))
    ])

-- the last of these is the one that was given
pub last_given : (place ahead : ℕ) (met : Met) (old own new : List Note) (last : Note) →
    own ≡ old → new ≡ own ++ last ∷ [] → IsGiven place ahead met last → (note : Note) →
    IsIn note new → IsIn note old ⊎ IsGiven place ahead met note
last_given place ahead met old own new last o e given note i =
    elim (in_either note own (last ∷ []) (subst (λ (z : List Note). IsIn note z) e i)) [
      | inl k ↦ inl (subst (λ (z : List Note). IsIn note z) o k)
      | inr k ↦
          elim k [
            | inl is ↦ inr (subst (λ (z : Note). IsGiven place ahead met z) (sym is) given)
            | inr none ↦ elim none [ ]
          ]
    ]

-- what was found among the notes
pub found_met : (p : Parts) (walked : Walked) (notes : List Note) (place at ahead : ℕ) (met : Met)
    (lives : LiveSections) → IsCompiled p → at ≡ walked.passed + place
    → ((note : Note) → IsIn note notes → IsIn note walked.recent ⊎ IsIn note walked.earlier)
    → ((p : Parts) (sensitive : Bool) (symbols : List Symbol) → AreLive p sensitive symbols lives →
    AreMet p sensitive symbols met)
    → IsFoundIn notes at met ahead → IsMetAt p walked place lives ahead
found_met p walked notes place at ahead met lives compiled a among live found = record {
  met = found.note.met;
  noted = record {
    note = found.note;
    listed = among found.note found.listed;
    place_is = found.place_is ∙ a;
    ahead_is = found.ahead_is;
    met_is = refl;
  };
  alike = λ sensitive one two first second. go_alike p sensitive one two found.note.met met compiled
      found.same first (live p sensitive two second);
}
