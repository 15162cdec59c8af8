-- Steps that are known by bytes: their marks, and what the work gives.
use Rattle.std.specs.Prelude.{◌≡◌, ℕ, ◌+◌, ◌-◌, ◌≤◌, max, nat_eq, Bool, true, false, List, [], ◌∷◌, ◌++◌, length, take, drop}
use Rattle.std.proofs.Common.{arith, refl, ap, sym, ◌∙◌, subst, inl, append_assoc, length-drop}
use Rattle.std.proofs.lemmas.Bool.{false≢true}
use Rattle.std.proofs.lemmas.Bool.Decides.{nat_tests}
use Rattle.std.proofs.lemmas.List.{drop-take, length-take-le, take_all}
use Rattle.ap_fst.specs.Sections.{Parts}
use Rattle.ap_stream.specs.Bare.{bare_item, bare_items, bare_run}
use Rattle.ap_stream.specs.Fronts.{GivesFront, GaveFront}
use Rattle.ap_stream.specs.Reading.{reads, counted}
use Rattle.ap_stream.specs.Rest.{worked}
use Rattle.ap_stream.specs.Steps.{bytes_of}
use Rattle.ap_stream.specs.Told.{Told, behind, or_else, stop_at}
use Rattle.ap_stream.specs.declared.dialect.Dialect.TheVariants.{Raw}
use Rattle.ap_stream.specs.declared.item.Read.{Read}
use Rattle.ap_stream.proofs.BareReads.{bare_drop, bare_reads, rest_reads, items_size}
use Rattle.ap_stream.proofs.FrontLaws.{then_given}
use Rattle.ap_stream.proofs.StepLaws.{turn_wrote}
use Rattle.ap_live.specs.Lexicon.{IsCoherent, Lexicon, lexicon_of}
use Rattle.ap_analysis.specs.Analysis.{first_step}
use Rattle.ap_analysis.specs.Fronts.{byte_marks, IsFront}
use Rattle.ap_analysis.specs.Held.{Held, work_of}
use Rattle.ap_analysis.specs.Kept.{mark_of, marks}
use Rattle.ap_analysis.specs.Licence.{span}
use Rattle.ap_analysis.proofs.Steps.{settles}

-- items of bare bytes

pub marks_are : (place : ℕ) (bytes : List ℕ) → marks (bare_items place bytes) ≡ byte_marks bytes
marks_are place [] = refl
marks_are place (b ∷ bytes) =
    ap (λ (ms : List ℕ). mark_of (bare_item b) ∷ ms) (marks_are (counted (place + 1)) bytes)

pub bytes_are : (place : ℕ) (bytes : List ℕ) → bytes_of (bare_items place bytes) ≡ length bytes
bytes_are place [] = refl
bytes_are place (b ∷ bytes) =
    let k = bytes_are (counted (place + 1)) bytes in omega (arith, k)

-- the work on the items, and then on those behind the step
module _ (p : Parts) (sensitive finished : Bool) (whole : IsCoherent (lexicon_of p sensitive))
    (piece : List ℕ) (used seen : ℕ) (before after : List ℕ)
    (is : IsFront (lexicon_of p sensitive) sensitive piece used seen before after) where
  abbrev pub held : Held
  held = record { compiled = p; sensitive = sensitive; items = []; finished = finished }

  abbrev pub front : List ℕ
  front = take seen piece

  size : length front ≡ seen
  size = length-take-le seen piece is.most

  one_turn : (place : ℕ) (xs : List Read) → work_of held (bare_items place front ++ xs)
      ≡ behind is.text (work_of held (drop used (bare_items place front) ++ xs))
  one_turn place xs =
      let step = is.step place in
      let n = items_size place front in
      let some = is.some in
      let within = is.within in
      sym (turn_wrote (first_step (lexicon_of p sensitive) sensitive) (span (lexicon_of p sensitive))
      (settles (lexicon_of p sensitive) sensitive whole) (bare_items place front) xs used is.text
      false (omega (arith, n, size, some, within)) some (omega (arith, n, size, within)) step.0
      (inl step.1) (λ e. absurd (false≢true e)))

  front_gives : GivesFront work_of Raw held front used is.text
  front_gives = record {
    gives = λ place counts x e.
        let more = reads Raw (counted (place + length front)) x in
        let within = is.within in
        ap (λ r. worked (work_of held) r e) (bare_reads Raw front is.bare place counts x)
        ∙ ap (λ (t : Told). record { text = t.text; fault = or_else t.fault (stop_at e more.stop) })
        (one_turn place more.items)
        ∙ ap (λ r. behind is.text (worked (work_of held) r e))
        (sym (rest_reads Raw front used is.bare (omega (arith, size, within)) place counts x));
  }

  pub front_gave : GaveFront work_of Raw held piece used seen before after
  front_gave = record {
    some = is.some;
    within = is.within;
    most = is.most;
    given = is.text;
    is = is.is;
    gives = front_gives;
  }

-- what is seen beyond what is used are items
pub seen_bare : (lexicon : Lexicon) (sensitive : Bool) (piece : List ℕ) (used seen : ℕ)
    (before after : List ℕ) → seen ≡ used + 2 →
    IsFront lexicon sensitive piece used seen before after →
    bare_run (take 2 (drop used piece)) ≡ true
seen_bare lexicon sensitive piece used seen before after e is =
    ap bare_run (sym (drop-take used 2 piece)
    ∙ ap (λ (k : ℕ). drop used (take k piece)) (sym e))
    ∙ bare_drop used (take seen piece) is.bare

pub told_two : (seen used left : ℕ) → left ≡ seen - used → nat_eq left 2 ≡ true →
    seen ≡ used + 2
told_two seen used left e t = let two : left ≡ 2 = grind (arith, nat_tests) in omega arith

-- what is seen gives what the work gives where nothing is held
pub seen_gave : (p : Parts) (sensitive finished : Bool) (items : List Read) (now : Held)
    (piece : List ℕ) (used seen : ℕ) (before after : List ℕ) →
    record { compiled = p; sensitive = sensitive; items = items; finished = finished } ≡ now →
    length items ≡ 0 → IsCoherent (lexicon_of now.compiled now.sensitive) →
    IsFront (lexicon_of p sensitive) sensitive piece used seen before after →
    GaveFront work_of Raw now piece used seen before after
seen_gave p sensitive finished [] now piece used seen before after view none whole is =
    subst (λ (h : Held). GaveFront work_of Raw h piece used seen before after) view
    (front_gave p sensitive finished
    (subst (λ (h : Held). IsCoherent (lexicon_of h.compiled h.sensitive)) (sym view) whole) piece
    used seen before after is)
seen_gave p sensitive finished (read ∷ items) now piece used seen before after view none whole is =
    absurd (omega (arith, none))

pub rest_is : (piece : List ℕ) (used : ℕ) →
    take (length piece - used) (drop used piece) ≡ drop used piece
rest_is piece used = take_all (length piece - used) (drop used piece)
    (let k = length-drop used piece in omega (arith, k))

-- a step, and then one of one byte
pub both_gave : (now : Held) (piece : List ℕ) (used seen all : ℕ) (before between after : List ℕ) →
    all ≡ max seen (used + 2) → GaveFront work_of Raw now piece used seen before between →
    GaveFront work_of Raw now (drop used piece) 1 2 between after →
    GaveFront work_of Raw now piece (used + 1) all before after
both_gave now piece used seen all before between after e g k =
    let rest = length-drop used piece in
    let within = g.within in
    let most = g.most in
    let more = k.most in
    let far : used + 2 ≤ length piece = omega (arith, rest, within, most, more) in
    record {
      some = omega arith;
      within = omega (arith, e);
      most = omega (arith, e, most, far);
      given = g.given ++ k.given;
      is = k.is ∙ ap (λ (z : List ℕ). z ++ k.given) g.is ∙ append_assoc before g.given k.given;
      gives = then_given work_of Raw now piece used seen 2 1 all g.given k.given within most
          (omega arith) far (omega (arith, e)) (omega (arith, e)) g.gives k.gives;
    }
