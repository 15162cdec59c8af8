-- When the bytes at the front are those of a kept step.
use Rattle.std.specs.Prelude.{◌≡◌, ℕ, suc, zero, ◌+◌, ◌-◌, ◌<◌, ◌≤◌, Bool, true, false, ◌||◌, ◌&&◌, List, [], ◌∷◌, ◌++◌, length, take, drop, Result, Ok, Err, is_ok, refl, if◌then◌else◌}
use Rattle.std.specs.List.{AllByRecursion}
use Rattle.std.proofs.Common.{arith, ap, sym, ◌∙◌, subst, get_or, length-drop}
use Rattle.std.proofs.lemmas.Bool.{and_parts}
use Rattle.std.proofs.lemmas.List.{take-take, take_all, drop_all, length-append, take-append-le, drop-append-le}
use Rattle.std.proofs.Math.Seq.{take-add}
use Rattle.ap_stream.specs.Bare.{plain_byte, plain_first, bare_run}
use Rattle.ap_stream.specs.Blanks.{is_white}
use Rattle.ap_stream.specs.Steps.{Gives}
use Rattle.ap_live.specs.Lexicon.{Lexicon}
use Rattle.ap_analysis.specs.Endings.{is_ending}
use Rattle.ap_analysis.specs.FrontSteps.{FrontStep, IsFrontStep, IsHeld, FitsStep, EndsBare, IsSpaceStep, CopiesSpace, follows_key, step_of}
use Rattle.ap_analysis.specs.declared.front_steps.Mark.{Mark}
use Rattle.ap_analysis.proofs.Keys.{kept_pushed}

-- Bare bytes behind bare bytes.

or_first : (p w f g : Bool) → (p || (w && f)) ≡ true → (f ≡ true → g ≡ true) →
    (p || (w && g)) ≡ true
or_first true w f g h k = refl
or_first false true true g h k = k refl
or_first false true false g h k = absurd (cc)
or_first false false f g h k = absurd (cc)

first_grows : (a b : List ℕ) → plain_first a ≡ true → plain_first (a ++ b) ≡ true
first_grows [] b h = absurd (cc)
first_grows (x ∷ a) b h = h

pub bare_joined : (a b : List ℕ) → bare_run a ≡ true → bare_run b ≡ true →
    bare_run (a ++ b) ≡ true
bare_joined [] b h k = k
bare_joined (x ∷ a) b h k =
    let both = and_parts (plain_byte x || (is_white x && plain_first a)) (bare_run a) h in
    rw (or_first (plain_byte x) (is_white x) (plain_first a) (plain_first (a ++ b)) both.0
    (first_grows a b)) (bare_joined a b both.1 k)

ending_first : (piece : List ℕ) (size seen : ℕ) → size < seen → size < length piece →
    follows_key true (drop size (take seen piece)) ≡ is_ending (get_or piece size 0)
ending_first [] size seen lt more = absurd (omega (arith, more))
ending_first (b ∷ piece) size zero lt more = absurd (omega (arith, lt))
ending_first (b ∷ piece) zero (suc seen) lt more = refl
ending_first (b ∷ piece) (suc size) (suc seen) lt more =
    ending_first piece size seen (omega (arith, lt)) (omega (arith, more))

-- behind an open key stands an ending
pub fits_open : (key piece : List ℕ) (seen : ℕ) → length key ≤ 256 → length key < length piece →
    take (length key) piece ≡ key → is_ending (get_or piece (length key) 0) ≡ true →
    EndsBare piece (length key) (length key) seen → FitsStep key true piece seen
fits_open key piece seen few longer same ending is =
    let size : ℕ = length key in
    let beyond = is.beyond in
    let near = is.near in
    let inside : size ≤ seen = omega (arith, beyond) in
    let n : size + (seen - size) ≡ seen = omega (arith, inside) in
    let front : take seen piece ≡ take size piece ++ take (seen - size) (drop size piece) =
    ap (λ (k : ℕ). take k piece) (sym n) ∙ take-add size (seen - size) piece in
    record {
      some = omega (arith, beyond);
      most = is.most;
      few = omega (arith, near, few);
      begins = take-take size seen piece inside ∙ same;
      follows = ending_first piece size seen beyond longer ∙ ending;
      bare = λ bare_key. ap bare_run (front
          ∙ ap (λ (k : List ℕ). k ++ take (seen - size) (drop size piece)) same)
          ∙ bare_joined key (take (seen - size) (drop size piece)) (bare_key refl) is.bare;
    }

-- a step that copies a space tells that one is copied
pub space_copied : (lexicon : Lexicon) (sensitive : Bool) (step : FrontStep) → IsSpaceStep step →
    IsFrontStep lexicon sensitive step → CopiesSpace lexicon sensitive
space_copied lexicon sensitive step space is = λ bytes bare first few place.
    let key_is = space.key_is in
    let key : take (length step.key) bytes ≡ step.key = rw key_is first in
    let open_ : follows_key step.any_ending (drop (length step.key) bytes) ≡ true =
    rw space.ended refl in
    let s = is.gives bytes bare key open_ few place in
    (s.0 ∙ ap (λ n. Gives n step.text) space.count_is ∙ ap (Gives 1) space.text_is, s.1)

-- Steps at marks.

-- what stands among some bytes stands there where more come behind them
pub part_same : (first size : ℕ) (bytes more : List ℕ) → first + size ≤ length bytes →
    take size (drop first (bytes ++ more)) ≡ take size (drop first bytes)
part_same first size bytes more within =
    let n = length-drop first bytes in
    ap (take size) (drop-append-le first bytes more (omega (arith, within)))
    ∙ take-append-le size (drop first bytes) more (omega (arith, n, within))

pub held_on : (lexicon : Lexicon) (sensitive : Bool) (bytes more : List ℕ) (mark : Mark) →
    IsHeld lexicon sensitive bytes mark → IsHeld lexicon sensitive (bytes ++ more) mark
held_on lexicon sensitive bytes more mark held =
    let within = held.within in
    let size = length-append bytes more in
    let key = part_same mark.first mark.size bytes more (omega (arith, within)) in
    let text = part_same (mark.first + mark.size) mark.wrote bytes more within in
    record {
      within = omega (arith, within, size);
      is = subst (λ (k : List ℕ). IsFrontStep lexicon sensitive
          (step_of k (take mark.wrote (drop (mark.first + mark.size) (bytes ++ more))) mark.count
          mark.any_ending)) (sym key)
          (subst (λ (t : List ℕ). IsFrontStep lexicon sensitive
          (step_of (take mark.size (drop mark.first bytes)) t mark.count mark.any_ending))
          (sym text) held.is);
    }

pub all_held_on : (lexicon : Lexicon) (sensitive : Bool) (bytes more : List ℕ)
    (marks : List Mark) → AllByRecursion (IsHeld lexicon sensitive bytes) marks →
    AllByRecursion (IsHeld lexicon sensitive (bytes ++ more)) marks
all_held_on lexicon sensitive bytes more [] all = all
all_held_on lexicon sensitive bytes more (mark ∷ marks) all = (
  held_on lexicon sensitive bytes more mark all.0,
  all_held_on lexicon sensitive bytes more marks all.1,
)

behind_all : (xs ys : List ℕ) → drop (length xs) (xs ++ ys) ≡ ys
behind_all xs ys = drop-append-le (length xs) xs ys (omega arith)
    ∙ ap (λ (z : List ℕ). z ++ ys) (drop_all (length xs) xs (omega arith))

-- a step whose key and text were appended stands at its mark
pub newly_held : (lexicon : Lexicon) (sensitive : Bool) (bytes key text : List ℕ) (mark : Mark) →
    mark.first ≡ length bytes → mark.size ≡ length key → mark.wrote ≡ length text →
    IsFrontStep lexicon sensitive (step_of key text mark.count mark.any_ending) →
    IsHeld lexicon sensitive ((bytes ++ key) ++ text) mark
newly_held lexicon sensitive bytes key text mark first size wrote is =
    let n = length-append bytes key in
    let m = length-append (bytes ++ key) text in
    let key_at : take mark.size (drop mark.first ((bytes ++ key) ++ text)) ≡ key =
    part_same mark.first mark.size (bytes ++ key) text (omega (arith, n, first, size))
    ∙ ap (λ (k : ℕ). take mark.size (drop k (bytes ++ key))) first
    ∙ ap (take mark.size) (behind_all bytes key)
    ∙ take_all mark.size key (omega (arith, size)) in
    let middle : mark.first + mark.size ≡ length (bytes ++ key) = omega (arith, n, first, size) in
    let text_at : take mark.wrote (drop (mark.first + mark.size) ((bytes ++ key) ++ text)) ≡ text =
    ap (λ (k : ℕ). take mark.wrote (drop k ((bytes ++ key) ++ text))) middle
    ∙ ap (take mark.wrote) (behind_all (bytes ++ key) text)
    ∙ take_all mark.wrote text (omega (arith, wrote)) in
    record {
      within = omega (arith, m, middle, wrote);
      is = subst (λ (k : List ℕ). IsFrontStep lexicon sensitive
          (step_of k (take mark.wrote (drop (mark.first + mark.size) ((bytes ++ key) ++ text)))
          mark.count mark.any_ending)) (sym key_at)
          (subst (λ (t : List ℕ). IsFrontStep lexicon sensitive
          (step_of key t mark.count mark.any_ending)) (sym text_at) is);
    }

-- bytes that may be appended leave the steps as they are
pub all_grown : {T E : Type 0} (r : Result T E) (lexicon : Lexicon) (sensitive : Bool)
    (bytes more new : List ℕ) (marks : List Mark) →
    new ≡ (if is_ok r then bytes ++ more else bytes) →
    AllByRecursion (IsHeld lexicon sensitive bytes) marks →
    AllByRecursion (IsHeld lexicon sensitive new) marks
all_grown (Ok x) lexicon sensitive bytes more new marks e all =
    subst (λ (z : List ℕ). AllByRecursion (IsHeld lexicon sensitive z) marks) (sym e)
    (all_held_on lexicon sensitive bytes more marks all)
all_grown (Err x) lexicon sensitive bytes more new marks e all =
    subst (λ (z : List ℕ). AllByRecursion (IsHeld lexicon sensitive z) marks) (sym e) all

pub appended : {T E : Type 0} (r : Result T E) (x : T) (bytes more new : List ℕ) → r ≡ Ok x →
    new ≡ (if is_ok r then bytes ++ more else bytes) → new ≡ bytes ++ more
appended r x bytes more new was e = rw was at e

-- the step whose key and text were appended may be given a mark
pub all_marked : {T E : Type 0} (r : Result T E) (lexicon : Lexicon) (sensitive : Bool)
    (bytes key text one both : List ℕ) (marks new : List Mark) (mark : Mark) →
    one ≡ bytes ++ key → both ≡ one ++ text →
    new ≡ (if is_ok r then marks ++ mark ∷ [] else marks) → mark.first ≡ length bytes →
    mark.size ≡ length key → mark.wrote ≡ length text →
    IsFrontStep lexicon sensitive (step_of key text mark.count mark.any_ending) →
    AllByRecursion (IsHeld lexicon sensitive bytes) marks →
    AllByRecursion (IsHeld lexicon sensitive both) new
all_marked r lexicon sensitive bytes key text one both marks new mark a b e first size wrote is all =
    subst (λ (z : List ℕ). AllByRecursion (IsHeld lexicon sensitive z) new)
    (sym (b ∙ ap (λ (z : List ℕ). z ++ text) a))
    (kept_pushed r (IsHeld lexicon sensitive ((bytes ++ key) ++ text)) marks new mark e
    (newly_held lexicon sensitive bytes key text mark first size wrote is)
    (all_held_on lexicon sensitive (bytes ++ key) text marks
    (all_held_on lexicon sensitive bytes key marks all)))
