-- What some bytes decide of the item at their front stays so, however they go on.
use Rattle.std.specs.Prelude.{◌≡◌, ℕ, zero, suc, pred, ◌+◌, ◌≤◌, List, [], ◌∷◌, ◌++◌, take, length, Bool, true, false, cond, eqb, ◌&&◌, not, refl}
use Rattle.std.proofs.Common.{arith, ap, subst, ◌∙◌}
use Rattle.std.proofs.lemmas.Bool.{eqb-true, and_parts}
use Rattle.std.proofs.lemmas.List.{take-append-le}
use Rattle.ap_symbol.specs.TagNames.{is_reserved_lem}
use Rattle.ap_symbol.specs.declared.symbol.Symbol.{Symbol}
use Rattle.ap_symbol.specs.declared.symbol.Symbol.TheVariants.{Tag}
use Rattle.ap_stream.specs.declared.dialect.Dialect.{Dialect}
use Rattle.ap_stream.specs.declared.dialect.Dialect.TheVariants.{Lexical}
use Rattle.ap_stream.specs.declared.fault.MalformedKind.TheVariants.{Stray, BadTag, EmptyWord}
use Rattle.ap_stream.specs.declared.item.Inner.{Inner}
use Rattle.ap_stream.specs.declared.item.Inner.TheVariants as inner
use Rattle.ap_stream.specs.declared.item.Item.TheVariants as item
use Rattle.ap_stream.specs.Blanks.{Close, Within, Bad, Closed, closing, closing_by, closes, escapes, longer, Run, Open, Inside, BadChar, Done, further, behind_close, blank, is_white, begins_blank}
use Rattle.ap_stream.specs.Chars.{Front, Part, NotChar, Char, char_at}
use Rattle.ap_stream.proofs.CharLaws.{Stays, char_stays}
use Rattle.ap_stream.specs.Chunks.{Portion, Begun, Barred, Held, Braced, blank_portion, unit_portion, portion, wrong_byte, Body, Opens, Fails, Closes, behind_part, behind_portion, closed, body}
use Rattle.ap_stream.specs.Dialects.{has_chunks}
use Rattle.ap_symbol.specs.Kinds.{first_word}
use Rattle.ap_stream.specs.Reading.{First, Needs, Whole, Faulty, Bad as OfKind, first, begins_unit, of_run, of_escaped, of_char, of_unit, of_chunk, of_caret, of_body}
use Rattle.ap_stream.specs.Units.{Form, Name, Runs, Breaks, Stops, name, name_by, behind_name, Sign, Awaits, Bars, Reads, Slash, Dollar, Brace, sign, of_name, of_escape, of_bare, begins_tag, Rest, Lacks, Wrong, Ends, rest, longer as longer_rest, gone, in_surface, may_part, form_of}
use Rattle.ap_stream.proofs.Cut.{name_cut}
use Rattle.ap_stream.proofs.Rows.{RunRow, run_row}

-- What is decided stays so; what lacks bytes may come to anything.
abbrev pub StaysSo : {A : Type 0} → (A → Bool) → A → A → Type 0
StaysSo lacks f g = lacks f ≡ false → g ≡ f

stays_same : {A : Type 0} (lacks : A → Bool) (f : A) → StaysSo lacks f f
stays_same lacks f h = refl

stays_cond : {A : Type 0} (lacks : A → Bool) (v : Bool) (f g f' g' : A) → StaysSo lacks f f' →
    StaysSo lacks g g' → StaysSo lacks (cond v f g) (cond v f' g')
stays_cond lacks true f g f' g' h k = h
stays_cond lacks false f g f' g' h k = k

-- what is made of it
stays_on : {A B : Type 0} (lacks : A → Bool) (lacks' : B → Bool) (on on' : A → B) (f g : A) →
    ((a : A) → lacks a ≡ true → lacks' (on a) ≡ true)
    → ((a : A) → lacks a ≡ false → StaysSo lacks' (on a) (on' a)) → StaysSo lacks f g →
    StaysSo lacks' (on f) (on' g)
stays_on lacks lacks' on on' f g waits stays h e = by (lacks f) refl
  where
    by : (v : Bool) → lacks f ≡ v → on' g ≡ on f
    by true is = absurd (let k : lacks' (on f) ≡ true = waits f is in cc)
    by false is = ap on' (h is) ∙ stays f is e

-- a character

abbrev is_part : Front → Bool
is_part Part = true
is_part NotChar = false
is_part (Char c n) = false

front_stays : (p x : List ℕ) → StaysSo is_part (char_at p) (char_at (p ++ x))
front_stays p x = by (char_at p) (char_at (p ++ x)) (char_stays p x)
  where
    by : (f g : Front) → Stays f g → StaysSo is_part f g
    by Part g h e = absurd (cc)
    by NotChar g h e = h
    by (Char c n) g h e = h

-- a superblank behind its bracket

abbrev is_within : Close → Bool
is_within Within = true
is_within Bad = false
is_within (Closed n) = false

longer_within : (n : ℕ) (c : Close) → is_within c ≡ true → is_within (longer n c) ≡ true
longer_within n Within h = refl
longer_within n Bad h = absurd (cc)
longer_within n (Closed m) h = absurd (cc)

closing_stays : (e : Bool) (skip : ℕ) (p x : List ℕ) →
    StaysSo is_within (closing e skip p) (closing e skip (p ++ x))
unfolding closing
closing_stays e skip [] x h = absurd (cc)
closing_stays e (suc skip) (b ∷ p) x h = closing_stays e skip p x h
closing_stays e zero (b ∷ p) x h =
    stays_on is_part is_within (λ f. closing_by e f (λ v skip. closing v skip p))
    (λ f. closing_by e f (λ v skip. closing v skip (p ++ x))) (char_at (b ∷ p))
    (char_at (b ∷ (p ++ x))) waits (on (λ v skip k. closing_stays v skip p x k))
    (front_stays (b ∷ p) x) h
  where
    waits : (f : Front) → is_part f ≡ true →
        is_within (closing_by e f (λ v skip. closing v skip p)) ≡ true
    waits Part k = refl
    waits NotChar k = absurd (cc)
    waits (Char c n) k = absurd (cc)

    on : ((v : Bool) (skip : ℕ) → StaysSo is_within (closing v skip p) (closing v skip (p ++ x))) →
        (f : Front) → is_part f ≡ false
        → StaysSo is_within (closing_by e f (λ v skip. closing v skip p))
        (closing_by e f (λ v skip. closing v skip (p ++ x)))
    on go Part k = absurd (cc)
    on go NotChar k = stays_same is_within Bad
    on go (Char c n) k =
        stays_cond is_within (closes e c) (Closed n) (longer n (closing (escapes e c) (pred n) p))
        (Closed n) (longer n (closing (escapes e c) (pred n) (p ++ x)))
        (stays_same is_within (Closed n))
        (stays_on is_within is_within (longer n) (longer n) (closing (escapes e c) (pred n) p)
        (closing (escapes e c) (pred n) (p ++ x)) (longer_within n)
        (λ a _. stays_same is_within (longer n a)) (go (escapes e c) (pred n)))

-- a blank

abbrev is_open : Run → Bool
is_open Open = true
is_open Inside = true
is_open BadChar = false
is_open (Done n) = false

further_open : (n : ℕ) (r : Run) → is_open r ≡ true → is_open (further n r) ≡ true
further_open n Open h = refl
further_open n Inside h = refl
further_open n BadChar h = absurd (cc)
further_open n (Done m) h = absurd (cc)

further_stays : (n : ℕ) (r s : Run) → StaysSo is_open r s →
    StaysSo is_open (further n r) (further n s)
further_stays n r s h = stays_on is_open is_open (further n) (further n) r s (further_open n)
    (λ a _. stays_same is_open (further n a)) h

behind_stays : (c d : Close) (more more' : ℕ → Run) → StaysSo is_within c d →
    ((n : ℕ) → StaysSo is_open (more n) (more' n)) →
    StaysSo is_open (behind_close c more) (behind_close d more')
behind_stays c d more more' h go =
    stays_on is_within is_open (λ z. behind_close z more) (λ z. behind_close z more') c d waits on h
  where
    waits : (z : Close) → is_within z ≡ true → is_open (behind_close z more) ≡ true
    waits Within k = refl
    waits Bad k = absurd (cc)
    waits (Closed n) k = absurd (cc)

    on : (z : Close) → is_within z ≡ false →
        StaysSo is_open (behind_close z more) (behind_close z more')
    on Within k = absurd (cc)
    on Bad k = stays_same is_open BadChar
    on (Closed n) k = further_stays n (more n) (more' n) (go n)

blank_stays : (skip : ℕ) (p x : List ℕ) → StaysSo is_open (blank skip p) (blank skip (p ++ x))
unfolding blank
blank_stays skip [] x h = absurd (cc)
blank_stays (suc skip) (b ∷ p) x h = blank_stays skip p x h
blank_stays zero (b ∷ p) x h =
    stays_cond is_open (is_white b) (further 1 (blank 0 p)) _ (further 1 (blank 0 (p ++ x))) _
    (further_stays 1 (blank 0 p) (blank 0 (p ++ x)) (λ k. blank_stays 0 p x k))
    (stays_cond is_open (eqb b 91)
    (further 1 (behind_close (closing false 0 p) (λ n. blank n p))) (Done 0)
    (further 1 (behind_close (closing false 0 (p ++ x)) (λ n. blank n (p ++ x)))) (Done 0)
    (further_stays 1 (behind_close (closing false 0 p) (λ n. blank n p))
    (behind_close (closing false 0 (p ++ x)) (λ n. blank n (p ++ x)))
    (behind_stays (closing false 0 p) (closing false 0 (p ++ x)) (λ n. blank n p)
    (λ n. blank n (p ++ x)) (closing_stays false 0 p x) (λ n k. blank_stays n p x k)))
    (stays_same is_open (Done 0))) h

-- a blank has no more bytes than are there
blank_fits : (b : ℕ) (p : List ℕ) (n : ℕ) → blank 0 (b ∷ p) ≡ Done n → n ≤ length (b ∷ p)
blank_fits b p n e = (subst (RunRow (b ∷ p)) e (run_row 0 (b ∷ p))).1

-- a tag's name

abbrev runs_on : Name → Bool
runs_on Runs = true
runs_on Breaks = false
runs_on (Stops n c) = false

behind_runs : (n : ℕ) (r : Name) → runs_on r ≡ true → runs_on (behind_name n r) ≡ true
behind_runs n Runs h = refl
behind_runs n Breaks h = absurd (cc)
behind_runs n (Stops m c) h = absurd (cc)

name_stays : (skip : ℕ) (p x : List ℕ) → StaysSo runs_on (name skip p) (name skip (p ++ x))
unfolding name
name_stays skip [] x h = absurd (cc)
name_stays (suc skip) (b ∷ p) x h = name_stays skip p x h
name_stays zero (b ∷ p) x h =
    stays_on is_part runs_on (λ f. name_by f (λ k. name k p))
    (λ f. name_by f (λ k. name k (p ++ x)))
    (char_at (b ∷ p)) (char_at (b ∷ (p ++ x))) waits (on (λ k e. name_stays k p x e))
    (front_stays (b ∷ p) x) h
  where
    waits : (f : Front) → is_part f ≡ true → runs_on (name_by f (λ k. name k p)) ≡ true
    waits Part k = refl
    waits NotChar k = absurd (cc)
    waits (Char c n) k = absurd (cc)

    on : ((k : ℕ) → StaysSo runs_on (name k p) (name k (p ++ x))) → (f : Front) → is_part f ≡ false
        → StaysSo runs_on (name_by f (λ k. name k p)) (name_by f (λ k. name k (p ++ x)))
    on go Part k = absurd (cc)
    on go NotChar k = stays_same runs_on Breaks
    on go (Char c n) k =
        stays_cond runs_on (is_reserved_lem c) (Stops 0 c) (behind_name n (name (pred n) p))
        (Stops 0 c) (behind_name n (name (pred n) (p ++ x))) (stays_same runs_on (Stops 0 c))
        (stays_on runs_on runs_on (behind_name n) (behind_name n) (name (pred n) p)
        (name (pred n) (p ++ x)) (behind_runs n) (λ a _. stays_same runs_on (behind_name n a))
        (go (pred n)))

-- a symbol of a word

abbrev awaits : Sign → Bool
awaits Awaits = true
awaits (Bars kind) = false
awaits (Reads s n) = false
awaits Slash = false
awaits Dollar = false
awaits Brace = false

escape_awaits : (f : Front) → is_part f ≡ true → awaits (of_escape f) ≡ true
escape_awaits Part h = refl
escape_awaits NotChar h = absurd (cc)
escape_awaits (Char c n) h = absurd (cc)

bare_awaits : (surface : Bool) (f : Front) → is_part f ≡ true → awaits (of_bare surface f) ≡ true
bare_awaits surface Part h = refl
bare_awaits surface NotChar h = absurd (cc)
bare_awaits surface (Char c n) h = absurd (cc)

-- the tag is the same
tag_stays : (p x : List ℕ) →
    StaysSo awaits (of_name p (name 0 p)) (of_name (p ++ x) (name 0 (p ++ x)))
tag_stays p x = by (name 0 p) refl (name_stays 0 p x)
  where
    same : (n c : ℕ) → name 0 p ≡ Stops n c → (v : Bool) → (eqb c 62 && not (eqb n 0)) ≡ v →
        cond v (Reads (Tag (take n (p ++ x))) (2 + n)) (Bars BadTag)
        ≡ cond v (Reads (Tag (take n p)) (2 + n)) (Bars BadTag)
    same n c e true w =
        let is : c ≡ 62 = eqb-true c 62 (and_parts (eqb c 62) (not (eqb n 0)) w).0 in
        let cut = name_cut 0 p [] n c e (omega (arith, is)) in
        ap (λ (q : List ℕ). Reads (Tag q) (2 + n)) (take-append-le n p x (omega (arith, cut.1)))
    same n c e false w = refl

    by : (r : Name) → name 0 p ≡ r → StaysSo runs_on r (name 0 (p ++ x)) →
        StaysSo awaits (of_name p r) (of_name (p ++ x) (name 0 (p ++ x)))
    by Runs e h k = absurd (cc)
    by Breaks e h k = ap (of_name (p ++ x)) (h refl)
    by (Stops n c) e h k = ap (of_name (p ++ x)) (h refl)
        ∙ same n c e (eqb c 62 && not (eqb n 0)) refl

sign_stays : (surface : Bool) (p x : List ℕ) →
    StaysSo awaits (sign surface p) (sign surface (p ++ x))
unfolding sign
sign_stays surface [] x h = absurd (cc)
sign_stays surface (b ∷ p) x h =
    stays_cond awaits (eqb b 92) (of_escape (char_at p)) _ (of_escape (char_at (p ++ x))) _
    (stays_on is_part awaits of_escape of_escape (char_at p) (char_at (p ++ x)) escape_awaits
    (λ a _. stays_same awaits (of_escape a)) (front_stays p x))
    (stays_cond awaits (begins_tag surface b) (of_name p (name 0 p))
    (of_bare surface (char_at (b ∷ p)))
    (of_name (p ++ x) (name 0 (p ++ x))) (of_bare surface (char_at (b ∷ (p ++ x)))) (tag_stays p x)
    (stays_on is_part awaits (of_bare surface) (of_bare surface) (char_at (b ∷ p))
    (char_at (b ∷ (p ++ x))) (bare_awaits surface) (λ a _. stays_same awaits (of_bare surface a))
    (front_stays (b ∷ p) x))) h

-- the rest of a unit, or of a chunk's name

abbrev lacks : Rest → Bool
lacks Lacks = true
lacks (Wrong kind) = false
lacks (Ends words n) = false

longer_lacks : (n : ℕ) (r : Rest) → lacks r ≡ true → lacks (longer_rest n r) ≡ true
longer_lacks n Lacks h = refl
longer_lacks n (Wrong kind) h = absurd (cc)
longer_lacks n (Ends words m) h = absurd (cc)

longer_stays : (n : ℕ) (r s : Rest) → StaysSo lacks r s →
    StaysSo lacks (longer_rest n r) (longer_rest n s)
longer_stays n r s h = stays_on lacks lacks (longer_rest n) (longer_rest n) r s (longer_lacks n)
    (λ a _. stays_same lacks (longer_rest n a)) h

module _ (form : Form) where
  rest_stays : (words : List (List Symbol)) (word : List Symbol) (skip : ℕ) (p x : List ℕ) →
      StaysSo lacks (rest form words word skip p) (rest form words word skip (p ++ x))
  unfolding rest
  rest_stays words word skip [] x h = absurd (cc)
  rest_stays words word (suc skip) (b ∷ p) x h = rest_stays words word skip p x h
  rest_stays words word zero (b ∷ p) x h =
      stays_on awaits lacks (λ s. gone form words word s (λ ws w k. rest form ws w k p))
      (λ s. gone form words word s (λ ws w k. rest form ws w k (p ++ x)))
      (sign (in_surface form words) (b ∷ p)) (sign (in_surface form words) (b ∷ (p ++ x))) waits
      (on (λ ws w k e. rest_stays ws w k p x e)) (sign_stays (in_surface form words) (b ∷ p) x) h
    where
      waits : (s : Sign) → awaits s ≡ true →
          lacks (gone form words word s (λ ws w k. rest form ws w k p)) ≡ true
      waits Awaits k = refl
      waits (Bars kind) k = absurd (cc)
      waits (Reads s n) k = absurd (cc)
      waits Slash k = absurd (cc)
      waits Dollar k = absurd (cc)
      waits Brace k = absurd (cc)

      on : ((ws : List (List Symbol)) (w : List Symbol) (k : ℕ) →
          StaysSo lacks (rest form ws w k p) (rest form ws w k (p ++ x))) →
          (s : Sign) → awaits s ≡ false →
          StaysSo lacks (gone form words word s (λ ws w k. rest form ws w k p))
          (gone form words word s (λ ws w k. rest form ws w k (p ++ x)))
      on go Awaits k = absurd (cc)
      on go (Bars kind) k = stays_same lacks (Wrong kind)
      on go (Reads s n) k =
          longer_stays n (rest form words (word ++ s ∷ []) (pred n) p)
          (rest form words (word ++ s ∷ []) (pred n) (p ++ x)) (go words (word ++ s ∷ []) (pred n))
      on go Slash k =
          stays_cond lacks form.several _ (Wrong Stray) _ (Wrong Stray)
          (stays_cond lacks (may_part words word) _ (Wrong EmptyWord) _ (Wrong EmptyWord)
          (longer_stays 1 (rest form (words ++ word ∷ []) [] 0 p)
          (rest form (words ++ word ∷ []) [] 0 (p ++ x)) (go (words ++ word ∷ []) [] 0))
          (stays_same lacks (Wrong EmptyWord))) (stays_same lacks (Wrong Stray))
      on go Dollar k = λ e. refl
      on go Brace k = λ e. refl

-- the content of a chunk

abbrev is_begun : Portion → Bool
is_begun Begun = true
is_begun (Barred kind) = false
is_begun (Held part n) = false
is_begun Braced = false

unit_begun : (r : Rest) → lacks r ≡ true → is_begun (unit_portion r) ≡ true
unit_begun Lacks h = refl
unit_begun (Wrong kind) h = absurd (cc)
unit_begun (Ends words n) h = absurd (cc)

blank_part_stays : (b : ℕ) (p x : List ℕ) → StaysSo is_begun
    (blank_portion (b ∷ p) (blank 0 (b ∷ p)))
    (blank_portion (b ∷ (p ++ x)) (blank 0 (b ∷ (p ++ x))))
blank_part_stays b p x = by (blank 0 (b ∷ p)) refl (blank_stays 0 (b ∷ p) x)
  where
    by : (r : Run) → blank 0 (b ∷ p) ≡ r → StaysSo is_open r (blank 0 (b ∷ (p ++ x))) →
        StaysSo is_begun (blank_portion (b ∷ p) r)
        (blank_portion (b ∷ (p ++ x)) (blank 0 (b ∷ (p ++ x))))
    by Open e h k = absurd (cc)
    by Inside e h k = absurd (cc)
    by BadChar e h k = ap (blank_portion (b ∷ (p ++ x))) (h refl)
    by (Done n) e h k = ap (blank_portion (b ∷ (p ++ x))) (h refl)
        ∙ ap (λ (q : List ℕ). Held (inner.Blank q) n)
        (take-append-le n (b ∷ p) x (blank_fits b p n e))

portion_stays : (p x : List ℕ) → StaysSo is_begun (portion p) (portion (p ++ x))
unfolding portion
portion_stays [] x h = absurd (cc)
portion_stays (b ∷ p) x h =
    stays_cond is_begun (begins_blank b) (blank_portion (b ∷ p) (blank 0 (b ∷ p))) _
    (blank_portion (b ∷ (p ++ x)) (blank 0 (b ∷ (p ++ x)))) _ (blank_part_stays b p x)
    (stays_cond is_begun (eqb b 94) (unit_portion (rest (form_of Lexical) [] [] 0 p)) _
    (unit_portion (rest (form_of Lexical) [] [] 0 (p ++ x))) _
    (stays_on lacks is_begun unit_portion unit_portion (rest (form_of Lexical) [] [] 0 p)
    (rest (form_of Lexical) [] [] 0 (p ++ x)) unit_begun
    (λ a _. stays_same is_begun (unit_portion a)) (rest_stays (form_of Lexical) [] [] 0 p x))
    (stays_same is_begun (cond (eqb b 125) Braced (Barred (wrong_byte b))))) h

abbrev opens : Body → Bool
opens Opens = true
opens (Fails kind) = false
opens (Closes parts n) = false

closed_stays : (p x : List ℕ) → StaysSo opens (closed p) (closed (p ++ x))
closed_stays [] x h = absurd (cc)
closed_stays (b ∷ p) x h = refl

body_stays : (skip : ℕ) (p x : List ℕ) → StaysSo opens (body skip p) (body skip (p ++ x))
unfolding body
body_stays skip [] x h = absurd (cc)
body_stays (suc skip) (b ∷ p) x h = body_stays skip p x h
body_stays zero (b ∷ p) x h =
    stays_on is_begun opens (λ q. behind_portion q p (λ k. body k p))
    (λ q. behind_portion q (p ++ x) (λ k. body k (p ++ x))) (portion (b ∷ p))
    (portion (b ∷ (p ++ x))) waits (on (λ k e. body_stays k p x e)) (portion_stays (b ∷ p) x) h
  where
    waits : (q : Portion) → is_begun q ≡ true → opens (behind_portion q p (λ k. body k p)) ≡ true
    waits Begun k = refl
    waits (Barred kind) k = absurd (cc)
    waits (Held part n) k = absurd (cc)
    waits Braced k = absurd (cc)

    behind : (part : Inner) (n : ℕ) (z : Body) → opens z ≡ true →
        opens (behind_part part n z) ≡ true
    behind part n Opens k = refl
    behind part n (Fails kind) k = absurd (cc)
    behind part n (Closes parts m) k = absurd (cc)

    on : ((k : ℕ) → StaysSo opens (body k p) (body k (p ++ x))) → (q : Portion) →
        is_begun q ≡ false → StaysSo opens (behind_portion q p (λ k. body k p))
        (behind_portion q (p ++ x) (λ k. body k (p ++ x)))
    on go Begun k = absurd (cc)
    on go (Barred kind) k = stays_same opens (Fails kind)
    on go (Held part n) k =
        stays_on opens opens (behind_part part n) (behind_part part n) (body (pred n) p)
        (body (pred n) (p ++ x)) (behind part n) (λ a _. stays_same opens (behind_part part n a))
        (go (pred n))
    on go Braced k = closed_stays p x

-- the item at the front

abbrev pub needs : First → Bool
needs Needs = true
needs (Whole thing n) = false
needs (Faulty kind) = false

run_stays : (b : ℕ) (p x : List ℕ) → StaysSo needs (of_run (b ∷ p) (blank 0 (b ∷ p)))
    (of_run (b ∷ (p ++ x)) (blank 0 (b ∷ (p ++ x))))
run_stays b p x = by (blank 0 (b ∷ p)) refl (blank_stays 0 (b ∷ p) x)
  where
    by : (r : Run) → blank 0 (b ∷ p) ≡ r → StaysSo is_open r (blank 0 (b ∷ (p ++ x))) →
        StaysSo needs (of_run (b ∷ p) r) (of_run (b ∷ (p ++ x)) (blank 0 (b ∷ (p ++ x))))
    by Open e h k = absurd (cc)
    by Inside e h k = absurd (cc)
    by BadChar e h k = ap (of_run (b ∷ (p ++ x))) (h refl)
    by (Done n) e h k = ap (of_run (b ∷ (p ++ x))) (h refl)
        ∙ ap (λ (q : List ℕ). Whole (item.Blank q) n)
        (take-append-le n (b ∷ p) x (blank_fits b p n e))

escaped_needs : (f : Front) → is_part f ≡ true → needs (of_escaped f) ≡ true
escaped_needs Part h = refl
escaped_needs NotChar h = absurd (cc)
escaped_needs (Char c n) h = absurd (cc)

char_needs : (dialect : Dialect) (f : Front) → is_part f ≡ true → needs (of_char dialect f) ≡ true
char_needs dialect Part h = refl
char_needs dialect NotChar h = absurd (cc)
char_needs dialect (Char c n) h = absurd (cc)

unit_needs : (r : Rest) → lacks r ≡ true → needs (of_unit r) ≡ true
unit_needs Lacks h = refl
unit_needs (Wrong kind) h = absurd (cc)
unit_needs (Ends words n) h = absurd (cc)

chunk_needs : (p : List ℕ) (r : Rest) → lacks r ≡ true → needs (of_chunk p r) ≡ true
chunk_needs p Lacks h = refl
chunk_needs p (Wrong kind) h = absurd (cc)
chunk_needs p (Ends words n) h = absurd (cc)

body_needs : (words : List (List Symbol)) (n : ℕ) (z : Body) → opens z ≡ true →
    needs (of_body (first_word words) [] n z) ≡ true
body_needs words n Opens h = refl
body_needs words n (Fails kind) h = absurd (cc)
body_needs words n (Closes parts m) h = absurd (cc)

chunk_on : (p x : List ℕ) (r : Rest) → lacks r ≡ false →
    StaysSo needs (of_chunk p r) (of_chunk (p ++ x) r)
chunk_on p x Lacks h = absurd (cc)
chunk_on p x (Wrong kind) h = stays_same needs (Faulty (OfKind kind))
chunk_on p x (Ends words n) h =
    stays_on opens needs (of_body (first_word words) [] (1 + n)) (of_body (first_word words) [] (1 + n))
    (body n p) (body n (p ++ x)) (body_needs words (1 + n))
    (λ a _. stays_same needs (of_body (first_word words) [] (1 + n) a)) (body_stays n p x)

caret_stays : (dialect : Dialect) (p x : List ℕ) (r s : Rest) → StaysSo lacks r s →
    StaysSo needs (of_caret dialect p r) (of_caret dialect (p ++ x) s)
caret_stays dialect p x r s h =
    stays_cond needs (has_chunks dialect) (of_chunk p r) (of_unit r) (of_chunk (p ++ x) s)
    (of_unit s)
    (stays_on lacks needs (of_chunk p) (of_chunk (p ++ x)) r s (chunk_needs p) (chunk_on p x) h)
    (stays_on lacks needs of_unit of_unit r s unit_needs (λ a _. stays_same needs (of_unit a)) h)

pub first_stays : (dialect : Dialect) (p x : List ℕ) →
    StaysSo needs (first dialect p) (first dialect (p ++ x))
unfolding first
first_stays dialect [] x h = absurd (cc)
first_stays dialect (b ∷ p) x h =
    stays_cond needs (begins_blank b) (of_run (b ∷ p) (blank 0 (b ∷ p))) _
    (of_run (b ∷ (p ++ x)) (blank 0 (b ∷ (p ++ x)))) _ (run_stays b p x)
    (stays_cond needs (eqb b 92) (of_escaped (char_at p)) _ (of_escaped (char_at (p ++ x))) _
    (stays_on is_part needs of_escaped of_escaped (char_at p) (char_at (p ++ x)) escaped_needs
    (λ a _. stays_same needs (of_escaped a)) (front_stays p x))
    (stays_cond needs (begins_unit dialect b)
    (of_caret dialect p (rest (form_of dialect) [] [] 0 p)) (of_char dialect (char_at (b ∷ p)))
    (of_caret dialect (p ++ x) (rest (form_of dialect) [] [] 0 (p ++ x)))
    (of_char dialect (char_at (b ∷ (p ++ x))))
    (caret_stays dialect p x (rest (form_of dialect) [] [] 0 p)
    (rest (form_of dialect) [] [] 0 (p ++ x)) (rest_stays (form_of dialect) [] [] 0 p x))
    (stays_on is_part needs (of_char dialect) (of_char dialect) (char_at (b ∷ p))
    (char_at (b ∷ (p ++ x))) (char_needs dialect) (λ a _. stays_same needs (of_char dialect a))
    (front_stays (b ∷ p) x)))) h
