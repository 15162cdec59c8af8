-- Stacks of frames: what is run first, where positions stand, and what it costs.
use Rattle.std.proofs.Common.{◌≡◌, ◌≢◌, ℕ, zero, suc, ◌+◌, ◌-◌, ◌<◌, ◌≤◌, List, [], ◌∷◌, ◌++◌, length, take, drop, map, Option, Result, Ok, Err, refl, ap, sym, ◌∙◌, arith, append_assoc, length-append, nat_eq, cond, inl, inr, Bool, true, false, subst, Vec, Global, OnOk, get_or}
use Rattle.std.proofs.Math.Seq.{drop-append_seam}
use Rattle.std.proofs.lemmas.List.{take-append-le, drop-take, map_more}
use Rattle.std.proofs.lemmas.Bool.{cases_Bool}
use Rattle.std.proofs.lemmas.Bool.Decides.{Decides-eqb}
use Rattle.ap_rules.proofs.StatementViews.{plain-Choose}
use Rattle.ap_rules.specs.Plain.{PlainStatement, PlainStatements, PlainWhens, no_whens, then_when, whens_of}
use Rattle.ap_rules.specs.Views.{plain_choose, plain_statement, plain_when}
use Rattle.ap_rules.specs.declared.statement.Choose.{Choose as Chosen, out-Choose}
use Rattle.ap_rules.specs.declared.statement.Statement.{Statement}
use Rattle.ap_exec.specs.Choosing.{chosen, taken}
use Rattle.ap_exec.specs.Conditions.{holds}
use Rattle.ap_exec.specs.Costs.{cost_all, cost_one, cost_whens, macro_cost}
use Rattle.ap_exec.specs.Results.{Ran, ◌>>=◌, Fails}
use Rattle.ap_exec.specs.Running.{Definitions, RunState, Calls, run, run_all, run_choice, macros_below, body_at, sight_of, either_of}
use Rattle.ap_exec.specs.Stacks.{between, positions_within, body_of, run_rest, unwound, left, rest_first, one_first, AreNested, Leads, frames_cost, rest_cost}
use Rattle.ap_exec.specs.Units.{Sight, number_at}
use Rattle.ap_exec.specs.declared.refusal.ExecRefusal.{ExecRefusal}
use Rattle.ap_exec.specs.declared.refusal.ExecRefusal.TheVariants.{ValueTooLong, OutputTooLong, Memory}
use Rattle.ap_exec.specs.declared.stack.Frame.{Frame}
use Rattle.ap_exec.specs.declared.stack.Scope.{Scope}
use Rattle.ap_exec.specs.declared.stack.Stack.{Stack}

-- what a choice holds
abbrev pub whens_in : Chosen → PlainWhens
whens_in held = whens_of (map plain_when (out-Choose held).whens.items)

abbrev pub others_in : Chosen → PlainStatements
others_in held = body_of (out-Choose held).otherwise.items

-- chains of results

pub then_ok : {A : Type 0} (r : Ran A) → (r >>= λ x. Ok x) ≡ r
then_ok (Ok x) = refl
then_ok (Err e) = refl

pub then_then : {A B C : Type 0} (r : Ran A) (f : A → Ran B) (g : B → Ran C) →
    ((r >>= f) >>= g) ≡ (r >>= λ x. f x >>= g)
then_then (Ok x) f g = refl
then_then (Err e) f g = refl

pub then_same : {A B : Type 0} (r : Ran A) (f g : A → Ran B) → ((x : A) → f x ≡ g x) →
    (r >>= f) ≡ (r >>= g)
then_same (Ok x) f g h = h x
then_same (Err e) f g h = refl

pub fails_then : {A B : Type 0} (e : ExecRefusal) (r : Ran A) (f : A → Ran B) → Fails e r →
    Fails e (r >>= f)
fails_then Memory r f h = tt
fails_then ValueTooLong r f h = ap (λ (x : Ran _). x >>= f) h
fails_then OutputTooLong r f h = ap (λ (x : Ran _). x >>= f) h

pub leads_from : {Y : Type 0} (r : Result Y ExecRefusal) (first before after : Ran RunState) →
    before ≡ first → Leads r before after → Leads r first after
leads_from (Ok y) first before after e h = h ∙ e
leads_from (Err Memory) first before after e h = tt
leads_from (Err ValueTooLong) first before after e h = sym e ∙ h
leads_from (Err OutputTooLong) first before after e h = sym e ∙ h

-- the last frame is run first
pub unwound_more : (w : Definitions) (positions : List (Option ℕ)) (frames : List Frame)
    (f : Frame) (s : RunState)
    → unwound w positions (frames ++ f ∷ []) s
    ≡ run_rest w positions f.scope f.rest.now s >>= unwound w positions frames
unwound_more w positions [] f s = sym (then_ok (run_rest w positions f.scope f.rest.now s))
unwound_more w positions (g ∷ frames) f s =
    ap (λ (r : Ran RunState). r >>= run_rest w positions g.scope g.rest.now)
    (unwound_more w positions frames f s)
    ∙ then_then (run_rest w positions f.scope f.rest.now s) (unwound w positions frames)
    (run_rest w positions g.scope g.rest.now)

-- nested frames
pub nested_low : (low : ℕ) (frames : List Frame) (high : ℕ) → AreNested low frames high → low ≤ high
nested_low low [] high h = h
nested_low low (f ∷ frames) high h = omega (arith, h.0, nested_low f.scope.to frames high h.2)

pub nested_higher : (low : ℕ) (frames : List Frame) (high more : ℕ) → high ≤ more →
    AreNested low frames high → AreNested low frames more
nested_higher low [] high more le h = omega (arith, h)
nested_higher low (f ∷ frames) high more le h =
    (h.0, h.1, nested_higher f.scope.to frames high more le h.2)

pub nested_more : (low : ℕ) (frames : List Frame) (f : Frame) (high : ℕ) →
    AreNested low frames f.scope.to → f.scope.from ≤ f.scope.to → f.scope.to ≤ high →
    AreNested low (frames ++ f ∷ []) high
nested_more low [] f high h order within = (h, order, within)
nested_more low (g ∷ frames) f high h order within =
    (h.0, h.1, nested_more g.scope.to frames f high h.2 order within)

pub nested_last : (low : ℕ) (frames : List Frame) (f : Frame) (high : ℕ) →
    AreNested low (frames ++ f ∷ []) high
    → AreNested low frames f.scope.to × (f.scope.from ≤ f.scope.to) × (f.scope.to ≤ high)
nested_last low [] f high h = h
nested_last low (g ∷ frames) f high h = let more = nested_last g.scope.to frames f high h.2 in
    ((h.0, h.1, more.0), more.1, more.2)

-- positions below are as they were
take_take : (a b : ℕ) (xs : List (Option ℕ)) → a ≤ b → take a (take b xs) ≡ take a xs
take_take zero b xs h = refl
take_take (suc a) zero xs h = absurd (omega arith)
take_take (suc a) (suc b) [] h = refl
take_take (suc a) (suc b) (x ∷ xs) h =
    ap (λ (ys : List (Option ℕ)). x ∷ ys) (take_take a b xs (omega arith))

pub length_take : (n : ℕ) (xs : List (Option ℕ)) → n ≤ length xs → length (take n xs) ≡ n
length_take zero xs h = refl
length_take (suc n) [] h = absurd (omega arith)
length_take (suc n) (x ∷ xs) h = ap suc (length_take n xs (omega arith))

take_all : (ys : List (Option ℕ)) → take (length ys) ys ≡ ys
take_all [] = refl
take_all (y ∷ ys) = ap (λ (zs : List (Option ℕ)). y ∷ zs) (take_all ys)

between_is : (from to : ℕ) (xs : List (Option ℕ)) → from ≤ to →
    between from to xs ≡ drop from (take to xs)
between_is from to xs h =
    let sum : from + (to - from) ≡ to = omega arith in
    sym (ap (λ (n : ℕ). drop from (take n xs)) (sym sum) ∙ drop-take from (to - from) xs)

pub between_same : (from to n : ℕ) (xs more : List (Option ℕ)) → from ≤ to → to ≤ n →
    n ≤ length xs → between from to (take n xs ++ more) ≡ between from to xs
between_same from to n xs more order below within =
    let size = length_take n xs within in
    between_is from to (take n xs ++ more) order
    ∙ ap (drop from) (take-append-le to (take n xs) more (omega (arith, size))
    ∙ take_take to n xs below)
    ∙ sym (between_is from to xs order)

pub between_new : (n : ℕ) (xs more : List (Option ℕ)) → n ≤ length xs →
    between n (length (take n xs ++ more)) (take n xs ++ more) ≡ more
between_new n xs more within =
    let size = length_take n xs within in
    let count : length (take n xs ++ more) - n ≡ length more =
    omega (arith, size, length-append (take n xs) more) in
    ap (λ (k : ℕ). take (length (take n xs ++ more) - n) (drop k (take n xs ++ more))) (sym size)
    ∙ ap (take (length (take n xs ++ more) - n)) (drop-append_seam (take n xs) more)
    ∙ ap (λ (k : ℕ). take k more) count ∙ take_all more

pub unwound_same : (w : Definitions) (n : ℕ) (xs more : List (Option ℕ)) (low : ℕ) (frames : List
    Frame)
    (s : RunState) → n ≤ length xs → AreNested low frames n
    → unwound w (take n xs ++ more) frames s ≡ unwound w xs frames s
unwound_same w n xs more low [] s within h = refl
unwound_same w n xs more low (f ∷ frames) s within h =
    ap (λ (positions : List (Option ℕ)). unwound w (take n xs ++ more) frames s >>= run_all w
    (macros_below w f.scope.visible) positions (body_of f.rest.now))
    (between_same f.scope.from f.scope.to n xs more h.1 (nested_low f.scope.to frames n h.2) within)
    ∙ ap (λ (r : Ran RunState). r >>= run_rest w xs f.scope f.rest.now)
    (unwound_same w n xs more f.scope.to frames s within h.2)

-- costs
pub cost_more : (w : Definitions) (frames : List Frame) (f : Frame) →
    frames_cost w (frames ++ f ∷ [])
    ≡ rest_cost w f.scope f.rest.now + 1 + frames_cost w frames
cost_more w [] f = refl
cost_more w (g ∷ frames) f = omega (arith, cost_more w frames f)

-- calls
same_if : {A : Type 0} (k n : ℕ) (first second other : A) → (k ≡ n → first ≡ other) →
    (k ≢ n → second ≡ other) → cond (nat_eq k n) first second ≡ other
same_if k n first second other same differ =
    elim (cases_Bool (nat_eq k n)) [
      | inl e ↦ rw e (same ((Decides-eqb k n).0 e))
      | inr e ↦
          rw e (differ (λ h. let f = (Decides-eqb k n).1 h in cc))
    ]

pub macros_past : (w : Definitions) (n k : ℕ) (positions : List (Option ℕ)) (s : RunState) → n ≤ k →
    macros_below w n k positions s ≡ Ok s
macros_past w zero k positions s h = refl
macros_past w (suc n) k positions s h =
    same_if k n _ _ _ (λ e. absurd (omega arith)) (λ ne. macros_past w n k positions s (omega
    arith))

pub macros_at : (w : Definitions) (n k : ℕ) (positions : List (Option ℕ)) (s : RunState) → k < n →
    macros_below w n k positions s ≡ run_all w (macros_below w k) positions (body_at w k) s
macros_at w zero k positions s h = absurd (omega arith)
macros_at w (suc n) k positions s h =
    same_if k n _ _ _ (λ e. ap (λ (m : ℕ). run_all w (macros_below w m) positions (body_at w m) s)
    (sym e))
    (λ ne. macros_at w n k positions s (omega arith))

pub macro_cost_at : (w : Definitions) (n k : ℕ) → k < n →
    macro_cost w n k ≡ cost_all (macro_cost w k) (body_at w k)
macro_cost_at w zero k h = absurd (omega arith)
macro_cost_at w (suc n) k h =
    same_if k n _ _ _ (λ e. ap (λ (m : ℕ). cost_all (macro_cost w m) (body_at w m)) (sym e))
    (λ ne. macro_cost_at w n k (omega arith))

-- choices
chosen_one : (w : Definitions) (calls : Calls) (positions : List (Option ℕ)) (s : RunState) (b :
    Bool)
    (statements : PlainStatements) (later : Ran PlainStatements) (rest : Ran RunState)
    → (later >>= λ ss. run_all w calls positions ss s) ≡ rest →
    (taken b statements later >>= λ ss. run_all w calls positions ss s)
    ≡ either_of b (run_all w calls positions statements s) rest
chosen_one w calls positions s true first later rest h = refl
chosen_one w calls positions s false first later rest h = h

pub choice_runs : (w : Definitions) (calls : Calls) (positions : List (Option ℕ)) (whens :
    PlainWhens)
    (otherwise : PlainStatements) (s : RunState)
    → run_choice w calls positions whens (run_all w calls positions otherwise) s
    ≡ (chosen (sight_of w positions s) whens otherwise >>= λ ss. run_all w calls positions ss s)
choice_runs w calls positions no_whens otherwise s = refl
choice_runs w calls positions (then_when test statements more) otherwise s =
    sym (then_then (holds (sight_of w positions s) test)
    (λ b. taken b statements (chosen (sight_of w positions s) more otherwise))
    (λ ss. run_all w calls positions ss s)
    ∙ then_same (holds (sight_of w positions s) test)
    (λ b. taken b statements (chosen (sight_of w positions s) more otherwise) >>= λ ss. run_all w
    calls positions ss s)
    (λ b. either_of b (run_all w calls positions statements s)
    (run_choice w calls positions more (run_all w calls positions otherwise) s))
    (λ b. chosen_one w calls positions s b statements (chosen (sight_of w positions s) more
    otherwise)
    (run_choice w calls positions more (run_all w calls positions otherwise) s)
    (sym (choice_runs w calls positions more otherwise s))))

-- a macro's positions stand behind its caller's
module _ (w : Definitions) (xs ys places : List (Option ℕ)) (frames : List Frame) (scope : Scope)
    (n len : ℕ) (body : List Statement)
    (within : scope.to ≤ length xs) (below : AreNested 0 frames scope.to)
    (behind : ys ≡ take scope.to xs ++ places) (count : len ≡ length ys) where
  abbrev inner : Scope
  inner = record { from = scope.to; to = len; visible = n }

  pub behind_reaches : scope.to ≤ len
  behind_reaches = omega (
    arith,
    count,
    ap (λ (zs : List (Option ℕ)). length zs) behind,
    length-append (take scope.to xs) places,
    length_take scope.to xs within,
  )

  inner_here : positions_within ys inner ≡ places
  inner_here = ap (λ (k : ℕ). between scope.to k ys) count
      ∙ ap (λ (zs : List (Option ℕ)). between scope.to (length zs) zs) behind
      ∙ between_new scope.to xs places within

  module _ (seen : n < scope.visible) (is : body_of body ≡ body_at w n) where
    inner_run : (s : RunState) → run_rest w ys inner body s ≡ macros_below w scope.visible n places
        s
    inner_run s =
        ap (λ (positions : List (Option ℕ)). run_all w (macros_below w n) positions (body_of body)
        s) inner_here
        ∙ ap (λ (b : PlainStatements). run_all w (macros_below w n) places b s) is
        ∙ sym (macros_at w scope.visible n places s seen)

    pub call_leads : (s : RunState) → (run_rest w ys inner body s >>= unwound w ys frames)
        ≡ (macros_below w scope.visible n places s >>= unwound w xs frames)
    call_leads s =
        ap (λ (r : Ran RunState). r >>= unwound w ys frames) (inner_run s)
        ∙ then_same (macros_below w scope.visible n places s) (unwound w ys frames) (unwound w xs
        frames)
        (λ x. ap (λ (zs : List (Option ℕ)). unwound w zs frames x) behind
        ∙ unwound_same w scope.to xs places 0 frames x within below)

    pub call_costs : rest_cost w inner body ≡ macro_cost w scope.visible n
    call_costs = ap (cost_all (macro_cost w n)) is ∙ sym (macro_cost_at w scope.visible n seen)

-- what a choice runs costs no more than the choice
taken_costs : (calls : ℕ → ℕ) (b : Bool) (first ss : PlainStatements) (later : Ran PlainStatements)
    (most more : ℕ) → cost_all calls first ≤ most → (later ≡ Ok ss → cost_all calls ss ≤ most)
    → taken b first later ≡ Ok ss → cost_all calls ss ≤ most
taken_costs calls true first ss later most more f l e = let same : first ≡ ss = cc in
    subst (λ (x : PlainStatements). cost_all calls x ≤ most) same f
taken_costs calls false first ss later most more f l e = l e

then_costs : (calls : ℕ → ℕ) (r : Ran Bool) (k : Bool → Ran PlainStatements) (ss : PlainStatements)
    (most : ℕ) → ((b : Bool) → k b ≡ Ok ss → cost_all calls ss ≤ most)
    → (r >>= k) ≡ Ok ss → cost_all calls ss ≤ most
then_costs calls (Ok b) k ss most h e = h b e
then_costs calls (Err x) k ss most h e = cc

pub choice_costs : (calls : ℕ → ℕ) (sight : Sight) (whens : PlainWhens)
    (otherwise ss : PlainStatements) → chosen sight whens otherwise ≡ Ok ss
    → cost_all calls ss ≤ cost_whens calls whens + cost_all calls otherwise
choice_costs calls sight no_whens otherwise ss e = let same : otherwise ≡ ss = cc in
    subst (λ (x : PlainStatements). cost_all calls x ≤ 0 + cost_all calls otherwise) same
    (omega arith)
choice_costs calls sight (then_when test first more) otherwise ss e =
    then_costs calls (holds sight test) (λ b. taken b first (chosen sight more otherwise)) ss
    (cost_all calls first + cost_whens calls more + cost_all calls otherwise)
    (λ b h. taken_costs calls b first ss (chosen sight more otherwise)
    (cost_all calls first + cost_whens calls more + cost_all calls otherwise) 0 (omega arith)
    (λ later. omega (arith, choice_costs calls sight more otherwise ss later)) h) e

-- a choice

choose_runs : (w : Definitions) (calls : Calls) (positions : List (Option ℕ)) (s : RunState) (held :
    Chosen)
    → run w calls positions (plain_choose held) s
    ≡ (chosen (sight_of w positions s) (whens_in held) (others_in held) >>= λ ss. run_all w
    calls positions ss s)
choose_runs w calls positions s held =
    ap (λ (x : PlainStatement). run w calls positions x s) (plain-Choose held)
    ∙ choice_runs w calls positions (whens_in held) (others_in held) s

module _ (w : Definitions) (calls : Calls) (positions : List (Option ℕ)) (s : RunState) (held :
    Chosen) (k : RunState →
    Ran RunState) (given : Ran PlainStatements)
    (is : given ≡ chosen (sight_of w positions s) (whens_in held) (others_in held)) where
  runs_given : (run w calls positions (plain_choose held) s >>= k)
      ≡ ((given >>= λ ss. run_all w calls positions ss s) >>= k)
  runs_given = ap (λ (r : Ran RunState). r >>= k) (choose_runs w calls positions s held
      ∙ ap (λ (g : Ran PlainStatements). g >>= λ ss. run_all w calls positions ss s) (sym is))

  pub choose_fails : (e : ExecRefusal) → Fails e given →
      Fails e (run w calls positions (plain_choose held) s >>= k)
  choose_fails e h = subst (λ (r : Ran RunState). Fails e r) (sym runs_given)
      (fails_then e (given >>= λ ss. run_all w calls positions ss s) k
      (fails_then e given (λ ss. run_all w calls positions ss s) h))

  pub choose_leads : (ss : PlainStatements) → given ≡ Ok ss → (run_all w calls positions ss s >>= k)
      ≡ (run w calls positions (plain_choose held) s >>= k)
  choose_leads ss h = sym (runs_given
      ∙ ap (λ (g : Ran PlainStatements). (g >>= λ x. run_all w calls positions x s) >>= k) h)

pub choose_costs : (calls : ℕ → ℕ) (sight : Sight) (held : Chosen) (given : Ran PlainStatements)
    (ss : PlainStatements)
    → given ≡ chosen sight (whens_in held) (others_in held) → given ≡ Ok ss →
    cost_all calls ss + 2 ≤ cost_one calls (plain_choose held)
choose_costs calls sight held given ss is h =
    let all = ap (cost_one calls) (plain-Choose held) in
    let most = choice_costs calls sight (whens_in held) (others_in held) ss (sym is ∙ h) in
    omega (arith, all, most)

-- the first statement of a body
pub first_leads : (w : Definitions) (old mid : Stack) (scope : Scope) (x : Statement)
    (more rest : List Statement) (s : RunState)
    → rest ≡ x ∷ more → mid.positions ≡ old.positions →
    ((t : RunState) → left w mid t ≡ rest_first w old scope more t)
    → one_first w mid scope (plain_statement x) s ≡ rest_first w old scope rest s
first_leads w old mid scope x more rest s is same mids =
    let positions : positions_within mid.positions.items scope ≡ positions_within
    old.positions.items scope =
    ap (λ (ps : Vec (Option ℕ) Global). positions_within ps.items scope) same in
    let first = run w (macros_below w scope.visible) (positions_within old.positions.items scope)
    (plain_statement x) s in
    ap (λ (h : List (Option ℕ)). run w (macros_below w scope.visible) h (plain_statement x) s >>=
    left w mid) positions
    ∙ then_same first (left w mid) (rest_first w old scope more) mids
    ∙ sym (then_then first (run_rest w old.positions.items scope more) (left w old))
    ∙ ap (λ (ss : List Statement). rest_first w old scope ss s) (sym is)

pub on_ok : {Y E : Type 0} (r : Result Y E) {P : Type 0} → P → OnOk r P
on_ok (Ok y) h = h
on_ok (Err e) h = tt

-- positions of a macro, one after another
pub place_more : (from to : ℕ) (old xs ys : List (Option ℕ)) (params : List ℕ) (i p : ℕ)
    (unit : Option ℕ)
    → from ≤ to → to ≤ length old → i < length params
    → xs ≡ take to old ++ (number_at (between from to old) 0
    ∷ map (number_at (between from to old)) (take i params))
    → unit ≡ number_at (between from to xs) p → p ≡ get_or params i 0 → ys ≡ xs ++ unit ∷ []
    → ys ≡ take to old ++ (number_at (between from to old) 0
    ∷ map (number_at (between from to old)) (take (i + 1) params))
place_more from to old xs ys params i p unit order within below so_far is item more =
    let f = number_at (between from to old) in
    let positions : between from to xs ≡ between from to old = ap (between from to) so_far
    ∙ between_same from to to old (f 0 ∷ map f (take i params)) order (omega arith) within in
    let new : unit ≡ f p = is ∙ ap (λ (h : List (Option ℕ)). number_at h p) positions in
    let longer : map f (take (i + 1) params) ≡ map f (take i params) ++ f p ∷ [] =
    map_more f params i 0 below
    ∙ ap (λ (q : ℕ). map f (take i params) ++ f q ∷ []) (sym item) in
    more ∙ ap (λ (zs : List (Option ℕ)). zs ++ unit ∷ []) so_far
    ∙ append_assoc (take to old) (f 0 ∷ map f (take i params)) (unit ∷ [])
    ∙ ap (λ (u : Option ℕ). take to old ++ (f 0 ∷ (map f (take i params) ++ u ∷ []))) new
    ∙ ap (λ (zs : List (Option ℕ)). take to old ++ (f 0 ∷ zs)) (sym longer)

-- the stack at the start and at the end

all_between : (n : ℕ) (ps : List (Option ℕ)) → n ≡ length ps → between 0 n ps ≡ ps
all_between n ps h = let size : n - 0 ≡ length ps = omega (arith, h) in
    ap (λ (k : ℕ). take k ps) size ∙ take_all ps

pub start_runs : (w : Definitions) (stack : Stack) (len visible : ℕ) (rest : List Statement) (s :
    RunState) →
    stack.frames.items ≡ [] → len ≡ length stack.positions.items
    → rest_first w stack (record { from = 0; to = len; visible = visible }) rest s
    ≡ run_all w (macros_below w visible) stack.positions.items (body_of rest) s
start_runs w stack len visible rest s none count =
    let scope : Scope = record { from = 0; to = len; visible = visible } in
    ap (λ (fs : List Frame). run_rest w stack.positions.items scope rest s >>= unwound w
    stack.positions.items fs) none
    ∙ then_ok (run_rest w stack.positions.items scope rest s)
    ∙ ap (λ (positions : List (Option ℕ)). run_all w (macros_below w visible) positions (body_of
    rest) s)
    (all_between len stack.positions.items count)

pub last_first : (w : Definitions) (stack : Stack) (popped : List Frame) (f : Frame) (s : RunState)
    →
    stack.frames.items ≡ popped ++ f ∷ []
    → left w stack s ≡ (run_rest w stack.positions.items f.scope f.rest.now s >>= unwound w
    stack.positions.items popped)
last_first w stack popped f s e = ap (λ (fs : List Frame). unwound w stack.positions.items fs s) e
    ∙ unwound_more w stack.positions.items popped f s
