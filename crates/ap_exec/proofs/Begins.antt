-- The units of a match and their positions, one after another.
use Rattle.std.proofs.Common.{◌≡◌, ℕ, zero, suc, ◌+◌, List, [], ◌∷◌, ◌++◌, length, map, Option, Some, None, is_some, Ok, refl, ap, sym, ◌∙◌, arith}
use Rattle.ap_symbol.specs.declared.symbol.Symbol.{Symbol}
use Rattle.ap_rules.specs.Plain.{PlainStatements, PlainRules}
use Rattle.ap_rules.specs.Views.{plain_macro, plain_rules}
use Rattle.ap_rules.specs.declared.attribute.AttrItem.{AttrItem}
use Rattle.ap_rules.specs.declared.rules.DefList.{DefList}
use Rattle.ap_rules.specs.declared.rules.Rules.{Rules}
use Rattle.ap_rules.specs.declared.rules.DefMacro.{DefMacro}
use Rattle.ap_exec.specs.Acting.{shown, units_in, positions_in, from, body_of, definitions_of, action_of, started, act_of, outcome, Outcome}
use Rattle.ap_exec.specs.Beginning.{lead_in, from_first}
use Rattle.ap_exec.specs.Results.{Ran, seen, Fails}
use Rattle.ap_exec.specs.Running.{Definitions, RunState, run_all, macros_below}
use Rattle.ap_exec.specs.Starting.{with_new}
use Rattle.ap_exec.specs.States.{body_in, overlaid}
use Rattle.ap_exec.specs.Units.{Shown}
use Rattle.ap_exec.specs.declared.matched.Matched.{Matched}
use Rattle.ap_exec.specs.declared.matched.MatchedUnit.{MatchedUnit}
use Rattle.ap_exec.specs.declared.refusal.ExecRefusal.{ExecRefusal}
use Rattle.ap_exec.specs.declared.refusal.ExecRefusal.TheVariants.{ValueTooLong, OutputTooLong, Memory}
use Rattle.ap_exec.specs.declared.template.Piece.{Piece}

pub bodies_are : (ms : List DefMacro) → map body_in ms ≡ map body_of (map plain_macro ms)
bodies_are [] = refl
bodies_are (m ∷ ms) = ap (λ (bs : List PlainStatements). body_in m ∷ bs) (bodies_are ms)

length_shown : (us : List MatchedUnit) → length (map shown us) ≡ length us
length_shown [] = refl
length_shown (u ∷ us) = ap suc (length_shown us)

pub positions_are : (chunk : Option (List Symbol)) (us : List MatchedUnit) →
    lead_in (is_some chunk) ++ from_first (length (units_in chunk us)) ≡ positions_in chunk (length
    us)
positions_are None us = ap (λ (n : ℕ). None ∷ from 0 n) (length_shown us)
positions_are (Some name) us = ap (λ (n : ℕ). Some 0 ∷ from 1 n) (length_shown us)

from_more : (first n : ℕ) → from first (suc n) ≡ from first n ++ Some (first + n) ∷ []
from_more first zero = let e : first ≡ first + 0 = omega arith in ap (λ (k : ℕ). Some k ∷ []) e
from_more first (suc n) =
    let e : first + 1 + n ≡ first + suc n = omega arith in
    ap (λ (zs : List (Option ℕ)). Some first ∷ zs) (from_more (first + 1) n
    ∙ ap (λ (k : ℕ). from (first + 1) n ++ Some k ∷ []) e)

pub from_next : (n : ℕ) → from_first (n + 1) ≡ from_first n ++ Some n ∷ []
from_next n = let e : n + 1 ≡ suc n = omega arith in let z : 0 + n ≡ n = omega arith in
    ap from_first e ∙ from_more 0 n ∙ ap (λ (k : ℕ). from_first n ++ Some k ∷ []) z

-- new values are put in from the last one on
pub overlaid_nothing : (words : List (List Symbol)) → overlaid words [] ≡ words
overlaid_nothing [] = refl
overlaid_nothing (word ∷ words) = refl

pub overlaid_last : (words : List (List Symbol)) (fresh : List (Option (List Symbol)))
    (new : Option (List Symbol)) → overlaid words (fresh ++ new ∷ [])
    ≡ overlaid (with_new words (length fresh) new) fresh
overlaid_last [] fresh None = refl
overlaid_last [] fresh (Some v) = refl
overlaid_last (word ∷ words) [] None =
    ap (λ (ws : List (List Symbol)). word ∷ ws) (overlaid_nothing words)
overlaid_last (word ∷ words) [] (Some v) =
    ap (λ (ws : List (List Symbol)). v ∷ ws) (overlaid_nothing words)
overlaid_last (word ∷ words) (None ∷ fresh) None =
    ap (λ (ws : List (List Symbol)). word ∷ ws) (overlaid_last words fresh None)
overlaid_last (word ∷ words) (None ∷ fresh) (Some v) =
    ap (λ (ws : List (List Symbol)). word ∷ ws) (overlaid_last words fresh (Some v))
overlaid_last (word ∷ words) (Some old ∷ fresh) None =
    ap (λ (ws : List (List Symbol)). old ∷ ws) (overlaid_last words fresh None)
overlaid_last (word ∷ words) (Some old ∷ fresh) (Some v) =
    ap (λ (ws : List (List Symbol)). old ∷ ws) (overlaid_last words fresh (Some v))

-- the world of a run
pub definitions_are : (r : Rules) (attributes : List (List AttrItem)) (lists : List DefList)
    (macros : List DefMacro) → attributes ≡ r.attributes → lists ≡ r.lists → macros ≡ r.macros.items
    → (let s : Definitions = record {
      form = r.form;
      attributes = attributes;
      lists = lists;
      bodies =
          map body_in macros;
    } in s) ≡ definitions_of (plain_rules r)
definitions_are r attributes lists macros a l m =
    ap (λ (xs : List (List AttrItem)). let s : Definitions =
    record {
      form = r.form;
      attributes = xs;
      lists = lists;
      bodies =
          map body_in macros;
    } in s) a
    ∙ ap (λ (xs : List DefList). let s : Definitions =
    record {
      form = r.form;
      attributes = r.attributes;
      lists = xs;
      bodies =
          map body_in macros;
    } in s) l
    ∙ ap (λ (xs : List PlainStatements). let s : Definitions =
    record { form = r.form; attributes = r.attributes; lists = r.lists; bodies = xs } in s)
    (ap (map body_in) m ∙ bodies_are r.macros.items)

-- the state at the start
pub state_is : (m : Matched) (vars base : List (List Symbol)) (units : List Shown)
    (fresh : List (Option (List Symbol))) (pieces : List Piece) → units ≡ units_in m.chunk m.units →
    base ≡ vars → fresh ≡ [] → pieces ≡ []
    → (let s : RunState = record { units = units; vars = overlaid base fresh; pieces = pieces } in
    s) ≡ started m vars
state_is m vars base units fresh pieces u b f p =
    ap (λ (xs : List Shown). let s : RunState =
    record { units = xs; vars = overlaid base fresh; pieces = pieces } in s) u
    ∙ ap (λ (xs : List (Option (List Symbol))). let s : RunState =
    record { units = units_in m.chunk m.units; vars = overlaid base xs; pieces = pieces } in s) f
    ∙ ap (λ (xs : List (List Symbol)). let s : RunState =
    record { units = units_in m.chunk m.units; vars = xs; pieces = pieces } in s)
    (overlaid_nothing base ∙ b)
    ∙ ap (λ (xs : List Piece). let s : RunState =
    record { units = units_in m.chunk m.units; vars = vars; pieces = xs } in s) p

-- the whole run
pub act_is : (r : PlainRules) (n : ℕ) (m : Matched) (vars : List (List Symbol)) (w : Definitions)
    (visible : ℕ) (positions : List (Option ℕ)) (body : PlainStatements) (s : RunState)
    → w ≡ definitions_of r → visible ≡ length r.macros → positions ≡ positions_in m.chunk (length
    m.units) →
    body ≡ action_of r n → s ≡ started m vars
    → seen outcome (run_all w (macros_below w visible) positions body s) ≡ act_of r n m vars
act_is r n m vars w visible positions body s a b c d e =
    ap (λ (x : Definitions). seen outcome (run_all x (macros_below x visible) positions body s)) a
    ∙ ap (λ (x : ℕ). seen outcome (run_all (definitions_of r) (macros_below (definitions_of r) x)
    positions body s)) b
    ∙ ap (λ (x : List (Option ℕ)). seen outcome
    (run_all (definitions_of r) (macros_below (definitions_of r) (length r.macros)) x body s)) c
    ∙ ap (λ (x : PlainStatements). seen outcome
    (run_all (definitions_of r) (macros_below (definitions_of r) (length r.macros))
    (positions_in m.chunk (length m.units)) x s)) d
    ∙ ap (λ (x : RunState). seen outcome
    (run_all (definitions_of r) (macros_below (definitions_of r) (length r.macros))
    (positions_in m.chunk (length m.units)) (action_of r n) x)) e

pub length_macros : (ms : List DefMacro) → length ms ≡ length (map plain_macro ms)
length_macros [] = refl
length_macros (m ∷ ms) = ap suc (length_macros ms)

pub ends_badly : (e : ExecRefusal) (ran : Ran RunState) (whole : Ran Outcome) →
    seen outcome ran ≡ whole
    → Fails e ran → Fails e whole
ends_badly Memory ran whole is h = tt
ends_badly ValueTooLong ran whole is h = sym is ∙ ap (seen outcome) h
ends_badly OutputTooLong ran whole is h = sym is ∙ ap (seen outcome) h

pub ends_well : (ran : Ran RunState) (s : RunState) (whole : Ran Outcome) →
    seen outcome ran ≡ whole →
    ran ≡ Ok s → whole ≡ Ok (outcome s)
ends_well ran s whole is h = sym is ∙ ap (seen outcome) h

pub overlaid_none : (words : List (List Symbol)) (fresh : List (Option (List Symbol))) →
    length fresh ≡ 0 → words ≡ overlaid words fresh
overlaid_none words [] h = sym (overlaid_nothing words)
overlaid_none words (f ∷ fresh) h = absurd (omega arith)
