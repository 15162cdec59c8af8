-- An element that is a statement by the table is read as this statement.
use Rattle.std.proofs.Common.{◌≡◌, ℕ, Bool, true, false, ◌==◌, cond, List, [], ◌∷◌, ◌++◌, length, refl, sym, ap, ◌∙◌, subst, arith, Option, Some, None, codes}
use Rattle.std.specs.Prelude.{slice_get}
use Rattle.std.specs.Option.{option_map, option_to_list}
use Rattle.std.proofs.lemmas.Bool.Decides.{nat_tests}
use Rattle.ap_markup.specs.NameLists.{number_of}
use Rattle.ap_markup.specs.Said.{name_of, is_named}
use Rattle.ap_markup.specs.Tree.{Tag}
use Rattle.ap_rules.specs.Children.{Children, nothing, element, within}
use Rattle.ap_rules.specs.Conditions.{conditions}
use Rattle.ap_rules.specs.Pieces.{pieces}
use Rattle.ap_rules.specs.Plain.{PlainValue, clip, var, no_values, then_value, values_of, PlainCondition, PlainPiece, PlainStatement, PlainStatements, PlainWhen, PlainWhens, choose, assign, append, out, modify_case, call_macro, no_statements, then_statement, no_whens, then_when, statements_of, whens_of}
use Rattle.ap_rules.specs.Soundness.{HasSome, HasWhen}
use Rattle.ap_rules.specs.StatementRows.{value_at, IsSetting, AreParams, leading, behind, AreAtMostOne, IsTest, behind_first, IsStatement, AreStatements, AreWhens}
use Rattle.ap_rules.specs.Statements.{place_of, placed, setting, params, is_given, call_of, appended, choice, simple_statement, statement, tested, when_of, statements, whens, otherwise}
use Rattle.ap_rules.specs.ValueRows.{IsNamed, IsAlone, AreValues}
use Rattle.ap_rules.specs.Values.{Scope, position_of, values}
use Rattle.ap_rules.specs.declared.statement.Place.{Place}
use Rattle.ap_rules.specs.declared.statement.Place.TheVariants as place
use Rattle.ap_rules.proofs.ConditionsRead.{test_read}
use Rattle.ap_rules.proofs.PiecesRead.{pieces_read, row_more}
use Rattle.ap_rules.proofs.ValuesRead.{by_name, one_more, list_read}

-- rows of statements
pub statements_one : (xs ys : List PlainStatement) → statements_of xs ≡ statements_of ys → xs ≡ ys
statements_one [] [] e = refl
statements_one [] (y ∷ ys) e = absurd (let no : ⊥ = cc in no)
statements_one (x ∷ xs) [] e = absurd (let no : ⊥ = cc in no)
statements_one (x ∷ xs) (y ∷ ys) e =
    let first : x ≡ y = cc in
    let rest : statements_of xs ≡ statements_of ys = cc in
    rw first (ap (λ (zs : List PlainStatement). y ∷ zs) (statements_one xs ys rest))

-- a place, and a value
place_read : (p : Place) (v : PlainValue) → setting (value_at p ∷ v ∷ []) ≡ Some (p, v)
place_read (place.Clip c) v = refl
place_read (place.Var x) v = refl

set_read : (s : Scope) (own : Children) (p : Place) (v : PlainValue) → IsSetting s own p v →
    setting (values s false own) ≡ Some (p, v)
set_read s own p v is =
    ap setting (list_read s false own (value_at p ∷ v ∷ []) is) ∙ place_read p v

-- the positions of the units that a macro is given
param_more : (b : Bool) (o : Option ℕ) (pos : ℕ) (xs ys : List ℕ) → b ≡ true → o ≡ Some pos →
    xs ≡ ys → cond b (option_to_list o ++ xs) xs ≡ pos ∷ ys
param_more b o pos xs ys is e h = rw (is, e, h) refl

params_read : (s : Scope) (own : Children) (positions : List ℕ) → AreParams s own positions →
    params s own ≡ positions
params_read s nothing [] are = refl
params_read s nothing (pos ∷ positions) are = absurd are
params_read s (element tag own more) [] are = absurd are
params_read s (element tag own more) (pos ∷ positions) (name, at, rest) =
    param_more (is_named (codes "with-param") tag) (position_of s tag.attributes) pos
    (params s more) positions
    (by_name (λ t. is_named (codes "with-param") t ≡ true) tag (codes "with-param") name refl) at
    (params_read s more positions rest)

same_number : (n : ℕ) → (n == n) ≡ true
same_number n = grind (arith, nat_tests)

called_read : (s : Scope) (o : Option ℕ) (n : ℕ) (positions : List ℕ) → o ≡ Some n →
    slice_get s.names.npars n ≡ Some (length positions) →
    call_of s o positions ≡ Some (call_macro n positions)
called_read s o n positions e given =
    rw e (ap (λ (z : Option ℕ). cond {A = Option PlainStatement} (is_given z (length positions))
    (Some (call_macro n positions)) None) given
    ∙ ap (λ (b : Bool). cond {A = Option PlainStatement} b (Some (call_macro n positions)) None)
    (same_number (length positions)))

some_added : (o : Option ℕ) (n : ℕ) (vs : List PlainValue) → o ≡ Some n → HasSome vs →
    appended o vs ≡ Some (append n vs)
some_added o n [] e has = absurd has
some_added o n (v ∷ vs) e has = rw e refl

-- the choices, and what is done otherwise

chosen : (ws : List PlainWhen) (row : PlainWhens) (last : List PlainStatement)
    (done : PlainStatements) → whens_of ws ≡ row → HasWhen row → statements_of last ≡ done →
    choice ws last ≡ Some (choose row done)
chosen [] row last done e has h = absurd (subst HasWhen (sym e) has)
chosen (w ∷ ws) row last done e has h = ap (λ (z : PlainWhens). Some (choose z (statements_of last))) e
    ∙ ap (λ (z : PlainStatements). Some (choose row z)) h

-- an `otherwise` alone holds no `when`
no_when : (s : Scope) (own : Children) → AreAtMostOne (codes "otherwise") own → whens s own ≡ []
no_when s nothing is = refl
no_when s (element tag own nothing) name =
    by_name (λ t. whens s (element t own nothing) ≡ []) tag (codes "otherwise") name refl
no_when s (element tag own (element next inner more)) is = absurd is

-- the choices that stand first are all
whens_lead : (s : Scope) (own : Children) →
    AreAtMostOne (codes "otherwise") (behind (codes "when") own) →
    whens s own ≡ whens s (leading (codes "when") own)
whens_lead s nothing is = refl
whens_lead s (element tag own more) is =
    by (is_named (codes "when") tag) is (λ h. whens_lead s more h)
  where
    by : (b : Bool) → AreAtMostOne (codes "otherwise") (cond b (behind (codes "when") more)
        (element tag own more)) →
        (AreAtMostOne (codes "otherwise") (behind (codes "when") more) →
        whens s more ≡ whens s (leading (codes "when") more)) →
        whens s (element tag own more)
        ≡ whens s (cond b (element tag own (leading (codes "when") more)) nothing)
    by true h next = ap (λ (ws : List PlainWhen).
        option_to_list (when_of s tag own (statements s own)) ++ ws) (next h)
    by false h next = no_when s (element tag own more) h

inside : (s : Scope) (own : Children) → otherwise s own
    ≡ statements s (within (codes "otherwise") own)
inside s nothing = refl
inside s (element tag own more) = by (is_named (codes "otherwise") tag) (inside s more)
  where
    by : (b : Bool) → otherwise s more ≡ statements s (within (codes "otherwise") more) →
        cond b (statements s own) (otherwise s more)
        ≡ statements s (cond b own (within (codes "otherwise") more))
    by true h = refl
    by false h = h

other_behind : (s : Scope) (own : Children) (ws : PlainWhens) →
    AreWhens s (leading (codes "when") own) ws →
    otherwise s own ≡ statements s (within (codes "otherwise") (behind (codes "when") own))
other_behind s nothing ws are = refl
other_behind s (element tag own more) ws are =
    by (is_named (codes "when") tag) ws are (λ rest h. other_behind s more rest h)
  where
    by : (b : Bool) (ws : PlainWhens) →
        AreWhens s (cond b (element tag own (leading (codes "when") more)) nothing) ws →
        ((rest : PlainWhens) → AreWhens s (leading (codes "when") more) rest →
        otherwise s more
        ≡ statements s (within (codes "otherwise") (behind (codes "when") more))) →
        otherwise s (element tag own more)
        ≡ statements s (within (codes "otherwise") (cond b (behind (codes "when") more)
        (element tag own more)))
    by true no_whens h next = absurd h
    by true (then_when c ss rest) (name, test, done, others) next =
        by_name (λ t. otherwise s (element t own more)
        ≡ statements s (within (codes "otherwise") (behind (codes "when") more))) tag
        (codes "when") name (next rest others)
    by false ws h next = inside s (element tag own more)

-- a test isn't a statement
test_first : (s : Scope) (own : Children) (c : PlainCondition) → IsTest s own c →
    tested (conditions s (within (codes "test") own)) (statements s own)
    ≡ Some (c, statements s (behind_first own))
test_first s nothing c is = absurd is
test_first s (element tag own more) c (name, is) =
    by_name (λ t. tested (conditions s (within (codes "test") (element t own more)))
    (statements s (element t own more)) ≡ Some (c, statements s more)) tag (codes "test") name
    (ap (λ (cs : List PlainCondition). tested cs (statements s more)) (test_read s own c is))

abbrev Read : Scope → Children → PlainStatement → Tag → Type 0
Read s own st t = statement s t own (whens s own) (otherwise s own) ≡ Some st

mutual
  pub statement_read : (s : Scope) (tag : Tag) (own : Children) (st : PlainStatement) →
      IsStatement s tag own st → statement s tag own (whens s own) (otherwise s own) ≡ Some st
  statement_read s tag own (choose ws ss) (name, has, are, one, done) =
      by_name (Read s own (choose ws ss)) tag (codes "choose") name
      (chosen (whens s own) ws (otherwise s own) ss
      (ap whens_of (whens_lead s own one) ∙ whens_read s (leading (codes "when") own) ws are) has
      (ap statements_of (other_behind s own ws are)
      ∙ statements_read s (within (codes "otherwise") (behind (codes "when") own)) ss done))
  statement_read s tag own (assign p v) (name, is) =
      by_name (Read s own (assign p v)) tag (codes "let") name
      (ap (option_map (λ (x : Place × PlainValue). assign x.0 x.1)) (set_read s own p v is))
  statement_read s tag own (append n vs) (name, has, number, are) =
      by_name (Read s own (append n vs)) tag (codes "append") name
      (ap (appended (number_of s.names.vars (name_of tag.attributes))) (list_read s false own vs are)
      ∙ some_added (number_of s.names.vars (name_of tag.attributes)) n vs number has)
  statement_read s tag own (out ps) (name, are) =
      by_name (Read s own (out ps)) tag (codes "out") name
      (ap (λ (z : List PlainPiece). Some (out z)) (pieces_read s own ps are))
  statement_read s tag own (modify_case p v) (name, is) =
      by_name (Read s own (modify_case p v)) tag (codes "modify-case") name
      (ap (option_map (λ (x : Place × PlainValue). modify_case x.0 x.1)) (set_read s own p v is))
  statement_read s tag own (call_macro n positions) (name, number, given, are) =
      by_name (Read s own (call_macro n positions)) tag (codes "call-macro") name
      (ap (call_of s (number_of s.names.macros (name_of tag.attributes)))
      (params_read s own positions are)
      ∙ called_read s (number_of s.names.macros (name_of tag.attributes)) n positions number given)

  pub statements_read : (s : Scope) (own : Children) (sts : PlainStatements) →
      AreStatements s own sts → statements_of (statements s own) ≡ sts
  statements_read s nothing no_statements are = refl
  statements_read s nothing (then_statement st sts) are = absurd are
  statements_read s (element tag own more) no_statements are = absurd are
  statements_read s (element tag own more) (then_statement st sts) (first, rest) =
      ap statements_of (one_more (statement s tag own (whens s own) (otherwise s own)) st
      (statements s more) (statements s more) (statement_read s tag own st first) refl)
      ∙ ap (then_statement st) (statements_read s more sts rest)

  pub whens_read : (s : Scope) (own : Children) (ws : PlainWhens) → AreWhens s own ws →
      whens_of (whens s own) ≡ ws
  whens_read s nothing no_whens are = refl
  whens_read s nothing (then_when c ss ws) are = absurd are
  whens_read s (element tag own more) no_whens are = absurd are
  whens_read s (element tag own more) (then_when c ss ws) (name, test, done, rest) =
      ap whens_of (one_more (when_of s tag own (statements s own))
      (c, statements s (behind_first own)) (whens s more) (whens s more)
      (by_name (λ t. when_of s t own (statements s own) ≡ Some (c, statements s (behind_first own)))
      tag (codes "when") name (test_first s own c test)) refl)
      ∙ ap (λ (z : PlainStatements). then_when c z (whens_of (whens s more)))
      (statements_read s (behind_first own) ss done)
      ∙ ap (then_when c ss) (whens_read s more ws rest)

-- the statements of a list
pub body_read : (s : Scope) (own : Children) (sts : List PlainStatement) →
    AreStatements s own (statements_of sts) → statements s own ≡ sts
body_read s own sts are =
    statements_one (statements s own) sts (statements_read s own (statements_of sts) are)
