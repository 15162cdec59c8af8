-- Elements that are to be statements, in a tree without fault, are statements by the table.
use Rattle.std.proofs.Common.{◌≡◌, inl, inr, ℕ, ◌+◌, ◌<◌, Bool, true, false, ◌==◌, cond, nat_lt, List, [], ◌∷◌, length, get_or, refl, sym, ap, ◌∙◌, subst, arith, Option, Some, None, codes}
use Rattle.std.specs.Prelude.{slice_get}
use Rattle.std.specs.List.{position_or_len}
use Rattle.std.specs.Str.{bytes_eq}
use Rattle.std.proofs.lemmas.Bool.Decides.{nat_tests}
use Rattle.std.proofs.lemmas.Option.{slice_get-get_or}
use Rattle.ap_markup.specs.Faults.{Expected, next}
use Rattle.ap_markup.specs.NameLists.{number_of}
use Rattle.ap_markup.specs.Names.{is_among}
use Rattle.ap_markup.specs.Rules.{values as value_names, statements as statement_names}
use Rattle.ap_markup.specs.Said.{name_of, is_named}
use Rattle.ap_markup.specs.Table.{Content}
use Rattle.ap_markup.specs.TableRows.{any_of, at_most_one, some_of, one}
use Rattle.ap_markup.specs.Tree.{Tag}
use Rattle.ap_rules.specs.Children.{Children, nothing, element, within, count_named}
use Rattle.ap_rules.specs.ConditionRows.{IsCondition}
use Rattle.ap_rules.specs.Defining.{defined_after, defined_in, npar_numbered, npar_named}
use Rattle.ap_rules.specs.Faults.{Around, is_other_than}
use Rattle.ap_rules.specs.Plain.{PlainValue, no_values, then_value, values_of, PlainCondition, PlainStatement, PlainWhens, choose, assign, append, out, modify_case, call_macro, no_whens, then_when, statements_of}
use Rattle.ap_rules.specs.Soundness.{HasSome, HasWhen}
use Rattle.ap_rules.specs.StatementRows.{value_at, IsSetting, AreParams, leading, behind, AreAtMostOne, IsTest, behind_first, IsStatement, AreStatements, AreWhens}
use Rattle.ap_rules.specs.ValueRows.{IsAlone, IsValue, AreValues}
use Rattle.ap_rules.specs.Values.{Scope, position_of}
use Rattle.ap_rules.specs.declared.defined.Defined.{Defined}
use Rattle.ap_rules.specs.declared.statement.Place.{Place}
use Rattle.ap_rules.specs.declared.statement.Place.TheVariants as place
use Rattle.ap_rules.proofs.ConditionsStand.{condition_alone}
use Rattle.ap_rules.proofs.Faultless.{Clean, Stands, lacks_some, not_false, false_true, true_false, some_one, none_some, neither}
use Rattle.ap_rules.proofs.PiecesStand.{pieces_stand}
use Rattle.ap_rules.proofs.Placing.{among_each, step, in_last, full, past, behind_one, as_row, AreFew, one_each, are_inner, quiet}
use Rattle.ap_rules.proofs.ValuesRead.{tag_as}
use Rattle.ap_rules.proofs.ValuesStand.{outside, Numbers, there, numbered, clip_stands, value_alone, values_stand}

-- the macros that may be called are those above
pub record Calls (above names : Defined) : Type 0 where
  pub macros : above.macros ≡ names.macros
  pub npars : above.npars ≡ names.npars
  pub even : length names.macros ≡ length names.npars

abbrev pub statements_group : List Content
statements_group = any_of statement_names ∷ []

abbrev Statement : Scope → Tag → Children → Type 0
Statement s tag own = (st : PlainStatement) × IsStatement s tag own st

-- a place, and a value

abbrev setting_groups : List Content
setting_groups = one (codes "clip" ∷ codes "var" ∷ []) ∷ one value_names ∷ []

no_value : AreFew setting_groups (codes "clip" ∷ codes "var" ∷ [])
no_value = (λ t o. refl, (λ t o. refl, tt))

setting_stands : (s : Scope) (all above : Defined) (name : List ℕ) (own : Children) →
    Numbers all s.names → (bytes_eq (codes "chunk") name ≡ false) →
    lacks_some setting_groups setting_groups own ≡ false →
    Clean (outside s all name) above (setting_groups, 0) own →
    (p : Place) × ((v : PlainValue) × IsSetting s own p v)
setting_stands s all above name own same other some c =
    let a = outside s all name in
    let them = one_each a above (codes "clip" ∷ codes "var" ∷ []) value_names own refl no_value some
    c in
    let p = among_each (λ word. Stands a above (tag_as word them.tag) them.inner →
    (p : Place) × IsValue s false (tag_as word them.tag) them.inner (value_at p))
    (codes "clip" ∷ codes "var" ∷ []) them.tag.name (
      λ z. (let k = clip_stands s all false name above them.tag them.inner same
          (λ x y. true_false (sym y ∙ other)) z.1.right in (place.Clip k.0, (refl, k.1))),
      (
        λ z. (let n = numbered all.vars s.names.vars (name_of them.tag.attributes) same.vars
            z.1.right.defined in (place.Var (record { n = n.0 }), (refl, n.1))),
        tt,
      ),
    ) them.tag_in
    them.tag_stands in
    let v = value_alone s all (defined_after them.tag (defined_in above them.inner)) name them.other
    them.within same (λ x y. true_false (sym y ∙ other)) them.other_in them.other_stands in (
      p.0,
      (
        v.0,
        subst (λ (k : Children). AreValues s false k
            (then_value (value_at p.0) (then_value v.0 no_values))) (sym them.own_is) (
              p.1,
              (
                v.1,
                tt,
              ),
            ),
      ),
    )

-- values that are added

some_values : (s : Scope) (own : Children) (vs : List PlainValue) →
    lacks_some (some_of value_names ∷ []) (some_of value_names ∷ []) own ≡ false →
    AreValues s false own (values_of vs) → HasSome vs
some_values s nothing vs some are = true_false some
some_values s (element tag inner more) [] some are = absurd are
some_values s (element tag inner more) (v ∷ vs) some are = tt

-- the units that a macro is given

abbrev params_group : List Content
params_group = any_of (codes "with-param" ∷ []) ∷ []

params_stand : (s : Scope) (all above : Defined) (own : Children) (used : ℕ) →
    Clean (outside s all (codes "call-macro")) above (params_group, used) own →
    (positions : List ℕ) × (AreParams s own positions
    × (count_named (codes "with-param") own ≡ length positions))
params_stand s all above nothing used c = ([], (tt, refl))
params_stand s all above (element tag own more) used (here, (n, is, later)) =
    let a = outside s all (codes "call-macro") in
    let y = in_last tag.name (any_of (codes "with-param" ∷ [])) used n is in
    let first = among_each (λ word. Stands a above (tag_as word tag) own →
    (pos : ℕ) × ((word ≡ codes "with-param") × (position_of s tag.attributes ≡ Some pos)
    × (is_named (codes "with-param") (tag_as word tag) ≡ true))) (codes "with-param" ∷ [])
    tag.name (
      λ z. (let pos = there (position_of s tag.attributes)
          (neither _ _ (neither _ _ (neither _ _ (neither _ _ z.1.right.numbered).0).0).0).0 in
          (pos.0, (refl, pos.1, refl))),
      tt,
    ) y.0 here in
    let rest = params_stand s all (defined_after tag (defined_in above own)) more (used + 1)
    (behind_one a above (params_group, used + 1) own more tag n y.2 later) in
    let count : (cond (is_named (codes "with-param") tag) 1 0) + count_named (codes "with-param")
    more
    ≡ length (first.0 ∷ rest.0) =
    ap (λ (b : Bool). cond b 1 0 + count_named (codes "with-param") more) first.1.2
    ∙ ap (λ (k : ℕ). 1 + k) rest.1.1 ∙ omega arith in
    (first.0 ∷ rest.0, ((first.1.0, first.1.1, rest.1.0), count))

number_within : (names : List (List ℕ)) (name : List ℕ) (n : ℕ) → number_of names name ≡ Some n →
    n < length names
number_within names name n e = by (nat_lt (position_or_len (bytes_eq name) names) (length names))
    refl e
  where
    by : (b : Bool) → nat_lt (position_or_len (bytes_eq name) names) (length names) ≡ b →
        cond {A = Option ℕ} b (Some (position_or_len (bytes_eq name) names)) None ≡ Some n →
        n < length names
    by true lt h = subst (λ (k : ℕ). k < length names)
        (some_one (position_or_len (bytes_eq name) names) n h) (grind (arith, nat_tests))
    by false lt h = none_some n h

same_count : (count : ℕ) (o : Option ℕ) (k : ℕ) → o ≡ Some k → is_other_than count o ≡ false →
    o ≡ Some count
same_count count o k e h =
    let same : (count == k) ≡ true = not_false (count == k)
    (subst (λ (z : Option ℕ). is_other_than count z ≡ false) e h) in
    let is : k ≡ count = grind (arith, nat_tests) in e ∙ ap Some is

called : (above names : Defined) (name : List ℕ) (n count : ℕ) → Calls above names →
    number_of names.macros name ≡ Some n → is_other_than count (npar_named above name) ≡ false →
    slice_get names.npars n ≡ Some count
called above names name n count same e h =
    let lt = number_within names.macros name n e in
    let given : npar_named above name ≡ slice_get names.npars n =
    ap (λ (ms : List (List ℕ)). npar_numbered above.npars (number_of ms name)) same.macros
    ∙ ap (npar_numbered above.npars) e ∙ ap (λ (ns : List ℕ). slice_get ns n) same.npars in
    let some : slice_get names.npars n ≡ Some (get_or names.npars n 0) =
    slice_get-get_or names.npars n 0 (omega (arith, lt, same.even)) in
    same_count count (slice_get names.npars n) (get_or names.npars n 0) some
    (subst (λ (z : Option ℕ). is_other_than count z ≡ false) given h)

-- choices

abbrev choose_groups : List Content
choose_groups = some_of (codes "when" ∷ []) ∷ at_most_one (codes "otherwise" ∷ []) ∷ []

abbrev when_groups : List Content
when_groups = one (codes "test" ∷ []) ∷ any_of statement_names ∷ []

-- the choices, and what is done otherwise
pub record Choice (s : Scope) (own : Children) : Type 0 where
  pub whens : PlainWhens
  pub last : List PlainStatement
  pub whens_are : AreWhens s (leading (codes "when") own) whens
  pub one : AreAtMostOne (codes "otherwise") (behind (codes "when") own)
  pub last_are : AreStatements s (within (codes "otherwise") (behind (codes "when") own))
      (statements_of last)

has_when : (s : Scope) (all above : Defined) (own : Children) (ws : PlainWhens) →
    lacks_some choose_groups choose_groups own ≡ false →
    Clean (outside s all (codes "choose")) above (choose_groups, 0) own →
    AreWhens s (leading (codes "when") own) ws → HasWhen ws
has_when s all above nothing ws some c are = true_false some
has_when s all above (element tag inner more) ws some (here, (n, is, later)) are =
    elim (step tag.name (some_of (codes "when" ∷ [])) (at_most_one (codes "otherwise" ∷ []) ∷ []) 0
    n is) [
      | inl y ↦ among_each (λ word. AreWhens s (leading (codes "when")
          (element (tag_as word tag) inner more)) ws → HasWhen ws) (codes "when" ∷ []) tag.name
          (λ h. by ws h, tt) y.0 are
      | inr y ↦ false_true y.0
    ]
  where
    by : (ws : PlainWhens) → AreWhens s (element (tag_as (codes "when") tag) inner
        (leading (codes "when") more)) ws → HasWhen ws
    by no_whens h = absurd h
    by (then_when c sts ws) h = tt

-- the statements of elements, with what is expected so far
abbrev Statements : Scope → Defined → Defined → List ℕ → Children → Type 0
Statements s all above parent own = (used : ℕ) →
    Clean (outside s all parent) above (statements_group, used) own →
    (sts : List PlainStatement) × AreStatements s own (statements_of sts)

abbrev Choices : Scope → Defined → Defined → Children → Type 0
Choices s all above own = (used : ℕ) →
    Clean (outside s all (codes "choose")) above (choose_groups, used) own → Choice s own

-- what is to be shown of an element of a name
abbrev Case : Scope → Defined → Defined → List ℕ → Tag → Children → List ℕ → Type 0
Case s all above parent tag own name =
    Stands (outside s all parent) above (tag_as name tag) own → Statement s (tag_as name tag) own

statement_stands : (s : Scope) (all above : Defined) (parent : List ℕ) (tag : Tag)
    (own : Children) → Numbers all s.names → Calls above s.names → Choices s all above own →
    is_among tag.name statement_names ≡ true → Stands (outside s all parent) above tag own →
    Statement s tag own
statement_stands s all above parent tag own same calls within h x =
    let a = outside s all parent in
    among_each (λ name. Stands a above (tag_as name tag) own → Statement s (tag_as name tag) own)
    statement_names tag.name (
      of_choose,
      (
        of_let,
        (
          of_append,
          (
            of_out,
            (
              of_modify_case,
              (of_call_macro, tt),
            ),
          ),
        ),
      ),
    ) h x
  where
    of_choose : Case s all above parent tag own (codes "choose")
    of_choose z =
        let r = as_row (outside s all parent) above (tag_as (codes "choose") tag) own _ refl z in
        let c = within 0 r.1 in (
          choose c.whens (statements_of c.last),
          (
            refl,
            has_when s all above own c.whens r.0.enough r.1 c.whens_are,
            c.whens_are,
            c.one,
            c.last_are,
          ),
        )

    of_let : Case s all above parent tag own (codes "let")
    of_let z =
        let r = as_row (outside s all parent) above (tag_as (codes "let") tag) own _ refl z in
        let p = setting_stands s all above (codes "let") own same refl r.0.enough r.1 in
        (assign p.0 p.1.0, (refl, p.1.1))

    of_append : Case s all above parent tag own (codes "append")
    of_append z =
        let r = as_row (outside s all parent) above (tag_as (codes "append") tag) own _ refl z in
        let vs = values_stand s all above false (codes "append") own same (λ e k. false_true k) 1
        None 0
        r.1 in
        let n = numbered all.vars s.names.vars (name_of tag.attributes) same.vars r.0.right.defined
        in
        (append n.0 vs.0, (refl, some_values s own vs.0 r.0.enough vs.1, n.1, vs.1))

    of_out : Case s all above parent tag own (codes "out")
    of_out z =
        let r = as_row (outside s all parent) above (tag_as (codes "out") tag) own _ refl z in
        let ps = pieces_stand s all above own 0 same r.1 in (out ps.0, (refl, ps.1))

    of_modify_case : Case s all above parent tag own (codes "modify-case")
    of_modify_case z =
        let r = as_row (outside s all parent) above (tag_as (codes "modify-case") tag) own _ refl z
        in
        let p = setting_stands s all above (codes "modify-case") own same refl r.0.enough r.1 in
        (modify_case p.0 p.1.0, (refl, p.1.1))

    of_call_macro : Case s all above parent tag own (codes "call-macro")
    of_call_macro z =
        let r = as_row (outside s all parent) above (tag_as (codes "call-macro") tag) own _ refl z
        in
        let n = numbered above.macros s.names.macros (name_of tag.attributes) calls.macros
        r.0.right.defined in
        let positions = params_stand s all above own 0 r.1 in
        let count : is_other_than (length positions.0) (npar_named above (name_of tag.attributes))
        ≡ false = subst (λ (k : ℕ). is_other_than k (npar_named above (name_of tag.attributes)) ≡
        false)
        positions.1.1 r.0.right.numbered in (
          call_macro n.0 positions.0,
          (
            refl,
            n.1,
            called above s.names (name_of tag.attributes) n.0 (length positions.0) calls n.1 count,
            positions.1.0,
          ),
        )

-- a test, and then statements
test_stands : (s : Scope) (all above : Defined) (tag : Tag) (own : Children) →
    Numbers all s.names →
    Stands (outside s all (codes "when")) above (tag_as (codes "test") tag) own →
    (c : PlainCondition) × IsAlone own (λ (one : Tag) (its : Children). IsCondition s one its c)
test_stands s all above tag own same z =
    let r = as_row (outside s all (codes "when")) above (tag_as (codes "test") tag) own _ refl z in
    condition_alone s all above (codes "test") own same r.0.enough r.1

-- the names above are the same behind an inner element
pub still : (a : Around) (above names : Defined) (e n : Expected) (tag : Tag) (own : Children) →
    are_inner e.0 ≡ true → Stands a above tag own → next tag.name e.0 e.1 ≡ Some n →
    Calls above names → Calls (defined_after tag (defined_in above own)) names
still a above names e n tag own inner here is calls =
    subst (λ (d : Defined). Calls d names)
    (sym (quiet a above e (element tag own nothing) above inner (here, (n, is, tt)))) calls

otherwise_stands : (s : Scope) (tag : Tag) (inner more : Children) → more ≡ nothing →
    (sts : List PlainStatement) → AreStatements s inner (statements_of sts) →
    Choice s (element (tag_as (codes "otherwise") tag) inner more)
otherwise_stands s tag inner more e sts are =
    subst (λ (k : Children). Choice s (element (tag_as (codes "otherwise") tag) inner k)) (sym e)
    (record { whens = no_whens; last = sts; whens_are = tt; one = refl; last_are = are })

-- a choice, with those behind it
when_with : (s : Scope) (tag : Tag) (inner more : Children) (c : PlainCondition)
    (sts : List PlainStatement) → IsTest s inner c →
    AreStatements s (behind_first inner) (statements_of sts) → Choice s more →
    Choice s (element (tag_as (codes "when") tag) inner more)
when_with s tag inner more c sts test are rest = record {
  whens = then_when c (statements_of sts) rest.whens;
  last = rest.last;
  whens_are = (refl, test, are, rest.whens_are);
  one = rest.one;
  last_are = rest.last_are;
}

abbrev When : Scope → Children → Type 0
When s own = (c : PlainCondition) × ((sts : List PlainStatement) × (IsTest s own c
    × AreStatements s (behind_first own) (statements_of sts)))

mutual
  pub statements_stand : (s : Scope) (all above : Defined) (parent : List ℕ) (own : Children) →
      Numbers all s.names → Calls above s.names → Statements s all above parent own
  statements_stand s all above parent nothing same calls used c = ([], tt)
  statements_stand s all above parent (element tag own more) same calls used
      (here, (n, is, later)) =
      let a = outside s all parent in
      let y = in_last tag.name (any_of statement_names) used n is in
      let st = statement_stands s all above parent tag own same calls
      (λ k c. choose_stand s all above own same calls k c) y.0 here in
      let sts = statements_stand s all (defined_after tag (defined_in above own)) parent more same
      (still a above s.names (statements_group, used) n tag own refl here is calls) (used + 1)
      (behind_one a above (statements_group, used + 1) own more tag n y.2 later) in
      (st.0 ∷ sts.0, (st.1, sts.1))

  choose_stand : (s : Scope) (all above : Defined) (own : Children) → Numbers all s.names →
      Calls above s.names → Choices s all above own
  choose_stand s all above nothing same calls used c =
      record { whens = no_whens; last = []; whens_are = tt; one = tt; last_are = tt }
  choose_stand s all above (element tag inner more) same calls used (here, (n, is, later)) =
      let a = outside s all (codes "choose") in
      let next_calls = still a above s.names (choose_groups, used) n tag inner refl here is calls in
      elim (step tag.name (some_of (codes "when" ∷ [])) (at_most_one (codes "otherwise" ∷ []) ∷ [])
      used n is) [
        | inl y ↦
            (let rest = choose_stand s all (defined_after tag (defined_in above inner)) more same
            next_calls (used + 1)
            (behind_one a above (choose_groups, used + 1) inner more tag n y.2 later) in
            among_each (λ word. Stands a above (tag_as word tag) inner →
            Choice s (element (tag_as word tag) inner more)) (codes "when" ∷ []) tag.name (
              λ z. (let r = as_row a above (tag_as (codes "when") tag) inner _ refl z in
                  let w = when_stands s all above inner same calls r.0.enough r.1 in
                  when_with s tag inner more w.0 w.1.0 w.1.1.0 w.1.1.1 rest),
              tt,
            ) y.0 here)
        | inr y ↦
            (let x = in_last tag.name (at_most_one (codes "otherwise" ∷ [])) 0 n y.1 in
            let last = full a (defined_after tag (defined_in above inner))
            (at_most_one (codes "otherwise" ∷ [])) 1 more refl
            (behind_one a above (at_most_one (codes "otherwise" ∷ []) ∷ [], 1) inner more tag n x.2
            later) in
            among_each (λ word. Stands a above (tag_as word tag) inner →
            Choice s (element (tag_as word tag) inner more)) (codes "otherwise" ∷ []) tag.name (
              λ z. (let r = as_row a above (tag_as (codes "otherwise") tag) inner _ refl z in
                  let sts = statements_stand s all above (codes "otherwise") inner same calls 0 r.1
                  in
                  otherwise_stands s tag inner more last sts.0 sts.1),
              tt,
            ) x.0 here)
      ]

  when_stands : (s : Scope) (all above : Defined) (own : Children) → Numbers all s.names →
      Calls above s.names → lacks_some when_groups when_groups own ≡ false →
      Clean (outside s all (codes "when")) above (when_groups, 0) own → When s own
  when_stands s all above nothing same calls some c = true_false some
  when_stands s all above (element tag inner more) same calls some (here, (n, is, later)) =
      let a = outside s all (codes "when") in
      let behind_it = defined_after tag (defined_in above inner) in
      let next_calls = still a above s.names (when_groups, 0) n tag inner refl here is calls in
      elim (step tag.name (one (codes "test" ∷ [])) statements_group 0 n is) [
        | inl y ↦
            (let sts = statements_stand s all behind_it (codes "when") more same next_calls 0
            (past a behind_it (one (codes "test" ∷ [])) statements_group 1 more refl
            (behind_one a above (when_groups, 1) inner more tag n y.2 later)) in
            let test = among_each (λ word. Stands a above (tag_as word tag) inner →
            (c : PlainCondition) × ((word ≡ codes "test") × IsAlone inner
            (λ (one : Tag) (its : Children). IsCondition s one its c))) (codes "test" ∷ []) tag.name
            (λ z. (let c = test_stands s all above tag inner same z in (c.0, (refl, c.1))), tt) y.0
            here in
            (test.0, (sts.0, ((test.1.0, test.1.1), sts.1))))
        | inr y ↦ false_true y.0
      ]
