-- Elements that are to be conditions, in a tree without fault, are conditions by the table.
use Rattle.std.proofs.Common.{◌≡◌, ℕ, ◌+◌, true, false, List, [], ◌∷◌, refl, sym, subst, Option, Some, None, codes}
use Rattle.ap_markup.specs.NameLists.{number_of}
use Rattle.ap_markup.specs.Names.{is_among}
use Rattle.ap_markup.specs.Rules.{values as value_names, conditions as condition_names}
use Rattle.ap_markup.specs.Said.{name_of}
use Rattle.ap_markup.specs.Table.{Content}
use Rattle.ap_markup.specs.TableRows.{one, two, some_of}
use Rattle.ap_markup.specs.Tree.{Tag}
use Rattle.ap_rules.specs.Children.{Children, nothing, element}
use Rattle.ap_rules.specs.ConditionRows.{IsComparison, AreValueAndList, IsMembership, IsCondition, AreConditions}
use Rattle.ap_rules.specs.Conditions.{is_caseless}
use Rattle.ap_rules.specs.Defining.{defined_after, defined_in}
use Rattle.ap_rules.specs.Plain.{no_values, then_value, PlainComparison, PlainMembership, PlainCondition, PlainConditions, all_of, one_of, negated, equal, begins_with, ends_with, contains_substring, is_in, begins_with_list, ends_with_list, no_conditions, then_condition}
use Rattle.ap_rules.specs.Soundness.{HasCondition}
use Rattle.ap_rules.specs.ValueRows.{IsAlone, AreValues}
use Rattle.ap_rules.specs.Values.{Scope}
use Rattle.ap_rules.specs.declared.defined.Defined.{Defined}
use Rattle.ap_rules.proofs.Faultless.{Clean, Stands, lacks_some, false_true, true_false}
use Rattle.ap_rules.proofs.Placing.{among_each, in_last, single, behind_one, as_row, AreFew, pair, one_each}
use Rattle.ap_rules.proofs.ValuesRead.{tag_as}
use Rattle.ap_rules.proofs.ValuesStand.{outside, Numbers, Reads, numbered, value_alone}

abbrev pub conditions_group : ℕ → Option ℕ → List Content
conditions_group least most = record { names = condition_names; least = least; most = most } ∷ []

abbrev pub Condition : Scope → Tag → Children → Type 0
Condition s tag own = (c : PlainCondition) × IsCondition s tag own c

-- the conditions of elements, with what is expected so far
abbrev Conditions : Scope → Defined → Defined → List ℕ → Children → Type 0
Conditions s all above parent own = (least : ℕ) (most : Option ℕ) (used : ℕ) →
    Clean (outside s all parent) above (conditions_group least most, used) own →
    (cs : PlainConditions) × AreConditions s own cs

-- one value is too few
two_values : AreFew (two value_names ∷ []) value_names
two_values = (
  λ t o. refl,
  (
    λ t o. refl,
    (
      λ t o. refl,
      (
        λ t o. refl,
        (
          λ t o. refl,
          (
            λ t o. refl,
            (λ t o. refl, (λ t o. refl, tt)),
          ),
        ),
      ),
    ),
  ),
)

abbrev value_and_list : List Content
value_and_list = one value_names ∷ one (codes "list" ∷ []) ∷ []

no_list : AreFew value_and_list value_names
no_list = (
  λ t o. refl,
  (
    λ t o. refl,
    (
      λ t o. refl,
      (
        λ t o. refl,
        (
          λ t o. refl,
          (
            λ t o. refl,
            (λ t o. refl, (λ t o. refl, tt)),
          ),
        ),
      ),
    ),
  ),
)

compared : (s : Scope) (all above : Defined) (name : List ℕ) (tag : Tag) (own : Children) →
    Numbers all s.names → Reads s false name →
    lacks_some (two value_names ∷ []) (two value_names ∷ []) own ≡ false →
    Clean (outside s all name) above (two value_names ∷ [], 0) own →
    (c : PlainComparison) × IsComparison s tag own c
compared s all above name tag own same may some c =
    let them = pair (outside s all name) above value_names own refl two_values some c in
    let v = value_alone s all above name them.tag them.inner same may them.tag_in them.tag_stands in
    let w = value_alone s all (defined_after them.tag (defined_in above them.inner)) name them.other
    them.within same may them.other_in them.other_stands in (
      record { caseless = is_caseless tag.attributes; first = v.0; second = w.0 },
      record {
        caseless = refl;
        values = subst (λ (k : Children). AreValues s false k
            (then_value v.0 (then_value w.0 no_values))) (sym them.own_is) (v.1, (w.1, tt));
      },
    )

listed : (s : Scope) (all above : Defined) (name : List ℕ) (tag : Tag) (own : Children) →
    Numbers all s.names → Reads s false name →
    lacks_some value_and_list value_and_list own ≡ false →
    Clean (outside s all name) above (value_and_list, 0) own →
    (m : PlainMembership) × IsMembership s tag own m
listed s all above name tag own same may some c =
    let them = one_each (outside s all name) above value_names (codes "list" ∷ []) own refl no_list
    some c in
    let behind = defined_after them.tag (defined_in above them.inner) in
    let v = value_alone s all above name them.tag them.inner same may them.tag_in them.tag_stands in
    let n = among_each (λ word. Stands (outside s all name) behind (tag_as word them.other)
    them.within → (n : ℕ) × ((word ≡ codes "list")
    × (number_of s.names.lists (name_of them.other.attributes) ≡ Some n))) (codes "list" ∷ [])
    them.other.name (
      λ z. (let k = numbered all.lists s.names.lists (name_of them.other.attributes) same.lists
          z.1.right.defined in (k.0, (refl, k.1))),
      tt,
    ) them.other_in them.other_stands in (
      record { caseless = is_caseless tag.attributes; value = v.0; list = n.0 },
      record {
        caseless = refl;
        parts = subst (λ (k : Children). AreValueAndList s k v.0 n.0) (sym them.own_is)
            (v.1, n.1.0, n.1.1);
      },
    )

-- one condition at least
some_conditions : (s : Scope) (own : Children) (cs : PlainConditions) →
    lacks_some (some_of condition_names ∷ []) (some_of condition_names ∷ []) own ≡ false →
    AreConditions s own cs → HasCondition cs
some_conditions s nothing cs some are = true_false some
some_conditions s (element tag inner more) no_conditions some are = absurd are
some_conditions s (element tag inner more) (then_condition c cs) some are = tt

alone_condition : (s : Scope) (own inner : Children) (tag : Tag) (cs : PlainConditions) →
    own ≡ element tag inner nothing → AreConditions s own cs →
    (c : PlainCondition) × IsAlone own (λ (one : Tag) (its : Children). IsCondition s one its c)
alone_condition s own inner tag cs e h =
    subst (λ (k : Children). (c : PlainCondition)
    × IsAlone k (λ (one : Tag) (its : Children). IsCondition s one its c)) (sym e)
    (by cs (subst (λ (k : Children). AreConditions s k cs) e h))
  where
    by : (cs : PlainConditions) → AreConditions s (element tag inner nothing) cs →
        (c : PlainCondition) × IsCondition s tag inner c
    by no_conditions k = absurd k
    by (then_condition c no_conditions) k = (c, k.0)
    by (then_condition c (then_condition d more)) k = absurd k.1

-- what is to be shown of an element of a name
abbrev Case : Scope → Defined → Defined → List ℕ → Tag → Children → List ℕ → Type 0
Case s all above parent tag own name =
    Stands (outside s all parent) above (tag_as name tag) own → Condition s (tag_as name tag) own

condition_stands : (s : Scope) (all above : Defined) (parent : List ℕ) (tag : Tag)
    (own : Children) → Numbers all s.names →
    ((name : List ℕ) → Conditions s all above name own) →
    is_among tag.name condition_names ≡ true → Stands (outside s all parent) above tag own →
    Condition s tag own
condition_stands s all above parent tag own same within h x =
    let a = outside s all parent in
    among_each (λ name. Stands a above (tag_as name tag) own → Condition s (tag_as name tag) own)
    condition_names tag.name (
      of_and,
      (
        of_or,
        (
          of_not,
          (
            of_equal,
            (
              of_begins_with,
              (
                of_begins_with_list,
                (
                  of_ends_with,
                  (
                    of_ends_with_list,
                    (
                      of_contains_substring,
                      (
                        of_in,
                        tt,
                      ),
                    ),
                  ),
                ),
              ),
            ),
          ),
        ),
      ),
    ) h x
  where
    of_and : Case s all above parent tag own (codes "and")
    of_and z =
        let r = as_row (outside s all parent) above (tag_as (codes "and") tag) own _ refl z in
        let cs = within (codes "and") 1 None 0 r.1 in
        (all_of cs.0, (refl, some_conditions s own cs.0 r.0.enough cs.1, cs.1))

    of_or : Case s all above parent tag own (codes "or")
    of_or z =
        let r = as_row (outside s all parent) above (tag_as (codes "or") tag) own _ refl z in
        let cs = within (codes "or") 1 None 0 r.1 in
        (one_of cs.0, (refl, some_conditions s own cs.0 r.0.enough cs.1, cs.1))

    of_not : Case s all above parent tag own (codes "not")
    of_not z =
        let r = as_row (outside s all parent) above (tag_as (codes "not") tag) own _ refl z in
        let it = single (outside s all (codes "not")) above condition_names own refl r.0.enough r.1
        in
        let cs = within (codes "not") 1 (Some 1) 0 r.1 in
        let c = alone_condition s own it.1 it.0 cs.0 it.2 cs.1 in (negated c.0, (refl, c.1))

    of_equal : Case s all above parent tag own (codes "equal")
    of_equal z =
        let r = as_row (outside s all parent) above (tag_as (codes "equal") tag) own _ refl z in
        let c = compared s all above (codes "equal") (tag_as (codes "equal") tag) own same
        (λ e k. false_true k) r.0.enough r.1 in (equal c.0, (refl, c.1))

    of_begins_with : Case s all above parent tag own (codes "begins-with")
    of_begins_with z =
        let r = as_row (outside s all parent) above (tag_as (codes "begins-with") tag) own _ refl z
        in
        let c = compared s all above (codes "begins-with") (tag_as (codes "begins-with") tag) own
        same
        (λ e k. false_true k) r.0.enough r.1 in (begins_with c.0, (refl, c.1))

    of_begins_with_list : Case s all above parent tag own (codes "begins-with-list")
    of_begins_with_list z =
        let r = as_row (outside s all parent) above (tag_as (codes "begins-with-list") tag) own _
        refl z in
        let m = listed s all above (codes "begins-with-list") (tag_as (codes "begins-with-list")
        tag)
        own same (λ e k. false_true k) r.0.enough r.1 in (begins_with_list m.0, (refl, m.1))

    of_ends_with : Case s all above parent tag own (codes "ends-with")
    of_ends_with z =
        let r = as_row (outside s all parent) above (tag_as (codes "ends-with") tag) own _ refl z in
        let c = compared s all above (codes "ends-with") (tag_as (codes "ends-with") tag) own same
        (λ e k. false_true k) r.0.enough r.1 in (ends_with c.0, (refl, c.1))

    of_ends_with_list : Case s all above parent tag own (codes "ends-with-list")
    of_ends_with_list z =
        let r = as_row (outside s all parent) above (tag_as (codes "ends-with-list") tag) own _
        refl z in
        let m = listed s all above (codes "ends-with-list") (tag_as (codes "ends-with-list") tag)
        own
        same (λ e k. false_true k) r.0.enough r.1 in (ends_with_list m.0, (refl, m.1))

    of_contains_substring : Case s all above parent tag own (codes "contains-substring")
    of_contains_substring z =
        let r = as_row (outside s all parent) above (tag_as (codes "contains-substring") tag) own _
        refl z in
        let c = compared s all above (codes "contains-substring") (tag_as (codes
        "contains-substring")
        tag) own same (λ e k. false_true k) r.0.enough r.1 in (contains_substring c.0, (refl, c.1))

    of_in : Case s all above parent tag own (codes "in")
    of_in z =
        let r = as_row (outside s all parent) above (tag_as (codes "in") tag) own _ refl z in
        let m = listed s all above (codes "in") (tag_as (codes "in") tag) own same
        (λ e k. false_true k) r.0.enough r.1 in (is_in m.0, (refl, m.1))

pub conditions_stand : (s : Scope) (all above : Defined) (parent : List ℕ) (own : Children) →
    Numbers all s.names → Conditions s all above parent own
conditions_stand s all above parent nothing same least most used c = (no_conditions, tt)
conditions_stand s all above parent (element tag own more) same least most used
    (here, (n, is, later)) =
    let g : Content = record { names = condition_names; least = least; most = most } in
    let y = in_last tag.name g used n is in
    let c = condition_stands s all above parent tag own same
    (λ name. conditions_stand s all above name own same) y.0 here in
    let cs = conditions_stand s all (defined_after tag (defined_in above own)) parent more same
    least most (used + 1)
    (behind_one (outside s all parent) above (g ∷ [], used + 1) own more tag n y.2 later) in
    (then_condition c.0 cs.0, (c.1, cs.1))

-- one condition
pub condition_alone : (s : Scope) (all above : Defined) (parent : List ℕ) (own : Children) →
    Numbers all s.names →
    lacks_some (one condition_names ∷ []) (one condition_names ∷ []) own ≡ false →
    Clean (outside s all parent) above (one condition_names ∷ [], 0) own →
    (c : PlainCondition) × IsAlone own (λ (one : Tag) (its : Children). IsCondition s one its c)
condition_alone s all above parent own same some c =
    let it = single (outside s all parent) above condition_names own refl some c in
    let cs = conditions_stand s all above parent own same 1 (Some 1) 0 c in
    alone_condition s own it.1 it.0 cs.0 it.2 cs.1
