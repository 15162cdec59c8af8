-- The words of what a text spells are words of the program.
use Rattle.std.proofs.Common.{◌≡◌, ℕ, Bool, true, false, cond, List, ◌∷◌, ◌++◌, length, refl, subst, Option, Some, None, Ok, Err, codes}
use Rattle.std.specs.Option.{option_map, option_to_list}
use Rattle.ap_markup.specs.Elements.{elements, Spelled}
use Rattle.ap_markup.specs.Marks.{mark_order}
use Rattle.ap_markup.specs.Said.{value_of, is_named}
use Rattle.ap_markup.specs.Sooner.{sooner}
use Rattle.ap_markup.specs.Tree.{Tag}
use Rattle.ap_markup.proofs.ElementLaws.{tree_found}
use Rattle.ap_rules.specs.Children.{Children, nothing, element, children, within}
use Rattle.ap_rules.specs.Faults.{RuleMark, is_length, holds_chunks, first_mark}
use Rattle.ap_rules.specs.Plain.{PlainRule, PlainRules}
use Rattle.ap_rules.specs.Refusals.{kind_number}
use Rattle.ap_rules.specs.Sections.{word_of_v, variables, macro_scope, macro, past_macro, is_macro, macros, past_macros, pattern_items, rule_scope, rule_with, rule, rules, section_names, rules_scope, rules_of}
use Rattle.ap_rules.specs.Soundness.{Opt, Each}
use Rattle.ap_rules.specs.Spelling.{table_of, mark_of, no_tag, rules_in, decided, judged, spelled, Spells}
use Rattle.ap_rules.specs.Statements.{statements}
use Rattle.ap_rules.specs.Values.{Scope}
use Rattle.ap_rules.specs.Worded.{IsWordedVariable, IsWordedMacro, IsWordedRule, AreWorded}
use Rattle.ap_rules.specs.declared.defined.Defined.{Defined}
use Rattle.ap_rules.specs.declared.rules.DefVar.{DefVar}
use Rattle.ap_rules.specs.declared.rules.Form.{Form}
use Rattle.ap_rules.specs.declared.rules.PatternItem.{PatternItem}
use Rattle.ap_rules.proofs.Sound.{each_opt, each_both, each_if}
use Rattle.ap_rules.proofs.TreeCharacters.{HoldGiven, tree_given, children_given, within_given}
use Rattle.ap_rules.proofs.WordedValues.{given_worded, statements_row, statements_worded}

variables_worded : (own : Children) → HoldGiven own → Each IsWordedVariable (variables own)
variables_worded nothing g = tt
variables_worded (element tag inner more) g =
    by (is_named (codes "def-var") tag) (variables_worded more g.2)
  where
    made : DefVar
    made = record { v = word_of_v tag }

    by : (t : Bool) → Each IsWordedVariable (variables more) →
        Each IsWordedVariable (cond t (made ∷ variables more) (variables more))
    by true k = (given_worded (codes "v") tag.attributes g.0, k)
    by false k = k

macros_worded : (form : Form) (chunks : Bool) (names : Defined) (own : Children) →
    HoldGiven own → Each IsWordedMacro (macros form chunks names own)
macros_worded form chunks names nothing g = tt
macros_worded form chunks names (element tag inner more) g =
    let s = macro_scope form chunks names tag in
    each_if IsWordedMacro (is_macro names tag)
    (macro form chunks names tag inner ∷ macros form chunks (past_macro tag names) more)
    (macros form chunks names more) (
      statements_row (statements s inner) (statements_worded s inner g.1),
      macros_worded form chunks (past_macro tag names) more g.2,
    )
    (macros_worded form chunks names more g.2)

rule_worded : (s : Scope) (tag : Tag) (pattern : List PatternItem) (action : Children) →
    HoldGiven action → Opt IsWordedRule (rule_with s tag pattern action)
rule_worded s tag pattern action g = by (is_length s.form (length pattern))
  where
    made : PlainRule
    made = record {
      line = tag.line;
      pattern = pattern;
      action = statements (rule_scope s (length pattern)) action;
    }

    by : (t : Bool) → Opt IsWordedRule (cond {A = Option PlainRule} t (Some made) None)
    by true = statements_row (statements (rule_scope s (length pattern)) action)
        (statements_worded (rule_scope s (length pattern)) action g)
    by false = tt

rules_worded : (s : Scope) (own : Children) → HoldGiven own → Each IsWordedRule (rules s own)
rules_worded s nothing g = tt
rules_worded s (element tag inner more) g =
    let o = rule s tag inner in
    each_if IsWordedRule (is_named (codes "rule") tag) (option_to_list o ++ rules s more)
    (rules s more)
    (each_both IsWordedRule (option_to_list o) (rules s more)
    (each_opt IsWordedRule o (rule_worded s tag
    (pattern_items s.names.cats (within (codes "pattern") inner)) (within (codes "action") inner)
    (within_given (codes "action") inner g.1)))
    (rules_worded s more g.2))
    (rules_worded s more g.2)

file_worded : (form : Form) (tag : Tag) (own : Children) → HoldGiven own →
    AreWorded (rules_of form tag own)
file_worded form tag own g =
    let chunks = holds_chunks form (value_of (codes "default") tag.attributes) in
    let names = section_names own in
    let part = within (codes "section-def-macros") own in
    let all = past_macros names part in
    record {
      variables = variables_worded (within (codes "section-def-vars") own)
          (within_given (codes "section-def-vars") own g);
      macros = macros_worded form chunks names part
          (within_given (codes "section-def-macros") own g);
      rules = rules_worded (rules_scope form chunks all) (within (codes "section-rules") own)
          (within_given (codes "section-rules") own g);
    }

tree_worded : (form : Form) (tree : Children) → HoldGiven tree → AreWorded (rules_in form tree)
tree_worded form nothing g = file_worded form no_tag nothing tt
tree_worded form (element tag own more) g = file_worded form tag own g.1

decided_worded : (form : Form) (tree : Children) (first : Option RuleMark) (r : PlainRules) →
    HoldGiven tree → decided form tree first ≡ Ok r → AreWorded r
decided_worded form tree None r g e = let same : rules_in form tree ≡ r = cc in
    subst AreWorded same (tree_worded form tree g)
decided_worded form tree (Some m) r g e = absurd (let no : ⊥ = cc in no)

judged_worded : (form : Form) (text : List ℕ) (read : Spelled) (r : PlainRules) →
    elements text (table_of form) ≡ read → judged form read ≡ Ok r → AreWorded r
judged_worded form text (Ok tree) r is e =
    let held = tree_given text (table_of form) tree.0 tree.1
    (tree_found text (table_of form) tree.0 tree.1 is) in
    decided_worded form (children tree.0)
    (sooner (mark_order kind_number) (option_map mark_of tree.1)
    (first_mark form (children tree.0))) r (children_given tree.0 held) e
judged_worded form text (Err f) r is e = absurd (let no : ⊥ = cc in no)

-- the rules that a text spells hold words of the program
pub spelled_worded : (form : Form) (text : List ℕ) (r : PlainRules) → Spells form text r →
    AreWorded r
unfolding spelled
spelled_worded form text r e = judged_worded form text (elements text (table_of form)) r refl e
