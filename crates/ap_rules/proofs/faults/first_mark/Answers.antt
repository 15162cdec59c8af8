use Rattle.std.proofs.Common.{◌≡◌, ap, ◌∙◌, subst, Option, IfOk}
use Rattle.ap_markup.specs.View.{tag_of}
use Rattle.ap_rules.specs.Children.{children_of}
use Rattle.ap_rules.specs.Defining.{none_defined}
use Rattle.ap_rules.specs.Faults.{RuleMark, around_root, first_below}
use Rattle.ap_rules.specs.Walking.{around}
use Rattle.ap_rules.proofs.faults.first_mark.Goals as goal

pub returns : goal.returns
returns c =
    let tag = tag_of c.args.root.now in
    let own = children_of c.args.root.now in
    let same : first_below (around c.around_root.result) c.new-above.result tag own
    ≡ first_below (around_root c.args.form tag own) none_defined tag own =
    ap (λ a. first_below a c.new-above.result tag own) c.around_root.ensures
    ∙ ap (λ d. first_below (around_root c.args.form tag own) d tag own) c.new-above.ensures in
    subst (λ (x : Option RuleMark). IfOk c.first_below.result (λ first. first ≡ x)) same
    c.first_below.ensures
