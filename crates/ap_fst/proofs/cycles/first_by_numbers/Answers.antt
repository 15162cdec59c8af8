use Rattle.std.proofs.Common.{rules, nat_eq, IsTrue}
use Rattle.indexmap.specs.IndexMap.{get}
use Rattle.ap_fst.proofs.CycleLaws.{no_cycle_before, no_cycle_at_all}
use Rattle.ap_fst.proofs.cycles.first_by_numbers.Goals as goal

pub returns-in_default : goal.returns-in_default
returns-in_default c =
    let kept : IsTrue c.all_keep_up.result = search rules in
    no_cycle_at_all (get nat_eq c.args.numbers.now) c.args.edges.now (c.all_keep_up.ensures kept)
    c.in_default.ensures

pub returns-then-branch : goal.returns-then-branch
returns-then-branch c =
    let kept : IsTrue c.all_keep_up.result = search rules in
    let tried : IsTrue c.in_ok-is_on_cycle.field-0 = search rules in
    record {
      on = c.in_ok-is_on_cycle.ensures.0 tried;
      first = no_cycle_before (get nat_eq c.args.numbers.now) c.args.edges.now c.in-Some.at
          (c.all_keep_up.ensures kept) c.in-Some.ensures;
    }
