use Rattle.std.proofs.Common.{◌∙◌, ap, arith, List}
use Rattle.ap_exec.specs.Stacks.{unwound, frames_cost}
use Rattle.ap_exec.specs.declared.stack.Frame.{Frame}
use Rattle.ap_exec.proofs.Stacking.{unwound_more, nested_higher, nested_more, cost_more}
use Rattle.ap_exec.proofs.stack.Stack.push.Goals as goal

pub returns-then-is_empty-clause-nested : goal.returns-then-is_empty-clause-nested
returns-then-is_empty-clause-nested c =
    nested_higher 0 c.args.self.now.frames.items c.args.scope.to _ c.requires.is_scope.within
    c.requires.below

pub returns-clause-left : goal.returns-clause-left
returns-clause-left c = λ w s.
    ap (λ (frames : List Frame). unwound w c.args.self.now.positions.items frames s)
    c.in_ok-push.ensures.items
    ∙ unwound_more w c.args.self.now.positions.items c.args.self.now.frames.items
    (record { rest = c.args.rest; scope = c.args.scope }) s

pub returns-clause-nested : goal.returns-clause-nested
returns-clause-nested c = rw c.in_ok-push.ensures.items
    (nested_more 0 c.args.self.now.frames.items
    (record { rest = c.args.rest; scope = c.args.scope }) _ c.requires.below
    c.requires.is_scope.order c.requires.is_scope.within)

pub returns-clause-stands : goal.returns-clause-stands
returns-clause-stands c = record {
  is_scope = c.requires.is_scope;
  below = rw c.in_ok-push.ensures.items
      (nested_more 0 c.args.self.now.frames.items
      (record { rest = c.args.rest; scope = c.args.scope }) c.args.scope.to c.requires.below
      c.requires.is_scope.order (omega arith));
}

pub returns-clause-cost : goal.returns-clause-cost
returns-clause-cost c = λ w. let cost = ap (frames_cost w) c.in_ok-push.ensures.items
    ∙ cost_more w c.args.self.now.frames.items (record { rest = c.args.rest; scope = c.args.scope })
    in omega (arith, cost)
