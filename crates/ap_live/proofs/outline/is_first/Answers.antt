use Rattle.ap_live.proofs.outline.is_first.Goals as goal

pub returns-then-is_behind_smaller : goal.returns-then-is_behind_smaller
returns-then-is_behind_smaller c = λ t. record {
  end = c.is_behind_smaller.ensures.end c.if-is_behind_smaller.true;
  before = c.is_behind_smaller.ensures.before c.if-is_behind_smaller.true;
  behind = c.is_before_others.ensures t;
}
