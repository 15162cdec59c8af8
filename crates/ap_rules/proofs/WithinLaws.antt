-- What stands within the first element of a name.
use Rattle.std.proofs.Common.{◌≡◌, ℕ, ◌+◌, ◌≤◌, Bool, true, false, cond, List, refl, arith, codes}
use Rattle.ap_markup.specs.Said.{is_named}
use Rattle.ap_rules.specs.Children.{Children, nothing, element, within, size}
use Rattle.ap_rules.specs.Plain.{PlainStatement}
use Rattle.ap_rules.specs.Statements.{statements, otherwise}
use Rattle.ap_rules.specs.Values.{Scope}

pub size_within : (name : List ℕ) (own : Children) → size (within name own) ≤ size own
size_within name nothing = omega arith
size_within name (element tag inner more) = by (is_named name tag) (size_within name more)
  where
    by : (t : Bool) → size (within name more) ≤ size more →
        size (cond t inner (within name more)) ≤ size inner + size more + 1
    by true k = omega arith
    by false k = omega (arith, k)

pub otherwise_within : (s : Scope) (own : Children) → statements s (within (codes "otherwise") own)
    ≡ otherwise s own
otherwise_within s nothing = refl
otherwise_within s (element tag inner more) =
    by (is_named (codes "otherwise") tag) (otherwise_within s more)
  where
    by : (t : Bool) → statements s (within (codes "otherwise") more) ≡ otherwise s more →
        statements s (cond t inner (within (codes "otherwise") more))
        ≡ cond t (statements s inner) (otherwise s more)
    by true k = refl
    by false k = k

pub ruleset within_laws = (size_within, otherwise_within)
