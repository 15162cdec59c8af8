-- Of the inside: no public contract stands on this file.
-- Which statements a choice runs.
use Rattle.std.specs.Prelude.{Bool, true, false, Ok}
use Rattle.ap_rules.specs.Plain.{PlainStatements, PlainWhens, no_whens, then_when}
use Rattle.ap_exec.specs.Conditions.{holds}
use Rattle.ap_exec.specs.Results.{Ran, ◌>>=◌}
use Rattle.ap_exec.specs.Units.{Sight}

-- these statements where the condition holds, or else what comes later
abbrev pub taken : Bool → PlainStatements → Ran PlainStatements → Ran PlainStatements
taken true first later = Ok first
taken false first later = later

-- the statements of the first choice whose condition holds, or else the others
abbrev pub chosen : Sight → PlainWhens → PlainStatements → Ran PlainStatements
chosen sight no_whens otherwise = Ok otherwise
chosen sight (then_when test statements more) otherwise =
    holds sight test >>= λ b. taken b statements (chosen sight more otherwise)
