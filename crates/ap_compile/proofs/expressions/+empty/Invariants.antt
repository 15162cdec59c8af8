use Rattle.std.proofs.Common.{[], take, map}
use Rattle.ap_dix.specs.Forms.{forms_of}
use Rattle.ap_dix.specs.Language.{LangAll, LangSome}
use Rattle.ap_dix.specs.Plain.{plain}
use Rattle.ap_compile.proofs.expressions.+empty.Given as goal

abbrev pub invariant-all_have_empty-loop-e : goal.invariant-all_have_empty-loop-e
invariant-all_have_empty-loop-e l = LangAll (forms_of (map plain (take l.e-index l.es))) []

abbrev pub invariant-some_has_empty-loop-e : goal.invariant-some_has_empty-loop-e
invariant-some_has_empty-loop-e l = LangSome (forms_of (map plain (take l.e-index l.es))) [] → ⊥
