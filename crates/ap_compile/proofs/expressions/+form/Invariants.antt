use Rattle.std.proofs.Common.{take, map}
use Rattle.ap_dix.specs.Forms.{forms_of}
use Rattle.ap_dix.specs.Language.{LangAll, LangSome}
use Rattle.ap_dix.specs.Plain.{plain}
use Rattle.std.specs.Prelude.{IsTrue}
use Rattle.ap_dix.specs.Soundness.{are_sound_forms}
use Rattle.ap_compile.specs.Drafts.{IsDraftOf}
use Rattle.ap_compile.specs.Forming.{OfStrings}
use Rattle.ap_compile.proofs.expressions.+form.Given as goal

abbrev pub invariant-choice_draft-loop-e : goal.invariant-choice_draft-loop-e
invariant-choice_draft-loop-e l = IsTrue (are_sound_forms (forms_of (map plain l.es))) →
    IsDraftOf (OfStrings (LangSome (forms_of (map plain (take l.e-index l.es))))) l.made

abbrev pub invariant-sequence_draft-loop-e : goal.invariant-sequence_draft-loop-e
invariant-sequence_draft-loop-e l = IsTrue (are_sound_forms (forms_of (map plain l.es))) →
    IsDraftOf (OfStrings (LangAll (forms_of (map plain (take l.e-index l.es))))) l.made
