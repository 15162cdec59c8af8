use Rattle.ap_live.specs.Lexicon.{lexicon_of}
use Rattle.ap_lookup.proofs.PostCopies.{post_copies}
use Rattle.ap_lookup.proofs.post_generation_work.PostGenerationWorkCopies.is_free.Goals as goal

pub returns-clause-copies : goal.returns-clause-copies
returns-clause-copies c = λ h read xs none copied.
    post_copies (lexicon_of h.compiled h.sensitive) h.sensitive h.items read xs none copied
