use Rattle.std.proofs.Common.{◌∙◌, ap, ◌∷◌, [], ◌++◌, List, map}
use Rattle.ap_exec.specs.Acting.{shown_chunk}
use Rattle.ap_exec.specs.Units.{Shown}
use Rattle.ap_chunk.specs.Matches.{first_name, shown_word}
use Rattle.ap_chunk.proofs.Shown.{words_shown}
use Rattle.ap_chunk.proofs.matches.words_of.Goals as goal

pub returns : goal.returns
returns c =
    let words = c.args.words.now in
    c.in_ok-push_words.ensures
    ∙ ap (λ (us : List Shown). us ++ map shown_word words) (c.in_ok-push.ensures.items
    ∙ ap (λ (us : List Shown). us ++ c.first_name.result ∷ []) c.new-units.ensures.items)
    ∙ ap (λ (u : Shown). u ∷ map shown_word words) c.first_name.ensures
    ∙ ap (λ (us : List Shown). shown_chunk (first_name c.args.reads.now) ∷ us) (words_shown words)
