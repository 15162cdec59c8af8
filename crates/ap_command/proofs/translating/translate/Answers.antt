use Rattle.std.proofs.Common.{subst, ap}
use Rattle.ap_rules.specs.Views.{plain_rules}
use Rattle.ap_command.specs.Answer.{AreKeptAs}
use Rattle.ap_command.specs.Rows.{translation}
use Rattle.ap_command.specs.Words.{translation_files}
use Rattle.ap_command.specs.Gives.{gives_of}
use Rattle.ap_command.specs.declared.words.Command.TheVariants.{Run}
use Rattle.ap_command.proofs.Seven.{translation-kept, seven-said}
use Rattle.ap_command.proofs.translating.translate.Goals as goal

pub next_translation-files-requires : goal.next_translation-files-requires
next_translation-files-requires g c =
    translation-kept c.args.room c.requires.kept.0 c.requires.kept.1 c.args.kept.items
    c.requires.kept.2

pub translation_row-requires : goal.translation_row-requires
translation_row-requires g c =
    let f = c.next_translation-files.result in
    let s = seven-said c.args.room c.requires.kept.0 c.requires.kept.1 f.analyser f.bilingual
    f.transfer f.interchunk f.postchunk f.generator f.post_generator
    (subst (λ x. AreKeptAs (translation_files c.requires.kept.0) c.requires.kept.1 x)
    c.next_translation-files.ensures c.requires.kept.2) in
    record {
      transfer = s.t1x_serves;
      chunks = s.chunks;
      interchunk = s.t2x_serves;
      postchunk = s.t3x_serves;
    }

pub returns-clause-flows : goal.returns-clause-flows
returns-clause-flows g c =
    let f = c.next_translation-files.result in
    λ at said kept.
    let s = seven-said c.args.room at said f.analyser f.bilingual f.transfer f.interchunk
    f.postchunk f.generator f.post_generator
    (subst (λ x. AreKeptAs (translation_files at) said x) c.next_translation-files.ensures kept) in (
      translation s.m s.b (plain_rules f.transfer) (plain_rules f.interchunk)
          (plain_rules f.postchunk) s.g s.p,
      ap (gives_of (Run c.args.room at)) s.is,
      c.send.ensures.flows _ (c.translation_row.ensures.row s.m s.b s.g s.p s.m_kept s.b_kept
          s.g_kept s.p_kept),
    )
