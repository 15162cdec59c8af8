use Rattle.std.proofs.Common.{[], ◌∷◌, false, refl, ap, subst}
use Rattle.ap_fst.specs.declared.compiled.Way.TheVariants as told
use Rattle.ap_rules.specs.Views.{plain_rules}
use Rattle.ap_rules.specs.declared.rules.Form.TheVariants as form
use Rattle.ap_command.specs.declared.content.Content.TheVariants as code
use Rattle.ap_command.specs.declared.reading.Manner.TheVariants.{Either, Ruled, Paired}
use Rattle.ap_command.specs.declared.words.Command.TheVariants.{Proc, Trim, First, Choose, TransferAlone, Transfer, Interchunk, Postchunk, Destxt, Compound, Run, Text}
use Rattle.ap_command.specs.declared.words.Mode.TheVariants.{A, B}
use Rattle.ap_command.specs.Words.{texts, way_of, files_of}
use Rattle.ap_command.specs.Outside.{stands}
use Rattle.ap_command.specs.Gives.{gives_of}
use Rattle.ap_command.specs.Rows.{ByFile, FirstReadings, Chooses, Transfers, Interchunks, Postchunks, Deformats, AnalysesAlone, Explains, translation, plain_translation}
use Rattle.ap_command.proofs.Gave.{gave-listing, gave-made, gave-trimmed, gave-none, gave-one, gave-two, gave-work, pairs-said, rules-said, serve-first, second-compiled, runs-by}
use Rattle.ap_command.specs.Answer.{AreKeptAs}
use Rattle.ap_command.proofs.Seven.{translation-kept, seven-said}
use Rattle.ap_command.proofs.top.give.Goals as goal

pub returns-in-Expand-clause-gave : goal.returns-in-Expand-clause-gave
returns-in-Expand-clause-gave g c =
    λ said kept. gave-listing (texts c.args.words.now) c.args.command c.in-Expand.dix said
    c.args.kept.items c.next_dictionary.new.kept.items c.next_dictionary.result
    (stands g.F.Files g.S.Source g.K.Sink c.args.files.now c.args.source.now c.args.sink.now)
    (stands g.F.Files g.S.Source g.K.Sink c.args.files.now c.args.source.now
    c.put_lines.new.sink) c.put_lines.result
    c.in-Expand.is kept c.next_dictionary.ensures.first refl refl c.put_lines.ensures.listed

pub returns-in-Comp-clause-gave : goal.returns-in-Comp-clause-gave
returns-in-Comp-clause-gave g c =
    λ said kept. gave-made (texts c.args.words.now) c.args.command c.in-Comp.way c.in-Comp.dix
    c.in-Comp.out c.name.result.now said c.args.kept.items
    c.next_compiled-compiled-in-Comp.new.kept.items c.next_compiled-compiled-in-Comp.result
    (stands g.F.Files g.S.Source g.K.Sink c.args.files.now c.args.source.now c.args.sink.now)
    (stands g.F.Files g.S.Source g.K.Sink c.store_compiled.new.files c.args.source.now
    c.store_compiled.new.sink) c.store_compiled.result
    c.in-Comp.is c.name.ensures kept c.next_compiled-compiled-in-Comp.ensures refl
    c.store_compiled.ensures.stored

pub returns-in-Trim-clause-gave : goal.returns-in-Trim-clause-gave
returns-in-Trim-clause-gave g c =
    λ said kept. gave-trimmed (texts c.args.words.now) c.args.command c.in-Trim.mono c.in-Trim.bi
    c.in-Trim.out c.name-in-Trim.result.now said c.args.kept.items
    c.next_compiled-mono.new.kept.items c.next_compiled-bilingual.new.kept.items
    c.next_compiled-mono.result c.next_compiled-bilingual.result
    (stands g.F.Files g.S.Source g.K.Sink c.args.files.now c.args.source.now c.args.sink.now)
    (stands g.F.Files g.S.Source g.K.Sink c.store_trimmed.new.files c.args.source.now
    c.store_trimmed.new.sink) c.store_trimmed.result
    c.in-Trim.is c.name-in-Trim.ensures kept c.next_compiled-mono.ensures
    c.next_compiled-bilingual.ensures refl c.store_trimmed.ensures.stored

pub returns-in-Proc-clause-gave : goal.returns-in-Proc-clause-gave
returns-in-Proc-clause-gave g c =
    λ said kept. gave-one (texts c.args.words.now) c.args.command (Proc c.in-Proc.mode
    c.in-Proc.sensitive c.in-Proc.file)
    (record { place = c.in-Proc.file; manner = Either (way_of c.in-Proc.mode) }) said
    c.args.kept.items c.next_compiled-compiled.new.kept.items (code.Sections
    c.next_compiled-compiled.result)
    (stands g.F.Files g.S.Source g.K.Sink c.args.files.now c.args.source.now c.args.sink.now)
    (stands g.F.Files g.S.Source g.K.Sink c.args.files.now c.send_one.new.source
    c.send_one.new.sink)
    c.send_one.result
    c.in-Proc.is refl kept c.next_compiled-compiled.ensures refl
    (λ one h. (
      ByFile c.in-Proc.mode one c.in-Proc.sensitive ∷ [],
      refl,
      c.send_one.ensures.flows (ByFile c.in-Proc.mode one c.in-Proc.sensitive)
          (c.file_stage.ensures.stage one h),
    ))

pub returns-in-Choose-clause-gave : goal.returns-in-Choose-clause-gave
returns-in-Choose-clause-gave g c =
    λ said kept. gave-one (texts c.args.words.now) c.args.command (Choose c.in-Choose.pairs)
    (record { place = c.in-Choose.pairs; manner = Paired }) said
    c.args.kept.items c.next_pairs-pairs.new.kept.items (code.Pairs c.next_pairs-pairs.result)
    (stands g.F.Files g.S.Source g.K.Sink c.args.files.now c.args.source.now c.args.sink.now)
    (stands g.F.Files g.S.Source g.K.Sink c.args.files.now c.send_one-in-Choose.new.source
    c.send_one-in-Choose.new.sink)
    c.send_one-in-Choose.result
    c.in-Choose.is refl kept c.next_pairs-pairs.ensures refl
    (λ one h. (
      Chooses c.next_pairs-pairs.result ∷ [],
      ap (λ x. gives_of (Choose c.in-Choose.pairs) (x ∷ [])) (pairs-said one _ h),
      c.send_one-in-Choose.ensures.flows (Chooses c.next_pairs-pairs.result)
          c.choose_stage.ensures.stage,
    ))

pub returns-in-TransferAlone-clause-gave : goal.returns-in-TransferAlone-clause-gave
returns-in-TransferAlone-clause-gave g c =
    λ said kept. gave-one (texts c.args.words.now) c.args.command (TransferAlone
    c.in-TransferAlone.t1x)
    (record { place = c.in-TransferAlone.t1x; manner = Ruled form.Transfer }) said
    c.args.kept.items c.next_rules-rules.new.kept.items (code.Rules c.next_rules-rules.result)
    (stands g.F.Files g.S.Source g.K.Sink c.args.files.now c.args.source.now c.args.sink.now)
    (stands g.F.Files g.S.Source g.K.Sink c.args.files.now c.send_one-in-TransferAlone.new.source
    c.send_one-in-TransferAlone.new.sink)
    c.send_one-in-TransferAlone.result
    c.in-TransferAlone.is refl kept c.next_rules-rules.ensures refl
    (λ one h. (
      Transfers (plain_rules c.next_rules-rules.result) ∷ [],
      ap (λ x. gives_of (TransferAlone c.in-TransferAlone.t1x) (x ∷ [])) (rules-said form.Transfer
          one _ h),
      c.send_one-in-TransferAlone.ensures.flows (Transfers (plain_rules c.next_rules-rules.result))
          c.transfer_stage.ensures.stage,
    ))

pub returns-in-Interchunk-clause-gave : goal.returns-in-Interchunk-clause-gave
returns-in-Interchunk-clause-gave g c =
    λ said kept. gave-one (texts c.args.words.now) c.args.command (Interchunk c.in-Interchunk.t2x)
    (record { place = c.in-Interchunk.t2x; manner = Ruled form.Interchunk }) said
    c.args.kept.items c.next_rules-rules-in-Interchunk.new.kept.items (code.Rules
    c.next_rules-rules-in-Interchunk.result)
    (stands g.F.Files g.S.Source g.K.Sink c.args.files.now c.args.source.now c.args.sink.now)
    (stands g.F.Files g.S.Source g.K.Sink c.args.files.now c.send_one-in-Interchunk.new.source
    c.send_one-in-Interchunk.new.sink)
    c.send_one-in-Interchunk.result
    c.in-Interchunk.is refl kept c.next_rules-rules-in-Interchunk.ensures refl
    (λ one h. (
      Interchunks (plain_rules c.next_rules-rules-in-Interchunk.result) ∷ [],
      ap (λ x. gives_of (Interchunk c.in-Interchunk.t2x) (x ∷ [])) (rules-said form.Interchunk one _
          h),
      c.send_one-in-Interchunk.ensures.flows (Interchunks (plain_rules
          c.next_rules-rules-in-Interchunk.result)) c.interchunk_stage.ensures.stage,
    ))

pub returns-in-Postchunk-clause-gave : goal.returns-in-Postchunk-clause-gave
returns-in-Postchunk-clause-gave g c =
    λ said kept. gave-one (texts c.args.words.now) c.args.command (Postchunk c.in-Postchunk.t3x)
    (record { place = c.in-Postchunk.t3x; manner = Ruled form.Postchunk }) said
    c.args.kept.items c.next_rules-rules-in-Postchunk.new.kept.items (code.Rules
    c.next_rules-rules-in-Postchunk.result)
    (stands g.F.Files g.S.Source g.K.Sink c.args.files.now c.args.source.now c.args.sink.now)
    (stands g.F.Files g.S.Source g.K.Sink c.args.files.now c.send_one-in-Postchunk.new.source
    c.send_one-in-Postchunk.new.sink)
    c.send_one-in-Postchunk.result
    c.in-Postchunk.is refl kept c.next_rules-rules-in-Postchunk.ensures refl
    (λ one h. (
      Postchunks (plain_rules c.next_rules-rules-in-Postchunk.result) ∷ [],
      ap (λ x. gives_of (Postchunk c.in-Postchunk.t3x) (x ∷ [])) (rules-said form.Postchunk one _
          h),
      c.send_one-in-Postchunk.ensures.flows (Postchunks (plain_rules
          c.next_rules-rules-in-Postchunk.result)) c.postchunk_stage.ensures.stage,
    ))

pub returns-in-First-clause-gave : goal.returns-in-First-clause-gave
returns-in-First-clause-gave g c =
    λ said kept. gave-none (texts c.args.words.now) c.args.command First said c.args.kept.items
    (stands g.F.Files g.S.Source g.K.Sink c.args.files.now c.args.source.now c.args.sink.now)
    (stands g.F.Files g.S.Source g.K.Sink c.args.files.now c.send_one-in-First.new.source
    c.send_one-in-First.new.sink)
    c.send_one-in-First.result
    c.in-First.is refl kept refl (
      FirstReadings ∷ [],
      refl,
      c.send_one-in-First.ensures.flows FirstReadings
          c.first_stage.ensures.stage,
    )

pub returns-in-Destxt-clause-gave : goal.returns-in-Destxt-clause-gave
returns-in-Destxt-clause-gave g c =
    λ said kept. gave-none (texts c.args.words.now) c.args.command Destxt said c.args.kept.items
    (stands g.F.Files g.S.Source g.K.Sink c.args.files.now c.args.source.now c.args.sink.now)
    (stands g.F.Files g.S.Source g.K.Sink c.args.files.now c.send_one-in-Destxt.new.source
    c.send_one-in-Destxt.new.sink)
    c.send_one-in-Destxt.result
    c.in-Destxt.is refl kept refl (
      Deformats ∷ [],
      refl,
      c.send_one-in-Destxt.ensures.flows Deformats c.destxt_stage.ensures.stage,
    )

pub returns-in-Transfer-clause-gave : goal.returns-in-Transfer-clause-gave
returns-in-Transfer-clause-gave g c =
    λ said kept. gave-two (texts c.args.words.now) c.args.command
    (Transfer c.in-Transfer.t1x c.in-Transfer.bidix)
    (record { place = c.in-Transfer.t1x; manner = Ruled form.Transfer })
    (record { place = c.in-Transfer.bidix; manner = Either told.Untold }) said
    c.args.kept.items c.next_rules-rules-in-Transfer.new.kept.items
    c.next_compiled-compiled-in-Transfer.new.kept.items
    (code.Rules c.next_rules-rules-in-Transfer.result)
    (code.Sections c.next_compiled-compiled-in-Transfer.result)
    (stands g.F.Files g.S.Source g.K.Sink c.args.files.now c.args.source.now c.args.sink.now)
    (stands g.F.Files g.S.Source g.K.Sink c.args.files.now c.send.new.source c.send.new.sink)
    c.send.result
    c.in-Transfer.is refl kept c.next_rules-rules-in-Transfer.ensures
    c.next_compiled-compiled-in-Transfer.ensures refl
    (λ rules bidix h b. (
      ByFile B bidix false ∷ Transfers (plain_rules c.next_rules-rules-in-Transfer.result) ∷ [],
      ap (λ x. gives_of (Transfer c.in-Transfer.t1x c.in-Transfer.bidix) (x ∷ bidix ∷ []))
          (rules-said form.Transfer rules _ h),
      c.send.ensures.flows _ (c.looked_up_row.ensures.row bidix b),
    ))

pub translate-requires-clause-kept : goal.translate-requires-clause-kept
translate-requires-clause-kept g c = (
  c.in-Run.mono,
  c.requires.kept.0,
  subst (λ x. AreKeptAs (files_of x) c.requires.kept.0 c.args.kept.items) c.in-Run.is
      c.requires.kept.1,
)

pub returns-in-Run-clause-gave : goal.returns-in-Run-clause-gave
returns-in-Run-clause-gave g c =
    λ said kept. runs-by (texts c.args.words.now) c.args.command (Run c.in-Run.room c.in-Run.mono)
    said said (stands g.F.Files g.S.Source g.K.Sink c.args.files.now c.args.source.now
    c.args.sink.now)
    (stands g.F.Files g.S.Source g.K.Sink c.args.files.now c.translate.new.source
    c.translate.new.sink) c.translate.result c.in-Run.is refl refl
    (c.translate.ensures.flows c.in-Run.mono said
    (subst (λ x. AreKeptAs (files_of x) said c.args.kept.items) c.in-Run.is kept))

pub returns-in-Work-clause-gave : goal.returns-in-Work-clause-gave
returns-in-Work-clause-gave g c =
    λ said kept. gave-work (texts c.args.words.now) c.args.command c.in-Work.sentences said
    c.args.kept.items
    (stands g.F.Files g.S.Source g.K.Sink c.args.files.now c.args.source.now c.args.sink.now)
    (stands g.F.Files g.S.Source g.K.Sink c.args.files.now c.args.source.now c.work.new.sink)
    c.work.result c.in-Work.is kept refl refl c.work.ensures.worked

pub next_translation-seven-requires : goal.next_translation-seven-requires
next_translation-seven-requires g c =
    translation-kept c.in-Text.room c.in-Text.mono c.requires.kept.0 c.args.kept.items
    (subst (λ x. AreKeptAs (files_of x) c.requires.kept.0 c.args.kept.items) c.in-Text.is
    c.requires.kept.1)

pub text_row-requires : goal.text_row-requires
text_row-requires g c =
    let f = c.next_translation-seven.result in
    let s = seven-said c.in-Text.room c.in-Text.mono c.requires.kept.0 f.analyser f.bilingual
    f.transfer f.interchunk f.postchunk f.generator f.post_generator
    (subst (λ x. AreKeptAs (files_of (Text c.in-Text.room c.in-Text.mono)) c.requires.kept.0 x)
    c.next_translation-seven.ensures
    (subst (λ x. AreKeptAs (files_of x) c.requires.kept.0 c.args.kept.items) c.in-Text.is
    c.requires.kept.1)) in
    record {
      transfer = s.t1x_serves;
      chunks = s.chunks;
      interchunk = s.t2x_serves;
      postchunk = s.t3x_serves;
    }

pub returns-in-Text-clause-gave : goal.returns-in-Text-clause-gave
returns-in-Text-clause-gave g c =
    let f = c.next_translation-seven.result in
    λ said kept.
    let s = seven-said c.in-Text.room c.in-Text.mono said f.analyser f.bilingual f.transfer
    f.interchunk f.postchunk f.generator f.post_generator
    (subst (λ x. AreKeptAs (files_of (Text c.in-Text.room c.in-Text.mono)) said x)
    c.next_translation-seven.ensures
    (subst (λ x. AreKeptAs (files_of x) said c.args.kept.items) c.in-Text.is kept)) in
    runs-by (texts c.args.words.now) c.args.command (Text c.in-Text.room c.in-Text.mono) said _
    (stands g.F.Files g.S.Source g.K.Sink c.args.files.now c.args.source.now c.args.sink.now)
    (stands g.F.Files g.S.Source g.K.Sink c.args.files.now c.send-in-Text.new.source
    c.send-in-Text.new.sink)
    c.send-in-Text.result c.in-Text.is s.is refl (
      plain_translation s.m s.b (plain_rules f.transfer) (plain_rules f.interchunk) (plain_rules
          f.postchunk) s.g s.p,
      refl,
      c.send-in-Text.ensures.flows _ (c.text_row.ensures.row s.m s.b s.g s.p
          s.m_kept s.b_kept s.g_kept s.p_kept),
    )

pub transfer_stage-requires : goal.transfer_stage-requires
transfer_stage-requires g c =
    serve-first c.args.command (TransferAlone c.in-TransferAlone.t1x) c.in-TransferAlone.t1x
    form.Transfer [] c.requires.kept.0 c.args.kept.items c.next_rules-rules.new.kept.items
    c.next_rules-rules.result c.in-TransferAlone.is refl c.requires.kept.1
    c.next_rules-rules.ensures

pub interchunk_stage-requires : goal.interchunk_stage-requires
interchunk_stage-requires g c =
    serve-first c.args.command (Interchunk c.in-Interchunk.t2x) c.in-Interchunk.t2x
    form.Interchunk [] c.requires.kept.0 c.args.kept.items
    c.next_rules-rules-in-Interchunk.new.kept.items
    c.next_rules-rules-in-Interchunk.result c.in-Interchunk.is refl c.requires.kept.1
    c.next_rules-rules-in-Interchunk.ensures

pub postchunk_stage-requires : goal.postchunk_stage-requires
postchunk_stage-requires g c =
    serve-first c.args.command (Postchunk c.in-Postchunk.t3x) c.in-Postchunk.t3x
    form.Postchunk [] c.requires.kept.0 c.args.kept.items
    c.next_rules-rules-in-Postchunk.new.kept.items
    c.next_rules-rules-in-Postchunk.result c.in-Postchunk.is refl c.requires.kept.1
    c.next_rules-rules-in-Postchunk.ensures

pub looked_up_row-requires : goal.looked_up_row-requires
looked_up_row-requires g c =
    serve-first c.args.command (Transfer c.in-Transfer.t1x c.in-Transfer.bidix) c.in-Transfer.t1x
    form.Transfer (record { place = c.in-Transfer.bidix; manner = Either told.Untold } ∷ [])
    c.requires.kept.0 c.args.kept.items c.next_rules-rules-in-Transfer.new.kept.items
    c.next_rules-rules-in-Transfer.result c.in-Transfer.is refl c.requires.kept.1
    c.next_rules-rules-in-Transfer.ensures

pub next_compiled-compiled-requires-in-Transfer : goal.next_compiled-compiled-requires-in-Transfer
next_compiled-compiled-requires-in-Transfer g c =
    second-compiled c.args.command (Transfer c.in-Transfer.t1x c.in-Transfer.bidix)
    (record { place = c.in-Transfer.t1x; manner = Ruled form.Transfer }) c.in-Transfer.bidix
    told.Untold [] c.requires.kept.0 c.args.kept.items c.next_rules-rules-in-Transfer.new.kept.items
    (code.Rules c.next_rules-rules-in-Transfer.result) c.in-Transfer.is refl c.requires.kept.1
    c.next_rules-rules-in-Transfer.ensures

pub next_compiled-bilingual-requires : goal.next_compiled-bilingual-requires
next_compiled-bilingual-requires g c =
    second-compiled c.args.command (Trim c.in-Trim.mono c.in-Trim.bi c.in-Trim.out)
    (record { place = c.in-Trim.mono; manner = Either told.Lr }) c.in-Trim.bi
    told.Untold [] c.requires.kept.0 c.args.kept.items c.next_compiled-mono.new.kept.items
    (code.Sections c.next_compiled-mono.result) c.in-Trim.is refl c.requires.kept.1
    c.next_compiled-mono.ensures

pub returns-in-Compound-clause-gave : goal.returns-in-Compound-clause-gave
returns-in-Compound-clause-gave g c =
    λ said kept. gave-one (texts c.args.words.now) c.args.command
    (Compound c.in-Compound.sensitive c.in-Compound.file)
    (record { place = c.in-Compound.file; manner = Either (way_of A) }) said c.args.kept.items
    c.next_compiled-compiled-in-Compound.new.kept.items
    (code.Sections c.next_compiled-compiled-in-Compound.result)
    (stands g.F.Files g.S.Source g.K.Sink c.args.files.now c.args.source.now c.args.sink.now)
    (stands g.F.Files g.S.Source g.K.Sink c.args.files.now c.send-in-Compound.new.source
    c.send-in-Compound.new.sink) c.send-in-Compound.result
    c.in-Compound.is refl kept c.next_compiled-compiled-in-Compound.ensures refl
    (λ file h. (
      AnalysesAlone file c.in-Compound.sensitive ∷ Explains file c.in-Compound.sensitive ∷ [],
      refl,
      c.send-in-Compound.ensures.flows _ (c.compound_row.ensures.row file h),
    ))
