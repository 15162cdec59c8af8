use Rattle.std.proofs.Common.{rules, ◌≡◌, ◌∙◌, sym, ap, Some, List, ℕ, false, is_none, arith, length}
use Rattle.std.proofs.lemmas.Grind.{common_steps}
use Rattle.ap_outside.specs.Held.{content_of}
use Rattle.ap_outside.specs.Numbered.{is_listed}
use Rattle.ap_outside.specs.declared.mem_file.MemFile.{MemFile}
use Rattle.ap_outside.proofs.Places.{content_placed, not_failed, neither, others_of_a_file, others_of_no_file}
use Rattle.ap_outside.proofs.mem_files.MemFilesFiles.load.Goals as goal

pub returns-then-len-most-clause-listed : goal.returns-then-len-most-clause-listed
returns-then-len-most-clause-listed c =
    let there : content_of c.args.self.now.files.items c.args.name.now ≡ Some _ =
    content_placed c.args.self.now.files.items c.in-Some.at c.index-2.result.now c.args.name.now
    (search rules) in
    let listed : is_listed c.args.self.now.failing.items c.args.self.now.calls ≡ false =
    search rules in
    not_failed _ (neither _ _ (ap is_none there) listed) (λ h. cc)

pub returns-in-Ok-clause-loaded : goal.returns-in-Ok-clause-loaded
returns-in-Ok-clause-loaded c =
    let content : MemFile → List ℕ = λ file. file.bytes.items in
    let there : content_of c.args.self.now.files.items c.args.name.now ≡ Some _ =
    content_placed c.args.self.now.files.items c.in-Some.at c.index-2.result.now c.args.name.now
    (search rules) in
    let copied : c.extend_from_slice.new.self.items ≡ c.index-2.result.now.bytes.items =
    grind (arith, common_steps) in (
      there ∙ ap Some (sym (ap content c.index-2.ensures)) ∙ ap Some (sym copied),
      omega (arith, ap length copied),
    )

pub returns-in-Ok-clause-listed : goal.returns-in-Ok-clause-listed
returns-in-Ok-clause-listed c =
    let there : content_of c.args.self.now.files.items c.args.name.now ≡ Some _ =
    content_placed c.args.self.now.files.items c.in-Some.at c.index-2.result.now c.args.name.now
    (search rules) in
    let listed : is_listed c.args.self.now.failing.items c.args.self.now.calls ≡ false =
    search rules in
    not_failed _ (neither _ _ (ap is_none there) listed) (λ h. cc)

pub returns-in-Err-clause-listed : goal.returns-in-Err-clause-listed
returns-in-Err-clause-listed c =
    let there : content_of c.args.self.now.files.items c.args.name.now ≡ Some _ =
    content_placed c.args.self.now.files.items c.in-Some.at c.index-2.result.now c.args.name.now
    (search rules) in
    let listed : is_listed c.args.self.now.failing.items c.args.self.now.calls ≡ false =
    search rules in
    not_failed _ (neither _ _ (ap is_none there) listed) (λ h. cc)

pub returns-in-Err-clause-memory : goal.returns-in-Err-clause-memory
returns-in-Err-clause-memory c _ =
    let content : MemFile → List ℕ = λ file. file.bytes.items in
    let there : content_of c.args.self.now.files.items c.args.name.now ≡ Some _ =
    content_placed c.args.self.now.files.items c.in-Some.at c.index-2.result.now c.args.name.now
    (search rules) in
    rw (there ∙ ap Some (sym (ap content c.index-2.ensures))) (omega arith)

pub returns-in_default-clause-others : goal.returns-in_default-clause-others
returns-in_default-clause-others c other apart =
    others_of_no_file c.args.self.now.files.items c.args.self.now.faults.items
    c.args.self.now.absent_faults c.saturating_add-self-in_default.result c.args.name.now other
    (search rules) apart

pub returns-then-contains-clause-others : goal.returns-then-contains-clause-others
returns-then-contains-clause-others c other apart =
    others_of_a_file c.args.self.now.files.items c.args.self.now.faults.items
    c.args.self.now.absent_faults c.in-Some.at c.saturating_add.result c.args.name.now other
    (search rules) apart
