use Rattle.std.proofs.Common.{◌≡◌, ◌∙◌, ap, List, ℕ, ◌++◌, [], ◌∷◌, arith}
use Rattle.ap_outside.specs.Held.{content_of, faults_of}
use Rattle.ap_outside.specs.declared.mem_file.MemFile.{MemFile}
use Rattle.ap_outside.proofs.Places.{appended, faults_stay}
use Rattle.ap_outside.proofs.mem_files.MemFiles.append.Goals as goal

pub returns-clause-stored : goal.returns-clause-stored
returns-clause-stored c =
    let g : MemFile = record { name = c.in_ok-name.name; bytes = c.args.bytes } in
    let e : c.push-2.new.self.items ≡ c.args.self.now.files.items ++ g ∷ [] = grind arith in
    ap content_of e ∙ appended c.args.self.now.files.items g c.args.name.now c.requires
    c.in_ok-name.ensures.ok

pub returns-clause-load_faults : goal.returns-clause-load_faults
returns-clause-load_faults c =
    let g : MemFile = record { name = c.in_ok-name.name; bytes = c.args.bytes } in
    let fs = c.args.self.now.files.items in
    let ns = c.args.self.now.faults.items in
    let absent = c.args.self.now.absent_faults in
    let e : c.push-2.new.self.items ≡ fs ++ g ∷ [] = grind arith in
    ap (λ (xs : List MemFile). faults_of xs c.push.new.self.items absent) e
    ∙ ap (λ (xs : List ℕ). faults_of (fs ++ g ∷ []) xs absent) c.in_ok-push.ensures.items
    ∙ faults_stay fs ns g absent c.args.self.now.places
