use Rattle.std.proofs.Common.{ap, Option, List, ℕ}
use Rattle.ap_outside.specs.Held.{faults_at}
use Rattle.ap_outside.proofs.mem_files.MemFiles.add.Goals as goal

pub returns-in-Some-clause-load_faults : goal.returns-in-Some-clause-load_faults
returns-in-Some-clause-load_faults c =
    let by : (List ℕ → Option ℕ) → List ℕ → ℕ =
    λ places name. faults_at c.args.self.now.faults.items c.args.self.now.absent_faults
    (places name) in
    ap by c.rewrite.ensures.places
