-- What is written is read again as the same value.
use Rattle.std.proofs.Common.{refl}
use Rattle.ap_fst.specs.Machines.{Machine}
use Rattle.ap_fst.specs.Sections.{Parts, IsSection, IsCompiled}
use Rattle.ap_binary.specs.Grammar.{IsRaw, AreRawParts}
use Rattle.ap_binary.specs.Held.{IsHeld}
use Rattle.ap_binary.specs.Spelling.{IsSpelled, Spells}
use Rattle.ap_binary.specs.Text.{compiled_text}
use Rattle.ap_binary.proofs.Itself.{trim_of_itself}
use Rattle.ap_binary.specs.Faults.{written_at}
use Rattle.ap_binary.proofs.Reread.{placed_file, file_back}

section_raw : (m : Machine) → IsSection m → IsRaw m
section_raw m s = record { sound = s.sound; plain = s.plain }

section_spelled : (line : _) (m : Machine) → IsSection m → IsSpelled (written_at line m) m
section_spelled line m s =
    record {
      fine = record { cycles = s.cycles; sides = s.sides };
      trimmed =
          trim_of_itself m s.sound s.trimmed;
    }

pub reads_back : (c : Parts) → IsCompiled c → IsHeld c → Spells (compiled_text c) c
reads_back c is held =
    let raw : AreRawParts c =
    record {
      alphabet = is.letters;
      standard = section_raw c.standard is.standard_is;
      inconditional = section_raw c.inconditional is.inconditional_is;
      postblank =
          section_raw c.postblank is.postblank_is;
      preblank =
          section_raw c.preblank is.preblank_is;
    } in
    record {
      file = placed_file c;
      lines = file_back c raw held;
      way = refl;
      alphabet = refl;
      sections = record {
        standard = section_spelled _ c.standard is.standard_is;
        inconditional =
            section_spelled _ c.inconditional is.inconditional_is;
        postblank =
            section_spelled _ c.postblank is.postblank_is;
        preblank =
            section_spelled _ c.preblank is.preblank_is;
      };
    }
