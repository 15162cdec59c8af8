use Rattle.std.specs.Prelude.{◌≡◌, ℕ, List, Option, Some, None, slice_index_or, slice_get, position, string_bytes}
use Rattle.std.specs.Option.{option_map}
use Rattle.std.specs.Str.{bytes_eq}
use Rattle.ap_outside.specs.declared.mem_file.MemFile.{MemFile}

-- The place of the first file of a name.
abbrev pub place_of : List MemFile → List ℕ → Option ℕ
place_of files name = position (λ file. bytes_eq (string_bytes file.name) name) files

-- The bytes of the file at a place.
abbrev pub content_at : List MemFile → Option ℕ → Option (List ℕ)
content_at files None = None
content_at files (Some at) = option_map (λ file. file.bytes.items) (slice_get files at)

-- The bytes of the file of a name: None where no file has it.
abbrev pub content_of : List MemFile → List ℕ → Option (List ℕ)
content_of files name = content_at files (place_of files name)

-- The count of faults at a place: that of the file there, or the one that all other names share.
abbrev pub faults_at : List ℕ → ℕ → Option ℕ → ℕ
faults_at faults absent None = absent
faults_at faults absent (Some at) = slice_index_or faults at 0

abbrev pub faults_of : List MemFile → List ℕ → ℕ → List ℕ → ℕ
faults_of files faults absent name = faults_at faults absent (place_of files name)

-- Two names share a count of faults: they are those of one file, or no file has either.
abbrev pub ShareCount : List MemFile → List ℕ → List ℕ → Type 0
ShareCount files name other = place_of files other ≡ place_of files name
