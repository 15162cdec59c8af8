-- The bytes of a chunk, by the notation, are read as it, whatever follows.
use Rattle.std.specs.Prelude.{◌≡◌, ℕ, ◌+◌, ◌<◌, List, [], ◌∷◌, ◌++◌, drop, length, false, refl}
use Rattle.std.proofs.Common.{arith, ap, sym, subst, ◌∙◌, append_assoc, length-append}
use Rattle.std.proofs.lemmas.List.{append-nil, take_all}
use Rattle.std.proofs.Math.Seq.{drop-append-add}
use Rattle.ap_symbol.specs.declared.symbol.Symbol.{Symbol}
use Rattle.ap_stream.specs.declared.dialect.Dialect.TheVariants.{Lexical, Chunked}
use Rattle.ap_stream.specs.declared.item.Chunk.{Chunk}
use Rattle.ap_stream.specs.declared.item.Inner.{Inner}
use Rattle.ap_stream.specs.declared.item.Inner.TheVariants as inner
use Rattle.ap_stream.specs.declared.item.Item.TheVariants as item
use Rattle.ap_stream.specs.Stands.{ChunkOf, blank_first}
use Rattle.ap_stream.specs.Chunks.{Closes, behind_part, body}
use Rattle.ap_stream.proofs.ChunkLaws.{body_skip, body_brace}
use Rattle.ap_stream.proofs.InUnitLaws.{first_caret}
use Rattle.ap_stream.specs.Laws.{AreSpelt, AreParts}
use Rattle.ap_stream.specs.Notation.{IsContentText, IsChunkText, NoBlankFirst}
use Rattle.ap_stream.specs.Reading.{Whole, first, of_chunk, of_body}
use Rattle.ap_stream.specs.Spelling.{chunk_bytes}
use Rattle.ap_stream.specs.Units.{form_of, Ends, rest, longer}
use Rattle.ap_stream.proofs.UnitLaws.{rest_brace}
use Rattle.ap_stream.proofs.BlankTexts.{blanks_on, text_begins}
use Rattle.ap_stream.proofs.ChunkCut.{unit_body, run_body, chunk_cut, chunk_back}
use Rattle.ap_stream.proofs.UnitTexts.{text_unit, word_on}

-- no blank stands where none of the parts is first
content_dark : (parts : List Inner) (held x : List ℕ) → NoBlankFirst parts →
    IsContentText parts held → blank_first (held ++ 125 ∷ x) ≡ false
content_dark [] held x n h = ap (λ (q : List ℕ). blank_first (q ++ 125 ∷ x)) h
content_dark (inner.Unit words ∷ parts) held x n h =
    let u = text_unit Lexical words h.0 h.2 in
    ap (λ (q : List ℕ). blank_first (q ++ 125 ∷ x)) (h.4
    ∙ ap (λ (q : List ℕ). q ++ h.1) u.begins)
content_dark (inner.Blank bytes ∷ parts) held x n h = absurd n

content_read : (parts : List Inner) (held x : List ℕ) → IsContentText parts held →
    body 0 (held ++ 125 ∷ 36 ∷ x) ≡ Closes parts (length held + 2)
content_read [] held x h = ap (λ (q : List ℕ). body 0 (q ++ 125 ∷ 36 ∷ x)) h ∙ body_brace (36 ∷ x)
    ∙ ap (λ (q : List ℕ). Closes [] (length q + 2)) (sym h)
content_read (inner.Unit words ∷ parts) held x h =
    let size : length h.0 + (length h.1 + 2) ≡ length held + 2 =
    let l = ap length h.4 in let k = length-append h.0 h.1 in omega (arith, l, k) in
    ap (λ (q : List ℕ). body 0 (q ++ 125 ∷ 36 ∷ x)) h.4
    ∙ ap (body 0) (append_assoc h.0 h.1 (125 ∷ 36 ∷ x))
    ∙ unit_body h.0 (h.1 ++ 125 ∷ 36 ∷ x) words (text_unit Lexical words h.0 h.2)
    ∙ ap (behind_part (inner.Unit words) (length h.0)) (content_read parts h.1 x h.3)
    ∙ ap (Closes (inner.Unit words ∷ parts)) size
content_read (inner.Blank bytes ∷ parts) held x h =
    let size : length bytes + (length h.0 + 2) ≡ length held + 2 =
    let l = ap length h.4 in let k = length-append bytes h.0 in omega (arith, l, k) in
    let some : 0 < length (h.0 ++ 125 ∷ 36 ∷ x) =
    let k = length-append h.0 (125 ∷ 36 ∷ x) in omega (arith, k) in
    ap (λ (q : List ℕ). body 0 (q ++ 125 ∷ 36 ∷ x)) h.4
    ∙ ap (body 0) (append_assoc bytes h.0 (125 ∷ 36 ∷ x))
    ∙ run_body bytes (h.0 ++ 125 ∷ 36 ∷ x) (blanks_on bytes h.1.are) (text_begins bytes h.1) some
    (content_dark parts h.0 (36 ∷ x) h.2 h.3)
    ∙ ap (behind_part (inner.Blank bytes) (length bytes)) (content_read parts h.0 x h.3)
    ∙ ap (Closes (inner.Blank bytes ∷ parts)) size

pub text_chunk : (chunk : Chunk) (bytes : List ℕ) → IsChunkText chunk bytes → ChunkOf bytes chunk
text_chunk chunk bytes t x =
    let tail : List ℕ = t.held ++ 125 ∷ 36 ∷ x in
    let all : List ℕ = t.named ++ (123 ∷ (t.held ++ 125 ∷ 36 ∷ x)) in
    let text : bytes ++ x ≡ 94 ∷ (t.named ++ (123 ∷ (t.held ++ 125 ∷ 36 ∷ x))) =
    ap (λ (q : List ℕ). q ++ x) t.spelled
    ∙ ap (λ (q : List ℕ). 94 ∷ q) (append_assoc t.named (123 ∷ (t.held ++ 125 ∷ 36 ∷ [])) x
    ∙ ap (λ (q : List ℕ). t.named ++ (123 ∷ q)) (append_assoc t.held (125 ∷ 36 ∷ []) x)) in
    let name : rest (form_of Chunked) [] [] 0 (t.named ++ (123 ∷ (t.held ++ 125 ∷ 36 ∷ x)))
    ≡ Ends (chunk.name ∷ []) (length t.named + 1) =
    word_on (form_of Chunked) [] [] chunk.name t.named (123 ∷ tail) t.name_is
    ∙ ap (longer (length t.named)) (rest_brace (form_of Chunked) [] chunk.name tail) in
    let left : drop (length t.named + 1) (t.named ++ (123 ∷ (t.held ++ 125 ∷ 36 ∷ x)))
    ≡ t.held ++ 125 ∷ 36 ∷ x = drop-append-add t.named (123 ∷ tail) 1 in
    let held : body (length t.named + 1) (t.named ++ (123 ∷ (t.held ++ 125 ∷ 36 ∷ x)))
    ≡ Closes chunk.content (length t.held + 2) =
    body_skip (length t.named + 1) all ∙ ap (body 0) left
    ∙ content_read chunk.content t.held x t.content_is in
    let size : 1 + (length t.named + 1) + (length t.held + 2) ≡ length bytes =
    let l = ap length t.spelled in
    let a = length-append t.named (123 ∷ (t.held ++ 125 ∷ 36 ∷ [])) in
    let b = length-append t.held (125 ∷ 36 ∷ []) in omega (arith, l, a, b) in
    ap (first Chunked) text ∙ first_caret Chunked all refl ∙ ap (of_chunk all) name
    ∙ ap (of_body chunk.name [] (1 + (length t.named + 1))) held
    ∙ ap (Whole (item.Chunk chunk)) size

-- what is written of a chunk are its bytes
pub written_chunk : (name : List Symbol) (content : List Inner) → AreSpelt false name →
    AreParts content →
    IsChunkText (record { name = name; content = content }) (chunk_bytes name content)
written_chunk name content s h =
    let text : List ℕ = chunk_bytes name content in
    let made : Chunk = record { name = name; content = content } in
    let back : first Chunked (chunk_bytes name content)
    ≡ Whole (item.Chunk (record { name = name; content = content }))
    (length (chunk_bytes name content)) =
    ap (first Chunked) (sym (append-nil (chunk_bytes name content)))
    ∙ chunk_back name content [] s h in
    subst (IsChunkText made) (take_all (length text) text (omega arith))
    (chunk_cut text made (length text) back).text
