-- The blanks of a text that is read are whole, and may go on.
use Rattle.std.specs.Prelude.{◌≡◌, ℕ, zero, suc, pred, Bool, true, false, cond, leb, List, [], ◌∷◌, length, take, ◌+◌, eqb, refl}
use Rattle.std.specs.List.{AllByRecursion}
use Rattle.std.proofs.Common.{ap, sym, subst, ◌∙◌}
use Rattle.std.proofs.lemmas.List.{append-nil}
use Rattle.ap_symbol.specs.Kinds.{first_word}
use Rattle.ap_symbol.specs.declared.symbol.Symbol.{Symbol}
use Rattle.ap_stream.specs.Blanks.{Run, Open, Inside, BadChar, Done, further, blank, begins_blank}
use Rattle.ap_stream.specs.Chars.{Front, Part, NotChar, Char, char_at}
use Rattle.ap_stream.specs.Chunks.{Body, Opens, Fails, Closes, body}
use Rattle.ap_stream.specs.Dialects.{has_chunks, is_refused}
use Rattle.ap_stream.specs.Limits.{item_max}
use Rattle.ap_stream.specs.Reading.{First, Needs, Whole, Faulty, Last, Complete, Broken, of_run, of_escaped, of_char, of_body, of_caret, first, last, last_run, at_limit, past, limited, walked, at_end, counted, walk, reads, begins_unit}
use Rattle.ap_stream.specs.Units.{Rest, Lacks, Wrong, Ends, rest, form_of}
use Rattle.ap_stream.specs.declared.dialect.Dialect.{Dialect}
use Rattle.ap_stream.specs.declared.item.Item.{Item}
use Rattle.ap_stream.specs.declared.item.Item.TheVariants as item
use Rattle.ap_stream.specs.declared.item.Inner.{Inner}
use Rattle.ap_stream.specs.declared.item.Read.{Read}
use Rattle.ap_stream.proofs.ChunkCut.{done_on}
use Rattle.ap_stream.proofs.Rows.{BlankRow, RunRow, run_row}

-- all of the bytes are a blank
abbrev pub IsOpen : List ℕ → Type 0
IsOpen bytes = blank 0 bytes ≡ Open

-- it is a row of white space and superblanks
pub open_row : (bytes : List ℕ) → IsOpen bytes → BlankRow bytes
open_row bytes e = subst (RunRow bytes) e (run_row 0 bytes)

abbrev pub ItemOpen : Item → Type 0
ItemOpen (item.Plain c) = Unit {0}
ItemOpen (item.Blank bytes) = IsOpen bytes
ItemOpen (item.Unit words) = Unit {0}
ItemOpen (item.Chunk c) = Unit {0}

abbrev FirstOpen : First → Type 0
FirstOpen Needs = Unit {0}
FirstOpen (Whole thing n) = ItemOpen thing
FirstOpen (Faulty kind) = Unit {0}

either : (v : Bool) (f g : First) → FirstOpen f → FirstOpen g → FirstOpen (cond v f g)
either true f g h k = h
either false f g h k = k

further_open : (n : ℕ) → further n (blank 0 []) ≡ Open
unfolding blank
further_open n = refl

run_open : (bs : List ℕ) (r : Run) → blank 0 bs ≡ r → FirstOpen (of_run bs r)
run_open bs Open e = tt
run_open bs Inside e = tt
run_open bs BadChar e = tt
run_open bs (Done n) e = ap (blank 0) (sym (append-nil (take n bs))) ∙ (done_on bs n e).0 []
    ∙ further_open n

escaped_open : (f : Front) → FirstOpen (of_escaped f)
escaped_open Part = tt
escaped_open NotChar = tt
escaped_open (Char c n) = tt

char_open : (dialect : Dialect) (f : Front) → FirstOpen (of_char dialect f)
char_open dialect Part = tt
char_open dialect NotChar = tt
char_open dialect (Char c n) = either (is_refused dialect c) _ _ tt tt

body_open : (name : List Symbol) (parts : List Inner) (n : ℕ) (b : Body) →
    FirstOpen (of_body name parts n b)
body_open name parts n Opens = tt
body_open name parts n (Fails kind) = tt
body_open name parts n (Closes more m) = tt

caret_open : (dialect : Dialect) (bs : List ℕ) (r : Rest) → FirstOpen (of_caret dialect bs r)
caret_open dialect bs Lacks = either (has_chunks dialect) _ _ tt tt
caret_open dialect bs (Wrong kind) = either (has_chunks dialect) _ _ tt tt
caret_open dialect bs (Ends words n) =
    either (has_chunks dialect) (of_body (first_word words) [] (1 + n) (body n bs)) _
    (body_open (first_word words) [] (1 + n) (body n bs)) tt

first_open : (dialect : Dialect) (bs : List ℕ) → FirstOpen (first dialect bs)
unfolding first
first_open dialect [] = tt
first_open dialect (b ∷ bs) =
    either (begins_blank b) _ _ (run_open (b ∷ bs) (blank 0 (b ∷ bs)) refl)
    (either (eqb b 92) _ _ (escaped_open (char_at bs))
    (either (begins_unit dialect b) _ _ (caret_open dialect bs (rest (form_of dialect) [] [] 0 bs))
    (char_open dialect (char_at (b ∷ bs)))))

limit_open : (most : ℕ) (f : First) → FirstOpen f → FirstOpen (at_limit most f)
limit_open most Needs h = tt
limit_open most (Whole thing n) h = either (leb n most) (Whole thing n) _ h tt
limit_open most (Faulty kind) h = tt

past_open : (most : ℕ) (f g : First) → FirstOpen f → FirstOpen g → FirstOpen (past most f g)
past_open most Needs g h k = limit_open most g k
past_open most (Whole thing n) g h k = h
past_open most (Faulty kind) g h k = tt

limited_open : (dialect : Dialect) (most : ℕ) (bs : List ℕ) → FirstOpen (limited most dialect bs)
unfolding limited
limited_open dialect most bs =
    either (leb (length bs) most) (first dialect bs) _ (first_open dialect bs)
    (past_open most (first dialect (take most bs)) (first dialect (take (suc most) bs))
    (first_open dialect (take most bs)) (first_open dialect (take (suc most) bs)))

abbrev LastOpen : Last → Type 0
LastOpen (Complete thing) = ItemOpen thing
LastOpen (Broken kind) = Unit {0}

last_either : (v : Bool) (f g : Last) → LastOpen f → LastOpen g → LastOpen (cond v f g)
last_either true f g h k = h
last_either false f g h k = k

last_run_open : (bs : List ℕ) (r : Run) → blank 0 bs ≡ r → LastOpen (last_run bs r)
last_run_open bs Open e = e
last_run_open bs Inside e = tt
last_run_open bs BadChar e = tt
last_run_open bs (Done n) e = tt

last_open : (bs : List ℕ) → LastOpen (last bs)
unfolding last
last_open [] = tt
last_open (b ∷ bs) = last_either (begins_blank b) _ _
    (last_run_open (b ∷ bs) (blank 0 (b ∷ bs)) refl) tt

abbrev pub AreOpen : List Read → Type 0
AreOpen items = AllByRecursion (λ (read : Read). ItemOpen read.item) items

end_open : (place : ℕ) (bs : List ℕ) (l : Last) → LastOpen l → AreOpen (at_end place bs l).items
end_open place bs (Complete thing) h = (h, tt)
end_open place bs (Broken kind) h = tt

walk_open : (dialect : Dialect) (place skip : ℕ) (bs : List ℕ) →
    AreOpen (walk dialect place skip bs).items
unfolding walk
walk_open dialect place zero [] = tt
walk_open dialect place (suc skip) [] = tt
walk_open dialect place (suc skip) (b ∷ bs) = walk_open dialect place skip bs
walk_open dialect place zero (b ∷ bs) =
    by (limited item_max dialect (b ∷ bs)) (limited_open dialect item_max (b ∷ bs))
    (λ at k. walk_open dialect at k bs)
  where
    by : (f : First) → FirstOpen f → ((at k : ℕ) → AreOpen (walk dialect at k bs).items) →
        AreOpen (walked place (b ∷ bs) f (λ at k. walk dialect at k bs)).items
    by Needs h go = end_open place (b ∷ bs) (last (b ∷ bs)) (last_open (b ∷ bs))
    by (Whole thing n) h go = (h, go (counted (place + n)) (pred n))
    by (Faulty kind) h go = tt

pub reads_open : (dialect : Dialect) (place : ℕ) (text : List ℕ) →
    AreOpen (reads dialect place text).items
unfolding reads
reads_open dialect place text = walk_open dialect place 0 text
