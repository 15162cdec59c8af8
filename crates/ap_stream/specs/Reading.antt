-- The items of a text, and what stops it, by the Apertium stream format. A text is cut item by
-- item. Places and sizes are in bytes.
use Rattle.std.specs.Prelude.{◌≡◌, ℕ, zero, suc, ◌+◌, ◌-◌, ◌^◌, ◌<◌, ◌≤◌, pred, min, List, [], ◌∷◌, ◌++◌, take, length, Option, Some, None, Bool, true, false, cond, eqb, leb, ◌&&◌}
use Rattle.ap_stream.specs.Limits.{item_max, unit_max}
use Rattle.ap_stream.specs.Types.{Dialect, StreamFault, Malformed, Limit, MalformedKind, NotUtf8, Stray, Unfinished, LimitKind, ItemTooLong, Symbol}
use Rattle.ap_symbol.specs.Kinds.{first_word}
use Rattle.ap_stream.specs.Items.{Inner, Item, Read}
use Rattle.ap_stream.specs.Dialects.{is_refused, has_units, has_chunks}
use Rattle.ap_stream.specs.Chars.{Front, Part, NotChar, Char, char_at}
use Rattle.ap_stream.specs.Blanks.{Run, Open, BadChar, Done, blank, begins_blank}
use Rattle.ap_stream.specs.Units.{Rest, Lacks, Wrong, Ends, rest, form_of}
use Rattle.ap_stream.specs.Chunks.{Body, Opens, Fails, Closes, body}

-- the items of a text, and what stops it
pub record Reads : Type 0 where
  pub items : List Read
  pub stop : Option StreamFault

-- why no whole item stands at the front
pub data Kind : Type 0 where
  Bad : MalformedKind → Kind
  Past : LimitKind → Kind

abbrev pub fault_at : Kind → ℕ → StreamFault
fault_at (Bad kind) place = Malformed kind place
fault_at (Past kind) place = Limit kind place

-- what the bytes so far say of the item at their front, where bytes may follow: more are needed, or
-- it is whole and has so many bytes, or no whole item can follow
pub data First : Type 0 where
  Needs : First
  Whole : Item → ℕ → First
  Faulty : Kind → First

-- what they say where no byte follows
pub data Last : Type 0 where
  Complete : Item → Last
  Broken : Kind → Last

abbrev pub plain : ℕ → Bool → Item
plain letter escaped = Item.Plain (record { letter = letter; escaped = escaped })

abbrev pub of_run : List ℕ → Run → First
of_run bytes BadChar = Faulty (Bad NotUtf8)
of_run bytes (Done n) = Whole (Item.Blank (take n bytes)) n
of_run bytes run = Needs

-- behind a backslash any one character is plain
abbrev pub of_escaped : Front → First
of_escaped Part = Needs
of_escaped NotChar = Faulty (Bad NotUtf8)
of_escaped (Char c n) = Whole (plain c true) (1 + n)

-- a bare character is plain where the dialect allows it
abbrev pub of_char : Dialect → Front → First
of_char dialect Part = Needs
of_char dialect NotChar = Faulty (Bad NotUtf8)
of_char dialect (Char c n) =
    cond (is_refused dialect c) (Faulty (Bad Stray)) (Whole (plain c false) n)

-- behind a chunk's name and these parts, which have so many bytes
abbrev pub of_body : List Symbol → List Inner → ℕ → Body → First
of_body name parts n Opens = Needs
of_body name parts n (Fails kind) = Faulty (Bad kind)
of_body name parts n (Closes more m) =
    Whole (Item.Chunk (record { name = name; content = parts ++ more })) (n + m)

-- behind ^ a unit goes on to its $
abbrev pub of_unit : Rest → First
of_unit Lacks = Needs
of_unit (Wrong kind) = Faulty (Bad kind)
of_unit (Ends words n) = Whole (Item.Unit words) (1 + n)

-- behind ^ the name of a chunk goes on to its {, behind which the content stands
abbrev pub of_chunk : List ℕ → Rest → First
of_chunk bytes Lacks = Needs
of_chunk bytes (Wrong kind) = Faulty (Bad kind)
of_chunk bytes (Ends words n) = of_body (first_word words) [] (1 + n) (body n bytes)

abbrev pub of_caret : Dialect → List ℕ → Rest → First
of_caret dialect bytes behind = cond (has_chunks dialect) (of_chunk bytes behind) (of_unit behind)

abbrev pub begins_unit : Dialect → ℕ → Bool
begins_unit dialect b = has_units dialect && eqb b 94

-- the item at the front: a blank where a blank begins, a unit or a chunk where one begins, and else
-- an escaped or a bare character
unfoldable pub first : Dialect → List ℕ → First
first dialect [] = Needs
first dialect (b ∷ bs) =
    cond (begins_blank b) (of_run (b ∷ bs) (blank 0 (b ∷ bs)))
    (cond (eqb b 92) (of_escaped (char_at bs))
    (cond (begins_unit dialect b) (of_caret dialect bs (rest (form_of dialect) [] [] 0 bs))
    (of_char dialect (char_at (b ∷ bs)))))

abbrev pub last_run : List ℕ → Run → Last
last_run bytes Open = Complete (Item.Blank bytes)
last_run bytes run = Broken (Bad Unfinished)

-- where the text ends, a blank may be whole, and nothing else that needs more is
unfoldable pub last : List ℕ → Last
last [] = Broken (Bad Unfinished)
last (b ∷ bs) = cond (begins_blank b) (last_run (b ∷ bs) (blank 0 (b ∷ bs)))
    (Broken (Bad Unfinished))

-- what one byte more than the limit shows: an item of just so many bytes that this byte ends is
-- whole, and all else is too long
abbrev pub at_limit : ℕ → First → First
at_limit most (Whole thing n) = cond (leb n most) (Whole thing n) (Faulty (Past ItemTooLong))
at_limit most next = Faulty (Past ItemTooLong)

-- an item that the bytes within the limit decide is what they say
abbrev pub past : ℕ → First → First → First
past most Needs next = at_limit most next
past most within next = within

-- the item at the front, where it may have so many bytes
unfoldable pub limited : ℕ → Dialect → List ℕ → First
limited most dialect bs =
    cond (leb (length bs) most) (first dialect bs)
    (past most (first dialect (take most bs)) (first dialect (take (suc most) bs)))

-- a place, or the greatest that is counted
abbrev pub counted : ℕ → ℕ
counted n = min n (2 ^ 64 - 1)

abbrev pub read_at : ℕ → Item → ℕ → Read
read_at place thing size = record { item = thing; place = place; size = size }

abbrev pub nothing : Reads
nothing = record { items = []; stop = None }

abbrev pub stopped : StreamFault → Reads
stopped fault = record { items = []; stop = Some fault }

abbrev pub followed : Option Read → Reads → Reads
followed None more = more
followed (Some read) more = record { items = read ∷ more.items; stop = more.stop }

abbrev pub size_of : Option Read → ℕ
size_of None = 0
size_of (Some read) = read.size

abbrev pub at_end : ℕ → List ℕ → Last → Reads
at_end place bytes (Complete thing) = followed (Some (read_at place thing (length bytes))) nothing
at_end place bytes (Broken kind) = stopped (fault_at kind place)

-- goes on behind the item at the front
abbrev pub walked : ℕ → List ℕ → First → (ℕ → ℕ → Reads) → Reads
walked place bytes Needs more = at_end place bytes (last bytes)
walked place bytes (Whole thing size) more =
    followed (Some (read_at place thing size)) (more (counted (place + size)) (pred size))
walked place bytes (Faulty kind) more = stopped (fault_at kind place)

-- reads behind so many bytes
unfoldable pub walk : Dialect → ℕ → ℕ → List ℕ → Reads
walk dialect place skip [] = nothing
walk dialect place (suc skip) (b ∷ bs) = walk dialect place skip bs
walk dialect place zero (b ∷ bs) =
    walked place (b ∷ bs) (limited item_max dialect (b ∷ bs)) (λ at skip. walk dialect at skip bs)

-- the items of a text whose first byte has this place, and what stops it
unfoldable pub reads : Dialect → ℕ → List ℕ → Reads
reads dialect place bytes = walk dialect place 0 bytes

-- an item as reading gives it: some text begins with it
pub record IsRead (dialect : Dialect) (read : Read) : Type 0 where
  pub text : List ℕ
  pub whole : limited item_max dialect text ≡ Whole read.item read.size
  pub some : 0 < read.size
  pub short : read.size ≤ unit_max
