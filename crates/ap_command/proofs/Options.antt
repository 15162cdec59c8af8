-- What options of `lt-proc` choose, where a mode was named or not before them, and `-c` stood or
-- not.
use Rattle.std.proofs.Common.{◌≡◌, ℕ, ◌+◌, ◌<◌, ◌-◌, suc, Bool, true, false, cond, ◌||◌, ◌&&◌, List, [], ◌∷◌, ◌++◌, length, take, drop, get_or, sym, ◌∙◌, ap, refl, Option, Some, None, Result, Ok, Err, String, add-one}
use Rattle.std.specs.Prelude.{if◌then◌else◌, codes, is_some}
use Rattle.std.specs.List.{cons_option, list_all, slice_index_or}
use Rattle.std.specs.String.{string_bytes}
use Rattle.std.specs.declared.alloc.Global.{Global}
use Rattle.std.proofs.lemmas.Slice.Eq.{bytes_eq-Decides}
use Rattle.std.proofs.lemmas.List.{take-map, length-map}
use Rattle.std.proofs.Math.Seq.{drop-cons}
use Rattle.ap_command.specs.declared.words.Mode.{Mode}
use Rattle.ap_command.specs.declared.words.Mode.TheVariants as mode
use Rattle.ap_command.specs.declared.words.Chosen.{Chosen}
use Rattle.ap_command.specs.declared.words.UsageFault.{UsageFault}
use Rattle.ap_command.specs.Words.{texts, mode_of_lem, is_case_option, is_option, at_most_one, is_any, mode_by, modes_in, cases_in, options_of, proc_by, proc_of}

-- the modes that were named before, and the `-c`
abbrev pub modes_before : Option Mode → List Mode
modes_before None = []
modes_before (Some named) = named ∷ []

abbrev pub cases_before : Bool → List (List ℕ)
cases_before false = []
cases_before true = codes "-c" ∷ []

abbrev pub choice : Bool → List Mode → List (List ℕ) → Result Chosen UsageFault
choice listed modes cases = if listed && at_most_one modes && at_most_one cases
    then Ok (record { mode = mode_by modes; sensitive = is_any cases }) else Err (record {})

abbrev pub chosen_behind : Option Mode → Bool → List (List ℕ) → Result Chosen UsageFault
chosen_behind named sensitive options =
    choice (list_all is_option options) (modes_before named ++ modes_in options)
    (cases_before sensitive ++ cases_in options)

named-step : (c : Bool) (m : Option Mode) (n : Mode) (listed sensitive : Bool) (modes : List Mode)
    (o : List ℕ) (cases : List (List ℕ)) → c ≡ false → m ≡ Some n
    → choice ((c || is_some m) && listed) (modes_before None ++ cons_option m modes)
    (cases_before sensitive ++ cond c (o ∷ cases) cases)
    ≡ choice listed (modes_before (Some n) ++ modes) (cases_before sensitive ++ cases)
named-step true m n listed sensitive modes o cases e f = absurd (let x : true ≡ false = e in cc)
named-step false None n listed sensitive modes o cases e f =
    absurd (let x : None ≡ Some n = f in cc)
named-step false (Some k) n listed sensitive modes o cases e f =
    ap (λ x. choice listed (x ∷ modes) (cases_before sensitive ++ cases)) (let x : k ≡ n = cc in x)

-- the option is `-c`
is-c : (o : List ℕ) → is_case_option o ≡ true → o ≡ codes "-c"
is-c o e = (bytes_eq-Decides o (codes "-c")).0 e

-- an option that names a mode, first and again
pub mode-first : (sensitive : Bool) (o : List ℕ) (os : List (List ℕ)) (n : Mode) →
    is_case_option o ≡ false → mode_of_lem o ≡ Some n → chosen_behind None sensitive (o ∷ os)
    ≡ chosen_behind (Some n) sensitive os
mode-first sensitive o os n e f =
    named-step (is_case_option o) (mode_of_lem o) n (list_all is_option os) sensitive (modes_in os)
    o (cases_in os) e f

-- `-c`, first and again
pub case-first : (named : Option Mode) (o : List ℕ) (os : List (List ℕ)) → is_case_option o ≡ true →
    chosen_behind named false (o ∷ os) ≡ chosen_behind named true os
case-first named o os e = ap (λ x. chosen_behind named false (x ∷ os)) (is-c o e)

-- the option at that place, and those behind it
pub texts-next : (words : List (String Global)) (i : ℕ) (word : String Global) → i < length words →
    word ≡ get_or words i word → texts (drop i words) ≡ string_bytes word
    ∷ texts (drop (i + 1) words)
texts-next words i word h e = ap texts (drop-cons words i word h)
    ∙ ap (λ x. string_bytes x ∷ texts (drop (suc i) words)) (sym e)
    ∙ ap (λ n. string_bytes word ∷ texts (drop n words)) (sym (add-one i))

none-of : (named : Option Mode) → is_some named ≡ false → named ≡ None
none-of None e = refl
none-of (Some n) e = absurd (let x : true ≡ false = e in cc)

-- one option more was read: `-c`
pub case-read : (words : List (String Global)) (i : ℕ) (word : String Global) (text : List ℕ)
    (named named' : Option Mode) (sensitive sensitive' : Bool) (whole : Result Chosen UsageFault) →
    i < length words → word ≡ get_or words i word → text ≡ string_bytes word →
    is_case_option text ≡ true → sensitive ≡ false → named' ≡ named → sensitive' ≡ true
    → chosen_behind named sensitive (texts (drop i words)) ≡ whole →
    chosen_behind named' sensitive' (texts (drop (i + 1) words)) ≡ whole
case-read words i word text named named' sensitive sensitive' whole h at is c n m s inv =
    ap (λ x. chosen_behind x sensitive' (texts (drop (i + 1) words))) m
    ∙ ap (λ x. chosen_behind named x (texts (drop (i + 1) words))) s
    ∙ sym (case-first named (string_bytes word) (texts (drop (i + 1) words))
    (ap is_case_option (sym is) ∙ c))
    ∙ ap (λ x. chosen_behind named x (string_bytes word ∷ texts (drop (i + 1) words))) (sym n)
    ∙ ap (λ x. chosen_behind named sensitive x) (sym (texts-next words i word h at)) ∙ inv

-- and one that names a mode
pub mode-read : (words : List (String Global)) (i : ℕ) (word : String Global) (text text' : List ℕ)
    (named named' : Option Mode) (n : Mode) (sensitive sensitive' : Bool)
    (whole : Result Chosen UsageFault) → i < length words → word ≡ get_or words i word →
    text ≡ string_bytes word → is_case_option text ≡ false → text' ≡ string_bytes word →
    mode_of_lem text' ≡ Some n → is_some named ≡ false
    → named' ≡ Some n → sensitive' ≡ sensitive →
    chosen_behind named sensitive (texts (drop i words)) ≡ whole →
    chosen_behind named' sensitive' (texts (drop (i + 1) words)) ≡ whole
mode-read words i word text text' named named' n sensitive sensitive' whole h at is c is' f
    none m s inv =
    ap (λ x. chosen_behind x sensitive' (texts (drop (i + 1) words))) m
    ∙ ap (λ x. chosen_behind (Some n) x (texts (drop (i + 1) words))) s
    ∙ sym (mode-first sensitive (string_bytes word) (texts (drop (i + 1) words)) n
    (ap is_case_option (sym is) ∙ c) (ap mode_of_lem (sym is') ∙ f))
    ∙ ap (λ x. chosen_behind x sensitive (string_bytes word ∷ texts (drop (i + 1) words)))
    (sym (none-of named none))
    ∙ ap (λ x. chosen_behind named sensitive x) (sym (texts-next words i word h at)) ∙ inv

-- words whose options are refused are no command
pub proc-refused : (words : List (String Global)) (fault : UsageFault) →
    Err fault ≡ options_of (texts (take (length words - 1) words)) →
    Err fault ≡ proc_of (texts words)
proc-refused words fault e =
    let options : options_of (take (length (texts words) - 1) (texts words)) ≡ Err fault =
    ap (λ n. options_of (take (n - 1) (texts words))) (length-map words string_bytes)
    ∙ ap options_of (take-map string_bytes (length words - 1) words) ∙ sym e in
    sym (ap (λ r. proc_by r (slice_index_or (texts words) (length (texts words) - 1) [])
    (length (texts words))) options)
