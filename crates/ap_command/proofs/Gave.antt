-- A command gives what it gives, of what is kept of its files.
use Rattle.std.proofs.Common.{◌≡◌, ℕ, List, [], ◌∷◌, sym, ◌∙◌, subst, refl, ap}
use Rattle.ap_choose.specs.declared.forbidden.Pair.{Pair}
use Rattle.ap_dix.specs.declared.dictionary.Dictionary.{Dictionary}
use Rattle.ap_dix.specs.declared.dictionary.Direction.{Direction}
use Rattle.ap_fst.specs.Sections.{Parts}
use Rattle.ap_fst.specs.declared.compiled.Way.{Way}
use Rattle.ap_fst.specs.declared.compiled.Way.TheVariants as told
use Rattle.ap_trim.specs.Trimming.{IsTrimmedBy}
use Rattle.ap_rules.specs.Views.{plain_rules}
use Rattle.ap_rules.specs.declared.rules.Form.{Form}
use Rattle.ap_rules.specs.declared.rules.Rules.{Rules as RuleFile}
use Rattle.ap_compile.specs.Compiling.{IsCompiledFrom}
use Rattle.ap_command.specs.declared.content.Content.{Content}
use Rattle.ap_command.specs.declared.content.Content.TheVariants as code
use Rattle.ap_command.specs.Said.{Said, Entries, Sections, Rules, Pairs}
use Rattle.ap_command.specs.declared.reading.Manner.TheVariants.{Plain, Made, Either, Ruled, Paired}
use Rattle.ap_command.specs.declared.reading.Reading.{Reading}
use Rattle.ap_command.specs.declared.status.Status.{Status}
use Rattle.ap_command.specs.declared.words.Command.{Command}
use Rattle.ap_command.specs.declared.words.Command.TheVariants.{Expand, Comp, Trim, Work}
use Rattle.ap_command.specs.Words.{files_of}
use Rattle.ap_command.specs.Messages.{name_at}
use Rattle.ap_command.specs.Outside.{Outside}
use Rattle.ap_command.specs.Reading.{IsKeptAs, ServesAs, StartsCompiled}
use Rattle.ap_command.specs.Gives.{Making, Compiles, Trims, IsMade, gives_of, Streams}
use Rattle.ap_command.specs.Rows.{Stage}
use Rattle.ap_command.specs.Stream.{FlowsOrStops}
use Rattle.ap_command.specs.Listing.{listing, IsListed}
use Rattle.ap_command.specs.Compiling.{StoresOrStops}
use Rattle.ap_command.specs.Answer.{AreKeptAs, IsRun, IsWorked}

listed-as : (words : List (List ℕ)) (dix : ℕ) (said : Said) (kept : Content) (d : Dictionary)
    (old new : Outside) (status : Status) → IsKeptAs Plain said kept → kept ≡ code.Entries d →
    new.files ≡ old.files → new.source ≡ old.source → IsListed old.sink new.sink (listing d) status
    → IsRun words (gives_of (Expand dix) (said ∷ [])) old new status
listed-as words dix (Entries c) (code.Entries e) d old new status k same f s l = (
  f,
  s,
  subst (λ (x : Dictionary). IsListed old.sink new.sink (listing x) status)
      (let q : e ≡ d = cc in sym (k.0 ∙ q)) l,
)
listed-as words dix said kept d old new status k same f s l = absurd k

listed-of : (words : List (List ℕ)) (dix : ℕ) (said : List Said) (kept rest : List Content)
    (d : Dictionary)
    (old new : Outside) (status : Status) → AreKeptAs (files_of (Expand dix)) said kept →
    kept ≡ code.Entries d ∷ rest → new.files ≡ old.files → new.source ≡ old.source →
    IsListed old.sink new.sink (listing d) status
    → IsRun words (gives_of (Expand dix) said) old new status
listed-of words dix [] kept rest d old new status k same f s l = absurd k
listed-of words dix (c ∷ cs) [] rest d old new status k same f s l = absurd k
listed-of words dix (c ∷ []) (x ∷ xs) rest d old new status k same f s l =
    listed-as words dix c x d old new status k.0 (cc) f s l
listed-of words dix (c ∷ b ∷ cs) (x ∷ xs) rest d old new status k same f s l = absurd k.1

pub gave-listing : (words : List (List ℕ)) (command : Command) (dix : ℕ)
    (said : List Said) (kept rest : List Content) (d : Dictionary) (old new : Outside)
    (status : Status) →
    command ≡ Expand dix → AreKeptAs (files_of command) said kept → kept ≡ code.Entries d ∷ rest →
    new.files ≡ old.files → new.source ≡ old.source
    → IsListed old.sink new.sink (listing d) status →
    IsRun words (gives_of command said) old new status
gave-listing words command dix said kept rest d old new status e k same f s l =
    subst (λ x. IsRun words (gives_of x said) old new status) (sym e)
    (listed-of words dix said kept rest d old new status
    (subst (λ x. AreKeptAs (files_of x) said kept) e k) same f s l)

abbrev StoresEach : List (List ℕ) → Parts → ℕ → Outside → Outside → Status → Type 0
StoresEach words p out old new status = (making : Making) → IsMade making p →
    StoresOrStops making out (name_at words out) old.files new.files old.sink new.sink status

made-as : (words : List (List ℕ)) (way : Direction) (dix out : ℕ) (said : Said)
    (kept : Content) (p : Parts)
    (old new : Outside) (status : Status) → IsKeptAs (Made way) said kept → kept ≡ code.Sections p →
    new.source ≡ old.source → StoresEach words p out old new status
    → IsRun words (gives_of (Comp way dix out) (said ∷ [])) old new status
made-as words way dix out (Entries d) (code.Sections q) p old new status k same s h = (
  s,
  h (Compiles d way) (subst (λ (x : Parts). IsCompiledFrom d way x)
      (let e : q ≡ p = cc in e) k),
)
made-as words way dix out said kept p old new status k same s h = absurd k

made-of : (words : List (List ℕ)) (way : Direction) (dix out : ℕ) (said : List Said)
    (kept rest : List Content)
    (p : Parts) (old new : Outside) (status : Status) →
    AreKeptAs (files_of (Comp way dix out)) said kept → kept ≡ code.Sections p ∷ rest →
    new.source ≡ old.source → StoresEach words p out old new status
    → IsRun words (gives_of (Comp way dix out) said) old new status
made-of words way dix out [] kept rest p old new status k same s h = absurd k
made-of words way dix out (c ∷ cs) [] rest p old new status k same s h = absurd k
made-of words way dix out (c ∷ []) (x ∷ xs) rest p old new status k same s h =
    made-as words way dix out c x p old new status k.0 (cc) s h
made-of words way dix out (c ∷ b ∷ cs) (x ∷ xs) rest p old new status k same s h = absurd k.1

pub gave-made : (words : List (List ℕ)) (command : Command) (way : Direction) (dix out : ℕ)
    (name : List ℕ) (said : List Said) (kept rest : List Content) (p : Parts) (old new : Outside)
    (status : Status) → command ≡ Comp way dix out → name ≡ name_at words out →
    AreKeptAs (files_of command) said kept → kept ≡ code.Sections p ∷ rest
    → new.source ≡ old.source →
    ((making : Making) → IsMade making p →
    StoresOrStops making out name old.files new.files old.sink new.sink status) →
    IsRun words (gives_of command said) old new status
gave-made words command way dix out name said kept rest p old new status e n k same s h =
    subst (λ x. IsRun words (gives_of x said) old new status) (sym e)
    (made-of words way dix out said kept rest p old new status
    (subst (λ x. AreKeptAs (files_of x) said kept) e k) same s
    (λ making i. subst (λ x. StoresOrStops making out x old.files new.files old.sink new.sink
    status) n (h making i)))

-- rules that are kept serve as they are read
pub rules-serve : (form : Form) (said : Said) (kept : Content) (r : RuleFile) →
    IsKeptAs (Ruled form) said kept → kept ≡ code.Rules r → ServesAs form r
rules-serve form (Rules p) (code.Rules s) r k e = let same : s ≡ r = cc in
    subst (ServesAs form) same k.1
rules-serve form said kept r k e = absurd k

serve-kept : (place : ℕ) (form : Form) (rs : List Reading) (said : List Said)
    (kept rest : List Content) (r : RuleFile) →
    AreKeptAs (record { place = place; manner = Ruled form } ∷ rs) said kept →
    kept ≡ code.Rules r ∷ rest → ServesAs form r
serve-kept place form rs [] kept rest r k e = absurd k
serve-kept place form rs (c ∷ cs) [] rest r k e = absurd k
serve-kept place form rs (c ∷ cs) (x ∷ xs) rest r k e = rules-serve form c x r k.0 (cc)

-- so are those of the first file of a command
pub serve-first : (command command' : Command) (place : ℕ) (form : Form) (rs : List Reading)
    (said : List Said) (kept rest : List Content) (r : RuleFile) → command ≡ command' →
    files_of command' ≡ record { place = place; manner = Ruled form } ∷ rs →
    AreKeptAs (files_of command) said kept → kept ≡ code.Rules r ∷ rest → ServesAs form r
serve-first command command' place form rs said kept rest r e f k same =
    serve-kept place form rs said kept rest r
    (subst (λ x. AreKeptAs x said kept) (ap files_of e ∙ f) k) same

-- a dictionary that is to be used is kept compiled
kept-compiled : (way : Way) (said : Said) (kept : Content) (rest : List Content) →
    IsKeptAs (Either way) said kept → StartsCompiled (kept ∷ rest)
kept-compiled way (Entries d) (code.Sections q) rest k = tt
kept-compiled way (Sections p) (code.Sections q) rest k = tt
kept-compiled way said kept rest k = absurd k

compiled-first : (place : ℕ) (way : Way) (rs : List Reading) (said : List Said)
    (kept : List Content) →
    AreKeptAs (record { place = place; manner = Either way } ∷ rs) said kept → StartsCompiled kept
compiled-first place way rs [] kept k = absurd k
compiled-first place way rs (c ∷ cs) [] k = absurd k
compiled-first place way rs (c ∷ cs) (x ∷ xs) k = kept-compiled way c x xs k.0

abbrev StoresLeft : List (List ℕ) → Parts → Parts → ℕ → Outside → Outside → Status → Type 0
StoresLeft words p q out old new status = (making : Making) →
    ((made : Parts) → IsTrimmedBy p q made → IsMade making made) →
    StoresOrStops making out (name_at words out) old.files new.files old.sink new.sink status

trimmed-of : (words : List (List ℕ)) (mono bi out : ℕ) (said : List Said)
    (kept rest last : List Content) (p q : Parts) (old new : Outside) (status : Status) →
    AreKeptAs (files_of (Trim mono bi out)) said kept → kept ≡ code.Sections p ∷ rest →
    rest ≡ code.Sections q ∷ last → new.source ≡ old.source →
    StoresLeft words p q out old new status →
    IsRun words (gives_of (Trim mono bi out) said) old new status
trimmed-of words mono bi out [] kept rest last p q old new status k e f s h = absurd k
trimmed-of words mono bi out (c ∷ cs) [] rest last p q old new status k e f s h = absurd k
trimmed-of words mono bi out (c ∷ []) (x ∷ xs) rest last p q old new status k e f s h =
    absurd k.1
trimmed-of words mono bi out (c ∷ b ∷ cs) (x ∷ []) rest last p q old new status k e f s h =
    absurd k.1
trimmed-of words mono bi out (c ∷ b ∷ []) (x ∷ y ∷ ys) rest last p q old new status k e f s h =
    let one : x ≡ code.Sections p = cc in
    let two : y ≡ code.Sections q = cc in (
      s,
      h (Trims c b) (λ made t. record {
        analyser = p;
        analyser_is = subst (IsKeptAs (Either told.Lr) c) one k.0;
        dictionary = q;
        dictionary_is = subst (IsKeptAs (Either told.Untold) b) two k.1.0;
        trimmed = t;
      }),
    )
trimmed-of words mono bi out (c ∷ b ∷ a ∷ cs) (x ∷ y ∷ ys) rest last p q old new status k e f s h =
    absurd k.1.1

pub gave-trimmed : (words : List (List ℕ)) (command : Command) (mono bi out : ℕ) (name : List ℕ)
    (said : List Said) (kept rest last : List Content) (p q : Parts) (old new : Outside)
    (status : Status) → command ≡ Trim mono bi out → name ≡ name_at words out →
    AreKeptAs (files_of command) said kept → kept ≡ code.Sections p ∷ rest →
    rest ≡ code.Sections q ∷ last → new.source ≡ old.source →
    ((making : Making) → ((made : Parts) → IsTrimmedBy p q made → IsMade making made) →
    StoresOrStops making out name old.files new.files old.sink new.sink status) →
    IsRun words (gives_of command said) old new status
gave-trimmed words command mono bi out name said kept rest last p q old new status e n k same next s
    h =
    subst (λ x. IsRun words (gives_of x said) old new status) (sym e)
    (trimmed-of words mono bi out said kept rest last p q old new status
    (subst (λ x. AreKeptAs (files_of x) said kept) e k) same next s
    (λ making i. subst (λ x. StoresOrStops making out x old.files new.files old.sink new.sink
    status) n (h making i)))

-- the first of the files says this, and this is kept of it; and so of the others
pub record Next (r : Reading) (rs : List Reading) (said : List Said) (k : Content)
    (ks : List Content) : Type 0 where
  pub head : Said
  pub tail : List Said
  pub is : said ≡ head ∷ tail
  pub here : IsKeptAs r.manner head k
  pub there : AreKeptAs rs tail ks

pub next-kept : (r : Reading) (rs : List Reading) (said : List Said) (kept : List Content)
    (k : Content) (ks : List Content) → AreKeptAs (r ∷ rs) said kept → kept ≡ k ∷ ks →
    Next r rs said k ks
next-kept r rs [] kept k ks h e = absurd h
next-kept r rs (c ∷ cs) [] k ks h e = absurd h
next-kept r rs (c ∷ cs) (x ∷ xs) k ks h e =
    let one : x ≡ k = cc in
    let more : xs ≡ ks = cc in
    record {
      head = c;
      tail = cs;
      is = refl;
      here = subst (IsKeptAs r.manner c) one h.0;
      there = subst (AreKeptAs rs cs) more h.1;
    }

-- where no file is left, nothing is said
pub none-left : (said : List Said) (kept : List Content) → AreKeptAs [] said kept → said ≡ []
none-left [] [] h = refl
none-left said kept h = absurd h

-- what holds of all that a command's files may say holds of what they say
abbrev pub Runs : List (List ℕ) → Command → List Said → Outside → Outside → Status → Type 0
Runs words command said old new status = (stages : List Stage)
    × (gives_of command said ≡ Streams stages)
    × FlowsOrStops stages old.source new.source old.sink new.sink status

pub runs-by : (words : List (List ℕ)) (command command' : Command) (said said' : List Said)
    (old new : Outside) (status : Status) → command ≡ command' → said ≡ said' →
    new.files ≡ old.files → Runs words command' said' old new status →
    IsRun words (gives_of command said) old new status
runs-by words command command' said said' old new status e f same r =
    subst (λ x. IsRun words (gives_of x said) old new status) (sym e)
    (subst (λ x. IsRun words (gives_of command' x) old new status) (sym f)
    (subst (λ x. IsRun words x old new status) (sym r.1) (same, r.2)))

-- a command without files
pub gave-none : (words : List (List ℕ)) (command command' : Command) (said : List Said)
    (kept : List Content) (old new : Outside) (status : Status) → command ≡ command' →
    files_of command' ≡ [] → AreKeptAs (files_of command) said kept → new.files ≡ old.files →
    Runs words command' [] old new status → IsRun words (gives_of command said) old new status
gave-none words command command' said kept old new status e f k same r =
    runs-by words command command' said [] old new status e
    (none-left said kept (subst (λ x. AreKeptAs x said kept) (ap files_of e ∙ f) k)) same r

-- a command of one file
pub gave-one : (words : List (List ℕ)) (command command' : Command) (reading : Reading)
    (said : List Said) (kept rest : List Content) (k : Content) (old new : Outside)
    (status : Status) → command ≡ command' → files_of command' ≡ reading ∷ [] →
    AreKeptAs (files_of command) said kept → kept ≡ k ∷ rest → new.files ≡ old.files
    → ((c : Said) → IsKeptAs reading.manner c k → Runs words command' (c ∷ []) old new status) →
    IsRun words (gives_of command said) old new status
gave-one words command command' reading said kept rest k old new status e f h is same on =
    let n = next-kept reading [] said kept k rest
    (subst (λ x. AreKeptAs x said kept) (ap files_of e ∙ f) h) is in
    runs-by words command command' said (n.head ∷ []) old new status e
    (n.is ∙ ap (λ x. n.head ∷ x) (none-left n.tail rest n.there)) same (on n.head n.here)

-- a command of two files
pub gave-two : (words : List (List ℕ)) (command command' : Command) (first second : Reading)
    (said : List Said) (kept rest last : List Content) (k l : Content) (old new : Outside)
    (status : Status) → command ≡ command' → files_of command' ≡ first ∷ second ∷ [] →
    AreKeptAs (files_of command) said kept → kept ≡ k ∷ rest → rest ≡ l ∷ last
    → new.files ≡ old.files → ((c b : Said) → IsKeptAs first.manner c k →
    IsKeptAs second.manner b l → Runs words command' (c ∷ b ∷ []) old new status) →
    IsRun words (gives_of command said) old new status
gave-two words command command' first second said kept rest last k l old new status e f h is next
    same on =
    let n = next-kept first (second ∷ []) said kept k rest
    (subst (λ x. AreKeptAs x said kept) (ap files_of e ∙ f) h) is in
    let m = next-kept second [] n.tail rest l last n.there next in
    runs-by words command command' said (n.head ∷ m.head ∷ []) old new status e
    (n.is ∙ ap (λ x. n.head ∷ x) (m.is
    ∙ ap (λ x. m.head ∷ x) (none-left m.tail last m.there))) same
    (on n.head m.head n.here m.here)

-- the second file of a command is a dictionary that is to be used
pub second-compiled : (command command' : Command) (first : Reading) (place : ℕ) (way : Way)
    (rs : List Reading) (said : List Said) (kept rest : List Content) (k : Content) →
    command ≡ command' →
    files_of command' ≡ first ∷ record { place = place; manner = Either way } ∷ rs →
    AreKeptAs (files_of command) said kept → kept ≡ k ∷ rest → StartsCompiled rest
second-compiled command command' first place way rs said kept rest k e f h is =
    let n = next-kept first (record { place = place; manner = Either way } ∷ rs) said kept k rest
    (subst (λ x. AreKeptAs x said kept) (ap files_of e ∙ f) h) is in
    compiled-first place way rs n.tail rest n.there

-- what a file says of which these pairs, or these rules, are kept
pub pairs-said : (said : Said) (ps : List Pair) → IsKeptAs Paired said (code.Pairs ps) →
    said ≡ Pairs ps
pairs-said (Pairs qs) ps k = ap Pairs k
pairs-said said ps k = absurd k

pub rules-said : (form : Form) (said : Said) (r : RuleFile) →
    IsKeptAs (Ruled form) said (code.Rules r) → said ≡ Rules (plain_rules r)
rules-said form (Rules p) r k = ap Rules k.0
rules-said form said r k = absurd k

-- the workload
pub gave-work : (words : List (List ℕ)) (command : Command) (sentences : ℕ) (said : List Said)
    (kept : List Content) (old new : Outside) (status : Status) → command ≡ Work sentences →
    AreKeptAs (files_of command) said kept → new.files ≡ old.files → new.source ≡ old.source →
    IsWorked sentences old.sink new.sink status → IsRun words (gives_of command said) old new status
gave-work words command sentences said kept old new status e k same left w =
    subst (λ x. IsRun words (gives_of x said) old new status) (sym e)
    (subst (λ x. IsRun words (gives_of (Work sentences) x) old new status)
    (sym (none-left said kept (subst (λ x. AreKeptAs (files_of x) said kept) e k)))
    (same, left, w))
