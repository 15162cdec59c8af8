-- Files that are read one after another.
use Rattle.std.proofs.Common.{◌≡◌, ℕ, ◌+◌, ◌<◌, ◌≤◌, Bool, true, false, List, [], ◌∷◌, ◌++◌, ap, sym, ◌∙◌, subst, refl, inl, inr, Option, Some, None, Result, Ok, Err, IfOk, IfErr, length, take, drop, get_or, suc, add-one, arith}
use Rattle.std.specs.Prelude.{if◌then◌else◌}
use Rattle.std.proofs.lemmas.List.{take-append-drop}
use Rattle.std.proofs.Math.Seq.{take-suc, drop-cons}
use Rattle.ap_outside.specs.Told.{Loads}
use Rattle.ap_choose.specs.Pairs.{AreSaid}
use Rattle.ap_choose.specs.declared.forbidden.Pair.{Pair}
use Rattle.ap_dix.specs.declared.dictionary.Dictionary.{Dictionary}
use Rattle.ap_dix.specs.declared.dictionary.Direction.{Direction}
use Rattle.ap_dix.specs.Sentences.{SpellsDictionary}
use Rattle.ap_dix.specs.Soundness.{IsSound}
use Rattle.ap_fst.specs.Sections.{Parts}
use Rattle.ap_fst.specs.declared.compiled.Way.{Way}
use Rattle.ap_markup.specs.Elements.{elements, Spelled}
use Rattle.ap_rules.specs.Children.{Children, nothing, element, children}
use Rattle.ap_rules.specs.Faults.{RuleMark}
use Rattle.ap_rules.specs.Plain.{PlainRules}
use Rattle.ap_rules.specs.Soundness.{IsSound as AreSound}
use Rattle.ap_rules.specs.Sentences.{SpellsRules}
use Rattle.ap_rules.specs.Spelling.{Spells as AreRead, spelled, judged, decided, rules_in, table_of}
use Rattle.ap_rules.specs.Views.{plain_rules, makes_chunks}
use Rattle.ap_rules.specs.Worded.{AreWorded}
use Rattle.ap_rules.specs.declared.rules.Form.{Form}
use Rattle.ap_rules.specs.declared.rules.Form.TheVariants.{Transfer}
use Rattle.ap_rules.specs.declared.rules.Rules.{Rules as RuleFile}
use Rattle.ap_command.specs.declared.content.Content.{Content}
use Rattle.ap_command.specs.declared.content.Content.TheVariants as code
use Rattle.ap_command.specs.Said.{Said, Entries, Sections, Rules, Pairs}
use Rattle.ap_command.specs.declared.reading.Manner.{Manner}
use Rattle.ap_command.specs.declared.reading.Manner.TheVariants.{Plain, Made, Either, Ruled, Chunking, Paired}
use Rattle.ap_command.specs.declared.reading.Reading.{Reading}
use Rattle.ap_command.specs.declared.status.Status.{Status}
use Rattle.ap_command.specs.declared.status.Status.TheVariants.{BadCompiled, BadRules}
use Rattle.ap_command.specs.Messages.{name_at}
use Rattle.ap_command.specs.Words.{AreWithin}
use Rattle.ap_command.specs.Outside.{FilesStanding}
use Rattle.ap_command.specs.Reading.{file_max, HasText, is_compiled_file, notation_of, SpellsAs, IsFlawAs, IsFaultOf, OfDictionary, OfCompiled, OfRules, Flaw, TooLong, IsFlawOf, IsFirstMisfit, IsSpellingRefusal, IsCompiledRefusal, IsChunkingRefusal, is_other_way, made_way, IsUncompiled, IsMadeOf, IsMakingRefusal, IsTextRefusal, Keeps, IsAccepted, Says, Notation, AsDictionary, AsCompiled, AsRules, AsPairs}
use Rattle.ap_command.specs.Answer.{AllOpen, Reaches, AreKeptAs, AreOpened, IsRefusal}

abbrev notation_if : Bool → Notation
notation_if b = if b then AsCompiled else AsDictionary

-- what is kept of a text, by how it is read
pub keeps-plain : (manner : Manner) (text : List ℕ) (d : Dictionary) → manner ≡ Plain →
    SpellsDictionary text d → IsSound d → Keeps manner text (code.Entries d)
keeps-plain manner text d e s i =
    subst (λ m. Keeps m text (code.Entries d)) (sym e)
    (record { said = Entries d; says = record { spelled = s; fits = λ x. x }; kept_as = (refl, i) })

pub keeps-made : (manner : Manner) (text : List ℕ) (way : Direction) (p : Parts) →
    manner ≡ Made way → IsMadeOf text way p → Keeps manner text (code.Sections p)
keeps-made manner text way p e m =
    subst (λ x. Keeps x text (code.Sections p)) (sym e)
    (record {
      said = Entries m.dictionary;
      says = record { spelled = m.spelled; fits = m.sides };
      kept_as = m.made;
    })

pub keeps-either : (manner : Manner) (text : List ℕ) (way : Way) (p : Parts) → manner ≡ Either way →
    is_compiled_file text ≡ false → IsMadeOf text (made_way way) p →
    Keeps manner text (code.Sections p)
keeps-either manner text way p e n m = subst (λ x. Keeps x text (code.Sections p)) (sym e) (record {
  said = Entries m.dictionary;
  says = record {
    spelled =
        subst (λ b. SpellsAs b text (Entries m.dictionary)) (sym (ap notation_if n)) m.spelled;
    fits = m.sides;
  };
  kept_as = m.made;
})

pub keeps-compiled : (manner : Manner) (text : List ℕ) (way : Way) (p : Parts) →
    manner ≡ Either way → is_compiled_file text ≡ true → SpellsAs AsCompiled text (Sections p) →
    is_other_way way p.way ≡ false → Keeps manner text (code.Sections p)
keeps-compiled manner text way p e c s w =
    subst (λ x. Keeps x text (code.Sections p)) (sym e) (record {
      said = Sections p;
      says = record {
        spelled = subst (λ b. SpellsAs b text (Sections p)) (sym (ap notation_if c)) s;
        fits = λ x. (let both : true ≡ false = sym x ∙ w in cc);
      };
      kept_as = refl;
    })

-- rules that are read of a text have the form that they are read in
form-in : (form : Form) (tree : Children) → (rules_in form tree).form ≡ form
form-in form nothing = refl
form-in form (element tag own more) = refl

form-decided : (form : Form) (tree : Children) (mark : Option RuleMark) (r : PlainRules) →
    decided form tree mark ≡ Ok r → r.form ≡ form
form-decided form tree None r e = let same : rules_in form tree ≡ r = cc in
    subst (λ (x : PlainRules). x.form ≡ form) same (form-in form tree)
form-decided form tree (Some m) r e = absurd (cc)

form-judged : (form : Form) (tree : Spelled) (r : PlainRules) → judged form tree ≡ Ok r →
    r.form ≡ form
form-judged form (Err f) r e = absurd (cc)
form-judged form (Ok tree) r e = form-decided form (children tree.0) _ r e

pub form-of : (form : Form) (text : List ℕ) (r : PlainRules) → AreRead form text r → r.form ≡ form
unfolding spelled
form-of form text r e = form-judged form (elements text (table_of form)) r e

pub keeps-rules : (manner : Manner) (text : List ℕ) (form : Form) (r : RuleFile) →
    manner ≡ Ruled form → SpellsRules form text (plain_rules r) → r.form ≡ form →
    AreSound (plain_rules r) → AreWorded (plain_rules r) → Keeps manner text (code.Rules r)
keeps-rules manner text form r e s f i w = subst (λ x. Keeps x text (code.Rules r)) (sym e)
    (record {
      said = Rules (plain_rules r);
      says = record { spelled = s; fits = λ x. x };
      kept_as = (refl, (f, w, i));
    })

-- rules of transfer that make chunks
pub keeps-chunking : (manner : Manner) (text : List ℕ) (r : RuleFile) → manner ≡ Chunking →
    SpellsRules Transfer text (plain_rules r) → r.form ≡ Transfer → AreSound (plain_rules r) →
    AreWorded (plain_rules r) → makes_chunks r.form r.default ≡ true →
    Keeps manner text (code.Rules r)
keeps-chunking manner text r e s f i w h = subst (λ x. Keeps x text (code.Rules r)) (sym e)
    (record {
      said = Rules (plain_rules r);
      says = record { spelled = s; fits = λ n. (let both : true ≡ false = sym h ∙ n in cc) };
      kept_as = (refl, (f, w, i), h);
    })

pub keeps-pairs : (manner : Manner) (text : List ℕ) (ps : List Pair) → manner ≡ Paired →
    AreSaid text ps → Keeps manner text (code.Pairs ps)
keeps-pairs manner text ps e s = subst (λ x. Keeps x text (code.Pairs ps)) (sym e)
    (record { said = Pairs ps; says = record { spelled = s; fits = λ x. x }; kept_as = refl })

-- and how it is refused
refuses-spelling : (r : Reading) (text : List ℕ) (notation : Notation) (status : Status) →
    notation_of r.manner text ≡ notation → IsSpellingRefusal notation r.place text status →
    IsTextRefusal r text status
refuses-spelling r text notation status e (inl f) =
    inl (f.0, inl (subst (λ b. IsFlawAs b text f.0) (sym e) f.1), f.2)
refuses-spelling r text notation status e (inr m) = inr m

uncompiled-made : (r : Reading) (text : List ℕ) (way : Direction) (d : Dictionary) (status : Status)
    → r.manner ≡ Made way → SpellsDictionary text d → IsUncompiled d way r.place status →
    IsTextRefusal r text status
uncompiled-made r text way d status e s (inl u) = inl (
  OfDictionary 13 u.0,
  subst (λ m. IsFaultOf m text (OfDictionary 13 u.0)) (sym e)
      (inr (record { content = Entries d; spelled = s; first = (u.0, u.1, refl) })),
  u.2,
)
uncompiled-made r text way d status e s (inr m) = inr m

uncompiled-either : (r : Reading) (text : List ℕ) (way : Way) (d : Dictionary) (status : Status) →
    r.manner ≡ Either way → is_compiled_file text ≡ false → SpellsDictionary text d →
    IsUncompiled d (made_way way) r.place status → IsTextRefusal r text status
uncompiled-either r text way d status e n s (inl u) = inl (
  OfDictionary 13 u.0,
  subst (λ m. IsFaultOf m text (OfDictionary 13 u.0)) (sym e)
      (inr (record {
        content = Entries d;
        spelled =
            subst (λ b. SpellsAs b text (Entries d)) (sym (ap notation_if n)) s;
        first =
            (u.0, u.1, refl);
      })),
  u.2,
)
uncompiled-either r text way d status e n s (inr m) = inr m

pub refuses-made : (r : Reading) (text : List ℕ) (way : Direction) (status : Status) →
    r.manner ≡ Made way → IsMakingRefusal text way r.place status → IsTextRefusal r text status
refuses-made r text way status e (inl s) =
    refuses-spelling r text AsDictionary status (ap (λ m. notation_of m text) e) s
refuses-made r text way status e (inr u) = uncompiled-made r text way u.0 status e u.1 u.2

pub refuses-either : (r : Reading) (text : List ℕ) (way : Way) (status : Status) →
    r.manner ≡ Either way → is_compiled_file text ≡ false →
    IsMakingRefusal text (made_way way) r.place status → IsTextRefusal r text status
refuses-either r text way status e n (inl s) =
    refuses-spelling r text AsDictionary status (ap (λ m. notation_of m text) e
    ∙ ap notation_if n) s
refuses-either r text way status e n (inr u) = uncompiled-either r text way u.0 status e n u.1 u.2

pub refuses-rules : (r : Reading) (text : List ℕ) (form : Form) (status : Status) →
    r.manner ≡ Ruled form → IsSpellingRefusal (AsRules form) r.place text status →
    IsTextRefusal r text status
refuses-rules r text form status e s =
    refuses-spelling r text (AsRules form) status (ap (λ m. notation_of m text) e) s

-- rules that make no chunks
no-chunks : (r : Reading) (text : List ℕ) (p : PlainRules) (status : Status) →
    r.manner ≡ Chunking → SpellsRules Transfer text p → makes_chunks p.form p.default ≡ false →
    status ≡ BadRules r.place 12 p.line → IsTextRefusal r text status
no-chunks r text p status e s n is = inl (
  OfRules 12 p.line,
  subst (λ m. IsFaultOf m text (OfRules 12 p.line)) (sym e)
      (inr (record { content = Rules p; spelled = s; first = (n, refl) })),
  is,
)

pub refuses-chunking : (r : Reading) (text : List ℕ) (status : Status) → r.manner ≡ Chunking →
    IsChunkingRefusal text r.place status → IsTextRefusal r text status
refuses-chunking r text status e (inl s) =
    refuses-spelling r text (AsRules Transfer) status (ap (λ m. notation_of m text) e) s
refuses-chunking r text status e (inr o) = no-chunks r text o.0 status e o.1 o.2 o.3

pub refuses-pairs : (r : Reading) (text : List ℕ) (status : Status) → r.manner ≡ Paired →
    IsSpellingRefusal AsPairs r.place text status → IsTextRefusal r text status
refuses-pairs r text status e s =
    refuses-spelling r text AsPairs status (ap (λ m. notation_of m text) e) s

-- a compiled file tells another direction than is needed
other-way : (r : Reading) (text : List ℕ) (way : Way) (p : Parts) (status : Status) →
    r.manner ≡ Either way → is_compiled_file text ≡ true → SpellsAs AsCompiled text (Sections p) →
    is_other_way way p.way ≡ true → status ≡ BadCompiled r.place 6 2 → IsTextRefusal r text status
other-way r text way p status e c s w is = inl (
  OfCompiled 6 2,
  subst (λ m. IsFaultOf m text (OfCompiled 6 2)) (sym e)
      (inr (record {
        content = Sections p;
        spelled =
            subst (λ b. SpellsAs b text (Sections p)) (sym (ap notation_if c)) s;
        first = (w, refl);
      })),
  is,
)

pub refuses-compiled : (r : Reading) (text : List ℕ) (way : Way) (status : Status) →
    r.manner ≡ Either way → is_compiled_file text ≡ true → IsCompiledRefusal text way r.place status
    → IsTextRefusal r text status
refuses-compiled r text way status e c (inl s) =
    refuses-spelling r text AsCompiled status (ap (λ m. notation_of m text) e ∙ ap notation_if c) s
refuses-compiled r text way status e c (inr o) = other-way r text way o.0 status e c o.1 o.2 o.3

has-text : (contents : Option (List ℕ → Option (List ℕ))) (files : FilesStanding)
    (name text : List ℕ) (P : List ℕ → Type 0) → files.contents ≡ contents →
    Loads contents name file_max text → (length text ≤ file_max → P text) → HasText files name P
has-text None files name text P e l h =
    subst (λ c. HasText (record files { contents = c }) name P) (sym e) tt
has-text (Some at) files name text P e l h =
    subst (λ c. HasText (record files { contents = c }) name P) (sym e) (text, l.0, h l.1)

-- a text that is read is never too long by what it spells
no-long : (notation : Notation) (text : List ℕ) → IsFlawAs notation text TooLong → ⊥
no-long AsDictionary text h = h
no-long AsCompiled text h = h
no-long (AsRules form) text h = h
no-long AsPairs text h = h

no-misfit : (manner : Manner) (content : Said) → IsFirstMisfit manner content TooLong → ⊥
no-misfit (Made way) content f = let e : TooLong ≡ OfDictionary 13 f.0 = f.2 in cc
no-misfit (Either way) (Entries d) f = let e : TooLong ≡ OfDictionary 13 f.0 = f.2 in cc
no-misfit (Either way) (Sections p) f = let e : TooLong ≡ OfCompiled 6 2 = f.1 in cc
no-misfit Chunking (Rules r) f = let e : TooLong ≡ OfRules 12 r.line = f.1 in cc
no-misfit manner content f = f

flaw-of : (manner : Manner) (text : List ℕ) (flaw : Flaw) → length text ≤ file_max →
    IsFaultOf manner text flaw → IsFlawOf manner text flaw
flaw-of manner text TooLong short (inl h) = absurd (no-long (notation_of manner text) text h)
flaw-of manner text TooLong short (inr m) = absurd (no-misfit manner m.content m.first)
flaw-of manner text (OfDictionary number line) short f = (short, f)
flaw-of manner text (OfCompiled number line) short f = (short, f)
flaw-of manner text (OfRules number line) short f = (short, f)

-- a file was loaded, and refused for what its text is
pub refused-one : (words : List (List ℕ)) (old new : FilesStanding) (r : Reading)
    (text text' : List ℕ) (result : Result Content Status) → new ≡ old →
    Loads old.contents (name_at words r.place) file_max text → text' ≡ text →
    IfErr result (λ s. IsTextRefusal r text' s) → IfErr result (λ s. IsRefusal words old new s r)
refused-one words old new r text text' (Ok k) same l e h = h
refused-one words old new r text text' (Err s) same l e (inl f) = inr (
  same,
  inl (
    f.0,
    f.2,
    has-text old.contents old (name_at words r.place) text (λ t. IsFlawOf r.manner t f.0) refl l
        (λ short. flaw-of r.manner text f.0 short (subst (λ t. IsFaultOf r.manner t f.0) e f.1)),
  ),
)
refused-one words old new r text text' (Err s) same l e (inr m) = inr (same, inr m)

-- a file was loaded and read
pub opened-one : (words : List (List ℕ)) (files : FilesStanding) (r : Reading) (text text' : List ℕ)
    (result : Result Content Status) → Loads files.contents (name_at words r.place) file_max text →
    text' ≡ text → IfOk result (λ k. Keeps r.manner text' k) →
    IfOk result (λ k. AreOpened words files (r ∷ []) (k ∷ []))
opened-one words files r text text' (Err s) l e h = h
opened-one words files r text text' (Ok k) l e h = record {
  said = h.said ∷ [];
  opened = (
    has-text files.contents files (name_at words r.place) text
        (λ text. IsAccepted r.manner text h.said) refl l
        (λ short. record { short = short; says = subst (λ t. Says r.manner t h.said) e h.says }),
    tt,
  );
  kept_as = (h.kept_as, tt);
}

all-more : (words : List (List ℕ)) (files : FilesStanding) (rs ss : List Reading)
    (cs ds : List Said) → AllOpen words files rs cs → AllOpen words files ss ds →
    AllOpen words files (rs ++ ss) (cs ++ ds)
all-more words files [] ss [] ds p q = q
all-more words files [] ss (c ∷ cs) ds p q = absurd p
all-more words files (r ∷ rs) ss [] ds p q = absurd p
all-more words files (r ∷ rs) ss (c ∷ cs) ds p q = (p.0, all-more words files rs ss cs ds p.1 q)

kept-more : (rs ss : List Reading) (cs ds : List Said) (ks ls : List Content) → AreKeptAs rs cs ks →
    AreKeptAs ss ds ls → AreKeptAs (rs ++ ss) (cs ++ ds) (ks ++ ls)
kept-more [] ss [] ds [] ls p q = q
kept-more [] ss [] ds (k ∷ ks) ls p q = absurd p
kept-more [] ss (c ∷ cs) ds ks ls p q = absurd p
kept-more (r ∷ rs) ss [] ds ks ls p q = absurd p
kept-more (r ∷ rs) ss (c ∷ cs) ds [] ls p q = absurd p
kept-more (r ∷ rs) ss (c ∷ cs) ds (k ∷ ks) ls p q = (p.0, kept-more rs ss cs ds ks ls p.1 q)

opened-more : (words : List (List ℕ)) (files : FilesStanding) (rs ss : List Reading)
    (ks ls : List Content) → AreOpened words files rs ks → AreOpened words files ss ls →
    AreOpened words files (rs ++ ss) (ks ++ ls)
opened-more words files rs ss ks ls p q = record {
  said = p.said ++ q.said;
  opened = all-more words files rs ss p.said q.said p.opened q.opened;
  kept_as = kept-more rs ss p.said q.said ks ls p.kept_as q.kept_as;
}

-- the files before the one at that place were read, and then that one
pub opened-next : (words : List (List ℕ)) (files mid : FilesStanding) (rs : List Reading) (i : ℕ)
    (r : Reading) (ks : List Content) (k : Content) → i < length rs → mid ≡ files →
    AreOpened words files (take i rs) ks → AreOpened words mid (get_or rs i r ∷ []) (k ∷ []) →
    AreOpened words files (take (i + 1) rs) (ks ++ k ∷ [])
opened-next words files mid rs i r ks k h e p q =
    subst (λ x. AreOpened words files x (ks ++ k ∷ []))
    (sym (ap (λ n. take n rs) (add-one i) ∙ take-suc rs i r h))
    (opened-more words files (take i rs) (get_or rs i r ∷ []) ks (k ∷ []) p
    (subst (λ f. AreOpened words f (get_or rs i r ∷ []) (k ∷ [])) e q))

reaches-behind : (words : List (List ℕ)) (files : FilesStanding) (rs ss : List Reading)
    (cs : List Said) (P : Reading → Type 0) → AllOpen words files rs cs →
    Reaches words files ss P → Reaches words files (rs ++ ss) P
reaches-behind words files [] ss [] P p q = q
reaches-behind words files [] ss (c ∷ cs) P p q = absurd p
reaches-behind words files (r ∷ rs) ss [] P p q = absurd p
reaches-behind words files (r ∷ rs) ss (c ∷ cs) P p q =
    inr (c, p.0, reaches-behind words files rs ss cs P p.1 q)

split-at : (rs : List Reading) (i : ℕ) (r : Reading) → i < length rs →
    rs ≡ take i rs ++ (get_or rs i r ∷ drop (suc i) rs)
split-at rs i r h = sym (take-append-drop i rs) ∙ ap (λ xs. take i rs ++ xs) (drop-cons rs i r h)

-- the files before the one at that place were read, and this holds of that one
pub reaches-at : (words : List (List ℕ)) (files : FilesStanding) (rs : List Reading) (i : ℕ)
    (r : Reading) (ks : List Content) (P : Reading → Type 0) → i < length rs →
    AreOpened words files (take i rs) ks → P (get_or rs i r) → Reaches words files rs P
reaches-at words files rs i r ks P h p q =
    subst (λ x. Reaches words files x P) (sym (split-at rs i r h))
    (reaches-behind words files (take i rs) (get_or rs i r ∷ drop (suc i) rs) p.said P
    p.opened (inl q))

within-behind : (words : ℕ) (rs ss : List Reading) → AreWithin words (rs ++ ss) → AreWithin words ss
within-behind words [] ss w = w
within-behind words (r ∷ rs) ss w = within-behind words rs ss w.1

pub within-at : (words : ℕ) (rs : List Reading) (i : ℕ) (r : Reading) → i < length rs →
    AreWithin words rs → (get_or rs i r).place < words
within-at words rs i r h w =
    (within-behind words (take i rs) (get_or rs i r ∷ drop (suc i) rs)
    (subst (AreWithin words) (split-at rs i r h) w)).0

pub within-more : (m n : ℕ) (rs : List Reading) → m ≤ n → AreWithin m rs → AreWithin n rs
within-more m n [] h w = w
within-more m n (r ∷ rs) h w = (omega (arith, w.0, h), within-more m n rs h w.1)

pub when-true : (b : Bool) (zs xs ys : List Content) → b ≡ true →
    zs ≡ (if b then xs else ys) → zs ≡ xs
when-true true zs xs ys e h = h
when-true false zs xs ys e h = absurd (let x : false ≡ true = e in cc)
