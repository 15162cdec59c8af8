use Rattle.std.proofs.Common.{◌≡◌, ℕ, ◌<◌, ◌≤◌, List, arith, subst, sym, inl, inr, Result, Ok, Err, IfErr}
use Rattle.ap_dix.specs.declared.refusal.DixKind.{DixKind}
use Rattle.ap_dix.specs.declared.refusal.DixKind.TheVariants.{NotUtf8, Syntax, UnknownElement, UnknownAttribute, MissingAttribute, Misplaced, DuplicateName, UndeclaredSymbol, UndefinedParadigm, BadRegex, Weighted, Unsupported}
use Rattle.ap_dix.specs.Refusals.{kind_number}
use Rattle.ap_binary.specs.declared.refusal.BinaryKind.{BinaryKind}
use Rattle.ap_binary.specs.declared.refusal.BinaryKind.TheVariants as binary
use Rattle.ap_binary.specs.Refusals.{kind_number as compiled_number}
use Rattle.ap_rules.specs.declared.refusal.RuleKind.{RuleKind}
use Rattle.ap_rules.specs.declared.refusal.RuleKind.TheVariants as rule
use Rattle.ap_rules.specs.declared.rules.Form.{Form}
use Rattle.ap_rules.specs.Refusals.{kind_number as rule_number}
use Rattle.ap_command.specs.declared.content.Content.{Content}
use Rattle.ap_command.specs.declared.status.Status.{Status}
use Rattle.ap_command.specs.Messages.{IsTold}
use Rattle.ap_command.specs.declared.reading.Manner.{Manner}
use Rattle.ap_command.specs.declared.reading.Reading.{Reading}
use Rattle.ap_command.specs.Said.{Said, Entries, Sections, Rules}
use Rattle.ap_command.specs.declared.reading.Manner.TheVariants.{Made, Either, Chunking}
use Rattle.ap_command.specs.Reading.{Notation, AsDictionary, AsCompiled, AsRules, AsPairs, notation_of, Flaw, OfDictionary, OfCompiled, OfRules, status_of_flaw, HasRuleFault, HasDictionaryFault, HasCompiledFault, IsFlawAs, IsFirstMisfit, IsFaultOf, IsTextRefusal}
use Rattle.ap_stream.specs.declared.fault.MalformedKind.{MalformedKind}
use Rattle.ap_stream.specs.declared.fault.MalformedKind.TheVariants as stray
use Rattle.ap_stream.specs.declared.fault.LimitKind.{LimitKind}
use Rattle.ap_stream.specs.declared.fault.LimitKind.TheVariants.{ItemTooLong, SpanTooLong, UnitTooLong, ValueTooLong, OutputTooLong, FileTooLong, InputTooLong}
use Rattle.ap_command.specs.Stream.{malformed_number, limit_number}

-- the number of a fault of a dictionary
pub kind-bounds : (kind : DixKind) → (1 ≤ kind_number kind) × (kind_number kind ≤ 12)
kind-bounds NotUtf8 = (omega arith, omega arith)
kind-bounds Syntax = (omega arith, omega arith)
kind-bounds UnknownElement = (omega arith, omega arith)
kind-bounds UnknownAttribute = (omega arith, omega arith)
kind-bounds MissingAttribute = (omega arith, omega arith)
kind-bounds Misplaced = (omega arith, omega arith)
kind-bounds DuplicateName = (omega arith, omega arith)
kind-bounds UndeclaredSymbol = (omega arith, omega arith)
kind-bounds UndefinedParadigm = (omega arith, omega arith)
kind-bounds BadRegex = (omega arith, omega arith)
kind-bounds Weighted = (omega arith, omega arith)
kind-bounds Unsupported = (omega arith, omega arith)

compiled-bounds : (kind : BinaryKind) → (1 ≤ compiled_number kind) × (compiled_number kind ≤ 6)
compiled-bounds binary.BadHeader = (omega arith, omega arith)
compiled-bounds binary.BadLine = (omega arith, omega arith)
compiled-bounds binary.OutOfRange = (omega arith, omega arith)
compiled-bounds binary.EmptyCycle = (omega arith, omega arith)
compiled-bounds binary.EmptySide = (omega arith, omega arith)
compiled-bounds binary.WrongWay = (omega arith, omega arith)

rule-bounds : (kind : RuleKind) → (1 ≤ rule_number kind) × (rule_number kind ≤ 13)
rule-bounds rule.NotUtf8 = (omega arith, omega arith)
rule-bounds rule.Syntax = (omega arith, omega arith)
rule-bounds rule.UnknownElement = (omega arith, omega arith)
rule-bounds rule.UnknownAttribute = (omega arith, omega arith)
rule-bounds rule.MissingAttribute = (omega arith, omega arith)
rule-bounds rule.Misplaced = (omega arith, omega arith)
rule-bounds rule.DuplicateName = (omega arith, omega arith)
rule-bounds rule.UndefinedName = (omega arith, omega arith)
rule-bounds rule.BadPosition = (omega arith, omega arith)
rule-bounds rule.BadTags = (omega arith, omega arith)
rule-bounds rule.PatternLength = (omega arith, omega arith)
rule-bounds rule.Misused = (omega arith, omega arith)
rule-bounds rule.Unsupported = (omega arith, omega arith)

pub malformed-bounds : (kind : MalformedKind) → (1 ≤ malformed_number kind)
    × (malformed_number kind ≤ 5)
malformed-bounds stray.NotUtf8 = (omega arith, omega arith)
malformed-bounds stray.Stray = (omega arith, omega arith)
malformed-bounds stray.Unfinished = (omega arith, omega arith)
malformed-bounds stray.BadTag = (omega arith, omega arith)
malformed-bounds stray.EmptyWord = (omega arith, omega arith)

pub limit-bounds : (kind : LimitKind) → (1 ≤ limit_number kind) × (limit_number kind ≤ 7)
limit-bounds ItemTooLong = (omega arith, omega arith)
limit-bounds SpanTooLong = (omega arith, omega arith)
limit-bounds UnitTooLong = (omega arith, omega arith)
limit-bounds ValueTooLong = (omega arith, omega arith)
limit-bounds OutputTooLong = (omega arith, omega arith)
limit-bounds FileTooLong = (omega arith, omega arith)
limit-bounds InputTooLong = (omega arith, omega arith)

flaw-bounds : (text : List ℕ) (number line : ℕ) → HasDictionaryFault text number line →
    (1 ≤ number) × (number ≤ 13)
flaw-bounds text number line r =
    let k : kind_number r.fault.kind ≡ number = r.number_is in
    let b = kind-bounds r.fault.kind in
    (omega (arith, b.0), omega (arith, b.1))

compiled-flaw-bounds : (text : List ℕ) (number line : ℕ) → HasCompiledFault text number line →
    (1 ≤ number) × (number ≤ 6)
compiled-flaw-bounds text number line r =
    let k : compiled_number r.fault.kind ≡ number = r.number_is in
    let b = compiled-bounds r.fault.kind in
    (omega (arith, b.0), omega (arith, b.1))

rule-flaw-bounds : (form : Form) (text : List ℕ) (number line : ℕ) →
    HasRuleFault form text number line → (1 ≤ number) × (number ≤ 14)
rule-flaw-bounds form text number line r =
    let k : rule_number r.fault.kind ≡ number = r.number_is in
    let b = rule-bounds r.fault.kind in
    (omega (arith, b.0), omega (arith, b.1))

flaw-as-told : (notation : Notation) (file : ℕ) (text : List ℕ) (flaw : Flaw) (words : ℕ) →
    IsFlawAs notation text flaw → file < words → IsTold (status_of_flaw file flaw) words
flaw-as-told AsDictionary file text (OfDictionary number line) words r h = let b =
    flaw-bounds text number line r in (h, b.0, b.1)
flaw-as-told (AsRules form) file text (OfRules number line) words r h = let b =
    rule-flaw-bounds form text number line r in (h, b.0, b.1)
flaw-as-told AsPairs file text (OfRules number line) words r h = let k : number ≡ 14 = r.0 in
    (h, omega arith, omega arith)
flaw-as-told AsCompiled file text (OfCompiled number line) words r h = let b =
    compiled-flaw-bounds text number line r in (h, b.0, b.1)
flaw-as-told notation file text flaw words r h = absurd r

empty-told : (file line : ℕ) (flaw : Flaw) (words : ℕ) → flaw ≡ OfDictionary 13 line →
    file < words → IsTold (status_of_flaw file flaw) words
empty-told file line flaw words e h =
    subst (λ f. IsTold (status_of_flaw file f) words) (sym e) (h, omega arith, omega arith)

misfit-told : (manner : Manner) (file : ℕ) (content : Said) (flaw : Flaw) (words : ℕ) →
    IsFirstMisfit manner content flaw → file < words → IsTold (status_of_flaw file flaw) words
misfit-told (Made way) file content flaw words r h = empty-told file r.0 flaw words r.2 h
misfit-told (Either way) file (Entries d) flaw words r h = empty-told file r.0 flaw words r.2 h
misfit-told (Either way) file (Sections p) flaw words r h =
    subst (λ f. IsTold (status_of_flaw file f) words) (sym r.1) (h, omega arith, omega arith)
misfit-told Chunking file (Rules p) flaw words r h =
    subst (λ f. IsTold (status_of_flaw file f) words) (sym r.1) (h, omega arith, omega arith)
misfit-told manner file content flaw words r h = absurd r

flaw-told : (manner : Manner) (file : ℕ) (text : List ℕ) (flaw : Flaw) (words : ℕ) →
    IsFaultOf manner text flaw → file < words → IsTold (status_of_flaw file flaw) words
flaw-told manner file text flaw words (inl r) h =
    flaw-as-told (notation_of manner text) file text flaw words r h
flaw-told manner file text flaw words (inr e) h =
    misfit-told manner file e.content flaw words e.first h

-- a refusal of a text has a message
pub read-told : (reading : Reading) (text : List ℕ) (status : Status) (words : ℕ) →
    IsTextRefusal reading text status → reading.place < words → IsTold status words
read-told reading text status words (inl r) h =
    subst (λ s. IsTold s words) (sym r.2)
    (flaw-told reading.manner reading.place text r.0 words r.1 h)
read-told reading text status words (inr m) h = subst (λ s. IsTold s words) (sym m) tt

pub told-if : (reading : Reading) (text : List ℕ) (result : Result Content Status) (words : ℕ) →
    IfErr result (λ s. IsTextRefusal reading text s) → reading.place < words →
    IfErr result (λ s. IsTold s words)
told-if reading text (Ok kept) words h within = h
told-if reading text (Err status) words h within = read-told reading text status words h within
