-- Joined transfer agrees with transfer behind bilingual lookup.
use Rattle.std.specs.Prelude.{◌≡◌, ℕ, zero, suc, pred, nat_lt, Bool, true, false, List, [], ◌∷◌, ◌++◌, length, map, take, Option, Some, None, refl, if◌then◌else◌}
use Rattle.std.specs.List.{flat_map}
use Rattle.std.proofs.Common.{ap, sym, ◌∙◌}
use Rattle.std.proofs.lemmas.List.{append-nil, map-append}
use Rattle.std.proofs.lemmas.List.Concat.{flat_map-cons}
use Rattle.ap_symbol.specs.Kinds.{is_marked, first_word}
use Rattle.ap_symbol.specs.declared.symbol.Symbol.{Symbol}
use Rattle.ap_symbol.specs.declared.symbol.Symbol.TheVariants.{At}
use Rattle.ap_stream.specs.Each.{each}
use Rattle.ap_stream.specs.Limits.{span_max}
use Rattle.ap_stream.specs.Reading.{Reads, reads}
use Rattle.ap_stream.specs.Steps.{bytes_of}
use Rattle.ap_stream.specs.Told.{Told, Ending, Clean, behind, or_else, stop_at}
use Rattle.ap_stream.specs.declared.dialect.Dialect.TheVariants.{Lexical, Bilingual}
use Rattle.ap_stream.specs.declared.fault.LimitKind.TheVariants as limit
use Rattle.ap_stream.specs.declared.fault.StreamFault.{StreamFault}
use Rattle.ap_stream.specs.declared.item.Item.{Item}
use Rattle.ap_stream.specs.declared.item.Item.TheVariants as item
use Rattle.ap_stream.specs.declared.item.Read.{Read}
use Rattle.ap_stream.proofs.EachKept.{neither}
use Rattle.ap_live.specs.Lexicon.{Lexicon}
use Rattle.ap_live.specs.Readable.{GivesReadable}
use Rattle.ap_lookup.specs.Lookup.{translations, translations_by}
use Rattle.ap_lookup.specs.Translation.{translation}
use Rattle.ap_lookup.specs.Works.{bilingual_unit, bilingual_text}
use Rattle.ap_rules.specs.Views.{plain_rules}
use Rattle.ap_rules.specs.declared.rules.Form.{Form}
use Rattle.ap_rules.specs.declared.rules.Form.TheVariants.{Transfer, Interchunk, Postchunk}
use Rattle.ap_rules.specs.declared.rules.Rules.{Rules}
use Rattle.ap_exec.specs.Acting.{act_of}
use Rattle.ap_exec.specs.Borderless.{KeepQueues, all_head}
use Rattle.ap_exec.specs.Starting.{start_of}
use Rattle.ap_exec.specs.declared.matched.MatchedUnit.{MatchedUnit}
use Rattle.ap_exec.proofs.Borderless.{borders_do_not_matter}
use Rattle.ap_chunk.specs.Carrying.{Held, Step, Gives, Stops, goes_on, carried}
use Rattle.ap_chunk.specs.Matches.{Sees, translated, named, seen_item, seen_items, matched_of, item_blanks, blanks_of}
use Rattle.ap_chunk.specs.Parts.{Part, word_of, unit_part, part_of, parts_of, taken_by, units_in}
use Rattle.ap_chunk.specs.Patterns.{patterns_of}
use Rattle.ap_chunk.specs.Going.{chosen_of}
use Rattle.ap_chunk.specs.Stages.{span, choice, acted_step, rule_step, lone_step, unmatched_step, match_step, chosen_step, is_overfull, chunk_step, transferred_text}
use Rattle.ap_chunk.specs.Unmatched.{default_text, unit_text, lone_text, unmatched_text}
use Rattle.ap_chunk.specs.declared.choice.Choice.{Choice}
use Rattle.ap_pipe.specs.Joined.{default_of, seen_run, seen_alone, seen_step, headed, marked_or, looked_up}
use Rattle.ap_pipe.specs.JoinedLaws.{TransferSees, JoinedAgrees}
use Rattle.ap_pipe.specs.Row.{last_fault}
use Rattle.ap_pipe.specs.declared.station.RowFault.{RowFault}
use Rattle.ap_pipe.proofs.ItemsBack.{things_of}
use Rattle.ap_pipe.proofs.ItemsRead.{with_translations, remade, all_remade, lookup_back}

-- what is written for an item without a match, and the step where a rule matches some units
abbrev seen_text : Sees → Rules → Item → List ℕ
seen_text sees rules thing = lone_text (λ words. default_of rules (sees words)) rules thing

abbrev seen_taken : Sees → Rules → Held → List Read → Option Choice → Step
seen_taken sees rules vars items chosen =
    match_step (λ rule taken. seen_run sees rules rule vars taken)
    (seen_alone sees rules vars items) rules items chosen

-- what a rule sees behind bilingual lookup, and in joined transfer

abbrev sees_joined : Lexicon → Sees
sees_joined lexicon words = looked_up lexicon (word_of 0 words)

-- the first word of a unit
same_word : (words : List (List Symbol)) → first_word words ≡ word_of 0 words
same_word [] = refl
same_word (word ∷ words) = refl

-- a word with its translations
abbrev in_order : List Symbol → List (List Symbol) → MatchedUnit
in_order word words =
    record { source = word; head = word_of 0 words; queue = []; content = [] }

-- a unit whose head is this, and whose queue is empty
abbrev whole_head : List Symbol → List Symbol → MatchedUnit
whole_head word head = record { source = word; head = head; queue = []; content = [] }

headed_same : (word : List Symbol) (heads : List (List Symbol)) (left : List Symbol) →
    in_order word (translations_by word heads left) ≡ all_head (headed word heads left)
headed_same word [] left = ap (whole_head word) (sym (append-nil (At ∷ word)))
headed_same word (head ∷ heads) left = refl

looked_up_same : (lexicon : Lexicon) (word : List Symbol) →
    in_order word (translations lexicon false word) ≡ all_head (looked_up lexicon word)
looked_up_same lexicon word = by (is_marked word)
  where
    by : (v : Bool) → in_order word
        (if v then word ∷ [] else translations_by word (translation lexicon false word).heads
        (translation lexicon false word).left)
        ≡ all_head (marked_or v word (translation lexicon false word))
    by true = ap (whole_head word) (sym (append-nil word))
    by false = headed_same word (translation lexicon false word).heads
        (translation lexicon false word).left

unit_same : (lexicon : Lexicon) (words : List (List Symbol)) →
    translated (with_translations lexicon words) ≡ all_head (sees_joined lexicon words)
unit_same lexicon words = looked_up_same lexicon (first_word words)
    ∙ ap (λ (word : List Symbol). all_head (looked_up lexicon word)) (same_word words)

-- the items of both texts

abbrev Same : Lexicon → List Read → List Read → Type 0
Same lexicon [] [] = Unit {0}
Same lexicon [] (s ∷ ss) = ⊥
Same lexicon (r ∷ rs) [] = ⊥
Same lexicon (r ∷ rs) (s ∷ ss) = (s.item ≡ remade lexicon r.item) × Same lexicon rs ss

same_things : (lexicon : Lexicon) (rs ss : List Read) → things_of ss ≡ all_remade lexicon rs →
    Same lexicon rs ss
same_things lexicon [] [] h = tt
same_things lexicon [] (s ∷ ss) h = absurd (cc)
same_things lexicon (r ∷ rs) [] h = absurd (cc)
same_things lexicon (r ∷ rs) (s ∷ ss) h = (cc, same_things lexicon rs ss (cc))

same_take : (lexicon : Lexicon) (n : ℕ) (rs ss : List Read) → Same lexicon rs ss →
    Same lexicon (take n rs) (take n ss)
same_take lexicon zero rs ss h = tt
same_take lexicon (suc n) [] [] h = tt
same_take lexicon (suc n) [] (s ∷ ss) h = h
same_take lexicon (suc n) (r ∷ rs) [] h = h
same_take lexicon (suc n) (r ∷ rs) (s ∷ ss) h = (h.0, same_take lexicon n rs ss h.1)

same_length : (lexicon : Lexicon) (rs ss : List Read) → Same lexicon rs ss →
    length ss ≡ length rs
same_length lexicon [] [] h = refl
same_length lexicon [] (s ∷ ss) h = absurd h
same_length lexicon (r ∷ rs) [] h = absurd h
same_length lexicon (r ∷ rs) (s ∷ ss) h = ap suc (same_length lexicon rs ss h.1)

-- what is made of each item
same_map : {A : Type 0} (lexicon : Lexicon) (f g : Item → A) →
    ((thing : Item) → f (remade lexicon thing) ≡ g thing) → (rs ss : List Read) →
    Same lexicon rs ss →
    map (λ (read : Read). f read.item) ss ≡ map (λ (read : Read). g read.item) rs
same_map lexicon f g e [] [] h = refl
same_map lexicon f g e [] (s ∷ ss) h = absurd h
same_map lexicon f g e (r ∷ rs) [] h = absurd h
same_map {A} lexicon f g e (r ∷ rs) (s ∷ ss) h =
    ap (λ (x : A). x ∷ map (λ (read : Read). f read.item) ss) (ap f h.0 ∙ e r.item)
    ∙ ap (λ (xs : List A). g r.item ∷ xs) (same_map lexicon f g e rs ss h.1)

same_flat : {A : Type 0} (lexicon : Lexicon) (f g : Item → List A) →
    ((thing : Item) → f (remade lexicon thing) ≡ g thing) → (rs ss : List Read) →
    Same lexicon rs ss →
    flat_map (λ (read : Read). f read.item) ss ≡ flat_map (λ (read : Read). g read.item) rs
same_flat lexicon f g e [] [] h = refl
same_flat lexicon f g e [] (s ∷ ss) h = absurd h
same_flat lexicon f g e (r ∷ rs) [] h = absurd h
same_flat {A} lexicon f g e (r ∷ rs) (s ∷ ss) h =
    flat_map-cons (λ (read : Read). f read.item) s ss
    ∙ ap (λ (x : List A). x ++ flat_map (λ (read : Read). f read.item) ss) (ap f h.0 ∙ e r.item)
    ∙ ap (λ (xs : List A). g r.item ++ xs) (same_flat lexicon f g e rs ss h.1)
    ∙ sym (flat_map-cons (λ (read : Read). g read.item) r rs)

part_same : (lexicon : Lexicon) (rules : Rules) (thing : Item) →
    part_of rules (remade lexicon thing) ≡ part_of rules thing
part_same lexicon rules (item.Plain c) = refl
part_same lexicon rules (item.Blank bytes) = refl
part_same lexicon rules (item.Unit words) = by rules.form
  where
    by : (form : Form) → unit_part rules form (with_translations lexicon words)
        ≡ unit_part rules form words
    by Transfer =
        ap (λ (word : List Symbol). unit_part rules Transfer (word ∷ [])) (same_word words)
    by Interchunk = refl
    by Postchunk = refl
part_same lexicon rules (item.Chunk c) = refl

parts_same : (lexicon : Lexicon) (rules : Rules) (rs ss : List Read) → Same lexicon rs ss →
    parts_of rules ss ≡ parts_of rules rs
parts_same lexicon rules rs ss h =
    same_map lexicon (part_of rules) (part_of rules) (part_same lexicon rules) rs ss h

blanks_same : (lexicon : Lexicon) (rs ss : List Read) → Same lexicon rs ss →
    blanks_of ss ≡ blanks_of rs
blanks_same lexicon rs ss h = same_flat lexicon item_blanks item_blanks own rs ss h
  where
    own : (thing : Item) → item_blanks (remade lexicon thing) ≡ item_blanks thing
    own (item.Plain c) = refl
    own (item.Blank bytes) = refl
    own (item.Unit words) = refl
    own (item.Chunk c) = refl

-- the units of a match
units_same : (lexicon : Lexicon) (rs ss : List Read) → Same lexicon rs ss →
    seen_items translated ss ≡ map all_head (seen_items (sees_joined lexicon) rs)
units_same lexicon rs ss h =
    same_flat lexicon (seen_item translated)
    (λ thing. map all_head (seen_item (sees_joined lexicon) thing)) own rs ss h ∙ flat rs
  where
    own : (thing : Item) → seen_item translated (remade lexicon thing)
        ≡ map all_head (seen_item (sees_joined lexicon) thing)
    own (item.Plain c) = refl
    own (item.Blank bytes) = refl
    own (item.Unit words) = ap (λ (u : MatchedUnit). u ∷ []) (unit_same lexicon words)
    own (item.Chunk c) =
        ap (λ (head : List Symbol). named head c.content ∷ []) (sym (append-nil c.name))

    flat : (rs : List Read) →
        flat_map (λ (read : Read). map all_head (seen_item (sees_joined lexicon) read.item)) rs
        ≡ map all_head (seen_items (sees_joined lexicon) rs)
    flat [] = refl
    flat (r ∷ rs) =
        flat_map-cons
        (λ (read : Read). map all_head (seen_item (sees_joined lexicon) read.item)) r rs
        ∙ ap (λ (us : List MatchedUnit).
        map all_head (seen_item (sees_joined lexicon) r.item) ++ us) (flat rs)
        ∙ sym (map-append all_head (seen_item (sees_joined lexicon) r.item)
        (seen_items (sees_joined lexicon) rs))
        ∙ ap (map all_head)
        (sym (flat_map-cons (λ (read : Read). seen_item (sees_joined lexicon) read.item) r rs))

-- an item without a match
lone_same : (lexicon : Lexicon) (rules : Rules) (thing : Item) →
    seen_text translated rules (remade lexicon thing)
    ≡ seen_text (sees_joined lexicon) rules thing
lone_same lexicon rules (item.Plain c) = refl
lone_same lexicon rules (item.Blank bytes) = refl
lone_same lexicon rules (item.Unit words) =
    ap (default_of rules) (unit_same lexicon words)
    ∙ ap (default_text rules.default (sees_joined lexicon words).source)
    (append-nil ((sees_joined lexicon words).head ++ (sees_joined lexicon words).queue))
lone_same lexicon rules (item.Chunk c) = refl

-- what a step gives, where its span is within the limit
abbrev step_at : Bool → Step → Step
step_at over step = if over then Stops limit.SpanTooLong else step

-- steps
module _ (lexicon : Lexicon) (rules : Rules) (keep : KeepQueues (plain_rules rules)) where
  run_same : (rule : ℕ) (vars : Held) (rs ss : List Read) → Same lexicon rs ss →
      seen_run translated rules rule vars ss ≡ seen_run (sees_joined lexicon) rules rule vars rs
  run_same rule vars rs ss h =
      ap (λ n. acted_step n (blanks_of ss) (act_of (plain_rules rules) rule
      (record { chunk = None; units = seen_items translated ss }) vars))
      (same_length lexicon rs ss h)
      ∙ ap (λ (blanks : List (List ℕ)). acted_step (length rs) blanks
      (act_of (plain_rules rules) rule
      (record { chunk = None; units = seen_items translated ss }) vars))
      (blanks_same lexicon rs ss h)
      ∙ ap (λ (units : List MatchedUnit). acted_step (length rs) (blanks_of rs)
      (act_of (plain_rules rules) rule (record { chunk = None; units = units }) vars))
      (units_same lexicon rs ss h)
      ∙ ap (acted_step (length rs) (blanks_of rs))
      (borders_do_not_matter (plain_rules rules) rule
      (record { chunk = None; units = seen_items (sees_joined lexicon) rs }) vars keep)

  alone_same : (vars : Held) (rs ss : List Read) → Same lexicon rs ss →
      seen_alone translated rules vars ss ≡ seen_alone (sees_joined lexicon) rules vars rs
  alone_same vars [] [] h = refl
  alone_same vars [] (s ∷ ss) h = absurd h
  alone_same vars (r ∷ rs) [] h = absurd h
  alone_same vars (r ∷ rs) (s ∷ ss) h =
      ap (λ (thing : Item). lone_step vars (seen_text translated rules thing)) h.0
      ∙ ap (lone_step vars) (lone_same lexicon rules r.item)

  taken_same : (vars : Held) (rs ss : List Read) (c : Option Choice) → Same lexicon rs ss →
      seen_taken translated rules vars ss c ≡ seen_taken (sees_joined lexicon) rules vars rs c
  taken_same vars rs ss None h = alone_same vars rs ss h
  taken_same vars rs ss (Some c) h =
      ap (λ (parts : List Part). if nat_lt 0 c.size
      then seen_run translated rules c.rule vars (take (taken_by c.size parts) ss)
      else seen_alone translated rules vars ss) (parts_same lexicon rules rs ss h)
      ∙ by (taken_by c.size (parts_of rules rs)) (nat_lt 0 c.size)
    where
      by : (n : ℕ) (v : Bool) →
          (if v then seen_run translated rules c.rule vars (take n ss)
          else seen_alone translated rules vars ss)
          ≡ (if v then seen_run (sees_joined lexicon) rules c.rule vars (take n rs)
          else seen_alone (sees_joined lexicon) rules vars rs)
      by n true = run_same c.rule vars (take n rs) (take n ss) (same_take lexicon n rs ss h)
      by n false = alone_same vars rs ss h

  choice_same : (rs ss : List Read) → Same lexicon rs ss → choice rules ss ≡ choice rules rs
  unfolding choice
  choice_same rs ss h =
      ap (λ (parts : List Part). chosen_of (patterns_of rules) (units_in false parts))
      (parts_same lexicon rules rs ss h)

  chosen_same : (vars : Held) (rs ss : List Read) → Same lexicon rs ss →
      seen_taken translated rules vars ss (choice rules ss)
      ≡ seen_taken (sees_joined lexicon) rules vars rs (choice rules rs)
  chosen_same vars rs ss h =
      ap (seen_taken translated rules vars ss) (choice_same rs ss h)
      ∙ taken_same vars rs ss (choice rules rs) h

  -- both go on from there to the same text
  abbrev Agree : Held → ℕ → List Read → List Read → Type 0
  Agree vars skip rs ss =
      (carried (seen_step (sees_joined lexicon) rules) vars skip rs).fault ≡ None →
      (carried (seen_step translated rules) vars skip ss).fault ≡ None →
      (carried (seen_step (sees_joined lexicon) rules) vars skip rs).text
      ≡ (carried (seen_step translated rules) vars skip ss).text

  abbrev left : ℕ → List Read → Step → Told
  left place rs step =
      goes_on place step (λ n held. carried (seen_step (sees_joined lexicon) rules) held n rs)

  abbrev right : ℕ → List Read → Step → Told
  right place ss step =
      goes_on place step (λ n held. carried (seen_step translated rules) held n ss)

  agree : (vars : Held) (skip : ℕ) (rs ss : List Read) → Same lexicon rs ss →
      Agree vars skip rs ss
  unfolding carried seen_step
  agree vars skip [] [] h e f = refl
  agree vars skip [] (s ∷ ss) h e f = absurd h
  agree vars skip (r ∷ rs) [] h e f = absurd h
  agree vars (suc skip) (r ∷ rs) (s ∷ ss) h e f = agree vars skip rs ss h.1 e f
  agree vars zero (r ∷ rs) (s ∷ ss) h e f =
      by (nat_lt span_max (bytes_of (take (span rules (r ∷ rs)) (r ∷ rs))))
      (nat_lt span_max (bytes_of (take (span rules (s ∷ ss)) (s ∷ ss))))
      (seen_taken (sees_joined lexicon) rules vars (r ∷ rs) (choice rules (r ∷ rs)))
      (seen_taken translated rules vars (s ∷ ss) (choice rules (s ∷ ss)))
      (chosen_same vars (r ∷ rs) (s ∷ ss) h) (λ held n. agree held n rs ss h.1) e f
    where
      same : (step : Step) → ((held : Held) (n : ℕ) → Agree held n rs ss) →
          (left r.place rs step).fault ≡ None → (right s.place ss step).fault ≡ None →
          (left r.place rs step).text ≡ (right s.place ss step).text
      same (Gives n text held) go e f =
          ap (λ (q : List ℕ). text ++ q) (go held (pred n) e f)
      same (Stops kind) go e f = absurd (cc)

      by : (v w : Bool) (one other : Step) → other ≡ one →
          ((held : Held) (n : ℕ) → Agree held n rs ss) →
          (left r.place rs (step_at v one)).fault ≡ None →
          (right s.place ss (step_at w other)).fault ≡ None →
          (left r.place rs (step_at v one)).text ≡ (right s.place ss (step_at w other)).text
      by true w one other k go e f = absurd (cc)
      by false true one other k go e f = absurd (cc)
      by false false one other k go e f =
          same one go e (ap (λ (step : Step). (right s.place ss step).fault) (sym k) ∙ f)
          ∙ ap (λ (step : Step). (right s.place ss step).text) (sym k)

-- transfer of a bilingual text is by what a rule sees of a unit

module _ (rules : Rules) (form : rules.form ≡ Transfer) where
  lone_seen : (thing : Item) → unmatched_text rules thing ≡ seen_text translated rules thing
  lone_seen (item.Plain c) = refl
  lone_seen (item.Blank bytes) = refl
  lone_seen (item.Unit words) =
      ap (λ (f : Form). unit_text f rules.default words) form
      ∙ ap (default_text rules.default (word_of 0 words)) (sym (append-nil (word_of 1 words)))
  lone_seen (item.Chunk c) = refl

  alone_seen : (vars : Held) (rs : List Read) →
      unmatched_step rules vars rs ≡ seen_alone translated rules vars rs
  alone_seen vars [] = refl
  alone_seen vars (r ∷ rs) = ap (lone_step vars) (lone_seen r.item)

  run_seen : (rule : ℕ) (vars : Held) (rs : List Read) →
      rule_step rules rule vars rs ≡ seen_run translated rules rule vars rs
  run_seen rule vars rs =
      ap (λ (f : Form). acted_step (length rs) (blanks_of rs)
      (act_of (plain_rules rules) rule (matched_of f rs) vars)) form

  taken_seen : (vars : Held) (rs : List Read) (c : Option Choice) →
      chosen_step rules vars rs c ≡ seen_taken translated rules vars rs c
  taken_seen vars rs None = alone_seen vars rs
  taken_seen vars rs (Some c) = by (taken_by c.size (parts_of rules rs)) (nat_lt 0 c.size)
    where
      by : (n : ℕ) (v : Bool) →
          (if v then rule_step rules c.rule vars (take n rs) else unmatched_step rules vars rs)
          ≡ (if v then seen_run translated rules c.rule vars (take n rs)
          else seen_alone translated rules vars rs)
      by n true = run_seen c.rule vars (take n rs)
      by n false = alone_seen vars rs

  never_overfull : (rs : List Read) → is_overfull rules.form rs ≡ false
  never_overfull rs = ap (λ (f : Form). is_overfull f rs) form ∙ none rs
    where
      none : (rs : List Read) → is_overfull Transfer rs ≡ false
      none [] = refl
      none (r ∷ rs) = refl

  step_seen : (vars : Held) (rs : List Read) →
      chunk_step rules vars rs ≡ seen_step translated rules vars rs
  unfolding chunk_step seen_step
  step_seen vars rs =
      ap (step_at (nat_lt span_max (bytes_of (take (span rules rs) rs))))
      (ap (λ (v : Bool). if v then Stops limit.UnitTooLong
      else chosen_step rules vars rs (choice rules rs)) (never_overfull rs)
      ∙ taken_seen vars rs (choice rules rs))

  carried_seen : (vars : Held) (skip : ℕ) (rs : List Read) → carried (chunk_step rules) vars skip rs
      ≡ carried (seen_step translated rules) vars skip rs
  unfolding carried
  carried_seen vars skip [] = refl
  carried_seen vars (suc skip) (r ∷ rs) = carried_seen vars skip rs
  carried_seen vars zero (r ∷ rs) =
      ap (λ (step : Step). goes_on r.place step
      (λ n held. carried (chunk_step rules) held n rs)) (step_seen vars (r ∷ rs))
      ∙ on (seen_step translated rules vars (r ∷ rs)) (λ held n. carried_seen held n rs)
    where
      on : (step : Step) → ((held : Held) (n : ℕ) → carried (chunk_step rules) held n rs
          ≡ carried (seen_step translated rules) held n rs) →
          goes_on r.place step (λ n held. carried (chunk_step rules) held n rs)
          ≡ goes_on r.place step (λ n held. carried (seen_step translated rules) held n rs)
      on (Gives n text held) go = ap (behind text) (go held (pred n))
      on (Stops kind) go = refl

-- a text, and then what stops reading
abbrev stopped_by : Reads → Ending → Told → Told
stopped_by read ending told =
    record { text = told.text; fault = or_else told.fault (stop_at ending read.stop) }

pub transfer_sees : TransferSees
transfer_sees rules text ending form =
    ap (stopped_by (reads Bilingual 0 text) ending)
    (carried_seen rules form (start_of rules) 0 (reads Bilingual 0 text).items)

-- the laws

pub last_none : (a : Option RowFault) (n : ℕ) (b : Option StreamFault) → last_fault a n b ≡ None →
    (a ≡ None) × (b ≡ None)
last_none (Some fault) n b h = absurd (cc)
last_none None n (Some fault) h = absurd (cc)
last_none None n None h = (refl, refl)

pub none_last : (a : Option RowFault) (n : ℕ) (b : Option StreamFault) → a ≡ None → b ≡ None →
    last_fault a n b ≡ None
none_last a n b h k = rw (h, k) refl

pub joined_agrees : (lexicon : Lexicon) → GivesReadable lexicon → JoinedAgrees lexicon
joined_agrees lexicon gives rules text form keep e f =
    let one = neither (carried (seen_step (sees_joined lexicon) rules) (start_of rules) 0
    (reads Lexical 0 text).items).fault
    (reads Lexical 0 text).stop e in
    let row = last_none (last_fault None 2 (transferred_text rules
    (bilingual_text lexicon false text Clean).text Clean).fault) 1
    (bilingual_text lexicon false text Clean).fault f in
    let second = last_none None 2 (transferred_text rules
    (bilingual_text lexicon false text Clean).text Clean).fault row.0 in
    let first = neither (each (bilingual_unit lexicon false) (reads Lexical 0 text).items).fault
    (reads Lexical 0 text).stop row.1 in
    let is = transfer_sees rules (bilingual_text lexicon false text Clean).text Clean form in
    let other = neither (carried (seen_step translated rules) (start_of rules) 0
    (reads Bilingual 0 (bilingual_text lexicon false text Clean).text).items).fault
    (reads Bilingual 0 (bilingual_text lexicon false text Clean).text).stop
    (ap (λ (t : Told). t.fault) (sym is) ∙ second.1) in
    let back = lookup_back lexicon gives 0 0 text one.1 first.0 in
    let same = same_things lexicon (reads Lexical 0 text).items
    (reads Bilingual 0 (bilingual_text lexicon false text Clean).text).items back.items in
    agree lexicon rules keep (start_of rules) 0 (reads Lexical 0 text).items
    (reads Bilingual 0 (bilingual_text lexicon false text Clean).text).items same one.0 other.0
    ∙ ap (λ (t : Told). t.text) (sym is)
