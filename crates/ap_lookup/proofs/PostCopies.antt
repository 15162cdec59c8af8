-- What post-generation copies where it holds nothing.
use Rattle.std.specs.Prelude.{◌≡◌, ℕ, Bool, true, false, not, ◌&&◌, ◌||◌, eqb, List, [], ◌∷◌, ◌++◌, length, refl}
use Rattle.std.proofs.Common.{arith, ap}
use Rattle.std.proofs.lemmas.List.{append-nil}
use Rattle.ap_stream.specs.Blanks.{is_white}
use Rattle.ap_stream.specs.Copying.{is_copied}
use Rattle.ap_stream.specs.Stands.{stops_word}
use Rattle.ap_stream.specs.Spelling.{spelled}
use Rattle.ap_stream.specs.Steps.{steps}
use Rattle.ap_stream.specs.Told.{behind}
use Rattle.ap_stream.specs.declared.item.Item.{Item}
use Rattle.ap_stream.specs.declared.item.Item.TheVariants.{Plain, Blank, Unit, Chunk}
use Rattle.ap_stream.specs.declared.item.Read.{Read}
use Rattle.ap_live.specs.Lexicon.{Lexicon}
use Rattle.ap_lookup.specs.PostGenerating.{is_alarm_item, post_step}
use Rattle.ap_lookup.specs.PostWorks.{post_generated}

no_alarm_by : (s a w e : Bool) → (not e && not (s || (a || w))) ≡ true → (not e && a) ≡ false
no_alarm_by true a w true h = absurd (cc)
no_alarm_by true a w false h = absurd (cc)
no_alarm_by false true w true h = absurd (cc)
no_alarm_by false true w false h = absurd (cc)
no_alarm_by false false w true h = absurd (cc)
no_alarm_by false false w false h = refl

no_alarm : (thing : Item) → is_copied thing ≡ true → is_alarm_item thing ≡ false
no_alarm (Plain c) h =
    no_alarm_by (stops_word c.letter) (eqb c.letter 126) (is_white c.letter) c.escaped h
no_alarm (Blank bytes) h = refl
no_alarm (Unit words) h = absurd (cc)
no_alarm (Chunk c) h = absurd (cc)

copied_first : (lexicon : Lexicon) (sensitive : Bool) (read : Read) (xs : List Read) →
    is_copied read.item ≡ true → post_generated lexicon sensitive (read ∷ xs)
    ≡ behind (spelled read.item) (post_generated lexicon sensitive xs)
unfolding steps post_step
copied_first lexicon sensitive read xs h =
    rw (no_alarm read.item h)
    (ap (λ (q : List ℕ). behind q (steps (post_step lexicon sensitive) 0 xs))
    (append-nil (spelled read.item)))

pub post_copies : (lexicon : Lexicon) (sensitive : Bool) (held : List Read) (read : Read)
    (xs : List Read) → length held ≡ 0 → is_copied read.item ≡ true →
    post_generated lexicon sensitive (held ++ (read ∷ xs))
    ≡ behind (spelled read.item) (post_generated lexicon sensitive (held ++ xs))
post_copies lexicon sensitive [] read xs none copied = copied_first lexicon sensitive read xs copied
post_copies lexicon sensitive (first ∷ held) read xs none copied = absurd (omega (arith, none))
