-- Words made of words of the program are such words.
use Rattle.std.proofs.Common.{ℕ, zero, suc, List, [], ◌∷◌, ◌++◌, map, take, drop, refl, inl, arith, subst, sym, Ok, Err}
use Rattle.std.proofs.lemmas.Bool.{and_parts, and_from}
use Rattle.std.proofs.lemmas.List.Concat.{flat_map-cons}
use Rattle.std.specs.List.{list_all, flat_map}
use Rattle.std.specs.Prelude.{slice_get, slice_set}
use Rattle.ap_symbol.proofs.Coded.{stays_coded}
use Rattle.ap_symbol.proofs.RecasedWords.{stays_proper}
use Rattle.ap_symbol.specs.Coded.{AreCoded}
use Rattle.ap_symbol.specs.Recasing.{recase_lem}
use Rattle.ap_symbol.specs.Words.{is_proper, AreProper}
use Rattle.ap_symbol.specs.declared.recasing.Case.{Case}
use Rattle.ap_symbol.specs.declared.recasing.Case.TheVariants.{Low, First, All}
use Rattle.ap_symbol.specs.declared.symbol.Symbol.{Symbol}
use Rattle.ap_symbol.specs.declared.symbol.Symbol.TheVariants.{Blank}
use Rattle.ap_rules.specs.Soundness.{Opt, Each}
use Rattle.ap_rules.specs.Worded.{IsWorded}
use Rattle.ap_exec.specs.Pieces.{filled, behind_join, joined, compound}
use Rattle.ap_exec.specs.Results.{Ran, ◌>>=◌}
use Rattle.ap_exec.specs.Values.{case_word}
use Rattle.ap_exec.proofs.Proper.{proper_take, proper_drop}

-- lists

pub each_map : {A B : Type 0} (P : A → Type 0) (Q : B → Type 0) (f : A → B) →
    ((x : A) → P x → Q (f x)) → (xs : List A) → Each P xs → Each Q (map f xs)
each_map P Q f on [] h = tt
each_map P Q f on (x ∷ xs) h = (on x h.0, each_map P Q f on xs h.1)

pub each_get : {A : Type 0} (P : A → Type 0) (xs : List A) (n : ℕ) → Each P xs →
    Opt P (slice_get xs n)
each_get P [] n h = tt
each_get P (x ∷ xs) zero h = h.0
each_get P (x ∷ xs) (suc n) h = each_get P xs n h.1

pub each_set : {A : Type 0} (P : A → Type 0) (xs : List A) (n : ℕ) (x : A) → Each P xs → P x →
    Each P (slice_set xs n x)
each_set P [] n y h k = tt
each_set P (x ∷ xs) zero y h k = (k, h.1)
each_set P (x ∷ xs) (suc n) y h k = (h.0, each_set P xs n y h.1 k)

pub each_append : {A : Type 0} (P : A → Type 0) (xs ys : List A) → Each P xs → Each P ys →
    Each P (xs ++ ys)
each_append P [] ys h k = k
each_append P (x ∷ xs) ys h k = (h.0, each_append P xs ys h.1 k)

-- where a run gives something, this holds of it
abbrev pub Then : {A : Type 0} → (A → Type 0) → Ran A → Type 0
Then P (Ok x) = P x
Then P (Err e) = Unit {0}

pub then_next : {A B : Type 0} (P : A → Type 0) (Q : B → Type 0) (r : Ran A) (f : A → Ran B) →
    Then P r → ((x : A) → P x → Then Q (f x)) → Then Q (r >>= f)
then_next P Q (Ok x) f h on = on x h
then_next P Q (Err e) f h on = tt

pub then_any : {A B : Type 0} (Q : B → Type 0) (r : Ran A) (f : A → Ran B) →
    ((x : A) → Then Q (f x)) → Then Q (r >>= f)
then_any Q (Ok x) f on = on x
then_any Q (Err e) f on = tt

-- words

proper_append : (a b : List Symbol) → AreProper a → AreProper b → AreProper (a ++ b)
proper_append [] b h k = k
proper_append (s ∷ a) b h k =
    let both = and_parts (is_proper s) (list_all is_proper a) h in
    and_from (is_proper s) (list_all is_proper (a ++ b)) both.0 (proper_append a b both.1 k)

coded_append : (a b : List Symbol) → AreCoded a → AreCoded b → AreCoded (a ++ b)
coded_append [] b h k = k
coded_append (s ∷ a) b h k = (h.0, coded_append a b h.1 k)

coded_take : (n : ℕ) (word : List Symbol) → AreCoded word → AreCoded (take n word)
coded_take zero word h = tt
coded_take (suc n) [] h = tt
coded_take (suc n) (s ∷ word) h = (h.0, coded_take n word h.1)

coded_drop : (n : ℕ) (word : List Symbol) → AreCoded word → AreCoded (drop n word)
coded_drop zero word h = h
coded_drop (suc n) [] h = tt
coded_drop (suc n) (s ∷ word) h = coded_drop n word h.1

pub none_worded : IsWorded []
none_worded = (refl, tt)

pub append_worded : (a b : List Symbol) → IsWorded a → IsWorded b → IsWorded (a ++ b)
append_worded a b h k = (proper_append a b h.0 k.0, coded_append a b h.1 k.1)

pub take_worded : (n : ℕ) (word : List Symbol) → IsWorded word → IsWorded (take n word)
take_worded n word h = (proper_take n word h.0, coded_take n word h.1)

pub drop_worded : (n : ℕ) (word : List Symbol) → IsWorded word → IsWorded (drop n word)
drop_worded n word h = (proper_drop n word h.0, coded_drop n word h.1)

pub recased_worded : (case : Case) (word : List Symbol) → IsWorded word →
    IsWorded (recase_lem case word)
recased_worded case word h = ((stays_proper case word h.0).1, (stays_coded case word h.1).1)

pub blank_worded : IsWorded (Blank ∷ [])
blank_worded = (refl, (tt, tt))

pub case_worded : (case : Case) → IsWorded (case_word case)
case_worded Low = (refl, (inl (omega arith), (inl (omega arith), tt)))
case_worded First = (refl, (inl (omega arith), (inl (omega arith), tt)))
case_worded All = (refl, (inl (omega arith), (inl (omega arith), tt)))

behind_join_worded : (word : List Symbol) → IsWorded word → IsWorded (behind_join word)
behind_join_worded word h = (h.0, (tt, h.1))

all_joined_worded : (words : List (List Symbol)) → Each IsWorded words →
    IsWorded (flat_map behind_join words)
all_joined_worded [] h = none_worded
all_joined_worded (word ∷ words) h =
    subst IsWorded (sym (flat_map-cons behind_join word words))
    (append_worded (behind_join word) (flat_map behind_join words) (behind_join_worded word h.0)
    (all_joined_worded words h.1))

joined_worded : (words : List (List Symbol)) → Each IsWorded words → IsWorded (joined words)
joined_worded [] h = none_worded
joined_worded (word ∷ words) h =
    append_worded word (flat_map behind_join words) h.0 (all_joined_worded words h.1)

filled_worded : (words : List (List Symbol)) → Each IsWorded words → Each IsWorded (filled words)
filled_worded [] h = tt
filled_worded ([] ∷ words) h = filled_worded words h.1
filled_worded ((s ∷ word) ∷ words) h = (h.0, filled_worded words h.1)

pub compound_worded : (words : List (List Symbol)) → Each IsWorded words →
    IsWorded (compound words)
compound_worded words h = joined_worded (filled words) (filled_worded words h)
