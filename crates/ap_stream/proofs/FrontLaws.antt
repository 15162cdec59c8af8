-- Steps that are known by bytes, one after another.
use Rattle.std.specs.Prelude.{None, min, ◌≡◌, ◌∷◌, Bool, nat_eq, ℕ, ◌+◌, ◌-◌, ◌≤◌, List, [], ◌++◌, take, drop, length, refl}
use Rattle.std.proofs.Common.{arith, ap, sym, subst, ◌∙◌, append_assoc, length-append, length-drop}
use Rattle.std.proofs.lemmas.List.{length-take, take-take, length-take-le, drop-append-le, drop-drop, drop-take}
use Rattle.std.proofs.Math.Seq.{take-add, take-append-add}
use Rattle.ap_stream.specs.declared.dialect.Dialect.{Dialect}
use Rattle.ap_stream.specs.declared.item.Read.{Read}
use Rattle.ap_stream.specs.declared.examine.Mode.TheVariants as mode
use Rattle.ap_stream.specs.declared.level.Level.TheVariants as level
use Rattle.ap_stream.specs.Given.{Standing}
use Rattle.ap_stream.proofs.GivenLaws.{stands_new, stands_byte}
use Rattle.ap_stream.specs.Fronts.{GivesFront, GaveFront}
use Rattle.ap_stream.specs.Reading.{reads, counted}
use Rattle.ap_stream.specs.Rest.{rest_of, worked}
use Rattle.ap_stream.specs.Seat.{Seat}
use Rattle.ap_stream.specs.Told.{Told, Ending, behind}
use Rattle.ap_stream.proofs.Copied.{counted_twice, counted_is}

-- none or one byte is held, and hasn't been looked at
pub stands_behind : (dialect : Dialect) (held : List ℕ) (looked : Bool) → length held ≤ 1 →
    looked ≡ nat_eq (length held) 0 → Standing dialect looked (level.Item mode.Start) 0 held
stands_behind dialect [] looked short e =
    subst (λ t. Standing dialect t (level.Item mode.Start) 0 []) (sym e)
    (stands_new dialect [] refl)
stands_behind dialect (b ∷ []) looked short e = stands_byte dialect (b ∷ []) b looked refl e
stands_behind dialect (b ∷ c ∷ held) looked short e = absurd (omega (arith, short))

module _ {H : Type 0} (work : H → List Read → Told) (dialect : Dialect) (h : H) where
  -- nothing gives nothing
  pub none_given : GivesFront work dialect h [] 0 []
  none_given = record {
    gives = λ place counts x e.
        let far : counted (place + 0) ≡ place = ap counted (omega arith) ∙ counts in
        ap (λ (q : ℕ). worked (work h) (reads dialect q x) e) (sym far);
  }

  -- more was seen
  pub seen_more : (piece : List ℕ) (used seen more : ℕ) (given : List ℕ) → used ≤ seen →
      seen ≤ more → seen ≤ length piece → GivesFront work dialect h (take seen piece) used given →
      GivesFront work dialect h (take more piece) used given
  seen_more piece used seen more given within wider most g =
      let back : List ℕ = take (more - seen) (drop seen piece) in
      let n : seen + (more - seen) ≡ more = omega (arith, wider) in
      let whole : take more piece ≡ take seen piece ++ back =
      ap (λ m. take m piece) (sym n) ∙ take-add seen (more - seen) piece in
      let size : length (take seen piece) ≡ seen = length-take-le seen piece most in
      let left : drop used (take more piece) ≡ drop used (take seen piece) ++ back =
      ap (drop used) whole
      ∙ drop-append-le used (take seen piece) back (omega (arith, size, within)) in
      record {
        gives = λ place counts x e.
            let first : take more piece ++ x ≡ take seen piece ++ (back ++ x) =
            ap (λ (q : List ℕ). q ++ x) whole ∙ append_assoc (take seen piece) back x in
            let last : drop used (take more piece) ++ x
            ≡ drop used (take seen piece) ++ (back ++ x) =
            ap (λ (q : List ℕ). q ++ x) left
            ∙ append_assoc (drop used (take seen piece)) back x in
            ap (λ (q : List ℕ). worked (work h) (reads dialect place q) e) first
            ∙ g.gives place counts (back ++ x) e
            ∙ ap (λ (q : List ℕ). behind given
            (worked (work h) (reads dialect (counted (place + used)) q) e)) (sym last);
      }

  -- a step, and then another
  pub then_given : (piece : List ℕ) (used seen more count all : ℕ) (given next : List ℕ) →
      used ≤ seen → seen ≤ length piece → count ≤ more → used + more ≤ length piece →
      seen ≤ all → used + more ≤ all → GivesFront work dialect h (take seen piece) used given →
      GivesFront work dialect h (take more (drop used piece)) count next →
      GivesFront work dialect h (take all piece) (used + count) (given ++ next)
  then_given piece used seen more count all given next within most counted_in fits wide far g k =
      let rest : length (drop used piece) ≡ length piece - used = length-drop used piece in
      let one = seen_more piece used seen all given within wide most g in
      let two = seen_more (drop used piece) count more (all - used) next counted_in
      (omega (arith, far)) (omega (arith, rest, fits)) k in
      let n : used + (all - used) ≡ all = omega (arith, far) in
      let left : drop used (take all piece) ≡ take (all - used) (drop used piece) =
      ap (λ m. drop used (take m piece)) (sym n) ∙ drop-take used (all - used) piece in
      record {
        gives = λ place counts x e.
            let mid : drop count (take (all - used) (drop used piece))
            ≡ drop (used + count) (take all piece) =
            ap (drop count) (sym left) ∙ drop-drop count used (take all piece) in
            one.gives place counts x e
            ∙ ap (λ (q : List ℕ). behind given
            (worked (work h) (reads dialect (counted (place + used)) (q ++ x)) e)) left
            ∙ ap (behind given)
            (two.gives (counted (place + used)) (counted_is (place + used)) x e)
            ∙ ap (λ (q : List ℕ). behind given (behind next (worked (work h) (reads dialect
            (counted (counted (place + used) + count)) (q ++ x)) e))) mid
            ∙ ap (λ (p : ℕ). behind given (behind next (worked (work h)
            (reads dialect p (drop (used + count) (take all piece) ++ x)) e)))
            (counted_twice place used count)
            ∙ ap (λ (q : List ℕ). record {
              text = q;
              fault = (worked (work h) (reads dialect (counted (place + (used + count)))
                  (drop (used + count) (take all piece) ++ x)) e).fault;
            }) (sym (append_assoc given next (worked (work h)
            (reads dialect (counted (place + (used + count)))
            (drop (used + count) (take all piece) ++ x)) e).text));
      }

  pub next_given : (piece : List ℕ) (used seen count more all : ℕ) (given after : List ℕ) →
      used ≤ seen → seen ≤ length piece → seen ≤ all → used + more ≤ all →
      GivesFront work dialect h (take seen piece) used given →
      GaveFront work dialect h (drop used piece) count more given after →
      GivesFront work dialect h (take all piece) (used + count) after
  next_given piece used seen count more all given after within most wide far g k =
      let rest : length (drop used piece) ≡ length piece - used = length-drop used piece in
      let m = k.most in
      rw k.is (then_given piece used seen more count all given k.given within most k.within
      (omega (arith, rest, m, within, most)) wide far g k.gives)

  pub next_gave : (piece : List ℕ) (used seen count more all : ℕ) (given after : List ℕ) →
      used ≤ seen → seen ≤ length piece → seen ≤ all → used + more ≤ all → all ≤ length piece →
      GivesFront work dialect h (take seen piece) used given →
      GaveFront work dialect h (drop used piece) count more given after →
      GaveFront work dialect h piece (used + count) all [] after
  next_gave piece used seen count more all given after within most wide far fits g k =
      let some = k.some in
      let inside = k.within in
      record {
        some = omega (arith, some);
        within = omega (arith, inside, far);
        most = fits;
        given = after;
        is = refl;
        gives = next_given piece used seen count more all given after within most wide far g k;
      }

  -- what was put into empty room is appended
  pub after_room : (piece : List ℕ) (used seen : ℕ) (room before after : List ℕ) →
      GaveFront work dialect h piece used seen [] room → after ≡ before ++ room →
      GaveFront work dialect h piece used seen before after
  after_room piece used seen room before after k is = record {
    some = k.some;
    within = k.within;
    most = k.most;
    given = k.given;
    is = is ∙ ap (λ (q : List ℕ). before ++ q) k.is;
    gives = k.gives;
  }

-- a stage that goes on by steps that are known by bytes
module _ {H : Type 0} (work : H → List Read → Told) (now new : Seat H) (piece text given : List ℕ)
    (most used seen : ℕ) (is : text ≡ now.begun ++ take most piece)
    (over : length now.begun ≤ seen) (within : used ≤ seen) (fits : seen ≤ length text)
    (g : GivesFront work now.dialect now.handler (take seen text) used given) where
  seen_text : take seen text ≡ now.begun ++ take (seen - length now.begun) piece
  seen_text =
      let more : ℕ = seen - length now.begun in
      let all : length text ≡ length now.begun + length (take most piece) =
      ap length is ∙ length-append now.begun (take most piece) in
      let cut : length (take most piece) ≡ min most (length piece) = length-take most piece in
      let n : length now.begun + more ≡ seen = omega (arith, over) in
      ap (take seen) is
      ∙ ap (λ m. take m (now.begun ++ take most piece)) (sym n)
      ∙ take-append-add now.begun (take most piece) more
      ∙ ap (λ (q : List ℕ). now.begun ++ q)
      (take-take more most piece (omega (arith, all, cut, fits, over)))

  pub rest_front : now.fault ≡ None → now.pending ≡ [] → counted now.place ≡ now.place →
      new.fault ≡ None → new.dialect ≡ now.dialect → new.handler ≡ now.handler →
      new.pending ≡ given → new.begun ≡ take (seen - used) (drop used text) →
      new.place ≡ counted (now.place + used) → (x : List ℕ) (e : Ending) →
      rest_of work now (take (seen - length now.begun) piece ++ x) e ≡ rest_of work new x e
  rest_front fault empty counts fault' dialect handler pending begun place x e =
      let whole : now.begun ++ (take (seen - length now.begun) piece ++ x)
      ≡ take seen text ++ x =
      sym (append_assoc now.begun (take (seen - length now.begun) piece) x)
      ∙ ap (λ (q : List ℕ). q ++ x) (sym seen_text) in
      let n : used + (seen - used) ≡ seen = omega (arith, within) in
      let left : new.begun ≡ drop used (take seen text) =
      begun ∙ sym (drop-take used (seen - used) text) ∙ ap (λ m. drop used (take m text)) n in
      rw (fault, empty, fault', dialect, handler, pending, left, place, whole)
      (g.gives now.place counts x e)
