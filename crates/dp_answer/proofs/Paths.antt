-- What follows of the lawful path of a call that was answered.
use Rattle.std.proofs.Common.{◌≡◌, ℕ, ◌+◌, ◌-◌, ◌≤◌, Bool, true, false, if◌then◌else◌, nat_le, List, [], ◌∷◌, ◌++◌, length, take, drop, append_assoc, Result, Ok, Err, sym, ap, ◌∙◌, arith}
use Rattle.std.proofs.lemmas.List.{length-append}
use Rattle.dp_base.specs.Guid.{drawn_id}
use Rattle.dp_base.specs.declared.key_id.KeyId.{KeyId}
use Rattle.key_elements.specs.declared.element.Element.{Element}
use Rattle.key_elements.specs.declared.element.Element.TheVariants.{Key}
use Rattle.key_elements.specs.declared.element.KeyRecord.{KeyRecord}
use Rattle.key_ring.specs.Ring.{RingOf}
use Rattle.repo_keeper.specs.Made.{key_of_draw}
use Rattle.ring_world.specs.Course.{Course}
use Rattle.ring_world.specs.Flight.{Refusal}
use Rattle.ring_world.specs.Path.{Call}
use Rattle.ring_world.specs.Way.{CallPath, complete, cut_off, way_end, answered, own_after}
use Rattle.ring_world.specs.Placing as placing
use Rattle.ring_world.specs.Placing.{Asked, Placing, Placed, Undrawn, Unplaced, Overfull, Receded, PlacePath, place_of, place_end, place_course}
use Rattle.node_calls.specs.Places.{EndsWithKey}
use Rattle.node_calls.proofs.Placings.{grown-some}

enough : (b : Bool) (y r : RingOf) (why : Refusal) → (if b then Ok y else Err why) ≡ Ok r → y ≡ r
enough true y r why e = cc
enough false y r why e = cc

own_of : (need : ℕ) (own : List Element) (x : Result RingOf Refusal) (r : RingOf) → answered need x ≡ Ok r → own_after own x ≡ r.list
own_of need own (Ok y) r e = ap (λ (z : RingOf). z.list) (enough (nat_le need (length y.list)) y r _ e)
own_of need own (Err why) r e = cc

-- the pass has then seen the list of the ring that answers
pub own_by_ring : (c : Call) (r : RingOf) (own : List Element) (d : Course) → CallPath c (Ok r) own d → own ≡ r.list
own_by_ring c r own d (complete w is line e o s) = o ∙ own_of c.need c.own (way_end c w) r e
own_by_ring c r own d (cut_off p is line e o s) = cc

-- the element that was placed stands last in the list that the pass has then seen
pub record IsPlacedLast (a : Asked) (place : ℕ) (own : List Element) (d : Course) : Type 0 where
  pub front : List Element
  pub last : own ≡ front ++ a.element d.drawn ∷ []
  pub count : place + 1 ≡ length own
  -- behind all that was seen before
  pub behind : length a.own ≤ place

one_less : (n m : ℕ) → 1 ≤ n → n - 1 ≡ m → m + 1 ≡ n
one_less n m some e = omega arith

-- (a helper over the placing, so that its equations compute)
placed_at : (a : Asked) (p : Placing) (place : ℕ) (own : List Element) (d : Course) → placing.IsPlacing a p → place_of (place_end a p) ≡ Ok place → own ≡ placing.own_placed a.own (place_end a p) → d.drawn ≡ (place_course a p).drawn → IsPlacedLast a place own d
placed_at a (Placed b fs) place own d is e o s =
    let g = is.1 in
    let n : length fs - 1 ≡ place = cc in
    record {
      front = a.own ++ g.0;
      last = o ∙ g.1 ∙ sym (append_assoc a.own g.0 (a.element b ∷ [])) ∙ ap (λ (bytes : List ℕ). (a.own ++ g.0) ++ a.element bytes ∷ []) (sym s);
      count = one_less (length fs) place (grown-some a.own fs (a.element b) g) n ∙ ap length (sym o);
      behind = omega (arith, n, ap length g.1, length-append a.own (g.0 ++ a.element b ∷ []), length-append g.0 (a.element b ∷ []));
    }
placed_at a Undrawn place own d is e o s = cc
placed_at a (Unplaced b) place own d is e o s = cc
placed_at a (Overfull b) place own d is e o s = cc
placed_at a (Receded b got) place own d is e o s = cc

pub placed_last : (a : Asked) (place : ℕ) (own : List Element) (d : Course) → PlacePath a (Ok place) own d → IsPlacedLast a place own d
placed_last a place own d (placing.complete p is e o s) = placed_at a p place own d is e o (ap (λ (c : Course). c.drawn) s)
placed_last a place own d (placing.cut_off p is e o s) = cc

same_last : (xs ys : List Element) (x y : Element) → xs ++ x ∷ [] ≡ ys ++ y ∷ [] → x ≡ y
same_last [] [] x y e = cc
same_last [] (z ∷ ys) x y e = absurd (omega (arith, ap length e, length-append ys (y ∷ [])))
same_last (z ∷ xs) [] x y e = absurd (omega (arith, ap length e, length-append xs (x ∷ [])))
same_last (w ∷ xs) (z ∷ ys) x y e = let tails : xs ++ x ∷ [] ≡ ys ++ y ∷ [] = cc in same_last xs ys x y tails

-- the id of the key that stands last is that of the bytes that it was drawn from
pub drawn_key_id : (id : KeyId) (es front : List Element) (bytes : List ℕ) (creation activation expiration code : ℕ) → EndsWithKey id es → es ≡ front ++ key_of_draw bytes creation activation expiration code ∷ [] → id ≡ record { 0 = drawn_id (take 16 bytes) }
unfolding key_of_draw
drawn_key_id id es front bytes creation activation expiration code ends e =
    let last = same_last ends.0 front (Key ends.1) (key_of_draw bytes creation activation expiration code) (sym ends.2 ∙ e) in
    let key : ends.1 ≡ record {
      id = record { 0 = drawn_id (take 16 bytes) };
      creation = creation;
      activation = activation;
      expiration = expiration;
      alg = code;
      material = drop 16 bytes;
    } = cc in
    ends.3 ∙ ap (λ (k : KeyRecord). k.id) key
