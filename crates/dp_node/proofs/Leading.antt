-- What the calls of a pass make of the floor and of the setter in its hand.
use Rattle.std.proofs.Common.{◌≡◌, List, ◌∷◌, ◌++◌, All, drop, refl, sym, ap, ◌∙◌, subst, Option, Some, None, IfSome, option_map, rules}
use Rattle.key_elements.specs.Lists.{Extends}
use Rattle.key_ring.specs.Ring.{RingOf, ExtendsRing}
use Rattle.swap_cell.specs.declared.handles.Setter.{Setter}
use Rattle.swap_cell.specs.declared.handles.Told.{Told}
use Rattle.swap_cell.specs.declared.handles.Viewer.{Viewer}
use Rattle.swap_cell.specs.Rule.{Each, InLine}
use Rattle.swap_cell.specs.Cells.{setter_cell, viewer_cell, last_set, set_before, known, told_values, HasLooked, HasLearnt, HasSet, StaysSet}
use Rattle.dp_node.specs.Floor.{longest, floor_of, IsLedBy}
use Rattle.node_calls.proofs.Books.{IsFrontOf-trans, IsFrontOf-refl}
use Rattle.dp_node.proofs.Floors.{looked_floor, extends_longest, learnt_floor, published_floor, each_all, all_each, each_map}

some_one : {A : Type 0} (a b : A) → Some a ≡ Some b → a ≡ b
some_one a b e = search rules

-- a fact of the setter in hand is one of each that the hand has
pub in_hand : (v : Viewer RingOf) (s : Setter RingOf) → IsLedBy v s → (t : Setter RingOf) → Some s ≡ Some t → IsLedBy v t
in_hand v s l t e = subst (IsLedBy v) (some_one s t e) l

-- the floor rose
pub led_up : (v w : Viewer RingOf) (s : Setter RingOf) → viewer_cell w ≡ viewer_cell v → Extends (floor_of w) (floor_of v) → IsLedBy v s → IsLedBy w s
led_up v w s cell up l = record {
  cell = l.cell ∙ sym cell;
  last = IsFrontOf-trans (last_set s).list (floor_of v) (floor_of w) l.last up;
  all = λ i d h. IsFrontOf-trans _ (floor_of v) (floor_of w) (l.all i d h) up;
}

-- a look that gave nothing
pub up_same : (v w : Viewer RingOf) → known w ≡ known v → Extends (floor_of w) (floor_of v)
up_same v w k = subst (λ l. Extends l (floor_of v)) (sym (ap longest k)) (IsFrontOf-refl (floor_of v))

-- a look: its list is the floor, and extends the old one
module _ (v w : Viewer RingOf) (x : RingOf) (h : HasLooked ExtendsRing v w x) where
  pub extends_look : Extends x.list (floor_of v)
  extends_look = extends_longest x.list (known v) h.0

  pub floor_look : floor_of w ≡ x.list
  floor_look = ap longest h.1 ∙ looked_floor x (known v) h.0

  pub up_look : Extends (floor_of w) (floor_of v)
  up_look = subst (λ l. Extends l (floor_of v)) (sym floor_look) extends_look

  pub line_look : Extends (floor_of w) x.list
  line_look = subst (λ l. Extends l x.list) (sym floor_look) (IsFrontOf-refl x.list)

-- what was told was learnt
module _ (v w : Viewer RingOf) (t : Told RingOf) (h : HasLearnt t v w) where
  learnt : InLine ExtendsRing (known w) → Each (λ r. Extends (floor_of w) r.list) (told_values t) × Extends (floor_of w) (floor_of v)
  learnt line = subst (λ ks. Each (λ r. Extends (longest ks) r.list) (told_values t) × Extends (longest ks) (floor_of v)) (sym h)
      (learnt_floor (told_values t) (known v) (subst (InLine ExtendsRing) h line))

  pub up_learn : InLine ExtendsRing (known w) → Extends (floor_of w) (floor_of v)
  up_learn line = (learnt line).1

  -- by a setter that was taken, s' after its telling
  pub led_take : (s s' : Setter RingOf) → InLine ExtendsRing (known w) → setter_cell s ≡ viewer_cell v → viewer_cell w ≡ viewer_cell v → setter_cell s' ≡ setter_cell s
      → told_values t ≡ set_before s → set_before s ≡ last_set s ∷ drop 1 (set_before s) → StaysSet s s' → IsLedBy w s'
  led_take s s' line cell cell' here told last same =
      let P : RingOf → Type 0 = λ r. Extends (floor_of w) r.list in
      let all : Each P (set_before s) = subst (Each P) told (learnt line).0 in
      let heads : Each P (last_set s ∷ drop 1 (set_before s)) = subst (Each P) last all in record {
        cell = here ∙ cell ∙ sym cell';
        last = subst P (sym same.0) heads.0;
        all = subst (All P) (sym same.1) (each_all P (set_before s) all);
      }

  -- by the setter s that set the ring, s1 then and s2 after its telling
  module _ (s s1 s2 : Setter RingOf) (ring : RingOf) (l : IsLedBy v s) (up : Extends ring.list (floor_of v)) (set : HasSet s s1 ring) (told : told_values t ≡ set_before s1) where
    pub floor_publish : floor_of w ≡ ring.list
    floor_publish = ap longest (h ∙ ap (λ (xs : List RingOf). xs ++ known v) (told ∙ set.1)) ∙ published_floor ring (set_before s) (known v) up (all_each (λ r. Extends (floor_of v) r.list) (set_before s) l.all)

    pub line_publish : Extends (floor_of w) ring.list
    line_publish = subst (λ xs. Extends xs ring.list) (sym floor_publish) (IsFrontOf-refl ring.list)

    pub led_publish : viewer_cell w ≡ viewer_cell v → setter_cell s1 ≡ setter_cell s → setter_cell s2 ≡ setter_cell s1 → StaysSet s1 s2 → IsLedBy w s2
    led_publish cell here here' same =
        let P : RingOf → Type 0 = λ r. Extends (floor_of w) r.list in
        let old : Each P (set_before s) = subst (λ xs. Each (λ r. Extends xs r.list) (set_before s)) (sym floor_publish)
        (each_map (λ r. Extends (floor_of v) r.list) (λ r. Extends ring.list r.list) (set_before s) (λ r e. IsFrontOf-trans r.list (floor_of v) ring.list e up) (all_each (λ r. Extends (floor_of v) r.list) (set_before s) l.all)) in record {
          cell = here' ∙ here ∙ l.cell ∙ sym cell;
          last = subst P (sym (same.0 ∙ set.0)) line_publish;
          all = each_all P (set_before s2) (subst (Each P) (sym (same.1 ∙ set.1)) (line_publish, old));
        }

-- a publication that was refused: the setter set nothing
pub led_still : (v : Viewer RingOf) (s s' : Setter RingOf) → setter_cell s' ≡ setter_cell s → StaysSet s s' → IsLedBy v s → IsLedBy v s'
led_still v s s' here same l = record {
  cell = here ∙ l.cell;
  last = subst (λ (r : RingOf). Extends (floor_of v) r.list) (sym same.0) l.last;
  all = subst (All (λ r. Extends (floor_of v) r.list)) (sym same.1) l.all;
}

pub leads_node : (v : Viewer RingOf) (o : Option (Setter RingOf)) → ((s : Setter RingOf) → o ≡ Some s → IsLedBy v s) → IfSome (option_map last_set o) (λ r. Extends (floor_of v) r.list)
leads_node v None h = tt
leads_node v (Some s) h = (h s refl).last
