-- The acts of a host, recorded.
use Rattle.std.proofs.Common.{◌≡◌, ℕ, ◌<◌, List, [], ◌∷◌, ◌++◌, length, refl, sym, ap, ◌∙◌, Option, Some, None, subst, append_assoc, arith, inl, inr, Err, IfSome}
use Rattle.std.proofs.lemmas.List.{append-nil}
use Rattle.dp_base.specs.Draws.{DrawState}
use Rattle.key_elements.specs.declared.element.Element.{Element}
use Rattle.node_calls.proofs.Books.{IsFrontOf}
use Rattle.key_ring.specs.Ring.{RingOf}
use Rattle.repo_keeper.specs.Store.{Store}
use Rattle.ring_world.specs.declared.step.Step.{Step}
use Rattle.ring_world.specs.declared.step.Step.TheVariants.{Want, Take, Busy, Give, Publish, RaiseWant, Answer}
use Rattle.ring_world.specs.Course.{Course, idle, stepped, looking, joined}
use Rattle.ring_world.specs.Flight.{Sight, sight_steps, look_step, publish_step, extend_step, publishing}
use Rattle.ring_world.specs.Path.{Call, sight_course, TurnGives, PathGives}
use Rattle.ring_world.specs.Settle.{SecondGives}
use Rattle.node_calls.specs.declared.error.NodeError.{NodeError}
use Rattle.node_calls.specs.declared.error.NodeError.TheVariants as errors
use Rattle.node_calls.specs.HostState.{HostState, latest, acted, looked_at, published, gave, taken, raised}
use Rattle.node_calls.specs.Sight.{sighted, SeenBy, LookRefused}
use Rattle.node_calls.specs.Books.{Books, books, Recorded, Does}
use Rattle.node_calls.specs.Gather.{refusal}
use Rattle.node_calls.proofs.Books.{latest-latest, recorded-joined, acted_by, shown-idle, turn-idle, IsFrontOf-refl, exactly, Course-eq}
use Rattle.node_calls.proofs.Courses.{turn_none, path_none, turn_apart, turn_apart_lost, path_apart, path_apart_lost}
use Rattle.node_calls.proofs.Settles.{second_none, second_apart, second_apart_lost}

module _ (steps steps' : List Step) (h h' : HostState) (st : Store) (w : DrawState) where
  -- what holds of the state that the equation names holds of the state
  moved_to : (d : Course) (g : HostState) → h' ≡ g → Recorded d (books steps h st w) (books steps' g st w) → Recorded d (books steps h st w) (books steps' h' st w)
  moved_to d g e r = subst (λ x. Recorded d (books steps h st w) (books steps' x st w)) (sym e) r

  pub did_want : (n : ℕ) → steps' ≡ steps ++ Want n ∷ [] → h' ≡ acted (Want n) h → Recorded (stepped (Want n ∷ [])) (books steps h st w) (books steps' h' st w)
  did_want n p e = moved_to _ _ e (acted_by (Want n) [] None steps steps' h (acted (Want n) h) st w refl refl refl refl p (latest-latest _) refl refl refl (IsFrontOf-refl h.looked.list) (IsFrontOf-refl h.floor) refl (shown-idle h.single) refl tt)

  pub did_busy : (n : ℕ) → 0 < n → steps' ≡ steps ++ Busy n ∷ [] → h' ≡ acted (Busy n) h → Recorded (stepped (Busy n ∷ [])) (books steps h st w) (books steps' h' st w)
  did_busy n v p e = moved_to _ _ e (acted_by (Busy n) [] None steps steps' h (acted (Busy n) h) st w refl refl refl refl p (latest-latest _) refl refl refl (IsFrontOf-refl h.looked.list) (IsFrontOf-refl h.floor) refl (shown-idle h.single) refl v)

  pub did_take : (g : List Element) → steps' ≡ steps ++ Take ∷ [] → IsFrontOf h.floor g → h' ≡ taken g h → Recorded (stepped (Take ∷ [])) (books steps h st w) (books steps' h' st w)
  did_take g p x e = moved_to _ _ e (acted_by Take [] None steps steps' h (taken g h) st w refl refl refl refl p (latest-latest _) refl refl refl (IsFrontOf-refl h.looked.list) x refl (shown-idle h.single) refl tt)

  pub did_give : steps' ≡ steps ++ Give ∷ [] → h' ≡ gave h → Recorded (stepped (Give ∷ [])) (books steps h st w) (books steps' h' st w)
  did_give p e = moved_to _ _ e (acted_by Give [] None steps steps' h (gave h) st w refl refl refl refl p (latest-latest _) refl refl refl (IsFrontOf-refl h.looked.list) (IsFrontOf-refl h.floor) refl (shown-idle h.single) refl tt)

  pub did_look : (r : RingOf) → steps' ≡ steps ++ look_step r ∷ [] → IsFrontOf h.looked.list r.list → IsFrontOf h.floor r.list → h' ≡ looked_at r h → Recorded (looking (look_step r ∷ []) (r ∷ [])) (books steps h st w) (books steps' h' st w)
  did_look r p l x e = moved_to _ _ e (acted_by (look_step r) (r ∷ []) None steps steps' h (looked_at r h) st w refl refl refl refl p (latest-latest _) refl refl refl l x refl (shown-idle h.single) refl tt)

  pub did_publish : (r : RingOf) → steps' ≡ steps ++ publish_step r ∷ [] → IsFrontOf h.looked.list r.list → IsFrontOf h.floor r.list → h' ≡ published r h → Recorded (record idle { steps = publish_step r ∷ []; rings = r ∷ []; published = Some r }) (books steps h st w) (books steps' h' st w)
  did_publish r p l x e = moved_to _ _ e (acted_by (publish_step r) (r ∷ []) (Some r) steps steps' h (published r h) st w refl refl refl refl p (latest-latest _) refl refl refl l x refl refl refl tt)

  pub did_extend : (r : RingOf) → steps' ≡ steps ++ extend_step r ∷ [] → length h.looked.list ≡ length r.list → IsFrontOf h.looked.list r.list → IsFrontOf h.floor r.list → h' ≡ published r h → Recorded (record idle { steps = extend_step r ∷ []; rings = r ∷ []; published = Some r }) (books steps h st w) (books steps' h' st w)
  did_extend r p l i x e = moved_to _ _ e (acted_by (extend_step r) (r ∷ []) (Some r) steps steps' h (published r h) st w refl refl refl refl p (latest-latest _ ∙ ap (λ n. latest (h.acts ++ Publish n r.until ∷ [])) (sym l)) (sym l) refl refl i x refl refl refl tt)

  pub did_raise : (n : ℕ) → steps' ≡ steps ++ RaiseWant n ∷ [] → h' ≡ raised n h → Recorded (stepped (RaiseWant n ∷ [])) (books steps h st w) (books steps' h' st w)
  did_raise n p e = moved_to _ _ e (acted_by (RaiseWant n) [] None steps steps' h (raised n h) st w refl refl refl refl p (latest-latest _) refl refl refl (IsFrontOf-refl h.looked.list) (IsFrontOf-refl h.floor) refl refl refl tt)

  -- the list that was seen is no act
  pub did_answer : (own : List Element) → steps' ≡ steps ++ Answer ∷ [] → h' ≡ record h { own = own } → Recorded (stepped (Answer ∷ [])) (books steps h st w) (books steps' h' st w)
  did_answer own p e = moved_to _ _ e (acted_by Answer [] None steps steps' h (record h { own = own }) st w refl refl refl refl p (ap latest (sym (append-nil h.acts))) refl refl refl (IsFrontOf-refl h.looked.list) (IsFrontOf-refl h.floor) refl (shown-idle h.single) (turn-idle h.turn) tt)

-- the want number and a look
pub did_sight : (steps steps' : List Step) (h h' : HostState) (st : Store) (w : DrawState) (s : Sight) → steps' ≡ steps ++ sight_steps s → SeenBy s h → h' ≡ sighted s h → Recorded (sight_course s []) (books steps h st w) (books steps' h' st w)
did_sight steps steps' h h' st w s p x e =
    let mid = acted (Want s.want) h in
    let first = did_want steps (steps ++ Want s.want ∷ []) h mid st w s.want refl refl in
    let second = did_look (steps ++ Want s.want ∷ []) steps' mid h' st w s.ring (p ∙ sym (append_assoc steps (Want s.want ∷ []) (look_step s.ring ∷ []))) x.1 x.0 e in
    recorded-joined (stepped (Want s.want ∷ [])) (looking (look_step s.ring ∷ []) (s.ring ∷ [])) (books steps h st w) (books (steps ++ Want s.want ∷ []) mid st w) (books steps' h' st w) first second

-- a publication at the end
pub before_last : {P R : Course → Type 0} {a b c : Books} (x : Step) (r : RingOf) → Does P a b → Recorded (record idle { steps = x ∷ []; rings = r ∷ []; published = Some r }) b c → ((d : Course) → P d → R (publishing x r d)) → Does R a c
before_last {P} {R} {a} {b} {c} x r d q f =
    let last : Course = record idle { steps = x ∷ []; rings = r ∷ []; published = Some r } in
    let e : Course = publishing x r d.course in
    record {
      course = e;
      recorded = subst (λ y. Recorded y a c) (Course-eq (joined d.course last) e refl (append-nil d.course.drawn) refl refl (omega arith)) (recorded-joined d.course last a b c d.recorded q);
      is = f d.course d.is;
    }

module _ (c : Call) (steps steps' : List Step) (h h' : HostState) (st : Store) (w : DrawState) (own : c.own ≡ h.own) (single : c.single ≡ h.single) where
  sees : (s : Sight) → SeenBy s h → (o : Option Sight) → o ≡ h.single → IfSome o (λ one. s ≡ one)
  sees s q o e = subst (λ z. IfSome z (λ one. s ≡ one)) (sym e) q.2

  -- a look that was refused
  pub turn_refused : (why : NodeError) → LookRefused why h h' steps steps' → Does (TurnGives c (Err (refusal why))) (books steps h st w) (books steps' h' st w)
  turn_refused errors.Memory (inl p) = exactly _ (did_want steps steps' h h' st w p.0 p.3 p.2) (turn_none c p.0 (rw single p.1))
  turn_refused errors.Memory (inr p) =
      exactly _ (did_sight steps steps' h h' st w p.0 p.3 p.4 p.2) (turn_apart_lost c p.0 (sees p.0 p.4 c.single single) p.1 (rw own p.5))
  turn_refused (errors.Forked f) p =
      exactly _ (did_sight steps steps' h h' st w p.0 p.2 p.3 p.1) (turn_apart c p.0 (sees p.0 p.3 c.single single) f.at f.left f.right (rw own p.4) (p.5 ∙ sym own) p.6)
  turn_refused _ p = elim p [ ]

  pub path_refused : (why : NodeError) → LookRefused why h h' steps steps' → Does (PathGives c (Err (refusal why))) (books steps h st w) (books steps' h' st w)
  path_refused errors.Memory (inl p) = exactly _ (did_want steps steps' h h' st w p.0 p.3 p.2) (path_none c p.0 (rw single p.1))
  path_refused errors.Memory (inr p) =
      exactly _ (did_sight steps steps' h h' st w p.0 p.3 p.4 p.2) (path_apart_lost c p.0 (sees p.0 p.4 c.single single) p.1 (rw own p.5))
  path_refused (errors.Forked f) p =
      exactly _ (did_sight steps steps' h h' st w p.0 p.2 p.3 p.1) (path_apart c p.0 (sees p.0 p.3 c.single single) f.at f.left f.right (rw own p.4) (p.5 ∙ sym own) p.6)
  path_refused _ p = elim p [ ]

  pub second_refused : (why : NodeError) → LookRefused why h h' steps steps' → Does (SecondGives c (Err (refusal why))) (books steps h st w) (books steps' h' st w)
  second_refused errors.Memory (inl p) = exactly _ (did_want steps steps' h h' st w p.0 p.3 p.2) (second_none c p.0 (rw single p.1))
  second_refused errors.Memory (inr p) =
      exactly _ (did_sight steps steps' h h' st w p.0 p.3 p.4 p.2) (second_apart_lost c p.0 (sees p.0 p.4 c.single single) p.1 (rw own p.5))
  second_refused (errors.Forked f) p =
      exactly _ (did_sight steps steps' h h' st w p.0 p.2 p.3 p.1) (second_apart c p.0 (sees p.0 p.3 c.single single) f.at f.left f.right (rw own p.4) (p.5 ∙ sym own) p.6)
  second_refused _ p = elim p [ ]
