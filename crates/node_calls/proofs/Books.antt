-- Courses recorded one after another.
use Rattle.std.proofs.Common.{◌≡◌, ℕ, ◌+◌, ◌-◌, ◌≤◌, Bool, true, false, ◌||◌, List, [], ◌∷◌, ◌++◌, length, take, drop, refl, sym, ap, ◌∙◌, append_assoc, add-zero, zero-add, arith, Option, Some, None, subst}
use Rattle.std.specs.Prelude.{option_map, is_some}
use Rattle.std.specs.Option.{option_or}
use Rattle.std.proofs.lemmas.List.{append-nil, length-take, length-take-le, length-drop, length-append, take-append-drop}
use Rattle.std.proofs.Math.Seq.{take-length, drop-append-add}
use Rattle.dp_base.specs.Counts.{more}
use Rattle.dp_base.specs.Draws.{DrawState, Draws}
use Rattle.key_elements.specs.declared.element.Element.{Element}
use Rattle.key_elements.specs.Lists.{Extends}
use Rattle.key_ring.specs.Ring.{RingOf}
use Rattle.ring_world.specs.declared.step.Step.{Step}
use Rattle.ring_world.specs.declared.step.Step.TheVariants.{Want, RaiseWant, Take, Busy, Give}
use Rattle.ring_world.specs.Course.{Course, idle, stepped, looking, led, closed, joined, drawn_by, drawn_count, rings_by, ring_count, last_of, publishes, any_publishes}
use Rattle.ring_world.specs.Flight.{Sight}
use Rattle.repo_keeper.specs.Store.{Store, Moved, Grows, no_calls, one_call}
use Rattle.node_calls.specs.HostState.{HostState, AtTurn, turn_by, latest}
use Rattle.node_calls.specs.Books.{Books, books, Does, Recorded, turn_after, Named, AreNamed, acts, acts_of, looked_count, front_after, want_after, want_by, ring_shown, shown_by, tally, tally_of, with_unnoted, draws_failed, draw_failed}
use Rattle.dp_base.proofs.Draws.{more-more, Draws-both, Draws-none}

-- the first list is a front of the second
abbrev pub IsFrontOf : List Element → List Element → Type 0
IsFrontOf a b = Extends b a

more_then : (j k a b c i : ℕ) → b ≡ more j a → c ≡ more k b → i ≡ j + k → c ≡ more i a
more_then j k a b c i p q r = q ∙ ap (more k) p ∙ more-more j k a ∙ ap (λ m. more m a) (sym r)

acts-append : (f : ℕ) (s t : List Step) → acts f (s ++ t) ≡ acts f s ++ acts (looked_count f s) t
acts-append f [] t = refl
acts-append f (x ∷ s) t = ap (λ r. acts_of f x ++ r) (acts-append (front_after f x) s t) ∙ sym (append_assoc (acts_of f x) (acts (front_after f x) s) (acts (looked_count (front_after f x) s) t))

looked_count-append : (f : ℕ) (s t : List Step) → looked_count f (s ++ t) ≡ looked_count (looked_count f s) t
looked_count-append f [] t = refl
looked_count-append f (x ∷ s) t = looked_count-append (front_after f x) s t

want_after-append : (n : ℕ) (s t : List Step) → want_after n (s ++ t) ≡ want_after (want_after n s) t
want_after-append n [] t = refl
want_after-append n (x ∷ s) t = want_after-append (want_by n x) s t

pub draws_failed-append : (s t : List Step) → draws_failed (s ++ t) ≡ draws_failed s + draws_failed t
draws_failed-append [] t = omega arith
draws_failed-append (x ∷ s) t = omega (arith, draws_failed-append s t)

pub drawn_count-append : (s t : List Step) → drawn_count (s ++ t) ≡ drawn_count s + drawn_count t
drawn_count-append [] t = omega arith
drawn_count-append (x ∷ s) t = omega (arith, drawn_count-append s t)

ring_count-append : (s t : List Step) → ring_count (s ++ t) ≡ ring_count s + ring_count t
ring_count-append [] t = omega arith
ring_count-append (x ∷ s) t = omega (arith, ring_count-append s t)

last_of-append : (r : RingOf) (xs ys : List RingOf) → last_of (last_of r xs) ys ≡ last_of r (xs ++ ys)
last_of-append r [] ys = refl
last_of-append r (x ∷ xs) ys = last_of-append x xs ys

or_assoc : (a b c : Bool) → (a || (b || c)) ≡ ((a || b) || c)
or_assoc true b c = refl
or_assoc false b c = refl

pub any_publishes-append : (s t : List Step) → any_publishes (s ++ t) ≡ (any_publishes s || any_publishes t)
any_publishes-append [] t = refl
any_publishes-append (x ∷ s) t = rw (any_publishes-append s t) (or_assoc (publishes x) (any_publishes s) (any_publishes t))

is_some-or : (p q : Option RingOf) (a b : Bool) → is_some p ≡ a → is_some q ≡ b → is_some (option_or q p) ≡ (a || b)
is_some-or None None a b e f = cc
is_some-or None (Some r) true b e f = cc
is_some-or None (Some r) false b e f = f
is_some-or (Some r) None true b e f = refl
is_some-or (Some r) None false b e f = cc
is_some-or (Some r) (Some s) true b e f = refl
is_some-or (Some r) (Some s) false b e f = cc

tally_calls-append : (s t : List Step) → (tally (s ++ t)).calls ≡ (tally s).calls + (tally t).calls
tally_calls-append [] t = omega arith
tally_calls-append (x ∷ s) t = omega (arith, tally_calls-append s t)

pub tally_faults-append : (s t : List Step) → (tally (s ++ t)).faults ≡ (tally s).faults + (tally t).faults
tally_faults-append [] t = omega arith
tally_faults-append (x ∷ s) t = omega (arith, tally_faults-append s t)

pub tally_shorts-append : (s t : List Step) → (tally (s ++ t)).shorts ≡ (tally s).shorts + (tally t).shorts
tally_shorts-append [] t = omega arith
tally_shorts-append (x ∷ s) t = omega (arith, tally_shorts-append s t)

pub tally_fulls-append : (s t : List Step) → (tally (s ++ t)).fulls ≡ (tally s).fulls + (tally t).fulls
tally_fulls-append [] t = omega arith
tally_fulls-append (x ∷ s) t = omega (arith, tally_fulls-append s t)

tally_places-append : (s t : List Step) → (tally (s ++ t)).places ≡ (tally s).places ++ (tally t).places
tally_places-append [] t = refl
tally_places-append (x ∷ s) t = ap (λ r. (tally_of x).places ++ r) (tally_places-append s t) ∙ sym (append_assoc (tally_of x).places (tally s).places (tally t).places)

pub IsFrontOf-trans : (a b c : List Element) → IsFrontOf a b → IsFrontOf b c → IsFrontOf a c
IsFrontOf-trans [] b c p q = refl
IsFrontOf-trans (x ∷ a) [] c p q = cc
IsFrontOf-trans (x ∷ a) (y ∷ b) [] p q = cc
IsFrontOf-trans (x ∷ a) (y ∷ b) (z ∷ c) p q =
    let ab : IsFrontOf a b = cc in
    let bc : IsFrontOf b c = cc in
    let ih : IsFrontOf a c = IsFrontOf-trans a b c ab bc in cc

pub IsFrontOf-le : (a b : List Element) → IsFrontOf a b → length a ≤ length b
IsFrontOf-le a b p = omega (arith, ap length p, length-take (length a) b)

pub IsFrontOf-split : (a b : List Element) → IsFrontOf a b → b ≡ a ++ drop (length a) b
IsFrontOf-split a b p = sym (take-append-drop (length a) b) ∙ ap (λ r. r ++ drop (length a) b) p

pub IsFrontOf-refl : (a : List Element) → IsFrontOf a a
IsFrontOf-refl a = take-length a

pub Grows-trans : (a b c : Option (List Element)) → Grows a b → Grows b c → Grows a c
Grows-trans None None None p q = tt
Grows-trans None None (Some c) p q = elim q [ ]
Grows-trans None (Some b) c p q = elim p [ ]
Grows-trans (Some a) None c p q = elim p [ ]
Grows-trans (Some a) (Some b) None p q = elim q [ ]
Grows-trans (Some a) (Some b) (Some c) p q = IsFrontOf-trans a b c p q

pub Grows-refl : (a : Option (List Element)) → Grows a a
Grows-refl None = tt
Grows-refl (Some a) = IsFrontOf-refl a

-- the last of a list that is added to are the last of its last, added to
latest-append : (xs ys : List Step) → latest (latest xs ++ ys) ≡ latest (xs ++ ys)
unfolding latest
latest-append xs ys =
    let n = length xs - 24 in
    let split : xs ++ ys ≡ take n xs ++ (drop n xs ++ ys) = ap (λ z. z ++ ys) (sym (take-append-drop n xs)) ∙ append_assoc (take n xs) (drop n xs) ys in
    let front : length (take n xs) ≡ n = length-take-le n xs (omega arith) in
    let k = length (drop n xs ++ ys) - 24 in
    let m : length (xs ++ ys) - 24 ≡ length (take n xs) + k = omega (arith, length-append xs ys, length-append (drop n xs) ys, length-drop n xs, front) in
    sym (ap (λ z. drop (length (xs ++ ys) - 24) z) split ∙ ap (λ z. drop z (take n xs ++ (drop n xs ++ ys))) m ∙ drop-append-add (take n xs) (drop n xs ++ ys) k)

pub latest-latest : (xs : List Step) → latest (latest xs) ≡ latest xs
latest-latest xs = ap latest (sym (append-nil (latest xs))) ∙ latest-append xs [] ∙ ap latest (append-nil xs)

-- acts after acts
pub acts_joined : (f g : ℕ) (x y z : List Step) (s t : List Step) → g ≡ looked_count f s → latest y ≡ latest (x ++ acts f s) → latest z ≡ latest (y ++ acts g t) → latest z ≡ latest (x ++ acts f (s ++ t))
acts_joined f g x y z s t e p q =
    q ∙ sym (latest-append y (acts g t)) ∙ ap (λ r. latest (r ++ acts g t)) p ∙ latest-append (x ++ acts f s) (acts g t)
    ∙ ap latest (append_assoc x (acts f s) (acts g t) ∙ ap (λ r. x ++ r) (ap (λ n. acts f s ++ acts n t) e ∙ sym (acts-append f s t)))

ring_shown-or : (p q : Option RingOf) (r : RingOf) → ring_shown q (ring_shown p r) ≡ ring_shown (option_or q p) r
ring_shown-or p None r = refl
ring_shown-or p (Some x) r = refl

shown_joined : (a b : Course) (x y z : Option Sight) → y ≡ option_map (shown_by a) x → z ≡ option_map (shown_by b) y → z ≡ option_map (shown_by (joined a b)) x
shown_joined a b None y z p q = q ∙ ap (option_map (shown_by b)) p
shown_joined a b (Some one) y z p q =
    q ∙ ap (option_map (shown_by b)) p
    ∙ ap (λ (n : ℕ). Some (record { want = n; ring = ring_shown b.published (ring_shown a.published one.ring) })) (sym (want_after-append one.want a.steps b.steps))
    ∙ ap (λ (r : RingOf). Some (record { want = want_after one.want (a.steps ++ b.steps); ring = r })) (ring_shown-or a.published b.published one.ring)

turn_after-append : (s t : List Step) (u : AtTurn) → turn_after (s ++ t) u ≡ turn_after t (turn_after s u)
turn_after-append [] t u = refl
turn_after-append (x ∷ s) t u = turn_after-append s t (turn_by x u)

turn_joined : (s t : List Step) (x y z : Option AtTurn) → y ≡ option_map (turn_after s) x → z ≡ option_map (turn_after t) y → z ≡ option_map (turn_after (s ++ t)) x
turn_joined s t None y z p q = q ∙ ap (option_map (turn_after t)) p
turn_joined s t (Some u) y z p q = q ∙ ap (option_map (turn_after t)) p ∙ ap (λ (v : AtTurn). Some v) (sym (turn_after-append s t u))

named-append : (s t : List Step) → AreNamed s → AreNamed t → AreNamed (s ++ t)
named-append [] t p q = q
named-append (x ∷ s) t p q = (p.0, named-append s t p.1 q)

module _ (d e : Course) (a b c : Books) where
  pub recorded-joined : Recorded d a b → Recorded e b c → Recorded (joined d e) a c
  recorded-joined p q = record {
    steps = q.steps ∙ ap (λ r. r ++ e.steps) p.steps ∙ append_assoc a.steps d.steps e.steps;
    acts = acts_joined (length a.host.looked.list) _ a.host.acts b.host.acts c.host.acts d.steps e.steps p.front p.acts q.acts;
    front = cc (looked_count-append (length a.host.looked.list) d.steps e.steps);
    looked = q.looked ∙ ap (λ r. last_of r e.rings) p.looked ∙ last_of-append a.host.looked d.rings e.rings;
    rings = omega (arith, length-append d.rings e.rings, ring_count-append d.steps e.steps, p.rings, q.rings);
    line = IsFrontOf-trans a.host.looked.list b.host.looked.list c.host.looked.list p.line q.line;
    floor = IsFrontOf-trans a.host.floor b.host.floor c.host.floor p.floor q.floor;
    facts = q.facts ∙ p.facts;
    single = shown_joined d e a.host.single b.host.single c.host.single p.single q.single;
    turn = turn_joined d.steps e.steps a.host.turn b.host.turn c.host.turn p.turn q.turn;
    named = named-append d.steps e.steps p.named q.named;
    store = record {
      list = Grows-trans a.store.list b.store.list c.store.list p.store.list q.store.list;
      calls = more_then ((tally d.steps).calls + d.unnoted) ((tally e.steps).calls + e.unnoted) a.store.calls b.store.calls c.store.calls ((tally (d.steps ++ e.steps)).calls + (d.unnoted + e.unnoted)) p.store.calls q.store.calls (omega (arith, tally_calls-append d.steps e.steps));
      faults = more_then (tally d.steps).faults (tally e.steps).faults a.store.faults b.store.faults c.store.faults _ p.store.faults q.store.faults (tally_faults-append d.steps e.steps);
      shorts = more_then (tally d.steps).shorts (tally e.steps).shorts a.store.shorts b.store.shorts c.store.shorts _ p.store.shorts q.store.shorts (tally_shorts-append d.steps e.steps);
      fulls = more_then (tally d.steps).fulls (tally e.steps).fulls a.store.fulls b.store.fulls c.store.fulls _ p.store.fulls q.store.fulls (tally_fulls-append d.steps e.steps);
      mine = cc (tally_places-append d.steps e.steps, append_assoc a.store.mine (tally d.steps).places (tally e.steps).places);
      mark = q.store.mark ∙ p.store.mark;
    };
    draws = rw draws_failed-append (Draws-both (draws_failed d.steps) (draws_failed e.steps) d.drawn e.drawn a.draws b.draws c.draws p.draws q.draws);
    drawn = omega (arith, length-append d.drawn e.drawn, drawn_count-append d.steps e.steps, p.drawn, q.drawn);
    published = is_some-or d.published e.published _ _ p.published q.published ∙ sym (any_publishes-append d.steps e.steps);
  }

-- one after the other
pub chain : {P Q R : Course → Type 0} {a b c : Books} → Does P a b → Does Q b c → ((d e : Course) → P d → Q e → R (joined d e)) → Does R a c
chain {P} {Q} {R} {a} {b} {c} d e f = record {
  course = joined d.course e.course;
  recorded = recorded-joined d.course e.course a b c d.recorded e.recorded;
  is = f d.course e.course d.is e.is;
}

-- by its parts
pub Course-eq : (d e : Course) → d.steps ≡ e.steps → d.drawn ≡ e.drawn → d.rings ≡ e.rings → d.published ≡ e.published → d.unnoted ≡ e.unnoted → d ≡ e
Course-eq d e p q rs r u =
    ap (λ (s : List Step). record d { steps = s }) p
    ∙ ap (λ (x : List ℕ). record { steps = e.steps; drawn = x; rings = d.rings; published = d.published; unnoted = d.unnoted }) q
    ∙ ap (λ (x : List RingOf). record { steps = e.steps; drawn = e.drawn; rings = x; published = d.published; unnoted = d.unnoted }) rs
    ∙ ap (λ (x : Option RingOf). record { steps = e.steps; drawn = e.drawn; rings = e.rings; published = x; unnoted = d.unnoted }) r
    ∙ ap (λ (x : ℕ). record { steps = e.steps; drawn = e.drawn; rings = e.rings; published = e.published; unnoted = x }) u

option_or-none : (p : Option RingOf) → option_or p None ≡ p
option_or-none None = refl
option_or-none (Some r) = refl

pub joined-led : (s : List Step) (rs : List RingOf) (d : Course) → joined (looking s rs) d ≡ led s rs d
joined-led s rs d = Course-eq (joined (looking s rs) d) (led s rs d) refl refl refl (option_or-none d.published) (zero-add d.unnoted)

pub joined-closed : (d : Course) (s : List Step) → joined d (stepped s) ≡ closed d s
joined-closed d s = Course-eq (joined d (stepped s)) (closed d s) refl (append-nil d.drawn) (append-nil d.rings) refl (add-zero d.unnoted)

-- after steps that are known, and before them
pub after : {Q R : Course → Type 0} {a b c : Books} (s : List Step) (rs : List RingOf) → Recorded (looking s rs) a b → Does Q b c → ((d : Course) → Q d → R (led s rs d)) → Does R a c
after {Q} {R} {a} {b} {c} s rs p e f = record {
  course = led s rs e.course;
  recorded = subst (λ x. Recorded x a c) (joined-led s rs e.course) (recorded-joined (looking s rs) e.course a b c p e.recorded);
  is = f e.course e.is;
}

pub before : {P R : Course → Type 0} {a b c : Books} (s : List Step) → Does P a b → Recorded (stepped s) b c → ((d : Course) → P d → R (closed d s)) → Does R a c
before {P} {R} {a} {b} {c} s d q f = record {
  course = closed d.course s;
  recorded = subst (λ x. Recorded x a c) (joined-closed d.course s) (recorded-joined d.course (stepped s) a b c d.recorded q);
  is = f d.course d.is;
}

-- a known course alone
pub exactly : {P : Course → Type 0} {a b : Books} (d : Course) → Recorded d a b → P d → Does P a b
exactly d p q = record { course = d; recorded = p; is = q }

-- seen as another kind
pub as_kind : {P Q : Course → Type 0} {a b : Books} → Does P a b → ((d : Course) → P d → Q d) → Does Q a b
as_kind d f = record { course = d.course; recorded = d.recorded; is = f d.course d.is }

pub Moved-refl : (s : Store) → Moved no_calls s s
Moved-refl s = record { list = Grows-refl s.list; calls = refl; faults = refl; shorts = refl; fulls = refl; mine = sym (append-nil s.mine); mark = refl }

-- the tally of one step
tally-one : (x : Step) → with_unnoted 0 (tally (x ∷ [])) ≡ tally_of x
tally-one x = simp (add-zero, append-nil)

or-false : (a : Bool) → a ≡ (a || false)
or-false true = refl
or-false false = refl

pub shown-idle : (o : Option Sight) → o ≡ option_map (shown_by idle) o
shown-idle None = refl
shown-idle (Some one) = refl

-- a step that is no act of the host
outside_single : (x : Step) (bytes : List ℕ) → ((n : ℕ) → want_by n x ≡ n) → (o : Option Sight) → o ≡ option_map (shown_by (record idle { steps = x ∷ []; drawn = bytes })) o
outside_single x bytes r None = refl
outside_single x bytes r (Some one) = ap (λ (n : ℕ). Some (record { want = n; ring = one.ring })) (sym (r one.want))

pub turn-idle : (o : Option AtTurn) → o ≡ option_map (turn_after []) o
turn-idle None = refl
turn-idle (Some t) = refl

act_none : (a : Step) → a ∷ [] ≡ [] → ⊥
act_none a e = cc

turn_outside : (x : Step) → acts_of 0 x ≡ [] → (t : AtTurn) → t ≡ turn_by x t
turn_outside (Want n) e t = absurd (act_none _ e)
turn_outside (RaiseWant n) e t = absurd (act_none _ e)
turn_outside Take e t = absurd (act_none _ e)
turn_outside (Busy h) e t = absurd (act_none _ e)
turn_outside Give e t = absurd (act_none _ e)
turn_outside _ e t = refl

outside_turn : (x : Step) → acts_of 0 x ≡ [] → (o : Option AtTurn) → o ≡ option_map (turn_after (x ∷ [])) o
outside_turn x e None = refl
outside_turn x e (Some t) = ap (λ (u : AtTurn). Some u) (turn_outside x e t)

outside_named : (x : Step) → acts_of 0 x ≡ [] → Named x
outside_named (Busy h) e = absurd (act_none _ e)
outside_named _ e = tt

module _ (x : Step) (bytes : List ℕ) (steps steps' : List Step) (h : HostState) (st st' : Store) (w w' : DrawState) where
  pub outside : ((n : ℕ) → acts_of n x ≡ []) → ((n : ℕ) → front_after n x ≡ n) → ((n : ℕ) → want_by n x ≡ n) → rings_by x ≡ 0 → publishes x ≡ false → length bytes ≡ drawn_by x → steps' ≡ steps ++ x ∷ [] → Moved (tally_of x) st st' → Draws (draw_failed x) bytes w w' → Recorded (record idle { steps = x ∷ []; drawn = bytes }) (books steps h st w) (books steps' h st' w')
  outside a l r n b c p m f = record {
    steps = p;
    acts = ap latest (sym (append-nil h.acts) ∙ ap (λ z. h.acts ++ z) (sym (append-nil (acts_of (length h.looked.list) x) ∙ a _)));
    front = sym (l _);
    looked = refl;
    rings = sym (ap (λ z. z + 0) n);
    line = IsFrontOf-refl h.looked.list;
    floor = IsFrontOf-refl h.floor;
    facts = refl;
    single = outside_single x bytes r h.single;
    turn = outside_turn x (a 0) h.turn;
    named = (outside_named x (a 0), tt);
    store = rw tally-one m;
    draws = rw add-zero f;
    drawn = c ∙ sym (add-zero (drawn_by x));
    published = sym (ap (λ z. z || false) b);
  }

-- a step of the repository
pub stored : (x : Step) (steps steps' : List Step) (h : HostState) (st st' : Store) (w : DrawState) → ((n : ℕ) → acts_of n x ≡ []) → ((n : ℕ) → front_after n x ≡ n) → ((n : ℕ) → want_by n x ≡ n) → rings_by x ≡ 0 → publishes x ≡ false → draw_failed x ≡ 0 → 0 ≡ drawn_by x → steps' ≡ steps ++ x ∷ [] → Moved (tally_of x) st st' → Recorded (stepped (x ∷ [])) (books steps h st w) (books steps' h st' w)
stored x steps steps' h st st' w a l r n b d c p m =
    outside x [] steps steps' h st st' w w a l r n b c p m (rw d (Draws-none w))

-- a call of the repository that has no step
pub unnoted : (steps : List Step) (h : HostState) (st st' : Store) (w : DrawState) → Moved one_call st st' → Recorded (record idle { unnoted = 1 }) (books steps h st w) (books steps h st' w)
unnoted steps h st st' w m = record {
  steps = sym (append-nil steps);
  acts = ap latest (sym (append-nil h.acts));
  front = refl;
  looked = refl;
  rings = refl;
  line = IsFrontOf-refl h.looked.list;
  floor = IsFrontOf-refl h.floor;
  facts = refl;
  single = shown-idle h.single;
  turn = turn-idle h.turn;
  named = tt;
  store = m;
  draws = Draws-none w;
  drawn = refl;
  published = refl;
}

-- nothing was done
pub nothing : (steps : List Step) (h : HostState) (st : Store) (w : DrawState) → Recorded idle (books steps h st w) (books steps h st w)
nothing steps h st w = record {
  steps = sym (append-nil steps);
  acts = ap latest (sym (append-nil h.acts));
  front = refl;
  looked = refl;
  rings = refl;
  line = IsFrontOf-refl h.looked.list;
  floor = IsFrontOf-refl h.floor;
  facts = refl;
  single = shown-idle h.single;
  turn = turn-idle h.turn;
  named = tt;
  store = Moved-refl st;
  draws = Draws-none w;
  drawn = refl;
  published = refl;
}

-- an act of the host, which may publish a ring
module _ (x : Step) (rs : List RingOf) (p : Option RingOf) (steps steps' : List Step) (h h' : HostState) (st : Store) (w : DrawState) where
  pub acted_by : tally_of x ≡ no_calls → draw_failed x ≡ 0 → drawn_by x ≡ 0 → is_some p ≡ publishes x → steps' ≡ steps ++ x ∷ [] → latest h'.acts ≡ latest (h.acts ++ acts_of (length h.looked.list) x) → length h'.looked.list ≡ front_after (length h.looked.list) x → h'.looked ≡ last_of h.looked rs → length rs ≡ rings_by x → IsFrontOf h.looked.list h'.looked.list → IsFrontOf h.floor h'.floor → h'.facts ≡ h.facts → h'.single ≡ option_map (shown_by (record idle { steps = x ∷ []; rings = rs; published = p })) h.single → h'.turn ≡ option_map (turn_by x) h.turn → Named x → Recorded (record idle { steps = x ∷ []; rings = rs; published = p }) (books steps h st w) (books steps' h' st w)
  acted_by t d n b s a l k c i e f o u v = record {
    steps = s;
    acts = a ∙ ap (λ r. latest (h.acts ++ r)) (sym (append-nil (acts_of (length h.looked.list) x)));
    front = l;
    looked = k;
    rings = c ∙ sym (add-zero (rings_by x));
    line = i;
    floor = e;
    facts = f;
    single = o;
    turn = u;
    named = (v, tt);
    store = rw (tally-one, t) (Moved-refl st);
    draws = rw (add-zero, d) (Draws-none w);
    drawn = sym (ap (λ z. z + 0) n);
    published = b ∙ or-false (publishes x);
  }
