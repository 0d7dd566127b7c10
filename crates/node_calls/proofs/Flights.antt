-- Lawful flights, joined from their parts.
use Rattle.std.proofs.Common.{◌≡◌, ℕ, ◌-◌, ◌≤◌, Bool, true, false, List, [], ◌∷◌, ◌++◌, length, take, drop, refl, sym, ap, ◌∙◌, Option, Some, None, Result, Ok, Err, subst, arith, inl, inr, append_assoc}
use Rattle.std.proofs.lemmas.List.{append-nil, length-drop, drop-append-le}
use Rattle.key_elements.specs.declared.element.Element.{Element}
use Rattle.key_ring.specs.Ring.{RingOf, ring_of}
use Rattle.repo_keeper.specs.Store.{Grows}
use Rattle.ring_world.specs.declared.step.Step.{Step}
use Rattle.ring_world.specs.declared.step.Step.TheVariants.{Read, ReadFailed, WentBack, Drawn, DrawFailed, Appended, AppendFull, AppendFailed}
use Rattle.ring_world.specs.Course.{Course, stepped, joined, IsFront}
use Rattle.ring_world.specs.Lists.{IsReadFrom, IsReadUpTo, Reaches, IsGrown}
use Rattle.ring_world.specs.Flight.{Refusal, StoreFault, DrawFault, Shorter, Full, Memory, Sight, Terms, jitter_of, makes_key, new_key, Plain, Keyed, Filled, Shrunk, NoRead, ShortRead, NoDraw, NoKeyDraw, NoAppend, ShortAppend, Flight, Flown, Broken, IsRead, gather_course, gather_end, last_ring, last_step, published_after, whole, cut, Gathers, FlightGives}
use Rattle.node_calls.specs.Gather.{goes_on, ReadGives, DrawGives, KeyGives, AppendGives}
use Rattle.node_calls.proofs.Books.{IsFrontOf-trans, IsFrontOf-le, IsFrontOf-split, Grows-refl}
use Rattle.node_calls.proofs.Fronts.{bare, bare-step, front, front_unnoted}

-- what was read, and then read on over a list that grew
pub read_twice : (told told' : Option (List Element)) (base es fs : List Element) → IsReadFrom told base es → Grows told told' → IsReadFrom told' es fs → IsReadFrom told' base fs
read_twice None None base es fs p g q = (IsFrontOf-trans base es fs p.0 q.0, tt)
read_twice None (Some list) base es fs p g q = elim g [ ]
read_twice (Some list) None base es fs p g q = elim g [ ]
read_twice (Some list) (Some list') base es fs p g q =
    let n = length base in
    let x = drop (length es) fs in
    let y = drop (length list) list' in
    let le : n ≤ length es = IsFrontOf-le base es p.0 in
    let same : length es ≡ length list = omega (arith, length-drop n es, length-drop n list, ap length p.1.1, p.1.0, le) in
    let left : drop n fs ≡ drop n es ++ x = ap (drop n) (IsFrontOf-split es fs q.0) ∙ drop-append-le n es x le in
    let right : drop n list' ≡ drop n list ++ y = ap (drop n) (IsFrontOf-split list list' g) ∙ drop-append-le n list y p.1.0 in
    let rest : x ≡ y = q.1.1 ∙ ap (λ m. drop m list') same in
    (IsFrontOf-trans base es fs p.0 q.0, (omega (arith, IsFrontOf-le list list' g, p.1.0), left ∙ ap (λ r. r ++ x) p.1.1 ∙ ap (λ r. drop n list ++ r) rest ∙ sym right))

-- what was read, in a list that grew
read_before : (told told' : Option (List Element)) (base es : List Element) → IsReadFrom told base es → Grows told told' → IsReadUpTo told' base es
read_before None None base es p g = (p.0, tt)
read_before None (Some list) base es p g = elim g [ ]
read_before (Some list) None base es p g = elim g [ ]
read_before (Some list) (Some list') base es p g =
    let n = length base in
    let same : length es ≡ length list = omega (arith, length-drop n es, length-drop n list, ap length p.1.1, p.1.0, IsFrontOf-le base es p.0) in
    (p.0, (omega (arith, same, IsFrontOf-le list list' g), p.1.1 ∙ ap (drop n) (sym g) ∙ ap (λ m. drop n (take m list')) (sym same)))

-- it has all that was told before
read_reaches : (before told : Option (List Element)) (base es : List Element) → Grows before told → IsReadFrom told base es → Reaches es before
read_reaches None told base es g p = tt
read_reaches (Some list) None base es g p = elim g [ ]
read_reaches (Some list) (Some list') base es g p =
    let n = length base in
    omega (arith, length-drop n es, length-drop n list', ap length p.1.1, p.1.0, IsFrontOf-le base es p.0, IsFrontOf-le list list' g)

-- what was read during a call
was_read : (t : Terms) (told : Option (List Element)) (base es : List Element) → Grows t.before told → Grows told t.told → IsReadFrom told base es → IsRead t base es
was_read t told base es b g p = (read_before told t.told base es p g, read_reaches t.before told base es b p)

-- the list was read, and so many bytes were drawn
abbrev pub Began : Option (List Element) → List Element → List Element → List Step → List ℕ → Course → Type 0
Began told base es s b d = IsReadFrom told base es × (d ≡ bare (Read (length es) ∷ s) b)

pub began : (told : Option (List Element)) (base es : List Element) (d : Course) → ReadGives false told base (Ok es) d → Began told base es [] [] d
began told base es d p = p

pub began_word : (told : Option (List Element)) (base es : List Element) (w : List ℕ) (d e : Course) → Began told base es [] [] d → DrawGives 8 (Ok w) e → Began told base es (Drawn 8 ∷ []) w (joined d e)
began_word told base es w d e p q = (p.0, rw (p.1, q.1) refl)

-- and eighty bytes more, of which the key is made
abbrev pub BeganKey : Option (List Element) → List Element → List Element → List ℕ → (List ℕ → Element) → Element → Course → Type 0
BeganKey told base es w make key d =
    (k : List ℕ) × (key ≡ make k) × (length k ≡ 80) × Began told base es (Drawn 8 ∷ Drawn 80 ∷ []) (w ++ k) d

pub began_key : (told : Option (List Element)) (base es : List Element) (w : List ℕ) (make : List ℕ → Element) (key : Element) (d e : Course) → Began told base es (Drawn 8 ∷ []) w d → KeyGives make (Ok key) e → BeganKey told base es w make key (joined d e)
began_key told base es w make key d e p q = (q.0, q.1, q.2, (p.0, rw (p.1, q.3) refl))

-- an append to the same list of the same element
pub appends_at : (told : Option (List Element)) (es es' : List Element) (e e' : Element) (r : Result (List Element) Refusal) (d : Course) → es' ≡ es → e' ≡ e → AppendGives told es' e' r d → AppendGives told es e r d
appends_at told es es' e e' r d p q a = subst (λ (x : List Element). AppendGives told x e r d) p (subst (λ (x : Element). AppendGives told es' x r d) q a)

module _ (t : Terms) (base : List Element) (since : Grows t.before t.told) where
  -- nothing was called since the list was read
  read_last : (es : List Element) → IsReadFrom t.told base es → IsRead t base es
  read_last es p = was_read t t.told base es since (Grows-refl t.told) p

  pub reads_gathers : (why : Refusal) (d : Course) → ReadGives false t.told base (Err why) d → Gathers t base (Err why) d
  reads_gathers StoreFault d p = whole (Broken NoRead) tt refl p
  reads_gathers (Shorter had got) d p = whole (Broken (ShortRead had got)) (p.0, p.1) refl p.2
  reads_gathers Memory d (inl p) = cut (Broken NoRead) tt refl (front_unnoted d [] (ReadFailed ∷ []) [] [] [] None 0 p)
  reads_gathers Memory d (inr p) = cut (Broken (NoDraw p.0)) (read_last p.0 p.1) refl (front d (Read (length p.0) ∷ []) (DrawFailed ∷ []) [] [] None 0 p.2)
  reads_gathers _ d p = elim p [ ]

  pub draw_gathers : (es : List Element) (why : Refusal) (d e : Course) → Began t.told base es [] [] d → DrawGives 8 (Err why) e → Gathers t base (Err why) (joined d e)
  draw_gathers es DrawFault d e p q = whole (Broken (NoDraw es)) (read_last es p.0) refl (rw (p.1, q) refl)
  draw_gathers es _ d e p q = elim q [ ]

  pub plain_gathers : (es : List Element) (w : List ℕ) (d : Course) → makes_key t es ≡ false → length w ≡ 8 → Began t.told base es (Drawn 8 ∷ []) w d → Gathers t base (Ok (ring_of es t.now (jitter_of w))) d
  plain_gathers es w d m l p = whole (Flown w (Plain es)) (l, (p.0, m)) refl p.1

  -- no memory was found for the ring of the list read
  pub ring_lost : (es : List Element) (w : List ℕ) (d : Course) (makes : Bool) → makes_key t es ≡ makes → length w ≡ 8 → Began t.told base es (Drawn 8 ∷ []) w d → Gathers t base (Err Memory) d
  ring_lost es w d true m l p = cut (Broken (NoKeyDraw es w)) (read_last es p.0, m, l) refl (front d (Read (length es) ∷ Drawn 8 ∷ []) (DrawFailed ∷ []) w [] None 0 p.1)
  ring_lost es w d false m l p = cut (Flown w (Plain es)) (l, (p.0, m)) refl (front d (Read (length es) ∷ Drawn 8 ∷ []) [] w [] None 0 p.1)

  pub key_gathers : (make : List ℕ → Element) (es : List Element) (w : List ℕ) (why : Refusal) (d e : Course) → makes_key t es ≡ true → length w ≡ 8 → Began t.told base es (Drawn 8 ∷ []) w d → KeyGives make (Err why) e → Gathers t base (Err why) (joined d e)
  key_gathers make es w DrawFault d e m l p q = whole (Broken (NoKeyDraw es w)) (read_last es p.0, m, l) refl (rw (p.1, q) (bare-step (Read (length es) ∷ Drawn 8 ∷ []) w (DrawFailed ∷ [])))
  key_gathers make es w _ d e m l p q = elim q [ ]

-- after the append, over a list that may have grown since the read
module _ (t : Terms) (told : Option (List Element)) (base es : List Element) (w k : List ℕ) (since : Grows t.before told) (grows : Grows told t.told) (makes : makes_key t es ≡ true) (eight : length w ≡ 8) (eighty : length k ≡ 80) (d e : Course) (p : Began told base es (Drawn 8 ∷ Drawn 80 ∷ []) (w ++ k) d) where
  abbrev so_far : List Step
  so_far = Read (length es) ∷ Drawn 8 ∷ Drawn 80 ∷ []

  read : IsRead t base es
  read = was_read t told base es since grows p.0

  pub keyed_gathers : (fs : List Element) → AppendGives t.told es (new_key t es k) (Ok fs) e → Gathers t base (Ok (ring_of fs t.now (jitter_of w))) (joined d e)
  keyed_gathers fs q =
      whole (Flown w (Keyed es k fs)) (eight, (read, makes, eighty, q.1, read_twice told t.told base es fs p.0 grows q.0)) refl
      (rw (p.1, q.2) (bare-step so_far (w ++ k) (Appended (length fs - 1) ∷ [])))

  keyed_cut : (fs : List Element) → IsReadFrom t.told es fs → IsGrown es (new_key t es k) fs → e ≡ stepped (Appended (length fs - 1) ∷ []) → Gathers t base (Err Memory) (joined d e)
  keyed_cut fs r g q =
      cut (Flown w (Keyed es k fs)) (eight, (read, makes, eighty, g, read_twice told t.told base es fs p.0 grows r)) refl
      (front (joined d e) (Read (length es) ∷ Drawn 8 ∷ Drawn 80 ∷ Appended (length fs - 1) ∷ []) [] (w ++ k) [] None 0 (rw (p.1, q) (bare-step so_far (w ++ k) (Appended (length fs - 1) ∷ []))))

  -- no memory was found for the ring of the list with the key
  pub keyed_lost : (fs : List Element) → AppendGives t.told es (new_key t es k) (Ok fs) e → Gathers t base (Err Memory) (joined d e)
  keyed_lost fs q = keyed_cut fs q.0 q.1 q.2

  pub full_gathers : (why : Refusal) → goes_on t.opening why ≡ true → AppendGives t.told es (new_key t es k) (Err why) e → Gathers t base (Ok (ring_of es t.now (jitter_of w))) (joined d e)
  full_gathers (Full count) o q =
      whole (Flown w (Filled es k)) (eight, (read, makes, eighty, q.1)) refl
      (rw (p.1, q.2) (bare-step so_far (w ++ k) (AppendFull ∷ [])))
  full_gathers (Shorter had got) o q =
      whole (Flown w (Shrunk es k got)) (eight, (o, read, makes, eighty, rw (← q.0) q.1)) refl
      (rw (p.1, q.2, q.0) (bare-step so_far (w ++ k) (WentBack (length es) got ∷ [])))
  full_gathers _ o q = cc

  pub append_gathers : (why : Refusal) → goes_on t.opening why ≡ false → AppendGives t.told es (new_key t es k) (Err why) e → Gathers t base (Err why) (joined d e)
  append_gathers StoreFault o q =
      whole (Broken (NoAppend es w k)) (read, makes, eight, eighty) refl (rw (p.1, q) (bare-step so_far (w ++ k) (AppendFailed ∷ [])))
  append_gathers (Shorter had got) o q =
      whole (Broken (ShortAppend es w k got)) (o, read, makes, eight, eighty, rw (← q.0) q.1) (ap (λ h. Err (Shorter h got)) (sym q.0))
      (rw (p.1, q.2, q.0) (bare-step so_far (w ++ k) (WentBack (length es) got ∷ [])))
  append_gathers Memory o (inl q) =
      cut (Broken (NoAppend es w k)) (read, makes, eight, eighty) refl
      (front_unnoted (joined d e) so_far (AppendFailed ∷ []) (w ++ k) [] [] None 0 (rw (p.1, q) (ap (λ (b : List ℕ). record (bare so_far b) { unnoted = 1 }) (append-nil (w ++ k)))))
  append_gathers Memory o (inr q) = keyed_cut q.0 q.1 q.2 q.3
  append_gathers (Full count) o q = cc
  append_gathers _ o q = elim q [ ]

-- reading and appending publish nothing, and all their calls have steps
gather_unpublished : (x : Flight) → (gather_course x).published ≡ None
gather_unpublished (Flown w (Plain es)) = refl
gather_unpublished (Flown w (Keyed es k fs)) = refl
gather_unpublished (Flown w (Filled es k)) = refl
gather_unpublished (Flown w (Shrunk es k got)) = refl
gather_unpublished (Broken NoRead) = refl
gather_unpublished (Broken (ShortRead had got)) = refl
gather_unpublished (Broken (NoDraw es)) = refl
gather_unpublished (Broken (NoKeyDraw es w)) = refl
gather_unpublished (Broken (NoAppend es w k)) = refl
gather_unpublished (Broken (ShortAppend es w k got)) = refl

pub gather_noted : (x : Flight) → (gather_course x).unnoted ≡ 0
gather_noted (Flown w (Plain es)) = refl
gather_noted (Flown w (Keyed es k fs)) = refl
gather_noted (Flown w (Filled es k)) = refl
gather_noted (Flown w (Shrunk es k got)) = refl
gather_noted (Broken NoRead) = refl
gather_noted (Broken (ShortRead had got)) = refl
gather_noted (Broken (NoDraw es)) = refl
gather_noted (Broken (NoKeyDraw es w)) = refl
gather_noted (Broken (NoAppend es w k)) = refl
gather_noted (Broken (ShortAppend es w k got)) = refl

none_of : (d w : Course) → w.published ≡ None → IsFront d w → d.published ≡ None
none_of d w n f = elim f.published [ inl e ↦ e | inr e ↦ e ∙ n ]

module _ (t : Terms) (base : List Element) (s : Sight) where
  -- a flight that is cut off after its reading
  pub flight_cut : (r : Result RingOf Refusal) (d : Course) → Gathers t base r d → FlightGives t base s (Err Memory) d
  flight_cut r d (whole x is e q) = cut x is refl (record {
    steps = (last_step t.now s (gather_end t x) ∷ [], rw q refl);
    drawn = ([], rw q (sym (append-nil (gather_course x).drawn)));
    rings = (last_ring t.now s (gather_end t x) ∷ [], rw q refl);
    published = inl (ap (λ (c : Course). c.published) q ∙ gather_unpublished x);
    unnoted = omega (arith, ap (λ (c : Course). c.unnoted) q, gather_noted x);
  })
  flight_cut r d (cut x is e f) = cut x is refl (record {
    steps = (f.steps.0 ++ last_step t.now s (gather_end t x) ∷ [], ap (λ z. z ++ last_step t.now s (gather_end t x) ∷ []) f.steps.1 ∙ append_assoc d.steps f.steps.0 (last_step t.now s (gather_end t x) ∷ []));
    drawn = f.drawn;
    rings = (f.rings.0 ++ last_ring t.now s (gather_end t x) ∷ [], ap (λ z. z ++ last_ring t.now s (gather_end t x) ∷ []) f.rings.1 ∙ append_assoc d.rings f.rings.0 (last_ring t.now s (gather_end t x) ∷ []));
    published = inl (none_of d (gather_course x) (gather_unpublished x) f);
    unnoted = f.unnoted;
  })

  -- a flight to its end
  pub flight_whole : (r : Result RingOf Refusal) → (r ≡ Err Memory → ⊥) → (d : Course) → Gathers t base r d → FlightGives t base s r (published_after t.now s r d)
  flight_whole r n d (whole x is e q) = whole x is e (ap (published_after t.now s r) q ∙ ap (λ (z : Result RingOf Refusal). published_after t.now s z (gather_course x)) (sym e))
  flight_whole r n d (cut x is e f) = absurd (n e)
