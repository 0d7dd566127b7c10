-- Whole calls, joined from a path and what settles it.
use Rattle.std.proofs.Common.{◌≡◌, ℕ, ◌<◌, ◌≤◌, Bool, true, false, List, [], ◌∷◌, ◌++◌, length, refl, sym, ap, ◌∙◌, append_assoc, Option, Some, None, Result, Ok, Err, arith, inl, inr, IfSome, nat_le, subst}
use Rattle.std.specs.Prelude.{option_map}
use Rattle.std.specs.Option.{option_or}
use Rattle.std.proofs.lemmas.List.{append-nil}
use Rattle.std.proofs.lemmas.Bool.Decides.{nat_tests}
use Rattle.std.proofs.lemmas.Bool.{le-leb}
use Rattle.dp_base.specs.Draws.{DrawState}
use Rattle.dp_base.specs.declared.key_id.KeyId.{KeyId}
use Rattle.key_elements.specs.declared.element.Element.{Element}
use Rattle.key_ring.specs.Ring.{RingOf}
use Rattle.repo_keeper.specs.Store.{Store}
use Rattle.ring_world.specs.declared.step.Step.{Step}
use Rattle.ring_world.specs.declared.step.Step.TheVariants.{Give, Answer}
use Rattle.ring_world.specs.Course.{Course, idle, closed, joined, given_back, IsFront, IsCutOff, holds, holds_after}
use Rattle.ring_world.specs.Flight.{Refusal, Behind, Memory, Sight, Plain, Keyed, Filled, Shrunk, Flown, Broken}
use Rattle.ring_world.specs.Path.{Call, Path, FirstLookFailed, AtOnce, Stale, Alone, Turned, AloneFailed, AloneShort, Apart, LookFailed, Rests, Parts, Flies, IsPath, InLine, PathGives, went, stopped, path_course, path_end}
use Rattle.ring_world.specs.Settle.{any_reads, misses, Keeps, Again, IsSettled, settle_course, SettleGives, settled, settle_stopped}
use Rattle.ring_world.specs.Way.{Way, Comes, Fails, IsWay, InLineWay, way_course, way_end, answered, answer_steps, own_after, CallPath, complete, cut_off}
use Rattle.node_calls.specs.declared.call.At.{At}
use Rattle.node_calls.specs.declared.host.NodeFacts.{NodeFacts}
use Rattle.node_calls.specs.HostState.{HostState}
use Rattle.node_calls.specs.Books.{books, Does, want_after, shown_by}
use Rattle.node_calls.specs.Calls.{call, terms}
use Rattle.node_calls.proofs.Books.{Course-eq, recorded-joined}
use Rattle.node_calls.proofs.Fronts.{front_whole}
use Rattle.node_calls.proofs.Courses.{free_cut, path_free, path_noted}
use Rattle.node_calls.proofs.Settles.{misses-unread, settle_free, settle_noted, settle_single}

-- the path of a call over the repository as it was
abbrev told_as : Call → Option (List Element) → Call
told_as c told = record c { terms = record c.terms { told = told } }

-- a path to a ring for which nothing was read says nothing of the repository
pub path_told : (c : Call) (told : Option (List Element)) (r : RingOf) (d : Course) → any_reads d.steps ≡ false → PathGives (told_as c told) (Ok r) d → PathGives c (Ok r) d
path_told c told r d h (went (FirstLookFailed n) is l e q) = cc
path_told c told r d h (went (AtOnce s) is l e q) = went (AtOnce s) is l e q
path_told c told r d h (went (Stale s n) is l e q) = went (Stale s n) is l e q
path_told c told r d h (went (Alone s n es) is l e q) = cc
path_told c told r d h (went (Turned s (LookFailed n)) is l e q) = cc
path_told c told r d h (went (Turned s (Rests t)) is l e q) = went (Turned s (Rests t)) is l e q
path_told c told r d h (went (Turned s (Parts t at)) is l e q) = cc
path_told c told r d h (went (Turned s (Flies t (Flown w (Plain es)))) is l e q) = cc
path_told c told r d h (went (Turned s (Flies t (Flown w (Keyed es k fs)))) is l e q) = cc
path_told c told r d h (went (Turned s (Flies t (Flown w (Filled es k)))) is l e q) = cc
path_told c told r d h (went (Turned s (Flies t (Flown w (Shrunk es k got)))) is l e q) = cc
path_told c told r d h (went (Turned s (Flies t (Broken b))) is l e q) = cc
path_told c told r d h (went (AloneFailed s n) is l e q) = cc
path_told c told r d h (went (AloneShort s n had got) is l e q) = cc
path_told c told r d h (went (Apart s at) is l e q) = cc
path_told c told r d h (stopped p is l e g) = cc

-- such a path shows what was shown before
pub record Quiet (d : Course) : Type 0 where
  pub published : d.published ≡ None
  pub wants : (n : ℕ) → want_after n d.steps ≡ n

pub path_quiet : (c : Call) (p : Path) (r : RingOf) → path_end c p ≡ Ok r → any_reads (path_course c p).steps ≡ false → Quiet (path_course c p)
path_quiet c (FirstLookFailed n) r e h = cc
path_quiet c (AtOnce s) r e h = record { published = refl; wants = λ n. refl }
path_quiet c (Stale s m) r e h = record { published = refl; wants = λ n. refl }
path_quiet c (Alone s m es) r e h = cc
path_quiet c (Turned s (LookFailed n)) r e h = cc
path_quiet c (Turned s (Rests t)) r e h = record { published = refl; wants = λ n. refl }
path_quiet c (Turned s (Parts t at)) r e h = cc
path_quiet c (Turned s (Flies t (Flown w (Plain es)))) r e h = cc
path_quiet c (Turned s (Flies t (Flown w (Keyed es k fs)))) r e h = cc
path_quiet c (Turned s (Flies t (Flown w (Filled es k)))) r e h = cc
path_quiet c (Turned s (Flies t (Flown w (Shrunk es k got)))) r e h = cc
path_quiet c (Turned s (Flies t (Broken b))) r e h = cc
path_quiet c (AloneFailed s m) r e h = cc
path_quiet c (AloneShort s m had got) r e h = cc
path_quiet c (Apart s at) r e h = cc

shown-quiet : (d : Course) → Quiet d → (o : Option Sight) → option_map (shown_by d) o ≡ o
shown-quiet d q None = refl
shown-quiet d q (Some one) = rw (q.published, q.wants) refl

path_shown : (c : Call) (r : RingOf) (d : Course) → PathGives c (Ok r) d → any_reads d.steps ≡ false → (o : Option Sight) → option_map (shown_by d) o ≡ o
path_shown c r d (went p is l e q) h o =
    ap (λ (y : Course). option_map (shown_by y) o) q ∙ shown-quiet (path_course c p) (path_quiet c p r e (sym (ap (λ (y : Course). any_reads y.steps) q) ∙ h)) o
path_shown c r d (stopped p is l e g) h o = cc

holds-append : (held : Bool) (s t : List Step) → holds held (s ++ t) ≡ holds (holds held s) t
holds-append held [] t = refl
holds-append held (x ∷ s) t = holds-append (holds_after held x) s t

option_or-none : (p : Option RingOf) → option_or p None ≡ p
option_or-none None = refl
option_or-none (Some r) = refl

-- a course that is cut off behind another
module _ (a : Course) (published : a.published ≡ None) (noted : a.unnoted ≡ 0) where
  front_behind : (d w : Course) → IsFront d w → IsFront (joined a d) (joined a w)
  front_behind d w f = record {
    steps = (f.steps.0, ap (λ z. a.steps ++ z) f.steps.1 ∙ sym (append_assoc a.steps d.steps f.steps.0));
    drawn = (f.drawn.0, ap (λ z. a.drawn ++ z) f.drawn.1 ∙ sym (append_assoc a.drawn d.drawn f.drawn.0));
    rings = (f.rings.0, ap (λ z. a.rings ++ z) f.rings.1 ∙ sym (append_assoc a.rings d.rings f.rings.0));
    published = elim f.published [ inl e ↦ inl (ap (λ z. option_or z a.published) e ∙ published) | inr e ↦ inr (ap (λ z. option_or z a.published) e) ];
    unnoted = omega (arith, f.unnoted, noted);
  }

  given_behind : (d f : Course) (held : Bool) → holds false a.steps ≡ false → holds false f.steps ≡ held → d ≡ given_back f → joined a d ≡ given_back (joined a f)
  given_behind d f true free e g =
      let e' : holds false (a.steps ++ f.steps) ≡ true = holds-append false a.steps f.steps ∙ ap (λ b. holds b f.steps) free ∙ e in
      rw (g, e, e') (ap (λ (s : List Step). record (joined a f) { steps = s }) (sym (append_assoc a.steps f.steps (Give ∷ []))))
  given_behind d f false free e g =
      let e' : holds false (a.steps ++ f.steps) ≡ false = holds-append false a.steps f.steps ∙ ap (λ b. holds b f.steps) free ∙ e in
      rw (g, e, e') refl

  cut_behind : (d w : Course) → holds false a.steps ≡ false → IsCutOff d w → IsCutOff (joined a d) (joined a w)
  cut_behind d w free g = record {
    front = joined a g.front;
    is = front_behind g.front w g.is;
    given = given_behind d g.front _ free refl g.given;
  }

  -- one that is cut off before another
  cut_before : (d w : Course) → IsCutOff d a → IsCutOff d (joined a w)
  cut_before d w g =
      let f = g.is in
      record {
        front = g.front;
        is = record {
          steps = (f.steps.0 ++ w.steps, ap (λ z. z ++ w.steps) f.steps.1 ∙ append_assoc g.front.steps f.steps.0 w.steps);
          drawn = (f.drawn.0 ++ w.drawn, ap (λ z. z ++ w.drawn) f.drawn.1 ∙ append_assoc g.front.drawn f.drawn.0 w.drawn);
          rings = (f.rings.0 ++ w.rings, ap (λ z. z ++ w.rings) f.rings.1 ∙ append_assoc g.front.rings f.rings.0 w.rings);
          published = inl (elim f.published [ inl e ↦ e | inr e ↦ e ∙ published ]);
          unnoted = f.unnoted;
        };
        given = g.given;
      }

joined-idle : (d : Course) → joined d idle ≡ d
joined-idle d = Course-eq (joined d idle) d (append-nil d.steps) (append-nil d.drawn) (append-nil d.rings) refl (omega arith)

-- the course of a lawful way that comes to the ring or the refusal; or, for want of memory, one that
-- was cut off
pub data WayGives (c : Call) (result : Result RingOf Refusal) (d : Course) : Type 0 where
  gone : (x : Way) → IsWay c x → InLineWay c x → way_end c x ≡ result → d ≡ way_course c x → WayGives c result d
  gone_stopped : (x : Way) → IsWay c x → InLineWay c x → result ≡ Err Memory → IsCutOff d (way_course c x) → WayGives c result d

-- a path, and what settles it
settled_way : (c : Call) (r : RingOf) (result : Result RingOf Refusal) (d e : Course) → PathGives c (Ok r) d → SettleGives c d.steps r result e → WayGives c result (joined d e)
settled_way c r result d e (went p is l en q) (settled x isx lx ex qx) =
    gone (Comes p r x) (is, en, subst (λ (y : Course). IsSettled c y.steps r x) q isx) (l, lx) ex (rw (q, qx) refl)
settled_way c r result d e (went p is l en q) (settle_stopped t m lt ex g) =
    let m' = subst (λ (y : Course). IsSettled c y.steps r (Again t)) q m in
    let a = path_course c p in
    let quiet = path_quiet c p r en (misses-unread c a.steps r m'.0) in
    gone_stopped (Comes p r (Again t)) (is, en, m') (l, lt) ex (rw q (cut_behind a quiet.published (path_noted c p) e (settle_course c (Again t)) (path_free c p) g))
settled_way c r result d e (stopped p is l en g) y = cc

-- the call of a host
abbrev call_of : At → Option KeyId → Option (List Element) → Option (List Element) → NodeFacts → List Element → Option Sight → Call
call_of at missing before told facts own single = record {
  terms = terms at.now facts.options false before told;
  need = at.need;
  missing = missing;
  opened_at = facts.opened_at;
  own = own;
  single = single;
}

-- a call comes to a ring, over the repository as it then is, and settles it
module _ (at : At) (missing : Option KeyId) (before told told' : Option (List Element)) (h0 h1 h2 : HostState) (steps steps' : List Step) (st0 st1 st2 : Store) (w0 w1 w2 : DrawState) (r : RingOf) (result : Result RingOf Refusal) where
  -- what settles it, and that nothing is read where nothing is missing
  abbrev Settled : List Step → NodeFacts → List Element → Course → Type 0
  Settled s facts own e =
      SettleGives (call_of at missing before told' facts own h1.single) s r result e
      × (misses (call_of at missing before told' facts own h1.single) s r ≡ false → told' ≡ told)

  settled_by : (b : Bool) (d e : Course) → misses (call at missing h0 before told') d.steps r ≡ b → h1.single ≡ option_map (shown_by d) h0.single → PathGives (call at missing h0 before told) (Ok r) d → Settled d.steps h0.facts h0.own e → WayGives (call at missing h0 before told') result (joined d e)
  settled_by true d e m o p s =
      let x = call at missing h0 before told' in
      let unread = misses-unread x d.steps r m in
      let p' = path_told x told r d unread p in
      settled_way x r result d e p' (settle_single x h1.single d.steps r result e (λ _. o ∙ path_shown x r d p' unread h0.single) s.0)
  settled_by false d e m o p s =
      let x = call at missing h0 before told' in
      let p' = subst (λ (t : Option (List Element)). PathGives (call at missing h0 before t) (Ok r) d) (sym (s.1 m)) p in
      settled_way x r result d e p' (settle_single x h1.single d.steps r result e (λ n. cc (m, n)) s.0)

  pub settled_does : Does (PathGives (call at missing h0 before told) (Ok r)) (books [] h0 st0 w0) (books steps h1 st1 w1) → Does (SettleGives (call at missing h1 before told') steps r result) (books steps h1 st1 w1) (books steps' h2 st2 w2) → h1.own ≡ h0.own → (misses (call at missing h1 before told') steps r ≡ false → told' ≡ told) → Does (WayGives (call at missing h0 before told') result) (books [] h0 st0 w0) (books steps' h2 st2 w2)
  settled_does d e own same =
      let s1 : Settled d.course.steps h1.facts h1.own e.course = subst (λ (s : List Step). Settled s h1.facts h1.own e.course) d.recorded.steps (e.is, same) in
      let s2 : Settled d.course.steps h0.facts h1.own e.course = subst (λ (f : NodeFacts). Settled d.course.steps f h1.own e.course) d.recorded.facts s1 in
      let s3 : Settled d.course.steps h0.facts h0.own e.course = subst (λ (o : List Element). Settled d.course.steps h0.facts o e.course) own s2 in
      record {
        course = joined d.course e.course;
        recorded = recorded-joined d.course e.course (books [] h0 st0 w0) (books steps h1 st1 w1) (books steps' h2 st2 w2) d.recorded e.recorded;
        is = settled_by _ d.course e.course refl d.recorded.single d.is s3;
      }

-- behind a way the turn is free
way_free : (c : Call) (x : Way) → holds false (way_course c x).steps ≡ false
way_free c (Comes p r x) = holds-append false (path_course c p).steps (settle_course c x).steps ∙ ap (λ b. holds b (settle_course c x).steps) (path_free c p) ∙ settle_free c x
way_free c (Fails p) = path_free c p

pub way_noted : (c : Call) (x : Way) → (way_course c x).unnoted ≡ 0
way_noted c (Comes p r x) = omega (arith, path_noted c p, settle_noted c x)
way_noted c (Fails p) = path_noted c p

-- what want number a pass may be told
any_want : (o : Option Sight) → (n : ℕ) × IfSome o (λ one. n ≡ one.want)
any_want None = (0, tt)
any_want (Some one) = (one.want, refl)

module _ (c : Call) where
  -- a path that was cut off is that of a way that was
  comes_cut : (p : Path) (r : RingOf) (d : Course) (b : Bool) → misses c (path_course c p).steps r ≡ b → IsPath c p → InLine c p → path_end c p ≡ Ok r → IsCutOff d (path_course c p) → (x : Way) × IsWay c x × InLineWay c x × IsCutOff d (way_course c x)
  comes_cut p r d false m is l e g = (Comes p r Keeps, (is, e, m), (l, tt), subst (IsCutOff d) (sym (joined-idle (path_course c p))) g)
  comes_cut p r d true m is l e g =
      let n = any_want c.single in
      let t = LookFailed n.0 in
      let quiet = path_quiet c p r e (misses-unread c (path_course c p).steps r m) in
      (Comes p r (Again t), (is, e, (m, n.1)), (l, tt), cut_before (path_course c p) quiet.published (path_noted c p) d (settle_course c (Again t)) g)

  path_cut : (p : Path) (d : Course) (end : Result RingOf Refusal) → path_end c p ≡ end → IsPath c p → InLine c p → IsCutOff d (path_course c p) → (x : Way) × IsWay c x × InLineWay c x × IsCutOff d (way_course c x)
  path_cut p d (Ok r) e is l g = comes_cut p r d _ refl is l e g
  path_cut p d (Err why) e is l g = (Fails p, (is, why, e), l, g)

  refused_by : (x : Way) (why : Refusal) (d : Course) → IsWay c x → InLineWay c x → way_end c x ≡ Err why → d ≡ way_course c x → CallPath c (Err why) c.own d
  refused_by x why d is l e q =
      complete x is l (ap (answered c.need) e) (sym (ap (own_after c.own) e))
      (q ∙ ap (λ (z : List Step). record (way_course c x) { steps = z }) (sym (append-nil (way_course c x).steps)) ∙ ap (λ (z : Result RingOf Refusal). closed (way_course c x) (answer_steps z)) (sym e))

  -- a call that is refused on its path
  pub path_failed : (why : Refusal) (d : Course) → PathGives c (Err why) d → CallPath c (Err why) c.own d
  path_failed why d (went p is l e q) = refused_by (Fails p) why d (is, why, e) l e q
  path_failed why d (stopped p is l e g) = let x = path_cut p d _ refl is l g in cut_off x.0 x.1 x.2 e refl x.3

  pub call_answered : (r : RingOf) (d : Course) → WayGives c (Ok r) d → CallPath c (answered c.need (Ok r)) r.list (closed d (Answer ∷ []))
  call_answered r d (gone x is l e q) =
      complete x is l (ap (answered c.need) e) (sym (ap (own_after c.own) e)) (ap (λ (y : Course). closed y (Answer ∷ [])) q ∙ ap (λ (z : Result RingOf Refusal). closed (way_course c x) (answer_steps z)) (sym e))
  call_answered r d (gone_stopped x is l e g) = cc

  pub call_refused : (why : Refusal) (d : Course) → WayGives c (Err why) d → CallPath c (Err why) c.own d
  call_refused why d (gone x is l e q) = refused_by x why d is l e q
  call_refused why d (gone_stopped x is l e g) = cut_off x is l e refl g

  -- no memory was found for the list of the ring
  pub call_lost : (r : RingOf) (d : Course) → WayGives c (Ok r) d → CallPath c (Err Memory) c.own d
  call_lost r d (gone x is l e q) =
      rw q (cut_off x is l refl refl (free_cut (way_course c x) (way_course c x) (way_free c x) (front_whole (way_course c x) (omega (arith, way_noted c x)))))
  call_lost r d (gone_stopped x is l e g) = cc

lt-leb : (m n : ℕ) → n < m → nat_le m n ≡ false
lt-leb m n h = grind (arith, nat_tests)

pub answered-enough : (need : ℕ) (r : RingOf) → need ≤ length r.list → answered need (Ok r) ≡ Ok r
answered-enough need r h = rw (le-leb need (length r.list) h) refl

pub answered-behind : (need : ℕ) (r : RingOf) → length r.list < need → answered need (Ok r) ≡ Err (Behind (length r.list) need)
answered-behind need r h = rw (lt-leb need (length r.list) h) refl
