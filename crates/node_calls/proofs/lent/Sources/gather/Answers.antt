use Rattle.std.proofs.Common.{◌+◌, ◌≡◌, ℕ, List, length, refl, true, false, sym, ap, ◌∙◌, Option, Ok, Err}
use Rattle.std.proofs.lemmas.Result.{err_from_is_err_and}
use Rattle.key_elements.specs.declared.element.Element.{Element}
use Rattle.key_ring.specs.Ring.{RingOf, ring_of, preferred_key}
use Rattle.dp_base.specs.Codes.{code_of}
use Rattle.repo_keeper.specs.Made.{key_of_draw}
use Rattle.repo_keeper.specs.Store.{Grows}
use Rattle.ring_world.specs.Flight.{Terms, makes_key, new_key, jitter_of, activation_of}
use Rattle.node_calls.specs.HostState.{HostState}
use Rattle.node_calls.specs.Books.{books, Does}
use Rattle.node_calls.specs.Gather.{refusal, goes_on}
use Rattle.node_calls.specs.Calls.{terms}
use Rattle.node_calls.proofs.Books.{chain, as_kind, Grows-trans}
use Rattle.node_calls.proofs.Flights.{BeganKey, began_word, began_key, appends_at, reads_gathers, draw_gathers, plain_gathers, ring_lost, key_gathers, keyed_gathers, keyed_lost, full_gathers, append_gathers}
use Rattle.node_calls.proofs.Renewal.{made-good}
use Rattle.node_calls.proofs.lent.Sources.gather.Given.{Over}
use Rattle.node_calls.proofs.lent.Sources.gather.Goals.{In_ok-key}
use Rattle.node_calls.proofs.lent.Sources.gather.Goals as goal

-- a key was made of the list read
module _ (g : Over) (c : In_ok-key g) (before : Option (List Element)) where
  -- the repository's list after the read, where it is told
  abbrev told : Option (List Element)
  told = (g.R.Repo.store c.read_on.new.repo).list

  -- the flight's terms, where this is that list at the end
  abbrev under : Option (List Element) → Terms
  under last = terms c.args.now c.args.options.now c.args.opening before last

  ring : c.in_ok-ring.ring ≡ ring_of c.in_ok-list.list c.args.now (jitter_of c.in_ok-word.word)
  ring = c.in_ok-ring.ensures ∙ ap (ring_of c.in_ok-list.list c.args.now) c.jitter_of-jitter.ensures.value

  list : c.in_ok-ring.ring.list ≡ c.in_ok-list.list
  list = ap (λ (r : RingOf). r.list) ring

  makes : (last : Option (List Element)) → makes_key (under last) c.in_ok-list.list ≡ true
  makes last =
      ap (makes_key (under last)) (sym list) ∙ sym (c.makes_key.ensures c.args.now c.args.opening before last (ap (λ (r : RingOf). r.made_at) ring)) ∙ c.if-not-makes_key.false

  eight : HostState → length c.in_ok-word.word ≡ 8
  eight host = (c.in_ok-word.ensures.did host (g.R.Repo.store c.read_on.new.repo)).is.0

  activated : c.activation_of-activation.result ≡ activation_of c.args.now (preferred_key c.in_ok-list.list c.args.now)
  activated = c.activation_of-activation.ensures ∙ ap (λ (x : List Element). activation_of c.args.now (preferred_key x c.args.now)) list

  -- the key of bytes that are drawn for its activation
  abbrev key_at : ℕ → List ℕ → Element
  key_at activation b = key_of_draw b c.args.now activation (c.args.now + c.args.options.now.lifetime) (code_of c.args.options.now.new_alg)

  drawn : (host : HostState) → Does (BeganKey told c.args.base.now c.in_ok-list.list c.in_ok-word.word (key_at c.activation_of-activation.result) c.in_ok-key.key)
      (books c.args.self.now.steps.now host (g.R.Repo.store c.args.self.now.repo.now) (g.D.Draw.draws c.args.self.now.draw.now)) (books c.draw_key.new.steps host (g.R.Repo.store c.read_on.new.repo) (g.D.Draw.draws c.draw_key.new.draw))
  drawn host =
      let begun = chain (c.in_ok-list.ensures.did host _) (c.in_ok-word.ensures.did host _) (began_word told c.args.base.now c.in_ok-list.list c.in_ok-word.word) in
      let good = made-good (under told) c.in_ok-list.list c.activation_of-activation.result (makes told) activated c.requires.moment in
      chain begun (c.in_ok-key.ensures.did good host _) (began_key told c.args.base.now c.in_ok-list.list c.in_ok-word.word (key_at c.activation_of-activation.result) c.in_ok-key.key)

  since_read : HostState → Grows before (g.R.Repo.store c.args.self.now.repo.now).list → Grows before told
  since_read host since =
      Grows-trans before _ told since (c.in_ok-list.ensures.did host (g.D.Draw.draws c.args.self.now.draw.now)).recorded.store.list

  -- it is the one that the paths make
  made : (last : Option (List Element)) (b : List ℕ) → c.in_ok-key.key ≡ key_at c.activation_of-activation.result b → c.in_ok-key.key ≡ new_key (under last) c.in_ok-list.list b
  made last b is = is ∙ ap (λ (a : ℕ). key_at a b) activated

pub returns-in_err-list-clause-did : goal.returns-in_err-list-clause-did
returns-in_err-list-clause-did g c = λ host before since.
    let t = terms c.args.now c.args.options.now c.args.opening before (g.R.Repo.store c.read_on.new.repo).list in
    let p = err_from_is_err_and c.from_residual.result c.from_residual.ensures.1 in
    let d = c.in_err-list.ensures.did host (g.D.Draw.draws c.args.self.now.draw.now) in
    rw (p.1, p.2) (as_kind d (reads_gathers t c.args.base.now (Grows-trans before _ _ since d.recorded.store.list) (refusal c.in_err-list.field-0.0)))

pub returns-in_err-word-clause-did : goal.returns-in_err-word-clause-did
returns-in_err-word-clause-did g c = λ host before since.
    let told = (g.R.Repo.store c.read_on.new.repo).list in
    let t = terms c.args.now c.args.options.now c.args.opening before told in
    let p = err_from_is_err_and c.from_residual-in_err-word.result c.from_residual-in_err-word.ensures.1 in
    let d = c.in_ok-list.ensures.did host (g.D.Draw.draws c.args.self.now.draw.now) in
    rw (p.1, p.2) (chain d (c.in_err-word.ensures.did host _) (draw_gathers t c.args.base.now (Grows-trans before _ told since d.recorded.store.list) c.in_ok-list.list (refusal c.in_err-word.field-0.0)))

pub returns-in_err-ring-clause-did : goal.returns-in_err-ring-clause-did
returns-in_err-ring-clause-did g c = λ host before since.
    let told = (g.R.Repo.store c.read_on.new.repo).list in
    let t = terms c.args.now c.args.options.now c.args.opening before told in
    let es = c.in_ok-list.list in
    let w = c.in_ok-word.word in
    let eight : length w ≡ 8 = (c.in_ok-word.ensures.did host (g.R.Repo.store c.read_on.new.repo)).is.0 in
    let p = err_from_is_err_and c.from_residual-in_err-ring.result c.from_residual-in_err-ring.ensures.1 in
    let d = c.in_ok-list.ensures.did host (g.D.Draw.draws c.args.self.now.draw.now) in
    let later = Grows-trans before _ told since d.recorded.store.list in
    let begun = chain d (c.in_ok-word.ensures.did host _) (began_word told c.args.base.now es w) in
    rw (p.1, p.2) (as_kind begun (λ d q. ring_lost t c.args.base.now later es w d (makes_key t es) refl eight q))

pub returns-then-not-makes_key-clause-did : goal.returns-then-not-makes_key-clause-did
returns-then-not-makes_key-clause-did g c = λ host before since.
    let told = (g.R.Repo.store c.read_on.new.repo).list in
    let t = terms c.args.now c.args.options.now c.args.opening before told in
    let es = c.in_ok-list.list in
    let w = c.in_ok-word.word in
    let eight : length w ≡ 8 = (c.in_ok-word.ensures.did host (g.R.Repo.store c.read_on.new.repo)).is.0 in
    let ring : c.in_ok-ring.ring ≡ ring_of es c.args.now (jitter_of w) = c.in_ok-ring.ensures ∙ ap (ring_of es c.args.now) c.jitter_of-jitter.ensures.value in
    let list = ap (λ (r : RingOf). r.list) ring in
    let makes : makes_key t es ≡ false = ap (makes_key t) (sym list) ∙ sym (c.makes_key.ensures c.args.now c.args.opening before told (ap (λ (r : RingOf). r.made_at) ring)) ∙ c.if-not-makes_key.true in
    let d = c.in_ok-list.ensures.did host (g.D.Draw.draws c.args.self.now.draw.now) in
    let later = Grows-trans before _ told since d.recorded.store.list in
    let begun = chain d (c.in_ok-word.ensures.did host _) (began_word told c.args.base.now es w) in
    rw ring (as_kind begun (λ d q. plain_gathers t c.args.base.now later es w d makes eight q))

pub returns-in_err-key-clause-did : goal.returns-in_err-key-clause-did
returns-in_err-key-clause-did g c = λ host before since.
    let told = (g.R.Repo.store c.read_on.new.repo).list in
    let t = terms c.args.now c.args.options.now c.args.opening before told in
    let es = c.in_ok-list.list in
    let w = c.in_ok-word.word in
    let eight : length w ≡ 8 = (c.in_ok-word.ensures.did host (g.R.Repo.store c.read_on.new.repo)).is.0 in
    let ring : c.in_ok-ring.ring ≡ ring_of es c.args.now (jitter_of w) = c.in_ok-ring.ensures ∙ ap (ring_of es c.args.now) c.jitter_of-jitter.ensures.value in
    let list = ap (λ (r : RingOf). r.list) ring in
    let makes : makes_key t es ≡ true = ap (makes_key t) (sym list) ∙ sym (c.makes_key.ensures c.args.now c.args.opening before told (ap (λ (r : RingOf). r.made_at) ring)) ∙ c.if-not-makes_key.false in
    let activated = c.activation_of-activation.ensures ∙ ap (λ (x : List Element). activation_of c.args.now (preferred_key x c.args.now)) list in
    let good = made-good t es c.activation_of-activation.result makes activated c.requires.moment in
    let make = λ (b : List ℕ). key_of_draw b c.args.now c.activation_of-activation.result (c.args.now + c.args.options.now.lifetime) (code_of c.args.options.now.new_alg) in
    let d = c.in_ok-list.ensures.did host (g.D.Draw.draws c.args.self.now.draw.now) in
    let later = Grows-trans before _ told since d.recorded.store.list in
    let begun = chain d (c.in_ok-word.ensures.did host _) (began_word told c.args.base.now es w) in
    let p = err_from_is_err_and c.from_residual-in_err-key.result c.from_residual-in_err-key.ensures.1 in
    rw (p.1, p.2) (chain begun (c.in_err-key.ensures.did good host _) (λ d e q k. key_gathers t c.args.base.now later make es w (refusal c.in_err-key.field-0.0) d e makes eight q k))

pub returns-in_err-of-in-Ok-clause-did : goal.returns-in_err-of-in-Ok-clause-did
returns-in_err-of-in-Ok-clause-did g c = λ host before since.
    let k = (goal.at.returns-in_err-of-in-Ok-clause-did g c).In_ok-key in
    let last = (g.R.Repo.store c.append_on.new.repo).list in
    let t = under g k before last in
    let es = c.in_ok-list.list in
    let fs = c.in-Ok.grown in
    let p = err_from_is_err_and c.from_residual-in_err-of-in-Ok.result c.from_residual-in_err-of-in-Ok.ensures.1 in
    let a = c.in-Ok.ensures.did host (g.D.Draw.draws c.draw_key.new.draw) in
    rw (p.1, p.2) (chain (drawn g k before host) a (λ d e q b. keyed_lost t (told g k before) c.args.base.now es c.in_ok-word.word q.0 (since_read g k before host since) a.recorded.store.list (makes g k before last) (eight g k before host) q.2 d e q.3 fs
    (appends_at last es _ (new_key t es q.0) c.in_ok-key.key (Ok fs) e (c.list-2.ensures ∙ list g k before) (made g k before last q.0 q.1) b)))

pub returns-in-Ok-clause-did : goal.returns-in-Ok-clause-did
returns-in-Ok-clause-did g c = λ host before since.
    let k = (goal.at.returns-in-Ok-clause-did g c).In_ok-key in
    let last = (g.R.Repo.store c.append_on.new.repo).list in
    let t = under g k before last in
    let es = c.in_ok-list.list in
    let fs = c.in-Ok.grown in
    let a = c.in-Ok.ensures.did host (g.D.Draw.draws c.draw_key.new.draw) in
    let end : c.in_ok-of-in-Ok.field-0 ≡ ring_of fs c.args.now (jitter_of c.in_ok-word.word) = c.in_ok-of-in-Ok.ensures ∙ ap (ring_of fs c.args.now) c.jitter_of-jitter.ensures.value in
    rw end (chain (drawn g k before host) a (λ d e q b. keyed_gathers t (told g k before) c.args.base.now es c.in_ok-word.word q.0 (since_read g k before host since) a.recorded.store.list (makes g k before last) (eight g k before host) q.2 d e q.3 fs
    (appends_at last es _ (new_key t es q.0) c.in_ok-key.key (Ok fs) e (c.list-2.ensures ∙ list g k before) (made g k before last q.0 q.1) b)))

pub returns-then-goes_on-clause-did : goal.returns-then-goes_on-clause-did
returns-then-goes_on-clause-did g c = λ host before since.
    let k = (goal.at.returns-then-goes_on-clause-did g c).In_ok-key in
    let last = (g.R.Repo.store c.append_on.new.repo).list in
    let t = under g k before last in
    let es = c.in_ok-list.list in
    let why = refusal c.in-Err.why in
    let on : goes_on c.args.opening why ≡ true = sym c.goes_on.ensures ∙ c.if-goes_on.true in
    let a = c.in-Err.ensures.did host (g.D.Draw.draws c.draw_key.new.draw) in
    rw (ring g k before) (chain (drawn g k before host) a (λ d e q b. full_gathers t (told g k before) c.args.base.now es c.in_ok-word.word q.0 (since_read g k before host since) a.recorded.store.list (makes g k before last) (eight g k before host) q.2 d e q.3 why on
    (appends_at last es _ (new_key t es q.0) c.in_ok-key.key (Err why) e (c.list-2.ensures ∙ list g k before) (made g k before last q.0 q.1) b)))

pub returns-clause-did : goal.returns-clause-did
returns-clause-did g c = λ host before since.
    let k = (goal.at.returns-clause-did g c).In_ok-key in
    let last = (g.R.Repo.store c.append_on.new.repo).list in
    let t = under g k before last in
    let es = c.in_ok-list.list in
    let why = refusal c.in-Err.why in
    let on : goes_on c.args.opening why ≡ false = sym c.goes_on.ensures ∙ c.if-goes_on.false in
    let a = c.in-Err.ensures.did host (g.D.Draw.draws c.draw_key.new.draw) in
    chain (drawn g k before host) a (λ d e q b. append_gathers t (told g k before) c.args.base.now es c.in_ok-word.word q.0 (since_read g k before host since) a.recorded.store.list (makes g k before last) (eight g k before host) q.2 d e q.3 why on
    (appends_at last es _ (new_key t es q.0) c.in_ok-key.key (Err why) e (c.list-2.ensures ∙ list g k before) (made g k before last q.0 q.1) b))
