-- What a session's loans hand back.
use Rattle.std.proofs.Common.{◌≡◌, ℕ, List, Option, false}
use Rattle.dp_base.specs.Draws.{DrawState}
use Rattle.key_elements.specs.declared.element.Element.{Element}
use Rattle.repo_keeper.specs.Store.{Store}
use Rattle.node_calls.specs.HostState.{HostState}
use Rattle.dp_session.specs.declared.end.BadPlace.{BadPlace}
use Rattle.dp_session.specs.declared.status.Status.{Status}
use Rattle.dp_answer.specs.declared.trace.Entry.{Entry}
use Rattle.dp_answer.specs.Serving.{state}
use Rattle.dp_session.specs.Session.{Outside, outside, SoFar, IsSession}

pub free_back : {H : Type 0} (host : H → HostState) (h : H) {h' : H} → h' ≡ h → (host h).held ≡ false → (host h').held ≡ false
free_back host h p f = rw p f

pub so_far_back : (app : List ℕ) (old : Outside) (place : ℕ) (i o : Option (List ℕ)) (es : List Entry) (l : List Element) (h : HostState) (s : Store) (d : DrawState) (m : Option (List ℕ)) {h' : HostState} {s' : Store} {d' : DrawState} {m' : Option (List ℕ)}
    → h' ≡ h → s' ≡ s → d' ≡ d → m' ≡ m → SoFar app old (outside i o (state h s d m) es l) place → SoFar app old (outside i o (state h' s' d' m') es l) place
so_far_back app old place i o es l h s d m p q r t x = rw (p, q, r, t) x

pub session_back : (app : List ℕ) (end : Status) (bad : Option BadPlace) (old : Outside) (i o : Option (List ℕ)) (es : List Entry) (l : List Element) (h : HostState) (s : Store) (d : DrawState) (m : Option (List ℕ)) {h' : HostState} {s' : Store} {d' : DrawState} {m' : Option (List ℕ)}
    → h' ≡ h → s' ≡ s → d' ≡ d → m' ≡ m → IsSession app end bad old (outside i o (state h s d m) es l) → IsSession app end bad old (outside i o (state h' s' d' m') es l)
session_back app end bad old i o es l h s d m p q r t x = rw (p, q, r, t) x
