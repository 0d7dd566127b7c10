-- A run whose node was opened, and whose session wasn't begun for want of memory.
use Rattle.std.proofs.Common.{◌≡◌, ℕ, List, [], None, refl}
use Rattle.node_calls.specs.HostState.{HostState}
use Rattle.dp_session.specs.declared.status.Status.TheVariants as status
use Rattle.dp_answer.specs.Serving.{state}
use Rattle.dp_session.specs.Session.{outside}
use Rattle.dp_session.proofs.Freshness.{chain_counts}
use Rattle.dp_session.proofs.Sessions.{so_far-none, session_ends}
use Rattle.dp_session.proofs.Shut.{are_shut}
use Rattle.dp_server.specs.declared.outcome.Outcome.{Outcome}
use Rattle.dp_server.specs.Pipe.{Around, IsServed}

pub unserved : (app : List ℕ) (host : HostState) (end : Outcome) (a : Around) → end.status ≡ status.NoMemory → end.bad ≡ None → end.trace.entries ≡ [] → end.trace.list ≡ [] → IsServed app host end a a
unserved app host end a s b e l =
    let before = state host a.store a.draws a.moments in
    let o = outside a.input a.output before [] [] in
    rw (s, b, e, l) (record {
      host_after = host;
      session = session_ends app status.NoMemory None o o o 0 (so_far-none app a.input a.output before) (record { output = refl; state = refl; entries = refl; list = refl }, refl, refl);
      fresh = tt;
      counted = chain_counts [] [] before before refl;
      shut = λ bodies. are_shut app bodies [] [] 0 tt;
    })
