use Rattle.std.proofs.Common.{length}
use Rattle.dp_server.specs.Words.{Settings}
use Rattle.dp_server.specs.Commands.{settings_of}
use Rattle.dp_server.proofs.Lawful.{texts}
use Rattle.dp_server.proofs.Options.{Leads, start}
use Rattle.dp_server.proofs.words.options_of.Given as goal

-- the rest leads from what is told to where all the words lead
abbrev pub invariant-loop-rest : goal.invariant-loop-rest
invariant-loop-rest l = record {
  into : (to : Settings) → Leads (settings_of l.told) (texts l.rest) to → Leads start (texts l.words) to;
  back : (to : Settings) → Leads start (texts l.words) to → Leads (settings_of l.told) (texts l.rest) to;
}

abbrev pub decreases-loop-rest : goal.decreases-loop-rest
decreases-loop-rest l = length l.rest
