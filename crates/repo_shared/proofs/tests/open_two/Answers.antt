use Rattle.std.proofs.Common.{arith}
use Rattle.repo_shared.specs.Repos.{table_of}
use Rattle.repo_shared.proofs.Makings.{pair_fresh}
use Rattle.repo_shared.proofs.tests.open_two.Goals as goal

pub invariant_of-result : goal.invariant_of-result
invariant_of-result c = let repo = c.in_ok-repo in let p = pair_fresh (table_of repo.repo) repo.links.items c.pop.new.self.items c.pop-2.new.self.items c.in-Some-pop.first c.in-Some.second
    repo.ensures.each repo.ensures.count c.in-Some.ensures.items c.in-Some-pop.ensures.items in record {
      one = p.0.0;
      other = p.1.0;
      numbers = λ e. absurd (omega (arith, e, p.0.1, p.1.1));
    }
