use Rattle.dp_protector.proofs.Forms.{payload-one}
use Rattle.dp_protector.proofs.Texts.{open_parts-is, open_parts-opens}
use Rattle.dp_protector.proofs.law.texts_are_exact.Goals as goal

pub returns-clause-body : goal.returns-clause-body
returns-clause-body c =
    λ alg keys parts text len iv bytes. (open_parts-opens alg keys parts text len iv bytes, λ h. open_parts-is alg keys parts text len iv h.1 h.0)

pub returns-clause-payload : goal.returns-clause-payload
returns-clause-payload c = payload-one
