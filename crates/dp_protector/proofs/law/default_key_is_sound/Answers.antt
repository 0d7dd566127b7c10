use Rattle.dp_protector.proofs.Defaults.{default_key-sound, default_key-none}
use Rattle.dp_protector.proofs.law.default_key_is_sound.Goals as goal

pub returns-clause-sound : goal.returns-clause-sound
returns-clause-sound c = λ es t key e. let sound = default_key-sound es t key e in (sound.usable, sound.unrevoked)

pub returns-clause-none : goal.returns-clause-none
returns-clause-none c = λ es t place key e there. default_key-none es t e place key there
