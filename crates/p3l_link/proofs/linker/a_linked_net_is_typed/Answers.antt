use Rattle.p3l_link.proofs.Typing.{net_typed}
use Rattle.p3l_link.proofs.linker.a_linked_net_is_typed.Goals as goal

pub returns : goal.returns
returns c = λ tree counts cap lawful lawfully few pos. net_typed tree counts cap pos lawful lawfully few
