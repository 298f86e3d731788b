use Rattle.std.proofs.Common.{◌&&◌, sym, ap₂, ◌∙◌}
use Rattle.p3l_net.proofs.step.Run.{in_there, out_there, is_ready}
use Rattle.p3l_net.proofs.store.Store.can_run.Goals as goal

pub has_token-comes-requires : goal.has_token-comes-requires
has_token-comes-requires c = in_there c.requires.sound c.requires.run

pub has_room-room-requires : goal.has_room-room-requires
has_room-room-requires c = out_there c.requires.sound c.requires.run

pub returns : goal.returns
returns c = ap₂ (λ a b. a && b) c.has_token-comes.ensures c.has_room-room.ensures ∙ sym (is_ready c.requires.sound c.requires.run)
