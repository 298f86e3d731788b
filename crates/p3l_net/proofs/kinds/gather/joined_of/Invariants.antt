use Rattle.std.proofs.Common.{◌≡◌, drop, length}
use Rattle.std.specs.List.{All}
use Rattle.p3l_base.specs.Cut.{element_size, joined_words}
use Rattle.p3l_skel.specs.Item.{gathered}
use Rattle.p3l_firing.specs.Token.{bodies}
use Rattle.p3l_net.proofs.Joining.{gathered_from}
use Rattle.p3l_net.proofs.kinds.gather.joined_of.Given as goal

abbrev pub invariant-loop-token : goal.invariant-loop-token
invariant-loop-token l =
    record {
      same : gathered_from (joined_words l.cut) l.results (drop l.token-index l.held) ≡ gathered (joined_words l.cut) (bodies l.held);
      count : length l.results ≡ l.token-index;
      sized : All (λ words. length words ≡ element_size l.cut.outs) l.results;
    }
