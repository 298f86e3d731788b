use Rattle.std.proofs.Common.{nat_le, List, length, ap, ap₂}
use Rattle.p3l_firing.specs.declared.token.Token.{Token}
use Rattle.p3l_firing.specs.kinds.FoldGather.{is_full}
use Rattle.p3l_net.proofs.store.Store.has_all_outcomes.Goals as goal

pub returns : goal.returns
unfolding is_full
returns c = ap₂ nat_le c.len.ensures (ap (λ (xs : List Token). length xs) c.held.ensures)
