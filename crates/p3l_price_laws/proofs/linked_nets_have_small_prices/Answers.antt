use Rattle.p3l_price_laws.proofs.SmallPrices.{linked_small}
use Rattle.p3l_price_laws.proofs.linked_nets_have_small_prices.Goals as goal

pub returns : goal.returns
returns c = λ tree costs counts cap priced typed. linked_small tree costs typed.lawful priced counts cap typed
