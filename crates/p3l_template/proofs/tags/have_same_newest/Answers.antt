use Rattle.std.proofs.Common.{◌&&◌, nat_eq, ap₂}
use Rattle.p3l_template.proofs.tags.have_same_newest.Goals as goal

pub returns : goal.returns
returns c = ap₂ (λ x y. x && y) c.has_tag.ensures (ap₂ (λ m n. nat_eq m n) c.newest.ensures c.newest-2.ensures)
