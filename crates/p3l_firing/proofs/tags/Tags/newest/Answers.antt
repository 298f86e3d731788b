use Rattle.std.proofs.Common.{◌≡◌, ◌<◌, ◌-◌, ℕ, List, length, get_or, arith, ap, ◌∙◌}
use Rattle.p3l_firing.specs.Token.{first_tag}
use Rattle.p3l_firing.proofs.TagLaw.{first-reverse, first-none}
use Rattle.p3l_firing.proofs.tags.Tags.newest.Goals as goal

pub returns-then-items-eq0 : goal.returns-then-items-eq0
returns-then-items-eq0 c =
    let none : length c.self.inside.items.items ≡ 0 = omega (arith, c.if-items-eq0.true, ap (λ (xs : List ℕ). length xs) c.as_slice-items.ensures.value) in
    first-none c.self.inside.items.items none ∙ ap first_tag c.self.view_is

pub returns-else-items-eq0 : goal.returns-else-items-eq0
returns-else-items-eq0 c =
    let some : 0 < length c.self.inside.items.items = omega (arith, c.if-items-eq0.false, ap (λ (xs : List ℕ). length xs) c.as_slice-items.ensures.value) in
    ap (λ xs. get_or xs (length xs - 1) 0) c.as_slice-items.ensures.value ∙ first-reverse c.self.inside.items.items some ∙ ap first_tag c.self.view_is
