use Rattle.std.proofs.Common.{◌<◌, ◌-◌, ℕ, List, length, get_or, arith, ap, ◌∙◌}
use Rattle.p3l_firing.specs.Token.{first_tag, later_tags}
use Rattle.p3l_firing.proofs.TagLaw.{second-reverse, second-none}
use Rattle.p3l_firing.proofs.tags.Tags.second.Goals as goal

pub returns-then-items-lt2 : goal.returns-then-items-lt2
returns-then-items-lt2 c =
    let few : length c.self.inside.items.items < 2 = omega (arith, c.if-items-lt2.true, ap (λ (xs : List ℕ). length xs) c.as_slice-items.ensures.value) in
    second-none c.self.inside.items.items few ∙ ap (λ tags. first_tag (later_tags tags)) c.self.view_is

pub returns-else-items-lt2 : goal.returns-else-items-lt2
returns-else-items-lt2 c =
    let some : 1 < length c.self.inside.items.items = omega (arith, c.if-items-lt2.false, ap (λ (xs : List ℕ). length xs) c.as_slice-items.ensures.value) in
    ap (λ xs. get_or xs (length xs - 2) 0) c.as_slice-items.ensures.value ∙ second-reverse c.self.inside.items.items some ∙ ap (λ tags. first_tag (later_tags tags)) c.self.view_is
