use Rattle.std.proofs.Common.{◌≡◌, ◌<◌, ℕ, List, [], ◌∷◌, suc, true, nat_lt, refl, ap, ◌∙◌, subst, arith, lt-ltb}
use Rattle.p3l_firing.specs.Lists.{has_first}
use Rattle.p3l_firing.specs.Token.{first_tag, next_tag}
use Rattle.p3l_template.proofs.tags.has_tag.Goals as goal

some : (tags : List ℕ) → 0 < first_tag tags → true ≡ has_first tags
unfolding first_tag
some [] above = absurd (omega (arith, above))
some (tag ∷ tags) above = refl

decides : (tags : List ℕ) → first_tag tags ≡ 0 → nat_lt 0 (first_tag (next_tag tags)) ≡ has_first tags
unfolding first_tag next_tag
decides [] none = refl
decides (tag ∷ tags) none = lt-ltb 0 (suc tag) (omega arith)

pub returns-then-newest-gt0 : goal.returns-then-newest-gt0
returns-then-newest-gt0 c = some c.args.tags.now (subst (λ n. 0 < n) c.newest.ensures c.if-newest-gt0.true)

pub returns : goal.returns
returns c =
    let none : first_tag c.args.tags.now ≡ 0 = omega (arith, c.newest.ensures, c.if-newest-gt0.false) in
    ap (λ n. nat_lt 0 n) (c.newest-2.ensures ∙ ap first_tag c.count_newest.ensures ∙ ap (λ tags. first_tag (next_tag tags)) c.copy-counted.ensures)
    ∙ decides c.args.tags.now none
