use Rattle.std.proofs.Common.{◌≡◌, ◌<◌, ℕ, List, [], ◌∷◌, ◌&&◌, not, nat_eq, length, true, false, refl, sym, ap, ap₂, ◌∙◌, arith}
use Rattle.p3l_firing.specs.Lists.{has_first}
use Rattle.p3l_firing.specs.Token.{first_tag, later_tags, same_tags}
use Rattle.p3l_template.proofs.tags.have_same_tags.Goals as goal

shorter : (ts : List ℕ) → has_first ts ≡ true → length (later_tags ts) < length ts
unfolding later_tags
shorter [] h = cc
shorter (t ∷ ts) h = omega arith

next_same : (ts us : List ℕ) → has_first ts ≡ true →
    same_tags ts us ≡ ((has_first us && nat_eq (first_tag ts) (first_tag us)) && same_tags (later_tags ts) (later_tags us))
unfolding same_tags first_tag later_tags
next_same [] us h = cc
next_same (t ∷ ts) [] h = refl
next_same (t ∷ ts) (u ∷ us) h = refl

none_same : (ts us : List ℕ) → has_first ts ≡ false → same_tags ts us ≡ not (has_first us)
unfolding same_tags
none_same [] [] h = refl
none_same [] (u ∷ us) h = refl
none_same (t ∷ ts) us h = cc

pub loop-ones-init : goal.loop-ones-init
loop-ones-init c = sym (ap₂ (λ ts us. same_tags ts us) c.copy-ones.ensures c.copy-others.ensures)

pub returns-then-not-have_same_newest : goal.returns-then-not-have_same_newest
returns-then-not-have_same_newest c =
    let some = sym c.has_tag.ensures ∙ c.loop-ones-test.true in
    let no = sym c.have_same_newest.ensures ∙ c.if-not-have_same_newest.true in
    sym (c.loop-ones.invariant ∙ next_same c.loop-ones.ones c.loop-ones.others some
    ∙ ap (λ b. b && same_tags (later_tags c.loop-ones.ones) (later_tags c.loop-ones.others)) no)

pub loop-ones-preserved : goal.loop-ones-preserved
loop-ones-preserved c =
    let some = sym c.has_tag.ensures ∙ c.loop-ones-test.true in
    let yes = sym c.have_same_newest.ensures ∙ c.if-not-have_same_newest.false in
    c.loop-ones.invariant ∙ next_same c.loop-ones.ones c.loop-ones.others some
    ∙ ap (λ b. b && same_tags (later_tags c.loop-ones.ones) (later_tags c.loop-ones.others)) yes
    ∙ sym (ap₂ (λ ts us. same_tags ts us) c.drop_newest.ensures c.drop_newest-in-loop-ones.ensures)

pub loop-ones-smaller : goal.loop-ones-smaller
loop-ones-smaller c =
    let less = shorter c.loop-ones.ones (sym c.has_tag.ensures ∙ c.loop-ones-test.true) in
    let e = ap length c.drop_newest.ensures in
    omega (arith, less, e)

pub returns : goal.returns
returns c =
    let none = sym c.has_tag.ensures ∙ c.loop-ones-test.false in
    ap not c.has_tag-2.ensures ∙ sym (c.loop-ones.invariant ∙ none_same c.loop-ones.ones c.loop-ones.others none)
