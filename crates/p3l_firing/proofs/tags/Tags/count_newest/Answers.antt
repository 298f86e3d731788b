use Rattle.std.proofs.Common.{◌-◌, ◌+◌, [], ◌∷◌, ◌++◌, ℕ, List, length, length-take, reverse, arith, sym, ap, ◌∙◌}
use Rattle.p3l_firing.specs.Token.{first_tag, next_tag}
use Rattle.p3l_firing.proofs.TagLaw.{next-popped, next-none}
use Rattle.p3l_firing.proofs.tags.Tags.count_newest.Goals as goal

pub push-requires : goal.push-requires
push-requires c =
    let long = ap (λ (xs : List ℕ). length xs) c.as_slice.ensures.value in
    let fits = c.as_slice.ensures.fits in
    let some = c.if-as_slice-gt0.true in
    let shorter = ap (λ (xs : List ℕ). length xs) c.pop-newest.ensures.rest ∙ length-take (length c.self.inside.items.items - 1) c.self.inside.items.items in
    (omega arith, omega (arith, long, fits, some, shorter))

pub returns-then-as_slice-gt0 : goal.returns-then-as_slice-gt0
returns-then-as_slice-gt0 c =
    let long = ap (λ (xs : List ℕ). length xs) c.as_slice.ensures.value in
    let some = c.if-as_slice-gt0.true in
    let shorter = ap (λ (xs : List ℕ). length xs) c.pop-newest.ensures.rest ∙ length-take (length c.self.inside.items.items - 1) c.self.inside.items.items in
    let newest = c.newest-newest.ensures ∙ ap first_tag (sym c.self.view_is) in
    ap (λ (xs : List ℕ). reverse xs) (c.push.ensures.items ∙ ap (λ n. c.pop-newest.new.self.items ++ (n + 1) ∷ []) newest)
    ∙ next-popped c.self.inside.items.items c.pop-newest.new.self.items c.pop-newest.result c.pop-newest.ensures.items (omega (arith, long, some, shorter))
    ∙ ap next_tag c.self.view_is

pub returns-else-as_slice-gt0 : goal.returns-else-as_slice-gt0
returns-else-as_slice-gt0 c =
    let long = ap (λ (xs : List ℕ). length xs) c.as_slice.ensures.value in
    let none = c.if-as_slice-gt0.false in
    sym c.self.view_is ∙ next-none c.self.inside.items.items (omega (arith, long, none)) ∙ ap next_tag c.self.view_is
