use Rattle.std.proofs.Common.{◌≡◌, ◌+◌, ◌++◌, ◌<◌, ℕ, zero, suc, List, [], ◌∷◌, take, drop, length, refl, subst, sym, ap, ap₂, ◌∙◌, arith}
use Rattle.std.proofs.lemmas.List.{length-replicate}
use Rattle.p3l_firing.specs.At.{at}
use Rattle.p3l_firing.specs.Lists.{first_or, rest_of, has_first}
use Rattle.p3l_firing.specs.Token.{credit}
use Rattle.p3l_map.specs.Map.{spot}
use Rattle.p3l_template.specs.Finding.{bare}
use Rattle.p3l_map.specs.Groups.{left_at}
use Rattle.p3l_map.specs.MapKind.{bare_pieces}
use Rattle.p3l_map.proofs.MapSteps.{IsTaking, turn_below, none_taken_yet, no_turn, next_turn, all_turns}
use Rattle.p3l_map.proofs.found.add_by_turns.Goals as goal

-- a list written over as many numbers is read back
written : (xs ys : List ℕ) (k : ℕ) → length xs ≡ length ys → length ys ≡ k → take k (xs ++ drop (length xs) ys) ≡ xs
written [] [] zero h e = refl
written [] [] (suc k) h e = absurd (omega (arith, e))
written [] (y ∷ ys) k h e = absurd (omega (arith, h))
written (x ∷ xs) [] k h e = absurd (omega (arith, h))
written (x ∷ xs) (y ∷ ys) zero h e = absurd (omega (arith, e))
written (x ∷ xs) (y ∷ ys) (suc k) h e = ap (λ z. x ∷ z) (written xs ys k (omega (arith, h)) (omega (arith, e)))

pub loop-turn-init : goal.loop-turn-init
loop-turn-init c =
    none_taken_yet c.args.number c.args.lines.now c.args.list.now _
    (ap length c.in_ok-taken.ensures ∙ length-replicate (length c.args.lines.now) 0) c.in_ok-taken.ensures

pub take_next-requires-clause-line : goal.take_next-requires-clause-line
take_next-requires-clause-line c =
    subst (λ w. w < length c.args.lines.now) (sym c.line_of_place-line.ensures)
    (turn_below c.args.number c.args.lines.now c.len.result c.requires.lines)

pub returns-then-not-branch-clause-all : goal.returns-then-not-branch-clause-all
returns-then-not-branch-clause-all c =
    let line = c.line_of_place-line.ensures ∙ ap (spot (bare_pieces c.args.number (length c.args.lines.now))) c.len.ensures in
    let none = sym (ap₂ (λ ts w. has_first (left_at c.args.lines.now ts w)) c.as_mut_slice.ensures.value line)
    ∙ sym c.in_ok-take_next.ensures.some ∙ c.if-not-branch.true in
    no_turn c.args.number c.args.lines.now c.args.list.now c.loop-turn._turn c.loop-turn.list c.loop-turn.taken.items c.loop-turn.invariant
    (omega (arith, c.loop-turn-test.true, c.count_tokens-count.ensures)) none

pub loop-turn-preserved : goal.loop-turn-preserved
loop-turn-preserved c =
    let lines = c.args.lines.now in
    let line = c.line_of_place-line.ensures ∙ ap (spot (bare_pieces c.args.number (length c.args.lines.now))) c.len.ensures in
    let value = c.as_mut_slice.ensures.value in
    let yes = c.if-not-branch.false in
    let same : length c.take_next.new.taken ≡ length c.loop-turn.taken.items = c.take_next.ensures.length ∙ ap length value in
    let long : length c.loop-turn.taken.items ≡ c.loop-turn.taken.len =
    omega (arith, c.loop-turn.taken.ok.0, c.as_mut_slice.ensures.len, ap length value) in
    let some = sym (ap₂ (λ ts w. has_first (left_at c.args.lines.now ts w)) value line) ∙ sym c.in_ok-take_next.ensures.some ∙ yes in
    let now = c.in_ok-take_next.ensures.list yes
    ∙ ap₂ (λ ts w. c.loop-turn.list ++ bare (first_or credit (left_at c.args.lines.now ts w)) ∷ []) value line in
    let left = c.in_ok-take_next.ensures.left yes
    ∙ ap₂ (λ ts w. at (left_at c.args.lines.now ts) w (rest_of (left_at c.args.lines.now ts w))) value line in
    subst (λ z. IsTaking c.args.number c.args.lines.now c.args.list.now (c.loop-turn._turn + 1) c.take_next.new.list z)
    (sym (written c.take_next.new.taken c.loop-turn.taken.items c.loop-turn.taken.len same long))
    (next_turn c.args.number lines c.args.list.now c.loop-turn._turn c.loop-turn.list c.loop-turn.taken.items c.loop-turn.invariant
    c.take_next.new.list c.take_next.new.taken (omega (arith, c.loop-turn-test.true, c.count_tokens-count.ensures))
    (turn_below c.args.number lines (length c.loop-turn.list) c.requires.lines) some same now left)

pub returns-clause-all : goal.returns-clause-all
returns-clause-all c =
    (all_turns c.args.number c.args.lines.now c.args.list.now c.loop-turn._turn c.loop-turn.list c.loop-turn.taken.items c.loop-turn.invariant
    (omega (arith, c.loop-turn-test.false, c.count_tokens-count.ensures))).0

pub returns-clause-list : goal.returns-clause-list
returns-clause-list c = λ yes.
    (all_turns c.args.number c.args.lines.now c.args.list.now c.loop-turn._turn c.loop-turn.list c.loop-turn.taken.items c.loop-turn.invariant
    (omega (arith, c.loop-turn-test.false, c.count_tokens-count.ensures))).1
