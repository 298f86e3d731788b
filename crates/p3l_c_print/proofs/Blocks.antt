-- Choices and loops, by which of their parts are empty.
use Rattle.std.proofs.Common.{◌≡◌, ◌≢◌, ℕ, List, [], ◌∷◌, ◌++◌, length, refl, arith}
use Rattle.std.specs.Prelude.{codes}
use Rattle.p3l_c_print.specs.Line.{choice_lines, loop_lines}

pub choice_then : (margin test then other : List ℕ) → length other ≡ 0 → choice_lines margin test then other
    ≡ margin ++ (codes "if " ++ (test ++ (codes " {\n" ++ (then ++ (margin ++ codes "}\n")))))
unfolding choice_lines
choice_then margin test then [] h = refl
choice_then margin test then (x ∷ other) h = absurd (omega (arith, h))

pub choice_other : (margin test then other : List ℕ) → length other ≢ 0 → length then ≡ 0 → choice_lines margin test then other
    ≡ margin ++ (codes "if (!" ++ (test ++ (codes ") {\n" ++ (other ++ (margin ++ codes "}\n")))))
unfolding choice_lines
choice_other margin test then [] h k = absurd (h refl)
choice_other margin test [] (x ∷ other) h k = refl
choice_other margin test (y ∷ then) (x ∷ other) h k = absurd (omega (arith, k))

pub choice_both : (margin test then other : List ℕ) → length other ≢ 0 → length then ≢ 0 → choice_lines margin test then other
    ≡ margin ++ (codes "if " ++ (test ++ (codes " {\n" ++ (then ++ (margin ++ (codes "} else {\n" ++ (other ++ (margin ++ codes "}\n"))))))))
unfolding choice_lines
choice_both margin test then [] h k = absurd (h refl)
choice_both margin test [] (x ∷ other) h k = absurd (k refl)
choice_both margin test (y ∷ then) (x ∷ other) h k = refl

pub loop_while : (margin before test after : List ℕ) → length before ≡ 0 → loop_lines margin before test after
    ≡ margin ++ (codes "while " ++ (test ++ (codes " {\n" ++ (after ++ (margin ++ codes "}\n")))))
unfolding loop_lines
loop_while margin [] test after h = refl
loop_while margin (x ∷ before) test after h = absurd (omega (arith, h))

pub loop_forever : (margin before test after : List ℕ) → length before ≢ 0 → loop_lines margin before test after
    ≡ margin ++ (codes "for (;;) {\n" ++ (before ++ (margin ++ (codes "    if (!" ++ (test ++ (codes ") break;\n" ++ (after ++ (margin ++ codes "}\n"))))))))
unfolding loop_lines
loop_forever margin [] test after h = absurd (h refl)
loop_forever margin (x ∷ before) test after h = refl

pub ruleset blocks = (choice_then, choice_other, choice_both, loop_while, loop_forever)
