-- The lines of statements of C, each after a margin.
use Rattle.std.specs.Prelude.{ℕ, ◌+◌, ◌*◌, List, [], ◌∷◌, ◌++◌, codes}
use Rattle.std.specs.Fmt.{decimal}
use Rattle.p3l_base.specs.declared.outcome.TrapKind.{TrapKind}
use Rattle.p3l_base.specs.declared.outcome.TrapKind.TheVariants.{DivZero, DivOver, Index, Shift, Budget, Turns}

-- the margin of the lines in a block
abbrev pub deeper : List ℕ → List ℕ
deeper margin = codes "    " ++ margin

-- an assignment
unfoldable pub set_line : List ℕ → List ℕ → List ℕ → List ℕ
set_line margin place value = margin ++ (place ++ (codes " = " ++ (value ++ codes ";\n")))

-- the number of a trap among those of its module
unfoldable pub trap_number : TrapKind → ℕ
trap_number DivZero = 1
trap_number DivOver = 2
trap_number Index = 3
trap_number Shift = 4
trap_number Budget = 5
trap_number Turns = 6

unfoldable pub trap_reason : TrapKind → List ℕ
trap_reason DivZero = codes "division by zero"
trap_reason DivOver = codes "division overflow"
trap_reason Index = codes "index out of range"
trap_reason Shift = codes "shift out of range"
trap_reason Budget = codes "budget exceeded"
trap_reason Turns = codes "turns exceeded"

-- the code that a function returns for a trap of a module; it is not 0
unfoldable pub trap_code : TrapKind → ℕ → ℕ
trap_code trap home = trap_number trap + 8 * home

-- a return with a trap
unfoldable pub stop_line : List ℕ → List ℕ → TrapKind → ℕ → List ℕ
stop_line margin test trap home =
    margin ++ (codes "if " ++ (test ++ (codes " return INT64_C(" ++ (decimal (trap_code trap home)
    ++ (codes "); /* " ++ (trap_reason trap ++ codes " */\n"))))))

-- one more turn
unfoldable pub turn_line : List ℕ → List ℕ
turn_line margin = margin ++ codes "turns = turns + 1;\n"

-- the test that no turn is left of a budget
unfoldable pub spent_text : ℕ → List ℕ
spent_text budget = codes "(turns >= UINT64_C(" ++ (decimal budget ++ codes "))")

-- the beginning of a turn
abbrev pub begin_lines : List ℕ → ℕ → ℕ → List ℕ
begin_lines margin budget home = stop_line margin (spent_text budget) Budget home ++ turn_line margin

-- a choice of blocks, of which an empty one is left out
unfoldable pub choice_lines : List ℕ → List ℕ → List ℕ → List ℕ → List ℕ
choice_lines margin test then [] =
    margin ++ (codes "if " ++ (test ++ (codes " {\n" ++ (then ++ (margin ++ codes "}\n")))))
choice_lines margin test [] (byte ∷ other) =
    margin ++ (codes "if (!" ++ (test ++ (codes ") {\n" ++ ((byte ∷ other) ++ (margin ++ codes "}\n")))))
choice_lines margin test (first ∷ then) (byte ∷ other) =
    margin ++ (codes "if " ++ (test ++ (codes " {\n" ++ ((first ∷ then) ++ (margin ++ (codes "} else {\n" ++ ((byte ∷ other) ++ (margin ++ codes "}\n"))))))))

-- a loop of lines, a test that ends it, and more lines
unfoldable pub loop_lines : List ℕ → List ℕ → List ℕ → List ℕ → List ℕ
loop_lines margin [] test after =
    margin ++ (codes "while " ++ (test ++ (codes " {\n" ++ (after ++ (margin ++ codes "}\n")))))
loop_lines margin (first ∷ before) test after =
    margin ++ (codes "for (;;) {\n" ++ ((first ∷ before) ++ (margin ++ (codes "    if (!" ++ (test ++ (codes ") break;\n" ++ (after ++ (margin ++ codes "}\n"))))))))
