-- The texts of statements: on lines after a margin, which grows by two spaces in each block.
use Rattle.std.specs.Prelude.{ℕ, List, [], ◌++◌, codes}
use Rattle.p3l_ast.specs.declared.position.Spot.{Spot}
use Rattle.p3l_ast.specs.Tree.{Phrase, Phrases, Statements, done, assign, if_, if_else, while_, for_}
use Rattle.p3l_print.specs.Expression.{expression_text, target_text}

-- an assignment, without what ends it
unfoldable pub assignment_text : Spot → Phrases → Phrase → List ℕ
assignment_text spot index value = target_text spot index ++ codes " = " ++ expression_text value

-- the margin of the lines in a block
abbrev pub deeper : List ℕ → List ℕ
deeper margin = codes "  " ++ margin

-- a block in braces; the closing one has a line of its own
unfoldable pub block_text : List ℕ → List ℕ → List ℕ
block_text margin lines = codes "{\n" ++ lines ++ margin ++ codes "}"

-- the head of an `if` or a `while`
unfoldable pub opening_text : List ℕ → List ℕ → Phrase → List ℕ
opening_text margin word condition = margin ++ word ++ codes " (" ++ expression_text condition ++ codes ") "

-- the head of a `for`
unfoldable pub for_opening_text : List ℕ → List ℕ → Phrase → List ℕ → List ℕ
for_opening_text margin start condition step =
    margin ++ codes "for (" ++ start ++ codes "; " ++ expression_text condition ++ codes "; " ++ step ++ codes ") "

-- the lines of statements
unfoldable pub statements_text : List ℕ → Statements → List ℕ
statements_text margin done = []
statements_text margin (assign spot index value rest) =
    margin ++ assignment_text spot index value ++ codes ";\n" ++ statements_text margin rest
statements_text margin (if_ condition then rest) =
    opening_text margin (codes "if") condition ++ block_text margin (statements_text (deeper margin) then) ++ codes "\n" ++ statements_text margin rest
statements_text margin (if_else condition then otherwise rest) =
    opening_text margin (codes "if") condition ++ block_text margin (statements_text (deeper margin) then) ++ codes " else " ++ block_text margin (statements_text (deeper margin) otherwise)
    ++ codes "\n" ++ statements_text margin rest
statements_text margin (while_ condition body rest) =
    opening_text margin (codes "while") condition ++ block_text margin (statements_text (deeper margin) body) ++ codes "\n" ++ statements_text margin rest
statements_text margin (for_ first firsts start condition next nexts step body rest) =
    for_opening_text margin (assignment_text first firsts start) condition (assignment_text next nexts step)
    ++ block_text margin (statements_text (deeper margin) body) ++ codes "\n" ++ statements_text margin rest
