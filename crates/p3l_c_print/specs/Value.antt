-- The value of an expression as a text of C, and the lines before its use.
use Rattle.std.specs.Prelude.{◌≡◌, ℕ, ℤ, pos, negsuc, ◌+◌, Bool, true, false, not, List, [], ◌∷◌, ◌++◌, codes, Option, Some, None, max, nat_le, if◌then◌else◌}
use Rattle.std.specs.Fmt.{decimal}
use Rattle.p3l_base.specs.declared.outcome.TrapKind.{TrapKind}
use Rattle.p3l_base.specs.declared.outcome.TrapKind.TheVariants.{DivZero, DivOver, Index, Shift}
use Rattle.p3l_ast.specs.declared.expression.UnOp.{UnOp}
use Rattle.p3l_ast.specs.declared.expression.UnOp.TheVariants.{Neg, Not, Flip}
use Rattle.p3l_ast.specs.declared.expression.BinOp.{BinOp}
use Rattle.p3l_ast.specs.declared.expression.BinOp.TheVariants.{Or, And, BitOr, BitXor, BitAnd, Eq, Ne, Lt, Le, Gt, Ge, Shl, Shr, Add, Sub, Mul, Div, Rem}
use Rattle.p3l_ast.specs.Meaning.Operator.{least}
use Rattle.p3l_ast.specs.Tree.{Phrase, Phrases, Statements}
use Rattle.p3l_c.specs.Syntax.{Signed, truth, Lines, done}
use Rattle.p3l_c.specs.Translate.{next, next_all, height, is_plain, spots, value, before, before_all, assign_lines, lines}
use Rattle.p3l_c_print.specs.declared.operator.Class.{Class}
use Rattle.p3l_c_print.specs.declared.operator.Class.TheVariants.{Short, Compared, Computed, Guarded}
use Rattle.p3l_c_print.specs.declared.value.Value.{Value}
use Rattle.p3l_c_print.specs.declared.value.Spots.{Spots}
use Rattle.p3l_c_print.specs.declared.value.Block.{Block}
use Rattle.p3l_c_print.specs.Name.{Names, literal_text, shapes_of}
use Rattle.p3l_c_print.specs.Line.{set_line, stop_line, begin_lines, deeper, choice_lines}
use Rattle.p3l_c.specs.Temps.{temps_of}
use Rattle.p3l_c_print.specs.Text.{signed_text, test_text, between, temp_text, spots_text, lines_text}

-- a test is kept as one, since a number that is used as a test needs no comparison then
abbrev pub is_truth : Signed → Bool
is_truth (truth c) = true
is_truth _ = false

abbrev pub kept_text : Names → Signed → List ℕ
kept_text names (truth c) = test_text names c
kept_text names e = signed_text names e

abbrev pub told : Names → Signed → ℕ → ℕ → Value
told names e after height = record { text = kept_text names e; is_test = is_truth e; after = after; height = height }

-- THE VALUE of an expression whose first temp is n: its text, the temp after its own, and how deep it
-- nests
unfoldable pub value_of : Names → ℕ → Phrase → Value
value_of names n e = told names (value n e) (next n e) (height e)

-- the lines before its use
unfoldable pub front_text : Names → List ℕ → ℕ → Phrase → List ℕ
front_text names margin n e = lines_text names margin (before (shapes_of names) n e done)

-- a call puts the lines before its use after a text, and gives its value
pub record PutsValue (names : Names) (margin : List ℕ) (n : ℕ) (e : Phrase) (old new : List ℕ) (it : Value) : Type 0 where
  pub lines : new ≡ old ++ front_text names margin n e
  pub value : it ≡ value_of names n e

-- the lines before the use of an element
unfoldable pub index_text : Names → List ℕ → ℕ → List ℕ → Phrases → List ℕ
index_text names margin n sizes is = lines_text names margin (before_all (shapes_of names) n sizes is done)

-- the lines of statements
unfoldable pub code_text : Names → List ℕ → ℕ → Statements → List ℕ
code_text names margin budget c = lines_text names margin (lines (shapes_of names) budget c done)

-- a call puts the lines of statements after a text, and counts their temps
pub record PutsCode (names : Names) (margin : List ℕ) (budget : ℕ) (c : Statements) (old new : List ℕ) (count : ℕ) : Type 0 where
  pub lines : new ≡ old ++ code_text names margin budget c
  pub temps : count ≡ temps_of c

-- the lines of an assignment
unfoldable pub assign_text : Names → List ℕ → List ℕ → Phrases → Phrase → List ℕ
assign_text names margin x is e = lines_text names margin (assign_lines (shapes_of names) x is e done)

-- the lines after the test of a loop: a turn, and its body
unfoldable pub round_text : Names → List ℕ → ℕ → Statements → List ℕ
round_text names margin budget c = begin_lines margin budget names.home ++ code_text names margin budget c

-- the temps of indices in brackets, and the temp after them
abbrev pub spots_of : ℕ → Phrases → Spots
spots_of n is = record { text = spots_text (spots n is); after = next_all n is }

-- the lines of statements, and the number of their temps
abbrev pub block_of : Names → List ℕ → ℕ → Statements → Block
block_of names margin budget c = record { text = code_text names margin budget c; temps = temps_of c }

-- a value as an int64_t, as a uint64_t, and as a test

unfoldable pub signed_of : Value → List ℕ
signed_of v = if v.is_test then codes "(int64_t)" ++ v.text else v.text

unfoldable pub unsigned_of : Value → List ℕ
unsigned_of v = codes "((uint64_t)" ++ (signed_of v ++ codes ")")

unfoldable pub test_of : Value → List ℕ
test_of v = if v.is_test then v.text else codes "(" ++ (v.text ++ codes " != INT64_C(0))")

abbrev pub number_value : List ℕ → ℕ → ℕ → Value
number_value text after height = record { text = text; is_test = false; after = after; height = height }

abbrev pub test_value : List ℕ → ℕ → ℕ → Value
test_value text after height = record { text = text; is_test = true; after = after; height = height }

-- an operand, which is kept in a temp if it nests 16 deep

abbrev pub kept : Value → Value
kept v = if nat_le 16 v.height then number_value (temp_text v.after) (v.after + 1) 0 else v

abbrev pub kept_line : List ℕ → Value → List ℕ
kept_line margin v = if nat_le 16 v.height then set_line margin (temp_text v.after) (signed_of v) else []

unfoldable pub operand_of : Names → ℕ → Phrase → Value
operand_of names n e = kept (value_of names n e)

unfoldable pub operand_text : Names → List ℕ → ℕ → Phrase → List ℕ
operand_text names margin n e = front_text names margin n e ++ kept_line margin (value_of names n e)

-- an operator before its operand
abbrev pub applied : UnOp → Value → Value
applied Neg a = number_value (codes "p3l_signed((UINT64_C(0)) - " ++ (unsigned_of a ++ codes ")")) a.after (a.height + 1)
applied Not a = test_value (codes "(!" ++ (test_of a ++ codes ")")) a.after (a.height + 1)
applied Flip a = number_value (codes "p3l_signed(~" ++ (unsigned_of a ++ codes ")")) a.after (a.height + 1)

-- the operators between operands, by how they are written

abbrev pub class_of : BinOp → Class
class_of Or = Short
class_of And = Short
class_of Eq = Compared
class_of Ne = Compared
class_of Lt = Compared
class_of Le = Compared
class_of Gt = Compared
class_of Ge = Compared
class_of Shl = Guarded
class_of Shr = Guarded
class_of Div = Guarded
class_of Rem = Guarded
class_of op = Computed

abbrev pub sign_text : BinOp → List ℕ
sign_text Or = codes " || "
sign_text And = codes " && "
sign_text BitOr = codes " | "
sign_text BitXor = codes " ^ "
sign_text BitAnd = codes " & "
sign_text Eq = codes " == "
sign_text Ne = codes " != "
sign_text Lt = codes " < "
sign_text Le = codes " <= "
sign_text Gt = codes " > "
sign_text Ge = codes " >= "
sign_text Shl = codes " << "
sign_text Shr = codes " >> "
sign_text Add = codes " + "
sign_text Sub = codes " - "
sign_text Mul = codes " * "
sign_text Div = codes " / "
sign_text Rem = codes " % "

-- the height over operands of these values
abbrev pub over : Value → Value → ℕ
over a b = max a.height b.height + 1

-- a comparison
abbrev pub compared : BinOp → Value → Value → Value
compared op a b = test_value (between (sign_text op) (signed_of a) (signed_of b)) b.after (over a b)

-- an operator of words that wrap
abbrev pub computed : BinOp → Value → Value → Value
computed op a b =
    number_value (codes "p3l_signed(" ++ (unsigned_of a ++ (sign_text op ++ (unsigned_of b ++ codes ")")))) b.after (over a b)

-- `||` and `&&` before whose right operand no lines stand
abbrev pub joined : BinOp → Value → Value → Value
joined op a b = test_value (between (sign_text op) (test_of a) (test_of b)) b.after (over a b)

-- an operator that may trap, of the temps m and m + 1
abbrev pub guarded_text : BinOp → ℕ → List ℕ
guarded_text Shl m = codes "p3l_signed(((uint64_t)t" ++ (decimal m ++ (codes ") << t" ++ (decimal (m + 1) ++ codes ")")))
guarded_text Shr m = codes "p3l_shr(t" ++ (decimal m ++ (codes ", t" ++ (decimal (m + 1) ++ codes ")")))
guarded_text op m = codes "(t" ++ (decimal m ++ (sign_text op ++ (codes "t" ++ (decimal (m + 1) ++ codes ")"))))

abbrev pub guarded : BinOp → Value → Value
guarded op b = number_value (guarded_text op b.after) (b.after + 2) 1

-- the lines before its use: both operands in temps, and the tests
abbrev pub divisor_tests : Names → List ℕ → List ℕ → List ℕ → List ℕ
divisor_tests names margin first second =
    stop_line margin (between (codes " == ") second (literal_text (pos 0))) DivZero names.home
    ++ stop_line margin (between (codes " && ") (between (codes " == ") first (literal_text least)) (between (codes " == ") second (literal_text (negsuc 0)))) DivOver names.home

abbrev pub places_test : Names → List ℕ → List ℕ → List ℕ
places_test names margin places =
    stop_line margin (between (codes " || ") (between (codes " < ") places (literal_text (pos 0))) (between (codes " < ") (literal_text (pos 63)) places)) Shift names.home

abbrev pub tests_text : BinOp → Names → List ℕ → ℕ → List ℕ
tests_text Shl names margin m = places_test names margin (temp_text (m + 1))
tests_text Shr names margin m = places_test names margin (temp_text (m + 1))
tests_text op names margin m = divisor_tests names margin (temp_text m) (temp_text (m + 1))

abbrev pub guards_text : BinOp → Names → List ℕ → Value → Value → List ℕ
guards_text op names margin a b =
    set_line margin (temp_text b.after) (signed_of a) ++ (set_line margin (temp_text (b.after + 1)) (signed_of b) ++ tests_text op names margin b.after)

-- the test of an index in the temp m
abbrev pub bound_line : Names → List ℕ → ℕ → ℕ → List ℕ
bound_line names margin m size =
    stop_line margin (between (codes " || ") (between (codes " < ") (temp_text m) (literal_text (pos 0))) (between (codes " <= ") (literal_text (pos size)) (temp_text m))) Index names.home

-- an operator over operands of these values, but `||` and `&&` before whose right operand lines stand

abbrev pub class_value : Class → BinOp → Value → Value → Value
class_value Short op a b = joined op a b
class_value Compared op a b = compared op a b
class_value Computed op a b = computed op a b
class_value Guarded op a b = guarded op b

abbrev pub combined : BinOp → Value → Value → Value
combined op a b = class_value (class_of op) op a b

abbrev pub class_lines : Class → BinOp → Names → List ℕ → Value → Value → List ℕ
class_lines Guarded op names margin a b = guards_text op names margin a b
class_lines class op names margin a b = []

abbrev pub combined_lines : BinOp → Names → List ℕ → Value → Value → List ℕ
combined_lines op names margin a b = class_lines (class_of op) op names margin a b

-- `||` and `&&` before whose right operand lines stand: the temp n has the truth of the left operand,
-- and then that of the right one, if the left one does not decide

abbrev pub truth_line : List ℕ → ℕ → Value → List ℕ
truth_line margin n v = set_line margin (temp_text n) (codes "(int64_t)" ++ test_of v)

abbrev pub undecided_lines : BinOp → List ℕ → ℕ → List ℕ → List ℕ
undecided_lines Or margin n inner = choice_lines margin (between (codes " != ") (temp_text n) (literal_text (pos 0))) [] inner
undecided_lines op margin n inner = choice_lines margin (between (codes " != ") (temp_text n) (literal_text (pos 0))) inner []

-- true exactly if an operator has a temp of its own, given whether its right operand is one before whose use
-- no lines stand
abbrev pub own_temp : BinOp → Bool → Bool
own_temp Or joined = not joined
own_temp And joined = not joined
own_temp op joined = false

abbrev pub decided : ℕ → Value → Value → Value
decided n a b = number_value (temp_text n) b.after (over a b)

-- the lines that give the temp n the truth of an operand whose first temp is m
unfoldable pub truth_text : Names → List ℕ → ℕ → ℕ → Phrase → List ℕ
truth_text names margin n m e = operand_text names margin m e ++ truth_line margin n (operand_of names m e)
