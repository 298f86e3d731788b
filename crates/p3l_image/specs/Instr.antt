-- The format of instructions and of codes.
use Rattle.std.specs.Prelude.{ℕ, ℤ, pos, Bool, List, [], ◌∷◌, ◌==◌}
use Rattle.p3l_ast.specs.declared.expression.UnOp.{UnOp}
use Rattle.p3l_ast.specs.declared.expression.UnOp.TheVariants as un
use Rattle.p3l_ast.specs.declared.expression.BinOp.{BinOp}
use Rattle.p3l_ast.specs.declared.expression.BinOp.TheVariants as bin
use Rattle.p3l_code.specs.declared.instr.Instr.{Instr}
use Rattle.p3l_code.specs.declared.instr.Instr.TheVariants as instr
use Rattle.p3l_code.specs.declared.instr.Code.{Code}
use Rattle.p3l_image.specs.declared.instr.InstrKind.{InstrKind}
use Rattle.p3l_image.specs.declared.instr.InstrKind.TheVariants as kind
use Rattle.p3l_format.specs.Format.{Format, both, as_form, record_of, counted, nothing, tagged}
use Rattle.p3l_format.specs.Numbers.{u32_format, i64_format, u32_in, one_of}

abbrev pub unaries : List UnOp
unaries = un.Neg ∷ un.Not ∷ un.Flip ∷ []

abbrev pub unary_number : UnOp → ℕ
unary_number un.Neg = 0
unary_number un.Not = 1
unary_number un.Flip = 2

abbrev pub unary_format : Format ℕ UnOp
unary_format = one_of unaries unary_number

abbrev pub binaries : List BinOp
binaries = bin.Or ∷ bin.And ∷ bin.BitOr ∷ bin.BitXor ∷ bin.BitAnd ∷ bin.Eq ∷ bin.Ne ∷ bin.Lt ∷ bin.Le ∷ bin.Gt ∷ bin.Ge ∷ bin.Shl ∷ bin.Shr ∷ bin.Add ∷ bin.Sub ∷ bin.Mul ∷ bin.Div ∷ bin.Rem ∷ []

abbrev pub binary_number : BinOp → ℕ
binary_number bin.Or = 0
binary_number bin.And = 1
binary_number bin.BitOr = 2
binary_number bin.BitXor = 3
binary_number bin.BitAnd = 4
binary_number bin.Eq = 5
binary_number bin.Ne = 6
binary_number bin.Lt = 7
binary_number bin.Le = 8
binary_number bin.Gt = 9
binary_number bin.Ge = 10
binary_number bin.Shl = 11
binary_number bin.Shr = 12
binary_number bin.Add = 13
binary_number bin.Sub = 14
binary_number bin.Mul = 15
binary_number bin.Div = 16
binary_number bin.Rem = 17

abbrev pub binary_format : Format ℕ BinOp
binary_format = one_of binaries binary_number

abbrev pub instr_kinds : List InstrKind
instr_kinds = kind.Push ∷ kind.Load ∷ kind.Store ∷ kind.Step ∷ kind.LoadAt ∷ kind.StoreAt ∷ kind.Unary ∷ kind.Binary ∷ kind.Jump ∷ kind.JumpZero ∷ kind.JumpNonZero ∷ kind.Turn ∷ kind.End ∷ []

abbrev pub instr_number : InstrKind → ℕ
instr_number kind.Push = 0
instr_number kind.Load = 1
instr_number kind.Store = 2
instr_number kind.Step = 3
instr_number kind.LoadAt = 4
instr_number kind.StoreAt = 5
instr_number kind.Unary = 6
instr_number kind.Binary = 7
instr_number kind.Jump = 8
instr_number kind.JumpZero = 9
instr_number kind.JumpNonZero = 10
instr_number kind.Turn = 11
instr_number kind.End = 12

abbrev pub kind_of : Instr → InstrKind
kind_of (instr.Push n) = kind.Push
kind_of (instr.Load n) = kind.Load
kind_of (instr.Store n) = kind.Store
kind_of (instr.Step n) = kind.Step
kind_of (instr.LoadAt n m) = kind.LoadAt
kind_of (instr.StoreAt n m) = kind.StoreAt
kind_of (instr.Unary o) = kind.Unary
kind_of (instr.Binary o) = kind.Binary
kind_of (instr.Jump n) = kind.Jump
kind_of (instr.JumpZero n) = kind.JumpZero
kind_of (instr.JumpNonZero n) = kind.JumpNonZero
kind_of instr.Turn = kind.Turn
kind_of instr.End = kind.End

-- true exactly if an instruction is of a kind
abbrev pub is_kind : InstrKind → Instr → Bool
is_kind k i = instr_number (kind_of i) == instr_number k

-- the operands of an instruction, each kind of them with something where it has none
abbrev pub whole_of : Instr → ℤ
whole_of (instr.Push n) = n
whole_of _ = pos 0

abbrev pub number_of : Instr → ℕ
number_of (instr.Load n) = n
number_of (instr.Store n) = n
number_of (instr.Step n) = n
number_of (instr.Jump n) = n
number_of (instr.JumpZero n) = n
number_of (instr.JumpNonZero n) = n
number_of _ = 0

abbrev pub numbers_of : Instr → ℕ × ℕ
numbers_of (instr.LoadAt n m) = (n, m)
numbers_of (instr.StoreAt n m) = (n, m)
numbers_of _ = (0, 0)

abbrev pub unary_of : Instr → UnOp
unary_of (instr.Unary o) = o
unary_of _ = un.Neg

abbrev pub binary_of : Instr → BinOp
binary_of (instr.Binary o) = o
binary_of _ = bin.Or

unfoldable pub operands : InstrKind → Format ℕ Instr
operands kind.Push = as_form (is_kind kind.Push) (λ p. instr.Push p) whole_of i64_format
operands kind.Load = as_form (is_kind kind.Load) (λ p. instr.Load p) number_of u32_format
operands kind.Store = as_form (is_kind kind.Store) (λ p. instr.Store p) number_of u32_format
operands kind.Step = as_form (is_kind kind.Step) (λ p. instr.Step p) number_of u32_format
operands kind.LoadAt = as_form (is_kind kind.LoadAt) (λ p. instr.LoadAt p.0 p.1) numbers_of (both u32_format u32_format)
operands kind.StoreAt = as_form (is_kind kind.StoreAt) (λ p. instr.StoreAt p.0 p.1) numbers_of (both u32_format u32_format)
operands kind.Unary = as_form (is_kind kind.Unary) (λ p. instr.Unary p) unary_of unary_format
operands kind.Binary = as_form (is_kind kind.Binary) (λ p. instr.Binary p) binary_of binary_format
operands kind.Jump = as_form (is_kind kind.Jump) (λ p. instr.Jump p) number_of u32_format
operands kind.JumpZero = as_form (is_kind kind.JumpZero) (λ p. instr.JumpZero p) number_of u32_format
operands kind.JumpNonZero = as_form (is_kind kind.JumpNonZero) (λ p. instr.JumpNonZero p) number_of u32_format
operands kind.Turn = nothing (is_kind kind.Turn) instr.Turn
operands kind.End = nothing (is_kind kind.End) instr.End

unfoldable pub instr_format : Format ℕ Instr
instr_format = tagged (one_of instr_kinds instr_number) kind_of operands

abbrev pub instrs_format : Format ℕ (List Instr)
instrs_format = counted (u32_in 0 4294967295) (λ _. instr_format)

-- the numbers of a code, and its instructions
unfoldable pub code_format : Format ℕ Code
code_format = record_of
    (λ p. record { budget = p.0; ins = p.1.0; outs = p.1.1.0; memory = p.1.1.1.0; instrs = p.1.1.1.1 })
    (λ c. (c.budget, (c.ins, (c.outs, (c.memory, c.instrs)))))
    (both u32_format (both u32_format (both u32_format (both u32_format instrs_format))))

abbrev pub codes_format : Format ℕ (List Code)
codes_format = counted (u32_in 0 4294967295) (λ _. code_format)
