-- Results of operators, on 64-bit whole numbers in two's complement.
use Rattle.std.specs.Prelude.{ℕ, ℤ, pos, negsuc, ◌+ℤ◌, ◌-ℤ◌, ◌*ℤ◌, neg_ℤ, Bool, not, ◌&&◌, ◌||◌, Result, Ok, Err, nat_lt, int_lt, int_le, int_div, int_rem, if◌then◌else◌}
use Rattle.std.specs.Ordering.{int_eq}
use Rattle.std.specs.Int.{w64, int_wrap, int_bit_and, int_bit_or, int_bit_xor, int_bit_not, int_shl, int_shr}
use Rattle.p3l_base.specs.declared.outcome.TrapKind.{TrapKind}
use Rattle.p3l_base.specs.declared.outcome.TrapKind.TheVariants.{DivZero, DivOver, Shift}
use Rattle.p3l_ast.specs.declared.expression.UnOp.{UnOp}
use Rattle.p3l_ast.specs.declared.expression.UnOp.TheVariants.{Neg, Not, Flip}
use Rattle.p3l_ast.specs.declared.expression.BinOp.{BinOp}
use Rattle.p3l_ast.specs.declared.expression.BinOp.TheVariants.{Or, And, BitOr, BitXor, BitAnd, Eq, Ne, Lt, Le, Gt, Ge, Shl, Shr, Add, Sub, Mul, Div, Rem}

-- a truth as a number
abbrev pub truth : Bool → ℤ
truth b = if b then pos 1 else pos 0

-- a condition holds where it is not 0
abbrev pub holds : ℤ → Bool
holds x = not (int_eq x (pos 0))

abbrev pub unary_of : UnOp → ℤ → ℤ
unary_of Neg x = int_wrap w64 (neg_ℤ x)
unary_of Not x = truth (not (holds x))
unary_of Flip x = int_bit_not w64 x

-- by how many places a number shifts
abbrev pub shifted : ℤ → (ℕ → ℤ) → Result ℤ TrapKind
shifted (pos k) by = if nat_lt k 64 then Ok (by k) else Err Shift
shifted (negsuc k) by = Err Shift

-- the least number
abbrev pub least : ℤ
least = negsuc 9223372036854775807

-- a division by zero, and one whose quotient is too large, give no number
abbrev pub divided : ℤ → ℤ → ℤ → Result ℤ TrapKind
divided x y value =
    if int_eq y (pos 0) then Err DivZero else (if int_eq x least && int_eq y (negsuc 0) then Err DivOver else Ok value)

-- the result of an operator on its two operands, or the trap
abbrev pub binary_of : BinOp → ℤ → ℤ → Result ℤ TrapKind
binary_of Or x y = Ok (truth (holds x || holds y))
binary_of And x y = Ok (truth (holds x && holds y))
binary_of BitOr x y = Ok (int_bit_or w64 x y)
binary_of BitXor x y = Ok (int_bit_xor w64 x y)
binary_of BitAnd x y = Ok (int_bit_and w64 x y)
binary_of Eq x y = Ok (truth (int_eq x y))
binary_of Ne x y = Ok (truth (not (int_eq x y)))
binary_of Lt x y = Ok (truth (int_lt x y))
binary_of Le x y = Ok (truth (int_le x y))
binary_of Gt x y = Ok (truth (int_lt y x))
binary_of Ge x y = Ok (truth (int_le y x))
binary_of Shl x y = shifted y (int_shl w64 x)
binary_of Shr x y = shifted y (int_shr x)
binary_of Add x y = Ok (int_wrap w64 (x +ℤ y))
binary_of Sub x y = Ok (int_wrap w64 (x -ℤ y))
binary_of Mul x y = Ok (int_wrap w64 (x *ℤ y))
binary_of Div x y = divided x y (int_div x y)
binary_of Rem x y = divided x y (int_rem x y)
