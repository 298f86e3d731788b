-- Safe codes are in their ranges.
use Rattle.std.proofs.Common.{◌≡◌, ◌^◌, ◌<◌, true, List, [], ◌∷◌, refl, arith}
use Rattle.std.specs.List.{All, list_all}
use Rattle.p3l_ast.specs.declared.expression.UnOp.{UnOp}
use Rattle.p3l_ast.specs.declared.expression.UnOp.TheVariants as un
use Rattle.p3l_ast.specs.declared.expression.BinOp.{BinOp}
use Rattle.p3l_ast.specs.declared.expression.BinOp.TheVariants as bin
use Rattle.p3l_code.specs.declared.instr.Instr.{Instr}
use Rattle.p3l_code.specs.declared.instr.Instr.TheVariants.{Push, Load, Store, Step, LoadAt, StoreAt, Unary, Binary, Jump, JumpZero, JumpNonZero, Turn, End}
use Rattle.p3l_code.specs.declared.instr.Code.{Code}
use Rattle.p3l_code.specs.Safe.{IsSafe}
use Rattle.p3l_format.specs.Format.{as_form, pair, coded, nothing, tagged}
use Rattle.p3l_format.specs.Numbers.{u8_format, u32_format, one_of}
use Rattle.p3l_format.specs.laws.Parts.{both_true}
use Rattle.p3l_image.specs.Instr.{unary_format, binary_format, operands, instr_format, instrs_format, code_format}
use Rattle.p3l_load.specs.Written.{HasAllOperands, HasOperands}
use Rattle.p3l_load.proofs.Ranges.{after_first, first_of, list_fits, u32_fits, whole_fits}

unary_fits : (op : UnOp) → unary_format.fits op ≡ true
unfolding one_of coded u8_format
unary_fits un.Neg = refl
unary_fits un.Not = refl
unary_fits un.Flip = refl

binary_fits : (op : BinOp) → binary_format.fits op ≡ true
unfolding one_of coded u8_format
binary_fits bin.Or = refl
binary_fits _ = refl

instr_fits : (i : Instr) → HasOperands i → instr_format.fits i ≡ true
unfolding instr_format operands tagged as_form pair nothing one_of coded u8_format
instr_fits (Push n) has = whole_fits n has
instr_fits (Load n) has = u32_fits n has
instr_fits (Store n) has = u32_fits n has
instr_fits (Step n) has = u32_fits n has
instr_fits (LoadAt n m) has = both_true (u32_format.fits n) (u32_format.fits m) (u32_fits n has.0) (u32_fits m has.1)
instr_fits (StoreAt n m) has = both_true (u32_format.fits n) (u32_format.fits m) (u32_fits n has.0) (u32_fits m has.1)
instr_fits (Unary op) has = unary_fits op
instr_fits (Binary op) has = binary_fits op
instr_fits (Jump n) has = u32_fits n has
instr_fits (JumpZero n) has = u32_fits n has
instr_fits (JumpNonZero n) has = u32_fits n has
instr_fits Turn has = refl
instr_fits End has = refl

instrs_fit : (is : List Instr) → All HasOperands is → list_all instr_format.fits is ≡ true
instrs_fit [] has = refl
instrs_fit (i ∷ is) has =
    both_true (instr_format.fits i) (list_all instr_format.fits is) (instr_fits i (first_of HasOperands i is has)) (instrs_fit is (after_first HasOperands i is has))

code_fits : (code : Code) → IsSafe code → HasAllOperands code → code_format.fits code ≡ true
unfolding code_format as_form pair
code_fits code safe has =
    let memory : code.memory < 2 ^ 32 = omega (arith, safe.small) in
    both_true (u32_format.fits code.budget) _ (u32_fits code.budget (omega (arith, safe.budget_small)))
    (both_true (u32_format.fits code.ins) _ (u32_fits code.ins (omega (arith, safe.ports, memory)))
    (both_true (u32_format.fits code.outs) _ (u32_fits code.outs (omega (arith, safe.ports, memory)))
    (both_true (u32_format.fits code.memory) (instrs_format.fits code.instrs) (u32_fits code.memory memory)
    (list_fits 0 instr_format code.instrs (omega arith) (omega (arith, safe.few)) (instrs_fit code.instrs has)))))

pub codes_fit : (codes : List Code) → All IsSafe codes → All HasAllOperands codes → list_all code_format.fits codes ≡ true
codes_fit [] safe has = refl
codes_fit (code ∷ codes) safe has =
    both_true (code_format.fits code) (list_all code_format.fits codes)
    (code_fits code (first_of IsSafe code codes safe) (first_of HasAllOperands code codes has))
    (codes_fit codes (after_first IsSafe code codes safe) (after_first HasAllOperands code codes has))
