-- Instructions and codes are read as they are spelled.
use Rattle.std.proofs.Common.{◌≡◌, true, Some, refl}
use Rattle.std.specs.List.{slice_get}
use Rattle.std.proofs.lemmas.Bool.{eqb-true}
use Rattle.p3l_ast.specs.declared.expression.UnOp.{UnOp}
use Rattle.p3l_ast.specs.declared.expression.UnOp.TheVariants as un
use Rattle.p3l_ast.specs.declared.expression.BinOp.{BinOp}
use Rattle.p3l_ast.specs.declared.expression.BinOp.TheVariants as bin
use Rattle.p3l_code.specs.declared.instr.Instr.{Instr}
use Rattle.p3l_code.specs.declared.instr.Instr.TheVariants as instr
use Rattle.p3l_image.specs.declared.instr.InstrKind.{InstrKind}
use Rattle.p3l_image.specs.declared.instr.InstrKind.TheVariants as kind
use Rattle.p3l_format.specs.Format.{as_form, nothing}
use Rattle.p3l_format.specs.Lawful.{IsLawful}
use Rattle.p3l_format.specs.laws.Parts.{first_true}
use Rattle.p3l_format.specs.laws.Formats.{lawful_both, lawful_form, lawful_record, lawful_counted, lawful_nothing, lawful_tagged, same_place}
use Rattle.p3l_format.specs.laws.Numbers.{lawful_u32, lawful_i64, lawful_u32_in, lawful_one_of}
use Rattle.p3l_image.specs.Instr.{unaries, unary_number, unary_format, binaries, binary_number, binary_format, instr_kinds, instr_number, kind_of, is_kind, whole_of, number_of, numbers_of, unary_of, binary_of, operands, instr_format, instrs_format, code_format, codes_format}

unary_there : (v : UnOp) → slice_get unaries (unary_number v) ≡ Some v
unary_there un.Neg = refl
unary_there un.Not = refl
unary_there un.Flip = refl

binary_there : (v : BinOp) → slice_get binaries (binary_number v) ≡ Some v
binary_there bin.Or = refl
binary_there bin.And = refl
binary_there bin.BitOr = refl
binary_there bin.BitXor = refl
binary_there bin.BitAnd = refl
binary_there bin.Eq = refl
binary_there bin.Ne = refl
binary_there bin.Lt = refl
binary_there bin.Le = refl
binary_there bin.Gt = refl
binary_there bin.Ge = refl
binary_there bin.Shl = refl
binary_there bin.Shr = refl
binary_there bin.Add = refl
binary_there bin.Sub = refl
binary_there bin.Mul = refl
binary_there bin.Div = refl
binary_there bin.Rem = refl

pub kind_there : (v : InstrKind) → slice_get instr_kinds (instr_number v) ≡ Some v
kind_there kind.Push = refl
kind_there kind.Load = refl
kind_there kind.Store = refl
kind_there kind.Step = refl
kind_there kind.LoadAt = refl
kind_there kind.StoreAt = refl
kind_there kind.Unary = refl
kind_there kind.Binary = refl
kind_there kind.Jump = refl
kind_there kind.JumpZero = refl
kind_there kind.JumpNonZero = refl
kind_there kind.Turn = refl
kind_there kind.End = refl

pub lawful_unary : IsLawful unary_format
lawful_unary = lawful_one_of unaries unary_number refl unary_there

pub lawful_binary : IsLawful binary_format
lawful_binary = lawful_one_of binaries binary_number refl binary_there

-- an instruction of a kind has that kind
pub kind_is : (k : InstrKind) (v : Instr) → is_kind k v ≡ true → kind_of v ≡ k
kind_is k v e = same_place instr_kinds instr_number kind_there (kind_of v) k (eqb-true _ _ e)

pub of_push : (v : Instr) → is_kind kind.Push v ≡ true → instr.Push (whole_of v) ≡ v
of_push (instr.Push n) e = refl
of_push _ e = absurd cc

pub of_load : (v : Instr) → is_kind kind.Load v ≡ true → instr.Load (number_of v) ≡ v
of_load (instr.Load n) e = refl
of_load _ e = absurd cc

pub of_store : (v : Instr) → is_kind kind.Store v ≡ true → instr.Store (number_of v) ≡ v
of_store (instr.Store n) e = refl
of_store _ e = absurd cc

pub of_step : (v : Instr) → is_kind kind.Step v ≡ true → instr.Step (number_of v) ≡ v
of_step (instr.Step n) e = refl
of_step _ e = absurd cc

pub of_loadat : (v : Instr) → is_kind kind.LoadAt v ≡ true → instr.LoadAt (numbers_of v).0 (numbers_of v).1 ≡ v
of_loadat (instr.LoadAt n m) e = refl
of_loadat _ e = absurd cc

pub of_storeat : (v : Instr) → is_kind kind.StoreAt v ≡ true → instr.StoreAt (numbers_of v).0 (numbers_of v).1 ≡ v
of_storeat (instr.StoreAt n m) e = refl
of_storeat _ e = absurd cc

pub of_unary : (v : Instr) → is_kind kind.Unary v ≡ true → instr.Unary (unary_of v) ≡ v
of_unary (instr.Unary o) e = refl
of_unary _ e = absurd cc

pub of_binary : (v : Instr) → is_kind kind.Binary v ≡ true → instr.Binary (binary_of v) ≡ v
of_binary (instr.Binary o) e = refl
of_binary _ e = absurd cc

pub of_jump : (v : Instr) → is_kind kind.Jump v ≡ true → instr.Jump (number_of v) ≡ v
of_jump (instr.Jump n) e = refl
of_jump _ e = absurd cc

pub of_jumpzero : (v : Instr) → is_kind kind.JumpZero v ≡ true → instr.JumpZero (number_of v) ≡ v
of_jumpzero (instr.JumpZero n) e = refl
of_jumpzero _ e = absurd cc

pub of_jumpnonzero : (v : Instr) → is_kind kind.JumpNonZero v ≡ true → instr.JumpNonZero (number_of v) ≡ v
of_jumpnonzero (instr.JumpNonZero n) e = refl
of_jumpnonzero _ e = absurd cc

pub of_turn : (v : Instr) → is_kind kind.Turn v ≡ true → instr.Turn ≡ v
of_turn instr.Turn e = refl
of_turn _ e = absurd cc

pub of_end : (v : Instr) → is_kind kind.End v ≡ true → instr.End ≡ v
of_end instr.End e = refl
of_end _ e = absurd cc

pub lawful_operands : (k : InstrKind) → IsLawful (operands k)
unfolding operands
lawful_operands kind.Push = lawful_form _ _ _ _ (record { back = λ _ _. refl; fine = λ _ _. refl; there = of_push }) lawful_i64
lawful_operands kind.Load = lawful_form _ _ _ _ (record { back = λ _ _. refl; fine = λ _ _. refl; there = of_load }) lawful_u32
lawful_operands kind.Store = lawful_form _ _ _ _ (record { back = λ _ _. refl; fine = λ _ _. refl; there = of_store }) lawful_u32
lawful_operands kind.Step = lawful_form _ _ _ _ (record { back = λ _ _. refl; fine = λ _ _. refl; there = of_step }) lawful_u32
lawful_operands kind.LoadAt = lawful_form _ _ _ _ (record { back = λ _ _. refl; fine = λ _ _. refl; there = of_loadat }) (lawful_both _ _ lawful_u32 lawful_u32)
lawful_operands kind.StoreAt = lawful_form _ _ _ _ (record { back = λ _ _. refl; fine = λ _ _. refl; there = of_storeat }) (lawful_both _ _ lawful_u32 lawful_u32)
lawful_operands kind.Unary = lawful_form _ _ _ _ (record { back = λ _ _. refl; fine = λ _ _. refl; there = of_unary }) lawful_unary
lawful_operands kind.Binary = lawful_form _ _ _ _ (record { back = λ _ _. refl; fine = λ _ _. refl; there = of_binary }) lawful_binary
lawful_operands kind.Jump = lawful_form _ _ _ _ (record { back = λ _ _. refl; fine = λ _ _. refl; there = of_jump }) lawful_u32
lawful_operands kind.JumpZero = lawful_form _ _ _ _ (record { back = λ _ _. refl; fine = λ _ _. refl; there = of_jumpzero }) lawful_u32
lawful_operands kind.JumpNonZero = lawful_form _ _ _ _ (record { back = λ _ _. refl; fine = λ _ _. refl; there = of_jumpnonzero }) lawful_u32
lawful_operands kind.Turn = lawful_nothing _ _ refl of_turn
lawful_operands kind.End = lawful_nothing _ _ refl of_end

-- an instruction that fits the operands of a kind is of that kind
pub operands_has : (k : InstrKind) (v : Instr) → (operands k).fits v ≡ true → is_kind k v ≡ true
unfolding operands as_form nothing
operands_has kind.Push v e = first_true (is_kind kind.Push v) _ e
operands_has kind.Load v e = first_true (is_kind kind.Load v) _ e
operands_has kind.Store v e = first_true (is_kind kind.Store v) _ e
operands_has kind.Step v e = first_true (is_kind kind.Step v) _ e
operands_has kind.LoadAt v e = first_true (is_kind kind.LoadAt v) _ e
operands_has kind.StoreAt v e = first_true (is_kind kind.StoreAt v) _ e
operands_has kind.Unary v e = first_true (is_kind kind.Unary v) _ e
operands_has kind.Binary v e = first_true (is_kind kind.Binary v) _ e
operands_has kind.Jump v e = first_true (is_kind kind.Jump v) _ e
operands_has kind.JumpZero v e = first_true (is_kind kind.JumpZero v) _ e
operands_has kind.JumpNonZero v e = first_true (is_kind kind.JumpNonZero v) _ e
operands_has kind.Turn v e = e
operands_has kind.End v e = e

pub lawful_instr : IsLawful instr_format
unfolding instr_format
lawful_instr = lawful_tagged _ _ _ (lawful_one_of instr_kinds instr_number refl kind_there) lawful_operands (λ k v fits. kind_is k v (operands_has k v fits))

pub lawful_instrs : IsLawful instrs_format
lawful_instrs = lawful_counted _ _ (lawful_u32_in 0 4294967295) (λ _. lawful_instr)

pub lawful_code : IsLawful code_format
unfolding code_format
lawful_code = lawful_record _ _ _ (λ _. refl) (λ _. refl)
    (lawful_both _ _ lawful_u32 (lawful_both _ _ lawful_u32 (lawful_both _ _ lawful_u32 (lawful_both _ _ lawful_u32 lawful_instrs))))

pub lawful_codes : IsLawful codes_format
lawful_codes = lawful_counted _ _ (lawful_u32_in 0 4294967295) (λ _. lawful_code)
