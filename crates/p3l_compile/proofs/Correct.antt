-- A compiled body does what it means.
use Rattle.std.proofs.Common.{◌≡◌, ◌+◌, ◌<◌, List, [], ◌∷◌, ◌++◌, length, Some, Ok, sym, ap, ◌∙◌, subst, arith, append_assoc, length-append}
use Rattle.std.specs.Prelude.{slice_get}
use Rattle.std.proofs.Math.Seq.{get_or-append_seam}
use Rattle.std.proofs.lemmas.Option.{slice_get-get_or}
use Rattle.p3l_code.specs.declared.instr.Instr.{Instr}
use Rattle.p3l_code.specs.declared.instr.Instr.TheVariants.{End}
use Rattle.p3l_code.specs.declared.instr.Code.{Code}
use Rattle.p3l_code.specs.Machine.{started}
use Rattle.p3l_compile.specs.Statement.{statement_size, statement_code}
use Rattle.p3l_compile.specs.Correct.{CompiledMeans}
use Rattle.p3l_compile.proofs.Steps.{HasAt, has_front, has_back, step}
use Rattle.p3l_compile.proofs.Statements.{statement_length, statements_run}

pub has_all : (code : Code) (is pre : List Instr) → code.instrs ≡ pre ++ is → HasAt code (length pre) is
has_all code [] pre e = tt
has_all code (i ∷ is) pre e =
    let within : length pre < length (pre ++ i ∷ is) = omega (arith, length-append pre (i ∷ is)) in
    let here = ap (λ l. slice_get l (length pre)) e ∙ slice_get-get_or (pre ++ i ∷ is) (length pre) i within ∙ ap Some (get_or-append_seam pre i is i) in
    let n : length (pre ++ i ∷ []) ≡ length pre + 1 = omega (arith, length-append pre (i ∷ [])) in
    let rest = has_all code is (pre ++ i ∷ []) (e ∙ sym (append_assoc pre (i ∷ []) is)) in
    (here, subst (λ m. HasAt code m is) n rest)

pub compiled_means : CompiledMeans
compiled_means scope body code outs_in unrolls laid fits e outs words whole =
    let n = statement_size body in
    let own = statement_code scope 0 body in
    let has = has_all code (own ++ End ∷ []) [] e in
    let last = (has_back code 0 n own (End ∷ []) (statement_length scope 0 body) has).0 in
    statements_run code unrolls scope code.memory laid body 0 (has_front code 0 own (End ∷ []) has) fits (started code words) 0 whole (λ s. Some (Ok (outs_in s)))
    (λ m t l le. step code unrolls (0 + n) [] m t End last ∙ ap (λ w. Some (Ok w)) (sym (outs m t l)))
