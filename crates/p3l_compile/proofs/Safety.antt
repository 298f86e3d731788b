-- Compiled code keeps the rules.
use Rattle.std.proofs.Common.{◌≡◌, ℕ, zero, suc, ◌+◌, ◌<◌, ◌≤◌, ⊎_elim, List, [], ◌∷◌, ◌++◌, length, Some, refl, sym, ap, ◌∙◌, subst, arith, append_assoc, length-append}
use Rattle.std.specs.Prelude.{slice_get}
use Rattle.std.proofs.Math.Seq.{get_or-append_seam}
use Rattle.std.proofs.lemmas.Option.{same_Some, slice_get_within, slice_get-get_or}
use Rattle.p3l_ast.specs.Tree.{Statements}
use Rattle.p3l_code.specs.declared.instr.Instr.{Instr}
use Rattle.p3l_code.specs.declared.instr.Instr.TheVariants.{End}
use Rattle.p3l_code.specs.declared.instr.Code.{Code}
use Rattle.p3l_code.specs.Safe.{IsFine, IsReached, AreDepths, IsSafe}
use Rattle.p3l_compile.specs.Scope.{Names, IsLaid}
use Rattle.p3l_compile.specs.Statement.{statement_size, statement_code, FitsCode}
use Rattle.p3l_compile.specs.Limits.{KeepsLimits, code_items}
use Rattle.p3l_compile.proofs.Bounds.{statement_bound}
use Rattle.p3l_compile.proofs.Steps.{HasAt, has_front}
use Rattle.p3l_compile.proofs.Correct.{has_all}
use Rattle.p3l_compile.proofs.Statements.{statement_length}
use Rattle.p3l_compile.proofs.Depths.{DepthsAt, FineAt, depths_front, depths_back, fine_join, IsOne}
use Rattle.p3l_compile.proofs.StatementDepths.{statement_depths, statement_depths_length, statement_first, statement_fine}
use Rattle.p3l_compile.proofs.Rooted.{statement_rooted}

depths_all : (table ds pre : List ℕ) → table ≡ pre ++ ds → DepthsAt table (length pre) ds
depths_all table [] pre e = tt
depths_all table (d ∷ ds) pre e =
    let within : length pre < length (pre ++ d ∷ ds) = omega (arith, length-append pre (d ∷ ds)) in
    let here = ap (λ l. slice_get l (length pre)) e ∙ slice_get-get_or (pre ++ d ∷ ds) (length pre) d within ∙ ap Some (get_or-append_seam pre d ds d) in
    let n : length (pre ++ d ∷ []) ≡ length pre + 1 = omega (arith, length-append pre (d ∷ [])) in
    let rest = depths_all table ds (pre ++ d ∷ []) (e ∙ sym (append_assoc pre (d ∷ []) ds)) in
    (here, subst (λ m. DepthsAt table m ds) n rest)

fine_each : (code : Code) (table : List ℕ) (is : List Instr) (pc k d : ℕ) (i : Instr) → FineAt code table pc is → slice_get is k ≡ Some i → slice_get table (pc + k) ≡ Some d → IsFine code table (pc + k) i d
fine_each code table [] pc k d i fine at deep = absurd cc
fine_each code table (j ∷ is) pc zero d i fine at deep =
    let e : j ≡ i = same_Some j i at in
    let q : pc + 0 ≡ pc = omega arith in
    subst (λ x. IsFine code table (pc + 0) x d) e (subst (λ p. IsFine code table p j d) (sym q) (fine.0 d (subst (λ p. slice_get table p ≡ Some d) q deep)))
fine_each code table (j ∷ is) pc (suc k) d i fine at deep =
    let q : pc + suc k ≡ pc + 1 + k = omega arith in
    subst (λ p. IsFine code table p i d) (sym q) (fine_each code table is (pc + 1) k d i fine.1 at (subst (λ p. slice_get table p ≡ Some d) q deep))

end_fine : (code : Code) (table : List ℕ) (pc : ℕ) → slice_get table pc ≡ Some 0 → IsOne code table pc End
end_fine code table pc at d h =
    let q : 0 ≡ d = same_Some 0 d (sym at ∙ h) in
    subst (IsFine code table pc End) q (record { within = tt; leads = tt; pops_enough = omega arith; shallow = omega arith; next = tt; jumps = tt; ends = refl })

module _ (code : Code) (names : Names) (body : Statements) (whole : code.instrs ≡ statement_code names 0 body ++ End ∷ []) (laid : IsLaid names code.memory) (fits : FitsCode names body) (limits : KeepsLimits body) where
  abbrev pub n : ℕ
  n = statement_size body

  abbrev pub table : List ℕ
  table = statement_depths body ++ 0 ∷ []

  long : length code.instrs ≡ n + 1
  long = ap length whole ∙ (let h = statement_length names 0 body in omega (arith, length-append (statement_code names 0 body) (End ∷ [])))

  table_long : length table ≡ n + 1
  table_long = let h = statement_depths_length body in omega (arith, length-append (statement_depths body) (0 ∷ []))

  has : DepthsAt table 0 (statement_depths body ++ 0 ∷ [])
  has = depths_all table table [] refl

  front : DepthsAt table 0 (statement_depths body)
  unfolding has
  front = depths_front table 0 (statement_depths body) (0 ∷ []) has

  last : slice_get table (0 + n) ≡ Some 0
  unfolding has
  last = (depths_back table 0 n (statement_depths body) (0 ∷ []) (statement_depths_length body) has).0

  at : HasAt code 0 (statement_code names 0 body)
  at = has_front code 0 (statement_code names 0 body) (End ∷ []) (has_all code (statement_code names 0 body ++ End ∷ []) [] whole)

  fine : FineAt code table 0 (statement_code names 0 body ++ End ∷ [])
  unfolding long front last at
  fine =
      fine_join code table 0 n (statement_code names 0 body) (End ∷ []) (statement_length names 0 body)
      (statement_fine code table names laid body 0 at fits limits (omega (arith, long)) front last)
      (end_fine code table (0 + n) last, tt)

  start : slice_get table 0 ≡ Some 0
  unfolding front last
  start = statement_first table body 0 front last

  unreached : (p d : ℕ) → slice_get table p ≡ Some d → ¬ IsReached code.instrs p → d ≡ 0
  unfolding table_long front last at start
  unreached zero d there free = sym (same_Some 0 d (sym start ∙ there))
  unreached (suc p) d there free =
      let w = slice_get_within table (suc p) d there in
      ⊎_elim (λ r. absurd (free r)) (λ z. sym (same_Some 0 d (sym z ∙ there)))
      (statement_rooted code table names body 0 at front last (suc p) (omega arith) (omega (arith, w, table_long)))

  pub compiled_depths : AreDepths code table
  unfolding long table_long fine start unreached
  compiled_depths = record {
    whole = table_long ∙ sym long;
    start = start;
    each = λ p d i there deep.
        let e : 0 + p ≡ p = omega arith in
        subst (λ q. IsFine code table q i d) e
        (fine_each code table (statement_code names 0 body ++ End ∷ []) 0 p d i fine (ap (λ l. slice_get l p) (sym whole) ∙ there) (subst (λ q. slice_get table q ≡ Some d) (sym e) deep));
    unreached = unreached;
  }

  pub compiled_safe : code_items body < 1048576 → code.ins + code.outs ≤ code.memory → code.memory ≤ 196608 → 1 ≤ code.budget → code.budget ≤ 100000000 → IsSafe code
  unfolding long
  compiled_safe few ports small some_budget small_budget =
      record {
        few = (let h = statement_bound body in omega (arith, long));
        ports = ports;
        small = small;
        budget_some = some_budget;
        budget_small = small_budget;
        depths = (table, compiled_depths);
      }
