-- Two programs that are the same but for positions come to the same.
use Rattle.std.proofs.Common.{◌≡◌, Result, Ok, Err, refl, ap, sym, ◌∙◌}
use Rattle.p3l_ast.specs.declared.refusal.SourceRefusal.{SourceRefusal}
use Rattle.p3l_ast.specs.declared.refusal.SourceRefusal.TheVariants.{At, NoMemory}
use Rattle.p3l_ast.specs.Tree.{ProgramTree}
use Rattle.p3l_ast.specs.Unplaced.{program_unplaced}
use Rattle.p3l_check.specs.Resolving.{ResolvedTree, resolved}
use Rattle.p3l_position_laws.specs.Forgetting.{settled}
use Rattle.p3l_position_laws.specs.Checked.{resolved_unplaced}
use Rattle.p3l_position_laws.specs.Alike.{ComesTo}
use Rattle.p3l_position_laws.proofs.Programs.{resolved_settles}

pub positions_are_nothing : (program other : ProgramTree) → program_unplaced other ≡ program_unplaced program → ComesTo other (resolved program)
positions_are_nothing program other e = by (resolved program) (resolved other) refl (sym (resolved_settles other) ∙ ap resolved e ∙ resolved_settles program)
  where
    by : (r s : Result ResolvedTree SourceRefusal) → resolved other ≡ s → settled resolved_unplaced s ≡ settled resolved_unplaced r → ComesTo other r
    by (Ok r) (Ok s) is same =
        let one : resolved_unplaced s ≡ resolved_unplaced r = cc in
        record {
          whole = s;
          resolves = is;
          tree_is = ap (λ (w : ResolvedTree). w.tree) one;
          bodies_are = ap (λ (w : ResolvedTree). w.seqs) one;
        }
    by (Ok r) (Err refusal) is same = absurd cc
    by (Err (At fault pos)) (Ok s) is same = absurd cc
    by (Err NoMemory) (Ok s) is same = absurd cc
    by (Err (At fault pos)) (Err (At other_fault place)) is same = let one : other_fault ≡ fault = cc in record { place = place; breaks = is ∙ ap (λ f. Err (At f place)) one }
    by (Err (At fault pos)) (Err NoMemory) is same = absurd cc
    by (Err NoMemory) (Err (At fault place)) is same = absurd cc
    by (Err NoMemory) (Err NoMemory) is same = is
