use Rattle.std.proofs.Common.{◌≡◌, ◌+◌, ◌<◌, ◌++◌, ℕ, List, [], ◌∷◌, length, length-append, subst, sym, ap, ◌∙◌, arith}
use Rattle.std.specs.Prelude.{slice_index_or}
use Rattle.p3l_model.specs.NodeCost.{never}
use Rattle.p3l_model.specs.Costed.{Both}
use Rattle.p3l_alloc.specs.Soonest.{IsSoonest}
use Rattle.p3l_alloc.proofs.Rows.{entries_more, row_fewer}
use Rattle.p3l_alloc.proofs.table.both_row.Goals as goal

pub loop-processes-preserved : goal.loop-processes-preserved
loop-processes-preserved c =
    let p = c.loop-processes.processes in
    let row = c.loop-processes.row.items in
    let grown : c.push.new.self.items ≡ row ++ c.both_entry.result ∷ [] = c.in_ok-push.ensures.items in
    record {
      size = ap length grown ∙ omega (arith, length-append row (c.both_entry.result ∷ []), c.loop-processes.invariant.size);
      entries = λ a b left right.
          subst (λ (xs : List ℕ). (q : ℕ) → q < p + 1 → IsSoonest (Both a b) q (slice_index_or xs q never)) (sym grown)
          (entries_more (λ q v. IsSoonest (Both a b) q v) row p c.both_entry.result c.loop-processes.invariant.size (c.loop-processes.invariant.entries a b left right)
          (c.both_entry.ensures a b (row_fewer a c.args.most p c.args.first.now (omega arith) left) (row_fewer b c.args.most p c.args.others.now (omega arith) right)));
    }

pub returns : goal.returns
returns c = λ a b left right p within.
    let row : c.from_vec.result ≡ c.loop-processes.row.items = c.from_vec.ensures in
    subst (λ (xs : List ℕ). IsSoonest (Both a b) p (slice_index_or xs p never)) (sym row) (c.loop-processes.invariant.entries a b left right p (omega arith))
