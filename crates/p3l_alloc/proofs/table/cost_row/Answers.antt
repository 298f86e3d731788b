use Rattle.std.proofs.Common.{◌≡◌, ◌+◌, ◌<◌, ◌++◌, ℕ, List, [], ◌∷◌, length, length-append, subst, sym, ap, ◌∙◌, arith}
use Rattle.std.specs.Prelude.{slice_index_or}
use Rattle.p3l_model.specs.NodeCost.{never}
use Rattle.p3l_alloc.specs.Soonest.{IsSoonest, over_part}
use Rattle.p3l_alloc.proofs.Rows.{entries_more, part_fewer}
use Rattle.p3l_alloc.proofs.table.cost_row.Goals as goal

pub loop-processes-preserved : goal.loop-processes-preserved
loop-processes-preserved c =
    let p = c.loop-processes.processes in
    let row = c.loop-processes.row.items in
    let cost = c.args.cost.now in
    let grown : c.push.new.self.items ≡ row ++ c.entry.result ∷ [] = c.in_ok-push.ensures.items in
    record {
      size = ap length grown ∙ omega (arith, length-append row (c.entry.result ∷ []), c.loop-processes.invariant.size);
      entries = λ a part.
          subst (λ (xs : List ℕ). (q : ℕ) → q < p + 1 → IsSoonest (over_part cost a) q (slice_index_or xs q never)) (sym grown)
          (entries_more (λ q v. IsSoonest (over_part cost a) q v) row p c.entry.result c.loop-processes.invariant.size (c.loop-processes.invariant.entries a part)
          (c.entry.ensures a (part_fewer cost a c.args.most p c.args.part.now (omega arith) part)));
    }

pub returns : goal.returns
returns c = λ a part p within.
    let row : c.from_vec.result ≡ c.loop-processes.row.items = c.from_vec.ensures in
    subst (λ (xs : List ℕ). IsSoonest (over_part c.args.cost.now a) p (slice_index_or xs p never)) (sym row) (c.loop-processes.invariant.entries a part p (omega arith))
